-- An object's tokens: its metadata with the held members, among its other members.
use Rattle.std.proofs.Common.{◌≡◌, ◌≢◌, ℕ, zero, suc, List, [], ◌∷◌, ◌++◌, length, take, drop, Some, None, Result, Ok, Err, codes, refl, sym, ap, ◌∙◌, subst, arith, append_assoc}
use Rattle.std.specs.Prelude.{OnOk}
use Rattle.std.proofs.lemmas.Slice.Eq.{bytes_eq-Decides}
use Rattle.std.proofs.lemmas.Map.Text.{is_eq-slice_cmp}
use Rattle.std.specs.Ordering.{nat_cmp, is_eq}
use Rattle.std.specs.declared.cmp.Ordering.{Ordering}
use Rattle.std.specs.declared.cmp.Ordering.TheVariants.{Less, Equal, Greater}
use Rattle.std.specs.Cmp.Lexicographic.{slice_cmp}
use Rattle.json.specs.Token.{Token, key, begin_object}
use Rattle.json.specs.Tree.{json_tokens, members_tokens}
use Rattle.serde_json.specs.Data.{Data, object, Members, member, put}
use Rattle.serde_json.specs.Find.{get_member}
use Rattle.serde_json.specs.Written.{outline, members_outline}
use Rattle.objects.specs.declared.kind.Kind.{Kind}
use Rattle.objects.specs.declared.object.Object.{Object}
use Rattle.trees.specs.declared.tree.Tree.{Tree}
use Rattle.trees.specs.declared.tree.Tree.TheVariants as tree
use Rattle.trees.specs.Tree.{data_of, members_of, AreAscending}
use Rattle.objects.specs.Object.{IsBody}
use Rattle.trees.specs.Positions.{IsAbove}
use Rattle.objects.specs.Text.{printed, full_metadata}
use Rattle.objects.specs.Merged.{entry_tokens, StopsAt, WritesFront}
use Rattle.trees.proofs.Joining.{join_members}
use Rattle.trees.proofs.PutOrder.{none_before}
use Rattle.objects.proofs.PrintedObjects.{printed_is}
use Rattle.objects.proofs.Merging.{put_past, tokens_join, front_of, members_of-split}

pub on_ok : {T E : Type 0} {P Q : Type 0} (r : Result T E) → (P → Q) → OnOk r P → OnOk r Q
on_ok (Ok x) f h = f h
on_ok (Err e) f h = tt

-- ---- the entry of the metadata among the others
get_past : (k : List ℕ) (n : ℕ) (es : List (List ℕ × Tree)) → IsAbove k n es → get_member k (members_of es) ≡ get_member k (members_of (drop n es))
get_past k zero es h = refl
get_past k (suc n) [] h = absurd h
get_past k (suc n) (e ∷ es) h = rw h.0 (get_past k n es h.1)

ascending_left : (n : ℕ) (es : List (List ℕ × Tree)) → AreAscending (members_of es) → AreAscending (members_of (drop n es))
ascending_left zero es h = h
ascending_left (suc n) [] h = tt
ascending_left (suc n) (e ∷ es) h = ascending_left n es h.1

-- the first entry that is left has the key and the value
pub record IsFirst (k : List ℕ) (d : Data) (rest : List (List ℕ × Tree)) : Type 0 where
  pub entry : List ℕ × Tree
  pub after : List (List ℕ × Tree)
  pub first : rest ≡ entry ∷ after
  pub value : data_of entry.1 ≡ d
  pub same : slice_cmp nat_cmp k entry.0 ≡ Equal

first_at : (o : Ordering) (k : List ℕ) (d : Data) (e : List ℕ × Tree) (es : List (List ℕ × Tree)) → slice_cmp nat_cmp k e.0 ≡ o → o ≢ Greater → AreAscending (members_of (e ∷ es))
    → get_member k (members_of (e ∷ es)) ≡ Some d → IsFirst k d (e ∷ es)
first_at Less k d e es is stops ascending found = let both : None ≡ Some d = sym (none_before k (members_of (e ∷ es)) is ascending) ∙ found in absurd cc
first_at Equal k d e es is stops ascending found =
    let here : get_member k (members_of (e ∷ es)) ≡ Some (data_of e.1) = rw is refl in
    let both : Some (data_of e.1) ≡ Some d = sym here ∙ found in
    record { entry = e; after = es; first = refl; value = cc; same = is }
first_at Greater k d e es is stops ascending found = absurd (stops refl)

first_of : (k : List ℕ) (d : Data) (rest : List (List ℕ × Tree)) → StopsAt k rest → AreAscending (members_of rest) → get_member k (members_of rest) ≡ Some d → IsFirst k d rest
first_of k d [] stops ascending found = absurd cc
first_of k d (e ∷ es) stops ascending found = first_at _ k d e es refl stops ascending found

pub front_first : (k : List ℕ) (d : Data) (es rest : List (List ℕ × Tree)) (old new : List Token) → WritesFront k es rest old new → AreAscending (members_of es) → get_member k (members_of es) ≡ Some d → IsFirst k d rest
front_first k d es rest old new w ascending found =
    first_of k d rest w.stops (subst (λ xs. AreAscending (members_of xs)) (sym w.left) (ascending_left w.count es ascending))
    (ap (λ xs. get_member k (members_of xs)) w.left ∙ sym (get_past k w.count es w.above) ∙ found)

pub not_empty : (k : List ℕ) (d : Data) (rest : List (List ℕ × Tree)) → IsFirst k d rest → length rest ≡ 0 → ⊥
not_empty k d rest f none = let some : length rest ≡ suc (length f.after) = ap length f.first in absurd (omega arith)

heads : (a b : List ℕ × Tree) (xs ys : List (List ℕ × Tree)) → a ∷ xs ≡ b ∷ ys → a ≡ b
heads a b xs ys h = cc

pub first_value : (k : List ℕ) (d : Data) (rest after : List (List ℕ × Tree)) (e : List ℕ × Tree) → IsFirst k d rest → rest ≡ e ∷ after → data_of e.1 ≡ d
first_value k d rest after e f is = ap (λ x. data_of x.1) (heads e f.entry after f.after (sym is ∙ f.first)) ∙ f.value

pub first_same : (k : List ℕ) (d : Data) (rest after : List (List ℕ × Tree)) (e : List ℕ × Tree) → IsFirst k d rest → rest ≡ e ∷ after → slice_cmp nat_cmp k e.0 ≡ Equal
first_same k d rest after e f is = ap (λ x. slice_cmp nat_cmp k x.0) (heads e f.entry after f.after (sym is ∙ f.first)) ∙ f.same

pub is_map : (t : Tree) (ms : Members) → data_of t ≡ object ms → t ≡ tree.Map ms
is_map tree.Null ms h = absurd cc
is_map (tree.Truth b) ms h = absurd cc
is_map (tree.Integer z) ms h = absurd cc
is_map (tree.Text s) ms h = absurd cc
is_map (tree.List ds) ms h = absurd cc
is_map (tree.Map ns) ms h = ap tree.Map cc

pub same_members : (t : Tree) (ms ns : Members) → t ≡ tree.Map ms → data_of t ≡ object ns → ms ≡ ns
same_members t ms ns is h = let both : object ms ≡ object ns = sym (ap data_of is) ∙ h in cc

grouped : (a b c d t1 t2 t3 t4 new : List Token) (k o : Token) → t1 ≡ a ++ b → t2 ≡ t1 ++ k ∷ [] → t3 ≡ t2 ++ o ∷ [] → t4 ≡ t3 ++ c → new ≡ t4 ++ d → new ≡ a ++ (b ++ k ∷ o ∷ (c ++ d))
grouped a b c d t1 t2 t3 t4 new k o p q r s t =
    t ∙ ap (λ x. x ++ d) (s ∙ ap (λ x. x ++ c) (r ∙ ap (λ x. x ++ o ∷ []) (q ∙ ap (λ x. x ++ k ∷ []) p)))
    ∙ rw (append_assoc (a ++ b) (k ∷ []) (o ∷ []), append_assoc (a ++ b) (k ∷ o ∷ []) c, append_assoc (a ++ b) (k ∷ o ∷ c) d, append_assoc a b (k ∷ o ∷ (c ++ d)))

-- a member whose value is an object was written in its place
pub members_written : (k : List ℕ) (w : Members) (es rest after : List (List ℕ × Tree)) (e : List ℕ × Tree) (old t1 t2 t3 t4 new : List Token) → WritesFront k es rest old t1 → rest ≡ e ∷ after → slice_cmp nat_cmp k e.0 ≡ Equal
    → t2 ≡ t1 ++ key k ∷ [] → t3 ≡ t2 ++ begin_object ∷ [] → t4 ≡ t3 ++ members_tokens (members_outline w) → new ≡ t4 ++ members_tokens (members_outline (members_of after))
    → new ≡ old ++ members_tokens (members_outline (put k (object w) (members_of es)))
members_written k w es rest after e old t1 t2 t3 t4 new front is equal q r s t =
    let named : k ≡ e.0 = (bytes_eq-Decides k e.0).0 (sym (is_eq-slice_cmp k e.0) ∙ ap is_eq equal) in
    let first = take front.count es in
    let here : put k (object w) (members_of (e ∷ after)) ≡ member k (object w) (members_of after) = rw equal (ap (λ n. member n (object w) (members_of after)) (sym named)) in
    let placed : put k (object w) (members_of es) ≡ join_members (members_of first) (member k (object w) (members_of after)) =
    ap (put k (object w)) (members_of-split front.count es ∙ ap (λ xs. join_members (members_of first) (members_of xs)) (sym front.left ∙ is))
    ∙ put_past k (object w) first (members_of (e ∷ after)) (front_of k front.count es front.above) ∙ ap (join_members (members_of first)) here in
    grouped old (entry_tokens first) (members_tokens (members_outline w)) (members_tokens (members_outline (members_of after))) t1 t2 t3 t4 new (key k) begin_object front.tokens q r s t
    ∙ ap (λ ts. old ++ ts) (sym (ap (λ ms. members_tokens (members_outline ms)) placed ∙ tokens_join first (member k (object w) (members_of after))))

-- the tokens of an object
pub object_written : (kind : Kind) (v o : Object) (b : IsBody kind v.body) (ms : Members) (old t1 new : List Token) → v ≡ o → ms ≡ b.members → t1 ≡ old ++ begin_object ∷ []
    → new ≡ t1 ++ members_tokens (members_outline (put (codes "metadata") (object (full_metadata o b.metadata)) ms)) → new ≡ old ++ json_tokens (outline (printed o))
object_written kind v o b ms old t1 new same members first last =
    let is : printed o ≡ object (put (codes "metadata") (object (full_metadata o b.metadata)) ms) =
    sym (ap printed same) ∙ printed_is kind v b ∙ ap (λ (x : Object). object (put (codes "metadata") (object (full_metadata x b.metadata)) b.members)) same
    ∙ ap (λ m. object (put (codes "metadata") (object (full_metadata o b.metadata)) m)) (sym members) in
    last ∙ ap (λ x. x ++ members_tokens (members_outline (put (codes "metadata") (object (full_metadata o b.metadata)) ms))) first
    ∙ append_assoc old (begin_object ∷ []) (members_tokens (members_outline (put (codes "metadata") (object (full_metadata o b.metadata)) ms)))
    ∙ ap (λ d. old ++ json_tokens (outline d)) (sym is)
