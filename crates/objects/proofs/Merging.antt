-- Members that are put among others, and the tokens that are written for them in order.
use Rattle.std.proofs.Common.{◌≡◌, ◌≢◌, ℕ, zero, suc, ◌+◌, ◌<◌, List, [], ◌∷◌, ◌++◌, length, get_or, take, drop, Bool, true, false, ◌||◌, Option, Some, None, refl, sym, ap, ◌∙◌, subst, append_assoc, append-nil}
use Rattle.std.proofs.lemmas.List.{drop_more, take_more}
use Rattle.std.proofs.lemmas.Slice.Eq.{bytes_eq-Decides}
use Rattle.std.proofs.lemmas.Map.Text.{is_eq-slice_cmp}
use Rattle.std.specs.Ordering.{nat_cmp, is_eq, ordering_reverse}
use Rattle.std.specs.declared.cmp.Ordering.{Ordering}
use Rattle.std.specs.declared.cmp.Ordering.TheVariants.{Less, Equal, Greater}
use Rattle.std.specs.Cmp.Lexicographic.{slice_cmp, nat_list_cmp_total}
use Rattle.json.specs.Token.{Token, key}
use Rattle.json.specs.Tree.{json_tokens, members_tokens}
use Rattle.serde_json.specs.Data.{Data, Members, no_members, member, put}
use Rattle.serde_json.specs.Written.{outline, members_outline}
use Rattle.trees.specs.declared.tree.Tree.{Tree}
use Rattle.trees.specs.Tree.{data_of, members_of, ComesBefore}
use Rattle.objects.specs.Object.{is_held, has_held}
use Rattle.trees.specs.Building.{put_some}
use Rattle.trees.specs.Positions.{IsAbove}
use Rattle.trees.specs.Canonical.{IsCanonical, AreCanonicalMembers}
use Rattle.objects.specs.Merged.{puts, IsBelowAll, IsFront, entry_tokens, some_tokens, StopsAt, WritesFront, WritesStep}
use Rattle.trees.proofs.Joining.{join_members}
use Rattle.trees.proofs.EntryPositions.{before_put}

pub front_of : (k : List ℕ) (n : ℕ) (es : List (List ℕ × Tree)) → IsAbove k n es → IsFront k (take n es)
front_of k zero es h = tt
front_of k (suc n) [] h = absurd h
front_of k (suc n) (e ∷ es) h = (h.0, front_of k n es h.1)

-- a key above another is above what that one is above
above_trans : (j k l : List ℕ) → slice_cmp nat_cmp k j ≡ Less → slice_cmp nat_cmp k l ≡ Greater → slice_cmp nat_cmp j l ≡ Greater
above_trans j k l first second =
    let down : slice_cmp nat_cmp l k ≡ Less = nat_list_cmp_total.antisymm l k ∙ ap ordering_reverse second in
    nat_list_cmp_total.antisymm j l ∙ ap ordering_reverse (nat_list_cmp_total.trans l k j down first)

pub front_above : (j k : List ℕ) (es : List (List ℕ × Tree)) → slice_cmp nat_cmp k j ≡ Less → IsFront k es → IsFront j es
front_above j k [] first h = tt
front_above j k (e ∷ es) first h = (above_trans j k e.0 first h.0, front_above j k es first h.1)

pub members_of-split : (n : ℕ) (es : List (List ℕ × Tree)) → members_of es ≡ join_members (members_of (take n es)) (members_of (drop n es))
members_of-split zero es = refl
members_of-split (suc n) [] = refl
members_of-split (suc n) (e ∷ es) = ap (member e.0 (data_of e.1)) (members_of-split n es)

-- what is put goes past a front of lower keys
pub put_past : (k : List ℕ) (d : Data) (front : List (List ℕ × Tree)) (ms : Members) → IsFront k front → put k d (join_members (members_of front) ms) ≡ join_members (members_of front) (put k d ms)
put_past k d [] ms h = refl
put_past k d (e ∷ es) ms h = rw h.0 (ap (member e.0 (data_of e.1)) (put_past k d es ms h.1))

some_past : (k : List ℕ) (d : Option Data) (front : List (List ℕ × Tree)) (ms : Members) → IsFront k front → put_some k d (join_members (members_of front) ms) ≡ join_members (members_of front) (put_some k d ms)
some_past k None front ms h = refl
some_past k (Some d) front ms h = put_past k d front ms h

puts_past : (hs : List (List ℕ × Option Data)) (k : List ℕ) (front : List (List ℕ × Tree)) (ms : Members) → IsBelowAll k hs → IsFront k front → puts hs (join_members (members_of front) ms) ≡ join_members (members_of front) (puts hs ms)
puts_past [] k front ms below h = refl
puts_past (x ∷ hs) k front ms below h =
    ap (put_some x.0 x.1) (puts_past hs k front ms below.1 h) ∙ some_past x.0 x.1 front (puts hs ms) (front_above x.0 k front below.0 h)

-- ---- the tokens of a front
entry_tokens-append : (xs ys : List (List ℕ × Tree)) → entry_tokens (xs ++ ys) ≡ entry_tokens xs ++ entry_tokens ys
entry_tokens-append [] ys = refl
entry_tokens-append (x ∷ xs) ys =
    ap (λ ts. key x.0 ∷ ts) (ap (λ ts. json_tokens (outline (data_of x.1)) ++ ts) (entry_tokens-append xs ys) ∙ sym (append_assoc (json_tokens (outline (data_of x.1))) (entry_tokens xs) (entry_tokens ys)))

one_entry : (e : List ℕ × Tree) → entry_tokens (e ∷ []) ≡ key e.0 ∷ json_tokens (outline (data_of e.1))
one_entry e = ap (λ ts. key e.0 ∷ ts) (append-nil (json_tokens (outline (data_of e.1))))

pub tokens_more : (old now keyed new : List Token) (es : List (List ℕ × Tree)) (i : ℕ) (e : List ℕ × Tree) (name : List ℕ) → i < length es → e ≡ get_or es i e → name ≡ e.0
    → now ≡ old ++ entry_tokens (take i es) → keyed ≡ now ++ key name ∷ [] → new ≡ keyed ++ json_tokens (outline (data_of e.1)) → new ≡ old ++ entry_tokens (take (i + 1) es)
tokens_more old now keyed new es i e name inside is named first second third =
    let last : entry_tokens (take (i + 1) es) ≡ entry_tokens (take i es) ++ key e.0 ∷ json_tokens (outline (data_of e.1)) =
    ap entry_tokens (take_more es i e inside ∙ ap (λ x. take i es ++ x ∷ []) (sym is)) ∙ entry_tokens-append (take i es) (e ∷ []) ∙ ap (λ ts. entry_tokens (take i es) ++ ts) (one_entry e) in
    third ∙ ap (λ ts. ts ++ json_tokens (outline (data_of e.1))) (second ∙ ap (λ ts. ts ++ key name ∷ []) first ∙ ap (λ n. (old ++ entry_tokens (take i es)) ++ key n ∷ []) named)
    ∙ append_assoc (old ++ entry_tokens (take i es)) (key e.0 ∷ []) (json_tokens (outline (data_of e.1)))
    ∙ append_assoc old (entry_tokens (take i es)) (key e.0 ∷ json_tokens (outline (data_of e.1)))
    ∙ ap (λ ts. old ++ ts) (sym last)

pub canonical_more : (es : List (List ℕ × Tree)) (i : ℕ) (e : List ℕ × Tree) (P : Type 0) → i < length es → e ≡ get_or es i e → IsCanonical (data_of e.1) → (AreCanonicalMembers (members_of (drop i es)) → P)
    → AreCanonicalMembers (members_of (drop (i + 1) es)) → P
canonical_more es i e P inside is own goes rest =
    goes (subst (λ xs. AreCanonicalMembers (members_of xs)) (sym (drop_more es i e inside ∙ ap (λ x. x ∷ drop (i + 1) es) (sym is))) (own, rest))

pub tokens_join : (front : List (List ℕ × Tree)) (ms : Members) → members_tokens (members_outline (join_members (members_of front) ms)) ≡ entry_tokens front ++ members_tokens (members_outline ms)
tokens_join [] ms = refl
tokens_join (e ∷ es) ms =
    ap (λ ts. key e.0 ∷ ts) (ap (λ ts. json_tokens (outline (data_of e.1)) ++ ts) (tokens_join es ms) ∙ sym (append_assoc (json_tokens (outline (data_of e.1))) (entry_tokens es) (members_tokens (members_outline ms))))

-- ---- a held member before what is left
put_before : (k : List ℕ) (d : Data) (ms : Members) → ComesBefore k ms → put k d ms ≡ member k d ms
put_before k d no_members h = refl
put_before k d (member l e ms) h = rw h refl

tokens_some : (k : List ℕ) (d : Option Data) (ms : Members) → ComesBefore k ms → members_tokens (members_outline (put_some k d ms)) ≡ some_tokens k d ++ members_tokens (members_outline ms)
tokens_some k None ms h = refl
tokens_some k (Some d) ms h = ap (λ x. members_tokens (members_outline x)) (put_before k d ms h)

before_some : (k j : List ℕ) (d : Option Data) (ms : Members) → slice_cmp nat_cmp k j ≡ Less → ComesBefore k ms → ComesBefore k (put_some j d ms)
before_some k j None ms first h = h
before_some k j (Some d) ms first h = before_put k j d ms first h

before_puts : (hs : List (List ℕ × Option Data)) (k : List ℕ) (ms : Members) → ComesBefore k ms → IsBelowAll k hs → ComesBefore k (puts hs ms)
before_puts [] k ms h below = h
before_puts (x ∷ hs) k ms h below = before_some k x.0 x.1 (puts hs ms) below.0 (before_puts hs k ms h below.1)

right_false : (a b : Bool) → (a || b) ≡ false → b ≡ false
right_false true b h = absurd cc
right_false false b h = h

left_false : (a b : Bool) → (a || b) ≡ false → a ≡ false
left_false true b h = absurd cc
left_false false b h = refl

pub none_left : (n : ℕ) (es : List (List ℕ × Tree)) → has_held (members_of es) ≡ false → has_held (members_of (drop n es)) ≡ false
none_left zero es h = h
none_left (suc n) [] h = refl
none_left (suc n) (e ∷ es) h = none_left n es (right_false (is_held e.0) _ h)

before_at : (o : Ordering) (k l : List ℕ) → slice_cmp nat_cmp k l ≡ o → o ≢ Greater → is_held k ≡ true → is_held l ≡ false → slice_cmp nat_cmp k l ≡ Less
before_at Less k l is stops held other = is
before_at Equal k l is stops held other =
    let same : k ≡ l = (bytes_eq-Decides k l).0 (sym (is_eq-slice_cmp k l) ∙ ap is_eq is) in
    let both : true ≡ false = sym held ∙ ap is_held same ∙ other in absurd cc
before_at Greater k l is stops held other = absurd (stops refl)

before_rest : (k : List ℕ) (rest : List (List ℕ × Tree)) → StopsAt k rest → is_held k ≡ true → has_held (members_of rest) ≡ false → ComesBefore k (members_of rest)
before_rest k [] stops held none = tt
before_rest k (e ∷ es) stops held none = before_at _ k e.0 refl stops held (left_false (is_held e.0) _ none)

regroup : (a b c d mid new : List Token) → mid ≡ a ++ b → new ≡ mid ++ c → a ++ (b ++ (c ++ d)) ≡ new ++ d
regroup a b c d mid new first second = rw (second, first, append_assoc (a ++ b) c d, append_assoc a b (c ++ d))

-- the front and the held member were written, whatever is put among the rest
pub writes_step : (k : List ℕ) (d : Option Data) (es rest : List (List ℕ × Tree)) (old mid new : List Token) → WritesFront k es rest old mid → new ≡ mid ++ some_tokens k d → is_held k ≡ true → has_held (members_of es) ≡ false
    → WritesStep k d es rest old new
writes_step k d es rest old mid new w last held none hs below =
    let front = take w.count es in
    let none_rest : has_held (members_of rest) ≡ false = subst (λ xs. has_held (members_of xs) ≡ false) (sym w.left) (none_left w.count es none) in
    let before = before_puts hs k (members_of rest) (before_rest k rest w.stops held none_rest) below in
    let is_front = front_of k w.count es w.above in
    let split : members_of es ≡ join_members (members_of front) (members_of rest) = members_of-split w.count es ∙ ap (λ xs. join_members (members_of front) (members_of xs)) (sym w.left) in
    let put_there : puts ((k, d) ∷ hs) (members_of es) ≡ join_members (members_of front) (put_some k d (puts hs (members_of rest))) =
    ap (λ ms. put_some k d (puts hs ms)) split ∙ ap (put_some k d) (puts_past hs k front (members_of rest) below is_front) ∙ some_past k d front (puts hs (members_of rest)) is_front in
    ap (λ ms. old ++ members_tokens (members_outline ms)) put_there
    ∙ ap (λ ts. old ++ ts) (tokens_join front (put_some k d (puts hs (members_of rest))) ∙ ap (λ ts. entry_tokens front ++ ts) (tokens_some k d (puts hs (members_of rest)) before))
    ∙ regroup old (entry_tokens front) (some_tokens k d) (members_tokens (members_outline (puts hs (members_of rest)))) mid new w.tokens last
