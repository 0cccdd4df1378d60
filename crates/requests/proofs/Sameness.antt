-- Replies that say the same are equal.
use Rattle.std.proofs.Common.{◌≡◌, ℕ, suc, true, false, ◌==◌, ◌&&◌, List, [], ◌∷◌, length, Option, Some, None, refl, ap, ◌∙◌}
use Rattle.std.specs.Ordering.{eq_by_cmp}
use Rattle.std.proofs.Math.Bool.{and-false}
use Rattle.std.proofs.lemmas.Bool.{and_parts}
use Rattle.std.proofs.lemmas.Bool.Decides.{Decides-eqb}
use Rattle.std.proofs.lemmas.Slice.Eq.{bytes_eq-Decides}
use Rattle.objects.proofs.Sameness.{same-equal}
use Rattle.objects.specs.declared.meta.Meta.{Meta}
use Rattle.objects.specs.declared.object.Object.{Object}
use Rattle.objects.specs.Key.{key_cmp}
use Rattle.objects.specs.KeyOrder.{exact_keys, equal_from}
use Rattle.objects.specs.Same.{same_data}
use Rattle.requests.specs.declared.reply.Reason.{Reason}
use Rattle.requests.specs.declared.reply.Reason.TheVariants.{NotFound, AlreadyExists, Conflict, Invalid, StoreFull, Expired, TooLarge}
use Rattle.requests.specs.declared.reply.Reply.{Reply}
use Rattle.requests.specs.declared.reply.Reply.TheVariants.{Created, Found, Listed, Updated, Unchanged, Marked, Removed, Compacted, Refused}
use Rattle.requests.specs.Same.{reason_index, same_meta, same_object, same_objects, same_reply, same_time}

-- of another length, they differ
pub objects-differ : (os ps : List Object) → (length os ≡ length ps → ⊥) → same_objects os ps ≡ false
objects-differ [] [] uneven = absurd (uneven refl)
objects-differ [] (p ∷ ps) uneven = refl
objects-differ (o ∷ os) [] uneven = refl
objects-differ (o ∷ os) (p ∷ ps) uneven =
    ap (λ b. same_object o p && b) (objects-differ os ps (λ e. uneven (ap suc e))) ∙ and-false (same_object o p)

time-equal : (s t : Option (List ℕ)) → same_time s t ≡ true → s ≡ t
time-equal None None same = refl
time-equal (Some s) (Some t) same = ap Some ((bytes_eq-Decides s t).0 same)
time-equal s t same = cc

meta-equal : (m n : Meta) → same_meta m n ≡ true → m ≡ n
meta-equal m n same =
    let last = and_parts (m.uid == n.uid && m.revision == n.revision && m.generation == n.generation) (same_time m.deletion n.deletion) same in
    let third = and_parts (m.uid == n.uid && m.revision == n.revision) (m.generation == n.generation) last.0 in
    let second = and_parts (m.uid == n.uid) (m.revision == n.revision) third.0 in
    ap (λ x. record m { uid = x }) ((Decides-eqb m.uid n.uid).0 second.0)
    ∙ ap (λ x. record m { uid = n.uid; revision = x }) ((Decides-eqb m.revision n.revision).0 second.1)
    ∙ ap (λ x. record m { uid = n.uid; revision = n.revision; generation = x }) ((Decides-eqb m.generation n.generation).0 third.1)
    ∙ ap (λ x. record n { deletion = x }) (time-equal m.deletion n.deletion last.1)

object-equal : (o p : Object) → same_object o p ≡ true → o ≡ p
object-equal o p same =
    let last = and_parts (eq_by_cmp key_cmp o.key p.key && same_meta o.meta p.meta) (same_data o.body p.body) same in
    let first = and_parts (eq_by_cmp key_cmp o.key p.key) (same_meta o.meta p.meta) last.0 in
    let key : o.key ≡ p.key = exact_keys o.key p.key (equal_from (key_cmp o.key p.key) first.0) in
    ap (λ x. record o { key = x }) key ∙ ap (λ x. record o { key = p.key; meta = x }) (meta-equal o.meta p.meta first.1)
    ∙ ap (λ x. record p { body = x }) (same-equal o.body p.body last.1)

objects-equal : (os ps : List Object) → same_objects os ps ≡ true → os ≡ ps
objects-equal [] [] same = refl
objects-equal (o ∷ os) (p ∷ ps) same =
    let parts = and_parts (same_object o p) (same_objects os ps) same in
    ap (λ x. x ∷ os) (object-equal o p parts.0) ∙ ap (λ xs. p ∷ xs) (objects-equal os ps parts.1)
objects-equal os ps same = cc

reason-equal : (r s : Reason) → (reason_index r == reason_index s) ≡ true → r ≡ s
reason-equal NotFound NotFound same = refl
reason-equal AlreadyExists AlreadyExists same = refl
reason-equal Conflict Conflict same = refl
reason-equal Invalid Invalid same = refl
reason-equal StoreFull StoreFull same = refl
reason-equal Expired Expired same = refl
reason-equal TooLarge TooLarge same = refl
reason-equal r s same = cc

pub replies_equal : (r s : Reply) → same_reply r s ≡ true → r ≡ s
replies_equal (Created o) (Created p) same = ap Created (object-equal o p same)
replies_equal (Found o) (Found p) same = ap Found (object-equal o p same)
replies_equal (Listed os n) (Listed ps m) same =
    let parts = and_parts (same_objects os ps) (n == m) same in
    ap (λ x. Listed x n) (objects-equal os ps parts.0) ∙ ap (Listed ps) ((Decides-eqb n m).0 parts.1)
replies_equal (Updated o) (Updated p) same = ap Updated (object-equal o p same)
replies_equal (Unchanged o) (Unchanged p) same = ap Unchanged (object-equal o p same)
replies_equal (Marked o) (Marked p) same = ap Marked (object-equal o p same)
replies_equal (Removed o) (Removed p) same = ap Removed (object-equal o p same)
replies_equal (Compacted n) (Compacted m) same = ap Compacted ((Decides-eqb n m).0 same)
replies_equal (Refused r) (Refused s) same = ap Refused (reason-equal r s same)
replies_equal r s same = cc
