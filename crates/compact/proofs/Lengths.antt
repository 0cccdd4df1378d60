-- The lengths of the keys of a table.
use Rattle.std.proofs.Common.{◌≡◌, ℕ, ◌+◌, ◌-◌, ◌≤◌, List, [], ◌∷◌, ◌++◌, length, take, drop, slice_set, None, take-append-drop, refl, subst, sym, ap, ◌∙◌, length-append, arith}
use Rattle.std.specs.Prelude.{◌≢◌, min, max}
use Rattle.std.specs.List.{All}
use Rattle.std.specs.Ordering.{nat_cmp}
use Rattle.std.specs.Cmp.Lexicographic.{slice_cmp}
use Rattle.std.proofs.Math.Nat.{min-le_left, min-le_right, le-max_left, le-max_right, le_trans}
use Rattle.std.proofs.lemmas.List.{length-take}
use Rattle.std.proofs.lemmas.List.Elements.{All-append, All-cons, All-drop, All-head, All-tail, All-take, All-weaker}
use Rattle.json.specs.Print.{escape}
use Rattle.serde_json.specs.Data.{Members, no_members, member}
use Rattle.serde_json.specs.Find.{get_member}
use Rattle.compact.specs.declared.table.Entry.{Entry}
use Rattle.compact.specs.Notes.{AreEntries, HavePlainKeys, entries_of, entry_of}
use Rattle.compact.proofs.Lists.{inserted}
use Rattle.compact.proofs.Split.{differ_at}

-- ---- the bounds of a table's keys

abbrev pub IsWithin : ℕ → ℕ → Entry → Type 0
IsWithin least most e = (least ≤ e.key) × (e.key ≤ most)

wider : (least most least2 most2 : ℕ) → least2 ≤ least → most ≤ most2 → (e : Entry) → IsWithin least most e → IsWithin least2 most2 e
wider least most least2 most2 lower higher e h = (le_trans lower h.0, le_trans h.1 higher)

pub within_inserted : (held new : List Entry) (index count least most least2 most2 : ℕ) (entry : Entry) → count + 1 ≤ length held → index ≤ length (take count held)
    → new ≡ (take (index + 1) held ++ take (count - index) (drop index held)) ++ drop (index + 1 + (count - index)) held
    → least2 ≡ min least entry.key → most2 ≡ max most entry.key
    → All (IsWithin least most) (take count held) → All (IsWithin least2 most2) (take (count + 1) (slice_set new index entry))
within_inserted held new index count least most least2 most2 entry room below is lower higher within =
    let old = take count held in
    let front = take index old in
    let back = drop index old in
    let here : length front ≡ index = omega (arith, below, length-take index old) in
    let after = inserted held new front back index count entry room (sym (take-append-drop index old)) here is in
    let own = IsWithin least2 most2 in
    let all = All-weaker (IsWithin least most) own (wider least most least2 most2 (subst (λ n. n ≤ least) (sym lower) (min-le_left least entry.key)) (subst (λ n. most ≤ n) (sym higher) (le-max_left most entry.key))) old within in
    let one : own entry = (subst (λ n. n ≤ entry.key) (sym lower) (min-le_right least entry.key), subst (λ n. entry.key ≤ n) (sym higher) (le-max_right most entry.key)) in
    subst (All own) (sym after) (All-append own front (entry ∷ back) (All-take own index old all) (All-cons own entry back one (All-drop own index old all)))

-- ---- a name that is as long as no key

abbrev HasOther : ℕ → Entry → Type 0
HasOther size e = e.key ≢ size

none_in : (name : List ℕ) (ms : Members) → HavePlainKeys ms → All (HasOther (length name + 2)) (entries_of ms) → get_member name ms ≡ None
none_in name no_members plain other = refl
none_in name (member l d ms) plain other =
    let first = All-head (HasOther (length name + 2)) (entry_of l d) (entries_of ms) other in
    differ_at (slice_cmp nat_cmp name l) name l d ms refl (λ e. first (omega (arith, length-append (escape l) (34 ∷ []), ap length plain.0, ap length e)))
    ∙ none_in name ms plain.1 (All-tail (HasOther (length name + 2)) (entry_of l d) (entries_of ms) other)

pub none_as_long : (name : List ℕ) (ms : Members) (table : List Entry) → AreEntries table ms → All (HasOther (length name + 2)) table → get_member name ms ≡ None
none_as_long name ms table are other = none_in name ms are.1 (subst (All (HasOther (length name + 2))) (sym are.0) other)
