-- Lists by the elements of vectors.
use Rattle.std.proofs.Common.{◌<◌, ◌≡◌, ◌≤◌, ◌++◌, ◌∷◌, ◌∙◌, ℕ, List, [], Option, Some, None, ap, append_assoc, length, map, refl, sym}
use Rattle.std.specs.Global.{Vec}
use Rattle.std.specs.List.{slice_get}
use Rattle.std.specs.Prelude.{get_or, option_map, slice_set}
use Rattle.std.proofs.lemmas.Option.{slice_get-get_or, slice_get-map, slice_get_past}
use Rattle.explorer.proofs.Lists.{map_append, map_set}
use Rattle.explorer.specs.declared.race.Move.{Move}
use Rattle.explorer.specs.declared.race.Move.TheVariants.{Ask, Crash, Late}
use Rattle.participants.specs.declared.told.Told.{Told}
use Rattle.race_lines.specs.declared.race.Sent.{Sent}
use Rattle.race_lines.specs.Questions.{rest, told_lists}
use Rattle.outcome_lines.specs.Lined.{asked_lines, behind, line_in, line_of, lines_asked, lists_of, passed, passed_in, told_first, told_in, told_to}

pub line_at : (left : List (Vec ℕ)) (n : ℕ) (o : Option (Vec ℕ)) → slice_get left n ≡ o → line_of (lists_of left) n ≡ line_in (option_map (λ (v : Vec ℕ). v.items) o)
line_at left n o is = ap line_in (slice_get-map (λ (v : Vec ℕ). v.items) left n ∙ ap (option_map (λ (v : Vec ℕ). v.items)) is)

pub told_there : (told : List (Vec Told)) (one : Sent) (o : Option (Vec Told)) → slice_get told one.participant ≡ o
    → told_to (told_lists told) one ≡ told_in (option_map (λ (v : Vec Told). v.items) o) one.index
told_there told one o is = ap (λ x. told_in x one.index) (slice_get-map (λ (v : Vec Told). v.items) told one.participant ∙ ap (option_map (λ (v : Vec Told). v.items)) is)

pub held_at : (left : List (Vec ℕ)) (n : ℕ) (own : Vec ℕ) → n < length left → own ≡ get_or left n own → slice_get left n ≡ Some own
held_at left n own inside there = slice_get-get_or left n own inside ∙ sym (ap Some there)

-- the lines of the one who asks are passed
pub passed_one : (left : List (Vec ℕ)) (n : ℕ) (own after : Vec ℕ) → slice_get left n ≡ Some own → after.items ≡ behind own.items
    → lists_of (slice_set left n after) ≡ passed (lists_of left) (Ask n)
passed_one left n own after is passes =
    map_set (λ (v : Vec ℕ). v.items) left n after ∙ ap (slice_set (lists_of left) n) passes
    ∙ ap (passed_in (lists_of left) n) (sym (slice_get-map (λ (v : Vec ℕ). v.items) left n ∙ ap (option_map (λ (v : Vec ℕ). v.items)) is))

pub passed_none : (left : List (Vec ℕ)) (n : ℕ) → length left ≤ n → lists_of left ≡ passed (lists_of left) (Ask n)
passed_none left n past =
    ap (passed_in (lists_of left) n) (sym (slice_get-map (λ (v : Vec ℕ). v.items) left n ∙ ap (option_map (λ (v : Vec ℕ). v.items)) (slice_get_past left n past)))

pub lists_more : (all : List (Vec ℕ)) (v : Vec ℕ) → lists_of (all ++ v ∷ []) ≡ lists_of all ++ v.items ∷ []
lists_more all v = map_append (λ (u : Vec ℕ). u.items) all (v ∷ [])

told_rest : (told : List (Vec Told)) → told_lists (rest told) ≡ rest (told_lists told)
told_rest [] = refl
told_rest (v ∷ vs) = refl

-- the lines of one more participant
pub asked_more : (all longer lines later : List (Vec ℕ)) (told told2 : List (Vec Told)) (own asked : Vec ℕ) (whole : List (List ℕ)) → lines ≡ own ∷ later → told2 ≡ rest told
    → asked.items ≡ asked_lines own.items (told_first (told_lists told)) → longer ≡ all ++ asked ∷ []
    → lists_of all ++ lines_asked (lists_of lines) (told_lists told) ≡ whole → lists_of longer ++ lines_asked (lists_of later) (told_lists told2) ≡ whole
asked_more all longer lines later told told2 own asked whole first next is more h =
    ap (λ l. lists_of l ++ lines_asked (lists_of later) (told_lists told2)) more
    ∙ ap (λ l. l ++ lines_asked (lists_of later) (told_lists told2)) (lists_more all asked)
    ∙ append_assoc (lists_of all) (asked.items ∷ []) (lines_asked (lists_of later) (told_lists told2))
    ∙ ap (λ x. lists_of all ++ x ∷ lines_asked (lists_of later) (told_lists told2)) is
    ∙ ap (λ ts. lists_of all ++ asked_lines own.items (told_first (told_lists told)) ∷ lines_asked (lists_of later) ts) (ap told_lists next ∙ told_rest told)
    ∙ ap (λ l. lists_of all ++ lines_asked (lists_of l) (told_lists told)) (sym first)
    ∙ h
