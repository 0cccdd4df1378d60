-- What stands at a place, when it is put back with more.
use Rattle.std.proofs.Common.{◌≡◌, Vec, Global, refl, ◌<◌, ◌≤◌, ℕ, List, [], ◌∷◌, ◌++◌, Some, None, get_or, length, map, set, slice_get, sym, ap, ◌∙◌}
use Rattle.std.specs.Prelude.{option_map}
use Rattle.std.proofs.lemmas.List.{map-set}
use Rattle.std.proofs.lemmas.Option.{slice_get-map, slice_get_past, slice_get_read}
use Rattle.scripts.specs.Events.{◌>>=◌, Fails}
use Rattle.scripts.specs.declared.fault.ScriptError.{ScriptError}
use Rattle.scripts.specs.declared.fault.ScriptError.TheVariants as errors
use Rattle.participants.specs.declared.caller.Ask.{Ask}
use Rattle.participants.specs.declared.participant.Participant.{Participant}
use Rattle.race_lines.specs.RaceLines.{participant_parts}
use Rattle.race_lines.specs.RaceTexts.{with_ask, with_ask_at, with_number_at}

-- what is at a place of the view
at_place : {A B : Type 0} (view : A → B) (xs : List A) (place : ℕ) (x : A) → place < length xs → x ≡ get_or xs place x → slice_get (map view xs) place ≡ Some (view x)
at_place view xs place x within is = slice_get-map view xs place ∙ ap (option_map view) (slice_get_read xs (length xs) place x refl within is)

past : {A B : Type 0} (view : A → B) (xs : List A) (place : ℕ) → length xs ≤ place → slice_get (map view xs) place ≡ None
past view xs place beyond = slice_get-map view xs place ∙ ap (option_map view) (slice_get_past xs place beyond)

pub ask_at : (qs : List Participant) (place : ℕ) (q more : Participant) (ask : Ask) → place < length qs → q ≡ get_or qs place q
    → with_ask ask (participant_parts q) ≡ Some (participant_parts more) → with_ask_at (map participant_parts qs) place ask ≡ Some (map participant_parts (set qs place more))
ask_at qs place q more ask within is asked =
    ap (λ found. found >>= λ p. option_map (λ m. set (map participant_parts qs) place m) (with_ask ask p)) (at_place participant_parts qs place q within is)
    ∙ ap (λ o. option_map (λ m. set (map participant_parts qs) place m) o) asked
    ∙ ap Some (sym (map-set participant_parts qs place more))

pub ask_past : (qs : List Participant) (place : ℕ) (ask : Ask) → length qs ≤ place → with_ask_at (map participant_parts qs) place ask ≡ None
ask_past qs place ask beyond =
    ap (λ found. found >>= λ p. option_map (λ m. set (map participant_parts qs) place m) (with_ask ask p)) (past participant_parts qs place beyond)

pub ask_fails : (e : ScriptError) (qs : List Participant) (place : ℕ) (q : Participant) (ask : Ask) → place < length qs → q ≡ get_or qs place q
    → Fails e (with_ask ask (participant_parts q)) → Fails e (with_ask_at (map participant_parts qs) place ask)
ask_fails errors.BadScript qs place q ask within is fails =
    ap (λ found. found >>= λ p. option_map (λ m. set (map participant_parts qs) place m) (with_ask ask p)) (at_place participant_parts qs place q within is)
    ∙ ap (λ o. option_map (λ m. set (map participant_parts qs) place m) o) fails
ask_fails errors.Memory qs place q ask within is fails = tt

pub number_at : (lines : List (Vec ℕ Global)) (place number : ℕ) (before more : Vec ℕ Global) → place < length lines → before ≡ get_or lines place before
    → more.items ≡ before.items ++ number ∷ []
    → with_number_at (map (λ numbers. numbers.items) lines) place number ≡ Some (map (λ numbers. numbers.items) (set lines place more))
number_at lines place number before more within is longer =
    ap (λ found. option_map (λ ns. set (map (λ (numbers : Vec ℕ Global). numbers.items) lines) place (ns ++ number ∷ [])) found) (at_place (λ (numbers : Vec ℕ Global). numbers.items) lines place before within is)
    ∙ ap (λ ns. Some (set (map (λ (numbers : Vec ℕ Global). numbers.items) lines) place ns)) (sym longer)
    ∙ ap Some (sym (map-set (λ (numbers : Vec ℕ Global). numbers.items) lines place more))

pub number_past : (lines : List (Vec ℕ Global)) (place number : ℕ) → length lines ≤ place → with_number_at (map (λ numbers. numbers.items) lines) place number ≡ None
number_past lines place number beyond =
    ap (λ found. option_map (λ ns. set (map (λ (numbers : Vec ℕ Global). numbers.items) lines) place (ns ++ number ∷ [])) found) (past (λ (numbers : Vec ℕ Global). numbers.items) lines place beyond)
