-- The lines of a script, one after another.
use Rattle.std.proofs.Common.{◌≡◌, ℕ, zero, suc, ◌+◌, ◌-◌, ◌<◌, ◌≤◌, List, [], ◌∷◌, ◌++◌, length, take, get_or, drop, refl, sym, ap, ap₂, ◌∙◌, append_assoc, arith}
use Rattle.std.specs.Prelude.{min}
use Rattle.std.specs.List.{concat}
use Rattle.std.proofs.lemmas.List.{drop-drop, drop_all, drop_min, drop_more, length-drop, length-take, take_min, take_rest}
use Rattle.std.proofs.Math.Seq.{take-add}
use Rattle.interleavings.specs.declared.event.Event.{Event}
use Rattle.interleavings.specs.Step.{step}
use Rattle.interleavings.specs.Trace.{after}
use Rattle.interleavings.specs.World.{Size, World, opening}
use Rattle.traces.specs.Traced.{line_between, section, sections, texts_of}
use Rattle.traces.proofs.Runs.{after_append}

-- the first events of the rest, as the program applies them
pub taken_to : (events : List Event) (place end stop : ℕ) → place ≤ length events → stop ≡ place + min (end - place) (length events - place)
    → take (stop - place) (drop place events) ≡ take (end - place) (drop place events)
taken_to events place end stop inside is =
    let left : List Event = drop place events in
    let count : stop - place ≡ min (end - place) (length left) = omega (arith, is, length-drop place events) in
    ap (λ n. take n left) count ∙ take_min (end - place) left

pub left_from : (events : List Event) (place end stop : ℕ) → place ≤ length events → stop ≡ place + min (end - place) (length events - place)
    → drop stop events ≡ drop (end - place) (drop place events)
left_from events place end stop inside is =
    let left : List Event = drop place events in
    let count : stop ≡ place + min (end - place) (length left) = omega (arith, is, length-drop place events) in
    ap (λ n. drop n events) count ∙ sym (drop-drop (min (end - place) (length left)) place events) ∙ drop_min (end - place) left

pub taken_in_all : (events : List Event) (place stop : ℕ) → place ≤ stop → take stop events ≡ take place events ++ take (stop - place) (drop place events)
taken_in_all events place stop order =
    let count : stop ≡ place + (stop - place) = omega arith in
    ap (λ n. take n events) count ∙ take-add place (stop - place) events

module _ (role note : ℕ → List ℕ) (z : Size) where
  abbrev texts : ℕ → World → List Event → List (List ℕ)
  texts = texts_of role note z

  texts_taken : (m place : ℕ) (w : World) (es : List Event) → take m (texts place w es) ≡ texts place w (take m es)
  texts_taken zero place w es = refl
  texts_taken (suc m) place w [] = refl
  texts_taken (suc m) place w (e ∷ es) = ap (λ l. (line_between role z place e w (step z w e) ++ note place) ∷ l) (texts_taken m (suc place) (step z w e) es)

  texts_left : (m place : ℕ) (w : World) (es : List Event)
      → drop m (texts place w es) ≡ texts (place + length (take m es)) (after z w (take m es)) (drop m es)
  texts_left zero place w es = ap (λ p. texts p w es) (omega arith)
  texts_left (suc m) place w [] = refl
  texts_left (suc m) place w (e ∷ es) =
      texts_left m (suc place) (step z w e) es
      ∙ ap (λ p. texts p (after z (step z w e) (take m es)) (drop m es)) (omega arith)

  pub texts_length : (place : ℕ) (w : World) (es : List Event) → length (texts place w es) ≡ length es
  texts_length place w [] = refl
  texts_length place w (e ∷ es) = ap suc (texts_length (suc place) (step z w e) es)

  -- the text of these events from an index on
  abbrev rest : (events : List Event) → (place : ℕ) → List (List ℕ)
  rest events place = texts place (after z opening (take place events)) (drop place events)

  section_is : (events : List Event) (place end stop line : ℕ) (ends : List ℕ) → place ≤ length events → stop ≡ place + min (end - place) (length events - place)
      → sections line place (end ∷ ends) (rest events place)
      ≡ section line (texts place (after z opening (take place events)) (take (stop - place) (drop place events))) ++ sections (suc line) stop ends (rest events stop)
  section_is events place end stop line ends inside is =
      let m = end - place in
      let w : World = after z opening (take place events) in
      let left : List Event = drop place events in
      let taken : List Event = take m left in
      let cut : take (stop - place) left ≡ taken = taken_to events place end stop inside is in
      let long : length (take m (texts place w left)) ≡ length taken = ap length (texts_taken m place w left) ∙ texts_length place w taken in
      let at : place + length taken ≡ stop = omega (arith, is, length-take m left, length-drop place events) in
      let run : after z w taken ≡ after z opening (take stop events) =
      ap (after z w) (sym cut) ∙ sym (after_append z (take place events) (take (stop - place) left) opening)
      ∙ ap (after z opening) (sym (taken_in_all events place stop (omega arith))) in
      let behind : drop m (texts place w left) ≡ rest events stop =
      texts_left m place w left ∙ ap₂ (λ p v. texts p v (drop m left)) at run
      ∙ ap (texts stop (after z opening (take stop events))) (sym (left_from events place end stop inside is)) in
      ap₂ (λ f b. section line f ++ sections (suc line) (place + length f) ends b) (texts_taken m place w left) behind
      ∙ ap (λ n. section line (texts place w taken) ++ sections (suc line) (place + n) ends (rest events stop)) (texts_length place w taken)
      ∙ ap (λ p. section line (texts place w taken) ++ sections (suc line) p ends (rest events stop)) at
      ∙ ap (λ es. section line (texts place w es) ++ sections (suc line) stop ends (rest events stop)) (sym cut)

  -- the text of one line more
  pub section_next : (events : List Event) (ends : List ℕ) (j line place stop : ℕ) (old new whole : List ℕ) → place ≤ length events
      → stop ≡ place + min (get_or ends j 0 - place) (length events - place) → j < length ends
      → old ++ sections line place (drop j ends) (rest events place) ≡ whole
      → new ≡ old ++ section line (texts (length (take place events)) (after z opening (take place events)) (take (stop - place) (drop place events)))
      → new ++ sections (line + 1) stop (drop (j + 1) ends) (rest events stop) ≡ whole
  section_next events ends j line place stop old new whole inside is there so_far put =
      let w : World = after z opening (take place events) in
      let part : List Event = take (stop - place) (drop place events) in
      let at : length (take place events) ≡ place = omega (arith, length-take place events) in
      let said : List ℕ = section line (texts place w part) in
      let others : List ℕ = sections (suc line) stop (drop (j + 1) ends) (rest events stop) in
      ap (λ n. new ++ sections n stop (drop (j + 1) ends) (rest events stop)) (omega arith)
      ∙ ap (λ t. t ++ others) (put ∙ ap (λ p. old ++ section line (texts p w part)) at)
      ∙ append_assoc old said others
      ∙ ap (λ t. old ++ t) (sym (section_is events place (get_or ends j 0) stop line (drop (j + 1) ends) inside is))
      ∙ ap (λ l. old ++ sections line place l (rest events place)) (sym (drop_more ends j 0 there))
      ∙ so_far

  -- what comes after the last line's end
  pub sections_done : (events : List Event) (ends : List ℕ) (j line place : ℕ) (old new whole : List ℕ) → place ≤ length events → length ends ≤ j
      → old ++ sections line place (drop j ends) (rest events place) ≡ whole
      → new ≡ old ++ concat (texts (length (take place events)) (after z opening (take place events)) (take (length events - place) (drop place events))) → new ≡ whole
  sections_done events ends j line place old new whole inside all so_far put =
      let w : World = after z opening (take place events) in
      let at : length (take place events) ≡ place = omega (arith, length-take place events) in
      put ∙ ap (λ xs. old ++ concat (texts (length (take place events)) w xs)) (take_rest events place)
      ∙ ap (λ p. old ++ concat (texts p w (drop place events))) at
      ∙ ap (λ l. old ++ sections line place l (rest events place)) (sym (drop_all j ends all))
      ∙ so_far
