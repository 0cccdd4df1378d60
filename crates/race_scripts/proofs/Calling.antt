-- What is tested of those who call holds.
use Rattle.std.proofs.Common.{◌≡◌, ◌⊎◌, inl, inr, ℕ, Bool, true, false, ◌==◌, ◌||◌, ◌&&◌, List, [], ◌∷◌, Option, Some, None, refl, sym, ap, subst, ◌∙◌}
use Rattle.std.specs.Prelude.{not}
use Rattle.std.specs.List.{list_any}
use Rattle.std.proofs.lemmas.Bool.{and_parts, false≢true}
use Rattle.std.proofs.lemmas.Bool.Decides.{Decides-eqb}
use Rattle.requests.specs.declared.request.Request.{Request}
use Rattle.interleavings.proofs.Basics.{eq_self}
use Rattle.interleavings.specs.Linearization.{Has}
use Rattle.interleavings.specs.Trace.{trace}
use Rattle.interleavings.specs.World.{Size}
use Rattle.interleavings.specs.declared.event.Event.{Event}
use Rattle.interleavings.specs.declared.trace.Item.{Item}
use Rattle.interleavings.specs.declared.trace.Run.{Run}
use Rattle.history.specs.After.{IsRunOf}
use Rattle.outcomes.specs.Outcomes.{exchanges_by}
use Rattle.participants.specs.declared.participant.Participant.{Participant}
use Rattle.participants.specs.declared.told.Told.{Told}
use Rattle.scripts.specs.Scripts.{parts_of, script_of}
use Rattle.scripts.specs.declared.script.Script.{Script}
use Rattle.race_lines.specs.RaceTexts.{is_caller}
use Rattle.race_lines.specs.declared.question.AskedRace.{AskedRace}
use Rattle.race_scripts.specs.Callers.{AreApart, are_apart, are_callers, is_apart}
use Rattle.race_scripts.specs.Gone.{HaveGone}
use Rattle.race_scripts.specs.Replaying.{CallsOnly, IsShown, ShowsTold, are_players, calls_only, is_begun, is_by}
use Rattle.race_scripts.specs.Shown.{answered_just, goes_first}
use Rattle.race_scripts.proofs.Telling.{all_behind, just_asked}

or_cases : (a b : Bool) → (a || b) ≡ true → (a ≡ true) ⊎ (b ≡ true)
or_cases true b e = inl refl
or_cases false b e = inr e

or_last : (a b : Bool) → b ≡ true → (a || b) ≡ true
or_last true b e = refl
or_last false b e = e

-- ---- who is among callers
caller_is : (c : ℕ) (o : Option ℕ) → is_caller c o ≡ true → Some c ≡ o
caller_is c None is = cc
caller_is c (Some n) is = ap Some (sym ((Decides-eqb n c).0 is))

any_has : (c : ℕ) (callers : List (Option ℕ)) → list_any (is_caller c) callers ≡ true → Has (Some c) callers
any_has c [] is = cc
any_has c (o ∷ callers) is = go (or_cases (is_caller c o) (list_any (is_caller c) callers) is) (any_has c callers)
  where
    go : (is_caller c o ≡ true) ⊎ (list_any (is_caller c) callers ≡ true) → (list_any (is_caller c) callers ≡ true → Has (Some c) callers) → Has (Some c) (o ∷ callers)
    go (inl e) rest = inl (caller_is c o e)
    go (inr e) rest = inr (rest e)

has_any : (c : ℕ) (callers : List (Option ℕ)) → Has (Some c) callers → list_any (is_caller c) callers ≡ true
has_any c [] has = absurd has
has_any c (o ∷ callers) (inl e) = ap (λ b. b || list_any (is_caller c) callers) (ap (is_caller c) (sym e) ∙ eq_self c)
has_any c (o ∷ callers) (inr has) = or_last (is_caller c o) (list_any (is_caller c) callers) (has_any c callers has)

none_has : (c : ℕ) (callers : List (Option ℕ)) → not (list_any (is_caller c) callers) ≡ true → Has (Some c) callers → ⊥
none_has c callers is has = false≢true (sym (ap not (has_any c callers has)) ∙ is)

pub all_apart : (callers : List (Option ℕ)) → are_apart callers ≡ true → AreApart callers
all_apart [] is = tt
all_apart (None ∷ callers) is = all_apart callers is
all_apart (Some c ∷ callers) is = let parts = and_parts (is_apart (Some c) callers) (are_apart callers) is in (none_has c callers parts.0, all_apart callers parts.1)

-- ---- who calls
by_one : (b c : ℕ) (callers : List (Option ℕ)) → (c == b || list_any (is_caller c) callers) ≡ true → (c ≡ b) ⊎ Has (Some c) callers
by_one b c callers is = go (or_cases (c == b) (list_any (is_caller c) callers) is)
  where
    go : ((c == b) ≡ true) ⊎ (list_any (is_caller c) callers ≡ true) → (c ≡ b) ⊎ Has (Some c) callers
    go (inl e) = inl ((Decides-eqb c b).0 e)
    go (inr e) = inr (any_has c callers e)

only_by : (b : ℕ) (callers : List (Option ℕ)) (items : List Item) → calls_only b callers items ≡ true → CallsOnly b callers items
only_by b callers [] is place c r has = absurd has
only_by b callers (i ∷ items) is place c r (inl e) = by_one b c callers (ap (is_by b callers) e ∙ (and_parts (is_by b callers i) (calls_only b callers items) is).0)
only_by b callers (i ∷ items) is place c r (inr has) = only_by b callers items (and_parts (is_by b callers i) (calls_only b callers items) is).1 place c r has

-- ---- all of it
is_shown : (a : AskedRace) (told : List (List Told)) (b : ℕ) (items : List Item) → are_players b a.callers.items items ≡ true
    → is_begun b a.race.beginning.items items ≡ true → HaveGone a.race.participants.items a.callers.items told items → IsShown a told b items
is_shown a told b items players begun gone =
    let callers = a.callers.items in
    let beginning = a.race.beginning.items in
    let last = and_parts (are_callers callers && are_apart (Some b ∷ callers)) (calls_only b callers items) players in
    let parts = and_parts (are_callers callers) (are_apart (Some b ∷ callers)) last.0 in
    let first = and_parts (goes_first b items) (answered_just (exchanges_by b items) beginning) begun in
    let just = just_asked (exchanges_by b items) beginning first.1 in record {
      callers = parts.0;
      apart = all_apart (Some b ∷ callers) parts.1;
      only = only_by b callers items last.1;
      first = all_behind b items first.0;
      begun = just.0;
      answered = just.1;
      gone = gone;
    }

-- by lists that are the same
pub shown_by : (a : AskedRace) (told : List (List Told)) (b : ℕ) (items : List Item) (callers : List (Option ℕ)) (beginning : List Request)
    (participants : List Participant) → callers ≡ a.callers.items → beginning ≡ a.race.beginning.items → participants ≡ a.race.participants.items
    → are_players b callers items ≡ true → is_begun b beginning items ≡ true → HaveGone participants callers told items → IsShown a told b items
shown_by a told b items callers beginning participants calls begins races players begun gone = is_shown a told b items
    (subst (λ (cs : List (Option ℕ)). are_players b cs items ≡ true) calls players)
    (subst (λ (rs : List Request). is_begun b rs items ≡ true) begins begun)
    (subst (λ (qs : List Participant). HaveGone qs a.callers.items told items) races (subst (λ (cs : List (Option ℕ)). HaveGone participants cs told items) calls gone))

-- so a script whose run shows it does
pub shows_told : (a : AskedRace) (told : List (List Told)) (text : List ℕ) (s : Script) (b : ℕ) (run : Run) (events : List Event) (items : List Item)
    → script_of text ≡ Some (parts_of s) → s.capacity ≡ a.race.capacity → events ≡ s.events.items → items ≡ run.trace.items.items
    → IsRunOf (record { capacity = s.capacity; shards = s.shards }) events run → IsShown a told b items → ShowsTold a told text
shows_told a told text s b run events items is capacity has seen of shown =
    let size : Size = record { capacity = s.capacity; shards = s.shards } in
    let goes : items ≡ trace size s.events.items = seen ∙ of.trace_is ∙ ap (trace size) has in record {
      size = size;
      capacity = capacity;
      events = s.events.items;
      script = is;
      beginner = b;
      shown = subst (λ (xs : List Item). IsShown a told b xs) goes shown;
    }
