-- What `clap` found for a subcommand is what the arguments request.
use Rattle.std.proofs.Common.{◌≡◌, ℕ, inl, Bool, true, false, List, [], Option, Some, None, Result, Ok, Err, codes, refl, sym, ap, ap₂, subst, ◌∙◌, MatchBool, MatchOption}
use Rattle.std.specs.Prelude.{Box, option_map, unwrap_or, if◌then◌else◌}
use Rattle.std.specs.Borrow.{Bor}
use Rattle.std.specs.Box.{box_value}
use Rattle.std.specs.Str.{bytes_eq}
use Rattle.std.specs.Str.Parse.{ParsesUnsigned}
use Rattle.std.proofs.lemmas.Slice.Eq.{bytes_eq-Decides}
use Rattle.clap.specs.Words.{App, HasMatchesOf, ReadsOne, Row, Text, first_of, is_simple, one_of, subcommand_name_of, subcommand_of, subcommand_rows_of}
use Rattle.clap.specs.Simple.{subcommand_rows}
use Rattle.clap.specs.declared.parser.matches.ArgMatches.{ArgMatches}
use Rattle.clap.specs.declared.parser.matches.ArgMatches.TheViews.{out-ArgMatches, out-SubCommand}
use Rattle.clap.specs.declared.parser.matches.SubCommand.{SubCommand}
use Rattle.clap.proofs.OnLiterals.{clap_on_literals}
use Rattle.plain.specs.Served.{served_so_far}
use Rattle.plain.specs.Streams.{PutsPart, Takes}
use Rattle.plain.proofs.Flows.{PutsPart-none, Takes-none}
use Rattle.commands.specs.CommandLine.{IsCommandLine, IsFinding, IsOther, IsRaceBy, IsScriptBy, IsScripted, IsServing, AreOptionsBy}
use Rattle.commands.specs.Serving.{ServesSome}
use Rattle.commands.specs.declared.race_words.RaceWords.{RaceWords}
use Rattle.commands.specs.declared.args.CommandLine.{CommandLine}
use Rattle.commands.specs.declared.args.CommandLine.TheVariants as say
use Rattle.commands.specs.Forms.{IsFlagBy}
use Rattle.commands.specs.Grammar.{IsCapacityBy, IsChoiceBy, IsNumberBy, Plan, asked, capacity_text, digits_text, faults_of, flag_text, is_under, outcomes_text, plan_text, race_text, rows_under, stsctl_app, word_by, word_of}

stsctl-is_simple : is_simple stsctl_app ≡ true
unfolding clap_on_literals
stsctl-is_simple = refl

-- the subcommand that was found is that of the arguments
pub met : (app : App) (words : List Text) (m : ArgMatches) → app ≡ stsctl_app → HasMatchesOf app words m → subcommand_rows_of m ≡ subcommand_of stsctl_app words
met app words m same has =
    let Has : App → Type 0 = λ a. HasMatchesOf a words m in
    (subst Has same has stsctl-is_simple).1

pub false-true : false ≡ true → ⊥
false-true is = subst (λ b. MatchBool b ⊥ (Unit {0})) is tt

picked : (b : Bool) (rows : List Row) → b ≡ true → (if b then rows else []) ≡ rows
picked true rows is = refl
picked false rows is = absurd (false-true is)

left_out : (b : Bool) (rows : List Row) → (b ≡ true → ⊥) → (if b then rows else []) ≡ []
left_out true rows not = absurd (not refl)
left_out false rows not = refl

not_true : (b : Bool) → (b ≡ true → ⊥) → b ≡ false
not_true true not = absurd (not refl)
not_true false not = refl

-- if it is that subcommand, its rows are those under it
module _ {Z : Type 0} where
  here : (word : Text) (o : Option (Box SubCommand Z)) → option_map (λ b. (out-SubCommand (box_value b)).name.now) o ≡ Some word
      → is_under word (subcommand_rows o) ≡ true
  here word None name = absurd (subst (λ o. MatchOption o (Unit {0}) (λ _. ⊥)) name tt)
  here word (Some b) name =
      let n = (out-SubCommand (box_value b)).name.now in
      (bytes_eq-Decides n word).1 (ap (λ o. unwrap_or o []) name)

  not_here : (word : Text) (o : Option (Box SubCommand Z)) → (option_map (λ b. (out-SubCommand (box_value b)).name.now) o ≡ Some word → ⊥)
      → is_under word (subcommand_rows o) ≡ false
  not_here word None other = refl
  not_here word (Some b) other =
      let n = (out-SubCommand (box_value b)).name.now in
      not_true (bytes_eq n word) (λ same. other (ap (λ t. Some t) ((bytes_eq-Decides n word).0 same)))

  rows_here : (word : Text) (o : Option (Box SubCommand Z)) (rows : List Row) → option_map (λ b. (out-SubCommand (box_value b)).name.now) o ≡ Some word
      → option_map (λ p. p.1) (subcommand_rows o) ≡ Some rows → rows_under word (subcommand_rows o) ≡ rows
  rows_here word None rows name found = absurd (subst (λ o. MatchOption o (Unit {0}) (λ _. ⊥)) name tt)
  rows_here word (Some b) rows name found =
      let n = (out-SubCommand (box_value b)).name.now in
      let is : n ≡ word = ap (λ o. unwrap_or o []) name in
      picked (bytes_eq n word) _ ((bytes_eq-Decides n word).1 is) ∙ ap (λ o. unwrap_or o []) found

  no_rows : (word : Text) (o : Option (Box SubCommand Z)) → (option_map (λ b. (out-SubCommand (box_value b)).name.now) o ≡ Some word → ⊥)
      → rows_under word (subcommand_rows o) ≡ []
  no_rows word None other = refl
  no_rows word (Some b) other =
      let n = (out-SubCommand (box_value b)).name.now in
      left_out (bytes_eq n word) _ (λ same. other (ap (λ t. Some t) ((bytes_eq-Decides n word).0 same)))

pub under-met : (word : Text) (m : ArgMatches) → subcommand_name_of m ≡ Some word → is_under word (subcommand_rows_of m) ≡ true
under-met word m name = here word (out-ArgMatches m).subcommand name

pub under-unmet : (word : Text) (m : ArgMatches) → (subcommand_name_of m ≡ Some word → ⊥) → is_under word (subcommand_rows_of m) ≡ false
under-unmet word m other = not_here word (out-ArgMatches m).subcommand other

pub rows-met : (word : Text) (m : ArgMatches) (rows : List Row) → subcommand_name_of m ≡ Some word → option_map (λ p. p.1) (subcommand_rows_of m) ≡ Some rows
    → rows_under word (subcommand_rows_of m) ≡ rows
rows-met word m rows name found = rows_here word (out-ArgMatches m).subcommand rows name found

pub rows-unmet : (word : Text) (m : ArgMatches) → (subcommand_name_of m ≡ Some word → ⊥) → rows_under word (subcommand_rows_of m) ≡ []
rows-unmet word m other = no_rows word (out-ArgMatches m).subcommand other

word-is : (plan race replay cluster outcomes p a r c o : Bool) → plan ≡ p → race ≡ a → replay ≡ r → cluster ≡ c → outcomes ≡ o
    → word_by plan race replay cluster outcomes ≡ word_by p a r c o
word-is plan race replay cluster outcomes p a r c o plan_is race_is replay_is cluster_is outcomes_is =
    ap₂ (λ x y. word_by x y replay cluster outcomes) plan_is race_is ∙ ap₂ (λ x y. word_by p a x y outcomes) replay_is cluster_is
    ∙ ap (word_by p a r c) outcomes_is

-- what arguments without a fault request, by the subcommands that were found
asked-by : (words : List Text) (m : ArgMatches) (p a r c o : Bool) → faults_of words ≡ [] → subcommand_rows_of m ≡ subcommand_of stsctl_app words
    → is_under (codes "plan") (subcommand_rows_of m) ≡ p → is_under (codes "race") (subcommand_rows_of m) ≡ a
    → is_under (codes "replay") (subcommand_rows_of m) ≡ r → is_under (codes "cluster") (subcommand_rows_of m) ≡ c
    → is_under (codes "outcomes") (subcommand_rows_of m) ≡ o → asked words ≡ word_by p a r c o
unfolding asked
asked-by words m p a r c o none same plan race replay cluster outcomes =
    ap₂ word_of none (sym same) ∙ word-is _ _ _ _ _ p a r c o plan race replay cluster outcomes

pub asked-plan : (words : List Text) (m : ArgMatches) → faults_of words ≡ [] → subcommand_rows_of m ≡ subcommand_of stsctl_app words
    → is_under (codes "plan") (subcommand_rows_of m) ≡ true → asked words ≡ Plan
asked-plan words m none same plan = asked-by words m true _ _ _ _ none same plan refl refl refl refl

pub capacity-is : (words : List Text) (m : ArgMatches) → subcommand_rows_of m ≡ subcommand_of stsctl_app words
    → one_of (codes "capacity") (rows_under (codes "serve") (subcommand_rows_of m)) ≡ capacity_text words
unfolding capacity_text
capacity-is words m same = ap (λ e. one_of (codes "capacity") (rows_under (codes "serve") e)) same

pub flag-is : (words : List Text) (m : ArgMatches) (word flag : Text) → subcommand_rows_of m ≡ subcommand_of stsctl_app words
    → one_of flag (rows_under word (subcommand_rows_of m)) ≡ flag_text word flag words
unfolding flag_text
flag-is words m word flag same = ap (λ e. one_of flag (rows_under word e)) same

pub race-is : (words : List Text) (m : ArgMatches) (option : Text) → subcommand_rows_of m ≡ subcommand_of stsctl_app words
    → one_of option (rows_under (codes "race") (subcommand_rows_of m)) ≡ race_text option words
unfolding race_text
race-is words m option same = ap (λ e. one_of option (rows_under (codes "race") e)) same

race_by : (words : List Text) (m : ArgMatches) (race : RaceWords) → subcommand_rows_of m ≡ subcommand_of stsctl_app words
    → IsRaceBy (λ option. one_of option (rows_under (codes "race") (subcommand_rows_of m))) race → IsRaceBy (λ option. race_text option words) race
race_by words m race same by = (
  subst (λ t. IsNumberBy 4 1 64 t race.spec.controllers) (race-is words m (codes "controllers") same) by.0,
  subst (λ t. IsNumberBy 8 1 64 t race.spec.shards) (race-is words m (codes "shards") same) by.1,
  subst (λ t. IsNumberBy 16 1 1024 t race.spec.rounds) (race-is words m (codes "rounds") same) by.2,
  subst (λ t. IsNumberBy 3 0 64 t race.spec.replicas) (race-is words m (codes "replicas") same) by.3,
  subst (λ t. IsFlagBy t race.spec.operator) (race-is words m (codes "operator") same) by.4,
  subst (λ t. IsFlagBy t race.history) (race-is words m (codes "history") same) by.5,
)

pub outcomes-is : (words : List Text) (m : ArgMatches) (option : Text) → subcommand_rows_of m ≡ subcommand_of stsctl_app words
    → one_of option (rows_under (codes "outcomes") (subcommand_rows_of m)) ≡ outcomes_text option words
unfolding outcomes_text
outcomes-is words m option same = ap (λ e. one_of option (rows_under (codes "outcomes") e)) same

-- what arguments request that are no plan, race, replay and cluster
pub found_serving : (m : ArgMatches) (found : CommandLine) → is_under (codes "cluster") (subcommand_rows_of m) ≡ false → IsFinding (subcommand_rows_of m) found
    → IsServing (subcommand_rows_of m) found
found_serving m (say.Cluster form) cluster finding = absurd finding
found_serving m (say.Serve capacity) cluster finding = (cluster, finding)
found_serving m (say.Outcomes options) cluster finding = (cluster, finding)
found_serving m (say.Replay form) cluster finding = absurd finding
found_serving m (say.Plan plan) cluster finding = absurd finding
found_serving m (say.Race race) cluster finding = absurd finding

-- what arguments request that are no plan, race and replay
pub served_scripted : (m : ArgMatches) (found : CommandLine) → is_under (codes "replay") (subcommand_rows_of m) ≡ false → IsServing (subcommand_rows_of m) found
    → IsScripted (subcommand_rows_of m) found
served_scripted m (say.Replay form) replay serving = absurd serving.1
served_scripted m (say.Serve capacity) replay serving = (replay, serving)
served_scripted m (say.Cluster form) replay serving = (replay, serving)
served_scripted m (say.Outcomes options) replay serving = (replay, serving)
served_scripted m (say.Plan plan) replay serving = absurd serving.1
served_scripted m (say.Race race) replay serving = absurd serving.1

-- what arguments request that are no plan and no race
pub scripted_other : (m : ArgMatches) (found : CommandLine) → is_under (codes "race") (subcommand_rows_of m) ≡ false → IsScripted (subcommand_rows_of m) found
    → IsOther (subcommand_rows_of m) found
scripted_other m (say.Race asked) race scripted = absurd scripted.1.1
scripted_other m (say.Serve capacity) race scripted = (race, scripted)
scripted_other m (say.Replay form) race scripted = (race, scripted)
scripted_other m (say.Cluster form) race scripted = (race, scripted)
scripted_other m (say.Outcomes options) race scripted = (race, scripted)
scripted_other m (say.Plan plan) race scripted = absurd scripted.1.1

-- what arguments request that are no plan
pub other_asked : (words : List Text) (m : ArgMatches) (found : CommandLine) → faults_of words ≡ [] → subcommand_rows_of m ≡ subcommand_of stsctl_app words
    → is_under (codes "plan") (subcommand_rows_of m) ≡ false → IsOther (subcommand_rows_of m) found → IsCommandLine words found
other_asked words m (say.Serve capacity) none same plan other = (
  asked-by words m false false false false false none same plan other.0 other.1.0 other.1.1.0 other.1.1.1.0,
  subst (λ t. IsCapacityBy t capacity) (capacity-is words m same) other.1.1.1.1,
)
other_asked words m (say.Outcomes options) none same plan other = (
  asked-by words m false false false false true none same plan other.0 other.1.0 other.1.1.0 other.1.1.1.0,
  subst (λ t. AreOptionsBy t options) (λ i option. outcomes-is words m option same i) other.1.1.1.1,
)
other_asked words m (say.Replay form) none same plan other = (
  asked-by words m false false true _ _ none same plan other.0 other.1.0 refl refl,
  subst (λ t. IsScriptBy t form) (λ i flag. flag-is words m (codes "replay") flag same i) other.1.1,
)
other_asked words m (say.Cluster form) none same plan other = (
  asked-by words m false false false true _ none same plan other.0 other.1.0 other.1.1.0 refl,
  subst (λ t. IsScriptBy t form) (λ i flag. flag-is words m (codes "cluster") flag same i) other.1.1.1,
)
other_asked words m (say.Plan asked) none same plan other = absurd other.1.1.1
other_asked words m (say.Race race) none same plan other = (
  asked-by words m false true _ _ _ none same plan other.0 refl refl refl,
  (race_by words m race same other.1, other.2),
)

pub plan-is : (words : List Text) (m : ArgMatches) (option : Text) (rows : List Row) → subcommand_rows_of m ≡ subcommand_of stsctl_app words
    → rows_under (codes "plan") (subcommand_rows_of m) ≡ rows → first_of option rows ≡ plan_text option words
unfolding plan_text
plan-is words m option rows same is = ap (first_of option) (sym is) ∙ ap (λ e. first_of option (rows_under (codes "plan") e)) same

pub digits-is : (words : List Text) (m : ArgMatches) (rows : List Row) → subcommand_rows_of m ≡ subcommand_of stsctl_app words
    → rows_under (codes "plan") (subcommand_rows_of m) ≡ rows → one_of (codes "digits") rows ≡ digits_text words
unfolding digits_text
digits-is words m rows same is = ap (one_of (codes "digits")) (sym is) ∙ ap (λ e. one_of (codes "digits") (rows_under (codes "plan") e)) same

pub plan_flag-is : (words : List Text) (m : ArgMatches) (flag : Text) (rows : List Row) → subcommand_rows_of m ≡ subcommand_of stsctl_app words
    → rows_under (codes "plan") (subcommand_rows_of m) ≡ rows → one_of flag rows ≡ flag_text (codes "plan") flag words
plan_flag-is words m flag rows same is = ap (one_of flag) (sym is) ∙ flag-is words m (codes "plan") flag same

pub now_or : (o : Option (Bor Text)) (d : Bor Text) → (unwrap_or o d).now ≡ unwrap_or (option_map (λ s. s.now) o) d.now
now_or None d = refl
now_or (Some t) d = refl

-- a number that was read, or none
pub read : {E : Type 0} (gives : Text → Result ℕ E → Type 0) (text : Option Text) (given : Option ℕ) (capacity : ℕ)
    → ((t : Text) (r : Result ℕ E) → gives t r → ParsesUnsigned 64 10 t r) → (text ≡ None → given ≡ None)
    → ((t : Text) → text ≡ Some t → ReadsOne gives t given) → capacity ≡ unwrap_or given 1048576 → IsCapacityBy text capacity
read gives None given capacity parses none some is = is ∙ ap (λ g. unwrap_or g 1048576) (none refl)
read gives (Some t) (Some n) capacity parses none some is = λ numeral low. is ∙ (parses t (Ok n) (some t refl)).1
read gives (Some t) None capacity parses none some is = λ numeral low.
    let failed = some t refl in absurd (parses t (Err failed.0) failed.1 (numeral, low))

-- the number of an outcome that was read, or none
pub read_choice : {E : Type 0} (gives : Text → Result ℕ E → Type 0) (text : Option Text) (given : Option ℕ)
    → ((t : Text) (r : Result ℕ E) → gives t r → ParsesUnsigned 64 10 t r) → (text ≡ None → given ≡ None)
    → ((t : Text) → text ≡ Some t → ReadsOne gives t given) → IsChoiceBy text given
read_choice gives None given parses none some = none refl
read_choice gives (Some t) (Some n) parses none some = λ numeral low. ap Some (parses t (Ok n) (some t refl)).1
read_choice gives (Some t) None parses none some = λ numeral low.
    let failed = some t refl in absurd (parses t (Err failed.0) failed.1 (numeral, low))

asked-some : (text : Option Text) → (capacity : ℕ) × IsCapacityBy text capacity
asked-some None = (1048576, refl)
asked-some (Some text) = (_, λ numeral low. refl)

-- nothing was read, and nothing written
pub serves_nothing : (words : List Text) (had left before after : Option (List ℕ)) → left ≡ had → after ≡ before → ServesSome words had left before after
serves_nothing words had left before after same_left same_after =
    let asked = asked-some (capacity_text words) in
    let text : List ℕ = served_so_far asked.0 [] in (
      asked.0,
      asked.1,
      ([], subst (λ o. Takes had [] o) (sym same_left) (Takes-none had), inl (subst (λ o. PutsPart before text o) (sym same_after) (PutsPart-none before text))),
    )

-- a flag, as `clap` has it
pub flag_by : (text : Option Text) (given : Bool) → (text ≡ None → given ≡ false) → (text ≡ Some (codes "true") → given ≡ true)
    → (text ≡ Some (codes "false") → given ≡ false) → IsFlagBy text given
flag_by None given none value other = none refl
flag_by (Some t) given none value other = ((λ is. value (ap Some is)), (λ is. other (ap Some is)))
