-- What is tested of the script that leads to a store holds.
use Rattle.std.proofs.Common.{◌≡◌, ◌⊎◌, inl, inr, ◌<◌, ℕ, zero, Bool, true, false, ◌==◌, ◌&&◌, ◌||◌, List, [], ◌∷◌, ◌++◌, length, map, drop, get_or, Option, Some, None, suc, refl, sym, ap, subst, ◌∙◌, arith}
use Rattle.std.specs.Global.{Vec}
use Rattle.std.specs.Prelude.{bytes_eq, is_some, option_and_then, if◌then◌else◌}
use Rattle.std.proofs.lemmas.List.{append-nil}
use Rattle.std.proofs.lemmas.Option.{same_Some}
use Rattle.std.proofs.lemmas.Bool.{and_parts}
use Rattle.std.proofs.lemmas.Bool.Decides.{Decides-eqb}
use Rattle.std.proofs.lemmas.Slice.Eq.{bytes_eq-Decides}
use Rattle.requests.proofs.Sameness.{replies_equal}
use Rattle.requests.specs.declared.reply.Reply.{Reply}
use Rattle.requests.specs.declared.request.Request.{Request}
use Rattle.cluster_runs.specs.Ran.{IsClusterRun}
use Rattle.cluster_runs.specs.declared.run.ClusterRun.{ClusterRun}
use Rattle.cluster_runs.specs.declared.turn.Turn.{Turn}
use Rattle.cluster_runs.specs.declared.turn.Turn.TheVariants as turn
use Rattle.scripts.specs.Sets.{SetParts, set_parts}
use Rattle.scripts.specs.declared.cluster_script.ClusterScript.{ClusterScript}
use Rattle.controllers.specs.Cluster.{reconciler_named, size_of}
use Rattle.controllers.specs.declared.set_spec.SetSpec.{SetSpec}
use Rattle.explorer.specs.declared.race.End.{End}
use Rattle.participants.specs.declared.participant.Participant.{Participant}
use Rattle.participants.specs.declared.participant.Participant.TheVariants.{Caller, Controller, Kubelet}
use Rattle.interleavings.specs.declared.trace.Item.{Item}
use Rattle.outcomes.specs.Outcomes.{AreAnswered, Exchange, exchanges_by, requests_in}
use Rattle.race_lines.specs.Questions.{told_lists}
use Rattle.race_lines.specs.declared.question.AskedRace.{AskedRace}
use Rattle.participants.specs.declared.told.Told.{Told}
use Rattle.race_scripts.specs.Callers.{are_apart}
use Rattle.race_scripts.specs.Gone.{HaveGone}
use Rattle.race_scripts.specs.Same.{same_request}
use Rattle.race_scripts.specs.Leading.{IsLed, LeadsTo, again_behind, all_behind, answered_by, are_looks, are_sets_of, asks_of, ends_with_looks, events_by, is_framed, is_look, is_none, is_of_race, is_told, is_nothing, is_told_just, is_told_last, same_set, set_behind, sets_again, sets_behind, sets_in}
use Rattle.race_scripts.proofs.Calling.{all_apart}
use Rattle.race_scripts.proofs.Sameness.{requests_equal}
use Rattle.race_scripts.proofs.Telling.{some_not_none}

-- ---- the sets
set_equal : (s t : SetSpec) → same_set s t ≡ true → set_parts t ≡ set_parts s
set_equal s t is =
    let third = and_parts (bytes_eq s.namespace t.namespace && bytes_eq s.name t.name && s.digits == t.digits) (bytes_eq s.moment t.moment) is in
    let second = and_parts (bytes_eq s.namespace t.namespace && bytes_eq s.name t.name) (s.digits == t.digits) third.0 in
    let first = and_parts (bytes_eq s.namespace t.namespace) (bytes_eq s.name t.name) second.0 in
    let namespaces = sym ((bytes_eq-Decides s.namespace t.namespace).0 first.0) in
    let names = sym ((bytes_eq-Decides s.name t.name).0 first.1) in
    let digits = sym ((Decides-eqb s.digits t.digits).0 second.1) in
    let moments = sym ((bytes_eq-Decides s.moment t.moment).0 third.1) in
    ap (λ x. record (set_parts t) { namespace = x }) namespaces
    ∙ ap (λ x. record (set_parts s) { name = x; digits = t.digits; moment = t.moment }) names
    ∙ ap (λ x. record (set_parts s) { digits = x; moment = t.moment }) digits
    ∙ ap (λ x. record (set_parts s) { moment = x }) moments

first_equal : (set : SetSpec) (sets behind : List SetSpec) → set_behind set sets ≡ Some behind → map set_parts sets ≡ set_parts set ∷ map set_parts behind
first_equal set [] behind is = absurd cc
first_equal set (s ∷ sets) behind is = by (same_set set s) refl
  where
    by : (b : Bool) → same_set set s ≡ b → map set_parts (s ∷ sets) ≡ set_parts set ∷ map set_parts behind
    by true same =
        let rest : sets ≡ behind = same_Some sets behind (sym (ap (λ b. if b then Some sets else None) same) ∙ is) in
        ap (λ x. x ∷ map set_parts sets) (set_equal set s same) ∙ ap (λ xs. set_parts set ∷ map set_parts xs) rest
    by false differs = let clash : None ≡ Some behind = sym (ap (λ b. if b then Some sets else None) differs) ∙ is in absurd cc

nothing_behind : (participants : List Participant) → all_behind participants None ≡ None
nothing_behind [] = refl
nothing_behind (q ∷ participants) = nothing_behind participants

pub none_at : (participants : List Participant) (i : ℕ) (q : Participant) (left : List SetSpec) → i < length participants → q ≡ get_or participants i q → sets_behind q left ≡ None
    → all_behind (drop i participants) (Some left) ≡ None
none_at [] i q left inside is none = absurd (omega (arith, inside))
none_at (p ∷ participants) zero q left inside is none = ap (all_behind participants) (ap (λ v. sets_behind v left) (sym is) ∙ none) ∙ nothing_behind participants
none_at (p ∷ participants) (suc i) q left inside is none = none_at participants i q left (omega (arith, inside)) is none

-- the sets of one who races come first
one_equal : (q : Participant) (participants : List Participant) (sets behind : List SetSpec) (rest : List SetParts) → sets_behind q sets ≡ Some behind
    → map set_parts behind ≡ map set_parts (sets_in participants) ++ rest → map set_parts sets ≡ map set_parts (sets_in (q ∷ participants)) ++ rest
one_equal (Caller c) participants sets behind rest is later = ap (map set_parts) (same_Some sets behind is) ∙ later
one_equal (Kubelet namespace turns may_crash) participants sets behind rest is later = ap (map set_parts) (same_Some sets behind is) ∙ later
one_equal (Controller set rounds may_crash spares_reads) participants sets behind rest is later = by (set_behind set sets) refl
  where
    again : (b : Bool) (next : List SetSpec) → again_behind set b next ≡ Some behind → set_behind set sets ≡ Some next → map set_parts sets ≡ map set_parts (sets_again set b (sets_in participants)) ++ rest
    again true next same first = first_equal set sets next first ∙ ap (λ xs. set_parts set ∷ xs) (first_equal set next behind same ∙ ap (λ xs. set_parts set ∷ xs) later)
    again false next same first = first_equal set sets next first ∙ ap (λ xs. set_parts set ∷ xs) (ap (map set_parts) (same_Some next behind same) ∙ later)

    by : (o : Option (List SetSpec)) → set_behind set sets ≡ o → map set_parts sets ≡ map set_parts (sets_in (Controller set rounds may_crash spares_reads ∷ participants)) ++ rest
    by None none = let clash : None ≡ Some behind = sym (ap (option_and_then (again_behind set may_crash)) none) ∙ is in absurd cc
    by (Some next) first = again may_crash next (sym (ap (option_and_then (again_behind set may_crash)) first) ∙ is) first

all_equal : (participants : List Participant) (sets behind : List SetSpec) → all_behind participants (Some sets) ≡ Some behind
    → map set_parts sets ≡ map set_parts (sets_in participants) ++ map set_parts behind
all_equal [] sets behind is = ap (map set_parts) (same_Some sets behind is)
all_equal (q ∷ participants) sets behind is = by (sets_behind q sets) refl (λ next later. all_equal participants next behind later)
  where
    by : (o : Option (List SetSpec)) → sets_behind q sets ≡ o
        → ((next : List SetSpec) → all_behind participants (Some next) ≡ Some behind → map set_parts next ≡ map set_parts (sets_in participants) ++ map set_parts behind)
        → map set_parts sets ≡ map set_parts (sets_in (q ∷ participants)) ++ map set_parts behind
    by None none ih = let clash : None ≡ Some behind = sym (nothing_behind participants) ∙ sym (ap (all_behind participants) none) ∙ is in absurd cc
    by (Some next) first ih = one_equal q participants sets next (map set_parts behind) first (ih next (sym (ap (all_behind participants) first) ∙ is))

sets_equal : (participants : List Participant) (sets : List SetSpec) → are_sets_of participants sets ≡ true → map set_parts sets ≡ map set_parts (sets_in participants)
sets_equal participants sets is = by (all_behind participants (Some sets)) refl
  where
    by : (o : Option (List SetSpec)) → all_behind participants (Some sets) ≡ o → map set_parts sets ≡ map set_parts (sets_in participants)
    by None none = let clash : false ≡ true = sym (ap is_nothing none) ∙ is in absurd cc
    by (Some []) none = all_equal participants sets [] none ∙ append-nil (map set_parts (sets_in participants))
    by (Some (s ∷ more)) some = let clash : false ≡ true = sym (ap is_nothing some) ∙ is in absurd cc

-- ---- the last turns
look_equal : (c : ℕ) (l : Request) (t : Turn) → is_look c l t ≡ true → t ≡ turn.Ask c l
look_equal c l (turn.Ask caller request) is =
    let parts = and_parts (caller == c) (same_request request l) is in
    ap (λ n. turn.Ask n request) ((Decides-eqb caller c).0 parts.0) ∙ ap (turn.Ask c) (requests_equal request l parts.1)
look_equal c l t is = cc

looks_equal : (c : ℕ) (looks : List Request) (turns : List Turn) → are_looks c looks turns ≡ true → turns ≡ asks_of c looks
looks_equal c [] [] is = refl
looks_equal c (l ∷ looks) (t ∷ turns) is =
    let parts = and_parts (is_look c l t) (are_looks c looks turns) is in
    ap (λ x. x ∷ turns) (look_equal c l t parts.0) ∙ ap (λ xs. turn.Ask c l ∷ xs) (looks_equal c looks turns parts.1)
looks_equal c looks turns is = cc

-- the looks are the last turns
abbrev EndWith : (caller : ℕ) → (looks : List Request) → List Turn → Type 0
EndWith c looks turns = (others : List Turn) × (turns ≡ others ++ asks_of c looks)

or_cases : (a b : Bool) → (a || b) ≡ true → (a ≡ true) ⊎ (b ≡ true)
or_cases true b e = inl refl
or_cases false b e = inr e

no_looks : (c : ℕ) (looks : List Request) → is_none looks ≡ true → EndWith c looks []
no_looks c [] is = ([], refl)
no_looks c (l ∷ looks) is = cc

turns_end : (c : ℕ) (looks : List Request) (turns : List Turn) → ends_with_looks c looks turns ≡ true → EndWith c looks turns
turns_end c looks [] is = no_looks c looks is
turns_end c looks (t ∷ turns) is = go (or_cases (are_looks c looks (t ∷ turns)) (ends_with_looks c looks turns) is) (turns_end c looks turns)
  where
    go : (are_looks c looks (t ∷ turns) ≡ true) ⊎ (ends_with_looks c looks turns ≡ true) → (ends_with_looks c looks turns ≡ true → EndWith c looks turns) → EndWith c looks (t ∷ turns)
    go (inl e) rest = ([], looks_equal c looks (t ∷ turns) e)
    go (inr e) rest = let ends = rest e in (t ∷ ends.0, ap (λ xs. t ∷ xs) ends.1)

-- the beginning is the first turns
framed : (c : ℕ) (rs looks : List Request) (turns : List Turn) → is_framed c rs looks turns ≡ true
    → (others : List Turn) × (turns ≡ asks_of c rs ++ (others ++ asks_of c looks))
framed c [] looks turns is = turns_end c looks turns is
framed c (r ∷ rs) looks [] is = cc
framed c (r ∷ rs) looks (t ∷ turns) is =
    let parts = and_parts (is_look c r t) (is_framed c rs looks turns) is in
    let rest = framed c rs looks turns parts.1 in
    (rest.0, ap (λ x. x ∷ turns) (look_equal c r t parts.0) ∙ ap (λ xs. turn.Ask c r ∷ xs) rest.1)

-- ---- the replies to the looker
told_equal : (x : Option Reply) (s : Reply) → is_told x s ≡ true → x ≡ Some s
told_equal None s is = cc
told_equal (Some y) s is = ap Some (replies_equal y s is)

just_told : (xs : List Exchange) (looks : List Request) (shown : List Reply) → is_told_just xs looks shown ≡ true
    → (xs ≡ answered_by looks shown) × (length looks ≡ length shown)
just_told [] [] [] is = (refl, refl)
just_told (x ∷ xs) (l ∷ looks) (s ∷ shown) is =
    let last = and_parts (is_told x.reply s && same_request x.request l) (is_told_just xs looks shown) is in
    let first = and_parts (is_told x.reply s) (same_request x.request l) last.0 in
    let rest = just_told xs looks shown last.1 in
    let told = told_equal x.reply s first.0 in (
      ap (λ y. record x { reply = y } ∷ xs) told
          ∙ ap (λ r. record { request = r; reply = Some s } ∷ xs) (requests_equal x.request l first.1)
          ∙ ap (λ ys. record { request = l; reply = Some s } ∷ ys) rest.0,
      ap suc rest.1,
    )
just_told xs looks shown is = cc

-- the exchanges of the beginning, and those behind it
record IsToldLast (rs : List Request) (xs : List Exchange) (looks : List Request) (shown : List Reply) : Type 0 where
  begun : List Exchange
  begins : requests_in begun ≡ rs
  answered : AreAnswered begun
  told : xs ≡ begun ++ answered_by looks shown
  many : length looks ≡ length shown

last_told : (rs : List Request) (xs : List Exchange) (looks : List Request) (shown : List Reply) → is_told_last rs xs looks shown ≡ true → IsToldLast rs xs looks shown
last_told [] xs looks shown is = let told = just_told xs looks shown is in record { begun = []; begins = refl; answered = tt; told = told.0; many = told.1 }
last_told (r ∷ rs) [] looks shown is = cc
last_told (r ∷ rs) (x ∷ xs) looks shown is =
    let last = and_parts (is_some x.reply && same_request x.request r) (is_told_last rs xs looks shown) is in
    let first = and_parts (is_some x.reply) (same_request x.request r) last.0 in
    let rest = last_told rs xs looks shown last.1 in record {
      begun = x ∷ rest.begun;
      begins = ap (λ q. q ∷ requests_in rest.begun) (requests_equal x.request r first.1) ∙ ap (λ qs. r ∷ qs) rest.begins;
      answered = (some_not_none x.reply first.0, rest.answered);
      told = ap (λ ys. x ∷ ys) rest.told;
      many = rest.many;
    }

is_led : (a : AskedRace) (e : End) (looker : ℕ) (players : List (Option ℕ)) (items : List Item)
    → is_told_last a.race.beginning.items (exchanges_by looker items) a.race.looks.items e.looks.items ≡ true
    → HaveGone a.race.participants.items players (told_lists e.told.items) items → IsLed a e looker players items
is_led a e looker players items told gone =
    let last = last_told a.race.beginning.items (exchanges_by looker items) a.race.looks.items e.looks.items told in
    record { begun = last.begun; begins = last.begins; answered = last.answered; told = last.told; many = last.many; gone = gone }

-- by lists that are the same
pub led_by : (a : AskedRace) (e : End) (looker : ℕ) (players : List (Option ℕ)) (items : List Item) (beginning looks : List Request) (shown : List Reply)
    (participants : List Participant) (given : List (Vec Told)) → beginning ≡ a.race.beginning.items → looks ≡ a.race.looks.items → shown ≡ e.looks.items
    → participants ≡ a.race.participants.items → given ≡ e.told.items → is_told_last beginning (exchanges_by looker items) looks shown ≡ true
    → HaveGone participants players (told_lists given) items → IsLed a e looker players items
led_by a e looker players items beginning looks shown participants given begins looked shows races gives told gone = is_led a e looker players items
    (sym (ap (λ x. is_told_last x (exchanges_by looker items) looks shown) begins
    ∙ ap (λ x. is_told_last a.race.beginning.items (exchanges_by looker items) x shown) looked
    ∙ ap (λ x. is_told_last a.race.beginning.items (exchanges_by looker items) a.race.looks.items x) shows) ∙ told)
    (subst (λ (qs : List Participant). HaveGone qs players (told_lists e.told.items) items) races
    (subst (λ (ts : List (Vec Told)). HaveGone participants players (told_lists ts) items) gives gone))

-- ---- all of it
pub leads : (a : AskedRace) (e : End) (looker : ℕ) (players : List (Option ℕ)) (script : ClusterScript) (found : ClusterRun) → is_of_race a.race looker script ≡ true
    → map is_some players ≡ map is_some a.callers.items → are_apart (Some looker ∷ players) ≡ true
    → IsClusterRun (size_of script.spec) (length script.spec.sets.items) (reconciler_named script.spec.sets.items) (events_by script) found
    → IsLed a e looker players found.run.trace.items.items → LeadsTo a e script
leads a e looker players script found of callers apart run led =
    let race = a.race in
    let second = and_parts (script.spec.capacity == race.capacity && are_sets_of race.participants.items script.spec.sets.items)
    (is_framed looker race.beginning.items race.looks.items script.turns.items) of in
    let first = and_parts (script.spec.capacity == race.capacity) (are_sets_of race.participants.items script.spec.sets.items) second.0 in
    let frame = framed looker race.beginning.items race.looks.items script.turns.items second.1 in record {
      capacity = (Decides-eqb script.spec.capacity race.capacity).0 first.0;
      sets = sets_equal race.participants.items script.spec.sets.items first.1;
      looker = looker;
      others = frame.0;
      turns = frame.1;
      players = players;
      callers = callers;
      apart = all_apart (Some looker ∷ players) apart;
      found = found;
      run = run;
      led = led;
    }
