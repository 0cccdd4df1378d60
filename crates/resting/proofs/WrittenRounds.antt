-- A round that writes one revision puts it in place as the update revision.
use Rattle.std.proofs.Common.{◌≡◌, ◌≢◌, ◌⊎◌, ◌==◌, ◌<◌, inl, inr, ℕ, true, false, cond, List, [], ◌∷◌, reverse, bytes_eq, option_map, unwrap_or, Some, None, Less, Equal, Greater, is_lt, refl, sym, ap, ◌∙◌, subst, true≢false}
use Rattle.std.specs.Prelude.{◌&&◌}
use Rattle.std.specs.FinMap as finite
use Rattle.std.specs.Cmp.Lexicographic.{slice_cmp}
use Rattle.std.specs.List.{AllByRecursion}
use Rattle.std.specs.Ordering.{nat_cmp, ordering_then}
use Rattle.std.proofs.lemmas.Bool.{lt-ltb}
use Rattle.std.proofs.lemmas.Option.{same_Some}
use Rattle.std.proofs.lemmas.Slice.Eq.{bytes_eq-Decides}
use Rattle.serde_json.specs.Data.{Members}
use Rattle.objects.specs.declared.key.Key.{Key}
use Rattle.objects.specs.declared.kind.Kind.{Kind}
use Rattle.objects.specs.declared.kind.Kind.TheVariants.{ControllerRevision, Pod, StatefulSet}
use Rattle.objects.specs.declared.object.Object.{Object}
use Rattle.objects.specs.Key.{key_parts, kind_index}
use Rattle.objects.specs.Metadata.{owners_of}
use Rattle.requests.specs.declared.request.Request.{Request}
use Rattle.requests.specs.Keys.{key_named}
use Rattle.requests.specs.Lists.{Has as Among}
use Rattle.set_views.specs.Firsts.{is_held}
use Rattle.set_views.specs.Owners.{is_controlled}
use Rattle.set_views.specs.Set.{SetParts}
use Rattle.set_views.specs.SetReading.{set_of}
use Rattle.revisions.specs.Choice.{data_with, has_data, named_current}
use Rattle.revisions.specs.Revision.{listed, number_of, owned_among, owns_revision, revision_cmp}
use Rattle.pod_steps.specs.Listed.{replica_of}
use Rattle.convergence.specs.Rounds.{tended}
use Rattle.rounds.specs.Kubelet.{turn_requests_of}
use Rattle.plain_store.specs.AtKey.{Has}
use Rattle.plain_store.specs.Filed.{AreFiled}
use Rattle.plain_store.specs.Run.{after}
use Rattle.plain_store.specs.Store.{Store, collection, is_of, step}
use Rattle.plain_store.proofs.OneKey.{step_elsewhere}
use Rattle.rounds.specs.Accepted.{succeeded}
use Rattle.rounds.specs.Phase.{Phase}
use Rattle.rounds.specs.Reconciler.{Reconciler}
use Rattle.sets.specs.PlanOfLists.{owned_of}
use Rattle.sets.proofs.Owned.{total}
use Rattle.controllers.specs.Reconciler.{reconciler_with}
use Rattle.resting.specs.Accepting.{AreAccepted}
use Rattle.resting.specs.Acting.{IsReadIn, after_turn, planned_requests}
use Rattle.resting.specs.RoundsOver.{IsAlike, IsInPlace, IsRoundOver}
use Rattle.resting.specs.Still.{plan_over}
use Rattle.resting.specs.WholeRounds.{after_round}
use Rattle.resting.proofs.Choices.{IsNewest, in_place_by}
use Rattle.resting.proofs.Collections.{others_stay, same_found_at}
use Rattle.resting.proofs.Newest.{among_reverse, ascends, last_is}
use Rattle.resting.proofs.OwnedAgain.{IsOwnedIn, key_is, kind_of, owned_back, owned_there, revisions_in, there_owned}
use Rattle.resting.proofs.Pairs.{in_reverse}
use Rattle.resting.proofs.PlainPods.{none_plain, plain}
use Rattle.resting.proofs.PlansOnPods.{filed_run}
use Rattle.resting.proofs.ReadAgain.{IsLike, IsOnStatus, like_itself, read_again, stays_like}
use Rattle.resting.proofs.RoundsOver.{IsHere, alike_on, read_as_before, same_read, seen_by}
use Rattle.resting.proofs.Turns.{turn_is_over}
use Rattle.resting.proofs.TurnsOnPods.{own, own_at, turn_at}
use Rattle.resting.proofs.WholeRounds.{controller_round, plan_over_is}

less_number : (g h : Object) → number_of g < number_of h → is_lt (revision_cmp g h) ≡ true
less_number g h less =
    ap (λ b. is_lt (ordering_then (cond b Less (cond (number_of g == number_of h) Equal Greater)) (slice_cmp nat_cmp g.key.name h.key.name))) (lt-ltb (number_of g) (number_of h) less)

-- the request makes this revision of a store's set the newest one of its template
pub record Writes (s : Store) (now : SetParts) (r : Request) (chosen : Object) : Type 0 where
  pub names : key_named r ≡ Some chosen.key
  pub accept : succeeded r (step s r).1 ≡ true
  pub made : Has (step s r).0 chosen.key chosen
  pub near : is_of ControllerRevision now.object.key.namespace chosen.key ≡ true
  pub controlled : owns_revision now chosen ≡ true
  pub data_is : has_data (data_with now.template) chosen ≡ true
  pub above : (x : Object) → Among x (owned_of now (revisions_in s now)) → number_of x < number_of chosen

module _ (set : SetParts) (digits : ℕ) (s t : Store) (round : IsRoundOver set digits s t) (r : Request) (chosen : Object) (is_sent : planned_requests round.now digits round.moment s ≡ r ∷ []) (writes : Writes s round.now r chosen) where
  abbrev now : SetParts
  now = round.now

  abbrev c : Reconciler
  c = reconciler_with now.object.key digits round.moment

  abbrev space : List ℕ
  space = now.object.key.namespace

  abbrev sent : List Request
  sent = plan_over c s now.object

  sent_is : sent ≡ r ∷ []
  sent_is = plan_over_is now digits round.moment s round.is_read.read ∙ is_sent

  accepted : AreAccepted s (planned_requests now digits round.moment s)
  accepted = subst (AreAccepted s) (sym is_sent) (writes.accept, tt)

  between_is : round.between ≡ after_round c s now.object
  between_is = ap (λ (x : Store × Phase). x.0) (sym round.ends ∙ controller_round now digits round.moment s round.is_read.there round.is_read.read accepted)

  chosen_kind : chosen.key.kind ≡ ControllerRevision
  chosen_kind = kind_of space chosen.key writes.near

  -- the pods are as they were, until a kubelet tends them
  between_pods : (k : Key) → k.kind ≡ Pod → finite.get round.between.objects k ≡ finite.get s.objects k
  between_pods k pod =
      let other : Some k ≢ key_named r = λ same.
      let clash : Pod ≡ ControllerRevision = sym pod ∙ (ap (λ (q : Key). q.kind) (same_Some k chosen.key (same ∙ writes.names)) ∙ chosen_kind) in
      absurd (cc) in
      ap (λ (x : Store). finite.get x.objects k) between_is
      ∙ (others_stay now.object.key (after s sent) (filed_run s sent round.may_act.filed) digits round.moment Pod k refl pod
      ∙ (ap (λ (rs : List Request). finite.get (after s rs).objects k) sent_is ∙ step_elsewhere s r k other))

  tended_only : (update current : List ℕ) (i : ℕ) → own_at now update current t i ≡ tended (own_at now update current s i)
  tended_only update current i =
      let same = same_found_at now s round.between i round.may_act.filed round.may_turn.filed between_pods in
      ap (λ (x : Store). own_at now update current x i) round.left
      ∙ (turn_at now update current round.between (after_turn space round.between) round.may_turn.filed (turn_is_over round.between space round.may_turn) i
      ∙ ap (λ found. tended (own (option_map (replica_of now update current) found))) same)

  alike_before : IsHere set [] [] digits s → IsAlike set now
  alike_before before =
      let Q : SetParts → Type 0 = λ x. IsAlike set x in
      subst Q (same_read set [] [] digits s before.0 now before.1 round.is_read (round.key_is ∙ sym before.2.key)) before.2

  -- no pod is where there was none
  pub none_then : (update current : List ℕ) → IsHere set [] [] digits s → (i : ℕ) → option_map plain (own_at set update current s i) ≡ None → option_map plain (own_at set update current t i) ≡ None
  none_then update current before i gone =
      let alike = alike_before before in
      let none : own_at now update current s i ≡ None = none_plain (own_at now update current s i) (seen_by set update current digits now update current s i alike refl ∙ gone) in
      sym (seen_by set update current digits now update current t i alike refl) ∙ ap (option_map plain) (tended_only update current i ∙ ap tended none)

  -- neither a collection nor a kubelet is about such a kind
  through : (kind : Kind) (k : Key) → kind_index kind == kind_index Pod ≡ false → kind_index kind == 2 ≡ false → k.kind ≡ kind → finite.get t.objects k ≡ finite.get (step s r).0.objects k
  through kind k not_pod not_claim is =
      let filed : AreFiled (after s sent).objects = filed_run s sent round.may_act.filed in
      let turn = turn_is_over round.between space round.may_turn in
      let no_pod : is_of Pod space k ≡ false = ap (λ (x : Kind). kind_index x == kind_index Pod && bytes_eq k.namespace space) is ∙ ap (λ b. b && bytes_eq k.namespace space) not_pod in
      let by_turn : finite.get t.objects k ≡ finite.get round.between.objects k = ap (λ (x : Store). finite.get x.objects k) round.left ∙ turn.others k no_pod in
      let by_round : finite.get round.between.objects k ≡ finite.get (after_round c s now.object).objects k = ap (λ (x : Store). finite.get x.objects k) between_is in
      let by_collection : finite.get (after_round c s now.object).objects k ≡ finite.get (after s sent).objects k = others_stay now.object.key (after s sent) filed digits round.moment kind k not_claim is in
      let by_plan : finite.get (after s sent).objects k ≡ finite.get (step s r).0.objects k = ap (λ (rs : List Request). finite.get (after s rs).objects k) sent_is in
      by_turn ∙ (by_round ∙ (by_collection ∙ by_plan))

  filed_then : AreFiled t.objects
  filed_then =
      let P : Store → Type 0 = λ x. AreFiled x.objects in
      subst P (sym round.left) (filed_run round.between (turn_requests_of (collection round.between.objects Pod space)) round.may_turn.filed)

  here : Has t chosen.key chosen
  here = through ControllerRevision chosen.key refl refl chosen_kind ∙ writes.made

  not_of_set : Some now.object.key ≡ key_named r → ⊥
  not_of_set same =
      let clash : StatefulSet ≡ ControllerRevision = sym round.may_act.kind ∙ (ap (λ (q : Key). q.kind) (same_Some now.object.key chosen.key (same ∙ writes.names)) ∙ chosen_kind) in
      absurd (cc)

  on_status : AllByRecursion (IsOnStatus now round.is_read.read) (r ∷ [])
  on_status = (inl not_of_set, tt)

  like_then : IsLike now round.is_read.read t
  like_then =
      let first : IsLike now round.is_read.read (step s r).0 = stays_like now round.is_read.read s (r ∷ []) on_status (like_itself now round.is_read.read s round.is_read.there) in
      (first.0, through StatefulSet now.object.key refl refl round.may_act.kind ∙ first.1, first.2)

  module _ (next : SetParts) (is_read : IsReadIn t next) (key : next.object.key ≡ set.object.key) where
    read_then : IsAlike now next × (next.template ≡ now.template)
    read_then = read_as_before now next round.is_read.read t like_then is_read (key ∙ sym round.key_is)

    alike : IsAlike now next
    alike = read_then.0

    template : next.template ≡ now.template
    template = read_then.1

    abbrev owned_then : List Object
    owned_then = owned_of next (revisions_in t next)

    chosen_then : Among chosen owned_then
    chosen_then =
        let near : is_of ControllerRevision next.object.key.namespace chosen.key ≡ true = ap (λ (k : Key). is_of ControllerRevision k.namespace chosen.key) alike.key ∙ writes.near in
        let controlled : owns_revision next chosen ≡ true = ap (λ (n : ℕ). is_controlled n (owners_of chosen.body)) alike.uid ∙ writes.controlled in
        there_owned t next filed_then chosen (here, near, controlled)

    was_there : (o : Object) → IsOwnedIn t next o → (o ≡ chosen) ⊎ Has s o.key o
    was_there o is =
        let near : is_of ControllerRevision space o.key ≡ true = ap (λ (k : Key). is_of ControllerRevision k.namespace o.key) (sym alike.key) ∙ is.1 in
        let at : Has (step s r).0 o.key o = sym (through ControllerRevision o.key refl refl (kind_of space o.key near)) ∙ is.0 in
        elim (bytes_eq o.key.name chosen.key.name) as (λ b. bytes_eq o.key.name chosen.key.name ≡ b → (o ≡ chosen) ⊎ Has s o.key o) [
          | true ↦ λ e.
              let names : o.key.name ≡ chosen.key.name = (bytes_eq-Decides o.key.name chosen.key.name).0 e in
              let keys : o.key ≡ chosen.key = key_is space o.key near ∙ (ap (key_parts ControllerRevision space) names ∙ sym (key_is space chosen.key writes.near)) in
              inl (same_Some o chosen (sym at ∙ (ap (finite.get (step s r).0.objects) keys ∙ writes.made)))
          | false ↦ λ e.
              let other : Some o.key ≢ key_named r = λ same.
              true≢false (sym ((bytes_eq-Decides o.key.name chosen.key.name).1 (ap (λ (q : Key). q.name) (same_Some o.key chosen.key (same ∙ writes.names)))) ∙ e) in
              inr (sym (step_elsewhere s r o.key other) ∙ at)
        ] refl

    -- the last one is no other
    not_below : (g : Object) (others : List Object) → reverse owned_then ≡ g ∷ others → Has s g.key g → IsOwnedIn t next g → g ≡ chosen
    unfolding owned_of
    not_below g others last at is =
        let old : Among g (owned_of now (revisions_in s now)) = there_owned s now round.may_act.filed g (owned_back s t now next g alike is at) in
        let below : is_lt (revision_cmp g chosen) ≡ true = less_number g chosen (writes.above g old) in
        let not_so : is_lt (revision_cmp g chosen) ≡ false = last_is revision_cmp total owned_then g others (ascends revision_cmp total (owned_among next (revisions_in t next))) last chosen chosen_then in
        absurd (true≢false (sym below ∙ not_so))

    same_one : (g : Object) (others : List Object) → reverse owned_then ≡ g ∷ others → g ≡ chosen
    same_one g others last =
        let is = owned_there t next filed_then g (in_reverse owned_then g (subst (Among g) (sym last) (inl refl))) in
        elim (was_there g is) [
          | inl same ↦ same
          | inr at ↦ not_below g others last at is
        ]

    none_is_last : reverse owned_then ≡ [] → ⊥
    none_is_last none = subst (Among chosen) none (among_reverse owned_then chosen chosen_then)

    newest_then : IsNewest (data_with next.template) owned_then chosen
    newest_then =
        elim (reverse owned_then) as (λ x. reverse owned_then ≡ x → IsNewest (data_with next.template) owned_then chosen) [
          | [] ↦ λ e. absurd (none_is_last e)
          | g ∷ others ↦ λ e. record {
            older = others;
            last = e ∙ ap (λ x. x ∷ others) (same_one g others e);
            data_is = ap (λ (m : Members). has_data (data_with m) chosen) template ∙ writes.data_is;
          }
        ] refl

  pub written_in_place : IsInPlace set digits chosen t
  written_in_place next parts read key are =
      let owned = owned_of next (revisions_in t next) in
      (owned, unwrap_or (named_current next owned) chosen, in_place_by next (is_held (listed next (revisions_in t next))) digits owned chosen parts (newest_then next read key) are)

  -- the set is read again as it was
  pub here_written : IsHere set [] [] digits s → IsHere set [] [] digits t
  here_written before =
      let again = read_again now.object like_then.0 now round.is_read.read like_then.2 in
      let next : SetParts = again.0 in
      let object : next.object ≡ like_then.0 = again.1.object in
      let P : Object → Type 0 = λ x. Has t next.object.key x in
      let alike_now = alike_before before in (
        next,
        record {
          there = subst P (sym object) (ap (finite.get t.objects) again.1.alike.key ∙ like_then.1);
          read = ap set_of object ∙ again.1.read;
        },
        alike_on set now next alike_now again.1.alike,
      )
