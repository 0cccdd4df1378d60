-- After a round over a store the update revision is the same one.
use Rattle.std.proofs.Common.{◌≡◌, ◌==◌, inl, inr, ℕ, Bool, false, List, [], ◌∷◌, reverse, bytes_eq, unwrap_or, Some, None, Ok, Ordering, Less, Equal, Greater, refl, sym, ap, ◌∙◌, subst, true≢false}
use Rattle.std.specs.Prelude.{◌&&◌}
use Rattle.std.specs.FinMap as finite
use Rattle.std.specs.Cmp.Lexicographic.{slice_cmp}
use Rattle.std.specs.List.{AllByRecursion}
use Rattle.std.specs.Ordering.{is_eq, nat_cmp, ordering_then}
use Rattle.std.proofs.lemmas.Map.Lookups.{exact_bytes}
use Rattle.serde_json.specs.Data.{Members}
use Rattle.objects.specs.declared.key.Key.{Key}
use Rattle.objects.specs.declared.kind.Kind.{Kind}
use Rattle.objects.specs.declared.kind.Kind.TheVariants.{ControllerRevision, Pod}
use Rattle.objects.specs.declared.object.Object.{Object}
use Rattle.objects.specs.Key.{kind_index}
use Rattle.requests.specs.declared.request.Request.{Request}
use Rattle.requests.specs.Lists.{Has as Among}
use Rattle.set_views.specs.Set.{SetParts}
use Rattle.revisions.specs.Choice.{data_with, has_data, named_current}
use Rattle.revisions.specs.Plan.{PlanParts, plan_of, settled}
use Rattle.revisions.specs.Revision.{number_of, owned_among, revision_cmp}
use Rattle.rounds.specs.Kubelet.{turn_requests_of}
use Rattle.plain_store.specs.AtKey.{Has}
use Rattle.plain_store.specs.Filed.{AreFiled}
use Rattle.plain_store.specs.Run.{after}
use Rattle.plain_store.specs.Store.{Store, collection, is_of}
use Rattle.sets.specs.PlanOfLists.{owned_of}
use Rattle.sets.proofs.Owned.{total}
use Rattle.controllers.specs.Reconciler.{reconciler_with}
use Rattle.rounds.specs.Reconciler.{Reconciler}
use Rattle.resting.specs.Acting.{IsReadIn, planned_requests}
use Rattle.resting.specs.RoundsOver.{IsAlike}
use Rattle.resting.specs.Still.{plan_over}
use Rattle.resting.specs.WholeRounds.{after_round}
use Rattle.resting.proofs.Acts.{IsElsewhere, untouched}
use Rattle.resting.proofs.Choices.{IsNewest, in_place_by}
use Rattle.resting.proofs.Collections.{others_stay}
use Rattle.resting.proofs.Newest.{among_reverse, same_last}
use Rattle.resting.proofs.OwnedAgain.{kind_of, one_of_name, owned_back, owned_by, owned_there, revisions_in, there_owned}
use Rattle.resting.proofs.Pairs.{in_reverse}
use Rattle.resting.proofs.PlansOnPods.{filed_run}
use Rattle.resting.proofs.RoundsOver.{IsPlacedRound, between_is, like_then, read_as_before}
use Rattle.resting.proofs.Turns.{turn_is_over}
use Rattle.resting.proofs.UpdateStays.{SparesOrTakes, kept_or_gone, newest, spared_or_taken, update_elsewhere, update_there}
use Rattle.resting.proofs.WholeRounds.{plan_over_is}

second_ties : (a b : Ordering) → ordering_then a b ≡ Equal → b ≡ Equal
second_ties Less b h = absurd (true≢false (sym (ap is_eq h)))
second_ties Equal b h = h
second_ties Greater b h = absurd (true≢false (sym (ap is_eq h)))

module _ (set : SetParts) (update : List ℕ) (digits : ℕ) (s t : Store) (round : IsPlacedRound set update digits s t) where
  abbrev now : SetParts
  now = round.now

  abbrev c : Reconciler
  c = reconciler_with now.object.key digits round.moment

  abbrev space : List ℕ
  space = now.object.key.namespace

  abbrev chosen : Object
  chosen = round.plan.update

  abbrev sent : List Request
  sent = plan_over c s now.object

  -- only the plan is about revisions
  through : (k : Key) → k.kind ≡ ControllerRevision → finite.get t.objects k ≡ finite.get (after s sent).objects k
  through k kind =
      let filed : AreFiled (after s sent).objects = filed_run s sent round.may_act.filed in
      let turn = turn_is_over round.between space round.may_turn in
      let no_pod : is_of Pod space k ≡ false = ap (λ (x : Kind). kind_index x == kind_index Pod && bytes_eq k.namespace space) kind in
      let by_turn : finite.get t.objects k ≡ finite.get round.between.objects k = ap (λ (x : Store). finite.get x.objects k) round.left ∙ turn.others k no_pod in
      let by_round : finite.get round.between.objects k ≡ finite.get (after_round c s now.object).objects k = ap (λ (x : Store). finite.get x.objects k) (between_is set update update digits s t round) in
      by_turn ∙ (by_round ∙ others_stay now.object.key (after s sent) filed digits round.moment ControllerRevision k refl kind)

  in_sent : (P : Request → Type 0) → AllByRecursion P (planned_requests now digits round.moment s) → AllByRecursion P sent
  in_sent P all = subst (AllByRecursion P) (sym (plan_over_is now digits round.moment s round.is_read.read)) all

  update_here : Has t chosen.key chosen
  update_here =
      let at = update_there now digits round.moment s round.plan round.is_time round.may_act round.is_read.there round.is_read.read in
      through chosen.key (kind_of space chosen.key at.1)
      ∙ (untouched s chosen.key sent (in_sent (IsElsewhere chosen.key) (update_elsewhere now digits round.moment s round.plan round.is_time round.may_act round.is_read.there round.is_read.read)) ∙ at.0)

  was_there : (o : Object) → o.key.kind ≡ ControllerRevision → Has t o.key o → Has s o.key o
  was_there o kind here =
      elim (kept_or_gone o.key s sent (in_sent (SparesOrTakes o.key) (spared_or_taken now digits round.moment s round.plan round.is_time round.may_act round.is_read.there round.is_read.read o.key kind))) [
        | inl same ↦ sym same ∙ (sym (through o.key kind) ∙ here)
        | inr none ↦ let clash : None ≡ Some o = sym none ∙ (sym (through o.key kind) ∙ here) in absurd (cc)
      ]

  pub filed_then : AreFiled t.objects
  filed_then =
      let P : Store → Type 0 = λ x. AreFiled x.objects in
      subst P (sym round.left) (filed_run round.between (turn_requests_of (collection round.between.objects Pod space)) round.may_turn.filed)

  module _ (next : SetParts) (is_read : IsReadIn t next) (key : next.object.key ≡ set.object.key) where
    read_then : IsAlike now next × (next.template ≡ now.template)
    read_then = read_as_before now next round.is_read.read t (like_then set update update digits s t round) is_read (key ∙ sym round.key_is)

    pub alike : IsAlike now next
    alike = read_then.0

    template : next.template ≡ now.template
    template = read_then.1

    abbrev owned_then : List Object
    owned_then = owned_of next (revisions_in t next)

    abbrev owned_now : List Object
    owned_now = owned_of now (revisions_in s now)

    pub part : (o : Object) → Among o owned_then → Among o owned_now
    part o at =
        let is = owned_there t next filed_then o at in
        there_owned s now round.may_act.filed o (owned_back s t now next o alike is (was_there o (kind_of next.object.key.namespace o.key is.1) is.0))

    pub update_then : Among chosen owned_then
    update_then =
        there_owned t next filed_then chosen
        (owned_by s t now next chosen alike (update_there now digits round.moment s round.plan round.is_time round.may_act round.is_read.there round.is_read.read) update_here)

    ties : (g : Object) (others : List Object) → reverse owned_then ≡ g ∷ others → revision_cmp g chosen ≡ Equal
    unfolding owned_of
    ties g others last =
        let n = newest now digits round.moment s round.plan round.is_time round.may_act round.is_read.there round.is_read.read in
        same_last revision_cmp total (owned_among now (revisions_in s now)) (owned_among next (revisions_in t next)) chosen g n.older others n.last last part update_then

    same_one : (g : Object) (others : List Object) → reverse owned_then ≡ g ∷ others → g ≡ chosen
    same_one g others last =
        let at : Among g owned_then = in_reverse owned_then g (subst (Among g) (sym last) (inl refl)) in
        let names : g.key.name ≡ chosen.key.name = exact_bytes g.key.name chosen.key.name (second_ties (nat_cmp (number_of g) (number_of chosen)) (slice_cmp nat_cmp g.key.name chosen.key.name) (ties g others last)) in
        one_of_name t next g chosen (owned_there t next filed_then g at) (owned_there t next filed_then chosen update_then) names

    none_is_last : (xs : List Object) (x : Object) → Among x xs → reverse xs ≡ [] → ⊥
    none_is_last xs x at none = subst (Among x) none (among_reverse xs x at)

    newest_then : IsNewest (data_with next.template) owned_then chosen
    newest_then =
        let n = newest now digits round.moment s round.plan round.is_time round.may_act round.is_read.there round.is_read.read in
        elim (reverse owned_then) as (λ r. reverse owned_then ≡ r → IsNewest (data_with next.template) owned_then chosen) [
          | [] ↦ λ e. absurd (none_is_last owned_then chosen update_then e)
          | g ∷ others ↦ λ e. record {
            older = others;
            last = e ∙ ap (λ x. x ∷ others) (same_one g others e);
            data_is = ap (λ (m : Members). has_data (data_with m) chosen) template ∙ n.data_is;
          }
        ] refl

    pub stays_in_place : (held : List ℕ → Bool) (count : ℕ) (parts : PlanParts) → plan_of next held count owned_then ≡ Ok parts → parts ≡ settled owned_then (unwrap_or (named_current next owned_then) chosen) chosen
    stays_in_place held count parts is = in_place_by next held count owned_then chosen parts newest_then is
