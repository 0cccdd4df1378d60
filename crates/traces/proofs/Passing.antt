-- What becomes of a controller that follows a caller.
use Rattle.std.proofs.Common.{◌≡◌, ℕ, Bool, true, false, ◌==◌, cond, List, Option, Some, None, Result, Ok, Err, refl, sym, ap, ◌∙◌, subst, eq-eqb, ne_eqb, arith}
use Rattle.std.specs.Prelude.{IfSome}
use Rattle.std.specs.BTreeMap.{Updates, get}
use Rattle.std.specs.Option.{option_map_or}
use Rattle.std.specs.Ordering.{is_eq, nat_cmp}
use Rattle.std.proofs.lemmas.Bool.Decides.{nat_tests}
use Rattle.interleavings.proofs.Basics.{Compared, same, other, compare}
use Rattle.objects.specs.declared.key.Key.{Key}
use Rattle.objects.specs.declared.object.Object.{Object}
use Rattle.requests.specs.declared.request.Request.{Request}
use Rattle.requests.specs.declared.reply.Reply.{Reply}
use Rattle.requests.specs.declared.reply.Reply.TheVariants.{Listed}
use Rattle.set_views.specs.declared.fault.PlanError.{PlanError}
use Rattle.rounds.specs.Phase.{Phase, acts, listing_claims, listing_old_claims, reading_set, takes}
use Rattle.rounds.specs.World.{put}
use Rattle.controllers.specs.Planned.{or_none, requested, why_not}
use Rattle.controllers.specs.Reconciler.{reconciler_with}
use Rattle.controllers.specs.declared.controller.Controller.{Controller}
use Rattle.controllers.specs.declared.set_spec.SetSpec.{SetSpec}
use Rattle.controllers.specs.Cluster.{reconciler_for}
use Rattle.controllers.specs.Controller.{phase_of, reconciler_of, refusal_after, refusals_of, refusals_with}
use Rattle.traces.specs.RefusedPlans.{Owners, set_of}
use Rattle.traces.specs.Standing.{AreMade, HasHeard, IsMadeOf, Standing, phases_in}

-- ---- a refused plan leaves a controller in the phase in which it collects next
nothing_left : (planned : Result (List Request) PlanError) (e : PlanError) → why_not planned ≡ Some e → acts (or_none planned) ≡ listing_old_claims
nothing_left (Ok requests) e h = absurd cc
nothing_left (Err d) e h = refl

module _ (key : Key) (digits : ℕ) (moment : List ℕ) (e : PlanError) where
  at_claims : (set : Object) (revisions pods : List Object) (reply : Reply) → refusal_after (refusals_with digits moment) (listing_claims set revisions pods) reply None ≡ Some e
      → takes (reconciler_with key digits moment) (listing_claims set revisions pods) reply ≡ listing_old_claims
  unfolding takes
  at_claims set revisions pods (Listed claims at) h = nothing_left (requested set digits moment revisions pods claims) e h
  at_claims set revisions pods reply h = absurd cc

  refusal_ends : (phase : Phase) (reply : Reply) → refusal_after (refusals_with digits moment) phase reply None ≡ Some e → takes (reconciler_with key digits moment) phase reply ≡ listing_old_claims
  refusal_ends (listing_claims set revisions pods) reply h = at_claims set revisions pods reply h
  refusal_ends phase reply h = absurd cc

pub passed_over : (controller : Controller) (reply : Reply) (e : PlanError) → refusal_after (refusals_of controller) (phase_of controller) reply None ≡ Some e
    → takes (reconciler_of controller) (phase_of controller) reply ≡ listing_old_claims
unfolding reconciler_of refusals_of
passed_over controller reply e h = refusal_ends controller.set controller.digits controller.moment e (phase_of controller) reply h

-- ---- the map of the controllers
tied : (m n : ℕ) → is_eq (nat_cmp m n) ≡ (m == n)
tied m n = grind (arith, nat_tests)

pub removed : (old new : Standing) (caller : ℕ) → Updates nat_cmp old new caller None → (n : ℕ) → get nat_cmp new n ≡ cond (caller == n) None (get nat_cmp old n)
removed old new caller updates n = updates.0 n ∙ ap (λ b. cond b None (get nat_cmp old n)) (tied caller n)

put_back : {X : Type 0} (b : Bool) (x : X) (o : Option X) → cond b (Some x) (cond b None o) ≡ cond b (Some x) o
put_back true x o = refl
put_back false x o = refl

pub replaced : (old mid new : Standing) (caller : ℕ) (now : Controller) → ((n : ℕ) → get nat_cmp mid n ≡ cond (caller == n) None (get nat_cmp old n))
    → Updates nat_cmp mid new caller (Some now) → (n : ℕ) → get nat_cmp new n ≡ cond (caller == n) (Some now) (get nat_cmp old n)
replaced old mid new caller now rest updates n =
    updates.0 n ∙ ap (λ b. cond b (Some now) (get nat_cmp mid n)) (tied caller n)
    ∙ ap (λ o. cond (caller == n) (Some now) o) (rest n) ∙ put_back (caller == n) now (get nat_cmp old n)

module _ (spec : SetSpec) (caller : ℕ) (reply : Reply) (old new : Standing) (heard : HasHeard spec caller reply old new) where
  abbrev next : Phase
  next = takes (reconciler_for spec) (phases_in old caller) reply

  pub heard_phases : (n : ℕ) → phases_in new n ≡ put (phases_in old) caller next n
  heard_phases n = ap (λ o. option_map_or phase_of o reading_set) (heard.entries n) ∙ by (compare caller n)
    where
      by : Compared caller n → option_map_or phase_of (cond (caller == n) (Some heard.now) (get nat_cmp old n)) reading_set ≡ put (phases_in old) caller next n
      by (same e b) =
          ap (λ t. option_map_or phase_of (cond t (Some heard.now) (get nat_cmp old n)) reading_set) b ∙ heard.phase
          ∙ sym (ap (λ t. cond t next (phases_in old n)) (eq-eqb n caller (sym e)))
      by (other ne b) =
          ap (λ t. option_map_or phase_of (cond t (Some heard.now) (get nat_cmp old n)) reading_set) b
          ∙ sym (ap (λ t. cond t next (phases_in old n)) (ne_eqb n caller (λ e. ne (sym e))))

  pub heard_made : (owners : Owners) (sets : List SetSpec) → set_of sets (owners caller) ≡ Some spec → AreMade owners sets old → AreMade owners sets new
  heard_made owners sets is made n = subst (λ o. IfSome o (IsMadeOf (set_of sets (owners n)))) (sym (heard.entries n)) (by (compare caller n))
    where
      by : Compared caller n → IfSome (cond (caller == n) (Some heard.now) (get nat_cmp old n)) (IsMadeOf (set_of sets (owners n)))
      by (same e b) =
          subst (λ t. IfSome (cond t (Some heard.now) (get nat_cmp old n)) (IsMadeOf (set_of sets (owners n)))) (sym b)
          (subst (λ o. IsMadeOf o heard.now) (sym (ap (λ i. set_of sets (owners i)) (sym e) ∙ is)) heard.is_of)
      by (other ne b) = subst (λ t. IfSome (cond t (Some heard.now) (get nat_cmp old n)) (IsMadeOf (set_of sets (owners n)))) (sym b) (made n)

-- ---- no controller got a reply
pub put_self : (phases : ℕ → Phase) (caller n : ℕ) → phases n ≡ put phases caller (phases caller) n
put_self phases caller n = by (compare n caller)
  where
    by : Compared n caller → phases n ≡ put phases caller (phases caller) n
    by (same e b) = ap phases e ∙ sym (ap (λ t. cond t (phases caller) (phases n)) b)
    by (other ne b) = sym (ap (λ t. cond t (phases caller) (phases n)) b)
