use Rattle.std.proofs.Common.{◌≡◌, [], ◌∷◌, Option, Some, nat_eq, refl, ap, ◌∙◌}
use Rattle.std.specs.Prelude.{None, ◌&&◌}
use Rattle.std.specs.FinMap.{get-empty}
use Rattle.std.specs.FinMap as map
use Rattle.objects.specs.declared.object.Object.{Object}
use Rattle.objects.specs.Key.{key_cmp}
use Rattle.requests.specs.declared.reply.Reply.{Reply}
use Rattle.requests.specs.declared.reply.Reply.TheVariants.{Refused}
use Rattle.requests.specs.declared.reply.Reason.TheVariants.{NotFound}
use Rattle.plain_store.specs.Route.{route}
use Rattle.plain_store.specs.Store.{found, step}
use Rattle.interleavings.specs.declared.event.Event.TheVariants as event
use Rattle.interleavings.specs.Step.{reads, with_part}
use Rattle.interleavings.specs.World.{changed, shard}
use Rattle.interleavings.proofs.Values.{find_or, get_part}
use Rattle.rounds.specs.Examples.{one_replica, web}
use Rattle.rounds.specs.Phase.{asks, takes}
use Rattle.cluster_runs.specs.declared.event.ClusterEvent.TheVariants.{Next, Step}
use Rattle.cluster_runs.specs.Cluster.{hand, hears, lowest_unused, run, delivered}
use Rattle.cluster_runs.specs.Examples.{cluster_after, get, size}
use Rattle.cluster_runs.proofs.examples.short_clusters.Goals as goal

no_set : delivered size (event.Call 0 get ∷ event.Read 0 ∷ event.Part 0 ∷ []) (event.Reply 0) ≡ Some (Refused NotFound)
unfolding route step with_part changed shard delivered find_or
no_set =
    ap (λ (o : Option Object). Some (found o))
    (get_part (λ i. None) 0 (λ k. reads (route get) k && nat_eq (shard size k) (shard size web.key)) map.empty web.key ∙ get-empty key_cmp web.key)

pub returns-clause-reply_is_heard : goal.returns-clause-reply_is_heard
unfolding route step with_part changed shard asks takes
returns-clause-reply_is_heard c =
    let k = cluster_after (Next 0 ∷ Step (event.Read 0) ∷ Step (event.Part 0) ∷ []) in
    ap (λ (reply : Option Reply). (run size 1 (λ c. one_replica) (hand (hears (λ c. one_replica) k (Some 0) reply) (event.Reply 0)) (Next 0 ∷ [])).events) no_set

pub returns-clause-crash_in_a_read : goal.returns-clause-crash_in_a_read
unfolding route step changed asks lowest_unused
returns-clause-crash_in_a_read c = refl

pub returns-clause-beside_another : goal.returns-clause-beside_another
unfolding route step changed asks lowest_unused
returns-clause-beside_another c = refl

pub returns-clause-nothing_but_a_call : goal.returns-clause-nothing_but_a_call
unfolding route step changed asks
returns-clause-nothing_but_a_call c = refl

pub returns-clause-incarnations : goal.returns-clause-incarnations
unfolding route step changed asks lowest_unused
returns-clause-incarnations c = refl
