use Rattle.std.proofs.Common.{◌≡◌, ℕ, take, ◌<◌, ◌^◌, decimal}
use Rattle.std.specs.List.{filter_map}
use Rattle.objects.specs.PodNames.{claim_name}
use Rattle.claims.specs.Listed.{found_in}
use Rattle.claims.specs.Pods.{claims_in, under}
use Rattle.claims.proofs.pods.by_pod.Given as goal

abbrev pub invariant-loop-template : goal.invariant-loop-template
invariant-loop-template l = (ordinal : ℕ) → ordinal < 2 ^ 32
    → claims_in (under l.pods (decimal ordinal)) ≡ filter_map (λ c. found_in l.claims (claim_name c.0 l.set.object.key.name ordinal)) (take l.template-index l.set.claims.items)
