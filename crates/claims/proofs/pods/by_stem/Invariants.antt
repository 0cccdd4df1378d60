use Rattle.std.proofs.Common.{◌≡◌, ℕ, List, map, ◌<◌, ◌^◌, decimal}
use Rattle.std.specs.Map.Iter.{deref_pair}
use Rattle.objects.specs.PodNames.{pod_name}
use Rattle.claims.specs.Pods.{with_digits, under}
use Rattle.claims.proofs.PodClaims.{named}
use Rattle.claims.proofs.pods.by_stem.Given as goal

abbrev pub invariant-loop-name : goal.invariant-loop-name
invariant-loop-name l = (stem : List ℕ) (ordinal : ℕ) → ordinal < 2 ^ 32 → with_digits (decimal ordinal) (under l.stems stem) ≡ named (pod_name stem ordinal) (map deref_pair l.yielded)
