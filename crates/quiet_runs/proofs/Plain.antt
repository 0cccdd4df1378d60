-- The plain store of a world, as the proofs of the interleaved store have it.
use Rattle.std.proofs.Common.{◌≡◌, ◌+◌, ◌-◌, ◌∷◌, ℕ, zero, suc, map, refl, ap, ◌∙◌, arith}
use Rattle.std.specs.List.{range_with_len}
use Rattle.plain_store.specs.Store.{Store}
use Rattle.interleavings.specs.Log.{Log, state_at}
use Rattle.interleavings.specs.World.{Size, World}
use Rattle.interleavings.proofs.Plainly.{pasts}
use Rattle.quiet_runs.specs.Plain.{store_of}
use Rattle.quiet_runs.proofs.Ends.{now_of}

maps_are : (log : Log) (from count : ℕ) → map (state_at log) (range_with_len from count) ≡ pasts log from count
maps_are log from zero = refl
maps_are log from (suc count) =
    let next : from + 1 ≡ suc from = omega arith in
    ap (λ l. state_at log from ∷ l) (maps_are log (from + 1) count ∙ ap (λ i. pasts log i count) next)

pub store_is : (z : Size) (w : World) → store_of z w ≡ now_of z w
store_is z w =
    ap (λ maps. let s : Store = record { objects = state_at w.log w.frontier; counter = w.frontier; capacity = z.capacity; floor = w.floor; past = maps } in s)
    (maps_are w.log w.floor (w.frontier - w.floor))
