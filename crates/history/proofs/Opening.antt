-- A machine with no records, no holders and no callers shows the opening world.
use Rattle.std.proofs.Common.{◌≡◌, ℕ, zero, suc, ◌≤◌, [], length, get_or, replicate, Option, None, refl, sym, ap, ◌∙◌, subst, arith}
use Rattle.versions.specs.Shard as versions
use Rattle.versions.specs.Shard.{Shard}
use Rattle.history.specs.declared.machine.Machine.{Machine}
use Rattle.history.specs.Mirrors.{Mirrors}
use Rattle.interleavings.specs.Order.{beginning}
use Rattle.interleavings.specs.World.{Idle, Size, opening}
use Rattle.history.specs.Replayed.{IsShown, IsTracked, Shows, drops, lot_at, named_phase, or_idle, shard_at, staying}
use Rattle.history.proofs.Mirrors.{mirrors_opening}

pub opening_shown : (z : Size) (m : Machine) → z.capacity ≤ 1048576 → m.capacity ≡ z.capacity → m.frontier ≡ 0 → m.floor ≡ 0 → m.compacted ≡ 0 → m.now_at ≡ 0 → m.items.items ≡ [] → m.order.items ≡ [] → m.places.items ≡ []
    → length m.shards.items ≡ z.shards → ((s : ℕ) → shard_at m.shards.items s ≡ versions.opening)
    → length m.holders.items ≡ z.shards → ((s : ℕ) → get_or m.holders.items s None ≡ None)
    → ((c : ℕ) → named_phase m.callers c ≡ None) → IsTracked m.callers → ((n : ℕ) → lot_at m.parking n ≡ []) → Shows z opening beginning m
opening_shown z m small capacity frontier floor compacted place items order places count fresh seats free unnamed tracked unparked = record {
  capacity = capacity;
  small = small;
  frontier = frontier;
  floor = floor;
  place = place;
  items = items;
  order = order;
  log = record {
    drawn_is = ap length places;
    filled = λ i. ap (λ ps. get_or ps i None) places;
    count = count;
    mirrors = λ s below. subst (λ (x : Shard). Mirrors z opening.log 0 s x.records x.floor) (sym (fresh s)) (mirrors_opening z s);
    floors = λ s below. ap (λ (x : Shard). x.floor) (fresh s) ∙ sym compacted;
  };
  seats = record { count = seats; same = λ s below. free s };
  phases = λ c. subst (λ p. IsShown p Idle) (sym (ap or_idle (unnamed c))) refl;
  tracked = tracked;
  low = omega arith;
  unread = λ c. tt;
  parked = λ n. sym (ap (staying (drops m.callers)) (unparked n));
}

-- no one of so many
pub none_of : (n s : ℕ) → get_or {A = Option ℕ} (replicate n None) s None ≡ None
none_of zero s = refl
none_of (suc n) zero = refl
none_of (suc n) (suc s) = none_of n s
