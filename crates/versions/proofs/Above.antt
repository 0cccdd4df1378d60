-- Numbers above those of all records.
use Rattle.std.proofs.Common.{◌≡◌, ◌<◌, ◌≤◌, ◌+◌, ℕ, Bool, true, false, cond, not, Option, Some, None, is_some, refl, sym, ap, ◌∙◌, arith, nat_lt, if◌then◌else◌, true≢false}
use Rattle.std.specs.Cmp.{nat_cmp_total}
use Rattle.std.specs.Ordering.{eq_by_cmp, nat_cmp}
use Rattle.std.specs.FinMap.{contains_key, empty, get, get-empty, get-insert, get-retain_keys, insert, nat_cmp-IsAntisymmetric}
use Rattle.requests.specs.declared.version.Version.{Version}
use Rattle.versions.specs.Compacted.{compacted, is_superseded}
use Rattle.versions.specs.Records.{IsAbove, Records}
use Rattle.versions.specs.Shard.{Shard, raised}
use Rattle.versions.proofs.Found.{equal_numbers}

-- any number is above no records
pub above_none : (n : ℕ) → IsAbove empty n
above_none n m there = absurd (true≢false (sym there ∙ ap is_some (get-empty nat_cmp m)))

-- a number above that of a record that is pushed
pub above_pushed : (rs : Records) (n : ℕ) (v : Version) → IsAbove rs n → IsAbove (insert rs n v) (n + 1)
above_pushed rs n v above m there = by_tie (eq_by_cmp nat_cmp m n) refl
  where
    now : (b : Bool) → eq_by_cmp nat_cmp m n ≡ b → is_some (cond b (Some v) (get rs m)) ≡ true
    now b tie = sym (ap is_some (get-insert nat_cmp_total rs n v m ∙ ap (λ c. cond c (Some v) (get rs m)) tie)) ∙ there

    by_tie : (b : Bool) → eq_by_cmp nat_cmp m n ≡ b → m < n + 1
    by_tie true tie = let same = equal_numbers m n tie in omega (arith, same)
    by_tie false tie = let less = above m (now false tie) in omega (arith, less)

-- a higher number is above too
pub above_more : (rs : Records) (n more : ℕ) → n ≤ more → IsAbove rs n → IsAbove rs more
above_more rs n more le above m there = let less = above m there in omega (arith, le, less)

kept_by : (b : Bool) (v : Option Version) → is_some (cond b v None) ≡ true → is_some v ≡ true
kept_by true v there = there
kept_by false v there = absurd (true≢false (sym there))

-- a record that is left was there
left_from : (rs : Records) (n m : ℕ) → contains_key (compacted rs n) m ≡ true → contains_key rs m ≡ true
left_from rs n m there =
    let kept = get-retain_keys rs (λ x. not (is_superseded rs n x)) m (λ x tie. ap (λ y. not (is_superseded rs n y)) (sym (nat_cmp-IsAntisymmetric m x tie))) in
    kept_by (not (is_superseded rs n m)) (get rs m) (sym (ap is_some kept) ∙ there)

-- a compaction brings no records
pub raised_from : (s : Shard) (n m : ℕ) → contains_key (raised s n).records m ≡ true → contains_key s.records m ≡ true
raised_from s n m = by (nat_lt n s.floor)
  where
    by : (b : Bool) → contains_key (if b then s else record { records = compacted s.records n; floor = n; room = s.room }).records m ≡ true → contains_key s.records m ≡ true
    by true there = there
    by false there = left_from s.records n m there

pub above_raised : (s : Shard) (n k : ℕ) → IsAbove s.records k → IsAbove (raised s n).records k
above_raised s n k above m there = above m (raised_from s n m there)
