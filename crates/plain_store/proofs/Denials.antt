-- Which numbers can be requested.
use Rattle.std.proofs.Common.{◌≡◌, ◌≤◌, ◌<◌, ℕ, Bool, true, false, cond, Some, None, refl, arith}
use Rattle.std.specs.Prelude.{nat_lt}
use Rattle.std.proofs.lemmas.Bool.Decides.{nat_tests}
use Rattle.requests.specs.declared.reply.Reason.TheVariants.{Expired, TooLarge}
use Rattle.plain_store.specs.Store.{denied}

pub denied_above : (floor counter n : ℕ) → counter < n → denied floor counter n ≡ Some TooLarge
unfolding denied
denied_above floor counter n above = let is : nat_lt counter n ≡ true = grind (arith, nat_tests) in rw is refl

pub denied_below : (floor counter n : ℕ) → n ≤ counter → n < floor → denied floor counter n ≡ Some Expired
unfolding denied
denied_below floor counter n upto below =
    let drawn : nat_lt counter n ≡ false = grind (arith, nat_tests) in
    let is : nat_lt n floor ≡ true = grind (arith, nat_tests) in
    rw (drawn, is) refl

pub not_denied : (floor counter n : ℕ) → floor ≤ n → n ≤ counter → denied floor counter n ≡ None
unfolding denied
not_denied floor counter n from upto =
    let drawn : nat_lt counter n ≡ false = grind (arith, nat_tests) in
    let is : nat_lt n floor ≡ false = grind (arith, nat_tests) in
    rw (drawn, is) refl

by_tests : (a b : Bool) → cond a (Some TooLarge) (cond b (Some Expired) None) ≡ None → (a ≡ false) × (b ≡ false)
by_tests true b none = absurd cc
by_tests false true none = absurd cc
by_tests false false none = (refl, refl)

pub readable : (floor counter n : ℕ) → denied floor counter n ≡ None → (floor ≤ n) × (n ≤ counter)
unfolding denied
readable floor counter n none =
    let both = by_tests (nat_lt counter n) (nat_lt n floor) none in
    let drawn = both.0 in
    let kept = both.1 in
    (grind (arith, nat_tests), grind (arith, nat_tests))

large_by : (a b : Bool) → cond a (Some TooLarge) (cond b (Some Expired) None) ≡ Some TooLarge → a ≡ true
large_by true b is = refl
large_by false true is = absurd cc
large_by false false is = absurd cc

expired_by : (a b : Bool) → cond a (Some TooLarge) (cond b (Some Expired) None) ≡ Some Expired → b ≡ true
expired_by true b is = absurd cc
expired_by false true is = refl
expired_by false false is = absurd cc

pub above_when_large : (floor counter n : ℕ) → denied floor counter n ≡ Some TooLarge → counter < n
unfolding denied
above_when_large floor counter n is = let above = large_by (nat_lt counter n) (nat_lt n floor) is in grind (arith, nat_tests)

pub below_when_expired : (floor counter n : ℕ) → denied floor counter n ≡ Some Expired → n < floor
unfolding denied
below_when_expired floor counter n is = let below = expired_by (nat_lt counter n) (nat_lt n floor) is in grind (arith, nat_tests)
