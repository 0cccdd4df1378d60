-- The last write of a key, as a write is added to the log.
use Rattle.std.proofs.Common.{◌≡◌, ◌≢◌, ℕ, zero, suc, ◌<◌, ◌≤◌, Bool, true, false, cond, Option, Some, None, refl, sym, ap, subst, ◌∙◌, arith}
use Rattle.objects.specs.declared.key.Key.{Key}
use Rattle.requests.specs.Change.{kept}
use Rattle.interleavings.specs.Log.{Log, Writing, last_write, newer, newer_number, value}
use Rattle.interleavings.specs.World.{changed}
use Rattle.interleavings.proofs.Basics.{Compared, same, other, compare, ComparedKeys, same_key, other_key, compare_keys, Least, atmost, above, least, changed-same, changed-other, is_key_at, key_self}
use Rattle.interleavings.proofs.Values.{last_bound, value_last}

-- no write of a key is after its last one
wrote : (log : Log) (i : ℕ) (t : Writing) → log i ≡ Some t → (d : ℕ) → i < d → suc i ≤ last_write log d t.key
wrote log i t e zero lt = absurd (omega arith)
wrote log i t e (suc d) lt = split (compare d i) (wrote log i t e d)
  where
    by_key : (b : Bool) → suc i ≤ last_write log d t.key → suc i ≤ cond b (suc d) (last_write log d t.key)
    by_key true ih = omega arith
    by_key false ih = ih

    by_record : (o : Option Writing) → suc i ≤ last_write log d t.key → suc i ≤ newer_number o d t.key (last_write log d t.key)
    by_record None ih = ih
    by_record (Some u) ih = by_key (is_key_at t.key u.key) ih

    split : Compared d i → (i < d → suc i ≤ last_write log d t.key) → suc i ≤ newer_number (log d) d t.key (last_write log d t.key)
    split (same x b) ih = subst (λ o. suc i ≤ newer_number o d t.key (last_write log d t.key)) (sym (ap log x ∙ e)) (subst (λ b. suc i ≤ cond b (suc d) (last_write log d t.key)) (sym (key_self t.key)) (omega arith))
    split (other ne b) ih = by_record (log d) (ih (omega arith))

-- if no later number is filled, the last write is the last one at all numbers
pub last_all : (log : Log) (d : ℕ) → ((i : ℕ) → d ≤ i → log i ≡ None) → (n : ℕ) (k : Key) → last_write log n k ≤ last_write log d k
last_all log d none n k = last_bound log (last_write log d) (λ i t e. at i t e (least d i)) k n
  where
    at : (i : ℕ) (t : Writing) → log i ≡ Some t → Least d i → suc i ≤ last_write log d t.key
    at i t e (atmost le b) = let all : None ≡ Some t = sym (none i le) ∙ e in absurd cc
    at i t e (above lt b) = wrote log i t e d lt

-- a key with no write has no value
pub value_unwritten : (log : Log) (d : ℕ) (k : Key) → last_write log d k ≡ 0 → value log d k ≡ None
value_unwritten log d k e = sym (value_last log k d 0 (omega arith) (omega arith))

module _ (log : Log) (i : ℕ) (t : Writing) where
  -- a write after all others of its key is the last one
  pub last_put : (n : ℕ) → i < n → last_write log n t.key ≤ i → last_write (changed log i (Some t)) n t.key ≡ suc i
  last_put zero lt h = absurd (omega arith)
  last_put (suc n) lt h = split (compare n i) (last_put n)
    where
      by_key : (b : Bool) → i < n → cond b (suc n) (last_write log n t.key) ≤ i → (i < n → last_write log n t.key ≤ i → last_write (changed log i (Some t)) n t.key ≡ suc i) → cond b (suc n) (last_write (changed log i (Some t)) n t.key) ≡ suc i
      by_key true less h ih = absurd (omega arith)
      by_key false less h ih = ih less h

      by_record : (o : Option Writing) → i < n → newer_number o n t.key (last_write log n t.key) ≤ i → (i < n → last_write log n t.key ≤ i → last_write (changed log i (Some t)) n t.key ≡ suc i) → newer_number o n t.key (last_write (changed log i (Some t)) n t.key) ≡ suc i
      by_record None less h ih = ih less h
      by_record (Some u) less h ih = by_key (is_key_at t.key u.key) less h ih

      split : Compared n i → (i < n → last_write log n t.key ≤ i → last_write (changed log i (Some t)) n t.key ≡ suc i) → newer_number (changed log i (Some t) n) n t.key (last_write (changed log i (Some t)) n t.key) ≡ suc i
      split (same x b) ih =
          ap (λ o. newer_number o n t.key (last_write (changed log i (Some t)) n t.key)) (ap (changed log i (Some t)) x ∙ changed-same log i (Some t))
          ∙ ap (λ b. cond b (suc n) (last_write (changed log i (Some t)) n t.key)) (key_self t.key) ∙ ap suc x
      split (other ne b) ih = ap (λ o. newer_number o n t.key (last_write (changed log i (Some t)) n t.key)) (changed-other log i (Some t) n ne) ∙ by_record (log n) (omega arith) h ih

  -- and gives the key its value
  pub value_newest : (n : ℕ) → i < n → last_write log n t.key ≤ i → value (changed log i (Some t)) n t.key ≡ kept t.change (suc i)
  value_newest n lt h =
      let last = last_put n lt h in
      sym (value_last (changed log i (Some t)) t.key n (suc i) (omega arith) (omega arith))
      ∙ ap (λ o. newer o i t.key (value (changed log i (Some t)) i t.key)) (changed-same log i (Some t))
      ∙ ap (λ b. cond b (kept t.change (suc i)) (value (changed log i (Some t)) i t.key)) (key_self t.key)

  -- it changes the last write of no other key
  pub last_other : log i ≡ None → (k : Key) → k ≢ t.key → (n : ℕ) → last_write (changed log i (Some t)) n k ≡ last_write log n k
  last_other empty k apart zero = refl
  last_other empty k apart (suc n) = split (compare n i) (compare_keys k t.key) (last_other empty k apart n)
    where
      split : Compared n i → ComparedKeys k t.key → last_write (changed log i (Some t)) n k ≡ last_write log n k → newer_number (changed log i (Some t) n) n k (last_write (changed log i (Some t)) n k) ≡ newer_number (log n) n k (last_write log n k)
      split (same x b) (same_key ke kb) ih = absurd (apart ke)
      split (same x b) (other_key ne kb) ih =
          ap (λ o. newer_number o n k (last_write (changed log i (Some t)) n k)) (ap (changed log i (Some t)) x ∙ changed-same log i (Some t))
          ∙ ap (λ b. cond b (suc n) (last_write (changed log i (Some t)) n k)) kb ∙ ih
          ∙ ap (λ o. newer_number o n k (last_write log n k)) (sym (ap log x ∙ empty))
      split (other ne b) kc ih = ap (λ o. newer_number o n k (last_write (changed log i (Some t)) n k)) (changed-other log i (Some t) n ne) ∙ ap (newer_number (log n) n k) ih
