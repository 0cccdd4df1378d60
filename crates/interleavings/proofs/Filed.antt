-- Objects in the log are under their own keys.
use Rattle.std.proofs.Common.{◌≡◌, ℕ, zero, suc, ◌<◌, cond, Option, Some, None, refl, sym, ap, ◌∙◌, arith}
use Rattle.std.proofs.lemmas.Option.{none-some, same_Some}
use Rattle.objects.specs.declared.key.Key.{Key}
use Rattle.objects.specs.declared.object.Object.{Object}
use Rattle.requests.specs.Change.{Change, change_object, creates, kept, marks, removes, updates}
use Rattle.interleavings.specs.Log.{IsFiled, Log, Writing, newer, value}
use Rattle.interleavings.proofs.Basics.{ComparedKeys, same_key, other_key, compare_keys, is_key_at}

kept_key : (c : Change) (n : ℕ) (o : Object) → kept c n ≡ Some o → o.key ≡ (change_object c).key
kept_key (creates x) n o is = ap (λ (y : Object). y.key) (sym (same_Some _ o is))
kept_key (updates x) n o is = ap (λ (y : Object). y.key) (sym (same_Some _ o is))
kept_key (marks x) n o is = ap (λ (y : Object). y.key) (sym (same_Some _ o is))
kept_key (removes x) n o is = absurd (none-some o is)

-- what a key is at a number has that key, if each write up to the number is filed under its object's key
pub value_key_upto : (log : Log) (n : ℕ) → ((i : ℕ) (t : Writing) → i < n → log i ≡ Some t → (change_object t.change).key ≡ t.key) → (k : Key) (o : Object) → value log n k ≡ Some o → o.key ≡ k
value_key_upto log zero filed k o is = absurd (none-some o is)
value_key_upto log (suc n) filed k o is = by_record (log n) refl is (value_key_upto log n (λ i t lt. filed i t (omega arith)) k o)
  where
    by_key : (t : Writing) → log n ≡ Some t → ComparedKeys k t.key → cond (is_key_at k t.key) (kept t.change (suc n)) (value log n k) ≡ Some o → (value log n k ≡ Some o → o.key ≡ k) → o.key ≡ k
    by_key t e (same_key ke kb) is ih = kept_key t.change (suc n) o (sym (ap (λ b. cond b (kept t.change (suc n)) (value log n k)) kb) ∙ is) ∙ filed n t (omega arith) e ∙ sym ke
    by_key t e (other_key ne kb) is ih = ih (sym (ap (λ b. cond b (kept t.change (suc n)) (value log n k)) kb) ∙ is)

    by_record : (l : Option Writing) → log n ≡ l → newer l n k (value log n k) ≡ Some o → (value log n k ≡ Some o → o.key ≡ k) → o.key ≡ k
    by_record None e is ih = ih is
    by_record (Some t) e is ih = by_key t e (compare_keys k t.key) is ih

pub value_key : (log : Log) → IsFiled log → (n : ℕ) (k : Key) (o : Object) → value log n k ≡ Some o → o.key ≡ k
value_key log filed n = value_key_upto log n (λ i t lt. filed i t)
