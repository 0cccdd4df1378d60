use Rattle.std.proofs.Common.{◌≡◌, ℕ, true, false, Option, Some, None, MatchOption, subst, rules, tests}
use Rattle.std.specs.Prelude.{IfSome, is_some}
use Rattle.std.specs.BTreeMap.{get}
use Rattle.std.specs.Ordering.{nat_cmp}
use Rattle.std.proofs.lemmas.Iterator.{first_from_Range}
use Rattle.cluster_runs.proofs.callers.UsedCallers.unused_below.Goals as goal

some_of : (A : Type 0) (B E : ℕ → Type 0) (r : Option ℕ) → MatchOption r A B → ((n : ℕ) → B n → E n) → IfSome r E
some_of A B E None found goes = tt
some_of A B E (Some n) found goes = goes n found

none_of : (A : Type 0) (B : ℕ → Type 0) (r : Option ℕ) → MatchOption r A B → r ≡ None → A
none_of A B r found none = subst (λ o. MatchOption o A B) none found

pub returns-clause-lowest : goal.returns-clause-lowest
returns-clause-lowest c =
    let owners = c.args.self.now.owners in
    some_of _ _ _ c.find.result (first_from_Range _ _ _ c.find.result (λ n. is_some (get nat_cmp owners n) ≡ false) (λ n. is_some (get nat_cmp owners n) ≡ true) c.find.ensures.ran
    (λ x q t. search (rules, tests)) (λ x q f. search (rules, tests))) (λ n found. found.3)

pub returns-clause-none : goal.returns-clause-none
returns-clause-none c =
    let owners = c.args.self.now.owners in
    none_of _ _ c.find.result (first_from_Range _ _ _ c.find.result (λ n. is_some (get nat_cmp owners n) ≡ false) (λ n. is_some (get nat_cmp owners n) ≡ true) c.find.ensures.ran
    (λ x q t. search (rules, tests)) (λ x q f. search (rules, tests)))
