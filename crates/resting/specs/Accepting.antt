-- Requests that a store accepts, one after another.
use Rattle.std.specs.Prelude.{◌≡◌, ◌≢◌, ℕ, Bool, true, false, ⊤, List, [], ◌∷◌, Option, Some}
use Rattle.std.specs.FinMap as finite
use Rattle.std.specs.List.{AllByRecursion}
use Rattle.objects.specs.declared.key.Key.{Key}
use Rattle.objects.specs.declared.object.Object.{Object}
use Rattle.requests.specs.declared.request.Request.{Request}
use Rattle.requests.specs.declared.verdict.Verdict.{Verdict}
use Rattle.requests.specs.declared.verdict.Verdict.TheVariants.{Refuse, Same, Write}
use Rattle.requests.specs.Change.{kept}
use Rattle.requests.specs.Keys.{key_named}
use Rattle.requests.specs.Verdict.{is_write, verdict}
use Rattle.plain_store.specs.Store.{Store, step}
use Rattle.rounds.specs.Accepted.{succeeded}

abbrev pub is_refused : Verdict → Bool
is_refused (Refuse reason) = true
is_refused (Same o) = false
is_refused (Write c) = false

-- the request is a write, and what the store has under its key is no reason to refuse it
pub record IsAcceptable (s : Store) (r : Request) : Type 0 where
  pub write : is_write r ≡ true
  pub key : Key
  pub named : key_named r ≡ Some key
  pub fits : is_refused (verdict r (finite.get s.objects key)) ≡ false

-- no two of them name one key
abbrev pub NameApart : List Request → Type 0
NameApart [] = ⊤
NameApart (r ∷ rs) = AllByRecursion (λ x. key_named x ≢ key_named r) rs × NameApart rs

-- each is accepted, over what those before it have left
abbrev pub AreAccepted : Store → List Request → Type 0
AreAccepted s [] = ⊤
AreAccepted s (r ∷ rs) = (succeeded r (step s r).1 ≡ true) × AreAccepted (step s r).0 rs

-- what is under a key after a write, by its verdict: a change has a number of its own
abbrev pub IsLeftBy : Verdict → Option Object → Option Object → Type 0
IsLeftBy (Refuse reason) before after = after ≡ before
IsLeftBy (Same o) before after = after ≡ before
IsLeftBy (Write c) before after = (n : ℕ) × (after ≡ kept c n)

-- under its key the request has left what it leaves there alone
abbrev pub DoesAsAlone : Store → Store → Request → Type 0
DoesAsAlone s t r = (key : Key) → key_named r ≡ Some key → IsLeftBy (verdict r (finite.get s.objects key)) (finite.get s.objects key) (finite.get t.objects key)
