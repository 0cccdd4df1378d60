-- What a trace has, and at which index.
use Rattle.std.proofs.Common.{◌≡◌, ◌==◌, inl, inr, ℕ, Bool, true, cond, List, [], ◌∷◌, Option, Some, sym, ap, ◌∙◌, ne_eqb, arith}
use Rattle.requests.specs.declared.request.Request.{Request}
use Rattle.interleavings.specs.declared.trace.Item.{Item}
use Rattle.interleavings.specs.declared.trace.Item.TheVariants as item
use Rattle.interleavings.specs.Linearization.{AreRising, Has}
use Rattle.interleavings.proofs.Basics.{Compared, same, other, compare, eq_self}
use Rattle.cluster_runs.specs.Ordered.{called_at}

found_if : (m : ℕ) (r : Request) (b : Bool) (o : Option (ℕ × Request)) → b ≡ true → cond b (Some (m, r)) o ≡ Some (m, r)
found_if m r b o is = ap (λ c. cond c (Some (m, r)) o) is

pub called_there : (items : List Item) (p n : ℕ) (r : Request) → AreRising items → Has (item.Call p n r) items → called_at items p ≡ Some (n, r)
called_there [] p n r rising at = absurd at
called_there (item.Call x m s ∷ items) p n r rising (inl e) =
    let place : x ≡ p = cc in
    let caller : m ≡ n = cc in
    let request : s ≡ r = cc in
    found_if m s (x == p) (called_at items p) (ap (λ q. x == q) (sym place) ∙ eq_self x) ∙ ap (λ q. Some (q, s)) caller ∙ ap (λ q. Some (n, q)) request
called_there (item.Call x m s ∷ items) p n r rising (inr at) =
    let low = rising.0 (item.Call p n r) at in
    ap (λ b. cond b (Some (m, s)) (called_at items p)) (ne_eqb x p (λ e. absurd (omega (arith, low, e)))) ∙ called_there items p n r rising.1 at
called_there (item.Reply x m a ∷ items) p n r rising (inl e) = absurd cc
called_there (item.Reply x m a ∷ items) p n r rising (inr at) = called_there items p n r rising.1 at

pub called_has : (items : List Item) (p : ℕ) (call : ℕ × Request) → called_at items p ≡ Some call → Has (item.Call p call.0 call.1) items
called_has [] p call is = absurd cc
called_has (item.Call x m r ∷ items) p call is = go (compare x p) (called_has items p call)
  where
    go : Compared x p → (called_at items p ≡ Some call → Has (item.Call p call.0 call.1) items) → Has (item.Call p call.0 call.1) (item.Call x m r ∷ items)
    go (same e b) rest =
        let both : Some (m, r) ≡ Some call = sym (ap (λ c. cond c (Some (m, r)) (called_at items p)) b) ∙ is in
        let one : (m, r) ≡ call = cc in
        inl (ap (λ (c : ℕ × Request). item.Call p c.0 c.1) (sym one) ∙ ap (λ q. item.Call q m r) (sym e))
    go (other ne b) rest = inr (rest (sym (ap (λ c. cond c (Some (m, r)) (called_at items p)) b) ∙ is))
called_has (item.Reply x m a ∷ items) p call is = inr (called_has items p call is)
