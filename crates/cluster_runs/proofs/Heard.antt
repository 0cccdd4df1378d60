-- What a caller has called and which replies it got, and the phase that these give the controller whose caller it is.
use Rattle.std.proofs.Common.{◌≡◌, ◌≢◌, ◌<◌, ◌≤◌, ◌==◌, inl, inr, ℕ, Bool, true, cond, List, [], ◌∷◌, ◌++◌, refl, sym, ap, subst, ◌∙◌, ne_eqb, arith}
use Rattle.std.specs.Prelude.{nat_lt, ⊤}
use Rattle.std.proofs.lemmas.Bool.{le-ltb, lt-ltb}
use Rattle.requests.specs.declared.request.Request.{Request}
use Rattle.requests.specs.declared.reply.Reply.{Reply}
use Rattle.interleavings.specs.declared.trace.Item.{Item}
use Rattle.interleavings.specs.declared.trace.Item.TheVariants as item
use Rattle.interleavings.specs.Linearization.{AreRising, Has}
use Rattle.interleavings.proofs.Basics.{Compared, same, other, compare, eq_self}
use Rattle.interleavings.proofs.Histories.{caller_of}
use Rattle.rounds.specs.Phase.{Phase, asks, reading_set, takes}
use Rattle.rounds.specs.Reconciler.{Reconciler}

-- the phase of the controller after all replies to the caller
abbrev pub heard : Reconciler → ℕ → Phase → List Item → Phase
heard c n phase [] = phase
heard c n phase (item.Call x m r ∷ items) = heard c n phase items
heard c n phase (item.Reply x m a ∷ items) = heard c n (cond (m == n) (takes c phase a) phase) items

-- the caller calls what the controller sends after the replies so far
abbrev pub HasAsked : Reconciler → ℕ → Phase → List Item → Type 0
HasAsked c n phase [] = ⊤
HasAsked c n phase (item.Call x m r ∷ items) = (m ≡ n → r ≡ asks c phase) × HasAsked c n phase items
HasAsked c n phase (item.Reply x m a ∷ items) = HasAsked c n (cond (m == n) (takes c phase a) phase) items

-- what the controller sends next
abbrev pub next_asked : Reconciler → ℕ → List Item → Request
next_asked c n items = asks c (heard c n reading_set items)

-- ---- one more item

pub heard_call : (c : Reconciler) (n : ℕ) (phase : Phase) (items : List Item) (x m : ℕ) (r : Request) → heard c n phase (items ++ item.Call x m r ∷ []) ≡ heard c n phase items
heard_call c n phase [] x m r = refl
heard_call c n phase (item.Call y k s ∷ items) x m r = heard_call c n phase items x m r
heard_call c n phase (item.Reply y k b ∷ items) x m r = heard_call c n (cond (k == n) (takes c phase b) phase) items x m r

pub heard_reply : (c : Reconciler) (n : ℕ) (phase : Phase) (items : List Item) (x m : ℕ) (a : Reply)
    → heard c n phase (items ++ item.Reply x m a ∷ []) ≡ cond (m == n) (takes c (heard c n phase items) a) (heard c n phase items)
heard_reply c n phase [] x m a = refl
heard_reply c n phase (item.Call y k s ∷ items) x m a = heard_reply c n phase items x m a
heard_reply c n phase (item.Reply y k b ∷ items) x m a = heard_reply c n (cond (k == n) (takes c phase b) phase) items x m a

pub asked_call : (c : Reconciler) (n : ℕ) (phase : Phase) (items : List Item) (x m : ℕ) (r : Request) → HasAsked c n phase items
    → (m ≡ n → r ≡ asks c (heard c n phase items)) → HasAsked c n phase (items ++ item.Call x m r ∷ [])
asked_call c n phase [] x m r asked is = (is, tt)
asked_call c n phase (item.Call y k s ∷ items) x m r asked is = (asked.0, asked_call c n phase items x m r asked.1 is)
asked_call c n phase (item.Reply y k b ∷ items) x m r asked is = asked_call c n (cond (k == n) (takes c phase b) phase) items x m r asked is

pub asked_reply : (c : Reconciler) (n : ℕ) (phase : Phase) (items : List Item) (x m : ℕ) (a : Reply) → HasAsked c n phase items → HasAsked c n phase (items ++ item.Reply x m a ∷ [])
asked_reply c n phase [] x m a asked = tt
asked_reply c n phase (item.Call y k s ∷ items) x m a asked = (asked.0, asked_reply c n phase items x m a asked.1)
asked_reply c n phase (item.Reply y k b ∷ items) x m a asked = asked_reply c n (cond (k == n) (takes c phase b) phase) items x m a asked

-- ---- a caller that has done nothing

pub heard_nothing : (c : Reconciler) (n : ℕ) (phase : Phase) (items : List Item) → ((i : Item) → Has i items → caller_of i ≢ n) → heard c n phase items ≡ phase
heard_nothing c n phase [] none = refl
heard_nothing c n phase (item.Call x m r ∷ items) none = heard_nothing c n phase items (λ i at. none i (inr at))
heard_nothing c n phase (item.Reply x m a ∷ items) none =
    ap (λ b. heard c n (cond b (takes c phase a) phase) items) (ne_eqb m n (none (item.Reply x m a) (inl refl))) ∙ heard_nothing c n phase items (λ i at. none i (inr at))

pub asked_nothing : (c : Reconciler) (n : ℕ) (phase : Phase) (items : List Item) → ((i : Item) → Has i items → caller_of i ≢ n) → HasAsked c n phase items
asked_nothing c n phase [] none = tt
asked_nothing c n phase (item.Call x m r ∷ items) none = (λ e. absurd (none (item.Call x m r) (inl refl) e), asked_nothing c n phase items (λ i at. none i (inr at)))
asked_nothing c n phase (item.Reply x m a ∷ items) none = asked_nothing c n (cond (m == n) (takes c phase a) phase) items (λ i at. none i (inr at))

-- ---- the replies before an index

abbrev taken_if : Reconciler → (mine early : Bool) → Phase → Reply → Phase
taken_if c mine early phase a = cond mine (cond early (takes c phase a) phase) phase

abbrev pub heard_before : Reconciler → ℕ → ℕ → Phase → List Item → Phase
heard_before c n t phase [] = phase
heard_before c n t phase (item.Call x m r ∷ items) = heard_before c n t phase items
heard_before c n t phase (item.Reply x m a ∷ items) = heard_before c n t (taken_if c (m == n) (nat_lt x t) phase a) items

-- no reply is before it
pub heard_later : (c : Reconciler) (n t : ℕ) (phase : Phase) (items : List Item) → ((x : ℕ) (a : Reply) → Has (item.Reply x n a) items → t ≤ x) → heard_before c n t phase items ≡ phase
heard_later c n t phase [] late = refl
heard_later c n t phase (item.Call x m r ∷ items) late = heard_later c n t phase items (λ y b at. late y b (inr at))
heard_later c n t phase (item.Reply x m a ∷ items) late = ap (λ p. heard_before c n t p items) (passed (compare m n)) ∙ heard_later c n t phase items (λ y b at. late y b (inr at))
  where
    passed : Compared m n → taken_if c (m == n) (nat_lt x t) phase a ≡ phase
    passed (same e b) =
        ap (λ mine. taken_if c mine (nat_lt x t) phase a) b
        ∙ ap (λ early. taken_if c true early phase a) (le-ltb x t (late x a (inl (ap (λ k. item.Reply x k a) (sym e)))))
    passed (other ne b) = ap (λ mine. taken_if c mine (nat_lt x t) phase a) b

-- what the caller called at the index is what the controller sends after the replies before
pub asked_at : (c : Reconciler) (n : ℕ) (phase : Phase) (items : List Item) (p : ℕ) (r : Request) → HasAsked c n phase items → AreRising items
    → Has (item.Call p n r) items → r ≡ asks c (heard_before c n p phase items)
asked_at c n phase [] p r asked rising at = absurd at
asked_at c n phase (item.Call x m s ∷ items) p r asked rising (inl e) =
    let place : p ≡ x = cc in
    let caller : m ≡ n = cc in
    let request : r ≡ s = cc in
    request ∙ asked.0 caller ∙ sym (ap (asks c) (heard_later c n p phase items (λ y b at. let low = rising.0 (item.Reply y n b) at in omega (arith, low, place))))
asked_at c n phase (item.Call x m s ∷ items) p r asked rising (inr at) = asked_at c n phase items p r asked.1 rising.1 at
asked_at c n phase (item.Reply x m a ∷ items) p r asked rising (inl e) = absurd cc
asked_at c n phase (item.Reply x m a ∷ items) p r asked rising (inr at) =
    subst (λ early. r ≡ asks c (heard_before c n p (taken_if c (m == n) early phase a) items)) (sym (lt-ltb x p (rising.0 (item.Call p n r) at)))
    (asked_at c n (cond (m == n) (takes c phase a) phase) items p r asked rising.1 at)

-- from one index to a later one, with one reply between them
pub heard_once : (c : Reconciler) (n : ℕ) (phase : Phase) (items : List Item) (p at q : ℕ) (a : Reply) → AreRising items → p ≤ at → at < q
    → Has (item.Reply at n a) items
    → ((x : ℕ) (b : Reply) → Has (item.Reply x n b) items → x < at → x < p)
    → ((x : ℕ) (b : Reply) → Has (item.Reply x n b) items → at < x → q ≤ x)
    → heard_before c n q phase items ≡ takes c (heard_before c n p phase items) a
heard_once c n phase [] p at q a rising low high there early late = absurd there
heard_once c n phase (item.Call x m r ∷ items) p at q a rising low high (inl e) early late = absurd cc
heard_once c n phase (item.Call x m r ∷ items) p at q a rising low high (inr there) early late =
    heard_once c n phase items p at q a rising.1 low high there (λ y b h. early y b (inr h)) (λ y b h. late y b (inr h))
heard_once c n phase (item.Reply x m b ∷ items) p at q a rising low high (inl e) early late =
    let place : x ≡ at = cc in
    let caller : m ≡ n = cc in
    let reply : b ≡ a = cc in
    let mine : (m == n) ≡ true = ap (λ k. m == k) (sym caller) ∙ eq_self m in
    let above = λ (y : ℕ) (d : Reply) (h : Has (item.Reply y n d) items). rising.0 (item.Reply y n d) h in
    ap (λ k. heard_before c n q (taken_if c k (nat_lt x q) phase b) items) mine
    ∙ ap (λ k. heard_before c n q (taken_if c true k phase b) items) (lt-ltb x q (omega (arith, place, high)))
    ∙ heard_later c n q (takes c phase b) items (λ y d h. late y d (inr h) (let l = above y d h in omega (arith, l, place)))
    ∙ ap (takes c phase) reply
    ∙ sym (ap (λ k. takes c (heard_before c n p (taken_if c k (nat_lt x p) phase b) items) a) mine
    ∙ ap (λ k. takes c (heard_before c n p (taken_if c true k phase b) items) a) (le-ltb x p (omega (arith, place, low)))
    ∙ ap (λ f. takes c f a) (heard_later c n p phase items (λ y d h. let l = above y d h in omega (arith, l, place, low))))
heard_once c n phase (item.Reply x m b ∷ items) p at q a rising low high (inr there) early late =
    ap (λ f. heard_before c n q f items) (alike (compare m n))
    ∙ heard_once c n (taken_if c (m == n) (nat_lt x p) phase b) items p at q a rising.1 low high there (λ y d h. early y d (inr h)) (λ y d h. late y d (inr h))
  where
    alike : Compared m n → taken_if c (m == n) (nat_lt x q) phase b ≡ taken_if c (m == n) (nat_lt x p) phase b
    alike (same e t) =
        let here : x < at = rising.0 (item.Reply at n a) there in
        let before : x < p = early x b (inl (ap (λ k. item.Reply x k b) (sym e))) here in
        ap (λ k. taken_if c (m == n) k phase b) (lt-ltb x q (omega (arith, here, high)) ∙ sym (lt-ltb x p before))
    alike (other ne t) = ap (λ k. taken_if c k (nat_lt x q) phase b) t ∙ sym (ap (λ k. taken_if c k (nat_lt x p) phase b) t)
