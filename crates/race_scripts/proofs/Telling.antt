-- The requests of callers and their replies, from the first item of a run on.
use Rattle.std.proofs.Common.{◌≡◌, ◌≢◌, ◌<◌, inl, inr, ℕ, true, false, ◌&&◌, cond, List, [], ◌∷◌, Option, Some, None, nat_eq, ne_eqb, refl, sym, ap, subst, ◌∙◌}
use Rattle.std.specs.Prelude.{MatchBool, nat_lt, is_some, if◌then◌else◌}
use Rattle.std.specs.List.{list_all}
use Rattle.std.proofs.lemmas.Bool.{and_parts}
use Rattle.std.proofs.lemmas.Bool.Decides.{Decides-ltb}
use Rattle.requests.specs.declared.reply.Reply.{Reply}
use Rattle.requests.specs.declared.request.Request.{Request}
use Rattle.interleavings.proofs.Basics.{eq_self}
use Rattle.interleavings.specs.Linearization.{Has}
use Rattle.interleavings.specs.declared.trace.Item.{Item}
use Rattle.interleavings.specs.declared.trace.Item.TheVariants as item
use Rattle.outcomes.specs.Outcomes.{AreAnswered, ComesBehind, Exchange, exchanges_by, reply_to, requests_in}
use Rattle.race_scripts.specs.Same.{same_request}
use Rattle.race_scripts.specs.Shown.{answered_just, comes_later, goes_first, is_before}
use Rattle.race_scripts.proofs.Sameness.{requests_equal}

false-true : false ≡ true → ⊥
false-true is = subst (λ b. MatchBool b ⊥ (Unit {0})) is tt

-- ---- one item
pub call_own : (c p d : ℕ) (r : Request) (items : List Item) → d ≡ c
    → exchanges_by c (item.Call p d r ∷ items) ≡ record { request = r; reply = reply_to c items } ∷ exchanges_by c items
call_own c p d r items e =
    ap (λ b. cond b (record { request = r; reply = reply_to c items } ∷ exchanges_by c items) (exchanges_by c items)) (ap (λ n. nat_eq n c) e ∙ eq_self c)

pub call_other : (c p d : ℕ) (r : Request) (items : List Item) → d ≢ c → exchanges_by c (item.Call p d r ∷ items) ≡ exchanges_by c items
call_other c p d r items ne =
    ap (λ b. cond b (record { request = r; reply = reply_to c items } ∷ exchanges_by c items) (exchanges_by c items)) (ne_eqb d c ne)

-- ---- what is tested holds
pub some_not_none : (o : Option Reply) → is_some o ≡ true → o ≢ None
some_not_none None is = λ e. false-true is
some_not_none (Some x) is = λ e. let all : is_some (Some x) ≡ false = ap is_some e in false-true (sym all)

pub just_asked : (xs : List Exchange) (rs : List Request) → answered_just xs rs ≡ true → (requests_in xs ≡ rs) × AreAnswered xs
just_asked [] [] is = (refl, tt)
just_asked (x ∷ xs) (r ∷ rs) is =
    let last = and_parts (is_some x.reply && same_request x.request r) (answered_just xs rs) is in
    let first = and_parts (is_some x.reply) (same_request x.request r) last.0 in
    let rest = just_asked xs rs last.1 in
    (ap (λ q. q ∷ requests_in xs) (requests_equal x.request r first.1) ∙ ap (λ qs. r ∷ qs) rest.0, (some_not_none x.reply first.0, rest.1))
just_asked xs rs is = cc

ends_before : (c p : ℕ) (items : List Item) → list_all (is_before c p) items ≡ true → (at : ℕ) (y : Reply) → Has (item.Reply at c y) items → at < p
ends_before c p [] is at y has = absurd has
ends_before c p (i ∷ items) is at y (inl e) =
    let own : is_before c p (item.Reply at c y) ≡ true = ap (is_before c p) e ∙ (and_parts (is_before c p i) (list_all (is_before c p) items) is).0 in
    (Decides-ltb at p).0 (sym (ap (λ b. if b then nat_lt at p else true) (eq_self c)) ∙ own)
ends_before c p (i ∷ items) is at y (inr has) = ends_before c p items (and_parts (is_before c p i) (list_all (is_before c p) items) is).1 at y has

first_of_all : (c d : ℕ) (calls items : List Item) → list_all (comes_later c items) calls ≡ true → d ≢ c → (place : ℕ) (r : Request)
    → Has (item.Call place d r) calls → (at : ℕ) (y : Reply) → Has (item.Reply at c y) items → at < place
first_of_all c d [] items is ne place r has = absurd has
first_of_all c d (i ∷ calls) items is ne place r (inl e) =
    let own : comes_later c items (item.Call place d r) ≡ true = ap (comes_later c items) e ∙ (and_parts (comes_later c items i) (list_all (comes_later c items) calls) is).0 in
    ends_before c place items (sym (ap (λ b. if b then true else list_all (is_before c place) items) (ne_eqb d c ne)) ∙ own)
first_of_all c d (i ∷ calls) items is ne place r (inr has) =
    first_of_all c d calls items (and_parts (comes_later c items i) (list_all (comes_later c items) calls) is).1 ne place r has

pub all_behind : (c : ℕ) (items : List Item) → goes_first c items ≡ true → (d : ℕ) → d ≢ c → ComesBehind items c d
all_behind c items is d ne = λ at place reply request replied called. first_of_all c d items items is ne place request called at reply replied
