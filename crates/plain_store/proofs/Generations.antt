-- The generation counts the changes of `spec`.
use Rattle.std.proofs.Common.{◌≡◌, ◌≤◌, ◌+◌, ◌^◌, ℕ, Bool, true, false, cond, nat_lt, ◌⊎◌, inl, inr, Option, Some, None, IfSome, codes, refl, sym, ap, ◌∙◌, arith}
use Rattle.serde_json.specs.Data.{Data}
use Rattle.serde_json.specs.Written.{has_float}
use Rattle.objects.specs.declared.key.Key.{Key}
use Rattle.objects.specs.declared.object.Object.{Object}
use Rattle.objects.specs.Status.{member_of, with_member}
use Rattle.objects.proofs.BodyMembers.{member_of-integral, member_of-with_other}
use Rattle.objects.proofs.Sameness.{same-itself}
use Rattle.requests.specs.declared.request.Request.{Request}
use Rattle.requests.specs.declared.request.Request.TheVariants as request
use Rattle.requests.specs.declared.request.Request.TheVariants.{Create, Get, Update, UpdateStatus, Delete, Compact}
use Rattle.requests.specs.Verdict.{generation_after, has_status, same_found, same_member}
use Rattle.plain_store.specs.Store.{Store}
use Rattle.plain_store.specs.AtKey.{Has, Leaves, Makes}
use Rattle.plain_store.proofs.Verdicts.{Allows, by_turn, left, made}

abbrev spec : Data → Option Data
spec = member_of (codes "spec")

-- ---- `spec` stays when another member is set

with_other_status : (b : Bool) (value : Option Data) (body : Data) → spec (cond b (with_member (codes "status") value body) body) ≡ spec body
with_other_status true value body = member_of-with_other (codes "spec") (codes "status") value body (λ e. absurd cc)
with_other_status false value body = refl

found-itself : (found : Option Data) → IfSome found (λ d. has_float d ≡ false) → same_found found found ≡ true
found-itself None whole = refl
found-itself (Some d) whole = same-itself d whole

spec-itself : (body : Data) → has_float body ≡ false → same_member (codes "spec") body body ≡ true
spec-itself body whole = found-itself (spec body) (member_of-integral (codes "spec") body whole)

-- if `spec` is the same, the generation stays
generation_stays : (g : ℕ) (before after : Data) → has_float before ≡ false → spec after ≡ spec before → g ≡ generation_after g (same_member (codes "spec") before after)
generation_stays g before after whole same =
    sym (ap (λ x. generation_after g (same_found (spec before) x)) same ∙ ap (generation_after g) (spec-itself before whole))

-- ---- a step

abbrev IsFirst : Key → Object → Type 0
IsFirst k p = p.meta.generation ≡ 1

abbrev IsCounted : Key → Object → Object → Type 0
IsCounted k o p = has_float o.body ≡ false → p.meta.generation ≡ generation_after o.meta.generation (same_member (codes "spec") o.body p.body)

counts : (n : ℕ) (r : Request) → Allows IsFirst IsCounted n r
counts n (Get k) = tt
counts n (request.List kind namespace exact) = tt
counts n (Compact to) = tt
counts n (Create d) = refl
counts n (Update d) = λ o whole.
    ap (λ x. generation_after o.meta.generation (same_found (spec o.body) x)) (sym (with_other_status (has_status d.object.key.kind) (member_of (codes "status") o.body) d.object.body))
counts n (UpdateStatus d) = λ o whole.
    let status = member_of (codes "status") d.object.body in
    generation_stays o.meta.generation o.body (with_member (codes "status") status o.body) whole (with_other_status true status o.body)
counts n (Delete k uid version at) = λ t o whole. generation_stays o.meta.generation o.body o.body whole refl

pub made_first : (s : Store) (r : Request) (q : Key) (p : Object) → Makes s r q p → p.meta.generation ≡ 1
made_first s r q p there =
    by_turn IsFirst IsCounted s (λ t. Has t q p → IsFirst q p) (λ k t c after. (made IsFirst IsCounted s t k q p c there.0 after).2) r (counts (s.counter + 1) r) there.1

counted_by : (q : Key) (o p : Object) (changed : Type 0) → (p ≡ o) ⊎ (changed × IsCounted q o p) → IsCounted q o p
counted_by q o p changed (inl e) = λ whole.
    ap (λ (x : Object). x.meta.generation) e ∙ generation_stays o.meta.generation o.body p.body whole (ap (λ (x : Object). spec x.body) e)
counted_by q o p changed (inr c) = c.1

pub counted : (s : Store) (r : Request) (q : Key) (o p : Object) → Leaves s r q o p → IsCounted q o p
counted s r q o p there =
    by_turn IsFirst IsCounted s (λ t. Has t q p → IsCounted q o p)
    (λ k t c after. counted_by q o p (t.counter ≡ s.counter + 1) (left IsFirst IsCounted s t k q o p c there.0 after)) r (counts (s.counter + 1) r) there.1

-- ---- it never falls

abbrev NeverFalls : Key → Object → Object → Type 0
NeverFalls k o p = o.meta.generation ≤ p.meta.generation

not_below : (g : ℕ) (same room : Bool) → g ≤ cond same g (cond room (g + 1) g)
not_below g true room = omega arith
not_below g false true = omega arith
not_below g false false = omega arith

rises : (n : ℕ) (r : Request) → Allows IsFirst NeverFalls n r
rises n (Get k) = tt
rises n (request.List kind namespace exact) = tt
rises n (Compact to) = tt
rises n (Create d) = refl
rises n (Update d) = λ o. not_below o.meta.generation (same_member (codes "spec") o.body d.object.body) (nat_lt (o.meta.generation + 1) (2 ^ 63))
rises n (UpdateStatus d) = λ o. omega arith
rises n (Delete k uid version at) = λ t o. omega arith

rises_by : (q : Key) (o p : Object) (changed : Type 0) → (p ≡ o) ⊎ (changed × NeverFalls q o p) → NeverFalls q o p
rises_by q o p changed (inl e) = let same : p.meta.generation ≡ o.meta.generation = ap (λ (x : Object). x.meta.generation) e in omega arith
rises_by q o p changed (inr c) = c.1

pub never_falls : (s : Store) (r : Request) (q : Key) (o p : Object) → Leaves s r q o p → o.meta.generation ≤ p.meta.generation
never_falls s r q o p there =
    by_turn IsFirst NeverFalls s (λ t. Has t q p → NeverFalls q o p)
    (λ k t c after. rises_by q o p (t.counter ≡ s.counter + 1) (left IsFirst NeverFalls s t k q o p c there.0 after)) r (rises (s.counter + 1) r) there.1
