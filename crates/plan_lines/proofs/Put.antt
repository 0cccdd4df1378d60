-- How much of some bytes was put, one part after another.
use Rattle.std.proofs.Common.{◌≡◌, List, ◌++◌, ℕ, Option, sym, ap, ◌∙◌, append_assoc, subst}
use Rattle.plain.specs.Streams.{Puts, PutsPart}
use Rattle.plain.proofs.Flows.{PutsPart-after, Puts-then}
use Rattle.plan_lines.specs.Output.{PutsBut}

-- more of the bytes was put
pub PutsBut-then : (old now new : Option (List ℕ)) (bytes rest some left more : List ℕ) → PutsBut old bytes rest now → rest ≡ some ++ more
    → PutsBut now some left new → PutsBut old bytes (left ++ more) new
PutsBut-then old now new bytes rest some left more (put, e, p) cut (next, f, q) = (
  put ++ next,
  e ∙ (ap (λ t. put ++ t) (cut ∙ (ap (λ t. t ++ more) f ∙ append_assoc next left more)) ∙ sym (append_assoc put next (left ++ more))),
  Puts-then old now new put next p q,
)

-- a part of the next bytes was put
pub PutsBut-part : (old now new : Option (List ℕ)) (bytes rest some more : List ℕ) → PutsBut old bytes rest now → rest ≡ some ++ more
    → PutsPart now some new → PutsPart old bytes new
PutsBut-part old now new bytes rest some more (put, e, p) cut (part, left, f, q) = (
  put ++ part,
  left ++ more,
  e ∙ (ap (λ t. put ++ t) (cut ∙ (ap (λ t. t ++ more) f ∙ append_assoc part left more)) ∙ sym (append_assoc put part (left ++ more))),
  Puts-then old now new put part p q,
)

-- all that was left was put, or a part of it
pub rest-put : (old now new : Option (List ℕ)) (all rest shown : List ℕ) → PutsBut old all rest now → rest ≡ shown → Puts now shown new → Puts old all new
rest-put old now new all rest shown (put, e, p) same q =
    subst (λ t. Puts old t new) (sym (e ∙ ap (λ t. put ++ t) same)) (Puts-then old now new put shown p q)

pub rest-part : (old now new : Option (List ℕ)) (all rest shown : List ℕ) → PutsBut old all rest now → rest ≡ shown
    → PutsPart now shown new → PutsPart old all new
rest-part old now new all rest shown (put, e, p) same q =
    subst (λ t. PutsPart old t new) (sym (e ∙ ap (λ t. put ++ t) same)) (PutsPart-after old now new put shown p q)

-- nothing more was put
pub nothing-more : (old now : Option (List ℕ)) (all rest : List ℕ) → PutsBut old all rest now → PutsPart old all now
nothing-more old now all rest (put, e, p) = (put, rest, e, p)
