-- The lines of an input, one after another.
use Rattle.std.proofs.Common.{◌≡◌, ℕ, List, [], ◌∷◌, Result, Ok, Err, sym, ap, ◌∙◌, subst}
use Rattle.objects.specs.declared.fault.ReadError.{ReadError}
use Rattle.objects.specs.declared.object.Draft.{Draft}
use Rattle.objects.specs.Reading.{reading}
use Rattle.objects.specs.Steps.{◌>>=◌, Fails, Gives}
use Rattle.objects.proofs.Chains.{fails_then}
use Rattle.plain.specs.Lines.{lines}
use Rattle.plan_lines.specs.Objects.{Lists, nothing, read_from, with_last}

-- the lists hold what is before the rest
abbrev pub HoldBefore : Lists → List ℕ → List ℕ → Type 0
HoldBefore l text rest = read_from nothing (lines text) ≡ read_from l (lines rest)

pub before-none : (l : Lists) (text : List ℕ) → l ≡ nothing → HoldBefore l text text
before-none l text none = ap (λ x. read_from x (lines text)) (sym none)

pub before-next : (l new : Lists) (text rest line later : List ℕ) (d : Draft) → HoldBefore l text rest → lines rest ≡ line ∷ lines later
    → reading line ≡ Ok d → new ≡ with_last l d.object → HoldBefore new text later
before-next l new text rest line later d before cut is added =
    before ∙ ap (read_from l) cut ∙ ap (λ r. r >>= λ x. read_from (with_last l x.object) (lines later)) is
    ∙ ap (λ x. read_from x (lines later)) (sym added)

pub before-refused : (l : Lists) (text rest line later : List ℕ) (e : ReadError) → HoldBefore l text rest → lines rest ≡ line ∷ lines later
    → Fails e (reading line) → Fails e (read_from nothing (lines text))
before-refused l text rest line later e before cut h =
    subst (Fails e) (sym (before ∙ ap (read_from l) cut)) (fails_then e (reading line) (λ x. read_from (with_last l x.object) (lines later)) h)

pub before-end : (l : Lists) (text rest : List ℕ) → HoldBefore l text rest → rest ≡ [] → read_from nothing (lines text) ≡ Ok l
before-end l text rest before none = before ∙ ap (λ r. read_from l (lines r)) none

-- a refusal is passed on
pub refused : {A B : Type 0} (view : A → B) (result : Result A ReadError) (y e : ReadError) (read : Result B ReadError)
    → result ≡ Err y → y ≡ e → Fails e read → Gives view result read
refused view result y e read is same h = subst (λ r. Gives view r read) (sym (is ∙ ap Err same)) h
