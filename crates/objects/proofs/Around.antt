-- A text that has another's parts but for the resource version.
use Rattle.std.proofs.Common.{◌≡◌, ℕ, ◌+◌, ◌-◌, ◌≤◌, List, [], ◌∷◌, ◌++◌, length, take, drop, true, nat_eq, decimal, refl, sym, ap, ◌∙◌, append_assoc, length-append, length-drop, take_all, arith}
use Rattle.std.specs.List.{ends_with, starts_with}
use Rattle.std.proofs.Math.Seq.{take-append_seam, drop-append_seam}
use Rattle.std.proofs.lemmas.Bool.Decides.{Decides-eqb}
use Rattle.std.proofs.lemmas.Slice.Eq.{ends_is, starts_is}
use Rattle.objects.specs.Seams.{AreParts, version_text}

-- where the text goes on after its version
pub behind_version : (t : List ℕ) (old v s behind : ℕ) (parts : AreParts t old v s) → behind ≡ v + 2 + length (decimal old) → drop behind t ≡ parts.middle ++ parts.rest
behind_version t old v s behind parts is =
    let first = parts.front ++ version_text old in
    let here : behind ≡ length first = omega (arith, is, parts.version_at, length-append parts.front (version_text old), length-append (decimal old) (34 ∷ [])) in
    rw here (ap (drop (length first)) (parts.text ∙ sym (append_assoc parts.front (version_text old) (parts.middle ++ parts.rest))) ∙ drop-append_seam first (parts.middle ++ parts.rest))

pub before_version : (t : List ℕ) (old v s : ℕ) (parts : AreParts t old v s) → take v t ≡ parts.front
before_version t old v s parts = rw (parts.version_at) (ap (take (length parts.front)) parts.text ∙ take-append_seam parts.front (version_text old ++ (parts.middle ++ parts.rest)))

pub fits : (t : List ℕ) (old v s : ℕ) (parts : AreParts t old v s) → v + 2 + length (decimal old) ≤ length t
fits t old v s parts =
    let whole : length t ≡ length parts.front + (length (version_text old) + length (parts.middle ++ parts.rest)) =
    ap length parts.text ∙ length-append parts.front (version_text old ++ (parts.middle ++ parts.rest)) ∙ ap (λ n. length parts.front + n) (length-append (version_text old) (parts.middle ++ parts.rest)) in
    omega (arith, whole, parts.version_at, length-append (decimal old) (34 ∷ []))

pub begins_alike : (new front rest : List ℕ) → new ≡ front ++ rest → starts_with nat_eq new front ≡ true
begins_alike new front rest is = (starts_is Decides-eqb new front _ refl).1 rest is

pub ends_alike : (new front rest : List ℕ) → new ≡ front ++ rest → ends_with nat_eq new rest ≡ true
ends_alike new front rest is = (ends_is Decides-eqb new rest _ refl).1 front is

pub whole_rest : (n : ℕ) (xs : List ℕ) → take (length xs - n) (drop n xs) ≡ drop n xs
whole_rest n xs = take_all (length xs - n) (drop n xs) (let size = length-drop n xs in omega (arith, size))
