-- Two parts of a text that change places.
use Rattle.std.proofs.Common.{◌≡◌, ℕ, ◌+◌, ◌-◌, List, ◌++◌, length, sym, ap, ap₂, ◌∙◌, append_assoc, length-append, arith}
use borrow.Rule.Slice.PartMut.{mid_of, put_mid}
use Rattle.compact.proofs.Lists.{part_at, put_at, none_left}

pub turned : (front back new rest text a b c d : List ℕ) (start end middle : ℕ) → text ≡ front ++ (back ++ (new ++ rest)) → length front ≡ start → length front + length back ≡ middle → middle + length new ≡ end
    → a ≡ mid_of middle (end - middle) text → b ≡ mid_of start (middle - start) text → c ≡ a ++ b → d ≡ c → put_mid start (end - start) text d ≡ front ++ (new ++ (back ++ rest))
turned front back new rest text a b c d start end middle is here middle_is end_is first second both copied =
    let before : middle ≡ length (front ++ back) = omega (arith, middle_is, length-append front back) in
    let new_is = first ∙ part_at text (front ++ back) new rest middle (end - middle) (is ∙ sym (append_assoc front back (new ++ rest))) before (omega (arith, end_is)) in
    let back_is = second ∙ part_at text front back (new ++ rest) start (middle - start) is (sym here) (omega (arith, here, middle_is)) in
    let whole : end - start ≡ length (back ++ new) = omega (arith, here, middle_is, end_is, length-append back new) in
    put_at text front (back ++ new) rest d start (end - start) (is ∙ ap (λ l. front ++ l) (sym (append_assoc back new rest))) (sym here) whole
    ∙ ap (λ l. front ++ (l ++ rest)) (copied ∙ both ∙ ap₂ (λ x y. x ++ y) new_is back_is) ∙ ap (λ l. front ++ l) (append_assoc new back rest)

pub stays : (front back new rest text : List ℕ) → text ≡ front ++ (back ++ (new ++ rest)) → length back ≡ 0 → text ≡ front ++ (new ++ (back ++ rest))
stays front back new rest text is none =
    let empty = none_left back none in
    is ∙ ap (λ b. front ++ (b ++ (new ++ rest))) empty ∙ sym (ap (λ b. front ++ (new ++ (b ++ rest))) empty)
