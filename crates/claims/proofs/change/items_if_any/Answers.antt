use Rattle.std.proofs.Common.{◌≡◌, length, vec_len, Some, sym, ap, ◌∙◌, arith}
use Rattle.std.specs.Prelude.{◌==◌}
use Rattle.claims.proofs.OwnerEntries.{none_given, some_given}
use Rattle.claims.proofs.change.items_if_any.Goals as goal

pub returns-then-is_empty : goal.returns-then-is_empty
returns-then-is_empty c =
    let same : length c.args.entries.items ≡ vec_len c.args.entries = omega (arith, c.args.entries.ok) in
    none_given c.args.entries.items (ap (λ n. n == 0) same ∙ (sym c.is_empty.ensures ∙ c.if-is_empty.true))

pub returns : goal.returns
returns c =
    let same : length c.args.entries.items ≡ vec_len c.args.entries = omega (arith, c.args.entries.ok) in
    ap Some c.in_ok-items.ensures ∙ some_given c.args.entries.items (ap (λ n. n == 0) same ∙ (sym c.is_empty.ensures ∙ c.if-is_empty.false))
