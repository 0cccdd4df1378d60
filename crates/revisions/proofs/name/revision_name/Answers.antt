use Rattle.std.proofs.Common.{ap, ◌∙◌, subst, sym, length, arith}
use Rattle.std.specs.Str.{IsAscii}
use Rattle.hex.proofs.HexLemmas.{length-encode_with, IsAscii-encode_with}
use Rattle.hex.specs.Hex.{lower_digits}
use Rattle.revisions.proofs.Hexadecimal.{lower_ascii}
use Rattle.revisions.proofs.name.revision_name.Goals as goal

pub range-requires-clause-end_boundary : goal.range-requires-clause-end_boundary
range-requires-clause-end_boundary c =
    let is = c.as_str.ensures.value ∙ c.in_ok-hexadecimal.ensures in
    let long = ap length is ∙ length-encode_with lower_digits c.finalize-digest.result in
    let ascii : IsAscii c.as_str.result.now = subst IsAscii (sym is) (IsAscii-encode_with lower_digits c.finalize-digest.result lower_ascii) in
    (omega (arith, long, c.finalize-digest.type_inv, c.requires), λ inside high. absurd (omega (arith, ascii c.args.digits, high)))
