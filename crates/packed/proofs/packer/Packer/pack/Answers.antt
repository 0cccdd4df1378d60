use Rattle.std.proofs.Common.{ap, ◌∙◌, string_bytes}
use Rattle.packed.specs.Expanded.{expanded}
use Rattle.packed.proofs.Pieces.{expanded_nothing}
use Rattle.packed.proofs.packer.Packer.pack.Goals as goal

pub of-requires-clause-encoded : goal.of-requires-clause-encoded
of-requires-clause-encoded c =
    ap (expanded (string_bytes c.in_ok-base.base.value)) c.in_ok-copy_of.ensures ∙ expanded_nothing (string_bytes c.in_ok-base.base.value)
    ∙ ap string_bytes c.in_ok-base.ensures.ok ∙ c.in_ok-from_str.ensures.ok ∙ c.as_str.ensures
