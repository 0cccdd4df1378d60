use Rattle.std.proofs.Common.{ap, ◌∙◌, decimal}
use Rattle.serde_json.specs.Data.{string}
use Rattle.objects.specs.Meta.{MetaParts}
use Rattle.objects.specs.Text.{unless_zero}
use Rattle.objects.proofs.HeldSteps.{metadata_written}
use Rattle.objects.proofs.ObjectTokens.{on_ok}
use Rattle.objects.proofs.print.write_metadata.Goals as goal

pub returns-clause-tokens : goal.returns-clause-tokens
returns-clause-tokens c =
    let meta_is = c.meta.view_is ∙ ap (λ o. o.meta) c.object.view_is in
    on_ok c.write_after_version.result (λ last.
    metadata_written c.args.object.now c.args.entries.now c.in_ok-versioned.versioned.now _ c.args.out.now.tokens _ _ c.write_after_version.new.out.tokens c.in_ok-versioned.ensures.written
    (c.held_version-version.ensures ∙ ap (λ (m : MetaParts). unless_zero m.revision (string (decimal m.revision))) meta_is) c.in_ok-write_held.ensures.tokens last) c.write_after_version.ensures.tokens
