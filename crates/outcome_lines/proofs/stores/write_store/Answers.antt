use Rattle.std.proofs.Common.{◌∙◌, refl}
use Rattle.std.proofs.lemmas.Result.{on_ok_weaker}
use Rattle.plain.proofs.Written.{four}
use Rattle.outcome_lines.proofs.Stored.{of_revision}
use Rattle.outcome_lines.proofs.stores.write_store.Goals as goal

pub returns-clause-tokens : goal.returns-clause-tokens
returns-clause-tokens c =
    let revision = c.in_ok-write_integer_member.ensures.tokens ∙ of_revision _ _ _ c.revision_in.ensures in
    on_ok_weaker c.end_object.result (λ last.
    four c.args.out.now.tokens _ _ _ _ _ _ _ _ _ c.in_ok-begin_object.ensures.ok revision c.in_ok-write_objects_member.ensures.tokens last refl) c.end_object.ensures.ok
