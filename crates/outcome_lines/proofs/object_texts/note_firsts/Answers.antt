use Rattle.std.proofs.Common.{refl}
use Rattle.std.specs.Prelude.{bytes_eq}
use Rattle.objects.specs.ShardOf.{key_text}
use Rattle.outcome_lines.specs.ObjectWords.{first_among, number_in, uid_if}
use Rattle.outcome_lines.proofs.ByText.{firsts_end, firsts_on}
use Rattle.outcome_lines.proofs.object_texts.note_firsts.Goals as goal

pub loop-object-preserved : goal.loop-object-preserved
loop-object-preserved c =
    firsts_on (λ o t. uid_if (bytes_eq (key_text o.key) t) o.meta.uid) first_among c.args.objects.now c.loop-object.object-index (λ x ys t. refl) c.object-item.result c.loop-object-test.true c.object-item.is (number_in c.loop-object.firsts.entries)
    (number_in c.note_first.new.firsts.entries) _ (c.in_ok-note_first.ensures) c.loop-object.invariant

pub returns : goal.returns
returns c =
    firsts_end (λ o t. uid_if (bytes_eq (key_text o.key) t) o.meta.uid) first_among c.args.objects.now c.loop-object.object-index (λ t. refl) c.loop-object-test.false (number_in c.loop-object.firsts.entries) _ c.loop-object.invariant
