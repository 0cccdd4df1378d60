use Rattle.std.proofs.Common.{◌∙◌, subst}
use Rattle.std.proofs.Common.{codes}
use Rattle.objects.specs.Merged.{StopsAt}
use Rattle.objects.proofs.SpecTexts.{between_written}
use Rattle.objects.proofs.seams.write_between.Goals as goal

pub returns : goal.returns
returns c =
    let front = c.in_ok-tail.ensures.front in
    between_written c.args.after.now c.in_ok-tail.tail.now c.args.bytes.items c.in_ok-begun.begun.items _ _ _ _ front (c.in_ok-begun.ensures front.count front.above (subst (StopsAt (codes "status")) front.left front.stops))
    (c.write_front.ensures.before ∙ c.new-writer.ensures.before) c.new-writer.ensures.tokens c.into_inner-bytes.ensures.items c.into_inner-bytes.ensures.utf8 c.into_inner-bytes.ensures.reads_back
