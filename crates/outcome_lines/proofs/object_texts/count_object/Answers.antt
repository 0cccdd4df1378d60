use Rattle.std.proofs.Common.{◌+◌, ◌∙◌, ap}
use Rattle.std.proofs.lemmas.Result.{on_ok_weaker}
use Rattle.outcome_lines.specs.ObjectWords.{lists_in, times, times_in}
use Rattle.outcome_lines.proofs.object_texts.count_object.Goals as goal

pub returns : goal.returns
returns c =
    on_ok_weaker c.count_texts.result
    (λ counts t. counts t ∙ ap (λ ts. times ts t + times_in c.args.counts.now.entries t) (ap lists_in c.as_slice.ensures.value ∙ c.in_ok-texts.ensures))
    c.count_texts.ensures
