use Rattle.std.proofs.Common.{true, false, codes}
use Rattle.compact.specs.Begins.{BeginsScalar}
use Rattle.compact.proofs.Passing.{stripped, null_is, truth_is, match_weaker}
use Rattle.compact.proofs.scalars.word_rest.Goals as goal

pub returns-in-Some-clause-word : goal.returns-in-Some-clause-word
returns-in-Some-clause-word c = null_is _ _ (stripped c.args.text.now (codes "null") c.in-Some.rest.now c.in-Some.ensures.cases.0 c.in-Some.ensures.cases.1)

pub returns-in-Some-strip_prefix-clause-word : goal.returns-in-Some-strip_prefix-clause-word
returns-in-Some-strip_prefix-clause-word c = truth_is true _ _ (stripped c.args.text.now (codes "true") c.in-Some-strip_prefix.rest.now c.in-Some-strip_prefix.ensures.cases.0 c.in-Some-strip_prefix.ensures.cases.1)

pub returns-clause-word : goal.returns-clause-word
returns-clause-word c =
    match_weaker _ _ (λ rest. BeginsScalar c.args.text.now rest.now) c.strip_prefix-3.result c.strip_prefix-3.ensures.cases (λ rest h. truth_is false _ _ (stripped c.args.text.now (codes "false") rest.now h.0 h.1))
