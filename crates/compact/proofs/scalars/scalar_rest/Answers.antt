use Rattle.compact.specs.Begins.{BeginsScalar}
use Rattle.compact.proofs.Passing.{text_value, some_weaker}
use Rattle.compact.proofs.scalars.scalar_rest.Goals as goal

pub returns-in-34-clause-value : goal.returns-in-34-clause-value
returns-in-34-clause-value c = some_weaker _ (λ rest. BeginsScalar c.args.text.now rest.now) c.text_rest.result c.text_rest.ensures.text (λ rest h. text_value _ _ _ _ c.in_ok-first.ensures.cases.0 c.in-34.is h)
