use Rattle.compact.proofs.Values.{plain_text_is}
use Rattle.compact.proofs.texts.plain_text_end.Goals as goal

pub returns-clause-plain : goal.returns-clause-plain
returns-clause-plain c = plain_text_is c.args.text.now c.in_ok-quote.inside.now c.in_ok-rest.rest.now c.in_ok-quote.quote.now c.in_ok-quote.ensures.cases.0 c.if-quote-ne34.false c.in_ok-rest.ensures.plain
