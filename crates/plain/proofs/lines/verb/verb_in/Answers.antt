use Rattle.std.proofs.Common.{◌∙◌}
use Rattle.plain.proofs.Readings.{no_verb, verb_of}
use Rattle.plain.proofs.lines.verb.verb_in.Goals as goal

pub returns-in-Some : goal.returns-in-Some
returns-in-Some c = c.ok_or.ensures.value ∙ verb_of c.args.members.now c.in-Some.name.now _ c.in-Some.ensures c.named.ensures

pub returns-in-None : goal.returns-in-None
returns-in-None c = no_verb c.args.members.now c.in-None.ensures
