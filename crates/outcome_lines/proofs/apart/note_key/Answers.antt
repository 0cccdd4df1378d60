use Rattle.std.proofs.Common.{◌∙◌, ap, not}
use Rattle.outcome_lines.proofs.Stored.{among_put, any_same}
use Rattle.outcome_lines.proofs.apart.note_key.Goals as goal

pub returns-in-Ok-clause-new : goal.returns-in-Ok-clause-new
returns-in-Ok-clause-new c = c.in-Ok.ensures.added ∙ ap not (any_same c.args.seen.now.keys c.args.key)

pub returns-in-Ok-clause-seen : goal.returns-in-Ok-clause-seen
returns-in-Ok-clause-seen c = among_put c.args.seen.now.keys c.insert_full.new.self.keys c.args.key c.in-Ok.ensures.keys
