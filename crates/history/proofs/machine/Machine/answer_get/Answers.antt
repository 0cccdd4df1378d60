use Rattle.std.proofs.Common.{ap, ◌∙◌}
use Rattle.plain_store.specs.Store.{found}
use Rattle.requests.specs.declared.reply.Reply.TheVariants.{Found}
use Rattle.history.proofs.Due.{get_found}
use Rattle.history.proofs.Due.{below_shards}
use Rattle.history.proofs.machine.Machine.answer_get.Goals as goal

pub returns-in_ok-clone-in-Some : goal.returns-in_ok-clone-in-Some
returns-in_ok-clone-in-Some c = get_found c.args.self.now c.args.number c.args.key.now _ (below_shards c.args.self.now c.args.key.now c.requires.stands) c.requires.kept (ap Found c.in_ok-clone-in-Some.ensures.cases ∙ ap found c.in-Some.ensures)

pub returns-in-None : goal.returns-in-None
returns-in-None c = get_found c.args.self.now c.args.number c.args.key.now _ (below_shards c.args.self.now c.args.key.now c.requires.stands) c.requires.kept (ap found c.in-None.ensures)
