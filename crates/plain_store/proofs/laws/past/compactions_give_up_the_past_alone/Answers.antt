use Rattle.plain_store.proofs.PastReplies.{leaves_the_lists, leaves_the_present}
use Rattle.plain_store.proofs.laws.past.compactions_give_up_the_past_alone.Goals as goal

pub returns-clause-present : goal.returns-clause-present
returns-clause-present c = leaves_the_present

pub returns-clause-lists : goal.returns-clause-lists
returns-clause-lists c = leaves_the_lists
