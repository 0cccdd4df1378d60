use Rattle.std.proofs.Common.{sym, subst}
use Rattle.std.proofs.lemmas.Result.{IfOk-weaker}
use Rattle.race_log.specs.Judged.{noted_of}
use Rattle.race_log.specs.Merge.{events_of}
use Rattle.race_log.specs.Waiting.{AreTurnsOf, HasHeard}
use Rattle.race_log.proofs.Hearing.{by_turns_of, exchanges_of_all, merge_of, turns_of_all}
use Rattle.race_log.proofs.merge.merged.Goals as goal

pub log_of-requires-clause-turns : goal.log_of-requires-clause-turns
log_of-requires-clause-turns c =
    subst (λ turns. AreTurnsOf turns c.in_ok-waiting.waiting.queues) (sym c.as_slice.ensures.value)
    (turns_of_all c.in_ok-waiting.waiting (events_of c.args.parts.items) c.sort.new.self.items c.in_ok-waiting.ensures c.in_ok-sort.ensures.permutation)

pub log_of-requires-clause-exchanges : goal.log_of-requires-clause-exchanges
log_of-requires-clause-exchanges c = exchanges_of_all c.in_ok-waiting.waiting c.args.parts.items c.in_ok-waiting.ensures

pub returns-clause-merged : goal.returns-clause-merged
returns-clause-merged c =
    IfOk-weaker c.log_of.result _ _ (λ log heard.
    merge_of c.args.parts.items (noted_of log) c.in_ok-waiting.waiting c.sort.new.self.items c.in_ok-waiting.ensures
    (subst (HasHeard (noted_of log) c.in_ok-waiting.waiting.queues) c.as_slice.ensures.value heard)) c.log_of.ensures

pub returns-clause-turns : goal.returns-clause-turns
returns-clause-turns c =
    IfOk-weaker c.log_of.result _ _ (λ log heard.
    by_turns_of c.args.parts.items (noted_of log) c.in_ok-waiting.waiting c.sort.new.self.items c.in_ok-waiting.ensures c.in_ok-sort.ensures.permutation
    c.in_ok-sort.ensures.sorted (subst (HasHeard (noted_of log) c.in_ok-waiting.waiting.queues) c.as_slice.ensures.value heard)) c.log_of.ensures
