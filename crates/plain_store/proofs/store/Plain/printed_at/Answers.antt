use Rattle.std.proofs.Common.{sym, ap, ◌∙◌}
use Rattle.std.proofs.lemmas.Result.{IfOk-weaker}
use Rattle.version_map.specs.Versions.{value}
use Rattle.plain_store.proofs.Held.{found_is}
use Rattle.plain_store.proofs.KeptUids.{filed_when_reached}
use Rattle.plain_store.proofs.Runs.{still_reached}
use Rattle.plain_store.proofs.Steps.{filed_there}
use Rattle.plain_store.proofs.store.Plain.printed_at.Goals as goal

pub returns-clause-there : goal.returns-clause-there
returns-clause-there c =
    IfOk-weaker c.printed.result _ _ (λ current is.
    is ∙ c.at.ensures ∙ ap (λ v. value v.rows c.self.inside.counter c.args.key.now) c.look_up.ensures
    ∙ found_is c.self.inside.versions c.self.inside.counter c.self.inside.capacity c.args.self.now c.args.key.now c.self.view_is) c.printed.ensures

pub returns-clause-filed : goal.returns-clause-filed
returns-clause-filed c =
    IfOk-weaker c.printed.result _ _ (λ current is.
    filed_there c.args.self.now c.args.key.now current (filed_when_reached c.args.self.now (still_reached _ c.args.self.now (sym c.self.view_is) c.self.invariant.3))
    (is ∙ c.at.ensures ∙ ap (λ v. value v.rows c.self.inside.counter c.args.key.now) c.look_up.ensures
    ∙ found_is c.self.inside.versions c.self.inside.counter c.self.inside.capacity c.args.self.now c.args.key.now c.self.view_is)) c.printed.ensures
