use Rattle.std.proofs.Common.{List, ap, subst, sym, ◌∙◌}
use Rattle.std.specs.Option.{option_copied}
use Rattle.indexmap.specs.IndexMap.{values}
use Rattle.outcomes.specs.Outcomes.{exchanges_by}
use Rattle.participants.specs.Machines.{machine_of}
use Rattle.participants.specs.Stands.{Stand, stand_in}
use Rattle.requests.specs.declared.reply.Reply.{Reply}
use Rattle.race_runs.specs.Runs.{Goes}
use Rattle.race_scripts.proofs.Going.{goes_last, goes_more}
use Rattle.race_scripts.proofs.gone.way_of.Goals as goal

pub calls-init : goal.calls-init
calls-init c =
    let table = values c.args.replies.now.named in record {
      named = c.requires;
      within = c.in_ok-stand.ensures.within table;
      goes = λ to g. subst (λ (s : Stand). Goes (machine_of c.args.participant.now) s (exchanges_by c.args.caller c.args.items.now) to) (c.in_ok-stand.ensures.means table) g;
    }

pub calls-preserved : goal.calls-preserved
calls-preserved c =
    let m = machine_of c.args.participant.now in
    let asks = ap (λ (table : List Reply). m.asks (stand_in table c.calls.stand)) (sym c.table.ensures.table) ∙ c.in_ok-asks_that.ensures c.if-not-branch.false in record {
      named = c.in_ok-next.ensures.named;
      within = c.in_ok-next.ensures.within;
      goes = λ to g. c.calls.invariant.goes to
          (goes_more m _ _ to _ _ _ _ _ asks c.in_ok-next.ensures.means c.in-Some.ensures.some (ap option_copied c.in-Some-reply.is) g);
    }

pub returns-in_default-reply-clause-goes : goal.returns-in_default-reply-clause-goes
returns-in_default-reply-clause-goes c =
    let m = machine_of c.args.participant.now in
    let asks = ap (λ (table : List Reply). m.asks (stand_in table c.calls.stand)) (sym c.table.ensures.table) ∙ c.in_ok-asks_that.ensures c.if-not-branch.false in
    c.calls.invariant.goes _ (goes_last m _ _ _ _ _ asks c.in-Some.ensures.some (ap option_copied c.in_default-reply.is) (c.has_called.ensures c.if-has_called.false))
