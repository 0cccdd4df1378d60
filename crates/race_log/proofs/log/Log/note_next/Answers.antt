use Rattle.std.proofs.Common.{◌≡◌, ◌∷◌, length, Some, ap, ◌∙◌, arith}
use Rattle.race_log.specs.Merge.{asks, told}
use Rattle.race_log.specs.Waiting.{left_of, said}
use Rattle.race_log.proofs.Hearing.{on_ok_three, on_ok_two}
use Rattle.race_log.proofs.log.Log.note_next.Goals as goal

pub returns-in-Some-Asks : goal.returns-in-Some-Asks
returns-in-Some-Asks c =
    on_ok_two c.call.result (λ items opened. record {
      next = asks c.in-Some-Asks.request;
      place = _;
      waited = c.in-Some-Asks.ensures.caller ∙ ap (λ w. said w ∷ left_of c.args.caller c.take.new.self) c.in-Some-Asks.field-0-is;
      others = c.take.ensures.others;
      noted = (items, opened, c.call.ensures.stamps);
    }) c.call.ensures.call c.call.ensures.waits

pub returns-in-Some-Told : goal.returns-in-Some-Told
returns-in-Some-Told c =
    on_ok_three c.reply.result (λ items heard stamps. record {
      next = told c.in-Some-Told.reply (Some c.in-Some-Told.number);
      place = _;
      waited = c.in-Some-Told.ensures.caller ∙ ap (λ w. said w ∷ left_of c.args.caller c.take.new.self) c.in-Some-Told.field-0-is;
      others = c.take.ensures.others;
      noted = (items, heard, stamps);
    }) c.reply.ensures.reply c.reply.ensures.heard c.reply.ensures.stamp

pub returns-in-None : goal.returns-in-None
returns-in-None c =
    let none : length (left_of c.args.caller c.args.queues.now) ≡ 0 = ap length c.in-None.ensures.caller in
    absurd (omega arith)
