use Rattle.std.proofs.Common.{◌≡◌, sym, ◌∙◌, subst}
use Rattle.requests.specs.Verdict.{verdict}
use Rattle.versions.specs.Records.{current}
use Rattle.interleavings.specs.Log.{Writing}
use Rattle.history.specs.Replayed.{Holds, shard_at}
use Rattle.history.proofs.Pieces.{if_some_at, none_of, seat_of, some_of}
use Rattle.history.proofs.Stepping.{called_is_called, called_undecided}
use Rattle.history.proofs.WritesDone.{check_held, check_nothing, check_read, check_refused, check_same, check_written}
use Rattle.history.proofs.machine.Machine.decide.Goals as goal

pub returns-in_default : goal.returns-in_default
returns-in_default c = check_nothing c.args.self.now c.args.caller (sym c.in_default.ensures)

pub returns-then-not-is_write : goal.returns-then-not-is_write
returns-then-not-is_write c = check_read c.args.self.now c.args.caller c.in-Some.place c.in-Some.request.now (sym c.in-Some.ensures) (sym c.is_write.ensures ∙ c.if-not-is_write.true)

pub returns-then-is_held : goal.returns-then-is_held
returns-then-is_held c =
    let h = some_of _ (sym c.is_held.ensures ∙ c.if-is_held.true) in
    check_held c.args.self.now c.args.caller c.in-Some.place c.in-Some.request.now c.in-Some-key.key.now c.shard_of-shard.result (sym c.in-Some.ensures) (sym c.is_write.ensures ∙ c.if-not-is_write.false) (sym c.in-Some-key.ensures)
    c.shard_of-shard.ensures.value c.shard_of-shard.ensures.below h.0 h.1

pub returns-in-Refuse : goal.returns-in-Refuse
returns-in-Refuse c =
    let m = c.args.self.now in
    let r = c.in-Some.request.now in
    let k = c.in-Some-key.key.now in
    let s = c.shard_of-shard.result in
    let is = if_some_at (λ key. c.in_ok-reason.field-0 ≡ verdict r (current (shard_at m.shards.items s).records key)) _ k (sym c.in-Some-key.ensures) c.in_ok-reason.ensures in (
      called_undecided _ _ (sym c.in-Some.ensures),
      λ m' waits. check_refused m c.args.caller c.in-Some.place r k s (sym c.in-Some.ensures) (sym c.is_write.ensures ∙ c.if-not-is_write.false) (sym c.in-Some-key.ensures)
          c.shard_of-shard.ensures.value c.shard_of-shard.ensures.below m' c.seen-saw.result c.in-Refuse.reason (none_of _ (sym c.is_held.ensures ∙ c.if-is_held.false)) (sym c.in-Refuse.is ∙ is) c.seen-saw.ensures waits,
    )

pub returns-in-Same : goal.returns-in-Same
returns-in-Same c =
    let m = c.args.self.now in
    let r = c.in-Some.request.now in
    let k = c.in-Some-key.key.now in
    let s = c.shard_of-shard.result in
    let is = if_some_at (λ key. c.in_ok-reason.field-0 ≡ verdict r (current (shard_at m.shards.items s).records key)) _ k (sym c.in-Some-key.ensures) c.in_ok-reason.ensures in (
      called_undecided _ _ (sym c.in-Some.ensures),
      λ m' waits. check_same m c.args.caller c.in-Some.place r k s (sym c.in-Some.ensures) (sym c.is_write.ensures ∙ c.if-not-is_write.false) (sym c.in-Some-key.ensures)
          c.shard_of-shard.ensures.value c.shard_of-shard.ensures.below m' c.seen-saw.result c.in-Same.object (none_of _ (sym c.is_held.ensures ∙ c.if-is_held.false)) (sym c.in-Same.is ∙ is) c.seen-saw.ensures waits,
    )

pub returns-in_ok-key-in-Write : goal.returns-in_ok-key-in-Write
returns-in_ok-key-in-Write c =
    let m = c.args.self.now in
    let r = c.in-Some.request.now in
    let k = c.in-Some-key.key.now in
    let s = c.shard_of-shard.result in
    let place = c.in-Some.place in
    let is = if_some_at (λ key. c.in_ok-reason.field-0 ≡ verdict r (current (shard_at m.shards.items s).records key)) _ k (sym c.in-Some-key.ensures) c.in_ok-reason.ensures in (
      called_is_called _ _ (sym c.in-Some.ensures),
      (
        seat_of m s c.requires c.shard_of-shard.ensures.below,
        λ m' holds. check_written m c.args.caller place r k s (sym c.in-Some.ensures) (sym c.is_write.ensures ∙ c.if-not-is_write.false) (sym c.in-Some-key.ensures)
            c.shard_of-shard.ensures.value c.shard_of-shard.ensures.below m' c.in-Write.change (none_of _ (sym c.is_held.ensures ∙ c.if-is_held.false)) (sym c.in-Write.is ∙ is)
            (subst (λ key. let t : Writing = record { place = place; key = key; change = c.in-Write.change } in Holds c.args.caller s t m m') c.in_ok-key-in-Write.ensures.cases holds),
      ),
    )
