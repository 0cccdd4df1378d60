use Rattle.std.proofs.Common.{rules, ap, sym, subst, ◌∙◌, ◌↔◌, ◌<◌, ◌-◌, ◌^◌, ◌+◌, ◌++◌, ◌∷◌, [], length, arith, IsErrOf}
use Rattle.history.specs.After.{IsAfter, IsReached, ReplayParts, taken}
use Rattle.history.specs.Named.{with_named}
use Rattle.interleavings.specs.Callers.{named_by}
use Rattle.history.specs.declared.replay_error.ReplayError.TheVariants.{TooManyCallers}
use Rattle.history.proofs.Naming.{named_more}
use Rattle.history.proofs.Pieces.{on_err, stays_same}
use Rattle.history.proofs.Reached.{run_stands, run_steps}
use Rattle.history.proofs.Replays.{after_next, after_still, answer_is_reply, names_next}
use Rattle.history.proofs.replaying.Replay.step.Goals as goal

pub note-requires : goal.note-requires
unfolding IsAfter
note-requires c = c.self.invariant.after.1.1

pub step-requires-clause-stands : goal.step-requires-clause-stands
unfolding IsAfter
step-requires-clause-stands c = let r = c.self.invariant in run_stands r.size r.events c.self.inside.machine r.after.0

pub step-requires-clause-room : goal.step-requires-clause-room
unfolding taken
step-requires-clause-room c = subst (λ (r : ReplayParts). r.machine.now_at < 2 ^ 64 - 1) (sym c.self.view_is) c.requires.room

pub returns-in_err-newly-clause-reached : goal.returns-in_err-newly-clause-reached
returns-in_err-newly-clause-reached c = subst IsReached c.self.view_is c.self.invariant

pub returns-in_err-newly-clause-refused : goal.returns-in_err-newly-clause-refused
returns-in_err-newly-clause-refused c = λ size events after.
    let m = c.self.inside.machine in
    on_err _ _ (after_still size events m m c.self.inside.names c.note.new.self (subst (IsAfter size events) (sym c.self.view_is) after) (stays_same m) c.in_err-newly.ensures.refused)

pub returns-in_err-newly-clause-too_many : goal.returns-in_err-newly-clause-too_many
unfolding IsAfter
returns-in_err-newly-clause-too_many c = λ size events after.
    let e = c.args.event.now in
    let old = subst (IsAfter size events) (sym c.self.view_is) after in
    subst (λ ks. IsErrOf c.from_residual.result TooManyCallers ↔ (4096 < length ks)) (ap (λ ks. with_named ks (named_by e)) old.1.0 ∙ sym (named_more events [] e)) (search rules)

pub returns-in-Ok-clause-reached : goal.returns-in-Ok-clause-reached
returns-in-Ok-clause-reached c = subst IsReached c.self.view_is c.self.invariant

pub returns-in-Ok-clause-done : goal.returns-in-Ok-clause-done
returns-in-Ok-clause-done c = λ size events after.
    after_next size events c.args.event.now c.self.inside.machine c.step.new.self c.self.inside.names c.note.new.self (subst (IsAfter size events) (sym c.self.view_is) after)
    c.in-Ok.ensures.done c.in-Ok.ensures.count c.in_ok-newly.ensures.noted c.in_ok-newly.ensures.few

pub returns-in-Ok-clause-delivered : goal.returns-in-Ok-clause-delivered
unfolding IsAfter
returns-in-Ok-clause-delivered c = λ size events after.
    let m = c.self.inside.machine in
    let n = c.step.new.self in
    let e = c.args.event.now in
    let old = subst (IsAfter size events) (sym c.self.view_is) after in
    answer_is_reply size events m n e c.in-Ok.reply old.0 (run_steps size events e m n old.0 c.in-Ok.ensures.done c.in-Ok.ensures.count) c.in-Ok.ensures.delivered

pub returns-in-Ok-clause-count : goal.returns-in-Ok-clause-count
unfolding taken
returns-in-Ok-clause-count c = c.in-Ok.ensures.count ∙ ap (λ (r : ReplayParts). r.machine.now_at + 1) c.self.view_is

pub returns-in-Ok-clause-too_many : goal.returns-in-Ok-clause-too_many
unfolding IsAfter
returns-in-Ok-clause-too_many c = λ size events after.
    let old = subst (IsAfter size events) (sym c.self.view_is) after in
    let same = ap length (names_next events c.args.event.now c.self.inside.names c.note.new.self old.1.0 c.in_ok-newly.ensures.noted) in
    let few = c.in_ok-newly.ensures.few in
    (λ x. absurd cc, λ many. absurd (omega (arith, same, few, many)))

pub returns-in-Err-clause-reached : goal.returns-in-Err-clause-reached
returns-in-Err-clause-reached c = subst IsReached c.self.view_is c.self.invariant

pub returns-in-Err-clause-refused : goal.returns-in-Err-clause-refused
returns-in-Err-clause-refused c = λ size events after.
    after_still size events c.self.inside.machine c.step.new.self c.self.inside.names c.forget.new.self (subst (IsAfter size events) (sym c.self.view_is) after)
    c.in-Err.ensures.memory (c.forget.ensures ∙ c.in_ok-newly.ensures.newly)

pub returns-in-Err-clause-too_many : goal.returns-in-Err-clause-too_many
unfolding IsAfter
returns-in-Err-clause-too_many c = λ size events after.
    let old = subst (IsAfter size events) (sym c.self.view_is) after in
    let same = ap length (names_next events c.args.event.now c.self.inside.names c.note.new.self old.1.0 c.in_ok-newly.ensures.noted) in
    let few = c.in_ok-newly.ensures.few in
    (λ x. absurd cc, λ many. absurd (omega (arith, same, few, many)))

-- the invariant, as each exit leaves it
pub invariant_of-self : goal.invariant_of-self
invariant_of-self c =
    let r = c.self.invariant in
    let m = c.self.inside.machine in
    record { size = r.size; events = r.events; after = after_still r.size r.events m m c.self.inside.names c.note.new.self r.after (stays_same m) c.in_err-newly.ensures.refused }

pub invariant_of-self-in-Ok : goal.invariant_of-self-in-Ok
invariant_of-self-in-Ok c =
    let r = c.self.invariant in
    record {
      size = r.size;
      events = r.events ++ c.args.event.now ∷ [];
      after = after_next r.size r.events c.args.event.now c.self.inside.machine c.step.new.self c.self.inside.names c.note.new.self r.after
          c.in-Ok.ensures.done c.in-Ok.ensures.count c.in_ok-newly.ensures.noted c.in_ok-newly.ensures.few;
    }

pub invariant_of-self-in-Err : goal.invariant_of-self-in-Err
invariant_of-self-in-Err c =
    let r = c.self.invariant in
    record {
      size = r.size;
      events = r.events;
      after = after_still r.size r.events c.self.inside.machine c.step.new.self c.self.inside.names c.forget.new.self r.after
          c.in-Err.ensures.memory (c.forget.ensures ∙ c.in_ok-newly.ensures.newly);
    }
