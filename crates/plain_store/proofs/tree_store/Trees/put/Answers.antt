use Rattle.std.proofs.Common.{◌+◌, ap, arith, ◌∙◌}
use Rattle.plain_store.specs.Store.{Store, with_next}
use Rattle.plain_store.proofs.Held.{pushed_is, pushed_there, pushed_up}
use Rattle.plain_store.proofs.Runs.{still_reached}
use Rattle.plain_store.proofs.tree_store.Trees.put.Goals as goal

pub invariant_of-self-2 : goal.invariant_of-self-2
invariant_of-self-2 c =
    let s = c.args.self.now in
    let counter = ap (λ (t : Store). t.counter) c.self.view_is in
    let capacity = ap (λ (t : Store). t.capacity) c.self.view_is in
    let v = c.self.inside.versions in
    let key = c.args.key.now in
    let is = pushed_there v _ c.push.new.self (c.self.inside.counter + 1) key c.in_ok-state.state c.in_ok-make_room.ensures.made c.push.ensures.pushed in (
      omega (arith, counter, capacity),
      c.self.invariant.1,
      pushed_up v c.push.new.self c.self.inside.counter c.self.inside.capacity key c.in_ok-state.state c.self.invariant.2 is,
      still_reached _ _ (pushed_is v c.push.new.self c.self.inside.counter c.self.inside.capacity key c.in_ok-state.state c.self.invariant.2 is
          ∙ ap (λ (t : Store). with_next t key c.in_ok-state.state) c.self.view_is ∙ ap (with_next s key) c.in_ok-state.ensures) c.requires.reached,
    )

pub returns-clause-put : goal.returns-clause-put
returns-clause-put c =
    let s = c.args.self.now in
    let v = c.self.inside.versions in
    let key = c.args.key.now in
    let is = pushed_there v _ c.push.new.self (c.self.inside.counter + 1) key c.in_ok-state.state c.in_ok-make_room.ensures.made c.push.ensures.pushed in
    c.set_tombstone_if_removed.ensures
    ∙ pushed_is v c.push.new.self c.self.inside.counter c.self.inside.capacity key c.in_ok-state.state c.self.invariant.2 is
    ∙ ap (λ (t : Store). with_next t key c.in_ok-state.state) c.self.view_is ∙ ap (with_next s key) c.in_ok-state.ensures
