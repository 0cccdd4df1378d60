use Rattle.std.proofs.Common.{◌≡◌, false, nat_lt, if◌then◌else◌, sym, ap, ◌∙◌, arith}
use Rattle.std.proofs.lemmas.Bool.Decides.{nat_tests}
use Rattle.version_map.specs.Versions.{compacted, newest, state_at, value}
use Rattle.version_map.proofs.Steps.{newest_left, room_key, seen, value_left}
use Rattle.version_map.proofs.Lists.{state_left}
use Rattle.version_map.proofs.map.VersionMap.compact.Goals as goal

pub returns-clause-raised : goal.returns-clause-raised
returns-clause-raised g c =
    let none = c.drop_next.ensures.none c.loop-test.false in
    let before = c.args.self.now in
    let from = c.if-number-self.false in
    let floor = ap (λ v. v.floor) c.self.view_is in
    let not_below : nat_lt c.args.number before.floor ≡ false = grind (arith, nat_tests) in
    ap (λ m. seen m c.args.number (room_key c.self-2.inside.index.all c.self-2.inside.room)) (ap (λ v. v.rows) (c.self-2.view_is ∙ none.0) ∙ sym none.1 ∙ c.loop.invariant.2)
    ∙ ap (seen (compacted before.rows c.args.number) c.args.number) (ap (λ v. v.room) (c.self-2.view_is ∙ none.0) ∙ c.loop.invariant.1)
    ∙ sym (ap (λ b. if b then before else seen (compacted before.rows c.args.number) c.args.number before.room) not_below)

pub returns-clause-newest : goal.returns-clause-newest
returns-clause-newest g c key =
    let none = c.drop_next.ensures.none c.loop-test.false in
    ap (λ rows. newest rows key) (ap (λ v. v.rows) (c.self-2.view_is ∙ none.0) ∙ sym none.1 ∙ c.loop.invariant.2) ∙ newest_left c.args.self.now.rows c.args.number key

pub returns-clause-values : goal.returns-clause-values
returns-clause-values g c m key from =
    let none = c.drop_next.ensures.none c.loop-test.false in
    ap (λ rows. value rows m key) (ap (λ v. v.rows) (c.self-2.view_is ∙ none.0) ∙ sym none.1 ∙ c.loop.invariant.2) ∙ value_left c.args.self.now.rows c.args.number m key from

pub returns-clause-readings : goal.returns-clause-readings
returns-clause-readings g c m from =
    let none = c.drop_next.ensures.none c.loop-test.false in
    ap (λ rows. state_at rows m) (ap (λ v. v.rows) (c.self-2.view_is ∙ none.0) ∙ sym none.1 ∙ c.loop.invariant.2) ∙ state_left c.args.self.now.rows c.args.number m from
