use Rattle.std.proofs.Common.{◌≤◌, is_some, sym, ap, subst, ◌∙◌}
use Rattle.version_map.specs.Versions as versions
use Rattle.versions.specs.Records.{newest, state_at, value}
use Rattle.versions.specs.Shard.{raised}
use Rattle.versions.proofs.Held.{newest_is, raised_are, raised_is, room_raised, state_is, value_is}
use Rattle.versions.proofs.shard.Shard.compact.Goals as goal

pub invariant_of-self : goal.invariant_of-self
invariant_of-self c =
    let after = c.hide_removed.ensures.same ∙ c.compact.ensures.raised in (
      raised_are c.self.inside.versions c.self.invariant.0 c.args.number c.hide_removed.new.versions after,
      λ some. c.hide_removed.ensures.room (c.self.invariant.1 (ap is_some (sym (room_raised c.self.inside.versions c.self.invariant.0 c.args.number c.hide_removed.new.versions after)) ∙ some)),
    )

pub returns-clause-raised : goal.returns-clause-raised
returns-clause-raised c =
    raised_is c.self.inside.versions c.self.invariant.0 c.args.number c.hide_removed.new.versions (c.hide_removed.ensures.same ∙ c.compact.ensures.raised) ∙ ap (λ s. raised s c.args.number) c.self.view_is

pub returns-clause-newest : goal.returns-clause-newest
returns-clause-newest c key =
    newest_is c.hide_removed.new.versions.rows _ key (raised_are c.self.inside.versions c.self.invariant.0 c.args.number c.hide_removed.new.versions (c.hide_removed.ensures.same ∙ c.compact.ensures.raised))
    ∙ ap (λ v. versions.newest v.rows key) c.hide_removed.ensures.same ∙ c.compact.ensures.newest key
    ∙ sym (newest_is c.self.inside.versions.rows _ key c.self.invariant.0) ∙ ap (λ s. newest s.records key) c.self.view_is

pub returns-clause-readings : goal.returns-clause-readings
returns-clause-readings c m from =
    let after = c.hide_removed.ensures.same in
    state_is c.hide_removed.new.versions.rows _ m (raised_are c.self.inside.versions c.self.invariant.0 c.args.number c.hide_removed.new.versions (after ∙ c.compact.ensures.raised))
    ∙ ap (λ v. versions.state_at v.rows m) after ∙ c.compact.ensures.readings m (subst (λ v. v.floor ≤ m) after from)
    ∙ sym (state_is c.self.inside.versions.rows _ m c.self.invariant.0) ∙ ap (λ s. state_at s.records m) c.self.view_is

pub returns-clause-values : goal.returns-clause-values
returns-clause-values c m key from =
    let after = c.hide_removed.ensures.same in
    value_is c.hide_removed.new.versions.rows _ m key (raised_are c.self.inside.versions c.self.invariant.0 c.args.number c.hide_removed.new.versions (after ∙ c.compact.ensures.raised))
    ∙ ap (λ v. versions.value v.rows m key) after ∙ c.compact.ensures.values m key (subst (λ v. v.floor ≤ m) after from)
    ∙ sym (value_is c.self.inside.versions.rows _ m key c.self.invariant.0) ∙ ap (λ s. value s.records m key) c.self.view_is
