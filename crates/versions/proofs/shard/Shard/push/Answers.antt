use Rattle.std.proofs.Common.{is_some, sym, ap, ◌∙◌, true≢false}
use Rattle.objects.specs.declared.object.Object.{Object}
use Rattle.version_map.specs.Versions.{Versions}
use Rattle.versions.specs.Shard.{Shard, pushed}
use Rattle.versions.proofs.Held.{above_is, above_seen, pushed_are, pushed_is, pushed_some}
use Rattle.versions.proofs.shard.Shard.push.Goals as goal

pub enqueue-requires : goal.enqueue-requires
enqueue-requires c = c.self.invariant.1 (ap (λ (s : Shard). is_some s.room) c.self.view_is ∙ ap is_some c.requires.room)

pub push-requires-clause-above : goal.push-requires-clause-above
push-requires-clause-above c = above_is c.self.inside.versions.rows _ c.args.number c.self.invariant.0 (above_seen c.self.inside.versions _ c.args.number c.self.view_is c.requires.above)

pub invariant_of-self : goal.invariant_of-self
invariant_of-self c =
    let after = pushed_some c.self.inside.versions _ _ c.args.number c.args.version.key c.args.version.state c.self.view_is c.requires.room c.push.ensures.pushed in (
      pushed_are c.self.inside.versions c.self.invariant.0 c.args.number c.args.version.key c.args.version.state (above_seen c.self.inside.versions _ c.args.number c.self.view_is c.requires.above) c.push.new.self after,
      λ some. absurd (true≢false (sym some ∙ ap (λ (v : Versions Object). is_some v.room) after)),
    )

pub returns : goal.returns
returns c =
    pushed_is c.self.inside.versions c.self.invariant.0 c.args.number c.args.version.key c.args.version.state (above_seen c.self.inside.versions _ c.args.number c.self.view_is c.requires.above) c.push.new.self
    (pushed_some c.self.inside.versions _ _ c.args.number c.args.version.key c.args.version.state c.self.view_is c.requires.room c.push.ensures.pushed)
    ∙ ap (λ s. pushed s c.args.number c.args.version) c.self.view_is
