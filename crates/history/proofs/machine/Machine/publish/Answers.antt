use Rattle.std.proofs.Common.{◌≡◌, ◌+◌, ◌<◌, length, refl, sym, ap, ◌∙◌, subst, Some, arith}
use Rattle.std.specs.Option.{IsSomeAnd}
use Rattle.objects.specs.ShardOf.{shard_of}
use Rattle.requests.specs.Change.{version_of}
use Rattle.versions.specs.Records.{IsAbove}
use Rattle.versions.specs.Shard as versions
use Rattle.versions.specs.Shard.{Shard}
use Rattle.history.proofs.Pieces.{get_any, if_some_at, on_err}
use Rattle.history.proofs.Published.{drawn_above, drawn_fits, drawn_small, publish_done, publish_nothing, put_at_is}
use Rattle.history.proofs.WritesDone.{roomed}
use Rattle.history.proofs.machine.Machine.publish.Goals as goal

pub returns-in_default-clause-done : goal.returns-in_default-clause-done
returns-in_default-clause-done c = publish_nothing c.args.self.now c.args.caller (sym c.in_default.ensures)

pub returns-in_err-make_room-clause-memory : goal.returns-in_err-make_room-clause-memory
returns-in_err-make_room-clause-memory c =
    let m = c.args.self.now in
    let s = c.shard_of-shard.result in
    let lt : s < length m.shards.items = (let below = c.shard_of-shard.ensures.below in let count = c.len.ensures in omega (arith, m.shards.ok)) in
    let own = c.in_err-make_room.ensures.memory ∙ get_any m.shards.items s _ versions.opening lt c.index_mut.ensures.value in
    on_err _ _ (roomed m _ s c.make_room.new.self (ap (λ (y : Shard). y.records) own) (ap (λ (y : Shard). y.floor) own) lt refl refl)

pub publish-version-requires : goal.publish-version-requires
publish-version-requires c = subst (λ o. IsSomeAnd o (λ draw. draw.index < 1048576)) c.in-Some.ensures (drawn_small c.args.self.now c.args.caller c.in-Some.draw.now c.requires (sym c.in-Some.ensures)).0

pub fill-requires-clause-index : goal.fill-requires-clause-index
fill-requires-clause-index c = (drawn_small c.args.self.now c.args.caller c.in-Some.draw.now c.requires (sym c.in-Some.ensures)).1

pub fill-requires-clause-small : goal.fill-requires-clause-small
fill-requires-clause-small c = (drawn_small c.args.self.now c.args.caller c.in-Some.draw.now c.requires (sym c.in-Some.ensures)).0

pub fill-requires-clause-room : goal.fill-requires-clause-room
fill-requires-clause-room c =
    let m = c.args.self.now in
    let s = c.shard_of-shard.result in
    let d = c.in-Some.draw.now in
    let lt : s < length m.shards.items = (let below = c.shard_of-shard.ensures.below in let count = c.len.ensures in omega (arith, m.shards.ok)) in
    let version = if_some_at (λ draw. c.publish-version.result ≡ version_of draw.writing.change (draw.index + 1)) _ d (sym c.in-Some.ensures) c.publish-version.ensures.version in
    ap (λ (y : Shard). y.room) (put_at_is m.shards.items s c.make_room.new.self lt ∙ c.in_ok-make_room.ensures.made)
    ∙ ap Some (sym (ap (λ v. v.key) version ∙ drawn_fits m c.args.caller d c.requires (sym c.in-Some.ensures)))

pub fill-requires-clause-above : goal.fill-requires-clause-above
fill-requires-clause-above c =
    let m = c.args.self.now in
    let s = c.shard_of-shard.result in
    let d = c.in-Some.draw.now in
    let count : c.len.result ≡ length m.shards.items = (let e = c.len.ensures in omega (arith, m.shards.ok)) in
    let lt : s < length m.shards.items = (let below = c.shard_of-shard.ensures.below in omega arith) in
    let is : s ≡ shard_of d.writing.key (length m.shards.items) = c.shard_of-shard.ensures.value ∙ ap (shard_of d.writing.key) count in
    let own = put_at_is m.shards.items s c.make_room.new.self lt ∙ c.in_ok-make_room.ensures.made in
    let records = ap (λ (y : Shard). y.records) own ∙ ap (λ (y : Shard). y.records) (get_any m.shards.items s _ versions.opening lt c.index_mut.ensures.value) in
    subst (λ rs. IsAbove rs (d.index + 1)) (sym records) (drawn_above m c.args.caller d s c.requires (sym c.in-Some.ensures) is lt)

pub returns-clause-done : goal.returns-clause-done
returns-clause-done c =
    let m = c.args.self.now in
    let s = c.shard_of-shard.result in
    let d = c.in-Some.draw.now in
    let count : c.len.result ≡ length m.shards.items = (let e = c.len.ensures in omega (arith, m.shards.ok)) in
    let lt : s < length m.shards.items = (let below = c.shard_of-shard.ensures.below in omega arith) in
    let is : s ≡ shard_of d.writing.key (length m.shards.items) = c.shard_of-shard.ensures.value ∙ ap (shard_of d.writing.key) count in
    let own = get_any m.shards.items s _ versions.opening lt c.index_mut.ensures.value in
    let records = ap (λ (y : Shard). y.records) c.in_ok-make_room.ensures.made ∙ ap (λ (y : Shard). y.records) own in
    let floor = ap (λ (y : Shard). y.floor) c.in_ok-make_room.ensures.made ∙ ap (λ (y : Shard). y.floor) own in
    let version = if_some_at (λ draw. c.publish-version.result ≡ version_of draw.writing.change (draw.index + 1)) _ d (sym c.in-Some.ensures) c.publish-version.ensures.version in
    publish_done m _ _ c.fill.new.self c.args.caller s d c.publish-version.result (sym c.in-Some.ensures) is (roomed m _ s c.make_room.new.self records floor lt refl refl) refl c.publish-version.ensures.entered refl version c.fill.ensures.fills
