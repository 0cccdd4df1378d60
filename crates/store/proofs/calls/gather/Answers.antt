use Rattle.std.proofs.Common.{IfSome, ◌≡◌, ℕ, suc, ◌+◌, ◌∙◌, take, ap, subst, arith, List, map}
use Rattle.plain_store.specs.Store.{collection}
use Rattle.plain_store.proofs.KeptUids.{filed_in_run}
use Rattle.store.specs.declared.writing.Writing.{Writing}
use Rattle.store.specs.History.{request_of, store_after}
use Rattle.store.specs.Parts.{part_of, parts_below}
use Rattle.versions.specs.Gathered.{with_objects}
use Rattle.store.proofs.Going.{stays_self, stays_stays}
use Rattle.store.proofs.Parts.{no_parts, one_more_part}
use Rattle.store.proofs.calls.gather.Goals as goal

pub loop-index-init : goal.loop-index-init
loop-index-init g c =
    let h = take c.args.number c.args.caller.now.seen in
    (stays_self c.args.caller.now, c.new-found.ensures ∙ no_parts (store_after g.N.Naming.capacity h).objects (filed_in_run g.N.Naming.capacity (map request_of h)) c.args.kind c.args.namespace.now g.H.Sharding.shards)

pub loop-index-preserved : goal.loop-index-preserved
loop-index-preserved g c =
    let C = g.N.Naming.capacity in
    let S = g.H.Sharding.shards in
    let h = take c.args.number c.args.caller.now.seen in
    let m = (store_after C h).objects in
    let i : ℕ = c.loop-index.index in
    let all = stays_stays c.args.caller.now c.loop-index.caller c.part.new.caller c.loop-index.invariant.0 c.part.ensures.stays in
    let next : suc i ≡ i + 1 = omega arith in
    let part : c.in-Ok-Some.objects.items ≡ collection (part_of (store_after C (take c.args.number c.part.new.caller.seen)).objects S i) c.args.kind c.args.namespace.now = subst (λ o. IfSome o (λ objects. objects.items ≡ collection (part_of (store_after C (take c.args.number c.part.new.caller.seen)).objects S i) c.args.kind c.args.namespace.now)) c.in-Ok-Some.field-0-is c.in-Ok-Some.ensures.part in (
      all,
      c.in_ok-put_all-in-Ok-Some.ensures
          ∙ (ap (λ f. with_objects f c.in-Ok-Some.objects.items) c.loop-index.invariant.1
          ∙ (ap (with_objects (parts_below m c.args.kind c.args.namespace.now S i)) (part ∙ ap (λ (l : List Writing). collection (part_of (store_after C (take c.args.number l)).objects S i) c.args.kind c.args.namespace.now) all.seen)
          ∙ (one_more_part m (filed_in_run C (map request_of h)) c.args.kind c.args.namespace.now S i
          ∙ ap (parts_below m c.args.kind c.args.namespace.now S) next))),
    )
