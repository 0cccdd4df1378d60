use Rattle.std.proofs.Common.{IfSome, subst, ◌≡◌, ℕ, ◌∙◌, List, take, ap, sym, arith}
use Rattle.std.proofs.lemmas.List.{take_all}
use Rattle.objects.specs.declared.object.Object.{Object}
use Rattle.requests.specs.declared.reply.Reply.TheVariants.{Listed}
use Rattle.requests.specs.declared.request.Request.TheVariants as request
use Rattle.plain_store.specs.Store.{collection, step}
use Rattle.store.specs.declared.writing.Writing.{Writing}
use Rattle.store.specs.History.{store_after}
use Rattle.store.proofs.Parts.{list_answer}
use Rattle.store.proofs.calls.list.Goals as goal

pub returns-in-Ok-Some-clause-reply : goal.returns-in-Ok-Some-clause-reply
returns-in-Ok-Some-clause-reply g c =
    let h = c.frontier-number.new.self.seen in
    let C : ℕ = g.N.Naming.capacity in
    let n : ℕ = c.frontier-number.result in
    let loaded = c.frontier-number.ensures.loaded in
    let long = loaded.long in
    let within = loaded.within in
    let same = c.gather.ensures.stays.seen in
    let objects : c.in-Ok-Some.objects.items ≡ collection (store_after C (take n c.gather.new.caller.seen)).objects c.args.kind c.args.namespace.now = subst (λ o. IfSome o (λ objects. objects.items ≡ collection (store_after C (take n c.gather.new.caller.seen)).objects c.args.kind c.args.namespace.now)) c.in-Ok-Some.field-0-is c.in-Ok-Some.ensures.objects in
    c.listed.ensures
    ∙ (ap (λ (os : List Object). Listed os n) objects
    ∙ (ap (λ (l : List Writing). Listed (collection (store_after C (take n l)).objects c.args.kind c.args.namespace.now) n) same
    ∙ (ap (λ (l : List Writing). Listed (collection (store_after C l).objects c.args.kind c.args.namespace.now) n) (take_all n h (omega arith))
    ∙ (list_answer g.H.Sharding.shards C h loaded.legal (omega arith) c.requires.shards.1 c.args.kind c.args.namespace.now n (sym long)
    ∙ ap (λ (l : List Writing). (step (store_after C l) (request.List c.args.kind c.args.namespace.now 0)).1) (sym same)))))
