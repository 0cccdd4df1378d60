use Rattle.std.proofs.Common.{◌≡◌, ℕ, ◌∙◌, ap, sym, subst, arith, length, IfOk}
use Rattle.objects.specs.ShardOf.{shard_of}
use Rattle.plain_store.specs.Store.{found}
use Rattle.line.specs.Notes.{IsLegal, notes_of, notes_up_to}
use Rattle.store.specs.History.{Accepts, home_of}
use Rattle.store.specs.Rule.{Locked}
use Rattle.store.proofs.Visits.{get_answer}
use Rattle.store.proofs.locked.Locked.get.Goals as goal

pub returns-clause-reply : goal.returns-clause-reply
returns-clause-reply g c =
    let n = c.note.ensures.noted.1 in
    let S : ℕ = g.H.Sharding.shards in
    let seen = n.seen in
    let drawn = n.drawn in
    let within = n.within in
    let legal : IsLegal (home_of S) Accepts c.note.new.caller.seen = subst (IsLegal (home_of S) Accepts) (sym seen) n.legal in
    let same : c.self.inside.seat.view.notes ≡ c.args.self.now.notes = ap (λ (l : Locked). l.notes) (c.self.view_is ∙ c.note.ensures.same) in
    let shown : notes_up_to (length c.note.new.caller.seen) c.self.inside.seat.view.notes ≡ notes_of (home_of S) (shard_of c.args.key.now S) 1 c.note.new.caller.seen =
    ap (notes_up_to (length c.note.new.caller.seen)) same ∙ (ap (λ l. notes_up_to (length l) c.args.self.now.notes) seen ∙ (n.shown ∙ (ap (λ i. notes_of (home_of S) i 1 c.args.caller.now.seen) (sym c.requires.key) ∙ ap (notes_of (home_of S) (shard_of c.args.key.now S) 1) (sym seen)))) in
    let answer = get_answer S g.N.Naming.capacity c.self.inside.shard.records c.self.inside.seat.view.notes c.args.key.now c.seen-number.result c.note.new.caller.seen (c.self.invariant.4.values c.seen-number.result c.args.key.now (let low = c.requires.floor in let is = c.seen-number.ensures in let floor = ap (λ (l : Locked). l.shard.floor) (c.self.view_is ∙ c.note.ensures.same) in omega arith)) (c.seen-number.ensures ∙ ap length (sym seen)) (let e = ap length seen in omega arith) legal shown in
    subst (λ x. IfOk c.found_reply.result (λ reply. reply ≡ x)) (ap (λ o. found o) c.at.ensures ∙ answer) c.found_reply.ensures
