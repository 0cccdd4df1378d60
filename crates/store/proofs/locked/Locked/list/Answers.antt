use Rattle.std.proofs.Common.{◌≡◌, ℕ, ◌∙◌, List, take, drop, ap, sym, subst, arith, length, IfOk}
use Rattle.std.proofs.lemmas.List.{length-take-le, take-append-drop}
use Rattle.plain_store.specs.Store.{Objects, collection}
use Rattle.line.specs.Notes.{IsLegal, notes_of, notes_up_to}
use Rattle.line.proofs.Logs.{legal_front}
use Rattle.store.specs.declared.writing.Writing.{Writing}
use Rattle.store.specs.History.{Accepts, home_of}
use Rattle.store.specs.Rule.{Locked}
use Rattle.store.proofs.Cuts.{stood_take}
use Rattle.store.proofs.Parts.{part_is}
use Rattle.store.proofs.locked.Locked.list.Goals as goal

pub returns-clause-part : goal.returns-clause-part
returns-clause-part g c =
    let n = c.note.ensures.noted.1 in
    let S : ℕ = g.H.Sharding.shards in
    let m : ℕ = c.args.number in
    let seen = n.seen in
    let drawn = n.drawn in
    let within = n.within in
    let low = c.requires.number.0 in
    let high = c.requires.number.1 in
    let all = c.note.new.caller.seen in
    let e = ap length seen in
    let h : List Writing = take m all in
    let short : length h ≡ m = length-take-le m all (omega arith) in
    let legal : IsLegal (home_of S) Accepts h = legal_front (home_of S) Accepts h (drop m all) all (take-append-drop m all) (subst (IsLegal (home_of S) Accepts) (sym seen) n.legal) in
    let is_view = c.self.view_is ∙ c.note.ensures.same in
    let same : c.self.inside.seat.view.notes ≡ c.args.self.now.notes = ap (λ (l : Locked). l.notes) is_view in
    let floor = ap (λ (l : Locked). l.shard.floor) is_view in
    let whole : notes_up_to (length all) c.self.inside.seat.view.notes ≡ notes_of (home_of S) c.args.self.now.index 1 all =
    ap (notes_up_to (length all)) same ∙ (ap (λ l. notes_up_to (length l) c.args.self.now.notes) seen ∙ (n.shown ∙ ap (notes_of (home_of S) c.args.self.now.index 1) (sym seen))) in
    let shown : notes_up_to (length h) c.self.inside.seat.view.notes ≡ notes_of (home_of S) c.args.self.now.index 1 h = ap (λ k. notes_up_to k c.self.inside.seat.view.notes) short ∙ stood_take (home_of S) c.args.self.now.index m all c.self.inside.seat.view.notes (omega arith) whole in
    let is = part_is S g.N.Naming.capacity h legal (omega arith) c.self.inside.shard.records c.self.inside.seat.view.notes m c.args.self.now.index (λ q. c.self.invariant.4.values m q (omega arith)) (sym short) shown in
    subst (λ (o : Objects). IfOk c.list_at.result (λ objects. objects.items ≡ collection o c.args.kind c.args.namespace.now)) is c.list_at.ensures
