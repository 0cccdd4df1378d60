use Rattle.std.proofs.Common.{◌≡◌, sym, subst}
use Rattle.std.proofs.lemmas.Option.{IfSome_then}
use Rattle.store.specs.Tickets.{Ticket}
use Rattle.racing.proofs.Giving.{answered_to_write, read_learns, tried}
use Rattle.racing.proofs.running.StoreSharedStore.try_reply.Goals as goal

pub returns-clause-learns : goal.returns-clause-learns
returns-clause-learns g c = read_learns g.N.Naming.capacity c.args.caller.now c.try_reply.new.caller c.try_reply.ensures.read

pub returns-clause-same : goal.returns-clause-same
returns-clause-same g c =
    let t = c.args.ticket.now in
    subst (λ (u : Ticket). (u.request ≡ t.request) × (u.since ≡ t.since) × (u.place ≡ t.place)) (sym c.try_reply.ensures.left) (tried t _)

pub returns-clause-answered : goal.returns-clause-answered
returns-clause-answered g c =
    IfSome_then c.try_reply.result c.try_reply.ensures.reply
    (λ reply is.
    answered_to_write g.H.Sharding.shards g.N.Naming.capacity c.args.ticket.now reply c.args.caller.now c.try_reply.new.caller c.requires c.try_reply.ensures.read is)
