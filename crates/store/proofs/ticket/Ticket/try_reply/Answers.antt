use Rattle.std.proofs.Common.{◌≡◌, ◌∙◌, ap, sym, refl, Option, Some, None, IfSome, arith}
use Rattle.requests.specs.declared.reply.Reply.{Reply}
use Rattle.store.specs.Tickets.{IsReply, Ticket}
use Rattle.store.proofs.Tickets.{still_of, replied}
use Rattle.store.proofs.ticket.Ticket.try_reply.Goals as goal

if_some : (P : Reply → Type 0) (o : Option Reply) → ((x : Reply) → o ≡ Some x → P x) → IfSome o P
if_some P None h = tt
if_some P (Some x) h = h x refl

pub returns-clause-reply : goal.returns-clause-reply
returns-clause-reply g c =
    let saw = ap (λ (t : Ticket). t.saw) c.self.view_is in
    let reached = c.if-frontier-self.false in
    if_some (λ reply. IsReply g.N.Naming.capacity c.args.self.now reply c.try_raise-frontier.new.self) c.take.result
    (λ x is. replied g.H.Sharding.shards g.N.Naming.capacity c.args.self.now c.args.caller.now c.try_raise-frontier.new.self c.try_raise-frontier.result c.requires.ticket c.try_raise-frontier.ensures.loaded (omega arith) c.try_raise-frontier.ensures.loaded.own_there x
    (sym (ap (λ (t : Ticket). t.reply) c.self.view_is) ∙ (sym c.take.ensures.value ∙ is)))

pub returns-then-frontier-self-clause-ticket : goal.returns-then-frontier-self-clause-ticket
returns-then-frontier-self-clause-ticket g c =
    still_of g.H.Sharding.shards g.N.Naming.capacity c.args.self.now c.args.caller.now c.try_raise-frontier.new.self c.try_raise-frontier.result c.requires.ticket c.try_raise-frontier.ensures.loaded c.args.self.now.reply (λ x e. e)
