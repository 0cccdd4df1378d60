use Rattle.std.proofs.Common.{◌∷◌, ◌+◌, ◌∙◌, ap, drop, sym}
use Rattle.std.proofs.lemmas.List.{drop_all, drop_more}
use Rattle.history.specs.Named.{with_named}
use Rattle.commands.specs.Roles.{clients_from}
use Rattle.commands.proofs.cluster_roles.clients_of.Goals as goal

pub loop-turn-preserved : goal.loop-turn-preserved
loop-turn-preserved c =
    let i = c.loop-turn.turn-index in
    let turns = c.args.turns.now in
    let rest = drop (i + 1) turns in
    ap (λ names. clients_from names rest) (c.in_ok-note_caller.ensures ∙ ap (with_named c.loop-turn.clients.keys) c.client_of.ensures)
    ∙ ap (clients_from c.loop-turn.clients.keys) (ap (λ t. t ∷ rest) c.turn-item.is ∙ sym (drop_more turns i c.turn-item.result c.loop-turn-test.true))
    ∙ c.loop-turn.invariant

pub returns : goal.returns
returns c = sym (ap (clients_from c.loop-turn.clients.keys) (drop_all c.loop-turn.turn-index c.args.turns.now c.loop-turn-test.false)) ∙ c.loop-turn.invariant
