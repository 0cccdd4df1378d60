use Rattle.std.proofs.Common.{◌∙◌, List, length, subst, sym}
use Rattle.cluster_runs.specs.Ran.{IsClusterRun}
use Rattle.cluster_runs.specs.Turns.{events_of_turns}
use Rattle.cluster_runs.specs.declared.turn.Turn.{Turn}
use Rattle.controllers.specs.Cluster.{namespaces_of, reconciler_named, size_of}
use Rattle.interleavings.specs.declared.trace.Item.{Item}
use Rattle.race_scripts.specs.Leading.{IsLed}
use Rattle.race_scripts.proofs.StoreLed.{leads}
use Rattle.race_scripts.proofs.cluster_script.leads_to.Goals as goal

pub returns : goal.returns
returns c = λ is.
    let a = c.args.asked.now in
    let e = c.args.end.now in
    let players = c.args.players.now in
    let script = c.args.script.now in
    let spec = script.spec in
    let found = c.in_ok-found.found.run in
    let Is : List Turn → Type 0 =
    λ turns. IsClusterRun (size_of spec) (length spec.sets.items) (reconciler_named spec.sets.items)
    (events_of_turns (size_of spec) (length spec.sets.items) (reconciler_named spec.sets.items) (namespaces_of spec.sets.items) turns) found in
    leads a e c.args.looker players script found (sym c.is_of_race.ensures ∙ c.if-not-is_of_race.false) c.requires (sym c.are_apart.ensures ∙ c.if-not-are_apart.false)
    (subst Is c.as_slice.ensures.value c.in_ok-found.ensures.run)
    (subst (λ (items : List Item). IsLed a e c.args.looker players items) c.as_slice-2.ensures.value (c.in_ok-led.ensures is))
