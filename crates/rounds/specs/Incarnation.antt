-- An incarnation of a controller: its requests and replies from its start, or from a crash, to its next crash.
use Rattle.std.specs.Prelude.{◌≡◌, List, [], ◌∷◌, ⊤}
use Rattle.rounds.specs.Phase.{Phase, asks, takes}
use Rattle.rounds.specs.Reconciler.{Reconciler}
use Rattle.rounds.specs.Transcript.{Exchange}

-- the phase that the replies have led to
abbrev pub phase_after : Reconciler → Phase → List Exchange → Phase
phase_after c phase [] = phase
phase_after c phase (e ∷ es) = phase_after c (takes c phase e.1) es

-- each request is the one of the phase that the replies before have led to
abbrev pub Follows : Reconciler → Phase → List Exchange → Type 0
Follows c phase [] = ⊤
Follows c phase (e ∷ es) = (e.0 ≡ asks c phase) × Follows c (takes c phase e.1) es
