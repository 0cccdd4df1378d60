-- What a replay promises of the events so far.
use Rattle.std.specs.Prelude.{◌≡◌, ◌≤◌, ℕ, List, [], ◌∷◌, ◌++◌, length, Option, None, refl}
use Rattle.std.specs.Coded.{Coded, code_by, coded×}
use Rattle.requests.specs.declared.reply.Reply.{Reply}
use Rattle.interleavings.specs.declared.event.Event.{Event}
use Rattle.interleavings.specs.declared.event.Event.TheVariants as event
use Rattle.history.specs.declared.machine.Machine.{Machine}
use Rattle.history.specs.declared.names.NamedCallers.{NamedCallers}
use Rattle.history.specs.contracts.machine.Machine as machine
use Rattle.history.specs.contracts.names.NamedCallers as names
use Rattle.history.specs.Named.{named}
use Rattle.history.specs.Replayed.{IsRun, delivered_at}
use Rattle.interleavings.specs.declared.trace.Run.{Run}
use Rattle.interleavings.specs.Linearization.{IsLegal}
use Rattle.interleavings.specs.Order.{order}
use Rattle.interleavings.specs.Trace.{trace}
use Rattle.interleavings.specs.World.{Size}

-- a replay: the world of its run, and the callers that its events have named
pub record ReplayParts : Type 0 where
  pub machine : Machine
  pub names : NamedCallers

abbrev pub replay_coded : Coded ReplayParts
replay_coded = code_by (Machine × NamedCallers) (coded× machine.the_row.coded names.the_row.coded) (λ r. (r.machine, r.names)) (λ p. record { machine = p.0; names = p.1 }) (λ _. refl)

-- the replay has handled these events, and no others
unfoldable pub IsAfter : Size → List Event → ReplayParts → Type 0
IsAfter z events replay = IsRun z events replay.machine × ((replay.names.callers.keys ≡ named [] events) × (length replay.names.callers.keys ≤ 4096))

-- some run, over a store of some size, leads to it
pub record IsReached (replay : ReplayParts) : Type 0 where
  pub size : Size
  pub events : List Event
  pub after : IsAfter size events replay

-- how many events it has handled
unfoldable pub taken : ReplayParts → ℕ
taken replay = replay.machine.now_at

-- The run has the trace of the events, and the order that is built from them, which is a legal one.
pub record IsRunOf (z : Size) (events : List Event) (run : Run) : Type 0 where
  pub capacity : run.trace.capacity ≡ z.capacity
  pub trace_is : run.trace.items.items ≡ trace z events
  pub order_is : run.order.items ≡ order z events
  pub legal : IsLegal z.capacity run.trace.items.items run.order.items

-- The reply that the caller of an event gets: for a Reply, what it adds to the trace; for any other event, none.
abbrev pub IsReplyTo : Size → List Event → Event → Option Reply → Type 0
IsReplyTo z events (event.Call c r) delivered = delivered ≡ None
IsReplyTo z events (event.Check c) delivered = delivered ≡ None
IsReplyTo z events (event.Reserve c) delivered = delivered ≡ None
IsReplyTo z events (event.Publish c) delivered = delivered ≡ None
IsReplyTo z events event.Raise delivered = delivered ≡ None
IsReplyTo z events (event.Read c) delivered = delivered ≡ None
IsReplyTo z events (event.ReadAt c) delivered = delivered ≡ None
IsReplyTo z events (event.Compact c) delivered = delivered ≡ None
IsReplyTo z events (event.Part c) delivered = delivered ≡ None
IsReplyTo z events (event.Reply c) delivered = trace z (events ++ event.Reply c ∷ []) ≡ trace z events ++ delivered_at (length events) c delivered
IsReplyTo z events (event.Crash c) delivered = delivered ≡ None
