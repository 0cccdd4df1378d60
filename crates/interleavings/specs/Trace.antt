-- A run: one event after another, from the opening world; and what it shows to its callers.
use Rattle.std.specs.Prelude.{List, [], ◌∷◌, Option, Some, None}
use Rattle.requests.specs.declared.reply.Reply.{Reply}
use Rattle.interleavings.specs.declared.event.Event.{Event}
use Rattle.interleavings.specs.declared.trace.Item.{Item}
use Rattle.interleavings.specs.declared.trace.Item.TheVariants as item
use Rattle.interleavings.specs.World.{Size, World, opening}
use Rattle.interleavings.specs.Step.{step}

abbrev pub after : Size → World → List Event → World
after z w [] = w
after z w (e ∷ es) = after z (step z w e) es

-- the calls and replies that were enabled, in the order of their places
abbrev pub trace : Size → List Event → List Item
trace z events = (after z opening events).trace

-- the reply that these items begin with, if they begin with one: so what an event adds to the trace says what it gives
abbrev pub reply_in : List Item → Option Reply
reply_in (item.Reply place caller reply ∷ items) = Some reply
reply_in items = None
