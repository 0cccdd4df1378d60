-- Accepted creates and removals among requests and their replies (Kubernetes API concepts: a name is given to one
-- object at a time, and is free again once that object is removed).
use Rattle.std.specs.Prelude.{◌≡◌, Bool, true, false, List}
use Rattle.objects.specs.declared.object.Object.{Object}
use Rattle.requests.specs.declared.request.Request.{Request}
use Rattle.requests.specs.declared.request.Request.TheVariants.{Create, Update, UpdateStatus, Delete}
use Rattle.requests.specs.declared.reply.Reply.{Reply}
use Rattle.requests.specs.declared.reply.Reply.TheVariants.{Created, Updated, Unchanged, Marked, Removed}
use Rattle.requests.specs.Lists.{Has}
use Rattle.rounds.specs.Transcript.{Exchange}

-- the write was done, or there was nothing to do
abbrev pub succeeded : Request → Reply → Bool
succeeded (Create d) (Created o) = true
succeeded (Update d) (Updated o) = true
succeeded (Update d) (Unchanged o) = true
succeeded (UpdateStatus d) (Updated o) = true
succeeded (UpdateStatus d) (Unchanged o) = true
succeeded (Delete k uid version at) (Marked o) = true
succeeded (Delete k uid version at) (Unchanged o) = true
succeeded (Delete k uid version at) (Removed o) = true
succeeded request reply = false

-- a create was accepted, and made the object
abbrev pub Creates : Exchange → Object → Type 0
Creates exchange o = exchange.1 ≡ Created o

-- a delete was accepted, and removed the object
abbrev pub Removes : Exchange → Object → Type 0
Removes exchange o = exchange.1 ≡ Removed o

-- an accepted removal of the object of that key and UID is among them
pub record HasRemoval (o : Object) (exchanges : List Exchange) : Type 0 where
  pub exchange : Exchange
  pub stands : Has exchange exchanges
  pub removed : Object
  pub removes : Removes exchange removed
  pub key_is : removed.key ≡ o.key
  pub uid_is : removed.meta.uid ≡ o.meta.uid
