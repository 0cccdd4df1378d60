-- How a change is held: its kind and its object.
use Rattle.std.specs.Prelude.{Option, Some, None}
use Rattle.objects.specs.declared.object.Object.{Object}
use Rattle.requests.specs.declared.change_kind.ChangeKind.{ChangeKind}
use Rattle.requests.specs.declared.change_kind.ChangeKind.TheVariants.{Creation, Update, Mark, Removal}
use Rattle.requests.specs.Change.{Change, creates, updates, marks, removes}

abbrev pub change_by : ChangeKind → Object → Change
change_by Creation o = creates o
change_by Update o = updates o
change_by Mark o = marks o
change_by Removal o = removes o

-- what is stored of the object
abbrev pub stored_by : ChangeKind → Object → Option Object
stored_by Creation o = Some o
stored_by Update o = Some o
stored_by Mark o = Some o
stored_by Removal o = None
