-- What a choice that borrows its revision means.
use Rattle.revisions.specs.declared.choice.Chosen.{Chosen}
use Rattle.revisions.specs.declared.choice.Chosen.TheVariants.{InPlace, Renumber, Create}
use Rattle.revisions.specs.Choice.{Choice, in_place, to_renumber, to_create}

abbrev pub chosen : Chosen → Choice
chosen (InPlace r) = in_place r.object.now
chosen (Renumber r) = to_renumber r.object.now
chosen Create = to_create
