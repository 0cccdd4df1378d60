-- Objects as requests to write them have them.
use Rattle.std.specs.Prelude.{None}
use Rattle.objects.specs.declared.object.Draft.{Draft}
use Rattle.objects.specs.declared.object.Object.{Object}

-- the object, whatever the store has under its key
abbrev pub draft : Object → Draft
draft o = record { object = o; uid = None; version = None }
