-- An object of which the store knows something else.
use Rattle.objects.specs.declared.object.Object.{Object}
use Rattle.objects.specs.declared.meta.Meta.{Meta}

-- the object, with that of it
abbrev pub with_meta : Meta → Object → Object
with_meta meta o = record { key = o.key; meta = meta; body = o.body }
