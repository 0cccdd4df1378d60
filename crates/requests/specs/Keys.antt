-- The key that a request names; a list and a compaction name none.
use Rattle.std.specs.Prelude.{Option, Some, None}
use Rattle.objects.specs.declared.key.Key.{Key}
use Rattle.requests.specs.declared.request.Request.{Request}
use Rattle.requests.specs.declared.request.Request.TheVariants as request
use Rattle.requests.specs.declared.request.Request.TheVariants.{Create, Get, Update, UpdateStatus, Delete, Compact}

abbrev pub key_named : Request → Option Key
key_named (Create d) = Some d.object.key
key_named (Get k) = Some k
key_named (request.List kind namespace exact) = None
key_named (Update d) = Some d.object.key
key_named (UpdateStatus d) = Some d.object.key
key_named (Delete k uid version at) = Some k
key_named (Compact to) = None
