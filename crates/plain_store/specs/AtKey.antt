-- What the store has under a key, and what a request makes of it.
use Rattle.std.specs.Prelude.{◌≡◌, Some, None}
use Rattle.std.specs.FinMap as map
use Rattle.objects.specs.declared.key.Key.{Key}
use Rattle.objects.specs.declared.object.Object.{Object}
use Rattle.requests.specs.declared.request.Request.{Request}
use Rattle.plain_store.specs.Store.{Store, step}

abbrev pub Has : Store → Key → Object → Type 0
Has s key o = map.get s.objects key ≡ Some o

abbrev pub HasNone : Store → Key → Type 0
HasNone s key = map.get s.objects key ≡ None

-- The request finds the one object under the key, and leaves the other one there. They may be the same.
abbrev pub Leaves : Store → Request → Key → Object → Object → Type 0
Leaves s request key before after = Has s key before × Has (step s request).0 key after

-- The request finds no object under the key, and leaves one there.
abbrev pub Makes : Store → Request → Key → Object → Type 0
Makes s request key made = HasNone s key × Has (step s request).0 key made
