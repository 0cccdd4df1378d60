-- What was under a key before, of what is there after some requests.
use Rattle.std.specs.Prelude.{◌≡◌, ◌⊎◌, ◌<◌}
use Rattle.objects.specs.declared.key.Key.{Key}
use Rattle.objects.specs.declared.object.Object.{Object}
use Rattle.plain_store.specs.Store.{Store}
use Rattle.plain_store.specs.AtKey.{Has}

-- an object of this one's UID was under the key
abbrev pub HadUidOf : Store → Key → Object → Type 0
HadUidOf s key o = (p : Object) × Has s key p × (p.meta.uid ≡ o.meta.uid)

-- the object was made later, or one of its UID was there, under the same key
abbrev pub IsUidSince : Store → Key → Object → Type 0
IsUidSince s key o = (s.counter < o.meta.uid) ⊎ HadUidOf s key o

-- the object was written later, or was there unchanged
abbrev pub IsVersionSince : Store → Key → Object → Type 0
IsVersionSince s key o = (s.counter < o.meta.revision) ⊎ Has s key o
