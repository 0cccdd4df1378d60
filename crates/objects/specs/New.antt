-- An object that is to be made: the store knows nothing of it yet (Kubernetes API conventions, "Objects").
use Rattle.std.specs.Prelude.{codes, None}
use Rattle.serde_json.specs.Data.{Data, string, object, Members, put}
use Rattle.objects.specs.declared.kind.Kind.{Kind}
use Rattle.objects.specs.declared.object.Object.{Object}
use Rattle.objects.specs.Key.{KeyParts}
use Rattle.objects.specs.Kind.{kind_name, api_version}
use Rattle.objects.specs.Meta.{MetaParts}

-- the store gives the UID, the version and the generation
abbrev pub no_meta : MetaParts
no_meta = record { uid = 0; revision = 0; generation = 0; deletion = None }

-- the members, with the kind, its API version and the metadata
abbrev pub new_body : Kind → Members → Members → Data
new_body kind metadata members =
    object (put (codes "metadata") (object metadata) (put (codes "kind") (string (kind_name kind)) (put (codes "apiVersion") (string (api_version kind)) members)))

-- the object of that key, with that metadata besides its name and namespace
abbrev pub new_object : KeyParts → Members → Members → Object
new_object key metadata members = record { key = key; meta = no_meta; body = new_body key.kind metadata members }
