-- The sets in the first line of a cluster's script: there is a controller for each.
use Rattle.std.specs.Prelude.{ℕ, List, [], ◌∷◌, length, nat_le, ◌&&◌, codes, Option, Some, None, option_map, if◌then◌else◌}
use Rattle.serde_json.specs.Data.{Data, Items, no_items, item, Members}
use Rattle.serde_json.specs.Find.{as_array, as_object, as_str, get_member}
use Rattle.objects.specs.Names.{is_dns_label}
use Rattle.controllers.specs.declared.set_spec.SetSpec.{SetSpec}
use Rattle.scripts.specs.Events.{◌>>=◌, count_of}

-- what a `SetSpec` has
pub record SetParts : Type 0 where
  pub namespace : List ℕ
  pub name : List ℕ
  pub digits : ℕ
  pub moment : List ℕ

abbrev pub set_parts : SetSpec → SetParts
set_parts s = record { namespace = s.namespace; name = s.name; digits = s.digits; moment = s.moment }

-- a member that may be missing, but must be one of these if it is there
abbrev pub or_default : {A : Type 0} → (otherwise : A) → (Data → Option A) → Option Data → Option A
or_default otherwise read None = Some otherwise
or_default otherwise read (Some d) = read d

-- a text that is a DNS label (RFC 1123)
abbrev pub label_of : Data → Option (List ℕ)
label_of d = as_str d >>= λ s. if is_dns_label s then Some s else None

abbrev pub name_in : Members → Option (List ℕ)
name_in ms = get_member (codes "name") ms >>= label_of

abbrev pub namespace_in : Members → Option (List ℕ)
namespace_in ms = or_default (codes "default") label_of (get_member (codes "namespace") ms)

-- from 1 to 64: a hash has 64 hex digits
abbrev pub digits_of : Data → Option ℕ
digits_of d = count_of d >>= λ n. if nat_le 1 n && nat_le n 64 then Some n else None

abbrev pub digits_in : Members → Option ℕ
digits_in ms = or_default 10 digits_of (get_member (codes "digits") ms)

-- a text that is not empty
abbrev pub moment_of : Data → Option (List ℕ)
moment_of d = as_str d >>= λ s. if nat_le 1 (length s) then Some s else None

abbrev pub moment_in : Members → Option (List ℕ)
moment_in ms = or_default (codes "2024-01-01T00:00:00Z") moment_of (get_member (codes "moment") ms)

-- `{"digits":H,"moment":T,"name":N,"namespace":S}`, of which only `name` is required
abbrev pub set_in : Members → Option SetParts
set_in ms = do
  name ← name_in ms
  namespace ← namespace_in ms
  digits ← digits_in ms
  moment ← moment_in ms
  Some (record { namespace = namespace; name = name; digits = digits; moment = moment })

abbrev pub set_of : Data → Option SetParts
set_of d = as_object d >>= set_in

-- each item is a set
abbrev pub sets_of : Items → Option (List SetParts)
sets_of no_items = Some []
sets_of (item d ds) = set_of d >>= λ set. option_map (λ sets. set ∷ sets) (sets_of ds)

-- the sets of the list in the member `sets`, which is required
abbrev pub sets_in : Members → Option (List SetParts)
sets_in ms = get_member (codes "sets") ms >>= λ d. as_array d >>= sets_of
