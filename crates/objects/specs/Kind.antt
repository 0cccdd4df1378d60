-- The kinds of objects, as apps/v1 and core/v1 of the Kubernetes API reference name them.
use Rattle.std.specs.Prelude.{ℕ, Bool, List, codes, bytes_eq, Option, Some, None, if◌then◌else◌}
use Rattle.objects.specs.declared.kind.Kind.{Kind}
use Rattle.objects.specs.declared.kind.Kind.TheVariants.{StatefulSet, Pod, PersistentVolumeClaim, ControllerRevision}
use Rattle.objects.specs.Names.{is_dns_label, is_subdomain_name}

-- the text of the member `kind`
abbrev pub kind_name : Kind → List ℕ
kind_name StatefulSet = codes "StatefulSet"
kind_name Pod = codes "Pod"
kind_name PersistentVolumeClaim = codes "PersistentVolumeClaim"
kind_name ControllerRevision = codes "ControllerRevision"

-- the text of the member `apiVersion`
abbrev pub api_version : Kind → List ℕ
api_version StatefulSet = codes "apps/v1"
api_version Pod = codes "v1"
api_version PersistentVolumeClaim = codes "v1"
api_version ControllerRevision = codes "apps/v1"

-- the kind of that name
abbrev pub kind_named : List ℕ → Option Kind
kind_named s =
    if bytes_eq s (kind_name StatefulSet) then Some StatefulSet
    else if bytes_eq s (kind_name Pod) then Some Pod
    else if bytes_eq s (kind_name PersistentVolumeClaim) then Some PersistentVolumeClaim
    else if bytes_eq s (kind_name ControllerRevision) then Some ControllerRevision
    else None

-- a StatefulSet is named by a DNS label, since its name begins the names of its pods; the others by a subdomain name
abbrev pub is_name : Kind → List ℕ → Bool
is_name StatefulSet s = is_dns_label s
is_name Pod s = is_subdomain_name s
is_name PersistentVolumeClaim s = is_subdomain_name s
is_name ControllerRevision s = is_subdomain_name s
