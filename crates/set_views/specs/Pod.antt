-- A pod as a plan sees it (Kubernetes, "StatefulSets": "Pod Identity"; "Pod Lifecycle": "Termination of Pods").
use Rattle.std.specs.Prelude.{ℕ, Bool, List, codes, Option, option_map}
use Rattle.std.specs.Option.{is_some}
use Rattle.serde_json.specs.Data.{Items}
use Rattle.objects.specs.declared.object.Object.{Object}
use Rattle.objects.specs.Metadata.{label_of, owners_of}
use Rattle.objects.specs.Tree.{items_of}
use Rattle.set_views.specs.declared.pod.PodView.{PodView}
use Rattle.set_views.specs.declared.readiness.Readiness.{Readiness}
use Rattle.set_views.specs.Readiness.{readiness_of}

pub record PodParts : Type 0 where
  pub name : List ℕ
  -- the set and the ordinal that the name is made of
  pub split_name : Option (List ℕ × ℕ)
  pub uid : ℕ
  pub readiness : Readiness
  pub terminating : Bool
  -- the name of the ControllerRevision that it was made from
  pub revision : Option (List ℕ)
  pub owners : Items

abbrev pub split_name_of : PodView → Option (List ℕ × ℕ)
split_name_of p = option_map (λ s. (s.0.now, s.1)) p.split_name

abbrev pub pod_parts : PodView → PodParts
pod_parts p = record {
  name = p.name.now;
  split_name = split_name_of p;
  uid = p.uid;
  readiness = p.readiness;
  terminating = p.terminating;
  revision = option_map (λ s. s.now) p.revision;
  owners = items_of p.owners.now;
}

-- the pod, whose name is made of that set and ordinal
abbrev pub pod_with : Option (List ℕ × ℕ) → Object → PodParts
pod_with split_name o = record {
  name = o.key.name;
  split_name = split_name;
  uid = o.meta.uid;
  readiness = readiness_of o.body;
  terminating = is_some o.meta.deletion;
  revision = label_of o.body (codes "controller-revision-hash");
  owners = owners_of o.body;
}
