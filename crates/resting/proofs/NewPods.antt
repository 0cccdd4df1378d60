-- A pod that a plan creates, as the store then has it: it is the set's own, of its revision, and starting.
use Rattle.std.proofs.Common.{◌≡◌, ◌≢◌, ◌||◌, ℕ, true, false, List, codes, decimal, bytes_eq, option_and_then, unwrap_or, Option, Some, None, refl, ap, ◌∙◌, true≢false}
use Rattle.std.specs.Option.{option_map_or}
use Rattle.std.proofs.lemmas.Slice.Eq.{bytes_eq-Decides}
use Rattle.serde_json.specs.Data.{Data, Members, array, item, no_items, object, put, string}
use Rattle.serde_json.specs.Find.{as_array, as_object, as_str, get_member}
use Rattle.serde_json.proofs.Views.{get_member-put, get_member-put_other}
use Rattle.objects.specs.declared.kind.Kind.TheVariants.{Pod}
use Rattle.objects.specs.declared.object.Object.{Object}
use Rattle.objects.specs.Metadata.{items_at, label_of, metadata_of, owners_of, text_at}
use Rattle.objects.specs.New.{new_body}
use Rattle.objects.specs.Kind.{api_version, kind_name}
use Rattle.objects.specs.Object.{object_at}
use Rattle.objects.specs.Building.{put_some}
use Rattle.objects.specs.Uid.{uid_text}
use Rattle.objects.proofs.BodyMembers.{member_of-with_other, member_of-without}
use Rattle.requests.specs.Change.{creates, stamp}
use Rattle.requests.specs.Verdict.{born}
use Rattle.set_views.specs.declared.readiness.Readiness.TheVariants.{NotReady}
use Rattle.set_views.specs.Owners.{is_controlled}
use Rattle.set_views.specs.Readiness.{readiness_of, readiness_with}
use Rattle.set_views.specs.Set.{SetParts}
use Rattle.set_views.specs.Values.{inside}
use Rattle.revisions.specs.Built.{owned_metadata, owner_reference}
use Rattle.manifests.specs.BuiltPod.{pod_labels, pod_members, pod_metadata}
use Rattle.manifests.specs.Template.{labels_in, part, part_in, template_of}
use Rattle.pod_steps.specs.Listed.{has_revision}
use Rattle.sets.specs.Actions.{name_at, new_pod}
use Rattle.sets.specs.PlanOfLists.{view_of}
use Rattle.resting.proofs.TurnsOnPods.{metadata_is, not_status}

-- as the store has it that created it with that number
abbrev pub stored_pod : SetParts → Object → ℕ → ℕ → Object
stored_pod set revision i n = stamp (creates (born (new_pod set revision i))) n

module _ (set : SetParts) (revision : Object) (i n : ℕ) where
  abbrev its_metadata : Members
  its_metadata = pod_metadata set (name_at set i) revision.key.name i (part (codes "metadata") (template_of revision))

  abbrev its_labels : Members
  its_labels = pod_labels (name_at set i) revision.key.name i (labels_in (part (codes "metadata") (template_of revision)))

  abbrev its_body : Data
  its_body = new_body Pod its_metadata (pod_members set (name_at set i) i (template_of revision))

  abbrev its_other_members : Members
  its_other_members = put (codes "kind") (string (kind_name Pod)) (put (codes "apiVersion") (string (api_version Pod)) (pod_members set (name_at set i) i (template_of revision)))

  abbrev without_labels : Members
  without_labels = put_some (codes "annotations") (part_in (codes "annotations") (part (codes "metadata") (template_of revision))) (owned_metadata set)

  abbrev older_labels : Members
  older_labels = put (codes "statefulset.kubernetes.io/pod-name") (string (name_at set i)) (labels_in (part (codes "metadata") (template_of revision)))

  not_index : codes "controller-revision-hash" ≢ codes "apps.kubernetes.io/pod-index"
  not_index same = true≢false (ap (λ (l : List ℕ). bytes_eq l (codes "controller-revision-hash")) same)

  has_metadata : metadata_of (stored_pod set revision i n).body ≡ Some its_metadata
  has_metadata =
      metadata_is (stored_pod set revision i n).body
      ∙ ap (option_and_then as_object) (member_of-with_other (codes "metadata") (codes "status") None its_body not_status ∙ get_member-put (codes "metadata") (object its_metadata) its_other_members)

  -- annotations of the template come before the owner
  past_annotations : (annotations : Option Data) → get_member (codes "ownerReferences") (put_some (codes "annotations") annotations (owned_metadata set)) ≡ Some (array (item (owner_reference set) no_items))
  past_annotations None = refl
  past_annotations (Some d) = get_member-put_other (codes "ownerReferences") (codes "annotations") d (owned_metadata set) (λ same. absurd cc)

  has_owner : get_member (codes "ownerReferences") its_metadata ≡ Some (array (item (owner_reference set) no_items))
  has_owner =
      get_member-put_other (codes "ownerReferences") (codes "labels") (object its_labels) without_labels (λ same. absurd cc)
      ∙ past_annotations (part_in (codes "annotations") (part (codes "metadata") (template_of revision)))

  its_controller : is_controlled set.object.meta.uid (item (owner_reference set) no_items) ≡ true
  its_controller = ap (λ b. b || false) ((bytes_eq-Decides (uid_text set.object.meta.uid) (uid_text set.object.meta.uid)).1 refl)

  pub is_owned : is_controlled set.object.meta.uid (owners_of (stored_pod set revision i n).body) ≡ true
  is_owned =
      ap (λ m. is_controlled set.object.meta.uid (unwrap_or (option_and_then (items_at (codes "ownerReferences")) m) no_items)) has_metadata
      ∙ ap (λ found. is_controlled set.object.meta.uid (unwrap_or (option_and_then as_array found) no_items)) has_owner
      ∙ its_controller

  has_label : label_of (stored_pod set revision i n).body (codes "controller-revision-hash") ≡ Some revision.key.name
  has_label =
      ap (λ m. option_and_then (text_at (codes "controller-revision-hash")) (option_and_then (object_at (codes "labels")) m)) has_metadata
      ∙ ap (λ found. option_and_then (text_at (codes "controller-revision-hash")) (option_and_then as_object found)) (get_member-put (codes "labels") (object its_labels) without_labels)
      ∙ ap (option_and_then as_str) (get_member-put_other (codes "controller-revision-hash") (codes "apps.kubernetes.io/pod-index") (string (decimal i)) (put (codes "controller-revision-hash") (string revision.key.name) older_labels) not_index
      ∙ get_member-put (codes "controller-revision-hash") (string revision.key.name) older_labels)

  pub is_of_revision : (name : List ℕ) → revision.key.name ≡ name → has_revision name (view_of (stored_pod set revision i n)) ≡ true
  is_of_revision name is = ap (λ found. option_map_or (λ x. bytes_eq x name) found false) has_label ∙ (bytes_eq-Decides revision.key.name name).1 is

  pub is_starting : readiness_of (stored_pod set revision i n).body ≡ NotReady
  unfolding readiness_of
  is_starting = ap (λ x. readiness_with (inside (codes "phase") x) (inside (codes "conditions") x)) (member_of-without (codes "status") its_body)
