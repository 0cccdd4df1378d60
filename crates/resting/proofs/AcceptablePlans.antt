-- Each request of a plan would be accepted by the store that the plan was made over: it names an object as it was listed, or one that
-- was not there.
use Rattle.std.proofs.Common.{◌≡◌, ◌==◌, ◌^◌, ℕ, Bool, true, false, not, if◌then◌else◌, List, [], ◌∷◌, codes, decimal, Option, Some, None, refl, ap, ◌∙◌, subst}
use Rattle.std.specs.Prelude.{◌&&◌, ◌||◌, ⊤, nat_lt}
use Rattle.std.specs.FinMap as finite
use Rattle.std.specs.List.{AllByRecursion}
use Rattle.std.specs.Option.{is_some}
use Rattle.objects.specs.declared.key.Key.{Key}
use Rattle.objects.specs.declared.kind.Kind.{Kind}
use Rattle.objects.specs.declared.kind.Kind.TheVariants as kinds
use Rattle.objects.specs.declared.object.Object.{Object}
use Rattle.objects.specs.declared.meta.Meta.{Meta}
use Rattle.objects.specs.Again.{text_unless_zero}
use Rattle.objects.specs.Key.{is_key, key_parts}
use Rattle.objects.specs.Same.{same_data}
use Rattle.objects.specs.Uid.{uid_text}
use Rattle.requests.specs.declared.request.Request.TheVariants.{Create, Delete, Update, UpdateStatus}
use Rattle.requests.specs.declared.reply.Reason.TheVariants.{Conflict, Invalid}
use Rattle.requests.specs.declared.verdict.Verdict.TheVariants.{Refuse, Same, Write}
use Rattle.requests.specs.Change.{marks, updates}
use Rattle.requests.specs.Verdict.{changes_data, conflicts, deleted, differs, graceful, has_status, marked, on_create, on_delete, on_status, on_status_of, on_update, same_member, status_unless_same, unless_same, updated, with_status_of}
use Rattle.rounds.specs.Drafts.{draft}
use Rattle.plain_store.specs.AtKey.{Has}
use Rattle.plain_store.specs.Store.{Store}
use Rattle.set_views.specs.Set.{SetParts}
use Rattle.sets.specs.declared.action.Action.{Action}
use Rattle.sets.specs.declared.action.Action.TheVariants.{CreateClaim, CreatePod, DeletePod, UpdateClaim, WriteRevision, DeleteRevision, WriteStatus, Wait}
use Rattle.sets.specs.Actions.{version_or_empty}
use Rattle.controllers.specs.Planned.{as_read, deletions, request_of}
use Rattle.resting.specs.Accepting.{IsAcceptable, is_refused}
use Rattle.resting.proofs.Turns.{meets_its_own, same_text}

-- ---- one request
unless_same_is : (o new : Object) → is_refused (unless_same o new) ≡ false
unless_same_is o new = elim (same_data o.body new.body) as (λ b. is_refused (if b then Same o else Write (updates new)) ≡ false) [ true ↦ refl | false ↦ refl ]

deleted_is : (time : Option (List ℕ)) (o : Object) → is_refused (deleted time o) ≡ false
deleted_is None o = refl
deleted_is (Some at) o = elim (is_some o.meta.deletion) as (λ b. is_refused (if b then Same o else Write (marks (marked at o))) ≡ false) [ true ↦ refl | false ↦ refl ]

-- an object as it was read meets the one that is there
pub meets : (o there : Object) → o.meta ≡ there.meta → conflicts (as_read o).version (as_read o).uid there ≡ false
meets o there same =
    ap (λ (m : Meta). conflicts (text_unless_zero m.revision (decimal m.revision)) (text_unless_zero m.uid (uid_text m.uid)) there) same ∙ meets_its_own there

pub create_is : (s : Store) (o : Object) → finite.get s.objects o.key ≡ None → IsAcceptable s (Create (draft o))
create_is s o free = record { write = refl; key = o.key; named = refl; fits = ap (λ found. is_refused (on_create (draft o) found)) free }

update_is : (s : Store) (o there : Object) → Has s o.key there → o.meta ≡ there.meta → there.key.kind ≡ kinds.PersistentVolumeClaim → IsAcceptable s (Update (as_read o))
update_is s o there at same kind = record {
  write = refl;
  key = o.key;
  named = refl;
  fits =
      let d = as_read o in
      ap (λ found. is_refused (on_update d found)) at
      ∙ (ap (λ b. is_refused (if b then Refuse Conflict else if changes_data d there then Refuse Invalid else unless_same there (updated there d))) (meets o there same)
      ∙ (ap (λ (k : Kind). is_refused (if not (has_status k) && not (same_member (codes "data") there.body o.body) then Refuse Invalid else unless_same there (updated there d))) kind
      ∙ unless_same_is there (updated there d)));
}

status_is : (s : Store) (o there : Object) → Has s o.key there → o.meta ≡ there.meta → o.key.kind ≡ kinds.StatefulSet → IsAcceptable s (UpdateStatus (as_read o))
status_is s o there at same kind = record {
  write = refl;
  key = o.key;
  named = refl;
  fits =
      let d = as_read o in
      ap (λ found. is_refused (on_status d found)) at
      ∙ (ap (λ (k : Kind). is_refused (if has_status k then on_status_of d (Some there) else Refuse Invalid)) kind
      ∙ (ap (λ b. is_refused (if b then Refuse Conflict else status_unless_same there d)) (meets o there same)
      ∙ elim (same_member (codes "status") there.body o.body) as (λ b. is_refused (if b then Same there else Write (updates (with_status_of there d))) ≡ false) [ true ↦ refl | false ↦ refl ]));
}

-- a delete that names the UID, and if anything the version, of what is there
fits_version : (n : ℕ) → differs (Some (version_or_empty n)) (decimal n) ≡ false
fits_version n = elim (n == 0) as (λ b. differs (Some (if b then [] else decimal n)) (decimal n) ≡ false) [ true ↦ refl | false ↦ same_text (decimal n) ]

delete_is : (s : Store) (k : Key) (there : Object) (version at : Option (List ℕ)) → Has s k there → differs version (decimal there.meta.revision) ≡ false → IsAcceptable s (Delete k (Some (uid_text there.meta.uid)) version at)
delete_is s k there version at here same = record {
  write = refl;
  key = k;
  named = refl;
  fits =
      ap (λ found. is_refused (on_delete version (Some (uid_text there.meta.uid)) at found)) here
      ∙ (ap (λ b. is_refused (if b || differs (Some (uid_text there.meta.uid)) (uid_text there.meta.uid) then Refuse Conflict else deleted (graceful there.key.kind at) there)) same
      ∙ (ap (λ b. is_refused (if b then Refuse Conflict else deleted (graceful there.key.kind at) there)) (same_text (uid_text there.meta.uid))
      ∙ deleted_is (graceful there.key.kind at) there));
}

-- ---- one action
-- the action is about an object as the store has it, or makes one where there is none
abbrev pub IsUpToDate : Store → SetParts → Action → Type 0
IsUpToDate s set (CreateClaim o) = finite.get s.objects o.key ≡ None
IsUpToDate s set (UpdateClaim o) = (there : Object) × Has s o.key there × (o.meta ≡ there.meta) × (there.key.kind ≡ kinds.PersistentVolumeClaim)
IsUpToDate s set (CreatePod o) = finite.get s.objects o.key ≡ None
IsUpToDate s set (DeletePod name uid) = (there : Object) × Has s (key_parts kinds.Pod set.object.key.namespace name) there × (there.meta.uid ≡ uid)
IsUpToDate s set (WriteRevision o) = ⊥
IsUpToDate s set (DeleteRevision name uid version) = (there : Object) × Has s (key_parts kinds.ControllerRevision set.object.key.namespace name) there × (there.meta.uid ≡ uid) × (there.meta.revision ≡ version)
IsUpToDate s set (WriteStatus o) = (there : Object) × Has s o.key there × (o.meta ≡ there.meta) × (o.key.kind ≡ kinds.StatefulSet)
IsUpToDate s set (Wait cause name) = ⊤

sent_delete : (s : Store) (key : Key) (uid : ℕ) (version at : Option (List ℕ)) → IsAcceptable s (Delete key (Some (uid_text uid)) version at) → (b : Bool) → AllByRecursion (IsAcceptable s) (deletions (if b then Some key else None) uid version at)
sent_delete s key uid version at is false = tt
sent_delete s key uid version at is true =
    elim (nat_lt uid (2 ^ 48)) as (λ b. AllByRecursion (IsAcceptable s) (if b then Delete key (Some (uid_text uid)) version at ∷ [] else [])) [ true ↦ (is, tt) | false ↦ tt ]

pub acceptable : (s : Store) (set : SetParts) (moment : List ℕ) (a : Action) → IsUpToDate s set a → AllByRecursion (IsAcceptable s) (request_of set.object.key.namespace moment a)
acceptable s set moment (CreateClaim o) is = (create_is s o is, tt)
acceptable s set moment (UpdateClaim o) is = (update_is s o is.0 is.1 is.2 is.3, tt)
acceptable s set moment (CreatePod o) is = (create_is s o is, tt)
acceptable s set moment (DeletePod name uid) is =
    let key = key_parts kinds.Pod set.object.key.namespace name in
    let P : ℕ → Type 0 = λ n. IsAcceptable s (Delete key (Some (uid_text n)) None (Some moment)) in
    sent_delete s key uid None (Some moment) (subst P is.2 (delete_is s key is.0 None (Some moment) is.1 refl)) (is_key key)
acceptable s set moment (WriteRevision o) is = absurd is
acceptable s set moment (DeleteRevision name uid version) is =
    let key = key_parts kinds.ControllerRevision set.object.key.namespace name in
    let P : ℕ → Type 0 = λ n. IsAcceptable s (Delete key (Some (uid_text n)) (Some (version_or_empty version)) None) in
    let same : differs (Some (version_or_empty version)) (decimal is.0.meta.revision) ≡ false = ap (λ (n : ℕ). differs (Some (version_or_empty version)) (decimal n)) is.3 ∙ fits_version version in
    sent_delete s key uid (Some (version_or_empty version)) None (subst P is.2 (delete_is s key is.0 (Some (version_or_empty version)) None is.1 same)) (is_key key)
acceptable s set moment (WriteStatus o) is = (status_is s o is.0 is.1 is.2 is.3, tt)
acceptable s set moment (Wait cause name) is = tt
