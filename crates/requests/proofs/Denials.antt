-- Writes that are refused before any object is looked into.
use Rattle.std.proofs.Common.{◌≡◌, ℕ, false, is_some, List, Option, Some, None, IfSome, cond, refl, sym, ap, ◌∙◌}
use Rattle.objects.specs.declared.key.Key.{Key}
use Rattle.objects.specs.declared.kind.Kind.{Kind}
use Rattle.objects.specs.declared.kind.Kind.TheVariants.{StatefulSet, Pod, PersistentVolumeClaim, ControllerRevision}
use Rattle.objects.specs.declared.object.Draft.{Draft}
use Rattle.objects.specs.declared.object.Object.{Object}
use Rattle.requests.specs.Admission.{IsDenied}
use Rattle.requests.specs.ChangeKinds.{change_by}
use Rattle.requests.specs.Judgments.{kind_of}
use Rattle.requests.specs.Verdict.{conflicts, deleted, graceful, on_delete, on_status_of, on_update, verdict}
use Rattle.requests.specs.declared.change_kind.ChangeKind.{ChangeKind}
use Rattle.requests.specs.declared.change_kind.ChangeKind.TheVariants.{Creation, Update as Updating, Mark, Removal}
use Rattle.requests.specs.declared.reply.Reason.TheVariants.{Conflict}
use Rattle.requests.specs.declared.request.Request.TheVariants.{Delete}
use Rattle.requests.specs.declared.reply.Reason.{Reason}
use Rattle.requests.specs.declared.verdict.Verdict.TheVariants.{Refuse}

pub update_denied : (d : Draft) (current : Option Object) (reason : Reason) → IsDenied d.version d.uid current reason → Refuse reason ≡ on_update d current
update_denied d None reason is = ap Refuse is
update_denied d (Some o) reason is = rw (is.0, is.1) refl

pub status_denied : (d : Draft) (current : Option Object) (reason : Reason) → IsDenied d.version d.uid current reason → Refuse reason ≡ on_status_of d current
status_denied d None reason is = ap Refuse is
status_denied d (Some o) reason is = rw (is.0, is.1) refl

pub delete_denied : (version uid at : Option (List ℕ)) (current : Option Object) (reason : Reason) → IsDenied version uid current reason → Refuse reason ≡ on_delete version uid at current
delete_denied version uid at None reason is = ap Refuse is
delete_denied version uid at (Some o) reason is = rw (is.0, is.1) refl

-- ---- deletes that are not graceful

no_time : (at : Option (List ℕ)) → is_some at ≡ false → at ≡ None
no_time None not = refl
no_time (Some time) not = cc

not_timed : (kind : Kind) → graceful kind None ≡ None
not_timed StatefulSet = refl
not_timed Pod = refl
not_timed PersistentVolumeClaim = refl
not_timed ControllerRevision = refl

-- a time that is passed over is as good as none
pub timeless : (k : Key) (uid version at : Option (List ℕ)) (current : Option Object) → IfSome current (λ o. o.key ≡ k) → is_some (graceful k.kind at) ≡ false
    → on_delete version uid None current ≡ verdict (Delete k uid version at) current
timeless k uid version at None filed not = refl
timeless k uid version at (Some o) filed not =
    ap (λ time. cond (conflicts version uid o) (Refuse Conflict) (deleted time o))
    (not_timed o.key.kind ∙ sym (ap (λ (q : Key). graceful q.kind at) filed ∙ no_time (graceful k.kind at) not))

pub kind_by : (kind : ChangeKind) (o : Object) → kind_of (change_by kind o) ≡ kind
kind_by Creation o = refl
kind_by Updating o = refl
kind_by Mark o = refl
kind_by Removal o = refl
