-- A write that names another resource version than the object's is refused.
use Rattle.std.proofs.Common.{◌≡◌, ◌≢◌, ℕ, Bool, true, false, cond, not, ◌||◌, List, bytes_eq, decimal, Option, Some, refl, ap, ◌∙◌}
use Rattle.std.proofs.lemmas.Slice.Eq.{bytes_eq-Decides}
use Rattle.std.specs.Option.{option_map_or}
use Rattle.std.specs.FinMap as map
use Rattle.objects.specs.declared.key.Key.{Key}
use Rattle.objects.specs.declared.object.Draft.{Draft}
use Rattle.objects.specs.declared.object.Object.{Object}
use Rattle.objects.specs.Uid.{uid_text}
use Rattle.requests.specs.declared.request.Request.TheVariants.{Update, UpdateStatus, Delete}
use Rattle.requests.specs.declared.reply.Reply.TheVariants.{Refused}
use Rattle.requests.specs.declared.reply.Reason.TheVariants.{Conflict, Invalid}
use Rattle.requests.specs.declared.verdict.Verdict.{Verdict}
use Rattle.requests.specs.declared.verdict.Verdict.TheVariants.{Refuse}
use Rattle.requests.specs.Verdict.{conflicts, deleted, differs, graceful, has_status, on_delete, on_status_of, on_update, nonempty, status_unless_same}
use Rattle.plain_store.specs.Route.{route}
use Rattle.plain_store.specs.Store.{Store, step, carried_out}
use Rattle.plain_store.specs.AtKey.{Has}

no : (b : Bool) → (b ≡ true → ⊥) → b ≡ false
no true other = absurd (other refl)
no false other = refl

-- another version than the object's is a conflict
stale : (precondition uid : Option (List ℕ)) (version : List ℕ) (o : Object) → nonempty precondition ≡ Some version → version ≢ decimal o.meta.revision → conflicts precondition uid o ≡ true
stale precondition uid version o is other =
    let unequal = no (bytes_eq version (decimal o.meta.revision)) (λ tie. other ((bytes_eq-Decides version (decimal o.meta.revision)).0 tie)) in
    ap (λ g. option_map_or (λ t. not (bytes_eq t (decimal o.meta.revision))) g false || differs uid (uid_text o.meta.uid)) is ∙ ap (λ b. not b || differs uid (uid_text o.meta.uid)) unequal

refused_by : (b : Bool) (v : Verdict) → b ≡ true → cond b (Refuse Conflict) v ≡ Refuse Conflict
refused_by b v is = ap (λ x. cond x (Refuse Conflict) v) is

pub stale_update : (s : Store) (d : Draft) (version : List ℕ) (o : Object) → Has s d.object.key o → nonempty d.version ≡ Some version → version ≢ decimal o.meta.revision
    → step s (Update d) ≡ (s, Refused Conflict)
unfolding step route
stale_update s d version o there is other =
    ap (λ x. carried_out s d.object.key (on_update d x)) there
    ∙ ap (carried_out s d.object.key) (refused_by (conflicts d.version d.uid o) _ (stale d.version d.uid version o is other))

by_kind : (s : Store) (k : Key) (b : Bool) (v : Verdict) → v ≡ Refuse Conflict → carried_out s k (cond b v (Refuse Invalid)) ≡ (s, Refused (cond b Conflict Invalid))
by_kind s k true v is = ap (carried_out s k) is
by_kind s k false v is = refl

pub stale_status : (s : Store) (d : Draft) (version : List ℕ) (o : Object) → Has s d.object.key o → nonempty d.version ≡ Some version → version ≢ decimal o.meta.revision
    → step s (UpdateStatus d) ≡ (s, Refused (cond (has_status d.object.key.kind) Conflict Invalid))
unfolding step route
stale_status s d version o there is other =
    by_kind s d.object.key (has_status d.object.key.kind) (on_status_of d (map.get s.objects d.object.key))
    (ap (on_status_of d) there ∙ refused_by (conflicts d.version d.uid o) (status_unless_same o d) (stale d.version d.uid version o is other))

pub stale_delete : (s : Store) (k : Key) (uid precondition at : Option (List ℕ)) (version : List ℕ) (o : Object) → Has s k o → nonempty precondition ≡ Some version → version ≢ decimal o.meta.revision
    → step s (Delete k uid precondition at) ≡ (s, Refused Conflict)
unfolding step route
stale_delete s k uid precondition at version o there is other =
    ap (λ x. carried_out s k (on_delete precondition uid at x)) there
    ∙ ap (carried_out s k) (refused_by (conflicts precondition uid o) (deleted (graceful o.key.kind at) o) (stale precondition uid version o is other))
