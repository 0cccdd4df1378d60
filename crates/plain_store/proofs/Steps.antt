-- A step by a write request has the effect of its verdict, and the others that of what they are about.
use Rattle.std.proofs.Common.{◌≡◌, ◌==◌, ℕ, List, true, false, cond, is_some, Option, Some, None, IfSome, refl, sym, ap, subst, ◌∙◌, arith}
use Rattle.std.specs.FinMap as map
use Rattle.std.proofs.lemmas.Bool.Decides.{nat_tests}
use Rattle.objects.specs.declared.key.Key.{Key}
use Rattle.objects.specs.declared.object.Object.{Object}
use Rattle.objects.specs.declared.kind.Kind.{Kind}
use Rattle.objects.specs.declared.kind.Kind.TheVariants.{StatefulSet, Pod, PersistentVolumeClaim, ControllerRevision}
use Rattle.requests.specs.declared.request.Request.{Request}
use Rattle.requests.specs.declared.request.Request.TheVariants as request
use Rattle.requests.specs.declared.request.Request.TheVariants.{Compact, Delete}
use Rattle.requests.specs.declared.reply.Reason.{Reason}
use Rattle.requests.specs.declared.reply.Reason.TheVariants.{Conflict}
use Rattle.requests.specs.declared.reply.Reply.TheVariants.{Listed}
use Rattle.requests.specs.declared.verdict.Verdict.{Verdict}
use Rattle.requests.specs.declared.verdict.Verdict.TheVariants.{Refuse, Write}
use Rattle.requests.specs.Change.{Change, change_object}
use Rattle.requests.specs.declared.change_kind.ChangeKind.{ChangeKind}
use Rattle.requests.specs.declared.change_kind.ChangeKind.TheVariants.{Creation, Update as Updating, Mark, Removal}
use Rattle.plain_store.specs.Filed.{AreFiled}
use Rattle.requests.specs.ChangeKinds.{change_by}
use Rattle.requests.specs.Keys.{key_named}
use Rattle.plain_store.specs.Route.{lists, lists_at, route}
use Rattle.plain_store.specs.Store.{Store, carried_out, collection, compacted_to, denied, listed_at, map_at, routed, step, written}
use Rattle.requests.specs.Verdict.{conflicts, deleted, graceful, is_write, verdict}
use Rattle.plain_store.proofs.ChangedKeys.{IsFiled, IsOfKey, changes_its_key}
use Rattle.plain_store.proofs.Routes.{routes_to_its_key}

written_step : (s : Store) (r : Request) (k : Key) → is_write r ≡ true → key_named r ≡ Some k → written s k r ≡ step s r
unfolding step
written_step s r k is named = ap (routed s r) (sym (routes_to_its_key r k is named))

pub by_verdict : (s : Store) (r : Request) (k : Key) (current : Option Object) (v : Verdict) → is_write r ≡ true
    → key_named r ≡ Some k → current ≡ map.get s.objects k → v ≡ verdict r current → carried_out s k v ≡ step s r
by_verdict s r k current v is named there decided = ap (carried_out s k) (decided ∙ ap (verdict r) there) ∙ written_step s r k is named

filed_now : (s : Store) (k : Key) (current : Option Object) → AreFiled s.objects → current ≡ map.get s.objects k → IsFiled k current
filed_now s k None filed there = tt
filed_now s k (Some o) filed there = filed k o (sym there)

-- what is found under a key has that key
pub filed_there : (s : Store) (k : Key) (current : Option Object) → AreFiled s.objects → current ≡ map.get s.objects k → IfSome current (λ o. o.key ≡ k)
filed_there s k None filed there = tt
filed_there s k (Some o) filed there = filed k o (sym there)

pub by_change : (s : Store) (r : Request) (k : Key) (current : Option Object) (c : Change) → is_write r ≡ true → key_named r ≡ Some k
    → current ≡ map.get s.objects k → AreFiled s.objects → Write c ≡ verdict r current
    → carried_out s (change_object c).key (Write c) ≡ step s r
by_change s r k current c is named there filed decided =
    let own : IsOfKey k (Write c) = subst (IsOfKey k) (sym decided) (changes_its_key r k current named (filed_now s k current filed there)) in
    ap (λ q. carried_out s q (Write c)) own ∙ by_verdict s r k current (Write c) is named there decided

pub object_by : (kind : ChangeKind) (o : Object) → change_object (change_by kind o) ≡ o
object_by Creation o = refl
object_by Updating o = refl
object_by Mark o = refl
object_by Removal o = refl

pub by_kind : (s : Store) (r : Request) (k : Key) (current : Option Object) (kind : ChangeKind) (o : Object) → is_write r ≡ true → key_named r ≡ Some k
    → current ≡ map.get s.objects k → AreFiled s.objects → Write (change_by kind o) ≡ verdict r current
    → carried_out s o.key (Write (change_by kind o)) ≡ step s r
by_kind s r k current kind o is named there filed decided =
    ap (λ (p : Object). carried_out s p.key (Write (change_by kind o))) (sym (object_by kind o)) ∙ by_change s r k current (change_by kind o) is named there filed decided

-- ---- the other steps

pub list_step : (s : Store) (kind : Kind) (namespace : List ℕ) (exact : ℕ) → exact ≡ 0 → (s, Listed (collection s.objects kind namespace) s.counter) ≡ step s (request.List kind namespace exact)
unfolding step route
list_step s kind namespace exact none = ap (λ n. step s (request.List kind namespace n)) (sym none)

pub list_at_step : (s : Store) (kind : Kind) (namespace : List ℕ) (exact : ℕ) → (exact ≡ 0 → ⊥)
    → (s, listed_at exact (collection (map_at s exact) kind namespace) (denied s.floor s.counter exact)) ≡ step s (request.List kind namespace exact)
unfolding step route
list_at_step s kind namespace exact some =
    let not_now : (exact == 0) ≡ false = grind (arith, nat_tests) in
    sym (ap (λ b. routed s (request.List kind namespace exact) (cond b (lists kind namespace) (lists_at kind namespace exact))) not_now)

pub compaction_step : (s : Store) (n : ℕ) (denial : Option Reason) → denial ≡ denied s.floor s.counter n → compacted_to s n denial ≡ step s (Compact n)
unfolding step route
compaction_step s n denial is = ap (compacted_to s n) is

-- ---- deletes that are not graceful

no_time : (at : Option (List ℕ)) → is_some at ≡ false → at ≡ None
no_time None not = refl
no_time (Some time) not = cc

not_timed : (kind : Kind) → graceful kind None ≡ None
not_timed StatefulSet = refl
not_timed Pod = refl
not_timed PersistentVolumeClaim = refl
not_timed ControllerRevision = refl

-- a time that is passed over is as good as none
timeless : (k : Key) (uid version at : Option (List ℕ)) (current : Option Object) → IsFiled k current → is_some (graceful k.kind at) ≡ false
    → verdict (Delete k uid version None) current ≡ verdict (Delete k uid version at) current
timeless k uid version at None filed not = refl
timeless k uid version at (Some o) filed not =
    ap (λ time. cond (conflicts version uid o) (Refuse Conflict) (deleted time o))
    (not_timed o.key.kind ∙ sym (ap (λ (q : Key). graceful q.kind at) filed ∙ no_time (graceful k.kind at) not))

pub timeless_step : (s : Store) (k : Key) (uid version at : Option (List ℕ)) → AreFiled s.objects → is_some (graceful k.kind at) ≡ false
    → step s (Delete k uid version None) ≡ step s (Delete k uid version at)
timeless_step s k uid version at filed not =
    sym (by_verdict s (Delete k uid version None) k (map.get s.objects k) (verdict (Delete k uid version None) (map.get s.objects k)) refl refl refl refl)
    ∙ by_verdict s (Delete k uid version at) k (map.get s.objects k) (verdict (Delete k uid version None) (map.get s.objects k)) refl refl refl
    (timeless k uid version at (map.get s.objects k) (filed_now s k _ filed refl) not)
