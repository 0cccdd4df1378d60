-- A kubelet's turn over a store: each of its requests is accepted, and tends its pod.
use Rattle.std.proofs.Common.{◌≡◌, ◌≢◌, ◌==◌, ◌&&◌, ◌||◌, ◌+◌, ◌≤◌, ◌<◌, ℕ, Bool, true, false, cond, not, if◌then◌else◌, List, [], ◌∷◌, ◌++◌, length, map, codes, decimal, bytes_eq, Option, Some, None, arith, refl, sym, ap, ◌∙◌, subst}
use Rattle.std.proofs.lemmas.Bool.{and_parts, eqb-true}
use Rattle.std.proofs.lemmas.List.Elements.{Contains-append_right}
use Rattle.std.proofs.lemmas.Option.{same_Some}
use Rattle.std.proofs.lemmas.Slice.Eq.{bytes_eq-Decides}
use Rattle.std.specs.Cmp.{eq_by_cmp_equiv}
use Rattle.std.specs.FinMap as finite
use Rattle.std.specs.FinMap.{get-insert, get-remove}
use Rattle.std.specs.List.{AllByRecursion, Contains}
use Rattle.std.specs.List.Sorted.{IsStrictlySortedBy}
use Rattle.std.specs.Option.{is_some}
use Rattle.std.specs.declared.cmp.Ordering.TheVariants.{Equal, Less}
use Rattle.serde_json.specs.Data.{Data, array, boolean, null, number, object, string}
use Rattle.objects.specs.declared.key.Key.{Key}
use Rattle.objects.specs.declared.kind.Kind.{Kind}
use Rattle.objects.specs.declared.kind.Kind.TheVariants.{ControllerRevision, PersistentVolumeClaim, Pod, StatefulSet}
use Rattle.objects.specs.declared.object.Object.{Object}
use Rattle.objects.specs.Again.{text_unless_zero}
use Rattle.objects.specs.Key.{key_cmp, kind_index}
use Rattle.objects.specs.KeyOrder.{equal_from, key_cmp_total}
use Rattle.objects.specs.Status.{member_of, same_found, with_member}
use Rattle.objects.specs.Uid.{uid_text}
use Rattle.objects.proofs.BodyMembers.{member_of-with_member, member_of-with_other}
use Rattle.objects.proofs.Sameness.{same-equal}
use Rattle.requests.specs.declared.request.Request.{Request}
use Rattle.requests.specs.declared.request.Request.TheVariants.{Delete, UpdateStatus}
use Rattle.requests.specs.declared.reply.Reply.{Reply}
use Rattle.requests.specs.declared.reply.Reply.TheVariants.{Refused}
use Rattle.requests.specs.declared.reply.Reason.TheVariants.{Conflict, Invalid, StoreFull}
use Rattle.requests.specs.declared.verdict.Verdict.TheVariants.{Refuse, Same, Write}
use Rattle.requests.specs.Change.{Change, accepted, removes, stamp, updates}
use Rattle.requests.specs.Keys.{key_named}
use Rattle.requests.specs.Verdict.{conflicts, deleted, differs, graceful, has_status, on_delete, on_status, on_status_of, same_member, status_unless_same, with_status_of}
use Rattle.set_views.specs.declared.readiness.Readiness.{Readiness}
use Rattle.set_views.specs.declared.readiness.Readiness.TheVariants.{Failed, NotReady, Ready}
use Rattle.set_views.specs.Readiness.{readiness_of, readiness_with}
use Rattle.set_views.specs.Values.{inside}
use Rattle.rounds.specs.Kubelet.{has_ended, is_ready, made_ready, ready_status, turn_requests_for, turn_requests_of}
use Rattle.plain_store.specs.AtKey.{Has}
use Rattle.plain_store.specs.Filed.{AreFiled}
use Rattle.plain_store.specs.Route.{route}
use Rattle.plain_store.specs.Run.{after}
use Rattle.plain_store.specs.StatusWrites.{HasMembers}
use Rattle.plain_store.specs.Store.{Store, carried_out, collection, is_of, step, with_change}
use Rattle.plain_store.proofs.CompleteLists.{listed, listed_there, once}
use Rattle.plain_store.proofs.OneKey.{step_elsewhere}
use Rattle.rounds.proofs.Lists.{among_contained}
use Rattle.controllers.proofs.PlannedActions.{among_all}
use Rattle.resting.specs.Turns.{IsMadeReady, IsTurnOver, MayTurn, TendsBy, TendsTo, ready_or_ended}

abbrev status : Data → Option Data
status = member_of (codes "status")

-- ---- preconditions as they were read
pub same_text : (t : List ℕ) → differs (Some t) t ≡ false
same_text [] = refl
same_text (c ∷ cs) = ap not ((bytes_eq-Decides (c ∷ cs) (c ∷ cs)).1 refl)

pub same_unless_zero : (n : ℕ) (t : List ℕ) → differs (text_unless_zero n t) t ≡ false
same_unless_zero n t = elim (n == 0) as (λ b. differs (if b then None else Some t) t ≡ false) [ true ↦ refl | false ↦ same_text t ]

pub meets_its_own : (o : Object) → conflicts (text_unless_zero o.meta.revision (decimal o.meta.revision)) (text_unless_zero o.meta.uid (uid_text o.meta.uid)) o ≡ false
meets_its_own o = (λ k. same_unless_zero o.meta.revision (decimal o.meta.revision) k || same_unless_zero o.meta.uid (uid_text o.meta.uid) k)

-- ---- one request under a key
pub gone : (s : Store) (k : Key) → finite.get (finite.remove s.objects k) k ≡ None
gone s k = get-remove key_cmp_total s.objects k k ∙ ap (λ b. cond b None (finite.get s.objects k)) ((eq_by_cmp_equiv key_cmp_total).refl k)

pub written : (s : Store) (k : Key) (o : Object) → finite.get (finite.insert s.objects k o) k ≡ Some o
written s k o = get-insert key_cmp_total s.objects k o k ∙ ap (λ b. cond b (Some o) (finite.get s.objects k)) ((eq_by_cmp_equiv key_cmp_total).refl k)

pub not_full : (s : Store) → s.counter < s.capacity → s.counter == s.capacity ≡ false
not_full s room = elim (s.counter == s.capacity) as (λ b. s.counter == s.capacity ≡ b → b ≡ false) [
  | true ↦ λ h. let same : s.counter ≡ s.capacity = eqb-true s.counter s.capacity h in absurd (omega arith)
  | false ↦ λ h. refl
] refl

pub carried : (s : Store) (k : Key) (c : Change) → s.counter < s.capacity → carried_out s k (Write c) ≡ (with_change s k c, accepted c (stamp c (s.counter + 1)))
carried s k c room = ap (λ b. if b then (s, Refused StoreFull) else (with_change s k c, accepted c (stamp c (s.counter + 1)))) (not_full s room)

pub no_moment : (k : Kind) → graceful k None ≡ None
no_moment StatefulSet = refl
no_moment Pod = refl
no_moment PersistentVolumeClaim = refl
no_moment ControllerRevision = refl

removed : (s : Store) (o : Object) → Has s o.key o → s.counter < s.capacity → step s (Delete o.key (Some (uid_text o.meta.uid)) None None) ≡ (with_change s o.key (removes o), accepted (removes o) (stamp (removes o) (s.counter + 1)))
unfolding step route
removed s o there room =
    ap (λ x. carried_out s o.key (on_delete None (Some (uid_text o.meta.uid)) None x)) there
    ∙ ap (λ b. carried_out s o.key (if b then Refuse Conflict else deleted (graceful o.key.kind None) o)) (same_text (uid_text o.meta.uid))
    ∙ ap (λ at. carried_out s o.key (deleted at o)) (no_moment o.key.kind)
    ∙ carried s o.key (removes o) room

-- ---- a status that is made ready
its_status : (body : Data) → HasMembers body → status (with_member (codes "status") (Some ready_status) body) ≡ Some ready_status
its_status null has = cc
its_status (boolean b) has = cc
its_status (number n) has = cc
its_status (string s) has = cc
its_status (array ds) has = cc
its_status (object ms) has = member_of-with_member (codes "status") (Some ready_status) ms

reads_ready : (body : Data) → status body ≡ Some ready_status → readiness_of body ≡ Ready
unfolding readiness_of
reads_ready body is = ap (λ x. readiness_with (inside (codes "phase") x) (inside (codes "conditions") x)) is

same_is : (found : Option Data) → same_found found (Some ready_status) ≡ true → found ≡ Some ready_status
same_is None h = absurd (cc)
same_is (Some d) h = ap Some (same-equal d ready_status h)

other_status : (o : Object) → readiness_of o.body ≡ NotReady → same_found (status o.body) (Some ready_status) ≡ false
other_status o starting =
    elim (same_found (status o.body) (Some ready_status)) as (λ b. same_found (status o.body) (Some ready_status) ≡ b → b ≡ false) [
      | true ↦ λ h. let clash : Ready ≡ NotReady = sym (reads_ready o.body (same_is (status o.body) h)) ∙ starting in absurd (cc)
      | false ↦ λ h. refl
    ] refl

made_ready_now : (s : Store) (o : Object) → Has s o.key o → o.key.kind ≡ Pod → HasMembers o.body → readiness_of o.body ≡ NotReady → s.counter < s.capacity
    → step s (UpdateStatus (made_ready o)) ≡ (with_change s o.key (updates (with_status_of o (made_ready o))), accepted (updates (with_status_of o (made_ready o))) (stamp (updates (with_status_of o (made_ready o))) (s.counter + 1)))
unfolding step route
made_ready_now s o there pod has starting room =
    let d = made_ready o in
    let differ : same_member (codes "status") o.body d.object.body ≡ false = ap (same_found (status o.body)) (its_status o.body has) ∙ other_status o starting in
    ap (λ x. carried_out s o.key (on_status d x)) there
    ∙ ap (λ (k : Kind). carried_out s o.key (if has_status k then on_status_of d (Some o) else Refuse Invalid)) pod
    ∙ ap (λ b. carried_out s o.key (if b then Refuse Conflict else status_unless_same o d)) (meets_its_own o)
    ∙ ap (λ b. carried_out s o.key (if b then Same o else Write (updates (with_status_of o d)))) differ
    ∙ carried s o.key (updates (with_status_of o d)) room

-- ---- one pod
record Tends (s t : Store) (o : Object) : Type 0 where
  here : TendsTo (Some o) (finite.get t.objects o.key)
  elsewhere : (q : Key) → q ≢ o.key → finite.get t.objects q ≡ finite.get s.objects q
  counter : t.counter ≤ s.counter + 1
  capacity : t.capacity ≡ s.capacity

as_it_is : (o : Object) → ready_or_ended (readiness_of o.body) ≡ readiness_of o.body → IsMadeReady o o
as_it_is o same = record { key = refl; uid = refl; deletion = refl; readiness = sym same; members = λ name other. refl }

stays_put : (s : Store) (o : Object) → Has s o.key o → is_some o.meta.deletion ≡ false → ready_or_ended (readiness_of o.body) ≡ readiness_of o.body → Tends s s o
stays_put s o there staying same = record {
  here =
      let P : Bool → Type 0 = λ b. TendsBy b o (finite.get s.objects o.key) in
      subst P (sym staying) (o, there, as_it_is o same);
  elsewhere = λ q other. refl;
  counter = omega arith;
  capacity = refl;
}

by_change : (s : Store) (r : Request) (o : Object) (c : Change) → step s r ≡ (with_change s o.key c, accepted c (stamp c (s.counter + 1))) → key_named r ≡ Some o.key
    → TendsTo (Some o) (finite.get (with_change s o.key c).objects o.key) → Tends s (step s r).0 o
by_change s r o c is named here = record {
  here =
      let P : Store × Reply → Type 0 = λ x. TendsTo (Some o) (finite.get x.0.objects o.key) in
      subst P (sym is) here;
  elsewhere = λ q other. step_elsewhere s r q (λ same. other (same_Some q o.key (same ∙ named)));
  counter = let n : (step s r).0.counter ≡ s.counter + 1 = ap (λ (x : Store × Reply). x.0.counter) is in omega arith;
  capacity = ap (λ (x : Store × Reply). x.0.capacity) is;
}

taken_away : (s : Store) (o : Object) → Has s o.key o → is_some o.meta.deletion ≡ true → s.counter < s.capacity → Tends s (step s (Delete o.key (Some (uid_text o.meta.uid)) None None)).0 o
taken_away s o there marked room =
    let P : Bool → Type 0 = λ b. TendsBy b o (finite.get (finite.remove s.objects o.key) o.key) in
    by_change s (Delete o.key (Some (uid_text o.meta.uid)) None None) o (removes o) (removed s o there room) refl (subst P (sym marked) (gone s o.key))

is_made_ready : (o : Object) (n : ℕ) → HasMembers o.body → readiness_of o.body ≡ NotReady → IsMadeReady o (stamp (updates (with_status_of o (made_ready o))) n)
is_made_ready o n has starting = record {
  key = refl;
  uid = refl;
  deletion = refl;
  readiness =
      let value : status (made_ready o).object.body ≡ Some ready_status = its_status o.body has in
      let whole : status (with_member (codes "status") (status (made_ready o).object.body) o.body) ≡ Some ready_status = ap (λ v. status (with_member (codes "status") v o.body)) value ∙ its_status o.body has in
      reads_ready (with_member (codes "status") (status (made_ready o).object.body) o.body) whole ∙ ap ready_or_ended (sym starting);
  members = λ name other. member_of-with_other name (codes "status") (status (made_ready o).object.body) o.body other;
}

becomes_ready : (s : Store) (o : Object) → Has s o.key o → o.key.kind ≡ Pod → HasMembers o.body → is_some o.meta.deletion ≡ false → readiness_of o.body ≡ NotReady → s.counter < s.capacity
    → Tends s (step s (UpdateStatus (made_ready o))).0 o
becomes_ready s o there pod has staying starting room =
    let c = updates (with_status_of o (made_ready o)) in
    let p = stamp c (s.counter + 1) in
    let P : Bool → Type 0 = λ b. TendsBy b o (finite.get (finite.insert s.objects o.key p) o.key) in
    by_change s (UpdateStatus (made_ready o)) o c (made_ready_now s o there pod has starting room) refl (subst P (sym staying) (p, written s o.key p, is_made_ready o (s.counter + 1) has starting))

abbrev asks_by : Bool → Readiness → Object → List Request
asks_by marked r o = if not marked && has_ended r then [] else if marked then Delete o.key (Some (uid_text o.meta.uid)) None None ∷ [] else if is_ready r then [] else UpdateStatus (made_ready o) ∷ []

tends_one : (s : Store) (o : Object) → Has s o.key o → o.key.kind ≡ Pod → HasMembers o.body → s.counter < s.capacity → Tends s (after s (turn_requests_for o)) o
tends_one s o there pod has room =
    elim (is_some o.meta.deletion) as (λ m. is_some o.meta.deletion ≡ m → Tends s (after s (asks_by m (readiness_of o.body) o)) o) [
      | true ↦ λ marked. taken_away s o there marked room
      | false ↦ λ staying. elim (readiness_of o.body) as (λ r. readiness_of o.body ≡ r → Tends s (after s (asks_by false r o)) o) [
        | Ready ↦ λ is. stays_put s o there staying (ap ready_or_ended is ∙ sym is)
        | NotReady ↦ λ is. becomes_ready s o there pod has staying is room
        | Failed ↦ λ is. stays_put s o there staying (ap ready_or_ended is ∙ sym is)
      ] refl
    ] refl

-- ---- one pod after another
abbrev IsThere : Store → Object → Type 0
IsThere s o = Has s o.key o × (o.key.kind ≡ Pod) × HasMembers o.body

abbrev pub own_keys : List Object → List Key
own_keys os = map (λ (o : Object). o.key) os

abbrev AreAbove : Key → List Object → Type 0
AreAbove k os = AllByRecursion (λ (q : Key). key_cmp k q ≡ Less) (own_keys os)

apart_from : (k q : Key) → key_cmp k q ≡ Less → q ≢ k
apart_from k q less same =
    let clash : Equal ≡ Less = sym (equal_from (key_cmp k k) ((eq_by_cmp_equiv key_cmp_total).refl k)) ∙ (sym (ap (key_cmp k) same) ∙ less) in
    absurd (cc)

still_there : (s t : Store) (o : Object) (os : List Object) → Tends s t o → AreAbove o.key os → AllByRecursion (IsThere s) os → AllByRecursion (IsThere t) os
still_there s t o [] tends above all = tt
still_there s t o (p ∷ os) tends above all =
    ((tends.elsewhere p.key (apart_from o.key p.key above.0) ∙ all.0.0, all.0.1, all.0.2), still_there s t o os tends above.1 all.1)

record TendsAll (s t : Store) (os : List Object) : Type 0 where
  here : AllByRecursion (λ (o : Object). TendsTo (Some o) (finite.get t.objects o.key)) os
  elsewhere : (q : Key) → AllByRecursion (λ (o : Object). q ≢ o.key) os → finite.get t.objects q ≡ finite.get s.objects q

pub not_below : (k : Key) (os : List Object) → AreAbove k os → AllByRecursion (λ (o : Object). k ≢ o.key) os
not_below k [] above = tt
not_below k (o ∷ os) above = (λ same. apart_from k o.key above.0 (sym same), not_below k os above.1)

one_then_all : (s : Store) (first rest : List Request) → after s (first ++ rest) ≡ after (after s first) rest
one_then_all s [] rest = refl
one_then_all s (r ∷ first) rest = one_then_all (step s r).0 first rest

tends_all : (s : Store) (os : List Object) → IsStrictlySortedBy key_cmp (own_keys os) → AllByRecursion (IsThere s) os → s.counter + length os ≤ s.capacity → TendsAll s (after s (turn_requests_of os)) os
unfolding IsStrictlySortedBy
tends_all s [] sorted all room = record { here = tt; elsewhere = λ q apart. refl }
tends_all s (o ∷ os) sorted all room =
    let there = all.0 in
    let one = tends_one s o there.0 there.1 there.2 (omega (arith, room)) in
    let t = after s (turn_requests_for o) in
    let kept = one.counter in
    let same = one.capacity in
    let later = tends_all t os sorted.1 (still_there s t o os one sorted.0 all.1) (omega (arith, room, kept, same)) in
    let end = after t (turn_requests_of os) in
    let P : Store → Type 0 = λ x. TendsAll s x (o ∷ os) in
    let Q : Option Object → Type 0 = λ x. TendsTo (Some o) x in
    let first = subst Q (sym (later.elsewhere o.key (not_below o.key os sorted.0))) one.here in
    let whole : TendsAll s end (o ∷ os) = record { here = (first, later.here); elsewhere = λ q apart. later.elsewhere q apart.1 ∙ one.elsewhere q apart.0 } in
    subst P (sym (one_then_all s (turn_requests_for o) (turn_requests_of os))) whole

-- ---- the pods of a namespace
pub is_pod : (kind : Kind) → kind_index kind == kind_index Pod ≡ true → kind ≡ Pod
is_pod StatefulSet h = absurd (cc)
is_pod Pod h = refl
is_pod PersistentVolumeClaim h = absurd (cc)
is_pod ControllerRevision h = absurd (cc)

abbrev IsListedThere : Store → List ℕ → Object → Type 0
IsListedThere s namespace o = Has s o.key o × (is_of Pod namespace o.key ≡ true)

all_listed : (s : Store) (namespace : List ℕ) → AreFiled s.objects → (os : List Object) → ((o : Object) → Contains os o → Contains (collection s.objects Pod namespace) o) → AllByRecursion (IsListedThere s namespace) os
all_listed s namespace filed [] within = tt
all_listed s namespace filed (o ∷ os) within =
    (listed_there s.objects Pod namespace o filed (within o (0, omega arith, refl)), all_listed s namespace filed os (λ p at. within p (Contains-append_right (o ∷ []) os p at)))

all_there : (s : Store) (namespace : List ℕ) (os : List Object) → ((key : Key) (o : Object) → Has s key o → HasMembers o.body) → AllByRecursion (IsListedThere s namespace) os → AllByRecursion (IsThere s) os
all_there s namespace [] members all = tt
all_there s namespace (o ∷ os) members all =
    let parts = and_parts (kind_index o.key.kind == kind_index Pod) (bytes_eq o.key.namespace namespace) all.0.1 in
    ((all.0.0, is_pod o.key.kind parts.0, members o.key o all.0.0), all_there s namespace os members all.1)

none_has : (s : Store) (namespace : List ℕ) (k : Key) (os : List Object) → finite.get s.objects k ≡ None → AllByRecursion (IsListedThere s namespace) os → AllByRecursion (λ (o : Object). k ≢ o.key) os
none_has s namespace k [] none all = tt
none_has s namespace k (o ∷ os) none all =
    ((λ same. (let clash : None ≡ Some o = sym none ∙ (ap (finite.get s.objects) same ∙ all.0.0) in absurd (cc))), none_has s namespace k os none all.1)

none_of_others : (s : Store) (namespace : List ℕ) (k : Key) (os : List Object) → is_of Pod namespace k ≡ false → AllByRecursion (IsListedThere s namespace) os → AllByRecursion (λ (o : Object). k ≢ o.key) os
none_of_others s namespace k [] out all = tt
none_of_others s namespace k (o ∷ os) out all =
    ((λ same. (let clash : false ≡ true = sym out ∙ (ap (is_of Pod namespace) same ∙ all.0.1) in absurd (cc))), none_of_others s namespace k os out all.1)

pub turn_is_over : (s : Store) (namespace : List ℕ) → MayTurn namespace s → IsTurnOver namespace s (after s (turn_requests_of (collection s.objects Pod namespace)))
turn_is_over s namespace may =
    let pods = collection s.objects Pod namespace in
    let listed_all = all_listed s namespace may.filed pods (λ o at. at) in
    let all = tends_all s pods (once s.objects Pod namespace may.filed) (all_there s namespace pods may.members listed_all) may.room in
    let t = after s (turn_requests_of pods) in
    record {
      pods = λ k of. elim (finite.get s.objects k) as (λ x. finite.get s.objects k ≡ x → TendsTo x (finite.get t.objects k)) [
        | None ↦ λ h. all.elsewhere k (none_has s namespace k pods h listed_all) ∙ h
        | Some o ↦ λ h.
            let own : o.key ≡ k = may.filed k o h in
            let P : Key → Type 0 = λ q. TendsTo (Some o) (finite.get t.objects q) in
            subst P own (among_all (λ (x : Object). TendsTo (Some x) (finite.get t.objects x.key)) pods o all.here (among_contained pods o (listed s.objects Pod namespace k o h of)))
      ] refl;
      others = λ k out. all.elsewhere k (none_of_others s namespace k pods out listed_all);
    }
