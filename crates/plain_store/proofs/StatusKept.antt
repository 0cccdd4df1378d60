-- Objects are made without a status, and keep theirs but for a status request, which changes nothing else.
use Rattle.std.proofs.Common.{◌≡◌, ◌≢◌, ◌+◌, ◌==◌, ℕ, Bool, true, false, cond, ◌⊎◌, inl, inr, Option, Some, None, codes, refl, sym, ap, subst, ◌∙◌}
use Rattle.std.specs.Prelude.{⊤}
use Rattle.std.specs.FinMap as map
use Rattle.std.specs.FinMap.{get-insert}
use Rattle.std.specs.Cmp.{eq_by_cmp_equiv}
use Rattle.serde_json.specs.Data.{Data, null, boolean, number, string, array, object}
use Rattle.objects.specs.declared.key.Key.{Key}
use Rattle.objects.specs.declared.object.Draft.{Draft}
use Rattle.objects.specs.declared.object.Object.{Object}
use Rattle.objects.specs.KeyOrder.{key_cmp_total}
use Rattle.objects.specs.Status.{member_of, with_member}
use Rattle.objects.proofs.BodyMembers.{member_of-with_member, member_of-with_other, member_of-without}
use Rattle.requests.specs.declared.request.Request.{Request}
use Rattle.requests.specs.declared.request.Request.TheVariants as request
use Rattle.requests.specs.declared.request.Request.TheVariants.{Create, Get, Update, UpdateStatus, Delete, Compact}
use Rattle.requests.specs.declared.reply.Reply.{Reply}
use Rattle.requests.specs.declared.reply.Reply.TheVariants.{Refused, Updated}
use Rattle.requests.specs.declared.reply.Reason.TheVariants.{Conflict, Invalid, StoreFull}
use Rattle.requests.specs.declared.verdict.Verdict.{Verdict}
use Rattle.requests.specs.declared.verdict.Verdict.TheVariants.{Refuse, Same, Write}
use Rattle.requests.specs.Change.{Change, creates, updates, marks, removes, stamp, accepted}
use Rattle.requests.specs.Verdict.{conflicts, has_status, on_status, on_status_of, same_member, status_unless_same, with_status_of}
use Rattle.plain_store.specs.Route.{route}
use Rattle.plain_store.specs.Store.{Store, step, carried_out, with_change}
use Rattle.plain_store.specs.AtKey.{Has, Leaves, Makes}
use Rattle.plain_store.specs.StatusWrites.{DifferInStatus, HasMembers}
use Rattle.plain_store.proofs.Verdicts.{Allows, by_turn, left, made}

abbrev status : Data → Option Data
status = member_of (codes "status")

-- ---- an object that is made

abbrev HasNoStatus : Key → Object → Type 0
HasNoStatus k p = has_status p.key.kind ≡ true → status p.body ≡ None

abbrev Anything : Key → Object → Object → Type 0
Anything k o p = ⊤

dropped : (b : Bool) (body : Data) → b ≡ true → status (cond b (with_member (codes "status") None body) body) ≡ None
dropped true body is = member_of-without (codes "status") body
dropped false body is = cc

without_status : (n : ℕ) (r : Request) → Allows HasNoStatus Anything n r
without_status n (Get k) = tt
without_status n (request.List kind namespace exact) = tt
without_status n (Compact to) = tt
without_status n (Create d) = dropped (has_status d.object.key.kind) d.object.body
without_status n (Update d) = λ o. tt
without_status n (UpdateStatus d) = λ o. tt
without_status n (Delete k uid version at) = λ t o. tt

pub made_without : (s : Store) (r : Request) (q : Key) (p : Object) → Makes s r q p → has_status p.key.kind ≡ true → status p.body ≡ None
made_without s r q p there =
    by_turn HasNoStatus Anything s (λ t. Has t q p → HasNoStatus q p)
    (λ k t c after. (made HasNoStatus Anything s t k q p c there.0 after).2) r (without_status (s.counter + 1) r) there.1

-- ---- an object that stays

abbrev KeepsStatus : Key → Object → Object → Type 0
KeepsStatus k o p = has_status k.kind ≡ true → status p.body ≡ status o.body

abbrev Any : Key → Object → Type 0
Any k p = ⊤

set_to : (value : Option Data) (body : Data) → HasMembers body → status (with_member (codes "status") value body) ≡ value
set_to value null has = cc
set_to value (boolean b) has = cc
set_to value (number n) has = cc
set_to value (string s) has = cc
set_to value (array ds) has = cc
set_to value (object ms) has = member_of-with_member (codes "status") value ms

carried_over : (b : Bool) (value : Option Data) (body : Data) → HasMembers body → b ≡ true → status (cond b (with_member (codes "status") value body) body) ≡ value
carried_over true value body has is = set_to value body has
carried_over false value body has is = cc

keeps_status : (n : ℕ) (r : Request) → ((d : Draft) → r ≢ UpdateStatus d) → ((d : Draft) → r ≡ Update d → HasMembers d.object.body) → Allows Any KeepsStatus n r
keeps_status n (Get k) other has = tt
keeps_status n (request.List kind namespace exact) other has = tt
keeps_status n (Compact to) other has = tt
keeps_status n (Create d) other has = tt
keeps_status n (Update d) other has = λ o. carried_over (has_status d.object.key.kind) (status o.body) d.object.body (has d refl)
keeps_status n (UpdateStatus d) other has = absurd (other d refl)
keeps_status n (Delete k uid version at) other has = λ t o is. refl

still : (q : Key) (o p : Object) (changed : Type 0) → (p ≡ o) ⊎ (changed × KeepsStatus q o p) → KeepsStatus q o p
still q o p changed (inl e) = λ is. ap (λ (x : Object). status x.body) e
still q o p changed (inr c) = c.1

pub status_stays : (s : Store) (r : Request) (q : Key) (o p : Object) → ((d : Draft) → r ≢ UpdateStatus d) → ((d : Draft) → r ≡ Update d → HasMembers d.object.body)
    → Leaves s r q o p → has_status q.kind ≡ true → status p.body ≡ status o.body
status_stays s r q o p other has there =
    by_turn Any KeepsStatus s (λ t. Has t q p → KeepsStatus q o p)
    (λ k t c after. still q o p (t.counter ≡ s.counter + 1) (left Any KeepsStatus s t k q o p c there.0 after)) r (keeps_status (s.counter + 1) r other has) there.1

-- ---- a status request

-- a verdict to which the reply is an `Updated`
record WasUpdate (s : Store) (k : Key) (v : Verdict) (t : Store) (p : Object) : Type 0 where
  new : Object
  verdict : v ≡ Write (updates new)
  state : t ≡ with_change s k (updates new)
  written : p ≡ stamp (updates new) (s.counter + 1)

abbrev end : Store → Key → Change → Bool → Store × Reply
end s k c full = cond full (s, Refused StoreFull) (with_change s k c, accepted c (stamp c (s.counter + 1)))

write_update : (s : Store) (k : Key) (c : Change) (full : Bool) (t : Store) (p : Object) → end s k c full ≡ (t, Updated p) → WasUpdate s k (Write c) t p
write_update s k c true t p is = let e : Refused StoreFull ≡ Updated p = ap (λ (x : Store × Reply). x.1) is in absurd cc
write_update s k (creates o) false t p is =
    let e : accepted (creates o) (stamp (creates o) (s.counter + 1)) ≡ Updated p = ap (λ (x : Store × Reply). x.1) is in absurd cc
write_update s k (updates o) false t p is =
    let e : Updated (stamp (updates o) (s.counter + 1)) ≡ Updated p = ap (λ (x : Store × Reply). x.1) is in
    record { new = o; verdict = refl; state = sym (ap (λ (x : Store × Reply). x.0) is); written = cc }
write_update s k (marks o) false t p is =
    let e : accepted (marks o) (stamp (marks o) (s.counter + 1)) ≡ Updated p = ap (λ (x : Store × Reply). x.1) is in absurd cc
write_update s k (removes o) false t p is =
    let e : accepted (removes o) (stamp (removes o) (s.counter + 1)) ≡ Updated p = ap (λ (x : Store × Reply). x.1) is in absurd cc

was_update : (s : Store) (k : Key) (v : Verdict) (t : Store) (p : Object) → carried_out s k v ≡ (t, Updated p) → WasUpdate s k v t p
was_update s k (Refuse reason) t p is = let e : Refused reason ≡ Updated p = ap (λ (x : Store × Reply). x.1) is in absurd cc
was_update s k (Same o) t p is = absurd (let e = ap (λ (x : Store × Reply). x.1) is in cc)
was_update s k (Write c) t p is = write_update s k c (s.counter == s.capacity) t p is

-- of two verdicts, the one that is no write of this object was not chosen
other_way : (b : Bool) (v w : Verdict) (new : Object) (P : Type 0) → (v ≡ Write (updates new) → P) → (w ≡ Write (updates new) → P) → cond b v w ≡ Write (updates new) → P
other_way true v w new P p q is = p is
other_way false v w new P p q is = q is

no_refusal : (s : Store) (d : Draft) (o new : Object) → on_status d (Some o) ≡ Write (updates new) → with_status_of o d ≡ new
no_refusal s d o new is =
    let P = with_status_of o d ≡ new in
    other_way (has_status d.object.key.kind) (on_status_of d (Some o)) (Refuse Invalid) new P
    (other_way (conflicts d.version d.uid o) (Refuse Conflict) (status_unless_same o d) new P (λ e. absurd cc)
    (other_way (same_member (codes "status") o.body d.object.body) (Same o) (Write (updates (with_status_of o d))) new P (λ e. absurd cc) (λ e. cc)))
    (λ e. absurd cc) is

found_there : (s : Store) (k : Key) (o : Object) → Has (with_change s k (updates o)) k (stamp (updates o) (s.counter + 1))
found_there s k o =
    let p = stamp (updates o) (s.counter + 1) in
    get-insert key_cmp_total s.objects k p k ∙ ap (λ b. cond b (Some p) (map.get s.objects k)) ((eq_by_cmp_equiv key_cmp_total).refl k)

differ_in_status : (o : Object) (d : Draft) (n : ℕ) → DifferInStatus o (stamp (updates (with_status_of o d)) n)
differ_in_status o d n = record {
  key = refl;
  uid = refl;
  generation = refl;
  deletion = refl;
  members = λ name other. member_of-with_other name (codes "status") (status d.object.body) o.body other;
}

pub status_written : (s t : Store) (d : Draft) (o p : Object) → Has s d.object.key o → HasMembers o.body → step s (UpdateStatus d) ≡ (t, Updated p)
    → Has t d.object.key p × DifferInStatus o p × (status p.body ≡ status d.object.body)
unfolding step route
status_written s t d o p there has is =
    let k = d.object.key in
    let w = was_update s k (on_status d (map.get s.objects k)) t p is in
    let made : with_status_of o d ≡ w.new = no_refusal s d o w.new (ap (on_status d) (sym there) ∙ w.verdict) in
    let written : p ≡ stamp (updates (with_status_of o d)) (s.counter + 1) = w.written ∙ ap (λ x. stamp (updates x) (s.counter + 1)) (sym made) in (
      subst (λ (x : Store). Has x k p) (sym w.state) (subst (λ x. Has (with_change s k (updates w.new)) k x) (sym w.written) (found_there s k w.new)),
      subst (λ x. DifferInStatus o x) (sym written) (differ_in_status o d (s.counter + 1)),
      ap (λ (x : Object). status x.body) written ∙ set_to (status d.object.body) o.body has,
    )
