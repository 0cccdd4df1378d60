-- A step writes or removes under the key that its request names, and under no other.
use Rattle.std.proofs.Common.{◌≡◌, ◌+◌, ◌==◌, ℕ, Bool, true, false, cond, not, ◌||◌, List, bytes_eq, decimal, Option, Some, None, refl, sym, ap, ◌∙◌}
use Rattle.std.proofs.Math.Bool.{or-true}
use Rattle.std.specs.BTreeMap.{is_at}
use Rattle.std.specs.Option.{option_map_or}
use Rattle.std.specs.FinMap as map
use Rattle.std.specs.FinMap.{FinMap, get-insert, get-remove}
use Rattle.objects.specs.declared.key.Key.{Key}
use Rattle.objects.specs.declared.object.Object.{Object}
use Rattle.objects.specs.Key.{key_cmp}
use Rattle.objects.specs.KeyOrder.{equal_from, exact_keys, key_cmp_total}
use Rattle.objects.specs.Uid.{uid_text}
use Rattle.requests.specs.declared.request.Request.{Request}
use Rattle.requests.specs.declared.request.Request.TheVariants.{Delete}
use Rattle.requests.specs.declared.reply.Reply.{Reply}
use Rattle.requests.specs.declared.reply.Reply.TheVariants.{Refused}
use Rattle.requests.specs.declared.reply.Reason.TheVariants.{Conflict, StoreFull}
use Rattle.requests.specs.declared.verdict.Verdict.{Verdict}
use Rattle.requests.specs.declared.verdict.Verdict.TheVariants.{Refuse, Same, Write}
use Rattle.requests.specs.Change.{Change, accepted, kept, stamp}
use Rattle.requests.specs.Verdict.{deleted, differs, graceful, on_delete, nonempty, verdict}
use Rattle.plain_store.specs.Store.{Store, step, carried_out, denied, put_at, routed, with_change}
use Rattle.requests.specs.Keys.{key_named}
use Rattle.plain_store.specs.Route.{Route, compacts, gets, lists, lists_at, route, writes}
use Rattle.plain_store.proofs.Routes.{names_its_key, objects_stay}

no : (b : Bool) → (b ≡ true → ⊥) → b ≡ false
no true other = absurd (other refl)
no false other = refl

elsewhere : (q k : Key) → (q ≡ k → ⊥) → is_at (key_cmp q) k ≡ false
elsewhere q k other = no (is_at (key_cmp q) k) (λ tie. other (exact_keys q k (equal_from (key_cmp q k) tie)))

put_elsewhere : (m : FinMap key_cmp Object) (k q : Key) (o : Object) → (q ≡ k → ⊥) → map.get (map.insert m k o) q ≡ map.get m q
put_elsewhere m k q o other = get-insert key_cmp_total m k o q ∙ ap (λ b. cond b (Some o) (map.get m q)) (elsewhere q k other)

taken_elsewhere : (m : FinMap key_cmp Object) (k q : Key) → (q ≡ k → ⊥) → map.get (map.remove m k) q ≡ map.get m q
taken_elsewhere m k q other = get-remove key_cmp_total m k q ∙ ap (λ b. cond b None (map.get m q)) (elsewhere q k other)

put_at_elsewhere : (m : FinMap key_cmp Object) (k q : Key) (now : Option Object) → (q ≡ k → ⊥) → map.get (put_at m k now) q ≡ map.get m q
put_at_elsewhere m k q None other = taken_elsewhere m k q other
put_at_elsewhere m k q (Some o) other = put_elsewhere m k q o other

write_elsewhere : (s : Store) (k q : Key) (c : Change) (full : Bool) → (q ≡ k → ⊥)
    → let end : Store × Reply = cond full (s, Refused StoreFull) (with_change s k c, accepted c (stamp c (s.counter + 1))) in map.get end.0.objects q ≡ map.get s.objects q
write_elsewhere s k q c true other = refl
write_elsewhere s k q c false other = put_at_elsewhere s.objects k q (kept c (s.counter + 1)) other

carried_elsewhere : (s : Store) (k q : Key) (v : Verdict) → (q ≡ k → ⊥) → map.get (carried_out s k v).0.objects q ≡ map.get s.objects q
carried_elsewhere s k q (Refuse reason) other = refl
carried_elsewhere s k q (Same o) other = refl
carried_elsewhere s k q (Write c) other = write_elsewhere s k q c (s.counter == s.capacity) other

pub step_elsewhere : (s : Store) (r : Request) (q : Key) → (Some q ≡ key_named r → ⊥) → map.get (step s r).0.objects q ≡ map.get s.objects q
unfolding step
step_elsewhere s r q other = by (route r) refl
  where
    by : (x : Route) → route r ≡ x → map.get (routed s r x).0.objects q ≡ map.get s.objects q
    by (gets k) is = refl
    by (lists kind namespace) is = refl
    by (writes k) is = carried_elsewhere s k q (verdict r (map.get s.objects k)) (λ same. other (ap Some same ∙ sym (names_its_key r k is)))
    by (lists_at kind namespace n) is = refl
    by (compacts n) is = ap (λ m. map.get m q) (objects_stay s n (denied s.floor s.counter n))

-- a delete that names another UID than the object's
pub spared : (s : Store) (k : Key) (precondition version at : Option (List ℕ)) (uid : List ℕ) (current : Object)
    → map.get s.objects k ≡ Some current → nonempty precondition ≡ Some uid → bytes_eq uid (uid_text current.meta.uid) ≡ false → step s (Delete k precondition version at) ≡ (s, Refused Conflict)
unfolding step route
spared s k precondition version at uid current there is other =
    let old = differs version (decimal current.meta.revision) in
    let then : Bool → Verdict = λ b. cond b (Refuse Conflict) (deleted (graceful current.key.kind at) current) in
    ap (λ o. carried_out s k (on_delete version precondition at o)) there
    ∙ ap (λ g. carried_out s k (then (old || option_map_or (λ t. not (bytes_eq t (uid_text current.meta.uid))) g false))) is
    ∙ ap (λ b. carried_out s k (then (old || not b))) other ∙ ap (λ b. carried_out s k (then b)) (or-true old)
