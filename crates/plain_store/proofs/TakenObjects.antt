-- A delete marks or removes the object that is under its key.
use Rattle.std.proofs.Common.{◌≡◌, ◌==◌, ◌+◌, ℕ, Bool, true, false, cond, List, Option, Some, None, refl, sym, ap}
use Rattle.std.specs.Prelude.{is_some}
use Rattle.std.specs.FinMap as map
use Rattle.std.proofs.lemmas.Option.{none-some, same_Some}
use Rattle.objects.specs.declared.key.Key.{Key}
use Rattle.objects.specs.declared.object.Object.{Object}
use Rattle.requests.specs.declared.request.Request.TheVariants.{Delete}
use Rattle.requests.specs.declared.reply.Reply.{Reply}
use Rattle.requests.specs.declared.reply.Reply.TheVariants.{Refused}
use Rattle.requests.specs.declared.reply.Reason.TheVariants.{Conflict, StoreFull}
use Rattle.requests.specs.declared.verdict.Verdict.TheVariants.{Refuse, Same, Write}
use Rattle.requests.specs.Change.{Change, marks, removes, accepted, at_version, stamp}
use Rattle.requests.specs.Verdict.{conflicts, deleted, graceful, marked, on_delete}
use Rattle.plain_store.specs.Route.{route}
use Rattle.plain_store.specs.Store.{Store, step, carried_out, with_change}
use Rattle.plain_store.specs.AtKey.{Has}
use Rattle.plain_store.specs.Taken.{Takes, taken}

record IsSame (current o : Object) : Type 0 where
  key_is : o.key ≡ current.key
  uid_is : o.meta.uid ≡ current.meta.uid
  body_is : o.body ≡ current.body

full_or : (s : Store) (k : Key) (c : Change) (b : Bool) (o : Object)
    → let end : Store × Reply = cond b (s, Refused StoreFull) (with_change s k c, accepted c (stamp c (s.counter + 1))) in taken end.1 ≡ Some o
    → taken (accepted c (stamp c (s.counter + 1))) ≡ Some o
full_or s k c true o h = absurd (none-some o h)
full_or s k c false o h = h

same_at : (current o : Object) (n : ℕ) → at_version current n ≡ o → IsSame current o
same_at current o n e = record { key_is = ap (λ (x : Object). x.key) (sym e); uid_is = ap (λ (x : Object). x.meta.uid) (sym e); body_is = ap (λ (x : Object). x.body) (sym e) }

marked_at : (current o : Object) (t : List ℕ) (n : ℕ) → at_version (marked t current) n ≡ o → IsSame current o
marked_at current o t n e = record { key_is = ap (λ (x : Object). x.key) (sym e); uid_is = ap (λ (x : Object). x.meta.uid) (sym e); body_is = ap (λ (x : Object). x.body) (sym e) }

by_time : (s : Store) (k : Key) (current : Object) (time : Option (List ℕ)) (o : Object) → taken (carried_out s k (deleted time current)).1 ≡ Some o → IsSame current o
by_time s k current None o h = same_at current o (s.counter + 1) (same_Some _ o (full_or s k (removes current) (s.counter == s.capacity) o h))
by_time s k current (Some t) o h = by_marked (is_some current.meta.deletion) h
  where
    by_marked : (b : Bool) → taken (carried_out s k (cond b (Same current) (Write (marks (marked t current))))).1 ≡ Some o → IsSame current o
    by_marked true h = absurd (none-some o h)
    by_marked false h = marked_at current o t (s.counter + 1) (same_Some _ o (full_or s k (marks (marked t current)) (s.counter == s.capacity) o h))

by_conflict : (s : Store) (k : Key) (uid version at : Option (List ℕ)) (current o : Object) → Has s k current → (b : Bool) → conflicts version uid current ≡ b
    → taken (carried_out s k (cond b (Refuse Conflict) (deleted (graceful current.key.kind at) current))).1 ≡ Some o → Takes s k uid version o
by_conflict s k uid version at current o there true is h = absurd (none-some o h)
by_conflict s k uid version at current o there false is h =
    let same = by_time s k current (graceful current.key.kind at) o h in
    record { current = current; there = there; fits = is; key_is = same.key_is; uid_is = same.uid_is; body_is = same.body_is }

by_current : (s : Store) (k : Key) (uid version at : Option (List ℕ)) (o : Object) (found : Option Object) → map.get s.objects k ≡ found
    → taken (carried_out s k (on_delete version uid at found)).1 ≡ Some o → Takes s k uid version o
by_current s k uid version at o None is h = absurd (none-some o h)
by_current s k uid version at o (Some current) is h = by_conflict s k uid version at current o is (conflicts version uid current) refl h

pub delete_takes : (s : Store) (k : Key) (uid version at : Option (List ℕ)) (o : Object) → taken (step s (Delete k uid version at)).1 ≡ Some o → Takes s k uid version o
unfolding step route
delete_takes s k uid version at o h = by_current s k uid version at o (map.get s.objects k) refl h
