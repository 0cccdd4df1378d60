-- What the collection of claims at a round's end leaves in a store.
use Rattle.std.proofs.Common.{◌≡◌, ◌≢◌, ◌+◌, ◌==◌, ◌≤◌, ◌<◌, inl, inr, ℕ, Bool, true, false, if◌then◌else◌, List, [], ◌∷◌, length, filter, map, decimal, bytes_eq, Option, Some, None, arith, refl, sym, ap, ◌∙◌, subst, true≢false}
use Rattle.std.specs.Prelude.{◌&&◌}
use Rattle.std.specs.FinMap as finite
use Rattle.std.specs.List.{AllByRecursion}
use Rattle.std.specs.Option.{option_map_or}
use Rattle.std.proofs.lemmas.Bool.{and_parts}
use Rattle.std.proofs.lemmas.Option.{same_Some}
use Rattle.objects.specs.declared.key.Key.{Key}
use Rattle.objects.specs.declared.kind.Kind.TheVariants.{PersistentVolumeClaim, Pod}
use Rattle.objects.specs.declared.object.Object.{Object}
use Rattle.objects.specs.Key.{kind_index}
use Rattle.requests.specs.declared.request.Request.{Request}
use Rattle.requests.specs.declared.reply.Reply.{Reply}
use Rattle.requests.specs.declared.reply.Reason.TheVariants.{Conflict}
use Rattle.requests.specs.declared.verdict.Verdict.TheVariants.{Refuse}
use Rattle.requests.specs.Change.{removes}
use Rattle.requests.specs.Keys.{key_named}
use Rattle.requests.specs.Lists.{Has as Among}
use Rattle.requests.specs.Verdict.{deleted, graceful, on_delete}
use Rattle.collector.specs.Collectable.{collection, deletion, is_collectable, is_listed}
use Rattle.plain_store.specs.AtKey.{Has}
use Rattle.plain_store.specs.Filed.{AreFiled}
use Rattle.plain_store.specs.Route.{route}
use Rattle.plain_store.specs.Run.{after}
use Rattle.plain_store.specs.Store.{Store, carried_out, is_of, step}
use Rattle.plain_store.proofs.CompleteLists.{listed, listed_there, once}
use Rattle.plain_store.proofs.OneKey.{step_elsewhere}
use Rattle.plain_store.proofs.Past.{counter_step}
use Rattle.collector.proofs.Collected.{claim_of}
use Rattle.rounds.proofs.Lists.{among_contained, contains_among}
use Rattle.std.specs.List.Sorted.{IsStrictlySortedBy}
use Rattle.objects.specs.Key.{key_cmp}
use Rattle.sets.proofs.FirstPods.{kept_among}
use Rattle.sets.proofs.Ordered.{all_among}
use Rattle.controllers.proofs.PlannedActions.{among_all}
use Rattle.controllers.specs.Reconciler.{reconciler_with}
use Rattle.resting.specs.Accepting.{NameApart}
use Rattle.resting.specs.Still.{listed_in, owners_in}
use Rattle.resting.specs.WholeRounds.{IsCollectedOver, collection_over, is_collected}
use Rattle.resting.proofs.Acts.{IsElsewhere, capacity_step, untouched}
use Rattle.resting.proofs.Pairs.{ArePaired, pairs_filtered}
use Rattle.resting.proofs.PlanLists.{all_by}
use Rattle.resting.proofs.Turns.{carried, gone, meets_its_own, no_moment, not_below, own_keys}
use Rattle.resting.proofs.TurnsOnPods.{found_at, found_by, found_some, key_is}
use Rattle.set_views.specs.Set.{SetParts}
use Rattle.sets.specs.PlanOfLists.{view_of}
use Rattle.objects.specs.declared.kind.Kind.{Kind}
use Rattle.objects.specs.Uid.{uid_text}
use Rattle.objects.specs.Again.{text_unless_zero}

-- ---- one claim
collected_now : (s : Store) (o : Object) → Has s o.key o → s.counter < s.capacity → finite.get (step s (deletion o)).0.objects o.key ≡ None
unfolding step route
collected_now s o there room =
    let at_key : Store × Reply → Option Object = λ x. finite.get x.0.objects o.key in
    ap (λ x. at_key (carried_out s o.key (on_delete (text_unless_zero o.meta.revision (decimal o.meta.revision)) (text_unless_zero o.meta.uid (uid_text o.meta.uid)) None x))) there
    ∙ (ap (λ b. at_key (carried_out s o.key (if b then Refuse Conflict else deleted (graceful o.key.kind None) o))) (meets_its_own o)
    ∙ (ap (λ at. at_key (carried_out s o.key (deleted at o))) (no_moment o.key.kind)
    ∙ (ap at_key (carried s o.key (removes o) room) ∙ gone s o.key)))

removes_it : (s : Store) (rs : List Request) (o : Object) → Has s o.key o → s.counter + length rs ≤ s.capacity → NameApart rs → Among (deletion o) rs → finite.get (after s rs).objects o.key ≡ None
removes_it s [] o there room apart at = absurd at
removes_it s (r ∷ rs) o there room apart at =
    let more = (counter_step s r).1 in
    let same = capacity_step s r in
    elim at [
      | inl is ↦
          let P : Request → Type 0 = λ x. finite.get (step s x).0.objects o.key ≡ None in
          untouched (step s r).0 o.key rs (all_by (λ x. key_named x ≢ key_named r) (IsElsewhere o.key) rs (λ x other named. other (sym named ∙ ap key_named is)) apart.0)
          ∙ subst P is (collected_now s o there (omega (arith, room)))
      | inr later ↦
          let other : Some o.key ≢ key_named r = among_all (λ x. key_named x ≢ key_named r) rs (deletion o) apart.0 later in
          removes_it (step s r).0 rs o (step_elsewhere s r o.key other ∙ there) (omega (arith, room, more, same)) apart.1 later
    ]

-- ---- all of them
abbrev KeysDiffer : Object → Object → Type 0
KeysDiffer o p = o.key ≢ p.key

sorted_paired : (os : List Object) → IsStrictlySortedBy key_cmp (own_keys os) → ArePaired KeysDiffer os
unfolding IsStrictlySortedBy
sorted_paired [] sorted = tt
sorted_paired (o ∷ os) sorted = (not_below o.key os sorted.0, sorted_paired os sorted.1)

others_named : (o : Object) (os : List Object) → AllByRecursion (KeysDiffer o) os → AllByRecursion (λ x. key_named x ≢ key_named (deletion o)) (map deletion os)
others_named o [] all = tt
others_named o (p ∷ os) all = ((λ same. all.0 (sym (same_Some p.key o.key same))), others_named o os all.1)

named_apart : (os : List Object) → ArePaired KeysDiffer os → NameApart (map deletion os)
named_apart [] pairs = tt
named_apart (o ∷ os) pairs = (others_named o os pairs.0, named_apart os pairs.1)

among_mapped : (o : Object) (os : List Object) → Among o os → Among (deletion o) (map deletion os)
among_mapped o [] at = absurd at
among_mapped o (p ∷ os) (inl is) = inl (ap deletion is)
among_mapped o (p ∷ os) (inr more) = inr (among_mapped o os more)

module _ (key : Key) (s : Store) (filed : AreFiled s.objects) where
  abbrev claims : List Object
  claims = listed_in s key PersistentVolumeClaim

  abbrev test : Object → Bool
  test = is_collectable s.counter (is_listed (owners_in s key))

  abbrev sent : List Request
  sent = collection claims (owners_in s key) s.counter

  sent_apart : NameApart sent
  sent_apart = named_apart (filter test claims) (pairs_filtered KeysDiffer test claims (sorted_paired claims (once s.objects PersistentVolumeClaim key.namespace filed)))

  is_gone : s.counter + length sent ≤ s.capacity → (k : Key) (o : Object) → Has s k o → is_collected s key o ≡ true → finite.get (after s sent).objects k ≡ None
  is_gone room k o there is =
      let own : o.key ≡ k = filed k o there in
      let P : Key → Type 0 = λ q. Has s q o in
      let Q : Key → Type 0 = λ q. finite.get (after s sent).objects q ≡ None in
      let at_own : Has s o.key o = subst P (sym own) there in
      let parts = and_parts (is_of PersistentVolumeClaim key.namespace o.key) (test o) is in
      let at = among_contained claims o (listed s.objects PersistentVolumeClaim key.namespace o.key o at_own parts.0) in
      subst Q own (removes_it s sent o at_own room sent_apart (among_mapped o (filter test claims) (kept_among test o claims parts.1 at)))

  stays : (k : Key) → option_map_or (is_collected s key) (finite.get s.objects k) false ≡ false → finite.get (after s sent).objects k ≡ finite.get s.objects k
  stays k none =
      untouched s k sent (all_among (IsElsewhere k) sent (λ r at same.
      let c = claim_of claims (owners_in s key) s.counter r at in
      let o : Object = c.0 in
      let there = listed_there s.objects PersistentVolumeClaim key.namespace o filed (contains_among o claims c.1.0) in
      let own : k ≡ o.key = same_Some k o.key (same ∙ ap key_named c.1.1.1) in
      let passes : is_collected s key o ≡ true = (λ j. there.1 j && c.1.1.0 j) in
      true≢false (sym (ap (λ found. option_map_or (is_collected s key) found false) (ap (finite.get s.objects) own ∙ there.0) ∙ passes) ∙ none)))

  pub collected_over : (digits : ℕ) (moment : List ℕ) → s.counter + length (collection_over (reconciler_with key digits moment) s) ≤ s.capacity
      → IsCollectedOver key s (after s (collection_over (reconciler_with key digits moment) s))
  collected_over digits moment room = record { gone = is_gone room; others = stays }

  -- objects of other kinds stay
  pub others_stay : (digits : ℕ) (moment : List ℕ) (kind : Kind) (k : Key) → kind_index kind == kind_index PersistentVolumeClaim ≡ false → k.kind ≡ kind
      → finite.get (after s (collection_over (reconciler_with key digits moment) s)).objects k ≡ finite.get s.objects k
  others_stay digits moment kind k other is =
      stays k (elim (finite.get s.objects k) as (λ x. finite.get s.objects k ≡ x → option_map_or (is_collected s key) x false ≡ false) [
        | None ↦ λ h. refl
        | Some o ↦ λ h.
            let same : o.key.kind ≡ kind = ap (λ (q : Key). q.kind) (filed k o h) ∙ is in
            ap (λ (x : Kind). (kind_index x == kind_index PersistentVolumeClaim && bytes_eq o.key.namespace key.namespace) && test o) same
            ∙ ap (λ b. (b && bytes_eq o.key.namespace key.namespace) && test o) other
      ] refl)

-- ---- the pods that a plan sees
pub same_found_at : (set : SetParts) (s t : Store) (i : ℕ) → AreFiled s.objects → AreFiled t.objects → ((k : Key) → k.kind ≡ Pod → finite.get t.objects k ≡ finite.get s.objects k) → found_at set t i ≡ found_at set s i
same_found_at set s t i filed_s filed_t same =
    let kind_of : (k : Key) → is_of Pod set.object.key.namespace k ≡ true → k.kind ≡ Pod = λ k of. ap (λ (q : Key). q.kind) (key_is set.object.key.namespace k of) in
    elim (found_at set s i) as (λ x. found_at set s i ≡ x → found_at set t i ≡ x) [
      | Some pod ↦ λ h.
          let f = found_some set s i pod filed_s h in
          found_by set t i f.0 filed_t ((same f.0.key (kind_of f.0.key f.1.0.1) ∙ f.1.0.0, f.1.0.1), f.1.1) ∙ ap Some f.2
      | None ↦ λ h. elim (found_at set t i) as (λ x. found_at set t i ≡ x → x ≡ None) [
        | None ↦ λ k. refl
        | Some pod ↦ λ k.
            let f = found_some set t i pod filed_t k in
            let o : Object = f.0 in
            let clash : None ≡ Some (view_of o) = sym h ∙ found_by set s i o filed_s ((sym (same o.key (kind_of o.key f.1.0.1)) ∙ f.1.0.0, f.1.0.1), f.1.1) in
            absurd (cc)
      ] refl
    ] refl
