-- A collection leaves no claim to collect, unless claims own claims.
use Rattle.std.proofs.Common.{◌≡◌, inl, inr, ◌==◌, ◌+◌, ◌≤◌, ℕ, Bool, true, false, cond, not, List, [], ◌∷◌, length, filter, map, bytes_eq, Option, Some, None, refl, sym, ap, ◌∙◌, true≢false}
use Rattle.std.specs.Prelude.{◌&&◌, ◌||◌, nat_le}
use Rattle.std.specs.List.{list_any}
use Rattle.std.proofs.lemmas.Bool.{le-leb}
use Rattle.serde_json.specs.Data.{Items, item, no_items}
use Rattle.objects.specs.declared.key.Key.{Key}
use Rattle.objects.specs.declared.kind.Kind.{Kind}
use Rattle.objects.specs.declared.kind.Kind.TheVariants.{ControllerRevision, PersistentVolumeClaim, Pod, StatefulSet}
use Rattle.objects.specs.declared.object.Object.{Object}
use Rattle.objects.specs.Key.{kind_index}
use Rattle.objects.specs.Metadata.{owners_of}
use Rattle.requests.specs.Lists.{Has as Among}
use Rattle.collector.specs.Collectable.{HasOwner, are_gone, collection as collectable, deletion, has_items, is_collectable, is_gone, is_listed, owner_number}
use Rattle.plain_store.specs.AtKey.{Has}
use Rattle.plain_store.specs.Filed.{AreFiled}
use Rattle.plain_store.specs.Run.{after}
use Rattle.plain_store.specs.Store.{Store, is_of}
use Rattle.plain_store.proofs.CompleteLists.{listed, listed_there}
use Rattle.rounds.proofs.Lists.{among_contained, contains_among}
use Rattle.controllers.specs.Reconciler.{reconciler_with}
use Rattle.resting.specs.Still.{listed_in, owners_in}
use Rattle.resting.specs.WholeRounds.{IsCollectedOver, OwnNoClaim, collection_over, is_collected}
use Rattle.resting.proofs.Collections.{collected_over, others_stay}
use Rattle.resting.proofs.PlansOnPods.{filed_run}
use Rattle.resting.proofs.PodsStay.{same_listed, takes_all}
use Rattle.resting.proofs.UpdateStays.{kept_or_gone}
use Rattle.std.proofs.lemmas.Bool.{and_parts}

-- ---- lists and tests
none_kept : (p : Object → Bool) (os : List Object) → ((o : Object) → Among o os → p o ≡ false) → filter p os ≡ []
none_kept p [] each = refl
none_kept p (o ∷ os) each = ap (λ b. cond b (o ∷ filter p os) (filter p os)) (each o (inl refl)) ∙ none_kept p os (λ x at. each x (inr at))

and_last : (b : Bool) → (b && false) ≡ false
and_last true = refl
and_last false = refl

-- one of three, if it was one of four and not the last
first_three : (a b c d e : Bool) → (a || (b || (c || (d || false)))) ≡ true → (d || false) ≡ false → (a || (b || (c || (e || false)))) ≡ true
first_three true b c d e some last = refl
first_three false true c d e some last = refl
first_three false false true d e some last = refl
first_three false false false d e some last = absurd (true≢false (sym some ∙ last))

-- ---- owners that live
module _ (n m : ℕ) (before after_it : ℕ → Bool) (Known : ℕ → Type 0) (given : (k : ℕ) → Known k → k ≤ n) (still : (k : ℕ) → Known k → before k ≡ true → after_it k ≡ true) where
  by_number : (number : Option ℕ) (a b : Bool) → ((k : ℕ) → number ≡ Some k → Known k) → (a ≡ false → b ≡ false) → (is_gone n before number && a) ≡ false → (is_gone m after_it number && b) ≡ false
  by_number None a b known others lives = others lives
  by_number (Some k) a b known others lives =
      let low : nat_le k n ≡ true = le-leb k n (given k (known k refl)) in
      elim (before k) as (λ here. before k ≡ here → (is_gone m after_it (Some k) && b) ≡ false) [
        | true ↦ λ h. ap (λ x. (nat_le k m && not x) && b) (still k (known k refl) h) ∙ ap (λ x. x && b) (and_last (nat_le k m))
        | false ↦ λ h. ap (λ x. is_gone m after_it (Some k) && x) (others (sym (λ j. (low j && not (h j)) && a) ∙ lives)) ∙ and_last (is_gone m after_it (Some k))
      ] refl

  still_owned : (owners : Items) → ((k : ℕ) → HasOwner k owners → Known k) → are_gone n before owners ≡ false → are_gone m after_it owners ≡ false
  still_owned no_items known lives = absurd (true≢false lives)
  still_owned (item d ds) known lives =
      by_number (owner_number d) (are_gone n before ds) (are_gone m after_it ds) (λ k is. known k (inl is)) (λ later. still_owned ds (λ k at. known k (inr at)) later) lives

-- ---- after a collection
module _ (key : Key) (digits : ℕ) (moment : List ℕ) (s : Store) (filed : AreFiled s.objects) (room : s.counter + length (collection_over (reconciler_with key digits moment) s) ≤ s.capacity) (own_none : OwnNoClaim key s) where
  abbrev end : Store
  end = after s (collection_over (reconciler_with key digits moment) s)

  filed_end : AreFiled end.objects
  filed_end = filed_run s (collection_over (reconciler_with key digits moment) s) filed

  same_kind : (kind : Kind) → kind_index kind == kind_index PersistentVolumeClaim ≡ false → ((k : Key) → is_of kind key.namespace k ≡ true → k.kind ≡ kind) → listed_in end key kind ≡ listed_in s key kind
  same_kind kind other is = same_listed end.objects s.objects kind key.namespace (λ k of. others_stay key s filed digits moment kind k other (is k of))

  is_kind : (kind : Kind) (k : Key) → is_of kind key.namespace k ≡ true → k.kind ≡ kind
  is_kind kind k of = by_index k.kind kind (and_parts (kind_index k.kind == kind_index kind) (bytes_eq k.namespace key.namespace) of).0
    where
      by_index : (a b : Kind) → kind_index a == kind_index b ≡ true → a ≡ b
      by_index StatefulSet StatefulSet h = refl
      by_index StatefulSet Pod h = absurd (cc)
      by_index StatefulSet PersistentVolumeClaim h = absurd (cc)
      by_index StatefulSet ControllerRevision h = absurd (cc)
      by_index Pod StatefulSet h = absurd (cc)
      by_index Pod Pod h = refl
      by_index Pod PersistentVolumeClaim h = absurd (cc)
      by_index Pod ControllerRevision h = absurd (cc)
      by_index PersistentVolumeClaim StatefulSet h = absurd (cc)
      by_index PersistentVolumeClaim Pod h = absurd (cc)
      by_index PersistentVolumeClaim PersistentVolumeClaim h = refl
      by_index PersistentVolumeClaim ControllerRevision h = absurd (cc)
      by_index ControllerRevision StatefulSet h = absurd (cc)
      by_index ControllerRevision Pod h = absurd (cc)
      by_index ControllerRevision PersistentVolumeClaim h = absurd (cc)
      by_index ControllerRevision ControllerRevision h = refl

  abbrev has_uid : ℕ → List Object → Bool
  has_uid n objects = list_any (λ (o : Object). o.meta.uid == n) objects

  still_listed : (n : ℕ) → is_listed (listed_in s key PersistentVolumeClaim ∷ []) n ≡ false → is_listed (owners_in s key) n ≡ true → is_listed (owners_in end key) n ≡ true
  still_listed n none some =
      let sets = same_kind StatefulSet refl (is_kind StatefulSet) in
      let pods = same_kind Pod refl (is_kind Pod) in
      let revisions = same_kind ControllerRevision refl (is_kind ControllerRevision) in
      (λ j. is_listed (sets j ∷ pods j ∷ revisions j ∷ listed_in end key PersistentVolumeClaim ∷ []) n)
      ∙ first_three (has_uid n (listed_in s key StatefulSet)) (has_uid n (listed_in s key Pod)) (has_uid n (listed_in s key ControllerRevision)) (has_uid n (listed_in s key PersistentVolumeClaim)) (has_uid n (listed_in end key PersistentVolumeClaim)) some none

  not_collectable : (o : Object) → Among o (listed_in end key PersistentVolumeClaim) → is_collectable end.counter (is_listed (owners_in end key)) o ≡ false
  not_collectable o at =
      let sent = collection_over (reconciler_with key digits moment) s in
      let l = listed_there end.objects PersistentVolumeClaim key.namespace o filed_end (contains_among o (listed_in end key PersistentVolumeClaim) at) in
      let over : IsCollectedOver key s end = collected_over key s filed digits moment room in
      let before : Has s o.key o =
      elim (kept_or_gone o.key s sent (takes_all o.key (filter (is_collectable s.counter (is_listed (owners_in s key))) (listed_in s key PersistentVolumeClaim)))) [
        | inl same ↦ sym same ∙ l.0
        | inr gone ↦ let clash : None ≡ Some o = sym gone ∙ l.0 in absurd (cc)
      ] in
      let among : Among o (listed_in s key PersistentVolumeClaim) = among_contained (listed_in s key PersistentVolumeClaim) o (listed s.objects PersistentVolumeClaim key.namespace o.key o before l.1) in
      let owners = owners_of o.body in
      elim (has_items owners) as (λ b. has_items owners ≡ b → (b && are_gone end.counter (is_listed (owners_in end key)) owners) ≡ false) [
        | false ↦ λ h. refl
        | true ↦ λ h. elim (are_gone s.counter (is_listed (owners_in s key)) owners) as (λ b. are_gone s.counter (is_listed (owners_in s key)) owners ≡ b → are_gone end.counter (is_listed (owners_in end key)) owners ≡ false) [
          | true ↦ λ g.
              let collected : is_collected s key o ≡ true = λ j. l.1 j && (h j && g j) in
              let clash : None ≡ Some o = sym (over.gone o.key o before collected) ∙ l.0 in
              absurd (cc)
          | false ↦ λ g. still_owned s.counter end.counter (is_listed (owners_in s key)) (is_listed (owners_in end key)) (λ n. (n ≤ s.counter) × (is_listed (listed_in s key PersistentVolumeClaim ∷ []) n ≡ false))
              (λ n known. known.0) (λ n known. still_listed n known.1) owners (λ n has. own_none o n among has) g
        ] refl
      ] refl

  pub none_left : collectable (listed_in end key PersistentVolumeClaim) (owners_in end key) end.counter ≡ []
  none_left = ap (map deletion) (none_kept (is_collectable end.counter (is_listed (owners_in end key))) (listed_in end key PersistentVolumeClaim) not_collectable)
