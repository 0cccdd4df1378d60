-- The revisions that a set controls in a store, and those that it controls in another one.
use Rattle.std.proofs.Common.{◌≡◌, ◌==◌, true, List, bytes_eq, ℕ, refl, sym, ap, ◌∙◌}
use Rattle.std.specs.FinMap as finite
use Rattle.std.proofs.lemmas.Bool.{and_parts}
use Rattle.std.proofs.lemmas.Option.{same_Some}
use Rattle.std.proofs.lemmas.Slice.Eq.{bytes_eq-Decides}
use Rattle.objects.specs.declared.key.Key.{Key}
use Rattle.objects.specs.declared.kind.Kind.{Kind}
use Rattle.objects.specs.declared.kind.Kind.TheVariants.{ControllerRevision, PersistentVolumeClaim, Pod, StatefulSet}
use Rattle.objects.specs.declared.object.Object.{Object}
use Rattle.objects.specs.Key.{key_parts, kind_index}
use Rattle.objects.specs.Metadata.{owners_of}
use Rattle.requests.specs.Lists.{Has as Among}
use Rattle.set_views.specs.Firsts.{first_of_each}
use Rattle.set_views.specs.Owners.{is_controlled}
use Rattle.set_views.specs.Predicates.{in_namespace}
use Rattle.set_views.specs.Set.{SetParts}
use Rattle.revisions.specs.Revision.{listed as listed_revisions, owned_among, owns_revision, revision_cmp}
use Rattle.plain_store.specs.AtKey.{Has}
use Rattle.plain_store.specs.Filed.{AreFiled}
use Rattle.plain_store.specs.Store.{Store, is_of}
use Rattle.plain_store.proofs.CompleteLists.{listed, listed_there}
use Rattle.rounds.proofs.Lists.{among_contained, contains_among}
use Rattle.sets.specs.PlanOfLists.{owned_of}
use Rattle.sets.proofs.FirstPods.{kept_among}
use Rattle.sets.proofs.Owned.{filtered, first_among, total}
use Rattle.resting.specs.RoundsOver.{IsAlike}
use Rattle.resting.specs.Still.{listed_in}
use Rattle.resting.proofs.Newest.{among_in_order, in_order_among}
use Rattle.resting.proofs.TurnsOnPods.{AreApart, all_first}

is_revision : (kind : Kind) → kind_index kind == kind_index ControllerRevision ≡ true → kind ≡ ControllerRevision
is_revision StatefulSet h = absurd (cc)
is_revision Pod h = absurd (cc)
is_revision PersistentVolumeClaim h = absurd (cc)
is_revision ControllerRevision h = refl

abbrev pub revisions_in : Store → SetParts → List Object
revisions_in s set = listed_in s set.object.key ControllerRevision

-- it is in the store, in the namespace of the set, and the set controls it
abbrev pub IsOwnedIn : Store → SetParts → Object → Type 0
IsOwnedIn s set o = Has s o.key o × (is_of ControllerRevision set.object.key.namespace o.key ≡ true) × (owns_revision set o ≡ true)

pub key_is : (space : List ℕ) (k : Key) → is_of ControllerRevision space k ≡ true → k ≡ key_parts ControllerRevision space k.name
key_is space k of =
    let parts = and_parts (kind_index k.kind == kind_index ControllerRevision) (bytes_eq k.namespace space) of in
    let kind = is_revision k.kind parts.0 in
    let near = (bytes_eq-Decides k.namespace space).0 parts.1 in
    λ j. key_parts (kind j) (near j) k.name

pub kind_of : (space : List ℕ) (k : Key) → is_of ControllerRevision space k ≡ true → k.kind ≡ ControllerRevision
kind_of space k of = is_revision k.kind (and_parts (kind_index k.kind == kind_index ControllerRevision) (bytes_eq k.namespace space) of).0

-- two of one name are one
pub one_of_name : (s : Store) (set : SetParts) (a b : Object) → IsOwnedIn s set a → IsOwnedIn s set b → a.key.name ≡ b.key.name → a ≡ b
one_of_name s set a b at_a at_b same =
    let space = set.object.key.namespace in
    let keys : a.key ≡ b.key = key_is space a.key at_a.1 ∙ (ap (key_parts ControllerRevision space) same ∙ sym (key_is space b.key at_b.1)) in
    same_Some a b (sym at_a.0 ∙ (ap (finite.get s.objects) keys ∙ at_b.0))

module _ (s : Store) (set : SetParts) (filed : AreFiled s.objects) where
  abbrev space : List ℕ
  space = set.object.key.namespace

  there : (o : Object) → Among o (listed_revisions set (revisions_in s set)) → Has s o.key o × (is_of ControllerRevision space o.key ≡ true)
  there o at = listed_there s.objects ControllerRevision space o filed (contains_among o (revisions_in s set) (filtered (in_namespace set ControllerRevision) o (revisions_in s set) at).0)

  apart : AreApart (listed_revisions set (revisions_in s set))
  apart a b at_a at_b same =
      let is_a = there a at_a in
      let is_b = there b at_b in
      let keys : a.key ≡ b.key = key_is space a.key is_a.1 ∙ (ap (key_parts ControllerRevision space) same ∙ sym (key_is space b.key is_b.1)) in
      same_Some a b (sym is_a.0 ∙ (ap (finite.get s.objects) keys ∙ is_b.0))

  pub owned_there : (o : Object) → Among o (owned_of set (revisions_in s set)) → IsOwnedIn s set o
  unfolding owned_of
  owned_there o at =
      let f = filtered (owns_revision set) o (first_of_each (listed_revisions set (revisions_in s set))) (among_in_order revision_cmp total (owned_among set (revisions_in s set)) o at) in
      let is = there o (first_among (listed_revisions set (revisions_in s set)) o f.0) in
      (is.0, is.1, f.1)

  pub there_owned : (o : Object) → IsOwnedIn s set o → Among o (owned_of set (revisions_in s set))
  unfolding owned_of
  there_owned o is =
      let at = among_contained (revisions_in s set) o (listed s.objects ControllerRevision space o.key o is.0 is.1) in
      let near = kept_among (in_namespace set ControllerRevision) o (revisions_in s set) is.1 at in
      in_order_among revision_cmp total (owned_among set (revisions_in s set)) o
      (kept_among (owns_revision set) o (first_of_each (listed_revisions set (revisions_in s set))) is.2 (all_first (listed_revisions set (revisions_in s set)) o apart near))

-- the same object in the same namespace, for a set read again
pub owned_by : (s t : Store) (set now : SetParts) (o : Object) → IsAlike set now → IsOwnedIn s set o → Has t o.key o → IsOwnedIn t now o
owned_by s t set now o alike is here = (
  here,
  ap (λ (k : Key). is_of ControllerRevision k.namespace o.key) alike.key ∙ is.1,
  ap (λ (n : ℕ). is_controlled n (owners_of o.body)) alike.uid ∙ is.2,
)

pub owned_back : (s t : Store) (set now : SetParts) (o : Object) → IsAlike set now → IsOwnedIn t now o → Has s o.key o → IsOwnedIn s set o
owned_back s t set now o alike is here = (
  here,
  ap (λ (k : Key). is_of ControllerRevision k.namespace o.key) (sym alike.key) ∙ is.1,
  ap (λ (n : ℕ). is_controlled n (owners_of o.body)) (sym alike.uid) ∙ is.2,
)
