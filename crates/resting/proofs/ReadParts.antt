-- What is read of a set, by the members of its object that are read.
use Rattle.std.proofs.Common.{◌≡◌, ℕ, true, false, if◌then◌else◌, codes, option_and_then, Option, Some, None, refl, sym, ap, ◌∙◌, subst}
use Rattle.std.specs.Prelude.{nat_le, nat_lt}
use Rattle.std.proofs.lemmas.Option.{same_Some}
use Rattle.serde_json.specs.Data.{Data, Members, number, object, unsigned}
use Rattle.serde_json.specs.Find.{as_number, as_object, as_u64, get_member}
use Rattle.objects.specs.declared.object.Object.{Object}
use Rattle.objects.specs.Object.{object_at}
use Rattle.objects.specs.PodNames.{most_ordinal}
use Rattle.objects.specs.Status.{member_of}
use Rattle.set_views.specs.Specified.{SpecifiedParts, choices_in, counts_in, found, specified_in, start_of}
use Rattle.set_views.specs.Values.{◌>>=◌, count_or, if_count, inside, present}

abbrev pub collisions_by : Option Data → Option ℕ
collisions_by status = count_or 0 (present (inside (codes "collisionCount") status))

abbrev pub collisions_in : Object → Option ℕ
collisions_in o = collisions_by (member_of (codes "status") o.body)

-- two objects of which the same is read
pub record ReadsAlike (o p : Object) : Type 0 where
  pub key : p.key ≡ o.key
  pub uid : p.meta.uid ≡ o.meta.uid
  pub spec : member_of (codes "spec") p.body ≡ member_of (codes "spec") o.body
  pub collisions : collisions_in p ≡ collisions_in o

pub alike_itself : (o : Object) → ReadsAlike o o
alike_itself o = record { key = refl; uid = refl; spec = refl; collisions = refl }

counts_again : (spec : Members) (a b : Option Data) → collisions_by a ≡ collisions_by b → counts_in spec a ≡ counts_in spec b
unfolding counts_in
counts_again spec a b same =
    λ j. start_of (found (codes "ordinals") spec) >>= λ start. count_or 1 (found (codes "replicas") spec) >>= λ replicas. count_or 10 (found (codes "revisionHistoryLimit") spec) >>= λ limit. same j >>= λ collisions. Some (record { start = start; replicas = replicas; history_limit = limit; collisions = collisions })

pub specified_again : (o p : Object) → ReadsAlike o p → specified_in p ≡ specified_in o
unfolding specified_in
specified_again o p a =
    λ j. option_and_then as_object (a.spec j) >>= λ spec. object_at (codes "template") spec >>= λ template. counts_again spec (member_of (codes "status") p.body) (member_of (codes "status") o.body) a.collisions j >>= λ counts. choices_in spec >>= λ choices. if nat_lt 0 (a.uid j) then Some (record { spec = spec; template = template; counts = counts; choices = choices }) else None

-- ---- what was read
counted : (spec : Members) (status : Option Data) (parts : SpecifiedParts) → Some parts.counts ≡ counts_in spec status → collisions_by status ≡ Some parts.counts.collisions
unfolding counts_in
counted spec status parts is =
    elim (start_of (found (codes "ordinals") spec)) as (λ a. Some parts.counts ≡ (a >>= λ start. count_or 1 (found (codes "replicas") spec) >>= λ replicas. count_or 10 (found (codes "revisionHistoryLimit") spec) >>= λ limit. collisions_by status >>= λ c. Some (record { start = start; replicas = replicas; history_limit = limit; collisions = c })) → collisions_by status ≡ Some parts.counts.collisions) [
      | None ↦ λ h. absurd (cc)
      | Some start ↦ λ h. elim (count_or 1 (found (codes "replicas") spec)) as (λ a. Some parts.counts ≡ (a >>= λ replicas. count_or 10 (found (codes "revisionHistoryLimit") spec) >>= λ limit. collisions_by status >>= λ c. Some (record { start = start; replicas = replicas; history_limit = limit; collisions = c })) → collisions_by status ≡ Some parts.counts.collisions) [
        | None ↦ λ k. absurd (cc)
        | Some replicas ↦ λ k. elim (count_or 10 (found (codes "revisionHistoryLimit") spec)) as (λ a. Some parts.counts ≡ (a >>= λ limit. collisions_by status >>= λ c. Some (record { start = start; replicas = replicas; history_limit = limit; collisions = c })) → collisions_by status ≡ Some parts.counts.collisions) [
          | None ↦ λ l. absurd (cc)
          | Some limit ↦ λ l. elim (collisions_by status) as (λ a. Some parts.counts ≡ (a >>= λ c. Some (record { start = start; replicas = replicas; history_limit = limit; collisions = c })) → a ≡ Some parts.counts.collisions) [
            | None ↦ λ m. absurd (cc)
            | Some c ↦ λ m. ap (λ counts. Some (record parts { counts = counts }).counts.collisions) (sym (same_Some parts.counts _ m))
          ] l
        ] k
      ] h
    ] is

abbrev IsFrom : Object → SpecifiedParts → Type 0
IsFrom o parts = (option_and_then as_object (member_of (codes "spec") o.body) ≡ Some parts.spec) × (collisions_in o ≡ Some parts.counts.collisions)

read_from : (o : Object) (parts : SpecifiedParts) → Some parts ≡ specified_in o → IsFrom o parts
unfolding specified_in
read_from o parts is =
    let status = member_of (codes "status") o.body in
    elim (option_and_then as_object (member_of (codes "spec") o.body)) as (λ a. Some parts ≡ (a >>= λ spec. object_at (codes "template") spec >>= λ template. counts_in spec status >>= λ counts. choices_in spec >>= λ choices. if nat_lt 0 o.meta.uid then Some (record { spec = spec; template = template; counts = counts; choices = choices }) else None) → (a ≡ Some parts.spec) × (collisions_by status ≡ Some parts.counts.collisions)) [
      | None ↦ λ h. absurd (cc)
      | Some spec ↦ λ h. elim (object_at (codes "template") spec) as (λ a. Some parts ≡ (a >>= λ template. counts_in spec status >>= λ counts. choices_in spec >>= λ choices. if nat_lt 0 o.meta.uid then Some (record { spec = spec; template = template; counts = counts; choices = choices }) else None) → (Some spec ≡ Some parts.spec) × (collisions_by status ≡ Some parts.counts.collisions)) [
        | None ↦ λ k. absurd (cc)
        | Some template ↦ λ k. elim (counts_in spec status) as (λ a. counts_in spec status ≡ a → Some parts ≡ (a >>= λ counts. choices_in spec >>= λ choices. if nat_lt 0 o.meta.uid then Some (record { spec = spec; template = template; counts = counts; choices = choices }) else None) → (Some spec ≡ Some parts.spec) × (collisions_by status ≡ Some parts.counts.collisions)) [
          | None ↦ λ e l. absurd (cc)
          | Some counts ↦ λ e l. elim (choices_in spec) as (λ a. Some parts ≡ (a >>= λ choices. if nat_lt 0 o.meta.uid then Some (record { spec = spec; template = template; counts = counts; choices = choices }) else None) → (Some spec ≡ Some parts.spec) × (collisions_by status ≡ Some parts.counts.collisions)) [
            | None ↦ λ m. absurd (cc)
            | Some choices ↦ λ m. elim (nat_lt 0 o.meta.uid) as (λ b. Some parts ≡ (if b then Some (record { spec = spec; template = template; counts = counts; choices = choices }) else None) → (Some spec ≡ Some parts.spec) × (collisions_by status ≡ Some parts.counts.collisions)) [
              | true ↦ λ q.
                  let same = same_Some parts (record { spec = spec; template = template; counts = counts; choices = choices }) q in
                  (ap (λ (x : SpecifiedParts). Some x.spec) (sym same), counted spec status parts (ap (λ (x : SpecifiedParts). Some x.counts) same ∙ sym e))
              | false ↦ λ q. absurd (cc)
            ] m
          ] l
        ] refl k
      ] h
    ] is

count_low : (x : Option Data) (n : ℕ) → count_or 0 x ≡ Some n → if_count n ≡ Some n
count_low None n is = subst (λ (m : ℕ). if_count m ≡ Some m) (same_Some 0 n is) refl
count_low (Some d) n is =
    elim (option_and_then as_u64 (as_number d)) as (λ k. option_and_then if_count k ≡ Some n → if_count n ≡ Some n) [
      | None ↦ λ h. absurd (cc)
      | Some k ↦ λ h. elim (nat_le k most_ordinal) as (λ b. nat_le k most_ordinal ≡ b → (if b then Some k else None) ≡ Some n → if_count n ≡ Some n) [
        | true ↦ λ t g. subst (λ (m : ℕ). if_count m ≡ Some m) (same_Some k n g) (ap (λ b. if b then Some k else None) t)
        | false ↦ λ t g. absurd (cc)
      ] refl h
    ] is

-- the object has a spec, and a count of collisions that is read again
pub is_from : (o : Object) (parts : SpecifiedParts) → specified_in o ≡ Some parts → (option_and_then as_object (member_of (codes "spec") o.body) ≡ Some parts.spec) × (collisions_in o ≡ Some parts.counts.collisions) × (if_count parts.counts.collisions ≡ Some parts.counts.collisions)
is_from o parts is =
    let r = read_from o parts (sym is) in
    (r.0, r.1, count_low (present (inside (codes "collisionCount") (member_of (codes "status") o.body))) parts.counts.collisions r.1)

-- a status that has the count
pub counted_in : (n : ℕ) (ms : Members) → if_count n ≡ Some n → get_member (codes "collisionCount") ms ≡ Some (number (unsigned n)) → collisions_by (Some (object ms)) ≡ Some n
counted_in n ms low here = ap (λ x. count_or 0 (present x)) here ∙ low
