-- Members that are put over others are put over them again without change.
use Rattle.std.proofs.Common.{◌≡◌, ℕ, true, false, List, [], ◌∷◌, bytes_eq, codes, Ordering, Less, Equal, Greater, refl, sym, ap, ◌∙◌}
use Rattle.std.specs.List.{AllByRecursion}
use Rattle.std.specs.Prelude.{⊤}
use Rattle.std.specs.Ordering.{is_eq, match_ordering, nat_cmp, ordering_reverse}
use Rattle.std.specs.Cmp.Lexicographic.{nat_list_cmp_total, slice_cmp}
use Rattle.std.proofs.lemmas.Bool.{or_parts}
use Rattle.std.proofs.lemmas.Cmp.{tied_itself}
use Rattle.std.proofs.lemmas.Map.Text.{is_eq-slice_cmp}
use Rattle.std.proofs.lemmas.Slice.Eq.{bytes_eq-Decides}
use Rattle.serde_json.specs.Data.{Data, Members, member, no_members, number, put, string, unsigned}
use Rattle.serde_json.specs.Written.{has_float, members_have_float}
use Rattle.set_views.specs.Set.{SetParts}
use Rattle.manifests.specs.BuiltStatus.{StatusParts, new_status}

-- ---- the order of names
equal_texts : (k l : List ℕ) → slice_cmp nat_cmp k l ≡ Equal → k ≡ l
equal_texts k l is = (bytes_eq-Decides k l).0 (sym (is_eq-slice_cmp k l) ∙ ap is_eq is)

above_from_below : (k l : List ℕ) → slice_cmp nat_cmp l k ≡ Less → slice_cmp nat_cmp k l ≡ Greater
above_from_below k l below = nat_list_cmp_total.antisymm k l ∙ ap ordering_reverse below

below_from_above : (k l : List ℕ) → slice_cmp nat_cmp l k ≡ Greater → slice_cmp nat_cmp k l ≡ Less
below_from_above k l above = nat_list_cmp_total.antisymm k l ∙ ap ordering_reverse above

-- ---- one name
same_at : (o : Ordering) (k l : List ℕ) (v w : Data) (ms : Members) → slice_cmp nat_cmp k l ≡ o → put k v (put k v ms) ≡ put k v ms
    → put k v (match_ordering o (member k v (member l w ms)) (member l v ms) (member l w (put k v ms))) ≡ match_ordering o (member k v (member l w ms)) (member l v ms) (member l w (put k v ms))
same_at Less k l v w ms is later = rw (tied_itself nat_list_cmp_total k) refl
same_at Equal k l v w ms is later = rw is refl
same_at Greater k l v w ms is later = rw is (ap (member l w) later)

same_put : (k : List ℕ) (v : Data) (ms : Members) → put k v (put k v ms) ≡ put k v ms
same_put k v no_members = rw (tied_itself nat_list_cmp_total k) refl
same_put k v (member l w ms) = same_at _ k l v w ms refl (same_put k v ms)

-- ---- two names
module _ (k l : List ℕ) (v w : Data) (below : slice_cmp nat_cmp k l ≡ Less) where
  past_equal : (h : List ℕ) → slice_cmp nat_cmp k h ≡ Equal → slice_cmp nat_cmp l h ≡ Greater
  past_equal h is = ap (slice_cmp nat_cmp l) (sym (equal_texts k h is)) ∙ above_from_below l k below

  past_above : (h : List ℕ) → slice_cmp nat_cmp k h ≡ Greater → slice_cmp nat_cmp l h ≡ Greater
  past_above h is = above_from_below l h (nat_list_cmp_total.trans h k l (below_from_above h k is) below)

  turn_less : (b : Ordering) (h : List ℕ) (e : Data) (ms : Members) → slice_cmp nat_cmp k h ≡ Less → slice_cmp nat_cmp l h ≡ b
      → put k v (match_ordering b (member l w (member h e ms)) (member h w ms) (member h e (put l w ms))) ≡ member k v (match_ordering b (member l w (member h e ms)) (member h w ms) (member h e (put l w ms)))
  turn_less Less h e ms first second = rw below refl
  turn_less Equal h e ms first second = rw first refl
  turn_less Greater h e ms first second = rw first refl

  turn_at : (a : Ordering) (h : List ℕ) (e : Data) (ms : Members) → slice_cmp nat_cmp k h ≡ a → put k v (put l w ms) ≡ put l w (put k v ms)
      → put k v (put l w (member h e ms)) ≡ put l w (match_ordering a (member k v (member h e ms)) (member h v ms) (member h e (put k v ms)))
  turn_at Less h e ms is later = turn_less _ h e ms is refl ∙ rw (above_from_below l k below) refl
  turn_at Equal h e ms is later = rw (past_equal h is, is) refl
  turn_at Greater h e ms is later = rw (past_above h is, is) (ap (member h e) later)

  turn_below : (ms : Members) → put k v (put l w ms) ≡ put l w (put k v ms)
  turn_below no_members = rw (below, above_from_below l k below) refl
  turn_below (member h e ms) = turn_at _ h e ms refl (turn_below ms)

turn : (k l : List ℕ) (v w : Data) (ms : Members) → bytes_eq k l ≡ false → put k v (put l w ms) ≡ put l w (put k v ms)
turn k l v w ms other =
    elim (slice_cmp nat_cmp k l) as (λ o. slice_cmp nat_cmp k l ≡ o → put k v (put l w ms) ≡ put l w (put k v ms)) [
      | Less ↦ λ h. turn_below k l v w h ms
      | Equal ↦ λ h. let clash : false ≡ true = sym other ∙ (bytes_eq-Decides k l).1 (equal_texts k l h) in absurd (cc)
      | Greater ↦ λ h. sym (turn_below l k w v (below_from_above l k h) ms)
    ] refl

-- ---- several names
abbrev pub Named : Type 0
Named = List ℕ × Data

abbrev pub over : List Named → Members → Members
over [] ms = ms
over (p ∷ ps) ms = put p.0 p.1 (over ps ms)

abbrev pub AreNamedApart : List Named → Type 0
AreNamedApart [] = ⊤
AreNamedApart (p ∷ ps) = AllByRecursion (λ (q : Named). bytes_eq p.0 q.0 ≡ false) ps × AreNamedApart ps

put_past : (k : List ℕ) (v : Data) (ps : List Named) (ms : Members) → AllByRecursion (λ (q : Named). bytes_eq k q.0 ≡ false) ps → put k v (over ps ms) ≡ over ps (put k v ms)
put_past k v [] ms apart = refl
put_past k v (p ∷ ps) ms apart = turn k p.0 v p.1 (over ps ms) apart.0 ∙ ap (put p.0 p.1) (put_past k v ps ms apart.1)

pub over_again : (ps : List Named) (ms : Members) → AreNamedApart ps → over ps (over ps ms) ≡ over ps ms
over_again [] ms apart = refl
over_again (p ∷ ps) ms apart =
    ap (put p.0 p.1) (sym (put_past p.0 p.1 ps (over ps ms) apart.0))
    ∙ (same_put p.0 p.1 (over ps (over ps ms))
    ∙ ap (put p.0 p.1) (over_again ps ms apart.1))

-- ---- no fraction
whole_at : (o : Ordering) (k l : List ℕ) (v w : Data) (ms : Members) → has_float v ≡ false → members_have_float (member l w ms) ≡ false → members_have_float (put k v ms) ≡ false
    → members_have_float (match_ordering o (member k v (member l w ms)) (member l v ms) (member l w (put k v ms))) ≡ false
whole_at Less k l v w ms here others later = rw (here, others) refl
whole_at Equal k l v w ms here others later = rw (here, (or_parts (has_float w) _ others).1) refl
whole_at Greater k l v w ms here others later = rw ((or_parts (has_float w) _ others).0, later) refl

whole_put : (k : List ℕ) (v : Data) (ms : Members) → has_float v ≡ false → members_have_float ms ≡ false → members_have_float (put k v ms) ≡ false
whole_put k v no_members here others = rw here refl
whole_put k v (member l w ms) here others = whole_at (slice_cmp nat_cmp k l) k l v w ms here others (whole_put k v ms here (or_parts (has_float w) _ others).1)

whole_over : (ps : List Named) (ms : Members) → AllByRecursion (λ (p : Named). has_float p.1 ≡ false) ps → members_have_float ms ≡ false → members_have_float (over ps ms) ≡ false
whole_over [] ms all whole = whole
whole_over (p ∷ ps) ms all whole = whole_put p.0 p.1 (over ps ms) all.0 (whole_over ps ms all.1 whole)

-- ---- a status
abbrev members_of : ℕ → ℕ → StatusParts → List Named
members_of collisions generation parts =
    (codes "collisionCount", number (unsigned collisions))
    ∷ (codes "currentReplicas", number (unsigned parts.current_replicas))
    ∷ (codes "currentRevision", string parts.current_revision)
    ∷ (codes "observedGeneration", number (unsigned generation))
    ∷ (codes "readyReplicas", number (unsigned parts.ready_replicas))
    ∷ (codes "replicas", number (unsigned parts.replicas))
    ∷ (codes "updateRevision", string parts.update_revision)
    ∷ (codes "updatedReplicas", number (unsigned parts.updated_replicas))
    ∷ []

abbrev apart_by : ℕ → ℕ → StatusParts → Type 0
apart_by collisions generation parts = AreNamedApart (members_of collisions generation parts)

names_apart : (collisions generation : ℕ) (parts : StatusParts) → apart_by collisions generation parts
names_apart collisions generation parts = ((refl, (refl, (refl, (refl, (refl, (refl, (refl, tt))))))), ((refl, (refl, (refl, (refl, (refl, (refl, tt)))))), ((refl, (refl, (refl, (refl, (refl, tt))))), ((refl, (refl, (refl, (refl, tt)))), ((refl, (refl, (refl, tt))), ((refl, (refl, tt)), ((refl, tt), (tt, tt))))))))

-- the same counts over a status that has them
pub status_again : (set next : SetParts) (parts : StatusParts) (old : Members) → next.collisions ≡ set.collisions → next.object.meta.generation ≡ set.object.meta.generation
    → new_status next parts (new_status set parts old) ≡ new_status set parts old
status_again set next parts old collisions generation =
    let of_set : List Named = members_of set.collisions set.object.meta.generation parts in
    (λ j. over (members_of (collisions j) (generation j) parts) (over of_set old)) ∙ over_again of_set old (names_apart set.collisions set.object.meta.generation parts)

pub status_whole : (set : SetParts) (parts : StatusParts) (old : Members) → members_have_float old ≡ false → members_have_float (new_status set parts old) ≡ false
status_whole set parts old whole = whole_over (members_of set.collisions set.object.meta.generation parts) old (refl, (refl, (refl, (refl, (refl, (refl, (refl, (refl, tt)))))))) whole
