-- From any pods there is a round.
use Rattle.std.proofs.Common.{◌≡◌, inl, inr, ℕ, zero, suc, ◌+◌, ◌≤◌, ◌<◌, Bool, true, false, cond, if◌then◌else◌, [], ◌∷◌, Option, Some, None, arith, refl, sym, ap, ◌∙◌}
use Rattle.std.proofs.lemmas.Bool.{cases_lt}
use Rattle.std.specs.BTreeMap.{is_at}
use Rattle.std.specs.Cmp.{nat_cmp_is}
use Rattle.std.specs.List.{AllByRecursion, list_any}
use Rattle.std.specs.List.Sorted.{IsStrictlySortedBy}
use Rattle.std.specs.Map.{keys_of}
use Rattle.std.specs.Ordering.{nat_cmp}
use Rattle.std.specs.declared.cmp.Ordering.TheVariants.{Less}
use Rattle.set_views.specs.declared.readiness.Readiness.TheVariants.{Ready}
use Rattle.set_views.specs.Set.{SetParts}
use Rattle.set_views.specs.Predicates.{in_range}
use Rattle.pod_steps.specs.declared.replica.Replica.{Replica}
use Rattle.pod_steps.specs.Replicas.{AreInOrder, Pods, pod_at}
use Rattle.pod_steps.proofs.Entries.{at_other, at_same, at_self, not_true}
use Rattle.pod_steps.proofs.OrderedReadyPlans.{bounds}
use Rattle.pod_steps.proofs.Found.{cases_eq}
use Rattle.convergence.specs.Rounds.{IsNew, IsRound, after_round, creates, deletes}
use Rattle.convergence.proofs.Kept.{made_nowhere}
use Rattle.convergence.proofs.Moves.{steps_on}

-- ---- the pods that a function has at the ordinals of a range
abbrev put_first : Option Replica → ℕ → Pods → Pods
put_first None a rest = rest
put_first (Some x) a rest = (a, x) ∷ rest

abbrev listed : (ℕ → Option Replica) → ℕ → ℕ → Pods
listed f a zero = []
listed f a (suc n) = put_first (f a) a (listed f (a + 1) n)

all_above : (f : ℕ → Option Replica) (k a n : ℕ) → k < a → AllByRecursion (λ z. nat_cmp k z ≡ Less) (keys_of (listed f a n))
all_above f k a zero l = tt
all_above f k a (suc n) l =
    elim (f a) as (λ o. AllByRecursion (λ z. nat_cmp k z ≡ Less) (keys_of (put_first o a (listed f (a + 1) n)))) [
      | None ↦ all_above f k (a + 1) n (omega arith)
      | Some x ↦ (sym (nat_cmp_is k a Less l), all_above f k (a + 1) n (omega arith))
    ]

listed_in_order : (f : ℕ → Option Replica) (a n : ℕ) → AreInOrder (listed f a n)
unfolding IsStrictlySortedBy
listed_in_order f a zero = tt
listed_in_order f a (suc n) =
    elim (f a) as (λ o. AreInOrder (put_first o a (listed f (a + 1) n))) [
      | None ↦ listed_in_order f (a + 1) n
      | Some x ↦ (all_above f a (a + 1) n (omega arith), listed_in_order f (a + 1) n)
    ]

at_below : (f : ℕ → Option Replica) (a n j : ℕ) → j < a → pod_at (listed f a n) j ≡ None
at_below f a zero j l = refl
at_below f a (suc n) j l =
    elim (f a) as (λ o. pod_at (put_first o a (listed f (a + 1) n)) j ≡ None) [
      | None ↦ at_below f (a + 1) n j (omega arith)
      | Some x ↦ ap (λ b. cond b (Some x) (pod_at (listed f (a + 1) n) j)) (at_other j a (λ e. absurd (omega arith))) ∙ at_below f (a + 1) n j (omega arith)
    ]

at_past : (f : ℕ → Option Replica) (a n j : ℕ) → a + n ≤ j → pod_at (listed f a n) j ≡ None
at_past f a zero j l = refl
at_past f a (suc n) j l =
    elim (f a) as (λ o. pod_at (put_first o a (listed f (a + 1) n)) j ≡ None) [
      | None ↦ at_past f (a + 1) n j (omega arith)
      | Some x ↦ ap (λ b. cond b (Some x) (pod_at (listed f (a + 1) n) j)) (at_other j a (λ e. absurd (omega arith))) ∙ at_past f (a + 1) n j (omega arith)
    ]

at_within : (f : ℕ → Option Replica) (a n j : ℕ) → a ≤ j → j < a + n → pod_at (listed f a n) j ≡ f j
at_within f a zero j from to = absurd (omega arith)
at_within f a (suc n) j from to =
    elim (cases_eq a j from) [
      | inl same ↦ elim (f a) as (λ o. f a ≡ o → pod_at (put_first o a (listed f (a + 1) n)) j ≡ f j) [
        | None ↦ λ h. at_below f (a + 1) n j (omega arith) ∙ (sym h ∙ ap f same)
        | Some x ↦ λ h. ap (λ (i : ℕ). cond (is_at (nat_cmp i) a) (Some x) (pod_at (listed f (a + 1) n) i)) (sym same) ∙ (ap (λ b. cond b (Some x) (pod_at (listed f (a + 1) n) a)) (at_self a) ∙ (sym h ∙ ap f same))
      ] refl
      | inr up ↦ elim (f a) as (λ o. pod_at (put_first o a (listed f (a + 1) n)) j ≡ f j) [
        | None ↦ at_within f (a + 1) n j (omega arith) (omega arith)
        | Some x ↦ ap (λ b. cond b (Some x) (pod_at (listed f (a + 1) n) j)) (at_other j a (λ e. absurd (omega arith))) ∙ at_within f (a + 1) n j (omega arith) (omega arith)
      ]
    ]

-- ---- no ordinal from there on has a pod
abbrev end_of : Pods → ℕ
end_of [] = 0
end_of (e ∷ es) = e.0 + 1 + end_of es

before_end : (es : Pods) (j : ℕ) (y : Replica) → pod_at es j ≡ Some y → j < end_of es
before_end [] j y here = absurd (cc)
before_end (e ∷ es) j y here =
    elim (is_at (nat_cmp j) e.0) as (λ b. is_at (nat_cmp j) e.0 ≡ b → cond b (Some e.1) (pod_at es j) ≡ Some y → j < e.0 + 1 + end_of es) [
      | true ↦ λ t h. let same : j ≡ e.0 = at_same j e.0 t in omega arith
      | false ↦ λ t h. let later : j < end_of es = before_end es j y h in omega arith
    ] refl here

none_from_end : (es : Pods) (j : ℕ) → end_of es ≤ j → pod_at es j ≡ None
none_from_end es j l =
    elim (pod_at es j) as (λ o. pod_at es j ≡ o → o ≡ None) [
      | None ↦ λ h. refl
      | Some y ↦ λ h. let low : j < end_of es = before_end es j y h in absurd (omega arith)
    ] refl

-- ---- the pods after a round
abbrev made : Replica
made = record { owned = true; uid = 0; readiness = Ready; terminating = false; updated = true; current = false }

made_is_new : (set : SetParts) (i : ℕ) → IsNew set i made
made_is_new set i = record { ready = refl; staying = refl; updated = λ _. refl }

beyond : (set : SetParts) (i : ℕ) → set.start + set.replicas ≤ i → in_range set i ≡ false
beyond set i l = not_true (in_range set i) (λ h. let at_i = bounds set i h in absurd (omega (arith, at_i.1, l)))

nothing_there : (steps_delete steps_create : Bool) → steps_create ≡ false → (if steps_delete then None else if steps_create then Some made else None) ≡ None
nothing_there true c e = refl
nothing_there false c e = ap (λ b. if b then Some made else None) e

pub goes_on : (set : SetParts) (pods : Pods) → AreInOrder pods → (next : Pods) × IsRound set pods next
goes_on set pods sorted =
    let f : ℕ → Option Replica = λ i. after_round (steps_on set pods) i made (pod_at pods i) in
    let end : ℕ = end_of pods + (set.start + set.replicas) in (
      listed f 0 end,
      record {
        in_order = listed_in_order f 0 end;
        new = λ i. made;
        are_new = made_is_new set;
        is_next = λ i. elim (cases_lt i end) [
          | inl l ↦ at_within f 0 end i (omega arith) (omega (arith, l))
          | inr h ↦
              at_past f 0 end i (omega (arith, h))
              ∙ sym (ap (after_round (steps_on set pods) i made) (none_from_end pods i (omega (arith, h)))
              ∙ nothing_there (list_any (deletes i) (steps_on set pods)) (list_any (creates i) (steps_on set pods)) (made_nowhere set pods i sorted (beyond set i (omega (arith, h)))))
        ];
      },
    )
