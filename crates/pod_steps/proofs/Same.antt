-- What is planned over depends on the first pod of each name alone.
use Rattle.std.proofs.Common.{◌≡◌, ℕ, ◌≤◌, ◌<◌, true, false, cond, List, [], ◌∷◌, Some, None, find, option_map, arith, refl, sym, ap, ◌∙◌}
use Rattle.std.proofs.lemmas.Map.Keys.{sorted_head, sorted_tail}
use Rattle.std.specs.BTreeMap.{is_at}
use Rattle.std.specs.Map.{keys_of}
use Rattle.std.specs.Ordering.{nat_cmp}
use Rattle.set_views.specs.Pod.{PodParts}
use Rattle.set_views.specs.Set.{SetParts}
use Rattle.pod_steps.specs.declared.replica.Replica.{Replica}
use Rattle.pod_steps.specs.Listed.{by_ordinal, is_foreign, is_named, replica_of, replicas_in, unless_foreign}
use Rattle.pod_steps.specs.Replicas.{AreInOrder, Pods, pod_at}
use Rattle.pod_steps.proofs.Entries.{above, at_head, at_same}
use Rattle.pod_steps.proofs.Firsts.{first_counts, listed_in_order}

pub from_head : (e : ℕ × Replica) (es : Pods) (j : ℕ) (y : Replica) → AreInOrder (e ∷ es) → pod_at (e ∷ es) j ≡ Some y → e.0 ≤ j
from_head e es j y s here =
    elim (is_at (nat_cmp j) e.0) as (λ b. is_at (nat_cmp j) e.0 ≡ b → cond b (Some e.1) (pod_at es j) ≡ Some y → e.0 ≤ j) [
      | true ↦ λ t k. let same : j ≡ e.0 = at_same j e.0 t in omega arith
      | false ↦ λ t k. let up : e.0 < j = above e.0 j es y (sorted_head nat_cmp e.0 (keys_of es) s) k in omega arith
    ] refl here

pub head_is_once : (e : ℕ × Replica) (es : Pods) → AreInOrder (e ∷ es) → pod_at es e.0 ≡ None
head_is_once e es s =
    elim (pod_at es e.0) as (λ o. pod_at es e.0 ≡ o → o ≡ None) [
      | None ↦ λ h. refl
      | Some y ↦ λ h. let up : e.0 < e.0 = above e.0 e.0 es y (sorted_head nat_cmp e.0 (keys_of es) s) h in absurd (omega arith)
    ] refl

pub same_pods : (es fs : Pods) → AreInOrder es → AreInOrder fs → ((i : ℕ) → pod_at es i ≡ pod_at fs i) → es ≡ fs
same_pods [] [] s t same = refl
same_pods [] (f ∷ fs) s t same = let clash : None ≡ Some f.1 = same f.0 ∙ at_head f fs in absurd (cc)
same_pods (e ∷ es) [] s t same = let clash : Some e.1 ≡ None = sym (at_head e es) ∙ same e.0 in absurd (cc)
same_pods (e ∷ es) (f ∷ fs) s t same =
    let low : f.0 ≤ e.0 = from_head f fs e.0 e.1 t (sym (same e.0) ∙ at_head e es) in
    let high : e.0 ≤ f.0 = from_head e es f.0 f.1 s (same f.0 ∙ at_head f fs) in
    let keys : e.0 ≡ f.0 = omega arith in
    let both : Some e.1 ≡ Some f.1 = sym (at_head e es) ∙ (same e.0 ∙ (ap (pod_at (f ∷ fs)) keys ∙ at_head f fs)) in
    let values : e.1 ≡ f.1 = cc in
    let rest : es ≡ fs = same_pods es fs (sorted_tail nat_cmp e.0 (keys_of es) s) (sorted_tail nat_cmp f.0 (keys_of fs) t) (λ i.
    elim (is_at (nat_cmp i) e.0) as (λ b. is_at (nat_cmp i) e.0 ≡ b → cond b (Some e.1) (pod_at es i) ≡ pod_at (f ∷ fs) i → pod_at es i ≡ pod_at fs i) [
      | true ↦ λ u k.
          let at : i ≡ e.0 = at_same i e.0 u in
          ap (pod_at es) at ∙ (head_is_once e es s ∙ sym (ap (pod_at fs) (at ∙ keys) ∙ head_is_once f fs t))
      | false ↦ λ u k. k ∙ ap (λ b. cond b (Some f.1) (pod_at fs i)) (ap (is_at (nat_cmp i)) (sym keys) ∙ u)
    ] refl (same i)) in
    λ k. (keys k, values k) ∷ rest k

pub same_replicas : (set : SetParts) (update current : List ℕ) (listed others : List PodParts) → ((i : ℕ) → find (is_named set i) listed ≡ find (is_named set i) others) → replicas_in set update current listed ≡ replicas_in set update current others
same_replicas set update current listed others same =
    ap (λ pods. unless_foreign set pods (find (is_foreign set) pods))
    (same_pods (by_ordinal set update current listed) (by_ordinal set update current others) (listed_in_order set update current listed) (listed_in_order set update current others)
    (λ i. first_counts set update current listed i ∙ (ap (option_map (replica_of set update current)) (same i) ∙ sym (first_counts set update current others i))))
