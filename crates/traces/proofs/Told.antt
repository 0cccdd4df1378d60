-- The refused plans after one more item.
use Rattle.std.proofs.Common.{◌≡◌, ℕ, ◌+◌, ◌<◌, List, ◌∷◌, ◌++◌, length, get_or, drop, Option, Some, None, refl, sym, ap, ap₂, ◌∙◌, append_assoc}
use Rattle.std.proofs.lemmas.List.{drop_more}
use Rattle.requests.specs.declared.reply.Reply.{Reply}
use Rattle.interleavings.specs.declared.trace.Item.{Item}
use Rattle.interleavings.specs.declared.trace.Item.TheVariants as item
use Rattle.rounds.specs.World.{put}
use Rattle.controllers.specs.declared.set_spec.SetSpec.{SetSpec}
use Rattle.traces.specs.declared.refused_plan.RefusedPlan.{RefusedPlan}
use Rattle.traces.specs.RefusedPlans.{Owners, Phases, phase_after, phases_after, set_of, told_at, told_from}

pub told_more : (owners : Owners) (sets : List SetSpec) (items : List Item) (i : ℕ) (item : Item) (phases next : Phases) (old new whole : List RefusedPlan) → i < length items → item ≡ get_or items i item
    → new ≡ old ++ told_at owners sets phases item → ((c : ℕ) → next c ≡ phases_after owners sets phases item c)
    → old ++ told_from owners sets phases (drop i items) ≡ whole → new ++ told_from owners sets next (drop (i + 1) items) ≡ whole
told_more owners sets items i item phases next old new whole inside is told same so_far =
    let rest = drop (i + 1) items in
    ap₂ (λ t f. t ++ told_from owners sets f rest) told (λ j c. same c j)
    ∙ append_assoc old (told_at owners sets phases item) (told_from owners sets (phases_after owners sets phases item) rest)
    ∙ ap (λ xs. old ++ told_from owners sets phases xs) (ap (λ x. x ∷ rest) is ∙ sym (drop_more items i item inside))
    ∙ so_far

-- the phases of the callers after a reply
pub reply_phases : (owners : Owners) (sets : List SetSpec) (phases next : Phases) (place caller : ℕ) (reply : Reply) (i : Item) (set : Option SetSpec) → i ≡ item.Reply place caller reply
    → set_of sets (owners caller) ≡ set → ((n : ℕ) → next n ≡ put phases caller (phase_after set (phases caller) reply) n) → (n : ℕ) → next n ≡ phases_after owners sets phases i n
reply_phases owners sets phases next place caller reply i set is made goes n =
    goes n ∙ ap (λ o. put phases caller (phase_after o (phases caller) reply) n) (sym made) ∙ ap (λ j. phases_after owners sets phases j n) (sym is)

pub nobody : (who : Option ℕ) → ((c : ℕ) → who ≡ Some c → ⊥) → who ≡ None
nobody None none = refl
nobody (Some c) none = absurd (none c refl)
