-- The plan of revisions, by what was chosen.
use Rattle.std.proofs.Common.{◌≡◌, ℕ, ◌+◌, List, Bool, true, Ok, refl, sym, ap, ◌∙◌}
use Rattle.std.specs.Prelude.{unwrap_or}
use Rattle.serde_json.specs.Data.{Data}
use Rattle.objects.specs.declared.object.Object.{Object}
use Rattle.set_views.specs.Set.{SetParts}
use Rattle.revisions.specs.declared.view.RevisionView.{RevisionView}
use Rattle.revisions.specs.Choice.{Choice, in_place, to_create, choice_of, data_with, greatest, named_current}
use Rattle.revisions.specs.Plan.{is_sound, created, creation, objects_of, plan_of, settled}

pub choice_is : (t d : Data) (slice views : List RevisionView) (x : Choice) → t ≡ d → slice ≡ views → x ≡ choice_of t (objects_of slice) → choice_of d (objects_of views) ≡ x
choice_is t d slice views x t_is s_is h =
    sym (ap (λ s. choice_of t (objects_of s)) s_is ∙ ap (λ u. choice_of u (objects_of views)) t_is) ∙ sym h

pub plan_in_place : (set : SetParts) (held : List ℕ → Bool) (digits : ℕ) (owned : List Object) (current update : Object) → is_sound set owned (in_place update) ≡ true
    → choice_of (data_with set.template) owned ≡ in_place update → current ≡ unwrap_or (named_current set owned) update → plan_of set held digits owned ≡ Ok (settled owned current update)
unfolding plan_of
plan_in_place set held digits owned current update sound choice current_is = rw (choice, sound, current_is) refl

pub plan_created : (set : SetParts) (held : List ℕ → Bool) (digits n : ℕ) (owned : List Object) (o : Object) → is_sound set owned to_create ≡ true
    → choice_of (data_with set.template) owned ≡ to_create → n ≡ greatest owned + 1 → creation set held digits n ≡ Ok o → plan_of set held digits owned ≡ Ok (created o)
unfolding plan_of
plan_created set held digits n owned o sound choice n_is made = rw (choice, sound, sym n_is, made) refl
