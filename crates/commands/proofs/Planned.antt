-- What was planned of an input that was read, and written.
use Rattle.std.proofs.Common.{◌≡◌, ◌++◌, ℕ, Bool, true, List, [], Option, Some, None, Ok, Err, sym, ap, ◌∙◌}
use Rattle.std.specs.Option.{IfSome}
use Rattle.objects.specs.declared.object.Object.{Object}
use Rattle.set_views.specs.Set.{SetParts}
use Rattle.set_views.specs.declared.fault.PlanError.{PlanError}
use Rattle.sets.specs.declared.action.Action.{Action}
use Rattle.sets.specs.declared.action.Plan.{Plan}
use Rattle.sets.specs.Plan.{IsPlan}
use Rattle.plan_lines.specs.Brief.{brief_text, closing}
use Rattle.plan_lines.specs.Objects.{Lists}
use Rattle.reasons.specs.Reasons.{Grounds, grounds_of_lists}
use Rattle.commands.specs.declared.args.PlanWords.{PlanWords}
use Rattle.commands.specs.Forms.{WritesBy}
use Rattle.commands.specs.Planning.{IsPlanOfSetRefused, IsPlanText, IsTextOfSet, plan_refusal, text_by}

-- all of the text, or a prefix
pub plans : (puts : Option (List ℕ) → List ℕ → Option (List ℕ) → Type 0) (asked : PlanWords) (had left before after : Option (List ℕ)) (text : List ℕ)
    → IfSome had (λ input. (left ≡ Some []) × IsPlanText asked input text) → puts before text after
    → WritesBy puts (IsPlanText asked) had left before after
plans puts asked None left before after text planned put = tt
plans puts asked (Some input) left before after text planned put = (planned.0, (text, planned.1, put))

-- why the set has no plan
pub plan_refused : (asked : PlanWords) (set : SetParts) (lists : Lists) (e : PlanError) (name : Option (List ℕ)) → name ≡ plan_refusal asked.shows_line e
    → IsPlan set lists.pods lists.claims lists.revisions asked.digits (Err e) → IfSome name (IsPlanOfSetRefused asked set lists)
plan_refused asked set lists e None is refused = tt
plan_refused asked set lists e (Some name) is refused = (e, sym is, refused)

-- the text of a plan of the set, as it is written
pub text_of_set : (asked : PlanWords) (set : SetParts) (lists : Lists) (plan : Plan) (brief : Bool) (text : List ℕ) → asked.brief ≡ brief
    → IsPlan set lists.pods lists.claims lists.revisions asked.digits (Ok plan)
    → text ≡ text_by brief (grounds_of_lists set asked.digits lists.revisions lists.pods) lists.claims plan.actions.items → IsTextOfSet asked set lists text
text_of_set asked set lists plan brief text is planned told =
    (plan, planned, told ∙ ap (λ (b : Bool). text_by b (grounds_of_lists set asked.digits lists.revisions lists.pods) lists.claims plan.actions.items) (sym is))

-- in words
pub words_of : (g listed : Grounds) (actions : List Action) (claims : List Object) (last : List ℕ) → g ≡ listed → last ≡ closing g actions claims
    → brief_text g actions ++ last ≡ text_by true listed claims actions
words_of g listed actions claims last same is = ap (λ t. brief_text g actions ++ t) is ∙ ap (λ x. brief_text x actions ++ closing x actions claims) same
