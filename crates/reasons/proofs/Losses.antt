-- The claims that are lost, claim by claim, and the updates of one, action by action.
use Rattle.std.proofs.Common.{◌≡◌, ℕ, ◌+◌, ◌<◌, Bool, true, false, List, [], ◌∷◌, ◌++◌, length, drop, get_or, filter, map, nat_eq, not, refl, sym, ◌∙◌, ap, cond, append_assoc, arith}
use Rattle.std.proofs.lemmas.Bool.{eqb-true}
use Rattle.std.proofs.lemmas.List.{at_drop_more}
use Rattle.objects.specs.declared.object.Object.{Object}
use Rattle.objects.specs.Tree.{items_of}
use Rattle.collector.specs.Collectable.{has_items}
use Rattle.collector.proofs.Gone.{has_items-some}
use Rattle.set_views.specs.Set.{SetParts}
use Rattle.sets.specs.declared.action.Action.{Action}
use Rattle.reasons.specs.Lost.{claim_after, is_lost, lost_names, updated_by, updates}

names-first : (set : SetParts) (gone : ℕ → Bool) (actions : List Action) (claim : Object) (rest : List Object) (b : Bool) → b ≡ is_lost set gone actions claim
    → lost_names set gone actions (claim ∷ rest) ≡ cond b (claim.key.name ∷ lost_names set gone actions rest) (lost_names set gone actions rest)
names-first set gone actions claim rest true e =
    ap (λ b. map (λ (o : Object). o.key.name) (cond b (claim ∷ filter (is_lost set gone actions) rest) (filter (is_lost set gone actions) rest))) (sym e)
names-first set gone actions claim rest false e =
    ap (λ b. map (λ (o : Object). o.key.name) (cond b (claim ∷ filter (is_lost set gone actions) rest) (filter (is_lost set gone actions) rest))) (sym e)

pub names-next : (set : SetParts) (gone : ℕ → Bool) (actions : List Action) (claims : List Object) (i : ℕ) (claim : Object) (b : Bool)
    → i < length claims → claim ≡ get_or claims i claim → b ≡ is_lost set gone actions claim
    → lost_names set gone actions (drop i claims) ≡ cond b (claim.key.name ∷ lost_names set gone actions (drop (i + 1) claims)) (lost_names set gone actions (drop (i + 1) claims))
names-next set gone actions claims i claim b lt is e =
    at_drop_more (λ cs. lost_names set gone actions cs) claims i claim lt
    ∙ (ap (λ c. lost_names set gone actions (c ∷ drop (i + 1) claims)) (sym is) ∙ names-first set gone actions claim (drop (i + 1) claims) b e)

pub put-next : (put whole rest later : List (List ℕ)) (name : List ℕ) → put ++ rest ≡ whole → rest ≡ name ∷ later → (put ++ name ∷ []) ++ later ≡ whole
put-next put whole rest later name e r = append_assoc put (name ∷ []) later ∙ (ap (λ t. put ++ t) (sym r) ∙ e)

-- ---- whether there are owners
no_items : (ts : _) → nat_eq (length ts) 0 ≡ true → has_items (items_of ts) ≡ false
no_items [] e = refl
no_items (t ∷ ts) e = let none : length (t ∷ ts) ≡ 0 = eqb-true (length (t ∷ ts)) 0 e in absurd (omega arith)

pub has_items-is : (ts : _) (b : Bool) → b ≡ nat_eq (length ts) 0 → not b ≡ has_items (items_of ts)
has_items-is ts true e = sym (no_items ts (sym e))
has_items-is ts false e = sym (has_items-some ts (sym e))

-- ---- the first action that updates a claim
after-first : (claim : Object) (actions : List Action) (i : ℕ) (a : Action) → i < length actions → a ≡ get_or actions i a
    → claim_after (drop i actions) claim ≡ cond (updates claim a) (updated_by a claim) (claim_after (drop (i + 1) actions) claim)
after-first claim actions i a lt is =
    at_drop_more (λ l. claim_after l claim) actions i a lt ∙ ap (λ x. claim_after (x ∷ drop (i + 1) actions) claim) (sym is)

pub after-here : (claim : Object) (actions : List Action) (i : ℕ) (a : Action) → i < length actions → a ≡ get_or actions i a
    → claim_after (drop i actions) claim ≡ claim_after actions claim → updates claim a ≡ true → updated_by a claim ≡ claim_after actions claim
after-here claim actions i a lt is before e =
    sym (after-first claim actions i a lt is ∙ ap (λ b. cond b (updated_by a claim) (claim_after (drop (i + 1) actions) claim)) e) ∙ before

pub after-later : (claim : Object) (actions : List Action) (i : ℕ) (a : Action) → i < length actions → a ≡ get_or actions i a
    → claim_after (drop i actions) claim ≡ claim_after actions claim → updates claim a ≡ false
    → claim_after (drop (i + 1) actions) claim ≡ claim_after actions claim
after-later claim actions i a lt is before e =
    sym (after-first claim actions i a lt is ∙ ap (λ b. cond b (updated_by a claim) (claim_after (drop (i + 1) actions) claim)) e) ∙ before
