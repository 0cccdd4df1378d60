-- What is tested of those who go their way holds.
use Rattle.std.proofs.Common.{◌≡◌, true, List, [], ◌∷◌, Option, Some, None, refl, sym, ap, subst, ◌∙◌}
use Rattle.std.proofs.lemmas.Bool.{and_parts}
use Rattle.requests.proofs.Sameness.{replies_equal}
use Rattle.requests.specs.declared.reply.Reply.{Reply}
use Rattle.requests.specs.declared.request.Request.{Request}
use Rattle.outcomes.specs.Outcomes.{Exchange}
use Rattle.participants.specs.declared.told.Told.{Told}
use Rattle.participants.specs.declared.told.Told.TheVariants.{Heard, Unasked, Unheard}
use Rattle.participants.specs.Machine.{Machine}
use Rattle.participants.specs.Stands.{Stand}
use Rattle.race_runs.specs.Runs.{Goes}
use Rattle.std.specs.Global.{Vec}
use Rattle.race_lines.specs.Questions.{told_lists}
use Rattle.race_scripts.specs.Gone.{IsToldAs, first_of, same_all, same_told}

told_equal : (x y : Told) → same_told x y ≡ true → x ≡ y
told_equal (Heard x) (Heard y) is = ap Heard (replies_equal x y is)
told_equal Unasked Unasked is = refl
told_equal Unheard Unheard is = refl
told_equal x y is = cc

lists_equal : (xs ys : List Told) → same_all xs ys ≡ true → xs ≡ ys
lists_equal [] [] is = refl
lists_equal (x ∷ xs) (y ∷ ys) is =
    let parts = and_parts (same_told x y) (same_all xs ys) is in
    ap (λ z. z ∷ xs) (told_equal x y parts.0) ∙ ap (λ zs. y ∷ zs) (lists_equal xs ys parts.1)
lists_equal xs ys is = cc

pub told_as : (found : List Told) (told behind : List (Vec Told)) (first : Vec Told) → told ≡ first ∷ behind → same_all found first.items ≡ true
    → IsToldAs found (first_of (told_lists told))
told_as found told behind first is same = subst (λ (ts : List (Vec Told)). IsToldAs found (first_of (told_lists ts))) (sym is) (lists_equal found first.items same)

-- ---- its way
-- one exchange more, with a reply
pub goes_more : (m : Machine Stand) (s t to : Stand) (xs ys : List Exchange) (r : Request) (told : Option Reply) (y : Reply) → m.asks s ≡ Some r → t ≡ m.takes s y
    → xs ≡ record { request = r; reply = told } ∷ ys → told ≡ Some y → Goes m t ys to → Goes m s xs to
goes_more m s t to xs ys r told y asks takes is some goes =
    let all : xs ≡ record { request = r; reply = Some y } ∷ ys = is ∙ ap (λ o. record { request = r; reply = o } ∷ ys) some in
    subst (λ (zs : List Exchange). Goes m s zs to) (sym all) (asks, subst (λ (u : Stand). Goes m u ys to) takes goes)

-- the last exchange, which is cut off
pub goes_last : (m : Machine Stand) (s : Stand) (xs ys : List Exchange) (r : Request) (told : Option Reply) → m.asks s ≡ Some r
    → xs ≡ record { request = r; reply = told } ∷ ys → told ≡ None → ys ≡ [] → Goes m s xs s
goes_last m s xs ys r told asks is cut none =
    let all : xs ≡ record { request = r; reply = None } ∷ ys = is ∙ ap (λ o. record { request = r; reply = o } ∷ ys) cut in
    subst (λ (zs : List Exchange). Goes m s zs s) (sym all) (asks, (none, refl))
