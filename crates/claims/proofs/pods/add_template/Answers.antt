use Rattle.std.proofs.Common.{◌≡◌, ◌++◌, sym, ap, ◌∙◌, append-nil}
use Rattle.std.specs.Prelude.{codes}
use Rattle.std.specs.Option.{option_copied}
use Rattle.claims.specs.Pods.{claims_in, under, with_digits}
use Rattle.claims.proofs.PodClaims.{items_of}
use Rattle.claims.proofs.pods.add_template.Goals.{in-Some+in_ok-add_all, in_default}
use Rattle.claims.proofs.pods.add_template.Goals as goal

pub returns : goal.returns
returns c = λ digits.
    let stems = c.args.stems.now in
    let before = claims_in (under c.args.pods.now digits) in
    let there : items_of (option_copied c.get.result) ≡ under stems (c.args.template.now ++ codes "-" ++ c.args.set.now.object.key.name) =
    ap items_of c.get.ensures.value ∙ ap (under stems) (c.as_str.ensures.value ∙ c.in_ok-stem.ensures) in
    elim c.match-get.branch [
      | in-Some+in_ok-add_all w ↦
          ap (λ m. claims_in (under m digits)) w.pods-is ∙ w.in_ok-add_all.ensures digits
          ∙ ap (λ l. before ++ with_digits digits l) (w.deref.ensures.value ∙ ap (λ g. items_of (option_copied g)) (sym w.in-Some.is) ∙ there)
      | in_default w ↦
          ap (λ m. claims_in (under m digits)) w.pods-is ∙ sym (append-nil before)
          ∙ ap (λ l. before ++ with_digits digits l) (ap (λ g. items_of (option_copied g)) (sym w.in_default.is) ∙ there)
    ]
