use Rattle.std.proofs.Common.{[], sym, ap, ◌∙◌}
use Rattle.std.specs.Option.{option_copied, option_map_or}
use Rattle.claims.specs.Listed.{claims_of}
use Rattle.claims.specs.Pods.{claims_in, under}
use Rattle.claims.proofs.PodClaims.{items_of}
use Rattle.claims.proofs.listed.ListedClaims.of_pod.Goals as goal

pub returns-in_err-claims : goal.returns-in_err-claims
unfolding claims_of
returns-in_err-claims c =
    let pods = c.args.self.now.by_pod in
    ap (λ r. claims_in (option_map_or (λ l. l.now) r [])) c.from_residual.ensures ∙ ap (λ g. claims_in (items_of (option_copied g))) (sym c.in_err-claims.was)
    ∙ ap (λ o. claims_in (items_of o)) c.get.ensures.value ∙ ap (λ t. claims_in (under pods t)) c.format.ensures.text

pub returns : goal.returns
unfolding claims_of
returns c =
    let pods = c.args.self.now.by_pod in
    ap claims_in (c.deref.ensures.value ∙ ap (λ g. items_of (option_copied g)) (sym c.in_ok-claims.was) ∙ ap items_of c.get.ensures.value ∙ ap (under pods) c.format.ensures.text)
