use Rattle.std.proofs.Common.{filter, not, sym, ap, ◌∙◌, codes}
use Rattle.std.specs.Prelude.{option_map}
use Rattle.serde_json.specs.Data.{Members, put, string}
use Rattle.objects.specs.Building.{put_some}
use Rattle.set_views.specs.Set.{set_parts}
use Rattle.manifests.specs.Arrays.{list_of}
use Rattle.manifests.specs.Template.{part, template_of}
use Rattle.manifests.specs.Volumes.{is_replaced, other_volumes, with_others}
use Rattle.manifests.proofs.ItemLists.{listed_items}
use Rattle.manifests.proofs.VolumeNames.{volumes_apart}
use Rattle.manifests.proofs.pod.pod_spec.Goals as goal

pub returns : goal.returns
returns c =
    let template = c.args.template.now in
    let set = set_parts template.set.now in
    let spec = part (codes "spec") (template_of template.revision.now) in
    let place : Members → Members = λ own. put_some (codes "subdomain") (option_map string set.service) (put (codes "hostname") (string c.args.name.now) own) in
    let placed = c.in_ok-spec.ensures ∙ ap place (c.in_ok-own.ensures.cases ∙ template.specified) in
    let others = ap list_of template.stored ∙ (listed_items (other_volumes set template.spec) ∙ (ap (other_volumes set) template.specified
    ∙ sym (ap (λ v. filter (λ d. not (is_replaced set d)) (list_of v)) (volumes_apart c.args.name.now set.service spec)))) in
    c.in_ok-whole.ensures ∙ (ap (with_others set c.args.ordinal (list_of template.others)) placed ∙ ap (λ o. with_others set c.args.ordinal o (place spec)) others)
