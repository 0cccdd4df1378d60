use Rattle.std.proofs.Common.{◌≡◌, ap, ◌∙◌, length, true, arith}
use Rattle.std.specs.Prelude.{nat_le}
use Rattle.std.proofs.lemmas.Bool.{le-leb}
use Rattle.objects.specs.declared.kind.Kind.TheVariants.{Pod}
use Rattle.objects.specs.Key.{is_key, key_parts}
use Rattle.objects.specs.PodNames.{pod_name}
use Rattle.objects.specs.Names.{most_label}
use Rattle.manifests.proofs.PodKeys.{pod_key_fits}
use Rattle.manifests.proofs.pod.pod_of.Goals as goal

pub named_pod-requires : goal.named_pod-requires
named_pod-requires c =
    let key = c.args.template.now.set.now.object.key in
    let is = c.in_ok-name.ensures ∙ ap (λ s. pod_name s c.args.ordinal) c.name_of.ensures.name in
    let long = ap length (c.as_str.ensures.value ∙ is) in
    let fits : nat_le (length (pod_name key.name c.args.ordinal)) most_label ≡ true = le-leb (length (pod_name key.name c.args.ordinal)) most_label (omega (arith, long)) in
    ap (λ n. is_key (key_parts Pod key.namespace n)) (c.as_str-2.ensures.value ∙ is)
    ∙ pod_key_fits key c.args.ordinal c.name_of.ensures.valid (omega (arith, c.ranges.ordinal.fits)) fits
