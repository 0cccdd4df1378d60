use Rattle.std.proofs.Common.{ap, ◌∙◌}
use Rattle.std.specs.Prelude.{option_map}
use Rattle.serde_json.specs.Data.{number, unsigned, string}
use Rattle.objects.specs.Key.{KeyParts}
use Rattle.objects.specs.Meta.{MetaParts}
use Rattle.objects.specs.Text.{unless_zero}
use Rattle.objects.proofs.HeldSteps.{steps_to_version, steps_of_held}
use Rattle.objects.proofs.print.write_to_version.Goals as goal

pub returns-clause-written : goal.returns-clause-written
returns-clause-written c = λ version uid.
    let meta_is = c.meta.view_is ∙ ap (λ o. o.meta) c.object.view_is in
    let key_is = c.key.view_is ∙ ap (λ o. o.key) c.object.view_is in
    steps_of_held c.args.object.now c.args.entries.now _ _ _ _ version uid c.args.out.now.tokens _
    (c.held_text.ensures ∙ ap (option_map string) (c.as_ref.ensures.value ∙ ap (λ m. m.deletion) meta_is))
    (c.held_number.ensures ∙ ap (λ (m : MetaParts). unless_zero m.generation (number (unsigned m.generation))) meta_is)
    (ap string (c.as_str.ensures ∙ ap (λ (k : KeyParts). k.name) key_is)) (ap string (c.as_str-2.ensures ∙ ap (λ (k : KeyParts). k.namespace) key_is))
    (steps_to_version _ _ _ _ version uid c.args.entries.now c.in_ok-deleted.deleted.now c.in_ok-generated.generated.now c.in_ok-named.named.now c.in_ok-spaced.spaced.now c.in_ok-rest.rest.now
    c.args.out.now.tokens _ _ _ _ _ c.in_ok-deleted.ensures.step c.in_ok-generated.ensures.step c.in_ok-named.ensures.step c.in_ok-spaced.ensures.step (c.in_ok-rest.ensures.step version))
