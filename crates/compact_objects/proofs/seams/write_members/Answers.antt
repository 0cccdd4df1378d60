use Rattle.std.proofs.Common.{ap, ◌∙◌}
use Rattle.std.specs.Prelude.{option_map}
use Rattle.serde_json.specs.Data.{number, unsigned, string}
use Rattle.objects.specs.Meta.{MetaParts}
use Rattle.objects.specs.Text.{unless_zero}
use Rattle.compact_objects.proofs.Maps.{members_written}
use Rattle.compact_objects.proofs.seams.write_members.Goals as goal

pub returns : goal.returns
returns c ms ascending is =
    let fields = c.fields-fields.ensures ms is.0 is.1 in
    let s1 = c.in_ok-deleted.ensures ms ascending fields.0 fields.1 in
    let s2 = c.in_ok-generated.ensures s1.rest s1.ascending s1.left_is s1.entries_are in
    let s3 = c.in_ok-named.ensures s2.rest s2.ascending s2.left_is s2.entries_are in
    let s4 = c.in_ok-spaced.ensures s3.rest s3.ascending s3.left_is s3.entries_are in
    let w = c.in_ok-rest.ensures s4.rest s4.ascending s4.left_is s4.entries_are in
    members_written c.args.key.now c.args.meta.now ms _ _ _ _ _ _ _ _ _ _ _ _ _ _ _ _ _ _ _ _ _
    (ap (option_map string) (c.held_text.ensures ∙ c.as_ref.ensures.value ∙ ap (λ (m : MetaParts). m.deletion) c.meta.view_is))
    (ap (λ (m : MetaParts). unless_zero m.generation (number (unsigned m.generation))) c.meta.view_is)
    (ap string c.plain_name.ensures) (ap string c.plain_namespace.ensures)
    s1 s2 s3 s4 w c.in_ok-extend_from_slice.ensures.items
