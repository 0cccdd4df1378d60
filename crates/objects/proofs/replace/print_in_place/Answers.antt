use Rattle.std.proofs.Common.{ℕ, codes, sym, ap, ◌∙◌}
use Rattle.objects.specs.Meta.{MetaParts}
use Rattle.objects.specs.Object.{ObjectParts}
use Rattle.objects.specs.Rewrites.{generation_after}
use Rattle.objects.specs.Status.{member_of, same_found}
use Rattle.std.specs.Cmp.{booleans_Decides}
use Rattle.objects.proofs.replace.print_in_place.Goals as goal

pub returns-then-is_same-expected-clause-text : goal.returns-then-is_same-expected-clause-text
returns-then-is_same-expected-clause-text c = λ o indexed known.
    let printed = c.in_ok-printed.ensures ∙ c.put_meta.ensures in
    let same = c.in-Some.ensures o c.in_ok-printed.printed indexed known c.indexed.ensures ∙ ap (λ (p : ObjectParts). same_found (member_of (codes "spec") o.body) (member_of (codes "spec") p.body)) printed in
    let expected = sym ((booleans_Decides c.in-Some.is_same c.expects_same_spec-expected.result).0 c.if-is_same-expected.true) ∙ same in
    let generation = c.generation_after.ensures.value
    ∙ ap (λ (g : ℕ). generation_after g c.expects_same_spec-expected.result) (c.from-generation.ensures ∙ known.generation)
    ∙ ap (generation_after o.meta.generation) expected in
    printed
    ∙ ap (λ (m : MetaParts). record { key = c.args.object.now.key; meta = m; body = c.args.object.now.body })
    (c.kept_meta.ensures o indexed known ∙ ap (λ (g : ℕ). record { uid = o.meta.uid; revision = o.meta.revision; generation = g; deletion = o.meta.deletion }) generation)
