use Rattle.compact_objects.proofs.Drafting.{canonical_within, told_weaker}
use Rattle.compact_objects.proofs.draft.CompactDraft.of.Goals as goal

pub returns : goal.returns
returns c ls is line canonical =
    let o = c.in-Some.ensures ls (is, line.0) (λ os e. (line.1 _ e).0) in
    let m = c.in-Some-map_member.ensures o.0 o.2 (λ ms e. (line.1 _ o.1).1 _ e) in
    told_weaker _ _ c.of_parts.result (λ x p. (o.0, o.1, p)) (c.of_parts.ensures o.0 m.0 o.2 m.1 m.2 (canonical_within ls o.0 m.0 canonical o.1 m.1))
