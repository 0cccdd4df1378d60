use Rattle.std.proofs.Common.{◌≡◌, length, vec_len, sym, ◌∙◌, arith}
use Rattle.compact_objects.proofs.Maps.{member_written}
use Rattle.compact_objects.proofs.seams.write_to_version.Goals as goal

pub returns : goal.returns
returns c ms ascending is =
    let begun = c.extend_from_slice.new.self.items in
    let long : length begun ≡ vec_len c.extend_from_slice.new.self = omega (arith, c.extend_from_slice.new.self.ok) in
    member_written c.args.key.now c.args.meta.now ms _ _ c.args.out.now.items begun _ _ c.in_ok-extend_from_slice.ensures.items (c.in_ok-rest.ensures ms ascending is)
    (λ back x e. c.begin_map.ensures begun back x e (long ∙ sym c.len-start.ensures))
