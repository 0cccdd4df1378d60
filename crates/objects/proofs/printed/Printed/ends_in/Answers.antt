use Rattle.std.proofs.Common.{◌≡◌, ◌∙◌}
use Rattle.objects.proofs.SplicedTexts.{end_is, ends_same, if_some_map, indexed_parts}
use Rattle.objects.proofs.printed.Printed.ends_in.Goals as goal

pub ends_so-requires : goal.ends_so-requires
ends_so-requires c = indexed_parts c.args.self.now c.indexed-indexed.result.now c.indexed-indexed.ensures

pub returns : goal.returns
returns c =
    if_some_map _ (λ same. same ≡ _) c.ends_so.result (λ same h.
    h.1 (indexed_parts c.args.self.now c.indexed-indexed.result.now c.indexed-indexed.ensures h.0)
    ∙ ends_same c.args.self.now c.indexed-indexed.result.now c.indexed-indexed.ensures h.0 _ _ c.in_ok-end.ensures.printable c.in_ok-end.ensures.canonical
    (end_is _ _ _ _ c.deref.ensures.value c.in_ok-end.ensures.bytes c.in_ok-with_capacity.ensures.items)) c.ends_so.ensures
