use Rattle.std.proofs.Common.{◌∙◌}
use Rattle.objects.specs.Seams.{IsSpliced}
use Rattle.objects.proofs.SplicedTexts.{if_found, parts_as}
use Rattle.objects.proofs.splice.spliced.Goals as goal

pub returns : goal.returns
returns c =
    if_found _ (λ new. IsSpliced c.args.indexed.now c.args.end.now c.args.revision new) c.indexed_of-new.result (λ new h. record {
      seams = c.if-indexed-eq0.false;
      written = c.if-revision-eq0.false;
      uid = h.1;
      revision = h.2;
      generation = h.6;
      spec = h.5;
      text = λ parts. h.0 ∙ c.deref.ensures.value ∙ c.in_ok-bytes.ensures.bytes (parts_as _ _ _ _ _ (c.as_bytes-text.ensures.value ∙ c.as_str.ensures.value) parts);
      offsets = λ parts some.
          let there = c.short_offsets-offsets.ensures (λ none. some (h.3 ∙ none)) in
          (h.3 ∙ there.0 ∙ parts.version_at, h.4 ∙ there.1 ∙ c.in_ok-bytes.ensures.status (parts_as _ _ _ _ _ (c.as_bytes-text.ensures.value ∙ c.as_str.ensures.value) parts));
    }) c.indexed_of-new.ensures
