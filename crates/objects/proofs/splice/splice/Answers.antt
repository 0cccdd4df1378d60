use Rattle.std.proofs.Common.{◌≡◌, ℕ, ◌+◌, List, length, vec_len, sym, ap, ◌∙◌, arith}
use Rattle.objects.specs.Seams.{version_text}
use Rattle.objects.proofs.SplicedTexts.{splice_is, with_end}
use Rattle.objects.proofs.splice.splice.Goals as goal

pub returns-clause-bytes : goal.returns-clause-bytes
returns-clause-bytes c = λ parts.
    with_end parts.front (version_text c.args.new) parts.middle c.args.end.now _ _
    (splice_is c.args.text.now c.args.old c.args.new c.args.seams.version c.args.seams.status _ parts c.args.out.items _ _ _ _ _ _ c.requires.empty c.in_ok-extend_from_slice.ensures.items c.in_ok-push.ensures.items
    c.in_ok-extend_from_slice-2.ensures.items c.in_ok-push-2.ensures.items c.in_ok-extend_from_slice-3.ensures.items
    (c.as_bytes.ensures.value ∙ c.format-2.ensures.text) (ap (λ (s : List ℕ). c.args.seams.version + 2 + length s) c.format.ensures.text)) c.in_ok-extend_from_slice-4.ensures.items

pub returns-clause-status : goal.returns-clause-status
returns-clause-status c = λ parts.
    let same : length c.extend_from_slice-3.new.self.items ≡ vec_len c.extend_from_slice-3.new.self = omega (arith, c.extend_from_slice-3.new.self.ok) in
    c.len-status.ensures ∙ sym same ∙ ap length
    (splice_is c.args.text.now c.args.old c.args.new c.args.seams.version c.args.seams.status _ parts c.args.out.items _ _ _ _ _ _ c.requires.empty c.in_ok-extend_from_slice.ensures.items c.in_ok-push.ensures.items
    c.in_ok-extend_from_slice-2.ensures.items c.in_ok-push-2.ensures.items c.in_ok-extend_from_slice-3.ensures.items
    (c.as_bytes.ensures.value ∙ c.format-2.ensures.text) (ap (λ (s : List ℕ). c.args.seams.version + 2 + length s) c.format.ensures.text))
