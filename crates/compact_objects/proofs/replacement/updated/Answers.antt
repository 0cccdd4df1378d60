use Rattle.std.proofs.Common.{◌≡◌, true, false, sym, ◌∙◌}
use Rattle.objects.proofs.SplicedTexts.{indexed_parts}
use Rattle.compact_objects.proofs.KnownDrafts.{key_told, status_kind}
use Rattle.compact_objects.proofs.Updates.{update_apart, update_indexed, written_update}
use Rattle.compact_objects.proofs.replacement.updated.Goals as goal

pub status_end-requires : goal.status_end-requires
status_end-requires c = indexed_parts c.args.current.now c.indexed-old.result.now c.indexed-old.ensures

pub may_be_same-requires : goal.may_be_same-requires
may_be_same-requires c = indexed_parts c.args.current.now c.indexed-old.result.now c.indexed-old.ensures c.if-old-eq0.false

pub of_indexed-requires : goal.of_indexed-requires
of_indexed-requires c =
    let o = c.args.current.now in
    let s = c.indexed-old.result.now in
    let indexed = c.indexed-old.ensures in
    let some = c.if-old-eq0.false in
    let d = c.requires.told.0 in
    let told = c.requires.told.1 in (
      _,
      update_indexed c.args.draft.now d told o s c.in-Some.new c.in_ok-new.field-0 indexed some c.next_meta-meta.result c.args.number c.status_end.result.now c.requires.status
          (λ value. c.next_meta-meta.ensures o value indexed (indexed.known some c.if-old-eq0-2.false)) (c.status_end.ensures some (indexed_parts o s indexed some))
          (λ value. c.in_ok-new.ensures told.members d value told.draft told.canonical told.integral told.reads) c.in-Some.is,
    )

pub returns : goal.returns
returns c d told =
    let o = c.args.current.now in
    let s = c.indexed-old.result.now in
    let indexed = c.indexed-old.ensures in
    let some = c.if-old-eq0.false in
    let known = indexed.known some c.if-old-eq0-2.false in
    let made = update_indexed c.args.draft.now d told o s c.in-Some.new c.in_ok-new.field-0 indexed some c.next_meta-meta.result c.args.number c.status_end.result.now c.requires.status
    (λ value. c.next_meta-meta.ensures o value indexed known) (c.status_end.ensures some (indexed_parts o s indexed some))
    (λ value. c.in_ok-new.ensures told.members d value told.draft told.canonical told.integral told.reads) c.in-Some.is in
    let apart = update_apart o d s c.in-Some.new indexed some c.args.number known (status_kind c.args.draft.now d told c.requires.status) (c.requires.key ∙ sym (key_told c.args.draft.now d told)) c.requires.number c.ranges.number.fits made
    (λ version is. let both : true ≡ false = sym (c.may_be_same.ensures (indexed_parts o s indexed some) version is) ∙ c.if-may_be_same.false in absurd cc) in
    written_update o d c.args.number _ apart (c.in_ok-of_indexed.ensures _ made)
