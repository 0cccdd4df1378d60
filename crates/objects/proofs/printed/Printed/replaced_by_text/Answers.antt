use Rattle.std.proofs.Common.{◌≡◌, true, false, IfSome, sym, ◌∙◌, subst}
use Rattle.objects.specs.Seams.{IsSpliced}
use Rattle.objects.proofs.SplicedTexts.{indexed_parts}
use Rattle.objects.proofs.ReplacedTexts.{replaced_apart, replaced_indexed}
use Rattle.objects.proofs.printed.Printed.replaced_by_text.Goals as goal

pub may_be_same-requires : goal.may_be_same-requires
may_be_same-requires c = indexed_parts c.args.self.now c.indexed-indexed.result.now c.indexed-indexed.ensures c.if-indexed-eq0.false

pub of_indexed-requires : goal.of_indexed-requires
of_indexed-requires c = let indexed = c.indexed-indexed.ensures in (
  _,
  replaced_indexed c.args.self.now c.args.object.now c.in-Some.printed _ c.indexed-indexed.result.now c.indexed.result.now c.in-Some-2.new _ c.status_end.result.now c.args.revision indexed
      (c.in_ok-printed.ensures.text c.args.self.now indexed (indexed.known c.if-indexed-eq0.false c.if-indexed-eq0-2.false)) c.in-Some.is c.indexed.ensures c.if-indexed-eq0.false c.ranges.revision.fits
      (c.status_end.ensures c.if-indexed-eq0.false (indexed_parts c.args.self.now c.indexed-indexed.result.now indexed c.if-indexed-eq0.false)) c.in_ok-new.ensures c.in-Some-2.is,
)

pub returns-clause-text : goal.returns-clause-text
returns-clause-text c =
    let indexed = c.indexed-indexed.ensures in
    c.in_ok-of_indexed.ensures _ (replaced_indexed c.args.self.now c.args.object.now c.in-Some.printed _ c.indexed-indexed.result.now c.indexed.result.now c.in-Some-2.new _ c.status_end.result.now c.args.revision indexed
    (c.in_ok-printed.ensures.text c.args.self.now indexed (indexed.known c.if-indexed-eq0.false c.if-indexed-eq0-2.false)) c.in-Some.is c.indexed.ensures c.if-indexed-eq0.false c.ranges.revision.fits
    (c.status_end.ensures c.if-indexed-eq0.false (indexed_parts c.args.self.now c.indexed-indexed.result.now indexed c.if-indexed-eq0.false)) c.in_ok-new.ensures c.in-Some-2.is)

pub returns-clause-differs : goal.returns-clause-differs
returns-clause-differs c =
    let indexed = c.indexed-indexed.ensures in
    let some = c.if-indexed-eq0.false in
    let known = indexed.known some c.if-indexed-eq0-2.false in
    let made = replaced_indexed c.args.self.now c.args.object.now c.in-Some.printed _ c.indexed-indexed.result.now c.indexed.result.now c.in-Some-2.new _ c.status_end.result.now c.args.revision indexed
    (c.in_ok-printed.ensures.text c.args.self.now indexed known) c.in-Some.is c.indexed.ensures some c.ranges.revision.fits
    (c.status_end.ensures some (indexed_parts c.args.self.now c.indexed-indexed.result.now indexed some)) c.in_ok-new.ensures c.in-Some-2.is in
    let written = (subst (λ f. IfSome f (IsSpliced c.indexed.result.now c.status_end.result.now c.args.revision)) c.in-Some-2.is c.in_ok-new.ensures).written in
    λ key. replaced_apart c.args.self.now c.args.object.now c.indexed-indexed.result.now c.in-Some-2.new indexed some c.args.revision known key written c.ranges.revision.fits made
    (λ version is. let both : true ≡ false = sym (c.may_be_same.ensures (indexed_parts c.args.self.now c.indexed-indexed.result.now indexed some) version is) ∙ c.if-may_be_same.false in absurd cc)
