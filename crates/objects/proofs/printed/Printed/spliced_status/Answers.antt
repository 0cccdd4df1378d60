use Rattle.std.proofs.Common.{IfSome, subst}
use Rattle.objects.specs.Seams.{IsSpliced}
use Rattle.objects.proofs.SplicedTexts.{end_is, indexed_parts, spliced_indexed}
use Rattle.objects.proofs.printed.Printed.spliced_status.Goals as goal

pub spliced-requires : goal.spliced-requires
spliced-requires c = indexed_parts c.args.self.now c.indexed-indexed.result.now c.indexed-indexed.ensures

pub of_indexed-requires : goal.of_indexed-requires
of_indexed-requires c =
    let h = subst (λ f. IfSome f (λ new. IsSpliced c.indexed-indexed.result.now c.deref.result.now c.args.revision new)) c.in-Some.is c.in_ok-spliced.ensures in (
      _,
      spliced_indexed c.args.self.now c.indexed-indexed.result.now _ _ c.args.revision c.in-Some.new c.indexed-indexed.ensures c.ranges.revision.fits c.in_ok-end.ensures.printable c.in_ok-end.ensures.canonical
          (end_is _ _ _ _ c.deref.ensures.value c.in_ok-end.ensures.bytes c.in_ok-with_capacity.ensures.items) h,
    )

pub returns-in-Some : goal.returns-in-Some
returns-in-Some c =
    let h = subst (λ f. IfSome f (λ new. IsSpliced c.indexed-indexed.result.now c.deref.result.now c.args.revision new)) c.in-Some.is c.in_ok-spliced.ensures in
    c.in_ok-of_indexed-in-Some.ensures _ (spliced_indexed c.args.self.now c.indexed-indexed.result.now _ _ c.args.revision c.in-Some.new c.indexed-indexed.ensures c.ranges.revision.fits c.in_ok-end.ensures.printable c.in_ok-end.ensures.canonical
    (end_is _ _ _ _ c.deref.ensures.value c.in_ok-end.ensures.bytes c.in_ok-with_capacity.ensures.items) h)
