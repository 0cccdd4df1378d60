use Rattle.std.proofs.Common.{IfSome, subst}
use Rattle.objects.specs.Seams.{IsSpliced}
use Rattle.objects.proofs.SplicedTexts.{indexed_parts, spliced_again}
use Rattle.objects.proofs.printed.Printed.spliced_version.Goals as goal

pub status_end-requires : goal.status_end-requires
status_end-requires c = indexed_parts c.args.self.now c.indexed-indexed.result.now c.indexed-indexed.ensures

pub spliced-requires : goal.spliced-requires
spliced-requires c = indexed_parts c.args.self.now c.indexed-indexed.result.now c.indexed-indexed.ensures

pub of_indexed-requires : goal.of_indexed-requires
of_indexed-requires c =
    let h = subst (λ f. IfSome f (λ new. IsSpliced c.indexed-indexed.result.now c.status_end.result.now c.args.revision new)) c.in-Some.is c.in_ok-spliced.ensures in (
      _,
      spliced_again c.args.self.now c.indexed-indexed.result.now c.status_end.result.now c.args.revision c.in-Some.new c.indexed-indexed.ensures c.ranges.revision.fits
          (λ some. c.status_end.ensures some (indexed_parts c.args.self.now c.indexed-indexed.result.now c.indexed-indexed.ensures some)) h,
    )

pub returns-in_ok-of_indexed-in-Some : goal.returns-in_ok-of_indexed-in-Some
returns-in_ok-of_indexed-in-Some c =
    let h = subst (λ f. IfSome f (λ new. IsSpliced c.indexed-indexed.result.now c.status_end.result.now c.args.revision new)) c.in-Some.is c.in_ok-spliced.ensures in
    c.in_ok-of_indexed-in-Some.ensures _ (spliced_again c.args.self.now c.indexed-indexed.result.now c.status_end.result.now c.args.revision c.in-Some.new c.indexed-indexed.ensures c.ranges.revision.fits
    (λ some. c.status_end.ensures some (indexed_parts c.args.self.now c.indexed-indexed.result.now c.indexed-indexed.ensures some)) h)
