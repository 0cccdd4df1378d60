use Rattle.std.proofs.Common.{◌≡◌, ◌∙◌, ◌<◌, sym, ap, arith, length, decimal, not}
use Rattle.std.proofs.lemmas.Bool.{eqb-false, eqb-true, not-false}
use Rattle.std.proofs.lemmas.Slice.Eq.{bytes_eq-Decides}
use Rattle.objects.proofs.PodNamesDiffer.{not_split, is_split, parts_of_pod_name, result_ok-parsed, pod_name-split}
use Rattle.objects.proofs.pod_names.split_pod_name.Goals.{then-is_empty-via-then-is_empty, then-is_empty-via-else-is_empty+then-ordinal-gt-MAX_ORDINAL, then-is_empty-via-else-is_empty+else-ordinal-gt-MAX_ORDINAL+then-ne}
use Rattle.objects.proofs.pod_names.split_pod_name.Goals as goal

pub returns-in_err-set-clause-none : goal.returns-in_err-set-clause-none
returns-in_err-set-clause-none c = rw c.from_residual.ensures (not_split c.args.name.now c.in_err-set.ensures.cases)

pub returns-in_err-ordinal-clause-none : goal.returns-in_err-ordinal-clause-none
returns-in_err-ordinal-clause-none c =
    let split = is_split c.args.name.now c.in_ok-set.set.now c.in_ok-set.digits.now c.in_ok-set.ensures.cases in
    rw c.from_residual-in_err-ordinal.ensures (λ set ordinal is.
    let read = sym c.in_err-ordinal.was ∙ c.ok.ensures.value ∙ result_ok-parsed _ _ _ set ordinal c.parse.result split is c.parse.ensures.value.0 in absurd cc)

pub returns-then-is_empty-clause-none : goal.returns-then-is_empty-clause-none
returns-then-is_empty-clause-none c set ordinal is =
    let split = is_split c.args.name.now c.in_ok-set.set.now c.in_ok-set.digits.now c.in_ok-set.ensures.cases in
    let parts = parts_of_pod_name _ _ _ set ordinal split is in
    let read = sym c.in_ok-ordinal.was ∙ c.ok.ensures.value ∙ result_ok-parsed _ _ _ set ordinal c.parse.result split is c.parse.ensures.value.0 in
    let same : c.in_ok-ordinal.ordinal ≡ ordinal = cc in
    elim c.then-is_empty.branch [
      | then-is_empty-via-then-is_empty w ↦
          let some : 0 < length c.in_ok-set.set.now = rw parts.0 is.set_named in omega (arith, eqb-true (length c.in_ok-set.set.now) 0 (sym c.is_empty.ensures ∙ w.if-is_empty.true))
      | then-is_empty-via-else-is_empty+then-ordinal-gt-MAX_ORDINAL w ↦ omega (arith, is.fits, w.if-ordinal-gt-MAX_ORDINAL.true)
      | then-is_empty-via-else-is_empty+else-ordinal-gt-MAX_ORDINAL+then-ne w ↦
          let equal = (bytes_eq-Decides c.in_ok-set.digits.now w.format.result.now).1 (parts.1 ∙ ap decimal (sym same) ∙ sym w.format.ensures.text) in
          let unequal = sym w.if-ne.true ∙ w.ne.ensures ∙ ap not equal in absurd cc
    ]

pub returns-clause-some : goal.returns-clause-some
returns-clause-some c =
    let split = is_split c.args.name.now c.in_ok-set.set.now c.in_ok-set.digits.now c.in_ok-set.ensures.cases in
    let equal = (bytes_eq-Decides c.in_ok-set.digits.now c.format.result.now).0 (not-false _ (sym c.ne.ensures ∙ c.if-ne.false)) in
    record {
      joined = pod_name-split _ _ _ c.in_ok-ordinal.ordinal split (equal ∙ c.format.ensures.text);
      set_named = omega (arith, eqb-false (length c.in_ok-set.set.now) 0 (sym c.is_empty.ensures ∙ c.if-is_empty.false));
      fits = c.if-ordinal-gt-MAX_ORDINAL.false;
    }
