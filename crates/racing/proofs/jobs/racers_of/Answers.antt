use Rattle.std.proofs.Common.{◌+◌, [], ◌∷◌, length, length-append, map, sym, ap, ◌∙◌, subst, refl, arith}
use Rattle.std.specs.List.{All}
use Rattle.racing.specs.declared.jobs.Job.TheVariants.{Controller, Kubelet}
use Rattle.racing.specs.Jobs.{IsJob, number_of}
use Rattle.racing.specs.Parts.{CountFrom}
use Rattle.racing.proofs.Rows.{all_more, count_more}
use Rattle.racing.proofs.jobs.racers_of.Goals as goal

pub loop-number-preserved : goal.loop-number-preserved
loop-number-preserved g c =
    let spec = c.args.course.now.spec in
    let was = c.loop-number.invariant in
    let job = Controller c.loop-number.number c.in_ok-caller.field-0 in
    let items = c.in_ok-push.ensures.items in
    record {
      jobs = subst (All (IsJob spec)) (sym items) (all_more (IsJob spec) c.loop-number.jobs.items job was.jobs (let t = c.loop-number-test.true in omega arith));
      numbers = subst (λ js. CountFrom 0 (map number_of js)) (sym items) (count_more number_of 0 c.loop-number.jobs.items job was.numbers (let m = was.many in omega arith));
      many = ap length items ∙ length-append c.loop-number.jobs.items (job ∷ []) ∙ ap (λ k. k + 1) was.many;
    }

-- the kubelet comes after the controllers
pub returns-clause-jobs : goal.returns-clause-jobs
returns-clause-jobs g c =
    let spec = c.args.course.now.spec in
    let job = Kubelet spec.controllers c.in_ok-caller-2.field-0 in
    subst (All (IsJob spec)) (sym c.in_ok-push-2.ensures.items) (all_more (IsJob spec) c.loop-number.jobs.items job c.loop-number.invariant.jobs refl)

pub returns-clause-numbers : goal.returns-clause-numbers
returns-clause-numbers g c =
    let job = Kubelet c.args.course.now.spec.controllers c.in_ok-caller-2.field-0 in
    let was = c.loop-number.invariant in
    subst (λ js. CountFrom 0 (map number_of js)) (sym c.in_ok-push-2.ensures.items)
    (count_more number_of 0 c.loop-number.jobs.items job was.numbers (let m = was.many in let t = c.loop-number-test.false in let u = c.loop-number.auto.number-end in omega arith))

pub returns-clause-many : goal.returns-clause-many
returns-clause-many g c =
    let job = Kubelet c.args.course.now.spec.controllers c.in_ok-caller-2.field-0 in
    let was = c.loop-number.invariant in
    ap length c.in_ok-push-2.ensures.items ∙ length-append c.loop-number.jobs.items (job ∷ [])
    ∙ (let m = was.many in let t = c.loop-number-test.false in let u = c.loop-number.auto.number-end in omega arith)
