use Rattle.std.proofs.Common.{arith, rules, subst, sym}
use Rattle.plain_store.specs.Store.{step}
use Rattle.order_check.specs.Following.{IsCalled, IsAnswered}
use Rattle.order_check.proofs.walk.Walk.take.Goals as goal

pub returns-in_default-called_at-clause-complete : goal.returns-in_default-called_at-clause-complete
returns-in_default-called_at-clause-complete c = λ may.
    let found = c.in_default-called_at.ensures.complete may.request (subst (λ m. IsCalled c.args.items.now m c.args.place may.request) (sym c.in-Some.ensures.value) may.called) in
    cc

pub returns-clause-takes : goal.returns-clause-takes
returns-clause-takes c = λ yes.
    let items = c.args.items.now in
    let place = c.args.place in
    let request = c.in-Some-called_at.request.now in
    let old = c.args.self.now in
    let heard = c.in_ok-answer_fits.ensures in
    let largest = c.max-self.ensures in
    let same = heard.stays.2 in
    record {
      may = record {
        request = request;
        called = subst (λ m. IsCalled items m place request) c.in-Some.ensures.value c.in-Some-called_at.ensures.called;
        answer_fits = subst (λ m. IsAnswered items m old.latest (step old.store request).1) c.remove-answer.ensures.value (heard.answer_fits.0 yes);
      };
      stepped = heard.stepped yes;
      calls = search rules;
      answers = search rules;
      grows = omega arith;
      reached = omega arith;
      least = λ n low high. omega arith;
    }
