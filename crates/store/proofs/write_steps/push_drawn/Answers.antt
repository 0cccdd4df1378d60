use Rattle.std.proofs.Common.{◌≡◌, ◌<◌, ◌∙◌, ◌++◌, ◌∷◌, [], All, Some, length, ap, sym, subst, arith}
use Rattle.requests.specs.declared.version.Version.{Version}
use Rattle.versions.specs.Shard.{Shard, pushed}
use Rattle.line.specs.declared.view.NotedView.{NotedView}
use Rattle.store.specs.Rule.{AgreesWith}
use Rattle.store.specs.Views.{writing_by}
use Rattle.store.proofs.Agreeing.{above_all, agrees_as, agrees_pushed}
use Rattle.store.proofs.write_steps.push_drawn.Goals as goal

pub push-requires : goal.push-requires
push-requires g c =
    let next = c.in-Some.ensures.next in
    let number = c.number-number.ensures in
    record {
      room = c.requires.room ∙ ap (λ (v : Version). Some v.key) (sym c.stamp-version.ensures.version);
      above = above_all _ _ _ _ _ c.requires.agrees (subst (λ n. All (λ x. x < n) c.args.seat.now.view.plain.filled) (sym number) next.5);
    }

pub returns-clause-agrees : goal.returns-clause-agrees
returns-clause-agrees g c =
    let next = c.in-Some.ensures.next in
    let number = c.number-number.ensures in
    let first = next.0 in
    let passed = next.4 in
    let long = c.requires.long in
    let low = c.requires.agrees.floor in
    let old = c.args.seat.now.view in
    let w = writing_by old c.args.request.now.value c.args.change in
    let a = agrees_pushed c.args.shard.now old.notes old.plain.filled (length old.seen) c.number-number.result c.stamp-version.result.0 w c.requires.agrees
    (subst (λ n. All (λ x. x < n) old.plain.filled) (sym number) next.5) c.stamp-version.ensures.version (omega arith) (omega arith) in
    let has : c.fill.new.seat.view.notes ≡ old.notes ++ (c.number-number.result, w) ∷ [] = ap (λ (n : NotedView _). n.notes) c.fill.ensures.filled ∙ (ap (λ (n : NotedView _). n.notes) c.in-Some.ensures.some ∙ ap (λ n. old.notes ++ (n, w) ∷ []) (sym number)) in
    let filled : c.fill.new.seat.view.plain.filled ≡ old.plain.filled ++ c.number-number.result ∷ [] = ap (λ (n : NotedView _). n.plain.filled) c.fill.ensures.filled ∙ (ap (λ (n : NotedView _). n.plain.filled ++ c.in-Some.drawn ∷ []) c.in-Some.ensures.some ∙ ap (λ n. old.plain.filled ++ n ∷ []) (sym number)) in
    let seen : length c.fill.new.seat.view.seen ≡ length old.seen = ap (λ (n : NotedView _). length n.seen) c.fill.ensures.filled ∙ ap (λ (n : NotedView _). length n.seen) c.in-Some.ensures.some in
    subst (λ (s : Shard). AgreesWith s c.fill.new.seat.view) (sym c.push.ensures)
    (agrees_as _ _ _ _ _ _ _ a has filled (omega arith))

pub returns-clause-pushed : goal.returns-clause-pushed
returns-clause-pushed g c = c.push.ensures ∙ ap (pushed c.args.shard.now c.number-number.result) c.stamp-version.ensures.version
