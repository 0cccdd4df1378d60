use Rattle.std.proofs.Common.{◌∙◌, ◌+◌, ◌++◌, [], ◌∷◌, drop, take, refl, sym, ap, subst}
use Rattle.std.proofs.lemmas.Bool.{false≢true}
use Rattle.std.proofs.lemmas.List.{drop_more, take-append-drop, take_more}
use Rattle.std.proofs.lemmas.Option.{slice_get_read}
use Rattle.interleavings.specs.Linearization.{IsHistory}
use Rattle.order_check.specs.Pairing.{seen}
use Rattle.order_check.proofs.Paired.{IsPaired, may_come, none_read, put}
use Rattle.order_check.proofs.pairs.Pairs.read.Goals as goal

pub loop-index-init : goal.loop-index-init
loop-index-init c = none_read _ _ c.requires.last c.requires.awaited c.requires.answers

pub loop-index-preserved : goal.loop-index-preserved
loop-index-preserved c =
    let items = c.args.items.now in
    let i = c.loop-index.index in
    let item = c.index-items-index.result in
    let is = slice_get_read items _ i item refl c.loop-index-test.true c.index-items-index.is in
    let more = take_more items i item c.loop-index-test.true ∙ ap (λ x. take i items ++ x ∷ []) (sym c.index-items-index.is) in
    subst (λ xs. IsPaired items xs (seen c.put.new.self)) (sym more) (put items _ _ _ c.loop-index.invariant i item is (c.in_ok-put.ensures.read c.if-not-branch.false))

pub returns-then-not-branch-clause-history : goal.returns-then-not-branch-clause-history
returns-then-not-branch-clause-history c =
    let items = c.args.items.now in
    let i = c.loop-index.index in
    let item = c.index-items-index.result in
    let rest = drop (i + 1) items in
    let whole = take-append-drop i items in
    let left = drop_more items i item c.loop-index-test.true ∙ ap (λ x. x ∷ rest) (sym c.index-items-index.is) in
    let parts = ap (λ xs. take i items ++ xs) (sym left) ∙ whole in
    (λ yes. absurd (false≢true yes), λ history. sym c.if-not-branch.true ∙ c.in_ok-put.ensures.may (may_come items (take i items) rest (seen c.loop-index.self) c.loop-index.invariant item (subst IsHistory (sym parts) history)))
