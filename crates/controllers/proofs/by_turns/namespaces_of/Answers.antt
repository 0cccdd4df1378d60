use Rattle.std.proofs.Common.{◌≡◌, ◌<◌, ◌+◌, ◌∷◌, ◌∙◌, ℕ, List, suc, length, drop, get_or, add-one, ap, drop-cons, sym}
use Rattle.std.proofs.lemmas.List.{drop_all}
use Rattle.controllers.specs.Cluster.{namespaces_from}
use Rattle.controllers.proofs.by_turns.namespaces_of.Goals as goal

drop_at : {A : Type 0} (xs : List A) (i : ℕ) (x : A) → i < length xs → x ≡ get_or xs i x → drop i xs ≡ x ∷ drop (i + 1) xs
drop_at xs i x low is = rw add-one (drop-cons xs i x low ∙ ap (λ y. y ∷ drop (suc i) xs) (sym is))

pub loop-set-preserved : goal.loop-set-preserved
loop-set-preserved c =
    let i = c.loop-set.set-index in
    ap (λ found. namespaces_from found (drop (i + 1) c.args.sets.now)) c.in_ok-note_namespace.ensures
    ∙ ap (namespaces_from c.loop-set.found.items) (sym (drop_at c.args.sets.now i c.set-item.result c.loop-set-test.true c.set-item.is)) ∙ c.loop-set.invariant

pub returns : goal.returns
returns c = sym (ap (namespaces_from c.loop-set.found.items) (drop_all c.loop-set.set-index c.args.sets.now c.loop-set-test.false)) ∙ c.loop-set.invariant
