-- What one plain store handles in a legal order of a run is a transcript of the controllers.
use Rattle.std.proofs.Common.{◌≡◌, ◌≤◌, ◌==◌, inl, ℕ, Bool, true, List, [], ◌∷◌, Option, Some, None, refl, sym, ap, subst, ◌∙◌, arith}
use Rattle.std.proofs.lemmas.Bool.{and_parts}
use Rattle.std.proofs.lemmas.Bool.Decides.{nat_tests}
use Rattle.requests.specs.declared.reply.Reply.{Reply}
use Rattle.plain_store.specs.Store.{opening}
use Rattle.plain_store.specs.Reached.{most_revisions}
use Rattle.interleavings.specs.declared.trace.Item.{Item}
use Rattle.interleavings.specs.declared.trace.Item.TheVariants as item
use Rattle.interleavings.specs.Linearization.{Answers, Has, IsHistory, IsLegal}
use Rattle.rounds.specs.Incarnation.{Follows}
use Rattle.rounds.specs.Phase.{Phase, reading_set}
use Rattle.rounds.specs.Promises.{IsTranscript}
use Rattle.rounds.specs.Reconciler.{Reconciler}
use Rattle.rounds.specs.Transcript.{Incarnation, is_by}
use Rattle.cluster_runs.specs.Ordered.{entries_of}
use Rattle.cluster_runs.proofs.Follow.{follows_all}
use Rattle.cluster_runs.proofs.Kept.{IsKept}
use Rattle.cluster_runs.proofs.Own.{AreOrdered, AreUpward, IsOwn, Placed, entries_run, exchanges_in, own, own_called, own_has, own_incarnation, own_upward}

-- the only caller with the incarnation is this one
follows_by : (incarnation : Incarnation) (found : Option Incarnation) → is_by incarnation found ≡ true → found ≡ Some incarnation
follows_by incarnation None is = absurd cc
follows_by incarnation (Some found) is =
    let parts = and_parts (incarnation.controller == found.controller) (incarnation.crashes == found.crashes) is in
    let one : incarnation.controller ≡ found.controller = grind (arith, nat_tests, parts.0) in
    let two : incarnation.crashes ≡ found.crashes = grind (arith, nat_tests, parts.1) in
    sym (ap (λ n. Some (record { controller = n; crashes = incarnation.crashes })) one ∙ ap (λ n. Some (record { controller = found.controller; crashes = n })) two)

module _ (reconcilers : ℕ → Reconciler) (count capacity : ℕ) (phases : ℕ → Phase) (crashes callers : ℕ → ℕ) (used : List ℕ) (incarnations : ℕ → Option Incarnation) (items : List Item)
    (kept : IsKept reconcilers count phases crashes callers used incarnations items) (history : IsHistory items) (order : List ℕ) (legal : IsLegal capacity items order) where
  module _ (incarnation : Incarnation) where
    abbrev mine : ℕ → Bool
    mine n = is_by incarnation (incarnations n)

    alone : (n m : ℕ) → mine n ≡ true → mine m ≡ true → n ≡ m
    alone n m is also = kept.alone n m incarnation (follows_by incarnation (incarnations n) is) (follows_by incarnation (incarnations m) also)

    abbrev taken : List Placed
    taken = own mine items (opening capacity) order

    ordered : AreOrdered mine items order
    ordered p q n m r t called also is mine_too lt here there =
        let same = alone m n mine_too is in
        let s = history.sequential p q n r t called (subst (λ i. Has (item.Call q i t) items) same also) lt in
        legal.in_time s.0 p q s.1.0 s.1.1.0 s.1.1.1 there

    upward : AreUpward taken
    upward = own_upward mine items (opening capacity) order legal.once ordered

    answered : (at p : ℕ) (a : Reply) (answers : Answers items at p a) → mine answers.caller ≡ true → Has (p, (answers.request, a)) taken
    answered at p a answers is =
        own_has mine items (opening capacity) order legal.requests p answers.caller answers.request a history.rising legal.called answers.called is (legal.right at p a answers)

    follows : (xs : List Placed) → taken ≡ xs → Follows (reconcilers incarnation.controller) reading_set (exchanges_in xs)
    follows [] is = tt
    follows (x ∷ xs) is =
        let first : IsOwn mine items order x = own_called mine items (opening capacity) order x (subst (Has x) (sym is) (inl refl)) in
        let n = first.caller in
        follows_all (reconcilers incarnation.controller) n reading_set items (kept.asked n incarnation (follows_by incarnation (incarnations n) first.is_mine)) history x xs
        (λ y at.
        let called : IsOwn mine items order y = own_called mine items (opening capacity) order y (subst (Has y) (sym is) at) in
        subst (λ m. Has (item.Call y.0 m y.1.0) items) (alone called.caller n called.is_mine first.is_mine) called.called)
        (subst AreUpward is upward)
        (λ at p a answers by low. subst (Has (p, (answers.request, a))) is (answered at p a answers (ap mine by ∙ first.is_mine)))

  pub transcript : 1 ≤ capacity → capacity ≤ most_revisions → IsTranscript reconcilers capacity (entries_of incarnations items (opening capacity) order)
  transcript least most = record {
    least = least;
    most = most;
    run = entries_run incarnations items (opening capacity) order;
    incarnations = λ incarnation. subst (Follows (reconcilers incarnation.controller) reading_set) (sym (own_incarnation incarnation incarnations items (opening capacity) order)) (follows incarnation (taken incarnation) refl);
  }
