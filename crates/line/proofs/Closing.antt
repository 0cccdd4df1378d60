-- What the words of a closed table say.
use Rattle.std.proofs.Common.{◌≡◌, ℕ, ◌≤◌, List, map, sym, ap, ◌∙◌, subst}
use Rattle.atomic_table.specs.Table.{State, Final, Seen}
use Rattle.atomic_table.proofs.Lists.{at_map}
use Rattle.line.specs.declared.view.NotedView.{NotedView}
use Rattle.line.specs.NotedRule.{NotedRule, plain_of}
use Rattle.line.specs.Rule.{frontier_of, drawn_of, KeepsRule, Rule}
use Rattle.line.proofs.Keeping.{frontier_drawn}

module _ {S E : Type 0} (home by : E → ℕ) (accepts : List (ℕ × E) → E → Type 0) (capacity : ℕ) (words : List ℕ) (slots : List S) where
  abbrev kept : State S (NotedView E) → Type 0
  kept s = NotedRule home by accepts capacity s.words s.views

  is_drawn : (s : State S (NotedView E)) → kept s → s.words ≡ words → frontier_of words ≤ drawn_of capacity words
  is_drawn s r e = subst (λ ws. frontier_of ws ≤ drawn_of capacity ws) e (frontier_drawn capacity s.words (map plain_of s.views) r.kept)

  pub drawn : Final kept words slots → frontier_of words ≤ drawn_of capacity words
  drawn f = is_drawn f.0 f.1 f.2

  pub keeps_rule : (n c d f : ℕ) → capacity ≡ n → n ≡ c → d ≡ drawn_of n words → f ≡ frontier_of words → Final kept words slots → KeepsRule c d f
  keeps_rule n c d f key same drawn frontier s =
      let P : ℕ → Type 0 = λ m. Rule m s.0.words (map plain_of s.0.views) in
      (s.0.words, map plain_of s.0.views, subst P (key ∙ same) (s.1).kept, drawn ∙ (ap (λ m. drawn_of m words) same ∙ ap (drawn_of c) (sym s.2)), frontier ∙ ap frontier_of (sym s.2))

  -- where a seat with the view v was given up
  module _ (id : ℕ) (v : NotedView E) (f : Final (Seen kept id v) words slots) where
    pub drawn_with : frontier_of words ≤ drawn_of capacity words
    drawn_with = is_drawn f.0 f.1.0 f.2

    pub seen : v.plain.seen ≤ frontier_of words
    seen = subst (λ ws. v.plain.seen ≤ frontier_of ws) f.2 ((f.1.0).kept.each_seat id v.plain (at_map plain_of f.0.views id v f.1.1)).seen
