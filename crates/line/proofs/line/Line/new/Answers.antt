use Rattle.std.proofs.Common.{rules, ◌≡◌, ◌+◌, ◌∷◌, [], sym, subst, replicate}
use Rattle.line.specs.NotedRule.{NotedRule}
use Rattle.line.specs.NotedView.{first_noted}
use Rattle.line.proofs.Logging.{log_begins}
use Rattle.line.proofs.Shards.{all_fresh}
use Rattle.line.proofs.line.Line.new.Goals as goal

pub of_words-requires : goal.of_words-requires
of_words-requires g c =
    let e : c.as_slice.result.now ≡ replicate (c.args.capacity + 2) 0 = search rules in
    subst (λ ws. NotedRule g.K.Judging.home g.K.Judging.by g.K.Judging.accepts c.args.capacity ws (first_noted c.args.capacity ∷ [])) (sym e) (log_begins g.K.Judging.home g.K.Judging.by g.K.Judging.accepts c.args.capacity (search rules))

pub returns-clause-fresh : goal.returns-clause-fresh
returns-clause-fresh g c = all_fresh c.in_ok-table.table.shared.table_id c.args.capacity c.in_ok-shards.shards.items (search rules)
