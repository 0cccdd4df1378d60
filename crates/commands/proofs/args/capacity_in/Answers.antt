use Rattle.std.proofs.Common.{◌≡◌, None, codes, refl, sym, ap, subst, ◌∙◌}
use Rattle.std.specs.Prelude.{unwrap_or}
use Rattle.std.specs.Str.Parse.{ExplainsUnsignedError, HasUnsignedDigitsIfOk, ParsesUnsigned}
use Rattle.clap.specs.Words.{found_of, one_of, one_text, rows_of, subcommand_rows_of}
use Rattle.clap.proofs.WalkLemmas.{one_text-rows}
use Rattle.commands.specs.Grammar.{IsCapacityBy, rows_under}
use Rattle.commands.proofs.Serving.{false-true, read, rows-met, rows-unmet}
use Rattle.commands.proofs.args.capacity_in.Goals.{in-Some, in-None}
use Rattle.commands.proofs.args.capacity_in.Goals as goal

pub returns : goal.returns
returns c =
    let m = c.args.matches.now in
    elim c.match-subcommand_matches.branch [
      | in-Some w ↦
          let serve = w.in-Some.serve.now in
          let said = w.in-Some.ensures in
          let text : one_text (found_of serve) (codes "capacity") ≡ one_of (codes "capacity") (rows_under (codes "serve") (subcommand_rows_of m)) =
          one_text-rows (found_of serve) (codes "capacity")
          ∙ ap (λ rs. one_of (codes "capacity") rs) (sym (rows-met (codes "serve") m (rows_of (found_of serve)) (said.found.0 refl) said.rows)) in
          subst (λ t. IsCapacityBy t c.unwrap_or.result) text
          (read (λ bs r. ParsesUnsigned 64 10 bs r × ExplainsUnsignedError 10 bs r × HasUnsignedDigitsIfOk bs r) (one_text (found_of serve) (codes "capacity"))
          w.get_one-given.result c.unwrap_or.result (λ t r gives. gives.0) w.get_one-given.ensures.none w.get_one-given.ensures.value
          (c.unwrap_or.ensures ∙ ap (λ g. unwrap_or g 1048576) w.given-is))
      | in-None w ↦
          let none : one_of (codes "capacity") (rows_under (codes "serve") (subcommand_rows_of m)) ≡ None =
          ap (λ rs. one_of (codes "capacity") rs) (rows-unmet (codes "serve") m (λ is. false-true (w.in-None.ensures.found.1 is))) in
          subst (λ t. IsCapacityBy t c.unwrap_or.result) (sym none) (c.unwrap_or.ensures ∙ ap (λ o. unwrap_or o 1048576) w.given-is)
    ]
