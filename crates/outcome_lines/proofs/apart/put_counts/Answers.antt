use Rattle.std.proofs.Common.{◌++◌, codes, decimal, string_bytes}
use Rattle.std.proofs.lemmas.Result.{on_ok_weaker}
use Rattle.outcome_lines.specs.Brief.{counted}
use Rattle.pictures.proofs.Pieces.{two}
use Rattle.outcome_lines.proofs.apart.put_counts.Goals as goal

pub returns : goal.returns
returns c =
    on_ok_weaker c.write.result (λ last.
    two (string_bytes c.args.out.now) _ _ (counted c.args.noun.now c.args.apart) (codes ", " ++ (decimal c.args.all ++ codes " with their versions\n")) c.in_ok-put_counted.ensures last) c.write.ensures.bytes
