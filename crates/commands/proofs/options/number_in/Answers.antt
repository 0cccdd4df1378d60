use Rattle.std.proofs.Common.{ap, max, min, subst, ◌∙◌}
use Rattle.std.proofs.Math.Facts.{Fits-lt-pow}
use Rattle.std.specs.Str.Parse.{ExplainsUnsignedError, HasUnsignedDigitsIfOk, ParsesUnsigned}
use Rattle.clap.specs.Words.{found_of, one_text}
use Rattle.clap.proofs.WalkLemmas.{one_text-rows}
use Rattle.commands.specs.Grammar.{IsNumberBy}
use Rattle.commands.proofs.Ranges.{read_number}
use Rattle.commands.proofs.options.number_in.Goals as goal

pub returns-clause-by : goal.returns-clause-by
returns-clause-by c =
    let found = found_of c.args.matches.now in
    subst (λ t. IsNumberBy c.args.usual c.args.least c.args.most t c.clamp.result) (one_text-rows found c.args.name.now)
    (read_number (λ bs r. ParsesUnsigned 64 10 bs r × ExplainsUnsignedError 10 bs r × HasUnsignedDigitsIfOk bs r) c.args.usual c.args.least c.args.most
    (one_text found c.args.name.now) c.get_one.result c.clamp.result c.requires.least c.requires.most (Fits-lt-pow c.ranges.most)
    (λ t r gives. gives.0) c.get_one.ensures.none c.get_one.ensures.value
    (c.clamp.ensures ∙ ap (λ n. max c.args.least (min n c.args.most)) c.unwrap_or-number.ensures))
