use Rattle.std.proofs.Common.{codes, subst}
use Rattle.std.specs.Str.Parse.{ExplainsUnsignedError, HasUnsignedDigitsIfOk, ParsesUnsigned}
use Rattle.clap.specs.Words.{found_of, one_text}
use Rattle.clap.proofs.WalkLemmas.{one_text-rows}
use Rattle.commands.specs.Grammar.{IsChoiceBy}
use Rattle.commands.proofs.Serving.{read_choice}
use Rattle.commands.proofs.args.choice_in.Goals as goal

pub returns : goal.returns
returns c =
    let found = found_of c.args.matches.now in
    subst (λ t. IsChoiceBy t c.get_one.result) (one_text-rows found (codes "script"))
    (read_choice (λ bs r. ParsesUnsigned 64 10 bs r × ExplainsUnsignedError 10 bs r × HasUnsignedDigitsIfOk bs r) (one_text found (codes "script"))
    c.get_one.result (λ t r gives. gives.0) c.get_one.ensures.none c.get_one.ensures.value)
