use Rattle.std.proofs.Common.{subst}
use Rattle.clap.specs.Words.{found_of, one_text}
use Rattle.clap.proofs.WalkLemmas.{one_text-rows}
use Rattle.commands.specs.Forms.{IsFlagBy}
use Rattle.commands.proofs.Serving.{flag_by}
use Rattle.commands.proofs.options.flag_in.Goals as goal

pub returns : goal.returns
returns c =
    let found = found_of c.args.matches.now in
    let said = c.get_flag.ensures in
    subst (λ t. IsFlagBy t c.get_flag.result) (one_text-rows found c.args.name.now)
    (flag_by (one_text found c.args.name.now) c.get_flag.result said.none said.value said.other)
