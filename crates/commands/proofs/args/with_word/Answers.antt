use Rattle.std.proofs.Common.{◌≡◌, ◌∙◌, Ok, ap, rules, subst}
use Rattle.std.specs.Prelude.{IfOk}
use Rattle.std.proofs.lemmas.Result.{IfOk-weaker}
use Rattle.clap.specs.Words.{App, app_of, with_subcommand}
use Rattle.commands.proofs.Grammars.{no_globals}
use Rattle.commands.proofs.args.with_word.Goals as goal

pub returns : goal.returns
returns c app is plain =
    let word : c.args.word ≡ Ok c.in_ok-made.made = search rules in
    let made : app_of c.in_ok-made.made ≡ app = subst (λ r. IfOk r (λ w. app_of w ≡ app)) word is in
    IfOk-weaker c.subcommand.result _ _ (λ r h. h.shape (no_globals _ app made plain) ∙ ap (λ (a : App). with_subcommand (app_of c.args.command) a.top) made) c.subcommand.ensures
