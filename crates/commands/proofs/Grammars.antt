-- A command whose shape is plain has no global argument.
use Rattle.std.proofs.Common.{◌≡◌, Bool, true, false, refl, ap, ◌∙◌}
use Rattle.std.specs.Prelude.{◌&&◌, not}
use Rattle.clap.specs.Words.{App, app_of}
use Rattle.clap.specs.declared.builder.command.Command.{Command}
use Rattle.clap.specs.declared.builder.command.Command.TheViews.{out-Command}
use Rattle.commands.proofs.Serving.{false-true}

third : (a b c d : Bool) → (a && (not b && (not c && d))) ≡ true → c ≡ false
third false b c d is = absurd (false-true is)
third true true c d is = absurd (false-true is)
third true false true d is = absurd (false-true is)
third true false false d is = refl

pub no_globals : (c : Command) (a : App) → app_of c ≡ a → a.top.is_plain ≡ true → (out-Command c).has_globals ≡ false
no_globals c a same plain = third _ _ (out-Command c).has_globals _ (ap (λ (x : App). x.top.is_plain) same ∙ plain)
