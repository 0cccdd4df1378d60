use Rattle.std.proofs.Common.{◌≡◌, List, ℕ, sym, subst}
use Rattle.json.specs.Print.{escape}
use Rattle.plain.proofs.Written.{plain_error}
use Rattle.plain.proofs.lines.reply_line.error_line.Goals as goal

pub reason_line-requires : goal.reason_line-requires
reason_line-requires c = subst (λ (s : List ℕ). escape s ≡ s) (sym c.name.ensures) (plain_error c.args.error)
