use Rattle.std.proofs.Common.{sym, subst}
use Rattle.std.specs.Str.{IsUtf8}
use Rattle.objects.proofs.Numerals.{IsUtf8-uid}
use Rattle.objects.proofs.print.held_uid.Goals as goal

pub unreachable-requires : goal.unreachable-requires
unreachable-requires c = absurd (c.in-Err.ensures.cases.0 (subst IsUtf8 (sym c.requires) (IsUtf8-uid c.args.number)))
