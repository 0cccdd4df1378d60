use Rattle.std.proofs.Common.{ap, bytes_eq, ◌∙◌}
use Rattle.objects.proofs.splice.ends_so.Goals as goal

pub returns : goal.returns
returns c = (c.if-indexed-eq0.false, λ parts. c.eq.ensures ∙ ap (λ s. bytes_eq s c.args.end.now) (c.status_end.ensures c.if-indexed-eq0.false parts))
