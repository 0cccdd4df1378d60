use Rattle.std.proofs.Common.{false, arith}
use Rattle.std.proofs.lemmas.List.FromFn.{get_or-map-range_with_len}
use Rattle.objects.specs.Names.{is_subdomain_byte}
use Rattle.objects.proofs.names.is_subdomain_byte.Goals as goal

pub returns-then-byte-lt128 : goal.returns-then-byte-lt128
returns-then-byte-lt128 c = get_or-map-range_with_len is_subdomain_byte 0 128 c.args.byte c.args.byte false c.if-byte-lt128.true (omega arith)
