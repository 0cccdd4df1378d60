use Rattle.std.proofs.Common.{refl, arith}
use Rattle.compact.proofs.Values.{line_is}
use Rattle.compact.proofs.scanner.Scanner.scan.Goals as goal

pub returns-in-Some : goal.returns-in-Some
returns-in-Some c h = line_is _ c.args.line.now c.put_in_order.new.text c.args.self.now.tables c.put_in_order.new.scanner.tables c.in-Some.size _ (omega arith) c.in-Some.ensures.ordered (omega arith) refl h
