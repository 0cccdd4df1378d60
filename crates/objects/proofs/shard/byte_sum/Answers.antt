use Rattle.std.proofs.Common.{rules, ◌≡◌, ◌≤◌, ◌*◌, length, arith}
use Rattle.std.specs.List.{sum}
use Rattle.std.proofs.lemmas.List.Sums.{sum_by-le}
use Rattle.objects.proofs.shard.byte_sum.Goals as goal

pub returns-clause-small : goal.returns-clause-small
returns-clause-small c =
    let value : c.sum.result ≡ sum c.args.text.now = search rules in
    let most : sum c.args.text.now ≤ length c.args.text.now * 255 = sum_by-le (λ byte. byte) 255 c.args.text.now (λ k d inside. search (rules, c.type_inv.text k)) in
    omega arith
