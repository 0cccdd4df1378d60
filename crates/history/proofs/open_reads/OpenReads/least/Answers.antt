use Rattle.std.proofs.Common.{arith}
use Rattle.history.proofs.OpenRead.{first_least}
use Rattle.history.proofs.open_reads.OpenReads.least.Goals as goal

pub returns-in-Some : goal.returns-in-Some
returns-in-Some c =
    let read = c.in-Some.read.now in
    record {
      low = (let lt = c.if-read-floor.true in omega arith);
      reads = λ n d e. first_least read.0 read.1 n d (c.in-Some.ensures.least (n, d) e);
      greatest = λ k le all. all read.0 read.1 c.in-Some.ensures.member;
    }

pub returns-in_default : goal.returns-in_default
returns-in_default c =
    let read = c.in-Some.read.now in
    record {
      low = omega arith;
      reads = λ n d e. let from = c.if-read-floor.false in let le = first_least read.0 read.1 n d (c.in-Some.ensures.least (n, d) e) in omega arith;
      greatest = λ k le all. le;
    }
