use Rattle.std.proofs.Common.{◌∙◌, ap, arith, refl, set}
use Rattle.std.specs.Vec.{with_item}
use Rattle.cluster_runs.specs.Cluster.{is_used}
use Rattle.cluster_runs.specs.declared.callers.UsedCallers.{UsedCallers}
use Rattle.cluster_runs.proofs.Calling.{all_used, renewed, unused_lowest, used_below}
use Rattle.cluster_runs.proofs.Lowest.{lowest_is}
use Rattle.cluster_runs.proofs.callers.UsedCallers.renew.Goals as goal

pub returns-in_default-clause-too_many : goal.returns-in_default-clause-too_many
returns-in_default-clause-too_many c = λ failed count k are. all_used count k c.args.self.now are (c.unused_below.ensures.none c.in_default.is)

pub returns-clause-callers : goal.returns-clause-callers
returns-clause-callers c = λ count k are.
    let number = c.args.number in
    let caller = c.in-Some.caller in
    let next : UsedCallers = record { present = with_item c.put.new.self.present number caller; owners = c.put.new.self.owners; unused = caller } in
    let many = are.count_is in
    let low = c.requires in
    renewed count k number caller c.args.self.now next are (omega (arith, many, low))
    (unused_lowest count k c.args.self.now are caller c.in-Some.ensures.fresh) (used_below count k c.args.self.now are caller c.in-Some.ensures.lowest)
    (ap (λ v. set v.items number caller) c.in_ok-put.ensures.present) refl c.in_ok-put.ensures.owners c.in_ok-put.ensures.many c.in_ok-put.ensures.few

pub returns-clause-fresh : goal.returns-clause-fresh
returns-clause-fresh c = λ count k are.
    let fresh = unused_lowest count k c.args.self.now are c.in-Some.caller c.in-Some.ensures.fresh in
    ap (is_used k) (lowest_is k c.in-Some.caller fresh (used_below count k c.args.self.now are c.in-Some.caller c.in-Some.ensures.lowest)) ∙ fresh
