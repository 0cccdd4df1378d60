use denote.Param.Send.{sendable}
use Rattle.std.proofs.Common.{◌≡◌, ◌∷◌, rules, sym, ◌∙◌, subst}
use Rattle.std.specs.List.{All}
use Rattle.std.specs.Vec.Iter.{into_iter_items}
use Rattle.std.proofs.Crossing.{crosses}
use Rattle.std.proofs.lemmas.List.Elements.{All-tail}
use Rattle.racing.specs.Children.{Promises, promised_number}
use Rattle.racing.specs.Jobs.{IsJob, number_of}
use Rattle.racing.proofs.Joined.{same_number, same_spec}
use Rattle.racing.proofs.Rows.{all_more, moved_on}
use Rattle.racing.proofs.Sent.{Part-send}
use Rattle.racing.proofs.threads.spawn_all.Goals as goal

pub spawn_with-spawned-requires-send-T : goal.spawn_with-spawned-requires-send-T
spawn_with-spawned-requires-send-T g c κs within = search (Part-send, sendable, crosses) depth 40

-- a thread more, and a job less
pub loop-job-preserved : goal.loop-job-preserved
loop-job-preserved g c =
    let spec = c.args.course.now.spec in
    let was = c.loop-job.invariant in
    let job = c.in-Some.job in
    let rest = into_iter_items c.next.new.self in
    let child = c.in-Ok.child in
    let children = c.loop-job.children.items in
    let steps : into_iter_items c.loop-job.job-iterator ≡ job ∷ rest = search rules in
    let items = c.in_ok-push.ensures.items in
    record {
      jobs = All-tail (IsJob spec) job rest (subst (All (IsJob spec)) steps was.jobs);
      spec = subst (All (Promises spec)) (sym items) (all_more (Promises spec) children child was.spec (same_spec child.promise _ c.in-Ok.ensures.ok));
      numbers = moved_on promised_number number_of _ _ _ _ _ _ _ items steps (same_number child.promise _ c.in-Ok.ensures.ok ∙ c.number.ensures) was.numbers;
    }
