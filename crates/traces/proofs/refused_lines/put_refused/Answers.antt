use Rattle.std.proofs.Common.{◌++◌, ◌∙◌, ap, append_assoc, codes, string_bytes}
use Rattle.std.proofs.lemmas.Result.{on_ok_weaker}
use Rattle.plan_lines.specs.Refusals.{plan_error_name}
use Rattle.traces.specs.RefusedLines.{pod_words}
use Rattle.traces.proofs.refused_lines.put_refused.Goals as goal

pub returns : goal.returns
returns c =
    let e = c.args.reason.now in
    let begin = codes "plan refused: " ++ plan_error_name e in
    on_ok_weaker c.put_pod.result (λ last.
    last ∙ ap (λ t. t ++ pod_words e) (c.in_ok-write.ensures.bytes ∙ ap (λ n. string_bytes c.args.out.now ++ (codes "plan refused: " ++ n)) c.plan_error_name-name.ensures)
    ∙ append_assoc (string_bytes c.args.out.now) begin (pod_words e)) c.put_pod.ensures
