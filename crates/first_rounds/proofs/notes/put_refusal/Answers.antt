use Rattle.std.proofs.Common.{◌++◌, ◌∙◌, ap, append_assoc, codes, string_bytes}
use Rattle.std.proofs.lemmas.Result.{on_ok_weaker}
use Rattle.plan_lines.specs.Refusals.{plan_error_name}
use Rattle.first_rounds.specs.Notes.{pod_words}
use Rattle.first_rounds.proofs.notes.put_refusal.Goals as goal

pub returns : goal.returns
returns c =
    let e = c.args.error.now in
    let begin = codes " has no plan when the race begins: " ++ plan_error_name e in
    on_ok_weaker c.put_pod.result (λ last.
    last ∙ ap (λ t. t ++ pod_words e) (c.in_ok-write.ensures.bytes ∙ ap (λ n. string_bytes c.args.out.now ++ (codes " has no plan when the race begins: " ++ n)) c.plan_error_name-name.ensures)
    ∙ append_assoc (string_bytes c.args.out.now) begin (pod_words e)) c.put_pod.ensures
