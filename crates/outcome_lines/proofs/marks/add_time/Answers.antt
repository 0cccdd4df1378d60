use Rattle.std.proofs.Common.{◌++◌, ◌∙◌, ap, codes}
use Rattle.std.proofs.lemmas.Result.{on_ok_weaker}
use Rattle.outcome_lines.specs.ObjectWords.{differs, if_told, known_of, lists_in, named}
use Rattle.outcome_lines.proofs.marks.add_time.Goals as goal

pub returns : goal.returns
returns c =
    let k = known_of c.args.known in
    let name = c.args.name.now in
    let old = lists_in c.args.marks.now.items in
    on_ok_weaker c.add_if_told.result
    (λ h. h
    ∙ ap (λ base. old ++ if_told (differs k base (named name c.as_slice-2.result.now)) c.as_slice-2.result.now) (c.as_slice.ensures.value ∙ c.in_ok-marked.ensures ∙ ap (named name) c.as_bytes.ensures.value)
    ∙ ap (λ text. old ++ if_told (differs k (named name (codes "marked")) (named name text)) text) (c.as_slice-2.ensures.value ∙ c.in_ok-time.ensures))
    c.add_if_told.ensures
