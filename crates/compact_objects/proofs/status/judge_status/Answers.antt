use Rattle.std.proofs.Common.{◌≡◌, true, sym, ap, ◌∙◌, rules}
use Rattle.std.specs.Option.{option_copied}
use Rattle.requests.specs.Verdict.{conflicts, has_status}
use Rattle.compact_objects.specs.Drafts.{lent}
use Rattle.compact_objects.specs.declared.draft.CompactDraft.{CompactDraft}
use Rattle.compact_objects.proofs.Judged.{status_judged, weaker}
use Rattle.compact_objects.proofs.status.judge_status.Goals as goal

pub returns-in-Ok : goal.returns-in-Ok
returns-in-Ok c d told =
    let o = c.in-Ok.current.now in
    let agrees = ap (λ (x : CompactDraft). conflicts (lent x.version) (lent x.uid) o) (sym c.draft.view_is) ∙ c.in-Ok.ensures.1 in
    let has : has_status c.args.draft.now.key.kind ≡ true = search rules in
    weaker _ _ c.status_unless_same.result (λ j is. status_judged c.args.draft.now d (option_copied c.args.current) o c.args.number j told c.in-Ok.ensures.0 agrees has is) (c.status_unless_same.ensures d told)
