use Rattle.std.proofs.Common.{◌≡◌, true, sym, ap, ◌∙◌, rules}
use Rattle.std.specs.Option.{option_copied}
use Rattle.objects.specs.declared.object.Object.{Object}
use Rattle.requests.specs.Verdict.{conflicts, has_status}
use Rattle.compact_objects.specs.Drafts.{lent}
use Rattle.compact_objects.specs.Writes.{IsUpdateOf}
use Rattle.compact_objects.specs.declared.draft.CompactDraft.{CompactDraft}
use Rattle.compact_objects.proofs.Judged.{told_by, update_written}
use Rattle.compact_objects.proofs.replacement.judge_update.Goals as goal

pub returns-in-Some : goal.returns-in-Some
returns-in-Some c d told =
    let o = c.in-Ok.current.now in
    let there = c.in-Ok.ensures.0 in
    let agrees = ap (λ (x : CompactDraft). conflicts (lent x.version) (lent x.uid) o) (sym c.draft.view_is) ∙ c.in-Ok.ensures.1 in
    let key = told_by (λ (p : Object). p.key ≡ c.args.draft.now.key) (option_copied c.args.current) o there c.requires.key in
    let has : has_status c.args.draft.now.key.kind ≡ true = search rules in
    update_written c.args.draft.now d (option_copied c.args.current) o c.args.number c.in-Some.text told there agrees key has
    (told_by (IsUpdateOf o d c.args.number) c.in_ok-text-in-Ok.field-0 c.in-Some.text c.in-Some.is (c.in_ok-text-in-Ok.ensures d told))
