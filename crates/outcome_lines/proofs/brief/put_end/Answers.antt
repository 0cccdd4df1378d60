use Rattle.std.proofs.Common.{◌++◌, ◌≡◌, ◌∙◌, ℕ, [], List, ap, not, subst}
use Rattle.std.specs.Prelude.{bytes_eq, ◌||◌, if◌then◌else◌, IfOk, OnOk}
use Rattle.outcome_lines.specs.Brief.{Said, brief_line, is_among}
use Rattle.outcome_lines.specs.Lined.{every_told}
use Rattle.outcome_lines.specs.ObjectWords.{lists_in, number_in, times_in}
use Rattle.race_lines.specs.Questions.{told_lists}
use Rattle.outcome_lines.proofs.Agreeing.{said_same}
use Rattle.outcome_lines.proofs.brief.put_end.Goals as goal

pub returns-clause-new : goal.returns-clause-new
returns-clause-new c =
    let told = c.as_slice-3.ensures.value ∙ c.in_ok-told.ensures ∙ ap (λ ss. every_told ss (told_lists c.as_slice-2.result.now)) c.as_slice.ensures.value
    ∙ ap (λ ts. every_told c.args.asked.now.sent.items (told_lists ts)) c.as_slice-2.ensures.value in
    let same = said_same c.args.question (times_in c.args.counts.now.entries) (number_in c.args.begun.now.entries) _ _ _ _ _ _ c.requires told c.as_slice-4.ensures.value in
    subst (λ (s : Said). IfOk c.put_said-new.result (λ new. new ≡ not (is_among (lists_in c.args.seen.now.keys) s.key))) same c.put_said-new.ensures.new

pub returns-clause-seen : goal.returns-clause-seen
returns-clause-seen c =
    let told = c.as_slice-3.ensures.value ∙ c.in_ok-told.ensures ∙ ap (λ ss. every_told ss (told_lists c.as_slice-2.result.now)) c.as_slice.ensures.value
    ∙ ap (λ ts. every_told c.args.asked.now.sent.items (told_lists ts)) c.as_slice-2.ensures.value in
    let same = said_same c.args.question (times_in c.args.counts.now.entries) (number_in c.args.begun.now.entries) _ _ _ _ _ _ c.requires told c.as_slice-4.ensures.value in
    subst (λ (s : Said). OnOk c.put_said-new.result ((t : List ℕ) → is_among (lists_in c.put_said-new.new.seen.keys) t ≡ (bytes_eq t s.key || is_among (lists_in c.args.seen.now.keys) t))) same c.put_said-new.ensures.seen

pub returns-clause-line : goal.returns-clause-line
returns-clause-line c =
    let told = c.as_slice-3.ensures.value ∙ c.in_ok-told.ensures ∙ ap (λ ss. every_told ss (told_lists c.as_slice-2.result.now)) c.as_slice.ensures.value
    ∙ ap (λ ts. every_told c.args.asked.now.sent.items (told_lists ts)) c.as_slice-2.ensures.value in
    let same = said_same c.args.question (times_in c.args.counts.now.entries) (number_in c.args.begun.now.entries) _ _ _ _ _ _ c.requires told c.as_slice-4.ensures.value in
    subst (λ (s : Said). IfOk c.put_said-new.result (λ new. c.put_said-new.new.out.items ≡ c.args.out.now.items ++ (if new then brief_line c.args.number s.words else []))) same c.put_said-new.ensures.line
