use Rattle.std.proofs.Common.{sym, ap, ◌∙◌}
use Rattle.std.specs.Ordering.{nat_cmp}
use Rattle.std.specs.Cmp.Lexicographic.{slice_cmp}
use Rattle.std.proofs.lemmas.List.{nil_from_length}
use Rattle.manifests.proofs.Merging.{first_is_both, first_is_new, first_is_old, first_on_none}
use Rattle.manifests.proofs.members.first_of.Goals as goal

pub returns-in_default-split_first-clause-first : goal.returns-in_default-split_first-clause-first
returns-in_default-split_first-clause-first c =
    first_on_none c.args.over.now c.args.under.now c.in-Some.later.now c.in-Some.new.now c.in-Some.ensures.cases.0 c.requires (nil_from_length c.args.under.now c.in_default-split_first.ensures.cases)

pub returns-in-Less-clause-first : goal.returns-in-Less-clause-first
returns-in-Less-clause-first c =
    let compared = sym (c.cmp.ensures ∙ (ap (λ s. slice_cmp nat_cmp s c.as_str-2.result.now) c.as_str.ensures ∙ ap (slice_cmp nat_cmp c.in-Some-split_first.old.now.0) c.as_str-2.ensures)) ∙ c.in-Less.is in
    first_is_old c.args.over.now c.args.under.now c.in-Some.later.now c.in-Some.new.now c.in-Some.ensures.cases.0 c.requires c.in-Some-split_first.below.now c.in-Some-split_first.old.now
    c.in-Some-split_first.ensures.cases.0 compared

pub returns-in-Equal-clause-first : goal.returns-in-Equal-clause-first
returns-in-Equal-clause-first c =
    let compared = sym (c.cmp.ensures ∙ (ap (λ s. slice_cmp nat_cmp s c.as_str-2.result.now) c.as_str.ensures ∙ ap (slice_cmp nat_cmp c.in-Some-split_first.old.now.0) c.as_str-2.ensures)) ∙ c.in-Equal.is in
    first_is_both c.args.over.now c.args.under.now c.in-Some.later.now c.in-Some.new.now c.in-Some.ensures.cases.0 c.requires c.in-Some-split_first.below.now c.in-Some-split_first.old.now
    c.in-Some-split_first.ensures.cases.0 compared

pub returns-in-Greater-clause-first : goal.returns-in-Greater-clause-first
returns-in-Greater-clause-first c =
    let compared = sym (c.cmp.ensures ∙ (ap (λ s. slice_cmp nat_cmp s c.as_str-2.result.now) c.as_str.ensures ∙ ap (slice_cmp nat_cmp c.in-Some-split_first.old.now.0) c.as_str-2.ensures)) ∙ c.in-Greater.is in
    first_is_new c.args.over.now c.args.under.now c.in-Some.later.now c.in-Some.new.now c.in-Some.ensures.cases.0 c.requires c.in-Some-split_first.below.now c.in-Some-split_first.old.now
    c.in-Some-split_first.ensures.cases.0 compared
