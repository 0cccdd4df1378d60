use Rattle.std.proofs.Common.{rules}
use Rattle.std.proofs.lemmas.List.Sorted.{IsPermutation-map, answers_always}
use Rattle.revisions.specs.declared.view.RevisionView.{RevisionView}
use Rattle.revisions.proofs.Orders.{objects_in_order, rank_of}
use Rattle.revisions.proofs.listed.sort_revisions.Goals as goal

pub returns-clause-same : goal.returns-clause-same
returns-clause-same c = IsPermutation-map (λ (r : RevisionView). r.object.now) _ _ c.sort_unstable_by_key.ensures.permutation

pub returns-clause-ordered : goal.returns-clause-ordered
returns-clause-ordered c = objects_in_order _ (c.sort_unstable_by_key.ensures.sorted rank_of (answers_always _ _ _ (λ f a r g called. search rules)))
