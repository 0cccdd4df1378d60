use Rattle.std.proofs.Common.{Some, sym, ap, ◌∙◌, codes}
use Rattle.objects.specs.declared.object.Object.{Object}
use Rattle.objects.specs.Status.{member_of}
use Rattle.objects.proofs.BodyMembers.{member_of-with_other}
use Rattle.claims.proofs.OwnerLaws.{strangers_stay, update_is}
use Rattle.claims.proofs.laws.only_owners_of_the_set_and_its_pod_change.Goals as goal

pub returns-clause-key : goal.returns-clause-key
returns-clause-key c = λ set pod owner claim changed h. ap (λ (o : Object). o.key) (sym (update_is set pod owner claim changed h))

pub returns-clause-meta : goal.returns-clause-meta
returns-clause-meta c = λ set pod owner claim changed h. ap (λ (o : Object). o.meta) (sym (update_is set pod owner claim changed h))

pub returns-clause-others : goal.returns-clause-others
returns-clause-others c = λ set pod owner claim changed name h differs.
    ap (λ (o : Object). member_of name o.body) (sym (update_is set pod owner claim changed h)) ∙ member_of-with_other name (codes "metadata") (Some _) claim.body differs

pub returns-clause-strangers : goal.returns-clause-strangers
returns-clause-strangers c = strangers_stay
