use Rattle.resting.proofs.ClaimsKept.{wanted_where_pods_stand}
use Rattle.resting.proofs.laws.plans_give_claims_their_owners.Goals as goal

pub returns : goal.returns
returns c = λ set digits moment s plan some may read stands i template claim within at here members. wanted_where_pods_stand set digits moment s plan some may read.there read.read stands i within template at claim here members
