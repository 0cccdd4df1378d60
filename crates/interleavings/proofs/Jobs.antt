-- The order as the proofs walk it: the requests themselves, the last one first.
use Rattle.std.specs.Prelude.{◌≡◌, ◌≢◌, ℕ, ◌<◌, ◌⊎◌, List, [], ◌∷◌, ◌++◌}
use Rattle.requests.specs.declared.request.Request.{Request}
use Rattle.requests.specs.declared.reply.Reply.{Reply}
use Rattle.interleavings.specs.declared.trace.Item.{Item}
use Rattle.plain_store.specs.Store.{Store, opening, step}
use Rattle.interleavings.specs.World.{Size}
use Rattle.interleavings.specs.Linearization.{Answers, Has}

-- a request, named by the place of its call
pub record Job : Type 0 where
  pub place : ℕ
  pub request : Request

-- the places, first to last
abbrev pub places : List Job → List ℕ
places [] = []
places (j ∷ js) = places js ++ j.place ∷ []

-- the plain store after these requests
abbrev pub state_after : Size → List Job → Store
state_after z [] = opening z.capacity
state_after z (j ∷ js) = (step (state_after z js) j.request).0

-- the plain store gives this reply to the request that was called at this place
abbrev pub Tells : Size → List Job → ℕ → Reply → Type 0
Tells z [] p r = ⊥
Tells z (j ∷ js) p r = ((j.place ≡ p) × ((step (state_after z js) j.request).1 ≡ r)) ⊎ Tells z js p r

abbrev pub Once : List Job → Type 0
Once [] = Unit {0}
Once (j ∷ js) = ((d : Job) → Has d js → d.place ≢ j.place) × Once js

-- no request is after one that was called after its reply
abbrev pub InTime : List Item → List Job → Type 0
InTime trace [] = Unit {0}
InTime trace (j ∷ js) = ((d : Job) → Has d js → (at : ℕ) (r : Reply) → Answers trace at j.place r → d.place < at) × InTime trace js
