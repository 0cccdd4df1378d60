-- The plan or the collection that a request of an incarnation comes from, and the replies that it was made of.
use Rattle.std.specs.Prelude.{◌≡◌, ℕ, min, List, [], ◌∷◌, ◌++◌}
use Rattle.objects.specs.declared.kind.Kind.TheVariants.{StatefulSet, Pod, PersistentVolumeClaim, ControllerRevision}
use Rattle.objects.specs.declared.object.Object.{Object}
use Rattle.requests.specs.declared.request.Request.{Request}
use Rattle.requests.specs.declared.request.Request.TheVariants.{Get}
use Rattle.requests.specs.declared.reply.Reply.TheVariants.{Found, Listed}
use Rattle.rounds.specs.Phase.{list_of}
use Rattle.rounds.specs.Reconciler.{Reconciler}
use Rattle.rounds.specs.Transcript.{Exchange}

abbrev pub asked : List Exchange → List Request
asked [] = []
asked (e ∷ es) = e.0 ∷ asked es

-- The request is the next one of a plan. The last replies to the incarnation were the set and the three lists that the
-- plan is over, and then those to the requests of the plan that come before this one.
pub record IsPlanned (c : Reconciler) (incarnation : List Exchange) (r : Request) : Type 0 where
  pub before : List Exchange
  pub set : Object
  pub revisions : List Object
  pub revisions_at : ℕ
  pub pods : List Object
  pub pods_at : ℕ
  pub claims : List Object
  pub claims_at : ℕ
  pub done : List Exchange
  pub later : List Request
  pub answered : incarnation ≡ before ++ ((Get c.set, Found set)
      ∷ (list_of c ControllerRevision, Listed revisions revisions_at)
      ∷ (list_of c Pod, Listed pods pods_at)
      ∷ (list_of c PersistentVolumeClaim, Listed claims claims_at)
      ∷ done)
  pub planned : asked done ++ r ∷ later ≡ c.plan set revisions pods claims

-- The request is the next one of a collection. The last replies to the incarnation were the claims, and the lists of
-- all that may own one, and then those to the requests of the collection that come before this one.
pub record IsCollected (c : Reconciler) (incarnation : List Exchange) (r : Request) : Type 0 where
  pub before : List Exchange
  pub claims : List Object
  pub claims_at : ℕ
  pub sets : List Object
  pub sets_at : ℕ
  pub pods : List Object
  pub pods_at : ℕ
  pub revisions : List Object
  pub revisions_at : ℕ
  pub others : List Object
  pub others_at : ℕ
  pub done : List Exchange
  pub later : List Request
  pub answered : incarnation ≡ before ++ ((list_of c PersistentVolumeClaim, Listed claims claims_at)
      ∷ (list_of c StatefulSet, Listed sets sets_at)
      ∷ (list_of c Pod, Listed pods pods_at)
      ∷ (list_of c ControllerRevision, Listed revisions revisions_at)
      ∷ (list_of c PersistentVolumeClaim, Listed others others_at)
      ∷ done)
  pub collected : asked done ++ r ∷ later ≡ c.collect claims (sets ∷ pods ∷ revisions ∷ others ∷ []) (min (min (min sets_at pods_at) revisions_at) others_at)
