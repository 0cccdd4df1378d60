-- Runs of the plain store: one goes on from what its first part leaves, and a step is one more request of it.
use Rattle.std.proofs.Common.{◌≡◌, ◌++◌, List, [], ◌∷◌, refl, sym, ap, subst, ◌∙◌}
use Rattle.requests.specs.declared.request.Request.{Request}
use Rattle.plain_store.specs.Store.{Store, opening, step}
use Rattle.plain_store.specs.Run.{after, replies}
use Rattle.plain_store.specs.Reached.{IsReached}

pub replies-append : (s : Store) (rs more : List Request) → replies s (rs ++ more) ≡ replies s rs ++ replies (after s rs) more
replies-append s [] more = refl
replies-append s (r ∷ rs) more = ap (λ t. (step s r).1 ∷ t) (replies-append (step s r).0 rs more)

after_one_more : (s : Store) (rs : List Request) (r : Request) → after s (rs ++ r ∷ []) ≡ (step (after s rs) r).0
after_one_more s [] r = refl
after_one_more s (q ∷ rs) r = after_one_more (step s q).0 rs r

pub reached_by_a_step : (s : Store) (r : Request) → IsReached s → IsReached (step s r).0
reached_by_a_step s r is = record {
  capacity = is.capacity;
  least = is.least;
  most = is.most;
  requests = is.requests ++ r ∷ [];
  left = ap (λ t. (step t r).0) is.left ∙ sym (after_one_more (opening is.capacity) is.requests r);
}

pub still_reached : (s t : Store) → t ≡ s → IsReached s → IsReached t
still_reached s t same is = subst IsReached (sym same) is
