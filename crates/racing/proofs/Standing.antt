-- One more request and its reply.
use Rattle.std.proofs.Common.{◌≡◌, ℕ, ◌+◌, ◌≤◌, List, [], ◌∷◌, ◌++◌, length, Some, None, refl, sym, ap, ◌∙◌, subst, arith}
use Rattle.requests.specs.declared.request.Request.{Request}
use Rattle.requests.specs.declared.reply.Reply.{Reply}
use Rattle.rounds.specs.Incarnation.{Follows, phase_after}
use Rattle.rounds.specs.Phase.{Phase, asks, reading_set, takes}
use Rattle.rounds.specs.Reconciler.{Reconciler}
use Rattle.rounds.specs.Transcript.{Exchange}
use Rattle.race_log.specs.declared.part.TimedExchange.{TimedExchange}
use Rattle.store.specs.Callers.{Caller}
use Rattle.racing.specs.Answered.{HasReply, Learns}
use Rattle.racing.specs.Parts.{AreGiven, HasAsked, IsStanding, IsTurning, Turns, begins, begun_at, exchanges_of, last_reply, left_after, left_by, rounds_in, turns_in, turns_to}
use Rattle.racing.proofs.Giving.{answered_later, within}

exchanges_more : (xs : List TimedExchange) (a : TimedExchange) → exchanges_of (xs ++ a ∷ []) ≡ exchanges_of xs ++ (a.request, a.reply) ∷ []
exchanges_more [] a = refl
exchanges_more (x ∷ xs) a = ap (λ es. (x.request, x.reply) ∷ es) (exchanges_more xs a)

given_later : (shards capacity : ℕ) (k l : Caller) (n : ℕ) (xs : List TimedExchange) → Learns k l → AreGiven shards capacity k n xs → AreGiven shards capacity l n xs
given_later shards capacity k l n [] learns all = tt
given_later shards capacity k l n (x ∷ xs) learns all =
    (all.0, answered_later shards capacity k l x.request x.reply x.number learns all.1, given_later shards capacity k l x.number xs learns all.2)

pub given_more : (shards capacity : ℕ) (k l : Caller) (n : ℕ) (xs : List TimedExchange) (a : TimedExchange) → AreGiven shards capacity k n xs → n ≤ length k.seen
    → HasReply shards capacity k l a.request a.reply a.number → AreGiven shards capacity l n (xs ++ a ∷ [])
given_more shards capacity k l n [] a all inside one = ((let later = one.later in omega arith), one.answered, tt)
given_more shards capacity k l n (x ∷ xs) a all inside one = (
  all.0,
  answered_later shards capacity k l x.request x.reply x.number one.learns all.1,
  given_more shards capacity k l x.number xs a all.2 (within x.number k.seen (all.1).long) one,
)

last_more : (xs : List TimedExchange) (a : TimedExchange) → last_reply (xs ++ a ∷ []) ≡ Some a.reply
last_more [] a = refl
last_more (x ∷ []) a = refl
last_more (x ∷ y ∷ xs) a = last_more (y ∷ xs) a

rounds_more : (es : List Exchange) (e : Exchange) → rounds_in (es ++ e ∷ []) ≡ rounds_in es + begins e.0
rounds_more [] e = omega arith
rounds_more (x ∷ es) e = let h = rounds_more es e in omega arith

follows_more : (c : Reconciler) (phase : Phase) (own : List Exchange) (a : Exchange) → Follows c phase own → a.0 ≡ asks c (phase_after c phase own) → Follows c phase (own ++ a ∷ [])
follows_more c phase [] a follows is = (is, tt)
follows_more c phase (e ∷ own) a follows is = (follows.0, follows_more c (takes c phase e.1) own a follows.1 is)

phase_more : (c : Reconciler) (phase : Phase) (own : List Exchange) (a : Exchange) → phase_after c phase (own ++ a ∷ []) ≡ takes c (phase_after c phase own) a.1
phase_more c phase [] a = refl
phase_more c phase (e ∷ own) a = phase_more c (takes c phase e.1) own a

turns_more : (left : List Request) (own : List Exchange) (a : Exchange) → Turns left own → a.0 ≡ turns_to (left_after left own) → Turns left (own ++ a ∷ [])
turns_more left [] a turns is = (is, tt)
turns_more left (e ∷ own) a turns is = (turns.0, turns_more (left_by left e.1) own a turns.1 is)

left_more : (left : List Request) (own : List Exchange) (a : Exchange) → left_after left (own ++ a ∷ []) ≡ left_by (left_after left own) a.1
left_more left [] a = refl
left_more left (e ∷ own) a = left_more (left_by left e.1) own a

begun_more : (left : List Request) (own : List Exchange) (a : Exchange) → turns_in left (own ++ a ∷ []) ≡ turns_in left own + begun_at (left_after left own)
begun_more left [] a = omega arith
begun_more left (e ∷ own) a = let h = begun_more (left_by left e.1) own a in omega arith

some_is : {A : Type 0} (x y : A) → Some x ≡ Some y → x ≡ y
some_is x y e = cc

-- a part that grew has a last reply
pub replied : (shards capacity : ℕ) (k l : Caller) (r : Request) (xs ys : List TimedExchange) → HasAsked shards capacity k l r xs ys → last_reply ys ≡ None → ⊥
replied shards capacity k l r xs ys asked none =
    let both : Some (asked.asked).reply ≡ None = sym (last_more xs asked.asked) ∙ ap last_reply (sym asked.longer) ∙ none in
    absurd cc

module _ (shards capacity : ℕ) where
  -- ---- a controller

  stands_with : (k l : Caller) (c : Reconciler) (n : ℕ) (phase : Phase) (xs : List TimedExchange) (a : TimedExchange) → IsStanding shards capacity k c n phase xs
      → a.request ≡ asks c phase → HasReply shards capacity k l a.request a.reply a.number
      → IsStanding shards capacity l c (n + begins a.request) (takes c phase a.reply) (xs ++ a ∷ [])
  stands_with k l c n phase xs a stands is reply = record {
    given = given_more shards capacity k l 0 xs a stands.given (omega arith) reply;
    follows = subst (Follows c reading_set) (sym (exchanges_more xs a))
        (follows_more c reading_set (exchanges_of xs) (a.request, a.reply) stands.follows (is ∙ ap (asks c) (sym stands.phase_is)));
    many = ap rounds_in (exchanges_more xs a) ∙ rounds_more (exchanges_of xs) (a.request, a.reply) ∙ ap (λ k. k + begins a.request) stands.many;
    phase_is = ap (phase_after c reading_set) (exchanges_more xs a) ∙ phase_more c reading_set (exchanges_of xs) (a.request, a.reply)
        ∙ ap (λ p. takes c p a.reply) stands.phase_is;
  }

  pub stands_more : (k l : Caller) (c : Reconciler) (n : ℕ) (phase : Phase) (r : Request) (xs ys : List TimedExchange) (reply : Reply)
      → IsStanding shards capacity k c n phase xs → r ≡ asks c phase → HasAsked shards capacity k l r xs ys → last_reply ys ≡ Some reply
      → IsStanding shards capacity l c (n + begins r) (takes c phase reply) ys
  stands_more k l c n phase r xs ys reply stands is asked last =
      let a = asked.asked in
      let said : a.reply ≡ reply = some_is a.reply reply (sym (last_more xs a) ∙ ap last_reply (sym asked.longer) ∙ last) in
      let now : IsStanding shards capacity l c (n + begins a.request) (takes c phase a.reply) (xs ++ a ∷ []) =
      stands_with k l c n phase xs a stands (asked.request_is ∙ is) asked.replied in
      subst (λ q. IsStanding shards capacity l c (n + begins q) (takes c phase reply) ys) asked.request_is
      (subst (λ t. IsStanding shards capacity l c (n + begins a.request) (takes c phase t) ys) said
      (subst (λ zs. IsStanding shards capacity l c (n + begins a.request) (takes c phase a.reply) zs) (sym asked.longer) now))

  pub stands_first : (k : Caller) (c : Reconciler) → IsStanding shards capacity k c 0 reading_set []
  stands_first k c = record { given = tt; follows = tt; many = refl; phase_is = refl }

  pub stands_later : (k l : Caller) (c : Reconciler) (n : ℕ) (phase : Phase) (xs : List TimedExchange) → IsStanding shards capacity k c n phase xs → Learns k l
      → IsStanding shards capacity l c n phase xs
  stands_later k l c n phase xs stands learns = record {
    given = given_later shards capacity k l 0 xs learns stands.given;
    follows = stands.follows;
    many = stands.many;
    phase_is = stands.phase_is;
  }

  -- ---- the kubelet

  turning_with : (k l : Caller) (turns : ℕ) (left : List Request) (xs : List TimedExchange) (a : TimedExchange) → IsTurning shards capacity k turns left xs
      → a.request ≡ turns_to left → HasReply shards capacity k l a.request a.reply a.number
      → IsTurning shards capacity l (turns + begun_at left) (left_by left a.reply) (xs ++ a ∷ [])
  turning_with k l turns left xs a turning is reply = record {
    given = given_more shards capacity k l 0 xs a turning.given (omega arith) reply;
    follows = subst (Turns []) (sym (exchanges_more xs a))
        (turns_more [] (exchanges_of xs) (a.request, a.reply) turning.follows (is ∙ ap turns_to (sym turning.left_is)));
    many = ap (turns_in []) (exchanges_more xs a) ∙ begun_more [] (exchanges_of xs) (a.request, a.reply)
        ∙ ap (λ l. turns_in [] (exchanges_of xs) + begun_at l) turning.left_is ∙ ap (λ n. n + begun_at left) turning.many;
    left_is = ap (left_after []) (exchanges_more xs a) ∙ left_more [] (exchanges_of xs) (a.request, a.reply)
        ∙ ap (λ l. left_by l a.reply) turning.left_is;
  }

  -- a list begins one more turn
  pub turning_more : (k l : Caller) (turns : ℕ) (r : Request) (xs ys : List TimedExchange) (reply : Reply) → IsTurning shards capacity k turns [] xs
      → r ≡ turns_to [] → HasAsked shards capacity k l r xs ys → last_reply ys ≡ Some reply → IsTurning shards capacity l (turns + 1) (left_by [] reply) ys
  turning_more k l turns r xs ys reply turning is asked last =
      let a = asked.asked in
      let said : a.reply ≡ reply = some_is a.reply reply (sym (last_more xs a) ∙ ap last_reply (sym asked.longer) ∙ last) in
      subst (λ t. IsTurning shards capacity l (turns + 1) (left_by [] t) ys) said
      (subst (λ zs. IsTurning shards capacity l (turns + 1) (left_by [] a.reply) zs) (sym asked.longer)
      (turning_with k l turns [] xs a turning (asked.request_is ∙ is) asked.replied))

  pub turning_next : (k l : Caller) (turns : ℕ) (left : List Request) (r : Request) (xs ys : List TimedExchange) → IsTurning shards capacity k turns (r ∷ left) xs
      → HasAsked shards capacity k l r xs ys → IsTurning shards capacity l turns left ys
  turning_next k l turns left r xs ys was asked =
      let e : turns + 0 ≡ turns = omega arith in
      subst (λ n. IsTurning shards capacity l n left ys) e
      (subst (λ zs. IsTurning shards capacity l (turns + 0) left zs) (sym asked.longer)
      (turning_with k l turns (r ∷ left) xs asked.asked was asked.request_is asked.replied))

  pub turning_later : (k l : Caller) (turns : ℕ) (left : List Request) (xs : List TimedExchange) → IsTurning shards capacity k turns left xs → Learns k l
      → IsTurning shards capacity l turns left xs
  turning_later k l turns left xs turning learns = record {
    given = given_later shards capacity k l 0 xs learns turning.given;
    follows = turning.follows;
    many = turning.many;
    left_is = turning.left_is;
  }
