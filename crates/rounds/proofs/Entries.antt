-- Where an entry of a transcript is, what was before it, and what the store had then.
use Rattle.std.proofs.Common.{◌≡◌, ◌==◌, inl, inr, ℕ, Bool, true, false, cond, List, [], ◌∷◌, ◌++◌, Option, Some, refl, ap, arith}
use Rattle.std.specs.Prelude.{⊤}
use Rattle.std.proofs.lemmas.Bool.Decides.{nat_tests}
use Rattle.requests.specs.declared.request.Request.{Request}
use Rattle.requests.specs.declared.reply.Reply.{Reply}
use Rattle.plain_store.specs.Store.{Store, step}
use Rattle.plain_store.specs.Run.{after, exchanges}
use Rattle.requests.specs.Lists.{Has}
use Rattle.rounds.specs.Incarnation.{Follows, phase_after}
use Rattle.rounds.specs.Phase.{Phase, asks, takes}
use Rattle.rounds.specs.Reconciler.{Reconciler}
use Rattle.rounds.specs.Transcript.{Entry, Exchange, Incarnation, exchanges_of, is_by, of_incarnation, requests_of}
use Rattle.rounds.proofs.Lists.{same_first, same_rest}

pub after-append : (s : Store) (rs more : List Request) → after s (rs ++ more) ≡ after (after s rs) more
after-append s [] more = refl
after-append s (r ∷ rs) more = after-append (step s r).0 rs more

-- ---- a run, entry by entry

abbrev pub IsStepwise : Store → List Entry → Type 0
IsStepwise s [] = ⊤
IsStepwise s (e ∷ es) = (e.2 ≡ (step s e.1).1) × IsStepwise (step s e.1).0 es

pub stepwise : (s : Store) (es : List Entry) → exchanges_of es ≡ exchanges s (requests_of es) → IsStepwise s es
stepwise s [] is = tt
stepwise s (e ∷ es) is = (
  ap (λ (x : Exchange). x.1) (same_first (e.1, e.2) (e.1, (step s e.1).1) (exchanges_of es) (exchanges (step s e.1).0 (requests_of es)) is),
  stepwise (step s e.1).0 es (same_rest (e.1, e.2) (e.1, (step s e.1).1) (exchanges_of es) (exchanges (step s e.1).0 (requests_of es)) is),
)

pub stepwise_before : (s : Store) (es fs : List Entry) → IsStepwise s (es ++ fs) → IsStepwise s es
stepwise_before s [] fs run = tt
stepwise_before s (e ∷ es) fs run = (run.0, stepwise_before (step s e.1).0 es fs run.1)

pub stepwise_at : (s : Store) (es fs : List Entry) → IsStepwise s (es ++ fs) → IsStepwise (after s (requests_of es)) fs
stepwise_at s [] fs run = run
stepwise_at s (e ∷ es) fs run = stepwise_at (step s e.1).0 es fs run.1

-- ---- one incarnation

itself : (n : ℕ) → (n == n) ≡ true
itself n = grind (arith, nat_tests)

pub own_incarnation : (incarnation : Incarnation) → is_by incarnation (Some incarnation) ≡ true
own_incarnation incarnation = rw (itself incarnation.controller, itself incarnation.crashes) refl

abbrev Asks : Reconciler → Phase → Request → List Exchange → Type 0
Asks c phase r own = Follows c phase own × (r ≡ asks c (phase_after c phase own))

split_by : (c : Reconciler) (phase : Phase) (r : Request) (b : Bool) (e : Exchange) (own all : List Exchange)
    → ((p : Phase) → Follows c p all → Asks c p r own) → Follows c phase (cond b (e ∷ all) all) → Asks c phase r (cond b (e ∷ own) own)
split_by c phase r true e own all later follows = let x = later (takes c phase e.1) follows.1 in ((follows.0, x.0), x.1)
split_by c phase r false e own all later follows = later phase follows

asked_first : (c : Reconciler) (phase : Phase) (r : Request) (reply : Reply) (b : Bool) (all : List Exchange) → b ≡ true
    → Follows c phase (cond b ((r, reply) ∷ all) all) → r ≡ asks c phase
asked_first c phase r reply true all is follows = follows.0
asked_first c phase r reply false all is follows = cc

-- the request of an incarnation at an entry is the one due after those before it
pub asks_at : (c : Reconciler) (phase : Phase) (incarnation : Incarnation) (es : List Entry) (r : Request) (reply : Reply) (fs : List Entry)
    → Follows c phase (of_incarnation incarnation (es ++ (Some incarnation, r, reply) ∷ fs)) → Asks c phase r (of_incarnation incarnation es)
asks_at c phase incarnation [] r reply fs follows = (tt, asked_first c phase r reply (is_by incarnation (Some incarnation)) (of_incarnation incarnation fs) (own_incarnation incarnation) follows)
asks_at c phase incarnation (e ∷ es) r reply fs follows =
    split_by c phase r (is_by incarnation e.0) (e.1, e.2) (of_incarnation incarnation es) (of_incarnation incarnation (es ++ (Some incarnation, r, reply) ∷ fs))
    (λ p later. asks_at c p incarnation es r reply fs later) follows

pub record Stands (a : Exchange) (es : List Entry) : Type 0 where
  pub who : Option Incarnation
  pub at : Has (who, a.0, a.1) es

stands_later : (a : Exchange) (e : Entry) (es : List Entry) → Stands a es → Stands a (e ∷ es)
stands_later a e es stands = record { who = stands.who; at = inr stands.at }

stands_by : (b : Bool) (a : Exchange) (e : Entry) (es : List Entry) (own : List Exchange) → (Has a own → Stands a es)
    → Has a (cond b ((e.1, e.2) ∷ own) own) → Stands a (e ∷ es)
stands_by true a e es own later (inl is) = record { who = e.0; at = inl (ap (λ (x : Exchange). (e.0, x.0, x.1)) is) }
stands_by true a e es own later (inr at) = stands_later a e es (later at)
stands_by false a e es own later at = stands_later a e es (later at)

-- the replies to an incarnation are in the transcript
pub stands_in : (incarnation : Incarnation) (a : Exchange) (es : List Entry) → Has a (of_incarnation incarnation es) → Stands a es
stands_in incarnation a [] at = absurd at
stands_in incarnation a (e ∷ es) at = stands_by (is_by incarnation e.0) a e es (of_incarnation incarnation es) (stands_in incarnation a es) at

-- ---- an incarnation that ends early

pub follows_first : (c : Reconciler) (phase : Phase) (own more : List Exchange) → Follows c phase (own ++ more) → Follows c phase own
follows_first c phase [] more follows = tt
follows_first c phase (e ∷ own) more follows = (follows.0, follows_first c (takes c phase e.1) own more follows.1)

pub follows_last : (c : Reconciler) (phase : Phase) (own : List Exchange) (r : Request) (told other : Reply)
    → Follows c phase (own ++ (r, told) ∷ []) → Follows c phase (own ++ (r, other) ∷ [])
follows_last c phase [] r told other follows = (follows.0, tt)
follows_last c phase (e ∷ own) r told other follows = (follows.0, follows_last c (takes c phase e.1) own r told other follows.1)
