-- What a caller noted of shards and of their floors.
use Rattle.std.proofs.Common.{◌≡◌, ℕ, suc, ◌<◌, List, [], ◌∷◌, ◌++◌, map, Result, Ok, Err, IfOk, Option, None, sym, ap, ◌∙◌, append_assoc}
use Rattle.std.proofs.lemmas.List.{append-nil}
use mathlib.Core.List.{map-append}
use Rattle.memory.specs.declared.Memory.{Memory}
use Rattle.objects.specs.declared.kind.Kind.{Kind}
use Rattle.requests.specs.declared.reply.Reply.{Reply}
use Rattle.requests.specs.declared.reply.Reply.TheVariants.{Refused}
use Rattle.requests.specs.declared.reply.Reason.TheVariants.{Expired}
use Rattle.line.specs.declared.view.Observation.{Observation}
use Rattle.line.specs.Notes.{observation}
use Rattle.store.specs.declared.writing.Writing.{Writing}
use Rattle.store.specs.Floors.{list_reply}
use Rattle.store.specs.Callers.{Caller, FoundAbove, HeldInTurn, floor_noted, in_turn}
use Rattle.store.specs.Views.{HasLoaded, HasObserved}

pub held_self : (floor : ℕ) (c : Caller) → HeldInTurn 0 floor c c
held_self floor c = sym (append-nil (map floor_noted c.observations))

pub held_next : (shards capacity floor i n : ℕ) (notes : List (ℕ × Writing)) (c d e : Caller) → HeldInTurn i floor c d → HasObserved shards capacity i notes floor d n e → HeldInTurn (suc i) floor c e
held_next shards capacity floor i n notes c d e h o =
    ap (map floor_noted) o.observations ∙ (map-append floor_noted d.observations (observation i n notes floor ∷ [])
    ∙ (ap (λ (l : List (ℕ × ℕ)). l ++ (i, floor) ∷ []) h ∙ append_assoc (map floor_noted c.observations) (in_turn i floor) ((i, floor) ∷ [])))

-- by a caller that loaded the frontier before
pub held_after : (shards capacity floor f n : ℕ) (c d e : Caller) → HasLoaded shards capacity c f d → HeldInTurn n floor d e → HeldInTurn n floor c e
held_after shards capacity floor f n c d e h held = held ∙ ap (λ (l : List (Observation Writing)). map floor_noted l ++ in_turn n floor) h.observations

-- a floor that is above the number
pub found_above : (shards capacity floor i d n : ℕ) (notes : List (ℕ × Writing)) (c e : Caller) → HasObserved shards capacity i notes floor c d e → n < floor → FoundAbove n c e
found_above shards capacity floor i d n notes c e h above = (observation i d notes floor, h.observations, above)

pub found_after : (shards capacity f n : ℕ) (c d e : Caller) → HasLoaded shards capacity c f d → FoundAbove n d e → FoundAbove n c e
found_after shards capacity f n c d e h found = (found.0, found.1 ∙ ap (λ (l : List (Observation Writing)). l ++ found.0 ∷ []) h.observations, found.2)

-- a list was not refused
pub listed_is_there : (capacity n m : ℕ) (h : List Writing) (kind : Kind) (namespace : List ℕ) (c e : Caller) (r : Result Reply Memory) → IfOk r (λ reply. reply ≡ list_reply None capacity h kind namespace m)
    → IfOk r (λ reply. reply ≡ Refused Expired → FoundAbove n c e)
listed_is_there capacity n m h kind namespace c e (Ok reply) is = λ expired. absurd cc
listed_is_there capacity n m h kind namespace c e (Err memory) is = tt
