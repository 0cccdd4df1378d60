-- ---- used only by proofs: what waits to be noted
use Rattle.std.specs.Prelude.{◌≡◌, ◌==◌, ℕ, Bool, true, false, List, [], ◌∷◌, ◌++◌, length, map, take, drop, Some, None, is_some, ⊤, if◌then◌else◌}
use Rattle.std.specs.List.{sum_by}
use Rattle.std.specs.Option.{option_map_or}
use Rattle.std.specs.BTreeMap.{get}
use Rattle.std.specs.Ordering.{nat_cmp}
use Rattle.interleavings.specs.declared.trace.Item.TheVariants as item
use Rattle.order_check.specs.Lookup.{IsWith, IsWithout}
use Rattle.race_log.specs.declared.merge.Word.{Word}
use Rattle.race_log.specs.declared.merge.Word.TheVariants as word
use Rattle.race_log.specs.declared.merge.Queues.{Queues}
use Rattle.race_log.specs.declared.merge.Waiting.{Waiting}
use Rattle.race_log.specs.Logged.{Noted, stamp_for}
use Rattle.race_log.specs.Merge.{Event, Said, asks, told, noted_events, reply_places, said_by, stamped_places, turn_of}

abbrev pub said : Word → Said
said (word.Asks request) = asks request
said (word.Told number reply) = told reply (Some number)

-- a log with one more call or reply, which has this index
abbrev pub HasNext : (caller place : ℕ) → Said → Noted → Noted → Type 0
HasNext caller place (asks request) old new =
    (new.items ≡ old.items ++ item.Call place caller request ∷ []) × IsWith caller place old.open_calls new.open_calls × (new.stamps ≡ old.stamps)
HasNext caller place (told reply None) old new = ⊥
HasNext caller place (told reply (Some number)) old new =
    (new.items ≡ old.items ++ item.Reply place caller reply ∷ []) × IsWithout caller old.open_calls new.open_calls
    × (new.stamps ≡ old.stamps ++ stamp_for (old.open_calls caller) number place reply)

-- a call, its reply, the next call .., from a call or a reply on up to a reply
abbrev pub Alternates : (waits : Bool) → List Said → Type 0
Alternates false [] = ⊤
Alternates true [] = ⊥
Alternates false (asks request ∷ more) = Alternates true more
Alternates true (asks request ∷ more) = ⊥
Alternates false (told reply number ∷ more) = ⊥
Alternates true (told reply None ∷ more) = ⊥
Alternates true (told reply (Some number) ∷ more) = Alternates false more

-- what a caller still has to add
abbrev pub left_of : ℕ → Queues → List Said
left_of caller queues = option_map_or (λ queue. map said queue.items) (get nat_cmp queues.by_caller caller) []

-- what the caller adds next was noted, and waits no longer
pub record Hears (caller : ℕ) (old new : Noted) (before after : Queues) : Type 0 where
  pub next : Said
  pub place : ℕ
  pub waited : left_of caller before ≡ next ∷ left_of caller after
  pub others : (c : ℕ) → (caller == c) ≡ false → left_of c after ≡ left_of c before
  pub noted : HasNext caller place next old new

-- how many of the turns are the caller's
abbrev pub turns_left : ℕ → List (ℕ × ℕ) → ℕ
turns_left caller turns = sum_by (λ (t : ℕ × ℕ). if t.1 == caller then 1 else 0) turns

-- there are as many turns of each caller as it has to add
abbrev pub AreTurnsOf : List (ℕ × ℕ) → Queues → Type 0
AreTurnsOf turns queues = (caller : ℕ) → turns_left caller turns ≡ length (left_of caller queues)

-- what each caller has to add is calls and their replies
abbrev pub AreExchanges : Queues → Type 0
AreExchanges queues = (caller : ℕ) → Alternates false (left_of caller queues)

-- so many turns were made
pub record Midway (turns : List (ℕ × ℕ)) (queues : Queues) (taken : ℕ) (log : Noted) (left : Queues) : Type 0 where
  pub said : (caller : ℕ) → said_by caller (noted_events log) ++ left_of caller left ≡ left_of caller queues
  pub stamped : stamped_places log.stamps ≡ reply_places log.items
  pub waits : (caller : ℕ) → Alternates (is_some (log.open_calls caller)) (left_of caller left)
  pub callers : map (λ (e : Event). e.caller) (noted_events log) ≡ map (λ (t : ℕ × ℕ). t.1) (take taken turns)
  pub turned : AreTurnsOf (drop taken turns) left

-- all was noted, in these turns
pub record HasHeard (log : Noted) (queues : Queues) (turns : List (ℕ × ℕ)) : Type 0 where
  pub callers : map (λ (e : Event). e.caller) (noted_events log) ≡ map (λ (t : ℕ × ℕ). t.1) turns
  pub said : (caller : ℕ) → said_by caller (noted_events log) ≡ left_of caller queues
  pub stamped : stamped_places log.stamps ≡ reply_places log.items

-- these events wait
pub record Holds (w : Waiting) (es : List Event) : Type 0 where
  pub turns : w.turns.items ≡ map turn_of es
  pub queues : (caller : ℕ) → left_of caller w.queues ≡ said_by caller es
