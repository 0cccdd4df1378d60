use Rattle.std.proofs.Common.{◌≡◌, ◌≢◌, ℕ, zero, suc, Bool, true, false, not, if◌then◌else◌, [], ◌∷◌, Option, Some, None, is_some, refl, sym, ap, ◌∙◌, arith}
use Rattle.requests.specs.declared.request.Request.{Request}
use Rattle.plain_store.specs.Route.{Route, compacts, gets, lists, lists_at, route, writes}
use Rattle.interleavings.specs.declared.event.Event.{Event}
use Rattle.interleavings.specs.declared.event.Event.TheVariants as event
use Rattle.interleavings.specs.Log.{Writing}
use Rattle.interleavings.specs.Step.{called, checked, checked_by, checked_in, compacted, compacted_by, crashed, happens, part, published, raised, read, read_at, read_at_by, read_by, replied, reserved, with_reply_if}
use Rattle.interleavings.specs.World.{Phase, Idle, Called, Holding, Drawn, Waiting, Reading, Gone, Size, World, shard}
use Rattle.interleavings.proofs.Basics.{changed-same}
use Rattle.history.specs.declared.caller_phase.FirstStep.TheVariants as asks
use Rattle.history.specs.declared.caller_phase.CallerPhase.{CallerPhase}
use Rattle.history.specs.declared.caller_phase.CallerPhase.TheVariants as standing
use Rattle.history.specs.NextStep.{can_rise, goes_on}
use Rattle.interleavings.specs.Callers.{named_by}
use Rattle.history.specs.CallerPhase.{first_step, caller_phase_of}
use Rattle.history.proofs.Enabled.{next_is_enabled}
use Rattle.traces.specs.Enabled.{asks_compaction, asks_read, asks_read_at, has_drawn, has_parts_left, is_enabled, is_gone, is_held, is_holding, is_idle, may_check, may_reply, run_state_of}

-- ---- what is enabled by its caller's state moves the caller on
module _ (held : ℕ → Bool) (frontier : ℕ) (rises : Bool) (c : ℕ) where
  abbrev next : CallerPhase → Option Event
  next s = goes_on held frontier rises c s

  read_next : (s : CallerPhase) → asks_read s ≡ true → next s ≡ Some (event.Read c)
  read_next (standing.Called asks.Read) so = refl
  read_next s so = absurd cc

  read_at_next : (s : CallerPhase) → asks_read_at s ≡ true → next s ≡ Some (event.ReadAt c)
  read_at_next (standing.Called asks.ReadAt) so = refl
  read_at_next s so = absurd cc

  compact_next : (s : CallerPhase) → asks_compaction s ≡ true → next s ≡ Some (event.Compact c)
  compact_next (standing.Called asks.Compaction) so = refl
  compact_next s so = absurd cc

  reserve_next : (s : CallerPhase) → is_holding s ≡ true → next s ≡ Some (event.Reserve c)
  reserve_next (standing.Holding place) so = refl
  reserve_next s so = absurd cc

  part_next : (s : CallerPhase) → has_parts_left s ≡ true → next s ≡ Some (event.Part c)
  part_next (standing.Reading number one (suc left)) so = refl
  part_next s so = absurd cc

  reply_next : (s : CallerPhase) → may_reply s frontier ≡ true → next s ≡ Some (event.Reply c)
  reply_next (standing.Waiting saw) so = ap (λ b. if b then Some (event.Reply c) else if rises then Some event.Raise else None) so
  reply_next (standing.Reading number one zero) so = refl
  reply_next s so = absurd cc

free : (held : Bool) (e : Event) → not held ≡ true → (if held then None else Some e) ≡ Some e
free true e so = absurd cc
free false e so = refl

check_next : (w : World) (frontier : ℕ) (rises : Bool) (c : ℕ) (s : CallerPhase) → may_check s (is_held w s) ≡ true
    → goes_on (λ s. is_some (w.holder s)) frontier rises c s ≡ Some (event.Check c)
check_next w frontier rises c (standing.Called (asks.Write there)) so = free (is_some (w.holder there)) (event.Check c) so
check_next w frontier rises c s so = absurd cc

module _ (z : Size) (w : World) where
  -- ---- what is enabled
  -- the caller's state changes
  elsewhere : (c : ℕ) (ph there : Phase) (v : World) → w.phase c ≡ ph → v.phase c ≡ there → (there ≡ ph → ⊥) → v ≢ w
  elsewhere c ph there v at is other = λ same. other (sym is ∙ ap (λ (u : World). u.phase c) same ∙ at)

  call_moves : (c : ℕ) (r : Request) (ph : Phase) → w.phase c ≡ ph → is_idle (caller_phase_of z.shards ph) ≡ true → called w c r ph ≢ w
  call_moves c r Idle at so = elsewhere c Idle (Called w.now r) _ at (changed-same w.phase c _) (λ x. absurd cc)
  call_moves c r (Gone None) at so = absurd cc
  call_moves c r (Gone (Some d)) at so = absurd cc
  call_moves c r ph at so = absurd cc

  publish_moves : (c : ℕ) (ph : Phase) → w.phase c ≡ ph → has_drawn (caller_phase_of z.shards ph) ≡ true → published z w c ph ≢ w
  publish_moves c (Drawn d) at so = elsewhere c (Drawn d) _ _ at (changed-same w.phase c _) (λ x. absurd cc)
  publish_moves c (Gone (Some d)) at so = elsewhere c (Gone (Some d)) _ _ at (changed-same w.phase c _) (λ x. absurd cc)
  publish_moves c (Gone None) at so = absurd cc
  publish_moves c ph at so = absurd cc

  raise_moves : (o : Option Writing) → is_some o ≡ true → raised w o ≢ w
  raise_moves None so = absurd cc
  raise_moves (Some t) so = λ same. let up = ap (λ (u : World). u.frontier) same in absurd (omega (arith, up))

  crash_moves : (c : ℕ) (ph : Phase) → w.phase c ≡ ph → not (is_gone (caller_phase_of z.shards ph)) ≡ true → crashed z w c ph ≢ w
  crash_moves c (Gone None) at so = absurd cc
  crash_moves c (Gone (Some d)) at so = absurd cc
  crash_moves c Idle at so = elsewhere c Idle _ _ at (changed-same w.phase c _) (λ x. absurd cc)
  crash_moves c (Called p r) at so = elsewhere c (Called p r) _ _ at (changed-same w.phase c _) (λ x. absurd cc)
  crash_moves c (Holding t) at so = elsewhere c (Holding t) _ _ at (changed-same w.phase c _) (λ x. absurd cc)
  crash_moves c (Drawn d) at so = elsewhere c (Drawn d) _ _ at (changed-same w.phase c _) (λ x. absurd cc)
  crash_moves c (Waiting saw p reply) at so = elsewhere c (Waiting saw p reply) _ _ at (changed-same w.phase c _) (λ x. absurd cc)
  crash_moves c (Reading n p r parts found) at so = elsewhere c (Reading n p r parts found) _ _ at (changed-same w.phase c _) (λ x. absurd cc)

  abbrev stands : ℕ → CallerPhase
  stands c = caller_phase_of z.shards (w.phase c)

  abbrev is_taken : ℕ → Bool
  is_taken s = is_some (w.holder s)

  pub moves : (e : Event) → is_enabled e (run_state_of z w (named_by e)) ≡ true → happens z w e ≢ w
  moves (event.Call c r) so = call_moves c r (w.phase c) refl so
  moves (event.Check c) so = next_is_enabled z w c (event.Check c) (check_next w w.frontier (can_rise w) c (stands c) so)
  moves (event.Reserve c) so = next_is_enabled z w c (event.Reserve c) (reserve_next is_taken w.frontier (can_rise w) c (stands c) so)
  moves (event.Publish c) so = publish_moves c (w.phase c) refl so
  moves event.Raise so = raise_moves (w.log w.frontier) so
  moves (event.Read c) so = next_is_enabled z w c (event.Read c) (read_next is_taken w.frontier (can_rise w) c (stands c) so)
  moves (event.ReadAt c) so = next_is_enabled z w c (event.ReadAt c) (read_at_next is_taken w.frontier (can_rise w) c (stands c) so)
  moves (event.Compact c) so = next_is_enabled z w c (event.Compact c) (compact_next is_taken w.frontier (can_rise w) c (stands c) so)
  moves (event.Part c) so = next_is_enabled z w c (event.Part c) (part_next is_taken w.frontier (can_rise w) c (stands c) so)
  moves (event.Reply c) so = next_is_enabled z w c (event.Reply c) (reply_next is_taken w.frontier (can_rise w) c (stands c) so)
  moves (event.Crash c) so = crash_moves c (w.phase c) refl so

  -- ---- what is not enabled
  call_stays : (c : ℕ) (r : Request) (ph : Phase) → is_idle (caller_phase_of z.shards ph) ≡ false → called w c r ph ≡ w
  call_stays c r Idle never = absurd cc
  call_stays c r ph never = refl

  held_stays : (c p : ℕ) (r : Request) (q : Route) → may_check (standing.Called (first_step z.shards q)) (is_held w (standing.Called (first_step z.shards q))) ≡ false
      → checked_by z w c p r q ≡ w
  unfolding shard
  held_stays c p r (writes k) never = by (w.holder (shard z k)) never
    where
      by : (holder : Option ℕ) → not (is_some holder) ≡ false → checked_in z w c p r k holder ≡ w
      by None never = absurd cc
      by (Some other) never = refl
  held_stays c p r (gets k) never = refl
  held_stays c p r (lists kind namespace) never = refl
  held_stays c p r (lists_at kind namespace number) never = refl
  held_stays c p r (compacts to) never = refl

  check_stays : (c : ℕ) (ph : Phase) → may_check (caller_phase_of z.shards ph) (is_held w (caller_phase_of z.shards ph)) ≡ false → checked z w c ph ≡ w
  check_stays c (Called p r) never = held_stays c p r (route r) never
  check_stays c ph never = refl

  reserve_stays : (c : ℕ) (ph : Phase) → is_holding (caller_phase_of z.shards ph) ≡ false → reserved z w c ph ≡ w
  reserve_stays c (Holding t) never = absurd cc
  reserve_stays c ph never = refl

  publish_stays : (c : ℕ) (ph : Phase) → has_drawn (caller_phase_of z.shards ph) ≡ false → published z w c ph ≡ w
  publish_stays c (Drawn d) never = absurd cc
  publish_stays c (Gone (Some d)) never = absurd cc
  publish_stays c ph never = refl

  raise_stays : (o : Option Writing) → is_some o ≡ false → raised w o ≡ w
  raise_stays None never = refl
  raise_stays (Some t) never = absurd cc

  read_stays_by : (c p : ℕ) (r : Request) (q : Route) → asks_read (standing.Called (first_step z.shards q)) ≡ false → read_by z w c p r q ≡ w
  read_stays_by c p r (gets k) never = absurd cc
  read_stays_by c p r (lists kind namespace) never = absurd cc
  read_stays_by c p r q never = refl

  read_stays : (c : ℕ) (ph : Phase) → asks_read (caller_phase_of z.shards ph) ≡ false → read z w c ph ≡ w
  read_stays c (Called p r) never = read_stays_by c p r (route r) never
  read_stays c ph never = refl

  read_at_stays_by : (c p : ℕ) (r : Request) (q : Route) → asks_read_at (standing.Called (first_step z.shards q)) ≡ false → read_at_by z w c p r q ≡ w
  read_at_stays_by c p r (lists_at kind namespace number) never = absurd cc
  read_at_stays_by c p r q never = refl

  read_at_stays : (c : ℕ) (ph : Phase) → asks_read_at (caller_phase_of z.shards ph) ≡ false → read_at z w c ph ≡ w
  read_at_stays c (Called p r) never = read_at_stays_by c p r (route r) never
  read_at_stays c ph never = refl

  compact_stays_by : (c p : ℕ) (q : Route) → asks_compaction (standing.Called (first_step z.shards q)) ≡ false → compacted_by w c p q ≡ w
  compact_stays_by c p (compacts to) never = absurd cc
  compact_stays_by c p q never = refl

  compact_stays : (c : ℕ) (ph : Phase) → asks_compaction (caller_phase_of z.shards ph) ≡ false → compacted w c ph ≡ w
  compact_stays c (Called p r) never = compact_stays_by c p (route r) never
  compact_stays c ph never = refl

  part_stays : (c : ℕ) (ph : Phase) → has_parts_left (caller_phase_of z.shards ph) ≡ false → part z w c ph ≡ w
  part_stays c (Reading n p r (s ∷ parts) found) never = absurd cc
  part_stays c (Reading n p r [] found) never = refl
  part_stays c ph never = refl

  reply_stays : (c : ℕ) (ph : Phase) → may_reply (caller_phase_of z.shards ph) w.frontier ≡ false → replied z w c ph ≡ w
  reply_stays c (Waiting saw p reply) never = ap (λ b. with_reply_if b w c reply) never
  reply_stays c (Reading n p r [] found) never = absurd cc
  reply_stays c (Reading n p r (s ∷ parts) found) never = refl
  reply_stays c ph never = refl

  crash_stays : (c : ℕ) (ph : Phase) → not (is_gone (caller_phase_of z.shards ph)) ≡ false → crashed z w c ph ≡ w
  crash_stays c (Gone left) never = refl
  crash_stays c ph never = absurd cc

  pub stays : (e : Event) → is_enabled e (run_state_of z w (named_by e)) ≡ false → happens z w e ≡ w
  stays (event.Call c r) never = call_stays c r (w.phase c) never
  stays (event.Check c) never = check_stays c (w.phase c) never
  stays (event.Reserve c) never = reserve_stays c (w.phase c) never
  stays (event.Publish c) never = publish_stays c (w.phase c) never
  stays event.Raise never = raise_stays (w.log w.frontier) never
  stays (event.Read c) never = read_stays c (w.phase c) never
  stays (event.ReadAt c) never = read_at_stays c (w.phase c) never
  stays (event.Compact c) never = compact_stays c (w.phase c) never
  stays (event.Part c) never = part_stays c (w.phase c) never
  stays (event.Reply c) never = reply_stays c (w.phase c) never
  stays (event.Crash c) never = crash_stays c (w.phase c) never
