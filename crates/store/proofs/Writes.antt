-- A write under a shard's lock: what it may allocate, and what it leaves.
use Rattle.std.proofs.Common.{◌≡◌, ℕ, ◌+◌, ◌-◌, ◌<◌, ◌≤◌, Bool, true, false, true≢false, cond, List, [], ◌∷◌, ◌++◌, length, Option, Some, None, IfSome, IfNone, IsSome, refl, sym, ap, ◌∙◌, subst, ⊎_elim, inl, inr, Result, OnOk, OnErr, arith, length-append}
use Rattle.std.specs.Option.{option_or}
use mathlib.Core.List.{IsPrefix}
use Rattle.objects.specs.declared.key.Key.{Key}
use Rattle.objects.specs.ShardOf.{shard_of}
use Rattle.requests.specs.declared.request.Request.{Request}
use Rattle.requests.specs.declared.request.Request.TheVariants as request
use Rattle.requests.specs.declared.request.Request.TheVariants.{Create, Get, Update, UpdateStatus, Delete, Compact}
use Rattle.requests.specs.declared.reply.Reply.{Reply}
use Rattle.requests.specs.declared.verdict.Verdict.TheVariants.{Refuse, Same, Write}
use Rattle.requests.specs.declared.verdict.Verdict.{Verdict}
use Rattle.requests.specs.Change.{Change, accepted, change_object, creates, kept, marks, removes, stamp, updates}
use Rattle.requests.specs.Keys.{key_named}
use Rattle.requests.specs.Verdict.{is_write, verdict}
use Rattle.plain_store.proofs.ChangedKeys.{IsFiled, IsOfKey, changes_its_key}
use Rattle.memory.specs.declared.Memory.{Memory}
use Rattle.versions.specs.Records.{Record, last_of}
use Rattle.versions.specs.Shard.{Shard, with_room}
use Rattle.line.specs.declared.view.NotedView.{NotedView}
use Rattle.line.specs.Notes.{observation, name_of, notes_of, notes_up_to}
use Rattle.line.specs.NotedSteps.{Matches, MayDraw, Observes}
use Rattle.line.specs.NotedView.{entered, left_with, looked_noted, with_plain}
use Rattle.line.specs.View.{used_up}
use Rattle.line.proofs.Logs.{some_of}
use Rattle.interleavings.proofs.Basics.{is_key_at, keys_equal}
use Rattle.store.specs.declared.writing.Writing.{Writing}
use Rattle.store.specs.History.{Accepts, by_of, current_of, home_of, key_of, record_of, records_of, state_of}
use Rattle.store.specs.Callers.{Caller, GoesOn}
use Rattle.requests.specs.DrawnRevisions.{drew_revision}
use Rattle.store.specs.Tickets.{IsTicketOf, Ticket, WritesOwn}
use Rattle.store.specs.Views.{AreTagged, HasLoaded, HasObserved, Holds, IsCallerView, IsPublished, Unwritten, WritesNotes, caller_by, ticket_by, writing_by}
use Rattle.store.proofs.Agreeing.{agrees_room}
use Rattle.store.proofs.Going.{goes_loaded}
use Rattle.store.proofs.Visits.{left_caller, looked_there, tags_keep, tags_more}
use Rattle.store.proofs.Tickets.{is_told, published_due, spent_due}

-- a write names a key
pub some_key : (r : Request) → is_write r ≡ true → (k : Key) × (key_named r ≡ Some k)
some_key (Create d) is = (d.object.key, refl)
some_key (Get k) is = absurd (true≢false (sym is))
some_key (request.List kind namespace exact) is = absurd (true≢false (sym is))
some_key (Update d) is = (d.object.key, refl)
some_key (UpdateStatus d) is = (d.object.key, refl)
some_key (Delete k uid version at) is = (k, refl)
some_key (Compact to) is = absurd (true≢false (sym is))

-- what a key has is an object of that key
kept_key : (c : Change) (n : ℕ) (k : Key) → k ≡ (change_object c).key → IsFiled k (kept c n)
kept_key (creates o) n k e = sym e
kept_key (updates o) n k e = sym e
kept_key (marks o) n k e = sym e
kept_key (removes o) n k e = tt

pub filed_current : (k : Key) (has : List (ℕ × Writing)) → IsFiled k (current_of has k)
filed_current k [] = tt
filed_current k (p ∷ ps) = by (last_of k (records_of ps)) (filed_current k ps) (is_key_at k (key_of p.1)) refl
  where
    by : (o : Option Record) → IsFiled k (state_of o) → (b : Bool) → is_key_at k (key_of p.1) ≡ b → IsFiled k (state_of (option_or o (cond b (Some (record_of p)) None)))
    by (Some r) h b e = h
    by None h true e = kept_key p.1.change p.0 k (keys_equal k (key_of p.1) e)
    by None h false e = tt

module _ (shards capacity : ℕ) where
  -- what is to be drawn for a write, by a seat b of the key's shard with a caller's in it
  module _ (b : NotedView Writing) (request : Request) (change : Change) (key : Key) (write : is_write request ≡ true) (named : key_named request ≡ Some key) (here : b.shard ≡ Some (shard_of key shards)) (judged : verdict request (current_of b.notes key) ≡ Write change) where
    pub own_key : (change_object change).key ≡ key
    own_key = subst (IsOfKey key) judged (changes_its_key request key (current_of b.notes key) named (filed_current key b.notes))

    pub may_write : MayDraw (home_of shards) by_of Accepts (Some (writing_by b request change)) b
    may_write = (here ∙ ap (λ q. Some (shard_of q shards)) (sym own_key), refl, (write, named ∙ ap Some (sym own_key), subst (λ q. verdict request (current_of b.notes q) ≡ Write change) (sym own_key) judged))

  -- what a write leaves
  abbrev pub Pushes : NotedView Writing → Request → Change → Option (ℕ × Reply) → NotedView Writing → Type 0
  Pushes b request change o p =
      IfSome o (λ r. IsPublished b r.0 (writing_by b request change) p × (r.1 ≡ accepted change (stamp change r.0)) × (0 < r.0) × (r.0 ≤ capacity) × (notes_up_to (r.0 - 1) b.notes ≡ b.notes) × (b.plain.seen < r.0))
      × IfNone o (p ≡ with_plain b (used_up b.plain))

  -- what it keeps of the seat
  pub record Pushed (b p : NotedView Writing) : Type 0 where
    pub caller : p.caller ≡ b.caller
    pub shard : p.shard ≡ b.shard
    pub pending : b.plain.pending ≡ None → p.plain.pending ≡ None
    pub seen : p.seen ≡ b.seen
    pub frontier : p.plain.seen ≡ b.plain.seen
    pub loads : p.plain.loads ≡ b.plain.loads

  pub pushed_keeps : (b p : NotedView Writing) (request : Request) (change : Change) (o : Option (ℕ × Reply)) → Pushes b request change o p → Pushed b p
  pushed_keeps b p request change (Some r) h = record {
    caller = ap (λ (x : NotedView Writing). x.caller) h.0.0.0;
    shard = ap (λ (x : NotedView Writing). x.shard) h.0.0.0;
    pending = λ none. h.0.0.3;
    seen = ap (λ (x : NotedView Writing). x.seen) h.0.0.0;
    frontier = h.0.0.1;
    loads = h.0.0.4;
  }
  pushed_keeps b p request change None h = record {
    caller = ap (λ (x : NotedView Writing). x.caller) h.1;
    shard = ap (λ (x : NotedView Writing). x.shard) h.1;
    pending = λ none. ap (λ (x : NotedView Writing). x.plain.pending) h.1 ∙ none;
    seen = ap (λ (x : NotedView Writing). x.seen) h.1;
    frontier = ap (λ (x : NotedView Writing). x.plain.seen) h.1;
    loads = ap (λ (x : NotedView Writing). x.plain.loads) h.1;
  }

  pushed_tagged : (b p : NotedView Writing) (request : Request) (change : Change) (o : Option (ℕ × Reply)) → Pushes b request change o p → AreTagged b.own_notes (length b.observations) → AreTagged p.own_notes (length p.observations + 1)
  pushed_tagged b p request change (Some r) h tags =
      subst (λ (x : NotedView Writing). AreTagged x.own_notes (length x.observations + 1)) (sym h.0.0.0) (tags_more b.own_notes (length b.observations) (length b.observations + 1) (r.0, writing_by b request change) tags refl (omega arith))
  pushed_tagged b p request change None h tags =
      subst (λ (x : NotedView Writing). AreTagged x.own_notes (length x.observations + 1)) (sym h.1) (tags_keep b.own_notes (length b.observations) (length b.observations + 1) tags (omega arith))

  -- once it noted what the shard has, the seat is one of a caller again
  pub pushed_view : (floor : ℕ) (b p y : NotedView Writing) (request : Request) (change : Change) (o : Option (ℕ × Reply)) → Pushes b request change o p → IsCallerView shards b → Observes (home_of shards) by_of Accepts floor p y → IsCallerView shards y
  pushed_view floor b p y request change o h known notes =
      let c = notes.3 in
      let named = subst (λ o. IsSome o) (sym (pushed_keeps b p request change o h).caller) known.named in
      let s = some_of p.caller named in
      let tagged = pushed_tagged b p request change o h known.tagged in
      subst (IsCallerView shards) (sym notes.4) record {
        named = named;
        legal = c.legal;
        own_there = c.of_caller s.0 s.1 ∙ ap (λ o. notes_of by_of (name_of o) 1 p.seen) (sym s.1);
        long = c.long;
        tagged = tags_keep p.own_notes (length p.observations + 1) (length (p.observations ++ observation notes.0 notes.1 p.notes floor ∷ [])) tagged (let l = length-append p.observations (observation notes.0 notes.1 p.notes floor ∷ []) in omega arith);
      }

  -- ---- what it leaves of its caller's own writes

  pub pushed_own : (floor : ℕ) (b p y : NotedView Writing) → Observes (home_of shards) by_of Accepts floor p y → (request : Request) (change : Change) (since : ℕ) (o : Option (ℕ × Reply)) → Pushes b request change o p
      → WritesOwn (caller_by b) (ticket_by capacity request since o) (caller_by y)
  pushed_own floor b p y notes request change since (Some r) h =
      let full = h.0.0.0 in
      subst (λ (x : Caller). WritesOwn (caller_by b) (ticket_by capacity request since (Some r)) x) (sym (ap caller_by notes.4)) record {
        name_is = ap (λ (x : NotedView Writing). name_of x.caller) full;
        observations_stay = (observation notes.0 notes.1 p.notes floor ∷ [], ap (λ (x : NotedView Writing). x.observations ++ observation notes.0 notes.1 p.notes floor ∷ []) (sym full));
        own_is = inr (ap drew_revision h.0.1 ∙ is_told shards capacity change (stamp change r.0), (writing_by b request change, ap (λ (x : NotedView Writing). x.own_notes) full, refl, refl, refl));
      }
  pushed_own floor b p y notes request change since None h =
      subst (λ (x : Caller). WritesOwn (caller_by b) (ticket_by capacity request since None) x) (sym (ap caller_by notes.4)) record {
        name_is = ap (λ (x : NotedView Writing). name_of x.caller) h.1;
        observations_stay = (observation notes.0 notes.1 p.notes floor ∷ [], ap (λ (x : NotedView Writing). x.observations ++ observation notes.0 notes.1 p.notes floor ∷ []) (sym h.1));
        own_is = inl (refl, ap (λ (x : NotedView Writing). x.own_notes) h.1);
      }

  plainly : (v : Verdict) (reply : Reply) → Unwritten v reply → drew_revision reply ≡ false
  plainly (Refuse reason) reply u = ap drew_revision u
  plainly (Same o) reply u = ap drew_revision u
  plainly (Write ch) reply u = absurd u

  pub noted_own : (floor index d : ℕ) (notes : List (ℕ × Writing)) (c c' : Caller) (t : Ticket) (v : Verdict) (reply : Reply) → HasObserved shards capacity index notes floor c d c' → t.reply ≡ Some reply → Unwritten v reply → WritesOwn c t c'
  noted_own floor index d notes c c' t v reply n is un = record {
    name_is = n.name;
    observations_stay = (observation index d notes floor ∷ [], sym n.observations);
    own_is = inl (subst (λ o. IfSome o (λ r. drew_revision r ≡ false)) (sym is) (plainly v reply un), n.own_notes);
  }

  -- the same of a caller that loaded the frontier before
  pub own_from : (b c d : Caller) (t : Ticket) (f : ℕ) → HasLoaded shards capacity b f c → WritesOwn c t d → WritesOwn b t d
  own_from b c d t f h w = record {
    name_is = w.name_is ∙ h.name;
    observations_stay = subst (λ l. IsPrefix l d.observations) h.observations w.observations_stay;
    own_is = ⊎_elim
        (λ (u : IfSome t.reply (λ r. drew_revision r ≡ false) × (d.own_notes ≡ c.own_notes)). inl (u.0, u.1 ∙ h.own_notes))
        (λ (u : IfSome t.reply (λ r. drew_revision r ≡ true) × ((x : Writing) × (d.own_notes ≡ c.own_notes ++ (t.place, x) ∷ []) × (x.request ≡ t.request) × (x.by ≡ c.name) × (x.count ≡ length c.observations))). inr (u.0, (u.1.0, u.1.1 ∙ ap (λ l. l ++ (t.place, u.1.0) ∷ []) h.own_notes, u.1.2, u.1.3 ∙ h.name, u.1.4 ∙ ap length h.observations)))
        w.own_is;
  }

  -- ---- what it leaves of the shard's notes

  pub pushed_wrote : (b p : NotedView Writing) (has : List (ℕ × Writing)) → has ≡ p.notes → (request : Request) (change : Change) (since : ℕ) (o : Option (ℕ × Reply)) → Pushes b request change o p → WritesNotes b.notes (ticket_by capacity request since o) has
  pushed_wrote b p has left request change since (Some r) h = inr (ap drew_revision h.0.1 ∙ is_told shards capacity change (stamp change r.0), (writing_by b request change, left ∙ ap (λ (x : NotedView Writing). x.notes) h.0.0.0, refl))
  pushed_wrote b p has left request change since None h = inl (refl, left ∙ ap (λ (x : NotedView Writing). x.notes) h.1)

  pub unwritten_wrote : (has has' : List (ℕ × Writing)) (t : Ticket) (v : Verdict) (reply : Reply) → has' ≡ has → t.reply ≡ Some reply → Unwritten v reply → WritesNotes has t has'
  unwritten_wrote has has' t v reply same is un = inl (subst (λ o. IfSome o (λ r. drew_revision r ≡ false)) (sym is) (plainly v reply un), same)

  -- ---- its ticket is due

  pub pushed_due : (floor : ℕ) (b p y : NotedView Writing) → Observes (home_of shards) by_of Accepts floor p y → p.plain.capacity ≡ capacity
      → (request : Request) (change : Change) (key : Key) (since : ℕ) → is_write request ≡ true → key_named request ≡ Some key → b.shard ≡ Some (shard_of key shards) → verdict request (current_of b.notes key) ≡ Write change
      → IsCallerView shards b → since ≤ length b.seen → length b.seen ≤ capacity → (o : Option (ℕ × Reply)) → Pushes b request change o p → IsTicketOf shards capacity (ticket_by capacity request since o) (caller_by y)
  pushed_due floor b p y notes sized request change key since write named here judged known since_le within (Some r) h =
      published_due shards capacity floor b p y (shard_of key shards) here notes sized request change key since write named refl judged known since_le r.0 h.0.0 r.1 h.0.1 h.0.2 h.0.3 h.0.4 h.0.5
  pushed_due floor b p y notes sized request change key since write named here judged known since_le within None h =
      spent_due shards capacity floor b p y (shard_of key shards) here notes sized request change key since write named refl judged known since_le h.1 within

  -- ---- a whole holding of a lock by a write

  pub holds_room : (r : Result (Unit {0}) Memory) (s t : Shard) (v : NotedView Writing) (k : Key) → Holds shards v s v
      → OnOk r (t ≡ with_room s k) → OnErr r (t ≡ s) → Holds shards v t v
  holds_room r s t v k h made kept = record {
    shard = refl;
    seen = refl;
    frontier = refl;
    loads = refl;
    pending = h.pending;
    agrees = agrees_room r s t k v.notes v.plain.filled (length v.seen) h.agrees made kept;
    caller = h.caller;
  }

  -- a caller c whose seat w enters a shard's seat v, loads the frontier f by it, works by it, and leaves
  module _ (c : Caller) (v w b y u z : NotedView Writing) (s : Shard) (f : ℕ) (same : caller_by w ≡ c) (in_ : b ≡ entered v w) (looked : y ≡ looked_noted b f y.seen) (sees : Matches (home_of shards) by_of Accepts b f y.seen) (known : IsCallerView shards w) (within : f ≤ capacity)
      (holds : Holds shards y s u) (out : z ≡ left_with u) where
    pub handed_loads : HasLoaded shards capacity c f (caller_by y)
    handed_loads = subst (λ (x : Caller). HasLoaded shards capacity x f (caller_by y)) same (looked_there shards capacity v w b y f in_ looked sees known within)

    pub handed_begins : IsPrefix c.seen (caller_by z).seen
    handed_begins = subst (IsPrefix c.seen) (sym (ap (λ (x : Caller). x.seen) (left_caller shards capacity u z out) ∙ holds.seen)) (handed_loads).begins

    pub handed_once : (caller_by z).loads ≡ c.loads + 1
    handed_once = ap (λ (x : Caller). x.loads) (left_caller shards capacity u z out) ∙ (holds.loads ∙ (handed_loads).loads)

    pub handed_own : (t : Ticket) → WritesOwn (caller_by y) t (caller_by u) → WritesOwn c t (caller_by z)
    handed_own t h = subst (WritesOwn c t) (sym (left_caller shards capacity u z out)) (own_from c (caller_by y) (caller_by u) t f handed_loads h)

    pub handed_back : u ≡ y → GoesOn c (caller_by z)
    handed_back e = subst (GoesOn c) (sym (left_caller shards capacity u z out ∙ ap caller_by e)) (goes_loaded shards capacity c (caller_by y) f handed_loads)
