-- How a ticket is used: it is made so that it is due, and its reply is that of the plain store after a history.
use Rattle.std.proofs.Common.{◌≡◌, ◌⊎◌, ℕ, zero, suc, ◌+◌, ◌-◌, ◌<◌, ◌≤◌, max, true, false, true≢false, cond, List, [], ◌∷◌, ◌++◌, length, map, take, drop, Option, Some, refl, sym, ap, ◌∙◌, subst, ⊎_elim, inl, inr, arith, length-append, ne_eqb, eq-eqb}
use Rattle.std.proofs.lemmas.Option.{same_Some}
use Rattle.std.proofs.lemmas.List.{length-take-le, take-append-drop, append-nil}
use mathlib.Core.Option.{some}
use lib.ListN.{get_elem?}
use Rattle.std.specs.FinMap as finite
use Rattle.std.specs.List.{Contains}
use Rattle.store.specs.Rule.{number_of}
use Rattle.objects.specs.declared.key.Key.{Key}
use Rattle.objects.specs.declared.object.Object.{Object}
use Rattle.objects.specs.ShardOf.{shard_of}
use Rattle.requests.specs.declared.request.Request.{Request}
use Rattle.requests.specs.declared.reply.Reply.{Reply}
use Rattle.requests.specs.declared.reply.Reply.TheVariants.{Refused}
use Rattle.requests.specs.declared.reply.Reason.TheVariants.{StoreFull}
use Rattle.requests.specs.declared.verdict.Verdict.{Verdict}
use Rattle.requests.specs.declared.verdict.Verdict.TheVariants.{Refuse, Same, Write}
use Rattle.requests.specs.Change.{Change, accepted, creates, updates, marks, removes, stamp}
use Rattle.requests.specs.Keys.{key_named}
use Rattle.requests.specs.Verdict.{is_write, verdict}
use Rattle.plain_store.specs.Store.{step}
use Rattle.versions.specs.Records.{last_of}
use Rattle.line.specs.declared.view.NotedView.{NotedView}
use Rattle.line.specs.Notes.{observation, name_of, notes_of, notes_up_to}
use Rattle.line.specs.NotedSteps.{Observes}
use Rattle.line.specs.NotedView.{drew_noted, with_plain}
use Rattle.line.specs.View.{used_up}
use Rattle.line.proofs.Logs.{legal_front, some_same}
use Rattle.store.specs.declared.writing.Writing.{Writing}
use Rattle.store.specs.History.{Accepts, answered, by_of, current_of, home_of, records_of, store_after}
use Rattle.store.specs.Callers.{Caller}
use Rattle.requests.specs.DrawnRevisions.{drew_revision}
use Rattle.store.specs.Tickets.{IsAnswered, IsReply, IsTicketOf, IsWritten, Saw, Ticket}
use Rattle.store.specs.Views.{HasLoaded, IsCallerView, IsPublished, HasObserved, Unwritten, caller_by, writing_by}
use Rattle.store.proofs.Histories.{get_is, is_history, reply_is}
use Rattle.store.proofs.Readings.{last_le, last_number, saw_current, settled_state}
use Rattle.store.proofs.Cuts.{at_last, last_upto, stood_at, stood_take, notes_up_to-append, upto_more, upto_one, upto_over}

is_max : (a b c : ℕ) → a ≤ c → b ≤ c → max a b ≤ c
is_max a b c p q = omega arith

module _ (shards capacity : ℕ) where
  -- ---- a ticket is made

  -- of a write that changes nothing
  pub unwritten_due : (floor : ℕ) (request : Request) (key : Key) (since saw loaded index d : ℕ) (reply : Reply) (notes : List (ℕ × Writing)) (c c' : Caller) → HasObserved shards capacity index notes floor c d c' → is_write request ≡ true → key_named request ≡ Some key
      → shard_of key shards ≡ index → saw ≡ last_number (last_of key (records_of notes)) → Unwritten (verdict request (current_of notes key)) reply → loaded ≡ length c.seen → since ≤ loaded → ((n : ℕ) → Contains (map number_of notes) n → 0 < n)
      → IsTicketOf shards capacity (record { request = request; since = since; saw = saw; place = max saw loaded; reply = Some reply }) c'
  unwritten_due floor request key since saw loaded index d reply notes c c' n write named here saw_is un loaded_is since_le first =
      let drawn = n.drawn in
      let low = last_le key d notes n.all in
      record {
        key = key;
        write = write;
        named = named;
        at = length c.observations;
        entry = observation index d notes floor;
        there = subst (λ l. get_elem? l (length c.observations) ≡ some (observation index d notes floor)) (sym n.observations) (at_last c.observations (observation index d notes floor) (length c.observations) refl);
        home = sym here;
        covers = is_max saw loaded d (omega arith) (omega arith);
        since = omega arith;
        loaded = loaded;
        place_is = refl;
        known = let e = ap length n.seen in omega arith;
        due = λ r is. inr (answer r (same_Some reply r is) (verdict request (current_of notes key)) refl un);
      }
    where
      place : ℕ
      place = max saw loaded

      answer : (r : Reply) → reply ≡ r → (v : Verdict) → verdict request (current_of notes key) ≡ v → Unwritten v reply
          → IsAnswered capacity (record { request = request; since = since; saw = saw; place = max saw loaded; reply = Some reply }) key notes r
      answer r is v e u =
          let state : current_of (notes_up_to (max saw loaded) notes) key ≡ current_of notes key = settled_state key (max saw loaded) notes (omega arith) in
          record {
            other = ap drew_revision (sym is) ∙ (plainly v u).1;
            reply_is = sym is ∙ ((plainly v u).0 ∙ ap (answered capacity (max saw loaded)) (sym (ap (verdict request) state ∙ e)));
            sees = inr (subst (λ (o : Option Object). Saw o saw) (sym state) (subst (λ (n : ℕ). Saw (current_of notes key) n) (sym saw_is) (saw_current key notes first)));
          }
        where
          plainly : (v : Verdict) → Unwritten v reply → (reply ≡ answered capacity (max saw loaded) v) × (drew_revision reply ≡ false)
          plainly (Refuse reason) u = (u, ap drew_revision u)
          plainly (Same o) u = (u, ap drew_revision u)
          plainly (Write ch) u = absurd u

  pub is_told : (ch : Change) (o : Object) → drew_revision (accepted ch o) ≡ true
  is_told (creates x) o = refl
  is_told (updates x) o = refl
  is_told (marks x) o = refl
  is_told (removes x) o = refl

  -- of a write that was published, or found all numbers drawn, by the seat b, which then has the view p, and y once it
  -- noted what it has
  module _ (floor : ℕ) (b p y : NotedView Writing) (index : ℕ) (at : b.shard ≡ Some index) (notes : Observes (home_of shards) by_of Accepts floor p y) (sized : p.plain.capacity ≡ capacity)
      (request : Request) (change : Change) (key : Key) (since : ℕ) (write : is_write request ≡ true) (named : key_named request ≡ Some key) (here : shard_of key shards ≡ index) (judged : verdict request (current_of b.notes key) ≡ Write change)
      (known : IsCallerView shards b) (since_le : since ≤ length b.seen) where
    d : ℕ
    d = notes.1

    module _ (n : ℕ) (published : IsPublished b n (writing_by b request change) p) (reply : Reply) (reply_is' : reply ≡ accepted change (stamp change n)) (positive : 0 < n) (small : n ≤ capacity) (below : notes_up_to (n - 1) b.notes ≡ b.notes) (past : b.plain.seen < n) where
      abbrev note : Writing
      note = writing_by b request change

      full : p ≡ with_plain (drew_noted b n note) p.plain
      full = published.0

      has_is : p.notes ≡ b.notes ++ (n, note) ∷ []
      has_is = ap (λ (x : NotedView Writing). x.notes) full

      abbrev after : Caller
      after = record (caller_by b) { own_notes = b.own_notes ++ (n, note) ∷ []; observations = b.observations ++ observation notes.0 notes.1 p.notes floor ∷ []; loads = p.plain.loads; tries = length p.plain.tries }

      out_is : caller_by y ≡ after
      out_is = ap caller_by notes.4 ∙ ap (λ (x : NotedView Writing). record { name = name_of x.caller; seen = x.seen; reported = x.reported; own_notes = x.own_notes; observations = x.observations ++ observation notes.0 notes.1 p.notes floor ∷ []; loads = p.plain.loads; tries = length p.plain.tries }) full

      pub published_due : IsTicketOf shards capacity (record { request = request; since = since; saw = n; place = n; reply = Some reply }) (caller_by y)
      published_due =
          let c = notes.3 in
          let all = c.all in
          let shard_is : notes.0 ≡ index = some_same notes.0 index (sym notes.2 ∙ (ap (λ (x : NotedView Writing). x.shard) full ∙ at)) in
          let n_le : n ≤ notes.1 = last_upto notes.1 n b.notes note (subst (λ l. notes_up_to notes.1 l ≡ l) has_is all) in
          let long = known.long in
          subst (λ (x : Caller). IsTicketOf shards capacity (record { request = request; since = since; saw = n; place = n; reply = Some reply }) x) (sym out_is) record {
            key = key;
            write = write;
            named = named;
            at = length b.observations;
            entry = observation notes.0 notes.1 p.notes floor;
            there = at_last b.observations (observation notes.0 notes.1 p.notes floor) (length b.observations) refl;
            home = shard_is ∙ sym here;
            covers = n_le;
            since = omega arith;
            loaded = length b.seen;
            place_is = omega arith;
            known = omega arith;
            due = λ r is. inl record {
              write = note;
              earlier = b.notes;
              last = has_is;
              below = below;
              request_is = refl;
              by_is = refl;
              positive = positive;
              accepted = ap drew_revision (sym (same_Some reply r is) ∙ reply_is') ∙ is_told change (stamp change n);
              saw_is = refl;
              reply_is = sym (same_Some reply r is) ∙ (reply_is' ∙ (ap (λ m. accepted change (stamp change m)) (let e : n ≡ n - 1 + 1 = omega arith in e)
                  ∙ (ap (λ t. cond t (Refused StoreFull) (accepted change (stamp change (n - 1 + 1)))) (sym (ne_eqb (n - 1) capacity (λ e. omega arith))) ∙ ap (answered capacity (n - 1)) (sym judged))));
            };
          }

    module _ (spent : p ≡ with_plain b (used_up b.plain)) (within : length b.seen ≤ capacity) where
      out_none : caller_by y ≡ record (caller_by b) { observations = b.observations ++ observation notes.0 notes.1 p.notes floor ∷ [] }
      out_none = ap caller_by notes.4 ∙ ap (λ (x : NotedView Writing). record (caller_by x) { observations = x.observations ++ observation notes.0 notes.1 p.notes floor ∷ [] }) spent

      pub spent_due : IsTicketOf shards capacity (record { request = request; since = since; saw = capacity; place = capacity; reply = Some (Refused StoreFull) }) (caller_by y)
      spent_due =
          let c = notes.3 in
          let shard_is : notes.0 ≡ index = some_same notes.0 index (sym notes.2 ∙ (ap (λ (x : NotedView Writing). x.shard) spent ∙ at)) in
          let has_is : p.notes ≡ b.notes = ap (λ (x : NotedView Writing). x.notes) spent in
          let d_is : notes.1 ≡ capacity = c.spent (ap (λ (x : NotedView Writing). x.plain.spent) spent) ∙ sized in
          let low = last_le key notes.1 b.notes (subst (λ l. notes_up_to notes.1 l ≡ l) has_is c.all) in
          let state : current_of (notes_up_to capacity p.notes) key ≡ current_of b.notes key = ap (λ l. current_of (notes_up_to capacity l) key) has_is ∙ settled_state key capacity b.notes (omega arith) in
          subst (λ (x : Caller). IsTicketOf shards capacity (record { request = request; since = since; saw = capacity; place = capacity; reply = Some (Refused StoreFull) }) x) (sym out_none) record {
            key = key;
            write = write;
            named = named;
            at = length b.observations;
            entry = observation notes.0 notes.1 p.notes floor;
            there = at_last b.observations (observation notes.0 notes.1 p.notes floor) (length b.observations) refl;
            home = shard_is ∙ sym here;
            covers = omega arith;
            since = omega arith;
            loaded = length b.seen;
            place_is = omega arith;
            known = omega arith;
            due = λ r is. inr record {
              other = ap drew_revision (sym (same_Some (Refused StoreFull) r is));
              sees = inl (sym (same_Some (Refused StoreFull) r is), refl);
              reply_is = sym (same_Some (Refused StoreFull) r is) ∙ (ap (λ t. cond t (Refused StoreFull) (accepted change (stamp change (capacity + 1)))) (sym (eq-eqb capacity capacity refl)) ∙ ap (answered capacity capacity) (sym (ap (verdict request) state ∙ judged)));
            };
          }

  -- ---- a ticket is tried
  module _ (t : Ticket) (c c' : Caller) (f : ℕ) (mine : IsTicketOf shards capacity t c) (loaded : HasLoaded shards capacity c f c') where
    pub still_of : (r : Option Reply) → ((x : Reply) → r ≡ Some x → t.reply ≡ Some x) → IsTicketOf shards capacity (record t { reply = r }) c'
    still_of r kept = record {
      key = mine.key;
      write = mine.write;
      named = mine.named;
      at = mine.at;
      entry = mine.entry;
      there = subst (λ l. get_elem? l mine.at ≡ some mine.entry) (sym loaded.observations) mine.there;
      home = mine.home;
      covers = mine.covers;
      since = mine.since;
      loaded = mine.loaded;
      place_is = mine.place_is;
      known = let k = mine.known in let l = (let p = loaded.begins in let e = ap length p.1 in let s = length-append c.seen p.0 in (let q : length c.seen ≤ length c'.seen = omega arith in q)) in omega arith;
      due = λ x is. subst (λ m. IsWritten capacity (record t { reply = r }) mine.key m (mine.entry).notes x ⊎ IsAnswered capacity (record t { reply = r }) mine.key (mine.entry).notes x) (sym loaded.name) (⊎_elim
          (λ (u : IsWritten capacity t mine.key c.name (mine.entry).notes x). inl record { write = u.write; earlier = u.earlier; last = u.last; below = u.below; request_is = u.request_is; by_is = u.by_is; positive = u.positive; accepted = u.accepted; saw_is = u.saw_is; reply_is = u.reply_is })
          (λ (u : IsAnswered capacity t mine.key (mine.entry).notes x). inr record { other = u.other; reply_is = u.reply_is; sees = u.sees })
          (mine.due x (kept x is)));
    }

    module _ (reached : t.saw ≤ f) (own_is : notes_up_to (length c'.seen) c'.own_notes ≡ notes_of by_of c'.name 1 c'.seen) where
      long : length c'.seen ≡ f
      long = loaded.long

      place_le : t.place ≤ length c'.seen
      place_le = let k = mine.known in let e = mine.place_is in let q = long in let l = (let p = loaded.begins in let e = ap length p.1 in let s = length-append c.seen p.0 in (let q : length c.seen ≤ length c'.seen = omega arith in q)) in omega arith

      seen_le : length c'.seen ≤ capacity
      seen_le = let q = long in let w = loaded.within in omega arith

      -- the plain store's reply after a prefix of what was seen
      replies_at : (m : ℕ) → m ≤ t.place → (step (store_after capacity (take m c'.seen)) t.request).1 ≡ answered capacity m (verdict t.request (current_of (notes_up_to m (mine.entry).notes) mine.key))
      replies_at m le =
          let place = place_le in
          let size = seen_le in
          let q = long in
          let covers = mine.covers in
          let short : length (take m c'.seen) ≡ m = length-take-le m c'.seen (omega arith) in
          let legal = legal_front (home_of shards) Accepts (take m c'.seen) (drop m c'.seen) c'.seen (take-append-drop m c'.seen) loaded.legal in
          let shown : notes_up_to m (mine.entry).notes ≡ notes_of (home_of shards) (shard_of mine.key shards) 1 (take m c'.seen) = loaded.shown mine.at m mine.entry mine.there (omega arith) (omega arith) ∙ ap (λ i. notes_of (home_of shards) i 1 (take m c'.seen)) mine.home in
          reply_is shards capacity (take m c'.seen) legal (omega arith) t.request mine.key mine.write mine.named
          ∙ (ap (λ k. answered capacity k (verdict t.request (current_of (notes_of (home_of shards) (shard_of mine.key shards) 1 (take m c'.seen)) mine.key))) short
          ∙ ap (λ ps. answered capacity m (verdict t.request (current_of ps mine.key))) (sym shown))

      pub replied : (reply : Reply) → t.reply ≡ Some reply → IsReply capacity t reply c'
      replied reply is =
          let place = place_le in
          let size = seen_le in
          let legal = legal_front (home_of shards) Accepts (take t.place c'.seen) (drop t.place c'.seen) c'.seen (take-append-drop t.place c'.seen) loaded.legal in
          let short : length (take t.place c'.seen) ≡ t.place = length-take-le t.place c'.seen place in
          record {
            history = is_history shards capacity (take t.place c'.seen) legal (omega arith);
            long = short;
            since = mine.since;
            written = λ ok. ⊎_elim
                (λ (u : IsWritten capacity t mine.key c.name (mine.entry).notes reply). told u)
                (λ (u : IsAnswered capacity t mine.key (mine.entry).notes reply). absurd (true≢false (sym ok ∙ u.other)))
                (mine.due reply is);
            answered = λ no. ⊎_elim
                (λ (u : IsWritten capacity t mine.key c.name (mine.entry).notes reply). absurd (true≢false (sym u.accepted ∙ no)))
                (λ (u : IsAnswered capacity t mine.key (mine.entry).notes reply). u.reply_is ∙ sym (replies_at t.place (omega arith)))
                (mine.due reply is);
            took = λ ok. ⊎_elim
                (λ (u : IsWritten capacity t mine.key c.name (mine.entry).notes reply). u.saw_is)
                (λ (u : IsAnswered capacity t mine.key (mine.entry).notes reply). absurd (true≢false (sym ok ∙ u.other)))
                (mine.due reply is);
            saw = λ no. ⊎_elim
                (λ (u : IsWritten capacity t mine.key c.name (mine.entry).notes reply). absurd (true≢false (sym u.accepted ∙ no)))
                (λ (u : IsAnswered capacity t mine.key (mine.entry).notes reply). ⊎_elim
                (λ (full : (reply ≡ Refused StoreFull) × (t.saw ≡ capacity)). inl full)
                (λ (s : Saw (current_of (notes_up_to t.place (mine.entry).notes) mine.key) t.saw). inr (λ k named'. stands k (same_Some mine.key k (sym mine.named ∙ named')) s))
                u.sees)
                (mine.due reply is);
            own_notes = stood_take by_of c'.name t.place c'.seen c'.own_notes place own_is;
          }
        where
          stands : (k : Key) → mine.key ≡ k → Saw (current_of (notes_up_to t.place (mine.entry).notes) mine.key) t.saw → Saw (finite.get (store_after capacity (take t.place c'.seen)).objects k) t.saw
          stands k same s =
              let place = place_le in
              let size = seen_le in
              let q = long in
              let covers = mine.covers in
              let short : length (take t.place c'.seen) ≡ t.place = length-take-le t.place c'.seen place in
              let legal = legal_front (home_of shards) Accepts (take t.place c'.seen) (drop t.place c'.seen) c'.seen (take-append-drop t.place c'.seen) loaded.legal in
              let shown : notes_up_to t.place (mine.entry).notes ≡ notes_of (home_of shards) (shard_of mine.key shards) 1 (take t.place c'.seen) = loaded.shown mine.at t.place mine.entry mine.there covers (omega arith) ∙ ap (λ i. notes_of (home_of shards) i 1 (take t.place c'.seen)) mine.home in
              subst (λ (x : Key). Saw (finite.get (store_after capacity (take t.place c'.seen)).objects x) t.saw) same
              (subst (λ (o : Option Object). Saw o t.saw) (ap (λ ps. current_of ps mine.key) shown ∙ sym (get_is shards capacity (take t.place c'.seen) legal (omega arith) mine.key)) s)

          front : (xs : List Writing) (m j : ℕ) (w : Writing) → get_elem? (take m xs) j ≡ some w → get_elem? xs j ≡ some w
          front [] zero j w at' = at'
          front [] (suc m) j w at' = at'
          front (x ∷ xs) zero zero w at' = absurd (cc at')
          front (x ∷ xs) zero (suc j) w at' = absurd (cc at')
          front (x ∷ xs) (suc m) zero w at' = at'
          front (x ∷ xs) (suc m) (suc j) w at' = front xs m j w at'

          told : IsWritten capacity t mine.key c.name (mine.entry).notes reply → (w : Writing) × (0 < t.place) × (get_elem? c'.seen (t.place - 1) ≡ some w) × (w.request ≡ t.request) × (w.by ≡ c'.name) × (reply ≡ (step (store_after capacity (take (t.place - 1) c'.seen)) t.request).1)
          told u =
              let pos = u.positive in
              let place = place_le in
              let covers = mine.covers in
              let q = long in
              let e : List (ℕ × Writing) = u.earlier in
              let one : List (ℕ × Writing) = (t.place, u.write) ∷ [] in
              let all : notes_up_to t.place (mine.entry).notes ≡ e ++ one = ap (notes_up_to t.place) u.last ∙ (notes_up_to-append t.place e one ∙ (ap (λ l. l ++ notes_up_to t.place one) (upto_more (t.place - 1) t.place e u.below (omega arith)) ∙ ap (λ l. e ++ l) (upto_one t.place t.place u.write (omega arith)))) in
              let before : notes_up_to (t.place - 1) (mine.entry).notes ≡ e = ap (notes_up_to (t.place - 1)) u.last ∙ (notes_up_to-append (t.place - 1) e one ∙ (ap (λ l. l ++ notes_up_to (t.place - 1) one) u.below ∙ (ap (λ l. e ++ l) (upto_over (t.place - 1) t.place u.write (omega arith)) ∙ append-nil e))) in
              let shown : e ++ one ≡ notes_of (home_of shards) (mine.entry).shard 1 (take t.place c'.seen) = sym all ∙ loaded.shown mine.at t.place mine.entry mine.there covers (omega arith) in
              let there = stood_at (home_of shards) (mine.entry).shard 1 (take t.place c'.seen) (length e) t.place u.write (subst (λ l. get_elem? l (length e) ≡ some (t.place, u.write)) shown (at_last e (t.place, u.write) (length e) refl)) in
              (u.write, pos, front c'.seen t.place (t.place - 1) u.write there.1, u.request_is, u.by_is ∙ sym loaded.name, u.reply_is ∙ (ap (λ ps. answered capacity (t.place - 1) (verdict t.request (current_of ps mine.key))) (sym before) ∙ sym (replies_at (t.place - 1) (omega arith))))
