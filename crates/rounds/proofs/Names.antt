-- Between two creates of a key is a removal.
use Rattle.std.proofs.Common.{◌≡◌, inl, inr, ℕ, Bool, true, false, cond, List, [], ◌∷◌, ◌++◌, append_assoc, Option, Some, None, refl, sym, ap, subst, ◌∙◌}
use Rattle.std.specs.Prelude.{filter, flat_map, map}
use Rattle.std.specs.Cmp.{tied_itself}
use Rattle.std.specs.Ordering.{eq_by_cmp, is_eq}
use Rattle.std.proofs.lemmas.List.Elements.{filter-append}
use Rattle.std.proofs.lemmas.Option.{none-some, same_Some}
use Rattle.objects.specs.declared.key.Key.{Key}
use Rattle.objects.specs.declared.object.Object.{Object}
use Rattle.objects.specs.Key.{key_cmp}
use Rattle.objects.specs.KeyOrder.{key_cmp_total}
use Rattle.requests.specs.declared.request.Request.{Request}
use Rattle.requests.specs.declared.reply.Reason.{Reason}
use Rattle.requests.specs.declared.reply.Reply.{Reply}
use Rattle.requests.specs.declared.reply.Reply.TheVariants.{Created, Found, Listed, Updated, Unchanged, Marked, Removed, Compacted, Refused}
use Rattle.plain_store.specs.Lives.{Event, begins, changes, lasts, ends, events, events_by, events_of, reply_events, is_about, AreLives}
use Rattle.plain_store.specs.Route.{Route, compacts, gets, lists, lists_at, route, writes}
use Rattle.plain_store.specs.Run.{exchanges}
use Rattle.plain_store.specs.Store.{Store, compacted_to, denied, listed_at, opening, routed, step}
use Rattle.plain_store.proofs.EventLives.{lives_in_run}
use Rattle.plain_store.proofs.Verdicts.{tied}
use Rattle.requests.specs.Lists.{Has}
use Rattle.rounds.specs.Accepted.{Creates, HasRemoval}
use Rattle.rounds.specs.Transcript.{Exchange}
use Rattle.rounds.proofs.Lists.{among_either, same_first, same_rest}

-- what the exchanges say of a key
told : Key → List Exchange → List Event
told key [] = []
told key (e ∷ es) = filter (is_about key) (events e) ++ told key es

told_is : (key : Key) (es : List Exchange) → told key es ≡ events_of key es
unfolding told
told_is key [] = refl
told_is key (e ∷ es) = ap (λ l. filter (is_about key) (events e) ++ l) (told_is key es) ∙ sym (filter-append (is_about key) (events e) (flat_map events es))

told-append : (key : Key) (es fs : List Exchange) → told key (es ++ fs) ≡ told key es ++ told key fs
unfolding told
told-append key [] fs = refl
told-append key (e ∷ es) fs =
    ap (λ l. filter (is_about key) (events e) ++ l) (told-append key es fs) ∙ sym (append_assoc (filter (is_about key) (events e)) (told key es) (told key fs))

-- ---- creates

none_listed : (n : ℕ) (objects : List Object) (denial : Option Reason) (o : Object) → listed_at n objects denial ≡ Created o → ⊥
none_listed n objects None o is = cc
none_listed n objects (Some reason) o is = cc

none_compacted : (s : Store) (n : ℕ) (denial : Option Reason) (o : Object) → (compacted_to s n denial).1 ≡ Created o → ⊥
none_compacted s n None o is = cc
none_compacted s n (Some reason) o is = cc

begun : (s : Store) (r : Request) (o : Object) (about : Route) → (routed s r about).1 ≡ Created o → events_by about (Created o) ≡ begins o ∷ []
begun s r o (gets key) is = refl
begun s r o (lists kind namespace) is = refl
begun s r o (writes key) is = refl
begun s r o (lists_at kind namespace n) is = absurd (none_listed n _ (denied s.floor s.counter n) o is)
begun s r o (compacts n) is = absurd (none_compacted s n (denied s.floor s.counter n) o is)

created : (s : Store) (e : Exchange) (o : Object) → e.1 ≡ (step s e.0).1 → Creates e o → events e ≡ begins o ∷ []
unfolding step
created s e o answered creates = ap (λ reply. events (e.0, reply)) creates ∙ begun s e.0 o (route e.0) (sym answered ∙ creates)

told_create : (key : Key) (e : Exchange) (o : Object) (es : List Exchange) → events e ≡ begins o ∷ [] → eq_by_cmp key_cmp key o.key ≡ true → told key (e ∷ es) ≡ begins o ∷ told key es
unfolding told
told_create key e o es is tie =
    ap (λ xs. filter (is_about key) xs ++ told key es) is ∙ ap (λ b. cond b (begins o ∷ []) [] ++ told key es) tie

-- ---- lives

-- what lives after some events
living : (current : Option Object) (xs ys : List Event) → AreLives current (xs ++ ys) → (now : Option Object) × AreLives now ys
living current [] ys lives = (current, lives)
living current (begins o ∷ xs) ys lives = living (Some o) xs ys lives.1
living current (changes o ∷ xs) ys lives = living (Some o) xs ys lives.1
living current (lasts o ∷ xs) ys lives = living current xs ys lives.1
living current (ends o ∷ xs) ys lives = living None xs ys lives.1

record IsEnd (uid : ℕ) (xs : List Event) : Type 0 where
  removed : Object
  among : Has (ends removed) xs
  uid_is : removed.meta.uid ≡ uid

later_end : (uid : ℕ) (x : Event) (xs : List Event) → IsEnd uid xs → IsEnd uid (x ∷ xs)
later_end uid x xs end = record { removed = end.removed; among = inr end.among; uid_is = end.uid_is }

-- before the next one of the name begins, this one ends
ended : (o : Object) (uid : ℕ) (xs ys : List Event) (p : Object) → o.meta.uid ≡ uid → AreLives (Some o) (xs ++ begins p ∷ ys) → IsEnd uid xs
ended o uid [] ys p is lives = absurd (none-some o (sym lives.0))
ended o uid (begins q ∷ xs) ys p is lives = absurd (none-some o (sym lives.0))
ended o uid (changes q ∷ xs) ys p is lives = later_end uid (changes q) xs (ended q uid xs ys p (sym (same_Some _ _ lives.0) ∙ is) lives.1)
ended o uid (lasts q ∷ xs) ys p is lives = later_end uid (lasts q) xs (ended o uid xs ys p is lives.1)
ended o uid (ends q ∷ xs) ys p is lives = record { removed = q; among = inl refl; uid_is = sym (same_Some _ _ lives.0) ∙ is }

-- ---- removals

none_lasts : (q : Object) (os : List Object) → Has (ends q) (map lasts os) → ⊥
none_lasts q [] at = at
none_lasts q (o ∷ os) (inl is) = cc
none_lasts q (o ∷ os) (inr at) = none_lasts q os at

one_end : (q : Object) (x : Event) (P : Type 0) → (ends q ≡ x → P) → Has (ends q) (x ∷ []) → P
one_end q x P is (inl e) = is e
one_end q x P is (inr at) = absurd at

removal : (q : Object) (reply : Reply) → Has (ends q) (reply_events reply) → reply ≡ Removed q
removal q (Created o) at = one_end q (begins o) (Created o ≡ Removed q) (λ e. cc) at
removal q (Updated o) at = one_end q (changes o) (Updated o ≡ Removed q) (λ e. cc) at
removal q (Marked o) at = one_end q (changes o) (Marked o ≡ Removed q) (λ e. cc) at
removal q (Found o) at = one_end q (lasts o) (Found o ≡ Removed q) (λ e. cc) at
removal q (Unchanged o) at = one_end q (lasts o) (Unchanged o ≡ Removed q) (λ e. cc) at
removal q (Removed o) at = one_end q (ends o) (Removed o ≡ Removed q) (λ e. cc) at
removal q (Listed os n) at = absurd (none_lasts q os at)
removal q (Compacted n) at = absurd at
removal q (Refused reason) at = absurd at

removal_by : (q : Object) (about : Route) (reply : Reply) → Has (ends q) (events_by about reply) → reply ≡ Removed q
removal_by q (gets key) reply at = removal q reply at
removal_by q (lists kind namespace) reply at = removal q reply at
removal_by q (writes key) reply at = removal q reply at
removal_by q (lists_at kind namespace n) reply at = absurd at
removal_by q (compacts n) reply at = absurd at

kept_by : (key : Key) (q : Object) (x : Event) (xs : List Event) (b : Bool) → is_about key x ≡ b → (Has (ends q) (filter (is_about key) xs) → Has (ends q) xs × (is_about key (ends q) ≡ true))
    → Has (ends q) (cond b (x ∷ filter (is_about key) xs) (filter (is_about key) xs)) → Has (ends q) (x ∷ xs) × (is_about key (ends q) ≡ true)
kept_by key q x xs true is later (inl e) = (inl e, ap (is_about key) e ∙ is)
kept_by key q x xs true is later (inr at) = let l = later at in (inr l.0, l.1)
kept_by key q x xs false is later at = let l = later at in (inr l.0, l.1)

kept : (key : Key) (q : Object) (xs : List Event) → Has (ends q) (filter (is_about key) xs) → Has (ends q) xs × (is_about key (ends q) ≡ true)
kept key q [] at = absurd at
kept key q (x ∷ xs) at = kept_by key q x xs (is_about key x) refl (kept key q xs) at

later_removal : (o : Object) (e : Exchange) (es : List Exchange) → HasRemoval o es → HasRemoval o (e ∷ es)
later_removal o e es is =
    record { exchange = is.exchange; stands = inr is.stands; removed = is.removed; removes = is.removes; key_is = is.key_is; uid_is = is.uid_is }

found_removal : (o q : Object) (es : List Exchange) → q.meta.uid ≡ o.meta.uid → Has (ends q) (told o.key es) → HasRemoval o es
unfolding told
found_removal o q [] same at = absurd at
found_removal o q (e ∷ es) same at =
    elim (among_either (ends q) (filter (is_about o.key) (events e)) (told o.key es) at) [
      | inl here ↦ (let k = kept o.key q (events e) here in
          record { exchange = e; stands = inl refl; removed = q; removes = removal_by q (route e.0) e.1 k.0; key_is = sym (tied o.key q.key k.1); uid_is = same })
      | inr later ↦ later_removal o e es (found_removal o q es same later)
    ]

-- ---- the law

-- each reply of a run is a store's
answered : (s : Store) (rs : List Request) (before : List Exchange) (x : Exchange) (rest : List Exchange) → exchanges s rs ≡ before ++ (x ∷ rest)
    → (t : Store) × (x.1 ≡ (step t x.0).1)
answered s [] [] x rest is = cc
answered s [] (b ∷ before) x rest is = cc
answered s (r ∷ rs) [] x rest is =
    (s, subst (λ (e : Exchange). e.1 ≡ (step s e.0).1) (same_first (r, (step s r).1) x (exchanges (step s r).0 rs) rest is) refl)
answered s (r ∷ rs) (b ∷ before) x rest is =
    answered (step s r).0 rs before x rest (same_rest (r, (step s r).1) b (exchanges (step s r).0 rs) (before ++ (x ∷ rest)) is)

itself : (key : Key) → eq_by_cmp key_cmp key key ≡ true
itself key = ap is_eq (tied_itself key_cmp_total key)

pub names_freed : (capacity : ℕ) (rs : List Request) (before between later : List Exchange) (x y : Exchange) (o p : Object)
    → exchanges (opening capacity) rs ≡ before ++ (x ∷ (between ++ (y ∷ later))) → Creates x o → Creates y p → o.key ≡ p.key → HasRemoval o between
names_freed capacity rs before between later x y o p is first second same =
    let one = answered (opening capacity) rs before x (between ++ (y ∷ later)) is in
    let two = answered (opening capacity) rs (before ++ (x ∷ between)) y later (is ∙ sym (append_assoc before (x ∷ between) (y ∷ later))) in
    let rest = told-append o.key between (y ∷ later) ∙ ap (λ l. told o.key between ++ l)
    (told_create o.key y p later (created two.0 y p two.1 second) (subst (λ k. eq_by_cmp key_cmp o.key k ≡ true) same (itself o.key))) in
    let all = told-append o.key before (x ∷ (between ++ (y ∷ later))) ∙ ap (λ l. told o.key before ++ l)
    (told_create o.key x o (between ++ (y ∷ later)) (created one.0 x o one.1 first) (itself o.key) ∙ ap (λ l. begins o ∷ l) rest) in
    let lives = subst (AreLives None) (ap (events_of o.key) is ∙ sym (told_is o.key (before ++ (x ∷ (between ++ (y ∷ later))))) ∙ all) (lives_in_run capacity rs o.key) in
    let now = living None (told o.key before) (begins o ∷ (told o.key between ++ (begins p ∷ told o.key later))) lives in
    let end = ended o o.meta.uid (told o.key between) (told o.key later) p refl now.1.1 in
    found_removal o end.removed between end.uid_is end.among
