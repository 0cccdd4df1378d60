-- In a run of the plain store no pod is created while another one of its name lives.
use Rattle.std.proofs.Common.{◌≡◌, ℕ, zero-add, ◌+◌, Bool, true, false, cond, ◌&&◌, ◌||◌, not, List, [], ◌∷◌, ◌++◌, Option, Some, None, refl, sym, ap, ◌∙◌, subst, if◌then◌else◌}
use Rattle.std.specs.Prelude.{filter, flat_map, map}
use Rattle.std.specs.Option.{is_some}
use Rattle.std.specs.Ordering.{eq_by_cmp}
use Rattle.std.proofs.lemmas.Cmp.{eq_by_cmp_equiv}
use Rattle.objects.specs.declared.key.Key.{Key}
use Rattle.objects.specs.declared.object.Object.{Object}
use Rattle.objects.specs.Key.{key_cmp}
use Rattle.objects.specs.KeyOrder.{key_cmp_total}
use Rattle.requests.specs.declared.request.Request.{Request}
use Rattle.requests.specs.declared.reply.Reply.{Reply}
use Rattle.requests.specs.declared.reply.Reply.TheVariants.{Created, Found, Listed, Updated, Unchanged, Marked, Removed, Compacted, Refused}
use Rattle.requests.specs.declared.reply.Reason.{Reason}
use Rattle.plain_store.specs.Lives.{Event, begins, changes, lasts, ends, events, events_by, reply_events, is_about, AreLives, HasUidOf}
use Rattle.plain_store.specs.Route.{Route, compacts, gets, lists, lists_at, route, writes}
use Rattle.plain_store.specs.Run.{exchanges, replies}
use Rattle.plain_store.specs.Store.{Store, compacted_to, collection, denied, listed_at, map_at, opening, routed, step}
use Rattle.plain_store.proofs.EventLives.{lives_in_run}
use Rattle.race_log.specs.Twice.{is_alive, is_alive_after, is_pod, repeat_by, repeats}

-- nothing begins, changes or ends
abbrev OnlyLast : List Event → Type 0
OnlyLast [] = Unit {0}
OnlyLast (lasts o ∷ es) = OnlyLast es
OnlyLast (begins o ∷ es) = ⊥
OnlyLast (changes o ∷ es) = ⊥
OnlyLast (ends o ∷ es) = ⊥

-- what a reply shows of lives
abbrev Tells : Reply → List Event → Type 0
Tells (Created o) es = es ≡ begins o ∷ []
Tells (Updated o) es = es ≡ changes o ∷ []
Tells (Marked o) es = es ≡ changes o ∷ []
Tells (Removed o) es = es ≡ ends o ∷ []
Tells (Found o) es = OnlyLast es
Tells (Unchanged o) es = OnlyLast es
Tells (Listed os revision) es = OnlyLast es
Tells (Compacted revision) es = OnlyLast es
Tells (Refused reason) es = OnlyLast es

listed_last : (os : List Object) → OnlyLast (map lasts os)
listed_last [] = tt
listed_last (o ∷ os) = listed_last os

said_tells : (reply : Reply) → Tells reply (reply_events reply)
said_tells (Created o) = refl
said_tells (Updated o) = refl
said_tells (Marked o) = refl
said_tells (Removed o) = refl
said_tells (Found o) = tt
said_tells (Unchanged o) = tt
said_tells (Listed os revision) = listed_last os
said_tells (Compacted revision) = tt
said_tells (Refused reason) = tt

past_tells : (n : ℕ) (os : List Object) (denial : Option Reason) → Tells (listed_at n os denial) []
past_tells n os None = tt
past_tells n os (Some reason) = tt

compaction_tells : (s : Store) (n : ℕ) (denial : Option Reason) → Tells (compacted_to s n denial).1 []
compaction_tells s n None = tt
compaction_tells s n (Some reason) = tt

step_tells : (s : Store) (r : Request) → Tells (step s r).1 (events (r, (step s r).1))
unfolding step
step_tells s r = by (route r)
  where
    by : (x : Route) → Tells (routed s r x).1 (events_by x (routed s r x).1)
    by (gets k) = said_tells (routed s r (gets k)).1
    by (lists kind namespace) = said_tells (routed s r (lists kind namespace)).1
    by (writes k) = said_tells (routed s r (writes k)).1
    by (lists_at kind namespace n) = past_tells n (collection (map_at s n) kind namespace) (denied s.floor s.counter n)
    by (compacts n) = compaction_tells s n (denied s.floor s.counter n)

-- later events continue from an object that lives, or from none
abbrev GoesOn : Bool → List Event → Type 0
GoesOn alive later = (now : Option Object) × (AreLives now later × (is_some now ≡ alive))

begun : (b : Bool) (current : Option Object) (o : Object) (later : List Event) → AreLives current (cond b (begins o ∷ later) later)
    → GoesOn (b || is_some current) later
begun true current o later lives = (Some o, (lives.1, refl))
begun false current o later lives = (current, (lives, refl))

there : (current : Option Object) (o : Object) → HasUidOf o current → true ≡ is_some current
there None o has = absurd cc
there (Some p) o has = refl

changed : (b : Bool) (current : Option Object) (o : Object) (later : List Event) → AreLives current (cond b (changes o ∷ later) later)
    → GoesOn (is_some current) later
changed true current o later lives = (Some o, (lives.1, there current o lives.0))
changed false current o later lives = (current, (lives, refl))

ended : (b : Bool) (current : Option Object) (o : Object) (later : List Event) → AreLives current (cond b (ends o ∷ later) later)
    → GoesOn (not b && is_some current) later
ended true current o later lives = (None, (lives.1, refl))
ended false current o later lives = (current, (lives, refl))

lasted : (b : Bool) (current : Option Object) (o : Object) (later : List Event) → AreLives current (cond b (lasts o ∷ later) later) → AreLives current later
lasted true current o later lives = lives.1
lasted false current o later lives = lives

abbrev about : Key → List Event → List Event
about key es = filter (is_about key) es

only_lasted : (key : Key) (current : Option Object) (es later : List Event) → OnlyLast es → AreLives current (about key (es ++ later)) → AreLives current (about key later)
only_lasted key current [] later only lives = lives
only_lasted key current (lasts o ∷ es) later only lives =
    only_lasted key current es later only (lasted (eq_by_cmp key_cmp key o.key) current o (about key (es ++ later)) lives)
only_lasted key current (begins o ∷ es) later only lives = absurd only
only_lasted key current (changes o ∷ es) later only lives = absurd only
only_lasted key current (ends o ∷ es) later only lives = absurd only

-- what a reply shows of a key leaves it alive, or not
goes_on : (key : Key) (current : Option Object) (reply : Reply) (es later : List Event) → Tells reply es → AreLives current (about key (es ++ later))
    → GoesOn (is_alive_after reply key (is_some current)) (about key later)
goes_on key current (Created o) es later tells lives =
    begun (eq_by_cmp key_cmp key o.key) current o (about key later) (subst (λ e. AreLives current (about key (e ++ later))) tells lives)
goes_on key current (Updated o) es later tells lives =
    changed (eq_by_cmp key_cmp key o.key) current o (about key later) (subst (λ e. AreLives current (about key (e ++ later))) tells lives)
goes_on key current (Marked o) es later tells lives =
    changed (eq_by_cmp key_cmp key o.key) current o (about key later) (subst (λ e. AreLives current (about key (e ++ later))) tells lives)
goes_on key current (Removed o) es later tells lives =
    ended (eq_by_cmp key_cmp key o.key) current o (about key later) (subst (λ e. AreLives current (about key (e ++ later))) tells lives)
goes_on key current (Found o) es later tells lives = (current, (only_lasted key current es later tells lives, refl))
goes_on key current (Unchanged o) es later tells lives = (current, (only_lasted key current es later tells lives, refl))
goes_on key current (Listed os revision) es later tells lives = (current, (only_lasted key current es later tells lives, refl))
goes_on key current (Compacted revision) es later tells lives = (current, (only_lasted key current es later tells lives, refl))
goes_on key current (Refused reason) es later tells lives = (current, (only_lasted key current es later tells lives, refl))

key_self : (key : Key) → eq_by_cmp key_cmp key key ≡ true
key_self key = (eq_by_cmp_equiv key_cmp_total).refl key

none_before : (b : Bool) (current : Option Object) (o : Object) (later : List Event) → b ≡ true → AreLives current (cond b (begins o ∷ later) later) → is_some current ≡ false
none_before true current o later is lives = ap is_some lives.0
none_before false current o later is lives = absurd cc

no_repeat : (pod alive : Bool) → alive ≡ false → ◌≡◌ {A = ℕ} (if pod && alive then 1 else 0) 0
no_repeat true alive is = ap (λ a. if a then 1 else 0) is
no_repeat false alive is = refl

-- after earlier replies, the newest first, the keys that live are those for which later events say so
abbrev Agrees : List Event → List Reply → Type 0
Agrees later earlier = (key : Key) → (current : Option Object) × (AreLives current (about key later) × (is_some current ≡ is_alive key earlier))

not_again : (reply : Reply) (es later : List Event) (earlier : List Reply) → Tells reply es → Agrees (es ++ later) earlier → repeat_by reply earlier ≡ 0
not_again (Created o) es later earlier tells agrees =
    let known = agrees o.key in
    let lives = subst (λ e. AreLives known.0 (about o.key (e ++ later))) tells known.1.0 in
    no_repeat (is_pod o.key.kind) (is_alive o.key earlier)
    (sym known.1.1 ∙ none_before (eq_by_cmp key_cmp o.key o.key) known.0 o (about o.key later) (key_self o.key) lives)
not_again (Updated o) es later earlier tells agrees = refl
not_again (Marked o) es later earlier tells agrees = refl
not_again (Removed o) es later earlier tells agrees = refl
not_again (Found o) es later earlier tells agrees = refl
not_again (Unchanged o) es later earlier tells agrees = refl
not_again (Listed os revision) es later earlier tells agrees = refl
not_again (Compacted revision) es later earlier tells agrees = refl
not_again (Refused reason) es later earlier tells agrees = refl

agrees_on : (reply : Reply) (es later : List Event) (earlier : List Reply) → Tells reply es → Agrees (es ++ later) earlier → Agrees later (reply ∷ earlier)
agrees_on reply es later earlier tells agrees key =
    let known = agrees key in
    let on = goes_on key known.0 reply es later tells known.1.0 in
    (on.0, (on.1.0, on.1.1 ∙ ap (is_alive_after reply key) known.1.1))

-- the replies after earlier ones, the newest first
abbrev pub onto : List Reply → List Reply → List Reply
onto [] earlier = earlier
onto (reply ∷ later) earlier = onto later (reply ∷ earlier)

none_twice : (s : Store) (rs : List Request) (earlier : List Reply) → Agrees (flat_map events (exchanges s rs)) earlier → repeats earlier ≡ 0
    → repeats (onto (replies s rs) earlier) ≡ 0
none_twice s [] earlier agrees none = none
none_twice s (r ∷ rs) earlier agrees none =
    let reply = (step s r).1 in
    let es = events (r, reply) in
    let later = flat_map events (exchanges (step s r).0 rs) in
    none_twice (step s r).0 rs (reply ∷ earlier) (agrees_on reply es later earlier (step_tells s r) agrees)
    (ap (λ n. n + repeats earlier) (not_again reply es later earlier (step_tells s r) agrees) ∙ zero-add (repeats earlier) ∙ none)

pub none_twice_in_run : (capacity : ℕ) (rs : List Request) → repeats (onto (replies (opening capacity) rs) []) ≡ 0
none_twice_in_run capacity rs = none_twice (opening capacity) rs [] (λ key. (None, (lives_in_run capacity rs key, refl))) refl
