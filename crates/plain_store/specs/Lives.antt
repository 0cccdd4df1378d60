-- The lives of the objects of one key, as a run's requests and their replies show them (Kubernetes API concepts: a name
-- is given to one object at a time, and a UID to one object ever).
use Rattle.std.specs.Prelude.{◌≡◌, Bool, List, [], ◌∷◌, filter, flat_map, map, Option, Some, None, option_map, ⊤}
use Rattle.std.specs.Ordering.{eq_by_cmp}
use Rattle.objects.specs.declared.key.Key.{Key}
use Rattle.objects.specs.declared.object.Object.{Object}
use Rattle.objects.specs.Key.{key_cmp}
use Rattle.requests.specs.declared.request.Request.{Request}
use Rattle.requests.specs.declared.reply.Reply.{Reply}
use Rattle.requests.specs.declared.reply.Reply.TheVariants.{Created, Found, Listed, Updated, Unchanged, Marked, Removed, Compacted, Refused}
use Rattle.plain_store.specs.Route.{Route, compacts, gets, lists, lists_at, route, writes}

-- what a reply says of an object: that its life begins with it as it is here, that it is written again or read, that it
-- ends
pub data Event : Type 0 where
  begins : Object → Event
  changes : Object → Event
  lasts : Object → Event
  ends : Object → Event

-- the events of a reply of now: a list has one for each of its objects
abbrev pub reply_events : Reply → List Event
reply_events (Created o) = begins o ∷ []
reply_events (Updated o) = changes o ∷ []
reply_events (Marked o) = changes o ∷ []
reply_events (Found o) = lasts o ∷ []
reply_events (Unchanged o) = lasts o ∷ []
reply_events (Removed o) = ends o ∷ []
reply_events (Listed os revision) = map lasts os
reply_events (Compacted revision) = []
reply_events (Refused reason) = []

abbrev pub events_by : Route → Reply → List Event
events_by (gets key) reply = reply_events reply
events_by (lists kind namespace) reply = reply_events reply
events_by (writes key) reply = reply_events reply
events_by (lists_at kind namespace number) reply = []
events_by (compacts to) reply = []

-- what a request and its reply show: a list at an exact resource version is no witness of now
abbrev pub events : Request × Reply → List Event
events e = events_by (route e.0) e.1

abbrev pub is_about : Key → Event → Bool
is_about key (begins o) = eq_by_cmp key_cmp key o.key
is_about key (changes o) = eq_by_cmp key_cmp key o.key
is_about key (lasts o) = eq_by_cmp key_cmp key o.key
is_about key (ends o) = eq_by_cmp key_cmp key o.key

-- what they show of the objects of that key, in order
abbrev pub events_of : Key → List (Request × Reply) → List Event
events_of key es = filter (is_about key) (flat_map events es)

-- there is an object, and it has this one's UID
abbrev pub HasUidOf : Object → Option Object → Type 0
HasUidOf o current = option_map (λ (x : Object). x.meta.uid) current ≡ Some o.meta.uid

-- One life after another, where `current` is the object that lives, if one does, as it was written last. A life begins
-- only if there is none; what is read is what was written last; what is written again, or ends, has the UID of the one
-- that lives.
abbrev pub AreLives : Option Object → List Event → Type 0
AreLives current [] = ⊤
AreLives current (begins o ∷ later) = (current ≡ None) × AreLives (Some o) later
AreLives current (changes o ∷ later) = HasUidOf o current × AreLives (Some o) later
AreLives current (lasts o ∷ later) = (current ≡ Some o) × AreLives current later
AreLives current (ends o ∷ later) = HasUidOf o current × AreLives None later
