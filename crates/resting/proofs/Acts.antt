-- What a list of writes leaves under the key of a pod: nothing that they do not name, a pod that was created, one that was marked.
use Rattle.std.proofs.Common.{◌≡◌, ◌≢◌, ◌⊎◌, inl, inr, ◌+◌, ◌≤◌, ◌<◌, ℕ, true, false, if◌then◌else◌, List, [], ◌∷◌, length, Some, None, arith, refl, sym, ap, ◌∙◌, subst}
use Rattle.std.specs.FinMap as finite
use Rattle.std.specs.List.{AllByRecursion}
use Rattle.std.specs.Option.{is_some}
use Rattle.objects.specs.declared.key.Key.{Key}
use Rattle.objects.specs.declared.kind.Kind.{Kind}
use Rattle.objects.specs.declared.kind.Kind.TheVariants.{Pod}
use Rattle.objects.specs.declared.object.Object.{Object}
use Rattle.objects.specs.Uid.{uid_text}
use Rattle.requests.specs.declared.request.Request.{Request}
use Rattle.requests.specs.declared.request.Request.TheVariants.{Create, Delete}
use Rattle.requests.specs.declared.reply.Reply.{Reply}
use Rattle.requests.specs.declared.reply.Reply.TheVariants.{Refused, Unchanged}
use Rattle.requests.specs.declared.reply.Reason.TheVariants.{AlreadyExists, Conflict}
use Rattle.requests.specs.declared.verdict.Verdict.TheVariants.{Refuse, Same, Write}
use Rattle.requests.specs.Change.{accepted, creates, marks, stamp}
use Rattle.requests.specs.Keys.{key_named}
use Rattle.requests.specs.Lists.{Has as Among}
use Rattle.requests.specs.Verdict.{born, deleted, graceful, marked, on_create, on_delete}
use Rattle.plain_store.specs.AtKey.{Has}
use Rattle.plain_store.specs.Route.{route}
use Rattle.plain_store.specs.Run.{after}
use Rattle.plain_store.specs.Store.{Store, carried_out, step, with_change}
use Rattle.plain_store.proofs.OneKey.{step_elsewhere}
use Rattle.plain_store.proofs.Moves.{Moves, idle, moves, raised, wrote}
use Rattle.plain_store.proofs.Past.{counter_step}
use Rattle.rounds.specs.Drafts.{draft}
use Rattle.resting.proofs.Turns.{carried, same_text, written}

capacity_move : (s t : Store) → Moves s t → t.capacity ≡ s.capacity
capacity_move s t (idle is) = ap (λ (x : Store). x.capacity) is
capacity_move s t (wrote k now room is) = ap (λ (x : Store). x.capacity) is
capacity_move s t (raised n from upto is) = ap (λ (x : Store). x.capacity) is

pub capacity_step : (s : Store) (r : Request) → (step s r).0.capacity ≡ s.capacity
capacity_step s r = capacity_move s (step s r).0 (moves s r)

-- ---- a key that no request names
abbrev pub IsElsewhere : Key → Request → Type 0
IsElsewhere k r = Some k ≡ key_named r → ⊥

pub untouched : (s : Store) (k : Key) (rs : List Request) → AllByRecursion (IsElsewhere k) rs → finite.get (after s rs).objects k ≡ finite.get s.objects k
untouched s k [] all = refl
untouched s k (r ∷ rs) all = untouched (step s r).0 k rs all.1 ∙ step_elsewhere s r k all.0

-- ---- a pod that is created
-- the request creates one of these objects under the key, or is about another key
abbrev pub CreatesAt : (Object → Type 0) → Key → Request → Type 0
CreatesAt Wanted k r = IsElsewhere k r ⊎ ((o : Object) × (o.key ≡ k) × Wanted o × (r ≡ Create (draft o)))

create_taken : (s : Store) (o p : Object) → Has s o.key p → step s (Create (draft o)) ≡ (s, Refused AlreadyExists)
unfolding step route
create_taken s o p there = ap (λ x. carried_out s o.key (on_create (draft o) x)) there

pub create_free : (s : Store) (o : Object) → finite.get s.objects o.key ≡ None → s.counter < s.capacity → step s (Create (draft o)) ≡ (with_change s o.key (creates (born o)), accepted (creates (born o)) (stamp (creates (born o)) (s.counter + 1)))
unfolding step route
create_free s o free room = ap (λ x. carried_out s o.key (on_create (draft o) x)) free ∙ carried s o.key (creates (born o)) room

module _ (Wanted : Object → Type 0) (k : Key) where
  kept_one : (s : Store) (p : Object) (r : Request) → Has s k p → CreatesAt Wanted k r → Has (step s r).0 k p
  kept_one s p r there (inl other) = step_elsewhere s r k other ∙ there
  kept_one s p r there (inr (o, key, wanted, is)) =
      let P : Request → Type 0 = λ x. finite.get (step s x).0.objects k ≡ Some p in
      let Q : Key → Type 0 = λ q. Has s q p in
      let same = create_taken s o p (subst Q (sym key) there) in
      subst P (sym is) (ap (λ (x : Store × Reply). finite.get x.0.objects k) same ∙ there)

  kept_all : (s : Store) (p : Object) (rs : List Request) → Has s k p → AllByRecursion (CreatesAt Wanted k) rs → Has (after s rs) k p
  kept_all s p [] there all = there
  kept_all s p (r ∷ rs) there all = kept_all (step s r).0 p rs (kept_one s p r there all.0) all.1

  abbrev pub IsMade : Store → Type 0
  IsMade s = (o : Object) × (n : ℕ) × (o.key ≡ k) × Wanted o × Has s k (stamp (creates (born o)) n)

  made_one : (s : Store) (r : Request) → finite.get s.objects k ≡ None → s.counter < s.capacity → (o : Object) → o.key ≡ k → Wanted o → r ≡ Create (draft o) → IsMade (step s r).0
  made_one s r free room o key wanted is =
      let P : Request → Type 0 = λ x. IsMade (step s x).0 in
      let Q : Key → Type 0 = λ q. finite.get s.objects q ≡ None in
      let done = create_free s o (subst Q (sym key) free) room in
      let at : finite.get (with_change s o.key (creates (born o))).objects k ≡ Some (stamp (creates (born o)) (s.counter + 1)) =
      ap (finite.get (with_change s o.key (creates (born o))).objects) (sym key) ∙ written s o.key (stamp (creates (born o)) (s.counter + 1)) in
      subst P (sym is) (o, s.counter + 1, key, wanted, ap (λ (x : Store × Reply). finite.get x.0.objects k) done ∙ at)

  pub made : (s : Store) (rs : List Request) (r : Request) → finite.get s.objects k ≡ None → s.counter + length rs ≤ s.capacity → AllByRecursion (CreatesAt Wanted k) rs → Among r rs → Some k ≡ key_named r → IsMade (after s rs)
  made s [] r free room all at named = absurd at
  made s (x ∷ rs) r free room all at named =
      let more = (counter_step s x).1 in
      let same = capacity_step s x in
      let after_it : IsElsewhere k x → Among r rs → IsMade (after (step s x).0 rs) =
      λ other later. made (step s x).0 rs r (step_elsewhere s x k other ∙ free) (omega (arith, room, more, same)) all.1 later named in
      elim (all.0) [
        | inl other ↦ elim at [
          | inl is ↦ absurd (other (named ∙ ap key_named is))
          | inr later ↦ after_it other later
        ]
        | inr creation ↦
            let m = made_one s x free (omega (arith, room)) creation.0 creation.1 creation.2 creation.3 in
            (m.0, m.1, m.2, m.3, kept_all (step s x).0 (stamp (creates (born m.0)) m.1) rs m.4 all.1)
      ]

-- ---- a pod that is deleted
pub record IsSame (before after : Object) : Type 0 where
  pub key : after.key ≡ before.key
  pub uid : after.meta.uid ≡ before.meta.uid
  pub body : after.body ≡ before.body

pub same_itself : (o : Object) → IsSame o o
same_itself o = record { key = refl; uid = refl; body = refl }

abbrev delete_of : Object → List ℕ → Request
delete_of o moment = Delete o.key (Some (uid_text o.meta.uid)) None (Some moment)

at_moment : (kind : Kind) (moment : List ℕ) → kind ≡ Pod → moment ≢ [] → graceful kind (Some moment) ≡ Some moment
at_moment kind [] is some = absurd (some refl)
at_moment kind (c ∷ cs) is some = ap (λ x. graceful x (Some (c ∷ cs))) is

module _ (o : Object) (moment : List ℕ) (pod : o.key.kind ≡ Pod) (some : moment ≢ []) where
  -- the request deletes that object, or is about another key
  abbrev pub DeletesIt : Request → Type 0
  DeletesIt r = IsElsewhere o.key r ⊎ (r ≡ delete_of o moment)

  -- the object is there, marked
  abbrev pub IsMarkedThere : Store → Type 0
  IsMarkedThere s = (q : Object) × Has s o.key q × IsSame o q × (is_some q.meta.deletion ≡ true)

  delete_is : (s : Store) (p : Object) → Has s o.key p → IsSame o p → step s (delete_of o moment) ≡ carried_out s o.key (deleted (Some moment) p)
  unfolding step route
  delete_is s p there same =
      ap (λ x. carried_out s o.key (on_delete None (Some (uid_text o.meta.uid)) (Some moment) x)) there
      ∙ ap (λ (n : ℕ). carried_out s o.key (on_delete None (Some (uid_text n)) (Some moment) (Some p))) (sym same.uid)
      ∙ ap (λ b. carried_out s o.key (if b then Refuse Conflict else deleted (graceful p.key.kind (Some moment)) p)) (same_text (uid_text p.meta.uid))
      ∙ ap (λ at. carried_out s o.key (deleted at p)) (at_moment p.key.kind moment (ap (λ (q : Key). q.kind) same.key ∙ pod) some)

  mark_it : (s : Store) (p : Object) → Has s o.key p → IsSame o p → s.counter < s.capacity → IsMarkedThere (step s (delete_of o moment)).0
  mark_it s p there same room =
      let P : Store × Reply → Type 0 = λ x. IsMarkedThere x.0 in
      elim (is_some p.meta.deletion) as (λ b. is_some p.meta.deletion ≡ b → IsMarkedThere (step s (delete_of o moment)).0) [
        | true ↦ λ gone.
            let done : step s (delete_of o moment) ≡ (s, Unchanged p) = delete_is s p there same ∙ ap (λ b. carried_out s o.key (if b then Same p else Write (marks (marked moment p)))) gone in
            subst P (sym done) (p, there, same, gone)
        | false ↦ λ staying.
            let c = marks (marked moment p) in
            let done : step s (delete_of o moment) ≡ (with_change s o.key c, accepted c (stamp c (s.counter + 1))) =
            delete_is s p there same ∙ ap (λ b. carried_out s o.key (if b then Same p else Write (marks (marked moment p)))) staying ∙ carried s o.key c room in
            subst P (sym done) (stamp c (s.counter + 1), written s o.key (stamp c (s.counter + 1)), record { key = same.key; uid = same.uid; body = same.body }, refl)
      ] refl

  stays_marked : (s : Store) (rs : List Request) → IsMarkedThere s → s.counter + length rs ≤ s.capacity → AllByRecursion DeletesIt rs → IsMarkedThere (after s rs)
  stays_marked s [] there room all = there
  stays_marked s (r ∷ rs) there room all =
      let more = (counter_step s r).1 in
      let same = capacity_step s r in
      let P : Request → Type 0 = λ x. IsMarkedThere (step s x).0 in
      let next : IsMarkedThere (step s r).0 = elim (all.0) [
        | inl other ↦ (there.0, step_elsewhere s r o.key other ∙ there.1, there.2, there.3)
        | inr is ↦ subst P (sym is) (mark_it s there.0 there.1 there.2 (omega (arith, room)))
      ] in
      stays_marked (step s r).0 rs next (omega (arith, room, more, same)) all.1

  pub marks_it : (s : Store) (rs : List Request) (r : Request) → Has s o.key o → s.counter + length rs ≤ s.capacity → AllByRecursion DeletesIt rs → Among r rs → Some o.key ≡ key_named r → IsMarkedThere (after s rs)
  marks_it s [] r there room all at named = absurd at
  marks_it s (x ∷ rs) r there room all at named =
      let more = (counter_step s x).1 in
      let same = capacity_step s x in
      let room_then : (step s x).0.counter + length rs ≤ (step s x).0.capacity = omega (arith, room, more, same) in
      let P : Request → Type 0 = λ y. IsMarkedThere (step s y).0 in
      elim (all.0) [
        | inl other ↦ elim at [
          | inl is ↦ absurd (other (named ∙ ap key_named is))
          | inr later ↦ marks_it (step s x).0 rs r (step_elsewhere s x o.key other ∙ there) room_then all.1 later named
        ]
        | inr is ↦ stays_marked (step s x).0 rs (subst P (sym is) (mark_it s o there (same_itself o) (omega (arith, room)))) room_then all.1
      ]
