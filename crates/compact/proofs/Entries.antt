-- Members of two maps, one after the other, and where one goes in among them.
use Rattle.std.proofs.Common.{◌≡◌, ℕ, ◌+◌, List, ◌∷◌, ◌++◌, length, refl, sym, ap, ◌∙◌, append_assoc, length-append, arith}
use Rattle.std.specs.Ordering.{match_ordering, nat_cmp}
use Rattle.std.specs.Cmp.Lexicographic.{slice_cmp}
use Rattle.std.specs.declared.cmp.Ordering.{Ordering}
use Rattle.std.specs.declared.cmp.Ordering.TheVariants.{Less, Equal, Greater}
use Rattle.json.specs.Print.{escape}
use Rattle.serde_json.specs.Data.{Data, Members, no_members, member, put}
use Rattle.compact.specs.Ended.{ended_member, ended_text}
use Rattle.compact.specs.declared.table.Entry.{Entry}
use Rattle.compact.specs.Notes.{entry_of, entries_of, HavePlainKeys}
use Rattle.compact.specs.Places.{joined, count_of, HasSlot}

pub ended_joined : (fs gs : Members) → ended_text (joined fs gs) ≡ ended_text fs ++ ended_text gs
ended_joined no_members gs = refl
ended_joined (member k d fs) gs = ap (λ l. ended_member k d ++ l) (ended_joined fs gs) ∙ sym (append_assoc (ended_member k d) (ended_text fs) (ended_text gs))

-- an entry of two lengths
pub entry_is : (e : Entry) (key size : ℕ) → e.key ≡ key → e.size ≡ size → e ≡ record { key = key; size = size }
entry_is e key size a b = λ j. record { key = a j; size = b j }

pub entries_joined : (fs gs : Members) → entries_of (joined fs gs) ≡ entries_of fs ++ entries_of gs
entries_joined no_members gs = refl
entries_joined (member k d fs) gs = ap (λ l. entry_of k d ∷ l) (entries_joined fs gs)

pub entries_count : (fs : Members) → length (entries_of fs) ≡ count_of fs
entries_count no_members = refl
entries_count (member k d fs) = omega (arith, entries_count fs)

pub joined_one : (fs : Members) (l : List ℕ) (e : Data) (gs : Members) → joined (joined fs (member l e no_members)) gs ≡ joined fs (member l e gs)
joined_one no_members l e gs = refl
joined_one (member k d fs) l e gs = ap (member k d) (joined_one fs l e gs)

pub joined_nil : (ms : Members) → ms ≡ joined ms no_members
joined_nil no_members = refl
joined_nil (member k d ms) = ap (member k d) (joined_nil ms)

pub count_one : (fs : Members) (l : List ℕ) (e : Data) → count_of (joined fs (member l e no_members)) ≡ count_of fs + 1
count_one no_members l e = refl
count_one (member k d fs) l e = omega (arith, count_one fs l e)

plain_put_at : (o : Ordering) (k l : List ℕ) (d e : Data) (ms : Members) → escape k ≡ k → HavePlainKeys (member l e ms) → HavePlainKeys (put k d ms)
    → HavePlainKeys (match_ordering o (member k d (member l e ms)) (member l d ms) (member l e (put k d ms)))
plain_put_at Less k l d e ms own plain later = (own, plain)
plain_put_at Equal k l d e ms own plain later = plain
plain_put_at Greater k l d e ms own plain later = (plain.0, later)

pub plain_put : (k : List ℕ) (d : Data) (ms : Members) → escape k ≡ k → HavePlainKeys ms → HavePlainKeys (put k d ms)
plain_put k d no_members own plain = (own, tt)
plain_put k d (member l e ms) own plain = plain_put_at (slice_cmp nat_cmp k l) k l d e ms own plain (plain_put k d ms own plain.1)

-- ---- a member in its slot

-- the text of all members, once the last is in its place
pub put_ended : (k : List ℕ) (d : Data) (ms : Members) (index start : ℕ) → (h : HasSlot k ms index start) → ended_text (put k d ms) ≡ ended_text h.below ++ (ended_member k d ++ ended_text h.above)
put_ended k d ms index start h = ap ended_text (h.put_is d) ∙ ended_joined h.below (member k d h.above)

pub slot_text : (k : List ℕ) (ms : Members) (index start : ℕ) → (h : HasSlot k ms index start) → (text rest : List ℕ) → text ≡ ended_text ms ++ rest → text ≡ ended_text h.below ++ (ended_text h.above ++ rest)
slot_text k ms index start h text rest is = is ∙ ap (λ m. ended_text m ++ rest) h.is ∙ ap (λ l. l ++ rest) (ended_joined h.below h.above) ∙ append_assoc (ended_text h.below) (ended_text h.above) rest

pub slot_size : (k : List ℕ) (ms : Members) (index start at : ℕ) → (h : HasSlot k ms index start) → length (ended_text ms) ≡ at → start + length (ended_text h.above) ≡ at
slot_size k ms index start at h is = omega (arith, h.start_is, is, ap length (ap ended_text h.is ∙ ended_joined h.below h.above), length-append (ended_text h.below) (ended_text h.above))

pub slot_entries : (k : List ℕ) (ms : Members) (index start : ℕ) → (h : HasSlot k ms index start) → (entries : List Entry) → entries_of ms ≡ entries → entries ≡ entries_of h.below ++ entries_of h.above
slot_entries k ms index start h entries is = sym is ∙ ap entries_of h.is ∙ entries_joined h.below h.above
