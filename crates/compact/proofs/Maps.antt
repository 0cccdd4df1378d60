-- Members of a map that have been put into order go before what comes next.
use Rattle.std.proofs.Common.{◌≡◌, ℕ, ◌+◌, ◌-◌, ◌≤◌, List, [], ◌∷◌, ◌++◌, length, true, false, Some, slice_set, refl, subst, sym, ap, ◌∙◌, append_assoc, append-nil, length-append, arith}
use borrow.Rule.Slice.PartMut.{mid_of, put_mid}
use Rattle.std.specs.Prelude.{option_and_then}
use Rattle.json.specs.Print.{escape, quoted}
use Rattle.json.specs.Json.{Json, Members, no_members, member}
use Rattle.json.specs.Tree.{depth, members_depth}
use Rattle.serde_json.specs.Data as values
use Rattle.serde_json.specs.Data.{Data, put}
use Rattle.serde_json.specs.Read.{of_json, of_members}
use Rattle.serde_json.specs.Written as written
use Rattle.serde_json.specs.Written.{compact_text}
use Rattle.compact.specs.Texts.{json_text, members_text, IsWhole, AreWholeMembers}
use Rattle.compact.specs.Ended.{ended_member, ended_text}
use Rattle.compact.specs.declared.table.Entry.{Entry}
use Rattle.compact.specs.declared.scanner.Tables.{Tables}
use Rattle.compact.specs.declared.scanner.Level.{Level}
use Rattle.compact.specs.declared.scanner.Level.TheVariants.{Other}
use Rattle.compact.specs.Levels.{below}
use Rattle.compact.specs.Notes.{entry_of, entries_of, HavePlainKeys, Told, ToldBelow, IsNoted, with_table}
use Rattle.compact.specs.Ordered.{AreOrderedMembers, IsOrderedMember}
use Rattle.compact.specs.Places.{joined, HasSlot, HasLast, LastOf}
use Rattle.compact.proofs.Lists.{part_of, put_of, set_of}
use Rattle.compact.proofs.Entries.{ended_joined, entries_joined, plain_put, put_ended, slot_size}
use Rattle.compact.proofs.Noting.{told_put, told_with, none_told, kept_elsewhere, elsewhere}
use Rattle.compact.proofs.Last.{has_last}

pub record MoreMembers (most : ℕ) (ms made : values.Members) (old new rest : List ℕ) : Type 0 where
  pub key : List ℕ
  pub first : Json
  pub others : Members
  pub is : old ≡ quoted key ++ 58 ∷ (json_text first ++ (members_text true others ++ rest))
  pub now : new ≡ written.members_text false made ++ rest
  pub converted : of_members (member key first others) ms ≡ Some made
  pub shallow : depth first ≤ most
  pub others_shallow : members_depth others ≤ most
  pub whole : IsWhole first
  pub others_whole : AreWholeMembers others

-- the members that have been found, and: whatever orders those that are left, given these, orders the whole map
pub record MembersState (most : ℕ) (level : Level) (begun tables : Tables) (old now : List ℕ) (at : ℕ) (table : List Entry) : Type 0 where
  pub ms : values.Members
  pub left : List ℕ
  pub is : now ≡ ended_text ms ++ left
  pub at_is : length (ended_text ms) ≡ at
  pub entries_are : entries_of ms ≡ table
  pub plain : HavePlainKeys ms
  pub last_of : HasLast ms
  pub told : ToldBelow level tables ms
  pub kept : level ≡ Other → tables ≡ begun
  pub goes_on : (made : values.Members) (new rest : List ℕ) → MoreMembers most ms made left new rest → MoreMembers most values.no_members made old new rest

pub members_begin : (most : ℕ) (level : Level) (tables : Tables) (text : List ℕ) (table : List Entry) → table ≡ [] → MembersState most level tables tables text text 0 table
members_begin most level tables text table empty = record {
  ms = values.no_members;
  left = text;
  is = refl;
  at_is = refl;
  entries_are = sym empty;
  plain = tt;
  last_of = tt;
  told = none_told level tables;
  kept = λ h. refl;
  goes_on = λ made new rest h. h;
}

-- what is said of the members of a map of that level
abbrev pub Said : Level → Tables → Tables → values.Members → Type 0
Said level old new ms = Told level new ms × (level ≡ Other → new ≡ old)

as_told : (level : Level) (a b : Tables) (ms : values.Members) → a ≡ b → Told level b ms → Told level a ms
as_told level a b ms same h = subst (λ t. Told level t ms) (sym same) h

pub no_member_is : (most : ℕ) (level : Level) (old new : Tables) (table : List Entry) (text behind : List ℕ) (x : ℕ) → text ≡ x ∷ behind → x ≡ 125 → table ≡ [] → new ≡ with_table level old table → AreOrderedMembers most (Said level old new) text text 1
no_member_is most level old new table text behind x is brace empty kept =
    let at = is ∙ ap (λ c. c ∷ behind) brace in
    record {
      members = no_members;
      made = values.no_members;
      rest = behind;
      is = at;
      now = at;
      size = refl;
      converted = refl;
      shallow = omega arith;
      whole = tt;
      said = (as_told level new (with_table level old table) values.no_members kept (told_with level old table values.no_members (sym empty, tt) (none_told level old)), λ h. kept ∙ kept_elsewhere level old table h);
    }

-- ---- a member that has been read, and ends with a comma now

pub record ReadMember (most : ℕ) (P : List ℕ → Data → Type 0) (ms : values.Members) (left text after : List ℕ) (x key n : ℕ) : Type 0 where
  pub k : List ℕ
  pub v : Json
  pub d : Data
  pub left_is : left ≡ quoted k ++ 58 ∷ (json_text v ++ x ∷ after)
  pub text_is : text ≡ ended_text ms ++ (ended_member k d ++ after)
  pub long : length (ended_member k d) ≡ n + 1
  pub key_is : length (quoted k) ≡ key
  pub plain : escape k ≡ k
  pub converted : of_json v ≡ Some d
  pub shallow : depth v ≤ most
  pub whole : IsWhole v
  pub said : P k d

before_last : (e q c r : List ℕ) → e ++ (q ++ 58 ∷ (c ++ r)) ≡ (e ++ (q ++ 58 ∷ c)) ++ r
before_last e q c r = simp append_assoc

with_comma : (e q c a : List ℕ) → (e ++ (q ++ 58 ∷ c)) ++ 44 ∷ a ≡ e ++ ((q ++ 58 ∷ (c ++ 44 ∷ [])) ++ a)
with_comma e q c a = simp append_assoc

pub read_member : (most : ℕ) (P : List ℕ → Data → Type 0) (level : Level) (begun tables : Tables) (old now sub after : List ℕ) (table : List Entry) (at key n x : ℕ) → (s : MembersState most level begun tables old now at table) → IsOrderedMember most P (mid_of at (length now - at) now) sub key n
    → mid_of (at + n) (length (put_mid at (length now - at) now sub) - (at + n)) (put_mid at (length now - at) now sub) ≡ x ∷ after
    → ReadMember most P s.ms s.left (slice_set (put_mid at (length now - at) now sub) (at + n) 44) after x key n
read_member most P level begun tables old now sub after table at key n x s m next =
    let text = put_mid at (length now - at) now sub in
    let front = ended_text s.ms ++ (quoted m.key ++ 58 ∷ compact_text m.made) in
    let left_is = part_of now (ended_text s.ms) s.left at s.is (sym s.at_is) in
    let text_is : text ≡ front ++ m.rest = put_of now (ended_text s.ms) s.left sub at s.is (sym s.at_is) ∙ ap (λ l. ended_text s.ms ++ l) m.now ∙ before_last (ended_text s.ms) (quoted m.key) (compact_text m.made) m.rest in
    let here : at + n ≡ length front = omega (arith, s.at_is, m.size, length-append (ended_text s.ms) (quoted m.key ++ 58 ∷ compact_text m.made)) in
    let rest_is : m.rest ≡ x ∷ after = sym (part_of text front m.rest (at + n) text_is here) ∙ next in
    record {
      k = m.key;
      v = m.value;
      d = m.made;
      left_is = sym left_is ∙ m.is ∙ ap (λ l. quoted m.key ++ 58 ∷ (json_text m.value ++ l)) rest_is;
      text_is = set_of text front after x 44 (at + n) (text_is ∙ ap (λ l. front ++ l) rest_is) here ∙ with_comma (ended_text s.ms) (quoted m.key) (compact_text m.made) after;
      long = omega (arith, m.size, length-append (quoted m.key) (58 ∷ compact_text m.made), length-append (quoted m.key) (58 ∷ (compact_text m.made ++ 44 ∷ [])), length-append (compact_text m.made) (44 ∷ []));
      key_is = m.key_is;
      plain = m.plain;
      converted = m.converted;
      shallow = m.shallow;
      whole = m.whole;
      said = m.said;
    }

three_of : (a b c d : List ℕ) → a ++ (b ++ (c ++ d)) ≡ (a ++ (b ++ c)) ++ d
three_of a b c d = simp append_assoc

more_of : (q j m r : List ℕ) → q ++ 58 ∷ (j ++ (m ++ r)) ≡ (q ++ 58 ∷ (j ++ m)) ++ r
more_of q j m r = simp append_assoc

-- the step for a member that is followed by another
pub next_state : (most : ℕ) (level : Level) (begun tables next : Tables) (old now text placed after : List ℕ) (table table2 : List Entry) (at key n index start x : ℕ) → (s : MembersState most level begun tables old now at table)
    → (r : ReadMember most (λ k d. IsNoted (below level k) tables next d) s.ms s.left text after x key n) → (h : HasSlot r.k s.ms index start) → LastOf (put r.k r.d s.ms) → x ≡ 44
    → placed ≡ ended_text h.below ++ (ended_member r.k r.d ++ (ended_text h.above ++ after)) → table2 ≡ entries_of h.below ++ record { key = key; size = n + 1 } ∷ entries_of h.above
    → MembersState most level begun next old placed (at + n + 1) table2
next_state most level begun tables next old now text placed after table table2 at key n index start x s r h last comma is entries_is =
    let ended = put_ended r.k r.d s.ms index start h in
    let entry_is : entry_of r.k r.d ≡ record { key = key; size = n + 1 } = λ i. record { key = r.key_is i; size = r.long i } in
    record {
      ms = put r.k r.d s.ms;
      left = after;
      is = is ∙ three_of (ended_text h.below) (ended_member r.k r.d) (ended_text h.above) after ∙ ap (λ l. l ++ after) (sym ended);
      at_is = omega (arith, ap length ended, length-append (ended_text h.below) (ended_member r.k r.d ++ ended_text h.above), length-append (ended_member r.k r.d) (ended_text h.above), h.start_is, r.long, slot_size r.k s.ms index start at h s.at_is);
      entries_are = ap entries_of (h.put_is r.d) ∙ entries_joined h.below (values.member r.k r.d h.above) ∙ ap (λ e. entries_of h.below ++ e ∷ entries_of h.above) entry_is ∙ sym entries_is;
      plain = plain_put r.k r.d s.ms r.plain s.plain;
      last_of = has_last (put r.k r.d s.ms) last;
      told = told_put level r.k r.d s.ms tables next s.told r.said;
      kept = λ e. r.said.1 (elsewhere level r.k e) ∙ s.kept e;
      goes_on = λ made new rest m. s.goes_on made new rest record {
        key = r.k;
        first = r.v;
        others = member m.key m.first m.others;
        is = r.left_is ∙ ap (λ c. quoted r.k ++ 58 ∷ (json_text r.v ++ c ∷ after)) comma ∙ ap (λ l. quoted r.k ++ 58 ∷ (json_text r.v ++ 44 ∷ l)) (m.is ∙ more_of (quoted m.key) (json_text m.first) (members_text true m.others) rest);
        now = m.now;
        converted = ap (option_and_then (λ d. of_members (member m.key m.first m.others) (put r.k d s.ms))) r.converted ∙ m.converted;
        shallow = r.shallow;
        others_shallow = omega (arith, m.shallow, m.others_shallow);
        whole = r.whole;
        others_whole = (m.whole, m.others_whole);
      };
    }

-- ---- the last comma as a brace

record Closing (ms : values.Members) : Type 0 where
  body : List ℕ
  ended : ended_text ms ≡ body ++ 44 ∷ []
  text : written.members_text false ms ≡ body ++ 125 ∷ []

close_ended : (q x b : List ℕ) → (q ++ 58 ∷ (x ++ 44 ∷ [])) ++ (b ++ 44 ∷ []) ≡ ((q ++ 58 ∷ x) ++ 44 ∷ b) ++ 44 ∷ []
close_ended q x b = simp append_assoc

close_text : (q x b : List ℕ) → q ++ 58 ∷ (x ++ 44 ∷ (b ++ 125 ∷ [])) ≡ ((q ++ 58 ∷ x) ++ 44 ∷ b) ++ 125 ∷ []
close_text q x b = simp append_assoc

closing : (k : List ℕ) (d : Data) (ms : values.Members) → Closing (values.member k d ms)
closing k d values.no_members = record {
  body = quoted k ++ 58 ∷ compact_text d;
  ended = append-nil (ended_member k d) ∙ sym (append_assoc (quoted k) (58 ∷ compact_text d) (44 ∷ []));
  text = sym (append_assoc (quoted k) (58 ∷ compact_text d) (125 ∷ []));
}
closing k d (values.member l e ms) = let c = closing l e ms in record {
  body = (quoted k ++ 58 ∷ compact_text d) ++ 44 ∷ c.body;
  ended = ap (λ t. ended_member k d ++ t) c.ended ∙ close_ended (quoted k) (compact_text d) c.body;
  text = ap (λ t. quoted k ++ 58 ∷ (compact_text d ++ 44 ∷ t)) c.text ∙ close_text (quoted k) (compact_text d) c.body;
}

closing_joined : (below : values.Members) (k : List ℕ) (d : Data) (above : values.Members) → Closing (joined below (values.member k d above))
closing_joined values.no_members k d above = closing k d above
closing_joined (values.member l e fs) k d above = closing l e (joined fs (values.member k d above))

-- the step for the last member
pub members_end : (most : ℕ) (level : Level) (begun tables next new : Tables) (old now text placed after : List ℕ) (table table2 : List Entry) (at key n index start x : ℕ) → (s : MembersState most level begun tables old now at table)
    → (r : ReadMember most (λ k d. IsNoted (below level k) tables next d) s.ms s.left text after x key n) → (h : HasSlot r.k s.ms index start) → LastOf (put r.k r.d s.ms) → x ≡ 125
    → placed ≡ ended_text h.below ++ (ended_member r.k r.d ++ (ended_text h.above ++ after)) → table2 ≡ entries_of h.below ++ record { key = key; size = n + 1 } ∷ entries_of h.above
    → new ≡ with_table level next table2 → AreOrderedMembers most (Said level begun new) old (slice_set placed (at + n) 125) (at + n + 1)
members_end most level begun tables next new old now text placed after table table2 at key n index start x s r h last brace is entries_is kept =
    let made = joined h.below (values.member r.k r.d h.above) in
    let entry_is : entry_of r.k r.d ≡ record { key = key; size = n + 1 } = λ i. record { key = r.key_is i; size = r.long i } in
    let entries = ap entries_of (h.put_is r.d) ∙ entries_joined h.below (values.member r.k r.d h.above) ∙ ap (λ e. entries_of h.below ++ e ∷ entries_of h.above) entry_is ∙ sym entries_is in
    let ended = ended_joined h.below (values.member r.k r.d h.above) in
    let c = closing_joined h.below r.k r.d h.above in
    let text_is : placed ≡ c.body ++ 44 ∷ after = is ∙ three_of (ended_text h.below) (ended_member r.k r.d) (ended_text h.above) after ∙ ap (λ l. l ++ after) (sym ended ∙ c.ended) ∙ append_assoc c.body (44 ∷ []) after in
    let here : at + n ≡ length c.body = omega (arith, sym (ap length ended), ap length c.ended, length-append c.body (44 ∷ []), length-append (ended_text h.below) (ended_member r.k r.d ++ ended_text h.above), length-append (ended_member r.k r.d) (ended_text h.above), h.start_is, r.long, slot_size r.k s.ms index start at h s.at_is) in
    let new_is : slice_set placed (at + n) 125 ≡ written.members_text false made ++ after = set_of placed c.body after 44 125 (at + n) text_is here ∙ sym (append_assoc c.body (125 ∷ []) after) ∙ ap (λ l. l ++ after) (sym c.text) in
    let put_is = ap (λ m. written.members_text false m ++ after) (sym (h.put_is r.d)) in
    let m = s.goes_on (put r.k r.d s.ms) (slice_set placed (at + n) 125) after record {
      key = r.k;
      first = r.v;
      others = no_members;
      is = r.left_is ∙ ap (λ b. quoted r.k ++ 58 ∷ (json_text r.v ++ b ∷ after)) brace;
      now = new_is ∙ put_is;
      converted = ap (option_and_then (λ d. Some (put r.k d s.ms))) r.converted;
      shallow = r.shallow;
      others_shallow = omega arith;
      whole = r.whole;
      others_whole = tt;
    } in
    let told = told_with level next table2 (put r.k r.d s.ms) (entries, plain_put r.k r.d s.ms r.plain s.plain) (told_put level r.k r.d s.ms tables next s.told r.said) in
    record {
      members = member m.key m.first m.others;
      made = put r.k r.d s.ms;
      rest = after;
      is = m.is ∙ more_of (quoted m.key) (json_text m.first) (members_text true m.others) after;
      now = m.now;
      size = ap (λ t. length (written.members_text false t)) (h.put_is r.d) ∙ ap length c.text ∙ length-append c.body (125 ∷ []) ∙ ap (λ l. l + 1) (sym here);
      converted = m.converted;
      shallow = omega (arith, m.shallow, m.others_shallow);
      whole = (m.whole, m.others_whole);
      said = (as_told level new (with_table level next table2) (put r.k r.d s.ms) kept told, λ e. kept ∙ kept_elsewhere level next table2 e ∙ r.said.1 (elsewhere level r.k e) ∙ s.kept e);
    }
