-- The search for a member's position.
use Rattle.std.proofs.Common.{◌≡◌, ℕ, ◌+◌, List, [], ◌∷◌, ◌++◌, length, drop, refl, sym, ap, ap₂, ◌∙◌, append_assoc, append-nil, length-append, arith}
use Rattle.std.specs.Ordering.{nat_cmp, match_ordering}
use Rattle.std.specs.declared.cmp.Ordering.TheVariants.{Less, Greater}
use Rattle.std.specs.Cmp.Lexicographic.{slice_cmp}
use Rattle.json.specs.Print.{escape, quoted}
use Rattle.serde_json.specs.Data.{Data, Members, no_members, member, put}
use Rattle.serde_json.specs.Written.{compact_text}
use Rattle.compact.specs.Ended.{ended_member, ended_text}
use Rattle.compact.specs.declared.table.Entry.{Entry}
use Rattle.compact.specs.Notes.{entry_of, entries_of, HavePlainKeys}
use Rattle.compact.specs.Places.{joined, count_of, HasSlot}
use Rattle.compact.proofs.Entries.{ended_joined, joined_one, count_one}

-- the members below have been passed, and those above are still to be seen
pub record Searching (k : List ℕ) (ms : Members) (index start : ℕ) (entries : List Entry) : Type 0 where
  pub below : Members
  pub above : Members
  pub is : ms ≡ joined below above
  pub put_is : (d : Data) → put k d ms ≡ joined below (put k d above)
  pub index_is : count_of below ≡ index
  pub start_is : length (ended_text below) ≡ start
  pub entries_are : entries_of above ≡ entries
  pub plain : HavePlainKeys above

-- what is known of the text there
abbrev pub Stands : List ℕ → List Entry → ℕ → ℕ → Members → List ℕ → Data → List ℕ → Type 0
Stands text entries at key ms k d rest = (text ≡ ended_text ms ++ (ended_member k d ++ rest)) × (entries_of ms ≡ entries) × HavePlainKeys ms × (escape k ≡ k) × (length (ended_text ms) ≡ at) × (length (quoted k) ≡ key)

abbrev pub Searches : List ℕ → List Entry → ℕ → ℕ → ℕ → ℕ → List Entry → Type 0
Searches text entries at key index start left =
    (ms : Members) (k : List ℕ) (d : Data) (rest : List ℕ) → Stands text entries at key ms k d rest → Searching k ms index start left

pub search_begins : (text : List ℕ) (entries : List Entry) (at key : ℕ) → Searches text entries at key 0 0 entries
search_begins text entries at key ms k d rest h = record { below = no_members; above = ms; is = refl; put_is = λ e. refl; index_is = refl; start_is = refl; entries_are = h.1; plain = h.2 }

-- the first member above
pub record Opened (above : Members) (entry : Entry) (behind : List Entry) : Type 0 where
  pub l : List ℕ
  pub e : Data
  pub others : Members
  pub is : above ≡ member l e others
  pub size_is : length (ended_member l e) ≡ entry.size
  pub key_is : length (quoted l) ≡ entry.key
  pub entries_are : entries_of others ≡ behind
  pub own : escape l ≡ l
  pub plain : HavePlainKeys others

abbrev head_of : Entry → List Entry → Entry
head_of default [] = default
head_of default (x ∷ xs) = x

pub opened : (above : Members) (entry : Entry) (behind all : List Entry) → entries_of above ≡ all → all ≡ entry ∷ behind → HavePlainKeys above → Opened above entry behind
opened no_members entry behind all a b plain = absurd (let e : 0 ≡ length (entry ∷ behind) = ap length (a ∙ b) in omega (arith, e))
opened (member l e others) entry behind all a b plain = record {
  l = l;
  e = e;
  others = others;
  is = refl;
  size_is = ap (λ es. (head_of entry es).size) (a ∙ b);
  key_is = ap (λ es. (head_of entry es).key) (a ∙ b);
  entries_are = ap (drop 1) (a ∙ b);
  own = plain.0;
  plain = plain.1;
}

parts_of : (a q c o m : List ℕ) → (a ++ ((q ++ c) ++ o)) ++ m ≡ a ++ (q ++ (c ++ (o ++ m)))
parts_of a q c o m = simp append_assoc

-- where the key of the first member above is
pub other_text : (text more l : List ℕ) (e : Data) (ms below above others : Members) → text ≡ ended_text ms ++ more → ms ≡ joined below above → above ≡ member l e others
    → text ≡ ended_text below ++ (quoted l ++ (58 ∷ (compact_text e ++ 44 ∷ []) ++ (ended_text others ++ more)))
other_text text more l e ms below above others is ms_is above_is =
    is ∙ ap (λ m. ended_text m ++ more) (ms_is ∙ ap (joined below) above_is) ∙ ap (λ t. t ++ more) (ended_joined below (member l e others))
    ∙ parts_of (ended_text below) (quoted l) (58 ∷ (compact_text e ++ 44 ∷ [])) (ended_text others) more

pub own_text : (text k rest : List ℕ) (d : Data) (ms : Members) → text ≡ ended_text ms ++ (ended_member k d ++ rest) → text ≡ ended_text ms ++ (quoted k ++ (58 ∷ (compact_text d ++ 44 ∷ []) ++ rest))
own_text text k rest d ms is = is ∙ ap (λ l. ended_text ms ++ l) (append_assoc (quoted k) (58 ∷ (compact_text d ++ 44 ∷ [])) rest)

pub none_above : (above : Members) (entries : List Entry) → entries_of above ≡ entries → length entries ≡ 0 → above ≡ no_members
none_above no_members entries h none = refl
none_above (member k d ms) entries h none = absurd (let f : length (entry_of k d ∷ entries_of ms) ≡ 0 = ap length h ∙ none in omega (arith, f))

pub slot_last : (k : List ℕ) (ms : Members) (index start : ℕ) (entries : List Entry) → Searching k ms index start entries → length entries ≡ 0 → HasSlot k ms index start
slot_last k ms index start entries s none =
    let empty = none_above s.above entries s.entries_are none in
    record {
      below = s.below;
      above = no_members;
      is = s.is ∙ ap (joined s.below) empty;
      put_is = λ d. s.put_is d ∙ ap (λ a. joined s.below (put k d a)) empty;
      index_is = s.index_is;
      start_is = s.start_is;
    }

pub slot_found : (k a b : List ℕ) (ms : Members) (index start : ℕ) (entry : Entry) (entries behind : List Entry) → (s : Searching k ms index start entries) → (o : Opened s.above entry behind)
    → a ≡ k → b ≡ o.l → slice_cmp nat_cmp a b ≡ Less → HasSlot k ms index start
slot_found k a b ms index start entry entries behind s o own other less =
    let order = (λ i. slice_cmp nat_cmp (sym own i) (sym other i)) ∙ less in
    record {
      below = s.below;
      above = s.above;
      is = s.is;
      put_is = λ d. s.put_is d ∙ ap (λ m. joined s.below (put k d m)) o.is
          ∙ ap (λ r. joined s.below (match_ordering r (member k d (member o.l o.e o.others)) (member o.l d o.others) (member o.l o.e (put k d o.others)))) order
          ∙ ap (λ m. joined s.below (member k d m)) (sym o.is);
      index_is = s.index_is;
      start_is = s.start_is;
    }

pub searched : (k a b : List ℕ) (ms : Members) (index start index2 start2 : ℕ) (entry : Entry) (entries behind : List Entry) → (s : Searching k ms index start entries) → (o : Opened s.above entry behind)
    → a ≡ k → b ≡ o.l → slice_cmp nat_cmp a b ≡ Greater → index2 ≡ index + 1 → start2 ≡ start + entry.size → Searching k ms index2 start2 behind
searched k a b ms index start index2 start2 entry entries behind s o own other greater next later =
    let order = (λ i. slice_cmp nat_cmp (sym own i) (sym other i)) ∙ greater in
    let one = member o.l o.e no_members in
    record {
      below = joined s.below one;
      above = o.others;
      is = s.is ∙ ap (joined s.below) o.is ∙ sym (joined_one s.below o.l o.e o.others);
      put_is = λ d. s.put_is d ∙ ap (λ m. joined s.below (put k d m)) o.is
          ∙ ap (λ r. joined s.below (match_ordering r (member k d (member o.l o.e o.others)) (member o.l d o.others) (member o.l o.e (put k d o.others)))) order
          ∙ sym (joined_one s.below o.l o.e (put k d o.others));
      index_is = count_one s.below o.l o.e ∙ ap (λ n. n + 1) s.index_is ∙ sym next;
      start_is = ap length (ended_joined s.below one) ∙ length-append (ended_text s.below) (ended_text one) ∙ ap₂ (λ x y. x + y) s.start_is (ap length (append-nil (ended_member o.l o.e)) ∙ o.size_is) ∙ sym later;
      entries_are = o.entries_are;
      plain = o.plain;
    }
