-- The first member of a text, and those after it.
use Rattle.std.proofs.Common.{◌≡◌, ℕ, ◌+◌, ◌-◌, ◌%◌, ◌^◌, ◌<◌, List, [], ◌∷◌, ◌++◌, length, Bool, true, false, Some, option_map, refl, subst, sym, ap, ◌∙◌, append_assoc, length-append, arith}
use Rattle.std.proofs.lemmas.Map.Text.{is_eq-slice_cmp}
use Rattle.std.proofs.lemmas.Slice.Eq.{bytes_eq-Decides}
use Rattle.std.specs.Ordering.{nat_cmp, match_ordering, is_eq}
use Rattle.std.specs.declared.cmp.Ordering.{Ordering}
use Rattle.std.specs.declared.cmp.Ordering.TheVariants.{Less, Equal, Greater}
use Rattle.std.specs.Cmp.Lexicographic.{slice_cmp}
use Rattle.json.specs.Print.{escape, quoted}
use Rattle.serde_json.specs.Data.{Data, Members, no_members, member, object}
use Rattle.serde_json.specs.Find.{get_member}
use Rattle.serde_json.specs.Written.{compact_text, members_text}
use Rattle.compact.specs.declared.table.Entry.{Entry}
use Rattle.compact.specs.Notes.{AreEntries}
use Rattle.compact.specs.Fields.{IsLeft, IsFirst}
use Rattle.compact.proofs.Search.{Opened, opened}

-- the last members of a map up to the brace; after the brace there is nothing left
abbrev pub rest_text : Members → List ℕ
rest_text no_members = []
rest_text (member k d ms) = members_text false (member k d ms)

as_left : (ms : Members) (left : List ℕ) → left ≡ rest_text ms → IsLeft ms left
as_left no_members left h = tt
as_left (member k d ms) left h = h

pub all_left : (ms : Members) (left : List ℕ) → left ≡ members_text false ms → IsLeft ms left
all_left no_members left h = tt
all_left (member k d ms) left h = h

-- the comma or the brace after a member
abbrev pub end_of : Members → ℕ
end_of no_members = 125
end_of (member k d ms) = 44

end_is : (ms : Members) → members_text true ms ≡ end_of ms ∷ rest_text ms
end_is no_members = refl
end_is (member k d ms) = refl

-- the parts of the text of members, the first of which stands open
pub record Parted (left : List ℕ) (entry : Entry) (l : List ℕ) (e : Data) (others : Members) : Type 0 where
  pub key_at : left ≡ (34 ∷ []) ++ (l ++ (34 ∷ 58 ∷ (compact_text e ++ end_of others ∷ rest_text others)))
  pub key_ends : 1 + length l ≡ entry.key - 1
  pub value_from : left ≡ quoted l ++ (58 ∷ (compact_text e ++ end_of others ∷ rest_text others))
  pub value_begins : length (quoted l) ≡ entry.key
  pub value_ends : 1 + length (compact_text e) ≡ (entry.size - entry.key) - 1
  pub behind_at : left ≡ (quoted l ++ 58 ∷ (compact_text e ++ end_of others ∷ [])) ++ rest_text others
  pub behind_begins : length (quoted l ++ 58 ∷ (compact_text e ++ end_of others ∷ [])) ≡ entry.size

key_first : (l v : List ℕ) → 34 ∷ (l ++ 34 ∷ []) ++ 58 ∷ v ≡ (34 ∷ []) ++ (l ++ (34 ∷ 58 ∷ v))
key_first l v = ap (λ t. 34 ∷ t) (append_assoc l (34 ∷ []) (58 ∷ v))

all_first : (q v r : List ℕ) (x : ℕ) → q ++ 58 ∷ (v ++ x ∷ r) ≡ (q ++ 58 ∷ (v ++ x ∷ [])) ++ r
all_first q v r x = simp append_assoc

left_is : (left : List ℕ) (ms : Members) (l : List ℕ) (e : Data) (others : Members) → ms ≡ member l e others → IsLeft ms left → left ≡ members_text false (member l e others)
left_is left ms l e others is h = subst (λ m. IsLeft m left) is h

pub parted : (left : List ℕ) (ms : Members) (entry : Entry) (behind : List Entry) → IsLeft ms left → (o : Opened ms entry behind) → Parted left entry o.l o.e o.others
parted left ms entry behind is o =
    let whole = left_is left ms o.l o.e o.others o.is is ∙ ap (λ t. quoted o.l ++ 58 ∷ (compact_text o.e ++ t)) (end_is o.others) in
    let tail = compact_text o.e ++ end_of o.others ∷ rest_text o.others in
    let key_long = length-append (escape o.l) (34 ∷ []) in
    let own = ap length o.own in
    record {
      key_at = whole ∙ ap (λ k. 34 ∷ (k ++ 34 ∷ []) ++ 58 ∷ tail) o.own ∙ key_first o.l tail;
      key_ends = omega (arith, o.key_is, key_long, own);
      value_from = whole;
      value_begins = o.key_is;
      value_ends = omega (arith, o.key_is, o.size_is, length-append (quoted o.l) (58 ∷ (compact_text o.e ++ 44 ∷ [])), length-append (compact_text o.e) (44 ∷ []));
      behind_at = whole ∙ all_first (quoted o.l) (compact_text o.e) (rest_text o.others) (end_of o.others);
      behind_begins = omega (arith, o.size_is, length-append (quoted o.l) (58 ∷ (compact_text o.e ++ 44 ∷ [])), length-append (compact_text o.e) (44 ∷ []), length-append (quoted o.l) (58 ∷ (compact_text o.e ++ end_of o.others ∷ [])), length-append (compact_text o.e) (end_of o.others ∷ []));
    }

pub is_first : (ms : Members) (entry : Entry) (key value left : List ℕ) (behind : List Entry) → (o : Opened ms entry behind) → key ≡ o.l → value ≡ compact_text o.e → left ≡ rest_text o.others → IsFirst ms key value left behind
is_first ms entry key value left behind o key_is value_is left_is = record {
  d = o.e;
  others = o.others;
  is = o.is ∙ ap (λ k. member k o.e o.others) (sym key_is);
  value_is = value_is;
  left_is = as_left o.others left left_is;
  entries_are = (o.entries_are, o.plain);
}

-- ---- where a member is looked for

-- so far no member had the name
pub record Looking (name : List ℕ) (ms : Members) (left : List ℕ) (entries : List Entry) : Type 0 where
  pub others : Members
  pub left_is : IsLeft others left
  pub entries_are : AreEntries entries others
  pub same : get_member name ms ≡ get_member name others

-- the same, and the text has those to come from there on
pub record LookingFrom (name text : List ℕ) (ms : Members) (at : ℕ) (entries : List Entry) : Type 0 where
  pub front : List ℕ
  pub left : List ℕ
  pub is : text ≡ front ++ left
  pub at_is : length front ≡ at
  pub looking : Looking name ms left entries

pub looking_begins : (name text : List ℕ) (ms : Members) (entries : List Entry) → text ≡ compact_text (object ms) → AreEntries entries ms → LookingFrom name text ms 1 entries
looking_begins name text ms entries is are = record {
  front = 123 ∷ [];
  left = members_text false ms;
  is = is;
  at_is = refl;
  looking = record { others = ms; left_is = all_left ms (members_text false ms) refl; entries_are = are; same = refl };
}

equal_texts : (k l : List ℕ) → slice_cmp nat_cmp k l ≡ Equal → k ≡ l
equal_texts k l is = (bytes_eq-Decides k l).0 (sym (is_eq-slice_cmp k l) ∙ ap is_eq is)

pub differ_at : (o : Ordering) (name l : List ℕ) (d : Data) (ms : Members) → slice_cmp nat_cmp name l ≡ o → (name ≡ l → ⊥) → match_ordering o (get_member name ms) (Some d) (get_member name ms) ≡ get_member name ms
differ_at Less name l d ms is other = refl
differ_at Equal name l d ms is other = absurd (other (equal_texts name l is))
differ_at Greater name l d ms is other = refl

equal_of : (o : Ordering) → is_eq o ≡ true → o ≡ Equal
equal_of Less h = absurd cc
equal_of Equal h = refl
equal_of Greater h = absurd cc

here : (name l : List ℕ) (d : Data) (ms : Members) → l ≡ name → get_member name (member l d ms) ≡ Some d
here name l d ms same =
    ap (λ o. match_ordering o (get_member name ms) (Some d) (get_member name ms)) (ap (slice_cmp nat_cmp name) same ∙ equal_of _ (is_eq-slice_cmp name name ∙ (bytes_eq-Decides name name).1 refl))

clash : true ≡ false → ⊥
clash e = cc

key_of : (all others others2 : Members) (key l : List ℕ) (d e : Data) → all ≡ member key d others → all ≡ member l e others2 → key ≡ l
key_of all others others2 key l d e one two = let same : member key d others ≡ member l e others2 = sym one ∙ two in cc

-- the first of them has a key of that length, and has another name
pub differs : (name key value left : List ℕ) (all : Members) (entries : List Entry) (b : Bool) → IsFirst all key value left entries → (key ≡ name → b ≡ true) → b ≡ false
    → (l : List ℕ) (d : Data) (others : Members) → all ≡ member l d others → name ≡ l → ⊥
differs name key value left all entries b f same other l d others is e = clash (sym (same (key_of all f.others others key l f.d d f.is is ∙ sym e)) ∙ other)

-- the first of them has another name, and the text has those after it from there on
pub passed : (name text : List ℕ) (ms : Members) (at next : ℕ) (entry : Entry) (entries behind : List Entry) → (k : LookingFrom name text ms at entries) → entries ≡ entry ∷ behind
    → length text < 2 ^ 64 → next ≡ (at + entry.size) % 2 ^ 64
    → ((l : List ℕ) (d : Data) (others : Members) → k.looking.others ≡ member l d others → entry.key ≡ length l + 2 → name ≡ l → ⊥) → LookingFrom name text ms next behind
passed name text ms at next entry entries behind k is fits next_is other =
    let o = opened k.looking.others entry behind entries k.looking.entries_are.0 is k.looking.entries_are.1 in
    let p = parted k.left k.looking.others entry behind k.looking.left_is o in
    let one = quoted o.l ++ 58 ∷ (compact_text o.e ++ end_of o.others ∷ []) in
    let whole : text ≡ (k.front ++ one) ++ rest_text o.others = k.is ∙ ap (λ l. k.front ++ l) p.behind_at ∙ sym (append_assoc k.front one (rest_text o.others)) in
    let size : length (k.front ++ one) ≡ at + entry.size = length-append k.front one ∙ (λ i. k.at_is i + p.behind_begins i) in
    let room : at + entry.size < 2 ^ 64 = omega (arith, fits, ap length whole, length-append (k.front ++ one) (rest_text o.others), size) in
    let key : entry.key ≡ length o.l + 2 = omega (arith, o.key_is, length-append (escape o.l) (34 ∷ []), ap length o.own) in
    record {
      front = k.front ++ one;
      left = rest_text o.others;
      is = whole;
      at_is = omega (arith, size, room, next_is);
      looking = record {
        others = o.others;
        left_is = as_left o.others (rest_text o.others) refl;
        entries_are = (o.entries_are, o.plain);
        same = k.looking.same ∙ ap (get_member name) o.is ∙ differ_at (slice_cmp nat_cmp name o.l) name o.l o.e o.others refl (other o.l o.e o.others o.is key);
      };
    }

pub found : (name : List ℕ) (ms : Members) (left key value left2 : List ℕ) (entries entries2 : List Entry) → (k : Looking name ms left entries) → IsFirst k.others key value left2 entries2 → key ≡ name → Some value ≡ option_map compact_text (get_member name ms)
found name ms left key value left2 entries entries2 k f same =
    ap Some f.value_is ∙ sym (ap (option_map compact_text) (k.same ∙ ap (get_member name) f.is ∙ here name key f.d f.others same))
