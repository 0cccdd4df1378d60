-- Members that are written in order, with those that are set among them.
use Rattle.std.proofs.Common.{◌≡◌, ℕ, List, [], ◌∷◌, ◌++◌, Bool, true, false, cond, Option, Some, None, refl, sym, ap, ◌∙◌, ◌⊎◌, inl, inr, subst, append_assoc, append-nil, length, length-append, drop, ◌+◌, arith}
use Rattle.std.specs.Prelude.{⊤, slice_get}
use Rattle.std.specs.Ordering.{nat_cmp, ordering_reverse}
use Rattle.std.specs.declared.cmp.Ordering.{Ordering}
use Rattle.std.specs.declared.cmp.Ordering.TheVariants.{Less, Equal, Greater}
use Rattle.std.specs.Cmp.Lexicographic.{slice_cmp, nat_list_cmp_total}
use Rattle.json.specs.Print.{escape, quoted}
use Rattle.serde_json.specs.Data.{Data, Members, no_members, member, put}
use Rattle.serde_json.specs.Written.{compact_text, members_text}
use Rattle.trees.specs.Building.{put_some}
use Rattle.trees.specs.Tree.{AreAscending, ComesBefore}
use Rattle.trees.proofs.EntryPositions.{before_put}
use Rattle.trees.proofs.PutOrder.{before_next, equal_texts}
use Rattle.compact.specs.Fields.{IsFirst, IsLeft}
use Rattle.compact.specs.Notes.{AreEntries, entries_of, entry_of}
use Rattle.compact.specs.declared.table.Entry.{Entry}
use Rattle.objects.specs.Merged.{IsBelowAll, puts}
use Rattle.compact_objects.specs.Merging.{AreBelow, IsKept, WritesBelow, WritesStep, field_text, is_set, other_text, rest_text, some_text, without}
use Rattle.compact_objects.specs.declared.merge.MapKind.{MapKind}

abbrev Set : Type 0
Set = List (List ℕ × Option Data)

-- each of these keys is above that one
abbrev AreAbove : List ℕ → Set → Type 0
AreAbove l [] = ⊤
AreAbove l (h ∷ hs) = (slice_cmp nat_cmp h.0 l ≡ Greater) × AreAbove l hs

pub above_trans : (j k l : List ℕ) → slice_cmp nat_cmp k j ≡ Less → slice_cmp nat_cmp k l ≡ Greater → slice_cmp nat_cmp j l ≡ Greater
above_trans j k l first second =
    let down : slice_cmp nat_cmp l k ≡ Less = nat_list_cmp_total.antisymm l k ∙ ap ordering_reverse second in
    nat_list_cmp_total.antisymm j l ∙ ap ordering_reverse (nat_list_cmp_total.trans l k j down first)

above_later : (k l : List ℕ) (hs : Set) → slice_cmp nat_cmp k l ≡ Greater → IsBelowAll k hs → AreAbove l hs
above_later k l [] above below = tt
above_later k l (h ∷ hs) above below = (above_trans h.0 k l below.0 above, above_later k l hs above below.1)

-- the first of these keys is that one, and the others are above it
abbrev pub StartAt : List ℕ → Set → Type 0
StartAt k [] = ⊥
StartAt k (h ∷ hs) = (k ≡ h.0) × IsBelowAll k hs

pub above_start : (k l : List ℕ) → slice_cmp nat_cmp k l ≡ Greater → (hs : Set) → StartAt k hs → AreAbove l hs
above_start k l above [] start = absurd start
above_start k l above (h ∷ hs) start = (subst (λ x. slice_cmp nat_cmp x l ≡ Greater) start.0 above, above_later k l hs above start.1)

-- none is set
abbrev pub IsNone : Set → Type 0
IsNone hs = hs ≡ []

pub above_none : (l : List ℕ) → (hs : Set) → IsNone hs → AreAbove l hs
above_none l [] none = tt
above_none l (h ∷ hs) none = absurd cc

pub some_past : (k l : List ℕ) (v : Option Data) (e : Data) (ms : Members) → slice_cmp nat_cmp k l ≡ Greater → put_some k v (member l e ms) ≡ member l e (put_some k v ms)
some_past k l None e ms above = refl
some_past k l (Some d) e ms above = rw above refl

puts_past : (hs : Set) (l : List ℕ) (e : Data) (ms : Members) → AreAbove l hs → puts hs (member l e ms) ≡ member l e (puts hs ms)
puts_past [] l e ms above = refl
puts_past (h ∷ hs) l e ms above = ap (put_some h.0 h.1) (puts_past hs l e ms above.1) ∙ some_past h.0 l h.1 e (puts hs ms) above.0

member_first : (l v rest : List ℕ) → escape l ≡ l → 44 ∷ (quoted l ++ 58 ∷ (v ++ rest)) ≡ field_text l v ++ rest
member_first l v rest own =
    ap (λ k. 44 ∷ 34 ∷ ((k ++ 34 ∷ []) ++ 58 ∷ (v ++ rest))) own
    ∙ ap (λ t. 44 ∷ 34 ∷ t) (append_assoc l (34 ∷ []) (58 ∷ (v ++ rest)) ∙ sym (append_assoc l (34 ∷ 58 ∷ v) rest))

-- The first of these members is at the head of their text, in so many bytes except for the comma or brace after it.
pub record HasFirst (key value left : List ℕ) (size : ℕ) : Type 0 where
  pub text : List ℕ
  pub back : List ℕ
  pub is : left ≡ text ++ back
  pub size_is : size ≡ length text + 1
  pub text_is : 44 ∷ text ≡ field_text key value

first_size : (e f : Entry) (fs entries : List Entry) → f ∷ fs ≡ entries → Some e ≡ slice_get entries 0 → e.size ≡ f.size
first_size e f fs entries are at =
    let some : Some e ≡ Some f = at ∙ ap (λ es. slice_get es 0) (sym are) in
    let same : e ≡ f = cc in
    ap (λ (x : Entry). x.size) same

first_split : (l v rest : List ℕ) (e : Data) → escape l ≡ l → v ≡ compact_text e → quoted l ++ 58 ∷ (compact_text e ++ rest) ≡ (34 ∷ (l ++ 34 ∷ 58 ∷ v)) ++ rest
first_split l v rest e own is = ap (λ t. quoted l ++ 58 ∷ (t ++ rest)) (sym is) ∙ ap (drop 1) (member_first l v rest own)

pub has_first : (ms : Members) (key value left left2 : List ℕ) (entries entries2 : List Entry) (e : Entry) → IsLeft ms left → AreEntries entries ms → (f : IsFirst ms key value left2 entries2) → Some e ≡ slice_get entries 0
    → HasFirst key value left e.size
has_first ms key value left left2 entries entries2 e is are f at =
    let entered = subst (AreEntries entries) f.is are in
    let own = entered.1.0 in
    let text : List ℕ = 34 ∷ (key ++ 34 ∷ 58 ∷ value) in
    let size = first_size e (entry_of key f.d) (entries_of f.others) entries entered.0 at in
    let ended = ap length (first_split key value (44 ∷ []) f.d own f.value_is) in
    record {
      text = text;
      back = members_text true f.others;
      is = subst (λ m. IsLeft m left) f.is is ∙ first_split key value (members_text true f.others) f.d own f.value_is;
      size_is = omega (arith, size, ended, length-append text (44 ∷ []));
      text_is = refl;
    }

pub other_is : (part : MapKind) (k v : List ℕ) → is_set part k ≡ false → field_text k v ≡ other_text part k v
other_is part k v kept = ap (λ b. cond b [] (field_text k v)) (sym kept)

passed_at : (b : Bool) (hs : Set) (l v : List ℕ) (e : Data) (ms : Members) → escape l ≡ l → AreAbove l hs → v ≡ compact_text e
    → members_text true (puts hs (cond b ms (member l e ms))) ≡ cond b [] (field_text l v) ++ members_text true (puts hs ms)
passed_at true hs l v e ms own above is = refl
passed_at false hs l v e ms own above is =
    ap (members_text true) (puts_past hs l e ms above) ∙ member_first l (compact_text e) (members_text true (puts hs ms)) own
    ∙ ap (λ t. field_text l t ++ members_text true (puts hs ms)) (sym is)

-- ---- a walk over the members

-- none of these keys has been passed over
abbrev AreKept : MapKind → Set → Members → Members → Type 0
AreKept part [] ms rest = ⊤
AreKept part (h ∷ hs) ms rest = IsKept part h.0 ms rest × AreKept part hs ms rest

below_by : (b : Bool) (k l : List ℕ) (d : Data) (ms : Members) → slice_cmp nat_cmp k l ≡ Greater → AreBelow k ms → AreBelow k (cond b ms (member l d ms))
below_by true k l d ms above h = h
below_by false k l d ms above h = (above, h)

kept_all : (part : MapKind) (hs : Set) (ms : Members) → AreKept part hs ms ms
kept_all part [] ms = tt
kept_all part (h ∷ hs) ms = (record { found = refl; below = λ b. b }, kept_all part hs ms)

kept_past : (part : MapKind) (hs : Set) (l : List ℕ) (d : Data) (ms rest : Members) → AreAbove l hs → AreKept part hs rest (member l d ms) → AreKept part hs rest ms
kept_past part [] l d ms rest above kept = tt
kept_past part (h ∷ hs) l d ms rest above kept = (
  record {
    found = kept.0.found ∙ rw above.0 refl;
    below = λ b. kept.0.below (below_by (is_set part l) h.0 l d (without part ms) above.0 b);
  },
  kept_past part hs l d ms rest above.1 kept.1,
)

-- These are left: with whatever is set of those that may be, all is written.
pub record Going (part : MapKind) (P : Set → Type 0) (ms : Members) (left : List ℕ) (entries : List Entry) (old new : List ℕ) : Type 0 where
  pub rest : Members
  pub bytes : List ℕ
  pub left_is : IsLeft rest left
  pub entries_are : AreEntries entries rest
  pub ascending : AreAscending rest
  pub new_is : new ≡ old ++ bytes
  pub written : (hs : Set) → P hs → rest_text part hs ms ≡ bytes ++ rest_text part hs rest
  pub kept : (hs : Set) → P hs → AreKept part hs ms rest

pub going_begins : (part : MapKind) (P : Set → Type 0) (ms : Members) (left : List ℕ) (entries : List Entry) (old : List ℕ) → AreAscending ms → IsLeft ms left → AreEntries entries ms → Going part P ms left entries old old
going_begins part P ms left entries old ascending is are = record {
  rest = ms;
  bytes = [];
  left_is = is;
  entries_are = are;
  ascending = ascending;
  new_is = sym (append-nil old);
  written = λ hs p. refl;
  kept = λ hs p. kept_all part hs ms;
}

pub going_on : (part : MapKind) (P : Set → Type 0) (ms : Members) (left left2 : List ℕ) (entries entries2 : List Entry) (old mid new key value : List ℕ) → (g : Going part P ms left entries old mid)
    → IsFirst g.rest key value left2 entries2 → ((hs : Set) → P hs → AreAbove key hs) → new ≡ mid ++ other_text part key value → Going part P ms left2 entries2 old new
going_on part P ms left left2 entries entries2 old mid new key value g f above is =
    let own = (subst (AreEntries entries) f.is g.entries_are).1 in
    record {
      rest = f.others;
      bytes = g.bytes ++ other_text part key value;
      left_is = f.left_is;
      entries_are = f.entries_are;
      ascending = (subst AreAscending f.is g.ascending).1;
      new_is = is ∙ ap (λ t. t ++ other_text part key value) g.new_is ∙ append_assoc old g.bytes (other_text part key value);
      written = λ hs p.
          g.written hs p ∙ ap (λ m. g.bytes ++ rest_text part hs m) f.is
          ∙ ap (λ t. g.bytes ++ t) (passed_at (is_set part key) hs key value f.d (without part f.others) own.0 (above hs p) f.value_is)
          ∙ sym (append_assoc g.bytes (other_text part key value) (rest_text part hs f.others));
      kept = λ hs p. kept_past part hs key f.d f.others ms (above hs p) (subst (AreKept part hs ms) f.is (g.kept hs p));
    }

-- ---- where a key belongs

before_without_at : (b : Bool) (k l : List ℕ) (d : Data) (ms : Members) → slice_cmp nat_cmp k l ≡ Less → ComesBefore k ms → ComesBefore k (cond b ms (member l d ms))
before_without_at true k l d ms first later = later
before_without_at false k l d ms first later = first

pub before_without : (part : MapKind) (k : List ℕ) (ms : Members) → ComesBefore k ms → AreAscending ms → ComesBefore k (without part ms)
before_without part k no_members before ascending = tt
before_without part k (member l d ms) before ascending =
    before_without_at (is_set part l) k l d (without part ms) before (before_without part k ms (before_next k l ms before ascending.0) ascending.1)

at_key : (b : Bool) (k : List ℕ) (ms others : Members) → b ≡ true → ComesBefore k ms → ComesBefore k (cond b ms others)
at_key true k ms others set before = before
at_key false k ms others set before = absurd cc

before_equal : (part : MapKind) (k l : List ℕ) (d : Data) (ms : Members) → slice_cmp nat_cmp k l ≡ Equal → is_set part k ≡ true → AreAscending (member l d ms) → ComesBefore k (without part (member l d ms))
before_equal part k l d ms equal set ascending =
    let same : k ≡ l = equal_texts k l equal in
    at_key (is_set part l) k (without part ms) (member l d (without part ms)) (subst (λ t. is_set part t ≡ true) same set)
    (before_without part k ms (subst (λ t. ComesBefore t ms) (sym same) ascending.0) ascending.1)

below : (part : MapKind) (k : List ℕ) (ms : Members) (left : List ℕ) (entries : List Entry) (old new : List ℕ) → (g : Going part (StartAt k) ms left entries old new) → ComesBefore k (without part g.rest)
    → WritesBelow part k ms left entries old new
below part k ms left entries old new g before = record {
  rest = g.rest;
  bytes = g.bytes;
  left_is = g.left_is;
  entries_are = g.entries_are;
  ascending = g.ascending;
  before = before;
  new_is = g.new_is;
  written = λ hs v later. g.written ((k, v) ∷ hs) (refl, later);
  kept = (g.kept ((k, None) ∷ []) (refl, tt)).0;
  kept_above = λ q above. (g.kept ((k, None) ∷ (q, None) ∷ []) (refl, (above, tt))).1.0;
}

stopped : (part : MapKind) (k l : List ℕ) (d : Data) (ms : Members) → (o : Ordering) → slice_cmp nat_cmp k l ≡ o → (o ≡ Less) ⊎ (o ≡ Equal) → is_set part k ≡ true → AreAscending (member l d ms) → ComesBefore k (without part (member l d ms))
stopped part k l d ms o is (inl less) set ascending = before_without part k (member l d ms) (is ∙ less) ascending
stopped part k l d ms o is (inr equal) set ascending = before_equal part k l d ms (is ∙ equal) set ascending

pub below_stop : (part : MapKind) (k : List ℕ) (ms : Members) (left : List ℕ) (entries : List Entry) (old new key value left2 : List ℕ) (entries2 : List Entry) (o : Ordering) → (g : Going part (StartAt k) ms left entries old new)
    → IsFirst g.rest key value left2 entries2 → slice_cmp nat_cmp k key ≡ o → (o ≡ Less) ⊎ (o ≡ Equal) → is_set part k ≡ true → WritesBelow part k ms left entries old new
below_stop part k ms left entries old new key value left2 entries2 o g f is stop set =
    below part k ms left entries old new g
    (subst (λ m. ComesBefore k (without part m)) (sym f.is) (stopped part k key f.d f.others o is stop set (subst AreAscending f.is g.ascending)))

pub below_none : (part : MapKind) (k : List ℕ) (ms : Members) (left : List ℕ) (entries : List Entry) (old new : List ℕ) → (g : Going part (StartAt k) ms left entries old new) → g.rest ≡ no_members
    → WritesBelow part k ms left entries old new
below_none part k ms left entries old new g none = below part k ms left entries old new g (subst (λ m. ComesBefore k (without part m)) (sym none) tt)

pub all_written : (part : MapKind) (ms : Members) (left : List ℕ) (entries : List Entry) (old mid new : List ℕ) → (g : Going part IsNone ms left entries old mid) → g.rest ≡ no_members → new ≡ mid ++ 125 ∷ []
    → new ≡ old ++ members_text true (without part ms)
all_written part ms left entries old mid new g none is =
    is ∙ ap (λ t. t ++ 125 ∷ []) g.new_is ∙ append_assoc old g.bytes (125 ∷ [])
    ∙ ap (λ t. old ++ t) (ap (λ m. g.bytes ++ rest_text part [] m) (sym none) ∙ sym (g.written [] refl))

-- ---- a member that is set

pub put_before : (k : List ℕ) (d : Data) (ms : Members) → ComesBefore k ms → put k d ms ≡ member k d ms
put_before k d no_members h = refl
put_before k d (member l e ms) h = rw h refl

pub text_some : (k : List ℕ) (v : Option Data) (ms : Members) → ComesBefore k ms → members_text true (put_some k v ms) ≡ some_text k v ++ members_text true ms
text_some k None ms h = refl
text_some k (Some d) ms h =
    ap (members_text true) (put_before k d ms h) ∙ ap (λ t. 44 ∷ t) (sym (append_assoc (quoted k) (58 ∷ compact_text d) (members_text true ms)))

pub before_some : (k j : List ℕ) (v : Option Data) (ms : Members) → slice_cmp nat_cmp k j ≡ Less → ComesBefore k ms → ComesBefore k (put_some j v ms)
before_some k j None ms first h = h
before_some k j (Some d) ms first h = before_put k j d ms first h

pub before_puts : (hs : Set) (k : List ℕ) (ms : Members) → ComesBefore k ms → IsBelowAll k hs → ComesBefore k (puts hs ms)
before_puts [] k ms h later = h
before_puts (x ∷ hs) k ms h later = before_some k x.0 x.1 (puts hs ms) later.0 (before_puts hs k ms h later.1)

-- with the member of that key before those that are left
pub key_text : (part : MapKind) (k : List ℕ) (v : Option Data) (ms : Members) (left : List ℕ) (entries : List Entry) (old new : List ℕ) → (w : WritesBelow part k ms left entries old new)
    → (hs : Set) → IsBelowAll k hs → rest_text part ((k, v) ∷ hs) ms ≡ w.bytes ++ (some_text k v ++ rest_text part hs w.rest)
key_text part k v ms left entries old new w hs later =
    w.written hs v later ∙ ap (λ t. w.bytes ++ t) (text_some k v (puts hs (without part w.rest)) (before_puts hs k (without part w.rest) w.before later))

pub below_at : (part : MapKind) (j k : List ℕ) (ms : Members) (left : List ℕ) (entries : List Entry) (old new : List ℕ) → j ≡ k → WritesBelow part j ms left entries old new → WritesBelow part k ms left entries old new
below_at part j k ms left entries old new is w = subst (λ x. WritesBelow part x ms left entries old new) is w

-- the member of that key was written after those below it
pub step_written : (part : MapKind) (k : List ℕ) (v : Option Data) (ms : Members) (left : List ℕ) (entries : List Entry) (old mid new : List ℕ) → (w : WritesBelow part k ms left entries old mid) → new ≡ mid ++ some_text k v
    → WritesStep part k v ms left entries old new
step_written part k v ms left entries old mid new w is = record {
  rest = w.rest;
  bytes = w.bytes ++ some_text k v;
  left_is = w.left_is;
  entries_are = w.entries_are;
  ascending = w.ascending;
  new_is = is ∙ ap (λ t. t ++ some_text k v) w.new_is ∙ append_assoc old w.bytes (some_text k v);
  written = λ hs later. key_text part k v ms left entries old mid w hs later ∙ sym (append_assoc w.bytes (some_text k v) (rest_text part hs w.rest));
}
