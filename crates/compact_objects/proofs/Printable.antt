-- Canonical values of whole numbers can be written.
use Rattle.std.proofs.Common.{◌≡◌, ℕ, zero, suc, ◌<◌, ◌^◌, ℤ, pos, negsuc, List, [], ◌∷◌, ◌++◌, Bool, true, false, cond, nat_lt, nat_le, Option, Some, None, option_map, Float, refl, subst, arith}
use Rattle.std.specs.Prelude.{⊤, ◌==◌, ◌&&◌, codes, drop, neg_ℤ, slice_index}
use Rattle.std.specs.Float.{binary64, float_is_finite}
use Rattle.std.specs.Float.Numeral.{Parts, minus, nearest_float, numeral_digits, scan_numeral}
use Rattle.std.specs.Fmt.{signed_decimal}
use Rattle.std.specs.Ordering.{nat_cmp, match_ordering}
use Rattle.std.specs.declared.cmp.Ordering.{Ordering}
use Rattle.std.specs.declared.cmp.Ordering.TheVariants.{Less, Equal, Greater}
use Rattle.std.specs.Cmp.Lexicographic.{slice_cmp}
use Rattle.std.proofs.lemmas.Bool.{and_parts, or_parts, ltb-true, leb-true}
use Rattle.json.specs.Print.{ArePrintableOrBad, IsNumber}
use Rattle.json.specs.Token.{Token, end_object}
use Rattle.json.specs.Tree.{json_tokens, items_tokens, members_tokens}
use Rattle.json.proofs.Printed.Decimals.{IsNumber-decimal, IsNumber-signed_decimal}
use Rattle.serde_json.specs.Data.{Num, unsigned, negative, float, Data, null, boolean, number, string, array, object, Items, no_items, item, Members, no_members, member, put}
use Rattle.serde_json.specs.Find.{get_member, is_float}
use Rattle.serde_json.specs.Read.{float_of, is_integer, number_from, number_of}
use Rattle.serde_json.specs.Written.{has_float, items_have_float, members_have_float, items_outline, members_outline, number_text, outline}
use Rattle.trees.specs.Building.{put_some}
use Rattle.trees.specs.Canonical.{IsCanonical, AreCanonicalItems, AreCanonicalMembers}
use Rattle.objects.specs.Key.{KeyParts}
use Rattle.objects.specs.Merged.{puts}
use Rattle.objects.specs.Meta.{MetaParts, IsMeta}
use Rattle.objects.specs.Seams.{spec_tokens, status_tokens}
use Rattle.objects.specs.Text.{unless_zero}
use Rattle.objects.specs.Uid.{uid_text}
use Rattle.objects.proofs.SeamTexts.{printable-append}
use Rattle.compact_objects.specs.Merging.{held_with, is_set, uid_data, without}
use Rattle.compact_objects.specs.declared.merge.MapKind.{MapKind}

-- ---- numbers

by_test : (test : Bool) (found other : Option Num) (n : Num) (P : Type 0) → cond test found other ≡ Some n → (test ≡ true → found ≡ Some n → P) → (other ≡ Some n → ⊥) → P
by_test true found other n P is one none = one refl is
by_test false found other n P is one none = absurd (none is)

not_float_by : (finite : Bool) (x : Float) (n : Num) → (float x ≡ n → ⊥) → cond finite (Some (float x)) None ≡ Some n → ⊥
not_float_by true x n none is = none cc
not_float_by false x n none is = cc

not_float : (sign : Bool) (p : Parts) (n : Num) → ((x : Float) → float x ≡ n → ⊥) → float_of sign p ≡ Some n → ⊥
not_float sign p n none is = not_float_by (float_is_finite (nearest_float binary64 sign p)) (nearest_float binary64 sign p) n (none _) is

small_found : (integer : Bool) (m n : ℕ) → (integer && nat_lt m (2 ^ 64)) ≡ true → Some (unsigned m) ≡ Some (unsigned n) → n < 2 ^ 64
small_found integer m n test found = let same : m ≡ n = cc in omega (arith, ltb-true m (2 ^ 64) (and_parts integer (nat_lt m (2 ^ 64)) test).1, same)

not_unsigned : (z : ℤ) (n : ℕ) → Some (negative z) ≡ Some (unsigned n) → ⊥
not_unsigned z n is = cc

not_negative : (n : ℕ) (z : ℤ) → Some (unsigned n) ≡ Some (negative z) → ⊥
not_negative n z is = cc

below_by : (m : ℕ) (z : ℤ) → nat_lt 0 m ≡ true → nat_le m (2 ^ 63) ≡ true → Some (negative (neg_ℤ (pos m))) ≡ Some (negative z) → IsNumber (signed_decimal z)
below_by zero z some fits is = absurd (omega (arith, ltb-true 0 0 some))
below_by (suc m) z some fits is =
    let same : negsuc m ≡ z = cc in
    let within = leb-true (suc m) (2 ^ 63) fits in
    subst (λ y. IsNumber (signed_decimal y)) same (IsNumber-signed_decimal (negsuc m) (omega (arith, within)))

below_found : (integer : Bool) (m : ℕ) (z : ℤ) → (integer && nat_lt 0 m && nat_le m (2 ^ 63)) ≡ true → Some (negative (neg_ℤ (pos m))) ≡ Some (negative z) → IsNumber (signed_decimal z)
below_found integer m z test found =
    let parts = and_parts (integer && nat_lt 0 m) (nat_le m (2 ^ 63)) test in
    below_by m z (and_parts integer (nat_lt 0 m) parts.0).1 parts.1 found

small_from : (sign : Bool) (p : Parts) (n : ℕ) → number_from sign p ≡ Some (unsigned n) → n < 2 ^ 64
small_from false p n is =
    by_test (is_integer p && nat_lt (numeral_digits p) (2 ^ 64)) (Some (unsigned (numeral_digits p))) (float_of false p) (unsigned n) (n < 2 ^ 64) is
    (λ test found. small_found (is_integer p) (numeral_digits p) n test found) (not_float false p (unsigned n) (λ x e. cc))
small_from true p n is =
    by_test (is_integer p && nat_lt 0 (numeral_digits p) && nat_le (numeral_digits p) (2 ^ 63)) (Some (negative (neg_ℤ (pos (numeral_digits p))))) (float_of true p) (unsigned n) (n < 2 ^ 64) is
    (λ test found. absurd (not_unsigned _ n found)) (not_float true p (unsigned n) (λ x e. cc))

below_from : (sign : Bool) (p : Parts) (z : ℤ) → number_from sign p ≡ Some (negative z) → IsNumber (signed_decimal z)
below_from false p z is =
    by_test (is_integer p && nat_lt (numeral_digits p) (2 ^ 64)) (Some (unsigned (numeral_digits p))) (float_of false p) (negative z) (IsNumber (signed_decimal z)) is
    (λ test found. absurd (not_negative _ z found)) (not_float false p (negative z) (λ x e. cc))
below_from true p z is =
    by_test (is_integer p && nat_lt 0 (numeral_digits p) && nat_le (numeral_digits p) (2 ^ 63)) (Some (negative (neg_ℤ (pos (numeral_digits p))))) (float_of true p) (negative z) (IsNumber (signed_decimal z)) is
    (λ test found. below_found (is_integer p) (numeral_digits p) z test found) (not_float true p (negative z) (λ x e. cc))

small_either : (signed : Bool) (p q : Parts) (n : ℕ) → cond signed (number_from true p) (number_from false q) ≡ Some (unsigned n) → n < 2 ^ 64
small_either true p q n is = small_from true p n is
small_either false p q n is = small_from false q n is

below_either : (signed : Bool) (p q : Parts) (z : ℤ) → cond signed (number_from true p) (number_from false q) ≡ Some (negative z) → IsNumber (signed_decimal z)
below_either true p q z is = below_from true p z is
below_either false p q z is = below_from false q z is

-- a whole number that is read from its digits again is one
number_is : (n : Num) → number_of (number_text n) ≡ Some n → is_float n ≡ false → IsNumber (number_text n)
unfolding number_of
number_is (unsigned n) again whole =
    let s = number_text (unsigned n) in IsNumber-decimal n (small_either (slice_index s 0 == minus) (scan_numeral (drop 1 s)) (scan_numeral s) n again)
number_is (negative z) again whole =
    let s = number_text (negative z) in below_either (slice_index s 0 == minus) (scan_numeral (drop 1 s)) (scan_numeral s) z again
number_is (float x) again whole = absurd cc

-- ---- values

abbrev pub IsWritable : Data → Type 0
IsWritable d = ArePrintableOrBad (json_tokens (outline d))

mutual
  pub writable : (d : Data) → IsCanonical d → has_float d ≡ false → IsWritable d
  writable null canonical whole = (tt, tt)
  writable (boolean b) canonical whole = (tt, tt)
  writable (number n) canonical whole = (number_is n canonical whole, tt)
  writable (string s) canonical whole = (tt, tt)
  writable (array ds) canonical whole = (tt, writable_items ds canonical whole)
  writable (object ms) canonical whole = (tt, writable_members ms canonical.1 whole)

  writable_items : (ds : Items) → AreCanonicalItems ds → items_have_float ds ≡ false → ArePrintableOrBad (items_tokens (items_outline ds))
  writable_items no_items canonical whole = (tt, tt)
  writable_items (item d ds) canonical whole =
      let parts = or_parts (has_float d) (items_have_float ds) whole in
      printable-append (json_tokens (outline d)) (items_tokens (items_outline ds)) (writable d canonical.0 parts.0) (writable_items ds canonical.1 parts.1)

  writable_members : (ms : Members) → AreCanonicalMembers ms → members_have_float ms ≡ false → ArePrintableOrBad (members_tokens (members_outline ms))
  writable_members no_members canonical whole = (tt, tt)
  writable_members (member k d ms) canonical whole =
      let parts = or_parts (has_float d) (members_have_float ms) whole in
      (tt, printable-append (json_tokens (outline d)) (members_tokens (members_outline ms)) (writable d canonical.0 parts.0) (writable_members ms canonical.1 parts.1))

-- ---- members, each of which can be written

abbrev pub AreWritable : Members → Type 0
AreWritable no_members = ⊤
AreWritable (member k d ms) = IsWritable d × AreWritable ms

abbrev pub IsWritableIfSome : Option Data → Type 0
IsWritableIfSome None = ⊤
IsWritableIfSome (Some d) = IsWritable d

pub all_writable : (ms : Members) → AreCanonicalMembers ms → members_have_float ms ≡ false → AreWritable ms
all_writable no_members canonical whole = tt
all_writable (member k d ms) canonical whole =
    let parts = or_parts (has_float d) (members_have_float ms) whole in
    (writable d canonical.0 parts.0, all_writable ms canonical.1 parts.1)

writable_put_at : (o : Ordering) (k l : List ℕ) (d e : Data) (ms : Members) → IsWritable d → AreWritable (member l e ms) → AreWritable (put k d ms)
    → AreWritable (match_ordering o (member k d (member l e ms)) (member l d ms) (member l e (put k d ms)))
writable_put_at Less k l d e ms one all later = (one, all)
writable_put_at Equal k l d e ms one all later = (one, all.1)
writable_put_at Greater k l d e ms one all later = (all.0, later)

writable_put : (k : List ℕ) (d : Data) (ms : Members) → IsWritable d → AreWritable ms → AreWritable (put k d ms)
writable_put k d no_members one all = (one, tt)
writable_put k d (member l e ms) one all = writable_put_at (slice_cmp nat_cmp k l) k l d e ms one all (writable_put k d ms one all.1)

pub writable_some : (k : List ℕ) (v : Option Data) (ms : Members) → IsWritableIfSome v → AreWritable ms → AreWritable (put_some k v ms)
writable_some k None ms one all = all
writable_some k (Some d) ms one all = writable_put k d ms one all

writable_without_by : (b : Bool) (l : List ℕ) (d : Data) (ms : Members) → IsWritable d → AreWritable ms → AreWritable (cond b ms (member l d ms))
writable_without_by true l d ms one all = all
writable_without_by false l d ms one all = (one, all)

pub writable_without : (part : MapKind) (ms : Members) → AreWritable ms → AreWritable (without part ms)
writable_without part no_members all = tt
writable_without part (member l d ms) all = writable_without_by (is_set part l) l d (without part ms) all.0 (writable_without part ms all.1)

writable_found_at : (o : Ordering) (found : Option Data) (e : Data) → IsWritable e → IsWritableIfSome found → IsWritableIfSome (match_ordering o found (Some e) found)
writable_found_at Less found e one later = later
writable_found_at Equal found e one later = one
writable_found_at Greater found e one later = later

pub writable_found : (k : List ℕ) (ms : Members) → AreWritable ms → IsWritableIfSome (get_member k ms)
writable_found k no_members all = tt
writable_found k (member l e ms) all = writable_found_at (slice_cmp nat_cmp k l) (get_member k ms) e all.0 (writable_found k ms all.1)

members_writable : (ms : Members) → AreWritable ms → ArePrintableOrBad (members_tokens (members_outline ms))
members_writable no_members all = (tt, tt)
members_writable (member k d ms) all = (tt, printable-append (json_tokens (outline d)) (members_tokens (members_outline ms)) all.0 (members_writable ms all.1))

pub map_writable : (ms : Members) → AreWritable ms → IsWritable (object ms)
map_writable ms all = (tt, members_writable ms all)

-- ---- what the store sets

text_writable : (text : Option (List ℕ)) → IsWritableIfSome (option_map string text)
text_writable None = tt
text_writable (Some s) = (tt, tt)

writable_unless : (none : Bool) (d : Data) → IsWritable d → IsWritableIfSome (cond none None (Some d))
writable_unless true d one = tt
writable_unless false d one = one

pub held_writable : (key : KeyParts) (meta : MetaParts) (version : List ℕ) (ms : Members) → IsMeta meta → AreWritable ms → AreWritable (puts (held_with key meta (Some (string version)) (uid_data meta.uid)) ms)
held_writable key meta version ms fits all =
    writable_some (codes "deletionTimestamp") (option_map string meta.deletion) _ (text_writable meta.deletion)
    (writable_some (codes "generation") (unless_zero meta.generation (number (unsigned meta.generation))) _
    (writable_unless (meta.generation == 0) (number (unsigned meta.generation)) (IsNumber-decimal meta.generation (omega (arith, fits.generation)), tt))
    (writable_put (codes "name") (string key.name) _ (tt, tt)
    (writable_put (codes "namespace") (string key.namespace) _ (tt, tt)
    (writable_put (codes "resourceVersion") (string version) _ (tt, tt)
    (writable_some (codes "uid") (uid_data meta.uid) ms (writable_unless (meta.uid == 0) (string (uid_text meta.uid)) (tt, tt)) all)))))

-- ---- a status and a spec

front_printable : (ts rest : List Token) → ArePrintableOrBad (ts ++ rest) → ArePrintableOrBad ts
front_printable [] rest h = tt
front_printable (t ∷ ts) rest h = (h.0, front_printable ts rest h.1)

pub status_writable : (status : Option Data) → ArePrintableOrBad (status_tokens status) → IsWritableIfSome status
status_writable None h = tt
status_writable (Some d) h = front_printable (json_tokens (outline d)) (end_object ∷ []) h.1

pub spec_printable : (spec : Option Data) → IsWritableIfSome spec → ArePrintableOrBad (spec_tokens spec)
spec_printable None h = tt
spec_printable (Some d) h = (tt, h)
