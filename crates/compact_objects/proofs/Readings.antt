-- What is read of a text, with no float in it, is canonical.
use Rattle.std.proofs.Common.{◌≡◌, ℕ, zero, suc, ◌^◌, ◌<◌, ◌≤◌, ◌==◌, ◌&&◌, List, drop, Bool, true, false, cond, nat_lt, nat_le, Float, Some, None, refl, sym, ap, ◌∙◌, subst, arith}
use Rattle.std.specs.Prelude.{⊤, Option, option_map, option_and_then, slice_index}
use Rattle.std.specs.Ordering.{nat_cmp, match_ordering}
use Rattle.std.specs.declared.cmp.Ordering.{Ordering}
use Rattle.std.specs.declared.cmp.Ordering.TheVariants.{Less, Equal, Greater}
use Rattle.std.specs.Cmp.Lexicographic.{slice_cmp}
use Rattle.std.specs.Float.{binary64, float_is_finite}
use Rattle.std.proofs.lemmas.Bool.{and_parts, leb-true, ltb-true, or_parts}
use Rattle.fast_float.specs.Text.{Parts, digits_of, minus, nearest, scan, with_sign}
use Rattle.json.specs.Json as json
use Rattle.json.specs.Lex.{tokens}
use Rattle.serde_json.specs.Data.{Num, unsigned, negative, float, Data, null, boolean, number, string, array, object, Items, no_items, item, Members, no_members, member, put}
use Rattle.serde_json.specs.Find.{is_float}
use Rattle.serde_json.specs.Read.{is_integer, max_depth, number_from, number_of, of_items, of_json, of_members, read}
use Rattle.serde_json.specs.Written.{has_float, items_have_float, members_have_float, number_text}
use Rattle.serde_json.proofs.Numbers.{number_of-decimal, number_of-negative}
use Rattle.trees.specs.Canonical.{IsCanonical, AreCanonicalItems, AreCanonicalMembers}
use Rattle.trees.specs.Tree.{AreAscending}
use Rattle.trees.proofs.EntryPositions.{ascending_put}

-- ---- numbers

unsigned_by : (fits finite : Bool) (m : ℕ) (x : Float) (n : Num) → (fits ≡ true → m < 2 ^ 64) → cond fits (Some (unsigned m)) (cond finite (Some (float x)) None) ≡ Some n → is_float n ≡ false → number_of (number_text n) ≡ Some n
unsigned_by true finite m x n small is whole = let same : unsigned m ≡ n = cc in subst (λ (y : Num). number_of (number_text y) ≡ Some y) same (number_of-decimal m (small refl))
unsigned_by false true m x n small is whole = let same : float x ≡ n = cc in absurd (let e = ap is_float same ∙ whole in cc)
unsigned_by false false m x n small is whole = absurd cc

negative_at : (m : ℕ) (n : Num) → 0 < m → m ≤ 2 ^ 63 → negative (with_sign true m) ≡ n → number_of (number_text n) ≡ Some n
negative_at zero n some small same = absurd (omega (arith, some))
negative_at (suc k) n some small same = subst (λ (y : Num). number_of (number_text y) ≡ Some y) same (number_of-negative k (omega (arith, small)))

negative_by : (fits finite : Bool) (m : ℕ) (x : Float) (n : Num) → (fits ≡ true → 0 < m) → (fits ≡ true → m ≤ 2 ^ 63) → cond fits (Some (negative (with_sign true m))) (cond finite (Some (float x)) None) ≡ Some n → is_float n ≡ false
    → number_of (number_text n) ≡ Some n
negative_by true finite m x n some small is whole = negative_at m n (some refl) (small refl) cc
negative_by false true m x n some small is whole = let same : float x ≡ n = cc in absurd (let e = ap is_float same ∙ whole in cc)
negative_by false false m x n some small is whole = absurd cc

from_unsigned : (p : Parts) (n : Num) → number_from false p ≡ Some n → is_float n ≡ false → number_of (number_text n) ≡ Some n
from_unsigned p n is whole =
    unsigned_by (is_integer p && nat_lt (digits_of p) (2 ^ 64)) (float_is_finite (nearest binary64 false p)) (digits_of p) (nearest binary64 false p) n (λ h. ltb-true (digits_of p) (2 ^ 64) (and_parts (is_integer p) (nat_lt (digits_of p) (2 ^ 64)) h).1) is whole

from_negative : (p : Parts) (n : Num) → number_from true p ≡ Some n → is_float n ≡ false → number_of (number_text n) ≡ Some n
from_negative p n is whole =
    let low = nat_lt 0 (digits_of p) in
    let high = nat_le (digits_of p) (2 ^ 63) in
    negative_by (is_integer p && low && high) (float_is_finite (nearest binary64 true p)) (digits_of p) (nearest binary64 true p) n
    (λ h. ltb-true 0 (digits_of p) (and_parts (is_integer p) low (and_parts (is_integer p && low) high h).0).1) (λ h. leb-true (digits_of p) (2 ^ 63) (and_parts (is_integer p && low) high h).1) is whole

number_by : (b : Bool) (p q : Parts) (n : Num) → cond b (number_from true p) (number_from false q) ≡ Some n → is_float n ≡ false → number_of (number_text n) ≡ Some n
number_by true p q n is whole = from_negative p n is whole
number_by false p q n is whole = from_unsigned q n is whole

opened : (s : List ℕ) → number_of s ≡ cond (slice_index s 0 == minus) (number_from true (scan (drop 1 s))) (number_from false (scan s))
unfolding number_of
opened s = refl

number_again : (s : List ℕ) (n : Num) → number_of s ≡ Some n → is_float n ≡ false → number_of (number_text n) ≡ Some n
number_again s n is whole = number_by (slice_index s 0 == minus) (scan (drop 1 s)) (scan s) n (sym (opened s) ∙ is) whole

-- ---- values

map_some : {A B : Type 0} (f : A → B) (o : Option A) (b : B) → option_map f o ≡ Some b → (a : A) × (o ≡ Some a) × (f a ≡ b)
map_some f None b is = absurd cc
map_some f (Some a) b is = (a, refl, cc)

then_some : {A B : Type 0} (f : A → Option B) (o : Option A) (b : B) → option_and_then f o ≡ Some b → (a : A) × (o ≡ Some a) × (f a ≡ Some b)
then_some f None b is = absurd cc
then_some f (Some a) b is = (a, refl, is)

-- each member is canonical, unless it has a float
abbrev AreRead : Members → Type 0
AreRead no_members = ⊤
AreRead (member k d ms) = (has_float d ≡ false → IsCanonical d) × AreRead ms

put_read_at : (o : Ordering) (k l : List ℕ) (d e : Data) (ms : Members) → (has_float d ≡ false → IsCanonical d) → AreRead (member l e ms) → AreRead (put k d ms)
    → AreRead (match_ordering o (member k d (member l e ms)) (member l d ms) (member l e (put k d ms)))
put_read_at Less k l d e ms own h later = (own, h)
put_read_at Equal k l d e ms own h later = (own, h.1)
put_read_at Greater k l d e ms own h later = (h.0, later)

put_read : (k : List ℕ) (d : Data) (ms : Members) → (has_float d ≡ false → IsCanonical d) → AreRead ms → AreRead (put k d ms)
put_read k d no_members own h = (own, tt)
put_read k d (member l e ms) own h = put_read_at (slice_cmp nat_cmp k l) k l d e ms own h (put_read k d ms own h.1)

all_canonical : (ms : Members) → AreRead ms → members_have_float ms ≡ false → AreCanonicalMembers ms
all_canonical no_members read whole = tt
all_canonical (member k d ms) read whole =
    let parts = or_parts (has_float d) (members_have_float ms) whole in
    (read.0 parts.0, all_canonical ms read.1 parts.1)

mutual
  value_is : (j : json.Json) (d : Data) → of_json j ≡ Some d → has_float d ≡ false → IsCanonical d
  value_is json.null d is whole = let same : null ≡ d = cc in subst IsCanonical same tt
  value_is (json.boolean b) d is whole = let same : boolean b ≡ d = cc in subst IsCanonical same tt
  value_is (json.number s) d is whole = let m = map_some number (number_of s) d is in subst IsCanonical m.2 (number_again s m.0 m.1 (ap has_float m.2 ∙ whole))
  value_is (json.string s) d is whole = let same : string s ≡ d = cc in subst IsCanonical same tt
  value_is (json.array js) d is whole = let m = map_some array (of_items js) d is in subst IsCanonical m.2 (items_are js m.0 m.1 (ap has_float m.2 ∙ whole))
  value_is (json.object ms) d is whole =
      let m = map_some object (of_members ms no_members) d is in
      let r = members_are ms no_members m.0 m.1 tt tt in
      subst IsCanonical m.2 (r.1, all_canonical m.0 r.0 (ap has_float m.2 ∙ whole))

  items_are : (js : json.Items) (ds : Items) → of_items js ≡ Some ds → items_have_float ds ≡ false → AreCanonicalItems ds
  items_are json.no_items ds is whole = let same : no_items ≡ ds = cc in subst AreCanonicalItems same tt
  items_are (json.item j js) ds is whole =
      let t = then_some (λ d. option_map (item d) (of_items js)) (of_json j) ds is in
      let m = map_some (item t.0) (of_items js) ds t.2 in
      let parts = or_parts (has_float t.0) (items_have_float m.0) (ap items_have_float m.2 ∙ whole) in
      subst AreCanonicalItems m.2 (value_is j t.0 t.1 parts.0, items_are js m.0 m.1 parts.1)

  members_are : (ms : json.Members) (found made : Members) → of_members ms found ≡ Some made → AreRead found → AreAscending found → AreRead made × AreAscending made
  members_are json.no_members found made is read ascending = let same : found ≡ made = cc in (subst AreRead same read, subst AreAscending same ascending)
  members_are (json.member k j ms) found made is read ascending =
      let t = then_some (λ d. of_members ms (put k d found)) (of_json j) made is in
      members_are ms (put k t.0 found) made t.2 (put_read k t.0 found (λ whole. value_is j t.0 t.1 whole) read) (ascending_put k t.0 found ascending)

pub read_is_canonical : (text : List ℕ) (d : Data) → read text ≡ Some d → has_float d ≡ false → IsCanonical d
read_is_canonical text d is whole =
    let t = then_some of_json (option_and_then (λ p. json.if_last p.0 p.1) (json.value max_depth (tokens text))) d is in
    value_is t.0 d t.2 whole
