-- Values that have been put into order.
use Rattle.std.proofs.Common.{◌≡◌, ℕ, ◌+◌, ◌-◌, ◌≤◌, List, [], ◌∷◌, ◌++◌, length, true, Some, refl, subst, sym, ap, ◌∙◌, append_assoc, append-nil, length-append, ◌==◌, Bool, arith}
use Rattle.std.proofs.lemmas.Bool.{eqb-true}
use borrow.Rule.Slice.PartMut.{mid_of, put_mid}
use Rattle.std.specs.Prelude.{option_map}
use Rattle.json.specs.Print.{escape, quoted}
use Rattle.json.specs.Json.{Json, null, boolean, number, string, array, object}
use Rattle.json.specs.Tree.{depth}
use Rattle.serde_json.specs.Data as values
use Rattle.serde_json.specs.Data.{Data}
use Rattle.serde_json.specs.Read.{of_json, max_depth}
use Rattle.serde_json.specs.Written.{compact_text}
use Rattle.compact.specs.Texts.{json_text, IsWhole}
use Rattle.compact.specs.Begins.{BeginsScalar, IsPlainText, EndsPlain}
use Rattle.compact.specs.Notes.{OfMembers, Told, IsNoted}
use Rattle.compact.specs.Ordered.{IsOrdered, AreOrderedItems, AreOrderedMembers, IsOrderedMember}
use Rattle.compact.specs.Reads.{IsSorted}
use Rattle.compact.specs.declared.scanner.Tables.{Tables}
use Rattle.compact.specs.declared.scanner.Level.{Level}
use Rattle.compact.specs.declared.scanner.Level.TheVariants.{Line}
use Rattle.compact.proofs.Lists.{part_of, put_of, none_left}
use Rattle.compact.proofs.Reading.{read_text}

record Scalar (j : Json) : Type 0 where
  made : Data
  converted : of_json j ≡ Some made
  same : json_text j ≡ compact_text made
  nothing : (level : Level) (tables : Tables) → OfMembers (Told level tables) made

scalar_made : (j : Json) → IsWhole j → depth j ≤ 0 → Scalar j
scalar_made null w h = record { made = values.null; converted = refl; same = refl; nothing = λ level tables. tt }
scalar_made (boolean b) w h = record { made = values.boolean b; converted = refl; same = refl; nothing = λ level tables. tt }
scalar_made (number s) w h = record { made = values.number w.value; converted = ap (option_map values.number) w.reads; same = w.is; nothing = λ level tables. tt }
scalar_made (string s) w h = record { made = values.string s; converted = refl; same = refl; nothing = λ level tables. tt }
scalar_made (array js) w h = absurd (omega (arith, h))
scalar_made (object ms) w h = absurd (omega (arith, h))

pub scalar_is : (most : ℕ) (text rest : List ℕ) (level : Level) (tables : Tables) → BeginsScalar text rest → IsOrdered most (IsNoted level tables tables) text text (length text - length rest)
scalar_is most text rest level tables b =
    let s = scalar_made b.value b.whole b.shallow in
    let now = b.is ∙ ap (λ t. t ++ rest) s.same in
    record {
      value = b.value;
      made = s.made;
      rest = rest;
      is = b.is;
      now = now;
      size = omega (arith, ap length now, length-append (compact_text s.made) rest);
      converted = s.converted;
      shallow = omega (arith, b.shallow);
      whole = b.whole;
      said = (s.nothing level tables, λ h. refl);
    }

pub plain_text_is : (text inside rest : List ℕ) (x : ℕ) → text ≡ x ∷ inside → x ≡ 34 → EndsPlain inside rest → IsPlainText text (length text - length rest)
plain_text_is text inside rest x is quote e =
    let whole = is ∙ ap (λ c. c ∷ inside) quote ∙ ap (λ l. 34 ∷ l) (e.is ∙ ap (λ v. v ++ 34 ∷ rest) (sym e.plain) ∙ sym (append_assoc (escape e.value) (34 ∷ []) rest)) in
    record { inside = e.value; rest = rest; is = whole; size = omega (arith, ap length whole, length-append (quoted e.value) rest); plain = e.plain }

pub plain_is : (most : ℕ) (text : List ℕ) (n : ℕ) (level : Level) (tables : Tables) → IsPlainText text n → IsOrdered most (IsNoted level tables tables) text text n
plain_is most text n level tables k =
    let size : length text - length k.rest ≡ n = omega (arith, k.size, ap length k.is, length-append (quoted k.inside) k.rest) in
    subst (λ m. IsOrdered most (IsNoted level tables tables) text text m) size (scalar_is most text k.rest level tables record { value = string k.inside; is = k.is; shallow = omega arith; whole = tt })

pub list_is : (most below : ℕ) (text behind sub : List ℕ) (x n : ℕ) (level : Level) (old new : Tables) → below + 1 ≤ most → text ≡ x ∷ behind → x ≡ 91 → AreOrderedItems below (mid_of 1 (length text - 1) text) sub n → new ≡ old
    → IsOrdered most (IsNoted level old new) text (put_mid 1 (length text - 1) text sub) (n + 1)
list_is most below text behind sub x n level old new deeper is bracket o kept =
    let at = is ∙ ap (λ c. c ∷ behind) bracket in
    let left_is = part_of text (91 ∷ []) behind 1 at refl in
    record {
      value = array o.items;
      made = values.array o.made;
      rest = o.rest;
      is = at ∙ ap (λ l. 91 ∷ l) (sym left_is ∙ o.is);
      now = put_of text (91 ∷ []) behind sub 1 at refl ∙ ap (λ l. 91 ∷ l) o.now;
      size = omega (arith, o.size);
      converted = ap (option_map values.array) o.converted;
      shallow = omega (arith, o.shallow, deeper);
      whole = o.whole;
      said = (tt, λ h. kept);
    }

pub map_is : (most below : ℕ) (P : Data → Type 0) (text behind sub : List ℕ) (x n : ℕ) → below + 1 ≤ most → text ≡ x ∷ behind → x ≡ 123 → AreOrderedMembers below (λ ms. P (values.object ms)) (mid_of 1 (length text - 1) text) sub n
    → IsOrdered most P text (put_mid 1 (length text - 1) text sub) (n + 1)
map_is most below P text behind sub x n deeper is brace o =
    let at = is ∙ ap (λ c. c ∷ behind) brace in
    let left_is = part_of text (123 ∷ []) behind 1 at refl in
    record {
      value = object o.members;
      made = values.object o.made;
      rest = o.rest;
      is = at ∙ ap (λ l. 123 ∷ l) (sym left_is ∙ o.is);
      now = put_of text (123 ∷ []) behind sub 1 at refl ∙ ap (λ l. 123 ∷ l) o.now;
      size = omega (arith, o.size);
      converted = ap (option_map values.object) o.converted;
      shallow = omega (arith, o.shallow, deeper);
      whole = o.whole;
      said = o.said;
    }

-- ---- one member

one_more : (q b : List ℕ) → q ++ 58 ∷ b ≡ (q ++ 58 ∷ []) ++ b
one_more q b = simp append_assoc

pub member_is : (most : ℕ) (P : List ℕ → Data → Type 0) (text behind sub : List ℕ) (key n x : ℕ) → (k : IsPlainText text key) → mid_of key (length text - key) text ≡ x ∷ behind → x ≡ 58
    → IsOrdered most (P k.inside) (mid_of (key + 1) (length text - (key + 1)) text) sub n → IsOrderedMember most P text (put_mid (key + 1) (length text - (key + 1)) text sub) key (key + 1 + n)
member_is most P text behind sub key n x k next colon o =
    let rest_at = sym (part_of text (quoted k.inside) k.rest key k.is (sym k.size)) ∙ next ∙ ap (λ c. c ∷ behind) colon in
    let at = k.is ∙ ap (λ l. quoted k.inside ++ l) rest_at in
    let at_one = at ∙ one_more (quoted k.inside) behind in
    let here : key + 1 ≡ length (quoted k.inside ++ 58 ∷ []) = omega (arith, k.size, length-append (quoted k.inside) (58 ∷ [])) in
    let left_is = part_of text (quoted k.inside ++ 58 ∷ []) behind (key + 1) at_one here in
    record {
      key = k.inside;
      value = o.value;
      made = o.made;
      rest = o.rest;
      is = at ∙ ap (λ l. quoted k.inside ++ 58 ∷ l) (sym left_is ∙ o.is);
      now = put_of text (quoted k.inside ++ 58 ∷ []) behind sub (key + 1) at_one here ∙ sym (one_more (quoted k.inside) sub) ∙ ap (λ l. quoted k.inside ++ 58 ∷ l) o.now;
      key_is = k.size;
      size = omega (arith, k.size, o.size, length-append (quoted k.inside) (58 ∷ compact_text o.made));
      plain = k.plain;
      converted = o.converted;
      shallow = o.shallow;
      whole = o.whole;
      said = o.said;
    }

-- ---- the whole line

pub line_is : (most : ℕ) (old new : List ℕ) (before tables : Tables) (n : ℕ) (same : Bool) → most ≤ max_depth → IsOrdered most (IsNoted Line before tables) old new n → length new ≡ length old
    → same ≡ (n == length new) → same ≡ true → IsSorted old new tables
line_is most old new before tables n same few o long is h =
    let all : n ≡ length new = eqb-true n (length new) (sym is ∙ h) in
    let none = none_left o.rest (omega (arith, all, o.size, ap length o.now, length-append (compact_text o.made) o.rest)) in
    let old_is = o.is ∙ ap (λ r. json_text o.value ++ r) none ∙ append-nil (json_text o.value) in
    let r = read_text o.value old o.made o.whole (omega (arith, o.shallow, few)) old_is o.converted in
    record {
      found = o.made;
      reads = r.reads;
      integral = r.integral;
      now = o.now ∙ ap (λ r. compact_text o.made ++ r) none ∙ append-nil (compact_text o.made);
      noted = o.said.0;
    }
