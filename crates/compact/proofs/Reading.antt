-- A compact text is read as the data of its value.
use Rattle.std.proofs.Common.{◌≡◌, ℕ, ◌≤◌, List, [], ◌∷◌, ◌++◌, Bool, true, false, Option, Some, option_map, option_and_then, refl, sym, ap, ◌∙◌, append_assoc, append-nil}
use Rattle.std.specs.Ordering.{nat_cmp, match_ordering}
use Rattle.std.specs.declared.cmp.Ordering.{Ordering}
use Rattle.std.specs.declared.cmp.Ordering.TheVariants.{Less, Equal, Greater}
use Rattle.std.specs.Cmp.Lexicographic.{slice_cmp}
use Rattle.std.proofs.lemmas.Bool.{or_parts}
use Rattle.json.specs.Token.{Token}
use Rattle.json.specs.Lex.{tokens}
use Rattle.json.specs.Json as json
use Rattle.json.specs.Json.{Json, null, boolean, number, string, array, object, Items, no_items, item, Members, no_members, member}
use Rattle.json.specs.Print.{print, print_from, quoted}
use Rattle.json.specs.Tree.{json_tokens, items_tokens, members_tokens, depth, HasNumbers, ItemsHaveNumbers, MembersHaveNumbers}
use Rattle.json.proofs.Printed.Tokens.{tokens-print}
use Rattle.json.proofs.Printed.Trees.{value-json_tokens, ArePrintable-json_tokens}
use Rattle.serde_json.specs.Data as values
use Rattle.serde_json.specs.Data.{Data, put}
use Rattle.serde_json.specs.Read.{read, of_json, of_items, of_members, max_depth}
use Rattle.serde_json.specs.Written.{comma_if, has_float, items_have_float, members_have_float}
use Rattle.compact.specs.Texts.{json_text, items_text, members_text, IsWhole, AreWholeItems, AreWholeMembers}

-- ---- the data of a value

record Converts (j : Json) : Type 0 where
  made : Data
  is : of_json j ≡ Some made
  integral : has_float made ≡ false

record ItemsConvert (js : Items) : Type 0 where
  made : values.Items
  is : of_items js ≡ Some made
  integral : items_have_float made ≡ false

record MembersConvert (ms : Members) (found : values.Members) : Type 0 where
  made : values.Members
  is : of_members ms found ≡ Some made
  integral : members_have_float made ≡ false

put_integral_at : (o : Ordering) (k l : List ℕ) (d e : Data) (ms : values.Members) → has_float d ≡ false → members_have_float (values.member l e ms) ≡ false → members_have_float (put k d ms) ≡ false
    → members_have_float (match_ordering o (values.member k d (values.member l e ms)) (values.member l d ms) (values.member l e (put k d ms))) ≡ false
put_integral_at Less k l d e ms here others later = rw (here, others) refl
put_integral_at Equal k l d e ms here others later = rw (here, (or_parts (has_float e) _ others).1) refl
put_integral_at Greater k l d e ms here others later = rw ((or_parts (has_float e) _ others).0, later) refl

put_integral : (k : List ℕ) (d : Data) (ms : values.Members) → has_float d ≡ false → members_have_float ms ≡ false → members_have_float (put k d ms) ≡ false
put_integral k d values.no_members here others = rw here refl
put_integral k d (values.member l e ms) here others =
    put_integral_at (slice_cmp nat_cmp k l) k l d e ms here others (put_integral k d ms here (or_parts (has_float e) _ others).1)

mutual
  converts : (j : Json) → IsWhole j → Converts j
  converts null w = record { made = values.null; is = refl; integral = refl }
  converts (boolean b) w = record { made = values.boolean b; is = refl; integral = refl }
  converts (number s) w = record { made = values.number w.value; is = ap (option_map values.number) w.reads; integral = w.whole }
  converts (string s) w = record { made = values.string s; is = refl; integral = refl }
  converts (array js) w = let all = items_convert js w in record { made = values.array all.made; is = ap (option_map values.array) all.is; integral = all.integral }
  converts (object ms) w = let all = members_convert ms values.no_members w refl in record { made = values.object all.made; is = ap (option_map values.object) all.is; integral = all.integral }

  items_convert : (js : Items) → AreWholeItems js → ItemsConvert js
  items_convert no_items w = record { made = values.no_items; is = refl; integral = refl }
  items_convert (item j js) w =
      let first = converts j w.0 in
      let others = items_convert js w.1 in
      record {
        made = values.item first.made others.made;
        is = ap (option_and_then (λ d. option_map (values.item d) (of_items js))) first.is ∙ ap (option_map (values.item first.made)) others.is;
        integral = rw (first.integral, others.integral) refl;
      }

  members_convert : (ms : Members) (found : values.Members) → AreWholeMembers ms → members_have_float found ≡ false → MembersConvert ms found
  members_convert no_members found w none = record { made = found; is = refl; integral = none }
  members_convert (member k j ms) found w none =
      let first = converts j w.0 in
      let others = members_convert ms (put k first.made found) w.1 (put_integral k first.made found first.integral none) in
      record {
        made = others.made;
        is = ap (option_and_then (λ d. of_members ms (put k d found))) first.is ∙ others.is;
        integral = others.integral;
      }

-- ---- numbers

mutual
  has_numbers : (j : Json) → IsWhole j → HasNumbers j
  has_numbers null w = tt
  has_numbers (boolean b) w = tt
  has_numbers (number s) w = w.number
  has_numbers (string s) w = tt
  has_numbers (array js) w = items_have_numbers js w
  has_numbers (object ms) w = members_have_numbers ms w

  items_have_numbers : (js : Items) → AreWholeItems js → ItemsHaveNumbers js
  items_have_numbers no_items w = tt
  items_have_numbers (item j js) w = (has_numbers j w.0, items_have_numbers js w.1)

  members_have_numbers : (ms : Members) → AreWholeMembers ms → MembersHaveNumbers ms
  members_have_numbers no_members w = tt
  members_have_numbers (member k j ms) w = (has_numbers j w.0, members_have_numbers ms w.1)

-- ---- the text is what is printed of the tokens

regroup : (q a b c : List ℕ) → (q ++ 58 ∷ []) ++ (a ++ (b ++ c)) ≡ (q ++ 58 ∷ (a ++ b)) ++ c
regroup q a b c = append_assoc q _ _ ∙ sym (append_assoc q _ c ∙ ap (λ s. q ++ 58 ∷ s) (append_assoc a b c))

regroup_item : (q a b c : List ℕ) → q ++ (a ++ (b ++ c)) ≡ (q ++ (a ++ b)) ++ c
regroup_item q a b c = simp append_assoc

print_member : (k : List ℕ) (j : Json) (ms : Members) (ts : List Token)
    → print_from false (json_tokens j ++ (members_tokens ms ++ ts)) ≡ json_text j ++ print_from true (members_tokens ms ++ ts)
    → print_from true (members_tokens ms ++ ts) ≡ members_text true ms ++ print_from true ts
    → (quoted k ++ 58 ∷ []) ++ print_from false ((json_tokens j ++ members_tokens ms) ++ ts) ≡ (quoted k ++ 58 ∷ (json_text j ++ members_text true ms)) ++ print_from true ts
print_member k j ms ts value rest =
    let whole = ap (print_from false) (append_assoc (json_tokens j) (members_tokens ms) ts) ∙ value in
    ap (λ s. (quoted k ++ 58 ∷ []) ++ s) (whole ∙ ap (λ s. json_text j ++ s) rest) ∙ regroup (quoted k) (json_text j) (members_text true ms) (print_from true ts)

mutual
  unfolding print_from

  print_value : (later : Bool) (j : Json) (ts : List Token) → print_from later (json_tokens j ++ ts) ≡ comma_if later ++ (json_text j ++ print_from true ts)
  print_value true null ts = refl
  print_value false null ts = refl
  print_value true (boolean b) ts = refl
  print_value false (boolean b) ts = refl
  print_value true (number s) ts = refl
  print_value false (number s) ts = refl
  print_value true (string s) ts = refl
  print_value false (string s) ts = refl
  print_value true (array js) ts = ap (λ s. 44 ∷ 91 ∷ s) (print_items false js ts)
  print_value false (array js) ts = ap (λ s. 91 ∷ s) (print_items false js ts)
  print_value true (object ms) ts = ap (λ s. 44 ∷ 123 ∷ s) (print_members false ms ts)
  print_value false (object ms) ts = ap (λ s. 123 ∷ s) (print_members false ms ts)

  print_items : (later : Bool) (js : Items) (ts : List Token) → print_from later (items_tokens js ++ ts) ≡ items_text later js ++ print_from true ts
  print_items true no_items ts = refl
  print_items false no_items ts = refl
  print_items later (item j js) ts =
      let rest = items_tokens js in
      ap (print_from later) (append_assoc (json_tokens j) rest ts) ∙ print_value later j (rest ++ ts) ∙ ap (λ s. comma_if later ++ (json_text j ++ s)) (print_items true js ts)
      ∙ regroup_item (comma_if later) (json_text j) (items_text true js) (print_from true ts)

  print_members : (later : Bool) (ms : Members) (ts : List Token) → print_from later (members_tokens ms ++ ts) ≡ members_text later ms ++ print_from true ts
  print_members true no_members ts = refl
  print_members false no_members ts = refl
  print_members true (member k j ms) ts = ap (λ s. 44 ∷ s) (print_member k j ms ts (print_value false j (members_tokens ms ++ ts)) (print_members true ms ts))
  print_members false (member k j ms) ts = print_member k j ms ts (print_value false j (members_tokens ms ++ ts)) (print_members true ms ts)

pub printed : (j : Json) → print (json_tokens j) ≡ json_text j
unfolding print_from
printed j = ap print (sym (append-nil (json_tokens j))) ∙ print_value false j [] ∙ append-nil (json_text j)

-- ---- reading

abbrev whole : Option (json.Json × List Token) → Option Data
whole o = option_and_then of_json (option_and_then (λ p. json.if_last p.0 p.1) o)

-- the value that a text is read as
pub record ReadAs (j : Json) (text : List ℕ) (made : Data) : Type 0 where
  pub reads : read text ≡ Some made
  pub integral : has_float made ≡ false

some_inj : (d e : Data) → Some d ≡ Some e → d ≡ e
some_inj d e h = cc

pub read_text : (j : Json) (text : List ℕ) (made : Data) → IsWhole j → depth j ≤ max_depth → text ≡ json_text j → of_json j ≡ Some made → ReadAs j text made
read_text j text made w shallow is converted =
    let same = ap tokens (is ∙ sym (printed j)) ∙ tokens-print (json_tokens j) (ArePrintable-json_tokens j (has_numbers j w)) in
    let c = converts j w in
    record {
      reads = ap whole (ap (json.value max_depth) (same ∙ sym (append-nil _)) ∙ value-json_tokens j max_depth [] shallow) ∙ converted;
      integral = ap has_float (some_inj made c.made (sym converted ∙ c.is)) ∙ c.integral;
    }
