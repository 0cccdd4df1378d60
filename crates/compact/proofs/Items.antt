-- Items of a list that have been put into order go before what comes next.
use Rattle.std.proofs.Common.{◌≡◌, ℕ, ◌+◌, ◌-◌, ◌≤◌, List, [], ◌∷◌, ◌++◌, length, true, Some, refl, sym, ap, ◌∙◌, append_assoc, length-append, arith}
use borrow.Rule.Slice.PartMut.{mid_of, put_mid}
use Rattle.std.specs.Prelude.{option_and_then, option_map}
use Rattle.json.specs.Json.{Json, Items, no_items, item}
use Rattle.json.specs.Tree.{depth, items_depth}
use Rattle.serde_json.specs.Data as values
use Rattle.serde_json.specs.Data.{Data}
use Rattle.serde_json.specs.Read.{of_json, of_items}
use Rattle.serde_json.specs.Written as written
use Rattle.serde_json.specs.Written.{compact_text}
use Rattle.compact.specs.Texts.{json_text, items_text, IsWhole, AreWholeItems}
use Rattle.compact.specs.Ordered.{IsOrdered, AreOrderedItems}
use Rattle.compact.proofs.Lists.{part_of, put_of}

pub record MoreItems (most : ℕ) (old new rest : List ℕ) : Type 0 where
  pub first : Json
  pub others : Items
  pub d : Data
  pub ds : values.Items
  pub is : old ≡ json_text first ++ (items_text true others ++ rest)
  pub now : new ≡ compact_text d ++ (written.items_text true ds ++ rest)
  pub converted : of_json first ≡ Some d
  pub others_converted : of_items others ≡ Some ds
  pub shallow : depth first ≤ most
  pub others_shallow : items_depth others ≤ most
  pub whole : IsWhole first
  pub others_whole : AreWholeItems others

-- whatever orders the items that are left orders the whole list
pub record ItemsState (most : ℕ) (old now : List ℕ) (at : ℕ) : Type 0 where
  pub front : List ℕ
  pub left : List ℕ
  pub is : now ≡ front ++ left
  pub at_is : length front ≡ at
  pub goes_on : (new rest : List ℕ) → MoreItems most left new rest → MoreItems most old (front ++ new) rest

pub items_begin : (most : ℕ) (text : List ℕ) → ItemsState most text text 0
items_begin most text = record { front = []; left = text; is = refl; at_is = refl; goes_on = λ new rest h. h }

regroup_comma : (f c a : List ℕ) → (f ++ c) ++ 44 ∷ a ≡ (f ++ (c ++ 44 ∷ [])) ++ a
regroup_comma f c a = simp append_assoc

regroup_new : (f c a : List ℕ) → f ++ (c ++ 44 ∷ a) ≡ (f ++ (c ++ 44 ∷ [])) ++ a
regroup_new f c a = simp append_assoc

same_items : (most : ℕ) (old a b rest : List ℕ) → a ≡ b → MoreItems most old a rest → MoreItems most old b rest
same_items most old a b rest e h = record {
  first = h.first;
  others = h.others;
  d = h.d;
  ds = h.ds;
  is = h.is;
  now = sym e ∙ h.now;
  converted = h.converted;
  others_converted = h.others_converted;
  shallow = h.shallow;
  others_shallow = h.others_shallow;
  whole = h.whole;
  others_whole = h.others_whole;
}

-- the text once the next item is in order, with the byte after it
record NextItem (front left now sub text after : List ℕ) (at n x : ℕ) (made : Data) (rest : List ℕ) : Type 0 where
  left_is : mid_of at (length now - at) now ≡ left
  text_is : text ≡ (front ++ compact_text made) ++ x ∷ after
  rest_is : rest ≡ x ∷ after
  here : at + n ≡ length (front ++ compact_text made)

next_item : (most : ℕ) (P : Data → Type 0) (old now sub after : List ℕ) (at n x : ℕ) → (s : ItemsState most old now at) → (o : IsOrdered most P (mid_of at (length now - at) now) sub n)
    → mid_of (at + n) (length (put_mid at (length now - at) now sub) - (at + n)) (put_mid at (length now - at) now sub) ≡ x ∷ after
    → NextItem s.front s.left now sub (put_mid at (length now - at) now sub) after at n x o.made o.rest
next_item most P old now sub after at n x s o next =
    let text_is = put_of now s.front s.left sub at s.is (sym s.at_is) ∙ ap (λ l. s.front ++ l) o.now ∙ sym (append_assoc s.front (compact_text o.made) o.rest) in
    let here : at + n ≡ length (s.front ++ compact_text o.made) = omega (arith, s.at_is, o.size, length-append s.front (compact_text o.made)) in
    let rest_is = sym (part_of (put_mid at (length now - at) now sub) (s.front ++ compact_text o.made) o.rest (at + n) text_is here) ∙ next in
    record { left_is = part_of now s.front s.left at s.is (sym s.at_is); text_is = text_is ∙ ap (λ l. (s.front ++ compact_text o.made) ++ l) rest_is; rest_is = rest_is; here = here }

pub item_passed : (most : ℕ) (P : Data → Type 0) (old now sub after : List ℕ) (at n x : ℕ) → (s : ItemsState most old now at) → IsOrdered most P (mid_of at (length now - at) now) sub n
    → mid_of (at + n) (length (put_mid at (length now - at) now sub) - (at + n)) (put_mid at (length now - at) now sub) ≡ x ∷ after → x ≡ 44 → ItemsState most old (put_mid at (length now - at) now sub) (at + n + 1)
item_passed most P old now sub after at n x s o next comma =
    let i = next_item most P old now sub after at n x s o next in
    let rest_at = i.rest_is ∙ ap (λ c. c ∷ after) comma in
    record {
      front = s.front ++ (compact_text o.made ++ 44 ∷ []);
      left = after;
      is = i.text_is ∙ ap (λ c. (s.front ++ compact_text o.made) ++ c ∷ after) comma ∙ regroup_comma s.front (compact_text o.made) after;
      at_is = omega (arith, s.at_is, o.size, length-append s.front (compact_text o.made ++ 44 ∷ []), length-append (compact_text o.made) (44 ∷ []));
      goes_on = λ new rest h. same_items most old _ _ rest (regroup_new s.front (compact_text o.made) new) (s.goes_on (compact_text o.made ++ 44 ∷ new) rest record {
        first = o.value;
        others = item h.first h.others;
        d = o.made;
        ds = values.item h.d h.ds;
        is = sym i.left_is ∙ o.is ∙ ap (λ l. json_text o.value ++ l) (rest_at ∙ ap (λ l. 44 ∷ l) (h.is ∙ sym (append_assoc (json_text h.first) (items_text true h.others) rest)));
        now = ap (λ l. compact_text o.made ++ 44 ∷ l) (h.now ∙ sym (append_assoc (compact_text h.d) (written.items_text true h.ds) rest));
        converted = o.converted;
        others_converted = ap (option_and_then (λ d. option_map (values.item d) (of_items h.others))) h.converted ∙ ap (option_map (values.item h.d)) h.others_converted;
        shallow = o.shallow;
        others_shallow = omega (arith, h.shallow, h.others_shallow);
        whole = o.whole;
        others_whole = (h.whole, h.others_whole);
      });
    }

size_left : (text whole rest front : List ℕ) (x : ℕ) → text ≡ whole ++ rest → text ≡ front ++ x ∷ rest → length whole ≡ length front + 1
size_left text whole rest front x one other =
    let long = sym (ap length one) ∙ ap length other in
    omega (arith, long, length-append whole rest, length-append front (x ∷ rest))

pub items_end : (most : ℕ) (P : Data → Type 0) (old now sub after : List ℕ) (at n x : ℕ) → (s : ItemsState most old now at) → IsOrdered most P (mid_of at (length now - at) now) sub n
    → mid_of (at + n) (length (put_mid at (length now - at) now sub) - (at + n)) (put_mid at (length now - at) now sub) ≡ x ∷ after → x ≡ 93 → AreOrderedItems most old (put_mid at (length now - at) now sub) (at + n + 1)
items_end most P old now sub after at n x s o next bracket =
    let i = next_item most P old now sub after at n x s o next in
    let rest_at = i.rest_is ∙ ap (λ c. c ∷ after) bracket in
    let all_is = i.text_is ∙ ap (λ c. (s.front ++ compact_text o.made) ++ c ∷ after) bracket in
    let m = s.goes_on (compact_text o.made ++ 93 ∷ after) after record {
      first = o.value;
      others = no_items;
      d = o.made;
      ds = values.no_items;
      is = sym i.left_is ∙ o.is ∙ ap (λ l. json_text o.value ++ l) rest_at;
      now = refl;
      converted = o.converted;
      others_converted = refl;
      shallow = o.shallow;
      others_shallow = omega arith;
      whole = o.whole;
      others_whole = tt;
    } in
    let new_is = all_is ∙ append_assoc s.front (compact_text o.made) (93 ∷ after) ∙ m.now ∙ sym (append_assoc (compact_text m.d) (written.items_text true m.ds) after) in
    record {
      items = item m.first m.others;
      made = values.item m.d m.ds;
      rest = after;
      is = m.is ∙ sym (append_assoc (json_text m.first) (items_text true m.others) after);
      now = new_is;
      size = size_left _ (compact_text m.d ++ written.items_text true m.ds) after (s.front ++ compact_text o.made) 93 new_is all_is ∙ (let one : length (s.front ++ compact_text o.made) + 1 ≡ at + n + 1 = omega (arith, i.here) in one);
      converted = ap (option_and_then (λ d. option_map (values.item d) (of_items m.others))) m.converted ∙ ap (option_map (values.item m.d)) m.others_converted;
      shallow = omega (arith, m.shallow, m.others_shallow);
      whole = (m.whole, m.others_whole);
    }

pub no_item_is : (most : ℕ) (text behind : List ℕ) (x : ℕ) → text ≡ x ∷ behind → x ≡ 93 → AreOrderedItems most text text 1
no_item_is most text behind x is bracket =
    let at = is ∙ ap (λ c. c ∷ behind) bracket in
    record { items = no_items; made = values.no_items; rest = behind; is = at; now = at; size = refl; converted = refl; shallow = omega arith; whole = tt }
