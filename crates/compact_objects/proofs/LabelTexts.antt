-- Labels that have been passed over are texts.
use Rattle.std.proofs.Common.{◌≡◌, ℕ, List, [], ◌∷◌, ◌++◌, Bool, true, false, ◌&&◌, Some, None, codes, refl, sym, ap, ◌∙◌, arith}
use Rattle.std.specs.Prelude.{Option, option_map}
use Rattle.std.specs.Option.{is_some}
use Rattle.json.specs.Print.{quoted}
use Rattle.serde_json.specs.Data.{Num, Data, null, boolean, number, string, array, object, Members, no_members, member}
use Rattle.serde_json.specs.Find.{as_str, get_member}
use Rattle.serde_json.specs.Written.{compact_text, members_text, number_text}
use Rattle.objects.specs.MetadataShape.{are_texts, labels_fit}
use Rattle.compact_objects.specs.Cursors.{BeginsNot, IsTextBefore}
use Rattle.compact_objects.proofs.Texts.{number_differs}

first_of : (c x : ℕ) (s r : List ℕ) → x ∷ s ≡ c ∷ r → x ≡ c
first_of c x s r e = cc

no_number : (n : Num) → BeginsNot 123 (number_text n)
no_number n = number_differs 123 n (λ d small e. omega (arith, small, e)) (λ e. cc)

-- a value that begins with a brace is a map
pub map_begun : (d : Data) (r : List ℕ) → compact_text d ≡ 123 ∷ r → (ms : Members) × (d ≡ object ms)
map_begun null r is = absurd (omega (arith, first_of 123 110 _ r is))
map_begun (boolean true) r is = absurd (omega (arith, first_of 123 116 _ r is))
map_begun (boolean false) r is = absurd (omega (arith, first_of 123 102 _ r is))
map_begun (number n) r is = absurd (no_number n r is)
map_begun (string s) r is = absurd (omega (arith, first_of 123 34 _ r is))
map_begun (array ds) r is = absurd (omega (arith, first_of 123 91 _ r is))
map_begun (object ms) r is = (ms, refl)

-- if these members are texts, all labels are
pub record LabelsLeft (d : Data) (left : List ℕ) : Type 0 where
  pub k : List ℕ
  pub e : Data
  pub others : Members
  pub is : left ≡ quoted k ++ 58 ∷ (compact_text e ++ members_text true others)
  pub goes_on : are_texts (member k e others) ≡ true → labels_fit (Some d) ≡ true

behind_is : (x y : ℕ) (s t : List ℕ) → x ∷ s ≡ y ∷ t → s ≡ t
behind_is x y s t e = cc

fit_by : (d : Data) (ms : Members) → d ≡ object ms → are_texts ms ≡ true → labels_fit (Some d) ≡ true
fit_by d ms is fit = ap (λ x. labels_fit (Some x)) is ∙ fit

no_labels_by : (ms : Members) (d : Data) → d ≡ object ms → members_text false ms ≡ 125 ∷ [] → labels_fit (Some d) ≡ true
no_labels_by no_members d map is = fit_by d no_members map refl
no_labels_by (member k e ms) d map is = absurd (omega (arith, first_of 125 34 _ [] is))

pub no_labels : (d : Data) (text : List ℕ) → text ≡ compact_text d → text ≡ 123 ∷ 125 ∷ [] → labels_fit (Some d) ≡ true
no_labels d text is empty =
    let m = map_begun d (125 ∷ []) (sym is ∙ empty) in
    no_labels_by m.0 d m.1 (behind_is 123 123 (members_text false m.0) (125 ∷ []) (sym (ap compact_text m.1) ∙ sym is ∙ empty))

begin_by : (ms : Members) (d : Data) (left : List ℕ) → d ≡ object ms → members_text false ms ≡ left → (left ≡ 125 ∷ [] → ⊥) → LabelsLeft d left
begin_by no_members d left map is some = absurd (some (sym is))
begin_by (member k e ms) d left map is some = record { k = k; e = e; others = ms; is = sym is; goes_on = fit_by d (member k e ms) map }

pub labels_begin : (d : Data) (text left : List ℕ) → text ≡ compact_text d → text ≡ 123 ∷ left → (text ≡ 123 ∷ 125 ∷ [] → ⊥) → LabelsLeft d left
labels_begin d text left is brace some =
    let m = map_begun d left (sym is ∙ brace) in
    begin_by m.0 d left m.1 (behind_is 123 123 (members_text false m.0) left (sym (ap compact_text m.1) ∙ sym is ∙ brace)) (λ e. some (brace ∙ ap (λ l. 123 ∷ l) e))

-- what follows a member begins with a comma or a brace
pub no_quote : (ms : Members) → BeginsNot 34 (members_text true ms)
no_quote no_members r is = omega (arith, first_of 34 125 _ r is)
no_quote (member k e ms) r is = omega (arith, first_of 34 44 _ r is)

next_by : (others : Members) (d e : Data) (k said behind left : List ℕ) (x : ℕ) → e ≡ string said → (are_texts (member k e others) ≡ true → labels_fit (Some d) ≡ true) → members_text true others ≡ x ∷ left → x ≡ 44 → LabelsLeft d left
next_by no_members d e k said behind left x is goes_on at comma = absurd (omega (arith, comma, first_of x 125 _ left at))
next_by (member l f ms) d e k said behind left x is goes_on at comma = record {
  k = l;
  e = f;
  others = ms;
  is = sym (behind_is 44 x _ left at);
  goes_on = λ h. goes_on (ap (λ y. is_some (as_str y) && are_texts (member l f ms)) is ∙ h);
}

pub label_passed : (d : Data) (left behind others : List ℕ) (x : ℕ) → (h : LabelsLeft d left) → IsTextBefore h.e (members_text true h.others) behind → behind ≡ x ∷ others → x ≡ 44 → LabelsLeft d others
label_passed d left behind others x h t at comma = next_by h.others d h.e h.k t.said behind others x t.is h.goes_on (sym t.rest_is ∙ at) comma

end_by : (others : Members) (d e : Data) (k said left : List ℕ) (x : ℕ) → e ≡ string said → (are_texts (member k e others) ≡ true → labels_fit (Some d) ≡ true) → members_text true others ≡ x ∷ left → x ≡ 125 → labels_fit (Some d) ≡ true
end_by no_members d e k said left x is goes_on at brace = goes_on (ap (λ y. is_some (as_str y) && true) is)
end_by (member l f ms) d e k said left x is goes_on at brace = absurd (omega (arith, brace, first_of x 44 _ left at))

pub labels_end : (d : Data) (left behind others : List ℕ) (x : ℕ) → (h : LabelsLeft d left) → IsTextBefore h.e (members_text true h.others) behind → behind ≡ x ∷ others → x ≡ 125 → labels_fit (Some d) ≡ true
labels_end d left behind others x h t at brace = end_by h.others d h.e h.k t.said others x t.is h.goes_on (sym t.rest_is ∙ at) brace

found_by : (found : Option Data) (text : List ℕ) → Some text ≡ option_map compact_text found → ((d : Data) → text ≡ compact_text d → labels_fit (Some d) ≡ true) → labels_fit found ≡ true
found_by None text is fit = absurd cc
found_by (Some d) text is fit = fit d cc

pub labels_found : (ms : Members) (text : List ℕ) (b : Bool) → Some text ≡ option_map compact_text (get_member (codes "labels") ms) → ((d : Data) → text ≡ compact_text d → b ≡ true → labels_fit (Some d) ≡ true) → b ≡ true
    → labels_fit (get_member (codes "labels") ms) ≡ true
labels_found ms text b is fit holds = found_by (get_member (codes "labels") ms) text is (λ d e. fit d e holds)

pub map_found : (found : Option Data) (text rest : List ℕ) → Some text ≡ option_map compact_text found → text ≡ 123 ∷ rest → (os : Members) × (found ≡ Some (object os)) × (text ≡ compact_text (object os))
map_found None text rest is brace = absurd cc
map_found (Some d) text rest is brace =
    let same : text ≡ compact_text d = cc in
    let m = map_begun d rest (sym same ∙ brace) in
    (m.0, ap Some m.1, same ∙ ap compact_text m.1)
