-- Owners that have been passed over have a text `uid`.
use Rattle.std.proofs.Common.{◌≡◌, ℕ, List, [], ◌∷◌, ◌++◌, take, Bool, true, false, ◌&&◌, nat_eq, Some, None, codes, refl, sym, ap, ◌∙◌, append_assoc, arith}
use Rattle.std.specs.Prelude.{Option, option_map, option_and_then}
use Rattle.std.specs.Option.{is_some}
use Rattle.std.specs.Ordering.{nat_cmp, match_ordering}
use Rattle.std.specs.declared.cmp.Ordering.{Ordering}
use Rattle.std.specs.declared.cmp.Ordering.TheVariants.{Less, Equal, Greater}
use Rattle.std.specs.Cmp.Lexicographic.{pointwise, slice_cmp}
use Rattle.std.proofs.lemmas.List.{append_cancel_left}
use Rattle.std.proofs.lemmas.Slice.Eq.{bytes_eq-Decides}
use Rattle.json.specs.Print.{escape, escape_byte, quoted}
use Rattle.serde_json.specs.Data.{Num, Data, null, boolean, number, string, array, object, Items, no_items, item, Members, no_members, member}
use Rattle.serde_json.specs.Find.{as_str, get_member}
use Rattle.serde_json.specs.Written.{compact_text, items_text, members_text, number_text}
use Rattle.trees.proofs.PutOrder.{equal_texts, same_text}
use Rattle.objects.specs.MetadataShape.{are_owners, is_owner, owners_fit}
use Rattle.compact_objects.specs.Cursors.{BeginsNot, EndsValue}
use Rattle.compact_objects.proofs.Texts.{append_differs, number_differs}
use Rattle.compact_objects.proofs.Cursors.{same_key, text_there}

first_of : (x y : ℕ) (s r : List ℕ) → x ∷ s ≡ y ∷ r → x ≡ y
first_of x y s r e = cc

behind_of : (x y : ℕ) (s t : List ℕ) → x ∷ s ≡ y ∷ t → s ≡ t
behind_of x y s t e = cc

no_map_number : (n : Num) → BeginsNot 123 (number_text n)
no_map_number n = number_differs 123 n (λ d small e. omega (arith, small, e)) (λ e. cc)

map_before : (d : Data) (rest r : List ℕ) → BeginsNot 123 rest → compact_text d ++ rest ≡ 123 ∷ r → (ms : Members) × (d ≡ object ms)
map_before null rest r other is = absurd (omega (arith, first_of 110 123 _ r is))
map_before (boolean true) rest r other is = absurd (omega (arith, first_of 116 123 _ r is))
map_before (boolean false) rest r other is = absurd (omega (arith, first_of 102 123 _ r is))
map_before (number n) rest r other is = absurd (append_differs 123 (number_text n) rest (no_map_number n) other r is)
map_before (string s) rest r other is = absurd (omega (arith, first_of 34 123 _ r is))
map_before (array ds) rest r other is = absurd (omega (arith, first_of 91 123 _ r is))
map_before (object ms) rest r other is = (ms, refl)

-- ---- one owner

-- if the members that are left have a text `uid`, the owner has it
pub record OwnerLeft (d : Data) (rest left : List ℕ) : Type 0 where
  pub ms : Members
  pub is : left ≡ members_text false ms ++ rest
  pub goes_on : is_owner (object ms) ≡ true → is_owner d ≡ true

pub behind_member : (ms : Members) (rest : List ℕ) → EndsValue (members_text true ms ++ rest)
behind_member no_members rest c comma bracket brace r is = brace (sym (first_of 125 c _ r is))
behind_member (member k e ms) rest c comma bracket brace r is = comma (sym (first_of 44 c _ r is))

joined : (q v m rest : List ℕ) → (q ++ 58 ∷ (v ++ m)) ++ rest ≡ q ++ 58 ∷ (v ++ (m ++ rest))
joined q v m rest = simp append_assoc

ends_brace : (rest : List ℕ) → EndsValue rest → BeginsNot 123 rest
ends_brace rest ends = ends 123 (λ e. omega (arith, e)) (λ e. omega (arith, e)) (λ e. omega (arith, e))

pub owner_begins : (d : Data) (text rest left : List ℕ) → EndsValue rest → text ≡ compact_text d ++ rest → text ≡ 123 ∷ left → OwnerLeft d rest left
owner_begins d text rest left ends is brace =
    let m = map_before d rest left (ends_brace rest ends) (sym is ∙ brace) in
    record { ms = m.0; is = sym (behind_of 123 123 (members_text false m.0 ++ rest) left (ap (λ x. compact_text x ++ rest) (sym m.1) ∙ sym is ∙ brace)); goes_on = λ h. ap is_owner m.1 ∙ h }

clash : true ≡ false → ⊥
clash e = cc

differ_at : (o : Ordering) (name l : List ℕ) (d : Data) (ms : Members) → slice_cmp nat_cmp name l ≡ o → (name ≡ l → ⊥) → match_ordering o (get_member name ms) (Some d) (get_member name ms) ≡ get_member name ms
differ_at Less name l d ms is other = refl
differ_at Equal name l d ms is other = absurd (other (equal_texts name l is))
differ_at Greater name l d ms is other = refl

other_found : (k : List ℕ) (e : Data) (ms : Members) → (codes "uid" ≡ k → ⊥) → get_member (codes "uid") (member k e ms) ≡ get_member (codes "uid") ms
other_found k e ms other = differ_at (slice_cmp nat_cmp (codes "uid") k) (codes "uid") k e ms refl other

-- a member is passed over that is not `uid`
not_begun : (left back : List ℕ) → left ≡ codes "\"uid\":" ++ back → pointwise nat_eq (take 6 left) (codes "\"uid\":") ≡ false → ⊥
not_begun left back is none = clash (sym ((bytes_eq-Decides (take 6 left) (codes "\"uid\":")).1 (ap (take 6) is)) ∙ none)

uid_escaped : (tail : List ℕ) → quoted (codes "uid") ++ 58 ∷ tail ≡ codes "\"uid\":" ++ tail
unfolding escape_byte
uid_escaped tail = refl

key_text : (k tail : List ℕ) → codes "uid" ≡ k → quoted k ++ 58 ∷ tail ≡ codes "\"uid\":" ++ tail
key_text k tail same = ap (λ x. quoted x ++ 58 ∷ tail) (sym same) ∙ uid_escaped tail

other_key : (k tail left : List ℕ) → left ≡ quoted k ++ 58 ∷ tail → pointwise nat_eq (take 6 left) (codes "\"uid\":") ≡ false → codes "uid" ≡ k → ⊥
other_key k tail left is none same = not_begun left tail (is ∙ key_text k tail same) none

next_by : (others : Members) (d e : Data) (k rest left : List ℕ) → (codes "uid" ≡ k → ⊥) → (is_owner (object (member k e others)) ≡ true → is_owner d ≡ true) → members_text true others ++ rest ≡ 44 ∷ left → OwnerLeft d rest left
next_by no_members d e k rest left other goes_on at = absurd (omega (arith, first_of 125 44 _ left at))
next_by (member l f ms) d e k rest left other goes_on at = record {
  ms = member l f ms;
  is = sym (behind_of 44 44 _ left at);
  goes_on = λ h. goes_on (ap (λ x. is_some (option_and_then as_str x)) (other_found k e (member l f ms) other) ∙ h);
}

passed_by : (ms : Members) (d : Data) (rest left behind next r : List ℕ) → left ≡ members_text false ms ++ rest → (is_owner (object ms) ≡ true → is_owner d ≡ true) → pointwise nat_eq (take 6 left) (codes "\"uid\":") ≡ false → left ≡ 34 ∷ r
    → ((k : List ℕ) (e : Data) (rest : List ℕ) → left ≡ quoted k ++ 58 ∷ (compact_text e ++ rest) → EndsValue rest → behind ≡ rest) → behind ≡ 44 ∷ next → OwnerLeft d rest next
passed_by no_members d rest left behind next r is goes_on none quote goes comma = absurd (omega (arith, first_of 125 34 rest r (sym is ∙ quote)))
passed_by (member k e others) d rest left behind next r is goes_on none quote goes comma =
    let tail = members_text true others ++ rest in
    let open_is = is ∙ joined (quoted k) (compact_text e) (members_text true others) rest in
    next_by others d e k rest next (other_key k (compact_text e ++ tail) left open_is none) goes_on (sym (goes k e tail open_is (behind_member others rest)) ∙ comma)

pub owner_passed : (d : Data) (rest left behind next r : List ℕ) → OwnerLeft d rest left → pointwise nat_eq (take 6 left) (codes "\"uid\":") ≡ false → left ≡ 34 ∷ r
    → ((k : List ℕ) (e : Data) (rest : List ℕ) → left ≡ quoted k ++ 58 ∷ (compact_text e ++ rest) → EndsValue rest → behind ≡ rest) → behind ≡ 44 ∷ next → OwnerLeft d rest next
owner_passed d rest left behind next r h none quote goes comma = passed_by h.ms d rest left behind next r h.is h.goes_on none quote goes comma

-- ---- the text `uid` at the end

uid_key : (k tail value : List ℕ) → quoted k ++ 58 ∷ tail ≡ codes "\"uid\":" ++ value → k ≡ codes "uid"
uid_key k tail value is = same_key (codes "uid") k (58 ∷ tail) (58 ∷ value) ((λ e. omega (arith, e)), (λ e. omega (arith, e)), ((λ e. omega (arith, e)), (λ e. omega (arith, e)), ((λ e. omega (arith, e)), (λ e. omega (arith, e)), tt)))
    (sym (append_assoc (escape k) (34 ∷ []) (58 ∷ tail)) ∙ behind_of 34 34 _ _ is)

value_at : (k tail value : List ℕ) → quoted k ++ 58 ∷ tail ≡ codes "\"uid\":" ++ value → k ≡ codes "uid" → value ≡ tail
value_at k tail value is key = append_cancel_left (codes "\"uid\":") value tail (sym is ∙ key_text k tail (sym key))

uid_found : (k : List ℕ) (e : Data) (ms : Members) (said : List ℕ) → k ≡ codes "uid" → e ≡ string said → is_owner (object (member k e ms)) ≡ true
uid_found k e ms said key text =
    let o : slice_cmp nat_cmp (codes "uid") k ≡ Equal = ap (slice_cmp nat_cmp (codes "uid")) key ∙ same_text (codes "uid") in
    ap (λ x. is_some (option_and_then as_str (match_ordering x (get_member (codes "uid") ms) (Some e) (get_member (codes "uid") ms)))) o ∙ ap (λ x. is_some (as_str x)) text

end_by : (others : Members) (rest found : List ℕ) → members_text true others ++ rest ≡ 125 ∷ found → found ≡ rest
end_by no_members rest found is = sym (behind_of 125 125 rest found is)
end_by (member k e ms) rest found is = absurd (omega (arith, first_of 44 125 _ found is))

ends_by : (ms : Members) (d : Data) (rest left value behind found r : List ℕ) → left ≡ members_text false ms ++ rest → (is_owner (object ms) ≡ true → is_owner d ≡ true) → left ≡ codes "\"uid\":" ++ value → value ≡ 34 ∷ r
    → ((s rest : List ℕ) → value ≡ quoted s ++ rest → behind ≡ rest) → behind ≡ 125 ∷ found → (found ≡ rest) × (is_owner d ≡ true)
ends_by no_members d rest left value behind found r is goes_on uid quote goes brace = absurd (omega (arith, first_of 125 34 rest _ (sym is ∙ uid)))
ends_by (member k e others) d rest left value behind found r is goes_on uid quote goes brace =
    let tail = members_text true others ++ rest in
    let at = sym (is ∙ joined (quoted k) (compact_text e) (members_text true others) rest) ∙ uid in
    let key = uid_key k (compact_text e ++ tail) value at in
    let said = text_there e tail r value (behind_member others rest) (value_at k (compact_text e ++ tail) value at key) quote in
    (end_by others rest found (sym (goes said.0 tail said.2) ∙ brace), goes_on (uid_found k e others said.0 key said.1))

pub owner_ends : (d : Data) (rest left value behind found r : List ℕ) → OwnerLeft d rest left → left ≡ codes "\"uid\":" ++ value → value ≡ 34 ∷ r → ((s rest : List ℕ) → value ≡ quoted s ++ rest → behind ≡ rest) → behind ≡ 125 ∷ found
    → (found ≡ rest) × (is_owner d ≡ true)
owner_ends d rest left value behind found r h uid quote goes brace = ends_by h.ms d rest left value behind found r h.is h.goes_on uid quote goes brace

-- ---- all owners

no_list_number : (n : Num) → BeginsNot 91 (number_text n)
no_list_number n = number_differs 91 n (λ d small e. omega (arith, small, e)) (λ e. cc)

list_begun : (d : Data) (r : List ℕ) → compact_text d ≡ 91 ∷ r → (ds : Items) × (d ≡ array ds)
list_begun null r is = absurd (omega (arith, first_of 110 91 _ r is))
list_begun (boolean true) r is = absurd (omega (arith, first_of 116 91 _ r is))
list_begun (boolean false) r is = absurd (omega (arith, first_of 102 91 _ r is))
list_begun (number n) r is = absurd (no_list_number n r is)
list_begun (string s) r is = absurd (omega (arith, first_of 34 91 _ r is))
list_begun (array ds) r is = (ds, refl)
list_begun (object ms) r is = absurd (omega (arith, first_of 123 91 _ r is))

-- if the items that are left are owners, all are
pub record OwnersLeft (d : Data) (left : List ℕ) : Type 0 where
  pub ds : Items
  pub is : left ≡ items_text false ds
  pub goes_on : are_owners ds ≡ true → owners_fit (Some d) ≡ true

behind_item : (ds : Items) → EndsValue (items_text true ds)
behind_item no_items c comma bracket brace r is = bracket (sym (first_of 93 c _ r is))
behind_item (item d ds) c comma bracket brace r is = comma (sym (first_of 44 c _ r is))

pub owners_begin : (d : Data) (text left : List ℕ) → text ≡ compact_text d → text ≡ 91 ∷ left → OwnersLeft d left
owners_begin d text left is bracket =
    let m = list_begun d left (sym is ∙ bracket) in
    record { ds = m.0; is = sym (behind_of 91 91 (items_text false m.0) left (sym (ap compact_text m.1) ∙ sym is ∙ bracket)); goes_on = λ fit. ap (λ x. owners_fit (Some x)) m.1 ∙ fit }

-- the next item is an owner, and what follows it
record NextOwner (d : Data) (behind : List ℕ) : Type 0 where
  first : Data
  others : Items
  behind_is : behind ≡ items_text true others
  goes_on : are_owners others ≡ true → owners_fit (Some d) ≡ true

next_owner : (ds : Items) (d : Data) (left behind r : List ℕ) → left ≡ items_text false ds → (are_owners ds ≡ true → owners_fit (Some d) ≡ true) → left ≡ 123 ∷ r
    → ((e : Data) (rest : List ℕ) → left ≡ compact_text e ++ rest → EndsValue rest → (behind ≡ rest) × (is_owner e ≡ true)) → NextOwner d behind
next_owner no_items d left behind r is goes_on brace goes = absurd (omega (arith, first_of 93 123 [] r (sym is ∙ brace)))
next_owner (item first others) d left behind r is goes_on brace goes =
    let o = goes first (items_text true others) is (behind_item others) in
    record { first = first; others = others; behind_is = o.0; goes_on = λ fit. goes_on (ap (λ b. b && are_owners others) o.1 ∙ fit) }

comma_by : (others : Items) (d : Data) (next : List ℕ) (x : ℕ) → (are_owners others ≡ true → owners_fit (Some d) ≡ true) → items_text true others ≡ x ∷ next → x ≡ 44 → OwnersLeft d next
comma_by no_items d next x goes_on at comma = absurd (omega (arith, comma, first_of 93 x [] next at))
comma_by (item e ds) d next x goes_on at comma = record { ds = item e ds; is = sym (behind_of 44 x _ next at); goes_on = goes_on }

pub owners_passed : (d : Data) (left behind next r : List ℕ) (x : ℕ) → OwnersLeft d left → left ≡ 123 ∷ r → ((e : Data) (rest : List ℕ) → left ≡ compact_text e ++ rest → EndsValue rest → (behind ≡ rest) × (is_owner e ≡ true))
    → behind ≡ x ∷ next → x ≡ 44 → OwnersLeft d next
owners_passed d left behind next r x h brace goes at comma = let n = next_owner h.ds d left behind r h.is h.goes_on brace goes in comma_by n.others d next x n.goes_on (sym n.behind_is ∙ at) comma

bracket_by : (others : Items) (d : Data) (next : List ℕ) (x : ℕ) → (are_owners others ≡ true → owners_fit (Some d) ≡ true) → items_text true others ≡ x ∷ next → x ≡ 93 → owners_fit (Some d) ≡ true
bracket_by no_items d next x goes_on at bracket = goes_on refl
bracket_by (item e ds) d next x goes_on at bracket = absurd (omega (arith, bracket, first_of 44 x _ next at))

pub owners_end : (d : Data) (left behind next r : List ℕ) (x : ℕ) → OwnersLeft d left → left ≡ 123 ∷ r → ((e : Data) (rest : List ℕ) → left ≡ compact_text e ++ rest → EndsValue rest → (behind ≡ rest) × (is_owner e ≡ true))
    → behind ≡ x ∷ next → x ≡ 93 → owners_fit (Some d) ≡ true
owners_end d left behind next r x h brace goes at bracket = let n = next_owner h.ds d left behind r h.is h.goes_on brace goes in bracket_by n.others d next x n.goes_on (sym n.behind_is ∙ at) bracket

found_by : (found : Option Data) (text : List ℕ) → Some text ≡ option_map compact_text found → ((d : Data) → text ≡ compact_text d → owners_fit (Some d) ≡ true) → owners_fit found ≡ true
found_by None text is fit = absurd cc
found_by (Some d) text is fit = fit d cc

pub owners_found : (ms : Members) (text : List ℕ) (b : Bool) → Some text ≡ option_map compact_text (get_member (codes "ownerReferences") ms) → ((d : Data) → text ≡ compact_text d → b ≡ true → owners_fit (Some d) ≡ true) → b ≡ true
    → owners_fit (get_member (codes "ownerReferences") ms) ≡ true
owners_found ms text b is fit holds = found_by (get_member (codes "ownerReferences") ms) text is (λ d e. fit d e holds)
