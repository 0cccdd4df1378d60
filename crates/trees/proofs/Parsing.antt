-- The grammar's loops over tokens, a turn at a time, under the conversion to data.
use Rattle.std.proofs.Common.{◌≡◌, ℕ, zero, suc, ◌-◌, ◌<◌, ◌≤◌, List, [], ◌∷◌, ◌++◌, length, Bool, true, false, ◌||◌, cond, Option, Some, None, option_map, option_and_then, Ok, Err, refl, sym, ap, ◌∙◌, arith}
use Rattle.std.specs.Ordering.{nat_cmp, match_ordering}
use Rattle.std.specs.declared.cmp.Ordering.{Ordering}
use Rattle.std.specs.declared.cmp.Ordering.TheVariants.{Less, Equal, Greater}
use Rattle.std.specs.Cmp.Lexicographic.{slice_cmp}
use Rattle.std.proofs.lemmas.Bool.{or_parts}
use Rattle.json.specs.Token.{Token}
use Rattle.json.specs.Json as json
use Rattle.json.specs.Json.{Parse, parse_map, value, after_end_array, read_key, items_step, items, members, if_last}
use Rattle.json.proofs.Grammar.{value_is, value-begin_array, value-begin_object, items_end, items_more, read_key-shorter, members_end, members_no_key, members_more}
use Rattle.serde_json.specs.Data.{Num, Data, null, boolean, number, string, array, object, Items, no_items, item, Members, no_members, member, put}
use Rattle.serde_json.specs.Read.{number_of, of_json, of_items, of_members, converted}
use Rattle.serde_json.specs.Find.{is_float}
use Rattle.serde_json.specs.Written.{has_float, items_have_float, members_have_float}
use Rattle.trees.specs.declared.fault.TreeError.{TreeError}
use Rattle.trees.specs.declared.fault.TreeError.TheVariants as errors
use Rattle.trees.specs.declared.fault.TreeError.TheVariants.{NotJson}
use Rattle.trees.specs.declared.tree.Tree.{Tree}
use Rattle.trees.specs.Steps.{Fails, required}
use Rattle.trees.specs.Tree.{data_of, items_of, members_of}
use Rattle.trees.specs.Integral.{number_if_integer, if_integral, items_if_integral, members_if_integral}
use Rattle.trees.proofs.IntegralTokens.{either_no}
use Rattle.trees.proofs.Joining.{join_items, join_items-none, join_items-one, items_of-push}

-- ---- what was read, and what was refused

-- if one reader finds nothing, the other finds nothing
pub refused_too : {A B : Type 0} (e : TreeError) (o : Option A) (p : Option B) → (o ≡ None → p ≡ None) → Fails e (required NotJson o) → Fails e (required NotJson p)
refused_too errors.Memory o p none h = tt
refused_too errors.NotJson None p none h = ap (required NotJson) (none refl)
refused_too _ None p none h = absurd cc
refused_too _ (Some x) p none h = absurd cc

pub refused_json : {A : Type 0} (o : Option A) → o ≡ None → required NotJson o ≡ Err NotJson
refused_json o none = ap (required NotJson) none

pub nothing_mapped : {A B : Type 0} (g : A → B) (o : Option (A × List Token)) → parse_map g o ≡ None → o ≡ None
nothing_mapped g None e = refl
nothing_mapped g (Some p) e = absurd cc

-- what a value is, by what was read of it
pub was_read : {A B : Type 0} (g : A → B) (o : Option (A × List Token)) (b : B) (r : List Token) → required NotJson (parse_map g o) ≡ Ok (b, r) → (a : A) × (o ≡ Some (a, r)) × (g a ≡ b)
was_read g None b r e = absurd cc
was_read {A = A} {B = B} g (Some p) b r e =
    let same : ◌≡◌ {A = B × List Token} (g p.0, p.1) (b, r) = cc in
    (p.0, ap (λ x. Some (p.0, x.1)) same, ap (λ x. x.0) same)

pub now_read : {A B : Type 0} (g : A → B) (o : Option (A × List Token)) (a : A) (b : B) (r : List Token) → o ≡ Some (a, r) → g a ≡ b → required NotJson (parse_map g o) ≡ Ok (b, r)
now_read g o a b r is same = ap (λ x. required NotJson (parse_map g x)) is ∙ ap (λ x. Ok (x, r)) same

converted_by : {B : Type 0} (r s : List Token) (x : Option B) (b : B) → option_map {U = B × List Token} (λ y. (y, r)) x ≡ Some (b, s) → (r ≡ s) × (x ≡ Some b)
converted_by r s None b e = absurd cc
converted_by {B = B} r s (Some y) b e = let same : ◌≡◌ {A = B × List Token} (y, r) (b, s) = cc in (ap (λ q. q.1) same, ap (λ q. Some q.0) same)

was_converted : {A B : Type 0} (f : A → Option B) (o : Option (A × List Token)) (b : B) (r : List Token) → converted f o ≡ Some (b, r) → (a : A) × (o ≡ Some (a, r)) × (f a ≡ Some b)
was_converted f None b r e = absurd cc
was_converted f (Some p) b r e = let both = converted_by p.1 r (f p.0) b e in (p.0, ap (λ s. Some (p.0, s)) both.0, both.1)

not_converted : {B : Type 0} (r : List Token) (x : Option B) → option_map {U = B × List Token} (λ y. (y, r)) x ≡ None → x ≡ None
not_converted r None e = refl
not_converted r (Some y) e = absurd cc

map_twice : {A B : Type 0} (g : A → B) (r : List Token) (x : Option A) → option_map (λ b. (b, r)) (option_map g x) ≡ parse_map g (option_map (λ a. (a, r)) x)
map_twice g r None = refl
map_twice g r (Some a) = refl

pub converted_array : (o : Option (json.Items × List Token)) → converted of_json (parse_map json.array o) ≡ parse_map array (converted of_items o)
converted_array None = refl
converted_array (Some p) = map_twice array p.1 (of_items p.0)

pub converted_object : (o : Option (json.Members × List Token)) → converted of_json (parse_map json.object o) ≡ parse_map object (converted (λ ms. of_members ms no_members) o)
converted_object None = refl
converted_object (Some p) = map_twice object p.1 (of_members p.0 no_members)

-- ---- values of one token

module _ (depth : ℕ) (ts rest : List Token) where
  pub read_null : ts ≡ Token.null ∷ rest → required NotJson (parse_map if_integral (converted of_json (value depth ts))) ≡ Ok (Some null, rest)
  read_null is = ap (λ o. required NotJson (parse_map if_integral (converted of_json o))) (ap (value depth) is ∙ value_is depth (Token.null ∷ rest))

  pub read_truth : (b : Bool) → ts ≡ Token.boolean b ∷ rest → required NotJson (parse_map if_integral (converted of_json (value depth ts))) ≡ Ok (Some (boolean b), rest)
  read_truth b is = ap (λ o. required NotJson (parse_map if_integral (converted of_json o))) (ap (value depth) is ∙ value_is depth (Token.boolean b ∷ rest))

  pub read_text : (s : List ℕ) → ts ≡ Token.string s ∷ rest → required NotJson (parse_map if_integral (converted of_json (value depth ts))) ≡ Ok (Some (string s), rest)
  read_text s is = ap (λ o. required NotJson (parse_map if_integral (converted of_json o))) (ap (value depth) is ∙ value_is depth (Token.string s ∷ rest))

  pub no_value : value depth ts ≡ None → required NotJson (parse_map if_integral (converted of_json (value depth ts))) ≡ Err NotJson
  no_value none = ap (λ o. required NotJson (parse_map if_integral (converted of_json o))) none

number_by : (b : Bool) (n : Num) → cond b None (Some (number n)) ≡ option_map number (cond b None (Some n))
number_by true n = refl
number_by false n = refl

number_under : (o : Option Num) (rest : List Token) (x : Option Num) → required NotJson (option_map number_if_integer o) ≡ Ok x
    → required NotJson (parse_map if_integral (option_map (λ d. (d, rest)) (option_map number o))) ≡ Ok (option_map number x, rest)
number_under None rest x read = absurd cc
number_under (Some n) rest x read = let same : number_if_integer n ≡ x = cc in ap (λ y. Ok (y, rest)) (number_by (is_float n) n ∙ ap (option_map number) same)

no_number_under : (o : Option Num) (rest : List Token) → option_map number_if_integer o ≡ None → parse_map if_integral (option_map (λ d. (d, rest)) (option_map number o)) ≡ None
no_number_under None rest none = refl
no_number_under (Some n) rest none = absurd cc

module _ (depth : ℕ) (ts rest : List Token) (s : List ℕ) (is : ts ≡ Token.number s ∷ rest) where
  at_number : converted of_json (value depth ts) ≡ option_map (λ d. (d, rest)) (option_map number (number_of s))
  at_number = ap (converted of_json) (ap (value depth) is ∙ value_is depth (Token.number s ∷ rest))

  pub read_number : (x : Option Num) → required NotJson (option_map number_if_integer (number_of s)) ≡ Ok x → required NotJson (parse_map if_integral (converted of_json (value depth ts))) ≡ Ok (option_map number x, rest)
  read_number x read = ap (λ o. required NotJson (parse_map if_integral o)) at_number ∙ number_under (number_of s) rest x read

  pub number_refused : (e : TreeError) → Fails e (required NotJson (option_map number_if_integer (number_of s))) → Fails e (required NotJson (parse_map if_integral (converted of_json (value depth ts))))
  number_refused e h = refused_too e (option_map number_if_integer (number_of s)) _ (λ none. ap (parse_map if_integral) at_number ∙ no_number_under (number_of s) rest none) h

-- ---- items

with_item : (j : json.Json) (d : Data) → of_json j ≡ Some d → (o : Option (json.Items × List Token)) → converted of_items (parse_map (json.item j) o) ≡ parse_map (item d) (converted of_items o)
with_item j d e None = refl
with_item j d e (Some p) = rw e (map_twice (item d) p.1 (of_items p.0))

without_item : (j : json.Json) → of_json j ≡ None → (o : Option (json.Items × List Token)) → converted of_items (parse_map (json.item j) o) ≡ None
without_item j e None = refl
without_item j e (Some p) = rw e

no_item : (more : Parse json.Items) (o : Option (json.Json × List Token)) → converted of_json o ≡ None → converted of_items (option_and_then (λ q. parse_map (json.item q.0) (more q.1)) o) ≡ None
no_item more None e = refl
no_item more (Some q) e = without_item q.0 (not_converted q.1 (of_json q.0) e) (more q.1)

item_refused : (p : Parse json.Json) (n : ℕ) (ts : List Token) → after_end_array ts ≡ None → converted of_json (p ts) ≡ None → converted of_items (items p n ts) ≡ None
unfolding items
item_refused p zero ts going e = refl
item_refused p (suc n) ts going e = ap (λ o. converted of_items (items_step p (items p n) ts o)) going ∙ no_item (items p n) (p ts) e

item_read : (p : Parse json.Json) (n : ℕ) (ts r : List Token) (d : Data) → 0 < n → after_end_array ts ≡ None → converted of_json (p ts) ≡ Some (d, r)
    → converted of_items (items p n ts) ≡ parse_map (item d) (converted of_items (items p (n - 1) r))
item_read p n ts r d some going e =
    let j = was_converted of_json (p ts) d r e in
    ap (converted of_items) (items_more p n ts r j.0 some going j.1) ∙ with_item j.0 d j.2 _

join_more : (done : Items) (d : Data) (o : Option (Items × List Token)) → parse_map (join_items done) (parse_map (item d) o) ≡ parse_map (join_items (join_items done (item d no_items))) o
join_more done d None = refl
join_more done d (Some p) = ap (λ ds. Some (ds, p.1)) (sym (join_items-one done d p.0))

join_nothing : (o : Option (Items × List Token)) → o ≡ parse_map (join_items no_items) o
join_nothing None = refl
join_nothing (Some p) = refl

or_false : (b : Bool) → (b || false) ≡ b
or_false true = refl
or_false false = refl

or_again : (b c d : Bool) → (b || (c || d)) ≡ ((b || c) || d)
or_again true c d = refl
or_again false c d = refl

floats_one : (ds : Items) (d : Data) → items_have_float (join_items ds (item d no_items)) ≡ (items_have_float ds || has_float d)
floats_one no_items d = or_false (has_float d)
floats_one (item c ds) d = ap (λ b. has_float c || b) (floats_one ds d) ∙ or_again (has_float c) (items_have_float ds) (has_float d)

-- the items of the trees, if all that were read are integral
abbrev pub items_so_far : Bool → List Tree → Option Items
items_so_far are_integral ts = cond are_integral (Some (items_of ts)) None

push_by : (b c w : Bool) (ds : Items) (d : Data) (ts : List Tree) (t : Tree) → cond b None (Some ds) ≡ items_so_far w ts → cond c None (Some d) ≡ Some (data_of t)
    → cond (b || c) None (Some (join_items ds (item d no_items))) ≡ items_so_far w (ts ++ t ∷ [])
push_by true c true ds d ts t h k = absurd cc
push_by true c false ds d ts t h k = refl
push_by false true w ds d ts t h k = absurd cc
push_by false false false ds d ts t h k = absurd cc
push_by false false true ds d ts t h k =
    let same : ds ≡ items_of ts = cc in
    let one : d ≡ data_of t = cc in
    ap Some (ap (λ es. join_items es (item d no_items)) same ∙ ap (λ e. join_items (items_of ts) (item e no_items)) one ∙ sym (items_of-push ts t))

drop_by : (b c : Bool) (d : Data) (es : Items) → cond c None (Some d) ≡ None → cond (b || c) None (Some es) ≡ None
drop_by true c d es k = refl
drop_by false true d es k = refl
drop_by false false d es k = absurd cc

-- the items so far, and then those that are left, are all
abbrev pub AreItemsSoFar : Parse json.Json → Option (Items × List Token) → Bool → List Tree → List Token → Type 0
AreItemsSoFar p all are_integral ts left =
    (done : Items) × (n : ℕ) × (length left ≤ n) × (all ≡ parse_map (join_items done) (converted of_items (items p n left))) × (items_if_integral done ≡ items_so_far are_integral ts)

module _ (p : Parse json.Json) where
  pub items_begin : (left : List Token) (ts : List Tree) → ts ≡ [] → AreItemsSoFar p (converted of_items (items p (length left) left)) true ts left
  items_begin left ts none = (no_items, length left, omega arith, join_nothing _, ap (λ xs. Some (items_of xs)) (sym none))

  module _ (all : Option (Items × List Token)) (w : Bool) (ts : List Tree) (left : List Token) (is : AreItemsSoFar p all w ts left) where
    item_turn : (r : List Token) (d : Data) → after_end_array left ≡ None → converted of_json (p left) ≡ Some (d, r) → length r < length left
        → all ≡ parse_map (join_items (join_items is.0 (item d no_items))) (converted of_items (items p (is.1 - 1) r))
    item_turn r d going read less =
        is.3 ∙ ap (parse_map (join_items is.0)) (item_read p is.1 left r d (omega (arith, is.2)) going read) ∙ join_more is.0 d (converted of_items (items p (is.1 - 1) r))

    pub items_push : (r : List Token) (new : List Tree) (t : Tree) → after_end_array left ≡ None → required NotJson (parse_map if_integral (converted of_json (p left))) ≡ Ok (Some (data_of t), r)
        → length r < length left → new ≡ ts ++ t ∷ [] → AreItemsSoFar p all w new r
    items_push r new t going read less pushed =
        let d = was_read if_integral (converted of_json (p left)) (Some (data_of t)) r read in (
          join_items is.0 (item d.0 no_items),
          is.1 - 1,
          omega (arith, is.2),
          item_turn r d.0 going d.1 less,
          ap (λ b. cond b None (Some (join_items is.0 (item d.0 no_items)))) (floats_one is.0 d.0) ∙ push_by (items_have_float is.0) (has_float d.0) w is.0 d.0 ts t is.4 d.2 ∙ ap (items_so_far w) (sym pushed),
        )

    pub items_drop : (r : List Token) → after_end_array left ≡ None → required NotJson (parse_map if_integral (converted of_json (p left))) ≡ Ok (None, r) → length r < length left → AreItemsSoFar p all false ts r
    items_drop r going read less =
        let d = was_read if_integral (converted of_json (p left)) None r read in (
          join_items is.0 (item d.0 no_items),
          is.1 - 1,
          omega (arith, is.2),
          item_turn r d.0 going d.1 less,
          ap (λ b. cond b None (Some (join_items is.0 (item d.0 no_items)))) (floats_one is.0 d.0) ∙ drop_by (items_have_float is.0) (has_float d.0) d.0 _ d.2,
        )

    pub items_refused : (e : TreeError) → after_end_array left ≡ None → Fails e (required NotJson (parse_map if_integral (converted of_json (p left)))) → Fails e (required NotJson (parse_map items_if_integral all))
    items_refused e going h =
        refused_too e (parse_map if_integral (converted of_json (p left))) (parse_map items_if_integral all)
        (λ none. ap (parse_map items_if_integral) (is.3 ∙ ap (parse_map (join_items is.0)) (item_refused p is.1 left going (nothing_mapped if_integral (converted of_json (p left)) none)))) h

    pub items_finish : (r : List Token) → after_end_array left ≡ Some r → required NotJson (parse_map items_if_integral all) ≡ Ok (items_so_far w ts, r)
    items_finish r closed =
        now_read items_if_integral all is.0 (items_so_far w ts) r
        (is.3 ∙ ap (λ o. parse_map (join_items is.0) (converted of_items o)) (items_end p is.1 left r is.2 closed) ∙ ap (λ ds. Some (ds, r)) (join_items-none is.0)) is.4

-- ---- members

with_member : (k : List ℕ) (j : json.Json) (d : Data) (old : Members) → of_json j ≡ Some d → (o : Option (json.Members × List Token))
    → converted (λ ms. of_members ms old) (parse_map (json.member k j) o) ≡ converted (λ ms. of_members ms (put k d old)) o
with_member k j d old e None = refl
with_member k j d old e (Some p) = rw e

without_member : (k : List ℕ) (j : json.Json) (old : Members) → of_json j ≡ None → (o : Option (json.Members × List Token)) → converted (λ ms. of_members ms old) (parse_map (json.member k j) o) ≡ None
without_member k j old e None = refl
without_member k j old e (Some p) = rw e

no_member : (k : List ℕ) (old : Members) (more : Parse json.Members) (o : Option (json.Json × List Token)) → converted of_json o ≡ None
    → converted (λ ms. of_members ms old) (option_and_then (λ q. parse_map (json.member k q.0) (more q.1)) o) ≡ None
no_member k old more None e = refl
no_member k old more (Some q) e = without_member k q.0 old (not_converted q.1 (of_json q.0) e) (more q.1)

member_refused : (p : Parse json.Json) (old : Members) (n : ℕ) (k : List ℕ) (ts s : List Token) → read_key ts ≡ Some (Some k, s) → converted of_json (p s) ≡ None → converted (λ ms. of_members ms old) (members p n ts) ≡ None
unfolding members
member_refused p old zero k ts s key e = refl
member_refused p old (suc n) k ts s key e = rw key (no_member k old (members p n) (p s) e)

-- the members that were found, and then those that are left, are all
abbrev pub AreMembersSoFar : Parse json.Json → Option (Members × List Token) → Members → List Token → Type 0
AreMembersSoFar p all found left = (n : ℕ) × (length left ≤ n) × (all ≡ converted (λ ms. of_members ms found) (members p n left))

module _ (p : Parse json.Json) where
  pub members_begin : (before : Members) (n : ℕ) (left : List Token) → length left ≤ n → AreMembersSoFar p (converted (λ ms. of_members ms before) (members p n left)) before left
  members_begin before n left enough = (n, enough, refl)

  module _ (all : Option (Members × List Token)) (found : Members) (left : List Token) (is : AreMembersSoFar p all found left) where
    pub members_turn : (k : List ℕ) (s r : List Token) (d : Data) (new : Members) → read_key left ≡ Some (Some k, s) → converted of_json (p s) ≡ Some (d, r) → length r < length s → new ≡ put k d found → AreMembersSoFar p all new r
    members_turn k s r d new key read less put =
        let shorter = read_key-shorter left (Some k) s key in
        let j = was_converted of_json (p s) d r read in (
          is.0 - 1,
          omega (arith, is.1),
          is.2 ∙ ap (converted (λ ms. of_members ms found)) (members_more p is.0 k left s r j.0 (omega (arith, is.1)) key j.1) ∙ with_member k j.0 d found j.2 (members p (is.0 - 1) r)
              ∙ ap (λ (old : Members). converted (λ ms. of_members ms old) (members p (is.0 - 1) r)) (sym put),
        )

    pub members_no_key_left : read_key left ≡ None → parse_map members_if_integral all ≡ None
    members_no_key_left none = ap (parse_map members_if_integral) (is.2 ∙ ap (converted (λ ms. of_members ms found)) (members_no_key p is.0 left none))

    pub members_refused : (e : TreeError) (k : List ℕ) (s : List Token) → read_key left ≡ Some (Some k, s) → Fails e (required NotJson (parse_map if_integral (converted of_json (p s))))
        → Fails e (required NotJson (parse_map members_if_integral all))
    members_refused e k s key h =
        refused_too e (parse_map if_integral (converted of_json (p s))) (parse_map members_if_integral all)
        (λ none. ap (parse_map members_if_integral) (is.2 ∙ member_refused p found is.0 k left s key (nothing_mapped if_integral (converted of_json (p s)) none))) h

    pub members_finish : (r : List Token) (x : Option Members) → read_key left ≡ Some (None, r) → members_if_integral found ≡ x → required NotJson (parse_map members_if_integral all) ≡ Ok (x, r)
    members_finish r x closed whole =
        now_read members_if_integral all found x r (is.2 ∙ ap (converted (λ ms. of_members ms found)) (members_end p is.0 left r is.1 closed)) whole

integral_is_by : (b : Bool) (d e : Data) → cond b None (Some d) ≡ Some e → (b ≡ false) × (d ≡ e)
integral_is_by true d e is = absurd cc
integral_is_by false d e is = (refl, cc)

integral_put_at : (o : Ordering) (k l : List ℕ) (d e : Data) (ms : Members) → has_float d ≡ false → members_have_float (member l e ms) ≡ false → members_have_float (put k d ms) ≡ false → has_float e ≡ false
    → members_have_float (match_ordering o (member k d (member l e ms)) (member l d ms) (member l e (put k d ms))) ≡ false
integral_put_at Less k l d e ms one all later first = either_no (has_float d) (members_have_float (member l e ms)) one all
integral_put_at Equal k l d e ms one all later first = either_no (has_float d) (members_have_float ms) one (ap (λ b. b || members_have_float ms) (sym first) ∙ all)
integral_put_at Greater k l d e ms one all later first = either_no (has_float e) (members_have_float (put k d ms)) first later

-- an integral value that is put leaves the members integral
integral_put : (k : List ℕ) (d : Data) (ms : Members) → has_float d ≡ false → members_have_float ms ≡ false → members_have_float (put k d ms) ≡ false
integral_put k d no_members one all = either_no (has_float d) false one refl
integral_put k d (member l e ms) one all =
    let both = or_parts (has_float e) (members_have_float ms) all in
    integral_put_at (slice_cmp nat_cmp k l) k l d e ms one all (integral_put k d ms one both.1) both.0

-- one more entry was read, and put in order
pub entries_turn : (p : Parse json.Json) (all : Option (Members × List Token)) (es new : List (List ℕ × Tree)) (left s r : List Token) (k : List ℕ) (t : Tree) → AreMembersSoFar p all (members_of es) left → read_key left ≡ Some (Some k, s)
    → required NotJson (parse_map if_integral (converted of_json (p s))) ≡ Ok (Some (data_of t), r) → length r < length s → members_of new ≡ put k (data_of t) (members_of es) → members_have_float (members_of es) ≡ false
    → AreMembersSoFar p all (members_of new) r × (members_have_float (members_of new) ≡ false)
entries_turn p all es new left s r k t is key read less put_there whole =
    let d = was_read if_integral (converted of_json (p s)) (Some (data_of t)) r read in
    let one = integral_is_by (has_float d.0) d.0 (data_of t) d.2 in
    let same : members_of new ≡ put k d.0 (members_of es) = put_there ∙ ap (λ x. put k x (members_of es)) (sym one.1) in
    (members_turn p all (members_of es) left is k s r d.0 (members_of new) key d.1 less same, ap members_have_float same ∙ integral_put k d.0 (members_of es) one.0 whole)

-- ---- lists and maps within a depth

read_under : {A : Type 0} (whole : A → Option A) (g : A → Data) → ((a : A) → if_integral (g a) ≡ option_map g (whole a)) → (o : Option (A × List Token)) (x : Option A) (r : List Token)
    → required NotJson (parse_map whole o) ≡ Ok (x, r) → required NotJson (parse_map if_integral (parse_map g o)) ≡ Ok (option_map g x, r)
read_under whole g both o x r read =
    let a = was_read whole o x r read in
    now_read if_integral (parse_map g o) (g a.0) (option_map g x) r (ap (parse_map g) a.1) (both a.0 ∙ ap (option_map g) a.2)

array_by : (b : Bool) (ds : Items) → cond b None (Some (array ds)) ≡ option_map array (cond b None (Some ds))
array_by true ds = refl
array_by false ds = refl

object_by : (b : Bool) (ms : Members) → cond b None (Some (object ms)) ≡ option_map object (cond b None (Some ms))
object_by true ms = refl
object_by false ms = refl

nothing_under : {A B : Type 0} (f : A → Option A) (g : A → B) (h : B → Option B) (o : Option (A × List Token)) → parse_map f o ≡ None → parse_map h (parse_map g o) ≡ None
nothing_under f g h None e = refl
nothing_under f g h (Some p) e = absurd cc

pub no_list : (depth : ℕ) (ts : List Token) → depth ≡ 0 → required NotJson (parse_map if_integral (converted of_json (value depth (Token.begin_array ∷ ts)))) ≡ Err NotJson
unfolding value
no_list depth ts none = ap (λ d. required NotJson (parse_map if_integral (converted of_json (value d (Token.begin_array ∷ ts))))) none

pub no_map : (depth : ℕ) (ts : List Token) → depth ≡ 0 → required NotJson (parse_map if_integral (converted of_json (value depth (Token.begin_object ∷ ts)))) ≡ Err NotJson
unfolding value
no_map depth ts none = ap (λ d. required NotJson (parse_map if_integral (converted of_json (value d (Token.begin_object ∷ ts))))) none

module _ (depth : ℕ) (ts : List Token) (some : 0 < depth) where
  list_opens : converted of_json (value depth (Token.begin_array ∷ ts)) ≡ parse_map array (converted of_items (items (value (depth - 1)) (length ts) ts))
  list_opens = ap (converted of_json) (value-begin_array depth ts some) ∙ converted_array (items (value (depth - 1)) (length ts) ts)

  map_opens : converted of_json (value depth (Token.begin_object ∷ ts)) ≡ parse_map object (converted (λ ms. of_members ms no_members) (members (value (depth - 1)) (length ts) ts))
  map_opens = ap (converted of_json) (value-begin_object depth ts some) ∙ converted_object (members (value (depth - 1)) (length ts) ts)

  pub list_read : (x : Option Items) (r : List Token) → required NotJson (parse_map items_if_integral (converted of_items (items (value (depth - 1)) (length ts) ts))) ≡ Ok (x, r)
      → required NotJson (parse_map if_integral (converted of_json (value depth (Token.begin_array ∷ ts)))) ≡ Ok (option_map array x, r)
  list_read x r read = ap (λ o. required NotJson (parse_map if_integral o)) list_opens ∙ read_under items_if_integral array (λ ds. array_by (items_have_float ds) ds) _ x r read

  pub map_read : (x : Option Members) (r : List Token) → required NotJson (parse_map members_if_integral (converted (λ ms. of_members ms no_members) (members (value (depth - 1)) (length ts) ts))) ≡ Ok (x, r)
      → required NotJson (parse_map if_integral (converted of_json (value depth (Token.begin_object ∷ ts)))) ≡ Ok (option_map object x, r)
  map_read x r read = ap (λ o. required NotJson (parse_map if_integral o)) map_opens ∙ read_under members_if_integral object (λ ms. object_by (members_have_float ms) ms) _ x r read

  pub list_refused : (e : TreeError) → Fails e (required NotJson (parse_map items_if_integral (converted of_items (items (value (depth - 1)) (length ts) ts))))
      → Fails e (required NotJson (parse_map if_integral (converted of_json (value depth (Token.begin_array ∷ ts)))))
  list_refused e h = refused_too e _ _ (λ none. ap (parse_map if_integral) list_opens ∙ nothing_under items_if_integral array if_integral _ none) h

  pub map_refused : (e : TreeError) → Fails e (required NotJson (parse_map members_if_integral (converted (λ ms. of_members ms no_members) (members (value (depth - 1)) (length ts) ts))))
      → Fails e (required NotJson (parse_map if_integral (converted of_json (value depth (Token.begin_object ∷ ts)))))
  map_refused e h = refused_too e _ _ (λ none. ap (parse_map if_integral) map_opens ∙ nothing_under members_if_integral object if_integral _ none) h
