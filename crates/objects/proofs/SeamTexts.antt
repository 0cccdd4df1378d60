-- An object's text, with a seam before its resource version and one before its status.
use Rattle.std.proofs.Common.{◌≡◌, ◌≢◌, ℕ, List, [], ◌∷◌, ◌++◌, length, take, drop, Bool, true, false, fold, codes, decimal, bytes_eq, Option, Some, None, refl, sym, ap, ◌∙◌, subst, append_assoc, append-nil, take-append-drop}
use Rattle.std.specs.Ordering.{nat_cmp, is_eq}
use Rattle.std.specs.declared.cmp.Ordering.TheVariants.{Greater}
use Rattle.std.specs.Cmp.Lexicographic.{slice_cmp}
use Rattle.std.specs.Str.{IsUtf8}
use Rattle.std.proofs.lemmas.List.Sums.{fold-append}
use Rattle.std.proofs.lemmas.Str.{IsUtf8-append}
use Rattle.std.proofs.lemmas.Map.Text.{is_eq-slice_cmp}
use Rattle.json.specs.Json.{Json, null, boolean, number, string, array, object as json_object, Items, no_items, item, Members as JsonMembers, no_members as none, member as json_member}
use Rattle.json.specs.Lex.{tokens}
use Rattle.json.specs.Print.{ArePrintableOrBad, print, print_from, quoted, ends, escape_byte}
use Rattle.json.specs.Token.{Token, begin_object, end_object, key, string as string_token}
use Rattle.json.specs.Tree.{json_tokens, items_tokens, members_tokens, HasNumbers, ItemsHaveNumbers, MembersHaveNumbers}
use Rattle.json.proofs.Numbered.{ArePrintableOrBad-tokens}
use Rattle.json.proofs.Printed.Tokens.{tokens-print, print_from-append, ends_push}
use Rattle.json.proofs.Printed.Trees.{ArePrintable-json_tokens}
use Rattle.json.proofs.Printed.Utf8.{IsUtf8-are_ascii}
use Rattle.serde_json.specs.Data.{Data, object, string as string_data, Members, no_members, member, put}
use Rattle.serde_json.specs.Find.{get_member}
use Rattle.serde_json.specs.Written.{compact_text, outline, members_outline}
use Rattle.serde_json.proofs.Texts.{print-outline}
use Rattle.trees.specs.declared.tree.Tree.{Tree}
use Rattle.trees.specs.Tree.{data_of, members_of}
use Rattle.trees.specs.Members.{set_member}
use Rattle.trees.specs.Canonical.{IsCanonical}
use Rattle.trees.proofs.Joining.{join_members}
use Rattle.objects.specs.declared.object.Object.{Object}
use Rattle.objects.specs.Object.{KeepsRules}
use Rattle.objects.specs.Seams.{AreBelowStatus, HasSeams, HasSeamsAt, IsStatusAlone, WritesHead, WritesMiddle, comma_before, rewritten, status_text, status_tokens, version_text}
use Rattle.objects.specs.Merged.{IsFront, after_version, entry_tokens, puts}
use Rattle.objects.specs.Rewrites.{at_version}
use Rattle.objects.specs.Text.{text, printed, unless_zero, full_metadata}
use Rattle.objects.specs.Uid.{uid_text}
use Rattle.objects.proofs.Merging.{front_above, front_of, put_past, tokens_join}
use Rattle.objects.proofs.PlainDigits.{plain_decimal}

-- ---- members, one after another

join_assoc : (ms ns rest : Members) → join_members (join_members ms ns) rest ≡ join_members ms (join_members ns rest)
join_assoc no_members ns rest = refl
join_assoc (member k d ms) ns rest = ap (member k d) (join_assoc ms ns rest)

pub members_of-append : (xs ys : List (List ℕ × Tree)) → members_of (xs ++ ys) ≡ join_members (members_of xs) (members_of ys)
members_of-append [] ys = refl
members_of-append (x ∷ xs) ys = ap (member x.0 (data_of x.1)) (members_of-append xs ys)

pub get_front : (k : List ℕ) (es : List (List ℕ × Tree)) (ms : Members) → IsFront k es → get_member k (join_members (members_of es) ms) ≡ get_member k ms
get_front k [] ms h = refl
get_front k (e ∷ es) ms h = rw h.0 (get_front k es ms h.1)

-- ---- a status after members of lower keys

abbrev alone : Option Data → Members
alone None = no_members
alone (Some d) = member (codes "status") d no_members

other_key : (l : List ℕ) → slice_cmp nat_cmp (codes "status") l ≡ Greater → bytes_eq (codes "status") l ≡ false
other_key l h = sym (is_eq-slice_cmp (codes "status") l) ∙ ap is_eq h

set_past : (value : Option Data) (l : List ℕ) (e : Data) (ms : Members) → slice_cmp nat_cmp (codes "status") l ≡ Greater
    → set_member (codes "status") value (member l e ms) ≡ member l e (set_member (codes "status") value ms)
set_past None l e ms h = rw (other_key l h) refl
set_past (Some d) l e ms h = rw h refl

set_last : (value : Option Data) (ms : Members) → AreBelowStatus ms → set_member (codes "status") value ms ≡ join_members ms (alone value)
set_last None no_members h = refl
set_last (Some d) no_members h = refl
set_last value (member l e ms) h = set_past value l e ms h.0 ∙ ap (member l e) (set_last value ms h.1)

pub set_again : (value old : Option Data) (ms : Members) → AreBelowStatus ms → set_member (codes "status") value (set_member (codes "status") old ms) ≡ set_member (codes "status") value ms
set_again None None no_members h = refl
set_again None (Some e) no_members h = refl
set_again (Some d) None no_members h = refl
set_again (Some d) (Some e) no_members h = refl
set_again value old (member l e ms) h =
    ap (set_member (codes "status") value) (set_past old l e ms h.0) ∙ set_past value l e (set_member (codes "status") old ms) h.0
    ∙ ap (member l e) (set_again value old ms h.1) ∙ sym (set_past value l e ms h.0)

below_of : (es : List (List ℕ × Tree)) → IsFront (codes "status") es → AreBelowStatus (members_of es)
below_of [] h = tt
below_of (e ∷ es) h = (h.0, below_of es h.1)

-- ---- the tokens of an object by its members

printed_by : (o : Object) (ms metadata : Members) → o.body ≡ object ms → get_member (codes "metadata") ms ≡ Some (object metadata) → printed o ≡ object (put (codes "metadata") (object (full_metadata o metadata)) ms)
unfolding printed
printed_by o ms metadata body found = rw (body, found) refl

object_tokens : (o : Object) (first : List (List ℕ × Tree)) (metadata ms : Members) → IsFront (codes "metadata") first
    → o.body ≡ object (join_members (members_of first) (member (codes "metadata") (object metadata) ms))
    → json_tokens (outline (printed o)) ≡ begin_object ∷ (entry_tokens first ++ key (codes "metadata") ∷ begin_object ∷ (members_tokens (members_outline (full_metadata o metadata)) ++ members_tokens (members_outline ms)))
object_tokens o first metadata ms front body =
    let whole = object (full_metadata o metadata) in
    let here = member (codes "metadata") (object metadata) ms in
    ap (λ d. json_tokens (outline d)) (printed_by o (join_members (members_of first) here) metadata body (get_front (codes "metadata") first here front))
    ∙ ap (λ x. begin_object ∷ members_tokens (members_outline x)) (put_past (codes "metadata") whole first here front)
    ∙ ap (λ ts. begin_object ∷ ts) (tokens_join first (member (codes "metadata") whole ms))

-- the members up to the status
others_are : (first mid : List (List ℕ × Tree)) (entry : List ℕ × Tree) (metadata : Members) → entry.0 ≡ codes "metadata" → data_of entry.1 ≡ object metadata
    → members_of (first ++ entry ∷ mid) ≡ join_members (members_of first) (member (codes "metadata") (object metadata) (members_of mid))
others_are first mid entry metadata named holds =
    members_of-append first (entry ∷ mid) ∙ ap (λ (p : List ℕ × Data). join_members (members_of first) (member p.0 p.1 (members_of mid))) (rw (named, holds) refl)

status_tokens_are : (value : Option Data) → members_tokens (members_outline (alone value)) ≡ status_tokens value
status_tokens_are None = refl
status_tokens_are (Some d) = refl

-- those of the object with another version and another status
twin_tokens : (o : Object) (first mid : List (List ℕ × Tree)) (entry : List ℕ × Tree) (metadata : Members) (n : ℕ) (value : Option Data) → IsFront (codes "metadata") first
    → entry.0 ≡ codes "metadata" → data_of entry.1 ≡ object metadata → AreBelowStatus (members_of (first ++ entry ∷ mid))
    → json_tokens (outline (printed (rewritten o (members_of (first ++ entry ∷ mid)) n value)))
    ≡ begin_object ∷ (entry_tokens first ++ key (codes "metadata") ∷ begin_object ∷ (members_tokens (members_outline (full_metadata (at_version o n) metadata)) ++ (entry_tokens mid ++ status_tokens value)))
twin_tokens o first mid entry metadata n value front named holds below =
    let others = members_of (first ++ entry ∷ mid) in
    let rest = join_members (members_of mid) (alone value) in
    let body : object (set_member (codes "status") value others) ≡ object (join_members (members_of first) (member (codes "metadata") (object metadata) rest)) =
    ap object (set_last value others below ∙ ap (λ ms. join_members ms (alone value)) (others_are first mid entry metadata named holds)
    ∙ join_assoc (members_of first) (member (codes "metadata") (object metadata) (members_of mid)) (alone value)) in
    object_tokens (rewritten o others n value) first metadata rest front body
    ∙ ap (λ ts. begin_object ∷ (entry_tokens first ++ key (codes "metadata") ∷ begin_object ∷ (members_tokens (members_outline (full_metadata (at_version o n) metadata)) ++ ts)))
    (tokens_join mid (alone value) ∙ ap (λ ts. entry_tokens mid ++ ts) (status_tokens_are value))

-- ---- the tokens of a value end a value

abbrev pub ended : Bool → List Token → Bool
ended c ts = fold (λ _ t. ends t) c ts

mutual
  ends_json : (c : Bool) (j : Json) → ended c (json_tokens j) ≡ true
  ends_json c null = refl
  ends_json c (boolean b) = refl
  ends_json c (number s) = refl
  ends_json c (string s) = refl
  ends_json c (array js) = ends_items false js
  ends_json c (json_object ms) = ends_members false ms

  ends_items : (c : Bool) (js : Items) → ended c (items_tokens js) ≡ true
  ends_items c no_items = refl
  ends_items c (item j js) = fold-append (λ _ t. ends t) c (json_tokens j) (items_tokens js) ∙ ends_items _ js

  ends_members : (c : Bool) (ms : JsonMembers) → ended c (members_tokens ms) ≡ true
  ends_members c none = refl
  ends_members c (json_member k j ms) = fold-append (λ _ t. ends t) false (json_tokens j) (members_tokens ms) ∙ ends_members _ ms

ends_entries : (es : List (List ℕ × Tree)) → ended true (entry_tokens es) ≡ true
ends_entries [] = refl
ends_entries (e ∷ es) =
    fold-append (λ _ t. ends t) false (json_tokens (outline (data_of e.1))) (entry_tokens es)
    ∙ ap (λ c. ended c (entry_tokens es)) (ends_json false (outline (data_of e.1))) ∙ ends_entries es

-- ---- the bytes of these tokens

seamed_bytes : (h : List Token) (k s : List ℕ) (z rest : List Token) → ended true z ≡ true
    → print ((h ++ key k ∷ []) ++ string_token s ∷ (z ++ rest)) ≡ print (h ++ key k ∷ []) ++ (quoted s ++ (print_from true z ++ print_from true rest))
unfolding print_from
seamed_bytes h k s z rest all =
    print_from-append false (h ++ key k ∷ []) (string_token s ∷ (z ++ rest))
    ∙ ap (λ c. print (h ++ key k ∷ []) ++ print_from c (string_token s ∷ (z ++ rest))) (ends_push false h (key k))
    ∙ ap (λ x. print (h ++ key k ∷ []) ++ (quoted s ++ x)) (print_from-append true z rest ∙ ap (λ c. print_from true z ++ print_from c rest) all)

last_brace : (c : Bool) → print_from c (end_object ∷ []) ≡ 125 ∷ []
unfolding print_from
last_brace true = refl
last_brace false = refl

pub status_bytes : (value : Option Data) → print_from true (status_tokens value) ≡ status_text value
unfolding print_from escape_byte
status_bytes None = refl
status_bytes (Some d) =
    ap (λ x. codes ",\"status\":" ++ x) (
    print_from-append false (json_tokens (outline d)) (end_object ∷ [])
    ∙ ap (λ x. x ++ print_from (ended false (json_tokens (outline d))) (end_object ∷ [])) (print-outline d)
    ∙ ap (λ x. compact_text d ++ x) (last_brace (ended false (json_tokens (outline d))))
    )

-- ---- tokens that can be written

mutual
  numbers_before : (j : Json) (rest : List Token) → ArePrintableOrBad (json_tokens j ++ rest) → HasNumbers j × ArePrintableOrBad rest
  numbers_before null rest h = (tt, h.1)
  numbers_before (boolean b) rest h = (tt, h.1)
  numbers_before (number s) rest h = (h.0, h.1)
  numbers_before (string s) rest h = (tt, h.1)
  numbers_before (array js) rest h = numbers_items js rest h.1
  numbers_before (json_object ms) rest h = numbers_members ms rest h.1

  numbers_items : (js : Items) (rest : List Token) → ArePrintableOrBad (items_tokens js ++ rest) → ItemsHaveNumbers js × ArePrintableOrBad rest
  numbers_items no_items rest h = (tt, h.1)
  numbers_items (item j js) rest h =
      let first = numbers_before j (items_tokens js ++ rest) (subst ArePrintableOrBad (append_assoc (json_tokens j) (items_tokens js) rest) h) in
      let others = numbers_items js rest first.1 in
      ((first.0, others.0), others.1)

  numbers_members : (ms : JsonMembers) (rest : List Token) → ArePrintableOrBad (members_tokens ms ++ rest) → MembersHaveNumbers ms × ArePrintableOrBad rest
  numbers_members none rest h = (tt, h.1)
  numbers_members (json_member k j ms) rest h =
      let first = numbers_before j (members_tokens ms ++ rest) (subst ArePrintableOrBad (append_assoc (json_tokens j) (members_tokens ms) rest) h.1) in
      let others = numbers_members ms rest first.1 in
      ((first.0, others.0), others.1)

pub printable-append : (ts us : List Token) → ArePrintableOrBad ts → ArePrintableOrBad us → ArePrintableOrBad (ts ++ us)
printable-append [] us h k = k
printable-append (t ∷ ts) us h k = (h.0, printable-append ts us h.1 k)

-- what was written can be written
pub printable_again : (ts : List Token) → tokens (print ts) ≡ ts → ArePrintableOrBad ts
printable_again ts again = subst ArePrintableOrBad again (ArePrintableOrBad-tokens (print ts))

-- the text of a value whose tokens can be written has these tokens
pub printable_text : (d : Data) → ArePrintableOrBad (json_tokens (outline d)) → tokens (compact_text d) ≡ json_tokens (outline d)
printable_text d h =
    ap tokens (sym (print-outline d))
    ∙ tokens-print (json_tokens (outline d)) (ArePrintable-json_tokens (outline d) (numbers_before (outline d) [] (subst ArePrintableOrBad (sym (append-nil (json_tokens (outline d)))) h)).0)

-- ---- an object that was written in parts

-- what is between the version and the status
abbrev pub between : Object → List (List ℕ × Tree) → List (List ℕ × Tree) → List Token
between o versioned mid = after_version o versioned ++ entry_tokens mid

pub ends_after_version : (o : Object) (versioned : List (List ℕ × Tree)) → ended true (after_version o versioned) ≡ true
ends_after_version o versioned = ends_members true (members_outline (puts ((codes "uid", unless_zero o.meta.uid (string_data (uid_text o.meta.uid))) ∷ []) (members_of versioned)))

ends_between : (o : Object) (versioned mid : List (List ℕ × Tree)) → ended true (between o versioned mid) ≡ true
ends_between o versioned mid =
    fold-append (λ _ t. ends t) true (after_version o versioned) (entry_tokens mid) ∙ ap (λ c. ended c (entry_tokens mid)) (ends_after_version o versioned) ∙ ends_entries mid

abbrev tail_tokens : List (List ℕ × Tree) → List Token
tail_tokens tail = members_tokens (members_outline (members_of tail))

abbrev keyed : List Token → List Token
keyed h = h ++ key (codes "resourceVersion") ∷ []

after_tokens : (count : ℕ) (after tail : List (List ℕ × Tree)) → tail ≡ drop count after → tail_tokens after ≡ entry_tokens (take count after) ++ tail_tokens tail
after_tokens count after tail left =
    ap tail_tokens (sym (take-append-drop count after)) ∙ ap (λ ms. members_tokens (members_outline ms)) (members_of-append (take count after) (drop count after))
    ∙ tokens_join (take count after) (members_of (drop count after)) ∙ ap (λ es. entry_tokens (take count after) ++ tail_tokens es) (sym left)

parts_tokens : (o : Object) (versioned after tail : List (List ℕ × Tree)) (h m : List Token) (head : WritesHead o versioned after [] h) (middle : WritesMiddle o versioned after tail [] m) → o.meta.revision ≢ 0
    → json_tokens (outline (printed o)) ≡ keyed h ++ string_token (decimal o.meta.revision) ∷ (between o versioned (take middle.count after) ++ tail_tokens tail)
parts_tokens o versioned after tail h m head middle some =
    let mid = take middle.count after in
    object_tokens o head.first head.metadata (members_of after) head.above (head.body ∙ ap object (others_are head.first after head.entry head.metadata head.named head.holds))
    ∙ ap (λ ts. begin_object ∷ (entry_tokens head.first ++ key (codes "metadata") ∷ begin_object ∷ (members_tokens (members_outline (full_metadata o head.metadata)) ++ ts))) (after_tokens middle.count after tail middle.left)
    ∙ head.tokens o.meta.revision (entry_tokens mid ++ tail_tokens tail) some
    ∙ ap (λ ts. keyed h ++ string_token (decimal o.meta.revision) ∷ ts) (sym (append_assoc (after_version o versioned) (entry_tokens mid) (tail_tokens tail)))

-- the text in parts, and that it is that of the object
pub parts_text : (o : Object) (versioned after tail : List (List ℕ × Tree)) (h m : List Token) (head : WritesHead o versioned after [] h) (middle : WritesMiddle o versioned after tail [] m) → o.meta.revision ≢ 0
    → print (keyed h) ++ (quoted (decimal o.meta.revision) ++ (print_from true (between o versioned (take middle.count after)) ++ print_from true (tail_tokens tail))) ≡ text o
parts_text o versioned after tail h m head middle some =
    let z = between o versioned (take middle.count after) in
    sym (seamed_bytes h (codes "resourceVersion") (decimal o.meta.revision) z (tail_tokens tail) (ends_between o versioned (take middle.count after)))
    ∙ ap print (sym (parts_tokens o versioned after tail h m head middle some)) ∙ print-outline (printed o)

printable_parts : (h z rest : List Token) (s : List ℕ) → ArePrintableOrBad h → ArePrintableOrBad z → ArePrintableOrBad rest → ArePrintableOrBad (h ++ string_token s ∷ (z ++ rest))
printable_parts h z rest s a b c = printable-append h (string_token s ∷ (z ++ rest)) a (tt, printable-append z rest b c)

printable_between : (o : Object) (versioned after tail : List (List ℕ × Tree)) (m : List Token) (middle : WritesMiddle o versioned after tail [] m) → ArePrintableOrBad m → ArePrintableOrBad (between o versioned (take middle.count after))
printable_between o versioned after tail m middle h = (subst ArePrintableOrBad middle.tokens h).1

pub parts_read : (o : Object) (versioned after tail : List (List ℕ × Tree)) (h m : List Token) (head : WritesHead o versioned after [] h) (middle : WritesMiddle o versioned after tail [] m) → o.meta.revision ≢ 0
    → ArePrintableOrBad (keyed h) → ArePrintableOrBad m → ArePrintableOrBad (tail_tokens tail) → tokens (text o) ≡ json_tokens (outline (printed o))
parts_read o versioned after tail h m head middle some a b c =
    printable_text (printed o) (subst ArePrintableOrBad (sym (parts_tokens o versioned after tail h m head middle some))
    (printable_parts (keyed h) (between o versioned (take middle.count after)) (tail_tokens tail) (decimal o.meta.revision) a (printable_between o versioned after tail m middle b) c))

-- ---- its seams

front-append : (k : List ℕ) (xs ys : List (List ℕ × Tree)) → IsFront k xs → IsFront k ys → IsFront k (xs ++ ys)
front-append k [] ys h l = l
front-append k (x ∷ xs) ys h l = (h.0, front-append k xs ys h.1 l)

abbrev status_in : List (List ℕ × Tree) → Option Data
status_in [] = None
status_in (e ∷ es) = Some (data_of e.1)

tail_is : (tail : List (List ℕ × Tree)) → IsStatusAlone tail → members_of tail ≡ alone (status_in tail)
tail_is [] h = refl
tail_is (e ∷ []) h = ap (λ k. member k (data_of e.1) no_members) h
tail_is (e ∷ f ∷ es) h = absurd h

twin_parts : (o : Object) (versioned after mid : List (List ℕ × Tree)) (h : List Token) (head : WritesHead o versioned after [] h) (n : ℕ) (value : Option Data) → n ≢ 0
    → AreBelowStatus (members_of (head.first ++ head.entry ∷ mid))
    → json_tokens (outline (printed (rewritten o (members_of (head.first ++ head.entry ∷ mid)) n value))) ≡ keyed h ++ string_token (decimal n) ∷ (between o versioned mid ++ status_tokens value)
twin_parts o versioned after mid h head n value some below =
    twin_tokens o head.first mid head.entry head.metadata n value head.above head.named head.holds below ∙ head.tokens n (entry_tokens mid ++ status_tokens value) some
    ∙ ap (λ ts. keyed h ++ string_token (decimal n) ∷ ts) (sym (append_assoc (after_version o versioned) (entry_tokens mid) (status_tokens value)))

pub seams_of : (o : Object) (versioned after tail : List (List ℕ × Tree)) (h m : List Token) (head : WritesHead o versioned after [] h) (middle : WritesMiddle o versioned after tail [] m) → o.meta.revision ≢ 0
    → IsStatusAlone tail → ArePrintableOrBad (keyed h) → ArePrintableOrBad m → ArePrintableOrBad (tail_tokens tail) → KeepsRules o → IsCanonical o.body
    → HasSeams o (print (keyed h)) (print_from true (between o versioned (take middle.count after)))
seams_of o versioned after tail h m head middle written last a b c rules canonical =
    let mid = take middle.count after in
    let others = members_of (head.first ++ head.entry ∷ mid) in
    let status = status_in tail in
    let entry_above : slice_cmp nat_cmp (codes "status") head.entry.0 ≡ Greater = subst (λ k. slice_cmp nat_cmp (codes "status") k ≡ Greater) (sym head.named) refl in
    let below : AreBelowStatus others = below_of (head.first ++ head.entry ∷ mid)
    (front-append (codes "status") head.first (head.entry ∷ mid) (front_above (codes "status") (codes "metadata") head.first refl head.above) (entry_above, front_of (codes "status") middle.count after middle.above)) in
    let split : head.first ++ head.entry ∷ after ≡ (head.first ++ head.entry ∷ mid) ++ tail =
    ap (λ es. head.first ++ head.entry ∷ es) (sym (take-append-drop middle.count after) ∙ ap (λ es. mid ++ es) (sym middle.left)) ∙ sym (append_assoc head.first (head.entry ∷ mid) tail) in
    record {
      others = others;
      status = status;
      below = below;
      body = head.body ∙ ap object (ap members_of split ∙ members_of-append (head.first ++ head.entry ∷ mid) tail ∙ ap (join_members others) (tail_is tail last) ∙ sym (set_last status others below));
      texts = λ n value some small.
          sym (print-outline (printed (rewritten o others n value))) ∙ ap print (twin_parts o versioned after mid h head n value some below)
          ∙ seamed_bytes h (codes "resourceVersion") (decimal n) (between o versioned mid) (status_tokens value) (ends_between o versioned mid)
          ∙ ap (λ (e : List ℕ). print (keyed h) ++ ((34 ∷ (e ++ 34 ∷ [])) ++ (print_from true (between o versioned mid) ++ print_from true (status_tokens value)))) (plain_decimal n small)
          ∙ ap (λ s. print (keyed h) ++ (version_text n ++ (print_from true (between o versioned mid) ++ s))) (status_bytes value);
      tokens = λ n value some small printable.
          printable_text (printed (rewritten o others n value)) (subst ArePrintableOrBad (sym (twin_parts o versioned after mid h head n value some below))
          (printable_parts (keyed h) (between o versioned mid) (status_tokens value) (decimal n) a (printable_between o versioned after tail m middle b) printable));
      printable = subst ArePrintableOrBad (ap (λ ms. members_tokens (members_outline ms)) (tail_is tail last) ∙ status_tokens_are status) c;
      rules = rules;
      canonical = canonical;
      written = written;
    }

-- ---- the last members

tail_text : (tail : List (List ℕ × Tree)) → comma_before tail ++ print (tail_tokens tail) ≡ print_from true (tail_tokens tail)
unfolding print_from
tail_text [] = refl
tail_text (e ∷ es) = refl

pub tail_written : (tail : List (List ℕ × Tree)) (old begun before new : List ℕ) (start ts : List Token) → begun ≡ old ++ comma_before tail → before ≡ begun → ts ≡ start ++ tail_tokens tail → start ≡ []
    → new ≡ before ++ print ts → new ≡ old ++ print_from true (tail_tokens tail)
tail_written tail old begun before new start ts is same wrote empty last =
    last ∙ ap (λ b. b ++ print ts) (same ∙ is) ∙ ap (λ t. (old ++ comma_before tail) ++ print t) (wrote ∙ ap (λ s. s ++ tail_tokens tail) empty)
    ∙ append_assoc old (comma_before tail) (print (tail_tokens tail)) ∙ ap (λ t. old ++ t) (tail_text tail)

pub utf8_comma : (tail : List (List ℕ × Tree)) → IsUtf8 (comma_before tail)
utf8_comma [] = IsUtf8-are_ascii [] refl
utf8_comma (e ∷ es) = IsUtf8-are_ascii (44 ∷ []) refl

pub tail_utf8 : (tail : List (List ℕ × Tree)) (start ts : List Token) → ts ≡ start ++ tail_tokens tail → start ≡ [] → IsUtf8 (print ts) → IsUtf8 (print_from true (tail_tokens tail))
tail_utf8 tail start ts wrote empty h =
    subst IsUtf8 (tail_text tail) (IsUtf8-append (comma_before tail) (print (tail_tokens tail)) (utf8_comma tail) (subst (λ t. IsUtf8 (print t)) (wrote ∙ ap (λ s. s ++ tail_tokens tail) empty) h))

pub tail_printable : (tail : List (List ℕ × Tree)) (start ts : List Token) → ts ≡ start ++ tail_tokens tail → start ≡ [] → tokens (print ts) ≡ ts → ArePrintableOrBad (tail_tokens tail)
tail_printable tail start ts wrote empty again = subst ArePrintableOrBad (wrote ∙ ap (λ s. s ++ tail_tokens tail) empty) (printable_again ts again)

-- ---- the parts, one after another

pub front_bytes : (h keyed_tokens : List Token) (before front : List ℕ) → keyed_tokens ≡ keyed h → before ≡ [] → front ≡ before ++ print keyed_tokens → front ≡ print (keyed h)
front_bytes h keyed_tokens before front is empty last = last ∙ ap (λ b. b ++ print keyed_tokens) empty ∙ ap print is

pub whole_bytes : (o : Object) (versioned after tail : List (List ℕ × Tree)) (h m : List Token) (head : WritesHead o versioned after [] h) (middle : WritesMiddle o versioned after tail [] m) (front bytes whole : List ℕ) → o.meta.revision ≢ 0
    → front ≡ print (keyed h) → bytes ≡ front ++ (quoted (decimal o.meta.revision) ++ print_from true (between o versioned (take middle.count after)))
    → whole ≡ bytes ++ print_from true (tail_tokens tail) → whole ≡ text o
whole_bytes o versioned after tail h m head middle front bytes whole written first second third =
    let version = quoted (decimal o.meta.revision) in
    let between_bytes = print_from true (between o versioned (take middle.count after)) in
    let last = print_from true (tail_tokens tail) in
    third ∙ ap (λ b. b ++ last) (second ∙ ap (λ f. f ++ (version ++ between_bytes)) first) ∙ append_assoc (print (keyed h)) (version ++ between_bytes) last
    ∙ ap (λ t. print (keyed h) ++ t) (append_assoc version between_bytes last) ∙ parts_text o versioned after tail h m head middle written

pub whole_utf8 : (first before front second before_second bytes last whole : List ℕ) → before ≡ [] → front ≡ before ++ first → before_second ≡ front → bytes ≡ before_second ++ second → whole ≡ bytes ++ last
    → IsUtf8 first → IsUtf8 second → IsUtf8 last → IsUtf8 whole
whole_utf8 first before front second before_second bytes last whole empty is same then third a b c =
    subst IsUtf8 (sym (third ∙ ap (λ x. x ++ last) (then ∙ ap (λ x. x ++ second) (same ∙ is ∙ ap (λ x. x ++ first) empty))))
    (IsUtf8-append (first ++ second) last (IsUtf8-append first second a b) c)

abbrev pub seams_at : (o : Object) (versioned after tail : List (List ℕ × Tree)) (h m : List Token) (head : WritesHead o versioned after [] h) (middle : WritesMiddle o versioned after tail [] m) (front bytes : List ℕ) (version status : ℕ) → o.meta.revision ≢ 0
    → front ≡ print (keyed h) → bytes ≡ front ++ (quoted (decimal o.meta.revision) ++ print_from true (between o versioned (take middle.count after)))
    → version ≡ length front → status ≡ length bytes → ArePrintableOrBad (keyed h) → ArePrintableOrBad m → ArePrintableOrBad (tail_tokens tail) → KeepsRules o → IsCanonical o.body → IsStatusAlone tail → HasSeamsAt o version status
seams_at o versioned after tail h m head middle front bytes version status written first second version_is status_is a b c rules canonical last =
    let between_bytes = print_from true (between o versioned (take middle.count after)) in
    record {
      front = print (keyed h);
      middle = between_bytes;
      seams = seams_of o versioned after tail h m head middle written last a b c rules canonical;
      version_at = version_is ∙ ap length first;
      status_at = status_is ∙ ap length (second ∙ ap (λ f. f ++ (quoted (decimal o.meta.revision) ++ between_bytes)) first
          ∙ ap (λ (e : List ℕ). print (keyed h) ++ ((34 ∷ (e ++ 34 ∷ [])) ++ between_bytes)) (plain_decimal o.meta.revision rules.meta.revision));
    }
