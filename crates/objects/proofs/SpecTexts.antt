-- The spec of an object, as the object's text has it between the metadata and the status.
use Rattle.std.proofs.Common.{◌≡◌, ◌⊎◌, inl, inr, ℕ, zero, suc, ◌≤◌, ◌-◌, List, [], ◌∷◌, ◌++◌, length, take, drop, true, codes, decimal, Option, Some, None, refl, sym, ap, ◌∙◌, subst, append_assoc, append-nil, take-append-drop, length-append, length-drop, arith}
use Rattle.std.specs.Ordering.{nat_cmp}
use Rattle.std.specs.declared.cmp.Ordering.{Ordering}
use Rattle.std.specs.declared.cmp.Ordering.TheVariants.{Less, Equal, Greater}
use Rattle.std.specs.Cmp.Lexicographic.{slice_cmp}
use Rattle.std.specs.Str.{IsUtf8}
use Rattle.std.proofs.lemmas.Str.{IsUtf8-append}
use Rattle.json.specs.Lex.{tokens}
use Rattle.json.specs.Print.{ArePrintableOrBad, print, print_from, quoted, escape_byte}
use Rattle.json.specs.Token.{Token, key, string as string_token}
use Rattle.json.specs.Tree.{json_tokens}
use Rattle.json.proofs.Printed.Tokens.{print_from-append}
use Rattle.serde_json.specs.Data.{Data, object, no_members, member}
use Rattle.serde_json.specs.Find.{get_member}
use Rattle.serde_json.specs.Written.{outline}
use Rattle.serde_json.proofs.Texts.{print-outline}
use Rattle.trees.specs.declared.tree.Tree.{Tree}
use Rattle.trees.specs.Positions.{IsAbove}
use Rattle.trees.specs.Tree.{data_of, members_of}
use Rattle.objects.specs.declared.object.Object.{Object}
use Rattle.objects.specs.Seams.{HasSeamsAt, IsSpecAlone, IsSpecAt, IsStatusAlone, WritesBetween, WritesHead, WritesMiddle, comma_before, spec_text, spec_tokens}
use Rattle.objects.specs.Merged.{IsFront, StopsAt, WritesFront, after_version, entry_tokens}
use Rattle.objects.specs.Status.{member_of}
use Rattle.objects.proofs.SeamTexts.{between, ends_after_version, get_front, members_of-append, printable-append, printable_again, utf8_comma}
use Rattle.objects.proofs.Merging.{front_above}

-- ---- the comma before the entries below the status

pub comma_there : (count : ℕ) (e : List ℕ × Tree) (es : List (List ℕ × Tree)) → StopsAt (codes "status") (drop count (e ∷ es)) → slice_cmp nat_cmp (codes "status") e.0 ≡ Greater → comma_before (take count (e ∷ es)) ≡ 44 ∷ []
comma_there zero e es stops above = absurd (stops above)
comma_there (suc n) e es stops above = refl

pub comma_none : (count : ℕ) (e : List ℕ × Tree) (es : List (List ℕ × Tree)) → IsAbove (codes "status") count (e ∷ es) → (slice_cmp nat_cmp (codes "status") e.0 ≡ Greater → ⊥) → comma_before (take count (e ∷ es)) ≡ []
comma_none zero e es above other = refl
comma_none (suc n) e es above other = absurd (other above.0)

pub comma_nothing : (count : ℕ) → comma_before (take count []) ≡ []
comma_nothing zero = refl
comma_nothing (suc n) = refl

pub above_within : (k : List ℕ) (n : ℕ) (es : List (List ℕ × Tree)) → IsAbove k n es → n ≤ length es
above_within k zero es h = omega arith
above_within k (suc n) [] h = absurd h
above_within k (suc n) (e ∷ es) h = let inner : n ≤ length es = above_within k n es h.1 in omega arith

pub comma_if : (after : List (List ℕ × Tree)) (count : ℕ) (e : List ℕ × Tree) (es : List (List ℕ × Tree)) → after ≡ e ∷ es → StopsAt (codes "status") (drop count after) → slice_cmp nat_cmp (codes "status") e.0 ≡ Greater
    → comma_before (take count after) ≡ 44 ∷ []
comma_if after count e es is stops above =
    ap (λ xs. comma_before (take count xs)) is ∙ comma_there count e es (subst (λ xs. StopsAt (codes "status") (drop count xs)) is stops) above

pub comma_unless : (after : List (List ℕ × Tree)) (count : ℕ) (e : List ℕ × Tree) (es : List (List ℕ × Tree)) → after ≡ e ∷ es → IsAbove (codes "status") count after → (slice_cmp nat_cmp (codes "status") e.0 ≡ Greater → ⊥)
    → comma_before (take count after) ≡ []
comma_unless after count e es is above other =
    ap (λ xs. comma_before (take count xs)) is ∙ comma_none count e es (subst (IsAbove (codes "status") count) is above) other

pub comma_empty : (after : List (List ℕ × Tree)) (count : ℕ) → length after ≡ 0 → comma_before (take count after) ≡ []
comma_empty [] count h = comma_nothing count
comma_empty (e ∷ es) count h = absurd (omega (arith, h))

pub compared : (k l r : List ℕ) (found o : Ordering) → found ≡ slice_cmp nat_cmp k r → r ≡ l → found ≡ o → slice_cmp nat_cmp k l ≡ o
compared k l r found o is same answer = ap (slice_cmp nat_cmp k) (sym same) ∙ sym is ∙ answer

less_apart : Less ≡ Greater → ⊥
less_apart h = absurd cc

equal_apart : Equal ≡ Greater → ⊥
equal_apart h = absurd cc

pub not_greater : (k l r : List ℕ) (found : Ordering) → found ≡ slice_cmp nat_cmp k r → r ≡ l → (found ≡ Less) ⊎ (found ≡ Equal) → slice_cmp nat_cmp k l ≡ Greater → ⊥
not_greater k l r found is same (inl h) above = less_apart (sym (compared k l r found Less is same h) ∙ above)
not_greater k l r found is same (inr h) above = equal_apart (sym (compared k l r found Equal is same h) ∙ above)

-- ---- the bytes of these entries

entries_text : (es : List (List ℕ × Tree)) → comma_before es ++ print (entry_tokens es) ≡ print_from true (entry_tokens es)
unfolding print_from
entries_text [] = refl
entries_text (e ∷ es) = refl

pub between_written : (after tail : List (List ℕ × Tree)) (old begun before new : List ℕ) (start ts : List Token) (front : WritesFront (codes "status") after tail start ts) → begun ≡ old ++ comma_before (take front.count after) → before ≡ begun
    → start ≡ [] → new ≡ before ++ print ts → IsUtf8 (print ts) → tokens (print ts) ≡ ts → WritesBetween after tail old new
between_written after tail old begun before new start ts front is same empty last utf8 again =
    let mid = take front.count after in
    let wrote : ts ≡ entry_tokens mid = front.tokens ∙ ap (λ s. s ++ entry_tokens mid) empty in
    record {
      count = front.count;
      left = front.left;
      above = front.above;
      stops = front.stops;
      bytes = last ∙ ap (λ b. b ++ print ts) (same ∙ is) ∙ ap (λ t. (old ++ comma_before mid) ++ print t) wrote ∙ append_assoc old (comma_before mid) (print (entry_tokens mid)) ∙ ap (λ x. old ++ x) (entries_text mid);
      utf8 = subst IsUtf8 (entries_text mid) (IsUtf8-append (comma_before mid) (print (entry_tokens mid)) (utf8_comma mid) (subst (λ t. IsUtf8 (print t)) wrote utf8));
      printable = subst ArePrintableOrBad wrote (printable_again ts again);
      canonical = front.canonical;
    }

-- what is between the version and the status, in two parts
pub between_parts : (o : Object) (versioned mid : List (List ℕ × Tree)) → print_from true (between o versioned mid) ≡ print_from true (after_version o versioned) ++ print_from true (entry_tokens mid)
between_parts o versioned mid =
    print_from-append true (after_version o versioned) (entry_tokens mid) ∙ ap (λ c. print_from true (after_version o versioned) ++ print_from c (entry_tokens mid)) (ends_after_version o versioned)

pub version_bytes : (o : Object) (versioned : List (List ℕ × Tree)) (start ts : List Token) (before front bytes : List ℕ) → start ≡ [] → ts ≡ start ++ string_token (decimal o.meta.revision) ∷ after_version o versioned → before ≡ front → bytes ≡ before ++ print ts
    → bytes ≡ front ++ (quoted (decimal o.meta.revision) ++ print_from true (after_version o versioned))
unfolding print_from
version_bytes o versioned start ts before front bytes empty wrote same last =
    last ∙ ap (λ b. b ++ print ts) same ∙ ap (λ t. front ++ print t) (wrote ∙ ap (λ s. s ++ string_token (decimal o.meta.revision) ∷ after_version o versioned) empty)

pub two_bytes : (o : Object) (versioned mid : List (List ℕ × Tree)) (front first second : List ℕ) → first ≡ front ++ (quoted (decimal o.meta.revision) ++ print_from true (after_version o versioned)) → second ≡ first ++ print_from true (entry_tokens mid)
    → second ≡ front ++ (quoted (decimal o.meta.revision) ++ print_from true (between o versioned mid))
two_bytes o versioned mid front first second is then =
    let version = quoted (decimal o.meta.revision) in
    let known = print_from true (after_version o versioned) in
    let entries = print_from true (entry_tokens mid) in
    then ∙ ap (λ b. b ++ entries) is ∙ append_assoc front (version ++ known) entries ∙ ap (λ b. front ++ b) (append_assoc version known entries)
    ∙ ap (λ b. front ++ (version ++ b)) (sym (between_parts o versioned mid))

abbrev pub written_so : (o : Object) (versioned after tail : List (List ℕ × Tree)) (old new : List ℕ) (between_written : WritesBetween after tail old new)
    → WritesMiddle o versioned after tail [] (string_token (decimal o.meta.revision) ∷ between o versioned (take between_written.count after))
written_so o versioned after tail old new w = record { count = w.count; left = w.left; above = w.above; stops = w.stops; tokens = refl }

pub so_printable : (o : Object) (versioned mid : List (List ℕ × Tree)) (start ts : List Token) → start ≡ [] → ts ≡ start ++ string_token (decimal o.meta.revision) ∷ after_version o versioned → tokens (print ts) ≡ ts → ArePrintableOrBad (entry_tokens mid)
    → ArePrintableOrBad (string_token (decimal o.meta.revision) ∷ between o versioned mid)
so_printable o versioned mid start ts empty wrote again entries =
    let is : ts ≡ string_token (decimal o.meta.revision) ∷ after_version o versioned = wrote ∙ ap (λ s. s ++ string_token (decimal o.meta.revision) ∷ after_version o versioned) empty in
    let first = subst ArePrintableOrBad is (printable_again ts again) in
    (first.0, printable-append (after_version o versioned) (entry_tokens mid) first.1 entries)

-- ---- the spec alone

abbrev spec_in : List (List ℕ × Tree) → Option Data
spec_in [] = None
spec_in (e ∷ es) = Some (data_of e.1)

spec_tokens_are : (mid : List (List ℕ × Tree)) → IsSpecAlone mid → entry_tokens mid ≡ spec_tokens (spec_in mid)
spec_tokens_are [] h = refl
spec_tokens_are (e ∷ []) h = ap (λ k. key k ∷ (json_tokens (outline (data_of e.1)) ++ [])) h ∙ ap (λ ts. key (codes "spec") ∷ ts) (append-nil (json_tokens (outline (data_of e.1))))
spec_tokens_are (e ∷ f ∷ es) h = absurd h

spec_bytes : (value : Option Data) → print_from true (spec_tokens value) ≡ spec_text value
unfolding print_from escape_byte
spec_bytes None = refl
spec_bytes (Some d) = ap (λ x. codes ",\"spec\":" ++ x) (print-outline d)

spec_after : (mid tail : List (List ℕ × Tree)) → IsSpecAlone mid → IsStatusAlone tail → get_member (codes "spec") (members_of (mid ++ tail)) ≡ spec_in mid
spec_after [] [] h l = refl
spec_after [] (t ∷ []) h l = ap (λ k. get_member (codes "spec") (member k (data_of t.1) no_members)) l
spec_after [] (t ∷ u ∷ ts) h l = absurd l
spec_after (e ∷ []) tail h l = ap (λ k. get_member (codes "spec") (member k (data_of e.1) (members_of tail))) h
spec_after (e ∷ f ∷ es) tail h l = absurd h

spec_found : (o : Object) (first mid tail : List (List ℕ × Tree)) (entry : List ℕ × Tree) → IsFront (codes "metadata") first → entry.0 ≡ codes "metadata" → IsSpecAlone mid → IsStatusAlone tail
    → o.body ≡ object (members_of (first ++ entry ∷ (mid ++ tail))) → member_of (codes "spec") o.body ≡ spec_in mid
spec_found o first mid tail entry above named alone last body =
    ap (member_of (codes "spec")) body ∙ ap (get_member (codes "spec")) (members_of-append first (entry ∷ (mid ++ tail)))
    ∙ get_front (codes "spec") first (members_of (entry ∷ (mid ++ tail))) (front_above (codes "spec") (codes "metadata") first refl above)
    ∙ ap (λ k. get_member (codes "spec") (member k (data_of entry.1) (members_of (mid ++ tail)))) named
    ∙ spec_after mid tail alone last

pub count_is : (count : ℕ) (after tail : List (List ℕ × Tree)) → tail ≡ drop count after → count ≤ length after → length after - length tail ≡ count
count_is count after tail left within = omega (arith, ap length left ∙ length-drop count after, within)

pub spec_at : (o : Object) (versioned after tail : List (List ℕ × Tree)) (h : List Token) (head : WritesHead o versioned after [] h) (count version status size begin : ℕ) (first second : List ℕ) (at : HasSeamsAt o version status)
    → at.middle ≡ print_from true (between o versioned (take count after)) → tail ≡ drop count after → IsAbove (codes "status") count after → IsSpecAlone (take (length after - length tail) after) → IsStatusAlone tail
    → second ≡ first ++ print_from true (entry_tokens (take count after)) → ArePrintableOrBad (entry_tokens (take count after)) → begin ≡ length first → status ≡ length second → size ≡ status - begin → IsSpecAt o version status size
spec_at o versioned after tail h head count version status size begin first second at middle_is left above spec_alone last wrote printable begin_is status_is size_is =
    let mid = take count after in
    let alone : IsSpecAlone mid = subst (λ n. IsSpecAlone (take n after)) (count_is count after tail left (above_within (codes "status") count after above)) spec_alone in
    let split : after ≡ mid ++ tail = sym (take-append-drop count after) ∙ ap (λ es. mid ++ es) (sym left) in
    let found = spec_found o head.first mid tail head.entry head.above head.named alone last (head.body ∙ ap (λ es. object (members_of (head.first ++ head.entry ∷ es))) split) in
    let tokens_are : entry_tokens mid ≡ spec_tokens (member_of (codes "spec") o.body) = spec_tokens_are mid alone ∙ ap spec_tokens (sym found) in
    let bytes_are : print_from true (entry_tokens mid) ≡ spec_text (member_of (codes "spec") o.body) = ap (print_from true) tokens_are ∙ spec_bytes (member_of (codes "spec") o.body) in
    record {
      at = at;
      before = print_from true (after_version o versioned);
      middle = middle_is ∙ between_parts o versioned mid ∙ ap (λ x. print_from true (after_version o versioned) ++ x) bytes_are;
      size = omega (arith, size_is, begin_is, status_is, ap length wrote ∙ length-append first (print_from true (entry_tokens mid)), ap length bytes_are);
      printable = subst ArePrintableOrBad tokens_are printable;
    }
