-- A text with another resource version and another status put in.
use Rattle.std.proofs.Common.{◌≡◌, ◌≢◌, ℕ, ◌+◌, ◌-◌, ◌<◌, ◌^◌, List, [], ◌∷◌, ◌++◌, length, take, drop, Bool, true, false, cond, bytes_eq, codes, decimal, Option, Some, None, Result, Ok, Err, IfOk, IfSome, string_bytes, refl, sym, ap, ◌∙◌, subst, append_assoc, length-append, arith}
use Rattle.std.proofs.Math.Seq.{take-append_seam, drop-append_seam}
use Rattle.std.proofs.lemmas.Slice.Eq.{bytes_eq-Decides}
use Rattle.json.specs.Lex.{tokens}
use Rattle.json.specs.Print.{ArePrintableOrBad, print, print_from}
use Rattle.json.specs.Token.{Token, end_object, key}
use Rattle.json.specs.Tree.{json_tokens}
use Rattle.serde_json.specs.Data.{Data, object, Members, no_members, member}
use Rattle.serde_json.specs.Find.{get_member}
use Rattle.serde_json.specs.Written.{outline, has_float}
use Rattle.trees.specs.Members.{without_member, set_member}
use Rattle.trees.specs.Canonical.{IsCanonical, AreCanonicalMembers}
use Rattle.trees.specs.Tree.{AreAscending}
use Rattle.trees.proofs.PutOrder.{canonical_found, canonical_put}
use Rattle.trees.proofs.Sameness.{same-itself, same-equal}
use Rattle.trees.proofs.SetMembers.{ascending_set, get_member-set_member}
use Rattle.trees.proofs.IntegralTokens.{no_float_printable}
use Rattle.objects.specs.declared.object.Object.{Object}
use Rattle.objects.specs.Object.{IsBody, KeepsRules}
use Rattle.objects.specs.declared.printed.IndexedText.{IndexedText}
use Rattle.objects.specs.Seams.{AreParts, HasSeams, HasSeamsAt, IsOpen, IsCanonicalStatus, IsIndexedText, IsSpecAt, IsSpliced, rewritten, spec_text, spec_tokens, status_text, status_tokens, version_text}
use Rattle.objects.specs.PrintedText.{IsTextOf}
use Rattle.objects.specs.Rewrites.{at_version, with_status}
use Rattle.objects.specs.Status.{member_of, same_found, with_member}
use Rattle.objects.specs.Text.{text}
use Rattle.objects.proofs.Bodies.{body_with_status}
use Rattle.objects.proofs.BodyMembers.{set_found}
use Rattle.objects.proofs.SeamTexts.{printable_again, set_again, status_bytes}
use Rattle.objects.proofs.PrintedTexts.{reads_as, text_of}

pub apart_by : (b : Bool) → (b ≡ true → ⊥) → b ≡ false
apart_by true h = absurd (h refl)
apart_by false h = refl

-- ---- the bytes

front_of_parts : (t : List ℕ) (old v s : ℕ) (parts : AreParts t old v s) → take v t ≡ parts.front
front_of_parts t old v s parts = rw (parts.version_at) (ap (take (length parts.front)) parts.text ∙ take-append_seam parts.front (version_text old ++ (parts.middle ++ parts.rest)))

regroup : (front version middle rest : List ℕ) → front ++ (version ++ (middle ++ rest)) ≡ (front ++ version) ++ (middle ++ rest)
regroup front version middle rest = sym (append_assoc front version (middle ++ rest))

middle_of_parts : (t : List ℕ) (old v s behind : ℕ) (parts : AreParts t old v s) → behind ≡ v + 2 + length (decimal old) → take (s - behind) (drop behind t) ≡ parts.middle
middle_of_parts t old v s behind parts is =
    let first = parts.front ++ version_text old in
    let here : behind ≡ length first = omega (arith, is, parts.version_at, length-append parts.front (version_text old), length-append (decimal old) (34 ∷ [])) in
    let whole : s ≡ length first + length parts.middle =
    parts.status_at ∙ ap length (sym (append_assoc parts.front (version_text old) parts.middle)) ∙ length-append first parts.middle in
    let left : s - behind ≡ length parts.middle = omega (arith, here, whole) in
    rw (left, here) (
    ap (λ x. take (length parts.middle) (drop (length first) x)) (parts.text ∙ regroup parts.front (version_text old) parts.middle parts.rest)
    ∙ ap (take (length parts.middle)) (drop-append_seam first (parts.middle ++ parts.rest)) ∙ take-append_seam parts.middle parts.rest
    )

pub splice_is : (t : List ℕ) (old new v s behind : ℕ) (parts : AreParts t old v s) (o0 o1 o2 o3 o4 o5 digits : List ℕ) → o0 ≡ [] → o1 ≡ o0 ++ take v t → o2 ≡ o1 ++ 34 ∷ [] → o3 ≡ o2 ++ digits → o4 ≡ o3 ++ 34 ∷ []
    → o5 ≡ o4 ++ take (s - behind) (drop behind t) → digits ≡ decimal new → behind ≡ v + 2 + length (decimal old)
    → o5 ≡ parts.front ++ (version_text new ++ parts.middle)
splice_is t old new v s behind parts o0 o1 o2 o3 o4 o5 digits p0 p1 p2 p3 p4 p5 is place =
    rw (p5, p4, p3, p2, p1, p0, is, front_of_parts t old v s parts, middle_of_parts t old v s behind parts place) (
    append_assoc ((parts.front ++ 34 ∷ []) ++ decimal new) (34 ∷ []) parts.middle
    ∙ append_assoc (parts.front ++ 34 ∷ []) (decimal new) (34 ∷ parts.middle)
    ∙ append_assoc parts.front (34 ∷ []) (decimal new ++ 34 ∷ parts.middle)
    ∙ ap (λ x. parts.front ++ 34 ∷ x) (sym (append_assoc (decimal new) (34 ∷ []) parts.middle))
    )

pub with_end : (front version middle end o5 o6 : List ℕ) → o5 ≡ front ++ (version ++ middle) → o6 ≡ o5 ++ end → o6 ≡ front ++ (version ++ (middle ++ end))
with_end front version middle end o5 o6 is last =
    last ∙ ap (λ o. o ++ end) is ∙ append_assoc front (version ++ middle) end ∙ ap (λ o. front ++ o) (append_assoc version middle end)

-- ---- the end

comma_status : (d : Data) → 44 ∷ print (status_tokens (Some d)) ≡ status_text (Some d)
unfolding print_from
comma_status d = status_bytes (Some d)

pub status_written : (d : Data) (out begun before result : List ℕ) (start keyed valued ended : List Token) → begun ≡ out ++ 44 ∷ [] → before ≡ begun → start ≡ [] → keyed ≡ start ++ key (codes "status") ∷ []
    → valued ≡ keyed ++ json_tokens (outline d) → ended ≡ valued ++ end_object ∷ [] → result ≡ before ++ print ended → result ≡ out ++ status_text (Some d)
status_written d out begun before result start keyed valued ended p same a b c e last =
    last ∙ rw (e, c, b, a, same, p) (
    ap (λ ts. (out ++ 44 ∷ []) ++ print ts) (append_assoc (key (codes "status") ∷ []) (json_tokens (outline d)) (end_object ∷ []))
    ∙ append_assoc out (44 ∷ []) (print (status_tokens (Some d))) ∙ ap (λ x. out ++ x) (comma_status d)
    )

pub status_printable : (d : Data) (start keyed valued ended : List Token) → start ≡ [] → keyed ≡ start ++ key (codes "status") ∷ [] → valued ≡ keyed ++ json_tokens (outline d) → ended ≡ valued ++ end_object ∷ []
    → tokens (print ended) ≡ ended → ArePrintableOrBad (status_tokens (Some d))
status_printable d start keyed valued ended a b c e again =
    let is : ended ≡ status_tokens (Some d) = e ∙ ap (λ ts. ts ++ end_object ∷ []) (c ∙ ap (λ ts. ts ++ json_tokens (outline d)) (b ∙ ap (λ ts. ts ++ key (codes "status") ∷ []) a)) in
    subst ArePrintableOrBad is (printable_again ended again)

-- ---- the object that such a text is of

-- the body with that status
body_is : (o : Object) (front middle : List ℕ) (seams : HasSeams o front middle) (value : Option Data) → with_member (codes "status") value o.body ≡ object (set_member (codes "status") value seams.others)
body_is o front middle seams value = ap (with_member (codes "status") value) seams.body ∙ ap object (set_again value seams.status seams.others seams.below)

rewritten_is : (o : Object) (front middle : List ℕ) (seams : HasSeams o front middle) (n : ℕ) (value : Option Data) → at_version (with_status value o) n ≡ rewritten o seams.others n value
rewritten_is o front middle seams n value = ap (λ b. at_version (record { key = o.key; meta = o.meta; body = b }) n) (body_is o front middle seams value)

canonical_without_by : (b : Bool) (l : List ℕ) (d : Data) (ms rest : Members) → IsCanonical d → AreCanonicalMembers rest → AreCanonicalMembers (cond b rest (member l d rest))
canonical_without_by true l d ms rest one all = all
canonical_without_by false l d ms rest one all = (one, all)

canonical_without : (k : List ℕ) (ms : Members) → AreCanonicalMembers ms → AreCanonicalMembers (without_member k ms)
canonical_without k no_members h = tt
canonical_without k (member l d ms) h = canonical_without_by (bytes_eq k l) l d ms (without_member k ms) h.0 (canonical_without k ms h.1)

canonical_set : (value : Option Data) (ms : Members) → IsCanonicalStatus value → AreCanonicalMembers ms → AreCanonicalMembers (set_member (codes "status") value ms)
canonical_set None ms one all = canonical_without (codes "status") ms all
canonical_set (Some d) ms one all = canonical_put (codes "status") d ms one all

canonical_body : (o : Object) (front middle : List ℕ) (seams : HasSeams o front middle) (value : Option Data) → IsCanonicalStatus value → IsCanonical (object (set_member (codes "status") value seams.others))
canonical_body o front middle seams value one =
    let now = set_member (codes "status") seams.status seams.others in
    let again = set_again value seams.status seams.others seams.below in
    let canonical : AreAscending now × AreCanonicalMembers now = subst IsCanonical seams.body seams.canonical in
    (subst AreAscending again (ascending_set (codes "status") value now canonical.0), subst AreCanonicalMembers again (canonical_set value now one canonical.1))

keeps_rules : (o : Object) (front middle : List ℕ) (seams : HasSeams o front middle) (n : ℕ) (value : Option Data) → n < 2 ^ 64 → KeepsRules (rewritten o seams.others n value)
keeps_rules o front middle seams n value small = record {
  key = seams.rules.key;
  meta = record { uid = seams.rules.meta.uid; revision = small; generation = seams.rules.meta.generation };
  body = subst (IsBody o.key.kind) (body_is o front middle seams value) (body_with_status o.key.kind value o.body seams.rules.body);
}

-- the text is that of the object with that status at that version
pub spliced_text : (o : Object) (version status : ℕ) (at : HasSeamsAt o version status) (n : ℕ) (value : Option Data) (t : List ℕ) → n ≢ 0 → n < 2 ^ 64 → ArePrintableOrBad (status_tokens value) → IsCanonicalStatus value
    → t ≡ at.front ++ (version_text n ++ (at.middle ++ status_text value)) → IsTextOf (at_version (with_status value o) n) t
spliced_text o version status at n value t some small printable one is =
    let seams = at.seams in
    let text_is = is ∙ sym (seams.texts n value some small) in
    subst (λ p. IsTextOf p t) (sym (rewritten_is o at.front at.middle seams n value))
    (text_of (rewritten o seams.others n value) (keeps_rules o at.front at.middle seams n value small) (canonical_body o at.front at.middle seams value one) t text_is (ap tokens text_is ∙ seams.tokens n value some small printable))

-- and has seams again
abbrev rewritten_seams : (o : Object) (version status : ℕ) (at : HasSeamsAt o version status) (n : ℕ) (value : Option Data) (here there : ℕ) → n ≢ 0 → n < 2 ^ 64 → ArePrintableOrBad (status_tokens value) → IsCanonicalStatus value
    → here ≡ length at.front → there ≡ length (at.front ++ (version_text n ++ at.middle)) → HasSeamsAt (rewritten o at.seams.others n value) here there
rewritten_seams o version status at n value here there some small printable one here_is there_is =
    let seams = at.seams in
    record {
      front = at.front;
      middle = at.middle;
      seams = record {
        others = seams.others;
        status = value;
        below = seams.below;
        body = refl;
        texts = seams.texts;
        tokens = seams.tokens;
        printable = printable;
        rules = keeps_rules o at.front at.middle seams n value small;
        canonical = canonical_body o at.front at.middle seams value one;
        written = some;
      };
      version_at = here_is;
      status_at = there_is;
    }

pub spliced_seams : (o : Object) (version status : ℕ) (at : HasSeamsAt o version status) (n : ℕ) (value : Option Data) (here there : ℕ) → n ≢ 0 → n < 2 ^ 64 → ArePrintableOrBad (status_tokens value) → IsCanonicalStatus value
    → here ≡ length at.front → there ≡ length (at.front ++ (version_text n ++ at.middle)) → HasSeamsAt (at_version (with_status value o) n) here there
spliced_seams o version status at n value here there some small printable one here_is there_is =
    subst (λ p. HasSeamsAt p here there) (sym (rewritten_is o at.front at.middle at.seams n value)) (rewritten_seams o version status at n value here there some small printable one here_is there_is)

-- the spec stays with each status
spec_stays : (o : Object) (front middle : List ℕ) (seams : HasSeams o front middle) (n : ℕ) (value : Option Data) → member_of (codes "spec") o.body ≡ member_of (codes "spec") (rewritten o seams.others n value).body
spec_stays o front middle seams n value =
    ap (member_of (codes "spec")) seams.body ∙ get_member-set_member (codes "spec") (codes "status") seams.status seams.others (λ same. absurd cc)
    ∙ sym (get_member-set_member (codes "spec") (codes "status") value seams.others (λ same. absurd cc))

-- and where it is
pub spliced_spec : (o : Object) (version status size : ℕ) (spec : IsSpecAt o version status size) (n : ℕ) (value : Option Data) (here there : ℕ) → n ≢ 0 → n < 2 ^ 64 → ArePrintableOrBad (status_tokens value)
    → IsCanonicalStatus value → here ≡ length spec.at.front → there ≡ length (spec.at.front ++ (version_text n ++ spec.at.middle)) → IsSpecAt (at_version (with_status value o) n) here there size
spliced_spec o version status size spec n value here there some small printable one here_is there_is =
    let at = spec.at in
    let seams = at.seams in
    let stays = spec_stays o at.front at.middle seams n value in
    subst (λ p. IsSpecAt p here there size) (sym (rewritten_is o at.front at.middle seams n value)) (record {
      at = rewritten_seams o version status at n value here there some small printable one here_is there_is;
      before = spec.before;
      middle = spec.middle ∙ ap (λ s. spec.before ++ spec_text s) stays;
      size = spec.size ∙ ap (λ s. length (spec_text s)) stays;
      printable = subst (λ s. ArePrintableOrBad (spec_tokens s)) stays spec.printable;
    })

-- the status that the object has
pub status_of_seams : (o : Object) (front middle : List ℕ) (seams : HasSeams o front middle) → member_of (codes "status") o.body ≡ seams.status
status_of_seams o front middle seams = ap (member_of (codes "status")) seams.body ∙ set_found (codes "status") seams.status seams.others

pub canonical_member : (k : List ℕ) (ms : Members) (value : Option Data) → AreCanonicalMembers ms → get_member k ms ≡ value → IsCanonicalStatus value
canonical_member k ms None all found = tt
canonical_member k ms (Some d) all found = canonical_found k d ms all found

pub status_canonical : (o : Object) (front middle : List ℕ) (seams : HasSeams o front middle) → IsCanonicalStatus seams.status
status_canonical o front middle seams =
    let now = set_member (codes "status") seams.status seams.others in
    let canonical : AreAscending now × AreCanonicalMembers now = subst IsCanonical seams.body seams.canonical in
    canonical_member (codes "status") now seams.status canonical.1 (set_found (codes "status") seams.status seams.others)

-- with that one it stays as it is
pub status_kept : (o : Object) (front middle : List ℕ) (seams : HasSeams o front middle) (n : ℕ) → at_version (with_status seams.status o) n ≡ at_version o n
status_kept o front middle seams n = ap (λ b. at_version (record { key = o.key; meta = o.meta; body = b }) n) (body_is o front middle seams seams.status ∙ sym seams.body)

-- the parts of a text that has seams
abbrev pub parts_of : (o : Object) (version status : ℕ) (at : HasSeamsAt o version status) (t : List ℕ) → t ≡ text o → AreParts t o.meta.revision version status
parts_of o version status at t is =
    let seams = at.seams in
    record {
      front = at.front;
      middle = at.middle;
      rest = status_text seams.status;
      text = is ∙ ap text (ap (λ b. at_version (record { key = o.key; meta = o.meta; body = b }) o.meta.revision) seams.body) ∙ seams.texts o.meta.revision seams.status seams.written seams.rules.meta.revision;
      version_at = at.version_at;
      status_at = at.status_at;
    }

-- the same of an equal text
abbrev pub parts_as : (t u : List ℕ) (revision version status : ℕ) → u ≡ t → AreParts t revision version status → AreParts u revision version status
parts_as t u revision version status same parts = record {
  front = parts.front;
  middle = parts.middle;
  rest = parts.rest;
  text = same ∙ parts.text;
  version_at = parts.version_at;
  status_at = parts.status_at;
}

-- ---- whether the text ends in a status

printable_front : (ts rest : List Token) → ArePrintableOrBad (ts ++ rest) → ArePrintableOrBad ts
printable_front [] rest h = tt
printable_front (t ∷ ts) rest h = (h.0, printable_front ts rest h.1)

no_float_before : (d : Data) (rest : List Token) → ArePrintableOrBad (json_tokens (outline d) ++ rest) → has_float d ≡ false
no_float_before d rest h = no_float_printable d (printable_front (json_tokens (outline d)) rest h)

same_by : (value : Option Data) → ArePrintableOrBad (status_tokens value) → same_found value value ≡ true
same_by None h = refl
same_by (Some d) h = same-itself d (no_float_before d (end_object ∷ []) h.1)

pub found_equal : (a b : Option Data) → same_found a b ≡ true → a ≡ b
found_equal None None h = refl
found_equal None (Some e) h = absurd cc
found_equal (Some d) None h = absurd cc
found_equal (Some d) (Some e) h = ap Some (same-equal d e h)

pub ends_alike : (o : Object) (version status : ℕ) (at : HasSeamsAt o version status) (value : Option Data) (t : List ℕ) → IsTextOf o t → ArePrintableOrBad (status_tokens value) → IsCanonicalStatus value
    → status_text at.seams.status ≡ status_text value → same_found (member_of (codes "status") o.body) value ≡ true
ends_alike o version status at value t whole printable one same =
    let seams = at.seams in
    let parts = parts_of o version status at t whole.text in
    let other = spliced_text o version status at o.meta.revision value t seams.written seams.rules.meta.revision printable one
    (parts.text ∙ ap (λ e. at.front ++ (version_text o.meta.revision ++ (at.middle ++ e))) same) in
    let equal : at_version (with_status value o) o.meta.revision ≡ o = sym (reads_as _ t other) ∙ reads_as o t whole in
    let found : member_of (codes "status") o.body ≡ value =
    ap (λ (p : Object). member_of (codes "status") p.body) (sym equal) ∙ ap (member_of (codes "status")) (body_is o at.front at.middle seams value) ∙ set_found (codes "status") value seams.others in
    ap (λ v. same_found v value) found ∙ same_by value printable

pub ends_apart : (o : Object) (version status : ℕ) (at : HasSeamsAt o version status) (value : Option Data) → (status_text at.seams.status ≡ status_text value → ⊥) → same_found (member_of (codes "status") o.body) value ≡ false
ends_apart o version status at value differ = apart_by _ (λ h. differ (ap status_text (sym (status_of_seams o at.front at.middle at.seams) ∙ found_equal (member_of (codes "status") o.body) value h)))

-- ---- indexed texts

-- what holds of an indexed text that is found holds of the one that is answered
pub if_found : {E : Type 0} (P Q : IndexedText → Type 0) (r : Result (Option IndexedText) E) → ((s : IndexedText) → P s → Q s) → IfOk r (λ f. IfSome f P) → IfOk r (λ f. IfSome f Q)
if_found P Q (Ok None) f h = h
if_found P Q (Ok (Some s)) f h = f s h
if_found P Q (Err e) f h = h

-- the parts of an indexed text's text that has these seams
abbrev pub parts_at : (o : Object) (s : IndexedText) (indexed : IsIndexedText o s) → HasSeamsAt o s.version s.status → AreParts (string_bytes s.text) s.revision s.version s.status
parts_at o s indexed at =
    let parts = parts_of o s.version s.status at (string_bytes s.text) indexed.text.text in
    record {
      front = at.front;
      middle = at.middle;
      rest = status_text at.seams.status;
      text = parts.text ∙ ap (λ r. at.front ++ (version_text r ++ (at.middle ++ status_text at.seams.status))) (sym indexed.revision);
      version_at = at.version_at;
      status_at = at.status_at ∙ ap (λ r. length (at.front ++ (version_text r ++ at.middle))) (sym indexed.revision);
    }

-- the parts of an indexed text that has seams
abbrev pub indexed_parts : (o : Object) (s : IndexedText) (indexed : IsIndexedText o s) → s.version ≢ 0 → AreParts (string_bytes s.text) s.revision s.version s.status
indexed_parts o s indexed some = parts_at o s indexed (indexed.seams some)

-- a spliced indexed text knows the spec and the generation if the old one does
spliced_known : (o : Object) (s : IndexedText) (value : Option Data) (end : List ℕ) (n : ℕ) (new : IndexedText) → IsIndexedText o s → n < 2 ^ 64 → ArePrintableOrBad (status_tokens value) → IsCanonicalStatus value
    → IsSpliced s end n new → new.version ≢ 0 → new.generation ≢ 0 → IsOpen (at_version (with_status value o) n) new
spliced_known o s value end n new indexed small printable one h some told =
    let old = indexed.known h.seams (λ none. told (h.generation ∙ none)) in
    let there = h.offsets (parts_at o s indexed old.spec.at) some in
    record {
      spec = subst (IsSpecAt (at_version (with_status value o) n) new.version new.status) (sym h.spec) (spliced_spec o s.version s.status s.spec old.spec n value new.version new.status h.written small printable one there.0 there.1);
      generation = h.generation ∙ old.generation;
      unmarked = old.unmarked;
    }

-- a spliced indexed text is that of the object with that status at that version
pub spliced_indexed : (o : Object) (s : IndexedText) (value : Option Data) (end : List ℕ) (n : ℕ) (new : IndexedText) → IsIndexedText o s → n < 2 ^ 64 → ArePrintableOrBad (status_tokens value) → IsCanonicalStatus value
    → end ≡ status_text value → IsSpliced s end n new → IsIndexedText (at_version (with_status value o) n) new
spliced_indexed o s value end n new indexed small printable one ends h =
    let at = indexed.seams h.seams in
    let parts = indexed_parts o s indexed h.seams in
    record {
      text = spliced_text o s.version s.status at n value (string_bytes new.text) h.written small printable one (h.text parts ∙ ap (λ e. at.front ++ (version_text n ++ (at.middle ++ e))) ends);
      uid = h.uid ∙ indexed.uid;
      revision = h.revision;
      seams = λ some. let there = h.offsets parts some in spliced_seams o s.version s.status at n value new.version new.status h.written small printable one there.0 there.1;
      known = spliced_known o s value end n new indexed small printable one h;
    }

-- with the status that it has, it is that of the object at that version
pub spliced_again : (o : Object) (s : IndexedText) (end : List ℕ) (n : ℕ) (new : IndexedText) (indexed : IsIndexedText o s) → n < 2 ^ 64 → ((some : s.version ≢ 0) → end ≡ (indexed_parts o s indexed some).rest) → IsSpliced s end n new → IsIndexedText (at_version o n) new
spliced_again o s end n new indexed small ends h =
    let at = indexed.seams h.seams in
    subst (λ p. IsIndexedText p new) (status_kept o at.front at.middle at.seams n)
    (spliced_indexed o s at.seams.status end n new indexed small at.seams.printable (status_canonical o at.front at.middle at.seams) (ends h.seams) h)

-- the text ends as one with that status exactly if the object has it
ends_by : (b : Bool) (o : Object) (s : IndexedText) (indexed : IsIndexedText o s) (some : s.version ≢ 0) (value : Option Data) → ArePrintableOrBad (status_tokens value) → IsCanonicalStatus value
    → bytes_eq (status_text (indexed.seams some).seams.status) (status_text value) ≡ b → b ≡ same_found (member_of (codes "status") o.body) value
ends_by true o s indexed some value printable one is =
    sym (ends_alike o s.version s.status (indexed.seams some) value (string_bytes s.text) indexed.text printable one ((bytes_eq-Decides (status_text (indexed.seams some).seams.status) (status_text value)).0 is))
ends_by false o s indexed some value printable one is =
    sym (ends_apart o s.version s.status (indexed.seams some) value (λ same. let both : true ≡ false = sym ((bytes_eq-Decides (status_text (indexed.seams some).seams.status) (status_text value)).1 same) ∙ is in absurd cc))

pub ends_same : (o : Object) (s : IndexedText) (indexed : IsIndexedText o s) (some : s.version ≢ 0) (value : Option Data) (end : List ℕ) → ArePrintableOrBad (status_tokens value) → IsCanonicalStatus value → end ≡ status_text value
    → bytes_eq (indexed_parts o s indexed some).rest end ≡ same_found (member_of (codes "status") o.body) value
ends_same o s indexed some value end printable one ends =
    ap (bytes_eq (status_text (indexed.seams some).seams.status)) ends ∙ ends_by _ o s indexed some value printable one refl

pub end_is : (value : Option Data) (out items end : List ℕ) → end ≡ items → items ≡ out ++ status_text value → out ≡ [] → end ≡ status_text value
end_is value out items end same is empty = same ∙ is ∙ ap (λ o. o ++ status_text value) empty

pub if_some_map : (P Q : Bool → Type 0) (o : Option Bool) → ((b : Bool) → P b → Q b) → IfSome o P → IfSome o Q
if_some_map P Q None f h = h
if_some_map P Q (Some b) f h = f b h
