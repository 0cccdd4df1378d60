-- A line that was accepted, and what the reading of it is.
use Rattle.std.proofs.Common.{◌≡◌, ℕ, ◌≤◌, List, [], ◌∷◌, ◌++◌, length, nat_eq, take, drop, take-append-drop, Bool, true, false, nat_lt, codes, Option, Some, None, Ok, refl, sym, ap, ◌∙◌, subst, arith}
use Rattle.std.specs.Prelude.{Result, Err, IfOk, IfSome}
use Rattle.std.specs.Str.{is_utf8}
use Rattle.std.specs.List.{starts_with}
use Rattle.std.proofs.lemmas.Bool.{ltb-true}
use Rattle.std.proofs.lemmas.Slice.Eq.{bytes_eq-Decides}
use Rattle.serde_json.specs.Data.{Data, Members, object as map_of}
use Rattle.serde_json.specs.Find.{get_member}
use Rattle.serde_json.specs.Read.{read}
use Rattle.serde_json.specs.Written.{compact_text, has_float}
use Rattle.trees.specs.Canonical.{IsCanonical}
use Rattle.trees.specs.Reading.{tree_reading}
use Rattle.trees.proofs.PutOrder.{canonical_found}
use Rattle.compact.specs.Notes.{IsLine, OfMembers}
use Rattle.compact.specs.Reads.{IsSorted}
use Rattle.compact.specs.declared.scanner.Tables.{Tables}
use Rattle.objects.specs.Reading.{most_bytes, reading_of_data}
use Rattle.compact_objects.specs.Drafts.{IsDraftOf}
use Rattle.compact_objects.specs.declared.draft.CompactDraft.{CompactDraft}
use Rattle.objects.proofs.BodyMembers.{member_of-integral}
use Rattle.compact_objects.proofs.Braces.{map_begun}
use Rattle.compact_objects.proofs.Readings.{read_is_canonical}
use Rattle.compact_objects.specs.Lines.{IsDraftOfLine}

pub begins : (s : List ℕ) → starts_with nat_eq s (123 ∷ []) ≡ true → s ≡ 123 ∷ drop 1 s
begins s same = sym (take-append-drop 1 s) ∙ ap (λ x. x ++ drop 1 s) (sym ((bytes_eq-Decides (123 ∷ []) (take 1 s)).0 same))

-- a line that was accepted as a map
pub record IsTakenMap (line text : List ℕ) (tables : Tables) : Type 0 where
  pub members : Members
  pub reads : read line ≡ Some (map_of members)
  pub integral : has_float (map_of members) ≡ false
  pub now : text ≡ compact_text (map_of members)
  pub noted : IsLine tables members
  pub canonical : IsCanonical (map_of members)

pub taken_map : (line text rest : List ℕ) (tables : Tables) → IsSorted line text tables → text ≡ 123 ∷ rest → IsTakenMap line text tables
taken_map line text rest tables t begins =
    let m = map_begun t.found rest (sym t.now ∙ begins) in
    record {
      members = m.0;
      reads = t.reads ∙ ap Some m.1;
      integral = sym (ap has_float m.1) ∙ t.integral;
      now = t.now ∙ ap compact_text m.1;
      noted = subst (OfMembers (IsLine tables)) m.1 t.noted;
      canonical = subst IsCanonical m.1 (read_is_canonical line t.found t.reads t.integral);
    }

read_by : (line : List ℕ) (d : Data) (long utf8 : Bool) → nat_lt most_bytes (length line) ≡ long → is_utf8 line ≡ utf8 → long ≡ false → utf8 ≡ true → read line ≡ Some d → has_float d ≡ false → reading_of_data line ≡ Ok d
unfolding tree_reading
read_by line d long utf8 short valid a b reads integral = rw (short ∙ a, valid ∙ b, reads, integral) refl

not_longer : (b : Bool) (n m : ℕ) → nat_lt n m ≡ b → m ≤ n → b ≡ false
not_longer false n m is small = refl
not_longer true n m is small = absurd (omega (arith, ltb-true n m is, small))

told_weaker : {A E : Type 0} (P Q : A → Type 0) (r : Result (Option A) E) → ((x : A) → P x → Q x) → IfOk r (λ f. IfSome f P) → IfOk r (λ f. IfSome f Q)
told_weaker P Q (Err e) weaker h = tt
told_weaker P Q (Ok None) weaker h = tt
told_weaker P Q (Ok (Some x)) weaker h = weaker x h

pub told_of_line : {E : Type 0} (line text : List ℕ) (tables : Tables) (r : Result (Option CompactDraft) E) → (t : IsTakenMap line text tables)
    → IfOk r (λ found. IfSome found (λ c. (os : Members) × (get_member (codes "object") t.members ≡ Some (map_of os)) × IsDraftOf c os)) → IfOk r (λ found. IfSome found (λ c. IsDraftOfLine c line))
told_of_line line text tables r t told =
    told_weaker _ _ r
    (λ c d. record {
      members = t.members;
      object = d.0;
      reads = t.reads;
      reading = λ short valid. read_by line (map_of t.members) _ _ refl refl (not_longer _ most_bytes (length line) refl short) valid t.reads t.integral;
      found = d.1;
      draft = d.2;
      canonical = canonical_found (codes "object") (map_of d.0) t.members t.canonical.1 d.1;
      integral = subst (λ o. IfSome o (λ e. has_float e ≡ false)) d.1 (member_of-integral (codes "object") (map_of t.members) t.integral);
    })
    told
