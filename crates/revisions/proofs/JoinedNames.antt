-- Names that begin with the name of another object.
use Rattle.std.proofs.Common.{◌≡◌, ℕ, ◌+◌, ◌-◌, ◌≤◌, List, [], ◌∷◌, ◌++◌, length, Bool, true, false, refl, ap, ◌∙◌, arith}
use Rattle.std.specs.Prelude.{◌&&◌, ◌||◌, ◌==◌, nat_le, codes, slice_index}
use Rattle.std.specs.List.{list_all}
use Rattle.std.proofs.lemmas.Bool.{and_parts}
use Rattle.std.proofs.lemmas.List.Elements.{All-get_or}
use Rattle.std.proofs.lemmas.List.Sums.{AllPass-from_list_all}
use borrow.Author.Tests.{leb-true, le-leb}
use Rattle.std.proofs.lemmas.List.{get_or_append_left, get_or-append-add, length-append}
use Rattle.std.proofs.lemmas.List.Folds.{list_all-append}
use Rattle.objects.specs.declared.kind.Kind.{Kind}
use Rattle.objects.specs.declared.kind.Kind.TheVariants.{StatefulSet, Pod, PersistentVolumeClaim, ControllerRevision}
use Rattle.objects.specs.Kind.{is_name}
use Rattle.objects.specs.Names.{is_alphanumeric, is_label_byte, is_subdomain_byte, is_name_of, is_dns_label, is_subdomain_name}

-- a name that others begin with
pub record BeginsNames (s : List ℕ) : Type 0 where
  pub some : 1 ≤ length s
  pub all : list_all is_subdomain_byte s ≡ true
  pub first : is_alphanumeric (slice_index s 0) ≡ true

more_bytes : (b c : Bool) → b ≡ true → (b || c) ≡ true
more_bytes true c h = refl
more_bytes false c h = absurd cc

pub all_wider : (p q : ℕ → Bool) → ((b : ℕ) → p b ≡ true → q b ≡ true) → (s : List ℕ) → list_all p s ≡ true → list_all q s ≡ true
all_wider p q wider [] h = refl
all_wider p q wider (b ∷ s) h =
    let parts = and_parts (p b) (list_all p s) h in
    rw (wider b parts.0) (all_wider p q wider s parts.1)

label_is_subdomain : (b : ℕ) → is_label_byte b ≡ true → is_subdomain_byte b ≡ true
label_is_subdomain b h = more_bytes (is_label_byte b) (b == 46) h

letter_is_subdomain : (b : ℕ) → is_alphanumeric b ≡ true → is_subdomain_byte b ≡ true
letter_is_subdomain b h = label_is_subdomain b (more_bytes (is_alphanumeric b) (b == 45) h)

begins_by : (most : ℕ) (allowed : ℕ → Bool) → ((b : ℕ) → allowed b ≡ true → is_subdomain_byte b ≡ true) → (s : List ℕ) → is_name_of most allowed s ≡ true → BeginsNames s
begins_by most allowed wider s h =
    let edges = and_parts (nat_le 1 (length s) && nat_le (length s) most && list_all allowed s && is_alphanumeric (slice_index s 0)) (is_alphanumeric (slice_index s (length s - 1))) h in
    let bytes = and_parts (nat_le 1 (length s) && nat_le (length s) most && list_all allowed s) (is_alphanumeric (slice_index s 0)) edges.0 in
    let sizes = and_parts (nat_le 1 (length s) && nat_le (length s) most) (list_all allowed s) bytes.0 in
    let least = and_parts (nat_le 1 (length s)) (nat_le (length s) most) sizes.0 in
    record { some = leb-true 1 (length s) least.0; all = all_wider allowed is_subdomain_byte wider s sizes.1; first = bytes.1 }

-- a set's name is one
pub begins_names : (kind : Kind) (s : List ℕ) → is_name kind s ≡ true → BeginsNames s
unfolding is_dns_label is_subdomain_name
begins_names StatefulSet s h = begins_by 63 is_label_byte label_is_subdomain s h
begins_names Pod s h = begins_by 253 is_subdomain_byte (λ b is. is) s h
begins_names PersistentVolumeClaim s h = begins_by 253 is_subdomain_byte (λ b is. is) s h
begins_names ControllerRevision s h = begins_by 253 is_subdomain_byte (λ b is. is) s h

-- such a name, a dash, and letters or digits are a subdomain name
pub joined_name : (s t : List ℕ) → BeginsNames s → list_all is_alphanumeric t ≡ true → 1 ≤ length t → length s + 1 + length t ≤ 253 → is_subdomain_name (s ++ codes "-" ++ t) ≡ true
unfolding is_subdomain_name
joined_name s t begins letters some short =
    let whole = s ++ codes "-" ++ t in
    let long : length whole ≡ length s + 1 + length t = length-append (s ++ codes "-") t ∙ ap (λ n. n + length t) (length-append s (codes "-")) in
    let last : length whole - 1 ≡ length (s ++ codes "-") + (length t - 1) = omega (arith, length-append (s ++ codes "-") t) in
    let all : list_all is_subdomain_byte whole ≡ true =
    list_all-append is_subdomain_byte (s ++ codes "-") t
    ∙ rw (list_all-append is_subdomain_byte s (codes "-"), begins.all) (all_wider is_alphanumeric is_subdomain_byte letter_is_subdomain t letters) in
    let first : slice_index whole 0 ≡ slice_index s 0 =
    get_or_append_left (s ++ codes "-") t 0 0 (omega (arith, length-append s (codes "-"), begins.some)) ∙ get_or_append_left s (codes "-") 0 0 begins.some in
    let end : is_alphanumeric (slice_index whole (length whole - 1)) ≡ true =
    ap (λ n. is_alphanumeric (slice_index whole n)) last ∙ (ap is_alphanumeric (get_or-append-add (s ++ codes "-") t (length t - 1) 0)
    ∙ All-get_or (λ b. is_alphanumeric b ≡ true) t (length t - 1) 0 (omega arith) (AllPass-from_list_all is_alphanumeric t letters)) in
    rw (le-leb 1 (length whole) (omega (arith, long)), le-leb (length whole) 253 (omega (arith, long)), all, ap is_alphanumeric first ∙ begins.first, end) refl
