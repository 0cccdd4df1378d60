-- What the store sets in the metadata needs no escape, but for the time of deletion.
use Rattle.std.proofs.Common.{◌≡◌, ℕ, ◌/◌, ◌%◌, ◌<◌, ◌==◌, List, [], ◌∷◌, ◌++◌, drop, Bool, true, false, Some, codes, refl, sym, ap, ◌∙◌, subst, arith}
use Rattle.std.specs.Prelude.{⊤, decimal, if◌then◌else◌, is_ok, None, OnOk, Result, Ok, Err, slice_index}
use Rattle.std.specs.Int.{w64, to_be_bytes}
use Rattle.std.specs.List.{list_all}
use Rattle.std.proofs.lemmas.Bool.{and_parts, eqb-true}
use Rattle.std.proofs.lemmas.List.Elements.{All-get_or}
use Rattle.std.proofs.lemmas.List.Sums.{AllPass-from_list_all}
use Rattle.hex.specs.Hex.{encode_lower, encode_with, lower_digits}
use Rattle.json.specs.Print.{escape, escape_byte}
use Rattle.serde_json.specs.Data.{Data, number, string, unsigned}
use Rattle.objects.specs.Key.{KeyParts, is_key}
use Rattle.objects.specs.Kind.{is_name}
use Rattle.objects.specs.Names.{is_dns_label, is_subdomain_byte}
use Rattle.objects.specs.Text.{unless_zero}
use Rattle.objects.specs.Uid.{twelve_digits, uid_prefix, uid_text}
use Rattle.compact_objects.specs.Merging.{held_key, is_set, some_text, uid_data}
use Rattle.compact_objects.specs.declared.held.HeldMember.{HeldMember}
use Rattle.compact_objects.specs.declared.held.HeldMember.TheVariants.{DeletionTimestamp, Generation, Name, Namespace, Uid}
use Rattle.compact_objects.specs.declared.merge.MapKind.TheVariants.{Metadata}
use Rattle.compact_objects.proofs.PlainNames.{label_plain, name_plain, plain_bytes}

pub same_plain : (k l : List ℕ) → escape l ≡ l → k ≡ l → escape k ≡ k
same_plain k l own is = subst (λ t. escape t ≡ t) (sym is) own

-- ---- a key

pub key_name_plain : (k : KeyParts) → is_key k ≡ true → escape k.name ≡ k.name
key_name_plain k h = name_plain k.kind k.name (and_parts (is_dns_label k.namespace) (is_name k.kind k.name) h).1

pub key_namespace_plain : (k : KeyParts) → is_key k ≡ true → escape k.namespace ≡ k.namespace
key_namespace_plain k h = label_plain k.namespace (and_parts (is_dns_label k.namespace) (is_name k.kind k.name) h).0

-- ---- a UID

abbrev AreBytes : List ℕ → Type 0
AreBytes [] = ⊤
AreBytes (b ∷ bs) = (b < 256) × AreBytes bs

digit_is : (d : ℕ) → d < 16 → is_subdomain_byte (slice_index lower_digits d) ≡ true
digit_is d small = All-get_or (λ b. is_subdomain_byte b ≡ true) lower_digits d 0 small (AllPass-from_list_all is_subdomain_byte lower_digits refl)

digits_are : (bytes : List ℕ) → AreBytes bytes → list_all is_subdomain_byte (encode_lower bytes) ≡ true
unfolding encode_with
digits_are [] small = refl
digits_are (b ∷ bytes) small =
    let first : b < 256 = small.0 in
    rw (digit_is (b / 16) (omega arith), digit_is (b % 16) (omega arith)) (digits_are bytes small.1)

six_bytes : (n : ℕ) → AreBytes (drop 2 (to_be_bytes w64 n))
six_bytes n = (omega arith, (omega arith, (omega arith, (omega arith, (omega arith, (omega arith, tt))))))

plain_unless : (none : Bool) (s : List ℕ) → escape s ≡ s → escape (if none then [] else s) ≡ (if none then [] else s)
plain_unless true s own = refl
plain_unless false s own = own

pub uid_plain : (n : ℕ) → escape (uid_text n) ≡ uid_text n
unfolding uid_text
uid_plain n = plain_unless (n == 0) (uid_prefix ++ twelve_digits n) (plain_bytes (uid_prefix ++ twelve_digits n) (digits_are (drop 2 (to_be_bytes w64 n)) (six_bytes n)))

-- ---- members that are set, as they are written

-- of a call that failed, nothing is said
pub extended : {T E : Type 0} (r : Result T E) (made old new : List ℕ) → new ≡ (if is_ok r then made else old) → OnOk r (new ≡ made)
extended (Ok x) made old new is = is
extended (Err e) made old new is = tt

uid_by : (none : Bool) (n : ℕ) → n == 0 ≡ none → (n ≡ 0 → ⊥) → uid_text n ≡ uid_prefix ++ twelve_digits n
unfolding uid_text
uid_by true n is other = absurd (other (eqb-true n 0 is))
uid_by false n is other = ap (λ (b : Bool). if b then [] else uid_prefix ++ twelve_digits n) is

some_by : (none : Bool) (n : ℕ) (d : Data) → n == 0 ≡ none → (n ≡ 0 → ⊥) → unless_zero n d ≡ Some d
some_by true n d is other = absurd (other (eqb-true n 0 is))
some_by false n d is other = ap (λ (b : Bool). if b then None else Some d) is

pub no_member : (k : List ℕ) (n : ℕ) (d : Data) → n ≡ 0 → [] ≡ some_text k (unless_zero n d)
no_member k n d is = ap (λ m. some_text k (unless_zero m d)) (sym is)

pub some_member : (k : List ℕ) (n : ℕ) (d : Data) → (n ≡ 0 → ⊥) → some_text k (Some d) ≡ some_text k (unless_zero n d)
some_member k n d other = ap (some_text k) (sym (some_by (n == 0) n d refl other))

pub generation_text : (n : ℕ) → (n ≡ 0 → ⊥) → codes ",\"generation\":" ++ decimal n ≡ some_text (codes "generation") (unless_zero n (number (unsigned n)))
unfolding escape_byte
generation_text n other = some_member (codes "generation") n (number (unsigned n)) other

pub name_text : (s : List ℕ) → escape s ≡ s → codes ",\"name\":\"" ++ (s ++ 34 ∷ []) ≡ some_text (codes "name") (Some (string s))
unfolding escape_byte
name_text s own = ap (λ t. codes ",\"name\":\"" ++ (t ++ 34 ∷ [])) (sym own)

pub namespace_text : (s : List ℕ) → escape s ≡ s → codes ",\"namespace\":\"" ++ (s ++ 34 ∷ []) ≡ some_text (codes "namespace") (Some (string s))
unfolding escape_byte
namespace_text s own = ap (λ t. codes ",\"namespace\":\"" ++ (t ++ 34 ∷ [])) (sym own)

pub uid_member : (n : ℕ) → (n ≡ 0 → ⊥) → codes ",\"uid\":\"" ++ ((uid_prefix ++ twelve_digits n) ++ 34 ∷ []) ≡ some_text (codes "uid") (uid_data n)
unfolding escape_byte
uid_member n other =
    ap (λ t. codes ",\"uid\":\"" ++ (t ++ 34 ∷ [])) (sym (uid_plain n ∙ uid_by (n == 0) n refl other))
    ∙ some_member (codes "uid") n (string (uid_text n)) other

pub held_is_set : (h : HeldMember) → is_set Metadata (held_key h) ≡ true
held_is_set (DeletionTimestamp s) = refl
held_is_set (Generation n) = refl
held_is_set (Name s) = refl
held_is_set (Namespace s) = refl
held_is_set (Uid n) = refl
