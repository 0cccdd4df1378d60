-- Names need no escape.
use Rattle.std.proofs.Common.{◌≡◌, ℕ, ◌==◌, List, [], ◌∷◌, ◌++◌, Bool, true, false, ◌&&◌, ◌||◌, nat_le, refl, ap, ◌∙◌, arith}
use Rattle.std.specs.List.{list_all}
use Rattle.std.proofs.lemmas.Bool.{and_parts, eqb-true, leb-true}
use Rattle.json.specs.Print.{escape, escape_byte}
use Rattle.json.proofs.Printed.Strings.{escape_byte_plain}
use Rattle.objects.specs.Kind.{is_name}
use Rattle.objects.specs.Names.{is_alphanumeric, is_dns_label, is_label_byte, is_subdomain_byte, is_subdomain_name}
use Rattle.objects.specs.declared.kind.Kind.{Kind}
use Rattle.objects.specs.declared.kind.Kind.TheVariants.{StatefulSet, Pod, PersistentVolumeClaim, ControllerRevision}

pub by_either : {P : Type 0} (a b : Bool) → (a || b) ≡ true → (a ≡ true → P) → (b ≡ true → P) → P
by_either true b h f g = f refl
by_either false b h f g = g h

pub plain_letter : (x : ℕ) → (nat_le 97 x && nat_le x 122) ≡ true → escape_byte x ≡ x ∷ []
plain_letter x h =
    let low = leb-true 97 x (and_parts (nat_le 97 x) (nat_le x 122) h).0 in
    escape_byte_plain x (λ e. omega (arith, e, low)) (λ e. omega (arith, e, low)) (omega (arith, low))

pub plain_digit : (x : ℕ) → (nat_le 48 x && nat_le x 57) ≡ true → escape_byte x ≡ x ∷ []
plain_digit x h =
    let ends = and_parts (nat_le 48 x) (nat_le x 57) h in
    let low = leb-true 48 x ends.0 in
    escape_byte_plain x (λ e. omega (arith, e, low)) (λ e. omega (arith, e, leb-true x 57 ends.1)) (omega (arith, low))

pub plain_hyphen : (x : ℕ) → (x == 45) ≡ true → escape_byte x ≡ x ∷ []
plain_hyphen x h = let is = eqb-true x 45 h in escape_byte_plain x (λ e. omega (arith, e, is)) (λ e. omega (arith, e, is)) (omega (arith, is))

pub plain_stop : (x : ℕ) → (x == 46) ≡ true → escape_byte x ≡ x ∷ []
plain_stop x h = let is = eqb-true x 46 h in escape_byte_plain x (λ e. omega (arith, e, is)) (λ e. omega (arith, e, is)) (omega (arith, is))

pub plain_byte : (x : ℕ) → is_subdomain_byte x ≡ true → escape_byte x ≡ x ∷ []
plain_byte x h =
    by_either (is_label_byte x) (x == 46) h (λ l. by_either (is_alphanumeric x) (x == 45) l
    (λ a. by_either (nat_le 97 x && nat_le x 122) (nat_le 48 x && nat_le x 57) a (plain_letter x) (plain_digit x)) (plain_hyphen x)) (plain_stop x)

pub plain_bytes : (s : List ℕ) → list_all is_subdomain_byte s ≡ true → escape s ≡ s
plain_bytes [] h = refl
plain_bytes (x ∷ s) h =
    let parts = and_parts (is_subdomain_byte x) (list_all is_subdomain_byte s) h in
    ap (λ e. e ++ escape s) (plain_byte x parts.0) ∙ ap (λ r. x ∷ r) (plain_bytes s parts.1)

pub label_bytes : (s : List ℕ) → list_all is_label_byte s ≡ true → list_all is_subdomain_byte s ≡ true
label_bytes [] h = refl
label_bytes (x ∷ s) h =
    let parts = and_parts (is_label_byte x) (list_all is_label_byte s) h in
    rw (parts.0, label_bytes s parts.1) refl

pub label_plain : (s : List ℕ) → is_dns_label s ≡ true → escape s ≡ s
unfolding is_dns_label
label_plain s h = plain_bytes s (label_bytes s (and_parts _ _ (and_parts _ _ (and_parts _ _ h).0).0).1)

pub subdomain_plain : (s : List ℕ) → is_subdomain_name s ≡ true → escape s ≡ s
unfolding is_subdomain_name
subdomain_plain s h = plain_bytes s (and_parts _ _ (and_parts _ _ (and_parts _ _ h).0).0).1

pub name_plain : (kind : Kind) (s : List ℕ) → is_name kind s ≡ true → escape s ≡ s
name_plain StatefulSet s h = label_plain s h
name_plain Pod s h = subdomain_plain s h
name_plain PersistentVolumeClaim s h = subdomain_plain s h
name_plain ControllerRevision s h = subdomain_plain s h
