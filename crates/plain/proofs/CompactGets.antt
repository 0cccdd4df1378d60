-- A get line in compact form is read as its request.
use Rattle.std.proofs.Common.{◌≡◌, ℕ, ◌≤◌, List, [], ◌∷◌, ◌++◌, length, take, drop, Bool, true, false, nat_eq, nat_lt, cond, codes, None, Some, Ok, unwrap_or, take-append-drop, refl, sym, ap, ◌∙◌, append_assoc, length-append, arith}
use Rattle.std.specs.Str.{IsUtf8}
use Rattle.std.proofs.lemmas.Bool.{and_parts, leb-true, lt-ltb}
use Rattle.std.proofs.lemmas.Slice.Eq.{bytes_eq-Decides}
use Rattle.std.proofs.lemmas.Str.{IsUtf8-append}
use Rattle.json.specs.Lex.{tokens}
use Rattle.json.specs.Print.{escape, escape_byte}
use Rattle.json.specs.Tree.{json_tokens}
use Rattle.json.proofs.Printed.Tokens.{tokens-print}
use Rattle.json.proofs.Printed.Trees.{ArePrintable-json_tokens}
use Rattle.json.proofs.Printed.Utf8.{IsUtf8-are_ascii, are_ascii}
use Rattle.std.specs.Cmp.Lexicographic.{pointwise}
use Rattle.serde_json.specs.Data.{Data, Members, object, string, no_members, member}
use Rattle.serde_json.specs.Written.{compact_text, outline}
use Rattle.serde_json.proofs.Texts.{print-outline}
use Rattle.trees.specs.Reading.{tree_reading, most_bytes}
use Rattle.trees.proofs.ReadBack.{data_again}
use Rattle.objects.specs.declared.kind.Kind.{Kind}
use Rattle.objects.specs.declared.kind.Kind.TheVariants.{StatefulSet, Pod, PersistentVolumeClaim, ControllerRevision}
use Rattle.objects.specs.Key.{KeyParts, is_key, key_parts}
use Rattle.objects.specs.Kind.{is_name, kind_name, kind_named}
use Rattle.objects.specs.Names.{is_dns_label}
use Rattle.objects.specs.declared.fault.ReadError.TheVariants.{BadName, UnknownKind}
use Rattle.objects.specs.Steps.{as_read, guarded, required}
use Rattle.objects.specs.Reading.{key_in, key_of, kind_in, namespace_in}
use Rattle.objects.proofs.KeyTexts.{key_name_length, key_namespace_length}
use Rattle.compact_objects.proofs.PlainNames.{label_plain, name_plain}
use Rattle.requests.specs.declared.request.Request.TheVariants.{Get}
use Rattle.plain.specs.CompactGets.{get_text}
use Rattle.plain.specs.Requests.{request_in, request_of}
use Rattle.plain.specs.RequestParts.{◌>>=◌, lifted}
use Rattle.plain.specs.Verbs.{request_by, verb_in}

-- the value of such a line
abbrev get_data : List ℕ → List ℕ → List ℕ → Data
get_data kind name namespace =
    object (member (codes "do") (string (codes "get")) (member (codes "kind") (string kind) (member (codes "name") (string name) (member (codes "namespace") (string namespace) no_members))))

kind_plain : (kind : Kind) → escape (kind_name kind) ≡ kind_name kind
unfolding escape_byte
kind_plain StatefulSet = refl
kind_plain Pod = refl
kind_plain PersistentVolumeClaim = refl
kind_plain ControllerRevision = refl

-- ---- the text

quote_after : (s rest : List ℕ) → escape s ≡ s → (escape s ++ 34 ∷ []) ++ rest ≡ s ++ 34 ∷ rest
quote_after s rest plain = ap (λ e. (e ++ 34 ∷ []) ++ rest) plain ∙ append_assoc s (34 ∷ []) rest

text_is : (kind name namespace : List ℕ) → escape kind ≡ kind → escape name ≡ name → escape namespace ≡ namespace → compact_text (get_data kind name namespace) ≡ get_text kind name namespace
unfolding escape_byte
text_is kind name namespace a b c =
    ap (λ x. codes "{\"do\":\"get\",\"kind\":\"" ++ x) (quote_after kind _ a
    ∙ ap (λ x. kind ++ (codes "\",\"name\":\"" ++ x)) (quote_after name _ b ∙ ap (λ x. name ++ (codes "\",\"namespace\":\"" ++ x)) (quote_after namespace (125 ∷ []) c)))

kind_utf8 : (kind : Kind) → IsUtf8 (kind_name kind)
kind_utf8 StatefulSet = IsUtf8-are_ascii (codes "StatefulSet") refl
kind_utf8 Pod = IsUtf8-are_ascii (codes "Pod") refl
kind_utf8 PersistentVolumeClaim = IsUtf8-are_ascii (codes "PersistentVolumeClaim") refl
kind_utf8 ControllerRevision = IsUtf8-are_ascii (codes "ControllerRevision") refl

ascii_then : (front rest : List ℕ) → are_ascii front ≡ true → IsUtf8 rest → IsUtf8 (front ++ rest)
ascii_then front rest plain h = IsUtf8-append front rest (IsUtf8-are_ascii front plain) h

utf8_is : (kind : Kind) (name namespace : List ℕ) → IsUtf8 name → IsUtf8 namespace → IsUtf8 (get_text (kind_name kind) name namespace)
utf8_is kind name namespace a b =
    let last = IsUtf8-append namespace (codes "\"}") b (IsUtf8-are_ascii (codes "\"}") refl) in
    let spaced = ascii_then (codes "\",\"namespace\":\"") (namespace ++ codes "\"}") refl last in
    let named = IsUtf8-append name (codes "\",\"namespace\":\"" ++ (namespace ++ codes "\"}")) a spaced in
    let after = ascii_then (codes "\",\"name\":\"") (name ++ (codes "\",\"namespace\":\"" ++ (namespace ++ codes "\"}"))) refl named in
    ascii_then (codes "{\"do\":\"get\",\"kind\":\"") (kind_name kind ++ (codes "\",\"name\":\"" ++ (name ++ (codes "\",\"namespace\":\"" ++ (namespace ++ codes "\"}"))))) refl
    (IsUtf8-append (kind_name kind) (codes "\",\"name\":\"" ++ (name ++ (codes "\",\"namespace\":\"" ++ (namespace ++ codes "\"}")))) (kind_utf8 kind) after)

kind_short : (kind : Kind) → length (kind_name kind) ≤ 21
kind_short StatefulSet = omega arith
kind_short Pod = omega arith
kind_short PersistentVolumeClaim = omega arith
kind_short ControllerRevision = omega arith

short : (kind : Kind) (name namespace : List ℕ) → is_key (key_parts kind namespace name) ≡ true → length (get_text (kind_name kind) name namespace) ≤ most_bytes
short kind name namespace h =
    let last : List ℕ = codes "\"}" in
    let spaced : List ℕ = codes "\",\"namespace\":\"" ++ (namespace ++ last) in
    omega (arith, kind_short kind, key_name_length (key_parts kind namespace name) h, key_namespace_length (key_parts kind namespace name) h, length-append (kind_name kind) (codes "\",\"name\":\"" ++ (name ++ spaced)), length-append name spaced, length-append namespace last)

-- ---- the request

kind_again : (kind : Kind) → kind_named (kind_name kind) ≡ Some kind
kind_again StatefulSet = refl
kind_again Pod = refl
kind_again PersistentVolumeClaim = refl
kind_again ControllerRevision = refl

abbrev get_members : List ℕ → List ℕ → List ℕ → Members
get_members kind name namespace = member (codes "do") (string (codes "get")) (member (codes "kind") (string kind) (member (codes "name") (string name) (member (codes "namespace") (string namespace) no_members)))

kind_is : (kind : Kind) (name namespace : List ℕ) → kind_in (get_members (kind_name kind) name namespace) ≡ Ok kind
unfolding kind_in
kind_is kind name namespace = ap (required UnknownKind) (kind_again kind)

not_empty : (s : List ℕ) → is_dns_label s ≡ true → nat_lt 0 (length s) ≡ true
unfolding is_dns_label
not_empty s h = lt-ltb 0 (length s) (leb-true 1 (length s) (and_parts _ _ (and_parts _ _ (and_parts _ _ (and_parts _ _ h).0).0).0).0)

namespace_is : (kind : Kind) (name namespace : List ℕ) → is_dns_label namespace ≡ true → namespace_in (get_members (kind_name kind) name namespace) ≡ Ok namespace
unfolding namespace_in
namespace_is kind name namespace h = ap (λ b. Ok (unwrap_or (cond b (Some namespace) None) (codes "default"))) (not_empty namespace h)

key_is : (kind : Kind) (name namespace : List ℕ) → is_key (key_parts kind namespace name) ≡ true → key_of kind (get_members (kind_name kind) name namespace) ≡ Ok (key_parts kind namespace name)
unfolding key_of
key_is kind name namespace h = rw (namespace_is kind name namespace (and_parts _ _ h).0) (ap (λ b. guarded BadName b (key_parts kind namespace name)) h)

named_is : (kind : Kind) (name namespace : List ℕ) → is_key (key_parts kind namespace name) ≡ true → key_in (get_members (kind_name kind) name namespace) ≡ Ok (key_parts kind namespace name)
unfolding key_in
named_is kind name namespace h = rw (kind_is kind name namespace) (key_is kind name namespace h)

request_is : (kind : Kind) (name namespace : List ℕ) → is_key (key_parts kind namespace name) ≡ true → request_in (get_data (kind_name kind) name namespace) ≡ Ok (Get (key_parts kind namespace name))
unfolding request_in verb_in request_by
request_is kind name namespace h = ap (λ r. lifted r >>= λ k. Ok (Get k)) (named_is kind name namespace h)

get_tokens : (kind name namespace : List ℕ) → tokens (compact_text (get_data kind name namespace)) ≡ json_tokens (outline (get_data kind name namespace))
get_tokens kind name namespace =
    let d = get_data kind name namespace in
    ap tokens (sym (print-outline d)) ∙ tokens-print (json_tokens (outline d)) (ArePrintable-json_tokens (outline d) (tt, (tt, (tt, (tt, tt)))))

get_read : (kind : Kind) (name namespace line : List ℕ) → is_key (key_parts kind namespace name) ≡ true → IsUtf8 name → IsUtf8 namespace → line ≡ get_text (kind_name kind) name namespace → request_of line ≡ Ok (Get (key_parts kind namespace name))
unfolding request_of
get_read kind name namespace line h a b is =
    let d = get_data (kind_name kind) name namespace in
    let parts = and_parts (is_dns_label namespace) (is_name kind name) h in
    let text = text_is (kind_name kind) name namespace (kind_plain kind) (name_plain kind name parts.1) (label_plain namespace parts.0) in
    let read : tree_reading (get_text (kind_name kind) name namespace) ≡ Ok d =
    data_again d ((refl, (refl, (refl, (tt, tt)))), (tt, (tt, (tt, (tt, tt))))) (get_text (kind_name kind) name namespace) (utf8_is kind name namespace a b)
    (ap tokens (sym text) ∙ get_tokens (kind_name kind) name namespace) (short kind name namespace h) (omega arith) in
    ap (λ r. lifted (as_read r) >>= request_in) (ap tree_reading is ∙ read) ∙ request_is kind name namespace h

named_by : (b : Bool) (kind : Kind) (name namespace line : List ℕ) (key : KeyParts) → is_key (key_parts kind namespace name) ≡ b → guarded BadName b (key_parts kind namespace name) ≡ Ok key → IsUtf8 name → IsUtf8 namespace
    → line ≡ get_text (kind_name kind) name namespace → request_of line ≡ Ok (Get key)
named_by true kind name namespace line key h made a b is = get_read kind name namespace line h a b is ∙ ap (λ r. lifted r >>= λ k. Ok (Get k)) made
named_by false kind name namespace line key h made a b is = absurd cc

pub get_named : (kind : Kind) (name namespace line : List ℕ) (key : KeyParts) → guarded BadName (is_key (key_parts kind namespace name)) (key_parts kind namespace name) ≡ Ok key → IsUtf8 name → IsUtf8 namespace
    → line ≡ get_text (kind_name kind) name namespace → request_of line ≡ Ok (Get key)
get_named kind name namespace line key made a b is = named_by _ kind name namespace line key refl made a b is

-- ---- the parts of the line

pub stripped : (line front rest : List ℕ) → pointwise nat_eq (take (length front) line) front ≡ true → rest ≡ drop (length front) line → line ≡ front ++ rest
stripped line front rest same is = sym (take-append-drop (length front) line) ∙ ap (λ x. x ++ drop (length front) line) ((bytes_eq-Decides (take (length front) line) front).0 same) ∙ ap (λ x. front ++ x) (sym is)

pub parts_joined : (line kind name namespace r1 r2 r3 r4 r5 : List ℕ) → line ≡ codes "{\"do\":\"get\",\"kind\":\"" ++ r1 → r1 ≡ kind ++ 34 ∷ r2 → r2 ≡ codes ",\"name\":\"" ++ r3 → r3 ≡ name ++ 34 ∷ r4 → r4 ≡ codes ",\"namespace\":\"" ++ r5
    → r5 ≡ namespace ++ codes "\"}" → line ≡ get_text kind name namespace
parts_joined line kind name namespace r1 r2 r3 r4 r5 a b c d e f = rw (a, b, c, d, e, f) refl
