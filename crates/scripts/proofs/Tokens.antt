-- The tokens of a request with members that may be left out.
use Rattle.std.proofs.Common.{◌≡◌, ℕ, List, [], ◌∷◌, ◌++◌, codes, decimal, Option, Some, None, refl, ap, ◌∙◌, append_assoc}
use Rattle.json.specs.Token as token
use Rattle.json.specs.Tree.{json_tokens, members_tokens}
use Rattle.serde_json.specs.Data.{Members, member, no_members, string}
use Rattle.serde_json.specs.Written.{members_outline, outline}
use Rattle.objects.specs.declared.kind.Kind.{Kind}
use Rattle.objects.specs.Again.{text_unless_zero}
use Rattle.objects.specs.Key.{KeyParts}
use Rattle.objects.specs.Kind.{kind_name}
use Rattle.scripts.specs.RequestLine.{deletion_data, optional_tokens, key_members, key_tokens, list_data, member_if}

-- a text that is given, and the members after it
optional_then : (k : List ℕ) (o : Option (List ℕ)) (ms : Members)
    → optional_tokens k o ++ members_tokens (members_outline ms) ≡ members_tokens (members_outline (member_if k o ms))
optional_then k None ms = refl
optional_then k (Some s) ms = refl

pub all_list_tokens : (kind : Kind) (namespace : List ℕ) (exact : ℕ)
    → token.begin_object ∷ token.key (codes "do") ∷ token.string (codes "list") ∷ token.key (codes "kind") ∷ token.string (kind_name kind) ∷ token.key (codes "namespace") ∷ token.string namespace
    ∷ (optional_tokens (codes "resourceVersion") (text_unless_zero exact (decimal exact)) ++ token.end_object ∷ []) ≡ json_tokens (outline (list_data kind namespace exact))
all_list_tokens kind namespace exact =
    ap (λ rest. token.begin_object ∷ token.key (codes "do") ∷ token.string (codes "list") ∷ token.key (codes "kind") ∷ token.string (kind_name kind) ∷ token.key (codes "namespace") ∷ token.string namespace ∷ rest)
    (optional_then (codes "resourceVersion") (text_unless_zero exact (decimal exact)) no_members)

pub all_deletion_tokens : (key : KeyParts) (uid version at : Option (List ℕ))
    → token.begin_object ∷ (optional_tokens (codes "at") at ++ token.key (codes "do") ∷ token.string (codes "delete")
    ∷ (key_tokens key ++ ((optional_tokens (codes "resourceVersion") version ++ optional_tokens (codes "uid") uid) ++ token.end_object ∷ [])))
    ≡ json_tokens (outline (deletion_data key uid version at))
all_deletion_tokens key uid version at =
    let last = member_if (codes "uid") uid no_members in
    let behind = member_if (codes "resourceVersion") version last in
    let written = append_assoc (optional_tokens (codes "resourceVersion") version) (optional_tokens (codes "uid") uid) (token.end_object ∷ [])
    ∙ ap (λ ts. optional_tokens (codes "resourceVersion") version ++ ts) (optional_then (codes "uid") uid no_members) ∙ optional_then (codes "resourceVersion") version last in
    ap (λ ts. token.begin_object ∷ (optional_tokens (codes "at") at ++ token.key (codes "do") ∷ token.string (codes "delete") ∷ (key_tokens key ++ ts))) written
    ∙ ap (λ ts. token.begin_object ∷ ts) (optional_then (codes "at") at (member (codes "do") (string (codes "delete")) (key_members key behind)))
