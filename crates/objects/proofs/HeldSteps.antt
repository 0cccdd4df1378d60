-- The held members of the metadata, step by step up to the resource version.
use Rattle.std.proofs.Common.{◌≡◌, ◌≢◌, List, [], ◌∷◌, ◌++◌, ℕ, ◌==◌, false, codes, decimal, Option, Some, refl, sym, ap, ◌∙◌, append_assoc}
use Rattle.std.specs.Prelude.{option_map}
use Rattle.std.proofs.lemmas.Bool.{ne_eqb}
use Rattle.json.specs.Token.{Token, key, string as string_token}
use Rattle.json.specs.Tree.{members_tokens}
use Rattle.serde_json.specs.Data.{Data, number, unsigned, string}
use Rattle.serde_json.specs.Written.{members_outline}
use Rattle.trees.specs.declared.tree.Tree.{Tree}
use Rattle.trees.specs.Tree.{members_of}
use Rattle.objects.specs.declared.object.Object.{Object}
use Rattle.objects.specs.Rewrites.{at_version}
use Rattle.objects.specs.Text.{unless_zero, full_metadata}
use Rattle.objects.specs.Uid.{uid_text}
use Rattle.objects.specs.Merged.{WritesStep, WritesToVersion, after_version, held_with, rest_tokens, some_tokens}

-- these held members, the first last
abbrev pub held_so : Option Data → Option Data → Data → Data → Option Data → Option Data → List (List ℕ × Option Data)
held_so deletion generation name namespace version uid =
    (codes "deletionTimestamp", deletion) ∷ (codes "generation", generation) ∷ (codes "name", Some name) ∷ (codes "namespace", Some namespace) ∷ (codes "resourceVersion", version) ∷ (codes "uid", uid) ∷ []

pub steps_to_version : (deletion generation : Option Data) (name namespace : Data) (version uid : Option Data) (es r1 r2 r3 r4 r5 : List (List ℕ × Tree)) (t0 t1 t2 t3 t4 t5 : List Token)
    → WritesStep (codes "deletionTimestamp") deletion es r1 t0 t1 → WritesStep (codes "generation") generation r1 r2 t1 t2 → WritesStep (codes "name") (Some name) r2 r3 t2 t3
    → WritesStep (codes "namespace") (Some namespace) r3 r4 t3 t4 → WritesStep (codes "resourceVersion") version r4 r5 t4 (t5 ++ some_tokens (codes "resourceVersion") version)
    → t0 ++ rest_tokens (held_so deletion generation name namespace version uid) es ≡ t5 ++ (some_tokens (codes "resourceVersion") version ++ rest_tokens ((codes "uid", uid) ∷ []) r5)
steps_to_version deletion generation name namespace version uid es r1 r2 r3 r4 r5 t0 t1 t2 t3 t4 t5 s1 s2 s3 s4 s5 =
    let h5 : List (List ℕ × Option Data) = (codes "uid", uid) ∷ [] in
    let h4 : List (List ℕ × Option Data) = (codes "resourceVersion", version) ∷ h5 in
    let h3 : List (List ℕ × Option Data) = (codes "namespace", Some namespace) ∷ h4 in
    let h2 : List (List ℕ × Option Data) = (codes "name", Some name) ∷ h3 in
    let h1 : List (List ℕ × Option Data) = (codes "generation", generation) ∷ h2 in
    s1 h1 (refl, (refl, (refl, (refl, (refl, tt))))) ∙ s2 h2 (refl, (refl, (refl, (refl, tt)))) ∙ s3 h3 (refl, (refl, (refl, tt))) ∙ s4 h4 (refl, (refl, tt)) ∙ s5 h5 (refl, tt)
    ∙ append_assoc t5 (some_tokens (codes "resourceVersion") version) (rest_tokens h5 r5)

-- what is held is what the key and the meta hold
pub steps_of_held : (o : Object) (es : List (List ℕ × Tree)) (deletion generation : Option Data) (name namespace : Data) (version uid : Option Data) (old new : List Token)
    → deletion ≡ option_map string o.meta.deletion → generation ≡ unless_zero o.meta.generation (number (unsigned o.meta.generation)) → name ≡ string o.key.name → namespace ≡ string o.key.namespace
    → old ++ rest_tokens (held_so deletion generation name namespace version uid) es ≡ new → old ++ rest_tokens (held_with o version uid) es ≡ new
steps_of_held o es deletion generation name namespace version uid old new a b c d h = rw (← a, ← b, ← c, ← d) h

-- the metadata was written in full
pub metadata_written : (o : Object) (es versioned : List (List ℕ × Tree)) (version : Option Data) (old t1 t2 new : List Token) → WritesToVersion o es versioned old t1
    → version ≡ unless_zero o.meta.revision (string (decimal o.meta.revision)) → t2 ≡ t1 ++ some_tokens (codes "resourceVersion") version → new ≡ t2 ++ after_version o versioned
    → new ≡ old ++ members_tokens (members_outline (full_metadata o (members_of es)))
metadata_written o es versioned version old t1 t2 new written is second last =
    let here = unless_zero o.meta.revision (string (decimal o.meta.revision)) in
    last ∙ ap (λ t. t ++ after_version o versioned) second ∙ append_assoc t1 (some_tokens (codes "resourceVersion") version) (after_version o versioned)
    ∙ ap (λ v. t1 ++ (some_tokens (codes "resourceVersion") v ++ after_version o versioned)) is
    ∙ sym (written here (unless_zero o.meta.uid (string (uid_text o.meta.uid))))

not_zero : (n : ℕ) → n ≢ 0 → (n == 0) ≡ false
not_zero n some = ne_eqb n 0 some

-- the metadata at each version, whatever comes next
pub metadata_at : (o : Object) (es versioned : List (List ℕ × Tree)) (old new next : List Token) (n : ℕ) → WritesToVersion o es versioned old new → n ≢ 0
    → old ++ (members_tokens (members_outline (full_metadata (at_version o n) (members_of es))) ++ next) ≡ (new ++ key (codes "resourceVersion") ∷ []) ++ string_token (decimal n) ∷ (after_version o versioned ++ next)
metadata_at o es versioned old new next n written some =
    let version = Some (string (decimal n)) in
    let uid = unless_zero o.meta.uid (string (uid_text o.meta.uid)) in
    let whole : members_tokens (members_outline (full_metadata (at_version o n) (members_of es))) ≡ rest_tokens (held_with o version uid) es = rw (not_zero n some) refl in
    ap (λ ts. old ++ (ts ++ next)) whole ∙ sym (append_assoc old (rest_tokens (held_with o version uid) es) next)
    ∙ ap (λ ts. ts ++ next) (written version uid)
    ∙ append_assoc new (some_tokens (codes "resourceVersion") version ++ after_version o versioned) next
    ∙ sym (append_assoc new (key (codes "resourceVersion") ∷ []) (string_token (decimal n) ∷ (after_version o versioned ++ next)))
