-- An object that is written up to its resource version.
use Rattle.std.proofs.Common.{◌≡◌, ℕ, List, [], ◌∷◌, ◌++◌, take, codes, sym, ap, ◌∙◌, append_assoc, take-append-drop}
use Rattle.std.specs.Ordering.{nat_cmp}
use Rattle.std.specs.declared.cmp.Ordering.TheVariants.{Equal}
use Rattle.std.specs.Cmp.Lexicographic.{slice_cmp}
use Rattle.json.specs.Token.{Token, begin_object, key}
use Rattle.json.specs.Tree.{members_tokens}
use Rattle.serde_json.specs.Data.{Members, object}
use Rattle.serde_json.specs.Written.{members_outline}
use Rattle.trees.specs.declared.tree.Tree.{Tree}
use Rattle.trees.specs.Tree.{data_of, members_of}
use Rattle.trees.proofs.PutOrder.{equal_texts}
use Rattle.objects.specs.declared.object.Object.{Object}
use Rattle.objects.specs.Seams.{WritesHead}
use Rattle.objects.specs.Merged.{WritesFront, WritesToVersion, entry_tokens}
use Rattle.objects.specs.Rewrites.{at_version}
use Rattle.objects.specs.Text.{full_metadata}
use Rattle.objects.proofs.HeldSteps.{metadata_at}
use Rattle.objects.proofs.Merging.{front_of}

grouped : (old t1 t2 t3 t4 first rest : List Token) (b k o : Token) → t1 ≡ old ++ b ∷ [] → t2 ≡ t1 ++ first → t3 ≡ t2 ++ k ∷ [] → t4 ≡ t3 ++ o ∷ []
    → old ++ b ∷ (first ++ k ∷ o ∷ rest) ≡ t4 ++ rest
grouped old t1 t2 t3 t4 first rest b k o p q r s =
    rw (s, r, q, p) (sym (
    append_assoc ((((old ++ b ∷ []) ++ first) ++ k ∷ [])) (o ∷ []) rest ∙ append_assoc ((old ++ b ∷ []) ++ first) (k ∷ []) (o ∷ rest)
    ∙ append_assoc (old ++ b ∷ []) first (k ∷ o ∷ rest) ∙ append_assoc old (b ∷ []) (first ++ k ∷ o ∷ rest)
    ))

pub head_written : (o : Object) (es rest after ems versioned : List (List ℕ × Tree)) (entry : List ℕ × Tree) (metadata : Members) (old t1 t2 t3 t4 new : List Token)
    → t1 ≡ old ++ begin_object ∷ [] → WritesFront (codes "metadata") es rest t1 t2 → rest ≡ entry ∷ after → slice_cmp nat_cmp (codes "metadata") entry.0 ≡ Equal
    → data_of entry.1 ≡ object metadata → t3 ≡ t2 ++ key (codes "metadata") ∷ [] → t4 ≡ t3 ++ begin_object ∷ [] → WritesToVersion o ems versioned t4 new → members_of ems ≡ metadata
    → o.body ≡ object (members_of es) → WritesHead o versioned after old new
head_written o es rest after ems versioned entry metadata old t1 t2 t3 t4 new begun front is equal holds keyed opened written same body =
    let first = take front.count es in
    let split : es ≡ first ++ entry ∷ after = sym (take-append-drop front.count es) ∙ ap (λ r. first ++ r) (sym front.left ∙ is) in
    record {
      first = first;
      entry = entry;
      metadata = metadata;
      above = front_of (codes "metadata") front.count es front.above;
      named = sym (equal_texts (codes "metadata") entry.0 equal);
      holds = holds;
      body = body ∙ ap (λ xs. object (members_of xs)) split;
      tokens = λ n next some.
          grouped old t1 t2 t3 t4 (entry_tokens first) (members_tokens (members_outline (full_metadata (at_version o n) metadata)) ++ next) begin_object (key (codes "metadata")) begin_object begun front.tokens keyed opened
          ∙ ap (λ m. t4 ++ (members_tokens (members_outline (full_metadata (at_version o n) m)) ++ next)) (sym same)
          ∙ metadata_at o ems versioned t4 new next n written some;
    }
