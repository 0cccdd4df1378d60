-- A text that an object was printed as reads back as the object, whatever its length and depth.
use Rattle.std.proofs.Common.{◌≡◌, ℕ, ◌≤◌, List, length, refl, sym, subst}
use Rattle.json.specs.Lex.{tokens}
use Rattle.json.specs.Tree.{json_tokens}
use Rattle.serde_json.specs.Data.{depth}
use Rattle.serde_json.specs.Written.{outline, compact_text}
use Rattle.objects.specs.declared.object.Object.{Object}
use Rattle.objects.specs.Object.{KeepsRules}
use Rattle.trees.specs.Canonical.{IsCanonical}
use Rattle.objects.specs.PrintedText.{IsTextOf, object_of_text}
use Rattle.objects.specs.Text.{text, printed}
use Rattle.trees.proofs.CanonicalText.{read_back_within}
use Rattle.trees.proofs.IntegralTokens.{no_float}
use Rattle.objects.proofs.PrintedObjects.{printed_canonical}
use Rattle.objects.proofs.DraftAgain.{draft_again}
use Rattle.trees.proofs.TextDepth.{text_depth}

pub text_of : (o : Object) → KeepsRules o → IsCanonical o.body → (t : List ℕ) → t ≡ text o → tokens t ≡ json_tokens (outline (printed o)) → IsTextOf o t
text_of o rules canonical t is same =
    let whole = printed_canonical o rules.body canonical rules.meta in
    let deep : depth (printed o) ≤ length (compact_text (printed o)) = text_depth (printed o) in
    record {
      text = is;
      value = read_back_within (length t) (printed o) t whole same (subst (λ u. depth (printed o) ≤ length u) (sym is) deep);
      integral = no_float (printed o) t same;
      draft = draft_again o rules.body rules.key rules.meta canonical;
    }

-- it reads as that object
pub reads_as : (o : Object) (t : List ℕ) → IsTextOf o t → object_of_text t ≡ o
unfolding object_of_text
reads_as o t h = rw (h.value, h.draft) refl
