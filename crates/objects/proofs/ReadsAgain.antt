-- A text of an object that is printed is read as that object.
use Rattle.std.proofs.Common.{◌≡◌, ℕ, ◌≤◌, List, length, true, Ok}
use Rattle.std.specs.Str.{IsUtf8}
use Rattle.json.specs.Lex.{tokens}
use Rattle.json.specs.Tree.{json_tokens}
use Rattle.serde_json.specs.Data.{depth}
use Rattle.serde_json.specs.Read.{max_depth}
use Rattle.serde_json.specs.Written.{outline}
use Rattle.trees.specs.Canonical.{IsCanonical}
use Rattle.trees.specs.Reading.{most_bytes}
use Rattle.trees.proofs.ReadBack.{data_again}
use Rattle.objects.specs.declared.object.Object.{Object}
use Rattle.objects.specs.Key.{is_key}
use Rattle.objects.specs.Meta.{IsMeta}
use Rattle.objects.specs.Object.{IsBody}
use Rattle.objects.specs.Reading.{reading}
use Rattle.objects.specs.Text.{printed}
use Rattle.objects.specs.Again.{draft_again_of}
use Rattle.objects.proofs.PrintedObjects.{printed_canonical}
use Rattle.objects.proofs.DraftAgain.{draft_again}

-- the object that was printed is read
pub reads_again : (o : Object) → IsBody o.key.kind o.body → is_key o.key ≡ true → IsMeta o.meta → IsCanonical o.body
    → (t : List ℕ) → IsUtf8 t → tokens t ≡ json_tokens (outline (printed o)) → length t ≤ most_bytes → depth (printed o) ≤ max_depth → reading t ≡ Ok (draft_again_of o)
unfolding reading
reads_again o b right meta canonical t text same short shallow =
    rw (data_again (printed o) (printed_canonical o b canonical meta) t text same short shallow) (draft_again o b right meta canonical)
