use Rattle.std.proofs.Common.{◌++◌, ◌∷◌, string_bytes}
use Rattle.std.proofs.lemmas.Result.{on_ok_weaker}
use Rattle.objects.specs.ShardOf.{key_text}
use Rattle.pictures.specs.Labels.{version_words}
use Rattle.pictures.proofs.Pieces.{two}
use Rattle.pictures.proofs.labels.put_verb_at.Goals as goal

pub returns : goal.returns
returns c =
    on_ok_weaker c.put_version.result (λ last.
    two (string_bytes c.args.out.now) _ _ (c.args.verb.now ++ 32 ∷ key_text c.args.key.now) (version_words c.args.version.now) c.in_ok-put_verb.ensures last) c.put_version.ensures
