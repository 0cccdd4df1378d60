use Rattle.std.proofs.Common.{string_bytes, codes}
use Rattle.std.specs.List.{flat_map}
use Rattle.std.proofs.lemmas.Result.{on_ok_weaker}
use Rattle.pictures.specs.Heading.{caller_line, shard_lines}
use Rattle.pictures.proofs.Pieces.{four}
use Rattle.pictures.proofs.heading.put_heading.Goals as goal

pub returns : goal.returns
returns g c =
    on_ok_weaker c.write-2.result (λ last.
    four (string_bytes c.args.out.now) _ _ _ _ (codes "sequenceDiagram\n") (flat_map (caller_line (g.R.Roles.role c.args.roles.now)) c.args.callers.now.keys)
    (shard_lines c.args.shards) (codes "    participant F as frontier\n") c.in_ok-write.ensures.bytes c.in_ok-put_callers.ensures c.in_ok-put_shards.ensures last) c.write-2.ensures.bytes
