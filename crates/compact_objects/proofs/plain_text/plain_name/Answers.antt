use Rattle.objects.specs.Key.{key_parts}
use Rattle.compact_objects.proofs.PlainTexts.{key_name_plain, same_plain}
use Rattle.compact_objects.proofs.plain_text.plain_name.Goals as goal

pub invariant_of-result : goal.invariant_of-result
invariant_of-result c = let k = c.key.inside in record { plain = same_plain _ _ (key_name_plain (key_parts k.kind k.namespace k.name) c.key.invariant) c.as_str.ensures }
