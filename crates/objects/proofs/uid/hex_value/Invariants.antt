use Rattle.std.proofs.Common.{◌≡◌, ◌^◌, ◌<◌, take}
use Rattle.objects.specs.Uid.{hex_value}
use Rattle.objects.proofs.uid.hex_value.Given as goal

abbrev pub invariant-loop-digit : goal.invariant-loop-digit
invariant-loop-digit l = record {
  value : l.value ≡ hex_value (take l.digit-index l.digits);
  small : l.value < 16 ^ l.digit-index;
}
