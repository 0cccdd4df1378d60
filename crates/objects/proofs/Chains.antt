-- Steps of reading, one after another.
use Rattle.std.proofs.Common.{Result}
use Rattle.trees.proofs.Chains.{refused_then}
use Rattle.objects.specs.declared.fault.ReadError.{ReadError}
use Rattle.objects.specs.Steps.{◌>>=◌, is_memory, Fails}

-- a step that refuses ends the reading
pub fails_then : {A B : Type 0} (e : ReadError) (r : Result A ReadError) (f : A → Result B ReadError) → Fails e r → Fails e (r >>= f)
fails_then e r f h = refused_then is_memory e r f h
