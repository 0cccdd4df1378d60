-- Steps of reading, one after another.
use Rattle.std.proofs.Common.{◌≡◌, Bool, true, false, Result, Ok, Err, refl, sym, subst}
use Rattle.std.specs.Prelude.{MatchBool, ⊤}
use Rattle.std.specs.Result.{IsErrAnd}
use Rattle.trees.specs.declared.fault.TreeError.{TreeError}
use Rattle.trees.specs.Steps.{◌>>=◌, FailsUnless, is_memory, Fails, Gives}

refused_by : {E A B : Type 0} (b : Bool) (e : E) (r : Result A E) (f : A → Result B E) → MatchBool b ⊤ (r ≡ Err e) → MatchBool b ⊤ ((r >>= f) ≡ Err e)
refused_by true e r f h = tt
refused_by false e r f h = rw h refl

-- a step that refuses ends the reading, whatever the type of refusals
pub refused_then : {E A B : Type 0} (stands_for_memory : E → Bool) (e : E) (r : Result A E) (f : A → Result B E) → FailsUnless stands_for_memory e r → FailsUnless stands_for_memory e (r >>= f)
refused_then stands_for_memory e r f h = refused_by (stands_for_memory e) e r f h

pub fails_then : {A B : Type 0} (e : TreeError) (r : Result A TreeError) (f : A → Result B TreeError) → Fails e r → Fails e (r >>= f)
fails_then e r f h = refused_then is_memory e r f h

-- a refusal that is passed on unchanged
pub gives_refusal : {A B : Type 0} (view : A → B) (result : Result A TreeError) (e : TreeError) (read : Result B TreeError) → IsErrAnd result (λ x. x ≡ e) → Fails e read → Gives view result read
gives_refusal view (Ok x) e read is h = absurd is
gives_refusal view (Err x) e read is h = subst (λ y. Fails y read) (sym is) h

pub gives_same : {A B : Type 0} (view : A → B) (result : Result A TreeError) (read again : Result B TreeError) → again ≡ read → Gives view result read → Gives view result again
gives_same view result read again same h = subst (Gives view result) (sym same) h
