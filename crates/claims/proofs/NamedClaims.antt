-- Claims that were put under their names.
use Rattle.std.proofs.Common.{◌≡◌, Bool, true, false, cond, Option, Some, Bor, refl}
use Rattle.std.specs.Prelude.{◌&&◌, option_map}
use Rattle.objects.specs.declared.object.Object.{Object}

put_at : (b : Bool) (o : Bor Object) (before : Option (Bor Object)) → option_map (λ (x : Bor Object). x.now) (cond b (Some o) before) ≡ cond b (Some o.now) (option_map (λ (x : Bor Object). x.now) before)
put_at true o before = refl
put_at false o before = refl

pub put_near : (near b : Bool) (o : Bor Object) (before : Option (Bor Object)) → near ≡ true
    → option_map (λ (x : Bor Object). x.now) (cond b (Some o) before) ≡ cond (near && b) (Some o.now) (option_map (λ (x : Bor Object). x.now) before)
put_near true b o before is = put_at b o before
put_near false b o before is = absurd cc
