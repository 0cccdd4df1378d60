use Rattle.std.proofs.Common.{◌≡◌, ◌++◌, ◌∷◌, ℕ, List, Option, Some, None, codes, subst}
use Rattle.std.specs.Prelude.{OnSome}
use Rattle.plain.specs.Streams.{Puts}
use Rattle.plain.proofs.Flows.{Puts-then}
use Rattle.commands.proofs.status.put_pod.Goals as goal

-- what is put after what was put before
put_after : {A : Type 0} (put : Option A) (a b c : Option (List ℕ)) (x y z : List ℕ) → Puts a x b → OnSome put (Puts b y c) → y ≡ z
    → OnSome put (Puts a (x ++ z) c)
put_after None a b c x y z first second same = tt
put_after (Some u) a b c x y z first second same = Puts-then a b c x z first (subst (λ t. Puts b t c) same second)

pub returns-clause-put : goal.returns-clause-put
returns-clause-put g c =
    let same : c.as_bytes.result.now ≡ c.args.pod.now = cc (c.as_bytes.ensures.value, c.as_str.ensures) in
    put_after c.write_all-2.result (g.F.Sink.written c.args.faults.now) (g.F.Sink.written c.write_all.new.writer) (g.F.Sink.written c.write_all-2.new.writer)
    (codes "Foreign" ++ 10 ∷ codes "Pod ") c.as_bytes.result.now c.args.pod.now c.in_ok-write_all.ensures.put c.write_all-2.ensures.put same
