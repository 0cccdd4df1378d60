-- `one_more` makes a struct of no bytes, whose number the contract alone holds: here one more than before. It reads nothing
-- of what it is lent. Assumes `Logic`.
use Rattle.std.proofs.Common.{[], ◌∷◌, List, ◌+◌, refl}
use Rattle.std.proofs.raw_atomic.Walks.{proved}
use base.Fml.{ftrue, flft}
use mir.Syntax.{named}
use mir.Val.{Val, vstruct, vnil}
use types.Kit.{‵, ◌⊛◌, ◌$◌, ◌∵◌, !, qed, done, move, drop, split, join, suffices, group, feq_i, fjoin, fpack}
use types.Part.{agg}
use types.Run.{enter, returns, no_more}
use types.ByLocal.{alloc_all, pass_all, free_all, look_at, sets}
use denote.Builtin.{Ref}
use denote.Exit.{yes}
use denote.RattleType.{Valss, owns}
use denote.Ref.{shr_vals, shr_Tells}
use denote.Signature.{types_at}
use denote.Struct.Owning as Owning
use denote.Struct.Struct.{within}
use denote.Steps.{nothing}
use denote.Triple.Walked.{Stays, stay_dropped, Goes-dropped, says, walk_of, ends_at}
use Rattle.plain.specs.contracts.devices.failures.Failures as Failures
use Rattle.plain.specs.contracts.devices.failures.Failures.one_more as f
use Rattle.plain.proofs.devices.failures.Failures.one_more.Statement.{statement}
use Rattle.plain.proofs.devices.failures.Failures.one_more.Code as code

abbrev stayed : Stays f.ended.signature.params f.ended.kept
stayed = (stay_dropped _ yes, tt)

pub one_more_spec : {M : Type 1} → statement M
one_more_spec 𝓤 𝓛 𝓜 𝓡 wired =
    let c = f.clauses 𝓛 𝓜.mem 𝓡.returns in let W = walk_of 𝓛 f.ended stayed c in
    proved 𝓛 f.ended stayed c 𝓜 𝓡 (Goes-dropped 𝓛 1 (Ref 0 tt Failures.the_row tt) yes (λ κs x w. refl), tt)
    f.Key.name code.function (code.unfolded 𝓤 𝓛.H 𝓜 𝓡 wired)
    (λ κs. (shr_vals, tt)) (λ κs. (shr_Tells (named 0) κs.0 Failures.the_row, tt)) (λ κs qs bounds a n are.
    let y : W.Ghost = ((κs, qs, bounds, a, (shr_vals a.0, tt)), n) in
    let v : Val = vstruct vnil in
    qed 𝓛 (((‵ (flft κs.0 qs.0) ⊛ ‵ ftrue) ⊛ ‵ (owns (types_at f.signature.params κs) a y.0.4)) ∷ ‵ ftrue ∷ []) ∵
    split ! $ move ! (2 ∷ []) $ drop ! $ move ! (1 ∷ []) $ drop ! $
    enter ! _ _ _ _ _ $ alloc_all ! (λ l. pass_all ! refl ((tt, tt), tt) $
    sets ! (agg ! (no_more !)) refl (tt, tt) $
    returns ! (look_at ! 0 refl) $ free_all ! refl $
    suffices ! _ (ends_at 𝓛 f.ended stayed c y v (record { count = a.0.now.count + 1 }) (tt, tt) (tt, tt)) $ says ! refl $
    nothing ! $ nothing ! $ feq_i ! (List Val) (v ∷ []) (v ∷ []) refl $ fjoin ! $
    fpack ! (Valss []) (within (Owning.shape Failures.the_type) tt (v ∷ [])) tt $ fjoin ! $
    nothing ! $ nothing ! $ join ! $ move ! (2 ∷ []) $ group ! 3 $ done !))
