-- `none` makes a struct of no bytes, whose number the contract alone holds: here 0. Assumes `Logic`.
use Rattle.std.proofs.Common.{[], ◌∷◌, List, refl}
use Rattle.std.proofs.raw_atomic.Walks.{proved}
use base.Fml.{ftrue}
use mir.Val.{Val, vstruct, vnil}
use types.Kit.{‵, raw, ◌$◌, ◌∵◌, !, qed, done, drop, suffices, group, feq_i, fjoin, fpack}
use types.Part.{agg}
use types.Run.{enter, returns, no_more}
use types.ByLocal.{alloc_all, pass_all, free_all, look_at, sets}
use denote.RattleType.{Valss}
use denote.Struct.Owning as Owning
use denote.Struct.Struct.{within}
use denote.Steps.{nothing}
use denote.Triple.Entry.{on_entry}
use denote.Triple.Walked.{Stays, says, walk_of, ends_at}
use Rattle.plain.specs.contracts.devices.failures.Failures as Failures
use Rattle.plain.specs.contracts.devices.failures.Failures.none as f
use Rattle.plain.proofs.devices.failures.Failures.none.Statement.{statement}
use Rattle.plain.proofs.devices.failures.Failures.none.Code as code

abbrev stayed : Stays f.ended.signature.params f.ended.kept
stayed = tt

pub none_spec : {M : Type 1} → statement M
none_spec 𝓤 𝓛 𝓜 𝓡 wired =
    let c = f.clauses 𝓛 𝓜.mem 𝓡.returns in let W = walk_of 𝓛 f.ended stayed c in
    proved 𝓛 f.ended stayed c 𝓜 𝓡 tt
    f.Key.name code.function (code.unfolded 𝓤 𝓛.H 𝓜 𝓡 wired)
    (λ κs. tt) (λ κs. tt) (λ κs qs bounds a n are.
    let y : W.Ghost = ((κs, qs, bounds, a, tt), n) in
    let v : Val = vstruct vnil in
    qed 𝓛 (raw (on_entry 𝓛 f.signature κs qs a tt) ∷ ‵ ftrue ∷ []) ∵ drop ! $ drop ! $
    enter ! _ _ _ _ _ $ alloc_all ! (λ l. pass_all ! refl tt $
    sets ! (agg ! (no_more !)) refl (tt, tt) $
    returns ! (look_at ! 0 refl) $ free_all ! refl $
    suffices ! _ (ends_at 𝓛 f.ended stayed c y v (record { count = 0 }) tt tt) $ says ! refl $
    nothing ! $ nothing ! $ feq_i ! (List Val) (v ∷ []) (v ∷ []) refl $ fjoin ! $
    fpack ! (Valss []) (within (Owning.shape Failures.the_type) tt (v ∷ [])) tt $ fjoin ! $
    nothing ! $ nothing ! $ group ! 3 $ done !))
