-- Each draw comes after all writes of its shard, and a list at a number reads at that number.
use Rattle.std.proofs.Common.{◌≡◌, ◌≢◌, ℕ, ◌<◌, ◌≤◌, true, List, Some, None, refl, sym, ap, ◌∙◌, arith, true≢false}
use Rattle.std.proofs.lemmas.Option.{none-some, same_Some}
use Rattle.requests.specs.declared.request.Request.{Request}
use Rattle.plain_store.specs.Route.{route}
use Rattle.plain_store.specs.Store.{Objects}
use Rattle.interleavings.specs.declared.event.Event.{Event}
use Rattle.interleavings.specs.Facts.{draw_in, writing_in}
use Rattle.interleavings.specs.Log.{Log, Writing}
use Rattle.interleavings.specs.World.{Draw, Phase, Idle, Called, Holding, Drawn, Waiting, Reading, Gone, Size, World, changed, shard}
use Rattle.interleavings.specs.Step.{step}
use Rattle.interleavings.proofs.Basics.{Compared, same, other, compare, Least, atmost, above, least, changed-same, changed-other}
use Rattle.interleavings.proofs.Phases.{IsNumbered, Keeps, is_quiet, phases_kept}

pub record InTurn (z : Size) (log : Log) (ph : Phase) : Type 0 where
  pub latest : (d : Draw) → draw_in ph ≡ Some d → (i : ℕ) (t : Writing) → log i ≡ Some t → shard z t.key ≡ shard z d.writing.key → i < d.index
  pub numbered : (n p : ℕ) (r : Request) (parts : List ℕ) (found : Objects) → ph ≡ Reading n p r parts found → IsNumbered r n

abbrev pub AllInTurn : Size → World → Type 0
AllInTurn z w = (c : ℕ) → InTurn z w.log (w.phase c)

draw_writes : (ph : Phase) (d : Draw) → draw_in ph ≡ Some d → writing_in ph ≡ Some d.writing
draw_writes Idle d is = absurd (none-some d is)
draw_writes (Called p r) d is = absurd (none-some d is)
draw_writes (Holding t) d is = absurd (none-some d is)
draw_writes (Drawn x) d is = ap (λ (y : Draw). Some y.writing) (same_Some x d is)
draw_writes (Waiting s p r) d is = absurd (none-some d is)
draw_writes (Reading n p r parts found) d is = absurd (none-some d is)
draw_writes (Gone None) d is = absurd (none-some d is)
draw_writes (Gone (Some x)) d is = ap (λ (y : Draw). Some y.writing) (same_Some x d is)

draws_none : (ph : Phase) → is_quiet ph ≡ true → draw_in ph ≡ None
draws_none Idle is = refl
draws_none (Called p r) is = refl
draws_none (Holding t) is = refl
draws_none (Drawn x) is = absurd (true≢false (sym is))
draws_none (Waiting s p r) is = refl
draws_none (Reading n p r parts found) is = refl
draws_none (Gone None) is = refl
draws_none (Gone (Some x)) is = absurd (true≢false (sym is))

module _ (z : Size) (w : World) (none : (i : ℕ) → w.drawn ≤ i → w.log i ≡ None) (holds : (d : ℕ) (t : Writing) → writing_in (w.phase d) ≡ Some t → w.holder (shard z t.key) ≡ Some d) where
  reading : (log : Log) (n p : ℕ) (r : Request) (parts : List ℕ) (found : Objects) → IsNumbered r n → InTurn z log (Reading n p r parts found)
  reading log n p r parts found numbered = record {
    latest = λ d e. absurd (none-some d e);
    numbered = λ m q s others rest e kind namespace number is.
        let same_number : n ≡ m = cc in
        let same_request : r ≡ s = cc in
        numbered kind namespace number (ap route same_request ∙ is) ∙ same_number;
  }

  drawn_last : (t : Writing) → InTurn z w.log (Drawn (record { index = w.drawn; writing = t }))
  drawn_last t = record {
    latest = λ d e i u filled shards. let at : w.drawn ≡ d.index = ap (λ (y : Draw). y.index) (same_Some _ d e) in let before = by i u filled (least w.drawn i) in omega arith;
    numbered = λ n p r parts found e. absurd cc;
  }
    where
      by : (i : ℕ) (u : Writing) → w.log i ≡ Some u → Least w.drawn i → i < w.drawn
      by i u filled (atmost le b) = absurd (none-some u (sym (none i le) ∙ filled))
      by i u filled (above lt b) = lt

  -- the shard of a write that is published is held by its caller, and has no other draw
  beside : (c d : ℕ) (x : Draw) → draw_in (w.phase c) ≡ Some x → d ≢ c → InTurn z w.log (w.phase d) → InTurn z (changed w.log x.index (Some x.writing)) (w.phase d)
  beside c d x drawn apart here = record {
    latest = λ y e i u filled shards. by y e i u filled shards (compare i x.index);
    numbered = here.numbered;
  }
    where
      by : (y : Draw) → draw_in (w.phase d) ≡ Some y → (i : ℕ) (u : Writing) → changed w.log x.index (Some x.writing) i ≡ Some u → shard z u.key ≡ shard z y.writing.key → Compared i x.index → i < y.index
      by y e i u filled shards (same at b) =
          let written : x.writing ≡ u = same_Some x.writing u (sym (ap (changed w.log x.index (Some x.writing)) at ∙ changed-same w.log x.index (Some x.writing)) ∙ filled) in
          let mine : w.holder (shard z x.writing.key) ≡ Some c = holds c x.writing (draw_writes (w.phase c) x drawn) in
          let its : w.holder (shard z y.writing.key) ≡ Some d = holds d y.writing (draw_writes (w.phase d) y e) in
          absurd (apart (same_Some d c (sym its ∙ ap w.holder (sym shards) ∙ ap (λ (v : Writing). w.holder (shard z v.key)) (sym written) ∙ mine)))
      by y e i u filled shards (other ne b) = here.latest y e i u (sym (changed-other w.log x.index (Some x.writing) i ne) ∙ filled) shards

  keeps_turn : Keeps w (λ log floor ph. InTurn z log ph)
  keeps_turn = record {
    quiet = λ log ph is. record { latest = λ d e. absurd (none-some d (sym (draws_none ph is) ∙ e)); numbered = λ n p r parts found e. absurd (true≢false (sym is ∙ ap is_quiet e)) };
    starts = λ n p r parts low numbered. reading w.log n p r parts _ numbered;
    reads = λ n p r parts rest old new here. reading w.log n p r rest new (here.numbered n p r parts old refl);
    draws = drawn_last;
    leaves = λ d here. record { latest = here.latest; numbered = λ n p r parts found e. absurd cc };
    rises = λ to ph le here. here;
    fills = beside;
  }

  -- each event keeps it
  pub step_turn : w.floor ≤ w.frontier → AllInTurn z w → (e : Event) → AllInTurn z (step z w e)
  step_turn standing all e = phases_kept z w (λ log floor ph. InTurn z log ph) keeps_turn standing all e
