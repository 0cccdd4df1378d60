use Rattle.std.proofs.Common.{rules, refl, ap, ◌∙◌, arith, length, get_or, None}
use Rattle.std.proofs.lemmas.List.{length-replicate}
use Rattle.interleavings.specs.World.{Size}
use Rattle.history.proofs.Opening.{none_of, opening_shown}
use Rattle.history.proofs.stepped.opened.Goals as goal

pub returns-clause-opened : goal.returns-clause-opened
returns-clause-opened c =
    let z : Size = record { capacity = c.args.capacity; shards = c.args.shards } in
    let free = c.in_ok-holders.ensures.items_if_clones_equal (λ y h. search rules) in
    let made = c.in_ok-held.ensures.made in
    record {
      some = c.requires.0;
      count = refl;
      shows = opening_shown z _ c.requires.1 refl refl refl refl refl c.new-4.ensures.items c.new-5.ensures.items c.new-2.ensures.items made.0 made.1
          (ap length free ∙ length-replicate c.args.shards None) (λ s. ap (λ l. get_or l s None) free ∙ none_of c.args.shards s) c.new.ensures.unnamed c.new.ensures.tracked c.new-3.ensures;
      compacted = record { spared = record { floor = omega arith; reads = λ d n p r parts found e. absurd cc }; greatest = λ n spared. spared.floor };
    }
