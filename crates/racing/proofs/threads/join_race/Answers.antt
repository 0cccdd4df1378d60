use Rattle.std.proofs.Common.{◌≡◌, ◌+◌, ◌++◌, map, sym, ap, ◌∙◌, subst, refl}
use Rattle.std.specs.List.{All}
use Rattle.std.proofs.lemmas.List.Elements.{All-nil}
use Rattle.race_log.specs.declared.part.Part.{Part}
use Rattle.racing.specs.Children.{promised_number}
use Rattle.racing.specs.Parts.{CountFrom, IsPartOf, caller_of}
use Rattle.racing.proofs.Joined.{creator_is, joined}
use Rattle.racing.proofs.Rows.{all_more, long_as}
use Rattle.racing.proofs.threads.join_race.Goals as goal

pub returns : goal.returns
returns g c =
    let shards = g.S.SharedStore.shards in
    let capacity = g.S.SharedStore.capacity in
    let spec = c.args.course.now.spec in
    let racers = c.args.children.racers.items in
    let parts = c.join_all.new.parts.items in
    let creation : Part = record { caller = spec.controllers + 1; exchanges = c.args.creation } in
    let none = c.new-parts.ensures.items in
    let items = c.in_ok-push.ensures.items in
    let callers : map caller_of parts ≡ map promised_number racers = c.in_ok-join_all.ensures.numbers ∙ ap (λ l. map caller_of l ++ map promised_number racers) none in
    let threads : All (IsPartOf shards capacity spec) parts = c.in_ok-join_all.ensures.each (subst (All (IsPartOf shards capacity spec)) (sym none) (All-nil (IsPartOf shards capacity spec))) in
    joined shards capacity spec parts c.join_all-2.new.parts.items creation (map promised_number c.args.children.operators.items)
    (c.in_ok-join_all-2.ensures.each
    (subst (All (IsPartOf shards capacity spec)) (sym items) (all_more (IsPartOf shards capacity spec) parts creation threads (creator_is shards capacity spec creation refl c.requires.creation))))
    (subst (CountFrom 0) (sym callers) c.requires.numbers)
    (long_as caller_of promised_number parts racers callers ∙ c.requires.many)
    refl
    c.requires.operator
    (c.in_ok-join_all-2.ensures.numbers ∙ ap (λ l. map caller_of l ++ map promised_number c.args.children.operators.items) items)
