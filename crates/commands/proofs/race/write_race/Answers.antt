use Rattle.std.proofs.Common.{◌∙◌}
use Rattle.scripts.proofs.RaceHistories.{ok_where_some}
use Rattle.commands.proofs.Raced.{all_behind, part_behind, part_of_more}
use Rattle.commands.proofs.race.write_race.Goals as goal

pub returns-in_err-write_calls-clause-part : goal.returns-in_err-write_calls-clause-part
returns-in_err-write_calls-clause-part g c = part_of_more _ _ _ _ c.write_calls.ensures.part

pub returns-clause-part : goal.returns-clause-part
returns-clause-part g c =
    part_behind _ _ _ _ _ _ c.in_ok-write_calls.ensures.all (c.as_slice.ensures.value ∙ c.in_ok-line.ensures) c.write_all.ensures.part

pub returns-clause-all : goal.returns-clause-all
returns-clause-all g c =
    ok_where_some c.write_all.result c.ok_or.result _ _ c.ok_or.ensures.ok_part c.write_all.ensures.put
    (λ put. all_behind _ _ _ _ _ _ c.in_ok-write_calls.ensures.all (c.as_slice.ensures.value ∙ c.in_ok-line.ensures) put)
