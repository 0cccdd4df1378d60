use Rattle.std.proofs.lemmas.Result.{err_from_is_err_and}
use Rattle.requests.specs.declared.request.Request.TheVariants as request
use Rattle.plain.specs.declared.lines.verb.Verb.TheVariants as verb
use Rattle.plain.proofs.Readings.{compact_at, delete_at, list_at, of_create, of_get, of_status, of_update, part_read, part_refused}
use Rattle.plain.proofs.lines.request_line.request_by.Goals as goal

pub returns-in_err-draft_in-in-Create : goal.returns-in_err-draft_in-in-Create
returns-in_err-draft_in-in-Create c =
    let p = err_from_is_err_and c.from_residual.result c.from_residual.ensures.1 in
    part_refused c.args.verb verb.Create c.args.members _ request.Create _ p.0 _ (of_create c.args.members) c.in-Create.is p.1 p.2 c.in_err-draft_in-in-Create.ensures

pub returns-in_ok-draft_in-in-Create : goal.returns-in_ok-draft_in-in-Create
returns-in_ok-draft_in-in-Create c = part_read c.args.verb verb.Create c.args.members _ request.Create _ (of_create c.args.members) c.in-Create.is c.in_ok-draft_in-in-Create.ensures

pub returns-in_err-read_key-in-Get : goal.returns-in_err-read_key-in-Get
returns-in_err-read_key-in-Get c =
    let p = err_from_is_err_and c.from_residual-in_err-read_key-in-Get.result c.from_residual-in_err-read_key-in-Get.ensures.1 in
    part_refused c.args.verb verb.Get c.args.members _ request.Get _ p.0 _ (of_get c.args.members) c.in-Get.is p.1 p.2 c.in_err-read_key-in-Get.ensures

pub returns-in_ok-read_key-in-Get : goal.returns-in_ok-read_key-in-Get
returns-in_ok-read_key-in-Get c = part_read c.args.verb verb.Get c.args.members _ request.Get _ (of_get c.args.members) c.in-Get.is c.in_ok-read_key-in-Get.ensures

pub returns-in-List : goal.returns-in-List
returns-in-List c = list_at c.args.verb c.args.members c.list_in.result c.in-List.is c.list_in.ensures

pub returns-in_err-draft_in-in-Update : goal.returns-in_err-draft_in-in-Update
returns-in_err-draft_in-in-Update c =
    let p = err_from_is_err_and c.from_residual-in_err-draft_in-in-Update.result c.from_residual-in_err-draft_in-in-Update.ensures.1 in
    part_refused c.args.verb verb.Update c.args.members _ request.Update _ p.0 _ (of_update c.args.members) c.in-Update.is p.1 p.2 c.in_err-draft_in-in-Update.ensures

pub returns-in_ok-draft_in-in-Update : goal.returns-in_ok-draft_in-in-Update
returns-in_ok-draft_in-in-Update c = part_read c.args.verb verb.Update c.args.members _ request.Update _ (of_update c.args.members) c.in-Update.is c.in_ok-draft_in-in-Update.ensures

pub returns-in_err-draft_in-in-Status : goal.returns-in_err-draft_in-in-Status
returns-in_err-draft_in-in-Status c =
    let p = err_from_is_err_and c.from_residual-in_err-draft_in-in-Status.result c.from_residual-in_err-draft_in-in-Status.ensures.1 in
    part_refused c.args.verb verb.Status c.args.members _ request.UpdateStatus _ p.0 _ (of_status c.args.members) c.in-Status.is p.1 p.2 c.in_err-draft_in-in-Status.ensures

pub returns-in_ok-draft_in-in-Status : goal.returns-in_ok-draft_in-in-Status
returns-in_ok-draft_in-in-Status c = part_read c.args.verb verb.Status c.args.members _ request.UpdateStatus _ (of_status c.args.members) c.in-Status.is c.in_ok-draft_in-in-Status.ensures

pub returns-in-Delete : goal.returns-in-Delete
returns-in-Delete c = delete_at c.args.verb c.args.members c.deletion_in.result c.in-Delete.is c.deletion_in.ensures

pub returns-in-Compact : goal.returns-in-Compact
returns-in-Compact c = compact_at c.args.verb c.args.members c.compaction_in.result c.in-Compact.is c.compaction_in.ensures
