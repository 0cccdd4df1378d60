use Rattle.std.proofs.Common.{[], ◌∙◌}
use Rattle.std.proofs.lemmas.Result.{IfOk-weaker}
use Rattle.plain.proofs.Written.{line_written}
use Rattle.race_log.specs.Report.{report_data}
use Rattle.race_log.proofs.report.line_of.Goals as goal

pub returns : goal.returns
returns c =
    IfOk-weaker c.end_line.result _ _ (λ line h.
    line_written line.items _ _ [] _ _ (report_data c.args.report.now) h c.write_report.ensures.before (c.new-writer.ensures.before ∙ c.new.ensures.items)
    c.in_ok-write_report.ensures.tokens c.new-writer.ensures.tokens) c.end_line.ensures
