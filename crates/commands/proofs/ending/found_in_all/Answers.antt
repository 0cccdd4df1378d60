use Rattle.std.proofs.Common.{ap, sym, subst, ◌∙◌}
use Rattle.std.specs.Option.{IfSome}
use Rattle.std.proofs.lemmas.Result.{IfErr-weaker, IfOk-weaker}
use Rattle.commands.specs.Finding.{IsOutcomesRefusal, IsOutcomesText}
use Rattle.commands.specs.Halts.{IsRefusedIn, name_of}
use Rattle.commands.specs.Noting.{AreOutcomesNotes}
use Rattle.commands.proofs.Found.{noted_of_input}
use Rattle.commands.proofs.Inputs.{made_of_input, refused_of_input}
use Rattle.commands.proofs.Halted.{counts-input, counts-none}
use Rattle.commands.proofs.Replayed.{error_has, unnamed}
use Rattle.commands.proofs.ending.found_in_all.Goals as goal

pub returns-in_err-input-clause-refused : goal.returns-in_err-input-clause-refused
returns-in_err-input-clause-refused g c =
    error_has c.from_residual.result _ _ c.from_residual.ensures.1
    (λ halt is. subst (λ o. IfSome o (IsRefusedIn (IsOutcomesRefusal c.args.options) (g.R.Source.remaining c.args.reader.now) (g.R.Source.remaining c.read_all.new.reader)))
    (sym (ap name_of is ∙ unnamed c.in_err-input.field-0.0)) tt)

pub returns-clause-refused : goal.returns-clause-refused
returns-clause-refused g c =
    IfErr-weaker c.found_in_lines.result _ _
    (λ halt made. refused_of_input (IsOutcomesRefusal c.args.options) (name_of halt) (g.R.Source.remaining c.args.reader.now) (g.R.Source.remaining c.read_all.new.reader)
    c.in_ok-input.input.items c.in_ok-input.ensures.all c.in_ok-input.ensures.left
    (subst (λ bytes. IfSome (name_of halt) (IsOutcomesRefusal c.args.options bytes)) c.as_slice.ensures.value made)) c.found_in_lines.ensures.refused

pub returns-in_err-input-clause-reads : goal.returns-in_err-input-clause-reads
returns-in_err-input-clause-reads g c = counts-input c.from_residual.result c.in_err-input.field-0.0 _ _ c.from_residual.ensures.1 c.in_err-input.ensures.reads

pub returns-clause-reads : goal.returns-clause-reads
returns-clause-reads g c = counts-none c.found_in_lines.result _ _ c.found_in_lines.ensures.read c.in_ok-input.ensures.reads

pub returns-clause-answered : goal.returns-clause-answered
returns-clause-answered g c =
    IfOk-weaker c.found_in_lines.result _ _
    (λ found made. made_of_input (IsOutcomesText c.args.options) (g.R.Source.remaining c.args.reader.now) (g.R.Source.remaining c.read_all.new.reader) c.in_ok-input.input.items
    found.text.items c.in_ok-input.ensures.all c.in_ok-input.ensures.left
    (subst (λ bytes. IsOutcomesText c.args.options bytes found.text.items) c.as_slice.ensures.value made)) c.found_in_lines.ensures.found

pub returns-clause-noted : goal.returns-clause-noted
returns-clause-noted g c =
    IfOk-weaker c.found_in_lines.result _ _
    (λ found made. noted_of_input c.args.options (g.R.Source.remaining c.args.reader.now) c.in_ok-input.input.items c.as_slice.result.now found.notes.items
    c.in_ok-input.ensures.all c.as_slice.ensures.value made) c.found_in_lines.ensures.noted
