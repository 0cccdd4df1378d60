use Rattle.std.proofs.lemmas.Result.{IfErr-weaker, IfOk-weaker}
use Rattle.commands.specs.Halts.{name_of}
use Rattle.commands.proofs.Found.{found_text, refused_found}
use Rattle.commands.proofs.finding.ends_of_race.Goals as goal

pub returns-clause-found : goal.returns-clause-found
returns-clause-found c =
    let f = c.in_ok-found.ensures in
    IfOk-weaker c.text_of_ends-text.result _ _
    (λ text made. found_text c.args.options c.args.asked.now _ _ text.items (record { each = f.each; all = f.all; once = f.once; first = f.first; in_order = f.in_order }) c.as_slice.ensures.value made)
    c.text_of_ends-text.ensures.chosen

pub returns-clause-refused : goal.returns-clause-refused
returns-clause-refused c =
    let f = c.in_ok-found.ensures in
    IfErr-weaker c.text_of_ends-text.result _ _
    (λ halt made. refused_found c.args.options (name_of halt) c.args.asked.now _ _ (record { each = f.each; all = f.all; once = f.once; first = f.first; in_order = f.in_order }) c.as_slice.ensures.value made)
    c.text_of_ends-text.ensures.refused
