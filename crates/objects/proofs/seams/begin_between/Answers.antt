use Rattle.std.proofs.Common.{◌++◌, codes, sym, ap, ◌∙◌, append-nil}
use Rattle.objects.proofs.SpecTexts.{comma_empty, comma_if, comma_unless, compared, not_greater}
use Rattle.objects.proofs.seams.begin_between.Goals as goal
use Rattle.objects.proofs.seams.begin_between.Goals.{in-Some+in-Greater+in_ok-push-in-Greater, in-Some+in-Less, in_default}

pub returns : goal.returns
returns c = λ count above stops. elim c.match-split_first.branch [
  | in-Some+in-Greater+in_ok-push-in-Greater w ↦ ap (λ b. b.items) w.bytes-is ∙ w.in_ok-push-in-Greater.ensures.items
      ∙ ap (λ x. c.args.bytes.items ++ x) (sym (comma_if c.args.after.now count w.in-Some.entry.now _ w.in-Some.ensures.cases.0 stops (compared (codes "status") _ _ _ _ w.cmp.ensures w.as_str.ensures w.in-Greater.is)))
  | in-Some+in-Less w ↦ ap (λ b. b.items) w.bytes-is ∙ sym (append-nil c.args.bytes.items)
      ∙ ap (λ x. c.args.bytes.items ++ x) (sym (comma_unless c.args.after.now count w.in-Some.entry.now _ w.in-Some.ensures.cases.0 above (not_greater (codes "status") _ _ _ w.cmp.ensures w.as_str.ensures w.in-Less.is)))
  | in_default w ↦ ap (λ b. b.items) w.bytes-is ∙ sym (append-nil c.args.bytes.items) ∙ ap (λ x. c.args.bytes.items ++ x) (sym (comma_empty c.args.after.now count w.in_default.ensures.cases))
]
