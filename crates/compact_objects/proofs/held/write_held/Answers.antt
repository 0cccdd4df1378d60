use Rattle.std.proofs.Common.{◌++◌, ap, ◌∙◌}
use Rattle.std.proofs.lemmas.Result.{on_ok_weaker}
use Rattle.compact_objects.proofs.PlainTexts.{name_text, namespace_text}
use Rattle.compact_objects.proofs.held.write_held.Goals as goal

pub returns-in-Name : goal.returns-in-Name
returns-in-Name c =
    let name = c.in-Name.name in
    rw (c.in-Name.is) (on_ok_weaker c.write_plain.result (λ last. last ∙ ap (λ t. c.args.out.now.items ++ t) (name_text name.text.now name.plain)) c.write_plain.ensures)

pub returns-in-Namespace : goal.returns-in-Namespace
returns-in-Namespace c =
    let namespace = c.in-Namespace.namespace in
    rw (c.in-Namespace.is)
    (on_ok_weaker c.write_plain-in-Namespace.result (λ last. last ∙ ap (λ t. c.args.out.now.items ++ t) (namespace_text namespace.text.now namespace.plain)) c.write_plain-in-Namespace.ensures)
