use Rattle.std.proofs.Common.{◌++◌, ◌∷◌, [], ◌∙◌, ap, bytes_eq, cond, sym}
use Rattle.std.specs.List.{list_any}
use Rattle.controllers.proofs.by_turns.note_namespace.Goals as goal

pub returns : goal.returns
returns c =
    let old = c.args.found.now.items in
    let own = c.args.set.now.namespace in
    let all = old ++ own ∷ [] in
    c.in_ok-push.ensures.items ∙ ap (λ s. old ++ s ∷ []) (c.in_ok-copy_of.ensures ∙ c.as_str.ensures)
    ∙ sym (ap (λ b. cond b old all) (sym (c.is_noted.ensures ∙ ap (list_any (λ s. bytes_eq s own)) c.as_slice.ensures.value) ∙ c.if-is_noted.false))
