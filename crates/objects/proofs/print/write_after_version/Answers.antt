use Rattle.std.proofs.Common.{[], ◌∷◌, ◌++◌, codes, sym, ap, ◌∙◌, Option}
use Rattle.serde_json.specs.Data.{Data, string}
use Rattle.objects.specs.Merged.{rest_tokens}
use Rattle.objects.specs.Meta.{MetaParts}
use Rattle.objects.specs.Text.{unless_zero}
use Rattle.objects.specs.Uid.{uid_text}
use Rattle.objects.proofs.ObjectTokens.{on_ok}
use Rattle.objects.proofs.print.write_after_version.Goals as goal

pub returns-clause-tokens : goal.returns-clause-tokens
returns-clause-tokens c =
    let meta_is = c.meta.view_is ∙ ap (λ o. o.meta) c.object.view_is in
    let uid_is = c.held_uid.ensures ∙ ap (λ (m : MetaParts). unless_zero m.uid (string (uid_text m.uid))) meta_is in
    on_ok c.write_entries.result (λ last.
    last ∙ sym (c.in_ok-known.ensures.step [] tt) ∙ ap (λ (d : Option Data). c.args.out.now.tokens ++ rest_tokens ((codes "uid", d) ∷ []) c.args.entries.now) uid_is) c.write_entries.ensures.tokens
