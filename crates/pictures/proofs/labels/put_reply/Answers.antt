use Rattle.std.proofs.Common.{◌++◌, string_bytes, sym, ap, ◌∙◌}
use Rattle.std.proofs.lemmas.Result.{on_ok_weaker}
use Rattle.pictures.specs.Labels.{reply_words}
use Rattle.pictures.proofs.labels.put_reply.Goals as goal

pub returns-in-Listed : goal.returns-in-Listed
returns-in-Listed c =
    on_ok_weaker c.put_listing.result (λ h. h ∙ ap (λ r. string_bytes c.args.out.now ++ reply_words r) (sym c.in-Listed.is)) c.put_listing.ensures

pub returns-in-Updated : goal.returns-in-Updated
returns-in-Updated c =
    on_ok_weaker c.put_object-in-Updated.result (λ h. h ∙ ap (λ r. string_bytes c.args.out.now ++ reply_words r) (sym c.in-Updated.is)) c.put_object-in-Updated.ensures

pub returns-in-Marked : goal.returns-in-Marked
returns-in-Marked c =
    on_ok_weaker c.put_object-in-Marked.result (λ h. h ∙ ap (λ r. string_bytes c.args.out.now ++ reply_words r) (sym c.in-Marked.is)) c.put_object-in-Marked.ensures

pub returns-in-Removed : goal.returns-in-Removed
returns-in-Removed c =
    on_ok_weaker c.put_object-in-Removed.result (λ h. h ∙ ap (λ r. string_bytes c.args.out.now ++ reply_words r) (sym c.in-Removed.is)) c.put_object-in-Removed.ensures
