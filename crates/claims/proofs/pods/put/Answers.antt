use Rattle.std.proofs.Common.{◌++◌, [], ◌∷◌, cond, decimal, sym, ap, ◌∙◌, append-nil}
use Rattle.std.specs.Prelude.{bytes_eq}
use Rattle.std.proofs.lemmas.List.Elements.{filter_map-append}
use Rattle.claims.specs.Pods.{under, with_digits}
use Rattle.claims.proofs.PodClaims.{split_as, picked, unsplit}
use Rattle.objects.proofs.PodNamesDiffer.{is_split}
use Rattle.claims.proofs.pods.put.Goals as goal

pub returns-in_ok-add : goal.returns-in_ok-add
returns-in_ok-add c = λ stem ordinal small.
    let front = c.in-Some.stem.now in
    let digits = decimal ordinal in
    let before = with_digits digits (under c.args.stems.now stem) in
    let cut = is_split c.args.name.now front c.in-Some.digits.now c.in-Some.ensures.cases in
    ap (with_digits digits) (c.in_ok-add.ensures stem) ∙ filter_map-append _ (under c.args.stems.now stem) _
    ∙ ap (λ l. before ++ l) (picked digits (c.in-Some.digits, c.args.claim) (bytes_eq front stem) ∙ ap (λ b. cond b (c.args.claim.now ∷ []) []) (sym (split_as c.args.name.now front c.in-Some.digits.now stem ordinal small cut)))

pub returns-in_default : goal.returns-in_default
returns-in_default c = λ stem ordinal small.
    let before = with_digits (decimal ordinal) (under c.args.stems.now stem) in
    sym (append-nil before) ∙ ap (λ b. before ++ cond b (c.args.claim.now ∷ []) []) (sym (unsplit c.args.name.now stem ordinal c.in_default.ensures.cases))
