use Rattle.std.proofs.Common.{◌≡◌, List, [], ℕ, ◌++◌, sym, ap, ◌∙◌, subst}
use Rattle.std.specs.Str.{IsUtf8}
use Rattle.json.specs.Token.{Token}
use Rattle.json.specs.Lex.{tokens}
use Rattle.json.specs.Print.{print}
use Rattle.json.specs.Tree.{json_tokens}
use Rattle.serde_json.specs.Written.{outline}
use Rattle.serde_json.proofs.Texts.{print-outline}
use Rattle.objects.specs.Text.{printed}
use Rattle.objects.proofs.PrintedTexts.{text_of}
use Rattle.objects.proofs.ReadsAgain.{reads_again}
use Rattle.objects.proofs.print.print_into.Goals as goal

-- the bytes are what was printed
bytes_printed : (bytes before : List ℕ) (ts : List Token) → bytes ≡ before ++ print ts → before ≡ [] → bytes ≡ print ts
bytes_printed bytes before ts is none = is ∙ ap (λ b. b ++ print ts) none

pub returns-clause-reads_back : goal.returns-clause-reads_back
returns-clause-reads_back c = λ short shallow.
    let rules = c.in_ok-write_object.ensures.rules in
    let written = c.in_ok-write_object.ensures.tokens ∙ ap (λ ts. ts ++ json_tokens (outline (printed c.args.object.now))) c.new-writer.ensures.tokens in
    let bytes = bytes_printed _ _ _ c.into_inner.ensures.items (c.write_object.ensures.before ∙ c.new-writer.ensures.before ∙ c.requires) in
    reads_again c.args.object.now rules.body rules.key rules.meta c.in_ok-write_object.ensures.canonical _ (subst IsUtf8 (sym bytes) c.into_inner.ensures.utf8)
    (ap tokens bytes ∙ c.into_inner.ensures.reads_back ∙ written) short shallow

pub returns-clause-text : goal.returns-clause-text
returns-clause-text c =
    let written = c.in_ok-write_object.ensures.tokens ∙ ap (λ ts. ts ++ json_tokens (outline (printed c.args.object.now))) c.new-writer.ensures.tokens in
    let bytes = bytes_printed _ _ _ c.into_inner.ensures.items (c.write_object.ensures.before ∙ c.new-writer.ensures.before ∙ c.requires) in
    text_of c.args.object.now c.in_ok-write_object.ensures.rules c.in_ok-write_object.ensures.canonical _ (bytes ∙ ap print written ∙ print-outline (printed c.args.object.now))
    (ap tokens bytes ∙ c.into_inner.ensures.reads_back ∙ written)

pub returns-clause-utf8 : goal.returns-clause-utf8
returns-clause-utf8 c =
    subst IsUtf8 (sym (bytes_printed _ _ _ c.into_inner.ensures.items (c.write_object.ensures.before ∙ c.new-writer.ensures.before ∙ c.requires))) c.into_inner.ensures.utf8
