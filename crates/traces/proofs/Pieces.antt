-- Words that were appended in pieces.
use Rattle.std.proofs.Common.{◌≡◌, ℕ, Bool, List, ◌++◌, Option, codes, decimal, ap, ◌∙◌, append_assoc}
use Rattle.requests.specs.declared.reply.Reply.{Reply}
use Rattle.interleavings.specs.declared.event.Event.{Event}
use Rattle.interleavings.specs.Callers.{named_by}
use Rattle.pictures.proofs.Pieces.{five, two}
use Rattle.traces.specs.Enabled.{is_enabled}
use Rattle.traces.specs.Lines.{caller_words, event_line, event_words, head, verdict_words}
use Rattle.traces.specs.Places.{place_words}
use Rattle.traces.specs.declared.run_state.RunState.{RunState}

pub head_put : (role : ℕ → List ℕ) (place : ℕ) (caller : Option ℕ) (old one new : List ℕ) → one ≡ old ++ (decimal place ++ codes ": ") → new ≡ one ++ caller_words role caller
    → new ≡ old ++ head role place caller
head_put role place caller old one new first second =
    two old one new (decimal place ++ codes ": ") (caller_words role caller) first second ∙ ap (λ t. old ++ t) (append_assoc (decimal place) (codes ": ") (caller_words role caller))

pub line_put : (role : ℕ → List ℕ) (place : ℕ) (e : Event) (before after : RunState) (delivered : Option Reply) (caller : Option ℕ) (enabled : Bool)
    (old one two_of three_of four_of new : List ℕ) → caller ≡ named_by e → enabled ≡ is_enabled e before
    → one ≡ old ++ head role place caller → two_of ≡ one ++ event_words e delivered → three_of ≡ two_of ++ verdict_words e enabled after.standing
    → four_of ≡ three_of ++ place_words caller enabled after → new ≡ four_of ++ codes "\n" → new ≡ old ++ event_line role place e before after delivered
line_put role place e before after delivered caller enabled old one two_of three_of four_of new who whether first second third fourth fifth =
    let line : Option ℕ → Bool → List ℕ =
    λ (c : Option ℕ) (b : Bool). old ++ (head role place c ++ (event_words e delivered ++ (verdict_words e b after.standing ++ (place_words c b after ++ codes "\n")))) in
    five old one two_of three_of four_of new (head role place caller) (event_words e delivered) (verdict_words e enabled after.standing) (place_words caller enabled after) (codes "\n")
    first second third fourth fifth
    ∙ ap (λ c. line c enabled) who ∙ ap (line (named_by e)) whether
