-- The words of what callers send, one request after another.
use Rattle.std.proofs.Common.{◌+◌, ◌++◌, ◌<◌, ◌∙◌, ◌∷◌, ◌≡◌, ℕ, [], List, add-one, ap, get_or, length, map, sym, take}
use Rattle.std.specs.Global.{Vec}
use Rattle.std.proofs.Math.Seq.{take-suc}
use Rattle.explorer.proofs.Lists.{map_append}
use Rattle.participants.specs.declared.participant.Participant.{Participant}
use Rattle.race_lines.specs.declared.race.Sent.{Sent}
use Rattle.outcome_lines.specs.AskedWords.{sent_words}
use Rattle.outcome_lines.specs.ObjectWords.{lists_in}
use Rattle.outcome_lines.proofs.Stored.{lists_push}

pub words_on : (ps : List Participant) (sent : List Sent) (i : ℕ) (default : Sent) (all longer : List (Vec ℕ)) (words : Vec ℕ) → i < length sent
    → words.items ≡ sent_words ps (get_or sent i default) → longer ≡ all ++ words ∷ [] → lists_in all ≡ map (sent_words ps) (take i sent)
    → lists_in longer ≡ map (sent_words ps) (take (i + 1) sent)
words_on ps sent i default all longer words inside said more h =
    ap lists_in more ∙ lists_push all words ∙ ap (λ w. lists_in all ++ w ∷ []) said ∙ ap (λ l. l ++ sent_words ps (get_or sent i default) ∷ []) h
    ∙ sym (ap (map (sent_words ps)) taken ∙ map_append (sent_words ps) (take i sent) (get_or sent i default ∷ []))
  where
    taken : take (i + 1) sent ≡ take i sent ++ get_or sent i default ∷ []
    taken = rw add-one (take-suc sent i default inside)
