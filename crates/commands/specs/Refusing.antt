-- What a run of the program writes about an input that is refused.
use Rattle.std.specs.Prelude.{◌≡◌, ℕ, Bool, List, Option, codes}
use Rattle.clap.specs.Words.{Text}
use Rattle.commands.specs.declared.args.PlanWords.{PlanWords}
use Rattle.commands.specs.declared.args.OutcomesWords.{OutcomesWords}
use Rattle.commands.specs.CommandLine.{IsPlanAsked, AreOptionsBy}
use Rattle.commands.specs.Forms.{IsFlagBy}
use Rattle.commands.specs.Finding.{IsOutcomesRefusedBy}
use Rattle.commands.specs.Clustering.{IsClusterRefusedBy}
use Rattle.commands.specs.Grammar.{Cluster, Outcomes, Plan, Replay, asked, flag_text, outcomes_text}
use Rattle.commands.specs.Planning.{IsPlanRefusedBy}
use Rattle.commands.specs.Replaying.{IsRefusedBy}

-- A refusal by some name was written, and by that name the script of a replay or a cluster is refused, or the requested
-- plan or outcomes. What is written names the line if that is requested.
abbrev pub Refuses : List Text → Option (List ℕ) → Option (List ℕ) → (reported : List ℕ → Type 0) → Type 0
Refuses words had left reported = (name : List ℕ) × reported name × (asked words ≡ Replay → (shows_line : Bool) × IsFlagBy (flag_text (codes "replay") (codes "where") words) shows_line × IsRefusedBy shows_line had left name)
    × (asked words ≡ Cluster → (shows_line : Bool) × IsFlagBy (flag_text (codes "cluster") (codes "where") words) shows_line × IsClusterRefusedBy shows_line had left name)
    × (asked words ≡ Plan → (plan : PlanWords) × IsPlanAsked words plan × IsPlanRefusedBy plan had left name)
    × (asked words ≡ Outcomes → (options : OutcomesWords) × AreOptionsBy (λ option. outcomes_text option words) options × IsOutcomesRefusedBy options had left name)
