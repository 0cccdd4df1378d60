-- The first line for which a text is no script.
use Rattle.std.specs.Prelude.{ℕ, Bool, List, [], ◌∷◌, Option, Some, is_some, if◌then◌else◌}
use Rattle.plain.specs.Lines.{lines}
use Rattle.plan_lines.specs.RefusedLines.{first_refused}
use Rattle.scripts.specs.Events.{event_of}
use Rattle.scripts.specs.Scripts.{header_of}
use Rattle.scripts.specs.Turns.{turn_of}
use Rattle.scripts.specs.ClusterScripts.{cluster_of}

-- the number of the first line that cannot be read, from 1, of which the first is read as a header; without any line,
-- that one is missing
abbrev pub refused_line : (header event : List ℕ → Bool) → List (List ℕ) → Option ℕ
refused_line header event [] = Some 1
refused_line header event (first ∷ rest) = if header first then first_refused event 2 rest else Some 1

abbrev pub refused_line_of : List ℕ → Option ℕ
refused_line_of text = refused_line (λ line. is_some (header_of line)) (λ line. is_some (event_of line)) (lines text)

-- the same for a script of a cluster
abbrev pub refused_cluster_line_of : List ℕ → Option ℕ
refused_cluster_line_of text = refused_line (λ line. is_some (cluster_of line)) (λ line. is_some (turn_of line)) (lines text)
