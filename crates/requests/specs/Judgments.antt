-- The verdict that a judgment is.
use Rattle.std.specs.Prelude.{ℕ}
use Rattle.objects.specs.declared.object.Object.{Object}
use Rattle.requests.specs.declared.change_kind.ChangeKind.{ChangeKind}
use Rattle.requests.specs.declared.change_kind.ChangeKind.TheVariants.{Creation, Update, Mark, Removal}
use Rattle.requests.specs.declared.verdict.Judgment.{Judgment}
use Rattle.requests.specs.declared.verdict.Judgment.TheVariants as judged
use Rattle.requests.specs.declared.verdict.Verdict.{Verdict}
use Rattle.requests.specs.declared.verdict.Verdict.TheVariants.{Refuse, Same, Write}
use Rattle.requests.specs.Change.{Change, creates, updates, marks, removes, stamp}
use Rattle.requests.specs.ChangeKinds.{change_by}

-- of a judgment whose object has not been given its number
abbrev pub verdict_of : Judgment Object → Verdict
verdict_of (judged.Refuse reason) = Refuse reason
verdict_of (judged.Same o) = Same o
verdict_of (judged.Write kind o) = Write (change_by kind o)

abbrev pub kind_of : Change → ChangeKind
kind_of (creates o) = Creation
kind_of (updates o) = Update
kind_of (marks o) = Mark
kind_of (removes o) = Removal

-- the judgment that a verdict is, its object as the number leaves it
abbrev pub judged_at : ℕ → Verdict → Judgment Object
judged_at n (Refuse reason) = judged.Refuse reason
judged_at n (Same o) = judged.Same o
judged_at n (Write c) = judged.Write (kind_of c) (stamp c n)
