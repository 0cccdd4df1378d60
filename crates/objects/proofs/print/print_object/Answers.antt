use Rattle.std.proofs.Common.{◌≡◌, ℕ, ◌≤◌, List, length, Ok, sym, ap, ◌∙◌, subst}
use Rattle.serde_json.specs.Data.{depth}
use Rattle.serde_json.specs.Read.{max_depth}
use Rattle.objects.specs.Again.{draft_again_of}
use Rattle.objects.specs.Reading.{reading, most_bytes}
use Rattle.objects.specs.Text.{printed}
use Rattle.objects.proofs.print.print_object.Goals as goal

pub returns-clause-text : goal.returns-clause-text
returns-clause-text c = ap (λ v. v.items) c.in-Ok.ensures.ok ∙ c.in_ok-bytes.ensures.text.text

pub returns-clause-reads_back : goal.returns-clause-reads_back
returns-clause-reads_back c =
    subst (λ (t : List ℕ). length t ≤ most_bytes → depth (printed c.args.object.now) ≤ max_depth → reading t ≡ Ok (draft_again_of c.args.object.now))
    (sym (ap (λ v. v.items) c.in-Ok.ensures.ok)) c.in_ok-bytes.ensures.reads_back
