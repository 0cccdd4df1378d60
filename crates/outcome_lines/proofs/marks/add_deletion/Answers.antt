use Rattle.std.proofs.Common.{◌++◌, ◌∙◌, ◌∷◌, ◌≡◌, ℕ, [], List, Option, Some, ap, append_assoc, codes, sym}
use Rattle.std.proofs.lemmas.Result.{on_ok_weaker}
use Rattle.outcome_lines.specs.ObjectWords.{Known, deletion_marks, differs, if_told, known_of, lists_in, named, time_leaf}
use Rattle.outcome_lines.proofs.Stored.{lists_push}
use Rattle.outcome_lines.proofs.marks.add_deletion.Goals as goal

marked_at : (k : Known) (name : List ℕ) (deletion : Option (List ℕ)) (at : List ℕ) (old first all : List (List ℕ)) → deletion ≡ Some at → first ≡ old ++ codes "marked" ∷ []
    → all ≡ first ++ if_told (differs k (named name (codes "marked")) (named name (time_leaf at))) (time_leaf at) → all ≡ old ++ deletion_marks k name deletion
marked_at k name deletion at old first all is marked timed =
    let time = if_told (differs k (named name (codes "marked")) (named name (time_leaf at))) (time_leaf at) in
    timed ∙ ap (λ l. l ++ time) marked ∙ append_assoc old (codes "marked" ∷ []) time ∙ ap (λ d. old ++ deletion_marks k name d) (sym is)

pub returns : goal.returns
returns c =
    let old = lists_in c.args.marks.now.items in
    on_ok_weaker c.add_time.result
    (λ h. marked_at (known_of c.args.known) c.args.name.now c.args.deletion.now c.in-Some.at old (lists_in c.push.new.self.items) (lists_in c.add_time.new.marks.items) c.in-Some.is
    (ap lists_in c.in_ok-push.ensures.items ∙ lists_push c.args.marks.now.items c.in_ok-to_vec.field-0 ∙ ap (λ l. old ++ l ∷ []) (c.in_ok-to_vec.ensures.items_if_clones_equal (λ x y e. e) ∙ c.as_bytes.ensures.value)) h)
    c.add_time.ensures
