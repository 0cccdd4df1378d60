use Rattle.std.proofs.Common.{None, Some, sym, ap, ◌∙◌, subst}
use Rattle.serde_json.specs.Data.{put}
use Rattle.trees.specs.Tree.{data_of, members_of, AreAscending}
use Rattle.trees.proofs.SetMembers.{ascending_set}
use Rattle.trees.proofs.tree.Members.with.Goals.{in-Some+in_ok-copy_of-in-Some+in_ok-put_entry-in-Some, in-None}
use Rattle.trees.proofs.tree.Members.with.Goals as goal

pub of-requires : goal.of-requires
of-requires c = elim c.match-value-4.branch [
  | in-Some+in_ok-copy_of-in-Some+in_ok-put_entry-in-Some w ↦
      subst AreAscending (sym (ap (λ v. members_of v.items) w.entries-is ∙ w.in_ok-put_entry-in-Some.ensures.ok ∙ ap (λ k. put k (data_of w.in-Some.value) (members_of c.in_ok-entries.entries.items)) w.in_ok-copy_of-in-Some.ensures))
      (ascending_set c.args.key.now (Some (data_of w.in-Some.value)) (members_of c.in_ok-entries.entries.items) c.in_ok-entries.ensures.ascending)
  | in-None w ↦
      subst AreAscending (sym (ap (λ v. members_of v.items) w.entries-is ∙ w.remove_entry.ensures))
      (ascending_set c.args.key.now None (members_of c.in_ok-entries.entries.items) c.in_ok-entries.ensures.ascending)
]
