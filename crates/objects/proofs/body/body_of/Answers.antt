use Rattle.std.proofs.Common.{◌≡◌, ℕ, List, Some, None, Ok, codes, sym, ap, ◌∙◌, subst, arith}
use Rattle.serde_json.specs.Data.{Data, Members, object, put}
use Rattle.serde_json.specs.Find.{get_member}
use Rattle.trees.specs.declared.tree.Tree.{Tree}
use Rattle.trees.specs.Tree.{data_of, members_of, AreAscending}
use Rattle.objects.specs.Object.{without_held}
use Rattle.trees.specs.Positions.{IsAt, IsGap}
use Rattle.trees.proofs.EntryPositions.{at_inside, at_found, gap_none, placed_again, ascending_put}
use Rattle.objects.proofs.body.body_of.Goals as goal

not_both : (k : List ℕ) (ms all : Members) (d : Data) → get_member k ms ≡ None → ms ≡ all → get_member k all ≡ Some d → ⊥
not_both k ms all d none same some = let both : None ≡ Some d = sym none ∙ ap (get_member k) same ∙ some in cc

value_is : (k : List ℕ) (ms all metadata : Members) (t : Tree) → get_member k ms ≡ Some (data_of t) → ms ≡ all → get_member k all ≡ Some (object metadata) → data_of t ≡ object metadata
value_is k ms all metadata t found same said = let both : Some (data_of t) ≡ Some (object metadata) = sym found ∙ ap (get_member k) same ∙ said in cc

whole : (k : List ℕ) (d e : Data) (ms all written : Members) → written ≡ put k d ms → d ≡ e → ms ≡ all → object (put k e all) ≡ object written
whole k d e ms all written is same all_is = rw (is, same, all_is)

pub returns-in_default : goal.returns-in_default
returns-in_default c = λ metadata said.
    let gap = subst (λ es. IsGap (codes "metadata") c.in_default.field-0 es) c.deref.ensures.value c.in_default.ensures.gap in
    absurd (not_both (codes "metadata") _ _ _ (gap_none (codes "metadata") _ _ gap c.in_ok-entries.ensures.ascending) c.in_ok-entries.ensures.all said)

pub remove-name-requires : goal.remove-name-requires
remove-name-requires c = omega (arith, at_inside (codes "metadata") c.in-Ok.at c.deref.result.now c.in-Ok.ensures.found, c.deref.ensures.len)

pub of-requires : goal.of-requires
of-requires c =
    let at = subst (λ es. IsAt (codes "metadata") c.in-Ok.at es) c.deref.ensures.value c.in-Ok.ensures.found in
    let put_there = placed_again (codes "metadata") c.in-Ok.at c.in_ok-entries.entries.items c.remove-name.new.self.items c.insert.new.self.items c.remove-name.result c.in_ok-metadata.metadata at c.remove-name.ensures.value c.remove-name.ensures.items c.in_ok-insert.ensures.items in
    subst AreAscending (sym put_there) (ascending_put (codes "metadata") (data_of c.in_ok-metadata.metadata) (members_of c.in_ok-entries.entries.items) c.in_ok-entries.ensures.ascending)

pub returns : goal.returns
returns c = λ metadata said.
    let at = subst (λ es. IsAt (codes "metadata") c.in-Ok.at es) c.deref.ensures.value c.in-Ok.ensures.found in
    let put_there = placed_again (codes "metadata") c.in-Ok.at c.in_ok-entries.entries.items c.remove-name.new.self.items c.insert.new.self.items c.remove-name.result c.in_ok-metadata.metadata at c.remove-name.ensures.value c.remove-name.ensures.items c.in_ok-insert.ensures.items in
    let found = at_found (codes "metadata") c.in-Ok.at c.in_ok-entries.entries.items c.remove-name.result at c.remove-name.ensures.value in
    let is = value_is (codes "metadata") _ c.args.members metadata c.remove-name.result.1 found c.in_ok-entries.ensures.all said in
    ap Ok (whole (codes "metadata") (data_of c.in_ok-metadata.metadata) (object (without_held metadata)) (members_of c.in_ok-entries.entries.items) c.args.members c.in_ok-of.field-0
    (c.in_ok-of.ensures ∙ put_there) (c.in_ok-metadata.ensures metadata is) c.in_ok-entries.ensures.all)
