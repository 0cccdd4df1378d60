-- Members that are put over others: which entry comes first, if those that are put ascend.
use Rattle.std.proofs.Common.{◌≡◌, ℕ, List, [], ◌∷◌, ◌++◌, refl, ap, subst, sym, ◌∙◌}
use Rattle.std.specs.Ordering.{nat_cmp, match_ordering, ordering_reverse}
use Rattle.std.specs.declared.cmp.Ordering.TheVariants.{Less, Equal, Greater}
use Rattle.std.specs.Cmp.Lexicographic.{slice_cmp, nat_list_cmp_total}
use Rattle.serde_json.specs.Data.{Data, Members, no_members, member, put}
use Rattle.objects.specs.DeclaredTree.{Tree}
use Rattle.objects.specs.Tree.{AreAscending, ComesBefore, data_of, members_of}
use Rattle.trees.proofs.EntryPositions.{ascending_put}
use Rattle.trees.proofs.Joining.{join_members, join_members-push}
use Rattle.trees.proofs.PutOrder.{above_from_below, before_next, equal_texts}
use Rattle.manifests.specs.Template.{with_all}

-- an entry below all that are put stays the first
pub below_all : (k : List ℕ) (d : Data) (ms more : Members) → ComesBefore k more → AreAscending more → with_all more (member k d ms) ≡ member k d (with_all more ms)
below_all k d ms no_members before ascending = refl
below_all k d ms (member l e more) before ascending =
    ap (λ o. with_all more (match_ordering o (member l e (member k d ms)) (member k e ms) (member k d (put l e ms)))) (above_from_below l k before)
    ∙ below_all k d (put l e ms) more (before_next k l more before ascending.0) ascending.1

pub put_on_none : (k : List ℕ) (d : Data) (more : Members) → AreAscending (member k d more) → with_all (member k d more) no_members ≡ member k d (with_all more no_members)
put_on_none k d more ascending = below_all k d no_members more ascending.0 ascending.1

module _ (k l : List ℕ) (d e : Data) (more ms : Members) (ascending : AreAscending (member k d more)) where
  pub old_first : slice_cmp nat_cmp l k ≡ Less → with_all (member k d more) (member l e ms) ≡ member l e (with_all (member k d more) ms)
  old_first below = below_all l e ms (member k d more) below ascending

  pub new_for_old : slice_cmp nat_cmp l k ≡ Equal → with_all (member k d more) (member l e ms) ≡ member k d (with_all more ms)
  new_for_old same =
      let one : l ≡ k = equal_texts l k same in
      let turned : slice_cmp nat_cmp k l ≡ Equal = nat_list_cmp_total.antisymm k l ∙ ap ordering_reverse same in
      ap (λ o. with_all more (match_ordering o (member k d (member l e ms)) (member l d ms) (member l e (put k d ms)))) turned
      ∙ (ap (λ x. with_all more (member x d ms)) one ∙ below_all k d ms more ascending.0 ascending.1)

  pub new_first : slice_cmp nat_cmp l k ≡ Greater → with_all (member k d more) (member l e ms) ≡ member k d (with_all more (member l e ms))
  new_first above =
      let below : slice_cmp nat_cmp k l ≡ Less = nat_list_cmp_total.antisymm k l ∙ ap ordering_reverse above in
      ap (λ o. with_all more (match_ordering o (member k d (member l e ms)) (member l d ms) (member l e (put k d ms)))) below
      ∙ below_all k d (member l e ms) more ascending.0 ascending.1

-- what ascends still does when others are put over it
pub ascending_all : (more ms : Members) → AreAscending ms → AreAscending (with_all more ms)
ascending_all no_members ms ascending = ascending
ascending_all (member k d more) ms ascending = ascending_all more (put k d ms) (ascending_put k d ms ascending)

-- ---- the first of two lists of entries, and those that are left
abbrev Entry : Type 0
Entry = List ℕ × Tree

module _ (over under later : List Entry) (new : Entry) (over_is : over ≡ new ∷ later) (ascending : AreAscending (members_of over)) where
  begins : AreAscending (members_of (new ∷ later))
  begins = subst (λ es. AreAscending (members_of es)) over_is ascending

  pub first_on_none : under ≡ [] → with_all (members_of over) (members_of under) ≡ member new.0 (data_of new.1) (with_all (members_of later) (members_of under))
  first_on_none none =
      ap (λ es. with_all (members_of es) (members_of under)) over_is
      ∙ (ap (λ es. with_all (members_of (new ∷ later)) (members_of es)) none
      ∙ (put_on_none new.0 (data_of new.1) (members_of later) begins
      ∙ sym (ap (λ es. member new.0 (data_of new.1) (with_all (members_of later) (members_of es))) none)))

  module _ (below : List Entry) (old : Entry) (under_is : under ≡ old ∷ below) where
    both_begin : with_all (members_of over) (members_of under) ≡ with_all (members_of (new ∷ later)) (members_of (old ∷ below))
    both_begin = ap (λ es. with_all (members_of es) (members_of under)) over_is ∙ ap (λ es. with_all (members_of (new ∷ later)) (members_of es)) under_is

    pub first_is_old : slice_cmp nat_cmp old.0 new.0 ≡ Less → with_all (members_of over) (members_of under) ≡ member old.0 (data_of old.1) (with_all (members_of over) (members_of below))
    first_is_old less =
        both_begin ∙ (old_first new.0 old.0 (data_of new.1) (data_of old.1) (members_of later) (members_of below) begins less
        ∙ sym (ap (λ es. member old.0 (data_of old.1) (with_all (members_of es) (members_of below))) over_is))

    pub first_is_both : slice_cmp nat_cmp old.0 new.0 ≡ Equal → with_all (members_of over) (members_of under) ≡ member new.0 (data_of new.1) (with_all (members_of later) (members_of below))
    first_is_both same = both_begin ∙ new_for_old new.0 old.0 (data_of new.1) (data_of old.1) (members_of later) (members_of below) begins same

    pub first_is_new : slice_cmp nat_cmp old.0 new.0 ≡ Greater → with_all (members_of over) (members_of under) ≡ member new.0 (data_of new.1) (with_all (members_of later) (members_of under))
    first_is_new greater =
        both_begin ∙ (new_first new.0 old.0 (data_of new.1) (data_of old.1) (members_of later) (members_of below) begins greater
        ∙ sym (ap (λ es. member new.0 (data_of new.1) (with_all (members_of later) (members_of es))) under_is))

-- one more entry is copied
pub more_merged : (all after : List Entry) (e first : Entry) (rest total whole : Members) → after ≡ all ++ e ∷ [] → e.0 ≡ first.0 → e.1 ≡ first.1 → whole ≡ member first.0 (data_of first.1) rest
    → join_members (members_of all) whole ≡ total → join_members (members_of after) rest ≡ total
more_merged all after e first rest total whole after_is key value begins so_far =
    ap (λ es. join_members (members_of es) rest) after_is
    ∙ (join_members-push all e rest
    ∙ (ap (λ k. join_members (members_of all) (member k (data_of e.1) rest)) key
    ∙ (ap (λ v. join_members (members_of all) (member first.0 (data_of v) rest)) value
    ∙ (sym (ap (join_members (members_of all)) begins) ∙ so_far))))
