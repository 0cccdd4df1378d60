use Rattle.std.proofs.Common.{◌≡◌, ◌∷◌, [], ◌++◌, true, false, sym, ap, ◌∙◌, append_assoc}
use Rattle.std.specs.Prelude.{bytes_eq, not, ◌||◌}
use Rattle.std.specs.Iterator.Adapters.{rev_source}
use Rattle.std.specs.Slice.Iter.{iter_rest}
use Rattle.set_views.proofs.ClaimNames.{stands_twice, distinct_more}
use Rattle.set_views.proofs.NameSets.{has_name, contains_is, has_name-insert_key, was_there, was_new}
use Rattle.set_views.proofs.claims.are_distinct.Goals as goal

pub returns-then-not-branch : goal.returns-then-not-branch
returns-then-not-branch c =
    let same : c.as_str.result.now ≡ c.in-Some.field-0.now.0 = cc in
    let known : has_name c.as_str.result.now c.loop-name.names.keys ≡ true =
    was_there _ _ (c.in_ok-insert.ensures.added ∙ ap not (contains_is c.as_str.result c.loop-name.names.keys)) c.if-not-branch.true in
    stands_twice c.args.claims.now _ (iter_rest (rev_source c.next.new.self)) c.loop-name.invariant.0 c.in-Some.field-0.now c.loop-name.invariant.1 c.in-Some.ensures.steps
    (sym (c.loop-name.invariant.3 c.in-Some.field-0.now.0) ∙ ap (λ name. has_name name c.loop-name.names.keys) (sym same) ∙ known)

pub loop-name-preserved : goal.loop-name-preserved
loop-name-preserved c =
    let same : c.as_str.result.now ≡ c.in-Some.field-0.now.0 = cc in
    let new : has_name c.as_str.result.now c.loop-name.names.keys ≡ false =
    was_new _ _ (c.in_ok-insert.ensures.added ∙ ap not (contains_is c.as_str.result c.loop-name.names.keys)) c.if-not-branch.false in (
      c.in-Some.field-0.now ∷ c.loop-name.invariant.0,
      sym (append_assoc (iter_rest (rev_source c.next.new.self)) (c.in-Some.field-0.now ∷ []) c.loop-name.invariant.0) ∙ (ap (λ l. l ++ c.loop-name.invariant.0) (sym c.in-Some.ensures.steps) ∙ c.loop-name.invariant.1),
      distinct_more c.in-Some.field-0.now c.loop-name.invariant.0
          (sym (c.loop-name.invariant.3 c.in-Some.field-0.now.0) ∙ ap (λ name. has_name name c.loop-name.names.keys) (sym same) ∙ new) c.loop-name.invariant.2,
      λ q. ap (has_name q) c.in_ok-insert.ensures.keys ∙ has_name-insert_key q c.as_str.result c.loop-name.names.keys
          ∙ ap (λ name. bytes_eq q name || has_name q c.loop-name.names.keys) same ∙ ap (λ b. bytes_eq q c.in-Some.field-0.now.0 || b) (c.loop-name.invariant.3 q),
    )
