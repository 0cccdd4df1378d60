use Rattle.std.proofs.Common.{◌≡◌, ℕ, ◌+◌, ◌<◌, Bool, true, false, not, List, [], ◌∷◌, ◌++◌, length, filter, take, arith, sym, ap, ◌∙◌, subst}
use Rattle.std.specs.Prelude.{◌&&◌, ◌||◌, bytes_eq}
use Rattle.std.proofs.lemmas.List.{take_more}
use Rattle.objects.specs.declared.kind.Kind.TheVariants as kinds
use Rattle.objects.specs.declared.object.Object.{Object}
use Rattle.set_views.specs.declared.pod.PodView.{PodView}
use Rattle.set_views.specs.Firsts.{is_held}
use Rattle.set_views.specs.Set.{set_parts}
use Rattle.set_views.specs.Predicates.{in_namespace}
use Rattle.set_views.proofs.Firsts.{held_more}
use Rattle.set_views.proofs.NameSets.{contains_is, has_name, name_taken, was_new, was_there}
use Rattle.pod_steps.specs.Views.{AreViews, listed_pods}
use Rattle.pod_steps.proofs.ViewLists.{names_left, view_added, view_passed}
use Rattle.pod_steps.proofs.views.views_of.Goals as goal
use Rattle.pod_steps.proofs.views.views_of.Goals.{then-has_in_namespace+in_ok-insert+then-branch+in_ok-push, else-has_in_namespace, else-has_in_namespace-via-then-has_in_namespace+in_ok-insert+else-branch, else-has_in_namespace-via-else-has_in_namespace}

pub loop-object-preserved : goal.loop-object-preserved
loop-object-preserved c =
    let near : Object → Bool = in_namespace (set_parts c.args.set.now) kinds.Pod in
    let done : List Object = take c.loop-object.object-index c.args.objects.now in
    let o : Object = c.object-item.result in
    let name : List ℕ = o.key.name in
    let names = c.loop-object.names.keys in
    let inside : c.loop-object.object-index < length c.args.objects.now = omega arith in
    let more : take (c.loop-object.object-index + 1) c.args.objects.now ≡ done ++ o ∷ [] =
    take_more c.args.objects.now c.loop-object.object-index o inside ∙ ap (λ p. done ++ p ∷ []) (sym c.object-item.is) in
    let held : List ℕ → List Object → Bool = λ q os. is_held (filter near os) q in
    let V : List PodView → List Object → Type 0 = λ views os. AreViews (listed_pods (set_parts c.args.set.now) os) views in
    elim c.if-has_in_namespace.branch [
      | then-has_in_namespace+in_ok-insert+then-branch+in_ok-push w ↦
          let is : near o ≡ true = sym c.has_in_namespace.ensures ∙ w.if-has_in_namespace.true in
          let added = w.in_ok-insert.ensures.added ∙ ap not (contains_is w.name_of.result names) in
          let new : held name done ≡ false = sym (c.loop-object.invariant.0 name) ∙ (sym (ap (λ s. has_name s names) w.name_of.ensures) ∙ was_new _ _ added w.if-branch.true) in (
            λ q. ap (λ n. has_name q n.keys) w.names-is
                ∙ (name_taken (near o) q name w.name_of.result names w.insert.new.self.keys is w.in_ok-insert.ensures.keys w.name_of.ensures
                ∙ (ap (λ b. b || (near o && bytes_eq q name)) (c.loop-object.invariant.0 q) ∙ (sym (held_more near done o q) ∙ ap (held q) (sym more)))),
            subst (λ views. V views (take (c.loop-object.object-index + 1) c.args.objects.now)) (sym (ap (λ v. v.items) w.views-is ∙ w.in_ok-push.ensures.items))
                (subst (V (c.loop-object.views.items ++ w.read_pod.result ∷ [])) (sym more)
                (view_added near done c.loop-object.views.items o w.read_pod.result c.loop-object.invariant.1 (λ j. is j && not (new j))
                (record { parts = w.read_pod.ensures.parts; set_pod = w.read_pod.ensures.set_pod; no_set_pod = w.read_pod.ensures.no_set_pod }))),
          )
      | else-has_in_namespace w ↦ elim w.else-has_in_namespace.branch [
        | else-has_in_namespace-via-then-has_in_namespace+in_ok-insert+else-branch k ↦
            let is : near o ≡ true = sym c.has_in_namespace.ensures ∙ k.if-has_in_namespace.true in
            let added = k.in_ok-insert.ensures.added ∙ ap not (contains_is k.name_of.result names) in
            let there : held name done ≡ true = sym (c.loop-object.invariant.0 name) ∙ (sym (ap (λ s. has_name s names) k.name_of.ensures) ∙ was_there _ _ added k.if-branch.false) in (
              λ q. ap (λ n. has_name q n.keys) (w.names-is ∙ k.names-is)
                  ∙ (name_taken (near o) q name k.name_of.result names k.insert.new.self.keys is k.in_ok-insert.ensures.keys k.name_of.ensures
                  ∙ (ap (λ b. b || (near o && bytes_eq q name)) (c.loop-object.invariant.0 q) ∙ (sym (held_more near done o q) ∙ ap (held q) (sym more)))),
              subst (λ views. V views (take (c.loop-object.object-index + 1) c.args.objects.now)) (sym (ap (λ v. v.items) w.views-is))
                  (subst (V c.loop-object.views.items) (sym more) (view_passed near done c.loop-object.views.items o c.loop-object.invariant.1 (λ j. is j && not (there j)))),
            )
        | else-has_in_namespace-via-else-has_in_namespace k ↦
            let far : near o ≡ false = sym c.has_in_namespace.ensures ∙ k.if-has_in_namespace.false in (
              λ q. ap (λ n. has_name q n.keys) (w.names-is ∙ k.names-is)
                  ∙ (c.loop-object.invariant.0 q ∙ (sym (names_left near done o q far) ∙ ap (held q) (sym more))),
              subst (λ views. V views (take (c.loop-object.object-index + 1) c.args.objects.now)) (sym (ap (λ v. v.items) w.views-is))
                  (subst (V c.loop-object.views.items) (sym more) (view_passed near done c.loop-object.views.items o c.loop-object.invariant.1 (λ j. far j && not (held name done)))),
            )
      ]
    ]
