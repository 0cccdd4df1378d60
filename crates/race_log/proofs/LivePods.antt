-- What is known of the keys that live, as the next object is created or removed.
use Rattle.std.proofs.Common.{◌≡◌, ℕ, zero-add, ◌+◌, Bool, true, false, cond, ◌||◌, ◌&&◌, not, List, ◌∷◌, refl, sym, ap, ◌∙◌, subst, if◌then◌else◌, arith}
use Rattle.std.specs.BTreeSet.{BTreeSet, contains}
use Rattle.std.specs.Ordering.{eq_by_cmp}
use Rattle.std.proofs.lemmas.Cmp.{eq_by_cmp_equiv}
use Rattle.objects.specs.declared.object.Object.{Object}
use Rattle.objects.specs.Key.{KeyParts, key_cmp}
use Rattle.objects.specs.KeyOrder.{key_cmp_total}
use Rattle.requests.specs.declared.reply.Reply.{Reply}
use Rattle.requests.specs.declared.reply.Reply.TheVariants.{Created, Removed}
use Rattle.race_log.specs.declared.twice.LivePods.{LivePods}
use Rattle.race_log.specs.LivePods.{Knows}
use Rattle.race_log.specs.Twice.{is_alive, is_pod, repeats}

-- the keys of n are those of s, but for one that is there now, or is not
abbrev pub Sets : Bool → BTreeSet KeyParts → BTreeSet KeyParts → KeyParts → Type 0
Sets there s n key = (q : KeyParts) → contains key_cmp n q ≡ cond (eq_by_cmp key_cmp key q) there (contains key_cmp s q)

flipped : (key q : KeyParts) → eq_by_cmp key_cmp key q ≡ eq_by_cmp key_cmp q key
flipped key q = (eq_by_cmp_equiv key_cmp_total).symm key q

put : (b x : Bool) → cond b true x ≡ (b || x)
put true x = refl
put false x = refl

taken : (b x : Bool) → cond b false x ≡ (not b && x)
taken true x = refl
taken false x = refl

-- how often a create was a repeat, depending on whether this one is
abbrev pub Counts : Bool → ℕ → ℕ → Type 0
Counts true old new = new ≡ old + 1
Counts false old new = new ≡ old

counted : (b : Bool) (old new before : ℕ) → Counts b old new → old ≡ before → new ≡ (if b then 1 else 0) + before
counted true old new before count same = omega arith
counted false old new before count same = omega arith

-- the key lives if it is not new
lived : (new there alive : Bool) → new ≡ not there → there ≡ alive → not new ≡ alive
lived new true alive is known = ap not is ∙ known
lived new false alive is known = ap not is ∙ known

pub created : (old new : LivePods) (o : Object) (key : KeyParts) (is_new pod again : Bool) (earlier : List Reply) → key ≡ o.key → Sets true old.keys new.keys key
    → is_new ≡ not (contains key_cmp old.keys key) → pod ≡ is_pod o.key.kind → (pod && not is_new) ≡ again → Counts again old.again new.again
    → Knows old earlier → Knows new (Created o ∷ earlier)
created old new o key is_new pod again earlier named sets added pod_is both counts known = record {
  keys = λ q.
      sets q ∙ put (eq_by_cmp key_cmp key q) (contains key_cmp old.keys q)
      ∙ ap (λ b. b || contains key_cmp old.keys q) (flipped key q ∙ ap (λ k. eq_by_cmp key_cmp q k) named)
      ∙ ap (λ x. eq_by_cmp key_cmp q o.key || x) (known.keys q);
  again = counted (is_pod o.key.kind && is_alive o.key earlier) old.again new.again _ (subst (λ b. Counts b old.again new.again) (sym both ∙ same) counts) known.again;
}
  where
    there : contains key_cmp old.keys key ≡ is_alive o.key earlier
    there = ap (contains key_cmp old.keys) named ∙ known.keys o.key

    same : (pod && not is_new) ≡ (is_pod o.key.kind && is_alive o.key earlier)
    same = ap (λ p. p && not is_new) pod_is ∙ ap (λ a. is_pod o.key.kind && a) (lived is_new (contains key_cmp old.keys key) (is_alive o.key earlier) added there)

pub removed : (old new : LivePods) (reply : Reply) (o : Object) (key : KeyParts) (earlier : List Reply) → reply ≡ Removed o → key ≡ o.key
    → Sets false old.keys new.keys key → new.again ≡ old.again → Knows old earlier → Knows new (reply ∷ earlier)
removed old new reply o key earlier is named sets same known =
    subst (λ r. Knows new (r ∷ earlier)) (sym is) (record {
      keys = λ q.
          sets q ∙ taken (eq_by_cmp key_cmp key q) (contains key_cmp old.keys q)
          ∙ ap (λ b. not b && contains key_cmp old.keys q) (flipped key q ∙ ap (λ k. eq_by_cmp key_cmp q k) named)
          ∙ ap (λ x. not (eq_by_cmp key_cmp q o.key) && x) (known.keys q);
      again = same ∙ known.again ∙ sym (zero-add (repeats earlier));
    })
