use Rattle.std.proofs.Common.{◌<◌, ◌^◌, ℕ, Option, List, None, sym, ap, ◌∙◌, subst}
use Rattle.objects.proofs.replace.kept_meta.Goals as goal

pub invariant_of-result : goal.invariant_of-result
invariant_of-result c =
    let indexed = c.requires.known.1 in
    let rules = c.requires.known.2.spec.at.seams.rules.meta in
    record {
      uid = subst (λ n. n < 2 ^ 48) (sym indexed.uid) rules.uid;
      revision = subst (λ n. n < 2 ^ 64) (sym indexed.revision) rules.revision;
      generation = c.requires.generation;
    }

pub returns : goal.returns
returns c = λ o indexed known.
    ap (λ (n : ℕ). record { uid = n; revision = c.args.indexed.now.revision; generation = c.args.generation; deletion = None }) indexed.uid
    ∙ ap (λ (n : ℕ). record { uid = o.meta.uid; revision = n; generation = c.args.generation; deletion = None }) indexed.revision
    ∙ ap (λ (d : Option (List ℕ)). record { uid = o.meta.uid; revision = o.meta.revision; generation = c.args.generation; deletion = d }) (sym known.unmarked)
