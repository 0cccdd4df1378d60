use Rattle.std.proofs.Common.{◌≡◌, ℕ, Option, None, Some, IfSome, sym, ap, ◌∙◌, subst}
use Rattle.std.specs.Option.{IsSomeAnd}
use Rattle.objects.specs.declared.seams.Seams.{Seams}
use Rattle.objects.specs.declared.object.Object.{Object}
use Rattle.objects.specs.Seams.{HasSeamsAt, IsSpecAt}
use Rattle.objects.specs.PrintedText.{IsTextOf}
use Rattle.objects.proofs.printed.printed_as.Goals as goal

seams_there : (o : Object) (found : Option Seams) (offsets : ℕ × ℕ) → IfSome found (λ seams. HasSeamsAt o seams.version seams.status) → IsSomeAnd found (λ seams. (offsets.0 ≡ seams.version) × (offsets.1 ≡ seams.status)) → HasSeamsAt o offsets.0 offsets.1
seams_there o None offsets h is = absurd is
seams_there o (Some seams) offsets h is = subst (λ v. HasSeamsAt o v offsets.1) (sym is.0) (subst (λ s. HasSeamsAt o seams.version s) (sym is.1) h)

spec_there : (o : Object) (found : Option Seams) (offsets : ℕ × ℕ) (size : ℕ) → IfSome found (λ seams. IfSome seams.spec (IsSpecAt o seams.version seams.status)) → IsSomeAnd found (λ seams. (offsets.0 ≡ seams.version) × (offsets.1 ≡ seams.status))
    → IsSomeAnd found (λ seams. seams.spec ≡ Some size) → IsSpecAt o offsets.0 offsets.1 size
spec_there o None offsets size h is found = absurd is
spec_there o (Some seams) offsets size h is found =
    subst (λ v. IsSpecAt o v offsets.1 size) (sym is.0) (subst (λ s. IsSpecAt o seams.version s size) (sym is.1) (subst (λ f. IfSome f (IsSpecAt o seams.version seams.status)) found h))

pub of_indexed-requires : goal.of_indexed-requires
of_indexed-requires c = (
  c.args.object.now,
  record {
    text = subst (IsTextOf c.args.object.now) (sym (c.in_ok-text-in-Ok.ensures.ok ∙ c.in-Ok.ensures.0)) c.requires.text;
    uid = ap (λ (p : ℕ × ℕ). p.0) c.numbers_of-uid.ensures;
    revision = ap (λ (p : ℕ × ℕ). p.1) c.numbers_of-uid.ensures;
    seams = λ some. seams_there c.args.object.now c.args.seams _ c.requires.seams (c.short_offsets-version.ensures some);
    known = λ some told. let known = c.short_spec-spec.ensures told in record {
      spec = spec_there c.args.object.now c.args.seams _ _ c.requires.spec (c.short_offsets-version.ensures some) known.0;
      generation = known.1;
      unmarked = known.2;
    };
  },
)

pub returns : goal.returns
returns c = c.of_indexed.ensures c.args.object.now (record {
  text = subst (IsTextOf c.args.object.now) (sym (c.in_ok-text-in-Ok.ensures.ok ∙ c.in-Ok.ensures.0)) c.requires.text;
  uid = ap (λ (p : ℕ × ℕ). p.0) c.numbers_of-uid.ensures;
  revision = ap (λ (p : ℕ × ℕ). p.1) c.numbers_of-uid.ensures;
  seams = λ some. seams_there c.args.object.now c.args.seams _ c.requires.seams (c.short_offsets-version.ensures some);
  known = λ some told. let known = c.short_spec-spec.ensures told in record {
    spec = spec_there c.args.object.now c.args.seams _ _ c.requires.spec (c.short_offsets-version.ensures some) known.0;
    generation = known.1;
    unmarked = known.2;
  };
})

pub unreachable-requires : goal.unreachable-requires
unreachable-requires c = absurd (c.in-Err.ensures c.requires.utf8)
