use Rattle.std.proofs.Common.{◌-◌, List, ℕ, take, drop, length, ap, ◌∙◌, arith}
use Rattle.objects.proofs.ReplacedTexts.{spec_in, spec_fits, spec_taken}
use Rattle.objects.proofs.replace.spec_bytes.Goals as goal

pub slice_bounds-result-end : goal.slice_bounds-result-end
slice_bounds-result-end c =
    let fits = spec_fits c.requires.0 c.args.indexed.now (spec_in c.requires.0 c.args.indexed.now c.requires.1 c.requires.2) in
    let same = ap length (c.as_bytes.ensures.value ∙ c.as_str.ensures.value) in
    omega (arith, fits.0, fits.1, same)

pub returns : goal.returns
returns c = λ o indexed known.
    ap (λ (t : List ℕ). take (c.args.indexed.now.status - (c.args.indexed.now.status - c.args.indexed.now.spec)) (drop (c.args.indexed.now.status - c.args.indexed.now.spec) t)) (c.as_bytes.ensures.value ∙ c.as_str.ensures.value)
    ∙ spec_taken o c.args.indexed.now (spec_in o c.args.indexed.now indexed known)
