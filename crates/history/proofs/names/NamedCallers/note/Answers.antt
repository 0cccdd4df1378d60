use Rattle.std.proofs.Common.{rules, refl, ap, sym, ◌∙◌, length, arith}
use Rattle.history.specs.Named.{with_named}
use Rattle.history.proofs.Naming.{length_fresh, taken_back, with_fresh}
use Rattle.history.proofs.names.NamedCallers.note.Goals as goal

pub returns-then-len-eq-MAX_CALLERS-clause-too_many : goal.returns-then-len-eq-MAX_CALLERS-clause-too_many
returns-then-len-eq-MAX_CALLERS-clause-too_many c =
    let ks = c.args.self.now.callers.keys in
    let fresh = sym c.contains.ensures ∙ c.if-contains.false in
    let more = ap length (ap (with_named ks) (sym c.in-Some.ensures) ∙ with_fresh c.in-Some.caller ks fresh) ∙ length_fresh c.in-Some.caller ks fresh in
    let len = c.len.ensures.len in
    let full = c.if-len-eq-MAX_CALLERS.true in
    (λ x. omega (arith, more, len, full), λ many. refl)

pub returns-in_err-insert-clause-too_many : goal.returns-in_err-insert-clause-too_many
returns-in_err-insert-clause-too_many c =
    let ks = c.args.self.now.callers.keys in
    let fresh = sym c.contains.ensures ∙ c.if-contains.false in
    let more = ap length (ap (with_named ks) (sym c.in-Some.ensures) ∙ with_fresh c.in-Some.caller ks fresh) ∙ length_fresh c.in-Some.caller ks fresh in
    let len = c.len.ensures.len in
    let room = c.if-len-eq-MAX_CALLERS.false in
    let few = c.requires in
    (λ x. search rules, λ many. absurd (omega (arith, more, len, room, few, many)))

pub returns-clause-newly : goal.returns-clause-newly
returns-clause-newly c =
    let ks = c.args.self.now.callers.keys in
    let fresh = sym c.contains.ensures ∙ c.if-contains.false in
    rw c.in_ok-insert.ensures.keys (taken_back c.in-Some.caller ks fresh)
