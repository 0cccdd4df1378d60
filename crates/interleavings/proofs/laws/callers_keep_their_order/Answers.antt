use Rattle.interleavings.proofs.laws.callers_keep_their_order.Goals as goal

pub returns : goal.returns
returns c = λ capacity items places history legal p q caller r s m n lt there.
    let a = history.sequential p q caller r s m n lt in legal.in_time a.0 p q a.1.0 a.1.1.0 a.1.1.1 there
