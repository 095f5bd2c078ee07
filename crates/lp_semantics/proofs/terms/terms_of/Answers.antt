-- The terms of a row's sum.
use Rattle.std.proofs.Common.{arith}
use Rattle.lp_semantics.proofs.TermLemmas.{row_terms}
use Rattle.lp_semantics.proofs.terms.terms_of.Goals as goal

pub returns : goal.returns
returns c =
    row_terms c.args.text.now c.args.names.now c.args.sum.now c.loop-sign.sign-index c.as_slice-sign-items.result.now c.loop-sign.terms
    c.as_slice-sign-items.ensures (omega arith) c.loop-sign.invariant
