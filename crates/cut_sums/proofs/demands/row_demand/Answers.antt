use Rattle.std.proofs.Common.{ap, arith}
use Rattle.std.proofs.lemmas.Int.{ints}
use Rattle.cut_sums.specs.Rows.{low_activity}
use Rattle.cut_sums.proofs.SizeLemmas.{low_within}
use Rattle.cut_sums.proofs.demands.row_demand.Goals as goal

pub minus-requires : goal.minus-requires
minus-requires c =
    let low = low_within c.args.spans.now c.args.row.now.terms in
    let is = ap (low_activity c.args.spans.now) c.as_slice.ensures in
    omega (arith, ints, low, is, c.at_lower_ends-low.ensures, c.requires.small)

pub returns : goal.returns
returns c =
    let is = ap (low_activity c.args.spans.now) c.as_slice.ensures in
    omega (arith, ints, is, c.at_lower_ends-low.ensures, c.side.ensures, c.minus.ensures)
