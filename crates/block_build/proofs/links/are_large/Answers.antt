use Rattle.std.proofs.Common.{ap, arith}
use Rattle.bp_theory.specs.Limits.{most_lines}
use Rattle.block_build.proofs.HomeLemmas.{few_homes}
use Rattle.block_build.proofs.LargeLemmas.{too_many, wide_or_none}
use Rattle.block_build.proofs.links.are_large.Goals as goal

pub further_copies-requires-clause-few : goal.further_copies-requires-clause-few
further_copies-requires-clause-few c =
    few_homes c.args.model.now.program c.args.dec.now c.args.homes.now c.requires (omega (arith, c.blocks-blocks.ensures.few, c.blocks-blocks.ensures.blocks))

pub returns-then-from-further_copies : goal.returns-then-from-further_copies
returns-then-from-further_copies c =
    too_many c.args.model.now.program c.args.dec.now c.args.homes.now c.requires
    (omega (arith, c.if-from-further_copies.true, c.from.ensures, c.from-2.ensures, c.rows.ensures.rows, c.further_copies.ensures.count, c.lines.ensures, ap most_lines c.limits.ensures))

pub returns : goal.returns
returns c =
    wide_or_none c.args.model.now.program c.args.dec.now c.has_wide_copies.result c.args.homes.now c.spans.result.now c.requires c.spans.ensures.spans
    (omega (arith, c.if-from-further_copies.false, c.from.ensures, c.from-2.ensures, c.rows.ensures.rows, c.further_copies.ensures.count, c.lines.ensures, ap most_lines c.limits.ensures))
    c.has_wide_copies.ensures
