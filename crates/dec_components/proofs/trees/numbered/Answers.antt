use Rattle.std.proofs.Common.{◌≡◌, ◌<◌, ℕ, false, List, Option, length, get_or, arith, sym, ◌∙◌, ap, subst}
use Rattle.dec_components.proofs.NumberLemmas.{numbered_found}
use Rattle.dec_components.proofs.TreeLemmas.{marks_at}
use Rattle.dec_components.proofs.trees.numbered.Goals as goal

pub loop-row-preserved : goal.loop-row-preserved
loop-row-preserved c = record {
  each = omega (arith, c.in_ok-add.ensures.more);
  few = omega (arith, c.in_ok-add.ensures.few);
  numbered = λ p master is tied. c.in_ok-add.ensures.numbered p master
      (marks_at p master c.args.marks.now c.loop-row.row (length c.loop-row.found.places.items) false is (omega arith) c.loop-row.invariant.each) tied (c.loop-row.invariant.numbered p master is tied);
}

pub returns : goal.returns
returns c = λ p master is tied.
    numbered_found p master c.args.parents.now c.loop-row.found.places.items c.loop-row.found.blocks tied (omega arith) (c.loop-row.invariant.numbered p master is tied)
