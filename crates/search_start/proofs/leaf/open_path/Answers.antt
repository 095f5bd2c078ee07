use Rattle.std.proofs.Common.{◌≡◌, ◌+◌, ◌-◌, ◌∙◌, ap, arith, map, refl, reverse}
use Rattle.bp_theory.specs.Trees.{open_leaf}
use Rattle.cert_format.specs.Sketch.{tree_of}
use Rattle.search_start.specs.Leaves.{side_of}
use Rattle.search_start.proofs.Paths.{found_here, none_left}
use Rattle.search_start.proofs.leaf.open_path.Goals as goal

pub returns-then-left-eq0 : goal.returns-then-left-eq0
returns-then-left-eq0 c =
    let count : c.args.number ≡ (c.args.number - 1) + 1 = omega (arith, c.if-number-eq0.false) in
    found_here (tree_of c.args.tree.now) c.args.number (c.args.number - 1) c.loop-here.left c.loop-here.here c.loop-here.above.items c.in-Some.node (open_leaf c.in-Open.field-0)
    c.in_ok-sides_of-in-Open.field-0 count c.if-left-eq0.true c.in-Some.is (ap tree_of c.in-Open.is) refl (c.in_ok-sides_of-in-Open.ensures ∙ ap (map side_of) c.as_slice.ensures.value)
    c.loop-here.invariant

pub returns : goal.returns
returns c =
    let count : c.args.number ≡ (c.args.number - 1) + 1 = omega (arith, c.if-number-eq0.false) in
    none_left (tree_of c.args.tree.now) c.args.number (c.args.number - 1) c.loop-here.left c.loop-here.here (reverse c.loop-here.above.items) count c.in_default.is c.loop-here.invariant
