use Rattle.std.proofs.Common.{◌≡◌, ◌<◌, ◌∙◌, List, ℕ, length, get_or, sym, ap, subst, arith}
use Rattle.std.specs.Prelude.{ℤ}
use Rattle.block_program.specs.Blocked.{RootBlock}
use Rattle.block_program.proofs.BlockLemmas.{length-copies, coefs_of_copies}
use Rattle.block_program.proofs.block.Block.master.Goals as goal

pub bounds-as_slice-place : goal.bounds-as_slice-place
bounds-as_slice-place c =
    let b = c.self.inside in
    let there = subst (λ (k : RootBlock). c.args.place < length k.block.copies) (sym c.self.view_is) c.requires in
    let slice : length c.as_slice.result.now ≡ length b.masters = ap length c.as_slice.ensures in
    omega (arith, there, slice, c.self.invariant.1, length-copies b.vars b.costs b.masters c.self.invariant.0 c.self.invariant.1)

pub returns : goal.returns
returns c = λ d.
    let b = c.self.inside in
    let there = subst (λ (k : RootBlock). c.args.place < length k.block.copies) (sym c.self.view_is) c.requires in
    let inside : c.args.place < length b.vars = omega (arith, there, length-copies b.vars b.costs b.masters c.self.invariant.0 c.self.invariant.1) in
    let found = c.index-as_slice-place.result in
    c.as_slice-2.ensures ∙ c.index-as_slice-place.is ∙ ap (λ (ms : List (List (ℕ × ℤ))). get_or ms c.args.place found) c.as_slice.ensures
    ∙ coefs_of_copies b.vars b.costs b.masters c.self.invariant.0 c.self.invariant.1 c.args.place d found inside
    ∙ ap (λ (k : RootBlock). (get_or k.block.copies c.args.place d).coefs) c.self.view_is
