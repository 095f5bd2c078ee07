use Rattle.std.proofs.Common.{◌≡◌, sym, subst, arith, to_z, of_z}
use Rattle.std.specs.Prelude.{ℤ}
use Rattle.std.specs.Int.{w64}
use Rattle.std.proofs.lemmas.Int.{ints}
use Rattle.bp_model.specs.Named.{IsKept}
use Rattle.bp_model.proofs.MakeLemmas.{keeps}
use Rattle.bp_model.proofs.model.Model.assembled.Goals as goal

pub invariant_of-result : goal.invariant_of-result
invariant_of-result c =
    let constant : to_z w64 (of_z w64 c.small-constant.result) ≡ c.args.parts.constant = omega (arith, ints, c.small-constant.ensures) in
    rw constant (keeps c.args.parts c.args.costs c.args.rows c.requires c.len.ensures.distinct c.len-2.ensures.distinct)

pub returns-clause-kept : goal.returns-clause-kept
returns-clause-kept c =
    let constant : to_z w64 (of_z w64 c.small-constant.result) ≡ c.args.parts.constant = omega (arith, ints, c.small-constant.ensures) in
    rw constant (keeps c.args.parts c.args.costs c.args.rows c.requires c.len.ensures.distinct c.len-2.ensures.distinct)
