use Rattle.std.proofs.Common.{◌∙◌, sym, ap, subst, List, ◌+ℤ◌}
use Rattle.std.proofs.Math.IntN.{◌*ℤ◌}
use Rattle.std.specs.Int.{w128}
use Rattle.std.proofs.lemmas.Int.{to_z-of_z}
use mir.Val.{of_z, to_z}
use Rattle.bp_theory.specs.Sums.{dot}
use Rattle.bp_theory.specs.Program.{activity}
use Rattle.bp_theory.specs.declared.Term.{Term}
use Rattle.pricing_problem.proofs.Passed.{passed, passed_short}
use Rattle.enumeration.specs.Relax.{HasFittingSign}
use Rattle.enumeration.proofs.TruthLaws.{map_true}
use Rattle.enumeration.proofs.RelaxLaws.{row_added}
use Rattle.enumeration.proofs.relax.add_row.Goals as goal

pub returns-clause-paid : goal.returns-clause-paid
returns-clause-paid c =
    map_true c.add_terms.result _ _
    (λ added y many met. row_added c.args.row.now (to_z w128 (of_z w128 c.fitting-factor.result)) c.args.relaxed.now.offset (to_z w128 (of_z w128 c.in-Some.offset))
    c.args.relaxed.now.costs.items c.add_terms.new.costs.items y
    (subst (HasFittingSign c.args.row.now.sense) (sym (passed c.fitting-factor.result c.fitting-factor.type_inv)) c.fitting-factor.ensures)
    met
    (to_z-of_z w128 c.in-Some.offset c.in-Some.ensures.fits
    ∙ c.in-Some.ensures.sum
    ∙ ap (λ z. c.args.relaxed.now.offset +ℤ (to_z w128 (of_z w128 c.fitting-factor.result)) *ℤ z)
    (passed_short c.side_of-side.result c.side_of-side.type_inv ∙ c.side_of-side.ensures))
    (added y many
    ∙ ap (λ (ts : List Term). dot c.args.relaxed.now.costs.items y +ℤ (to_z w128 (of_z w128 c.fitting-factor.result)) *ℤ activity ts y) c.as_slice.ensures))
    c.add_terms.ensures.added
