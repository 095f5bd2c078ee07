use Rattle.std.proofs.Common.{◌≡◌, Some, subst}
use Rattle.std.specs.Prelude.{slice_get}
use Rattle.bp_model.specs.Named.{NamedProgram}
use Rattle.bp_theory.specs.Decomposition.{whole_row}
use Rattle.cut_sums.specs.Rows.{program_of, row_in}
use Rattle.cut_sums.proofs.RowLemmas.{row_before, whole_of, bounded_at}
use Rattle.cut_sums.proofs.rows.Rows.own.Goals as goal

pub returns : goal.returns
returns c =
    let s = c.args.self.now in
    let is : row_in s c.args.number ≡ whole_row c.row.result.now =
    row_before (program_of s) s.b.now.dec s.earlier.now c.args.number c.row.result.now c.requires.rows.formed.places c.requires.own
    (subst (λ (m : NamedProgram). slice_get m.program.rows c.args.number ≡ Some c.row.result.now) c.model.ensures.model c.row.ensures)
    (whole_of (program_of s) (row_in s c.args.number) c.requires.bounded) in
    record { row = is; bounded = bounded_at (program_of s) (row_in s c.args.number) c.row.result.now is c.requires.bounded }
