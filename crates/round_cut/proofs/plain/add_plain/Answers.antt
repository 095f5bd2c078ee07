use Rattle.std.proofs.Common.{◌≡◌, ◌∙◌, List, [], false, true, refl, sym, ap, subst}
use Rattle.bp_theory.specs.Decomposition.{ProofRow, proof_rows}
use Rattle.bp_theory.specs.declared.Row.{Row}
use Rattle.cut_sums.specs.Cutting.{IsWhole}
use Rattle.cut_sums.specs.Plain.{Sharpens}
use Rattle.cut_sums.specs.PlainSteps.{SharpensRow}
use Rattle.cut_sums.specs.Rows.{program_of, rows_in}
use Rattle.cut_sums.specs.declared.rows.Rows.{Rows}
use Rattle.cut_sums.proofs.RowLemmas.{bounded_there}
use Rattle.cut_sums.proofs.PlainLemmas.{none_of_row, plain_at, row_whole}
use Rattle.round_cut.proofs.plain.add_plain.Goals as goal

-- rows without earlier cuts
named : (s : Rows) → s.earlier.now ≡ [] → rows_in s ≡ proof_rows (program_of s) s.b.now.dec []
named s none = ap (λ (earlier : List Row). proof_rows (program_of s) s.b.now.dec earlier) none

pub returns-then-not-has : goal.returns-then-not-has
returns-then-not-has c =
    let s = c.args.rows.now in
    none_of_row (program_of s) s.b.now.dec c.args.most c.args.number c.args.cuts.now.items c.requires.first
    (λ cut plain same.
    let at = plain_at (program_of s) s.b.now.dec (rows_in s) c.args.number cut plain (named s c.requires.none) same in
    let wrong : false ≡ true = c.if-not-has.ensures.1 (subst IsWhole (sym at) tt) in
    absurd (cc))

pub at-requires : goal.at-requires
at-requires c = record {
  rows = c.requires.rows;
  bounded = bounded_there c.args.rows.now c.args.number c.requires.rows (c.if-not-has.ensures.0 refl);
}

pub returns-in-None : goal.returns-in-None
returns-in-None c =
    let s = c.args.rows.now in
    none_of_row (program_of s) s.b.now.dec c.args.most c.args.number c.args.cuts.now.items c.requires.first
    (λ cut plain same.
    let at = plain_at (program_of s) s.b.now.dec (rows_in s) c.args.number cut plain (named s c.requires.none) same in
    let row : plain.row ≡ c.at.result.now = row_whole plain.row c.at.result.now (sym at ∙ c.at.ensures.row) in
    c.in-None.ensures cut.q (subst (λ (r : Row). Sharpens r cut.q) row plain.sharpens))

pub add_both-requires-clause-sharp : goal.add_both-requires-clause-sharp
add_both-requires-clause-sharp c = subst (λ (row : ProofRow). SharpensRow row c.in-Some.q) (sym c.at.ensures.row) c.in-Some.ensures
