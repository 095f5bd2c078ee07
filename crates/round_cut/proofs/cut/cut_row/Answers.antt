use Rattle.std.proofs.Common.{◌≡◌, ◌∙◌, List, sym, subst, ap, All, IfOk}
use Rattle.std.specs.Prelude.{ℤ, IfErr}
use Rattle.bp_theory.specs.Program.{Program, IsFeasible, MeetsRow}
use Rattle.bp_theory.specs.Decomposition.{ProofRow, proof_rows}
use Rattle.bp_theory.specs.Cuts.{cut_row}
use Rattle.bp_theory.specs.declared.Row.{Row}
use Rattle.block_program.specs.Blocked.{BlockedProgram}
use Rattle.cut_sums.specs.Cutting.{HasCutFault, HasFittingSigns, IsCutOver, IsEarlierCut}
use Rattle.cut_sums.specs.Rows.{program_of, rows_in}
use Rattle.cut_sums.specs.declared.rows.Rows.{Rows}
use Rattle.round_cut.proofs.cut.cut_row.Goals as goal

-- the program, the rows that a cut may name and the earlier cuts
same_rows : (s : Rows) (b : BlockedProgram) (earlier : List Row) → s.b.now ≡ b → s.earlier.now ≡ earlier
    → ◌≡◌ {A = Program × (List ProofRow × List Row)} (program_of s, (rows_in s, s.earlier.now)) (b.named.program, (proof_rows b.named.program b.dec earlier, earlier))
same_rows s b earlier e f =
    ap (λ (k : BlockedProgram). (k.named.program, (proof_rows k.named.program k.dec s.earlier.now, s.earlier.now))) e
    ∙ ap (λ (rows : List Row). (b.named.program, (proof_rows b.named.program b.dec rows, rows))) f

pub row_over-requires : goal.row_over-requires
row_over-requires c =
    let both = same_rows c.make-rows.result c.args.b.now c.args.earlier.now c.make-rows.ensures.b c.make-rows.ensures.earlier in
    record {
      rows = c.make-rows.ensures.rows;
      cut = subst (λ (x : Program × (List ProofRow × List Row)). IsCutOver x.1.0 c.args.cut.now) (sym both) c.requires.cut;
    }

pub returns : goal.returns
returns c =
    let both = same_rows c.make-rows.result c.args.b.now c.args.earlier.now c.make-rows.ensures.b c.make-rows.ensures.earlier in
    let cut = c.args.cut.now in
    let result = c.row_over.result in
    record {
      row = subst (λ (x : Program × (List ProofRow × List Row)). IfOk result (λ row. row ≡ cut_row x.0 x.1.0 cut)) both c.row_over.ensures.row;
      signs = subst (λ (x : Program × (List ProofRow × List Row)). IfOk result (λ row. HasFittingSigns x.1.0 cut)) both c.row_over.ensures.signs;
      kept = subst (λ (x : Program × (List ProofRow × List Row)). IfOk result (IsEarlierCut x.0)) both c.row_over.ensures.kept;
      met = subst (λ (x : Program × (List ProofRow × List Row)). IfOk result (λ row. (y : List ℤ) → IsFeasible x.0 y → All (MeetsRow y) x.1.1 → MeetsRow y row)) both c.row_over.ensures.met;
      fault = subst (λ (x : Program × (List ProofRow × List Row)). IfErr result (HasCutFault x.0 x.1.0 cut)) both c.row_over.ensures.fault;
    }
