use Rattle.std.proofs.Common.{◌≡◌, ◌≢◌, ℕ, List, [], None, ap, sym, subst}
use Rattle.std.specs.Prelude.{ℤ}
use Rattle.std.proofs.lemmas.Result.{IfOk-weaker}
use Rattle.bp_theory.specs.Program.{KeepsActivity}
use Rattle.bp_theory.specs.Decomposition.{proof_rows}
use Rattle.bp_theory.specs.declared.Row.{Row}
use Rattle.cut_sums.specs.declared.fault.CutFault.TheVariants.{NoMemory}
use Rattle.cut_sums.specs.PlainSteps.{IsPlainOf}
use Rattle.cut_sums.specs.Rows.{program_of, rows_in}
use Rattle.cut_sums.specs.declared.rows.Rows.{Rows}
use Rattle.round_cut.proofs.PlainCuts.{lone_over, plain_is, plain_none, refused}
use Rattle.round_cut.proofs.plain.plain_cut.Goals as goal

-- rows without earlier cuts
named : (s : Rows) → s.earlier.now ≡ [] → rows_in s ≡ proof_rows (program_of s) s.b.now.dec []
named s none = ap (λ (earlier : List Row). proof_rows (program_of s) s.b.now.dec earlier) none

pub row_over-requires : goal.row_over-requires
row_over-requires c = record {
  rows = c.requires.rows;
  cut = lone_over (rows_in c.args.rows.now) c.in_ok-cut.cut c.args.mult.now c.args.q c.in_ok-cut.ensures.divisor c.in_ok-cut.ensures.rows c.requires.sharp
      c.requires.unit;
}

pub returns-in-Ok : goal.returns-in-Ok
returns-in-Ok c =
    let s = c.args.rows.now in
    plain_is (program_of s) s.b.now.dec (rows_in s) c.in_ok-cut.cut c.args.mult.now c.args.q (named s c.requires.none) c.in_ok-cut.ensures.divisor
    c.in_ok-cut.ensures.rows c.requires.sharp c.requires.unit c.in-Ok.ensures.signs (subst (KeepsActivity (program_of s)) c.in-Ok.ensures.row c.in-Ok.ensures.kept.bounded)

pub returns-in-Err : goal.returns-in-Err
returns-in-Err c =
    let s = c.args.rows.now in
    let p = program_of s in
    let d = s.b.now.dec in
    let m : ℕ × ℤ = c.args.mult.now in
    IfOk-weaker c.none_for.result (λ found. (found ≡ None) × (c.in-Err.fault ≢ NoMemory)) (IsPlainOf p d m)
    (λ found h. subst (IsPlainOf p d m) (sym h.0)
    (plain_none p d (rows_in s) c.in_ok-cut.cut m c.args.q (named s c.requires.none) c.in_ok-cut.ensures.divisor c.in_ok-cut.ensures.rows c.requires.sharp
    (refused p (rows_in s) c.in_ok-cut.cut c.in-Err.fault h.1 c.in-Err.ensures.fault)))
    c.none_for.ensures
