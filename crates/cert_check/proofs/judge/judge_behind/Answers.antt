use Rattle.std.proofs.Common.{List, [], Result, subst, sym, Err}
use Rattle.bp_theory.specs.declared.Cut.{Cut}
use Rattle.bp_theory.specs.declared.Row.{Row}
use Rattle.cert_format.specs.Sketch.{tree_of}
use Rattle.round_cut.specs.Several.{AreCutsOver}
use Rattle.cert_line_check.specs.Cutting.{JudgesCuts}
use Rattle.cert_line_check.specs.declared.place.Rejection.{Rejection}
use Rattle.cert_line_check.proofs.Heads.{cuts_over}
use Rattle.cert_check.proofs.Wholes.{cut_rejected}
use Rattle.cert_check.proofs.judge.judge_behind.Goals as goal

pub judge_cuts-requires-clause-cuts : goal.judge_cuts-requires-clause-cuts
judge_cuts-requires-clause-cuts c =
    let b = c.args.b.now in
    let cert = c.args.cert.now in
    subst (λ (cs : List Cut). AreCutsOver b.named.program b.dec [] cs) (sym c.cuts.ensures) (cuts_over b.named.program b.dec [] cert.cuts c.requires.goes_with.cuts)

pub returns-in-Err : goal.returns-in-Err
returns-in-Err c =
    let b = c.args.b.now in
    let cert = c.args.cert.now in
    let R : Result (List Row) Rejection → Type 0 = λ r. JudgesCuts b.named.program b.dec c.cuts.result.now c.args.line r in
    let S : List Cut → Type 0 = λ cs. JudgesCuts b.named.program b.dec cs c.args.line (Err c.in-Err.found) in
    let both = cut_rejected b cert.claim cert.point cert.cuts (tree_of cert.tree) c.args.left c.args.line c.in-Err.found c.rejected.result c.rejected.ensures c.requires.point
    (subst S c.cuts.ensures (subst R c.in-Err.is c.in_ok-found.ensures)) in
    record { judged = both.0; truth = both.1 }
