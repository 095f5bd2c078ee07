use Rattle.bp_theory.specs.Decomposition.{proof_rows}
use Rattle.cert_line_check.proofs.CutLines.{sign_fails, size_fails}
use Rattle.cert_line_check.proofs.cuts.judge_cut.Goals as goal

pub returns-in-Err-Sign : goal.returns-in-Err-Sign
returns-in-Err-Sign c =
    let p = c.args.b.now.named.program in
    let rows = proof_rows p c.args.b.now.dec c.args.earlier.now in
    let fault = c.in-Err-Sign.ensures.fault in
    sign_fails p rows c.args.cut.now c.args.line c.fault_at.result c.fault_at.ensures (rw c.in-Err-Sign.field-0-is at fault)

pub returns-in-Err-Large : goal.returns-in-Err-Large
returns-in-Err-Large c =
    let p = c.args.b.now.named.program in
    let rows = proof_rows p c.args.b.now.dec c.args.earlier.now in
    let fault = c.in-Err-Large.ensures.fault in
    let both = rw c.in-Err-Large.field-0-is at fault in
    size_fails p rows c.args.cut.now c.args.line c.fault_at-in-Err-Large.result c.fault_at-in-Err-Large.ensures c.requires.cut both.0 both.1
