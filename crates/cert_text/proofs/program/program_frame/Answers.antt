use Rattle.std.proofs.Common.{Bool, List, length, ap, arith}
use Rattle.cert_text.proofs.NamedRows.{rows_few, masters_long}
use Rattle.cert_text.proofs.program.program_frame.Goals as goal

pub invariant_of-result-clause-few_rows : goal.invariant_of-result-clause-few_rows
invariant_of-result-clause-few_rows c =
    let b = c.args.b.now in
    let formed = c.model.ensures.formed in
    let masters = ap (λ (ms : List Bool). length ms) c.in_ok-masters.ensures in
    omega (arith, masters, masters_long b, rows_few b formed, c.link_rows-links.ensures)
