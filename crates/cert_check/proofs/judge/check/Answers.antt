use Rattle.cert_format.specs.Sketch.{tree_of}
use Rattle.cert_check.proofs.Wholes.{point_rejected}
use Rattle.cert_check.proofs.judge.check.Goals as goal

pub returns-in-Err : goal.returns-in-Err
returns-in-Err c =
    let cert = c.args.cert.now in
    let both = point_rejected c.args.b.now cert.claim cert.point cert.cuts (tree_of cert.tree) c.args.visits c.in-Err.found.line c.in-Err.found.kind c.rejected.result c.rejected.ensures
    c.in-Err.ensures in
    record { judged = both.0; truth = both.1 }
