use Rattle.std.proofs.Common.{arith}
use Rattle.cert_text.proofs.GoesWithProof.{goes_with_read, read_by}
use Rattle.cert_text.proofs.program.read_cert.Goals as goal

pub returns-in-Ok-clause-read : goal.returns-in-Ok-clause-read
returns-in-Ok-clause-read c = read_by c.args.b.now c.in-Ok.frame c.args.bytes.now c.read.result c.in-Ok.ensures.frame c.read.ensures

pub returns-in-Ok-clause-goes_with : goal.returns-in-Ok-clause-goes_with
returns-in-Ok-clause-goes_with c =
    goes_with_read c.args.b.now c.in-Ok.ensures.formed c.args.bytes.now (omega arith) c.read.result
    (read_by c.args.b.now c.in-Ok.frame c.args.bytes.now c.read.result c.in-Ok.ensures.frame c.read.ensures)
