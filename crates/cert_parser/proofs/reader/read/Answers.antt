use Rattle.std.proofs.Common.{arith}
use Rattle.cert_parser.proofs.Feeding.{read_fault}
use Rattle.cert_parser.proofs.reader.read.Goals as goal

pub returns-in-Err : goal.returns-in-Err
returns-in-Err c = read_fault c.args.frame.now c.feed.new.self c.args.bytes.now c.in-Err.fault (c.in-Err.ensures _ (omega arith) (c.new-reader.ensures c.args.frame.now))

pub returns-in-Ok : goal.returns-in-Ok
returns-in-Ok c = c.finish.ensures c.args.bytes.now (c.in-Ok.ensures _ (omega arith) (c.new-reader.ensures c.args.frame.now))
