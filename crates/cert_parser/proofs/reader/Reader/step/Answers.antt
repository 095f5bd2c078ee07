use Rattle.cert_parser.specs.Builders.{waits_of, root_of, cuts_of}
use Rattle.cert_parser.proofs.ReaderFacts.{line_at_fault}
use Rattle.cert_parser.proofs.reader.Reader.step.Goals as goal

pub returns-in-Err : goal.returns-in-Err
returns-in-Err c =
    let above = waits_of c.args.self.now.pending.items in
    let root = root_of c.args.self.now.root in
    let cuts = cuts_of c.args.self.now in
    λ text small builds. line_at_fault above root cuts c.args.frame.now c.step.new.self c.args.self.now text c.args.byte c.in-Err.fault (c.in-Err.ensures.steps above root cuts text small builds)
