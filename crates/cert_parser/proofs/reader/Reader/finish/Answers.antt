use Rattle.std.proofs.Common.{ap, map}
use Rattle.cert_format.specs.Written.{written_cut}
use Rattle.cert_parser.specs.Builders.{waits_of, root_of, cuts_of}
use Rattle.cert_parser.proofs.Finishing.{taken_well}
use Rattle.cert_parser.proofs.Feeding.{finish_fault}
use Rattle.cert_parser.proofs.reader.Reader.finish.Goals as goal

pub returns-in-Err : goal.returns-in-Err
returns-in-Err c =
    let above = waits_of c.args.self.pending.items in
    let root = root_of c.args.self.root in
    let cuts = cuts_of c.args.self in
    λ text stands. finish_fault above root cuts c.args.frame.now c.args.self.lines text c.in-Err.fault (c.in-Err.ensures.ends above root cuts text stands)

pub returns : goal.returns
returns c =
    let above = waits_of c.args.self.pending.items in
    let root = root_of c.args.self.root in
    let cuts = cuts_of c.args.self in
    let r = c.args.self.lines in
    λ text stands. let ends = c.in-Ok.ensures.ends above root cuts text stands in
    taken_well above root cuts c.args.frame.now r text c.in-Ok-new.cert ends.0 ends.1 ends.2 c.in-Ok-new.ensures.claim c.in-Ok-new.ensures.point
    (ap (map written_cut) c.in-Ok-new.ensures.cuts) (ap root_of c.in-Ok-new.ensures.tree)
