use Rattle.std.proofs.Common.{refl, arith}
use Rattle.cert_parser.proofs.LineFacts.{first_place, first_uncut}
use Rattle.cert_parser.proofs.Telling.{first_phase, first_shallow}
use Rattle.cert_parser.proofs.lines.Lines.begin_tree.Goals as goal

pub returns-clause-place : goal.returns-clause-place
returns-clause-place c =
    let new = record c.args.self.now { depth = 0; highs = c.new.result; had = c.new-2.result; cuts = 0; spot = c.first_spot-spot.result } in
    λ above root cuts n. first_place root new n c.first_spot-spot.result c.new-2.ensures c.first_spot-spot.ensures

pub returns-clause-highs : goal.returns-clause-highs
returns-clause-highs c =
    let none = first_uncut c.args.self.now.version c.first_spot-spot.result c.first_spot-spot.ensures in
    λ above cuts. record { depth = refl; highs = c.new.ensures.items; cuts = omega (arith, none); few = omega arith }

pub returns-clause-told : goal.returns-clause-told
returns-clause-told c =
    let v = c.args.self.now.version in
    λ limits before. (before, first_phase v c.first_spot-spot.result c.first_spot-spot.ensures, first_shallow limits v c.first_spot-spot.result 0 c.first_spot-spot.ensures)
