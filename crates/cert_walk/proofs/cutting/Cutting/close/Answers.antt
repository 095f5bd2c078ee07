use Rattle.std.proofs.Common.{Some, refl}
use Rattle.cert_walk.specs.declared.cutting.Cutting.{Cutting}
use Rattle.cert_walk.proofs.CutFacts.{closed_cutting}
use Rattle.cert_walk.proofs.cutting.Cutting.close.Goals as goal

pub returns-clause-cutting : goal.returns-clause-cutting
returns-clause-cutting c =
    let now : Cutting = record { cuts = c.new.result; rows = c.new-2.result; program = Some c.in_ok-program.program } in
    let made = c.in_ok-program.ensures in
    closed_cutting c.args.b.now now c.in_ok-program.program c.new.ensures c.new-2.ensures refl (record { formed = made.formed; named = made.model; dec = made.dec; cuts = refl })
