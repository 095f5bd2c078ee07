use Rattle.std.proofs.Common.{arith}
use Rattle.bp_theory.specs.Program.{IsWithin}
use Rattle.bp_theory.proofs.ZipLaws.{AllZip-from_places}
use Rattle.bp_model.proofs.points.first_outside.Goals as goal

pub returns : goal.returns
returns c = AllZip-from_places IsWithin c.args.spans.now c.args.point.now (omega arith) (λ k d e l. c.loop-i.invariant k d e (omega arith))
