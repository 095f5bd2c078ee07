use Rattle.std.proofs.Common.{◌≡◌, ◌++◌, take}
use Rattle.std.specs.List.{flat_map}
use Rattle.cert_format.specs.Plain.{coordinate_text}
use Rattle.cert_write.proofs.writer.put_coordinates.Given as goal

abbrev pub invariant-loop-z : goal.invariant-loop-z
invariant-loop-z l = l.out.items ≡ l.initial.out.items ++ flat_map coordinate_text (take l.z-index l.point)
