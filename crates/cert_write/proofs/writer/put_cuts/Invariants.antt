use Rattle.std.proofs.Common.{◌≡◌, ◌++◌, take}
use Rattle.std.specs.List.{flat_map}
use Rattle.cert_format.specs.Plain.{cut_text}
use Rattle.cert_write.proofs.writer.put_cuts.Given as goal

abbrev pub invariant-loop-cut : goal.invariant-loop-cut
invariant-loop-cut l = l.out.items ≡ l.initial.out.items ++ flat_map cut_text (take l.cut-index l.cuts)
