use Rattle.stronger_laws.proofs.KeepProof.{wide_rows_keep_lem}
use Rattle.stronger_laws.proofs.wide_rows_keep.Goals as goal

pub returns : goal.returns
returns c = wide_rows_keep_lem
