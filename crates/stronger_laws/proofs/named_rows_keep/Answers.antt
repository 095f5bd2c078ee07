use Rattle.stronger_laws.proofs.KeepProof.{named_rows_keep_lem}
use Rattle.stronger_laws.proofs.named_rows_keep.Goals as goal

pub returns : goal.returns
returns c = named_rows_keep_lem
