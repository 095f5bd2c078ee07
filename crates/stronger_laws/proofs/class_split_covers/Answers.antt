use Rattle.stronger_laws.proofs.ClassCoverProof.{class_split_covers_lem}
use Rattle.stronger_laws.proofs.class_split_covers.Goals as goal

pub returns : goal.returns
returns c = class_split_covers_lem
