use Rattle.stronger_laws.proofs.ClassCoverProof.{class_cover_lem}
use Rattle.stronger_laws.proofs.class_cover.Goals as goal

pub returns : goal.returns
returns c = class_cover_lem
