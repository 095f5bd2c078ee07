use Rattle.stronger_laws.proofs.ClassPartsProof.{class_parts_are_zones_lem}
use Rattle.stronger_laws.proofs.class_parts_are_zones.Goals as goal

pub returns : goal.returns
returns c = class_parts_are_zones_lem
