-- Proofs that are kept by the lists of others.
use Rattle.std.specs.Prelude.{Option, Some, None}
use Rattle.std.specs.declared.alloc.Global.{Global}
use Rattle.std.specs.declared.rc.Rc.{Rc}
use Rattle.bp_theory.specs.Bound.{plain_proof}
use Rattle.bp_theory.specs.declared.Proof.{Proof}
use Rattle.open_nodes.specs.Changes.{replay}
use Rattle.open_nodes.specs.declared.shared.Kept.{Kept}

-- the proof of scale, multipliers and picked blocks that are kept
abbrev pub proof_of : Kept → Proof
proof_of kept = record { scale = kept.scale; mults = replay kept.base.value kept.changes; picked = kept.picked }

-- the proof that stands where one is kept, or the plain one where none is
abbrev pub proof_in : Option (Rc Kept Global) → Proof
proof_in None = plain_proof
proof_in (Some kept) = proof_of kept.value
