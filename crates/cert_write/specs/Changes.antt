-- Certificates as the lines of versions 2 and 3 have them: each leaf with what it changes of the one before.
use Rattle.std.specs.Prelude.{ℕ, List, ℤ}
use Rattle.bp_theory.specs.declared.Proof.{Proof}
use Rattle.bp_theory.specs.Trees.{Tree, shut_leaf, open_leaf, split}
use Rattle.cert_write.specs.Differences.{difference}

-- a leaf's proof with its changes of these multipliers
abbrev pub changing_proof : List (ℕ × ℤ) → Proof → Proof
changing_proof had proof = record { scale = proof.scale; mults = difference had proof.mults; picked = proof.picked }

-- the multipliers of a tree's last leaf
abbrev pub last_mults : Tree → List (ℕ × ℤ)
last_mults (shut_leaf proof) = proof.mults
last_mults (open_leaf proof) = proof.mults
last_mults (split v at low high) = last_mults high

-- a tree with its leaves' changes, behind a leaf with these multipliers
abbrev pub changing_nodes : List (ℕ × ℤ) → Tree → Tree
changing_nodes had (shut_leaf proof) = shut_leaf (changing_proof had proof)
changing_nodes had (open_leaf proof) = open_leaf (changing_proof had proof)
changing_nodes had (split v at low high) = split v at (changing_nodes had low) (changing_nodes (last_mults low) high)
