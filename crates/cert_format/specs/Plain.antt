-- The bytes of certificates, part by part, without regard to faults.
use Rattle.std.specs.Prelude.{ℕ, ◌+◌, List, [], ◌∷◌, ◌++◌, length, codes, Option, Some, None, ℤ}
use Rattle.std.specs.List.{flat_map}
use Rattle.bp_theory.specs.declared.Claim.{Claim}
use Rattle.bp_theory.specs.declared.Cut.{Cut}
use Rattle.bp_theory.specs.declared.Claim.TheVariants.{Optimal, Infeasible, Bound}
use Rattle.bp_theory.specs.declared.Picked.{Picked}
use Rattle.bp_theory.specs.declared.Picked.TheVariants.{Every, These}
use Rattle.bp_theory.specs.declared.Proof.{Proof}
use Rattle.bp_theory.specs.Trees.{Tree, shut_leaf, open_leaf, split}
use Rattle.cert_format.specs.Text.{Version, Two, Three, version_word, pairs_word, numeral, signed_numeral}

-- a row and its multiplier
abbrev pub pair_text : ℕ × ℤ → List ℕ
pair_text pair = codes " " ++ numeral (pair.0 + 1) ++ codes " " ++ signed_numeral pair.1

-- a block
abbrev pub block_text : ℕ → List ℕ
block_text k = codes " " ++ numeral (k + 1)

-- a value of a point
abbrev pub coordinate_text : ℤ → List ℕ
coordinate_text z = codes " " ++ signed_numeral z

-- the priced blocks
abbrev pub picked_text : Picked → List ℕ
picked_text Every = codes "all"
picked_text (These ks) = numeral (length ks) ++ flat_map block_text ks

-- a leaf's multipliers and the blocks that it prices, to the end of its line
abbrev pub tail_text : List (ℕ × ℤ) → Picked → List ℕ
tail_text pairs picked = numeral (length pairs) ++ flat_map pair_text pairs ++ codes " priced " ++ picked_text picked ++ codes "\n"

-- a leaf's line behind its first word, where the proof has the multipliers of the line
abbrev pub proof_text : Version → Proof → List ℕ
proof_text version proof = numeral proof.scale ++ pairs_word version ++ tail_text proof.mults proof.picked

-- the lines of a tree
abbrev pub tree_text : Version → Tree → List ℕ
tree_text version (shut_leaf proof) = codes "leaf " ++ proof_text version proof
tree_text version (open_leaf proof) = codes "open " ++ proof_text version proof
tree_text version (split v at low high) = codes "split " ++ numeral (v + 1) ++ codes " " ++ signed_numeral at ++ codes "\n" ++ tree_text version low ++ tree_text version high

-- the line of a point
abbrev pub point_text : List ℤ → List ℕ
point_text zs = codes "point" ++ flat_map coordinate_text zs ++ codes "\n"

-- the line of a claimed bound behind its words, and that of its point
abbrev pub bound_text : ℤ → Option ℤ → List ℤ → List ℕ
bound_text b None zs = signed_numeral b ++ codes "\n"
bound_text b (Some v) zs = signed_numeral b ++ codes " value " ++ signed_numeral v ++ codes "\n" ++ point_text zs

-- the line of a claim, and that of its point
abbrev pub claim_text : Claim → List ℤ → List ℕ
claim_text (Optimal v) zs = codes "claim optimal " ++ signed_numeral v ++ codes "\n" ++ point_text zs
claim_text Infeasible zs = codes "claim infeasible\n"
claim_text (Bound b v) zs = codes "claim bound " ++ bound_text b v zs

-- a first line
abbrev pub version_text : Version → List ℕ
version_text version = codes "bpcert " ++ version_word version ++ codes "\n"

-- a cut's line
abbrev pub cut_text : Cut → List ℕ
cut_text cut = codes "cut " ++ numeral cut.q ++ codes " rows " ++ numeral (length cut.rows) ++ flat_map pair_text cut.rows ++ codes "\n"

-- the version of a certificate with these cuts whose leaves have changes
abbrev pub version_with : List Cut → Version
version_with [] = Two
version_with (cut ∷ cuts) = Three

-- the lines in front of a tree
abbrev pub head_text : Version → Claim → List ℤ → List Cut → List ℕ
head_text version claim zs cuts = version_text version ++ claim_text claim zs ++ flat_map cut_text cuts

-- a whole certificate, where a leaf's multipliers are those of its line
abbrev pub plain_text : Version → Claim → List ℤ → List Cut → Tree → List ℕ
plain_text version claim zs cuts tree = version_text version ++ claim_text claim zs ++ flat_map cut_text cuts ++ tree_text version tree ++ codes "end\n"
