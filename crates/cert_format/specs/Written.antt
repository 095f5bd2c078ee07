-- Certificates as their texts have them: variables, rows and blocks go by their numbers from 1.
use Rattle.std.specs.Prelude.{ℕ, ◌+◌, List, [], map, Some, None, ℤ, unwrap_or}
use Rattle.std.specs.Option.{option_map}
use Rattle.bp_theory.specs.declared.Claim.{Claim}
use Rattle.bp_theory.specs.declared.Claim.TheVariants as claims
use Rattle.bp_theory.specs.declared.Picked.{Picked}
use Rattle.bp_theory.specs.declared.Picked.TheVariants as picks
use Rattle.bp_theory.specs.declared.Proof.{Proof}
use Rattle.bp_theory.specs.declared.Cut.{Cut}
use Rattle.bp_theory.specs.Trees.{Tree, shut_leaf, open_leaf, split}
use Rattle.bp_theory.specs.Claims.{Certificate}
use Rattle.bp_theory.specs.Judgement.{named_value}
use Rattle.cert_format.specs.Cert as texts

-- the number in a text of a row or a block
abbrev pub in_text : ℕ → ℕ
in_text k = k + 1

-- a row with its multiplier
abbrev pub written_pair : ℕ × ℤ → ℕ × ℤ
written_pair pair = (in_text pair.0, pair.1)

-- the priced blocks
abbrev pub written_picked : Picked → texts.Picked
written_picked picks.Every = texts.Every
written_picked (picks.These ks) = texts.These (map in_text ks)

-- a leaf's proof
abbrev pub written_proof : Proof → texts.Proof
written_proof proof = record { scale = proof.scale; pairs = map written_pair proof.mults; picked = written_picked proof.picked }

-- a cut
abbrev pub written_cut : Cut → texts.Cut
written_cut cut = record { divisor = cut.q; pairs = map written_pair cut.rows }

-- a branch tree
abbrev pub written_tree : Tree → texts.Tree
written_tree (shut_leaf proof) = texts.Shut (written_proof proof)
written_tree (open_leaf proof) = texts.Open (written_proof proof)
written_tree (split v at low high) = texts.Split (in_text v) at (written_tree low) (written_tree high)

-- a claim, with the point of its value
abbrev pub written_claim : Claim → List ℤ → texts.Claim
written_claim (claims.Optimal v) point = texts.Optimal v point
written_claim claims.Infeasible point = texts.Infeasible
written_claim (claims.Bound bound None) point = texts.Bound bound
written_claim (claims.Bound bound (Some v)) point = texts.BoundValue bound v point

-- a certificate
abbrev pub cert_of : Certificate → texts.Cert
cert_of cert = record { claim = written_claim cert.claim (unwrap_or cert.point []); cuts = map written_cut cert.cuts; tree = written_tree cert.tree }

-- a certificate with a point exactly where its claim names a value
abbrev pub certificate : Claim → List ℤ → List Cut → Tree → Certificate
certificate claim point cuts tree = record { claim = claim; point = option_map (λ _. point) (named_value claim); cuts = cuts; tree = tree }
