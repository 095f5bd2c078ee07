-- Certificates of programs in blocks: what reading needs to know, what is read, and what holds of it.
use Rattle.std.specs.Prelude.{◌≡◌, IfSome, ℕ, ◌+◌, ◌-◌, ◌<◌, ◌≤◌, Bool, false, ◌&&◌, List, [], ◌∷◌, ◌++◌, length, map, is_some, nat_lt, slice_index_or, All, Result, Ok, Err, Some, None, ℤ, unsigned_abs}
use Rattle.std.specs.List.{range_with_len}
use Rattle.bp_theory.specs.Program.{Program}
use Rattle.bp_theory.specs.Blocking.{row_at}
use Rattle.bp_theory.specs.Decomposition.{Decomposition, ProofRow, whole_row, link_row, no_row, proof_rows}
use Rattle.bp_theory.specs.Cuts.{cut_row}
use Rattle.bp_theory.specs.Bound.{Fits}
use Rattle.bp_theory.specs.Trees.{Tree, leaves, depth, HasSoundSplits}
use Rattle.bp_theory.specs.Claims.{Certificate}
use Rattle.bp_theory.specs.Judgement.{judged_lines, blocking_with}
use Rattle.bp_theory.specs.declared.Limits.{Limits}
use Rattle.bp_theory.specs.declared.Row.{Row}
use Rattle.bp_theory.specs.declared.Cut.{Cut}
use Rattle.bp_theory.specs.declared.Claim.{Claim}
use Rattle.bp_theory.specs.declared.Claim.TheVariants.{Optimal, Infeasible, Bound}
use Rattle.block_program.specs.Blocked.{BlockedProgram, IsFormed}
use Rattle.block_program.specs.Cuts.{IsSmallCut}
use Rattle.cert_format.specs.Cert as texts
use Rattle.bp_theory.specs.Limits.{greatest_depth, most_cuts, number_limit}
use Rattle.cert_format.specs.Text.{One, Three}
use Rattle.cert_format.specs.Fault.{IsText, IsCertText, IsFirstCertFault}
use Rattle.cert_format.specs.Kept.{kept_cert}
use Rattle.cert_format.specs.Plain.{plain_text}
use Rattle.cert_write.specs.Changes.{changing_nodes}
use Rattle.cert_format.specs.Written.{cert_of, certificate}
use Rattle.cert_format.specs.declared.cert.Cert.{Cert as Kept}
use Rattle.cert_format.specs.declared.fault.CertFault.{CertFault}
use Rattle.cert_format.specs.declared.fault.CertFault.TheVariants.{At, NoMemory}

-- so many variables, link rows and blocks under these limits, and for each row of the model whether it is a master row, by the numbers in
-- texts
abbrev pub frame_by : ℕ → List Bool → ℕ → ℕ → Limits → texts.Frame
frame_by variables masters links blocks limits = record {
  variables = variables;
  rows = length masters;
  is_master = λ row. nat_lt 0 row && slice_index_or masters (row - 1) false;
  links = links;
  blocks = blocks;
  limits = limits;
}

-- for each row of the model, whether it is a master row: proofs may name it
abbrev pub masters_of : BlockedProgram → List Bool
masters_of b = map (λ row. is_some (row_at b.blocking row)) (range_with_len 0 (length b.named.program.rows))

-- how many link rows there are: the rows that proofs may name between the model's and the cuts
abbrev pub links_behind : BlockedProgram → ℕ
links_behind b = length b.blocking.rows - length b.named.program.rows - length b.cuts

-- what reading needs to know of a program in blocks
abbrev pub frame_for : BlockedProgram → texts.Frame
frame_for b = frame_by (length b.named.program.spans) (masters_of b) (links_behind b) (length b.blocking.blocks) b.named.program.limits

-- what is read of a text for a program in blocks: the certificate that the text has, or else its first fault
abbrev pub ReadsFor : BlockedProgram → List ℕ → Result Kept CertFault → Type 0
ReadsFor b text (Ok cert) = IsCertText (frame_for b) (kept_cert cert) text
ReadsFor b text (Err NoMemory) = Unit {0}
ReadsFor b text (Err (At line kind)) = IsFirstCertFault (frame_for b) text line kind

-- a number of texts
abbrev pub IsSmall : ℤ → Type 0
IsSmall z = unsigned_abs z < number_limit

-- the numbers of a claim are those of texts
abbrev pub IsSmallClaim : Claim → Type 0
IsSmallClaim (Optimal v) = IsSmall v
IsSmallClaim Infeasible = Unit {0}
IsSmallClaim (Bound b None) = IsSmall b
IsSmallClaim (Bound b (Some v)) = IsSmall b × IsSmall v

-- a row that cuts may combine: a master row or an earlier cut
abbrev pub IsWhole : ProofRow → Type 0
IsWhole (whole_row row) = Unit {0}
IsWhole (link_row v k) = ⊥
IsWhole no_row = ⊥

-- a cut over rows that proofs may name: it has a divisor, keeps the limits, and combines master rows and earlier cuts alone
pub record IsOver (rows : List ProofRow) (cut : Cut) : Type 0 where
  pub divides : 0 < cut.q
  pub small : IsSmallCut cut
  pub whole : All (λ m. IsWhole (slice_index_or rows m.0 no_row)) cut.rows

-- each cut is over the rows of proofs before it
abbrev pub AreOver : Program → Decomposition → List Row → List Cut → Type 0
AreOver p d earlier [] = Unit {0}
AreOver p d earlier (cut ∷ cuts) =
    IsOver (proof_rows p d earlier) cut × AreOver p d (earlier ++ cut_row p (proof_rows p d earlier) cut ∷ []) cuts

-- a certificate goes with a program: its claim keeps the limit of numbers, its cuts are few, and each is one over the rows before it, the proofs
-- of its leaves fit the program with these cuts, no node is too deep, and its lines can be counted
pub record GoesWith (b : BlockedProgram) (cert : Certificate) : Type 0 where
  pub claim : IsSmallClaim cert.claim
  pub few : length cert.cuts ≤ most_cuts
  pub cuts : AreOver b.named.program b.dec [] cert.cuts
  pub fits : All (λ leaf. Fits (blocking_with b.named.program b.dec cert) leaf.proof) (leaves cert.tree b.named.program.spans)
  pub shallow : depth cert.tree ≤ greatest_depth b.named.program.limits
  pub lines : 3 + length (judged_lines b.named.program b.dec cert) ≤ number_limit

-- so many numbers of texts
pub record IsSmallPoint (count : ℕ) (zs : List ℤ) : Type 0 where
  pub each : length zs ≡ count
  pub small : All IsSmall zs

-- a certificate that may be written for a program: the numbers of its claim and its point are those of texts, its cuts are few, and
-- each is one over the rows before it, its splits are sound, the proofs of its leaves fit, and no node is too deep
pub record CanWrite (b : BlockedProgram) (cert : Certificate) : Type 0 where
  pub claim : IsSmallClaim cert.claim
  pub point : IfSome cert.point (IsSmallPoint (length b.named.program.spans))
  pub few : length cert.cuts ≤ most_cuts
  pub cuts : AreOver b.named.program b.dec [] cert.cuts
  pub splits : HasSoundSplits cert.tree b.named.program.spans
  pub fits : All (λ leaf. Fits (blocking_with b.named.program b.dec cert) leaf.proof) (leaves cert.tree b.named.program.spans)
  pub shallow : depth cert.tree ≤ greatest_depth b.named.program.limits

-- a certificate's text: with cuts that of version 3, else that of version 1
abbrev pub HasItsText : texts.Frame → Claim → List ℤ → List Cut → Tree → Type 0
HasItsText frame claim zs [] t = IsText frame One (cert_of (certificate claim zs [] t)) (plain_text One claim zs [] t)
HasItsText frame claim zs (cut ∷ cuts) t =
    IsText frame Three (cert_of (certificate claim zs (cut ∷ cuts) t)) (plain_text Three claim zs (cut ∷ cuts) (changing_nodes [] t))

-- a certificate within the limits has its text, without a fault
abbrev pub LimitsSuffice : Type 0
LimitsSuffice = (b : BlockedProgram) → IsFormed b → (claim : Claim) (zs : List ℤ) (cuts : List Cut) (t : Tree) → CanWrite b (certificate claim zs cuts t)
    → HasItsText (frame_for b) claim zs cuts t
