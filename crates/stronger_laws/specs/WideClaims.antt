-- Valid certificates with cuts of all kinds, rows of blocks in proofs, and class splits.
use Rattle.std.specs.Prelude.{IsTrue, List, [], map, Option, ℤ, All}
use Rattle.bp_theory.specs.Program.{Program, KeepsActivity}
use Rattle.bp_theory.specs.Blocking.{Blocking}
use Rattle.bp_theory.specs.Decomposition.{Decomposition, blocking_of}
use Rattle.bp_theory.specs.Bound.{SignsFit}
use Rattle.bp_theory.specs.Trees.{Tree, shut_leaf as shut_tree, open_leaf as open_tree, split as split_tree}
use Rattle.bp_theory.specs.Claims.{Certificate, Shows, PointFits, MayBeOpen}
use Rattle.bp_theory.specs.declared.Claim.{Claim}
use Rattle.stronger_laws.specs.WideRows.{wide_blocking}
use Rattle.stronger_laws.specs.AllCuts.{any_rows, AreFittingAll}
use Rattle.stronger_laws.specs.ClassTrees.{ClassTree, shut_leaf, open_leaf, split, class_leaves, HasSoundNodes}
use Rattle.stronger_laws.specs.declared.AnyCut.{AnyCut}
use Rattle.stronger_laws.specs.declared.AnyCut.TheVariants.{Rounding}

-- a certificate: a claim, the point of a claimed value, cuts, and a tree of proofs
pub record WideCertificate : Type 0 where
  pub claim : Claim
  pub point : Option (List ℤ)
  pub cuts : List AnyCut
  pub tree : ClassTree

-- a certificate is valid for a program, a blocking by which classes are told, and one that proofs are over
pub record IsWideValid (p : Program) (classes b : Blocking) (cert : WideCertificate) : Type 0 where
  pub point : PointFits p cert.claim cert.point
  pub splits : HasSoundNodes classes cert.tree p.spans
  pub signs : All (λ leaf. SignsFit b leaf.proof) (class_leaves classes cert.tree p.spans)
  pub shown : All (Shows p b cert.claim) (class_leaves classes cert.tree p.spans)
  pub shut : All (λ leaf. IsTrue leaf.is_open → MayBeOpen cert.claim) (class_leaves classes cert.tree p.spans)

-- a certificate is valid for a program and a decomposition: its cuts fit and keep the limit, classes are told without
-- the cuts, and it is valid for the blocking with their rows, in which proofs may name rows of blocks
pub record IsWideCertified (p : Program) (d : Decomposition) (cert : WideCertificate) : Type 0 where
  pub fitting : AreFittingAll p d [] cert.cuts
  pub bounded : All (KeepsActivity p) (any_rows p d [] cert.cuts)
  pub valid : IsWideValid p (blocking_of p d []) (wide_blocking p d (any_rows p d [] cert.cuts)) cert

-- a tree of plain splits alone, and a certificate of rounding cuts and such a tree
abbrev pub as_class : Tree → ClassTree
as_class (shut_tree proof) = shut_leaf proof
as_class (open_tree proof) = open_leaf proof
as_class (split_tree v at low high) = split v at (as_class low) (as_class high)

abbrev pub as_wide : Certificate → WideCertificate
as_wide cert = record { claim = cert.claim; point = cert.point; cuts = map Rounding cert.cuts; tree = as_class cert.tree }
