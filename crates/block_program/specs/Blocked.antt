-- Programs in blocks, and blocks beside their spans at the root.
use Rattle.std.specs.Prelude.{◌≡◌, ℕ, List, [], ◌∷◌, map, length, ℤ, All, Option, ◌≤◌, ◌<◌, slice_index_or}
use Rattle.bp_theory.specs.Limits.{most_parts}
use Rattle.bp_theory.specs.Blocking.{Copy, Block, Blocking}
use Rattle.bp_theory.specs.Bound.{spans_of}
use Rattle.bp_theory.specs.Decomposition.{Decomposition, HasPlaces, HasLargeLinks, blocking_of}
use Rattle.bp_theory.specs.Cuts.{cut_rows}
use Rattle.bp_theory.specs.declared.Cut.{Cut}
use Rattle.bp_theory.specs.declared.Row.{Row}
use Rattle.bp_theory.specs.declared.Span.{Span}
use Rattle.bp_theory.specs.declared.MasterRow.{MasterRow}
use Rattle.bp_model.specs.Named.{NamedProgram, IsKept}
use Rattle.block_program.specs.Cuts.{KeepsCuts}

-- a block beside the spans of its copies at the root
pub record RootBlock : Type 0 where
  pub block : Block
  pub spans : List Span

-- a program with names, a decomposition of it, cuts, and its blocking
pub record BlockedProgram : Type 0 where
  pub named : NamedProgram
  pub dec : Decomposition
  pub cuts : List Cut
  pub blocking : Blocking

-- what a program in blocks keeps: its limits, at most so many blocks as may be, a place for each row, few and small link rows and cuts, and the blocking
-- that the decomposition and the cuts give the program
pub record IsFormed (b : BlockedProgram) : Type 0 where
  pub kept : IsKept b.named
  pub places : HasPlaces b.named.program b.dec
  pub count : length b.blocking.blocks ≤ most_parts
  pub moderate : HasLargeLinks b.named.program b.dec → ⊥
  pub cuts_kept : KeepsCuts b.named.program b.dec b.cuts
  pub blocking : b.blocking ≡ blocking_of b.named.program b.dec (cut_rows b.named.program b.dec [] b.cuts)

-- copies from their variables, costs and coefficients
abbrev pub copies_from : List ℕ → List ℤ → List (List (ℕ × ℤ)) → List Copy
copies_from [] costs coefs = []
copies_from (v ∷ vs) [] coefs = []
copies_from (v ∷ vs) (c ∷ cs) [] = []
copies_from (v ∷ vs) (c ∷ cs) (m ∷ ms) = record { var = v; cost = c; coefs = m } ∷ copies_from vs cs ms

-- each block has the spans of its copies
abbrev pub HaveRootSpans : List Span → List RootBlock → Type 0
HaveRootSpans spans blocks = All (λ k. k.spans ≡ spans_of spans k.block) blocks

-- the block of a number has a copy of a variable at a place: the two numbers together
pub record HasCopyAt (blocks : List Block) (v : ℕ) (at : ℕ × ℕ) : Type 0 where
  pub there : at.0 < length blocks
  pub within : (d : Block) → at.1 < length (slice_index_or blocks at.0 d).copies
  pub var : (d : Block) (c : Copy) → (slice_index_or (slice_index_or blocks at.0 d).copies at.1 c).var ≡ v

-- the first copy of a variable: no block before has one
pub record IsFirstCopyAt (blocks : List Block) (v : ℕ) (at : ℕ × ℕ) : Type 0 where
  pub copy : HasCopyAt blocks v at
  pub first : (other : ℕ × ℕ) → HasCopyAt blocks v other → at.0 ≤ other.0

-- each of so many variables has its first copy in its place
pub record ArePlaces (blocks : List Block) (vars : ℕ) (places : List (ℕ × ℕ)) : Type 0 where
  pub each : length places ≡ vars
  pub copies : (v : ℕ) → v < vars → IsFirstCopyAt blocks v (slice_index_or places v (0, 0))

-- blocks and rows of proofs as a model, a decomposition of it and rows of cuts make them
pub record AreMade (named : NamedProgram) (dec : Decomposition) (cuts : List Row) (blocks : List RootBlock) (rows : List (Option MasterRow)) : Type 0 where
  pub count : length blocks ≤ most_parts
  pub blocking : ◌≡◌ {A = Blocking} (record { constant = named.program.constant; blocks = map (λ (k : RootBlock). k.block) blocks; rows = rows })
      (blocking_of named.program dec cuts)
  pub spans : HaveRootSpans named.program.spans blocks

-- what a model, a decomposition of it and cuts become a program in blocks with
pub record AreParts (named : NamedProgram) (dec : Decomposition) (cuts : List Cut) (blocks : List RootBlock) (rows : List (Option MasterRow)) : Type 0 where
  pub formed : IsFormed (record {
    named = named;
    dec = dec;
    cuts = cuts;
    blocking = record { constant = named.program.constant; blocks = map (λ (k : RootBlock). k.block) blocks; rows = rows };
  })
  pub spans : HaveRootSpans named.program.spans blocks
