-- The laws over the definitions.
use Rattle.std.specs.Prelude.{ℕ, ◌*◌, ◌<◌, ◌≤◌, ◌≡◌, ◌⊎◌, List, [], ◌++◌, length, map, Option, Some, ℤ, unsigned_abs, IsTrue, All, Any, slice_index_or}
use Rattle.bp_theory.specs.Program.{Program, IsInside, IsFeasible, MeetsRow, cost}
use Rattle.bp_theory.specs.Blocking.{Block, Blocking, IsFaithful, AreImplied, AddsUp}
use Rattle.bp_theory.specs.Decomposition.{Decomposition, ProofRow, no_row, full_row, blocking_of, HasVariablesBelow, IsClosed, HasPlaces}
use Rattle.bp_theory.specs.Bound.{spans_of, reduced_cost, is_picked, IsPart, IsBound, IsEndless, SignsFit}
use Rattle.bp_theory.specs.Cuts.{cut_row, IsFitting}
use Rattle.bp_theory.specs.Classes.{IsSame}
use Rattle.bp_theory.specs.Trees.{IsSubzone, IsProper, high_part}
use Rattle.bp_theory.specs.Claims.{Holds, Empties, Certificate, IsCertified, IsTrueClaim}
use Rattle.bp_theory.specs.Judgement.{named_value, HasItsPoint}
use Rattle.bp_theory.specs.declared.Row.{Row}
use Rattle.bp_theory.specs.declared.Span.{Span}
use Rattle.bp_theory.specs.declared.Proof.{Proof}
use Rattle.bp_theory.specs.declared.Cut.{Cut}
use Rattle.search_laws.specs.Spread.{block_at, HasEachRow}
use Rattle.stronger_laws.specs.WideRows.{wide_rows, blocking_over, wide_blocking, HasKnownVariables, IsMet}
use Rattle.stronger_laws.specs.Mir.{mir_function, mir_row, mir_coefficient, mir_low, summed_side, row_of, IsCombinable, IsFittingMir, named_limit, combination_limit}
use Rattle.stronger_laws.specs.PricedCuts.{priced_row, IsFittingPriced}
use Rattle.stronger_laws.specs.AllCuts.{any_rows, AreFittingAll}
use Rattle.stronger_laws.specs.ClassTrees.{ClassTree, class_leaves, HasSoundNodes, IsSoundClassSplit, class_low_part}
use Rattle.stronger_laws.specs.WideClaims.{WideCertificate, IsWideCertified, as_wide}
use Rattle.stronger_laws.specs.WideJudgement.{IsFirstWideFault}
use Rattle.stronger_laws.specs.Alike.{is_alike, HasDistinctVariables}
use Rattle.stronger_laws.specs.declared.MirCut.{MirCut}
use Rattle.stronger_laws.specs.declared.PricedCut.{PricedCut}
use Rattle.stronger_laws.specs.declared.AnyCut.{AnyCut}
use Rattle.stronger_laws.specs.declared.WideKind.{WideKind}

-- the rounding function doesn't grow a number's size
abbrev pub MirShrinks : Type 0
MirShrinks = (divisor remainder : ℕ) (a : ℤ) → remainder < divisor → unsigned_abs (mir_function divisor remainder a) ≤ unsigned_abs a

-- a point that lies within the spans and meets the rows meets the row of a mixed-integer rounding cut over them
abbrev pub MirIsMet : Type 0
MirIsMet = (p : Program) (rows : List ProofRow) (cut : MirCut) (x : List ℤ) → All (HasKnownVariables p) rows → All (IsMet x) rows
    → IsFittingMir p rows cut → IsInside p.spans x → MeetsRow x (mir_row p rows cut)

-- the side of a combination is within its limit, and the numbers of a fitting cut's row within twice that
pub record MirIsBounded : Type 0 where
  pub side : (p : Program) (rows : List ProofRow) (cut : MirCut) → unsigned_abs (summed_side p rows cut) ≤ combination_limit p rows cut.rows
  pub coefficient : (p : Program) (rows : List ProofRow) (cut : MirCut) (v : ℕ) → IsFittingMir p rows cut
      → unsigned_abs (mir_coefficient p rows cut v) ≤ 2 * combination_limit p rows cut.rows
  pub low : (p : Program) (rows : List ProofRow) (cut : MirCut) → IsFittingMir p rows cut
      → unsigned_abs (mir_low p rows cut) ≤ 2 * combination_limit p rows cut.rows
  pub limit : (p : Program) (rows : List ProofRow) (ms : List (ℕ × ℤ)) (u l : ℕ) → All (λ m. unsigned_abs m.1 ≤ u) ms
      → All (λ m. named_limit p (row_of rows m) ≤ l) ms → combination_limit p rows ms ≤ length ms * (u * l)

-- the blocking in which proofs may name rows of blocks adds up to the program, and where each feasible point meets each
-- cut it is faithful: so all laws of bounds hold over it
pub record WideIsFaithful : Type 0 where
  pub adds_up : (p : Program) (d : Decomposition) (cuts : List Row) → IsClosed p
      → All (λ cut. HasVariablesBelow (length p.spans) cut.terms) cuts
      → AddsUp p (map full_row (wide_rows p d cuts)) (wide_blocking p d cuts)
  pub implied : (p : Program) (d : Decomposition) (cuts : List Row)
      → ((x : List ℤ) → IsFeasible p x → All (MeetsRow x) cuts)
      → AreImplied p (map full_row (wide_rows p d cuts))
  pub faithful : (p : Program) (d : Decomposition) (cuts : List Row) → IsClosed p
      → All (λ cut. HasVariablesBelow (length p.spans) cut.terms) cuts
      → ((x : List ℤ) → IsFeasible p x → All (MeetsRow x) cuts)
      → IsFaithful p (wide_blocking p d cuts)

-- the rows that a proof names are the same in two lists
abbrev pub NamesStay : List ProofRow → List ProofRow → Proof → Type 0
NamesStay rows more proof = All (λ m. slice_index_or rows m.0 no_row ≡ slice_index_or more m.0 no_row) proof.mults

-- further cuts leave the rows that a proof names, and their rows come behind those of the cuts before them
pub record FurtherCutsStay : Type 0 where
  pub names : (p : Program) (d : Decomposition) (cuts more : List Row) (proof : Proof) → SignsFit (wide_blocking p d cuts) proof
      → NamesStay (wide_rows p d cuts) (wide_rows p d (cuts ++ more)) proof
  pub rows : (p : Program) (d : Decomposition) (cuts further : List AnyCut)
      → (more : List Row) × (any_rows p d [] (cuts ++ further) ≡ any_rows p d [] cuts ++ more)

-- each feasible point meets the row of a priced cut behind cuts that each feasible point meets
abbrev pub PricedIsMet : Type 0
PricedIsMet = (p : Program) (d : Decomposition) (cuts : List Row) (cut : PricedCut) (x : List ℤ) → IsClosed p
    → All (λ cut. HasVariablesBelow (length p.spans) cut.terms) cuts → ((y : List ℤ) → IsFeasible p y → All (MeetsRow y) cuts)
    → IsFittingPriced p d (wide_rows p d cuts) cut → IsFeasible p x → MeetsRow x (priced_row cut)

-- each feasible point meets the row of each fitting cut, whatever its kind
pub record AllCutsAreMet : Type 0 where
  pub closed : (p : Program) (d : Decomposition) (cuts : List AnyCut) → AreFittingAll p d [] cuts
      → All (λ cut. HasVariablesBelow (length p.spans) cut.terms) (any_rows p d [] cuts)
  pub met : (p : Program) (d : Decomposition) (cuts : List AnyCut) (x : List ℤ) → IsClosed p → AreFittingAll p d [] cuts
      → IsFeasible p x → All (MeetsRow x) (any_rows p d [] cuts)

-- the test of two blocks tells whether they are the same in a zone
pub record AlikeTells : Type 0 where
  pub same : (zone : List Span) (k l : Block) → IsTrue (is_alike zone k l) → IsSame zone k l
  pub alike : (p : Program) (d : Decomposition) (cuts : List Row) (zone : List Span) (j k : ℕ)
      → j < length (blocking_of p d cuts).blocks → k < length (blocking_of p d cuts).blocks
      → IsSame zone (block_at (blocking_of p d cuts) j) (block_at (blocking_of p d cuts) k)
      → IsTrue (is_alike zone (block_at (blocking_of p d cuts) j) (block_at (blocking_of p d cuts) k))

-- a feasible point of the zone of a sound class split, or another of the same cost, lies in one of the parts
abbrev pub ClassSplitCovers : Type 0
ClassSplitCovers = (p : Program) (rows : List (Option Row)) (b : Blocking) (zone : List Span) (v : ℕ) (at : ℤ) (x : List ℤ)
    → IsFaithful p b → AddsUp p rows b → HasEachRow p rows b → HasDistinctVariables b
    → ((y : List ℤ) → IsInside zone y → IsInside p.spans y)
    → IsSoundClassSplit b zone v at → IsFeasible p x → IsInside zone x
    → IsInside (class_low_part b zone v at) x
    ⊎ ((y : List ℤ) × IsFeasible p y × (cost p y ≡ cost p x) × IsInside (high_part zone v at) y)

-- each feasible point of a tree's zone, or another of the same cost, lies in a leaf
abbrev pub ClassCover : Type 0
ClassCover = (p : Program) (rows : List (Option Row)) (b : Blocking) (t : ClassTree) (zone : List Span) (x : List ℤ)
    → IsFaithful p b → AddsUp p rows b → HasEachRow p rows b → HasDistinctVariables b
    → ((y : List ℤ) → IsInside zone y → IsInside p.spans y)
    → HasSoundNodes b t zone → IsFeasible p x → IsInside zone x
    → (y : List ℤ) × IsFeasible p y × (cost p y ≡ cost p x) × Any (λ leaf. IsInside leaf.zone y) (class_leaves b t zone)

-- what a valid certificate of any cuts, rows and splits claims is true
abbrev pub WideCertifiedIsTrue : Type 0
WideCertifiedIsTrue = (p : Program) (d : Decomposition) (cert : WideCertificate) → IsClosed p → HasPlaces p d
    → IsWideCertified p d cert → IsTrueClaim p cert.claim

-- the parts of a sound class split, and so the zones of the leaves, are proper and lie in the zone
pub record ClassPartsAreZones : Type 0 where
  pub low : (b : Blocking) (zone : List Span) (v : ℕ) (at : ℤ) → IsSoundClassSplit b zone v at → IsProper zone
      → IsProper (class_low_part b zone v at) × IsSubzone (class_low_part b zone v at) zone
  pub high : (b : Blocking) (zone : List Span) (v : ℕ) (at : ℤ) → IsSoundClassSplit b zone v at → IsProper zone
      → IsProper (high_part zone v at) × IsSubzone (high_part zone v at) zone
  pub leaves : (b : Blocking) (t : ClassTree) (zone : List Span) → HasSoundNodes b t zone → IsProper zone
      → All (λ leaf. IsProper leaf.zone × IsSubzone leaf.zone zone) (class_leaves b t zone)

-- a rounding cut as a mixed-integer rounding cut of remainder 1
abbrev pub as_mir : Cut → MirCut
as_mir cut = record { divisor = cut.q; lowered = Some 1; rows = cut.rows; upper = [] }

-- where multipliers of fitting signs are below the divisor, both have the same row
abbrev pub RoundingIsMir : Type 0
RoundingIsMir = (p : Program) (rows : List ProofRow) (cut : Cut) → IsFitting rows cut → All (λ m. IsCombinable (row_of rows m)) cut.rows
    → All (λ m. unsigned_abs m.1 < cut.q) cut.rows → mir_row p rows (as_mir cut) ≡ cut_row p rows cut

-- blocks of equal rows, spans and reduced costs, and picked alike, have the same least reduced cost
abbrev pub PricedAlike : Type 0
PricedAlike = (zone : List Span) (proof : Proof) (j k : ℕ) (b c : Block) (v : ℤ) → b.rows ≡ c.rows → spans_of zone b ≡ spans_of zone c
    → map (reduced_cost proof) b.copies ≡ map (reduced_cost proof) c.copies → is_picked proof.picked j ≡ is_picked proof.picked k
    → IsPart zone proof j b v → IsPart zone proof k c v

-- a proof whose rows stay keeps its signs and its bounds
pub record NamedRowsKeep : Type 0 where
  pub signs : (p : Program) (d : Decomposition) (rows more : List ProofRow) (proof : Proof) → NamesStay rows more proof
      → SignsFit (blocking_over p d rows) proof → SignsFit (blocking_over p d more) proof
  pub bound : (p : Program) (d : Decomposition) (rows more : List ProofRow) (zone : List Span) (proof : Proof) (v : ℤ) → NamesStay rows more proof
      → IsBound (blocking_over p d rows) zone proof v → IsBound (blocking_over p d more) zone proof v
  pub endless : (p : Program) (d : Decomposition) (rows more : List ProofRow) (zone : List Span) (proof : Proof) → NamesStay rows more proof
      → IsEndless (blocking_over p d rows) zone proof → IsEndless (blocking_over p d more) zone proof

-- what a proof shows beside master rows alone it shows where proofs may name rows of blocks too
pub record WideRowsKeep : Type 0 where
  pub signs : (p : Program) (d : Decomposition) (cuts : List Row) (proof : Proof) → SignsFit (blocking_of p d cuts) proof
      → SignsFit (wide_blocking p d cuts) proof
  pub holds : (p : Program) (d : Decomposition) (cuts : List Row) (zone : List Span) (proof : Proof) (z : ℤ) → SignsFit (blocking_of p d cuts) proof
      → Holds (blocking_of p d cuts) zone proof z → Holds (wide_blocking p d cuts) zone proof z
  pub empties : (p : Program) (d : Decomposition) (cuts : List Row) (zone : List Span) (proof : Proof) → SignsFit (blocking_of p d cuts) proof
      → Empties (blocking_of p d cuts) zone proof → Empties (wide_blocking p d cuts) zone proof

-- a certificate of rounding cuts, master rows and plain splits that is valid stays valid
abbrev pub CertifiedStays : Type 0
CertifiedStays = (p : Program) (d : Decomposition) (cert : Certificate) → IsCertified p d cert → IsWideCertified p d (as_wide cert)

-- a certificate with its point is valid, or it has a first fault, not both, and one alone
pub record WideJudged : Type 0 where
  pub total : (p : Program) (d : Decomposition) (cert : WideCertificate) → IsProper p.spans → HasItsPoint (named_value cert.claim) cert.point
      → IsWideCertified p d cert ⊎ ((number : ℕ) × (fault : WideKind) × IsFirstWideFault p d cert number fault)
  pub not_both : (p : Program) (d : Decomposition) (cert : WideCertificate) (number : ℕ) (fault : WideKind)
      → IsWideCertified p d cert → IsFirstWideFault p d cert number fault → ⊥
  pub once : (p : Program) (d : Decomposition) (cert : WideCertificate) (number other : ℕ) (fault otherwise : WideKind)
      → IsFirstWideFault p d cert number fault → IsFirstWideFault p d cert other otherwise → (number ≡ other) × (fault ≡ otherwise)
