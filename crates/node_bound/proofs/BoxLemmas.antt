-- Programs whose blocks have no rows: the bound of all boxes is that of every block's points.
use Rattle.std.proofs.Common.{◌≡◌, sym, subst, ℕ, suc, List, [], ◌∷◌, map}
use Rattle.std.proofs.Math.IntN.{ℤ}
use Rattle.std.specs.List.{AllByRecursion}
use Rattle.std.proofs.lemmas.List.Elements.{recursion_from_All}
use Rattle.bp_theory.specs.Blocking.{Block, Blocking}
use Rattle.bp_theory.specs.Bound.{IsBound, IsLeast, AreParts, plain_proof, reduced_cost, spans_of}
use Rattle.bp_theory.specs.declared.Span.{Span}
use Rattle.bp_theory.specs.declared.Row.{Row}
use Rattle.compact_relaxation.specs.Rowless.{AreRowless}
use Rattle.search_laws.specs.Verdicts.{every_block}

parts_alike : (zone : List Span) (k : ℕ) (bs : List Block) (vs : List ℤ) → AllByRecursion (λ (b : Block). b.rows ≡ []) bs
    → AreParts zone plain_proof k bs vs → AreParts zone every_block k bs vs
parts_alike zone k [] [] h p = p
parts_alike zone k [] (v ∷ vs) h p = p
parts_alike zone k (b ∷ bs) [] h p = p
parts_alike zone k (b ∷ bs) (v ∷ vs) h p = (
  subst (λ (rows : List Row). IsLeast rows (spans_of zone b) (map (reduced_cost every_block) b.copies) v) (sym h.0) p.0,
  parts_alike zone (suc k) bs vs h.1 p.1,
)

pub boxes_are_points : (b : Blocking) (zone : List Span) (w : ℤ) → AreRowless b → IsBound b zone plain_proof w → IsBound b zone every_block w
boxes_are_points b zone w rowless h =
    record { parts = h.parts; are_parts = parts_alike zone 0 b.blocks h.parts (recursion_from_All (λ (block : Block). block.rows ≡ []) b.blocks rowless) h.are_parts; total = h.total }
