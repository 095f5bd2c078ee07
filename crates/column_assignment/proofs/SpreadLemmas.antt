-- Dealt columns are a spread point.
use Rattle.std.proofs.Common.{◌≡◌, ◌≢◌, ◌⊎◌, refl, sym, ap, subst, ◌∙◌, ℕ, zero, suc, ◌<◌, Bool, true, false, cond, List, [], ◌∷◌, ◌++◌, filter, length, get_or, replicate, arith, inl, inr, All}
use Rattle.std.proofs.Math.IntN.{ℤ, pos}
use Rattle.std.specs.Prelude.{◌==◌, flat_map}
use Rattle.std.specs.List.{AllByRecursion}
use Rattle.std.proofs.lemmas.Bool.Decides.{eqb_tells}
use Rattle.std.proofs.lemmas.List.{get_or-map, length-map, same_lists}
use Rattle.std.proofs.lemmas.List.Elements.{All-from_recursion, recursion_from_All}
use Rattle.bp_theory.specs.Program.{IsWithin, value_at}
use Rattle.bp_theory.specs.Blocking.{Copy, Block, Blocking, restriction}
use Rattle.bp_theory.specs.Bound.{IsPoint, spans_of}
use Rattle.bp_theory.specs.Cuts.{cut_rows}
use Rattle.bp_theory.specs.declared.Span.{Span}
use Rattle.bp_theory.proofs.ZipLaws.{AllZip-length}
use Rattle.bp_theory.proofs.DecompositionProof.{decomposition_lem}
use Rattle.bp_theory.proofs.CutProof.{cuts_are_met_lem}
use Rattle.search_laws.specs.declared.UsedColumn.{UsedColumn}
use Rattle.search_laws.specs.Spread.{block_at, class_at, class_blocks, AreClasses, IsUsed, times, IsWhole, class_points, rank, block_point, IsSpread}
use Rattle.block_program.specs.Blocked.{BlockedProgram, IsFormed, HasCopyAt}
use Rattle.block_class.specs.Classes.{Grouping}
use Rattle.column_assignment.specs.Deals.{IsSpreadable, HaveNumbers, point_at, points_at}
use Rattle.column_assignment.proofs.DealLemmas.{rank_below, sizes_agree}

any_default : {X : Type 0} (xs : List X) (i : ℕ) (d e : X) → i < length xs → get_or xs i d ≡ get_or xs i e
any_default [] i d e l = absurd (omega arith)
any_default (x ∷ xs) zero d e l = refl
any_default (x ∷ xs) (suc i) d e l = any_default xs i d e (omega arith)

-- each point of a class is one of its first block
all_points : (zone : List Span) (b : Blocking) (firsts : List ℕ) (k : ℕ) (used : List UsedColumn) → AllByRecursion (IsUsed zone b firsts) used
    → AllByRecursion (IsPoint (block_at b (class_at firsts k)).rows (spans_of zone (block_at b (class_at firsts k)))) (class_points used k)
all_points zone b firsts k [] known = tt
all_points zone b firsts k (u ∷ used) known = by (u.class == k) (eqb_tells u.class k) (all_points zone b firsts k used known.1)
  where
    all_same : {X : Type 0} (P : X → Type 0) (n : ℕ) (x : X) (rest : List X) → P x → AllByRecursion P rest → AllByRecursion P (replicate n x ++ rest)
    all_same P zero x rest h all = all
    all_same P (suc n) x rest h all = (h, all_same P n x rest h all)

    by : (t : Bool) → ((t ≡ true) × (u.class ≡ k)) ⊎ ((t ≡ false) × (u.class ≢ k))
        → AllByRecursion (IsPoint (block_at b (class_at firsts k)).rows (spans_of zone (block_at b (class_at firsts k)))) (class_points used k)
        → AllByRecursion (IsPoint (block_at b (class_at firsts k)).rows (spans_of zone (block_at b (class_at firsts k))))
        (flat_map (λ (v : UsedColumn). replicate (times v) v.point) (cond t (u ∷ filter (λ (v : UsedColumn). v.class == k) used) (filter (λ (v : UsedColumn). v.class == k) used)))
    by true (inl same) rest =
        all_same (IsPoint (block_at b (class_at firsts k)).rows (spans_of zone (block_at b (class_at firsts k)))) (times u) u.point (class_points used k)
        (subst (λ c. IsPoint (block_at b (class_at firsts c)).rows (spans_of zone (block_at b (class_at firsts c))) u.point) same.1 known.0.point) rest
    by true (inr other) rest = absurd (cc)
    by false tells rest = rest

-- a block's point is as long as the block
block_point_long : (zone : List Span) (b : Blocking) (g : Grouping) (used : List UsedColumn) (j : ℕ) → AreClasses zone b g.classes g.firsts
    → All (IsUsed zone b g.firsts) used → IsSpreadable g used → j < length b.blocks
    → (rank g.classes j < length (class_points used (class_at g.classes j))) × (length (block_point used g.classes j) ≡ length (block_at b j).copies)
block_point_long zone b g used j are known fits l =
    let k : ℕ = class_at g.classes j in
    let first : Block = block_at b (class_at g.firsts k) in
    let there : j < length g.classes = omega (arith, l, are.each) in
    let sizes : length (class_points used k) ≡ class_blocks g.classes k =
    sizes_agree used (class_blocks g.classes k) k (recursion_from_All IsWhole used fits.whole) (fits.sizes k (are.known j 0 there)) in
    let inside : rank g.classes j < length (class_points used k) = omega (arith, sizes, rank_below g.classes j there) in
    let of_first : IsPoint first.rows (spans_of zone first) (block_point used g.classes j) =
    All-from_recursion (IsPoint first.rows (spans_of zone first)) (class_points used k)
    (all_points zone b g.firsts k used (recursion_from_All (IsUsed zone b g.firsts) used known)) (rank g.classes j) [] inside in
    let block : Block = block_at b j in (
      inside,
      omega (
        arith,
        AllZip-length IsWithin (spans_of zone first) (block_point used g.classes j) of_first.inside,
        length-map first.copies (λ (c : Copy). (get_or zone c.var (record { lo = pos 0; hi = pos 0 }))),
        length-map first.copies (λ (c : Copy). c.cost),
        length-map block.copies (λ (c : Copy). c.cost),
        ap (length {A = ℤ}) (are.same j l).costs,
      ),
    )

-- the column that a block got has the block's point
column_is : (g : Grouping) (used : List UsedColumn) (decks : List (List ℕ)) (columns : List ℕ) (j : ℕ)
    → rank g.classes j < length (class_points used (class_at g.classes j))
    → points_at used (get_or decks (class_at g.classes j) []) ≡ class_points used (class_at g.classes j)
    → get_or columns j 0 ≡ get_or (get_or decks (class_at g.classes j) []) (rank g.classes j) 0
    → point_at used (get_or columns j 0) ≡ block_point used g.classes j
column_is g used decks columns j inside deck column =
    let places : List ℕ = get_or decks (class_at g.classes j) [] in
    let r : ℕ = rank g.classes j in
    let there : r < length places = omega (arith, inside, ap (length {A = List ℤ}) deck, length-map places (point_at used)) in
    ap (point_at used) column ∙ sym (get_or-map (point_at used) places r 0 [] there) ∙ ap (λ (ys : List (List ℤ)). get_or ys r []) deck

-- each block got the column with its point
columns_are : (zone : List Span) (b : Blocking) (g : Grouping) (used : List UsedColumn) (decks : List (List ℕ)) (columns : List ℕ) → AreClasses zone b g.classes g.firsts
    → All (IsUsed zone b g.firsts) used → IsSpreadable g used → ((k : ℕ) → k < length g.firsts → points_at used (get_or decks k []) ≡ class_points used k)
    → ((j : ℕ) → j < length b.blocks → get_or columns j 0 ≡ get_or (get_or decks (class_at g.classes j) []) (rank g.classes j) 0)
    → (j : ℕ) → j < length b.blocks → point_at used (get_or columns j 0) ≡ block_point used g.classes j
columns_are zone b g used decks columns are known fits deck column j l =
    let there : j < length g.classes = omega (arith, l, are.each) in
    column_is g used decks columns j (block_point_long zone b g used j are known fits l).0 (deck (class_at g.classes j) (are.known j 0 there)) (column j l)

no_copy : Copy
no_copy = record { var = 0; cost = pos 0; coefs = [] }

-- dealt columns in which all copies of a variable have one number are a spread
pub spread_is : (zone : List Span) (b : Blocking) (g : Grouping) (used : List UsedColumn) (decks : List (List ℕ)) (columns : List ℕ) (x : List ℤ)
    → AreClasses zone b g.classes g.firsts → All (IsUsed zone b g.firsts) used → IsSpreadable g used
    → ((k : ℕ) → k < length g.firsts → points_at used (get_or decks k []) ≡ class_points used k)
    → ((j : ℕ) → j < length b.blocks → get_or columns j 0 ≡ get_or (get_or decks (class_at g.classes j) []) (rank g.classes j) 0)
    → HaveNumbers b used columns x → IsSpread b g.classes g.firsts used x
spread_is zone b g used decks columns x are known fits deck column have = record {
  whole = fits.whole;
  sizes = fits.sizes;
  agrees = λ j l.
      let block : Block = block_at b j in
      let long = block_point_long zone b g used j are known fits l in
      let own : point_at used (get_or columns j 0) ≡ block_point used g.classes j = columns_are zone b g used decks columns are known fits deck column j l in
      let many : length (restriction x block) ≡ length block.copies = length-map block.copies (λ (c : Copy). value_at x c.var) in
      same_lists (restriction x block) (block_point used g.classes j) (many ∙ sym long.1)
      (λ i d m.
      let inside : i < length block.copies = omega (arith, m, many) in
      get_or-map (λ (c : Copy). value_at x c.var) block.copies i no_copy d inside
      ∙ sym (have j l i no_copy inside)
      ∙ ap (λ (y : List ℤ). value_at y i) own
      ∙ any_default (block_point used g.classes j) i (pos 0) d (omega (arith, inside, long.1)));
}

-- where there is a spread, the point of the first copies' numbers has those of all copies
pub copies_have : (b : BlockedProgram) (zone : List Span) (g : Grouping) (used : List UsedColumn) (decks : List (List ℕ)) (columns : List ℕ) (x y : List ℤ)
    → IsFormed b → AreClasses zone b.blocking g.classes g.firsts → All (IsUsed zone b.blocking g.firsts) used
    → ((k : ℕ) → k < length g.firsts → points_at used (get_or decks k []) ≡ class_points used k)
    → ((j : ℕ) → j < length b.blocking.blocks → get_or columns j 0 ≡ get_or (get_or decks (class_at g.classes j) []) (rank g.classes j) 0)
    → ((v : ℕ) → v < length b.named.program.spans → (at : ℕ × ℕ) × HasCopyAt b.blocking.blocks v at
    × (value_at x v ≡ value_at (point_at used (get_or columns at.0 0)) at.1))
    → IsSpread b.blocking g.classes g.firsts used y → HaveNumbers b.blocking used columns x
copies_have b zone g used decks columns x y formed are known deck column numbers spread = λ j l i d m.
    let v : ℕ = (get_or (block_at b.blocking j).copies i d).var in
    let found = numbers v (var_known j i d l m) in
    let at : ℕ × ℕ = found.0 in
    let empty : Block = record { copies = []; rows = [] } in
    number_of j i d l m
    ∙ sym (found.2 ∙ number_of at.0 at.1 d found.1.there (found.1.within empty) ∙ ap (value_at y) (found.1.var empty d))
  where
    fits : IsSpreadable g used
    fits = record { whole = spread.whole; sizes = spread.sizes }

    -- the number of a copy in its block's column is that of its variable in the spread
    number_of : (j i : ℕ) (d : Copy) → j < length b.blocking.blocks → i < length (block_at b.blocking j).copies
        → value_at (point_at used (get_or columns j 0)) i ≡ value_at y (get_or (block_at b.blocking j).copies i d).var
    number_of j i d l m =
        ap (λ (z : List ℤ). value_at z i) (columns_are zone b.blocking g used decks columns are known fits deck column j l ∙ sym (spread.agrees j l))
        ∙ get_or-map (λ (c : Copy). value_at y c.var) (block_at b.blocking j).copies i d (pos 0) m

    var_known : (j i : ℕ) (d : Copy) → j < length b.blocking.blocks → i < length (block_at b.blocking j).copies
        → (get_or (block_at b.blocking j).copies i d).var < length b.named.program.spans
    var_known j i d l m =
        let all : All (λ (k : Block). All (λ (c : Copy). c.var < length b.named.program.spans) k.copies) b.blocking.blocks =
        subst (λ (bl : Blocking). All (λ (k : Block). All (λ (c : Copy). c.var < length b.named.program.spans) k.copies) bl.blocks) (sym formed.blocking)
        (decomposition_lem.adds_up b.named.program b.dec (cut_rows b.named.program b.dec [] b.cuts) formed.kept.closed
        (cuts_are_met_lem.closed b.named.program b.dec b.cuts)).known in
        all j (record { copies = []; rows = [] }) l i d m
