-- The least cost of a way from the root is that of a point.
use Rattle.std.proofs.Common.{◌≡◌, sym, subst, ℕ, ◌<◌, List, [], ◌∷◌, length, arith, inl, inr}
use Rattle.std.proofs.Math.IntN.{ℤ}
use Rattle.std.specs.Prelude.{◌≤ℤ◌, ◌<ℤ◌, All}
use Rattle.std.proofs.lemmas.Int.{ints, by_lt_z}
use Rattle.std.specs.List.{AllByRecursion}
use Rattle.std.proofs.lemmas.List.Elements.{recursion_from_All, All-from_recursion}
use Rattle.bp_theory.proofs.LeastLaws.{Decided, rows_decided}
use Rattle.bp_theory.specs.Sums.{dot}
use Rattle.bp_theory.specs.Program.{IsInside, MeetsRow}
use Rattle.bp_theory.specs.Bound.{IsPoint}
use Rattle.bp_theory.specs.Trees.{IsSubzone}
use Rattle.bp_theory.specs.declared.Span.{Span}
use Rattle.bp_theory.specs.declared.Row.{Row}
use Rattle.pricing_problem.specs.Form.{IsPriceable}
use Rattle.pricing_problem.specs.Priced.{IsCheapest, HasNoPoint}
use Rattle.layer_graph.specs.Graphs.{IsGraphOf, IsFaithful, IsWay}
use Rattle.shortest_path.specs.Best.{no_way, cell_at, way_of, IsLeastFrom, AreLeast}
use Rattle.layer_graph.specs.declared.graph.Arc.{Arc}
use Rattle.shortest_path.proofs.PassLaws.{leads_way}

inside_larger : (small large : List Span) (y : List ℤ) → IsSubzone small large → IsInside small y → IsInside large y
inside_larger [] [] y h i = i
inside_larger [] (t ∷ ts) y h i = absurd h
inside_larger (s ∷ ss) [] y h i = absurd h
inside_larger (s ∷ ss) (t ∷ ts) [] h i = absurd i
inside_larger (s ∷ ss) (t ∷ ts) (v ∷ vs) h i =
    (record { above = through t.lo s.lo v h.0.above i.0.above; below = through v s.hi t.hi i.0.below h.0.below }, inside_larger ss ts vs h.1 i.1)
  where
    through : (a b c : ℤ) → a ≤ℤ b → b ≤ℤ c → a ≤ℤ c
    through a b c p q = omega (arith, ints)

-- a graph of a block is faithful
pub graph_faithful : (rows : List Row) (spans : List Span) (steps : List (List Arc)) → IsGraphOf rows spans steps → IsFaithful rows spans steps
graph_faithful rows spans steps g = record { sound = λ ys way none. none (g.sound ys way); complete = λ ys h none. none (g.complete ys h) }

-- a point of a zone is one of the root
point_of_root : (rows : List Row) (spans zone : List Span) (costs : List ℤ) (y : List ℤ) → IsPriceable spans zone costs → IsPoint rows zone y → IsPoint rows spans y
point_of_root rows spans zone costs y p h = record { inside = inside_larger zone spans y p.in_root.inside h.inside; meets = h.meets }

pub price_none : (rows : List Row) (spans zone : List Span) (costs : List ℤ) (steps : List (List Arc)) (picks : List (List ℕ)) (wide : ℕ) (cells : List ℤ)
    → IsFaithful rows spans steps → IsPriceable spans zone costs → 0 < wide → AreLeast steps picks zone costs wide cells → (cell_at cells 0 <ℤ no_way → ⊥) → HasNoPoint rows zone
price_none rows spans zone costs steps picks wide cells g p some least none y h =
    g.complete y (point_of_root rows spans zone costs y p h) (λ way. none ((least 0 some).least y way h.inside).0)

-- a way meets the rows
pub way_meets : (rows : List Row) (spans : List Span) (steps : List (List Arc)) (ys : List ℤ) → IsFaithful rows spans steps → IsWay steps 0 ys → All (MeetsRow ys) rows
way_meets rows spans steps ys g way = All-from_recursion (MeetsRow ys) rows (by (rows_decided ys rows))
  where
    by : Decided (AllByRecursion (MeetsRow ys) rows) → AllByRecursion (MeetsRow ys) rows
    by (inl h) = h
    by (inr h) = absurd (g.sound ys way (λ x. h (recursion_from_All (MeetsRow ys) rows x.meets)))

pub price_some : (rows : List Row) (spans zone : List Span) (costs : List ℤ) (steps : List (List Arc)) (picks : List (List ℕ)) (wide : ℕ) (cells point : List ℤ) (v : ℤ)
    → IsFaithful rows spans steps → IsPriceable spans zone costs → length zone ≡ length steps → length costs ≡ length steps → 0 < wide
    → AreLeast steps picks zone costs wide cells → cell_at cells 0 <ℤ no_way → point ≡ way_of steps picks zone costs 0 → v ≡ cell_at cells 0
    → IsCheapest rows zone costs point v
price_some rows spans zone costs steps picks wide cells point v g p e f some least way is same =
    subst (λ (x : List ℤ). IsCheapest rows zone costs x v) (sym is) (subst (λ z. IsCheapest rows zone costs (way_of steps picks zone costs 0) z) (sym same) cheapest)
  where
    less : (a b : ℤ) → b <ℤ a → a ≤ℤ b → ⊥
    less a b h k = omega (arith, ints)

    below : (y : List ℤ) → IsPoint rows zone y → cell_at cells 0 ≤ℤ dot costs y
    below y h = by_lt_z (dot costs y) (cell_at cells 0)
        (λ low. absurd (g.complete y (point_of_root rows spans zone costs y p h) (λ w. less (cell_at cells 0) (dot costs y) low ((least 0 some).least y w h.inside).1)))
        (λ high. high)

    cheapest : IsCheapest rows zone costs (way_of steps picks zone costs 0) (cell_at cells 0)
    cheapest =
        let reached = (least 0 some).reached way in
        let leads = leads_way steps picks zone costs 0 e f reached.leads in
        record {
          is_point = record { inside = leads.1; meets = way_meets rows spans steps (way_of steps picks zone costs 0) g leads.0 };
          reached = reached.value;
          least = below;
        }

-- the least cost from the root alone
pub root_least : (steps : List (List Arc)) (picks : List (List ℕ)) (zone : List Span) (costs : List ℤ) (v : ℤ) → IsLeastFrom steps picks zone costs 0 v → AreLeast steps picks zone costs 1 (v ∷ [])
root_least steps picks zone costs v h node l = subst (λ n. IsLeastFrom steps picks zone costs n (cell_at (v ∷ []) n)) (sym (first node l)) h
  where
    first : (n : ℕ) → n < 1 → n ≡ 0
    first n l = omega (arith, l)
