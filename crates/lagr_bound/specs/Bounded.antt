-- What the answers of bounds mean.
use Rattle.std.specs.Prelude.{◌≡◌, ℕ, ◌<◌, ◌≤◌, true, List, length, ℤ, ◌≤ℤ◌, Option, Some, None, slice_index_or, MatchOption, IsTrue}
use Rattle.bp_theory.specs.Sums.{dot}
use Rattle.bp_theory.specs.Blocking.{Block, Blocking}
use Rattle.bp_theory.specs.Bound.{spans_of, IsPoint, IsPart, IsBound, IsEndless, is_picked}
use Rattle.bp_theory.specs.declared.Span.{Span}
use Rattle.bp_theory.specs.declared.Picked.{Picked}
use Rattle.bp_theory.specs.declared.Proof.{Proof}
use Rattle.search_laws.specs.Spread.{block_at, class_at}
use Rattle.pricing_problem.specs.Priced.{IsExceeded, HasNoPoint}
use Rattle.pricing_problem.specs.declared.Cap.{Cap}
use Rattle.pricing_problem.specs.declared.Priced.{Priced}
use Rattle.pricing_problem.specs.declared.Priced.TheVariants.{Least, Nothing, Cut}
use Rattle.reduced_costs.specs.Sizes.{reduced_costs}
use Rattle.lagr_bound.specs.declared.bounded.Bounded.{Bounded}
use Rattle.lagr_bound.specs.declared.bounded.Bounded.TheVariants as bounds

-- what a block gives to a bound: its part; or it is picked and has no point; or it is picked and its pricing was cut
abbrev pub IsPartAnswer : Blocking → List Span → Proof → Cap → ℕ → Priced → Type 0
IsPartAnswer b zone proof cap k (Least v) = IsPart zone proof k (block_at b k) v
IsPartAnswer b zone proof cap k Nothing =
    (is_picked proof.picked k ≡ true) × HasNoPoint (block_at b k).rows (spans_of zone (block_at b k))
IsPartAnswer b zone proof cap k Cut =
    (is_picked proof.picked k ≡ true) × IsExceeded cap (spans_of zone (block_at b k))

-- the whole bound; or it is endless; or pricing a picked block was cut, which only an exceeded cap allows
abbrev pub IsBounded : Blocking → List Span → Proof → Cap → Bounded → Type 0
IsBounded b zone proof cap (bounds.Whole v) = IsBound b zone proof v
IsBounded b zone proof cap bounds.Endless = IsEndless b zone proof
IsBounded b zone proof cap (bounds.Cut k) =
    (k < length b.blocks) × IsTrue (is_picked proof.picked k) × IsExceeded cap (spans_of zone (block_at b k))

-- a fact of a bound that is whole
abbrev pub IfWhole : Bounded → (ℤ → Type 0) → Type 0
IfWhole (bounds.Whole v) P = P v
IfWhole bounds.Endless P = Unit {0}
IfWhole (bounds.Cut k) P = Unit {0}

-- a picked block that no picked block of its class comes before
pub record IsLowest (classes : List ℕ) (picked : Picked) (k : ℕ) : Type 0 where
  pub own : is_picked picked k ≡ true
  pub first : (j : ℕ) → j < k → class_at classes j ≡ class_at classes k → is_picked picked j ≡ true → ⊥

-- a point of a block in a zone that no point undercuts at the reduced costs
pub record IsBestPoint (zone : List Span) (proof : Proof) (block : Block) (y : List ℤ) : Type 0 where
  pub is_point : IsPoint block.rows (spans_of zone block) y
  pub least : (z : List ℤ) → IsPoint block.rows (spans_of zone block) z → dot (reduced_costs proof block) y ≤ℤ dot (reduced_costs proof block) z

-- what is told of a block: a best point of the lowest picked block of a class, and none of each other block
abbrev pub IsTold : Blocking → List Span → Proof → (classes : List ℕ) → ℕ → Option (List ℤ) → Type 0
IsTold b zone proof classes k told =
    MatchOption told (IsLowest classes proof.picked k → ⊥) (λ y. IsLowest classes proof.picked k × IsBestPoint zone proof (block_at b k) y)

-- of the blocks below a number what is to be told, and nothing of those from it on
pub record AreTold (b : Blocking) (zone : List Span) (proof : Proof) (classes : List ℕ) (k : ℕ) (told : List (Option (List ℤ))) : Type 0 where
  pub below : (j : ℕ) → j < k → IsTold b zone proof classes j (slice_index_or told j None)
  pub above : (j : ℕ) → k ≤ j → slice_index_or told j None ≡ None

-- a bound tells the points of its lowest picked blocks where it is whole, and none else
abbrev pub TellsPoints : Blocking → List Span → Proof → (classes : List ℕ) → Bounded → (ℕ → Option (List ℤ)) → Type 0
TellsPoints b zone proof classes (bounds.Whole v) point = (k : ℕ) → k < length b.blocks → IsTold b zone proof classes k (point k)
TellsPoints b zone proof classes bounds.Endless point = (k : ℕ) → point k ≡ None
TellsPoints b zone proof classes (bounds.Cut c) point = (k : ℕ) → point k ≡ None

-- the parts that are known of classes after the blocks below a number, kept at each class's first block: that of some picked
-- block, or there is no picked block
abbrev pub IsKnown : Blocking → List Span → Proof → (classes : List ℕ) → ℕ → (c : ℕ) → Option ℤ → Type 0
IsKnown b zone proof classes k c None = (j : ℕ) → j < k → class_at classes j ≡ c → is_picked proof.picked j ≡ true → ⊥
IsKnown b zone proof classes k c (Some v) =
    (j : ℕ) × (j < k) × (class_at classes j ≡ c) × (is_picked proof.picked j ≡ true) × IsPart zone proof j (block_at b j) v

abbrev pub AreKnown : Blocking → List Span → Proof → (classes firsts : List ℕ) → ℕ → List (Option ℤ) → Type 0
AreKnown b zone proof classes firsts k known =
    (c : ℕ) → c < length firsts → IsKnown b zone proof classes k c (slice_index_or known (class_at firsts c) None)

-- a fact after a part was found
abbrev pub IfLeast : Priced → Type 0 → Type 0
IfLeast (Least v) P = P
IfLeast Nothing P = Unit {0}
IfLeast Cut P = Unit {0}
