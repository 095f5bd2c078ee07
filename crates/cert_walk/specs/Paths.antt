-- The splits above the next node as they are kept, with the spans that their variables had.
use Rattle.std.specs.Prelude.{◌≡◌, ◌<◌, ◌≤ℤ◌, ◌<ℤ◌, true, false, List, [], ◌∷◌, ◌++◌, length, All}
use Rattle.bp_theory.specs.Program.{span_at}
use Rattle.bp_theory.specs.Trees.{Tree, IsSubspan, IsZone}
use Rattle.bp_theory.specs.declared.Span.{Span}
use Rattle.cert_walk.specs.Turns.{Turn, to_low, to_high, zone_of, turns_behind}
use Rattle.cert_walk.specs.declared.path.Fork.{Fork}
use Rattle.cert_walk.specs.declared.path.Path.{Path}

-- a split is kept with the span that its variable has in a zone
abbrev pub IsForkOf : (zone : List Span) → Fork → Turn → Type 0
IsForkOf zone f (to_low v at) = (f.place.var ≡ v) × (f.place.at ≡ at) × (f.span ≡ span_at zone v) × (f.is_high ≡ false)
IsForkOf zone f (to_high v at low) = (f.place.var ≡ v) × (f.place.at ≡ at) × (f.span ≡ span_at zone v) × (f.is_high ≡ true)

-- these splits are kept, the nearest last
abbrev pub AreForksOf : List Span → List Fork → List Turn → Type 0
AreForksOf spans fs [] = fs ≡ []
AreForksOf spans fs (t ∷ ts) = (before : List Fork) × (f : Fork) × (fs ≡ before ++ f ∷ []) × IsForkOf (zone_of spans ts) f t × AreForksOf spans before ts

-- a split that is kept is sound in some zone of the root
pub record IsForkIn (root : List Span) (f : Fork) : Type 0 where
  pub there : f.place.var < length root
  pub inside : IsSubspan f.span (span_at root f.place.var)
  pub above : f.span.lo ≤ℤ f.place.at
  pub below : f.place.at <ℤ f.span.hi

-- a place and splits of the root
pub record IsPathIn (root : List Span) (path : Path) : Type 0 where
  pub zone : IsZone root path.place.zone
  pub forks : All (IsForkIn root) path.forks.items

-- the place and the splits behind a whole tree
pub record GoesOn (spans : List Span) (ts : List Turn) (t : Tree) (now : Path) : Type 0 where
  pub forks : AreForksOf spans now.forks.items (turns_behind ts t)
  pub zone : now.place.zone ≡ zone_of spans (turns_behind ts t)
