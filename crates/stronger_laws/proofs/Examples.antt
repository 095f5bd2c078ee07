-- The definitions at small programs, computed.
use Rattle.std.proofs.Common.{◌≡◌, refl, ℕ, false, List, [], ◌∷◌, map, Some, None, arith}
use Rattle.std.proofs.Math.IntN.{ℤ, pos, negsuc}
use Rattle.std.proofs.lemmas.List.Elements.{All-from_recursion}
use Rattle.bp_theory.specs.Program.{Program}
use Rattle.bp_theory.specs.Blocking.{all_copies, coef_in, row_at}
use Rattle.bp_theory.specs.Decomposition.{Decomposition, blocking_of}
use Rattle.bp_theory.specs.Bound.{base, reduced_cost}
use Rattle.bp_theory.specs.Trees.{high_part}
use Rattle.bp_theory.specs.declared.Limits.TheVariants.{Usual}
use Rattle.bp_theory.specs.declared.Span.{Span}
use Rattle.bp_theory.specs.declared.Term.{Term}
use Rattle.bp_theory.specs.declared.Sense.{Sense}
use Rattle.bp_theory.specs.declared.Sense.TheVariants.{Le, Ge, Eq, In}
use Rattle.bp_theory.specs.declared.Row.{Row}
use Rattle.bp_theory.specs.declared.Picked.TheVariants.{Every}
use Rattle.stronger_laws.specs.WideRows.{wide_rows, wide_blocking}
use Rattle.stronger_laws.specs.Mir.{mir_function, full_remainder, row_of, IsCombinable, IsFittingMir}
use Rattle.stronger_laws.specs.PricedCuts.{with_costs}
use Rattle.stronger_laws.specs.AllCuts.{any_row, any_rows}
use Rattle.stronger_laws.specs.Alike.{home, siblings}
use Rattle.stronger_laws.specs.ClassTrees.{class_low_part}
use Rattle.stronger_laws.specs.declared.MirCut.{MirCut}
use Rattle.stronger_laws.specs.declared.PricedCut.{PricedCut}
use Rattle.stronger_laws.specs.declared.AnyCut.TheVariants.{Mir, Priced}

abbrev span : ℤ → ℤ → Span
span lo hi = record { lo = lo; hi = hi }

abbrev term : ℕ → ℤ → Term
term v c = record { var = v; coef = c }

abbrev row : Sense → ℤ → List Term → Row
row s b ts = record { sense = s; low = b; rhs = b; terms = ts }

-- ---- the rounding function

-- 7 = 5 + 2
seven : mir_function 5 3 (pos 7) ≡ pos 5
seven = refl

-- 9 = 5 + 4, of which 3 count
nine : mir_function 5 3 (pos 9) ≡ pos 6
nine = refl

-- -1 = -5 + 4
minus_one : mir_function 5 3 (negsuc 0) ≡ pos 0
minus_one = refl

-- -7 = -10 + 3
minus_seven : mir_function 5 3 (negsuc 6) ≡ negsuc 2
minus_seven = refl

-- a remainder of 1 rounds up
rounded_up : mir_function 5 1 (pos 6) ≡ pos 2
rounded_up = refl

-- ---- x - 5 y at most 0, x from 0 to 7, y from 0 to 2, the row in a block

abbrev flow : Program
flow = record {
  spans = span (pos 0) (pos 7) ∷ span (pos 0) (pos 2) ∷ [];
  rows = row Le (pos 0) (term 0 (pos 1) ∷ term 1 (negsuc 4) ∷ []) ∷ [];
  costs = [];
  constant = pos 0;
  maximises = false;
  limits = Usual;
}

abbrev one_block : Decomposition
one_block = record { blocks = 1; places = Some 0 ∷ []; listed = [] }

-- the row once, against its sign, over 5, and x from its upper end: the side is -7, its remainder 3
abbrev full_cut : MirCut
full_cut = record { divisor = 5; lowered = None; rows = (0, pos 1) ∷ []; upper = 0 ∷ [] }

remainder_there : full_remainder flow (wide_rows flow one_block []) full_cut ≡ 3
remainder_there = refl

-- -x + 2 y at least -3: so x = 7 needs y = 2
full_row_there : any_row flow one_block [] (Mir full_cut) ≡ row Ge (negsuc 2) (term 0 (negsuc 0) ∷ term 1 (pos 2) ∷ [])
full_row_there = refl

-- the same by a remainder of 1
abbrev lowered_cut : MirCut
lowered_cut = record { divisor = 5; lowered = Some 1; rows = (0, pos 1) ∷ []; upper = 0 ∷ [] }

lowered_row_there : any_row flow one_block [] (Mir lowered_cut) ≡ row Ge (negsuc 0) (term 0 (negsuc 0) ∷ term 1 (pos 4) ∷ [])
lowered_row_there = refl

fitting_there : IsFittingMir flow (wide_rows flow one_block []) full_cut
fitting_there = record {
  divides = omega arith;
  combines = All-from_recursion (λ (m : ℕ × ℤ). IsCombinable (row_of (wide_rows flow one_block []) m)) full_cut.rows (tt, tt);
  positive = omega arith;
  lowered = tt;
}

-- the row of that cut over 2: y is at least -1
behind_there : any_rows flow one_block [] (Mir full_cut ∷ Mir (record { divisor = 2; lowered = None; rows = (1, pos 1) ∷ []; upper = [] }) ∷ [])
    ≡ row Ge (negsuc 2) (term 0 (negsuc 0) ∷ term 1 (pos 2) ∷ []) ∷ row Ge (negsuc 0) (term 1 (pos 1) ∷ []) ∷ []
behind_there = refl

-- ---- a row between two sides, an equation

abbrev two_sided : Program
two_sided = record {
  spans = span (pos 0) (pos 2) ∷ span (pos 0) (pos 2) ∷ [];
  rows = record { sense = In; low = pos 1; rhs = pos 4; terms = term 0 (pos 2) ∷ term 1 (pos 3) ∷ [] }
      ∷ row Eq (pos 3) (term 0 (pos 2) ∷ term 1 (pos 1) ∷ []) ∷ [];
  costs = [];
  constant = pos 0;
  maximises = false;
  limits = Usual;
}

abbrev no_blocks : Decomposition
no_blocks = record { blocks = 0; places = None ∷ None ∷ []; listed = [] }

-- the lower side over 2: x + 2 y at least 1
lower_side_there : any_row two_sided no_blocks [] (Mir (record { divisor = 2; lowered = None; rows = (0, pos 1) ∷ []; upper = [] }))
    ≡ row Ge (pos 1) (term 0 (pos 1) ∷ term 1 (pos 2) ∷ [])
lower_side_there = refl

-- the equation over 2: x + y at least 2
equation_there : any_row two_sided no_blocks [] (Mir (record { divisor = 2; lowered = None; rows = (1, pos 1) ∷ []; upper = [] }))
    ≡ row Ge (pos 2) (term 0 (pos 1) ∷ term 1 (pos 1) ∷ [])
equation_there = refl

-- ---- rows of blocks in proofs

side_there : row_at (wide_blocking flow one_block []) 0 ≡ row_at (wide_blocking flow (record { blocks = 0; places = None ∷ []; listed = [] }) []) 0
side_there = refl

coefs_there : map (λ c. coef_in c 0) (all_copies (wide_blocking flow one_block [])) ≡ pos 1 ∷ negsuc 4 ∷ []
coefs_there = refl

-- ---- two bins of capacity 5 with an opener each, two items of size 3, each in a bin: y0 + y1 is at least 2

abbrev bins : Program
bins = record {
  spans = span (pos 0) (pos 1) ∷ span (pos 0) (pos 1) ∷ span (pos 0) (pos 1) ∷ span (pos 0) (pos 1) ∷ span (pos 0) (pos 1) ∷ span (pos 0) (pos 1) ∷ [];
  rows = row Eq (pos 1) (term 1 (pos 1) ∷ term 4 (pos 1) ∷ [])
      ∷ row Eq (pos 1) (term 2 (pos 1) ∷ term 5 (pos 1) ∷ [])
      ∷ row Le (pos 0) (term 0 (negsuc 4) ∷ term 1 (pos 3) ∷ term 2 (pos 3) ∷ [])
      ∷ row Le (pos 0) (term 3 (negsuc 4) ∷ term 4 (pos 3) ∷ term 5 (pos 3) ∷ []) ∷ [];
  costs = [];
  constant = pos 0;
  maximises = false;
  limits = Usual;
}

abbrev two_bins : Decomposition
two_bins = record { blocks = 2; places = None ∷ None ∷ Some 0 ∷ Some 1 ∷ []; listed = [] }

abbrev openers : PricedCut
openers = record {
  objective = term 0 (pos 1) ∷ term 3 (pos 1) ∷ [];
  low = pos 2;
  proof = record { scale = 1; mults = (0, pos 1) ∷ (1, pos 1) ∷ []; picked = Every };
}

priced_base : base (wide_blocking (with_costs bins openers.objective) two_bins []) openers.proof ≡ pos 2
priced_base = refl

-- an opener costs 1 and each item earns 1, so that a bin, which takes one item, costs 0
priced_costs : map (reduced_cost openers.proof) (all_copies (wide_blocking (with_costs bins openers.objective) two_bins []))
    ≡ pos 1 ∷ negsuc 0 ∷ negsuc 0 ∷ pos 1 ∷ negsuc 0 ∷ negsuc 0 ∷ []
priced_costs = refl

openers_row : any_row bins two_bins [] (Priced openers) ≡ row Ge (pos 2) (term 0 (pos 1) ∷ term 3 (pos 1) ∷ [])
openers_row = refl

-- ---- classes

bins_alike : siblings (blocking_of bins two_bins []) bins.spans 1 ≡ 1 ∷ 4 ∷ []
bins_alike = refl

second_home : home (blocking_of bins two_bins []) 4 ≡ 1
second_home = refl

-- three rolls, cut up to twice each, 4 cuts in all
abbrev rolls : Program
rolls = record {
  spans = span (pos 0) (pos 3) ∷ span (pos 0) (pos 3) ∷ span (pos 0) (pos 3) ∷ [];
  rows = row Ge (pos 4) (term 0 (pos 1) ∷ term 1 (pos 1) ∷ term 2 (pos 1) ∷ [])
      ∷ row Le (pos 5) (term 0 (pos 2) ∷ [])
      ∷ row Le (pos 5) (term 1 (pos 2) ∷ [])
      ∷ row Le (pos 5) (term 2 (pos 2) ∷ []) ∷ [];
  costs = term 0 (pos 1) ∷ term 1 (pos 1) ∷ term 2 (pos 1) ∷ [];
  constant = pos 0;
  maximises = false;
  limits = Usual;
}

abbrev three_rolls : Decomposition
three_rolls = record { blocks = 3; places = None ∷ Some 0 ∷ Some 1 ∷ Some 2 ∷ []; listed = [] }

all_siblings : siblings (blocking_of rolls three_rolls []) rolls.spans 1 ≡ 0 ∷ 1 ∷ 2 ∷ []
all_siblings = refl

low_there : class_low_part (blocking_of rolls three_rolls []) rolls.spans 1 (pos 1)
    ≡ span (pos 0) (pos 1) ∷ span (pos 0) (pos 1) ∷ span (pos 0) (pos 1) ∷ []
low_there = refl

-- where the first roll has other spans, the others are a class
fewer_siblings : siblings (blocking_of rolls three_rolls []) (high_part rolls.spans 0 (pos 1)) 1 ≡ 1 ∷ 2 ∷ []
fewer_siblings = refl

-- and the first is one by itself
lone_sibling : siblings (blocking_of rolls three_rolls []) (high_part rolls.spans 0 (pos 1)) 0 ≡ 0 ∷ []
lone_sibling = refl

-- blocks that share a variable are no class
abbrev linked : Program
linked = record {
  spans = span (pos 0) (pos 1) ∷ span (pos 0) (pos 1) ∷ span (pos 0) (pos 1) ∷ [];
  rows = row Le (pos 1) (term 0 (pos 1) ∷ term 1 (pos 1) ∷ []) ∷ row Le (pos 1) (term 0 (pos 1) ∷ term 2 (pos 1) ∷ []) ∷ [];
  costs = [];
  constant = pos 0;
  maximises = false;
  limits = Usual;
}

no_siblings : siblings (blocking_of linked (record { blocks = 2; places = Some 0 ∷ Some 1 ∷ []; listed = [] }) []) linked.spans 1 ≡ []
no_siblings = refl
