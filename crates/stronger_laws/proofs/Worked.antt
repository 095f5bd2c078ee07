-- Certificates with a mixed-integer rounding cut and with a class split that are valid, and so true.
use Rattle.std.proofs.Common.{◌≡◌, refl, sym, ap, subst, ℕ, ◌<◌, false, List, [], ◌∷◌, map, Some, None, arith, inr}
use Rattle.std.proofs.Math.IntN.{ℤ, pos, negsuc, ◌+ℤ◌, ◌*ℤ◌}
use Rattle.std.specs.Prelude.{◌≤ℤ◌, All, IsTrue, if◌then◌else◌}
use Rattle.std.proofs.lemmas.Int.{ints, by_lt_z}
use Rattle.std.proofs.lemmas.List.Elements.{All-from_recursion, All-nil}
use Rattle.bp_theory.specs.Sums.{dot}
use Rattle.bp_theory.specs.Program.{Program, IsFeasible, MeetsRow, KeepsActivity}
use Rattle.bp_theory.specs.Blocking.{Block, row_at}
use Rattle.bp_theory.specs.Decomposition.{Decomposition, blocking_of, block_of, lone_block, HasVariablesBelow, IsClosed, IsPlace}
use Rattle.bp_theory.specs.Bound.{IsPoint, IsLeast, IsPart, IsBound, SignFits, SignsFit, is_picked, spans_of, reduced_cost, box_least}
use Rattle.bp_theory.specs.Trees.{Leaf, high_part}
use Rattle.bp_theory.specs.Claims.{IsTrueClaim, Shows, MayBeOpen}
use Rattle.bp_theory.specs.declared.Limits.TheVariants.{Usual}
use Rattle.bp_theory.specs.declared.Span.{Span}
use Rattle.bp_theory.specs.declared.Term.{Term}
use Rattle.bp_theory.specs.declared.Sense.{Sense}
use Rattle.bp_theory.specs.declared.Sense.TheVariants.{Le, Ge, Eq}
use Rattle.bp_theory.specs.declared.Row.{Row}
use Rattle.bp_theory.specs.declared.Proof.{Proof}
use Rattle.bp_theory.specs.declared.Picked.TheVariants.{Every, These}
use Rattle.bp_theory.specs.declared.Claim.TheVariants.{Optimal}
use Rattle.bp_theory.proofs.ClassProof.{least_over_box_lem}
use Rattle.stronger_laws.specs.WideRows.{wide_rows, wide_blocking}
use Rattle.stronger_laws.specs.Mir.{row_of, IsCombinable}
use Rattle.stronger_laws.specs.PricedCuts.{with_costs, IsFittingPriced}
use Rattle.stronger_laws.specs.AllCuts.{any_rows}
use Rattle.stronger_laws.specs.ClassTrees.{shut_leaf, class_split, class_low_part, class_leaves}
use Rattle.stronger_laws.specs.WideClaims.{WideCertificate, IsWideCertified}
use Rattle.stronger_laws.specs.declared.MirCut.{MirCut}
use Rattle.stronger_laws.specs.declared.PricedCut.{PricedCut}
use Rattle.stronger_laws.specs.declared.AnyCut.TheVariants.{Mir}
use Rattle.stronger_laws.proofs.WideTruthProof.{wide_certified_is_true_lem}

abbrev span : ℤ → ℤ → Span
span lo hi = record { lo = lo; hi = hi }

abbrev term : ℕ → ℤ → Term
term v c = record { var = v; coef = c }

abbrev row : Sense → ℤ → List Term → Row
row s b ts = record { sense = s; low = b; rhs = b; terms = ts }

-- a block of one copy whose reduced cost is 0 is worth 0
zero_part : (zone : List Span) (proof : Proof) (k : ℕ) (b : Block) (s : Span) → is_picked proof.picked k ≡ false → s.lo ≤ℤ s.hi
    → spans_of zone b ≡ s ∷ [] → map (reduced_cost proof) b.copies ≡ pos 0 ∷ [] → box_least (s ∷ []) (pos 0 ∷ []) ≡ pos 0 → IsPart zone proof k b (pos 0)
zero_part zone proof k b s other proper spans costs nothing =
    subst (λ (rows : List Row). IsLeast rows (spans_of zone b) (map (reduced_cost proof) b.copies) (pos 0))
    (ap (λ t. if t then b.rows else []) (sym other))
    (subst (λ (ss : List Span). IsLeast [] ss (map (reduced_cost proof) b.copies) (pos 0)) (sym spans)
    (subst (λ cs. IsLeast [] (s ∷ []) cs (pos 0)) (sym costs)
    (subst (λ v. IsLeast [] (s ∷ []) (pos 0 ∷ []) v) nothing
    (least_over_box_lem (s ∷ []) (pos 0 ∷ []) (All-from_recursion (λ (t : Span). t.lo ≤ℤ t.hi) (s ∷ []) (proper, tt)) refl))))

-- ---- minimise y, x - 5 y at most 0, x at least 6: the relaxation is worth 6/5, the cut y at least 2 closes it

abbrev closed_by_cut : Program
closed_by_cut = record {
  spans = span (pos 0) (pos 7) ∷ span (pos 0) (pos 2) ∷ [];
  rows = row Le (pos 0) (term 0 (pos 1) ∷ term 1 (negsuc 4) ∷ []) ∷ row Ge (pos 6) (term 0 (pos 1) ∷ []) ∷ [];
  costs = term 1 (pos 1) ∷ [];
  constant = pos 0;
  maximises = false;
  limits = Usual;
}

abbrev no_blocks : Decomposition
no_blocks = record { blocks = 0; places = None ∷ None ∷ []; listed = [] }

-- the second row less the first, over 5
abbrev opening : MirCut
opening = record { divisor = 5; lowered = None; rows = (0, negsuc 0) ∷ (1, pos 1) ∷ []; upper = [] }

abbrev at_least_two : List Row
at_least_two = row Ge (pos 2) (term 1 (pos 1) ∷ []) ∷ []

opening_row : any_rows closed_by_cut no_blocks [] (Mir opening ∷ []) ≡ at_least_two
opening_row = refl

-- the cut once
abbrev by_cut : Proof
by_cut = record { scale = 1; mults = (2, pos 1) ∷ []; picked = These [] }

abbrev cut_certificate : WideCertificate
cut_certificate = record { claim = Optimal (pos 2); point = Some (pos 6 ∷ pos 2 ∷ []); cuts = Mir opening ∷ []; tree = shut_leaf by_cut }

cut_bound : IsBound (wide_blocking closed_by_cut no_blocks at_least_two) closed_by_cut.spans by_cut (pos 2)
cut_bound = record {
  parts = pos 0 ∷ pos 0 ∷ [];
  are_parts = (
    zero_part closed_by_cut.spans by_cut 0 (lone_block closed_by_cut no_blocks (wide_rows closed_by_cut no_blocks at_least_two) 0) (span (pos 0) (pos 7))
        refl (omega (arith, ints)) refl refl refl,
    (
      zero_part closed_by_cut.spans by_cut 1 (lone_block closed_by_cut no_blocks (wide_rows closed_by_cut no_blocks at_least_two) 1) (span (pos 0) (pos 2))
          refl (omega (arith, ints)) refl refl refl,
      tt,
    ),
  );
  total = refl;
}

cut_feasible : IsFeasible closed_by_cut (pos 6 ∷ pos 2 ∷ [])
cut_feasible = record {
  inside = (record { above = omega (arith, ints); below = omega (arith, ints) }, (record { above = omega (arith, ints); below = omega (arith, ints) }, tt));
  rows = All-from_recursion (MeetsRow (pos 6 ∷ pos 2 ∷ [])) closed_by_cut.rows (omega (arith, ints), (omega (arith, ints), tt));
}

cut_leaf : (P : Leaf → Type 0) → P (record { zone = closed_by_cut.spans; proof = by_cut; is_open = false })
    → All P (class_leaves (blocking_of closed_by_cut no_blocks []) (shut_leaf by_cut) closed_by_cut.spans)
cut_leaf P h = All-from_recursion P (class_leaves (blocking_of closed_by_cut no_blocks []) (shut_leaf by_cut) closed_by_cut.spans) (h, tt)

cut_certified : IsWideCertified closed_by_cut no_blocks cut_certificate
cut_certified = record {
  fitting = (
    record {
      divides = omega arith;
      combines = All-from_recursion (λ (m : ℕ × ℤ). IsCombinable (row_of (wide_rows closed_by_cut no_blocks []) m)) opening.rows (tt, (tt, tt));
      positive = omega arith;
      lowered = tt;
    },
    tt,
  );
  bounded = All-from_recursion (KeepsActivity closed_by_cut) at_least_two (omega arith, tt);
  valid = record {
    point = record { feasible = cut_feasible; has_value = refl };
    splits = tt;
    signs = cut_leaf (λ leaf. SignsFit (wide_blocking closed_by_cut no_blocks at_least_two) leaf.proof)
        (All-from_recursion (λ (m : ℕ × ℤ). SignFits (row_at (wide_blocking closed_by_cut no_blocks at_least_two) m.0) m.1) by_cut.mults (omega (arith, ints), tt));
    shown = cut_leaf (Shows closed_by_cut (wide_blocking closed_by_cut no_blocks at_least_two) (Optimal (pos 2))) (inr (pos 2, cut_bound, omega (arith, ints)));
    shut = cut_leaf (λ leaf. IsTrue leaf.is_open → MayBeOpen (Optimal (pos 2))) (λ h. absurd (cc));
  };
}

cut_closed : IsClosed closed_by_cut
cut_closed = record {
  costs = All-from_recursion (λ (t : Term). t.var < 2) closed_by_cut.costs (omega arith, tt);
  rows = All-from_recursion (λ (r : Row). HasVariablesBelow 2 r.terms) closed_by_cut.rows (
    All-from_recursion (λ (t : Term). t.var < 2) (term 0 (pos 1) ∷ term 1 (negsuc 4) ∷ []) (omega arith, (omega arith, tt)),
    (All-from_recursion (λ (t : Term). t.var < 2) (term 0 (pos 1) ∷ []) (omega arith, tt), tt),
  );
}

cut_true : IsTrueClaim closed_by_cut (Optimal (pos 2))
cut_true = wide_certified_is_true_lem closed_by_cut no_blocks cut_certificate cut_closed
    (record { each = refl; known = All-from_recursion (IsPlace 0) no_blocks.places (tt, (tt, tt)) }) cut_certified

-- ---- two rolls, each cut up to twice, 3 cuts in all, as few as can be: a class split at one cut

abbrev rolls : Program
rolls = record {
  spans = span (pos 0) (pos 2) ∷ span (pos 0) (pos 2) ∷ [];
  rows = row Ge (pos 3) (term 0 (pos 1) ∷ term 1 (pos 1) ∷ []) ∷ row Le (pos 5) (term 0 (pos 2) ∷ []) ∷ row Le (pos 5) (term 1 (pos 2) ∷ []) ∷ [];
  costs = term 0 (pos 1) ∷ term 1 (pos 1) ∷ [];
  constant = pos 0;
  maximises = false;
  limits = Usual;
}

abbrev two_rolls : Decomposition
two_rolls = record { blocks = 2; places = None ∷ Some 0 ∷ Some 1 ∷ []; listed = [] }

-- the first row once
abbrev by_row : Proof
by_row = record { scale = 1; mults = (0, pos 1) ∷ []; picked = These [] }

abbrev class_certificate : WideCertificate
class_certificate = record {
  claim = Optimal (pos 3);
  point = Some (pos 1 ∷ pos 2 ∷ []);
  cuts = [];
  tree = class_split 0 (pos 1) (shut_leaf by_row) (shut_leaf by_row);
}

abbrev low_zone : List Span
low_zone = span (pos 0) (pos 1) ∷ span (pos 0) (pos 1) ∷ []

abbrev high_zone : List Span
high_zone = span (pos 2) (pos 2) ∷ span (pos 0) (pos 2) ∷ []

low_zone_there : class_low_part (blocking_of rolls two_rolls []) rolls.spans 0 (pos 1) ≡ low_zone
low_zone_there = refl

high_zone_there : high_part rolls.spans 0 (pos 1) ≡ high_zone
high_zone_there = refl

low_bound : IsBound (wide_blocking rolls two_rolls []) low_zone by_row (pos 3)
low_bound = record {
  parts = pos 0 ∷ pos 0 ∷ [];
  are_parts = (
    zero_part low_zone by_row 0 (block_of rolls two_rolls (wide_rows rolls two_rolls []) 0) (span (pos 0) (pos 1)) refl (omega (arith, ints)) refl refl refl,
    (zero_part low_zone by_row 1 (block_of rolls two_rolls (wide_rows rolls two_rolls []) 1) (span (pos 0) (pos 1)) refl (omega (arith, ints)) refl refl refl, tt),
  );
  total = refl;
}

high_bound : IsBound (wide_blocking rolls two_rolls []) high_zone by_row (pos 3)
high_bound = record {
  parts = pos 0 ∷ pos 0 ∷ [];
  are_parts = (
    zero_part high_zone by_row 0 (block_of rolls two_rolls (wide_rows rolls two_rolls []) 0) (span (pos 2) (pos 2)) refl (omega (arith, ints)) refl refl refl,
    (zero_part high_zone by_row 1 (block_of rolls two_rolls (wide_rows rolls two_rolls []) 1) (span (pos 0) (pos 2)) refl (omega (arith, ints)) refl refl refl, tt),
  );
  total = refl;
}

class_feasible : IsFeasible rolls (pos 1 ∷ pos 2 ∷ [])
class_feasible = record {
  inside = (record { above = omega (arith, ints); below = omega (arith, ints) }, (record { above = omega (arith, ints); below = omega (arith, ints) }, tt));
  rows = All-from_recursion (MeetsRow (pos 1 ∷ pos 2 ∷ [])) rolls.rows (omega (arith, ints), (omega (arith, ints), (omega (arith, ints), tt)));
}

class_leaf : (P : Leaf → Type 0) → P (record { zone = low_zone; proof = by_row; is_open = false })
    → P (record { zone = high_zone; proof = by_row; is_open = false })
    → All P (class_leaves (blocking_of rolls two_rolls []) class_certificate.tree rolls.spans)
class_leaf P h g = All-from_recursion P (class_leaves (blocking_of rolls two_rolls []) class_certificate.tree rolls.spans) (h, (g, tt))

row_sign : SignsFit (wide_blocking rolls two_rolls []) by_row
row_sign = All-from_recursion (λ (m : ℕ × ℤ). SignFits (row_at (wide_blocking rolls two_rolls []) m.0) m.1) by_row.mults (omega (arith, ints), tt)

class_certified : IsWideCertified rolls two_rolls class_certificate
class_certified = record {
  fitting = tt;
  bounded = All-nil (KeepsActivity rolls);
  valid = record {
    point = record { feasible = class_feasible; has_value = refl };
    splits = (
      record { sound = record { above = omega (arith, ints); below = omega (arith, ints) }; copied = refl; several = omega arith },
      tt,
      tt,
    );
    signs = class_leaf (λ leaf. SignsFit (wide_blocking rolls two_rolls []) leaf.proof) row_sign row_sign;
    shown = class_leaf (Shows rolls (wide_blocking rolls two_rolls []) (Optimal (pos 3)))
        (inr (pos 3, low_bound, omega (arith, ints))) (inr (pos 3, high_bound, omega (arith, ints)));
    shut = class_leaf (λ leaf. IsTrue leaf.is_open → MayBeOpen (Optimal (pos 3))) (λ h. absurd (cc)) (λ h. absurd (cc));
  };
}

class_closed : IsClosed rolls
class_closed = record {
  costs = All-from_recursion (λ (t : Term). t.var < 2) rolls.costs (omega arith, (omega arith, tt));
  rows = All-from_recursion (λ (r : Row). HasVariablesBelow 2 r.terms) rolls.rows (
    All-from_recursion (λ (t : Term). t.var < 2) (term 0 (pos 1) ∷ term 1 (pos 1) ∷ []) (omega arith, (omega arith, tt)),
    (
      All-from_recursion (λ (t : Term). t.var < 2) (term 0 (pos 2) ∷ []) (omega arith, tt),
      (All-from_recursion (λ (t : Term). t.var < 2) (term 1 (pos 2) ∷ []) (omega arith, tt), tt),
    ),
  );
}

class_true : IsTrueClaim rolls (Optimal (pos 3))
class_true = wide_certified_is_true_lem rolls two_rolls class_certificate class_closed
    (record { each = refl; known = All-from_recursion (IsPlace 2) two_rolls.places (tt, (omega arith, (omega arith, tt))) }) class_certified

-- ---- two bins of capacity 5 with an opener each, two items of size 3, each in a bin: the openers together are at least 2

abbrev bin : Span
bin = span (pos 0) (pos 1)

abbrev bins : Program
bins = record {
  spans = bin ∷ bin ∷ bin ∷ bin ∷ bin ∷ bin ∷ [];
  rows = row Eq (pos 1) (term 1 (pos 1) ∷ term 4 (pos 1) ∷ [])
      ∷ row Eq (pos 1) (term 2 (pos 1) ∷ term 5 (pos 1) ∷ [])
      ∷ row Le (pos 0) (term 0 (negsuc 4) ∷ term 1 (pos 3) ∷ term 2 (pos 3) ∷ [])
      ∷ row Le (pos 0) (term 3 (negsuc 4) ∷ term 4 (pos 3) ∷ term 5 (pos 3) ∷ []) ∷ [];
  costs = [];
  constant = pos 0;
  maximises = false;
  limits = Usual;
}

abbrev two_bins : Decomposition
two_bins = record { blocks = 2; places = None ∷ None ∷ Some 0 ∷ Some 1 ∷ []; listed = [] }

abbrev openers : PricedCut
openers = record {
  objective = term 0 (pos 1) ∷ term 3 (pos 1) ∷ [];
  low = pos 2;
  proof = record { scale = 1; mults = (0, pos 1) ∷ (1, pos 1) ∷ []; picked = Every };
}

abbrev capacity : List Row
capacity = row Le (pos 0) (term 0 (negsuc 4) ∷ term 1 (pos 3) ∷ term 2 (pos 3) ∷ []) ∷ []

load_within : (a b c : ℤ) → IsPoint capacity (bin ∷ bin ∷ bin ∷ []) (a ∷ b ∷ c ∷ []) → (negsuc 4 *ℤ a +ℤ (pos 3 *ℤ b +ℤ (pos 3 *ℤ c +ℤ pos 0))) ≤ℤ pos 0
load_within a b c h = h.meets 0 (row Le (pos 0) []) (omega arith)

-- an opener costs 1 and an item earns 1: a bin, which takes one item, is worth 0
bin_least : IsLeast capacity (bin ∷ bin ∷ bin ∷ []) (pos 1 ∷ negsuc 0 ∷ negsuc 0 ∷ []) (pos 0)
bin_least = record {
  point = pos 0 ∷ pos 0 ∷ pos 0 ∷ [];
  is_point = record {
    inside = (
      record { above = omega (arith, ints); below = omega (arith, ints) },
      (
        record { above = omega (arith, ints); below = omega (arith, ints) },
        (record { above = omega (arith, ints); below = omega (arith, ints) }, tt),
      ),
    );
    meets = All-from_recursion (MeetsRow (pos 0 ∷ pos 0 ∷ pos 0 ∷ [])) capacity (omega (arith, ints), tt);
  };
  reached = refl;
  least = least;
}
  where
    by : (a b c : ℤ) → pos 0 ≤ℤ a → a ≤ℤ pos 1 → pos 0 ≤ℤ b → pos 0 ≤ℤ c
        → (negsuc 4 *ℤ a +ℤ (pos 3 *ℤ b +ℤ (pos 3 *ℤ c +ℤ pos 0))) ≤ℤ pos 0 → pos 0 ≤ℤ dot (pos 1 ∷ negsuc 0 ∷ negsuc 0 ∷ []) (a ∷ b ∷ c ∷ [])
    by a b c al ah bl cl load = by_lt_z (pos 0) a
        (λ opened. let one : a ≡ pos 1 = omega (arith, ints, opened, ah) in omega (arith, ints, one, bl, cl, load))
        (λ shut. let none : a ≡ pos 0 = omega (arith, ints, shut, al) in omega (arith, ints, none, bl, cl, load))

    least : (y : List ℤ) → IsPoint capacity (bin ∷ bin ∷ bin ∷ []) y → pos 0 ≤ℤ dot (pos 1 ∷ negsuc 0 ∷ negsuc 0 ∷ []) y
    least [] h = absurd h.inside
    least (a ∷ []) h = absurd h.inside.1
    least (a ∷ b ∷ []) h = absurd h.inside.1.1
    least (a ∷ b ∷ c ∷ []) h =
        by a b c h.inside.0.above h.inside.0.below h.inside.1.0.above h.inside.1.1.0.above (load_within a b c h)
    least (a ∷ b ∷ c ∷ d ∷ ys) h = absurd h.inside.1.1.1

openers_bound : IsBound (wide_blocking (with_costs bins openers.objective) two_bins []) bins.spans openers.proof (pos 2)
openers_bound = record { parts = pos 0 ∷ pos 0 ∷ []; are_parts = (bin_least, (bin_least, tt)); total = refl }

openers_fit : IsFittingPriced bins two_bins (wide_rows bins two_bins []) openers
openers_fit = record {
  known = All-from_recursion (λ (t : Term). t.var < 6) openers.objective (omega arith, (omega arith, tt));
  signs = All-from_recursion (λ (m : ℕ × ℤ). SignFits (row_at (wide_blocking (with_costs bins openers.objective) two_bins []) m.0) m.1) openers.proof.mults
      (tt, (tt, tt));
  reached = inr (pos 2, openers_bound, omega (arith, ints));
}
