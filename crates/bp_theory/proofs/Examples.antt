-- The definitions at small programs, computed.
use Rattle.std.proofs.Common.{◌≡◌, refl, ℕ, true, false, List, [], ◌∷◌, map, length, Some, None}
use Rattle.std.proofs.Math.IntN.{ℤ, pos, negsuc}
use Rattle.bp_theory.specs.Program.{Program, value}
use Rattle.bp_theory.specs.Blocking.{all_copies, coef_in, row_at}
use Rattle.bp_theory.specs.Decomposition.{Decomposition, blocking_of, members}
use Rattle.bp_theory.specs.Bound.{base, reduced_cost}
use Rattle.std.proofs.Common.{sym, ap, subst, ◌<◌, inr, arith}
use Rattle.std.specs.Prelude.{◌≤ℤ◌, All, IsTrue, if◌then◌else◌}
use Rattle.std.proofs.lemmas.Int.{ints}
use Rattle.std.proofs.lemmas.List.Elements.{All-from_recursion, All-nil}
use Rattle.bp_theory.specs.Program.{IsFeasible, MeetsRow, KeepsActivity}
use Rattle.bp_theory.specs.Decomposition.{proof_rows, lone_block, IsClosed, HasVariablesBelow}
use Rattle.bp_theory.specs.Blocking.{Block}
use Rattle.bp_theory.specs.Bound.{IsLeast, IsPart, IsBound, SignFits, SignsFit, is_picked, spans_of}
use Rattle.bp_theory.specs.Trees.{shut_leaf, Leaf, leaves}
use Rattle.bp_theory.specs.Claims.{Certificate, IsCertified, IsTrueClaim, Shows, MayBeOpen}
use Rattle.bp_theory.specs.declared.Claim.TheVariants.{Optimal}
use Rattle.bp_theory.proofs.ClassProof.{least_over_box_lem}
use Rattle.bp_theory.proofs.CutProof.{certified_is_true_lem}
use Rattle.std.specs.Prelude.{◌+ℤ◌, ◌*ℤ◌}
use Rattle.bp_theory.specs.Sums.{dot}
use Rattle.bp_theory.specs.Bound.{IsPoint}
use Rattle.bp_theory.specs.Cuts.{cut_rows}
use Rattle.bp_theory.specs.Classes.{prefixes}
use Rattle.bp_theory.specs.declared.Limits.TheVariants.{Usual}
use Rattle.bp_theory.specs.declared.Span.{Span}
use Rattle.bp_theory.specs.declared.Term.{Term}
use Rattle.bp_theory.specs.declared.Sense.{Sense}
use Rattle.bp_theory.specs.declared.Sense.TheVariants.{Le, Ge, Eq}
use Rattle.bp_theory.specs.declared.Row.{Row}
use Rattle.bp_theory.specs.declared.Proof.{Proof}
use Rattle.bp_theory.specs.declared.Picked.TheVariants.{Every, These}

abbrev span : ℤ → ℤ → Span
span lo hi = record { lo = lo; hi = hi }

abbrev term : ℕ → ℤ → Term
term v c = record { var = v; coef = c }

abbrev row : Sense → ℤ → List Term → Row
row s b ts = record { sense = s; low = b; rhs = b; terms = ts }

-- maximise 3 x + 2 y, 2 x + y at most 5, x + 3 y at most 7, both from 0 to 3
abbrev two_rows : Program
two_rows = record {
  spans = span (pos 0) (pos 3) ∷ span (pos 0) (pos 3) ∷ [];
  rows = row Le (pos 5) (term 0 (pos 2) ∷ term 1 (pos 1) ∷ []) ∷ row Le (pos 7) (term 0 (pos 1) ∷ term 1 (pos 3) ∷ []) ∷ [];
  costs = term 0 (negsuc 2) ∷ term 1 (negsuc 1) ∷ [];
  constant = pos 0;
  maximises = true;
  limits = Usual;
}

abbrev no_blocks : Decomposition
no_blocks = record { blocks = 0; places = None ∷ None ∷ []; listed = [] }

-- scale 5, -7 on the first row, -1 on the second
abbrev five : Proof
five = record { scale = 5; mults = (0, negsuc 6) ∷ (1, negsuc 0) ∷ []; picked = These [] }

value_there : value two_rows (pos 2 ∷ pos 1 ∷ []) ≡ pos 8
value_there = refl

base_there : base (blocking_of two_rows no_blocks []) five ≡ negsuc 41
base_there = refl

reduced_there : map (reduced_cost five) (all_copies (blocking_of two_rows no_blocks [])) ≡ pos 0 ∷ pos 0 ∷ []
reduced_there = refl

blocks_there : length (blocking_of two_rows no_blocks []).blocks ≡ 2
blocks_there = refl

-- maximise 3 x + 2 y + 2 z, x + y at most 1 in one block, x + z at most 1 in another, all binary
abbrev linked : Program
linked = record {
  spans = span (pos 0) (pos 1) ∷ span (pos 0) (pos 1) ∷ span (pos 0) (pos 1) ∷ [];
  rows = row Le (pos 1) (term 0 (pos 1) ∷ term 1 (pos 1) ∷ []) ∷ row Le (pos 1) (term 0 (pos 1) ∷ term 2 (pos 1) ∷ []) ∷ [];
  costs = term 0 (negsuc 2) ∷ term 1 (negsuc 1) ∷ term 2 (negsuc 1) ∷ [];
  constant = pos 0;
  maximises = true;
  limits = Usual;
}

abbrev two_blocks : Decomposition
two_blocks = record { blocks = 2; places = Some 0 ∷ Some 1 ∷ []; listed = [] }

-- scale 1, -1 on the link of x, which is the third row of proofs
abbrev on_link : Proof
on_link = record { scale = 1; mults = (2, negsuc 0) ∷ []; picked = Every }

members_there : members linked two_blocks 0 ≡ 0 ∷ 1 ∷ []
members_there = refl

members_there_too : members linked two_blocks 1 ≡ 0 ∷ 2 ∷ []
members_there_too = refl

proof_rows_there : map (λ c. coef_in c 2) (all_copies (blocking_of linked two_blocks [])) ≡ pos 1 ∷ pos 0 ∷ negsuc 0 ∷ pos 0 ∷ []
proof_rows_there = refl

link_row_there : row_at (blocking_of linked two_blocks []) 2 ≡ Some (record { sense = Eq; low = pos 0; rhs = pos 0 })
link_row_there = refl

-- -2 and -2 in the first block, -1 and -2 in the second: so the least of each is -2
linked_costs : map (reduced_cost on_link) (all_copies (blocking_of linked two_blocks [])) ≡ negsuc 1 ∷ negsuc 1 ∷ negsuc 0 ∷ negsuc 1 ∷ []
linked_costs = refl

-- 3 x at least 1, x from -1 to 5
abbrev three : Program
three = record {
  spans = span (negsuc 0) (pos 5) ∷ [];
  rows = row Ge (pos 1) (term 0 (pos 3) ∷ []) ∷ [];
  costs = [];
  constant = pos 0;
  maximises = false;
  limits = Usual;
}

abbrev one_master : Decomposition
one_master = record { blocks = 0; places = None ∷ []; listed = [] }

halves : cut_rows three one_master [] (record { q = 2; rows = (0, pos 1) ∷ [] } ∷ []) ≡ row Ge (pos 0) (term 0 (pos 2) ∷ []) ∷ []
halves = refl

thirds : cut_rows three one_master [] (record { q = 3; rows = (0, pos 1) ∷ [] } ∷ []) ≡ row Ge (pos 1) (term 0 (pos 1) ∷ []) ∷ []
thirds = refl

prefixes_there : prefixes (span (pos 0) (pos 2) ∷ span (pos 0) (pos 2) ∷ []) ≡ 13
prefixes_there = refl

-- the certificate of one leaf for the first program: 8 is its best value
abbrev certificate : Certificate
certificate = record { claim = Optimal (pos 8); point = Some (pos 2 ∷ pos 1 ∷ []); cuts = []; tree = shut_leaf five }

part_there : (k : ℕ) (b : Block) → is_picked five.picked k ≡ false → length b.copies ≡ 1 → spans_of two_rows.spans b ≡ span (pos 0) (pos 3) ∷ []
    → map (reduced_cost five) b.copies ≡ pos 0 ∷ [] → IsPart two_rows.spans five k b (pos 0)
part_there k b other long spans costs =
    subst (λ rows. IsLeast rows (spans_of two_rows.spans b) (map (reduced_cost five) b.copies) (pos 0))
    (ap (λ t. if t then b.rows else []) (sym other))
    (subst (λ ss. IsLeast [] ss (map (reduced_cost five) b.copies) (pos 0)) (sym spans)
    (subst (λ cs. IsLeast [] (span (pos 0) (pos 3) ∷ []) cs (pos 0)) (sym costs)
    (least_over_box_lem (span (pos 0) (pos 3) ∷ []) (pos 0 ∷ [])
    (All-from_recursion (λ (s : Span). s.lo ≤ℤ s.hi) (span (pos 0) (pos 3) ∷ []) (omega (arith, ints), tt)) refl)))

bound_there : IsBound (blocking_of two_rows no_blocks []) two_rows.spans five (negsuc 41)
bound_there = record {
  parts = pos 0 ∷ pos 0 ∷ [];
  are_parts = (
    part_there 0 (lone_block two_rows no_blocks (proof_rows two_rows no_blocks []) 0) refl refl refl refl,
    (part_there 1 (lone_block two_rows no_blocks (proof_rows two_rows no_blocks []) 1) refl refl refl refl, tt),
  );
  total = refl;
}

feasible_there : IsFeasible two_rows (pos 2 ∷ pos 1 ∷ [])
feasible_there = record {
  inside = (record { above = omega (arith, ints); below = omega (arith, ints) }, (record { above = omega (arith, ints); below = omega (arith, ints) }, tt));
  rows = All-from_recursion (MeetsRow (pos 2 ∷ pos 1 ∷ [])) two_rows.rows (omega (arith, ints), (omega (arith, ints), tt));
}

one_leaf : (P : Leaf → Type 0) → P (record { zone = two_rows.spans; proof = five; is_open = false }) → All P (leaves (shut_leaf five) two_rows.spans)
one_leaf P h = All-from_recursion P (leaves (shut_leaf five) two_rows.spans) (h, tt)

certified_there : IsCertified two_rows no_blocks certificate
certified_there = record {
  fitting = tt;
  bounded = All-nil (KeepsActivity two_rows);
  valid = record {
    point = record { feasible = feasible_there; has_value = refl };
    splits = tt;
    signs = one_leaf (λ leaf. SignsFit (blocking_of two_rows no_blocks []) leaf.proof)
        (All-from_recursion (λ (m : ℕ × ℤ). SignFits (row_at (blocking_of two_rows no_blocks []) m.0) m.1) five.mults
        (omega (arith, ints), (omega (arith, ints), tt)));
    shown = one_leaf (Shows two_rows (blocking_of two_rows no_blocks []) (Optimal (pos 8)))
        (inr (negsuc 41, bound_there, omega (arith, ints)));
    shut = one_leaf (λ leaf. IsTrue leaf.is_open → MayBeOpen (Optimal (pos 8))) (λ h. absurd (cc));
  };
}

closed_there : IsClosed two_rows
closed_there = record {
  costs = All-from_recursion (λ (t : Term). t.var < 2) two_rows.costs (omega arith, (omega arith, tt));
  rows = All-from_recursion (λ (r : Row). HasVariablesBelow 2 r.terms) two_rows.rows (
    All-from_recursion (λ (t : Term). t.var < 2) (term 0 (pos 2) ∷ term 1 (pos 1) ∷ []) (omega arith, (omega arith, tt)),
    (All-from_recursion (λ (t : Term). t.var < 2) (term 0 (pos 1) ∷ term 1 (pos 3) ∷ []) (omega arith, (omega arith, tt)), tt),
  );
}

best_there : IsTrueClaim two_rows (Optimal (pos 8))
best_there = certified_is_true_lem two_rows no_blocks certificate closed_there certified_there

-- ---- a certificate over a linking variable

abbrev both_binary : List Span
both_binary = span (pos 0) (pos 1) ∷ span (pos 0) (pos 1) ∷ []

-- two places of a block whose sum is at most 1
abbrev at_most_one : List Row
at_most_one = row Le (pos 1) (term 0 (pos 1) ∷ term 1 (pos 1) ∷ []) ∷ []

sum_within : (a b : ℤ) → IsPoint at_most_one both_binary (a ∷ b ∷ []) → ((pos 1 *ℤ a +ℤ (pos 1 *ℤ b +ℤ pos 0)) ≤ℤ pos 1)
sum_within a b h = h.meets 0 (row Le (pos 1) []) (omega arith)

first_least : IsLeast at_most_one both_binary (negsuc 1 ∷ negsuc 1 ∷ []) (negsuc 1)
first_least = record {
  point = pos 0 ∷ pos 1 ∷ [];
  is_point = record {
    inside = (record { above = omega (arith, ints); below = omega (arith, ints) }, (record { above = omega (arith, ints); below = omega (arith, ints) }, tt));
    meets = All-from_recursion (MeetsRow (pos 0 ∷ pos 1 ∷ [])) at_most_one (omega (arith, ints), tt);
  };
  reached = refl;
  least = least;
}
  where
    least : (y : List ℤ) → IsPoint at_most_one both_binary y → negsuc 1 ≤ℤ dot (negsuc 1 ∷ negsuc 1 ∷ []) y
    least [] h = absurd h.inside
    least (a ∷ []) h = absurd h.inside.1
    least (a ∷ b ∷ []) h = omega (arith, ints, sum_within a b h)
    least (a ∷ b ∷ c ∷ ys) h = absurd h.inside.1.1

second_least : IsLeast at_most_one both_binary (negsuc 0 ∷ negsuc 1 ∷ []) (negsuc 1)
second_least = record {
  point = pos 0 ∷ pos 1 ∷ [];
  is_point = record {
    inside = (record { above = omega (arith, ints); below = omega (arith, ints) }, (record { above = omega (arith, ints); below = omega (arith, ints) }, tt));
    meets = All-from_recursion (MeetsRow (pos 0 ∷ pos 1 ∷ [])) at_most_one (omega (arith, ints), tt);
  };
  reached = refl;
  least = least;
}
  where
    least : (y : List ℤ) → IsPoint at_most_one both_binary y → negsuc 1 ≤ℤ dot (negsuc 0 ∷ negsuc 1 ∷ []) y
    least [] h = absurd h.inside
    least (a ∷ []) h = absurd h.inside.1
    least (a ∷ b ∷ []) h = omega (arith, ints, sum_within a b h, h.inside.0.above)
    least (a ∷ b ∷ c ∷ ys) h = absurd h.inside.1.1

linked_bound : IsBound (blocking_of linked two_blocks []) linked.spans on_link (negsuc 3)
linked_bound = record { parts = negsuc 1 ∷ negsuc 1 ∷ []; are_parts = (first_least, (second_least, tt)); total = refl }

abbrev linked_certificate : Certificate
linked_certificate = record { claim = Optimal (pos 4); point = Some (pos 0 ∷ pos 1 ∷ pos 1 ∷ []); cuts = []; tree = shut_leaf on_link }

linked_feasible : IsFeasible linked (pos 0 ∷ pos 1 ∷ pos 1 ∷ [])
linked_feasible = record {
  inside = (
    record { above = omega (arith, ints); below = omega (arith, ints) },
    (
      record { above = omega (arith, ints); below = omega (arith, ints) },
      (record { above = omega (arith, ints); below = omega (arith, ints) }, tt),
    ),
  );
  rows = All-from_recursion (MeetsRow (pos 0 ∷ pos 1 ∷ pos 1 ∷ [])) linked.rows (omega (arith, ints), (omega (arith, ints), tt));
}

linked_leaf : (P : Leaf → Type 0) → P (record { zone = linked.spans; proof = on_link; is_open = false }) → All P (leaves (shut_leaf on_link) linked.spans)
linked_leaf P h = All-from_recursion P (leaves (shut_leaf on_link) linked.spans) (h, tt)

linked_certified : IsCertified linked two_blocks linked_certificate
linked_certified = record {
  fitting = tt;
  bounded = All-nil (KeepsActivity linked);
  valid = record {
    point = record { feasible = linked_feasible; has_value = refl };
    splits = tt;
    signs = linked_leaf (λ leaf. SignsFit (blocking_of linked two_blocks []) leaf.proof)
        (All-from_recursion (λ (m : ℕ × ℤ). SignFits (row_at (blocking_of linked two_blocks []) m.0) m.1) on_link.mults (tt, tt));
    shown = linked_leaf (Shows linked (blocking_of linked two_blocks []) (Optimal (pos 4)))
        (inr (negsuc 3, linked_bound, omega (arith, ints)));
    shut = linked_leaf (λ leaf. IsTrue leaf.is_open → MayBeOpen (Optimal (pos 4))) (λ h. absurd (cc));
  };
}
