-- The definitions at small trees, masters and spreads, computed.
use Rattle.std.proofs.Common.{◌≡◌, refl, true, false, List, [], ◌∷◌, ◌++◌, Some, None}
use Rattle.std.proofs.Math.IntN.{pos, negsuc}
use Rattle.bp_theory.specs.Bound.{plain_proof}
use Rattle.bp_theory.specs.Trees.{steps, depth, open_leaf, shut_leaf, split}
use Rattle.bp_theory.specs.declared.Span.{Span}
use Rattle.bp_theory.specs.declared.Sense.TheVariants.{Le}
use Rattle.bp_theory.specs.declared.MasterRow.{MasterRow}
use Rattle.search_laws.specs.declared.Side.TheVariants.{Low, High}
use Rattle.search_laws.specs.declared.Column.{Column}
use Rattle.search_laws.specs.declared.UsedColumn.{UsedColumn}
use Rattle.search_laws.specs.Grove.{GrowingTree, zone_at, live_at, planted, shut_at, fork_at, certificate_tree, live_count, live_bounds}
use Rattle.bp_theory.specs.Digits.{binary_digits, zone_bits, middle}
use Rattle.search_laws.specs.Crew.{Crew, free_count, holder_count}
use Rattle.search_laws.specs.Master.{column_price, gap, short}
use Rattle.search_laws.specs.Parts.{doubles, rest_part, chosen_sum}
use Rattle.search_laws.specs.Spread.{class_points, block_point}

-- one variable from 0 to 16383
abbrev wide : List Span
wide = record { lo = pos 0; hi = pos 16383 } ∷ []

-- planted with bound -16383, forked at 99, its low part at 49, and that one's high part shut
abbrev grown_once : GrowingTree
grown_once = fork_at (planted (negsuc 16382)) [] 0 (pos 99) plain_proof (negsuc 16382)

abbrev grown_twice : GrowingTree
grown_twice = fork_at grown_once (Low ∷ []) 0 (pos 49) plain_proof (negsuc 98)

abbrev grown_thrice : GrowingTree
grown_thrice = shut_at grown_twice (Low ∷ High ∷ []) plain_proof

zone_there : zone_at grown_thrice wide (Low ∷ High ∷ []) ≡ record { lo = pos 50; hi = pos 99 } ∷ []
zone_there = refl

zone_high : zone_at grown_thrice wide (High ∷ []) ≡ record { lo = pos 100; hi = pos 16383 } ∷ []
zone_high = refl

bounds_there : live_bounds grown_thrice ≡ negsuc 98 ∷ negsuc 16382 ∷ []
bounds_there = refl

counts_there : steps (certificate_tree grown_thrice) ≡ 3
counts_there = refl

lives_there : live_count grown_thrice ≡ 2
lives_there = refl

none_there : live_at grown_thrice (Low ∷ High ∷ []) ≡ None
none_there = refl

deep_there : depth (certificate_tree grown_thrice) ≡ 2
deep_there = refl

read_there : certificate_tree grown_thrice
    ≡ split 0 (pos 99) (split 0 (pos 49) (open_leaf plain_proof) (shut_leaf plain_proof)) (open_leaf plain_proof)
read_there = refl

-- digits and the middle
digits_there : binary_digits 16383 ≡ 14
unfolding binary_digits
digits_there = refl

no_digits : binary_digits 0 ≡ 0
unfolding binary_digits
no_digits = refl

eight_is_four : binary_digits 8 ≡ 4
unfolding binary_digits
eight_is_four = refl

bits_there : zone_bits wide ≡ 14
unfolding binary_digits
bits_there = refl

middle_there : middle (record { lo = pos 0; hi = pos 16383 }) ≡ pos 8191
middle_there = refl

middle_below : middle (record { lo = negsuc 4; hi = pos 2 }) ≡ negsuc 1
middle_below = refl

-- two workers over that tree, the second of which holds a leaf
abbrev at_work : Crew
at_work = record { tree = grown_thrice; best = None; held = None ∷ Some (record { path = High ∷ []; given = None }) ∷ [] }

free_there : free_count at_work ≡ 1
free_there = refl

held_there : holder_count at_work ≡ 1
held_there = refl

-- the parts of 6, of 7 and of 0
parts_of_six : doubles 1 2 ++ rest_part 3 ≡ 1 ∷ 2 ∷ 3 ∷ []
parts_of_six = refl

parts_of_seven : doubles 1 3 ++ rest_part 0 ≡ 1 ∷ 2 ∷ 4 ∷ []
parts_of_seven = refl

five_of_six : chosen_sum (false ∷ true ∷ true ∷ []) (1 ∷ 2 ∷ 3 ∷ []) ≡ 5
five_of_six = refl

-- two blocks of a class, of which the first column is taken once and the second once
abbrev used : List UsedColumn
used = record { class = 0; weight = pos 1048576; point = pos 2 ∷ [] } ∷ record { class = 0; weight = pos 1048576; point = pos 0 ∷ [] } ∷ []

points_there : class_points used 0 ≡ (pos 2 ∷ []) ∷ (pos 0 ∷ []) ∷ []
points_there = refl

second_point : block_point used (0 ∷ 0 ∷ []) 1 ≡ pos 0 ∷ []
second_point = refl

-- one class of two blocks, columns of cost 0 and -10, the second with activity 2, in a row of at most 3
abbrev no_column : Column
no_column = record { class = 0; cost = pos 0; acts = [] }

abbrev ten_column : Column
ten_column = record { class = 0; cost = negsuc 9; acts = (0, pos 2) ∷ [] }

abbrev at_most_three : List MasterRow
at_most_three = record { sense = Le; low = pos 3; rhs = pos 3 } ∷ []

no_gap : gap at_most_three (2 ∷ []) ((no_column, pos 524288) ∷ (ten_column, pos 1572864) ∷ []) (negsuc 5242879 ∷ []) (pos 0 ∷ []) ≡ pos 0
no_gap = refl

nothing_short : short at_most_three (2 ∷ []) ((no_column, pos 524288) ∷ (ten_column, pos 1572864) ∷ []) ≡ 0
nothing_short = refl

half_short : short at_most_three (2 ∷ []) ((no_column, pos 0) ∷ (ten_column, pos 2097152) ∷ []) ≡ 1048576
half_short = refl

no_price : column_price (negsuc 5242879 ∷ []) ten_column ≡ pos 0
no_price = refl
