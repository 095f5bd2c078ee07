-- The master of the tests: two blocks share one row, and it is modest.
use Rattle.std.proofs.Common.{◌≡◌, refl, ◌+◌, ◌<◌, ◌≤◌, ◌^◌, ℕ, pos, [], ◌∷◌, arith}
use Rattle.std.specs.Prelude.{ℤ, negsuc, max, unsigned_abs}
use Rattle.std.proofs.lemmas.List.Elements.{All-nil, All-cons}
use Rattle.bp_theory.specs.declared.Sense.TheVariants.{Le}
use Rattle.bp_theory.specs.declared.MasterRow.{MasterRow}
use Rattle.search_laws.specs.declared.Column.{Column}
use Rattle.search_laws.specs.Master.{column_activity, master_row, IsKnownColumn}
use Rattle.master_gap.specs.Restricted.{Restricted, reach, IsModest}

-- a column that does nothing
abbrev pub idle : Column
idle = record { class = 0; cost = pos 0; acts = [] }

-- a column that costs -10 and takes 2 of the row
abbrev pub busy : Column
busy = record { class = 0; cost = negsuc 9; acts = (0, pos 2) ∷ [] }

-- at most 3
abbrev pub row : MasterRow
row = record { sense = Le; low = pos 3; rhs = pos 3 }

abbrev pub two_blocks : Restricted
two_blocks = record { cols = idle ∷ busy ∷ []; rows = row ∷ []; counts = 2 ∷ [] }

known_idle : IsKnownColumn 1 1 idle
known_idle = record { class = omega arith; rows = All-nil (λ (e : ℕ × ℤ). e.0 < 1) }

known_busy : IsKnownColumn 1 1 busy
known_busy = record {
  class = omega arith;
  rows = All-cons (λ (e : ℕ × ℤ). e.0 < 1) (0, pos 2) [] (omega arith) (All-nil (λ (e : ℕ × ℤ). e.0 < 1));
}

activity : (i : ℕ) → i < 1
    → reach (λ c. column_activity c i) two_blocks + max (unsigned_abs (master_row two_blocks.rows i).low) (unsigned_abs (master_row two_blocks.rows i).rhs) < 2 ^ 62
activity i l =
    let first : i ≡ 0 = omega (arith, l) in
    rw first (let small : reach (λ c. column_activity c 0) two_blocks + max (unsigned_abs (master_row two_blocks.rows 0).low) (unsigned_abs (master_row two_blocks.rows 0).rhs) ≡ 7 = refl in
    omega (arith, small))

pub two_blocks_modest : IsModest two_blocks
two_blocks_modest = record {
  known = All-cons (IsKnownColumn 1 1) idle (busy ∷ []) known_idle (All-cons (IsKnownColumn 1 1) busy [] known_busy (All-nil (IsKnownColumn 1 1)));
  few = omega arith;
  sizes = All-cons (λ (n : ℕ). (0 < n) × (n ≤ 8192)) 2 [] (omega arith, omega arith) (All-nil (λ (n : ℕ). (0 < n) × (n ≤ 8192)));
  each = λ k l. (0, idle, omega arith, refl, omega (arith, l));
  costs = (let small : reach (λ c. c.cost) two_blocks ≡ 20 = refl in omega (arith, small));
  activities = activity;
}

-- the same of a master that has these columns, row and count
pub two_blocks_modest_as : (m : Restricted) → m ≡ two_blocks → IsModest m
two_blocks_modest_as m e = rw e two_blocks_modest

abbrev pub one_column : Restricted
one_column = record { cols = idle ∷ []; rows = row ∷ []; counts = 2 ∷ [] }

activity_of_one : (i : ℕ) → i < 1
    → reach (λ c. column_activity c i) one_column + max (unsigned_abs (master_row one_column.rows i).low) (unsigned_abs (master_row one_column.rows i).rhs) < 2 ^ 62
activity_of_one i l =
    let first : i ≡ 0 = omega (arith, l) in
    rw first (let small : reach (λ c. column_activity c 0) one_column + max (unsigned_abs (master_row one_column.rows 0).low) (unsigned_abs (master_row one_column.rows 0).rhs) ≡ 3 = refl in
    omega (arith, small))

pub one_column_modest : IsModest one_column
one_column_modest = record {
  known = All-cons (IsKnownColumn 1 1) idle [] known_idle (All-nil (IsKnownColumn 1 1));
  few = omega arith;
  sizes = All-cons (λ (n : ℕ). (0 < n) × (n ≤ 8192)) 2 [] (omega arith, omega arith) (All-nil (λ (n : ℕ). (0 < n) × (n ≤ 8192)));
  each = λ k l. (0, idle, omega arith, refl, omega (arith, l));
  costs = (let small : reach (λ c. c.cost) one_column ≡ 0 = refl in omega (arith, small));
  activities = activity_of_one;
}

-- the same of a master that has this column, row and count
pub one_column_modest_as : (m : Restricted) → m ≡ one_column → IsModest m
one_column_modest_as m e = rw e one_column_modest
