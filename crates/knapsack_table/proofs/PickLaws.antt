-- Laws of picking a load of least cost by a table.
use Rattle.std.proofs.Common.{◌≡◌, refl, sym, subst, ◌∙◌, ℕ, ◌+◌, ◌^◌, ◌≤◌, List, length, arith}
use Rattle.std.proofs.Math.IntN.{ℤ}
use Rattle.std.specs.Prelude.{Some, None, ◌≤ℤ◌}
use Rattle.std.proofs.lemmas.Int.{ints}
use Rattle.bp_theory.specs.declared.Span.{Span}
use Rattle.bp_theory.specs.declared.Row.{Row}
use Rattle.bp_theory.proofs.ZipLaws.{AllZip-length}
use Rattle.knapsack_table.specs.declared.items.Item.{Item}
use Rattle.knapsack_table.specs.Loads.{IsLoad, load, worth, items_of, point_of}
use Rattle.knapsack_table.specs.Tables.{no_way, far, short_no_way, short_far, AreApart, IsTable, Reaches}
use Rattle.knapsack_table.specs.Choices.{MeetsAt, IsChosen, HasNoLoad, IsLeastLoad}
use Rattle.knapsack_table.proofs.StepLaws.{length-items_of, length-point_of}

-- the numbers of tables in 128 bits, and in 64 bits
pub apart : (size : ℕ) → size ≤ 2 ^ 124 → AreApart size no_way far
apart size h = record { below = omega (arith, ints, h); above = omega (arith, ints, h) }

pub short_apart : (size : ℕ) → size ≤ 2 ^ 59 → AreApart size short_no_way short_far
short_apart size h = record { below = omega (arith, ints, h); above = omega (arith, ints, h) }

-- no weight is chosen: no load meets the row
pub none_picked : (limit : ℤ) (items : List Item) (row : Row) (base : ℤ) (top : ℕ) (cells : ℕ → ℤ)
    → IsTable limit items top cells → IsChosen limit cells row base (top + 1) None → HasNoLoad items row base top
none_picked limit items row base top cells table chosen us m =
    chosen (load items us) (omega (arith, m.within)) m.meets (table (load items us) us m.within m.fits refl).0

-- a load that reaches the cell of the weight that is chosen is one of least cost
pub some_picked : (limit : ℤ) (items : List Item) (row : Row) (base : ℤ) (top c : ℕ) (us : List ℕ) (cells : ℕ → ℤ)
    → IsTable limit items top cells → IsChosen limit cells row base (top + 1) (Some c) → Reaches items us c (cells c)
    → IsLeastLoad items row base top us (cells c)
some_picked limit items row base top c us cells table chosen reached = record {
  way = record {
    fits = reached.fits;
    within = omega (arith, reached.weighs, chosen.0);
    meets = subst (MeetsAt row base) (sym reached.weighs) chosen.1;
  };
  costs = reached.costs;
  least = λ others m.
      through (cells c) (cells (load items others)) (worth items others) (chosen.3 (load items others) (omega (arith, m.within)) m.meets)
      (table (load items others) others m.within m.fits refl).1;
}
  where
    through : (a b d : ℤ) → a ≤ℤ b → b ≤ℤ d → a ≤ℤ d
    through a b d p q = omega (arith, ints, p, q)

-- a load's point has a number for each variable
pub load_length : (as' : List ℤ) (zone : List Span) (costs : List ℤ) (us : List ℕ) → length as' ≡ length zone → length costs ≡ length zone
    → IsLoad (items_of as' zone costs) us → length (point_of as' zone costs us) ≡ length zone
load_length as' zone costs us e f h =
    length-point_of as' zone costs us e f
    (sym (AllZip-length (λ (i : Item) (u : ℕ). u ≤ i.width) (items_of as' zone costs) us h) ∙ length-items_of as' zone costs e f)
