-- A row of one block as items that are loaded unit by unit.
use Rattle.std.specs.Prelude.{int_lt, ◌≡◌, ℕ, zero, suc, ◌+◌, ◌*◌, ◌<◌, ◌≤◌, unsigned_abs, List, [], ◌∷◌, ℤ, pos, negsuc, neg_ℤ, ◌+ℤ◌, ◌-ℤ◌, ◌*ℤ◌, if◌then◌else◌}
use Rattle.std.specs.Int.{int_gap}
use Rattle.std.specs.List.{AllZip}
use Rattle.bp_theory.specs.declared.Span.{Span}
use Rattle.knapsack_table.specs.declared.items.Item.{Item}

-- a load takes at most the width of each item
abbrev pub IsLoad : List Item → List ℕ → Type 0
IsLoad items us = AllZip (λ i u. u ≤ i.width) items us

-- the weight of a load
abbrev pub load : List Item → List ℕ → ℕ
load [] us = 0
load (i ∷ is) [] = 0
load (i ∷ is) (u ∷ us) = i.weight * u + load is us

-- the cost of a load
abbrev pub worth : List Item → List ℕ → ℤ
worth [] us = pos 0
worth (i ∷ is) [] = pos 0
worth (i ∷ is) (u ∷ us) = i.cost *ℤ pos u +ℤ worth is us

-- the item of a variable: units upwards where its coefficient is positive, downwards where it is negative, none where it is 0
abbrev pub item_of : (coef : ℤ) → Span → (cost : ℤ) → Item
item_of (pos zero) s r = record { weight = 0; width = 0; cost = pos 0 }
item_of (pos (suc n)) s r = record { weight = suc n; width = int_gap s.lo s.hi; cost = r }
item_of (negsuc n) s r = record { weight = suc n; width = int_gap s.lo s.hi; cost = neg_ℤ r }

-- the number of a variable with so many units loaded; where its coefficient is 0, that of its cheaper end
abbrev pub number_of : (coef : ℤ) → Span → (cost : ℤ) → ℕ → ℤ
number_of (pos zero) s r u = if int_lt r (pos 0) then s.hi else s.lo
number_of (pos (suc n)) s r u = s.lo +ℤ pos u
number_of (negsuc n) s r u = s.hi -ℤ pos u

-- the items of variables
abbrev pub items_of : List ℤ → List Span → List ℤ → List Item
items_of [] ss rs = []
items_of (a ∷ as') [] rs = []
items_of (a ∷ as') (s ∷ ss) [] = []
items_of (a ∷ as') (s ∷ ss) (r ∷ rs) = item_of a s r ∷ items_of as' ss rs

-- the point of a load
abbrev pub point_of : List ℤ → List Span → List ℤ → List ℕ → List ℤ
point_of [] ss rs us = []
point_of (a ∷ as') [] rs us = []
point_of (a ∷ as') (s ∷ ss) [] us = []
point_of (a ∷ as') (s ∷ ss) (r ∷ rs) [] = []
point_of (a ∷ as') (s ∷ ss) (r ∷ rs) (u ∷ us) = number_of a s r u ∷ point_of as' ss rs us

-- no units of any item
abbrev pub none_of : List ℤ → List ℕ
none_of [] = []
none_of (a ∷ as') = 0 ∷ none_of as'
