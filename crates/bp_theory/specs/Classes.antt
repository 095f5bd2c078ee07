-- Blocks that price alike, and how many prefixes a search over a block's points has.
use Rattle.std.specs.Prelude.{◌≡◌, ℕ, suc, ◌+◌, ◌*◌, List, [], ◌∷◌, map, ℤ, pos, negsuc, ◌-ℤ◌}
use Rattle.bp_theory.specs.Blocking.{Copy, Block, coef_in}
use Rattle.bp_theory.specs.Bound.{spans_of}
use Rattle.bp_theory.specs.declared.Span.{Span}

-- two blocks have as many copies, in order of equal costs, spans in the zone and coefficients in each
-- row of proofs, and equal rows
pub record IsSame (zone : List Span) (k l : Block) : Type 0 where
  pub costs : map (λ (c : Copy). c.cost) k.copies ≡ map (λ (c : Copy). c.cost) l.copies
  pub spans : spans_of zone k ≡ spans_of zone l
  pub coefs : (row : ℕ) → map (λ (c : Copy). coef_in c row) k.copies ≡ map (λ (c : Copy). coef_in c row) l.copies
  pub rows : k.rows ≡ l.rows

-- one more than a difference, 0 for a negative one
abbrev pub count_to : ℤ → ℕ
count_to (pos n) = suc n
count_to (negsuc n) = 0

-- how many numbers a span has
abbrev pub width : Span → ℕ
width s = count_to (s.hi -ℤ s.lo)

-- the beginnings of assignments to these spans: 1, and for each number of the first those of the rest
abbrev pub prefixes : List Span → ℕ
prefixes [] = 1
prefixes (s ∷ ss) = 1 + width s * prefixes ss
