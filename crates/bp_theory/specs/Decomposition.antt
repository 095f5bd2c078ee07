-- The blocking that a decomposition and cuts give a program: blocks, copies, link rows.
use Rattle.std.specs.Prelude.{◌≡◌, ◌≢◌, ◌⊎◌, ◌+◌, ◌*◌, ◌^◌, ◌≤◌, IsTrue, slice_index_or, ℕ, suc, ◌<◌, Bool, true, false, not, List, [], ◌∷◌, ◌++◌, map, filter, drop, length, Option, Some, None, ℤ, pos, ◌-ℤ◌, ◌==◌, if◌then◌else◌, option_map, All}
use Rattle.bp_theory.specs.Limits.{most_lines, number_limit}
use Rattle.std.specs.List.{range_with_len, list_any, zip, flat_map, enumerate_from}
use Rattle.std.specs.Ordering.{int_eq}
use Rattle.bp_theory.specs.Program.{Program, coefficient, span_at, reach}
use Rattle.bp_theory.specs.Blocking.{Copy, Block, Blocking, sides_of}
use Rattle.bp_theory.specs.declared.Term.{Term}
use Rattle.bp_theory.specs.declared.Sense.TheVariants.{Eq}
use Rattle.bp_theory.specs.declared.Row.{Row}

-- a decomposition: the number of its blocks, for each row its block or the master, and the listed variables with their places
pub record Decomposition : Type 0 where
  pub blocks : ℕ
  pub places : List (Option ℕ)
  pub listed : List (ℕ × Option ℕ)

-- whether a place is this block
abbrev pub is_block : ℕ → Option ℕ → Bool
is_block k None = false
is_block k (Some j) = j == k

-- the program's rows that a block has, in order
abbrev pub rows_of : Program → Decomposition → ℕ → List Row
rows_of p d k = map (λ e. e.0) (filter (λ e. is_block k e.1) (zip p.rows d.places))

-- whether a variable stands in a row, which is kept without zeros
abbrev pub stands_in : ℕ → Row → Bool
stands_in v row = list_any (λ t. t.var == v) row.terms

-- whether a variable stands in a row of a block, and so has a copy there
abbrev pub is_in : Program → Decomposition → ℕ → ℕ → Bool
is_in p d v k = list_any (stands_in v) (rows_of p d k)

-- whether no block below a number has a copy of a variable: then a copy in that block is its first
abbrev pub is_first : Program → Decomposition → ℕ → ℕ → Bool
is_first p d v k = not (list_any (is_in p d v) (range_with_len 0 k))

-- the variables that have a copy in a block, in order
abbrev pub members : Program → Decomposition → ℕ → List ℕ
members p d k = filter (λ v. is_in p d v k) (range_with_len 0 (length p.spans))

-- the variables that stand in no block's row, in order
abbrev pub lone_variables : Program → Decomposition → List ℕ
lone_variables p d = filter (λ v. is_first p d v d.blocks) (range_with_len 0 (length p.spans))

-- a row that proofs may name: a master row or a cut, the link of a variable's first copy to its copy
-- in a block, or none at a block's row
pub data ProofRow : Type 0 where
  whole_row : Row → ProofRow
  link_row : (var block : ℕ) → ProofRow
  no_row : ProofRow

-- a row of the program in proofs
abbrev pub proof_row : Row → Option ℕ → ProofRow
proof_row row None = whole_row row
proof_row row (Some k) = no_row

-- the link rows of a variable: one for each block after the first that has a copy of it, ascending
abbrev pub links_of : Program → Decomposition → ℕ → List ProofRow
links_of p d v = map (link_row v) (drop 1 (filter (is_in p d v) (range_with_len 0 d.blocks)))

-- the rows that proofs may name, by number: the program's rows, the link rows, the cuts
abbrev pub proof_rows : Program → Decomposition → List Row → List ProofRow
proof_rows p d cuts =
    map (λ e. proof_row e.0 e.1) (zip p.rows d.places)
    ++ flat_map (links_of p d) (range_with_len 0 (length p.spans))
    ++ map whole_row cuts

-- a row of proofs over the program's variables, where the copies of a link row cancel
abbrev pub full_row : ProofRow → Option Row
full_row (whole_row row) = Some row
full_row (link_row v k) = Some (record { sense = Eq; low = pos 0; rhs = pos 0; terms = [] })
full_row no_row = None

-- a number at a first copy, and 0 at a further one
abbrev pub at_first : Bool → ℤ → ℤ
at_first first z = if first then z else pos 0

-- the coefficient of the copy of v in block k: the variable's at a first copy, and in its links 1 at
-- the first copy, less 1 at the copy in the link's block
abbrev pub copy_coefficient : (first : Bool) (v k : ℕ) → ProofRow → ℤ
copy_coefficient first v k (whole_row row) = at_first first (coefficient row.terms v)
copy_coefficient first v k (link_row w j) =
    if w == v then at_first first (pos 1) -ℤ (if k == j then pos 1 else pos 0) else pos 0
copy_coefficient first v k no_row = pos 0

-- the numbers that aren't 0, with their places
abbrev pub numbered : List ℤ → List (ℕ × ℤ)
numbered zs = filter (λ e. not (int_eq e.1 (pos 0))) (enumerate_from 0 zs)

-- the copy of v in block k
abbrev pub copy_of : Program → List ProofRow → (first : Bool) (v k : ℕ) → Copy
copy_of p rows first v k = record {
  var = v;
  cost = at_first first (coefficient p.costs v);
  coefs = numbered (map (copy_coefficient first v k) rows);
}

-- the place of a variable among others
abbrev pub place_of : List ℕ → ℕ → ℕ
place_of [] v = 0
place_of (u ∷ us) v = if u == v then 0 else suc (place_of us v)

-- a term with the place of its variable
abbrev pub term_with_place : List ℕ → Term → Term
term_with_place vars t = record { var = place_of vars t.var; coef = t.coef }

-- a row with places among these variables in place of variables
abbrev pub row_with_places : List ℕ → Row → Row
row_with_places vars row = record row { terms = map (term_with_place vars) row.terms }

-- block k: a copy of each variable that stands in its rows
abbrev pub block_of : Program → Decomposition → List ProofRow → ℕ → Block
block_of p d rows k = record {
  copies = map (λ v. copy_of p rows (is_first p d v k) v k) (members p d k);
  rows = map (row_with_places (members p d k)) (rows_of p d k);
}

-- the block of a variable that stands in no block's row
abbrev pub lone_block : Program → Decomposition → List ProofRow → ℕ → Block
lone_block p d rows v = record { copies = copy_of p rows true v d.blocks ∷ []; rows = [] }

-- the blocking of a program by a decomposition, with cuts
abbrev pub blocking_of : Program → Decomposition → List Row → Blocking
blocking_of p d cuts = record {
  constant = p.constant;
  blocks = map (block_of p d (proof_rows p d cuts)) (range_with_len 0 d.blocks)
      ++ map (lone_block p d (proof_rows p d cuts)) (lone_variables p d);
  rows = map (option_map sides_of) (map full_row (proof_rows p d cuts));
}

-- each term names a variable below a number
abbrev pub HasVariablesBelow : ℕ → List Term → Type 0
HasVariablesBelow n terms = All (λ t. t.var < n) terms

-- the costs' and the rows' variables are there
pub record IsClosed (p : Program) : Type 0 where
  pub costs : HasVariablesBelow (length p.spans) p.costs
  pub rows : All (λ row. HasVariablesBelow (length p.spans) row.terms) p.rows

-- a place is the master or a block that is there
abbrev pub IsPlace : ℕ → Option ℕ → Type 0
IsPlace blocks None = Unit {0}
IsPlace blocks (Some k) = k < blocks

-- each row has a place
pub record HasPlaces (p : Program) (d : Decomposition) : Type 0 where
  pub each : length d.places ≡ length p.rows
  pub known : All (IsPlace d.blocks) d.places

-- a listed variable stands in a row of a block other than its list's
pub record IsMisplaced (p : Program) (d : Decomposition) (entry : ℕ × Option ℕ) : Type 0 where
  pub block : ℕ
  pub there : block < d.blocks
  pub stands : IsTrue (is_in p d entry.0 block)
  pub elsewhere : entry.1 ≢ Some block

-- the first listed variable that is misplaced
pub record IsFirstMisplaced (p : Program) (d : Decomposition) (v : ℕ) : Type 0 where
  pub place : ℕ
  pub there : place < length d.listed
  pub var : (e : ℕ × Option ℕ) → (slice_index_or d.listed place e).0 ≡ v
  pub misplaced : (e : ℕ × Option ℕ) → IsMisplaced p d (slice_index_or d.listed place e)
  pub first : (k : ℕ) (e : ℕ × Option ℕ) → k < place → IsMisplaced p d (slice_index_or d.listed k e) → ⊥

-- a variable has copies in two blocks
pub record IsLinking (p : Program) (d : Decomposition) (v : ℕ) : Type 0 where
  pub first : ℕ
  pub later : ℕ
  pub apart : first < later
  pub there : later < d.blocks
  pub in_first : IsTrue (is_in p d v first)
  pub in_later : IsTrue (is_in p d v later)

-- how many link rows there are
abbrev pub link_count : Program → Decomposition → ℕ
link_count p d = length (flat_map (links_of p d) (range_with_len 0 (length p.spans)))

-- too many rows and links, or a linking variable whose difference of two copies may leave 62 bits
abbrev pub HasLargeLinks : Program → Decomposition → Type 0
HasLargeLinks p d =
    (most_lines p.limits < length p.rows + link_count p d)
    ⊎ ((v : ℕ) × (v < length p.spans) × IsLinking p d v × (number_limit ≤ 2 * reach (span_at p.spans v)))

-- terms name variables from a number on, each once, in order and without zeros
abbrev pub IsTidyFrom : ℕ → List Term → Type 0
IsTidyFrom n [] = Unit {0}
IsTidyFrom n (t ∷ ts) = (n ≤ t.var) × (t.coef ≢ pos 0) × IsTidyFrom (suc t.var) ts
