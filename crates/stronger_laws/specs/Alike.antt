-- Blocks that are alike in a zone and share no variable with others, and the siblings of a variable: what stands in its
-- place in the blocks of its class.
use Rattle.std.specs.Prelude.{ℕ, suc, Bool, true, false, not, ◌&&◌, List, [], ◌∷◌, map, filter, length, ℤ, ◌==◌, if◌then◌else◌, slice_index_or, All}
use Rattle.std.specs.List.{range_with_len, list_any}
use Rattle.std.specs.List.Sorted.{IsStrictlyIncreasing}
use Rattle.std.specs.Ordering.{int_eq}
use Rattle.bp_theory.specs.Blocking.{Copy, Block, Blocking}
use Rattle.bp_theory.specs.Decomposition.{place_of}
use Rattle.bp_theory.specs.Bound.{spans_of}
use Rattle.bp_theory.specs.declared.Span.{Span}
use Rattle.bp_theory.specs.declared.Term.{Term}
use Rattle.bp_theory.specs.declared.Sense.{Sense}
use Rattle.bp_theory.specs.declared.Sense.TheVariants.{Le, Ge, Eq, In}
use Rattle.bp_theory.specs.declared.Row.{Row}
use Rattle.search_laws.specs.Spread.{block_at}

-- whether two lists are as long and the same, element by element
abbrev pub agree : {X : Type 0} → (X → X → Bool) → List X → List X → Bool
agree same [] [] = true
agree same [] (y ∷ ys) = false
agree same (x ∷ xs) [] = false
agree same (x ∷ xs) (y ∷ ys) = same x y && agree same xs ys

-- whether two spans, entries, terms, senses or rows are the same
abbrev pub same_span : Span → Span → Bool
same_span s t = int_eq s.lo t.lo && int_eq s.hi t.hi

abbrev pub same_entry : ℕ × ℤ → ℕ × ℤ → Bool
same_entry e f = (e.0 == f.0) && int_eq e.1 f.1

abbrev pub same_term : Term → Term → Bool
same_term t u = (t.var == u.var) && int_eq t.coef u.coef

abbrev pub same_sense : Sense → Sense → Bool
same_sense Le Le = true
same_sense Le Ge = false
same_sense Le Eq = false
same_sense Le In = false
same_sense Ge Le = false
same_sense Ge Ge = true
same_sense Ge Eq = false
same_sense Ge In = false
same_sense Eq Le = false
same_sense Eq Ge = false
same_sense Eq Eq = true
same_sense Eq In = false
same_sense In Le = false
same_sense In Ge = false
same_sense In Eq = false
same_sense In In = true

abbrev pub same_row : Row → Row → Bool
same_row r s = same_sense r.sense s.sense && (int_eq r.low s.low && (int_eq r.rhs s.rhs && agree same_term r.terms s.terms))

-- whether two blocks have equal costs, spans in the zone, coefficients in rows of proofs, and rows
abbrev pub is_alike : List Span → Block → Block → Bool
is_alike zone k l =
    agree int_eq (map (λ (c : Copy). c.cost) k.copies) (map (λ (c : Copy). c.cost) l.copies)
    && (agree same_span (spans_of zone k) (spans_of zone l)
    && (agree (agree same_entry) (map (λ (c : Copy). c.coefs) k.copies) (map (λ (c : Copy). c.coefs) l.copies)
    && agree same_row k.rows l.rows))

-- the variables of a block
abbrev pub variables_of : Block → List ℕ
variables_of k = map (λ (c : Copy). c.var) k.copies

-- no block has a variable twice
abbrev pub HasDistinctVariables : Blocking → Type 0
HasDistinctVariables b = All (λ k. IsStrictlyIncreasing (variables_of k)) b.blocks

-- whether a variable is among others
abbrev pub is_among : ℕ → List ℕ → Bool
is_among v vs = list_any (λ u. u == v) vs

-- whether a block shares a variable with another
abbrev pub shares : Block → Block → Bool
shares k l = list_any (λ u. is_among u (variables_of l)) (variables_of k)

-- whether no other block shares a variable with a block
abbrev pub stands_alone : Blocking → ℕ → Bool
stands_alone b k = not (list_any (λ j. not (j == k) && shares (block_at b k) (block_at b j)) (range_with_len 0 (length b.blocks)))

-- the number of the first block that has a variable
abbrev pub home_among : List Block → ℕ → ℕ
home_among [] v = 0
home_among (k ∷ ks) v = if is_among v (variables_of k) then 0 else suc (home_among ks v)

abbrev pub home : Blocking → ℕ → ℕ
home b v = home_among b.blocks v

-- the variable of a block in the place that a variable has in its own block
abbrev pub sibling : Blocking → ℕ → ℕ → ℕ
sibling b v k = slice_index_or (variables_of (block_at b k)) (place_of (variables_of (block_at b (home b v))) v) 0

-- whether a block is one of a variable's class in a zone: it is alike with the variable's block, and both stand alone
abbrev pub is_member : Blocking → List Span → ℕ → ℕ → Bool
is_member b zone v k =
    stands_alone b (home b v) && (stands_alone b k && is_alike zone (block_at b (home b v)) (block_at b k))

-- the blocks of a variable's class in a zone, ascending
abbrev pub class_of : Blocking → List Span → ℕ → List ℕ
class_of b zone v = filter (is_member b zone v) (range_with_len 0 (length b.blocks))

-- the siblings of a variable, itself among them
abbrev pub siblings : Blocking → List Span → ℕ → List ℕ
siblings b zone v = map (sibling b v) (class_of b zone v)
