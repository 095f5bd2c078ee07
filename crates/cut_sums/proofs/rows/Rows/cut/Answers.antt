use Rattle.std.proofs.Common.{◌≡◌, ◌∙◌, ◌+◌, ◌-◌, arith, ap, get_or}
use Rattle.bp_theory.specs.Decomposition.{whole_row, link_count}
use Rattle.bp_theory.specs.declared.Row.{Row}
use Rattle.cut_sums.specs.Rows.{program_of, row_in}
use Rattle.cut_sums.proofs.RowLemmas.{row_behind, whole_of, bounded_at, IsOfCut}
use Rattle.cut_sums.specs.declared.rows.Rows.{Rows}
use Rattle.cut_sums.specs.Rows.{IsRows, IsBoundedRow}
use Rattle.cut_sums.proofs.rows.Rows.cut.Goals as goal
use Rattle.std.proofs.Common.{ℕ, length, ◌≤◌}

-- the earlier cut of a number
of_cut : (s : Rows) (number : ℕ) → IsRows s → length (program_of s).rows ≤ number → IsBoundedRow (program_of s) (row_in s number)
    → IsOfCut (program_of s) s.b.now.dec s.earlier.now number
of_cut s number h behind bounded =
    row_behind (program_of s) s.b.now.dec s.earlier.now number h.formed.places behind (whole_of (program_of s) (row_in s number) bounded)

pub overflow_sub-result : goal.overflow_sub-result
overflow_sub-result c =
    let of = of_cut c.args.self.now c.args.number c.requires.rows c.requires.behind c.requires.bounded in
    omega (arith, of.behind, c.requires.rows.first)

pub bounds-self-number : goal.bounds-self-number
bounds-self-number c =
    let of = of_cut c.args.self.now c.args.number c.requires.rows c.requires.behind c.requires.bounded in
    omega (arith, of.there, c.requires.rows.first)

pub returns : goal.returns
returns c =
    let s = c.args.self.now in
    let n : ℕ = c.args.number in
    let of = of_cut s n c.requires.rows c.requires.behind c.requires.bounded in
    let place : n - (length (program_of s).rows + link_count (program_of s) s.b.now.dec) ≡ n - s.first = omega (arith, c.requires.rows.first) in
    let row : Row = get_or s.earlier.now (n - s.first) c.index-self-number.result in
    let is : row_in s n ≡ whole_row row = of.row c.index-self-number.result ∙ ap (λ k. whole_row (get_or s.earlier.now k c.index-self-number.result)) place in
    record { row = is; bounded = bounded_at (program_of s) (row_in s n) row is c.requires.bounded }
