use Rattle.std.proofs.Common.{◌≤◌, ℕ, length, arith, rules}
use Rattle.cut_sums.specs.Cutting.{IsWhole}
use Rattle.cut_sums.specs.Rows.{program_of, row_in, IsRows}
use Rattle.cut_sums.specs.declared.rows.Rows.{Rows}
use Rattle.cut_sums.proofs.RowLemmas.{row_behind, cut_there, IsOfCut}
use Rattle.cut_sums.proofs.rows.Rows.has_cut.Goals as goal

of_cut : (s : Rows) (number : ℕ) → IsRows s → length (program_of s).rows ≤ number → IsWhole (row_in s number) → IsOfCut (program_of s) s.b.now.dec s.earlier.now number
of_cut s number h behind w = row_behind (program_of s) s.b.now.dec s.earlier.now number h.formed.places behind w

pub returns-then-number-self-2 : goal.returns-then-number-self-2
returns-then-number-self-2 c = (
  (λ h. absurd (cc)),
  λ w.
      let of = of_cut c.args.self.now c.args.number c.requires.rows c.requires.behind w in
      absurd (omega (arith, of.there, c.requires.rows.first)),
)

pub returns-then-number-self : goal.returns-then-number-self
returns-then-number-self c = (
  (λ h. absurd (cc)),
  λ w.
      let of = of_cut c.args.self.now c.args.number c.requires.rows c.requires.behind w in
      absurd (omega (arith, of.behind, c.requires.rows.first)),
)

pub returns : goal.returns
returns c =
    let s = c.args.self.now in (
      (λ h. cut_there (program_of s) s.b.now.dec s.earlier.now c.args.number c.requires.rows.formed.places (omega (arith, c.requires.rows.first)) (omega (arith, c.requires.rows.first))),
      λ w. search rules,
    )
