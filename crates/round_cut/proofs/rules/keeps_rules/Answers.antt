use Rattle.std.proofs.Common.{◌≡◌, ◌≢◌, ◌≤◌, ℕ, List, map, sym, subst, refl, get_or, All, arith}
use Rattle.std.specs.Prelude.{ℤ, pos, unsigned_abs}
use Rattle.std.specs.List.Sorted.{IsStrictlyIncreasing}
use Rattle.bp_theory.specs.Decomposition.{ProofRow, no_row, proof_rows}
use Rattle.bp_theory.specs.Limits.{greatest_divisor}
use Rattle.cut_sums.specs.Cutting.{IsWhole}
use Rattle.cut_sums.specs.Rows.{rows_in}
use Rattle.cut_sums.proofs.RowLemmas.{same_rows}
use Rattle.round_cut.proofs.rules.keeps_rules.Goals as goal

pub returns-then-cut-eq0 : goal.returns-then-cut-eq0
returns-then-cut-eq0 c = ((λ h. absurd (cc)), λ over. absurd (omega (arith, over.divides)))

pub returns-then-cut-gt-MAX_DIVISOR : goal.returns-then-cut-gt-MAX_DIVISOR
returns-then-cut-gt-MAX_DIVISOR c = ((λ h. absurd (cc)), λ over. absurd (omega (arith, over.small.divisor)))

pub returns-then-not-are_small : goal.returns-then-not-are_small
returns-then-not-are_small c = (
  (λ h. absurd (cc)),
  λ over. c.if-not-are_small.ensures.1 (subst (λ (ms : List (ℕ × ℤ)). All (λ m. unsigned_abs m.1 ≤ greatest_divisor) ms) (sym c.as_slice-mults.ensures) over.small.sizes),
)

pub returns-then-not-are_nonzero : goal.returns-then-not-are_nonzero
returns-then-not-are_nonzero c = (
  (λ h. absurd (cc)),
  λ over. c.if-not-are_nonzero.ensures.1 (subst (λ (ms : List (ℕ × ℤ)). All (λ m. m.1 ≢ pos 0) ms) (sym c.as_slice-mults.ensures) over.small.nonzero),
)

pub returns-then-not-ascend : goal.returns-then-not-ascend
returns-then-not-ascend c = (
  (λ h. absurd (cc)),
  λ over. c.if-not-ascend.ensures.1 (subst (λ (ms : List (ℕ × ℤ)). IsStrictlyIncreasing (map (λ m. m.0) ms)) (sym c.as_slice-mults.ensures) over.small.ascend),
)

pub returns : goal.returns
returns c =
    let named : rows_in c.make-rows.result ≡ proof_rows c.args.b.now.named.program c.args.b.now.dec c.args.earlier.now =
    same_rows c.make-rows.result c.args.b.now c.args.earlier.now c.make-rows.ensures.b c.make-rows.ensures.earlier in
    let ms = c.as_slice-mults.ensures in (
      (λ h. record {
        divides = omega arith;
        small = record {
          divisor = omega arith;
          sizes = subst (λ (ms : List (ℕ × ℤ)). All (λ m. unsigned_abs m.1 ≤ greatest_divisor) ms) ms (c.if-not-are_small.ensures.0 refl);
          nonzero = subst (λ (ms : List (ℕ × ℤ)). All (λ m. m.1 ≢ pos 0) ms) ms (c.if-not-are_nonzero.ensures.0 refl);
          ascend = subst (λ (ms : List (ℕ × ℤ)). IsStrictlyIncreasing (map (λ m. m.0) ms)) ms (c.if-not-ascend.ensures.0 refl);
        };
        whole = subst (λ (ms : List (ℕ × ℤ)). All (λ m. IsWhole (get_or (proof_rows c.args.b.now.named.program c.args.b.now.dec c.args.earlier.now) m.0 no_row)) ms) ms
            (subst (λ (rows : List ProofRow). All (λ m. IsWhole (get_or rows m.0 no_row)) c.as_slice-mults.result.now) named (c.are_whole.ensures.0 h));
      }),
      λ over. c.are_whole.ensures.1 (subst (λ (rows : List ProofRow). All (λ m. IsWhole (get_or rows m.0 no_row)) c.as_slice-mults.result.now) (sym named)
          (subst (λ (ms : List (ℕ × ℤ)). All (λ m. IsWhole (get_or (proof_rows c.args.b.now.named.program c.args.b.now.dec c.args.earlier.now) m.0 no_row)) ms) (sym ms) over.whole)),
    )
