use Rattle.std.proofs.Common.{◌≡◌, List, false, true, refl, subst, arith}
use Rattle.bp_theory.specs.declared.Term.{Term}
use Rattle.cut_sums.specs.Plain.{IsDivisor}
use Rattle.cut_sums.proofs.PlainLemmas.{not_sharp}
use Rattle.cut_sums.proofs.divisor.sharpening.Goals as goal

pub returns-then-q-lt2 : goal.returns-then-q-lt2
returns-then-q-lt2 c =
    not_sharp c.args.row.now c.as_slice.result.now c.divisor-q.result c.as_slice.ensures c.divisor-q.ensures (λ s. absurd (omega (arith, s.low)))

pub returns-then-q-most : goal.returns-then-q-most
returns-then-q-most c =
    not_sharp c.args.row.now c.as_slice.result.now c.divisor-q.result c.as_slice.ensures c.divisor-q.ensures (λ s. absurd (omega (arith, s.high)))

pub returns-then-divides_sides : goal.returns-then-divides_sides
returns-then-divides_sides c =
    not_sharp c.args.row.now c.as_slice.result.now c.divisor-q.result c.as_slice.ensures c.divisor-q.ensures (λ s. s.side (c.if-divides_sides.ensures.0 refl))

pub returns : goal.returns
returns c = record {
  divisor = subst (λ (ts : List Term). IsDivisor ts c.divisor-q.result) c.as_slice.ensures c.divisor-q.ensures;
  low = omega arith;
  high = omega arith;
  side = λ both. let wrong : false ≡ true = c.if-divides_sides.ensures.1 both in absurd (cc);
}
