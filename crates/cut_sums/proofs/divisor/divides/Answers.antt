use Rattle.std.proofs.Common.{◌≡◌, ◌%◌, ℕ, sym, subst, arith}
use Rattle.std.specs.Prelude.{unsigned_abs}
use Rattle.std.specs.Int.{◌∣◌}
use Rattle.std.proofs.lemmas.Int.{ints}
use Rattle.std.proofs.lemmas.Bool.Decides.{Decides-eqb}
use Rattle.std.proofs.lemmas.Nat.Gcd.{dvd_of_mod-eq-zero, mod-eq-zero_of_dvd}
use Rattle.cut_sums.proofs.divisor.divides.Goals as goal

pub returns : goal.returns
returns c =
    let q : ℕ = c.args.q in
    let same : c.unsigned_abs.result ≡ unsigned_abs c.args.number.now = omega (arith, ints, c.unsigned_abs.ensures.value) in
    let test = Decides-eqb (c.unsigned_abs.result % q) 0 in (
      (λ h. subst (λ n. q ∣ n) same (dvd_of_mod-eq-zero q (test.0 h))),
      λ d. test.1 (mod-eq-zero_of_dvd q (subst (λ n. q ∣ n) (sym same) d)),
    )
