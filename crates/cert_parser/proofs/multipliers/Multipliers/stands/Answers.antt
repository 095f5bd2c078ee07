use Rattle.std.proofs.Common.{◌≡◌, ◌∙◌, sym, ap, ℕ, ℤ, pos, arith}
use Rattle.std.proofs.lemmas.Bool.{eqb-true, eq-eqb, true≢false}
use Rattle.cert_format.proofs.Putting.{get_same}
use Rattle.cert_parser.proofs.multipliers.Multipliers.stands.Goals as goal

pub returns-clause-there : goal.returns-clause-there
returns-clause-there c =
    let ps = c.args.self.now.pairs.items in
    λ yes. (
      omega arith,
      ap (λ (p : ℕ × ℤ). p.0) (get_same ps c.args.at (0, pos 0) c.index.result.now (omega arith) ∙ sym c.index.ensures) ∙ eqb-true _ _ yes,
    )

pub returns-clause-not_there : goal.returns-clause-not_there
returns-clause-not_there c =
    let ps = c.args.self.now.pairs.items in
    λ no there.
    let same : c.index.result.now.0 ≡ c.args.row = ap (λ (p : ℕ × ℤ). p.0) (c.index.ensures ∙ get_same ps c.args.at c.index.result.now (0, pos 0) there.0) ∙ there.1 in
    true≢false (sym (eq-eqb _ _ same) ∙ no)
