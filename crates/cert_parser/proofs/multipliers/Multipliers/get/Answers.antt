use Rattle.std.proofs.Common.{◌≡◌, ◌∙◌, refl, sym, ap, subst, ℕ, ℤ, pos, arith, to_z, of_z, get_or}
use Rattle.std.specs.Int.{w64}
use Rattle.std.proofs.lemmas.Int.{ints}
use Rattle.cert_format.specs.Ascending.{rows_of, StandsAt}
use Rattle.cert_format.proofs.Putting.{get_same, got, got_none, rises_from, multiplier-written}
use Rattle.cert_parser.proofs.multipliers.Multipliers.get.Goals as goal

pub returns-then-stands : goal.returns-then-stands
returns-then-stands c =
    let ps = c.args.self.now.pairs.items in
    let row = c.args.row in
    let there : StandsAt row ps c.place-at.result = c.if-stands.ensures.there refl in
    let S : ℕ → Type 0 = StandsAt row ps in
    let same : to_z w64 (of_z w64 c.index.result.now.1) ≡ c.index.result.now.1 = omega (arith, ints) in
    same ∙ ap (λ (p : ℕ × ℤ). p.1) (c.index.ensures ∙ get_same ps c.place-at.result c.index.result.now (0, pos 0) there.0)
    ∙ ap (λ (n : ℕ). (get_or ps n (0, pos 0)).1) c.place-at.ensures.place
    ∙ sym (got row ps (subst S c.place-at.ensures.place there)) ∙ sym (multiplier-written row ps)

pub returns : goal.returns
returns c =
    let ps = c.args.self.now.pairs.items in
    let row = c.args.row in
    let N : ℕ → Type 0 = λ n. StandsAt row ps n → ⊥ in
    sym (got_none 0 row ps (rises_from (rows_of ps) c.args.self.now.ascend) (subst N c.place-at.ensures.place (c.if-stands.ensures.not_there refl))) ∙ sym (multiplier-written row ps)
