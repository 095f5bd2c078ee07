use Rattle.std.proofs.Common.{◌≡◌, ◌∙◌, sym, length, map, pos, arith}
use Rattle.std.proofs.Math.IntN.{◌*ℤ◌}
use Rattle.std.proofs.lemmas.List.{ext_get_or, length-map, get_or-map}
use Rattle.enumeration.proofs.relax.scale_costs.Goals as goal

pub returns-clause-scaled : goal.returns-clause-scaled
returns-clause-scaled c =
    let long : length c.loop-k.to.items ≡ length c.args.costs.now = omega (arith, c.loop-k.invariant.0, c.loop-k.to.ok.0) in
    ext_get_or (pos 0) c.loop-k.to.items (map (λ z. z *ℤ pos c.args.scale) c.args.costs.now)
    (long ∙ sym (length-map c.args.costs.now (λ z. z *ℤ pos c.args.scale)))
    (λ i l.
    c.loop-k.invariant.1 i (omega (arith, l, long, c.loop-k-test.false))
    ∙ sym (get_or-map (λ z. z *ℤ pos c.args.scale) c.args.costs.now i (pos 0) (pos 0) (omega (arith, l, long))))
