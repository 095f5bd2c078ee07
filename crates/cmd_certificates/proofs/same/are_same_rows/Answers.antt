use Rattle.std.proofs.Common.{◌≡◌, refl, arith, pos}
use Rattle.std.proofs.lemmas.List.{ext_get_or}
use Rattle.cmd_certificates.proofs.same.are_same_rows.Goals as goal

pub returns : goal.returns
returns c = (
  λ e. ext_get_or (0, pos 0) c.args.a.now c.args.b.now (omega arith) (λ k l. c.loop-place.invariant k (omega (arith, l, c.loop-place-test.false))),
  λ e. refl,
)
