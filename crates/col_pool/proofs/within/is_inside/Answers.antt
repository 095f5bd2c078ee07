-- As many numbers as spans, each within its span.
use Rattle.std.proofs.Common.{refl, arith}
use Rattle.bp_theory.specs.Program.{IsWithin}
use Rattle.bp_theory.proofs.ZipLaws.{AllZip-from_places, AllZip-length, AllZip_at}
use Rattle.col_pool.proofs.within.is_inside.Goals as goal

pub returns-then-zone-point : goal.returns-then-zone-point
returns-then-zone-point c =
    ((λ h. absurd (cc)), λ h. absurd (c.if-zone-point.true (AllZip-length IsWithin c.args.zone.now c.args.point.now h)))

pub returns-then-not-is_within : goal.returns-then-not-is_within
returns-then-not-is_within c = (
  (λ h. absurd (cc)),
  λ h. c.if-not-is_within.ensures.1 (AllZip_at IsWithin c.args.zone.now c.args.point.now h c.loop-i.i _ _ c.loop-i-test.true),
)

pub returns : goal.returns
returns c =
    (λ _. AllZip-from_places IsWithin c.args.zone.now c.args.point.now (omega arith) (λ k d e l. c.loop-i.invariant k d e (omega arith)), λ _. refl)
