use Rattle.std.proofs.Common.{[], arith}
use Rattle.test_io.proofs.pieces.by_bytes.Goals as goal

pub loop-byte-init : goal.loop-byte-init
loop-byte-init c = (c.in-Ok.ensures.made_for, omega (arith, c.in-Ok.ensures.fed), ([], c.in-Ok.ensures.stands))

pub loop-byte-preserved : goal.loop-byte-preserved
loop-byte-preserved c = (
  c.feed.ensures.made_for,
  omega (arith, c.feed.ensures.fed, c.loop-byte.invariant.1),
  (_, c.feed.ensures.stands c.args.visits c.loop-byte.invariant.2.0 c.loop-byte.invariant.2.1),
)

pub ended-requires : goal.ended-requires
ended-requires c = (c.args.b.now, c.args.visits, c.loop-byte.invariant.2.0, c.loop-byte.invariant.0, c.loop-byte.invariant.2.1)
