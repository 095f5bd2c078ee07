use Rattle.std.specs.Prelude.{[], ◌++◌}
use Rattle.test_io.proofs.pieces.in_two.Goals as goal

pub ended-requires : goal.ended-requires
ended-requires c = (
  c.args.b.now,
  c.args.visits,
  ([] ++ c.args.first.now) ++ c.args.second.now,
  c.feed-in-Ok.ensures.made_for,
  c.feed-in-Ok.ensures.stands c.args.visits ([] ++ c.args.first.now) (c.feed.ensures.stands c.args.visits [] c.in-Ok.ensures.stands),
)
