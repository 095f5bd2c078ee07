use Rattle.std.proofs.Common.{◌<◌, ap, arith}
use Rattle.std.specs.Prelude.{is_some}
use Rattle.lp_token.proofs.Places.{kind_nonempty}
use Rattle.lp_token.proofs.cut.next_token.Goals as goal

pub is_long-requires : goal.is_long-requires
is_long-requires c =
    let after : c.args.place.at < c.in-Some.found.1 = kind_nonempty c.args.bytes.now c.args.place.at c.in-Some.found.1 (ap is_some c.in-Some.ensures.found.1) in
    omega arith
