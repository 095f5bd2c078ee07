use Rattle.std.proofs.Common.{◌<◌, ◌≤◌, ◌^◌, arith}
use Rattle.cert_input.proofs.Feeding.{front_ends, short_front}
use Rattle.cert_input.proofs.feed_file.Goals as goal

pub returns-clause-builds : goal.returns-clause-builds
returns-clause-builds g c =
    let files = g.F.Shelf.file c.args.shelf.now in
    let far : 2 ^ 62 ≤ c.reads.at = omega (arith, c.reads-test.false) in
    let some : 0 < c.reads.at = omega (arith, far) in
    front_ends c.args.frame.now (g.F.Shelf.tells c.args.shelf.now) (files c.args.name.now) c.reads.reader c.reads.at (omega (arith, c.reads.invariant.near))
    (λ told. c.reads.invariant.found some told) (λ told. short_front files c.args.name.now c.reads.at (g.met.F.Shelf.short c.args.shelf.now told) far)
    c.reads.invariant.front
