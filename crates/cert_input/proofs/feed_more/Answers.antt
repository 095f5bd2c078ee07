use Rattle.std.proofs.Common.{refl, length, take, ◌≤◌, arith}
use Rattle.std.proofs.lemmas.List.{length-take-le}
use Rattle.cert_input.proofs.Feeding.{front_goes_on, front_read_ends, front_faults, short_file}
use Rattle.cert_input.proofs.feed_more.Goals as goal

pub returns-in-Err-clause-faults : goal.returns-in-Err-clause-faults
returns-in-Err-clause-faults g c =
    let count = c.in_ok-count.count in
    let fits : count ≤ length c.read_at.new.into = omega (arith, c.in_ok-count.ensures.count) in
    front_faults c.args.frame.now (g.F.Shelf.tells c.args.shelf.now) (g.F.Shelf.file c.args.shelf.now c.args.name.now) c.args.reader.now c.feed.new.self (take count c.read_at.new.into) c.args.at count
    c.in-Err.fault (length-take-le count c.read_at.new.into fits) (omega (arith, c.in_ok-count.ensures.count, c.requires.room, c.requires.within)) (λ is_told. c.in_ok-count.ensures.found is_told refl)
    (λ is_told. short_file (g.F.Shelf.file c.args.shelf.now) c.args.name.now (g.met.F.Shelf.short c.args.shelf.now is_told))
    (λ is_told. c.in_ok-count.ensures.bytes is_told) (λ text small builds. c.in-Err.ensures text small builds) c.requires.front

pub returns-in-Ok-clause-front : goal.returns-in-Ok-clause-front
returns-in-Ok-clause-front g c =
    let count = c.in_ok-count.count in
    let fits : count ≤ length c.read_at.new.into = omega (arith, c.in_ok-count.ensures.count) in
    front_goes_on c.args.frame.now (g.F.Shelf.tells c.args.shelf.now) (g.F.Shelf.file c.args.shelf.now c.args.name.now) c.args.reader.now c.feed.new.self (take count c.read_at.new.into) c.args.at count
    (length-take-le count c.read_at.new.into fits) (omega (arith, c.in_ok-count.ensures.count, c.requires.room, c.requires.within)) (λ is_told. c.in_ok-count.ensures.bytes is_told)
    (λ text small builds. c.in-Ok.ensures text small builds) c.requires.front

pub returns-in-Ok-clause-end : goal.returns-in-Ok-clause-end
returns-in-Ok-clause-end g c = λ zero.
    let told = g.F.Shelf.tells c.args.shelf.now in
    let file = g.F.Shelf.file c.args.shelf.now c.args.name.now in
    let count = c.in_ok-count.count in
    let fits : count ≤ length c.read_at.new.into = omega (arith, c.in_ok-count.ensures.count) in
    front_read_ends c.args.frame.now told file c.feed.new.self c.args.at count (omega (arith, c.in_ok-count.ensures.count, c.requires.room, c.requires.within)) (λ is_told. c.in_ok-count.ensures.found is_told refl)
    (λ is_told. c.in_ok-count.ensures.end is_told zero)
    (front_goes_on c.args.frame.now told file c.args.reader.now c.feed.new.self (take count c.read_at.new.into) c.args.at count
    (length-take-le count c.read_at.new.into fits) (omega (arith, c.in_ok-count.ensures.count, c.requires.room, c.requires.within)) (λ is_told. c.in_ok-count.ensures.bytes is_told)
    (λ text small builds. c.in-Ok.ensures text small builds) c.requires.front)
