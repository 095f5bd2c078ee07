use Rattle.std.proofs.Common.{◌≡◌, ◌∙◌, ◌<◌, ◌≤◌, ◌^◌, ◌+◌, refl, sym, subst, ap, ℕ, IsTrue, IfSome, IsSome, List, Option, take, drop, length, Err, arith}
use Rattle.bp_shelf.specs.declared.shelf.ShelfFault.TheVariants.{NoMemory}
use Rattle.std.proofs.lemmas.List.{length-take-le}
use Rattle.cert_stream.proofs.Stepping.{kept_by, still_by}
use Rattle.cmd_check.proofs.Fronts.{front_goes_on, front_read_ends, front_stops, HasRead, nothing_asked, asked_on, asked_last, settles_end, settles_fault, below_limit, fault_is_not_ok}
use Rattle.cmd_check.proofs.feeding.feed_pieces.Goals as goal

pub reads-init : goal.reads-init
reads-init g c = record {
  told = refl;
  same = refl;
  faults = refl;
  made_for = c.requires.made_for;
  fed = omega (arith, c.requires.fresh, c.requires.front);
  faultless = c.requires.faultless;
  read = λ visits h.
      nothing_asked g.P.Pieces.asks (g.P.Pieces.tells c.args.pieces.now) (g.P.Pieces.file c.args.pieces.now) c.args.b.now visits c.args.checker.now c.args.pieces.now _ c.requires.front h;
  room = c.requires.room;
  near = omega (arith, c.requires.front);
}

pub returns-in_err-count-clause-fewest : goal.returns-in_err-count-clause-fewest
returns-in_err-count-clause-fewest g c =
    asked_last _ _ _ c.args.b.now c.requires.begun.0 c.reads.checker c.args.pieces.now c.reads.pieces c.next.new.self _ _ c.from_residual.result c.reads.invariant.faultless c.reads.invariant.made_for
    c.in_err-count.ensures.asked (c.reads.invariant.read c.requires.begun.0 c.requires.begun.1)
    (λ ok. absurd (fault_is_not_ok _ c.from_residual.result c.from_residual.ensures.1 ok))

pub returns-in-Err-At-clause-fewest : goal.returns-in-Err-At-clause-fewest
returns-in-Err-At-clause-fewest g c =
    let h = c.reads.invariant.read c.requires.begun.0 c.requires.begun.1 in
    asked_last _ _ _ c.args.b.now c.requires.begun.0 c.reads.checker c.args.pieces.now c.reads.pieces c.next.new.self _ _ _ c.reads.invariant.faultless c.reads.invariant.made_for
    c.in_ok-count.ensures.asked h
    (λ ok. settles_fault c.args.b.now h.pieces h.front.text _ c.in-Err-At.field-0-0 c.in-Err-At.field-0-1 h.joined (rw c.in-Err-At.field-0-is at c.in-Err-At.ensures.seen c.requires.begun.0 h.front.text h.front.stands))

pub returns-in-Err-NoMemory-clause-fewest : goal.returns-in-Err-NoMemory-clause-fewest
returns-in-Err-NoMemory-clause-fewest g c =
    asked_last _ _ _ c.args.b.now c.requires.begun.0 c.reads.checker c.args.pieces.now c.reads.pieces c.next.new.self _ _ _ c.reads.invariant.faultless c.reads.invariant.made_for
    c.in_ok-count.ensures.asked (c.reads.invariant.read c.requires.begun.0 c.requires.begun.1) (λ ok. absurd (fault_is_not_ok (λ _. Unit {0}) (Err NoMemory) (tt {0}) ok))

pub returns-then-count-eq0-clause-fewest : goal.returns-then-count-eq0-clause-fewest
returns-then-count-eq0-clause-fewest g c =
    let h = c.reads.invariant.read c.requires.begun.0 c.requires.begun.1 in
    asked_last _ _ _ c.args.b.now c.requires.begun.0 c.reads.checker c.args.pieces.now c.reads.pieces c.next.new.self _ _ _ c.reads.invariant.faultless c.reads.invariant.made_for
    c.in_ok-count.ensures.asked h
    (λ ok. settles_end c.args.b.now h.pieces _ (ap (λ (n : ℕ). take n c.next.new.buffer) c.if-count-eq0.true))

pub returns-in-Err-At-clause-stands : goal.returns-in-Err-At-clause-stands
returns-in-Err-At-clause-stands g c = λ visits h.
    let told = g.P.Pieces.tells c.args.pieces.now in
    let file = g.P.Pieces.file c.args.pieces.now in
    let count = c.in_ok-count.count in
    let bytes = c.next.new.buffer in
    let fits : count ≤ length bytes = omega (arith, c.in_ok-count.ensures.count) in
    let was : IsTrue told → IsTrue (g.P.Pieces.tells c.reads.pieces) = λ t. subst IsTrue (sym c.reads.invariant.told) t in
    front_stops told file c.args.b.now visits c.feed.new.self _ c.in-Err-At.field-0 (kept_by c.in-Err-At.field-0 c.feed.new.self.fault c.in-Err-At.ensures.told)
    (λ t. subst (λ (f : Option (List ℕ)). IsSome f) c.reads.invariant.same (c.in_ok-count.ensures.found (was t) refl))
    (front_goes_on told file c.args.b.now visits c.reads.checker c.feed.new.self (take count bytes) (g.P.Pieces.given c.reads.pieces) count (length-take-le count bytes fits)
    (λ t. subst (λ (f : Option (List ℕ)). IfSome f (λ all. take count bytes ≡ take count (drop (g.P.Pieces.given c.reads.pieces) all))) c.reads.invariant.same (c.in_ok-count.ensures.bytes (was t)))
    (λ text stands. c.in-Err-At.ensures.stands visits text stands) (c.reads.invariant.read visits h).front)

pub returns-then-count-eq0-clause-stands : goal.returns-then-count-eq0-clause-stands
returns-then-count-eq0-clause-stands g c = λ visits h.
    let told = g.P.Pieces.tells c.args.pieces.now in
    let file = g.P.Pieces.file c.args.pieces.now in
    let count = c.in_ok-count.count in
    let bytes = c.next.new.buffer in
    let at = g.P.Pieces.given c.reads.pieces in
    let fits : count ≤ length bytes = omega (arith, c.in_ok-count.ensures.count) in
    let was : IsTrue told → IsTrue (g.P.Pieces.tells c.reads.pieces) = λ t. subst IsTrue (sym c.reads.invariant.told) t in
    front_read_ends told file c.args.b.now visits c.feed.new.self at count
    (λ t. subst (λ (f : Option (List ℕ)). IsSome f) c.reads.invariant.same (c.in_ok-count.ensures.found (was t) refl))
    (λ t. subst (λ (f : Option (List ℕ)). IfSome f (λ all. length all ≤ at)) c.reads.invariant.same (c.in_ok-count.ensures.end (was t) c.if-count-eq0.true))
    (front_goes_on told file c.args.b.now visits c.reads.checker c.feed.new.self (take count bytes) at count (length-take-le count bytes fits)
    (λ t. subst (λ (f : Option (List ℕ)). IfSome f (λ all. take count bytes ≡ take count (drop at all))) c.reads.invariant.same (c.in_ok-count.ensures.bytes (was t)))
    (λ text stands. c.in-Ok.ensures.stands visits text stands) (c.reads.invariant.read visits h).front)

pub reads-preserved : goal.reads-preserved
reads-preserved g c =
    let told = g.P.Pieces.tells c.args.pieces.now in
    let file = g.P.Pieces.file c.args.pieces.now in
    let count = c.in_ok-count.count in
    let bytes = c.next.new.buffer in
    let at = g.P.Pieces.given c.reads.pieces in
    let given : g.P.Pieces.given c.next.new.self ≡ at + count = c.in_ok-count.ensures.given in
    let fits : count ≤ length bytes = omega (arith, c.in_ok-count.ensures.count) in
    let size : length (take count bytes) ≡ count = length-take-le count bytes fits in
    let some : 0 < count = omega (arith, c.if-count-eq0.false) in
    let below : at < 2 ^ 62 = below_limit at count c.in_ok-count.ensures.far some in
    let room : length bytes ≡ 65536 = omega (arith, c.reads.invariant.room) in
    record {
      told = c.in_ok-count.ensures.told ∙ c.reads.invariant.told;
      same = c.in_ok-count.ensures.same ∙ c.reads.invariant.same;
      faults = c.in_ok-count.ensures.cause ∙ c.reads.invariant.faults;
      made_for = c.in-Ok.ensures.made_for;
      fed = omega (arith, c.in-Ok.ensures.fed, c.reads.invariant.fed, given, size);
      faultless = still_by c.feed.new.self.fault c.in-Ok.ensures.told;
      read = λ visits h.
          subst (λ (n : ℕ). HasRead g.P.Pieces.asks told file c.args.b.now visits c.feed.new.self c.args.pieces.now c.next.new.self n) (sym given)
          (asked_on g.P.Pieces.asks told file c.args.b.now visits c.reads.checker c.feed.new.self c.args.pieces.now c.reads.pieces c.next.new.self (take count bytes) at count
          c.in_ok-count.ensures.asked size some
          (λ t. subst (λ (f : Option (List ℕ)). IfSome f (λ all. take count bytes ≡ take count (drop at all))) c.reads.invariant.same
          (c.in_ok-count.ensures.bytes (subst IsTrue (sym c.reads.invariant.told) t)))
          (λ text stands. c.in-Ok.ensures.stands visits text stands) (c.reads.invariant.read visits h));
      room = room;
      near = omega (arith, given, below, fits, room);
    }
