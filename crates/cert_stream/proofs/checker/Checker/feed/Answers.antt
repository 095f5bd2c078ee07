use Rattle.std.proofs.Common.{◌≡◌, ℕ, List, ◌++◌, take, Ok, Err, refl, sym, ap, subst, append-nil, arith}
use Rattle.std.proofs.lemmas.List.{take_all}
use Rattle.cert_parser.proofs.Feeding.{joined}
use Rattle.cert_stream.specs.Checks.{ChecksFor, answer_by}
use Rattle.cert_stream.proofs.Stepping.{fault_stays, fed_on, still_by, kept_by}
use Rattle.cert_stream.proofs.Waiting.{tells_seen}
use Rattle.cert_stream.proofs.checker.Checker.feed.Goals as goal

pub returns-in-Some-clause-stands : goal.returns-in-Some-clause-stands
returns-in-Some-clause-stands c = λ visits text h. fault_stays c.args.b.now visits c.args.self.now c.args.self.now text c.args.piece.now c.in-Some.fault c.in-Some.is c.in-Some.is h

pub returns-in-Some-clause-seen : goal.returns-in-Some-clause-seen
returns-in-Some-clause-seen c = λ visits text h.
    tells_seen c.args.b.now visits c.args.self.now (text ++ c.args.piece.now) (Err c.in-Some.fault) (ap answer_by (sym c.in-Some.is)) c.requires.made_for
    (returns-in-Some-clause-stands c visits text h)

pub loop-byte-init : goal.loop-byte-init
loop-byte-init c = (
  c.requires.made_for,
  c.in-None.is,
  omega arith,
  λ visits text h.
      let P : List ℕ → Type 0 = λ t. ChecksFor c.args.b.now visits c.args.self.now t in
      subst P (sym (append-nil text)) h,
)

pub returns-in-Err-clause-stands : goal.returns-in-Err-clause-stands
returns-in-Err-clause-stands c =
    let piece = c.args.piece.now in
    let i = c.loop-byte.byte-index in
    λ visits text h.
    fed_on c.args.b.now visits c.step.new.self text piece i _ c.in-Err.fault (omega arith) refl (kept_by c.in-Err.fault c.step.new.self.fault c.in-Err.ensures.told)
    (c.in-Err.ensures.stands visits (text ++ take i piece) (c.loop-byte.invariant.3 visits text h))

pub returns-in-Err-clause-seen : goal.returns-in-Err-clause-seen
returns-in-Err-clause-seen c = λ visits text h.
    tells_seen c.args.b.now visits c.step.new.self (text ++ c.args.piece.now) (Err c.in-Err.fault) c.in-Err.ensures.told c.in-Err.ensures.made_for
    (returns-in-Err-clause-stands c visits text h)

pub loop-byte-preserved : goal.loop-byte-preserved
loop-byte-preserved c =
    let piece = c.args.piece.now in
    let i = c.loop-byte.byte-index in (
      c.in-Ok.ensures.made_for,
      still_by c.step.new.self.fault c.in-Ok.ensures.told,
      omega (arith, c.in-Ok.ensures.fed, c.loop-byte.invariant.2),
      λ visits text h.
          let P : List ℕ → Type 0 = λ t. ChecksFor c.args.b.now visits c.step.new.self t in
          subst P (joined text piece i _ (omega arith) refl) (c.in-Ok.ensures.stands visits (text ++ take i piece) (c.loop-byte.invariant.3 visits text h)),
    )

pub returns-clause-stands : goal.returns-clause-stands
returns-clause-stands c =
    let all : take c.loop-byte.byte-index c.args.piece.now ≡ c.args.piece.now = take_all c.loop-byte.byte-index c.args.piece.now (omega (arith, c.loop-byte-test.false)) in
    λ visits text h.
    let P : List ℕ → Type 0 = λ t. ChecksFor c.args.b.now visits c.loop-byte.self t in
    subst P (ap (λ (xs : List ℕ). text ++ xs) all) (c.loop-byte.invariant.3 visits text h)

pub returns-clause-seen : goal.returns-clause-seen
returns-clause-seen c = λ visits text h.
    tells_seen c.args.b.now visits c.loop-byte.self (text ++ c.args.piece.now) (Ok tt) (ap answer_by (sym c.loop-byte.invariant.1)) c.loop-byte.invariant.0
    (returns-clause-stands c visits text h)
