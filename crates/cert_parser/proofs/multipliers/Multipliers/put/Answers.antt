use Rattle.std.proofs.Common.{sym, refl, set, arith}
use Rattle.std.proofs.lemmas.Int.{ints}
use Rattle.std.specs.Prelude.{is_ok}
use Rattle.cert_format.proofs.Putting.{edited_increasing, removes, sets, leaves, inserts, insert_increasing, zero_is, zero_code}
use Rattle.cert_parser.proofs.multipliers.Multipliers.put.Goals as goal

pub invariant_of-self : goal.invariant_of-self
invariant_of-self c =
    let ps = c.args.self.now.pairs.items in
    let made = removes c.args.pair.0 c.args.pair.1 ps c.remove.new.self.items c.place-at.result c.place-at.ensures.place (c.if-stands.ensures.there refl) (zero_is c.args.pair.1 (omega (arith, ints)) c.if-pair-eq0.true) c.remove.ensures.items in
    record { ascend = edited_increasing c.args.pair.0 c.args.pair.1 ps c.remove.new.self.items made c.args.self.now.ascend }

pub returns-then-pair-eq0 : goal.returns-then-pair-eq0
returns-then-pair-eq0 c =
    sym (removes c.args.pair.0 c.args.pair.1 c.args.self.now.pairs.items c.remove.new.self.items c.place-at.result c.place-at.ensures.place (c.if-stands.ensures.there refl) (zero_is c.args.pair.1 (omega (arith, ints)) c.if-pair-eq0.true) c.remove.ensures.items)

pub invariant_of-self-then-stands : goal.invariant_of-self-then-stands
invariant_of-self-then-stands c =
    let ps = c.args.self.now.pairs.items in
    let new = set ps c.place-at.result c.args.pair in
    let made = sets c.args.pair.0 c.args.pair.1 ps new c.place-at.result c.place-at.ensures.place (c.if-stands.ensures.there refl) (λ e. c.if-pair-eq0.false (zero_code c.args.pair.1 e)) refl in
    record { ascend = edited_increasing c.args.pair.0 c.args.pair.1 ps new made c.args.self.now.ascend }

pub returns-then-stands : goal.returns-then-stands
returns-then-stands c =
    let ps = c.args.self.now.pairs.items in
    sym (sets c.args.pair.0 c.args.pair.1 ps (set ps c.place-at.result c.args.pair) c.place-at.result c.place-at.ensures.place (c.if-stands.ensures.there refl) (λ e. c.if-pair-eq0.false (zero_code c.args.pair.1 e)) refl)

pub returns-then-pair-eq0-2 : goal.returns-then-pair-eq0-2
returns-then-pair-eq0-2 c =
    sym (leaves c.args.pair.0 c.args.pair.1 c.args.self.now.pairs.items c.place-at.result c.place-at.ensures.place (c.if-stands.ensures.not_there refl) (zero_is c.args.pair.1 (omega (arith, ints)) c.if-pair-eq0-2.true))

pub invariant_of-self-2 : goal.invariant_of-self-2
invariant_of-self-2 c =
    let ps = c.args.self.now.pairs.items in
    record { ascend = insert_increasing (is_ok c.insert.result) c.args.pair.0 c.args.pair.1 ps c.insert.new.self.items c.place-at.result c.place-at.ensures.place (c.if-stands.ensures.not_there refl) (λ e. c.if-pair-eq0-2.false (zero_code c.args.pair.1 e)) c.insert.ensures.items c.args.self.now.ascend }

pub returns : goal.returns
returns c =
    sym (inserts c.args.pair.0 c.args.pair.1 c.args.self.now.pairs.items c.insert.new.self.items c.place-at.result c.place-at.ensures.place (c.if-stands.ensures.not_there refl) (λ e. c.if-pair-eq0-2.false (zero_code c.args.pair.1 e)) c.in_ok-insert.ensures.items)
