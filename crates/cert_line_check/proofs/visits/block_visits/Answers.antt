-- The visits of a block, by what was seen of its class.
use Rattle.std.proofs.Common.{◌≡◌, ◌∙◌, refl, sym, ℕ, ◌<◌, Bool, true, false, List, length, get_or, length-set, arith}
use Rattle.std.proofs.lemmas.List.{get_or_read}
use Rattle.cert_line_check.proofs.Counting.{seen_block, was_seen, first_block, seen_now}
use Rattle.cert_line_check.proofs.visits.block_visits.Goals as goal

pub returns-then-index-clause-visits : goal.returns-then-index-clause-visits
returns-then-index-clause-visits c =
    let seen : List Bool = c.args.seen.now.items in
    let class : ℕ = c.class_of-class.result in
    let inside : class < length seen = omega (arith, c.class_of-class.ensures.there, c.requires.seen.each) in
    let value : c.index.result.now ≡ get_or seen class false = get_or_read seen class c.index.result.now inside c.index.ensures false in
    seen_block c.args.b.now.named.program.spans c.args.b.now.blocking c.args.zone.now c.args.proof.now.picked c.args.classes.now c.args.number c.requires.classes
    c.requires.there
    (was_seen c.args.classes.now.classes c.args.classes.now.firsts c.args.proof.now.picked c.args.number class seen true c.requires.seen
    c.class_of-class.ensures.class c.class_of-class.ensures.there (sym c.if-index.true ∙ value))

pub returns-clause-visits : goal.returns-clause-visits
returns-clause-visits c =
    let seen : List Bool = c.args.seen.now.items in
    let class : ℕ = c.class_of-class.result in
    let inside : class < length seen = omega (arith, c.class_of-class.ensures.there, c.requires.seen.each) in
    let value : c.index.result.now ≡ get_or seen class false = get_or_read seen class c.index.result.now inside c.index.ensures false in
    first_block c.args.b.now.named.program.spans c.args.b.now.blocking c.args.zone.now c.args.proof.now.picked c.args.classes.now c.args.number c.searched.result
    c.requires.classes c.requires.there (sym c.if-not-is_picked.ensures)
    (was_seen c.args.classes.now.classes c.args.classes.now.firsts c.args.proof.now.picked c.args.number class seen false c.requires.seen
    c.class_of-class.ensures.class c.class_of-class.ensures.there (sym c.if-index.false ∙ value))
    c.searched.ensures

pub returns-clause-seen : goal.returns-clause-seen
returns-clause-seen c =
    seen_now c.args.classes.now.classes c.args.classes.now.firsts c.args.proof.now.picked c.args.number c.class_of-class.result c.args.seen.now.items _ c.requires.seen
    c.class_of-class.ensures.class c.class_of-class.ensures.there (sym c.if-not-is_picked.ensures) refl
    (length-set c.args.seen.now.items c.class_of-class.result true)
