use Rattle.std.proofs.Common.{◌≡◌, ◌∙◌, sym, ap, subst, get_or, ℕ, ◌<◌, ◌+◌, List, Option, Some, None, map, length, set, arith, to_z, of_z}
use Rattle.std.proofs.Math.IntN.{ℤ}
use Rattle.std.specs.Int.{w128}
use Rattle.std.proofs.lemmas.Int.{ints}
use Rattle.bp_theory.specs.Bound.{IsPart}
use Rattle.search_laws.specs.Spread.{block_at, class_at}
use Rattle.pricing_problem.specs.declared.Priced.TheVariants.{Least}
use Rattle.block_pricers.specs.Told.{told_point}
use Rattle.std.proofs.lemmas.List.{length-map}
use Rattle.block_pricers.specs.Forms.{BlockForm, form_with, forms_in}
use Rattle.block_pricers.specs.Works.{forms_of, priced_at}
use Rattle.lagr_bound.proofs.PartLemmas.{price_is_part, best_point}
use Rattle.block_pricers.proofs.FormLemmas.{point_fits}
use Rattle.lagr_bound.proofs.SharedLemmas.{known_of, known_part, known_new, known_skip, first_there, told_new, none_is, if_not_least}
use Rattle.block_pricers.proofs.WorkLemmas.{known_wide, told_wide}
use Rattle.lagr_bound.specs.Bounded.{AreKnown, AreTold}
use Rattle.lagr_bound.proofs.alike.shared_part.Goals as goal

pub returns-in-Some-clause-answer : goal.returns-in-Some-clause-answer
returns-in-Some-clause-answer c =
    let value : ℤ = to_z w128 (of_z w128 c.in-Some.least) in
    let same : value ≡ c.in-Some.least = omega (arith, ints) in
    subst (IsPart c.args.zone.now c.args.proof.now c.args.number (block_at c.args.b.now.blocking c.args.number)) (sym same)
    (known_part c.args.b.now.blocking c.args.zone.now c.args.proof.now c.args.classes.now c.args.number c.in-Some.least c.requires.classes c.requires.there
    (sym c.if-not-is_picked.ensures)
    (known_of c.args.b.now.blocking c.args.zone.now c.args.proof.now c.args.classes.now c.args.number c.args.work.now.known.items c.class_of.result c.first-first.result (Some c.in-Some.least)
    c.requires.known c.class_of.ensures.class c.class_of.ensures.there c.first-first.ensures (sym c.in-Some.is ∙ c.known_at.ensures)))

pub returns-in-Least-clause-answer : goal.returns-in-Least-clause-answer
returns-in-Least-clause-answer c =
    price_is_part c.args.b.now.blocking c.args.zone.now c.args.proof.now c.args.cap c.args.number (Least c.in-Least.least) _ (sym c.if-not-is_picked.ensures)
    c.in-Least.ensures.answer

pub keep-requires-clause-point : goal.keep-requires-clause-point
keep-requires-clause-point c =
    point_fits c.args.b.now (forms_of c.price-answer.new.self) c.args.number c.args.zone.now _ (priced_at c.price-answer.new.self c.args.number) c.in-Least.least
    (c.in-Least.ensures.made_for ∙ c.requires.made_for) c.requires.there c.in-Least.ensures.answer

pub returns-in-Least-clause-known : goal.returns-in-Least-clause-known
returns-in-Least-clause-known c =
    let classes : List ℕ = c.args.classes.now.classes in
    let firsts : List ℕ = c.args.classes.now.firsts in
    let part = price_is_part c.args.b.now.blocking c.args.zone.now c.args.proof.now c.args.cap c.args.number (Least c.in-Least.least) _ (sym c.if-not-is_picked.ensures)
    c.in-Least.ensures.answer in
    let same : to_z w128 (of_z w128 c.in-Least.least) ≡ c.in-Least.least = omega (arith, ints) in
    let first_is : c.first-first.result ≡ class_at firsts (class_at classes c.args.number) = c.first-first.ensures ∙ ap (class_at firsts) c.class_of.ensures.class in
    let class_there : class_at classes c.args.number < length firsts = omega (arith, c.class_of.ensures.class, c.class_of.ensures.there) in
    let before : c.price-answer.new.self.known.items ≡ c.args.work.now.known.items = ap (λ v. v.items) c.in-Least.ensures.known in
    subst (AreKnown c.args.b.now.blocking c.args.zone.now c.args.proof.now classes firsts (c.args.number + 1))
    (sym (c.keep.ensures.known
    ∙ ap (λ (ks : List (Option ℤ)). set ks c.first-first.result (Some (to_z w128 (of_z w128 c.in-Least.least)))) before
    ∙ ap (λ (z : ℤ). set c.args.work.now.known.items c.first-first.result (Some z)) same
    ∙ ap (λ n. set c.args.work.now.known.items n (Some c.in-Least.least)) first_is))
    (known_new c.args.b.now.blocking c.args.zone.now c.args.proof.now c.args.classes.now c.args.number c.in-Least.least c.args.work.now.known.items c.requires.classes
    c.requires.there class_there (known_wide c.args.b.now c.args.work.now c.requires.made_for) (sym c.if-not-is_picked.ensures) part c.requires.known)

pub returns-in-Least-clause-told : goal.returns-in-Least-clause-told
returns-in-Least-clause-told c =
    let classes : List ℕ = c.args.classes.now.classes in
    let y : List ℤ = priced_at c.price-answer.new.self c.args.number in
    let none : c.known_at.result ≡ None = none_is c.known_at.result c.in_default.not-Some in
    let known = known_of c.args.b.now.blocking c.args.zone.now c.args.proof.now c.args.classes.now c.args.number c.args.work.now.known.items c.class_of.result c.first-first.result None
    c.requires.known c.class_of.ensures.class c.class_of.ensures.there c.first-first.ensures (sym none ∙ c.known_at.ensures) in
    let before : map told_point c.price-answer.new.self.told.items ≡ map told_point c.args.work.now.told.items = ap (λ v. map told_point v.items) c.in-Least.ensures.told in
    subst (AreTold c.args.b.now.blocking c.args.zone.now c.args.proof.now classes (c.args.number + 1))
    (sym (c.keep.ensures.told ∙ ap (λ (os : List (Option (List ℤ))). set os c.args.number (Some y)) before))
    (told_new c.args.b.now.blocking c.args.zone.now c.args.proof.now classes c.args.number (map told_point c.args.work.now.told.items) y c.requires.told
    (omega (arith, c.requires.there, told_wide c.args.b.now c.args.work.now c.requires.made_for))
    (record { own = sym c.if-not-is_picked.ensures; first = known })
    (best_point c.args.zone.now c.args.proof.now (block_at c.args.b.now.blocking c.args.number) y c.in-Least.least c.in-Least.ensures.answer))

pub returns-in_default-answer : goal.returns-in_default-answer
returns-in_default-answer c = record {
  answer = price_is_part c.args.b.now.blocking c.args.zone.now c.args.proof.now c.args.cap c.args.number c.price-answer.result _ (sym c.if-not-is_picked.ensures)
      c.price-answer.ensures.answer;
  made_for = c.price-answer.ensures.made_for;
  known = if_not_least c.price-answer.result _ c.in_default-answer.not-Least;
  told = if_not_least c.price-answer.result _ c.in_default-answer.not-Least;
}

pub returns-then-not-is_picked-clause-known : goal.returns-then-not-is_picked-clause-known
returns-then-not-is_picked-clause-known c =
    known_skip c.args.b.now.blocking c.args.zone.now c.args.proof.now c.args.classes.now.classes c.args.classes.now.firsts c.args.number c.args.work.now.known.items
    c.requires.known (λ class m same own. let other = c.if-not-is_picked.ensures in absurd cc)

pub returns-in-Some-clause-known : goal.returns-in-Some-clause-known
returns-in-Some-clause-known c =
    let firsts : List ℕ = c.args.classes.now.firsts in
    known_skip c.args.b.now.blocking c.args.zone.now c.args.proof.now c.args.classes.now.classes firsts c.args.number c.args.work.now.known.items
    c.requires.known
    (λ class m same own.
    let first_is : c.first-first.result ≡ class_at firsts class = c.first-first.ensures ∙ ap (class_at firsts) (c.class_of.ensures.class ∙ same) in
    (c.in-Some.least, ap (λ n. get_or c.args.work.now.known.items n None) (sym first_is) ∙ sym c.known_at.ensures ∙ c.in-Some.is))

pub keep-requires-clause-first : goal.keep-requires-clause-first
keep-requires-clause-first c =
    let there : class_at c.args.classes.now.firsts c.class_of.result < length c.args.b.now.blocking.blocks =
    first_there c.args.b.now.blocking c.args.zone.now c.args.classes.now c.class_of.result c.requires.classes c.class_of.ensures.there in
    let many : length (forms_of c.price-answer.new.self) ≡ length (forms_in c.args.b.now) = ap (λ (fs : List BlockForm). length fs) (c.in-Least.ensures.made_for ∙ c.requires.made_for) in
    omega (arith, many, there, c.first-first.ensures, length-map c.args.b.now.blocking.blocks (form_with c.args.b.now.named.program.spans))
