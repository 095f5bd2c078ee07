-- The first column that is left is inside, or it isn't.
use Rattle.std.proofs.Common.{◌≡◌, refl, sym, ap, subst, ◌∙◌, suc, ◌+◌, ◌∷◌, length, rules, arith}
use Rattle.bp_theory.specs.Program.{IsInside}
use Rattle.col_pool.specs.Inside.{numbers_inside}
use Rattle.col_pool.proofs.InsideLemmas.{first_inside, first_outside}
use Rattle.col_pool.proofs.within.WithinIterator.next.Goals as goal

pub returns-then-is_inside-clause-steps : goal.returns-then-is_inside-clause-steps
returns-then-is_inside-clause-steps c =
    let zone = c.loop-column.self.zone.now in
    let place = c.loop-column.self.place in
    let inside : IsInside zone c.in-Some.column.now.point = subst (IsInside zone) c.as_slice.ensures (c.if-is_inside.ensures.0 refl) in
    sym c.loop-column.invariant
    ∙ ap (λ cs. numbers_inside zone cs place) c.in-Some.ensures.cases.0
    ∙ first_inside zone c.in-Some.column.now c.in-Some.others.now place inside

pub returns-then-is_inside-clause-goes : goal.returns-then-is_inside-clause-goes
returns-then-is_inside-clause-goes c =
    let zone = c.loop-column.self.zone.now in
    let place = c.loop-column.self.place in
    let inside : IsInside zone c.in-Some.column.now.point = subst (IsInside zone) c.as_slice.ensures (c.if-is_inside.ensures.0 refl) in
    let steps : numbers_inside c.args.self.now.zone.now c.args.self.now.left.now c.args.self.now.place ≡ place ∷ numbers_inside zone c.in-Some.others.now (place + 1) =
    sym c.loop-column.invariant
    ∙ ap (λ cs. numbers_inside zone cs place) c.in-Some.ensures.cases.0
    ∙ first_inside zone c.in-Some.column.now c.in-Some.others.now place inside in
    let many : length (numbers_inside c.args.self.now.zone.now c.args.self.now.left.now c.args.self.now.place) ≡ suc (length (numbers_inside zone c.in-Some.others.now (place + 1))) = ap length steps in
    record { on = λ f. (search rules, search rules, omega (arith, many)); keeps = search rules; rests = search rules }

pub loop-column-preserved : goal.loop-column-preserved
loop-column-preserved c =
    let zone = c.loop-column.self.zone.now in
    let place = c.loop-column.self.place in
    let apart : IsInside zone c.in-Some.column.now.point → ⊥ =
    λ h. let none = c.if-is_inside.ensures.1 (subst (IsInside zone) (sym c.as_slice.ensures) h) in absurd (cc) in
    sym (first_outside zone c.in-Some.column.now c.in-Some.others.now place apart)
    ∙ sym (ap (λ cs. numbers_inside zone cs place) c.in-Some.ensures.cases.0)
    ∙ c.loop-column.invariant
