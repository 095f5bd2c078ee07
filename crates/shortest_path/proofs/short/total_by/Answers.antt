use Rattle.std.proofs.Common.{◌≡◌, ◌∙◌, refl, sym, ap, subst, ◌<◌, ◌≤◌, ◌^◌, arith, length}
use Rattle.std.proofs.Math.IntN.{pos, ◌+ℤ◌}
use Rattle.std.specs.Prelude.{◌<ℤ◌, FitsSigned, IsTrue, false, unsigned_abs}
use Rattle.std.specs.Int.{w64}
use Rattle.std.proofs.lemmas.List.{get_or_read}
use mir.Val.{of_z, to_z}
use Rattle.pricing_problem.proofs.Passed.{passed_short}
use Rattle.shortest_path.specs.Best.{cell_at}
use Rattle.shortest_path.specs.Short.{far}
use Rattle.shortest_path.proofs.ShortLaws.{sum_fits, rest_short, total_way, total_none, not_less}
use Rattle.shortest_path.proofs.short.total_by.Goals as goal

pub with_own-requires : goal.with_own-requires
with_own-requires c =
    let there : c.args.arc.now.to < length c.args.next.now.items = omega (arith, c.requires.there, c.args.next.now.ok.0) in
    let read : c.index-rest.result.now ≡ cell_at c.args.next.now.items c.args.arc.now.to =
    get_or_read c.args.next.now.items c.args.arc.now.to c.index-rest.result.now there c.index-rest.ensures (pos 0) in
    let way : cell_at c.args.next.now.items c.args.arc.now.to <ℤ far = subst (λ z. z <ℤ far) read (c.if-not-has_short_way.ensures.0 refl) in
    subst (λ z. FitsSigned w64 (c.index-rest.result.now +ℤ z)) (sym (passed_short c.own_of-own.result c.own_of-own.type_inv))
    (sum_fits c.args.arc.now.label c.args.span.now c.args.cost.now c.index-rest.result.now c.own_of-own.result c.requires.cost
    (subst (λ z. unsigned_abs z ≤ 2 ^ 60) (sym read) (rest_short (cell_at c.args.next.now.items c.args.arc.now.to) c.requires.ready way)) c.own_of-own.ensures)

pub returns-then-not-has_short_way : goal.returns-then-not-has_short_way
returns-then-not-has_short_way c =
    let there : c.args.arc.now.to < length c.args.next.now.items = omega (arith, c.requires.there, c.args.next.now.ok.0) in
    let read : c.index-rest.result.now ≡ cell_at c.args.next.now.items c.args.arc.now.to =
    get_or_read c.args.next.now.items c.args.arc.now.to c.index-rest.result.now there c.index-rest.ensures (pos 0) in
    total_none c.args.next.now.items c.args.span.now c.args.cost.now c.args.arc.now _ there
    (not_less (cell_at c.args.next.now.items c.args.arc.now.to) far (λ way. absurd_true (c.if-not-has_short_way.ensures.1 (subst (λ z. z <ℤ far) (sym read) way)))) refl
  where
    absurd_true : IsTrue false → ⊥
    absurd_true e = absurd (cc)

pub returns : goal.returns
returns c =
    let there : c.args.arc.now.to < length c.args.next.now.items = omega (arith, c.requires.there, c.args.next.now.ok.0) in
    let read : c.index-rest.result.now ≡ cell_at c.args.next.now.items c.args.arc.now.to =
    get_or_read c.args.next.now.items c.args.arc.now.to c.index-rest.result.now there c.index-rest.ensures (pos 0) in
    let way : cell_at c.args.next.now.items c.args.arc.now.to <ℤ far = subst (λ z. z <ℤ far) read (c.if-not-has_short_way.ensures.0 refl) in
    total_way c.args.next.now.items c.args.span.now c.args.cost.now c.args.arc.now c.own_of-own.result _ there c.requires.ready c.requires.cost way c.own_of-own.ensures
    (passed_short c.with_own.result c.with_own.type_inv ∙ c.with_own.ensures ∙ ap (λ z. z +ℤ to_z w64 (of_z w64 c.own_of-own.result)) read
    ∙ ap (λ z. cell_at c.args.next.now.items c.args.arc.now.to +ℤ z) (passed_short c.own_of-own.result c.own_of-own.type_inv))
