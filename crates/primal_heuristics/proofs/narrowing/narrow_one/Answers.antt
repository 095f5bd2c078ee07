use Rattle.std.proofs.Common.{refl, sym, subst, ap, ◌≡◌, ◌<◌, length, List, arith}
use Rattle.std.specs.Prelude.{◌≤ℤ◌}
use Rattle.bp_theory.specs.Trees.{IsZone}
use Rattle.bp_theory.specs.declared.Span.{Span}
use Rattle.primal_heuristics.proofs.Zones.{narrow_zone}
use Rattle.primal_heuristics.proofs.narrowing.narrow_one.Goals as goal

pub returns : goal.returns
returns c =
    let part = c.if-not-is_part.ensures.0 refl in
    let all : length c.spans.result.now ≡ length c.args.zone = ap (λ (xs : List Span). length xs) c.spans.ensures.spans in
    let there : c.args.var < length c.args.zone = omega (arith, all, c.if-var-spans.false) in
    subst (IsZone c.args.b.now.named.program.spans) (sym c.with_span.ensures)
    (narrow_zone c.args.b.now.named.program.spans c.args.zone c.args.var c.args.span.now there part.0
    (subst (λ (s : Span). s.lo ≤ℤ c.args.span.now.lo) c.span.ensures part.1)
    (subst (λ (s : Span). c.args.span.now.hi ≤ℤ s.hi) c.span.ensures part.2) (record { inside = c.requires.inside; proper = c.requires.proper }))
