use Rattle.std.proofs.Common.{◌∙◌, List, map, None, ap, sym, subst}
use Rattle.bp_theory.specs.declared.Span.{Span}
use Rattle.node_bound.specs.Shown.{ShutsOff}
use Rattle.node_bound.proofs.Leaves.{low_inside, zone_is, verdict_is, off_settles}
use Rattle.node_bound.proofs.point.one_point.Goals as goal

pub missed_row-requires : goal.missed_row-requires
missed_row-requires c =
    low_inside c.args.b.now.named.program.spans c.args.turn.now.zone c.as_slice.result.now c.requires.turn.in_spans
    (c.as_slice.ensures.value ∙ c.in_ok-point.ensures ∙ ap (map (λ (s : Span). s.lo)) c.spans.ensures.spans)

pub reached-requires-clause-one : goal.reached-requires-clause-one
reached-requires-clause-one c =
    zone_is c.args.turn.now.zone c.from_vec.result c.requires.one (c.from_vec.ensures ∙ c.in_ok-point.ensures ∙ ap (map (λ (s : Span). s.lo)) c.spans.ensures.spans)

pub missed_proof-requires-clause-inside : goal.missed_proof-requires-clause-inside
missed_proof-requires-clause-inside c =
    low_inside c.args.b.now.named.program.spans c.args.turn.now.zone c.as_slice-in-Some.result.now c.requires.turn.in_spans
    (c.as_slice-in-Some.ensures.value ∙ c.in_ok-point.ensures ∙ ap (map (λ (s : Span). s.lo)) c.spans.ensures.spans)

pub returns-in_ok-proof-in-Some-clause-verdict : goal.returns-in_ok-proof-in-Some-clause-verdict
returns-in_ok-proof-in-Some-clause-verdict c =
    let point = c.as_slice-in-Some.ensures.value ∙ c.in_ok-point.ensures ∙ ap (map (λ (s : Span). s.lo)) c.spans.ensures.spans in
    let zone = zone_is c.args.turn.now.zone c.as_slice-in-Some.result.now c.requires.one point in
    verdict_is c.args.b.now.named.program c.args.b.now.blocking c.args.turn.now.depth c.args.turn.now.zone c.args.turn.now.bound c.args.best None _ tt
    (off_settles c.args.b.now.blocking c.args.turn.now.depth c.args.turn.now.zone c.args.turn.now.bound _ c.in_ok-proof-in-Some.proof
    (subst (λ (z : List Span). ShutsOff c.args.b.now.blocking z c.in_ok-proof-in-Some.proof) (sym zone) c.in_ok-proof-in-Some.ensures))
