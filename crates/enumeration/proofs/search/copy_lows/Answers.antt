use Rattle.std.proofs.Common.{◌≡◌, ◌∙◌, sym, ◌<◌, length, pos, arith}
use Rattle.std.proofs.lemmas.List.{ext_get_or, length-map, get_or-map}
use Rattle.bp_theory.specs.declared.Span.{Span}
use Rattle.enumeration.specs.Reach.{lows_of}
use Rattle.enumeration.proofs.search.copy_lows.Goals as goal

pub returns : goal.returns
returns c =
    let many : length (lows_of c.args.zone.now.items) ≡ length c.args.zone.now.items = length-map c.args.zone.now.items (λ (s : Span). s.lo) in
    let long : length c.loop-k.point.items ≡ length c.args.zone.now.items = omega (arith, c.loop-k.invariant.0, c.loop-k.point.ok.0, c.args.zone.now.ok.0) in
    ext_get_or (pos 0) c.loop-k.point.items (lows_of c.args.zone.now.items) (omega (arith, many, long))
    (λ i l.
    let there : i < length c.args.zone.now.items = omega (arith, l, long) in
    c.loop-k.invariant.1 i (omega (arith, there, c.loop-k-test.false, c.args.zone.now.ok.0))
    ∙ sym (get_or-map (λ (s : Span). s.lo) c.args.zone.now.items i (record { lo = pos 0; hi = pos 0 }) (pos 0) there))
