-- A zone narrowed in one variable is a zone.
use Rattle.std.proofs.Common.{ℕ, ◌<◌, List, length, slice_set, pos, arith}
use Rattle.std.specs.Prelude.{◌≤ℤ◌}
use Rattle.std.proofs.lemmas.Int.{ints}
use Rattle.std.proofs.lemmas.List.Elements.{All-set}
use Rattle.bp_theory.specs.Program.{span_at}
use Rattle.bp_theory.specs.Trees.{IsZone, IsSubspan}
use Rattle.bp_theory.specs.declared.Span.{Span}
use Rattle.bp_theory.proofs.ZipLaws.{AllZip_at, AllZip-set}

pub narrow_zone : (root zone : List Span) (v : ℕ) (part : Span) → v < length zone → part.lo ≤ℤ part.hi
    → (span_at zone v).lo ≤ℤ part.lo → part.hi ≤ℤ (span_at zone v).hi → IsZone root zone → IsZone root (slice_set zone v part)
narrow_zone root zone v part there proper above below h =
    let none : Span = record { lo = pos 0; hi = pos 0 } in
    let own = AllZip_at IsSubspan zone root h.inside v none none there in
    record {
      inside = AllZip-set IsSubspan zone root h.inside v part none
          (record { above = omega (arith, ints, own.above, above); below = omega (arith, ints, own.below, below) });
      proper = All-set (λ (s : Span). s.lo ≤ℤ s.hi) zone v part proper h.proper;
    }
