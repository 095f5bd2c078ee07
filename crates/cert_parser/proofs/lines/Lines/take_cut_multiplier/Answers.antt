use Rattle.std.proofs.Common.{rules, ◌≡◌, ◌+◌, ◌-◌, ◌++◌, ◌∷◌, [], None, pos}
use Rattle.bp_theory.specs.Limits.{greatest_divisor}
use Rattle.cert_format.specs.Frames.{frame_of}
use Rattle.cert_format.specs.Signed.{signed}
use Rattle.cert_format.specs.Versions.{changed_fault}
use Rattle.cert_format.specs.declared.spots.Spot.TheVariants as s
use Rattle.cert_parser.proofs.LineFacts.{cut_multiplier_passes, cut_multiplier_kept}
use Rattle.cert_parser.proofs.lines.Lines.take_cut_multiplier.Goals as goal

pub returns-in-Ok-keep_multiplier-clause-takes : goal.returns-in-Ok-keep_multiplier-clause-takes
returns-in-Ok-keep_multiplier-clause-takes c =
    let r = c.args.self.now in
    let new = c.keep_multiplier.new.self in
    let z = signed c.args.negative c.args.value in
    let passes : changed_fault greatest_divisor (pos 0) z ≡ None = search rules in
    let moved : new ≡ record r { spot = s.CutPairs; mults = r.mults ++ (r.row, z) ∷ []; last = r.row + 1; left = r.left - 1 } = search rules in
    λ frame. (
      λ above root cuts n highs. cut_multiplier_passes (frame_of frame) above root cuts r n z c.requires passes,
      cut_multiplier_kept r new z c.args.value c.requires moved,
    )
