-- The names of a list are known.
use Rattle.std.proofs.Common.{subst, sym}
use Rattle.std.specs.Prelude.{All}
use Rattle.lp_semantics.specs.Fit.{IsKnown, IsFitPart}
use Rattle.lp_semantics.proofs.bounds.note_part.Goals as goal

pub note_generals-requires-clause-fit : goal.note_generals-requires-clause-fit
note_generals-requires-clause-fit c =
    subst (All (IsKnown c.args.text.now c.args.names.now)) (sym c.as_slice-in-Generals.ensures)
    (subst (IsFitPart c.args.text.now c.args.names.now) c.in-Generals.is c.requires.fit)

pub note_binaries-requires-clause-fit : goal.note_binaries-requires-clause-fit
note_binaries-requires-clause-fit c =
    subst (All (IsKnown c.args.text.now c.args.names.now)) (sym c.as_slice-in-Binaries.ensures)
    (subst (IsFitPart c.args.text.now c.args.names.now) c.in-Binaries.is c.requires.fit)
