-- Cuts of all kinds behind one another.
use Rattle.std.specs.Prelude.{List, [], ◌∷◌, ◌++◌}
use Rattle.bp_theory.specs.Program.{Program}
use Rattle.bp_theory.specs.Decomposition.{Decomposition, proof_rows}
use Rattle.bp_theory.specs.Cuts.{cut_row, IsFitting}
use Rattle.bp_theory.specs.declared.Row.{Row}
use Rattle.stronger_laws.specs.WideRows.{wide_rows}
use Rattle.stronger_laws.specs.Mir.{mir_row, IsFittingMir}
use Rattle.stronger_laws.specs.PricedCuts.{priced_row, IsFittingPriced}
use Rattle.stronger_laws.specs.declared.AnyCut.{AnyCut}
use Rattle.stronger_laws.specs.declared.AnyCut.TheVariants.{Rounding, Mir, Priced}

-- the row of a cut behind earlier ones: a rounding cut combines master rows and earlier cuts alone
abbrev pub any_row : Program → Decomposition → List Row → AnyCut → Row
any_row p d earlier (Rounding cut) = cut_row p (proof_rows p d earlier) cut
any_row p d earlier (Mir cut) = mir_row p (wide_rows p d earlier) cut
any_row p d earlier (Priced cut) = priced_row cut

-- a cut fits behind earlier ones
abbrev pub IsFittingAny : Program → Decomposition → List Row → AnyCut → Type 0
IsFittingAny p d earlier (Rounding cut) = IsFitting (proof_rows p d earlier) cut
IsFittingAny p d earlier (Mir cut) = IsFittingMir p (wide_rows p d earlier) cut
IsFittingAny p d earlier (Priced cut) = IsFittingPriced p d (wide_rows p d earlier) cut

-- the rows of cuts behind earlier ones
abbrev pub any_rows : Program → Decomposition → List Row → List AnyCut → List Row
any_rows p d earlier [] = earlier
any_rows p d earlier (cut ∷ cuts) = any_rows p d (earlier ++ any_row p d earlier cut ∷ []) cuts

-- each cut fits behind those before it
abbrev pub AreFittingAll : Program → Decomposition → List Row → List AnyCut → Type 0
AreFittingAll p d earlier [] = Unit {0}
AreFittingAll p d earlier (cut ∷ cuts) = IsFittingAny p d earlier cut × AreFittingAll p d (earlier ++ any_row p d earlier cut ∷ []) cuts
