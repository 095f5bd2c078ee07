-- What may come at a place between two tokens.
use Rattle.std.specs.Prelude.{ℕ, Bool, List, [], ◌∷◌, Option, Some, None, if◌then◌else◌}
use Rattle.cert_format.specs.Words.{word_begins, change_word}
use Rattle.cert_format.specs.Versions.{version_of}
use Rattle.cert_format.specs.declared.version.Version.{Version}
use Rattle.cert_format.specs.declared.version.Version.TheVariants as versions
use Rattle.cert_format.specs.declared.words.Word.{Word}
use Rattle.cert_format.specs.declared.words.Word.TheVariants as w
use Rattle.cert_format.specs.declared.spots.Sort.{Sort}
use Rattle.cert_format.specs.declared.spots.Sort.TheVariants.{Wordy, Natural, Whole}
use Rattle.cert_format.specs.declared.spots.Spot.{Spot}
use Rattle.cert_format.specs.declared.spots.Spot.TheVariants as s

-- whether a number may come
abbrev pub spot_sort : Spot → Sort
spot_sort s.OptimalValue = Whole
spot_sort s.BoundValue = Whole
spot_sort s.KnownValue = Whole
spot_sort s.Coordinate = Whole
spot_sort s.CutMultiplier = Whole
spot_sort s.Multiplier = Whole
spot_sort s.Place = Whole
spot_sort s.Divisor = Natural
spot_sort s.CutCount = Natural
spot_sort s.CutRow = Natural
spot_sort s.Scale = Natural
spot_sort s.Count = Natural
spot_sort s.Row = Natural
spot_sort s.Priced = Natural
spot_sort s.Block = Natural
spot_sort s.Variable = Natural
spot_sort _ = Wordy

-- the words that may come, where more pairs or blocks are to come or not
abbrev pub spot_words : Version → Spot → Bool → List Word
spot_words v s.Bpcert more = w.Bpcert ∷ []
spot_words v s.Version more = w.One ∷ w.Two ∷ w.Three ∷ []
spot_words v s.FirstEnd more = w.LineEnd ∷ []
spot_words v s.InfeasibleEnd more = w.LineEnd ∷ []
spot_words v s.ClaimEnd more = w.LineEnd ∷ []
spot_words v s.LeafEnd more = w.LineEnd ∷ []
spot_words v s.SplitEnd more = w.LineEnd ∷ []
spot_words v s.LastEnd more = w.LineEnd ∷ []
spot_words v s.Claim more = w.Claim ∷ []
spot_words v s.Kind more = w.Optimal ∷ w.Infeasible ∷ w.Bound ∷ []
spot_words v s.AfterBound more = w.LineEnd ∷ w.Value ∷ []
spot_words v s.Point more = w.Point ∷ []
spot_words v s.Values more = w.LineEnd ∷ w.Space ∷ []
spot_words v s.FirstCut more = w.Cut ∷ []
spot_words v s.Cuts more = w.Cut ∷ w.Leaf ∷ w.Open ∷ w.Split ∷ []
spot_words v s.CutRows more = w.Rows ∷ []
spot_words v s.CutPairs more = if more then w.Space ∷ [] else w.LineEnd ∷ []
spot_words v s.CutGap more = w.Space ∷ []
spot_words v s.Node more = w.Leaf ∷ w.Open ∷ w.Split ∷ []
spot_words v s.Rows more = change_word (version_of v) ∷ []
spot_words v s.Pairs more = if more then w.Space ∷ [] else w.Priced ∷ []
spot_words v s.RowGap more = w.Space ∷ []
spot_words v s.VariableGap more = w.Space ∷ []
spot_words v s.Priced more = w.All ∷ []
spot_words v s.Blocks more = if more then w.Space ∷ [] else w.LineEnd ∷ []
spot_words v s.End more = w.End ∷ []
spot_words v _ more = []

-- the place behind a claim and its point
abbrev pub spot_behind_claim : Version → Spot
spot_behind_claim versions.Three = s.FirstCut
spot_behind_claim _ = s.Node

-- the first of some words that begins with a byte
abbrev pub picked_word : ℕ → List Word → Option Word
picked_word byte [] = None
picked_word byte (word ∷ rest) = if word_begins word byte then Some word else picked_word byte rest
