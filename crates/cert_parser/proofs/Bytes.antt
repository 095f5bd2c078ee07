-- Bytes of words and numbers, the lines that they end, and numbers that are too great to be kept.
use Rattle.std.proofs.Common.{◌≡◌, ◌≢◌, ◌⊎◌, ℕ, zero, suc, ◌+◌, ◌-◌, ◌^◌, ◌<◌, ◌≤◌, Bool, true, false, not, ◌&&◌, ◌||◌, min, List, [], ◌∷◌, ◌++◌, length, Option, Some, None, ℤ, nat_abs, refl, sym, ap, ◌∙◌, subst, inl, inr, ⊎_elim, arith, nat_lt, nat_le, cond, ◌==◌, nat_eq}
use Rattle.std.specs.Prelude.{slice_index_or}
use Rattle.std.specs.Ordering.{int_eq}
use Rattle.std.proofs.lemmas.List.Sums.{sum_by-append}
use Rattle.std.proofs.lemmas.Bool.{cases_lt}
use Rattle.std.proofs.lemmas.Bool.Decides.{nat_tests}
use Rattle.bp_theory.specs.Limits.{most_cuts}
use Rattle.cert_format.specs.Cert as texts
use Rattle.cert_format.specs.Cert.{Cut, Tree, multiplier}
use Rattle.cert_format.specs.Text.{Kind, first_kind, is_past, is_deep, value_fault, coordinate_fault}
use Rattle.cert_format.specs.Fault.{line_behind}
use Rattle.cert_format.specs.Words.{word_text}
use Rattle.cert_format.specs.Spots.{spot_sort}
use Rattle.cert_format.specs.Frames.{frame_of}
use Rattle.cert_format.specs.Signed.{signed}
use Rattle.cert_parser.specs.Readers.{place_of, IsCount, slack}
use Rattle.cert_format.specs.Stages.{at_bpcert, at_version, at_first_end, at_claim, at_kind, at_optimal, infeasible_end, at_bound, after_bound, at_value, claim_end, at_point, at_values, at_coordinate, at_first_cut, at_cuts, at_node, at_scale, at_rows, at_count, at_pairs, at_row, row_gap, at_multiplier, at_priced, at_blocks, at_block, leaf_end, at_variable, variable_gap, at_place, split_end, at_end, last_end, over}
use Rattle.cert_format.specs.Stages.{of_leaf, of_cut, Wait, Stage, sort, IsOfSort, number_fault, behind_number}
use Rattle.cert_format.specs.declared.fault.CertKind.TheVariants.{TooLarge, Number, Length, Depth, Limit}
use Rattle.cert_format.specs.declared.frame.Frame.{Frame}
use Rattle.cert_parser.specs.declared.lines.Lines.{Lines}
use Rattle.cert_format.specs.declared.spots.Sort.TheVariants.{Wordy}
use Rattle.cert_format.specs.declared.spots.Spot.{Spot}
use Rattle.cert_format.specs.declared.spots.Spot.TheVariants as s
use Rattle.cert_format.specs.declared.words.Word.{Word}
use Rattle.cert_format.specs.declared.words.Word.TheVariants as w

-- bytes that end no line
abbrev NoLine : List ℕ → Type 0
NoLine [] = Unit {0}
NoLine (b ∷ bs) = (b ≢ 10) × NoLine bs

no_line : (word : Word) → (word ≡ w.LineEnd) ⊎ NoLine (word_text word)
no_line w.LineEnd = inl refl
no_line w.Bpcert = inr ((λ e. omega arith), ((λ e. omega arith), ((λ e. omega arith), ((λ e. omega arith), ((λ e. omega arith), ((λ e. omega arith), ((λ e. omega arith), tt)))))))
no_line w.One = inr ((λ e. omega arith), tt)
no_line w.Two = inr ((λ e. omega arith), tt)
no_line w.Three = inr ((λ e. omega arith), tt)
no_line w.Claim = inr ((λ e. omega arith), ((λ e. omega arith), ((λ e. omega arith), ((λ e. omega arith), ((λ e. omega arith), ((λ e. omega arith), tt))))))
no_line w.Optimal = inr ((λ e. omega arith), ((λ e. omega arith), ((λ e. omega arith), ((λ e. omega arith), ((λ e. omega arith), ((λ e. omega arith), ((λ e. omega arith), ((λ e. omega arith), tt))))))))
no_line w.Infeasible = inr ((λ e. omega arith), ((λ e. omega arith), ((λ e. omega arith), ((λ e. omega arith), ((λ e. omega arith), ((λ e. omega arith), ((λ e. omega arith), ((λ e. omega arith), ((λ e. omega arith), ((λ e. omega arith), tt))))))))))
no_line w.Bound = inr ((λ e. omega arith), ((λ e. omega arith), ((λ e. omega arith), ((λ e. omega arith), ((λ e. omega arith), ((λ e. omega arith), tt))))))
no_line w.Value = inr ((λ e. omega arith), ((λ e. omega arith), ((λ e. omega arith), ((λ e. omega arith), ((λ e. omega arith), ((λ e. omega arith), ((λ e. omega arith), tt)))))))
no_line w.Point = inr ((λ e. omega arith), ((λ e. omega arith), ((λ e. omega arith), ((λ e. omega arith), ((λ e. omega arith), tt)))))
no_line w.Space = inr ((λ e. omega arith), tt)
no_line w.Cut = inr ((λ e. omega arith), ((λ e. omega arith), ((λ e. omega arith), ((λ e. omega arith), tt))))
no_line w.Leaf = inr ((λ e. omega arith), ((λ e. omega arith), ((λ e. omega arith), ((λ e. omega arith), ((λ e. omega arith), tt)))))
no_line w.Open = inr ((λ e. omega arith), ((λ e. omega arith), ((λ e. omega arith), ((λ e. omega arith), ((λ e. omega arith), tt)))))
no_line w.Split = inr ((λ e. omega arith), ((λ e. omega arith), ((λ e. omega arith), ((λ e. omega arith), ((λ e. omega arith), ((λ e. omega arith), tt))))))
no_line w.Rows = inr ((λ e. omega arith), ((λ e. omega arith), ((λ e. omega arith), ((λ e. omega arith), ((λ e. omega arith), ((λ e. omega arith), tt))))))
no_line w.Change = inr ((λ e. omega arith), ((λ e. omega arith), ((λ e. omega arith), ((λ e. omega arith), ((λ e. omega arith), ((λ e. omega arith), ((λ e. omega arith), ((λ e. omega arith), tt))))))))
no_line w.Priced = inr ((λ e. omega arith), ((λ e. omega arith), ((λ e. omega arith), ((λ e. omega arith), ((λ e. omega arith), ((λ e. omega arith), ((λ e. omega arith), ((λ e. omega arith), tt))))))))
no_line w.All = inr ((λ e. omega arith), ((λ e. omega arith), ((λ e. omega arith), tt)))
no_line w.End = inr ((λ e. omega arith), ((λ e. omega arith), ((λ e. omega arith), tt)))

no_line_at : (bs : List ℕ) (k : ℕ) → NoLine bs → slice_index_or bs k 0 ≢ 10
no_line_at [] k none = λ e. omega arith
no_line_at (b ∷ bs) zero none = none.0
no_line_at (b ∷ bs) (suc k) none = no_line_at bs k none.1

-- a byte of a word ends a line only where the word is a line's end
pub word_line : (word : Word) (k : ℕ) → (word ≡ w.LineEnd) ⊎ (slice_index_or (word_text word) k 0 ≢ 10)
word_line word k = ⊎_elim (λ is. inl is) (λ none. inr (no_line_at (word_text word) k none)) (no_line word)

-- the line behind one byte more
line_push : (text : List ℕ) (byte : ℕ) → line_behind (text ++ byte ∷ []) ≡ line_behind text + cond (byte == 10) 1 0
line_push text byte =
    let sums = sum_by-append (λ (b : ℕ). cond (b == 10) 1 0) text (byte ∷ []) in
    omega arith

pub line_same : (text : List ℕ) (byte : ℕ) → byte ≢ 10 → line_behind (text ++ byte ∷ []) ≡ line_behind text
line_same text byte other = let push = line_push text byte in grind (arith, nat_tests)

pub line_more : (text : List ℕ) (byte : ℕ) → byte ≡ 10 → line_behind (text ++ byte ∷ []) ≡ line_behind text + 1
line_more text byte is = let push = line_push text byte in grind (arith, nat_tests)

pub line_first : (byte : ℕ) → byte ≢ 10 → line_behind (byte ∷ []) ≡ 1
line_first byte other = line_same [] byte other

-- the sort of a reader's place
pub sort_is : (above : List Wait) (root : Tree) (cuts : List Cut) (r : Lines) (n : ℕ) (spot : Spot) → sort (place_of above root cuts r n spot) ≡ spot_sort spot
sort_is above root cuts r n s.Bpcert = refl
sort_is above root cuts r n s.Version = refl
sort_is above root cuts r n s.FirstEnd = refl
sort_is above root cuts r n s.Claim = refl
sort_is above root cuts r n s.Kind = refl
sort_is above root cuts r n s.OptimalValue = refl
sort_is above root cuts r n s.InfeasibleEnd = refl
sort_is above root cuts r n s.BoundValue = refl
sort_is above root cuts r n s.AfterBound = refl
sort_is above root cuts r n s.KnownValue = refl
sort_is above root cuts r n s.ClaimEnd = refl
sort_is above root cuts r n s.Point = refl
sort_is above root cuts r n s.Values = refl
sort_is above root cuts r n s.Coordinate = refl
sort_is above root cuts r n s.FirstCut = refl
sort_is above root cuts r n s.Cuts = refl
sort_is above root cuts r n s.Divisor = refl
sort_is above root cuts r n s.CutRows = refl
sort_is above root cuts r n s.CutCount = refl
sort_is above root cuts r n s.CutPairs = refl
sort_is above root cuts r n s.CutRow = refl
sort_is above root cuts r n s.CutGap = refl
sort_is above root cuts r n s.CutMultiplier = refl
sort_is above root cuts r n s.Node = refl
sort_is above root cuts r n s.Scale = refl
sort_is above root cuts r n s.Rows = refl
sort_is above root cuts r n s.Count = refl
sort_is above root cuts r n s.Pairs = refl
sort_is above root cuts r n s.Row = refl
sort_is above root cuts r n s.RowGap = refl
sort_is above root cuts r n s.Multiplier = refl
sort_is above root cuts r n s.Priced = refl
sort_is above root cuts r n s.Blocks = refl
sort_is above root cuts r n s.Block = refl
sort_is above root cuts r n s.LeafEnd = refl
sort_is above root cuts r n s.Variable = refl
sort_is above root cuts r n s.VariableGap = refl
sort_is above root cuts r n s.Place = refl
sort_is above root cuts r n s.SplitEnd = refl
sort_is above root cuts r n s.End = refl
sort_is above root cuts r n s.LastEnd = refl
sort_is above root cuts r n s.Over = refl

pub slack_small : (spot : Spot) → slack spot ≤ 1
slack_small s.Bpcert = omega arith
slack_small s.Version = omega arith
slack_small s.FirstEnd = omega arith
slack_small s.Claim = omega arith
slack_small s.Kind = omega arith
slack_small s.OptimalValue = omega arith
slack_small s.InfeasibleEnd = omega arith
slack_small s.BoundValue = omega arith
slack_small s.AfterBound = omega arith
slack_small s.KnownValue = omega arith
slack_small s.ClaimEnd = omega arith
slack_small s.Point = omega arith
slack_small s.Values = omega arith
slack_small s.Coordinate = omega arith
slack_small s.FirstCut = omega arith
slack_small s.Cuts = omega arith
slack_small s.Divisor = omega arith
slack_small s.CutRows = omega arith
slack_small s.CutCount = omega arith
slack_small s.CutPairs = omega arith
slack_small s.CutRow = omega arith
slack_small s.CutGap = omega arith
slack_small s.CutMultiplier = omega arith
slack_small s.Node = omega arith
slack_small s.Scale = omega arith
slack_small s.Rows = omega arith
slack_small s.Count = omega arith
slack_small s.Pairs = omega arith
slack_small s.Row = omega arith
slack_small s.RowGap = omega arith
slack_small s.Multiplier = omega arith
slack_small s.Priced = omega arith
slack_small s.Blocks = omega arith
slack_small s.Block = omega arith
slack_small s.LeafEnd = omega arith
slack_small s.Variable = omega arith
slack_small s.VariableGap = omega arith
slack_small s.Place = omega arith
slack_small s.SplitEnd = omega arith
slack_small s.End = omega arith
slack_small s.LastEnd = omega arith
slack_small s.Over = omega arith

-- behind a number comes a word
pub behind_wordy : (stage : Stage) (z : ℤ) → IsOfSort (sort stage) z → sort (behind_number stage z) ≡ Wordy
behind_wordy (at_optimal v) z of_sort = refl
behind_wordy (at_bound v) z of_sort = refl
behind_wordy (at_value v b) z of_sort = refl
behind_wordy (at_coordinate v k zs) z of_sort = refl
behind_wordy (at_scale a ws o) z of_sort = refl
behind_wordy (at_count a ws o s) z of_sort = refl
behind_wordy (at_row a ws o s ps last n) z of_sort = refl
behind_wordy (at_multiplier a ws o s ps r n) z of_sort = refl
behind_wordy (at_priced a ws o s ps) z of_sort = refl
behind_wordy (at_block a ws o s ps ks last n) z of_sort = refl
behind_wordy (at_variable a ws) z of_sort = refl
behind_wordy (at_place a ws i) z of_sort = refl
behind_wordy at_bpcert z of_sort = absurd of_sort
behind_wordy at_version z of_sort = absurd of_sort
behind_wordy (at_first_end v) z of_sort = absurd of_sort
behind_wordy (at_claim v) z of_sort = absurd of_sort
behind_wordy (at_kind v) z of_sort = absurd of_sort
behind_wordy (infeasible_end v) z of_sort = absurd of_sort
behind_wordy (after_bound v b) z of_sort = absurd of_sort
behind_wordy (claim_end v k) z of_sort = absurd of_sort
behind_wordy (at_point v k) z of_sort = absurd of_sort
behind_wordy (at_values v k zs) z of_sort = absurd of_sort
behind_wordy (at_first_cut a ws) z of_sort = absurd of_sort
behind_wordy (at_cuts a ws) z of_sort = absurd of_sort
behind_wordy (at_node a ws) z of_sort = absurd of_sort
behind_wordy (at_rows a ws o s) z of_sort = absurd of_sort
behind_wordy (at_pairs a ws o s ps last n) z of_sort = absurd of_sort
behind_wordy (row_gap a ws o s ps r n) z of_sort = absurd of_sort
behind_wordy (at_blocks a ws o s ps ks last n) z of_sort = absurd of_sort
behind_wordy (leaf_end a ws o p) z of_sort = absurd of_sort
behind_wordy (variable_gap a ws i) z of_sort = absurd of_sort
behind_wordy (split_end a ws i y) z of_sort = absurd of_sort
behind_wordy (at_end a t) z of_sort = absurd of_sort
behind_wordy (last_end a t) z of_sort = absurd of_sort
behind_wordy (over a t) z of_sort = absurd of_sort

-- the magnitude of a number with a sign
pub abs-signed : (negative : Bool) (n : ℕ) → nat_abs (signed negative n) ≡ n
abs-signed false n = refl
abs-signed true zero = refl
abs-signed true (suc n) = refl

-- a place where a number of pairs or blocks comes
abbrev pub IsCounting : Stage → Type 0
IsCounting (at_count a ws o s) = Unit {0}
IsCounting (at_priced a ws o s ps) = Unit {0}
IsCounting _ = ⊥

pub counting_is : (above : List Wait) (root : Tree) (cuts : List Cut) (r : Lines) (n : ℕ) (spot : Spot) → IsCounting (place_of above root cuts r n spot) → IsCount spot
counting_is above root cuts r n s.Bpcert is = is
counting_is above root cuts r n s.Version is = is
counting_is above root cuts r n s.FirstEnd is = is
counting_is above root cuts r n s.Claim is = is
counting_is above root cuts r n s.Kind is = is
counting_is above root cuts r n s.OptimalValue is = is
counting_is above root cuts r n s.InfeasibleEnd is = is
counting_is above root cuts r n s.BoundValue is = is
counting_is above root cuts r n s.AfterBound is = is
counting_is above root cuts r n s.KnownValue is = is
counting_is above root cuts r n s.ClaimEnd is = is
counting_is above root cuts r n s.Point is = is
counting_is above root cuts r n s.Values is = is
counting_is above root cuts r n s.Coordinate is = is
counting_is above root cuts r n s.FirstCut is = is
counting_is above root cuts r n s.Cuts is = is
counting_is above root cuts r n s.Divisor is = is
counting_is above root cuts r n s.CutRows is = is
counting_is above root cuts r n s.CutCount is = is
counting_is above root cuts r n s.CutPairs is = is
counting_is above root cuts r n s.CutRow is = is
counting_is above root cuts r n s.CutGap is = is
counting_is above root cuts r n s.CutMultiplier is = is
counting_is above root cuts r n s.Node is = is
counting_is above root cuts r n s.Scale is = is
counting_is above root cuts r n s.Rows is = is
counting_is above root cuts r n s.Count is = is
counting_is above root cuts r n s.Pairs is = is
counting_is above root cuts r n s.Row is = is
counting_is above root cuts r n s.RowGap is = is
counting_is above root cuts r n s.Multiplier is = is
counting_is above root cuts r n s.Priced is = is
counting_is above root cuts r n s.Blocks is = is
counting_is above root cuts r n s.Block is = is
counting_is above root cuts r n s.LeafEnd is = is
counting_is above root cuts r n s.Variable is = is
counting_is above root cuts r n s.VariableGap is = is
counting_is above root cuts r n s.Place is = is
counting_is above root cuts r n s.SplitEnd is = is
counting_is above root cuts r n s.End is = is
counting_is above root cuts r n s.LastEnd is = is
counting_is above root cuts r n s.Over is = is

pub is_counting : (above : List Wait) (root : Tree) (cuts : List Cut) (r : Lines) (n : ℕ) (spot : Spot) → IsCount spot → IsCounting (place_of above root cuts r n spot)
is_counting above root cuts r n s.Bpcert is = is
is_counting above root cuts r n s.Version is = is
is_counting above root cuts r n s.FirstEnd is = is
is_counting above root cuts r n s.Claim is = is
is_counting above root cuts r n s.Kind is = is
is_counting above root cuts r n s.OptimalValue is = is
is_counting above root cuts r n s.InfeasibleEnd is = is
is_counting above root cuts r n s.BoundValue is = is
is_counting above root cuts r n s.AfterBound is = is
is_counting above root cuts r n s.KnownValue is = is
is_counting above root cuts r n s.ClaimEnd is = is
is_counting above root cuts r n s.Point is = is
is_counting above root cuts r n s.Values is = is
is_counting above root cuts r n s.Coordinate is = is
is_counting above root cuts r n s.FirstCut is = is
is_counting above root cuts r n s.Cuts is = is
is_counting above root cuts r n s.Divisor is = is
is_counting above root cuts r n s.CutRows is = is
is_counting above root cuts r n s.CutCount is = is
is_counting above root cuts r n s.CutPairs is = is
is_counting above root cuts r n s.CutRow is = is
is_counting above root cuts r n s.CutGap is = is
is_counting above root cuts r n s.CutMultiplier is = is
is_counting above root cuts r n s.Node is = is
is_counting above root cuts r n s.Scale is = is
is_counting above root cuts r n s.Rows is = is
is_counting above root cuts r n s.Count is = is
is_counting above root cuts r n s.Pairs is = is
is_counting above root cuts r n s.Row is = is
is_counting above root cuts r n s.RowGap is = is
is_counting above root cuts r n s.Multiplier is = is
is_counting above root cuts r n s.Priced is = is
is_counting above root cuts r n s.Blocks is = is
is_counting above root cuts r n s.Block is = is
is_counting above root cuts r n s.LeafEnd is = is
is_counting above root cuts r n s.Variable is = is
is_counting above root cuts r n s.VariableGap is = is
is_counting above root cuts r n s.Place is = is
is_counting above root cuts r n s.SplitEnd is = is
is_counting above root cuts r n s.End is = is
is_counting above root cuts r n s.LastEnd is = is
is_counting above root cuts r n s.Over is = is

-- whether a number of pairs or blocks comes
pub count_cases : (spot : Spot) → IsCount spot ⊎ (IsCount spot → ⊥)
count_cases s.Bpcert = inr (λ e. e)
count_cases s.Version = inr (λ e. e)
count_cases s.FirstEnd = inr (λ e. e)
count_cases s.Claim = inr (λ e. e)
count_cases s.Kind = inr (λ e. e)
count_cases s.OptimalValue = inr (λ e. e)
count_cases s.InfeasibleEnd = inr (λ e. e)
count_cases s.BoundValue = inr (λ e. e)
count_cases s.AfterBound = inr (λ e. e)
count_cases s.KnownValue = inr (λ e. e)
count_cases s.ClaimEnd = inr (λ e. e)
count_cases s.Point = inr (λ e. e)
count_cases s.Values = inr (λ e. e)
count_cases s.Coordinate = inr (λ e. e)
count_cases s.FirstCut = inr (λ e. e)
count_cases s.Cuts = inr (λ e. e)
count_cases s.Divisor = inr (λ e. e)
count_cases s.CutRows = inr (λ e. e)
count_cases s.CutCount = inl tt
count_cases s.CutPairs = inr (λ e. e)
count_cases s.CutRow = inr (λ e. e)
count_cases s.CutGap = inr (λ e. e)
count_cases s.CutMultiplier = inr (λ e. e)
count_cases s.Node = inr (λ e. e)
count_cases s.Scale = inr (λ e. e)
count_cases s.Rows = inr (λ e. e)
count_cases s.Count = inl tt
count_cases s.Pairs = inr (λ e. e)
count_cases s.Row = inr (λ e. e)
count_cases s.RowGap = inr (λ e. e)
count_cases s.Multiplier = inr (λ e. e)
count_cases s.Priced = inl tt
count_cases s.Blocks = inr (λ e. e)
count_cases s.Block = inr (λ e. e)
count_cases s.LeafEnd = inr (λ e. e)
count_cases s.Variable = inr (λ e. e)
count_cases s.VariableGap = inr (λ e. e)
count_cases s.Place = inr (λ e. e)
count_cases s.SplitEnd = inr (λ e. e)
count_cases s.End = inr (λ e. e)
count_cases s.LastEnd = inr (λ e. e)
count_cases s.Over = inr (λ e. e)

past_limit : (limit : ℕ) (z : ℤ) → limit < 2 ^ 63 → 2 ^ 63 ≤ nat_abs z → is_past limit z ≡ true
past_limit limit z small big = grind (arith, nat_tests)

big_value : (z : ℤ) → 2 ^ 63 ≤ nat_abs z → value_fault z ≡ Some TooLarge
big_value z big =
    let few : 2 ^ 62 - 1 < 2 ^ 63 = omega arith in
    ap (λ (t : Bool). first_kind ((t, TooLarge) ∷ [])) (past_limit (2 ^ 62 - 1) z few big)

big_coordinate : (frame : texts.Frame) (number : ℕ) (z : ℤ) → 2 ^ 63 ≤ nat_abs z → coordinate_fault frame number z ≡ Some TooLarge
big_coordinate frame number z big =
    let few : 2 ^ 62 - 1 < 2 ^ 63 = omega arith in
    ap (λ (t : Bool). first_kind ((t, TooLarge) ∷ (nat_lt frame.variables number, Length) ∷ [])) (past_limit (2 ^ 62 - 1) z few big)

big_multiplier : (limit : ℕ) (z : ℤ) (same : Bool) → limit < 2 ^ 63 → 2 ^ 63 ≤ nat_abs z → first_kind ((is_past limit z, TooLarge) ∷ (same, Number) ∷ []) ≡ Some TooLarge
big_multiplier limit z same few big = ap (λ (t : Bool). first_kind ((t, TooLarge) ∷ (same, Number) ∷ [])) (past_limit limit z few big)

big_scale : (deep : Bool) (n : ℕ) → 2 ^ 63 ≤ n → first_kind ((deep, Depth) ∷ (nat_lt (2 ^ 20) n, TooLarge) ∷ []) ≡ first_kind ((deep, Depth) ∷ (true, TooLarge) ∷ [])
big_scale deep n big = let past : nat_lt (2 ^ 20) n ≡ true = grind (arith, nat_tests) in ap (λ (t : Bool). first_kind ((deep, Depth) ∷ (t, TooLarge) ∷ [])) past

big_divisor : (all none : Bool) (n : ℕ) → 2 ^ 63 ≤ n → first_kind ((all, Limit) ∷ (nat_lt (2 ^ 20) n, TooLarge) ∷ (none, Number) ∷ []) ≡ first_kind ((all, Limit) ∷ (true, TooLarge) ∷ [])
big_divisor all none n big = let past : nat_lt (2 ^ 20) n ≡ true = grind (arith, nat_tests) in ap (λ (t : Bool). first_kind ((all, Limit) ∷ (t, TooLarge) ∷ (none, Number) ∷ [])) past

big_row : (named below behind : Bool) (rows links cuts n : ℕ) → rows + links ≤ 2 ^ 31 → cuts ≤ most_cuts → 2 ^ 63 ≤ n → (below && ((nat_le n rows && named) || (behind && nat_le n (rows + links + cuts)))) ≡ false
big_row named below behind rows links cuts n few some big =
    let past : nat_le n rows ≡ false = grind (arith, nat_tests) in
    let also : nat_le n (rows + links + cuts) ≡ false = grind (arith, nat_tests) in
    all below behind (nat_le n rows) (nat_le n (rows + links + cuts)) past also where
      all : (x y p q : Bool) → p ≡ false → q ≡ false → (x && ((p && named) || (y && q))) ≡ false
      all false y p q e f = refl
      all true false p q e f = ap (λ (t : Bool). (t && named) || false) e
      all true true p q e f = ap (λ (t : Bool). (t && named) || q) e ∙ f

big_block : (below : Bool) (blocks n : ℕ) → blocks < 2 ^ 32 → 2 ^ 63 ≤ n → (below && nat_le n blocks) ≡ false
big_block below blocks n few big =
    let past : nat_le n blocks ≡ false = grind (arith, nat_tests) in all below (nat_le n blocks) past where
      all : (x p : Bool) → p ≡ false → (x && p) ≡ false
      all false p e = refl
      all true p e = e

-- what is known of a frame's numbers
pub record IsSmall (frame : texts.Frame) : Type 0 where
  pub rows : frame.rows + frame.links ≤ 2 ^ 31
  pub variables : frame.variables < 2 ^ 32
  pub blocks : frame.blocks < 2 ^ 32

-- where a row comes, the cuts are no more than may be
abbrev pub HasFewCuts : Stage → Type 0
HasFewCuts (at_row a ws o s ps last n) = length a.cuts ≤ most_cuts
HasFewCuts _ = Unit {0}

pub few_cuts : (above : List Wait) (root : Tree) (cuts : List Cut) (r : Lines) (n : ℕ) (spot : Spot) → length cuts ≤ most_cuts → HasFewCuts (place_of above root cuts r n spot)
few_cuts above root cuts r n s.Bpcert few = tt
few_cuts above root cuts r n s.Version few = tt
few_cuts above root cuts r n s.FirstEnd few = tt
few_cuts above root cuts r n s.Claim few = tt
few_cuts above root cuts r n s.Kind few = tt
few_cuts above root cuts r n s.OptimalValue few = tt
few_cuts above root cuts r n s.InfeasibleEnd few = tt
few_cuts above root cuts r n s.BoundValue few = tt
few_cuts above root cuts r n s.AfterBound few = tt
few_cuts above root cuts r n s.KnownValue few = tt
few_cuts above root cuts r n s.ClaimEnd few = tt
few_cuts above root cuts r n s.Point few = tt
few_cuts above root cuts r n s.Values few = tt
few_cuts above root cuts r n s.Coordinate few = tt
few_cuts above root cuts r n s.FirstCut few = tt
few_cuts above root cuts r n s.Cuts few = tt
few_cuts above root cuts r n s.Divisor few = tt
few_cuts above root cuts r n s.CutRows few = tt
few_cuts above root cuts r n s.CutCount few = tt
few_cuts above root cuts r n s.CutPairs few = tt
few_cuts above root cuts r n s.CutRow few = few
few_cuts above root cuts r n s.CutGap few = tt
few_cuts above root cuts r n s.CutMultiplier few = tt
few_cuts above root cuts r n s.Node few = tt
few_cuts above root cuts r n s.Scale few = tt
few_cuts above root cuts r n s.Rows few = tt
few_cuts above root cuts r n s.Count few = tt
few_cuts above root cuts r n s.Pairs few = tt
few_cuts above root cuts r n s.Row few = few
few_cuts above root cuts r n s.RowGap few = tt
few_cuts above root cuts r n s.Multiplier few = tt
few_cuts above root cuts r n s.Priced few = tt
few_cuts above root cuts r n s.Blocks few = tt
few_cuts above root cuts r n s.Block few = tt
few_cuts above root cuts r n s.LeafEnd few = tt
few_cuts above root cuts r n s.Variable few = tt
few_cuts above root cuts r n s.VariableGap few = tt
few_cuts above root cuts r n s.Place few = tt
few_cuts above root cuts r n s.SplitEnd few = tt
few_cuts above root cuts r n s.End few = tt
few_cuts above root cuts r n s.LastEnd few = tt
few_cuts above root cuts r n s.Over few = tt

-- the fault of a number that is too great to be kept
big_fault : texts.Frame → Stage → Option Kind
big_fault frame (at_scale a ws (of_leaf o)) = first_kind ((is_deep frame.limits (length ws), Depth) ∷ (true, TooLarge) ∷ [])
big_fault frame (at_scale a ws of_cut) = first_kind ((nat_le most_cuts (length a.cuts), Limit) ∷ (true, TooLarge) ∷ [])
big_fault frame (at_variable a ws) = first_kind ((is_deep frame.limits (length ws), Depth) ∷ (true, Number) ∷ [])
big_fault frame (at_row a ws o s ps last n) = Some Number
big_fault frame (at_block a ws o s ps ks last n) = Some Number
big_fault frame (at_count a ws o s) = None
big_fault frame (at_priced a ws o s ps) = None
big_fault frame stage = Some TooLarge

big_is : (frame : texts.Frame) (stage : Stage) (z : ℤ) → IsSmall frame → HasFewCuts stage → IsOfSort (sort stage) z → 2 ^ 63 ≤ nat_abs z → number_fault frame stage z ≡ big_fault frame stage
unfolding big_fault
big_is frame (at_optimal v) z small cuts of_sort big = big_value z big
big_is frame (at_bound v) z small cuts of_sort big = big_value z big
big_is frame (at_value v b) z small cuts of_sort big = big_value z big
big_is frame (at_place a ws i) z small cuts of_sort big = big_value z big
big_is frame (at_coordinate v k zs) z small cuts of_sort big = big_coordinate frame (length zs + 1) z big
big_is frame (at_scale a ws (of_leaf o)) z small cuts of_sort big = big_scale (is_deep frame.limits (length ws)) (nat_abs z) big
big_is frame (at_scale a ws of_cut) z small cuts of_sort big = big_divisor (nat_le most_cuts (length a.cuts)) (nat_eq (nat_abs z) 0) (nat_abs z) big
big_is frame (at_count a ws o s) z small cuts of_sort big = refl
big_is frame (at_priced a ws o s ps) z small cuts of_sort big = refl
big_is frame (at_row a ws (of_leaf o) s ps last n) z small cuts of_sort big =
    ap (λ (t : Bool). first_kind ((not t, Number) ∷ []))
    (big_row (frame.is_master (nat_abs z)) (nat_lt last (nat_abs z)) (nat_lt frame.rows (nat_abs z)) frame.rows frame.links (length a.cuts) (nat_abs z) small.rows cuts big)
big_is frame (at_row a ws of_cut s ps last n) z small cuts of_sort big =
    ap (λ (t : Bool). first_kind ((not t, Number) ∷ []))
    (big_row (frame.is_master (nat_abs z)) (nat_lt last (nat_abs z)) (nat_lt (frame.rows + frame.links) (nat_abs z)) frame.rows frame.links (length a.cuts) (nat_abs z) small.rows cuts big)
big_is frame (at_multiplier a ws (of_leaf o) s ps r n) z small cuts of_sort big = big_multiplier (2 ^ 40) z (int_eq z (multiplier a.had r)) (omega arith) big
big_is frame (at_multiplier a ws of_cut s ps r n) z small cuts of_sort big = big_multiplier (2 ^ 20) z (int_eq z (multiplier [] r)) (omega arith) big
big_is frame (at_block a ws o s ps ks last n) z small cuts of_sort big = ap (λ (t : Bool). first_kind ((not t, Number) ∷ [])) (big_block (nat_lt last (nat_abs z)) frame.blocks (nat_abs z) small.blocks big)
big_is frame (at_variable a ws) z small cuts of_sort big =
    ap (λ (t : Bool). first_kind ((is_deep frame.limits (length ws), Depth) ∷ (not t, Number) ∷ [])) (big_block (nat_lt 0 (nat_abs z)) frame.variables (nat_abs z) small.variables big)
big_is frame at_bpcert z small cuts of_sort big = absurd of_sort
big_is frame at_version z small cuts of_sort big = absurd of_sort
big_is frame (at_first_end v) z small cuts of_sort big = absurd of_sort
big_is frame (at_claim v) z small cuts of_sort big = absurd of_sort
big_is frame (at_kind v) z small cuts of_sort big = absurd of_sort
big_is frame (infeasible_end v) z small cuts of_sort big = absurd of_sort
big_is frame (after_bound v b) z small cuts of_sort big = absurd of_sort
big_is frame (claim_end v k) z small cuts of_sort big = absurd of_sort
big_is frame (at_point v k) z small cuts of_sort big = absurd of_sort
big_is frame (at_values v k zs) z small cuts of_sort big = absurd of_sort
big_is frame (at_first_cut a ws) z small cuts of_sort big = absurd of_sort
big_is frame (at_cuts a ws) z small cuts of_sort big = absurd of_sort
big_is frame (at_node a ws) z small cuts of_sort big = absurd of_sort
big_is frame (at_rows a ws o s) z small cuts of_sort big = absurd of_sort
big_is frame (at_pairs a ws o s ps last n) z small cuts of_sort big = absurd of_sort
big_is frame (row_gap a ws o s ps r n) z small cuts of_sort big = absurd of_sort
big_is frame (at_blocks a ws o s ps ks last n) z small cuts of_sort big = absurd of_sort
big_is frame (leaf_end a ws o p) z small cuts of_sort big = absurd of_sort
big_is frame (variable_gap a ws i) z small cuts of_sort big = absurd of_sort
big_is frame (split_end a ws i y) z small cuts of_sort big = absurd of_sort
big_is frame (at_end a t) z small cuts of_sort big = absurd of_sort
big_is frame (last_end a t) z small cuts of_sort big = absurd of_sort
big_is frame (over a t) z small cuts of_sort big = absurd of_sort

some_first : (t : Bool) (k l : Kind) → first_kind ((t, k) ∷ (true, l) ∷ []) ≡ None → ⊥
some_first true k l none = cc
some_first false k l none = cc

-- only a number of pairs or blocks may be so great
big_faulty : (frame : texts.Frame) (stage : Stage) (z : ℤ) → IsOfSort (sort stage) z → big_fault frame stage ≡ None → IsCounting stage
unfolding big_fault
big_faulty frame (at_optimal v) z of_sort none = absurd (cc)
big_faulty frame (at_bound v) z of_sort none = absurd (cc)
big_faulty frame (at_value v b) z of_sort none = absurd (cc)
big_faulty frame (at_place a ws i) z of_sort none = absurd (cc)
big_faulty frame (at_coordinate v k zs) z of_sort none = absurd (cc)
big_faulty frame (at_scale a ws (of_leaf o)) z of_sort none = absurd (some_first (is_deep frame.limits (length ws)) Depth TooLarge none)
big_faulty frame (at_scale a ws of_cut) z of_sort none = absurd (some_first (nat_le most_cuts (length a.cuts)) Limit TooLarge none)
big_faulty frame (at_count a ws o s) z of_sort none = tt
big_faulty frame (at_priced a ws o s ps) z of_sort none = tt
big_faulty frame (at_row a ws o s ps last n) z of_sort none = absurd (cc)
big_faulty frame (at_multiplier a ws o s ps r n) z of_sort none = absurd (cc)
big_faulty frame (at_block a ws o s ps ks last n) z of_sort none = absurd (cc)
big_faulty frame (at_variable a ws) z of_sort none = absurd (some_first (is_deep frame.limits (length ws)) Depth Number none)
big_faulty frame at_bpcert z of_sort none = absurd of_sort
big_faulty frame at_version z of_sort none = absurd of_sort
big_faulty frame (at_first_end v) z of_sort none = absurd of_sort
big_faulty frame (at_claim v) z of_sort none = absurd of_sort
big_faulty frame (at_kind v) z of_sort none = absurd of_sort
big_faulty frame (infeasible_end v) z of_sort none = absurd of_sort
big_faulty frame (after_bound v b) z of_sort none = absurd of_sort
big_faulty frame (claim_end v k) z of_sort none = absurd of_sort
big_faulty frame (at_point v k) z of_sort none = absurd of_sort
big_faulty frame (at_values v k zs) z of_sort none = absurd of_sort
big_faulty frame (at_first_cut a ws) z of_sort none = absurd of_sort
big_faulty frame (at_cuts a ws) z of_sort none = absurd of_sort
big_faulty frame (at_node a ws) z of_sort none = absurd of_sort
big_faulty frame (at_rows a ws o s) z of_sort none = absurd of_sort
big_faulty frame (at_pairs a ws o s ps last n) z of_sort none = absurd of_sort
big_faulty frame (row_gap a ws o s ps r n) z of_sort none = absurd of_sort
big_faulty frame (at_blocks a ws o s ps ks last n) z of_sort none = absurd of_sort
big_faulty frame (leaf_end a ws o p) z of_sort none = absurd of_sort
big_faulty frame (variable_gap a ws i) z of_sort none = absurd of_sort
big_faulty frame (split_end a ws i y) z of_sort none = absurd of_sort
big_faulty frame (at_end a t) z of_sort none = absurd of_sort
big_faulty frame (last_end a t) z of_sort none = absurd of_sort
big_faulty frame (over a t) z of_sort none = absurd of_sort

-- a number and what is kept of it are judged alike, and without a fault they are one but for numbers of pairs and blocks
pub kept_alike : (frame : texts.Frame) (stage : Stage) (negative : Bool) (n value : ℕ) → IsSmall frame → HasFewCuts stage → IsOfSort (sort stage) (signed negative n) → IsOfSort (sort stage) (signed negative value) → value ≡ min n (2 ^ 64 - 1)
    → (number_fault frame stage (signed negative n) ≡ number_fault frame stage (signed negative value)) × (number_fault frame stage (signed negative value) ≡ None → (n ≡ value) ⊎ IsCounting stage)
kept_alike frame stage negative n value small cuts of_n of_value kept = ⊎_elim
    (λ same. (ap (λ (k : ℕ). number_fault frame stage (signed negative k)) same, λ none. inl same))
    (λ big.
    let P : ℕ → Type 0 = λ k. 2 ^ 63 ≤ k in
    let big_n : 2 ^ 63 ≤ nat_abs (signed negative n) = subst P (sym (abs-signed negative n)) big.0 in
    let big_value : 2 ^ 63 ≤ nat_abs (signed negative value) = subst P (sym (abs-signed negative value)) big.1 in
    let one = big_is frame stage (signed negative n) small cuts of_n big_n in
    let two = big_is frame stage (signed negative value) small cuts of_value big_value in
    (one ∙ sym two, λ none. inr (big_faulty frame stage (signed negative value) of_value (sym two ∙ none))))
    (sizes n value kept) where
      sizes : (n value : ℕ) → value ≡ min n (2 ^ 64 - 1) → (n ≡ value) ⊎ ((2 ^ 63 ≤ n) × (2 ^ 63 ≤ value))
      sizes n value kept = ⊎_elim (λ few. let same : n ≡ value = omega arith in inl same) (λ many. let a : 2 ^ 63 ≤ n = omega arith in let b : 2 ^ 63 ≤ value = omega arith in inr (a, b)) (cases_lt n (2 ^ 64))

-- a frame's numbers are small
pub frame_small : (frame : Frame) → frame.variables < 2 ^ 32 → frame.blocks < 2 ^ 32 → length frame.masters + frame.links ≤ 2 ^ 31 → IsSmall (frame_of frame)
frame_small frame variables blocks rows = record { rows = rows; variables = variables; blocks = blocks }
