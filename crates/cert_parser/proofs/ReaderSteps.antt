-- What a reader stands for behind one byte more.
use Rattle.std.proofs.Common.{◌≡◌, ◌≢◌, ℕ, zero, suc, ◌+◌, ◌-◌, ◌*◌, ◌^◌, ◌<◌, ◌≤◌, Bool, true, false, IsTrue, min, List, [], ◌∷◌, ◌++◌, length, Option, Some, None, Result, Ok, Err, ℤ, pos, negsuc, nat_abs, refl, sym, ap, ◌∙◌, subst, inl, inr, ⊎_elim, arith, append_assoc, append-nil, length-append, if◌then◌else◌}
use Rattle.std.proofs.lemmas.Bool.{true≢false, cases_lt}
use Rattle.std.proofs.lemmas.Bool.Decides.{nat_tests}
use Rattle.std.specs.Prelude.{unwrap_or}
use Rattle.cert_format.specs.Cert as texts
use Rattle.cert_format.specs.Text.{Kind, numeral, signed_numeral}
use Rattle.cert_format.specs.Fault.{BeginsDigit, HasDeepNumber, IsSeenFault, IsFirstCertFault, line_behind}
use Rattle.cert_format.specs.Words.{word_begins}
use Rattle.cert_format.specs.Spots.{spot_sort}
use Rattle.cert_format.specs.Frames.{frame_of}
use Rattle.cert_format.specs.Signed.{signed}
use Rattle.cert_format.specs.Cert.{Cert, Cut, Tree}
use Rattle.cert_parser.specs.Readers.{HasHighs, IsBehind, IsCount, slack, count_behind, place_of, stage_of, TakesNatural, TakesWhole}
use Rattle.cert_format.specs.Stages.{at_bpcert, at_version, at_first_end, at_claim, at_kind, at_optimal, infeasible_end, at_bound, after_bound, at_value, claim_end, at_point, at_values, at_coordinate, at_first_cut, at_cuts, at_node, at_scale, at_rows, at_count, at_pairs, at_row, row_gap, at_multiplier, at_priced, at_blocks, at_block, leaf_end, at_variable, variable_gap, at_place, split_end, at_end, last_end, over}
use Rattle.cert_format.specs.Stages.{Wait, Stage, words, sort, IsOfSort, is_deep_stage, deep_kind, number_fault, behind_number}
use Rattle.cert_format.specs.Reached.{MayStand, Reached, Comes, IsInNumber, IsBehindMinus, IsBehindDeepMinus, is_digit}
use Rattle.cert_parser.specs.Standing.{IsPart, CountFits, IsShort, KeepsCounts, StandsFor, Between, EndsNumberAt}
use Rattle.cert_format.specs.declared.fault.CertKind.TheVariants.{Syntax}
use Rattle.cert_format.specs.declared.fault.CertFault.{CertFault}
use Rattle.cert_format.specs.declared.fault.CertFault.TheVariants.{At, NoMemory}
use Rattle.cert_format.specs.declared.frame.Frame.{Frame}
use Rattle.cert_parser.specs.declared.lines.Part.{Part}
use Rattle.cert_parser.specs.declared.lines.Part.TheVariants.{Fresh, Minus, DeepMinus, Digits}
use Rattle.cert_parser.specs.declared.lines.Lines.{Lines}
use Rattle.cert_format.specs.declared.spots.Sort.{Sort}
use Rattle.cert_format.specs.declared.spots.Sort.TheVariants.{Wordy, Natural, Whole}
use Rattle.cert_format.specs.declared.spots.Spot.{Spot}
use Rattle.cert_format.specs.declared.spots.Spot.TheVariants as s
use Rattle.cert_format.specs.declared.words.Word.{Word}
use Rattle.cert_format.proofs.Figures.{numeral-digit, numeral-small}
use Rattle.cert_parser.proofs.StageWords.{first_byte}
use Rattle.cert_parser.proofs.Reaching.{number_reached, number_faulty, number_seen_faulty, LeavesAt, leaves_first, leaves_seen, deep_there}
use Rattle.cert_parser.proofs.Leaving.{IsDry, leaves_fresh, leaves_minus, leaves_zero}
use Rattle.cert_format.proofs.DeepStages.{deep_number, no_shallow_deep}
use Rattle.cert_format.proofs.StageMoves.{IsOver}
use Rattle.cert_parser.proofs.Bytes.{line_same, sort_is, behind_wordy, IsCounting, counting_is, is_counting, count_cases, IsSmall, HasFewCuts, few_cuts, kept_alike, abs-signed}

-- how much of a token has come, and the line, are no part of the place
pub same_place : (above : List Wait) (root : Tree) (cuts : List Cut) (r : Lines) (p : Part) (l n : ℕ) (spot : Spot) → place_of above root cuts (record r { part = p; line = l }) n spot ≡ place_of above root cuts r n spot
same_place above root cuts r p l n s.Bpcert = refl
same_place above root cuts r p l n s.Version = refl
same_place above root cuts r p l n s.FirstEnd = refl
same_place above root cuts r p l n s.Claim = refl
same_place above root cuts r p l n s.Kind = refl
same_place above root cuts r p l n s.OptimalValue = refl
same_place above root cuts r p l n s.InfeasibleEnd = refl
same_place above root cuts r p l n s.BoundValue = refl
same_place above root cuts r p l n s.AfterBound = refl
same_place above root cuts r p l n s.KnownValue = refl
same_place above root cuts r p l n s.ClaimEnd = refl
same_place above root cuts r p l n s.Point = refl
same_place above root cuts r p l n s.Values = refl
same_place above root cuts r p l n s.Coordinate = refl
same_place above root cuts r p l n s.FirstCut = refl
same_place above root cuts r p l n s.Cuts = refl
same_place above root cuts r p l n s.Divisor = refl
same_place above root cuts r p l n s.CutRows = refl
same_place above root cuts r p l n s.CutCount = refl
same_place above root cuts r p l n s.CutPairs = refl
same_place above root cuts r p l n s.CutRow = refl
same_place above root cuts r p l n s.CutGap = refl
same_place above root cuts r p l n s.CutMultiplier = refl
same_place above root cuts r p l n s.Node = refl
same_place above root cuts r p l n s.Scale = refl
same_place above root cuts r p l n s.Rows = refl
same_place above root cuts r p l n s.Count = refl
same_place above root cuts r p l n s.Pairs = refl
same_place above root cuts r p l n s.Row = refl
same_place above root cuts r p l n s.RowGap = refl
same_place above root cuts r p l n s.Multiplier = refl
same_place above root cuts r p l n s.Priced = refl
same_place above root cuts r p l n s.Blocks = refl
same_place above root cuts r p l n s.Block = refl
same_place above root cuts r p l n s.LeafEnd = refl
same_place above root cuts r p l n s.Variable = refl
same_place above root cuts r p l n s.VariableGap = refl
same_place above root cuts r p l n s.Place = refl
same_place above root cuts r p l n s.SplitEnd = refl
same_place above root cuts r p l n s.End = refl
same_place above root cuts r p l n s.LastEnd = refl
same_place above root cuts r p l n s.Over = refl

-- a digit
digit_low : (byte : ℕ) → is_digit byte ≡ true → (48 ≤ byte) × (byte ≤ 57)
digit_low byte is = ((grind (arith, nat_tests)), (grind (arith, nat_tests)))

pub no_digit : (byte : ℕ) → is_digit byte ≡ false → 48 ≤ byte → byte ≤ 57 → ⊥
no_digit byte is low high = grind (arith, nat_tests)

-- counts and lines behind one byte that ends no line
fits_more : (spot : Spot) (left count size more : ℕ) → size ≤ more → CountFits spot left count size → CountFits spot left count more
fits_more spot left count size more grows fits = ⊎_elim (λ same. inl same) (λ big. let a : 2 ^ 64 - 1 + slack spot ≤ left + more = let b : 2 ^ 64 - 1 + slack spot ≤ left + size = big.1 in omega arith in inr (big.0, a)) fits

pub counts_push : (above : List Wait) (cuts : List Cut) (r : Lines) (p : Part) (count : ℕ) (text : List ℕ) (byte : ℕ) → byte ≢ 10 → KeepsCounts above cuts r count text → KeepsCounts above cuts (record r { part = p }) count (text ++ byte ∷ [])
counts_push above cuts r p count text byte other k =
    let longer : length text ≤ length (text ++ byte ∷ []) = omega (arith, length-append text (byte ∷ [])) in
    let same = line_same text byte other in
    let first : text ≡ [] → line_behind (text ++ byte ∷ []) ≤ length (text ++ byte ∷ []) = λ none. let P : List ℕ → Type 0 = λ t. line_behind (t ++ byte ∷ []) ≤ length (t ++ byte ∷ []) in subst P (sym none) (one (line_same [] byte other)) in
    record {
      counted = fits_more r.spot r.left count (length text) (length (text ++ byte ∷ [])) longer k.counted;
      line = k.line ∙ sym same;
      short = inr (⊎_elim (λ begun. first begun.0) (λ few. let a : line_behind text ≤ length text = few in omega (arith, same, length-append text (byte ∷ []))) k.short);
      highs = record { depth = k.highs.depth; highs = k.highs.highs; cuts = k.highs.cuts; few = k.highs.few };
    } where
      one : line_behind (byte ∷ []) ≡ line_behind [] → line_behind (byte ∷ []) ≤ length (byte ∷ [])
      one e = let base : line_behind [] ≡ 1 = refl in omega arith

-- a reader that has no part of a token
pub fresh_between : (above : List Wait) (root : Tree) (cuts : List Cut) (frame : Frame) (r : Lines) (text : List ℕ) → StandsFor above root cuts frame r text → r.part ≡ Fresh → Between above root cuts frame r false text
fresh_between above root cuts frame r text stands is =
    let P : Part → Type 0 = λ p. IsPart (frame_of frame) (stage_of above root cuts r stands.count) p text in
    record { count = stands.count; counts = stands.counts; reached = subst P is stands.part; worded = λ e. absurd (true≢false (sym e)); going = λ e. absurd (true≢false (sym e)) }

-- where a number may come, none stands before
unnumbered : (above : List Wait) (root : Tree) (cuts : List Cut) (frame : Frame) (r : Lines) (number : Bool) (text : List ℕ) (between : Between above root cuts frame r number text) (z : ℤ) → IsOfSort (sort (stage_of above root cuts r between.count)) z → Reached (frame_of frame) (stage_of above root cuts r between.count) false text
unnumbered above root cuts frame r true text between z of_sort = let P : Sort → Type 0 = λ t. IsOfSort t z in absurd (subst P (between.worded refl) of_sort)
unnumbered above root cuts frame r false text between z of_sort = between.reached

-- a reader's place with another part of a token
place_part : (above : List Wait) (root : Tree) (cuts : List Cut) (r : Lines) (p : Part) (n : ℕ) → stage_of above root cuts (record r { part = p }) n ≡ stage_of above root cuts r n
place_part above root cuts r p n = same_place above root cuts r p r.line n r.spot

-- the first digit of a number
pub digits_begun : (above : List Wait) (root : Tree) (cuts : List Cut) (frame : Frame) (r : Lines) (number : Bool) (text : List ℕ) (byte : ℕ) (between : Between above root cuts frame r number text) → is_digit byte ≡ true → IsOfSort (sort (stage_of above root cuts r between.count)) (pos (byte - 48)) → is_deep_stage (frame_of frame) (stage_of above root cuts r between.count) ≡ false → StandsFor above root cuts frame (record r { part = Digits false (byte - 48) }) (text ++ byte ∷ [])
digits_begun above root cuts frame r number text byte between digit of_sort shallow =
    let range = digit_low byte digit in
    let low : 48 ≤ byte = range.0 in
    let high : byte ≤ 57 = range.1 in
    let few : byte - 48 < 10 = omega arith in
    let back : 48 + (byte - 48) ≡ byte = omega arith in
    let small : byte - 48 ≡ min (byte - 48) (2 ^ 64 - 1) = omega arith in
    let other : byte ≢ 10 = λ e. omega arith in
    let bytes : text ++ byte ∷ [] ≡ text ++ numeral (byte - 48) = ap (λ (xs : List ℕ). text ++ xs) (ap (λ (k : ℕ). k ∷ []) (sym back) ∙ sym (numeral-small (byte - 48) few)) in
    let P : Stage → Type 0 = λ stage. IsInNumber (frame_of frame) stage false (byte - 48) (text ++ byte ∷ []) in
    record {
      count = between.count;
      counts = counts_push above cuts r (Digits false (byte - 48)) between.count text byte other between.counts;
      part = subst P (sym (place_part above root cuts r (Digits false (byte - 48)) between.count)) (record {
        done = text;
        reached = unnumbered above root cuts frame r number text between (pos (byte - 48)) of_sort;
        number = byte - 48;
        of_sort = of_sort;
        shallow = shallow;
        positive = λ e. absurd (true≢false (sym e));
        kept = small;
        bytes = bytes;
        lines = line_same text byte other;
      });
    }

minus_line : (byte : ℕ) → byte ≡ 45 → byte ≢ 10
minus_line byte is = λ e. omega arith

-- a minus
pub minus_begun : (above : List Wait) (root : Tree) (cuts : List Cut) (frame : Frame) (r : Lines) (number : Bool) (text : List ℕ) (between : Between above root cuts frame r number text) → sort (stage_of above root cuts r between.count) ≡ Whole → is_deep_stage (frame_of frame) (stage_of above root cuts r between.count) ≡ false → StandsFor above root cuts frame (record r { part = Minus }) (text ++ 45 ∷ [])
minus_begun above root cuts frame r number text between is_whole shallow =
    let other : 45 ≢ 10 = minus_line 45 refl in
    let Q : Sort → Type 0 = λ t. IsOfSort t (negsuc 0) in
    let P : Stage → Type 0 = λ stage. IsBehindMinus (frame_of frame) stage (text ++ 45 ∷ []) in
    record {
      count = between.count;
      counts = counts_push above cuts r Minus between.count text 45 other between.counts;
      part = subst P (sym (place_part above root cuts r Minus between.count)) (record { done = text; reached = unnumbered above root cuts frame r number text between (negsuc 0) (subst Q (sym is_whole) tt); of_sort = is_whole; shallow = shallow; bytes = refl; lines = line_same text 45 other });
    }

-- no token begins with the byte
pub syntax_between : (above : List Wait) (root : Tree) (cuts : List Cut) (frame : Frame) (r : Lines) (number : Bool) (text : List ℕ) (byte line : ℕ) (between : Between above root cuts frame r number text) → MayStand number (byte ∷ [])
    → ((v : Word) → Comes v (words (stage_of above root cuts r between.count)) → word_begins v byte ≡ false)
    → ((z : ℤ) → IsOfSort (sort (stage_of above root cuts r between.count)) z → (48 ≤ byte → byte ≤ 57 → ⊥) × ((m : ℕ) → z ≡ negsuc m → byte ≢ 45)) → ((more : List ℕ) → IsDry (frame_of frame) (stage_of above root cuts r between.count) (byte ∷ more)) → line ≡ r.line
    → IsSeenFault (frame_of frame) (text ++ byte ∷ []) line Syntax
syntax_between above root cuts frame r number text byte line between may no_word no_number dry at_line =
    let stage = stage_of above root cuts r between.count in
    let P : ℕ → Type 0 = λ l. IsSeenFault (frame_of frame) (text ++ byte ∷ []) l Syntax in
    subst P (sym (at_line ∙ between.counts.line))
    (leaves_seen (frame_of frame) (text ++ byte ∷ []) [] byte (line_behind text)
    (λ more. leaves_fresh (frame_of frame) stage number text (byte ∷ []) more between.reached may (λ none. cc)
    (λ v here e. differs v (no_word v here) (sym e))
    (λ z of_sort. let n = no_number z of_sort in (n.0, λ m is. n.1 m is))
    (λ d o none. cc) (dry more))) where
      differs : (v : Word) → word_begins v byte ≡ false → first_byte v ≡ byte → ⊥
      differs v none same = grind (arith, nat_tests)

-- the text of a number with a sign
pub signed_text : (negative : Bool) (n : ℕ) → (IsTrue negative → 0 < n) → signed_numeral (signed negative n) ≡ (if negative then 45 ∷ numeral n else numeral n)
signed_text false n positive = refl
signed_text true zero positive = absurd (let none : 0 < 0 = positive refl in omega arith)
signed_text true (suc n) positive = let e : n + 1 ≡ suc n = omega arith in ap (λ (k : ℕ). 45 ∷ numeral k) e

-- a reader within a number
number_part : (above : List Wait) (root : Tree) (cuts : List Cut) (frame : Frame) (r : Lines) (text : List ℕ) (negative : Bool) (value : ℕ) (stands : StandsFor above root cuts frame r text) → r.part ≡ Digits negative value → IsInNumber (frame_of frame) (stage_of above root cuts r stands.count) negative value text
number_part above root cuts frame r text negative value stands is = let P : Part → Type 0 = λ p. IsPart (frame_of frame) (stage_of above root cuts r stands.count) p text in subst P is stands.part

-- a digit behind a 0, by the sign
zero_by : (frame : Frame) (stage : Stage) (text done : List ℕ) (negative : Bool) (n byte line : ℕ) → n ≡ 0 → (IsTrue negative → 0 < n) → IsOfSort (sort stage) (signed negative n) → is_deep_stage (frame_of frame) stage ≡ false → text ≡ done ++ signed_numeral (signed negative n)
    → Reached (frame_of frame) stage false done → (48 ≤ byte) × (byte ≤ 57) → line ≡ line_behind text → IsSeenFault (frame_of frame) (text ++ byte ∷ []) line Syntax
zero_by frame stage text done true n byte line e positive of_sort shallow bytes reached digit at_line = let some : 0 < n = positive refl in absurd (omega arith)
zero_by frame stage text done false n byte line e positive of_sort shallow bytes reached digit at_line =
    let small : 0 < 10 = omega arith in
    let zero_text : text ≡ done ++ 48 ∷ [] = bytes ∙ ap (λ (xs : List ℕ). done ++ xs) (ap numeral e ∙ numeral-small 0 small) in
    let whole : text ++ byte ∷ [] ≡ done ++ 48 ∷ byte ∷ [] = ap (λ (xs : List ℕ). xs ++ byte ∷ []) zero_text ∙ append_assoc done (48 ∷ []) (byte ∷ []) in
    let at_zero : line ≡ line_behind (done ++ 48 ∷ []) = at_line ∙ ap line_behind zero_text in
    let Q : ℕ → Type 0 = λ k. IsOfSort (sort stage) (pos k) in
    let P : List ℕ → Type 0 = λ t. IsSeenFault (frame_of frame) t line Syntax in
    let L : ℕ → Type 0 = λ l. IsSeenFault (frame_of frame) (done ++ 48 ∷ byte ∷ []) l Syntax in
    subst P (sym whole) (subst L (sym at_zero) (leaves_seen (frame_of frame) (done ++ 48 ∷ byte ∷ []) [] byte (line_behind (done ++ 48 ∷ [])) (λ more. leaves_zero (frame_of frame) stage done byte [] more reached (subst Q e of_sort) shallow digit)))

-- a digit behind a 0
pub zero_digit : (above : List Wait) (root : Tree) (cuts : List Cut) (frame : Frame) (r : Lines) (text : List ℕ) (negative : Bool) (value byte line : ℕ) → StandsFor above root cuts frame r text → r.part ≡ Digits negative value → value ≡ 0 → is_digit byte ≡ true → line ≡ r.line → IsSeenFault (frame_of frame) (text ++ byte ∷ []) line Syntax
zero_digit above root cuts frame r text negative value byte line stands is none digit at_line =
    let part = number_part above root cuts frame r text negative value stands is in
    let zero_is : part.number ≡ 0 = zero_kept part.number part.kept in
    zero_by frame (stage_of above root cuts r stands.count) text part.done negative part.number byte line zero_is part.positive part.of_sort part.shallow part.bytes part.reached (digit_low byte digit) (at_line ∙ stands.counts.line) where
      zero_kept : (n : ℕ) → value ≡ min n (2 ^ 64 - 1) → n ≡ 0
      zero_kept n kept = omega arith

-- one digit more, by the sign
digit_text : (negative : Bool) (n d : ℕ) → 0 < n → d < 10 → signed_numeral (signed negative n) ++ (48 + d) ∷ [] ≡ signed_numeral (signed negative (10 * n + d))
digit_text negative n d some few =
    let more : 0 < 10 * n + d = omega arith in
    ap (λ (xs : List ℕ). xs ++ (48 + d) ∷ []) (signed_text negative n (λ _. some)) ∙ by_sign negative ∙ sym (signed_text negative (10 * n + d) (λ _. more)) where
      plain : numeral n ++ (48 + d) ∷ [] ≡ numeral (10 * n + d)
      plain = numeral-digit n d [] some few ∙ append-nil (numeral (10 * n + d))

      by_sign : (negative : Bool) → (if negative then 45 ∷ numeral n else numeral n) ++ (48 + d) ∷ [] ≡ (if negative then 45 ∷ numeral (10 * n + d) else numeral (10 * n + d))
      by_sign true = ap (λ (xs : List ℕ). 45 ∷ xs) plain
      by_sign false = plain

-- a number's sort doesn't tell its size
of_size : (t : Sort) (negative : Bool) (m n : ℕ) → 0 < m → IsOfSort t (signed negative m) → IsOfSort t (signed negative n)
of_size Wordy negative m n some is = absurd is
of_size Whole negative m n some is = tt
of_size Natural false m n some is = refl
of_size Natural true zero n some is = absurd (omega arith)
of_size Natural true (suc m) n some is = absurd (cc)

-- a number that is kept up to the greatest one, with one digit more
saturates : (n d value next : ℕ) → value ≡ min n (2 ^ 64 - 1) → next ≡ min (min (value * 10) (2 ^ 64 - 1) + d) (2 ^ 64 - 1) → next ≡ min (10 * n + d) (2 ^ 64 - 1)
saturates n d value next kept next_is = omega arith

-- one digit more
pub digits_more : (above : List Wait) (root : Tree) (cuts : List Cut) (frame : Frame) (r : Lines) (text : List ℕ) (negative : Bool) (value byte next : ℕ) → StandsFor above root cuts frame r text → r.part ≡ Digits negative value → 0 < value → is_digit byte ≡ true
    → next ≡ min (min (value * 10) (2 ^ 64 - 1) + (byte - 48)) (2 ^ 64 - 1) → StandsFor above root cuts frame (record r { part = Digits negative next }) (text ++ byte ∷ [])
digits_more above root cuts frame r text negative value byte next stands is some digit next_is =
    let part = number_part above root cuts frame r text negative value stands is in
    let range = digit_low byte digit in
    let low : 48 ≤ byte = range.0 in
    let high : byte ≤ 57 = range.1 in
    let few : byte - 48 < 10 = omega arith in
    let back : 48 + (byte - 48) ≡ byte = omega arith in
    let other : byte ≢ 10 = λ e. omega arith in
    let d = byte - 48 in
    let n = part.number in
    let positive : 0 < n = sizes n part.kept in
    let bytes : text ++ byte ∷ [] ≡ part.done ++ signed_numeral (signed negative (10 * n + d)) =
    ap (λ (xs : List ℕ). xs ++ byte ∷ []) part.bytes ∙ append_assoc part.done (signed_numeral (signed negative n)) (byte ∷ []) ∙ ap (λ (xs : List ℕ). part.done ++ xs) (ap (λ (k : ℕ). signed_numeral (signed negative n) ++ k ∷ []) (sym back) ∙ digit_text negative n d positive few) in
    let P : Stage → Type 0 = λ stage. IsInNumber (frame_of frame) stage negative next (text ++ byte ∷ []) in
    let large : 0 < 10 * n + d = omega arith in
    record {
      count = stands.count;
      counts = counts_push above cuts r (Digits negative next) stands.count text byte other stands.counts;
      part = subst P (sym (place_part above root cuts r (Digits negative next) stands.count)) (record {
        done = part.done;
        reached = part.reached;
        number = 10 * n + d;
        of_sort = of_size (sort (stage_of above root cuts r stands.count)) negative n (10 * n + d) positive part.of_sort;
        shallow = part.shallow;
        positive = λ _. large;
        kept = saturates n d value next part.kept next_is;
        bytes = bytes;
        lines = line_same text byte other ∙ part.lines;
      });
    } where
      sizes : (n : ℕ) → value ≡ min n (2 ^ 64 - 1) → 0 < n
      sizes n kept = omega arith

-- the first digit behind a minus
pub digit_behind_minus : (above : List Wait) (root : Tree) (cuts : List Cut) (frame : Frame) (r : Lines) (text : List ℕ) (byte : ℕ) → StandsFor above root cuts frame r text → r.part ≡ Minus → is_digit byte ≡ true → byte ≢ 48 → StandsFor above root cuts frame (record r { part = Digits true (byte - 48) }) (text ++ byte ∷ [])
digit_behind_minus above root cuts frame r text byte stands is digit positive_byte =
    let Q : Part → Type 0 = λ p. IsPart (frame_of frame) (stage_of above root cuts r stands.count) p text in
    let part : IsBehindMinus (frame_of frame) (stage_of above root cuts r stands.count) text = subst Q is stands.part in
    let range = digit_low byte digit in
    let low : 48 ≤ byte = range.0 in
    let high : byte ≤ 57 = range.1 in
    let few : byte - 48 < 10 = omega arith in
    let back : 48 + (byte - 48) ≡ byte = omega arith in
    let some : 0 < byte - 48 = omega arith in
    let small : byte - 48 ≡ min (byte - 48) (2 ^ 64 - 1) = omega arith in
    let other : byte ≢ 10 = λ e. omega arith in
    let d = byte - 48 in
    let digits : signed_numeral (signed true d) ≡ 45 ∷ byte ∷ [] = signed_text true d (λ _. some) ∙ ap (λ (xs : List ℕ). 45 ∷ xs) (numeral-small d few ∙ ap (λ (k : ℕ). k ∷ []) back) in
    let bytes : text ++ byte ∷ [] ≡ part.done ++ signed_numeral (signed true d) = ap (λ (xs : List ℕ). xs ++ byte ∷ []) part.bytes ∙ append_assoc part.done (45 ∷ []) (byte ∷ []) ∙ ap (λ (xs : List ℕ). part.done ++ xs) (sym digits) in
    let P : Stage → Type 0 = λ stage. IsInNumber (frame_of frame) stage true d (text ++ byte ∷ []) in
    let S : Sort → Type 0 = λ t. IsOfSort t (signed true d) in
    record {
      count = stands.count;
      counts = counts_push above cuts r (Digits true d) stands.count text byte other stands.counts;
      part = subst P (sym (place_part above root cuts r (Digits true d) stands.count)) (record {
        done = part.done;
        reached = part.reached;
        number = d;
        of_sort = subst S (sym part.of_sort) tt;
        shallow = part.shallow;
        positive = λ _. some;
        kept = small;
        bytes = bytes;
        lines = line_same text byte other ∙ part.lines;
      });
    }

-- no positive digit behind a minus
pub syntax_minus : (above : List Wait) (root : Tree) (cuts : List Cut) (frame : Frame) (r : Lines) (text : List ℕ) (byte line : ℕ) → StandsFor above root cuts frame r text → r.part ≡ Minus → (49 ≤ byte → byte ≤ 57 → ⊥) → line ≡ r.line → IsSeenFault (frame_of frame) (text ++ byte ∷ []) line Syntax
syntax_minus above root cuts frame r text byte line stands is other at_line =
    let Q : Part → Type 0 = λ p. IsPart (frame_of frame) (stage_of above root cuts r stands.count) p text in
    let part : IsBehindMinus (frame_of frame) (stage_of above root cuts r stands.count) text = subst Q is stands.part in
    let S : Sort → Type 0 = λ t. IsOfSort t (negsuc 0) in
    let whole : text ++ byte ∷ [] ≡ part.done ++ 45 ∷ byte ∷ [] = ap (λ (xs : List ℕ). xs ++ byte ∷ []) part.bytes ∙ append_assoc part.done (45 ∷ []) (byte ∷ []) in
    let at_minus : line ≡ line_behind (part.done ++ 45 ∷ []) = at_line ∙ stands.counts.line ∙ ap line_behind part.bytes in
    let P : List ℕ → Type 0 = λ t. IsSeenFault (frame_of frame) t line Syntax in
    let L : ℕ → Type 0 = λ l. IsSeenFault (frame_of frame) (part.done ++ 45 ∷ byte ∷ []) l Syntax in
    subst P (sym whole) (subst L (sym at_minus) (leaves_seen (frame_of frame) (part.done ++ 45 ∷ byte ∷ []) [] byte (line_behind (part.done ++ 45 ∷ []))
    (λ more. leaves_minus (frame_of frame) (stage_of above root cuts r stands.count) part.done (byte ∷ []) more part.reached (subst S (sym part.of_sort) tt) other (λ none. cc))))

-- a place where no number comes of a node that is too deep
pub shallow_dry : (above : List Wait) (root : Tree) (cuts : List Cut) (frame : Frame) (r : Lines) (n byte : ℕ) → is_deep_stage (frame_of frame) (stage_of above root cuts r n) ≡ false → (more : List ℕ) → IsDry (frame_of frame) (stage_of above root cuts r n) (byte ∷ more)
shallow_dry above root cuts frame r n byte shallow more k x first begins = no_shallow_deep (frame_of frame) (stage_of above root cuts r n) k x first shallow

-- ---- the number of a node that is too deep

-- where it comes, no word does, and a number without a sign
deep_words : (frame : Frame) (stage : Stage) (v : Word) → is_deep_stage (frame_of frame) stage ≡ true → Comes v (words stage) → ⊥
deep_words frame stage v is comes = let P : List (Word × Stage) → Type 0 = Comes v in subst P (deep_number (frame_of frame) stage is).1 comes

deep_plain : (frame : Frame) (stage : Stage) (z : ℤ) (m : ℕ) → is_deep_stage (frame_of frame) stage ≡ true → IsOfSort (sort stage) z → z ≡ negsuc m → ⊥
deep_plain frame stage z m is of_sort minus =
    let P : Sort → Type 0 = λ t. IsOfSort t z in
    let plain : z ≡ pos (nat_abs z) = subst P (deep_number (frame_of frame) stage is).2 of_sort in
    let wrong : negsuc m ≡ pos (nat_abs z) = sym minus ∙ plain in cc

-- where it comes, no number stands before
deep_unnumbered : (above : List Wait) (root : Tree) (cuts : List Cut) (frame : Frame) (r : Lines) (number : Bool) (text : List ℕ) (between : Between above root cuts frame r number text) → is_deep_stage (frame_of frame) (stage_of above root cuts r between.count) ≡ true → Reached (frame_of frame) (stage_of above root cuts r between.count) false text
deep_unnumbered above root cuts frame r number text between is =
    let P : Sort → Type 0 = λ t. IsOfSort t (pos 0) in
    unnumbered above root cuts frame r number text between (pos 0) (subst P (sym (deep_number (frame_of frame) (stage_of above root cuts r between.count) is).2) refl)

-- its first digit
pub deep_digit : (above : List Wait) (root : Tree) (cuts : List Cut) (frame : Frame) (r : Lines) (number : Bool) (text : List ℕ) (byte line : ℕ) (kind : Kind) (between : Between above root cuts frame r number text) → is_deep_stage (frame_of frame) (stage_of above root cuts r between.count) ≡ true → is_digit byte ≡ true
    → kind ≡ deep_kind (stage_of above root cuts r between.count) → line ≡ r.line → IsSeenFault (frame_of frame) (text ++ byte ∷ []) line kind
deep_digit above root cuts frame r number text byte line kind between is digit of_kind at_line =
    let stage = stage_of above root cuts r between.count in
    let P : Kind → Type 0 = λ k. IsSeenFault (frame_of frame) (text ++ byte ∷ []) line k in
    subst P (sym of_kind) (inr (inl (deep_there (frame_of frame) stage text (byte ∷ []) line (deep_unnumbered above root cuts frame r number text between is) is (inl (digit_low byte digit)) (at_line ∙ between.counts.line))))

-- a minus in front of it
pub deep_minus_begun : (above : List Wait) (root : Tree) (cuts : List Cut) (frame : Frame) (r : Lines) (number : Bool) (text : List ℕ) (between : Between above root cuts frame r number text) → is_deep_stage (frame_of frame) (stage_of above root cuts r between.count) ≡ true → StandsFor above root cuts frame (record r { part = DeepMinus }) (text ++ 45 ∷ [])
deep_minus_begun above root cuts frame r number text between is =
    let other : 45 ≢ 10 = minus_line 45 refl in
    let P : Stage → Type 0 = λ stage. IsBehindDeepMinus (frame_of frame) stage (text ++ 45 ∷ []) in
    record {
      count = between.count;
      counts = counts_push above cuts r DeepMinus between.count text 45 other between.counts;
      part = subst P (sym (place_part above root cuts r DeepMinus between.count)) (record { done = text; reached = deep_unnumbered above root cuts frame r number text between is; deep = is; bytes = refl; lines = line_same text 45 other });
    }

-- neither a digit nor a minus
pub deep_other : (above : List Wait) (root : Tree) (cuts : List Cut) (frame : Frame) (r : Lines) (number : Bool) (text : List ℕ) (byte line : ℕ) (between : Between above root cuts frame r number text) → is_deep_stage (frame_of frame) (stage_of above root cuts r between.count) ≡ true → MayStand number (byte ∷ [])
    → (48 ≤ byte → byte ≤ 57 → ⊥) → byte ≢ 45 → line ≡ r.line → IsSeenFault (frame_of frame) (text ++ byte ∷ []) line Syntax
deep_other above root cuts frame r number text byte line between is may no_digit no_minus at_line =
    let stage = stage_of above root cuts r between.count in
    syntax_between above root cuts frame r number text byte line between may
    (λ v comes. absurd (deep_words frame stage v is comes))
    (λ z of_sort. (no_digit, λ m minus. absurd (deep_plain frame stage z m is of_sort minus)))
    (λ more k x first begins. ⊎_elim (λ digit. no_digit digit.0 digit.1) (λ minus. no_minus minus.0) begins)
    at_line

deep_minus_part : (above : List Wait) (root : Tree) (cuts : List Cut) (frame : Frame) (r : Lines) (text : List ℕ) (stands : StandsFor above root cuts frame r text) → r.part ≡ DeepMinus → IsBehindDeepMinus (frame_of frame) (stage_of above root cuts r stands.count) text
deep_minus_part above root cuts frame r text stands is = let Q : Part → Type 0 = λ p. IsPart (frame_of frame) (stage_of above root cuts r stands.count) p text in subst Q is stands.part

-- a digit behind the minus
pub deep_minus_digit : (above : List Wait) (root : Tree) (cuts : List Cut) (frame : Frame) (r : Lines) (text : List ℕ) (byte line : ℕ) (kind : Kind) (stands : StandsFor above root cuts frame r text) → r.part ≡ DeepMinus → is_digit byte ≡ true
    → kind ≡ deep_kind (stage_of above root cuts r stands.count) → line ≡ r.line → IsSeenFault (frame_of frame) (text ++ byte ∷ []) line kind
deep_minus_digit above root cuts frame r text byte line kind stands is digit of_kind at_line =
    let part = deep_minus_part above root cuts frame r text stands is in
    let stage = stage_of above root cuts r stands.count in
    let whole : text ++ byte ∷ [] ≡ part.done ++ 45 ∷ byte ∷ [] = ap (λ (xs : List ℕ). xs ++ byte ∷ []) part.bytes ∙ append_assoc part.done (45 ∷ []) (byte ∷ []) in
    let K : Kind → Type 0 = λ k. IsSeenFault (frame_of frame) (text ++ byte ∷ []) line k in
    let P : List ℕ → Type 0 = λ t. HasDeepNumber (frame_of frame) t line (deep_kind stage) in
    subst K (sym of_kind) (inr (inl (subst P (sym whole)
    (deep_there (frame_of frame) stage part.done (45 ∷ byte ∷ []) line part.reached part.deep (inr (refl, digit_low byte digit)) (at_line ∙ stands.counts.line ∙ part.lines)))))

-- the text goes on with no digit behind the minus, or ends
pub deep_minus_leaves : (above : List Wait) (root : Tree) (cuts : List Cut) (frame : Frame) (r : Lines) (text : List ℕ) (stands : StandsFor above root cuts frame r text) (part : IsBehindDeepMinus (frame_of frame) (stage_of above root cuts r stands.count) text) (rest more : List ℕ)
    → (BeginsDigit (rest ++ more) → ⊥) → LeavesAt (frame_of frame) (part.done ++ 45 ∷ rest) (line_behind part.done) (45 ∷ rest) more
deep_minus_leaves above root cuts frame r text stands part rest more none =
    let stage = stage_of above root cuts r stands.count in
    leaves_fresh (frame_of frame) stage false part.done (45 ∷ rest) more part.reached tt (λ e. cc)
    (λ v comes. absurd (deep_words frame stage v part.deep comes))
    (λ z of_sort. ((λ low high. omega arith), λ m minus. absurd (deep_plain frame stage z m part.deep of_sort minus)))
    (λ d o e. cc)
    (λ k x first begins. ⊎_elim (λ digit. let low : 48 ≤ 45 = digit.0 in omega arith) (λ minus. none minus.1) begins)

pub deep_minus_other : (above : List Wait) (root : Tree) (cuts : List Cut) (frame : Frame) (r : Lines) (text : List ℕ) (byte line : ℕ) → StandsFor above root cuts frame r text → r.part ≡ DeepMinus → (48 ≤ byte → byte ≤ 57 → ⊥) → line ≡ r.line → IsSeenFault (frame_of frame) (text ++ byte ∷ []) line Syntax
deep_minus_other above root cuts frame r text byte line stands is other at_line =
    let part = deep_minus_part above root cuts frame r text stands is in
    let whole : text ++ byte ∷ [] ≡ part.done ++ 45 ∷ byte ∷ [] = ap (λ (xs : List ℕ). xs ++ byte ∷ []) part.bytes ∙ append_assoc part.done (45 ∷ []) (byte ∷ []) in
    let P : List ℕ → Type 0 = λ t. IsSeenFault (frame_of frame) t line Syntax in
    let L : ℕ → Type 0 = λ l. IsSeenFault (frame_of frame) (part.done ++ 45 ∷ byte ∷ []) l Syntax in
    subst P (sym whole) (subst L (sym (at_line ∙ stands.counts.line ∙ part.lines))
    (leaves_seen (frame_of frame) (part.done ++ 45 ∷ byte ∷ []) (byte ∷ []) 45 (line_behind part.done)
    (λ more. deep_minus_leaves above root cuts frame r text stands part (byte ∷ []) more (λ digit. other digit.0 digit.1))))

-- the text ends behind the minus
pub cut_deep_minus : (above : List Wait) (root : Tree) (cuts : List Cut) (frame : Frame) (r : Lines) (text : List ℕ) (line : ℕ) → StandsFor above root cuts frame r text → r.part ≡ DeepMinus → line ≡ r.line → IsFirstCertFault (frame_of frame) text line Syntax
cut_deep_minus above root cuts frame r text line stands is at_line =
    let part = deep_minus_part above root cuts frame r text stands is in
    let P : List ℕ → Type 0 = λ t. IsFirstCertFault (frame_of frame) t line Syntax in
    let L : ℕ → Type 0 = λ l. IsFirstCertFault (frame_of frame) (part.done ++ 45 ∷ []) l Syntax in
    subst P (sym part.bytes) (subst L (sym (at_line ∙ stands.counts.line ∙ part.lines))
    (leaves_first (frame_of frame) (part.done ++ 45 ∷ []) (45 ∷ []) (line_behind part.done) (deep_minus_leaves above root cuts frame r text stands part [] [] (λ digit. digit))))

-- what is kept of a number is of its sort
of_kept : (t : Sort) (negative : Bool) (n value : ℕ) → value ≡ min n (2 ^ 64 - 1) → IsOfSort t (signed negative n) → IsOfSort t (signed negative value)
of_kept Wordy negative n value kept is = absurd is
of_kept Whole negative n value kept is = tt
of_kept Natural false n value kept is = refl
of_kept Natural true zero value kept is = let none : value ≡ 0 = omega arith in let P : ℕ → Type 0 = λ k. IsOfSort Natural (signed true k) in subst P (sym none) refl
of_kept Natural true (suc n) value kept is = absurd (cc)

-- a number of pairs or blocks has no sign
counting_sort : (stage : Stage) (z : ℤ) → IsCounting stage → IsOfSort (sort stage) z → z ≡ pos (nat_abs z)
counting_sort at_bpcert z counts of_sort = absurd counts
counting_sort at_version z counts of_sort = absurd counts
counting_sort (at_first_end v) z counts of_sort = absurd counts
counting_sort (at_claim v) z counts of_sort = absurd counts
counting_sort (at_kind v) z counts of_sort = absurd counts
counting_sort (at_optimal v) z counts of_sort = absurd counts
counting_sort (infeasible_end v) z counts of_sort = absurd counts
counting_sort (at_bound v) z counts of_sort = absurd counts
counting_sort (after_bound v b) z counts of_sort = absurd counts
counting_sort (at_value v b) z counts of_sort = absurd counts
counting_sort (claim_end v k) z counts of_sort = absurd counts
counting_sort (at_point v k) z counts of_sort = absurd counts
counting_sort (at_values v k zs) z counts of_sort = absurd counts
counting_sort (at_coordinate v k zs) z counts of_sort = absurd counts
counting_sort (at_first_cut a ws) z counts of_sort = absurd counts
counting_sort (at_cuts a ws) z counts of_sort = absurd counts
counting_sort (at_node a ws) z counts of_sort = absurd counts
counting_sort (at_scale a ws o) z counts of_sort = absurd counts
counting_sort (at_rows a ws o s) z counts of_sort = absurd counts
counting_sort (at_count a ws o s) z counts of_sort = of_sort
counting_sort (at_pairs a ws o s ps last n) z counts of_sort = absurd counts
counting_sort (at_row a ws o s ps last n) z counts of_sort = absurd counts
counting_sort (row_gap a ws o s ps r n) z counts of_sort = absurd counts
counting_sort (at_multiplier a ws o s ps r n) z counts of_sort = absurd counts
counting_sort (at_priced a ws o s ps) z counts of_sort = of_sort
counting_sort (at_blocks a ws o s ps ks last n) z counts of_sort = absurd counts
counting_sort (at_block a ws o s ps ks last n) z counts of_sort = absurd counts
counting_sort (leaf_end a ws o p) z counts of_sort = absurd counts
counting_sort (at_variable a ws) z counts of_sort = absurd counts
counting_sort (variable_gap a ws i) z counts of_sort = absurd counts
counting_sort (at_place a ws i) z counts of_sort = absurd counts
counting_sort (split_end a ws i y) z counts of_sort = absurd counts
counting_sort (at_end a t) z counts of_sort = absurd counts
counting_sort (last_end a t) z counts of_sort = absurd counts
counting_sort (over a t) z counts of_sort = absurd counts

count_behind-le : (spot : Spot) (a b v : ℕ) → a ≤ b → count_behind spot a v ≤ count_behind spot b v
count_behind-le s.Bpcert a b v less = omega arith
count_behind-le s.Version a b v less = omega arith
count_behind-le s.FirstEnd a b v less = omega arith
count_behind-le s.Claim a b v less = omega arith
count_behind-le s.Kind a b v less = omega arith
count_behind-le s.OptimalValue a b v less = omega arith
count_behind-le s.InfeasibleEnd a b v less = omega arith
count_behind-le s.BoundValue a b v less = omega arith
count_behind-le s.AfterBound a b v less = omega arith
count_behind-le s.KnownValue a b v less = omega arith
count_behind-le s.ClaimEnd a b v less = omega arith
count_behind-le s.Point a b v less = omega arith
count_behind-le s.Values a b v less = omega arith
count_behind-le s.Coordinate a b v less = omega arith
count_behind-le s.FirstCut a b v less = omega arith
count_behind-le s.Cuts a b v less = omega arith
count_behind-le s.Divisor a b v less = omega arith
count_behind-le s.CutRows a b v less = omega arith
count_behind-le s.CutCount a b v less = omega arith
count_behind-le s.CutPairs a b v less = omega arith
count_behind-le s.CutRow a b v less = omega arith
count_behind-le s.CutGap a b v less = omega arith
count_behind-le s.CutMultiplier a b v less = omega arith
count_behind-le s.Node a b v less = omega arith
count_behind-le s.Scale a b v less = omega arith
count_behind-le s.Rows a b v less = omega arith
count_behind-le s.Count a b v less = omega arith
count_behind-le s.Pairs a b v less = omega arith
count_behind-le s.Row a b v less = omega arith
count_behind-le s.RowGap a b v less = omega arith
count_behind-le s.Multiplier a b v less = omega arith
count_behind-le s.Priced a b v less = omega arith
count_behind-le s.Blocks a b v less = omega arith
count_behind-le s.Block a b v less = omega arith
count_behind-le s.LeafEnd a b v less = omega arith
count_behind-le s.Variable a b v less = omega arith
count_behind-le s.VariableGap a b v less = omega arith
count_behind-le s.Place a b v less = omega arith
count_behind-le s.SplitEnd a b v less = omega arith
count_behind-le s.End a b v less = omega arith
count_behind-le s.LastEnd a b v less = omega arith
count_behind-le s.Over a b v less = omega arith

count_behind-count : (spot : Spot) (a v : ℕ) → IsCount spot → count_behind spot a v ≡ v
count_behind-count s.Bpcert a v is = absurd is
count_behind-count s.Version a v is = absurd is
count_behind-count s.FirstEnd a v is = absurd is
count_behind-count s.Claim a v is = absurd is
count_behind-count s.Kind a v is = absurd is
count_behind-count s.OptimalValue a v is = absurd is
count_behind-count s.InfeasibleEnd a v is = absurd is
count_behind-count s.BoundValue a v is = absurd is
count_behind-count s.AfterBound a v is = absurd is
count_behind-count s.KnownValue a v is = absurd is
count_behind-count s.ClaimEnd a v is = absurd is
count_behind-count s.Point a v is = absurd is
count_behind-count s.Values a v is = absurd is
count_behind-count s.Coordinate a v is = absurd is
count_behind-count s.FirstCut a v is = absurd is
count_behind-count s.Cuts a v is = absurd is
count_behind-count s.Divisor a v is = absurd is
count_behind-count s.CutRows a v is = absurd is
count_behind-count s.CutCount a v is = refl
count_behind-count s.CutPairs a v is = absurd is
count_behind-count s.CutRow a v is = absurd is
count_behind-count s.CutGap a v is = absurd is
count_behind-count s.CutMultiplier a v is = absurd is
count_behind-count s.Node a v is = absurd is
count_behind-count s.Scale a v is = absurd is
count_behind-count s.Rows a v is = absurd is
count_behind-count s.Count a v is = refl
count_behind-count s.Pairs a v is = absurd is
count_behind-count s.Row a v is = absurd is
count_behind-count s.RowGap a v is = absurd is
count_behind-count s.Multiplier a v is = absurd is
count_behind-count s.Priced a v is = refl
count_behind-count s.Blocks a v is = absurd is
count_behind-count s.Block a v is = absurd is
count_behind-count s.LeafEnd a v is = absurd is
count_behind-count s.Variable a v is = absurd is
count_behind-count s.VariableGap a v is = absurd is
count_behind-count s.Place a v is = absurd is
count_behind-count s.SplitEnd a v is = absurd is
count_behind-count s.End a v is = absurd is
count_behind-count s.LastEnd a v is = absurd is
count_behind-count s.Over a v is = absurd is

-- the counts behind a number that is no count
fits_behind : (old new : Spot) (left next count size v : ℕ) → next ≡ count_behind old left v → slack new + left ≤ slack old + next → CountFits old left count size → CountFits new next (count_behind old count v) size
fits_behind old new left next count size v is paced fits = ⊎_elim
    (λ same. inl (is ∙ ap (λ (k : ℕ). count_behind old k v) same))
    (λ big.
    let less : next ≤ count_behind old count v = let e = count_behind-le old left count v big.0 in omega arith in
    let room : 2 ^ 64 - 1 + slack new ≤ next + size = let b : 2 ^ 64 - 1 + slack old ≤ left + size = big.1 in omega arith in
    inr (less, room))
    fits

-- the counts behind a count
fits_count : (new : Spot) (next n value size : ℕ) → next ≡ value → slack new ≡ 0 → value ≡ min n (2 ^ 64 - 1) → CountFits new next n size
fits_count new next n value size is none kept = ⊎_elim
    (λ few. let same : next ≡ n = omega arith in inl same)
    (λ many. let less : next ≤ n = omega arith in let room : 2 ^ 64 - 1 + slack new ≤ next + size = omega arith in inr (less, room))
    (cases_lt n (2 ^ 64))

-- a number may not come first
not_first_number : (above : List Wait) (root : Tree) (cuts : List Cut) (r : Lines) (n : ℕ) (spot : Spot) (z : ℤ) → IsOfSort (sort (place_of above root cuts r n spot)) z → spot ≡ s.Bpcert → ⊥
not_first_number above root cuts r n spot z of_sort is = let P : Spot → Type 0 = λ x. IsOfSort (sort (place_of above root cuts r n x)) z in subst P is of_sort

-- no more cuts have come than may be
few_there : (above : List Wait) (root : Tree) (cuts : List Cut) (r : Lines) (n : ℕ) → HasHighs above cuts r → HasFewCuts (stage_of above root cuts r n)
few_there above root cuts r n highs = few_cuts above root cuts r n r.spot (omega (arith, highs.cuts, highs.few))

-- a reader behind a faultless number
pub number_ends : (above : List Wait) (root : Tree) (cuts : List Cut) (frame : Frame) (old new : Lines) (text : List ℕ) (negative : Bool) (value : ℕ) → IsSmall (frame_of frame) → StandsFor above root cuts frame old text → old.part ≡ Digits negative value
    → ((n : ℕ) → number_fault (frame_of frame) (stage_of above root cuts old n) (signed negative value) ≡ None) → IsBehind old new (signed negative value) value → Between above root cuts frame new true text
number_ends above root cuts frame old new text negative value small stands is none moved =
    let part = number_part above root cuts frame old text negative value stands is in
    let stage = stage_of above root cuts old stands.count in
    let of_value = of_kept (sort stage) negative part.number value part.kept part.of_sort in
    let alike = kept_alike (frame_of frame) stage negative part.number value small (few_there above root cuts old stands.count stands.counts.highs) part.of_sort of_value part.kept in
    let clean : number_fault (frame_of frame) stage (signed negative part.number) ≡ None = alike.0 ∙ none stands.count in
    let there = number_reached (frame_of frame) stage part.done (signed negative part.number) part.reached part.of_sort clean in
    let B : List ℕ → Type 0 = λ t. Reached (frame_of frame) (behind_number stage (signed negative part.number)) true t in
    let reached = subst B (sym part.bytes) there in
    let wordy = behind_wordy stage (signed negative part.number) part.of_sort in
    let begun : IsShort new.spot text = ⊎_elim (λ e. absurd (not_first_number above root cuts old stands.count old.spot (signed negative part.number) part.of_sort e.1)) (λ few. inr few) stands.counts.short in
    ⊎_elim
    (λ counts.
    let counting = is_counting above root cuts old stands.count old.spot counts in
    let plain : signed negative part.number ≡ pos part.number = counting_sort stage (signed negative part.number) counting part.of_sort ∙ ap pos (abs-signed negative part.number) in
    let place : stage_of above root cuts new part.number ≡ behind_number stage (signed negative part.number) = moved.counted above root cuts stands.count part.number counts ∙ ap (λ (z : ℤ). behind_number stage z) (sym plain) in
    let left : new.left ≡ value = moved.left ∙ count_behind-count old.spot old.left value counts in
    behind part.number place wordy reached begun (fits_count new.spot new.left part.number value (length text) left (moved.fresh counts) part.kept))
    (λ other.
    let same : part.number ≡ value = ⊎_elim (λ e. e) (λ counting. absurd (other (counting_is above root cuts old stands.count old.spot counting))) (alike.1 (none stands.count)) in
    let place : stage_of above root cuts new (count_behind old.spot stands.count value) ≡ behind_number stage (signed negative part.number) = moved.place above root cuts stands.count ∙ ap (λ (k : ℕ). behind_number stage (signed negative k)) (sym same) in
    behind (count_behind old.spot stands.count value) place wordy reached begun (fits_behind old.spot new.spot old.left new.left stands.count (length text) value moved.left (moved.paced other) stands.counts.counted))
    (count_cases old.spot) where
      behind : (count : ℕ) → {next : Stage} → stage_of above root cuts new count ≡ next → sort next ≡ Wordy → Reached (frame_of frame) next true text → IsShort new.spot text → CountFits new.spot new.left count (length text) → Between above root cuts frame new true text
      behind count {next} place wordy reached begun fits =
          let P : Stage → Type 0 = λ stage. Reached (frame_of frame) stage true text in
          record {
            count = count;
            counts = record { counted = fits; line = moved.line ∙ stands.counts.line; short = begun; highs = record { depth = moved.depth ∙ stands.counts.highs.depth; highs = moved.highs ∙ stands.counts.highs.highs; cuts = moved.cuts (length cuts) stands.counts.highs.cuts; few = moved.few stands.counts.highs.few } };
            reached = subst P (sym place) reached;
            worded = λ _. ap sort place ∙ wordy;
            going = λ _ e. moved.goes_on e;
          }

-- a faulty number behind which a byte comes
pub number_at_fault : (above : List Wait) (root : Tree) (cuts : List Cut) (frame : Frame) (old : Lines) (text : List ℕ) (negative : Bool) (value byte line : ℕ) (kind : Kind) → IsSmall (frame_of frame) → StandsFor above root cuts frame old text → old.part ≡ Digits negative value
    → ((n : ℕ) → number_fault (frame_of frame) (stage_of above root cuts old n) (signed negative value) ≡ Some kind) → is_digit byte ≡ false → line ≡ old.line → IsSeenFault (frame_of frame) (text ++ byte ∷ []) line kind
number_at_fault above root cuts frame old text negative value byte line kind small stands is fault other at_line =
    let part = number_part above root cuts frame old text negative value stands is in
    let stage = stage_of above root cuts old stands.count in
    let of_value = of_kept (sort stage) negative part.number value part.kept part.of_sort in
    let alike = kept_alike (frame_of frame) stage negative part.number value small (few_there above root cuts old stands.count stands.counts.highs) part.of_sort of_value part.kept in
    let bytes : text ++ byte ∷ [] ≡ part.done ++ (signed_numeral (signed negative part.number) ++ byte ∷ []) = ap (λ (xs : List ℕ). xs ++ byte ∷ []) part.bytes ∙ append_assoc part.done (signed_numeral (signed negative part.number)) (byte ∷ []) in
    let P : List ℕ → Type 0 = λ t. IsSeenFault (frame_of frame) t line kind in
    subst P (sym bytes) (number_seen_faulty (frame_of frame) stage part.done [] byte (signed negative part.number) line kind part.reached part.of_sort (alike.0 ∙ fault stands.count) (no_digit byte other) (at_line ∙ stands.counts.line ∙ part.lines))

-- a faulty number with which the text ends
pub number_at_end : (above : List Wait) (root : Tree) (cuts : List Cut) (frame : Frame) (old : Lines) (text : List ℕ) (negative : Bool) (value line : ℕ) (kind : Kind) → IsSmall (frame_of frame) → StandsFor above root cuts frame old text → old.part ≡ Digits negative value
    → ((n : ℕ) → number_fault (frame_of frame) (stage_of above root cuts old n) (signed negative value) ≡ Some kind) → line ≡ old.line → IsFirstCertFault (frame_of frame) text line kind
number_at_end above root cuts frame old text negative value line kind small stands is fault at_line =
    let part = number_part above root cuts frame old text negative value stands is in
    let stage = stage_of above root cuts old stands.count in
    let of_value = of_kept (sort stage) negative part.number value part.kept part.of_sort in
    let alike = kept_alike (frame_of frame) stage negative part.number value small (few_there above root cuts old stands.count stands.counts.highs) part.of_sort of_value part.kept in
    let bytes : text ≡ part.done ++ (signed_numeral (signed negative part.number) ++ []) = part.bytes ∙ ap (λ (xs : List ℕ). part.done ++ xs) (sym (append-nil (signed_numeral (signed negative part.number)))) in
    let P : List ℕ → Type 0 = λ t. IsFirstCertFault (frame_of frame) t line kind in
    subst P (sym bytes) (number_faulty (frame_of frame) stage part.done [] (signed negative part.number) line kind part.reached part.of_sort (alike.0 ∙ fault stands.count) tt (at_line ∙ stands.counts.line ∙ part.lines))

-- a number of a natural sort has no sign
plain_value : (negative : Bool) (n value : ℕ) → value ≡ min n (2 ^ 64 - 1) → signed negative n ≡ pos (nat_abs (signed negative n)) → signed negative value ≡ pos value
plain_value false n value kept is = refl
plain_value true zero value kept is = let none : value ≡ 0 = omega arith in let P : ℕ → Type 0 = λ k. signed true k ≡ pos k in subst P (sym none) refl
plain_value true (suc n) value kept is = absurd (cc)

plain_sign : (above : List Wait) (root : Tree) (cuts : List Cut) (frame : Frame) (old : Lines) (text : List ℕ) (negative : Bool) (value : ℕ) → StandsFor above root cuts frame old text → old.part ≡ Digits negative value → spot_sort old.spot ≡ Natural → signed negative value ≡ pos value
plain_sign above root cuts frame old text negative value stands is natural =
    let part = number_part above root cuts frame old text negative value stands is in
    let P : Sort → Type 0 = λ t. IsOfSort t (signed negative part.number) in
    plain_value negative part.number value part.kept (subst P (sort_is above root cuts old stands.count old.spot ∙ natural) part.of_sort)

-- what a reader does at the end of a number, from what it does with the number
pub natural_behind : (above : List Wait) (root : Tree) (cuts : List Cut) (frame : Frame) (old new : Lines) (text : List ℕ) (negative : Bool) (value byte : ℕ) (result : Result (Unit {0}) CertFault) → IsSmall (frame_of frame) → StandsFor above root cuts frame old text → old.part ≡ Digits negative value → spot_sort old.spot ≡ Natural
    → TakesNatural (frame_of frame) old new value result → is_digit byte ≡ false → EndsNumberAt above root cuts frame new text byte result
natural_behind above root cuts frame old new text negative value byte (Ok u) small stands is natural takes other = let p = plain_sign above root cuts frame old text negative value stands is natural in
    let F : ℤ → Type 0 = λ z. ((n : ℕ) → number_fault (frame_of frame) (stage_of above root cuts old n) z ≡ None) in
    let G : ℤ → Type 0 = λ z. IsBehind old new z value in
    number_ends above root cuts frame old new text negative value small stands is (subst F (sym p) (λ n. takes.0 above root cuts n stands.counts.highs)) (subst G (sym p) takes.1)
natural_behind above root cuts frame old new text negative value byte (Err NoMemory) small stands is natural takes other = tt
natural_behind above root cuts frame old new text negative value byte (Err (At line kind)) small stands is natural takes other = let p = plain_sign above root cuts frame old text negative value stands is natural in
    let F : ℤ → Type 0 = λ z. ((n : ℕ) → number_fault (frame_of frame) (stage_of above root cuts old n) z ≡ Some kind) in
    number_at_fault above root cuts frame old text negative value byte line kind small stands is (subst F (sym p) (λ n. takes.1 above root cuts n stands.counts.highs)) other takes.0

pub whole_behind : (above : List Wait) (root : Tree) (cuts : List Cut) (frame : Frame) (old new : Lines) (text : List ℕ) (negative : Bool) (value byte : ℕ) (result : Result (Unit {0}) CertFault) → IsSmall (frame_of frame) → StandsFor above root cuts frame old text → old.part ≡ Digits negative value
    → TakesWhole (frame_of frame) old new negative value result → is_digit byte ≡ false → EndsNumberAt above root cuts frame new text byte result
whole_behind above root cuts frame old new text negative value byte (Ok u) small stands is takes other = number_ends above root cuts frame old new text negative value small stands is (λ n. takes.0 above root cuts n stands.counts.highs) takes.1
whole_behind above root cuts frame old new text negative value byte (Err NoMemory) small stands is takes other = tt
whole_behind above root cuts frame old new text negative value byte (Err (At line kind)) small stands is takes other = number_at_fault above root cuts frame old text negative value byte line kind small stands is (λ n. takes.1 above root cuts n stands.counts.highs) other takes.0

-- a certificate doesn't end behind a number
not_over : (frame : texts.Frame) (d : Cert) (stage : Stage) (z : ℤ) → IsOfSort (sort stage) z → IsOver frame d (behind_number stage z) → ⊥
not_over frame d at_bpcert z of_sort is = of_sort
not_over frame d at_version z of_sort is = of_sort
not_over frame d (at_first_end v) z of_sort is = of_sort
not_over frame d (at_claim v) z of_sort is = of_sort
not_over frame d (at_kind v) z of_sort is = of_sort
not_over frame d (at_optimal v) z of_sort is = is
not_over frame d (infeasible_end v) z of_sort is = of_sort
not_over frame d (at_bound v) z of_sort is = is
not_over frame d (after_bound v b) z of_sort is = of_sort
not_over frame d (at_value v b) z of_sort is = is
not_over frame d (claim_end v k) z of_sort is = of_sort
not_over frame d (at_point v k) z of_sort is = of_sort
not_over frame d (at_values v k zs) z of_sort is = of_sort
not_over frame d (at_coordinate v k zs) z of_sort is = is
not_over frame d (at_first_cut a ws) z of_sort is = of_sort
not_over frame d (at_cuts a ws) z of_sort is = of_sort
not_over frame d (at_node a ws) z of_sort is = of_sort
not_over frame d (at_scale a ws o) z of_sort is = is
not_over frame d (at_rows a ws o s) z of_sort is = of_sort
not_over frame d (at_count a ws o s) z of_sort is = is
not_over frame d (at_pairs a ws o s ps last n) z of_sort is = of_sort
not_over frame d (at_row a ws o s ps last n) z of_sort is = is
not_over frame d (row_gap a ws o s ps r n) z of_sort is = of_sort
not_over frame d (at_multiplier a ws o s ps r n) z of_sort is = is
not_over frame d (at_priced a ws o s ps) z of_sort is = is
not_over frame d (at_blocks a ws o s ps ks last n) z of_sort is = of_sort
not_over frame d (at_block a ws o s ps ks last n) z of_sort is = is
not_over frame d (leaf_end a ws o p) z of_sort is = of_sort
not_over frame d (at_variable a ws) z of_sort is = is
not_over frame d (variable_gap a ws i) z of_sort is = of_sort
not_over frame d (at_place a ws i) z of_sort is = is
not_over frame d (split_end a ws i y) z of_sort is = of_sort
not_over frame d (at_end a t) z of_sort is = of_sort
not_over frame d (last_end a t) z of_sort is = of_sort
not_over frame d (over a t) z of_sort is = of_sort

-- a faultless number with which the text ends
cut_number : (above : List Wait) (root : Tree) (cuts : List Cut) (frame : Frame) (r : Lines) (text : List ℕ) (negative : Bool) (value : ℕ) → IsSmall (frame_of frame) → StandsFor above root cuts frame r text → r.part ≡ Digits negative value
    → ((n : ℕ) → number_fault (frame_of frame) (stage_of above root cuts r n) (signed negative value) ≡ None) → IsFirstCertFault (frame_of frame) text r.line Syntax
cut_number above root cuts frame r text negative value small stands is none =
    let part = number_part above root cuts frame r text negative value stands is in
    let stage = stage_of above root cuts r stands.count in
    let z = signed negative part.number in
    let of_value = of_kept (sort stage) negative part.number value part.kept part.of_sort in
    let alike = kept_alike (frame_of frame) stage negative part.number value small (few_there above root cuts r stands.count stands.counts.highs) part.of_sort of_value part.kept in
    let there = number_reached (frame_of frame) stage part.done z part.reached part.of_sort (alike.0 ∙ none stands.count) in
    let B : List ℕ → Type 0 = λ t. Reached (frame_of frame) (behind_number stage z) true t in
    let P : List ℕ → Type 0 = λ t. IsFirstCertFault (frame_of frame) t (line_behind text) Syntax in
    let L : ℕ → Type 0 = λ l. IsFirstCertFault (frame_of frame) text l Syntax in
    subst L (sym stands.counts.line) (subst P (append-nil text)
    (leaves_first (frame_of frame) (text ++ []) [] (line_behind text)
    (leaves_fresh (frame_of frame) (behind_number stage z) true text [] [] (subst B (sym part.bytes) there) tt (λ e. e) (λ v here. tt) (λ y of_sort. (tt, λ m is. tt)) (λ d o none. not_over (frame_of frame) d stage z part.of_sort o) (λ k x first begins. begins))))

-- a number with which the text ends
pub last_number : (above : List Wait) (root : Tree) (cuts : List Cut) (frame : Frame) (r : Lines) (text : List ℕ) (negative : Bool) (value : ℕ) (fault : Option Kind) → IsSmall (frame_of frame) → StandsFor above root cuts frame r text → r.part ≡ Digits negative value
    → ((n : ℕ) → number_fault (frame_of frame) (stage_of above root cuts r n) (signed negative value) ≡ fault) → IsFirstCertFault (frame_of frame) text r.line (unwrap_or fault Syntax)
last_number above root cuts frame r text negative value None small stands is clean = cut_number above root cuts frame r text negative value small stands is clean
last_number above root cuts frame r text negative value (Some kind) small stands is at_fault = number_at_end above root cuts frame r text negative value r.line kind small stands is at_fault refl

-- one without a sign
pub last_natural : (above : List Wait) (root : Tree) (cuts : List Cut) (frame : Frame) (r : Lines) (text : List ℕ) (negative : Bool) (value : ℕ) (fault : Option Kind) → IsSmall (frame_of frame) → StandsFor above root cuts frame r text → r.part ≡ Digits negative value → spot_sort r.spot ≡ Natural
    → ((n : ℕ) → number_fault (frame_of frame) (stage_of above root cuts r n) (pos value) ≡ fault) → IsFirstCertFault (frame_of frame) text r.line (unwrap_or fault Syntax)
last_natural above root cuts frame r text negative value fault small stands is natural faults =
    let F : ℤ → Type 0 = λ z. ((n : ℕ) → number_fault (frame_of frame) (stage_of above root cuts r n) z ≡ fault) in
    last_number above root cuts frame r text negative value fault small stands is (subst F (sym (plain_sign above root cuts frame r text negative value stands is natural)) faults)
