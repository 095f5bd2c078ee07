-- What a reader stands for behind one byte of a word.
use Rattle.std.proofs.Common.{◌≡◌, ◌≢◌, ◌⊎◌, ℕ, zero, suc, ◌+◌, ◌-◌, ◌^◌, ◌<◌, ◌≤◌, Bool, true, false, not, min, List, [], ◌∷◌, ◌++◌, length, take, Option, Some, None, Result, Ok, Err, refl, sym, ap, ◌∙◌, subst, inl, inr, ⊎_elim, arith, nat_eq, nat_lt, append_assoc, append-nil, length-append}
use Rattle.std.specs.Prelude.{slice_index_or}
use Rattle.std.proofs.lemmas.List.{take_more}
use Rattle.std.proofs.lemmas.Bool.{true≢false}
use Rattle.std.proofs.lemmas.Bool.Decides.{nat_tests}
use Rattle.cert_format.specs.Text.{Kind, fault_of}
use Rattle.cert_format.specs.Fault.{IsSeenFault, line_behind}
use Rattle.cert_format.specs.Words.{word_text, word_token, word_begins, is_line_end}
use Rattle.cert_format.specs.Spots.{spot_words, picked_word}
use Rattle.cert_format.specs.Frames.{frame_of}
use Rattle.cert_format.specs.Cert.{Cut, Tree}
use Rattle.cert_parser.specs.Readers.{HasHighs, Keeps, slack, place_of, stage_of}
use Rattle.cert_format.specs.Stages.{Wait, Stage, words, after, line_fault}
use Rattle.cert_format.specs.Reached.{MayStand, Reached, Comes, IsInWord, is_digit}
use Rattle.cert_parser.specs.Standing.{IsPart, CountFits, StandsFor, Between, InWordAt, Steps, EndsNumberAt}
use Rattle.cert_format.specs.declared.fault.CertKind.TheVariants.{Syntax}
use Rattle.cert_format.specs.declared.fault.CertFault.{CertFault}
use Rattle.cert_format.specs.declared.fault.CertFault.TheVariants.{At, NoMemory}
use Rattle.cert_format.specs.declared.frame.Frame.{Frame}
use Rattle.cert_parser.specs.declared.lines.Part.{Part}
use Rattle.cert_parser.specs.declared.lines.Part.TheVariants.{Fresh, InWord}
use Rattle.cert_parser.specs.declared.lines.Event.{Event}
use Rattle.cert_parser.specs.declared.lines.Lines.{Lines}
use Rattle.cert_format.specs.declared.spots.Spot.{Spot}
use Rattle.cert_format.specs.declared.spots.Spot.TheVariants as s
use Rattle.cert_format.specs.declared.words.Word.{Word}
use Rattle.cert_format.specs.declared.words.Word.TheVariants as w
use Rattle.cert_parser.proofs.StageWords.{first_byte, word_split, heads, words_are, picked_comes, picked_none}
use Rattle.cert_parser.proofs.Reaching.{word_reached, word_faulty, leaves_seen}
use Rattle.cert_parser.proofs.Leaving.{leaves_word}
use Rattle.cert_parser.proofs.Bytes.{word_line, line_more, slack_small}
use Rattle.cert_parser.proofs.ReaderSteps.{same_place, counts_push}

-- a fault that a call gave
pub at_fault : (above : List Wait) (root : Tree) (cuts : List Cut) (frame : Frame) (new : Lines) (text : List ℕ) (byte line : ℕ) (kind : Kind) (result : Result (Option Event) CertFault) → result ≡ Err (At line kind) → IsSeenFault (frame_of frame) (text ++ byte ∷ []) line kind → Steps above root cuts frame new text byte result
at_fault above root cuts frame new text byte line kind result is fault = let P : Result (Option Event) CertFault → Type 0 = λ r. Steps above root cuts frame new text byte r in subst P (sym is) fault

-- a fault of the number that ended
pub number_stops : (above : List Wait) (root : Tree) (cuts : List Cut) (frame : Frame) (new : Lines) (text : List ℕ) (byte : ℕ) (e : CertFault) → EndsNumberAt above root cuts frame new text byte (Err e) → Steps above root cuts frame new text byte (Err e)
number_stops above root cuts frame new text byte NoMemory ends = tt
number_stops above root cuts frame new text byte (At line kind) ends = ends

-- a call that went well
pub at_done : (above : List Wait) (root : Tree) (cuts : List Cut) (frame : Frame) (new now : Lines) (text : List ℕ) (byte : ℕ) (result : Result (Option Event) CertFault) → result ≡ Ok None → new ≡ now → StandsFor above root cuts frame now (text ++ byte ∷ []) → Steps above root cuts frame new text byte result
at_done above root cuts frame new now text byte result is same stands =
    let P : Result (Option Event) CertFault → Type 0 = λ r. Steps above root cuts frame new text byte r in
    let Q : Lines → Type 0 = λ x. StandsFor above root cuts frame x (text ++ byte ∷ []) in
    subst P (sym is) (subst Q (sym same) stands)

take_whole : (xs : List ℕ) → take (length xs) xs ≡ xs
take_whole [] = refl
take_whole (x ∷ xs) = ap (λ (ys : List ℕ). x ∷ ys) (take_whole xs)

-- a text with one byte more of a word
word_more : (done text word : List ℕ) (count byte : ℕ) → text ≡ done ++ take count word → count < length word → slice_index_or word count 0 ≡ byte → text ++ byte ∷ [] ≡ done ++ take (count + 1) word
word_more done text word count byte bytes within is =
    ap (λ (xs : List ℕ). xs ++ byte ∷ []) bytes ∙ append_assoc done (take count word) (byte ∷ []) ∙ ap (λ (xs : List ℕ). done ++ xs) (ap (λ (k : ℕ). take count word ++ k ∷ []) (sym is) ∙ sym (take_more word count 0 within))

-- a text with the last byte of a word
word_done : (done text word : List ℕ) (count byte : ℕ) → text ≡ done ++ take count word → count < length word → count + 1 ≡ length word → slice_index_or word count 0 ≡ byte → text ++ byte ∷ [] ≡ done ++ word
word_done done text word count byte bytes within last is = word_more done text word count byte bytes within is ∙ ap (λ (xs : List ℕ). done ++ xs) (ap (λ (k : ℕ). take k word) last ∙ take_whole word)

-- only a line's end may have a fault
fault_word : (f : Option Kind) (word : Word) (kind : Kind) → fault_of (word_token f word) ≡ Some kind → word ≡ w.LineEnd
fault_word f w.Bpcert kind is = absurd (cc)
fault_word f w.One kind is = absurd (cc)
fault_word f w.Two kind is = absurd (cc)
fault_word f w.Three kind is = absurd (cc)
fault_word f w.LineEnd kind is = refl
fault_word f w.Claim kind is = absurd (cc)
fault_word f w.Optimal kind is = absurd (cc)
fault_word f w.Infeasible kind is = absurd (cc)
fault_word f w.Bound kind is = absurd (cc)
fault_word f w.Value kind is = absurd (cc)
fault_word f w.Point kind is = absurd (cc)
fault_word f w.Space kind is = absurd (cc)
fault_word f w.Cut kind is = absurd (cc)
fault_word f w.Leaf kind is = absurd (cc)
fault_word f w.Open kind is = absurd (cc)
fault_word f w.Split kind is = absurd (cc)
fault_word f w.Rows kind is = absurd (cc)
fault_word f w.Change kind is = absurd (cc)
fault_word f w.Priced kind is = absurd (cc)
fault_word f w.All kind is = absurd (cc)
fault_word f w.End kind is = absurd (cc)

line_end_is : (word : Word) → is_line_end word ≡ true → word ≡ w.LineEnd
line_end_is w.Bpcert is = absurd (cc)
line_end_is w.One is = absurd (cc)
line_end_is w.Two is = absurd (cc)
line_end_is w.Three is = absurd (cc)
line_end_is w.LineEnd is = refl
line_end_is w.Claim is = absurd (cc)
line_end_is w.Optimal is = absurd (cc)
line_end_is w.Infeasible is = absurd (cc)
line_end_is w.Bound is = absurd (cc)
line_end_is w.Value is = absurd (cc)
line_end_is w.Point is = absurd (cc)
line_end_is w.Space is = absurd (cc)
line_end_is w.Cut is = absurd (cc)
line_end_is w.Leaf is = absurd (cc)
line_end_is w.Open is = absurd (cc)
line_end_is w.Split is = absurd (cc)
line_end_is w.Rows is = absurd (cc)
line_end_is w.Change is = absurd (cc)
line_end_is w.Priced is = absurd (cc)
line_end_is w.All is = absurd (cc)
line_end_is w.End is = absurd (cc)

-- a line's end that leaves a point with too few values
pub end_at_fault : (above : List Wait) (root : Tree) (cuts : List Cut) (frame : Frame) (r : Lines) (word : Word) (count byte line : ℕ) (text : List ℕ) (kind : Kind) (at : InWordAt above root cuts frame r word count text) → fault_of (word_token (line_fault (frame_of frame) (stage_of above root cuts r at.count)) word) ≡ Some kind
    → slice_index_or (word_text word) count 0 ≡ byte → count + 1 ≡ length (word_text word) → line ≡ r.line → IsSeenFault (frame_of frame) (text ++ byte ∷ []) line kind
end_at_fault above root cuts frame r word count byte line text kind at fault is last at_line =
    let part = at.part in
    let stage = stage_of above root cuts r at.count in
    let ending = fault_word (line_fault (frame_of frame) stage) word kind fault in
    let one : length (word_text word) ≡ 1 = ap (λ (v : Word). length (word_text v)) ending in
    let none : count ≡ 0 = omega arith in
    let same : text ≡ part.done = part.bytes ∙ ap (λ (k : ℕ). part.done ++ take k (word_text word)) none ∙ append-nil part.done in
    let whole : text ++ byte ∷ [] ≡ part.done ++ (word_text word ++ []) = word_done part.done text (word_text word) count byte part.bytes part.within last is ∙ ap (λ (xs : List ℕ). part.done ++ xs) (sym (append-nil (word_text word))) in
    let P : List ℕ → Type 0 = λ t. IsSeenFault (frame_of frame) t line kind in
    subst P (sym whole) (word_faulty (frame_of frame) stage part.number part.done [] word line kind part.reached part.comes fault (at_line ∙ at.counts.line ∙ ap line_behind same))

-- counts behind a word
fits_word : (old new : Spot) (left count size more : ℕ) → size + 1 ≤ more → CountFits old left count size → CountFits new left count more
fits_word old new left count size more grows fits = ⊎_elim (λ same. inl same)
    (λ big. let small = slack_small new in let room : 2 ^ 64 - 1 + slack new ≤ left + more = let b : 2 ^ 64 - 1 + slack old ≤ left + size = big.1 in omega arith in inr (big.0, room)) fits

-- a whole word
pub word_ends_well : (above next : List Wait) (root tree : Tree) (cuts later : List Cut) (frame : Frame) (old new : Lines) (word : Word) (count byte line : ℕ) (text : List ℕ) (at : InWordAt above root cuts frame old word count text) → fault_of (word_token (line_fault (frame_of frame) (stage_of above root cuts old at.count)) word) ≡ None
    → ((n : ℕ) → stage_of next tree later new n ≡ after (stage_of above root cuts old n) word) → HasHighs next later new → Keeps old new → slice_index_or (word_text word) count 0 ≡ byte → count + 1 ≡ length (word_text word)
    → line ≡ line_behind (text ++ byte ∷ []) → line_behind (text ++ byte ∷ []) ≤ length (text ++ byte ∷ []) → StandsFor next tree later frame (record new { part = Fresh; line = line }) (text ++ byte ∷ [])
word_ends_well above next root tree cuts later frame old new word count byte line text at clean leads highs keeps is last line_is few =
    let part = at.part in
    let stage = stage_of above root cuts old at.count in
    let whole = word_done part.done text (word_text word) count byte part.bytes part.within last is in
    let there = word_reached (frame_of frame) stage part.number part.done word part.reached part.comes clean part.stands in
    let P : List ℕ → Type 0 = λ t. Reached (frame_of frame) (after stage word) false t in
    let Q : Stage → Type 0 = λ x. Reached (frame_of frame) x false (text ++ byte ∷ []) in
    let grows : length text + 1 ≤ length (text ++ byte ∷ []) = omega (arith, length-append text (byte ∷ [])) in
    let F : ℕ → Type 0 = λ k. CountFits new.spot k at.count (length (text ++ byte ∷ [])) in
    record {
      count = at.count;
      counts = record {
        counted = subst F (sym keeps.left) (fits_word old.spot new.spot old.left at.count (length text) (length (text ++ byte ∷ [])) grows at.counts.counted);
        line = line_is;
        short = inr few;
        highs = record { depth = highs.depth; highs = highs.highs; cuts = highs.cuts; few = highs.few };
      };
      part = subst Q (sym (same_place next tree later new Fresh line at.count new.spot ∙ leads at.count)) (subst P (sym whole) there);
    }

-- a line's end counts
pub line_ends_well : (above next : List Wait) (root tree : Tree) (cuts later : List Cut) (frame : Frame) (old new : Lines) (word : Word) (count byte line : ℕ) (text : List ℕ) (at : InWordAt above root cuts frame old word count text) → length text + 1 < 2 ^ 64 → fault_of (word_token (line_fault (frame_of frame) (stage_of above root cuts old at.count)) word) ≡ None
    → ((n : ℕ) → stage_of next tree later new n ≡ after (stage_of above root cuts old n) word) → HasHighs next later new → Keeps old new → slice_index_or (word_text word) count 0 ≡ byte → count + 1 ≡ length (word_text word)
    → is_line_end word ≡ true → line ≡ min (new.line + 1) (2 ^ 64 - 1) → StandsFor next tree later frame (record new { part = Fresh; line = line }) (text ++ byte ∷ [])
line_ends_well above next root tree cuts later frame old new word count byte line text at fits clean leads highs keeps is last ends line_is =
    let part = at.part in
    let ending = line_end_is word ends in
    let one : length (word_text word) ≡ 1 = ap (λ (v : Word). length (word_text v)) ending in
    let none : count ≡ 0 = omega arith in
    let feed : byte ≡ 10 = sym is ∙ ap (λ (k : ℕ). slice_index_or (word_text word) k 0) none ∙ ap (λ (v : Word). slice_index_or (word_text v) 0 0) ending in
    let more = line_more text byte feed in
    let few : line_behind text ≤ length text = ⊎_elim (λ begun. absurd (first begun.1 part.comes ending)) (λ h. h) at.counts.short in
    let same : new.line ≡ line_behind text = keeps.line ∙ at.counts.line in
    let counted : line ≡ line_behind (text ++ byte ∷ []) = omega arith in
    let room : line_behind (text ++ byte ∷ []) ≤ length (text ++ byte ∷ []) = omega (arith, length-append text (byte ∷ [])) in
    word_ends_well above next root tree cuts later frame old new word count byte line text at clean leads highs keeps is last counted room where
      first : old.spot ≡ s.Bpcert → Comes word (words (stage_of above root cuts old at.count)) → word ≡ w.LineEnd → ⊥
      first spot comes ending =
          let P : Spot → Type 0 = λ x. Comes word (words (place_of above root cuts old at.count x)) in
          let there : (word ≡ w.Bpcert) ⊎ ⊥ = subst P spot comes in
          ⊎_elim (λ e. let wrong : ◌≡◌ {A = Word} w.LineEnd w.Bpcert = sym ending ∙ e in cc) (λ e. e) there

-- another word ends no line
pub other_ends_well : (above next : List Wait) (root tree : Tree) (cuts later : List Cut) (frame : Frame) (old new : Lines) (word : Word) (count byte : ℕ) (text : List ℕ) (at : InWordAt above root cuts frame old word count text) → fault_of (word_token (line_fault (frame_of frame) (stage_of above root cuts old at.count)) word) ≡ None
    → ((n : ℕ) → stage_of next tree later new n ≡ after (stage_of above root cuts old n) word) → HasHighs next later new → Keeps old new → slice_index_or (word_text word) count 0 ≡ byte → count + 1 ≡ length (word_text word)
    → is_line_end word ≡ false → StandsFor next tree later frame (record new { part = Fresh }) (text ++ byte ∷ [])
other_ends_well above next root tree cuts later frame old new word count byte text at clean leads highs keeps is last ends =
    let other : byte ≢ 10 = ⊎_elim (λ ending. absurd (true≢false (sym (ap is_line_end ending) ∙ ends))) (λ apart e. apart (is ∙ e)) (word_line word count) in
    let pushed = counts_push above cuts old Fresh at.count text byte other at.counts in
    let few : line_behind (text ++ byte ∷ []) ≤ length (text ++ byte ∷ []) = ⊎_elim (λ none. absurd (some text byte none.0)) (λ h. h) pushed.short in
    word_ends_well above next root tree cuts later frame old new word count byte new.line text at clean leads highs keeps is last (keeps.line ∙ pushed.line) few where
      some : (xs : List ℕ) (b : ℕ) → xs ++ b ∷ [] ≡ [] → ⊥
      some [] b e = cc
      some (x ∷ xs) b e = cc

-- the byte at a place
pub nth_at : (word : List ℕ) (count a : ℕ) (tail : List ℕ) → count < length word → word ≡ take count word ++ a ∷ tail → slice_index_or word count 0 ≡ a
nth_at [] count a tail less is = absurd (omega arith)
nth_at (x ∷ word) zero a tail less is = cc
nth_at (x ∷ word) (suc count) a tail less is = let short : count < length word = omega arith in let more : word ≡ take count word ++ a ∷ tail = cc in nth_at word count a tail short more

-- a number may end before a part of a word as before the word
pub stands_part : (number : Bool) (word rest : List ℕ) (count : ℕ) → 0 < count → 0 < length word → ((more : List ℕ) → MayStand number (word ++ more)) → MayStand number (take count word ++ rest)
stands_part false word rest count some within stands = tt
stands_part true [] rest count some within stands = absurd (omega arith)
stands_part true (x ∷ word) rest zero some within stands = absurd (omega arith)
stands_part true (x ∷ word) rest (suc count) some within stands = stands []

-- a word doesn't go on so
pub syntax_word : (above : List Wait) (root : Tree) (cuts : List Cut) (frame : Frame) (r : Lines) (word : Word) (count byte line : ℕ) (text : List ℕ) → InWordAt above root cuts frame r word count text → slice_index_or (word_text word) count 0 ≢ byte → (count ≡ 0 → word_begins word byte ≡ true) → line ≡ r.line
    → IsSeenFault (frame_of frame) (text ++ byte ∷ []) line Syntax
syntax_word above root cuts frame r word count byte line text at other begun at_line =
    let part = at.part in
    let some : 0 < count = positive count other begun in
    let length_some : 0 < length (word_text word) = let less : count < length (word_text word) = part.within in omega arith in
    let bytes : text ++ byte ∷ [] ≡ part.done ++ (take count (word_text word) ++ byte ∷ []) = ap (λ (xs : List ℕ). xs ++ byte ∷ []) part.bytes ∙ append_assoc part.done (take count (word_text word)) (byte ∷ []) in
    let here : line ≡ line_behind (part.done ++ take count (word_text word)) = at_line ∙ at.counts.line ∙ ap line_behind part.bytes in
    let P : List ℕ → Type 0 = λ t. IsSeenFault (frame_of frame) t line Syntax in
    let L : ℕ → Type 0 = λ l. IsSeenFault (frame_of frame) (part.done ++ (take count (word_text word) ++ byte ∷ [])) l Syntax in
    subst P (sym bytes) (subst L (sym here) (leaves_seen (frame_of frame) (part.done ++ (take count (word_text word) ++ byte ∷ [])) [] byte (line_behind (part.done ++ take count (word_text word)))
    (λ more. leaves_word (frame_of frame) (stage_of above root cuts r at.count) part.number part.done (byte ∷ []) more word count part.reached part.comes some part.within
    (stands_part part.number (word_text word) (byte ∷ []) count some length_some part.stands)
    (λ tail a is same. other (nth_at (word_text word) count a tail part.within is ∙ same)) (λ none. cc)))) where
      positive : (k : ℕ) → slice_index_or (word_text word) k 0 ≢ byte → (k ≡ 0 → word_begins word byte ≡ true) → 0 < k
      positive zero other begun = let one = begun refl in absurd (other (grind (arith, nat_tests)))
      positive (suc k) other begun = omega arith

-- a word goes on
pub word_goes_on : (above : List Wait) (root : Tree) (cuts : List Cut) (frame : Frame) (r : Lines) (word : Word) (count byte : ℕ) (text : List ℕ) → InWordAt above root cuts frame r word count text → slice_index_or (word_text word) count 0 ≡ byte → count + 1 < length (word_text word)
    → StandsFor above root cuts frame (record r { part = InWord word (count + 1) }) (text ++ byte ∷ [])
word_goes_on above root cuts frame r word count byte text at is more =
    let part = at.part in
    let other : byte ≢ 10 = ⊎_elim (λ ending. absurd (short ending)) (λ apart e. apart (is ∙ e)) (word_line word count) in
    let some : 0 < count + 1 = omega arith in
    let P : Stage → Type 0 = λ stage. (0 < count + 1) × IsInWord (frame_of frame) stage word (count + 1) (text ++ byte ∷ []) in
    record {
      count = at.count;
      counts = counts_push above cuts r (InWord word (count + 1)) at.count text byte other at.counts;
      part = subst P (sym (same_place above root cuts r (InWord word (count + 1)) r.line at.count r.spot)) (
        some,
        record {
          number = part.number;
          done = part.done;
          reached = part.reached;
          comes = part.comes;
          within = more;
          bytes = word_more part.done text (word_text word) count byte part.bytes part.within is;
          stands = part.stands;
        },
      );
    } where
      short : word ≡ w.LineEnd → ⊥
      short ending = let one : length (word_text word) ≡ 1 = ap (λ (v : Word). length (word_text v)) ending in omega arith

-- a reader within a word
pub within_word : (above : List Wait) (root : Tree) (cuts : List Cut) (frame : Frame) (r : Lines) (text : List ℕ) (word : Word) (count : ℕ) → StandsFor above root cuts frame r text → r.part ≡ InWord word count → InWordAt above root cuts frame r word count text
within_word above root cuts frame r text word count stands is =
    let P : Part → Type 0 = λ p. IsPart (frame_of frame) (stage_of above root cuts r stands.count) p text in
    record { count = stands.count; counts = stands.counts; part = (subst P is stands.part).1 }

pub within_some : (above : List Wait) (root : Tree) (cuts : List Cut) (frame : Frame) (r : Lines) (text : List ℕ) (word : Word) (count : ℕ) → StandsFor above root cuts frame r text → r.part ≡ InWord word count → 0 < count
within_some above root cuts frame r text word count stands is = let P : Part → Type 0 = λ p. IsPart (frame_of frame) (stage_of above root cuts r stands.count) p text in (subst P is stands.part).0

-- whether pairs or blocks are still to come is told by what is kept
more_is : (spot : Spot) (left count size : ℕ) → size + 1 < 2 ^ 64 → CountFits spot left count size → nat_lt 0 left ≡ not (nat_eq count 0)
more_is spot left count size small fits = ⊎_elim
    (λ same. grind (arith, nat_tests))
    (λ big. let a : left ≤ count = big.0 in let b : 2 ^ 64 - 1 + slack spot ≤ left + size = big.1 in let some : 0 < left = omega arith in positive left count some a)
    fits where
      positive : (left count : ℕ) → 0 < left → left ≤ count → nat_lt 0 left ≡ not (nat_eq count 0)
      positive left count some less = grind (arith, nat_tests)

-- the words of a reader between two tokens
words_between : (above : List Wait) (root : Tree) (cuts : List Cut) (frame : Frame) (r : Lines) (number : Bool) (text : List ℕ) (more : Bool) (between : Between above root cuts frame r number text) → length text + 1 < 2 ^ 64 → more ≡ nat_lt 0 r.left → spot_words r.version r.spot more ≡ heads (words (stage_of above root cuts r between.count))
words_between above root cuts frame r number text more between small is =
    ap (λ (t : Bool). spot_words r.version r.spot t) (is ∙ more_is r.spot r.left between.count (length text) small between.counts.counted) ∙ sym (words_are above root cuts r between.count r.spot)

pub word_begun : (above : List Wait) (root : Tree) (cuts : List Cut) (frame : Frame) (r : Lines) (number : Bool) (text : List ℕ) (more : Bool) (byte : ℕ) (word : Word) → Between above root cuts frame r number text → length text + 1 < 2 ^ 64 → more ≡ nat_lt 0 r.left → picked_word byte (spot_words r.version r.spot more) ≡ Some word → (number ≡ true → is_digit byte ≡ false)
    → InWordAt above root cuts frame r word 0 text × (word_begins word byte ≡ true)
word_begun above root cuts frame r number text more byte word between small is picked apart =
    let stage = stage_of above root cuts r between.count in
    let E : List Word → Type 0 = λ ws. picked_word byte ws ≡ Some word in
    let found = picked_comes byte word (words stage) (subst E (words_between above root cuts frame r number text more between small is) picked) in
    let some : 0 < length (word_text word) = positive (word_text word) (word_split word) in (
      record {
        count = between.count;
        counts = between.counts;
        part = record {
          number = number;
          done = text;
          reached = between.reached;
          comes = found.0;
          within = some;
          bytes = sym (append-nil text);
          stands = λ rest. stands number rest apart (word_text word) (word_split word) (first found.1);
        };
      },
      found.1,
    ) where
      positive : {b : ℕ} {bs : List ℕ} (xs : List ℕ) → xs ≡ b ∷ bs → 0 < length xs
      positive [] is = cc
      positive (x ∷ xs) is = omega arith

      first : word_begins word byte ≡ true → first_byte word ≡ byte
      first begins = grind (arith, nat_tests)

      not_digit : (x y : ℕ) → x ≡ y → is_digit y ≡ false → 48 ≤ x → x ≤ 57 → ⊥
      not_digit x y same none low high = grind (arith, nat_tests)

      stands : (number : Bool) (rest : List ℕ) → (number ≡ true → is_digit byte ≡ false) → {b : ℕ} {bs : List ℕ} (xs : List ℕ) → xs ≡ b ∷ bs → b ≡ byte → MayStand number (xs ++ rest)
      stands false rest apart xs is same = tt
      stands true rest apart [] is same = cc
      stands true rest apart {b} (x ∷ xs) is same = let head : x ≡ b = cc in let none = apart refl in not_digit x byte (head ∙ same) none

pub no_word_begun : (above : List Wait) (root : Tree) (cuts : List Cut) (frame : Frame) (r : Lines) (number : Bool) (text : List ℕ) (more : Bool) (byte : ℕ) (between : Between above root cuts frame r number text) → length text + 1 < 2 ^ 64 → more ≡ nat_lt 0 r.left → picked_word byte (spot_words r.version r.spot more) ≡ None
    → (v : Word) → Comes v (words (stage_of above root cuts r between.count)) → word_begins v byte ≡ false
no_word_begun above root cuts frame r number text more byte between small is picked v here =
    let E : List Word → Type 0 = λ ws. picked_word byte ws ≡ None in
    picked_none byte v (words (stage_of above root cuts r between.count)) (subst E (words_between above root cuts frame r number text more between small is) picked) here

-- a byte that is no digit may stand behind a number
pub may_follow : (number : Bool) (byte : ℕ) → (number ≡ true → is_digit byte ≡ false) → MayStand number (byte ∷ [])
may_follow false byte apart = tt
may_follow true byte apart = not_digit (apart refl) where
  not_digit : is_digit byte ≡ false → 48 ≤ byte → byte ≤ 57 → ⊥
  not_digit none low high = grind (arith, nat_tests)
