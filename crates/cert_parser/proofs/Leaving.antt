-- Where a text that is reached leaves the grammar.
use Rattle.std.proofs.Common.{◌≡◌, ◌≢◌, ◌⊎◌, ℕ, zero, suc, ◌+◌, ◌<◌, ◌≤◌, Bool, false, List, [], ◌∷◌, ◌++◌, length, take, drop, Option, ℤ, pos, negsuc, refl, sym, ap, ◌∙◌, subst, inl, inr, ⊎_elim, arith, append_assoc, append-nil}
use Rattle.std.proofs.lemmas.List.{append_cancel_left}
use Rattle.cert_format.specs.Cert.{Cert, Frame}
use Rattle.cert_format.specs.Text.{Kind, Token, Figure, numeral, signed_numeral, token_text, text_of}
use Rattle.cert_format.specs.Fault.{IsExcess, EndsNumber, EndsToken, BeginsNumber, line_behind}
use Rattle.cert_format.specs.Words.{word_text, word_token}
use Rattle.cert_format.specs.Stages.{after_bound, at_first_cut, at_cuts, at_block, at_blocks, at_bound, at_bpcert, at_claim, at_coordinate, at_count, at_end, at_first_end, at_kind, at_multiplier, at_node, at_version, at_optimal, at_pairs, at_place, at_point, at_priced, at_row, at_rows, at_scale, at_value, at_values, at_variable, claim_end, infeasible_end, last_end, leaf_end, row_gap, split_end, variable_gap, over}
use Rattle.cert_format.specs.Stages.{Stage, words, after, line_fault, sort, IsOfSort, is_deep_stage, number_fault, behind_number, Follows}
use Rattle.cert_format.specs.Reached.{MayStand, Reached, Comes}
use Rattle.cert_format.specs.declared.words.Word.{Word}
use Rattle.cert_format.proofs.Numerals.{numeral-begins, digit_apart}
use Rattle.cert_format.proofs.Figures.{GoesOn, zero_barred, other_barred, empty_barred, minus_barred, positive_barred, numeral-small}
use Rattle.cert_format.proofs.Verdicts.{IsBarred, NotFirst, not_first}
use Rattle.cert_format.proofs.StageProofs.{ForSomeOf}
use Rattle.cert_format.proofs.StageMoves.{IsFirst, number_leads, IsOver, goes_on_from}
use Rattle.cert_parser.proofs.StageWords.{comes_leads, word_token-text, first_byte, word_split, same_word, word_number_apart}
use Rattle.cert_format.proofs.Deep.{deep}
use Rattle.cert_format.proofs.DeepStages.{no_word_deep, no_negative_deep, no_shallow_deep}
use Rattle.cert_parser.proofs.Reaching.{LeavesAt, leaves_there, none_there}

-- where no number comes of a node that is too deep or of a cut that is one too many, as far as the text and what follows tell
abbrev pub IsDry : Frame → Stage → List ℕ → Type 0
IsDry frame stage text = (k : Kind) → IsExcess k → IsFirst frame stage (deep k) → BeginsNumber text → ⊥

-- what leaves the grammar at a place, and no number of a node that is too deep
leaves_both : (frame : Frame) (stage : Stage) (number : Bool) (done p rest more : List ℕ) → Reached frame stage number done → MayStand number (p ++ rest) → (rest ≡ [] → more ≡ [])
    → (c : Cert) (us : List Token) (tail : List ℕ) → Follows frame c stage us → text_of us ≡ p ++ tail
    → ((y : Token) → IsFirst frame stage y → IsBarred y p rest) → ((d : Cert) → IsOver frame d stage → rest ≡ [] → ⊥) → IsDry frame stage (p ++ (rest ++ more))
    → LeavesAt frame (done ++ (p ++ rest)) (line_behind (done ++ p)) rest more
leaves_both frame stage number done p rest more r stands fits c us tail follows begins barred ended dry =
    let there = leaves_there frame stage number done p rest r stands c us tail follows begins barred ended in
    (there.0, there.1, none_there frame stage number done p rest more r stands fits c us follows barred dry)

-- a first token is a word that comes, or a number
first_cases : (frame : Frame) (stage : Stage) (y : Token) (P : Type 0) → IsFirst frame stage y → ((v : Word) → Comes v (words stage) → y ≡ word_token (line_fault frame stage) v → P) → ((z : ℤ) → IsOfSort (sort stage) z → y ≡ Figure z (number_fault frame stage z) → P) → P
first_cases frame stage y P first word number = ⊎_elim (λ some. along (words stage) (λ v here. word v here) some) (λ n. number n.0 n.1 n.2) first where
  along : (es : List (Word × Stage)) → ((v : Word) → Comes v es → y ≡ word_token (line_fault frame stage) v → P) → ForSomeOf (λ v next. y ≡ word_token (line_fault frame stage) v) es → P
  along [] f none = absurd none
  along (e ∷ es) f some = ⊎_elim (λ is. f e.0 (inl refl) is) (λ more. along es (λ v here. f v (inr here)) more) some

-- the first bytes of a word's token
word_front : (f : Option Kind) (v : Word) (y : Token) (r : List ℕ) → y ≡ word_token f v → token_text y ++ r ≡ first_byte v ∷ (drop 1 (word_text v) ++ r)
word_front f v y r is = ap (λ (x : Token). token_text x ++ r) is ∙ ap (λ (xs : List ℕ). xs ++ r) (word_token-text f v ∙ word_split v)

-- a text that goes on alike doesn't begin with a word with another first byte
word_barred : (f : Option Kind) (v : Word) (y : Token) (rest : List ℕ) → y ≡ word_token f v → NotFirst (first_byte v) rest → IsBarred y [] rest
word_barred f v y rest is other = λ r s ends goes same. not_first (first_byte v) rest [] rest s (drop 1 (word_text v) ++ r) other refl goes (sym same ∙ word_front f v y r is)

-- the first byte is no digit
abbrev pub NotDigitFirst : List ℕ → Type 0
NotDigitFirst [] = Unit {0}
NotDigitFirst (b ∷ bs) = (48 ≤ b → b ≤ 57 → ⊥)

number_barred : (z : ℤ) (f : Option Kind) (y : Token) (rest : List ℕ) → y ≡ Figure z f → NotDigitFirst rest → ((m : ℕ) → z ≡ negsuc m → NotFirst 45 rest) → IsBarred y [] rest
number_barred z f y rest is digit minus = λ r s ends goes same. go z rest digit minus r s goes (sym (ap (λ (x : Token). token_text x ++ r) is) ∙ same) where
  go : (z : ℤ) (rest : List ℕ) → NotDigitFirst rest → ((m : ℕ) → z ≡ negsuc m → NotFirst 45 rest) → (r s : List ℕ) → GoesOn rest s → signed_numeral z ++ r ≡ s → ⊥
  go (pos n) [] digit minus r s goes same = empty_barred n r s goes same
  go (pos n) (b ∷ bs) digit minus r s goes same = other_barred b n r s bs digit goes same
  go (negsuc m) rest digit minus r s goes same = not_first 45 rest [] rest s (numeral (m + 1) ++ r) (minus m refl) refl goes (sym same)

-- between two tokens, where no token begins so
pub leaves_fresh : (frame : Frame) (stage : Stage) (number : Bool) (done rest more : List ℕ) → Reached frame stage number done → MayStand number rest → (rest ≡ [] → more ≡ [])
    → ((v : Word) → Comes v (words stage) → NotFirst (first_byte v) rest)
    → ((z : ℤ) → IsOfSort (sort stage) z → NotDigitFirst rest × ((m : ℕ) → z ≡ negsuc m → NotFirst 45 rest))
    → ((d : Cert) → IsOver frame d stage → rest ≡ [] → ⊥) → IsDry frame stage (rest ++ more) → LeavesAt frame (done ++ rest) (line_behind done) rest more
leaves_fresh frame stage number done rest more r stands fits no_word no_number ended dry =
    let some = goes_on_from frame stage in
    let P : List ℕ → Type 0 = λ t. LeavesAt frame (done ++ rest) (line_behind t) rest more in
    subst P (append-nil done) (leaves_both frame stage number done [] rest more r stands fits some.0 some.1 (text_of some.1) some.2 refl
    (λ y first. first_cases frame stage y (IsBarred y [] rest) first
    (λ v here is. word_barred (line_fault frame stage) v y rest is (no_word v here))
    (λ z of_sort is. let n = no_number z of_sort in number_barred z (number_fault frame stage z) y rest is n.0 n.1))
    ended dry)

-- a text that goes on so at its place
abbrev pub OtherAt : List ℕ → ℕ → List ℕ → Type 0
OtherAt word count [] = Unit {0}
OtherAt word count (b ∷ bs) = (tail : List ℕ) (a : ℕ) → word ≡ take count word ++ a ∷ tail → a ≢ b

-- the bytes of a word up to a place within it
pub split_at : (word : List ℕ) (count : ℕ) → count < length word → (a : ℕ) × (tail : List ℕ) × (word ≡ take count word ++ a ∷ tail)
split_at [] count less = absurd (omega arith)
split_at (b ∷ word) zero less = (b, word, refl)
split_at (b ∷ word) (suc count) less = let short : count < length word = omega arith in let more = split_at word count short in (more.0, more.1, ap (λ (xs : List ℕ). b ∷ xs) more.2)

take_some : (word : List ℕ) (b count : ℕ) (bs : List ℕ) → word ≡ b ∷ bs → 0 < count → (more : List ℕ) × (take count word ≡ b ∷ more)
take_some word b zero bs is some = absurd (omega arith)
take_some word b (suc count) bs is some = (take count bs, ap (λ (xs : List ℕ). take (suc count) xs) is)

-- where a word or a number may come, the text isn't over
over_words : (frame : Frame) (d : Cert) (word : Word) (stage : Stage) → Comes word (words stage) → IsOver frame d stage → ⊥
over_words frame d word (over a t) comes e = comes
over_words frame d word at_bpcert comes e = e
over_words frame d word at_version comes e = e
over_words frame d word (at_first_end v) comes e = e
over_words frame d word (at_claim v) comes e = e
over_words frame d word (at_kind v) comes e = e
over_words frame d word (at_optimal v) comes e = e
over_words frame d word (infeasible_end v) comes e = e
over_words frame d word (at_bound v) comes e = e
over_words frame d word (after_bound v b) comes e = e
over_words frame d word (at_value v b) comes e = e
over_words frame d word (claim_end v k) comes e = e
over_words frame d word (at_point v k) comes e = e
over_words frame d word (at_values v k zs) comes e = e
over_words frame d word (at_coordinate v k zs) comes e = e
over_words frame d word (at_first_cut a ws) comes e = e
over_words frame d word (at_cuts a ws) comes e = e
over_words frame d word (at_node a ws) comes e = e
over_words frame d word (at_scale a ws o) comes e = e
over_words frame d word (at_rows a ws o s) comes e = e
over_words frame d word (at_count a ws o s) comes e = e
over_words frame d word (at_pairs a ws o s ps last n) comes e = e
over_words frame d word (at_row a ws o s ps last n) comes e = e
over_words frame d word (row_gap a ws o s ps r n) comes e = e
over_words frame d word (at_multiplier a ws o s ps r n) comes e = e
over_words frame d word (at_priced a ws o s ps) comes e = e
over_words frame d word (at_blocks a ws o s ps ks last n) comes e = e
over_words frame d word (at_block a ws o s ps ks last n) comes e = e
over_words frame d word (leaf_end a ws o p) comes e = e
over_words frame d word (at_variable a ws) comes e = e
over_words frame d word (variable_gap a ws i) comes e = e
over_words frame d word (at_place a ws i) comes e = e
over_words frame d word (split_end a ws i y) comes e = e
over_words frame d word (at_end a t) comes e = e
over_words frame d word (last_end a t) comes e = e

over_numbers : (frame : Frame) (d : Cert) (stage : Stage) (z : ℤ) → IsOfSort (sort stage) z → IsOver frame d stage → ⊥
over_numbers frame d (over a t) z of_sort e = of_sort
over_numbers frame d at_bpcert z of_sort e = e
over_numbers frame d at_version z of_sort e = e
over_numbers frame d (at_first_end v) z of_sort e = e
over_numbers frame d (at_claim v) z of_sort e = e
over_numbers frame d (at_kind v) z of_sort e = e
over_numbers frame d (at_optimal v) z of_sort e = e
over_numbers frame d (infeasible_end v) z of_sort e = e
over_numbers frame d (at_bound v) z of_sort e = e
over_numbers frame d (after_bound v b) z of_sort e = e
over_numbers frame d (at_value v b) z of_sort e = e
over_numbers frame d (claim_end v k) z of_sort e = e
over_numbers frame d (at_point v k) z of_sort e = e
over_numbers frame d (at_values v k zs) z of_sort e = e
over_numbers frame d (at_coordinate v k zs) z of_sort e = e
over_numbers frame d (at_first_cut a ws) z of_sort e = e
over_numbers frame d (at_cuts a ws) z of_sort e = e
over_numbers frame d (at_node a ws) z of_sort e = e
over_numbers frame d (at_scale a ws o) z of_sort e = e
over_numbers frame d (at_rows a ws o s) z of_sort e = e
over_numbers frame d (at_count a ws o s) z of_sort e = e
over_numbers frame d (at_pairs a ws o s ps last n) z of_sort e = e
over_numbers frame d (at_row a ws o s ps last n) z of_sort e = e
over_numbers frame d (row_gap a ws o s ps r n) z of_sort e = e
over_numbers frame d (at_multiplier a ws o s ps r n) z of_sort e = e
over_numbers frame d (at_priced a ws o s ps) z of_sort e = e
over_numbers frame d (at_blocks a ws o s ps ks last n) z of_sort e = e
over_numbers frame d (at_block a ws o s ps ks last n) z of_sort e = e
over_numbers frame d (leaf_end a ws o p) z of_sort e = e
over_numbers frame d (at_variable a ws) z of_sort e = e
over_numbers frame d (variable_gap a ws i) z of_sort e = e
over_numbers frame d (at_place a ws i) z of_sort e = e
over_numbers frame d (split_end a ws i y) z of_sort e = e
over_numbers frame d (at_end a t) z of_sort e = e
over_numbers frame d (last_end a t) z of_sort e = e

-- within a word, where it doesn't go on so
pub leaves_word : (frame : Frame) (stage : Stage) (number : Bool) (done rest more : List ℕ) (word : Word) (count : ℕ) → Reached frame stage number done → Comes word (words stage) → 0 < count → count < length (word_text word)
    → MayStand number (take count (word_text word) ++ rest) → OtherAt (word_text word) count rest → (rest ≡ [] → more ≡ [])
    → LeavesAt frame (done ++ (take count (word_text word) ++ rest)) (line_behind (done ++ take count (word_text word))) rest more
leaves_word frame stage number done rest more word count r comes some within stands other fits =
    let next = goes_on_from frame (after stage word) in
    let x = word_token (line_fault frame stage) word in
    let cut = split_at (word_text word) count within in
    let front = take_some (word_text word) (first_byte word) count (drop 1 (word_text word)) (word_split word) some in
    let begins : text_of (x ∷ next.1) ≡ take count (word_text word) ++ ((cut.0 ∷ cut.1) ++ text_of next.1) = ap (λ (xs : List ℕ). xs ++ text_of next.1) (word_token-text (line_fault frame stage) word ∙ cut.2) ∙ append_assoc (take count (word_text word)) (cut.0 ∷ cut.1) (text_of next.1) in
    leaves_both frame stage number done (take count (word_text word)) rest more r stands fits next.0 (x ∷ next.1) ((cut.0 ∷ cut.1) ++ text_of next.1) ((comes_leads frame next.0 stage word comes next.1).1 next.2) begins
    (λ y first. first_cases frame stage y (IsBarred y (take count (word_text word)) rest) first
    (λ v here is q s ends goes same.
    let heads : first_byte v ∷ (drop 1 (word_text v) ++ q) ≡ first_byte word ∷ (front.0 ++ s) = sym (word_front (line_fault frame stage) v y q is) ∙ same ∙ ap (λ (xs : List ℕ). xs ++ s) front.1 in
    let alike : first_byte v ≡ first_byte word = cc in
    let one : v ≡ word = same_word stage v word here comes alike in
    let text : token_text y ≡ take count (word_text word) ++ cut.0 ∷ cut.1 = ap token_text is ∙ word_token-text (line_fault frame stage) v ∙ ap word_text one ∙ cut.2 in
    let joined : take count (word_text word) ++ ((cut.0 ∷ cut.1) ++ q) ≡ take count (word_text word) ++ s = sym (append_assoc (take count (word_text word)) (cut.0 ∷ cut.1) q) ∙ ap (λ (xs : List ℕ). xs ++ q) (sym text) ∙ same in
    mismatch cut.0 cut.1 cut.2 rest s q other goes (append_cancel_left (take count (word_text word)) ((cut.0 ∷ cut.1) ++ q) s joined))
    (λ z of_sort is q s ends goes same.
    let apart = word_number_apart stage word z comes of_sort in
    number_off z (first_byte word) (front.0 ++ s) q apart.0 apart.1 (sym (ap (λ (t : Token). token_text t ++ q) is) ∙ same ∙ ap (λ (xs : List ℕ). xs ++ s) front.1)))
    (λ d o none. no_over d o) (λ k x first _. no_word_deep frame stage word k x first comes) where
      mismatch : (a : ℕ) (tail : List ℕ) → word_text word ≡ take count (word_text word) ++ a ∷ tail → (rest s q : List ℕ) → OtherAt (word_text word) count rest → GoesOn rest s → a ∷ (tail ++ q) ≡ s → ⊥
      mismatch a tail is [] [] q other goes same = cc
      mismatch a tail is [] (d ∷ s) q other goes same = goes
      mismatch a tail is (b ∷ rest) [] q other goes same = goes
      mismatch a tail is (b ∷ rest) (d ∷ s) q other goes same = let first : a ≡ d = cc in other tail a is (first ∙ sym goes)

      number_off : (z : ℤ) (b : ℕ) (more q : List ℕ) → (48 ≤ b → b ≤ 57 → ⊥) → b ≢ 45 → signed_numeral z ++ q ≡ b ∷ more → ⊥
      number_off (pos n) b more q digit minus same = digit_apart (numeral n ++ q) more b (numeral-begins n q) digit same
      number_off (negsuc n) b more q digit minus same = let first : 45 ≡ b = cc in minus (sym first)

      no_over : (d : Cert) → IsOver frame d stage → ⊥
      no_over d o = over_words frame d word stage comes o

-- a word's first byte isn't that of a number's part
word_apart : (stage : Stage) (v : Word) (z : ℤ) (y : Token) (f : Option Kind) (b : ℕ) (q s : List ℕ) → Comes v (words stage) → IsOfSort (sort stage) z → y ≡ word_token f v → (b ≡ 45) ⊎ ((48 ≤ b) × (b ≤ 57)) → token_text y ++ q ≡ b ∷ s → ⊥
word_apart stage v z y f b q s here of_sort is byte same =
    let apart = word_number_apart stage v z here of_sort in
    let heads : first_byte v ∷ (drop 1 (word_text v) ++ q) ≡ b ∷ s = sym (word_front f v y q is) ∙ same in
    let first : first_byte v ≡ b = cc in
    ⊎_elim (λ minus. apart.1 (first ∙ minus)) (λ digit. apart.0 (subst (λ (k : ℕ). 48 ≤ k) (sym first) digit.0) (subst (λ (k : ℕ). k ≤ 57) (sym first) digit.1)) byte

-- the first byte is no digit but 0
abbrev pub NotPositiveFirst : List ℕ → Type 0
NotPositiveFirst [] = Unit {0}
NotPositiveFirst (b ∷ bs) = (49 ≤ b → b ≤ 57 → ⊥)

-- behind a minus, where no positive number goes on so
pub leaves_minus : (frame : Frame) (stage : Stage) (done rest more : List ℕ) → Reached frame stage false done → IsOfSort (sort stage) (negsuc 0) → NotPositiveFirst rest → (rest ≡ [] → more ≡ [])
    → LeavesAt frame (done ++ (45 ∷ rest)) (line_behind (done ++ 45 ∷ [])) rest more
leaves_minus frame stage done rest more r of_sort digit fits =
    let next = goes_on_from frame (behind_number stage (negsuc 0)) in
    let x = Figure (negsuc 0) (number_fault frame stage (negsuc 0)) in
    leaves_both frame stage false done (45 ∷ []) rest more r tt fits next.0 (x ∷ next.1) (numeral (0 + 1) ++ text_of next.1) ((number_leads frame next.0 stage (negsuc 0) of_sort next.1).1 next.2) refl
    (λ y first. first_cases frame stage y (IsBarred y (45 ∷ []) rest) first
    (λ v here is q s ends goes same. word_apart stage v (negsuc 0) y (line_fault frame stage) 45 q s here of_sort is (inl refl) same)
    (λ z _ is q s ends goes same. minus_barred z q s [] (inr tt) (λ m e. positive m rest s q digit goes e) (sym (ap (λ (t : Token). token_text t ++ q) is) ∙ same)))
    (λ d o none. over_numbers frame d stage (negsuc 0) of_sort o) (λ k x first _. no_negative_deep frame stage 0 k x first of_sort) where
      positive : (m : ℕ) (rest s q : List ℕ) → NotPositiveFirst rest → GoesOn rest s → numeral (m + 1) ++ q ≡ s → ⊥
      positive m [] s q digit goes same = empty_barred (m + 1) q s goes same
      positive m (b ∷ bs) s q digit goes same = positive_barred b m q s bs digit goes same

-- behind a 0, where a digit follows
pub leaves_zero : (frame : Frame) (stage : Stage) (done : List ℕ) (byte : ℕ) (rest more : List ℕ) → Reached frame stage false done → IsOfSort (sort stage) (pos 0) → is_deep_stage frame stage ≡ false → (48 ≤ byte) × (byte ≤ 57)
    → LeavesAt frame (done ++ (48 ∷ byte ∷ rest)) (line_behind (done ++ 48 ∷ [])) (byte ∷ rest) more
leaves_zero frame stage done byte rest more r of_sort shallow digit =
    let next = goes_on_from frame (behind_number stage (pos 0)) in
    let x = Figure (pos 0) (number_fault frame stage (pos 0)) in
    let small : 0 < 10 = omega arith in
    let begins : text_of (x ∷ next.1) ≡ 48 ∷ text_of next.1 = ap (λ (xs : List ℕ). xs ++ text_of next.1) (numeral-small 0 small) in
    leaves_both frame stage false done (48 ∷ []) (byte ∷ rest) more r tt (λ none. cc) next.0 (x ∷ next.1) (text_of next.1) ((number_leads frame next.0 stage (pos 0) of_sort next.1).1 next.2) begins
    (λ y first. first_cases frame stage y (IsBarred y (48 ∷ []) (byte ∷ rest)) first
    (λ v here is q s ends goes same. word_apart stage v (pos 0) y (line_fault frame stage) 48 q s here of_sort is (inr ((omega arith), (omega arith))) same)
    (λ z _ is q s ends goes same. no_zero z q s (let P : Token → Type 0 = λ t. EndsToken t q in subst P is ends) goes (sym (ap (λ (t : Token). token_text t ++ q) is) ∙ same)))
    (λ d o none. over_numbers frame d stage (pos 0) of_sort o) (λ k x first _. no_shallow_deep frame stage k x first shallow) where
      no_zero : (z : ℤ) (q s : List ℕ) → EndsNumber q → GoesOn (byte ∷ rest) s → signed_numeral z ++ q ≡ 48 ∷ s → ⊥
      no_zero (pos n) q s ends goes same = zero_barred byte n q s rest digit ends goes same
      no_zero (negsuc n) q s ends goes same = let first : ◌≡◌ {A = ℕ} 45 48 = cc in omega arith
