-- The words that may come at a place: where they lead, and that their first bytes tell them apart.
use Rattle.std.proofs.Common.{◌≡◌, ◌≢◌, ℕ, ◌≤◌, Bool, true, false, not, List, [], ◌∷◌, drop, Option, Some, None, ℤ, refl, sym, ap, ◌∙◌, subst, inl, inr, ⊎_elim, arith, nat_eq, if◌then◌else◌}
use Rattle.std.specs.Prelude.{slice_index_or}
use Rattle.cert_format.specs.Cert.{These, Tree, Cut, Cert, Frame}
use Rattle.cert_format.specs.Text.{Kind, token_text}
use Rattle.cert_format.specs.Fault.{EndsToken, EndIsSeen}
use Rattle.cert_format.specs.Words.{word_text, word_token, word_begins}
use Rattle.cert_format.specs.Spots.{spot_words, picked_word}
use Rattle.cert_parser.specs.Readers.{place_of}
use Rattle.cert_format.specs.Reached.{Comes}
use Rattle.cert_parser.specs.declared.lines.Lines.{Lines}
use Rattle.cert_format.specs.declared.spots.Spot.{Spot}
use Rattle.cert_format.specs.declared.spots.Spot.TheVariants as s
use Rattle.cert_format.specs.declared.words.Word.{Word}
use Rattle.cert_format.specs.declared.words.Word.TheVariants as w
use Rattle.cert_format.specs.Stages.{Wait, proof_of, of_leaf, of_cut, behind_rows, at_first_cut, at_cuts, Stage, at_bpcert, at_version, at_first_end, at_claim, at_kind, at_optimal, infeasible_end, at_bound, after_bound, at_value, claim_end, at_point, at_values, at_coordinate, at_node, at_scale, at_rows, at_count, at_pairs, at_row, row_gap, at_multiplier, at_priced, at_blocks, at_block, leaf_end, at_variable, variable_gap, at_place, split_end, at_end, last_end, over, behind_leaf, words, after, sort, IsOfSort}
use Rattle.cert_format.proofs.StageProofs.{ForEach, Leads}
use Rattle.cert_format.proofs.StageMoves.{word_leads}

-- the place behind each word
words_after : (stage : Stage) → ForEach (λ word next. next ≡ after stage word) (words stage)
words_after at_bpcert = (refl, tt)
words_after at_version = (refl, (refl, (refl, tt)))
words_after (at_first_end v) = (refl, tt)
words_after (at_claim v) = (refl, tt)
words_after (at_kind v) = (refl, (refl, (refl, tt)))
words_after (infeasible_end v) = (refl, tt)
words_after (after_bound v b) = (refl, (refl, tt))
words_after (claim_end v k) = (refl, tt)
words_after (at_point v k) = (refl, tt)
words_after (at_values v k zs) = (refl, (refl, tt))
words_after (at_first_cut a ws) = (refl, tt)
words_after (at_cuts a ws) = (refl, (refl, (refl, (refl, tt))))
words_after (at_node a ws) = (refl, (refl, (refl, tt)))
words_after (at_rows a ws o s) = (refl, tt)
words_after (at_pairs a ws (of_leaf o) s ps last n) =
    elim (nat_eq n 0) as (λ t. ForEach (λ word next. next ≡ after (at_pairs a ws (of_leaf o) s ps last n) word) (if t then behind_rows a ws (of_leaf o) s ps ∷ [] else (w.Space, at_row a ws (of_leaf o) s ps last n) ∷ [])) [ true ↦ (refl, tt) | false ↦ (refl, tt) ]
words_after (at_pairs a ws of_cut s ps last n) =
    elim (nat_eq n 0) as (λ t. ForEach (λ word next. next ≡ after (at_pairs a ws of_cut s ps last n) word) (if t then behind_rows a ws of_cut s ps ∷ [] else (w.Space, at_row a ws of_cut s ps last n) ∷ [])) [ true ↦ (refl, tt) | false ↦ (refl, tt) ]
words_after (row_gap a ws o s ps r n) = (refl, tt)
words_after (at_priced a ws o s ps) = (refl, tt)
words_after (at_blocks a ws o s ps ks last n) =
    elim (nat_eq n 0) as (λ t. ForEach (λ word next. next ≡ after (at_blocks a ws o s ps ks last n) word) (if t then (w.LineEnd, behind_leaf a ws o (proof_of s ps (These ks))) ∷ [] else (w.Space, at_block a ws o s ps ks last n) ∷ [])) [ true ↦ (refl, tt) | false ↦ (refl, tt) ]
words_after (leaf_end a ws o p) = (refl, tt)
words_after (variable_gap a ws i) = (refl, tt)
words_after (split_end a ws i z) = (refl, tt)
words_after (at_end a t) = (refl, tt)
words_after (last_end a t) = (refl, tt)
words_after (at_optimal v) = tt
words_after (at_bound v) = tt
words_after (at_value v b) = tt
words_after (at_coordinate v k zs) = tt
words_after (at_scale a ws o) = tt
words_after (at_count a ws o s) = tt
words_after (at_row a ws o s ps last n) = tt
words_after (at_multiplier a ws o s ps r n) = tt
words_after (at_block a ws o s ps ks last n) = tt
words_after (at_variable a ws) = tt
words_after (at_place a ws i) = tt
words_after (over a t) = tt

-- a word that may come leads behind it
pub comes_leads : (frame : Frame) (c : Cert) (stage : Stage) (word : Word) → Comes word (words stage) → Leads frame c stage word (after stage word)
comes_leads frame c stage word comes = along (words stage) (word_leads frame c stage) (words_after stage) comes where
  along : (es : List (Word × Stage)) → ForEach (Leads frame c stage) es → ForEach (λ v next. next ≡ after stage v) es → Comes word es → Leads frame c stage word (after stage word)
  along [] leads ends here = absurd here
  along (e ∷ es) leads ends here = ⊎_elim
      (λ is.
      let P : Word → Type 0 = λ v. Leads frame c stage v (after stage v) in
      let Q : Stage → Type 0 = λ next. Leads frame c stage e.0 next in
      subst P (sym is) (subst Q ends.0 leads.0))
      (λ more. along es leads.1 ends.1 more)
      here

-- a word's first byte
abbrev pub first_byte : Word → ℕ
first_byte word = slice_index_or (word_text word) 0 0

-- entries with first bytes of their own
abbrev AreDistinct : List (Word × Stage) → Type 0
AreDistinct [] = Unit {0}
AreDistinct (e ∷ es) = ForEach (λ v next. first_byte e.0 ≡ first_byte v → ⊥) es × AreDistinct es

words_distinct : (stage : Stage) → AreDistinct (words stage)
words_distinct at_bpcert = (tt, tt)
words_distinct at_version = (((λ e. omega arith), ((λ e. omega arith), tt)), (((λ e. omega arith), tt), (tt, tt)))
words_distinct (at_first_end v) = (tt, tt)
words_distinct (at_claim v) = (tt, tt)
words_distinct (at_kind v) = (((λ e. omega arith), ((λ e. omega arith), tt)), (((λ e. omega arith), tt), (tt, tt)))
words_distinct (infeasible_end v) = (tt, tt)
words_distinct (after_bound v b) = (((λ e. omega arith), tt), (tt, tt))
words_distinct (claim_end v k) = (tt, tt)
words_distinct (at_point v k) = (tt, tt)
words_distinct (at_values v k zs) = (((λ e. omega arith), tt), (tt, tt))
words_distinct (at_first_cut a ws) = (tt, tt)
words_distinct (at_cuts a ws) =
    (((λ e. omega arith), ((λ e. omega arith), ((λ e. omega arith), tt))), (((λ e. omega arith), ((λ e. omega arith), tt)), (((λ e. omega arith), tt), (tt, tt))))
words_distinct (at_node a ws) = (((λ e. omega arith), ((λ e. omega arith), tt)), (((λ e. omega arith), tt), (tt, tt)))
words_distinct (at_rows a ws o s) = (tt, tt)
words_distinct (at_pairs a ws o s ps last n) =
    elim (nat_eq n 0) as (λ t. AreDistinct (if t then behind_rows a ws o s ps ∷ [] else (w.Space, at_row a ws o s ps last n) ∷ [])) [ true ↦ (tt, tt) | false ↦ (tt, tt) ]
words_distinct (row_gap a ws o s ps r n) = (tt, tt)
words_distinct (at_priced a ws o s ps) = (tt, tt)
words_distinct (at_blocks a ws o s ps ks last n) =
    elim (nat_eq n 0) as (λ t. AreDistinct (if t then (w.LineEnd, behind_leaf a ws o (proof_of s ps (These ks))) ∷ [] else (w.Space, at_block a ws o s ps ks last n) ∷ [])) [ true ↦ (tt, tt) | false ↦ (tt, tt) ]
words_distinct (leaf_end a ws o p) = (tt, tt)
words_distinct (variable_gap a ws i) = (tt, tt)
words_distinct (split_end a ws i z) = (tt, tt)
words_distinct (at_end a t) = (tt, tt)
words_distinct (last_end a t) = (tt, tt)
words_distinct (at_optimal v) = tt
words_distinct (at_bound v) = tt
words_distinct (at_value v b) = tt
words_distinct (at_coordinate v k zs) = tt
words_distinct (at_scale a ws o) = tt
words_distinct (at_count a ws o s) = tt
words_distinct (at_row a ws o s ps last n) = tt
words_distinct (at_multiplier a ws o s ps r n) = tt
words_distinct (at_block a ws o s ps ks last n) = tt
words_distinct (at_variable a ws) = tt
words_distinct (at_place a ws i) = tt
words_distinct (over a t) = tt

-- a fact of each entry is one of a word that comes
each_comes : (P : Word → Type 0) (word : Word) (es : List (Word × Stage)) → ForEach (λ v next. P v) es → Comes word es → P word
each_comes P word [] each here = absurd here
each_comes P word (e ∷ es) each here = ⊎_elim (λ is. subst P (sym is) each.0) (λ more. each_comes P word es each.1 more) here

-- two words that may come with one first byte are one
pub same_word : (stage : Stage) (v word : Word) → Comes v (words stage) → Comes word (words stage) → first_byte v ≡ first_byte word → v ≡ word
same_word stage v word one other alike = along (words stage) (words_distinct stage) one other where
  along : (es : List (Word × Stage)) → AreDistinct es → Comes v es → Comes word es → v ≡ word
  along [] apart first second = absurd first
  along (e ∷ es) apart first second = ⊎_elim
      (λ is. ⊎_elim
      (λ also. is ∙ sym also)
      (λ more. absurd (each_comes (λ u. first_byte e.0 ≡ first_byte u → ⊥) word es apart.0 more (ap first_byte (sym is) ∙ alike)))
      second)
      (λ rest. ⊎_elim
      (λ also. absurd (each_comes (λ u. first_byte e.0 ≡ first_byte u → ⊥) v es apart.0 rest (ap first_byte (sym also) ∙ sym alike)))
      (λ more. along es apart.1 rest more)
      second)
      first

-- where a number may come, words begin with letters
pub word_number_apart : (stage : Stage) (word : Word) (z : ℤ) → Comes word (words stage) → IsOfSort (sort stage) z → (48 ≤ first_byte word → first_byte word ≤ 57 → ⊥) × (first_byte word ≢ 45)
word_number_apart (at_priced a ws o s ps) word z here of_sort = ⊎_elim
    (λ is.
    let P : Word → Type 0 = λ v. (48 ≤ first_byte v → first_byte v ≤ 57 → ⊥) × (first_byte v ≢ 45) in
    subst P (sym is) ((λ low high. omega arith), (λ e. omega arith)))
    (λ more. absurd more)
    here
word_number_apart (at_optimal v) word z here of_sort = absurd here
word_number_apart (at_bound v) word z here of_sort = absurd here
word_number_apart (at_value v b) word z here of_sort = absurd here
word_number_apart (at_coordinate v k zs) word z here of_sort = absurd here
word_number_apart (at_scale a ws o) word z here of_sort = absurd here
word_number_apart (at_count a ws o s) word z here of_sort = absurd here
word_number_apart (at_row a ws o s ps last n) word z here of_sort = absurd here
word_number_apart (at_multiplier a ws o s ps r n) word z here of_sort = absurd here
word_number_apart (at_block a ws o s ps ks last n) word z here of_sort = absurd here
word_number_apart (at_variable a ws) word z here of_sort = absurd here
word_number_apart (at_place a ws i) word z here of_sort = absurd here
word_number_apart at_bpcert word z here of_sort = absurd of_sort
word_number_apart at_version word z here of_sort = absurd of_sort
word_number_apart (at_first_end v) word z here of_sort = absurd of_sort
word_number_apart (at_claim v) word z here of_sort = absurd of_sort
word_number_apart (at_kind v) word z here of_sort = absurd of_sort
word_number_apart (infeasible_end v) word z here of_sort = absurd of_sort
word_number_apart (after_bound v b) word z here of_sort = absurd of_sort
word_number_apart (claim_end v k) word z here of_sort = absurd of_sort
word_number_apart (at_point v k) word z here of_sort = absurd of_sort
word_number_apart (at_values v k zs) word z here of_sort = absurd of_sort
word_number_apart (at_first_cut a ws) word z here of_sort = absurd of_sort
word_number_apart (at_cuts a ws) word z here of_sort = absurd of_sort
word_number_apart (at_node a ws) word z here of_sort = absurd of_sort
word_number_apart (at_rows a ws o s) word z here of_sort = absurd of_sort
word_number_apart (at_pairs a ws o s ps last n) word z here of_sort = absurd of_sort
word_number_apart (row_gap a ws o s ps r n) word z here of_sort = absurd of_sort
word_number_apart (at_blocks a ws o s ps ks last n) word z here of_sort = absurd of_sort
word_number_apart (leaf_end a ws o p) word z here of_sort = absurd of_sort
word_number_apart (variable_gap a ws i) word z here of_sort = absurd of_sort
word_number_apart (split_end a ws i y) word z here of_sort = absurd of_sort
word_number_apart (at_end a t) word z here of_sort = absurd of_sort
word_number_apart (last_end a t) word z here of_sort = absurd of_sort
word_number_apart (over a t) word z here of_sort = absurd of_sort

-- the bytes of a word's token
pub word_token-text : (f : Option Kind) (word : Word) → token_text (word_token f word) ≡ word_text word
word_token-text f w.Bpcert = refl
word_token-text f w.One = refl
word_token-text f w.Two = refl
word_token-text f w.Three = refl
word_token-text f w.LineEnd = refl
word_token-text f w.Claim = refl
word_token-text f w.Optimal = refl
word_token-text f w.Infeasible = refl
word_token-text f w.Bound = refl
word_token-text f w.Value = refl
word_token-text f w.Point = refl
word_token-text f w.Space = refl
word_token-text f w.Cut = refl
word_token-text f w.Leaf = refl
word_token-text f w.Open = refl
word_token-text f w.Split = refl
word_token-text f w.Rows = refl
word_token-text f w.Change = refl
word_token-text f w.Priced = refl
word_token-text f w.All = refl
word_token-text f w.End = refl

-- a word's token ends wherever it stands
pub word_ends : (f : Option Kind) (word : Word) (rest : List ℕ) → EndsToken (word_token f word) rest
word_ends f w.Bpcert rest = tt
word_ends f w.One rest = tt
word_ends f w.Two rest = tt
word_ends f w.Three rest = tt
word_ends f w.LineEnd rest = tt
word_ends f w.Claim rest = tt
word_ends f w.Optimal rest = tt
word_ends f w.Infeasible rest = tt
word_ends f w.Bound rest = tt
word_ends f w.Value rest = tt
word_ends f w.Point rest = tt
word_ends f w.Space rest = tt
word_ends f w.Cut rest = tt
word_ends f w.Leaf rest = tt
word_ends f w.Open rest = tt
word_ends f w.Split rest = tt
word_ends f w.Rows rest = tt
word_ends f w.Change rest = tt
word_ends f w.Priced rest = tt
word_ends f w.All rest = tt
word_ends f w.End rest = tt

-- the end of a word's token is seen at once
pub word_seen : (f : Option Kind) (word : Word) (rest : List ℕ) → EndIsSeen (word_token f word) rest
word_seen f w.Bpcert rest = tt
word_seen f w.One rest = tt
word_seen f w.Two rest = tt
word_seen f w.Three rest = tt
word_seen f w.LineEnd rest = tt
word_seen f w.Claim rest = tt
word_seen f w.Optimal rest = tt
word_seen f w.Infeasible rest = tt
word_seen f w.Bound rest = tt
word_seen f w.Value rest = tt
word_seen f w.Point rest = tt
word_seen f w.Space rest = tt
word_seen f w.Cut rest = tt
word_seen f w.Leaf rest = tt
word_seen f w.Open rest = tt
word_seen f w.Split rest = tt
word_seen f w.Rows rest = tt
word_seen f w.Change rest = tt
word_seen f w.Priced rest = tt
word_seen f w.All rest = tt
word_seen f w.End rest = tt

-- a word is its first byte and the rest
pub word_split : (word : Word) → word_text word ≡ first_byte word ∷ drop 1 (word_text word)
word_split w.Bpcert = refl
word_split w.One = refl
word_split w.Two = refl
word_split w.Three = refl
word_split w.LineEnd = refl
word_split w.Claim = refl
word_split w.Optimal = refl
word_split w.Infeasible = refl
word_split w.Bound = refl
word_split w.Value = refl
word_split w.Point = refl
word_split w.Space = refl
word_split w.Cut = refl
word_split w.Leaf = refl
word_split w.Open = refl
word_split w.Split = refl
word_split w.Rows = refl
word_split w.Change = refl
word_split w.Priced = refl
word_split w.All = refl
word_split w.End = refl

-- the words of a reader's place
abbrev pub heads : List (Word × Stage) → List Word
heads [] = []
heads (e ∷ es) = e.0 ∷ heads es

pub words_are : (above : List Wait) (root : Tree) (cuts : List Cut) (r : Lines) (n : ℕ) (spot : Spot) → heads (words (place_of above root cuts r n spot)) ≡ spot_words r.version spot (not (nat_eq n 0))
words_are above root cuts r n s.Bpcert = refl
words_are above root cuts r n s.Version = refl
words_are above root cuts r n s.FirstEnd = refl
words_are above root cuts r n s.Claim = refl
words_are above root cuts r n s.Kind = refl
words_are above root cuts r n s.OptimalValue = refl
words_are above root cuts r n s.InfeasibleEnd = refl
words_are above root cuts r n s.BoundValue = refl
words_are above root cuts r n s.AfterBound = refl
words_are above root cuts r n s.KnownValue = refl
words_are above root cuts r n s.ClaimEnd = refl
words_are above root cuts r n s.Point = refl
words_are above root cuts r n s.Values = refl
words_are above root cuts r n s.Coordinate = refl
words_are above root cuts r n s.FirstCut = refl
words_are above root cuts r n s.Cuts = refl
words_are above root cuts r n s.Divisor = refl
words_are above root cuts r n s.CutRows = refl
words_are above root cuts r n s.CutCount = refl
words_are above root cuts r n s.CutPairs = pairs (nat_eq n 0) _ _ where
  pairs : (t : Bool) (x y : Stage) → heads (if t then (w.LineEnd, x) ∷ [] else (w.Space, y) ∷ []) ≡ (if not t then w.Space ∷ [] else w.LineEnd ∷ [])
  pairs true x y = refl
  pairs false x y = refl
words_are above root cuts r n s.CutRow = refl
words_are above root cuts r n s.CutGap = refl
words_are above root cuts r n s.CutMultiplier = refl
words_are above root cuts r n s.Node = refl
words_are above root cuts r n s.Scale = refl
words_are above root cuts r n s.Rows = refl
words_are above root cuts r n s.Count = refl
words_are above root cuts r n s.Pairs = pairs (nat_eq n 0) _ _ where
  pairs : (t : Bool) (x y : Stage) → heads (if t then (w.Priced, x) ∷ [] else (w.Space, y) ∷ []) ≡ (if not t then w.Space ∷ [] else w.Priced ∷ [])
  pairs true x y = refl
  pairs false x y = refl
words_are above root cuts r n s.Row = refl
words_are above root cuts r n s.RowGap = refl
words_are above root cuts r n s.Multiplier = refl
words_are above root cuts r n s.Priced = refl
words_are above root cuts r n s.Blocks = blocks (nat_eq n 0) _ _ where
  blocks : (t : Bool) (x y : Stage) → heads (if t then (w.LineEnd, x) ∷ [] else (w.Space, y) ∷ []) ≡ (if not t then w.Space ∷ [] else w.LineEnd ∷ [])
  blocks true x y = refl
  blocks false x y = refl
words_are above root cuts r n s.Block = refl
words_are above root cuts r n s.LeafEnd = refl
words_are above root cuts r n s.Variable = refl
words_are above root cuts r n s.VariableGap = refl
words_are above root cuts r n s.Place = refl
words_are above root cuts r n s.SplitEnd = refl
words_are above root cuts r n s.End = refl
words_are above root cuts r n s.LastEnd = refl
words_are above root cuts r n s.Over = refl

-- a word that is picked may come, and begins with the byte
pub picked_comes : (byte : ℕ) (word : Word) (es : List (Word × Stage)) → picked_word byte (heads es) ≡ Some word → Comes word es × (word_begins word byte ≡ true)
picked_comes byte word [] is = let wrong : ◌≡◌ {A = Option Word} None (Some word) = is in absurd (cc)
picked_comes byte word (e ∷ es) is = chosen (word_begins e.0 byte) refl (picked_comes byte word es) is where
  chosen : (t : Bool) → word_begins e.0 byte ≡ t → (picked_word byte (heads es) ≡ Some word → Comes word es × (word_begins word byte ≡ true)) → (if t then Some e.0 else picked_word byte (heads es)) ≡ Some word → Comes word (e ∷ es) × (word_begins word byte ≡ true)
  chosen true begins more same =
      let one : e.0 ≡ word = cc in
      let P : Word → Type 0 = λ v. word_begins v byte ≡ true in
      (inl (sym one), subst P one begins)
  chosen false begins more same = let found = more same in (inr found.0, found.1)

-- where none is picked, none that may come begins with the byte
pub picked_none : (byte : ℕ) (word : Word) (es : List (Word × Stage)) → picked_word byte (heads es) ≡ None → Comes word es → word_begins word byte ≡ false
picked_none byte word [] is here = absurd here
picked_none byte word (e ∷ es) is here = chosen (word_begins e.0 byte) refl (λ none there. picked_none byte word es none there) is where
  chosen : (t : Bool) → word_begins e.0 byte ≡ t → (picked_word byte (heads es) ≡ None → Comes word es → word_begins word byte ≡ false) → (if t then Some e.0 else picked_word byte (heads es)) ≡ None → word_begins word byte ≡ false
  chosen true begins more same = let wrong : Some e.0 ≡ None = same in absurd (cc)
  chosen false begins more same =
      let P : Word → Type 0 = λ v. word_begins v byte ≡ false in
      ⊎_elim (λ one. subst P (sym one) begins) (λ there. more same there) here
