-- Where a reader is in a certificate: which tokens may come next, and what follows each of them.
use Rattle.std.specs.Prelude.{◌≡◌, ◌⊎◌, ℕ, ◌+◌, ◌-◌, Bool, true, false, List, [], ◌∷◌, ◌++◌, length, codes, Option, Some, None, ℤ, pos, nat_abs, nat_eq, nat_le, ◌<◌, if◌then◌else◌}
use Rattle.bp_theory.specs.Limits.{greatest_multiplier, greatest_scale}
use Rattle.bp_theory.specs.declared.Claim as claims
use Rattle.bp_theory.specs.declared.Claim.TheVariants as variants
use Rattle.cert_format.specs.Written.{written_claim}
use Rattle.cert_format.specs.Cert.{Picked, Every, These, Proof, Tree, Shut, Open, Split, Claim, Infeasible, Bound, Cut, Cert, Frame}
use Rattle.cert_format.specs.Text.{Kind, Token, Words, LineEnd, Version, One, Two, Three, pairs_word, kept, kept_behind, meant, meant_proof, meant_tree, value_fault, coordinate_fault, end_fault, row_fault, multiplier_fault, block_fault, scale_fault, variable_fault, divisor_fault, is_deep, may_name, may_combine, tokens_of, HasForm}
use Rattle.cert_format.specs.Grammar.{Prefixed, Numbered, Valued, Points, Pairs, Blocks, Priced, Cuts, Trees}
use Rattle.cert_format.specs.declared.fault.CertKind.TheVariants.{Depth, Limit}
use Rattle.cert_format.specs.Words.{change_word}
use Rattle.cert_format.specs.declared.spots.Sort.{Sort}
use Rattle.cert_format.specs.declared.spots.Sort.TheVariants.{Wordy, Natural, Whole}
use Rattle.cert_format.specs.declared.words.Word.{Word}
use Rattle.cert_format.specs.declared.words.Word.TheVariants as w

-- a split above the tree that comes next: its low part is still to come, or there
pub data Wait : Type 0 where
  low_of : ℕ → ℤ → Wait
  high_of : ℕ → ℤ → Tree → Wait

-- a claim whose point is still to come
abbrev pub Known : Type 0
Known = claims.Claim

abbrev pub optimal_of : ℤ → Known
optimal_of v = variants.Optimal v

abbrev pub bound_of : ℤ → ℤ → Known
bound_of b v = variants.Bound b (Some v)

-- the claim with its point
abbrev pub claim_with : Known → List ℤ → Claim
claim_with k zs = written_claim k zs

-- a leaf with its proof
abbrev pub leaf_of : Bool → Proof → Tree
leaf_of true p = Open p
leaf_of false p = Shut p

-- a proof of these parts
abbrev pub proof_of : ℕ → List (ℕ × ℤ) → Picked → Proof
proof_of scale pairs picked = record { scale = scale; pairs = pairs; picked = picked }

-- a certificate without cuts
abbrev pub plain_of : Claim → Tree → Cert
plain_of claim tree = record { claim = claim; cuts = []; tree = tree }

-- a cut of these parts
abbrev pub cut_of : ℕ → List (ℕ × ℤ) → Cut
cut_of divisor pairs = record { divisor = divisor; pairs = pairs }

-- what the next line of cuts or of the tree stands behind: the version, the claim, the cuts, and the multipliers that the next leaf changes
pub record Told : Type 0 where
  pub version : Version
  pub claim : Claim
  pub cuts : List Cut
  pub had : List (ℕ × ℤ)

-- neither a cut nor a leaf has come
abbrev pub told : Version → Claim → Told
told v claim = record { version = v; claim = claim; cuts = []; had = [] }

-- these cuts have come
abbrev pub with_cuts : Told → List Cut → Told
with_cuts a cuts = record { version = a.version; claim = a.claim; cuts = a.cuts ++ cuts; had = a.had }

-- a cut of these parts has come
abbrev pub with_cut : Told → ℕ → List (ℕ × ℤ) → Told
with_cut a divisor pairs = with_cuts a (cut_of divisor pairs ∷ [])

-- a leaf with this proof has come
abbrev pub past : Told → Proof → Told
past a p = record { version = a.version; claim = a.claim; cuts = a.cuts; had = kept a.version a.had p }

-- a tree has come
abbrev pub passed : Told → Tree → Told
passed a t = record { version = a.version; claim = a.claim; cuts = a.cuts; had = kept_behind a.version a.had t }

-- the certificate with this tree
abbrev pub whole_of : Told → Tree → Cert
whole_of a tree = record { claim = a.claim; cuts = a.cuts; tree = tree }

-- whose line has rows with multipliers: a leaf's, which may be open, or a cut's
pub data Owner : Type 0 where
  of_leaf : Bool → Owner
  of_cut : Owner

-- the word before the rows
abbrev pub rows_word : Told → Owner → Word
rows_word a (of_leaf o) = change_word a.version
rows_word a of_cut = w.Rows

-- its bytes
abbrev pub rows_text : Told → Owner → List ℕ
rows_text a (of_leaf o) = pairs_word a.version
rows_text a of_cut = codes " rows "

-- whether a row may be named
abbrev pub may_have : Frame → Told → Owner → ℕ → Bool
may_have frame a (of_leaf o) = may_name frame (length a.cuts)
may_have frame a of_cut = may_combine frame (length a.cuts)

-- the greatest multiplier
abbrev pub most_of : Owner → ℕ
most_of (of_leaf o) = greatest_multiplier
most_of of_cut = greatest_scale

-- the multipliers that are changed
abbrev pub had_by : Told → Owner → List (ℕ × ℤ)
had_by a (of_leaf o) = a.had
had_by a of_cut = []

-- what is wrong with a leaf's scale or a cut's divisor
abbrev pub first_fault : Frame → Told → List Wait → Owner → ℕ → Option Kind
first_fault frame a ws (of_leaf o) = scale_fault frame (length ws)
first_fault frame a ws of_cut = divisor_fault (length a.cuts)

-- the node is too deep, or the cut is one too many
abbrev pub is_excess : Frame → Told → List Wait → Owner → Bool
is_excess frame a ws (of_leaf o) = is_deep frame.limits (length ws)
is_excess frame a ws of_cut = nat_le 256 (length a.cuts)

-- the kind of that fault
abbrev pub excess_kind : Owner → Kind
excess_kind (of_leaf o) = Depth
excess_kind of_cut = Limit

-- the tree that the lines of a tree mean
abbrev pub meaning : Told → Tree → Tree
meaning a t = meant_tree a.version a.had t

-- the places between two tokens, each with what was read: version, claim, cuts, splits above, whose line it is, its scale or divisor, its multipliers, the last row or block, and how many are still to come
pub data Stage : Type 0 where
  at_bpcert : Stage
  at_version : Stage
  at_first_end : Version → Stage
  at_claim : Version → Stage
  at_kind : Version → Stage
  at_optimal : Version → Stage
  infeasible_end : Version → Stage
  at_bound : Version → Stage
  after_bound : Version → ℤ → Stage
  at_value : Version → ℤ → Stage
  claim_end : Version → Known → Stage
  at_point : Version → Known → Stage
  at_values : Version → Known → List ℤ → Stage
  at_coordinate : Version → Known → List ℤ → Stage
  at_first_cut : Told → List Wait → Stage
  at_cuts : Told → List Wait → Stage
  at_node : Told → List Wait → Stage
  at_scale : Told → List Wait → Owner → Stage
  at_rows : Told → List Wait → Owner → ℕ → Stage
  at_count : Told → List Wait → Owner → ℕ → Stage
  at_pairs : Told → List Wait → Owner → ℕ → List (ℕ × ℤ) → ℕ → ℕ → Stage
  at_row : Told → List Wait → Owner → ℕ → List (ℕ × ℤ) → ℕ → ℕ → Stage
  row_gap : Told → List Wait → Owner → ℕ → List (ℕ × ℤ) → ℕ → ℕ → Stage
  at_multiplier : Told → List Wait → Owner → ℕ → List (ℕ × ℤ) → ℕ → ℕ → Stage
  at_priced : Told → List Wait → Bool → ℕ → List (ℕ × ℤ) → Stage
  at_blocks : Told → List Wait → Bool → ℕ → List (ℕ × ℤ) → List ℕ → ℕ → ℕ → Stage
  at_block : Told → List Wait → Bool → ℕ → List (ℕ × ℤ) → List ℕ → ℕ → ℕ → Stage
  leaf_end : Told → List Wait → Bool → Proof → Stage
  at_variable : Told → List Wait → Stage
  variable_gap : Told → List Wait → ℕ → Stage
  at_place : Told → List Wait → ℕ → Stage
  split_end : Told → List Wait → ℕ → ℤ → Stage
  at_end : Told → Tree → Stage
  last_end : Told → Tree → Stage
  over : Told → Tree → Stage

-- the place behind a whole tree
abbrev pub behind : Told → List Wait → Tree → Stage
behind a [] t = at_end a t
behind a (low_of i z ∷ ws) t = at_node a (high_of i z t ∷ ws)
behind a (high_of i z low ∷ ws) t = behind a ws (Split i z low t)

-- the place behind a leaf whose line has this proof
abbrev pub behind_leaf : Told → List Wait → Bool → Proof → Stage
behind_leaf a ws o p = behind (past a p) ws (leaf_of o (meant_proof a.had p))

-- the place behind the claim: cuts come in version 3 alone
abbrev pub begin : Version → Claim → List Wait → Stage
begin Three claim ws = at_first_cut (told Three claim) ws
begin v claim ws = at_node (told v claim) ws

-- the word behind the last of the rows, with the place behind it
abbrev pub behind_rows : Told → List Wait → Owner → ℕ → List (ℕ × ℤ) → Word × Stage
behind_rows a ws (of_leaf o) s ps = (w.Priced, at_priced a ws o s ps)
behind_rows a ws of_cut s ps = (w.LineEnd, at_cuts (with_cut a s ps) ws)

-- the words that may come, each with the place behind it
abbrev pub words : Stage → List (Word × Stage)
words at_bpcert = (w.Bpcert, at_version) ∷ []
words at_version = (w.One, at_first_end One) ∷ (w.Two, at_first_end Two) ∷ (w.Three, at_first_end Three) ∷ []
words (at_first_end v) = (w.LineEnd, at_claim v) ∷ []
words (at_claim v) = (w.Claim, at_kind v) ∷ []
words (at_kind v) = (w.Optimal, at_optimal v) ∷ (w.Infeasible, infeasible_end v) ∷ (w.Bound, at_bound v) ∷ []
words (infeasible_end v) = (w.LineEnd, begin v Infeasible []) ∷ []
words (after_bound v b) = (w.LineEnd, begin v (Bound b) []) ∷ (w.Value, at_value v b) ∷ []
words (claim_end v k) = (w.LineEnd, at_point v k) ∷ []
words (at_point v k) = (w.Point, at_values v k []) ∷ []
words (at_values v k zs) = (w.LineEnd, begin v (claim_with k zs) []) ∷ (w.Space, at_coordinate v k zs) ∷ []
words (at_first_cut a ws) = (w.Cut, at_scale a ws of_cut) ∷ []
words (at_cuts a ws) = (w.Cut, at_scale a ws of_cut) ∷ (w.Leaf, at_scale a ws (of_leaf false)) ∷ (w.Open, at_scale a ws (of_leaf true)) ∷ (w.Split, at_variable a ws) ∷ []
words (at_node a ws) = (w.Leaf, at_scale a ws (of_leaf false)) ∷ (w.Open, at_scale a ws (of_leaf true)) ∷ (w.Split, at_variable a ws) ∷ []
words (at_rows a ws o s) = (rows_word a o, at_count a ws o s) ∷ []
words (at_pairs a ws o s ps last n) = if nat_eq n 0 then behind_rows a ws o s ps ∷ [] else (w.Space, at_row a ws o s ps last n) ∷ []
words (row_gap a ws o s ps r n) = (w.Space, at_multiplier a ws o s ps r n) ∷ []
words (at_priced a ws o s ps) = (w.All, leaf_end a ws o (proof_of s ps Every)) ∷ []
words (at_blocks a ws o s ps ks last n) = if nat_eq n 0 then (w.LineEnd, behind_leaf a ws o (proof_of s ps (These ks))) ∷ [] else (w.Space, at_block a ws o s ps ks last n) ∷ []
words (leaf_end a ws o p) = (w.LineEnd, behind_leaf a ws o p) ∷ []
words (variable_gap a ws i) = (w.Space, at_place a ws i) ∷ []
words (split_end a ws i z) = (w.LineEnd, at_node a (low_of i z ∷ ws)) ∷ []
words (at_end a t) = (w.End, last_end a t) ∷ []
words (last_end a t) = (w.LineEnd, over a t) ∷ []
words _ = []

-- the place behind a word that may come
abbrev pub after : Stage → Word → Stage
after at_bpcert word = at_version
after at_version w.Two = at_first_end Two
after at_version w.Three = at_first_end Three
after at_version word = at_first_end One
after (at_first_end v) word = at_claim v
after (at_claim v) word = at_kind v
after (at_kind v) w.Optimal = at_optimal v
after (at_kind v) w.Infeasible = infeasible_end v
after (at_kind v) word = at_bound v
after (infeasible_end v) word = begin v Infeasible []
after (after_bound v b) w.Value = at_value v b
after (after_bound v b) word = begin v (Bound b) []
after (claim_end v k) word = at_point v k
after (at_point v k) word = at_values v k []
after (at_values v k zs) w.Space = at_coordinate v k zs
after (at_values v k zs) word = begin v (claim_with k zs) []
after (at_first_cut a ws) word = at_scale a ws of_cut
after (at_cuts a ws) w.Leaf = at_scale a ws (of_leaf false)
after (at_cuts a ws) w.Open = at_scale a ws (of_leaf true)
after (at_cuts a ws) w.Split = at_variable a ws
after (at_cuts a ws) word = at_scale a ws of_cut
after (at_node a ws) w.Leaf = at_scale a ws (of_leaf false)
after (at_node a ws) w.Open = at_scale a ws (of_leaf true)
after (at_node a ws) word = at_variable a ws
after (at_rows a ws o s) word = at_count a ws o s
after (at_pairs a ws o s ps last n) w.Space = at_row a ws o s ps last n
after (at_pairs a ws o s ps last n) word = (behind_rows a ws o s ps).1
after (row_gap a ws o s ps r n) word = at_multiplier a ws o s ps r n
after (at_priced a ws o s ps) word = leaf_end a ws o (proof_of s ps Every)
after (at_blocks a ws o s ps ks last n) w.Space = at_block a ws o s ps ks last n
after (at_blocks a ws o s ps ks last n) word = behind_leaf a ws o (proof_of s ps (These ks))
after (leaf_end a ws o p) word = behind_leaf a ws o p
after (variable_gap a ws i) word = at_place a ws i
after (split_end a ws i z) word = at_node a (low_of i z ∷ ws)
after (at_end a t) word = last_end a t
after (last_end a t) word = over a t
after stage word = stage

-- the fault of a line's end
abbrev pub line_fault : Frame → Stage → Option Kind
line_fault frame (at_values v k zs) = end_fault frame (length zs + 1)
line_fault frame _ = None

-- whether a number may come, with a sign or without one
abbrev pub sort : Stage → Sort
sort (at_optimal v) = Whole
sort (at_bound v) = Whole
sort (at_value v b) = Whole
sort (at_coordinate v k zs) = Whole
sort (at_scale a ws o) = Natural
sort (at_count a ws o s) = Natural
sort (at_row a ws o s ps last n) = Natural
sort (at_multiplier a ws o s ps r n) = Whole
sort (at_priced a ws o s ps) = Natural
sort (at_block a ws o s ps ks last n) = Natural
sort (at_variable a ws) = Natural
sort (at_place a ws i) = Whole
sort _ = Wordy

-- a number is one of a sort
abbrev pub IsOfSort : Sort → ℤ → Type 0
IsOfSort Wordy z = ⊥
IsOfSort Natural z = z ≡ pos (nat_abs z)
IsOfSort Whole z = Unit {0}

-- the number comes of a node that is too deep, or of a cut that is one too many
abbrev pub is_deep_stage : Frame → Stage → Bool
is_deep_stage frame (at_scale a ws o) = is_excess frame a ws o
is_deep_stage frame (at_variable a ws) = is_deep frame.limits (length ws)
is_deep_stage frame _ = false

-- the kind of that fault
abbrev pub deep_kind : Stage → Kind
deep_kind (at_scale a ws o) = excess_kind o
deep_kind _ = Depth

-- the fault of a number
abbrev pub number_fault : Frame → Stage → ℤ → Option Kind
number_fault frame (at_optimal v) z = value_fault z
number_fault frame (at_bound v) z = value_fault z
number_fault frame (at_value v b) z = value_fault z
number_fault frame (at_coordinate v k zs) z = coordinate_fault frame (length zs + 1) z
number_fault frame (at_scale a ws o) z = first_fault frame a ws o (nat_abs z)
number_fault frame (at_row a ws o s ps last n) z = row_fault (may_have frame a o) last (nat_abs z)
number_fault frame (at_multiplier a ws o s ps r n) z = multiplier_fault (most_of o) (had_by a o) r z
number_fault frame (at_block a ws o s ps ks last n) z = block_fault frame last (nat_abs z)
number_fault frame (at_variable a ws) z = variable_fault frame (length ws) (nat_abs z)
number_fault frame (at_place a ws i) z = value_fault z
number_fault frame _ z = None

-- the place behind a number
abbrev pub behind_number : Stage → ℤ → Stage
behind_number (at_optimal v) z = claim_end v (optimal_of z)
behind_number (at_bound v) z = after_bound v z
behind_number (at_value v b) z = claim_end v (bound_of b z)
behind_number (at_coordinate v k zs) z = at_values v k (zs ++ z ∷ [])
behind_number (at_scale a ws o) z = at_rows a ws o (nat_abs z)
behind_number (at_count a ws o s) z = at_pairs a ws o s [] 0 (nat_abs z)
behind_number (at_row a ws o s ps last n) z = row_gap a ws o s ps (nat_abs z) n
behind_number (at_multiplier a ws o s ps r n) z = at_pairs a ws o s (ps ++ (r, z) ∷ []) r (n - 1)
behind_number (at_priced a ws o s ps) z = at_blocks a ws o s ps [] 0 (nat_abs z)
behind_number (at_block a ws o s ps ks last n) z = at_blocks a ws o s ps (ks ++ nat_abs z ∷ []) (nat_abs z) (n - 1)
behind_number (at_variable a ws) z = variable_gap a ws (nat_abs z)
behind_number (at_place a ws i) z = split_end a ws i z
behind_number stage z = stage

-- the tokens are those of a text that means the certificate
pub record IsOf (frame : Frame) (c : Cert) (ts : List Token) : Type 0 where
  pub version : Version
  pub written : Cert
  pub form : HasForm version written
  pub means : meant version written ≡ c
  pub tokens : ts ≡ tokens_of frame version written

module _ (frame : Frame) (c : Cert) where
  -- nothing more, and the certificate is the one that was read
  abbrev pub Over : Told → Tree → List Token → Type 0
  Over a t ts = (ts ≡ []) × (c ≡ whole_of a t)

  abbrev pub AfterTree : Told → Tree → List Token → Type 0
  AfterTree a t = Prefixed (Words (codes "end")) (Prefixed (LineEnd None) (Over a t))

  -- behind a whole tree
  abbrev pub Behind : Told → List Wait → Tree → List Token → Type 0
  Behind a [] t = AfterTree a t
  Behind a (low_of i z ∷ ws) t = Trees frame a.version (length a.cuts) (length (low_of i z ∷ ws)) a.had (λ high. Behind (passed a high) ws (Split i z t (meaning a high)))
  Behind a (high_of i z low ∷ ws) t = Behind a ws (Split i z low t)

  -- behind a leaf whose line has this proof
  abbrev pub BehindLeaf : Told → List Wait → Bool → Proof → List Token → Type 0
  BehindLeaf a ws o p = Behind (past a p) ws (leaf_of o (meant_proof a.had p))

  -- behind the lines of a tree
  abbrev pub BehindTree : Told → List Wait → Tree → List Token → Type 0
  BehindTree a ws t = Behind (passed a t) ws (meaning a t)

  -- a tree
  abbrev pub AtNode : Told → List Wait → List Token → Type 0
  AtNode a ws = Trees frame a.version (length a.cuts) (length ws) a.had (BehindTree a ws)

  -- cuts, and then a tree
  abbrev pub AtCuts : Told → List Wait → List Token → Type 0
  AtCuts a ws = Cuts frame (length a.cuts) (λ cuts. AtNode (with_cuts a cuts) ws)

  -- at least one cut, and then a tree
  abbrev pub AtFirstCut : Told → List Wait → List Token → Type 0
  AtFirstCut a ws = Cuts frame (length a.cuts) (λ cuts us. (0 < length cuts) × AtNode (with_cuts a cuts) ws us)

  -- behind the claim
  abbrev pub Begin : Version → Claim → List Wait → List Token → Type 0
  Begin Three claim ws = AtFirstCut (told Three claim) ws
  Begin v claim ws = AtNode (told v claim) ws

  abbrev pub LeafEnd : Told → List Wait → Bool → Proof → List Token → Type 0
  LeafEnd a ws o p = Prefixed (LineEnd None) (BehindLeaf a ws o p)

  abbrev pub AtBlocks : Told → List Wait → Bool → ℕ → List (ℕ × ℤ) → List ℕ → ℕ → ℕ → List Token → Type 0
  AtBlocks a ws o s ps ks last n = Blocks frame last n (λ ls. LeafEnd a ws o (proof_of s ps (These (ks ++ ls))))

  abbrev pub AtPriced : Told → List Wait → Bool → ℕ → List (ℕ × ℤ) → List Token → Type 0
  AtPriced a ws o s ps = Priced frame (λ q. LeafEnd a ws o (proof_of s ps q))

  -- behind the last of the rows
  abbrev pub BehindRows : Told → List Wait → Owner → ℕ → List (ℕ × ℤ) → List Token → Type 0
  BehindRows a ws (of_leaf o) s ps = Prefixed (Words (codes " priced ")) (AtPriced a ws o s ps)
  BehindRows a ws of_cut s ps = Prefixed (LineEnd None) (AtCuts (with_cut a s ps) ws)

  abbrev pub AtPairs : Told → List Wait → Owner → ℕ → List (ℕ × ℤ) → ℕ → ℕ → List Token → Type 0
  AtPairs a ws o s ps last n = Pairs (may_have frame a o) (most_of o) (had_by a o) last n (λ qs. BehindRows a ws o s (ps ++ qs))

  -- one pair or block less is still to come
  abbrev pub AtMultiplier : Told → List Wait → Owner → ℕ → List (ℕ × ℤ) → ℕ → ℕ → List Token → Type 0
  AtMultiplier a ws o s ps r n = Valued (multiplier_fault (most_of o) (had_by a o) r) (λ z. AtPairs a ws o s (ps ++ (r, z) ∷ []) r (n - 1))

  abbrev pub RowGap : Told → List Wait → Owner → ℕ → List (ℕ × ℤ) → ℕ → ℕ → List Token → Type 0
  RowGap a ws o s ps r n = Prefixed (Words (codes " ")) (AtMultiplier a ws o s ps r n)

  abbrev pub AtRow : Told → List Wait → Owner → ℕ → List (ℕ × ℤ) → ℕ → ℕ → List Token → Type 0
  AtRow a ws o s ps last n = Numbered (row_fault (may_have frame a o) last) (λ r. RowGap a ws o s ps r n)

  abbrev pub AtBlock : Told → List Wait → Bool → ℕ → List (ℕ × ℤ) → List ℕ → ℕ → ℕ → List Token → Type 0
  AtBlock a ws o s ps ks last n = Numbered (block_fault frame last) (λ k. AtBlocks a ws o s ps (ks ++ k ∷ []) k (n - 1))

  abbrev pub AtCount : Told → List Wait → Owner → ℕ → List Token → Type 0
  AtCount a ws o s = Numbered (λ _. None) (AtPairs a ws o s [] 0)

  abbrev pub AtRows : Told → List Wait → Owner → ℕ → List Token → Type 0
  AtRows a ws o s = Prefixed (Words (rows_text a o)) (AtCount a ws o s)

  abbrev pub AtScale : Told → List Wait → Owner → List Token → Type 0
  AtScale a ws o = Numbered (first_fault frame a ws o) (AtRows a ws o)

  abbrev pub SplitEnd : Told → List Wait → ℕ → ℤ → List Token → Type 0
  SplitEnd a ws i z = Prefixed (LineEnd None) (AtNode a (low_of i z ∷ ws))

  abbrev pub AtPlace : Told → List Wait → ℕ → List Token → Type 0
  AtPlace a ws i = Valued value_fault (SplitEnd a ws i)

  abbrev pub VariableGap : Told → List Wait → ℕ → List Token → Type 0
  VariableGap a ws i = Prefixed (Words (codes " ")) (AtPlace a ws i)

  abbrev pub AtVariable : Told → List Wait → List Token → Type 0
  AtVariable a ws = Numbered (variable_fault frame (length ws)) (VariableGap a ws)

  abbrev pub AtValues : Version → Known → List ℤ → List Token → Type 0
  AtValues v k zs = Points frame (length zs + 1) (λ ys. Begin v (claim_with k (zs ++ ys)) [])

  abbrev pub AtCoordinate : Version → Known → List ℤ → List Token → Type 0
  AtCoordinate v k zs = Valued (coordinate_fault frame (length zs + 1)) (λ z. AtValues v k (zs ++ z ∷ []))

  abbrev pub AtPoint : Version → Known → List Token → Type 0
  AtPoint v k = Prefixed (Words (codes "point")) (AtValues v k [])

  abbrev pub ClaimEnd : Version → Known → List Token → Type 0
  ClaimEnd v k = Prefixed (LineEnd None) (AtPoint v k)

  abbrev pub AtValue : Version → ℤ → List Token → Type 0
  AtValue v b = Valued value_fault (λ z. ClaimEnd v (bound_of b z))

  abbrev pub AfterBound : Version → ℤ → List Token → Type 0
  AfterBound v b ts = Prefixed (LineEnd None) (Begin v (Bound b) []) ts ⊎ Prefixed (Words (codes " value ")) (AtValue v b) ts

  abbrev pub AtBound : Version → List Token → Type 0
  AtBound v = Valued value_fault (AfterBound v)

  abbrev pub InfeasibleEnd : Version → List Token → Type 0
  InfeasibleEnd v = Prefixed (LineEnd None) (Begin v Infeasible [])

  abbrev pub AtOptimal : Version → List Token → Type 0
  AtOptimal v = Valued value_fault (λ z. ClaimEnd v (optimal_of z))

  abbrev pub AtKind : Version → List Token → Type 0
  AtKind v ts = Prefixed (Words (codes "optimal ")) (AtOptimal v) ts ⊎ (Prefixed (Words (codes "infeasible")) (InfeasibleEnd v) ts ⊎ Prefixed (Words (codes "bound ")) (AtBound v) ts)

  abbrev pub AtClaim : Version → List Token → Type 0
  AtClaim v = Prefixed (Words (codes "claim ")) (AtKind v)

  abbrev pub AtFirstEnd : Version → List Token → Type 0
  AtFirstEnd v = Prefixed (LineEnd None) (AtClaim v)

  abbrev pub AtVersion : List Token → Type 0
  AtVersion ts = Prefixed (Words (codes "1")) (AtFirstEnd One) ts ⊎ (Prefixed (Words (codes "2")) (AtFirstEnd Two) ts ⊎ Prefixed (Words (codes "3")) (AtFirstEnd Three) ts)

  -- the tokens that may follow at a place, where the whole is to be the certificate
  abbrev pub Follows : Stage → List Token → Type 0
  Follows at_bpcert = Prefixed (Words (codes "bpcert ")) AtVersion
  Follows at_version = AtVersion
  Follows (at_first_end v) = AtFirstEnd v
  Follows (at_claim v) = AtClaim v
  Follows (at_kind v) = AtKind v
  Follows (at_optimal v) = AtOptimal v
  Follows (infeasible_end v) = InfeasibleEnd v
  Follows (at_bound v) = AtBound v
  Follows (after_bound v b) = AfterBound v b
  Follows (at_value v b) = AtValue v b
  Follows (claim_end v k) = ClaimEnd v k
  Follows (at_point v k) = AtPoint v k
  Follows (at_values v k zs) = AtValues v k zs
  Follows (at_coordinate v k zs) = AtCoordinate v k zs
  Follows (at_first_cut a ws) = AtFirstCut a ws
  Follows (at_cuts a ws) = AtCuts a ws
  Follows (at_node a ws) = AtNode a ws
  Follows (at_scale a ws o) = AtScale a ws o
  Follows (at_rows a ws o s) = AtRows a ws o s
  Follows (at_count a ws o s) = AtCount a ws o s
  Follows (at_pairs a ws o s ps last n) = AtPairs a ws o s ps last n
  Follows (at_row a ws o s ps last n) = AtRow a ws o s ps last n
  Follows (row_gap a ws o s ps r n) = RowGap a ws o s ps r n
  Follows (at_multiplier a ws o s ps r n) = AtMultiplier a ws o s ps r n
  Follows (at_priced a ws o s ps) = AtPriced a ws o s ps
  Follows (at_blocks a ws o s ps ks last n) = AtBlocks a ws o s ps ks last n
  Follows (at_block a ws o s ps ks last n) = AtBlock a ws o s ps ks last n
  Follows (leaf_end a ws o p) = LeafEnd a ws o p
  Follows (at_variable a ws) = AtVariable a ws
  Follows (variable_gap a ws i) = VariableGap a ws i
  Follows (at_place a ws i) = AtPlace a ws i
  Follows (split_end a ws i z) = SplitEnd a ws i z
  Follows (at_end a t) = AfterTree a t
  Follows (last_end a t) = Prefixed (LineEnd None) (Over a t)
  Follows (over a t) = Over a t
