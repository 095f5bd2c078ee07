-- The text of a certificate: tokens, each with the fault that it has in its place, if any.
use Rattle.std.specs.Prelude.{◌≡◌, ℕ, suc, zero, ◌<◌, ◌+◌, ◌-◌, ◌/◌, ◌%◌, Bool, true, false, not, ◌&&◌, ◌||◌, List, [], ◌∷◌, ◌++◌, length, codes, Option, Some, None, ℤ, pos, negsuc, nat_abs, if◌then◌else◌, nat_eq, nat_lt, nat_le}
use Rattle.std.specs.List.{flat_map}
use Rattle.std.specs.Ordering.{int_eq}
use Rattle.bp_theory.specs.Limits.{greatest_depth, greatest_multiplier, greatest_scale, number_limit}
use Rattle.bp_theory.specs.declared.Limits.{Limits}
use Rattle.cert_format.specs.declared.fault.CertKind.{CertKind}
use Rattle.cert_format.specs.declared.fault.CertKind.TheVariants.{TooLarge, Number, Length, Depth, Limit}
use Rattle.cert_format.specs.Cert.{Picked, Every, These, Proof, Tree, Shut, Open, Split, Claim, Optimal, Infeasible, Bound, BoundValue, Cut, Cert, Frame, multiplier, changed}

-- the kinds of faults of reading
abbrev pub Kind : Type 0
Kind = CertKind

-- a piece of the text: words with their spaces, a number, or a line's end
pub data Token : Type 0 where
  Words : List ℕ → Token
  Figure : ℤ → Option Kind → Token
  LineEnd : Option Kind → Token

-- the last digits of a number, at most so many, in front of a text
unfoldable pub digits_before : ℕ → ℕ → List ℕ → List ℕ
digits_before zero n text = text
digits_before (suc count) n text = elim (nat_lt n 10) as (λ _. List ℕ) [ true ↦ (48 + n % 10) ∷ text | false ↦ digits_before count (n / 10) ((48 + n % 10) ∷ text) ]

-- the decimal digits of a number of any size
unfoldable pub numeral : ℕ → List ℕ
numeral n = digits_before (n + 1) n []

-- the same with a sign where it is below 0
abbrev pub signed_numeral : ℤ → List ℕ
signed_numeral (pos n) = numeral n
signed_numeral (negsuc n) = 45 ∷ numeral (n + 1)

-- the bytes of a token
abbrev pub token_text : Token → List ℕ
token_text (Words bytes) = bytes
token_text (Figure z fault) = signed_numeral z
token_text (LineEnd fault) = 10 ∷ []

-- the bytes of tokens
abbrev pub text_of : List Token → List ℕ
text_of tokens = flat_map token_text tokens

-- the fault of a token, if any
abbrev pub fault_of : Token → Option Kind
fault_of (Words bytes) = None
fault_of (Figure z fault) = fault
fault_of (LineEnd fault) = fault

-- the first kind whose test is true
abbrev pub first_kind : List (Bool × Kind) → Option Kind
first_kind [] = None
first_kind (test ∷ tests) = if test.0 then Some test.1 else first_kind tests

-- the magnitude is above a limit
abbrev pub is_past : ℕ → ℤ → Bool
is_past limit z = nat_lt limit (nat_abs z)

-- what is wrong with a value of the objective or a split's place
abbrev pub value_fault : ℤ → Option Kind
value_fault z = first_kind ((is_past (number_limit - 1) z, TooLarge) ∷ [])

-- what is wrong with a point's value for the variable with this number
abbrev pub coordinate_fault : Frame → ℕ → ℤ → Option Kind
coordinate_fault frame number z = first_kind ((is_past (number_limit - 1) z, TooLarge) ∷ (nat_lt frame.variables number, Length) ∷ [])

-- what is wrong with a point's end, where the variable with this number would come next
abbrev pub end_fault : Frame → ℕ → Option Kind
end_fault frame number = first_kind ((nat_le number frame.variables, Length) ∷ [])

-- what is wrong with a row behind another one: it doesn't ascend, or may not be named
abbrev pub row_fault : (ℕ → Bool) → ℕ → ℕ → Option Kind
row_fault named last row = first_kind ((not (nat_lt last row && named row), Number) ∷ [])

-- what is wrong with a row's multiplier: it is past the limit, or what the row had
abbrev pub multiplier_fault : ℕ → List (ℕ × ℤ) → ℕ → ℤ → Option Kind
multiplier_fault limit had row p = first_kind ((is_past limit p, TooLarge) ∷ (int_eq p (multiplier had row), Number) ∷ [])

-- what is wrong with a block behind another one
abbrev pub block_fault : Frame → ℕ → ℕ → Option Kind
block_fault frame last k = first_kind ((not (nat_lt last k && nat_le k frame.blocks), Number) ∷ [])

-- a node is deeper than the limits allow
abbrev pub is_deep : Limits → ℕ → Bool
is_deep limits depth = nat_lt (greatest_depth limits) depth

-- what is wrong with the scale of a leaf at this depth
abbrev pub scale_fault : Frame → ℕ → ℕ → Option Kind
scale_fault frame depth scale = first_kind ((is_deep frame.limits depth, Depth) ∷ (nat_lt greatest_scale scale, TooLarge) ∷ [])

-- what is wrong with the variable of a split at this depth
abbrev pub variable_fault : Frame → ℕ → ℕ → Option Kind
variable_fault frame depth var = first_kind ((is_deep frame.limits depth, Depth) ∷ (not (nat_lt 0 var && nat_le var frame.variables), Number) ∷ [])

-- what is wrong with the divisor of a cut behind so many others
abbrev pub divisor_fault : ℕ → ℕ → Option Kind
divisor_fault earlier divisor = first_kind ((nat_le 256 earlier, Limit) ∷ (nat_lt greatest_scale divisor, TooLarge) ∷ (nat_eq divisor 0, Number) ∷ [])

-- a value of the objective, a variable's value or a split's place
abbrev pub value : ℤ → Token
value z = Figure z (value_fault z)

-- the length of a list that follows
abbrev pub count : ℕ → Token
count n = Figure (pos n) None

-- the values of a point from the variable with this number on, and the line's end
abbrev pub point_values : Frame → ℕ → List ℤ → List Token
point_values frame number [] = LineEnd (end_fault frame number) ∷ []
point_values frame number (z ∷ zs) =
    Words (codes " ") ∷ Figure z (coordinate_fault frame number z) ∷ point_values frame (number + 1) zs

-- the line of a point
abbrev pub point_line : Frame → List ℤ → List Token
point_line frame zs = Words (codes "point") ∷ point_values frame 1 zs

-- the line of a claim, and that of its point
abbrev pub claim_lines : Frame → Claim → List Token
claim_lines frame (Optimal v zs) = Words (codes "claim ") ∷ Words (codes "optimal ") ∷ value v ∷ LineEnd None ∷ point_line frame zs
claim_lines frame Infeasible = Words (codes "claim ") ∷ Words (codes "infeasible") ∷ LineEnd None ∷ []
claim_lines frame (Bound b) = Words (codes "claim ") ∷ Words (codes "bound ") ∷ value b ∷ LineEnd None ∷ []
claim_lines frame (BoundValue b v zs) = Words (codes "claim ") ∷ Words (codes "bound ") ∷ value b ∷ Words (codes " value ") ∷ value v ∷ LineEnd None ∷ point_line frame zs

-- a row that a leaf may name where there are so many cuts: a master row, a link row or a cut
abbrev pub may_name : Frame → ℕ → ℕ → Bool
may_name frame cuts row = (nat_le row frame.rows && frame.is_master row) || (nat_lt frame.rows row && nat_le row (frame.rows + frame.links + cuts))

-- a row that a cut may name: a master row or an earlier cut
abbrev pub may_combine : Frame → ℕ → ℕ → Bool
may_combine frame cuts row = (nat_le row frame.rows && frame.is_master row) || (nat_lt (frame.rows + frame.links) row && nat_le row (frame.rows + frame.links + cuts))

-- rows with multipliers: the rows ascend behind the last one and may be named; a multiplier is within a limit and not what the row had
abbrev pub pairs_behind : (ℕ → Bool) → ℕ → List (ℕ × ℤ) → ℕ → List (ℕ × ℤ) → List Token
pairs_behind named limit had last [] = []
pairs_behind named limit had last (pair ∷ pairs) =
    Words (codes " ") ∷ Figure (pos pair.0) (row_fault named last pair.0)
    ∷ Words (codes " ") ∷ Figure pair.1 (multiplier_fault limit had pair.0 pair.1)
    ∷ pairs_behind named limit had pair.0 pairs

-- the blocks ascend behind the last one and are in range
abbrev pub blocks_behind : Frame → ℕ → List ℕ → List Token
blocks_behind frame last [] = []
blocks_behind frame last (k ∷ ks) = Words (codes " ") ∷ Figure (pos k) (block_fault frame last k) ∷ blocks_behind frame k ks

-- the priced blocks
abbrev pub picked_words : Frame → Picked → List Token
picked_words frame Every = Words (codes "all") ∷ []
picked_words frame (These ks) = count (length ks) ∷ blocks_behind frame 0 ks

-- the versions of the text
pub data Version : Type 0 where
  One : Version
  Two : Version
  Three : Version

-- the word of a version
abbrev pub version_word : Version → List ℕ
version_word One = codes "1"
version_word Two = codes "2"
version_word Three = codes "3"

-- the word before a leaf's multipliers
abbrev pub pairs_word : Version → List ℕ
pairs_word One = codes " rows "
pairs_word _ = codes " change "

-- the multipliers that the next leaf changes, behind a leaf with this proof: none in version 1
abbrev pub kept : Version → List (ℕ × ℤ) → Proof → List (ℕ × ℤ)
kept One had proof = []
kept _ had proof = changed had proof.pairs

-- the multipliers that the next leaf changes, behind a tree
abbrev pub kept_behind : Version → List (ℕ × ℤ) → Tree → List (ℕ × ℤ)
kept_behind version had (Shut proof) = kept version had proof
kept_behind version had (Open proof) = kept version had proof
kept_behind version had (Split var at low high) = kept_behind version (kept_behind version had low) high

-- the line of a leaf, behind its first word
abbrev pub leaf_line : Frame → Version → ℕ → ℕ → List (ℕ × ℤ) → Proof → List Token
leaf_line frame version cuts depth had proof =
    Figure (pos proof.scale) (scale_fault frame depth proof.scale)
    ∷ Words (pairs_word version) ∷ count (length proof.pairs) ∷ pairs_behind (may_name frame cuts) (greatest_multiplier) had 0 proof.pairs
    ++ Words (codes " priced ") ∷ picked_words frame proof.picked ++ LineEnd None ∷ []

-- the lines of a tree, in preorder
abbrev pub tree_lines : Frame → Version → ℕ → ℕ → List (ℕ × ℤ) → Tree → List Token
tree_lines frame version cuts depth had (Shut proof) = Words (codes "leaf ") ∷ leaf_line frame version cuts depth had proof
tree_lines frame version cuts depth had (Open proof) = Words (codes "open ") ∷ leaf_line frame version cuts depth had proof
tree_lines frame version cuts depth had (Split var at low high) =
    Words (codes "split ") ∷ Figure (pos var) (variable_fault frame depth var)
    ∷ Words (codes " ") ∷ value at ∷ LineEnd None ∷ tree_lines frame version cuts (depth + 1) had low
    ++ tree_lines frame version cuts (depth + 1) (kept_behind version had low) high

-- the lines of cuts behind so many earlier ones
abbrev pub cut_lines : Frame → ℕ → List Cut → List Token
cut_lines frame earlier [] = []
cut_lines frame earlier (cut ∷ cuts) =
    Words (codes "cut ") ∷ Figure (pos cut.divisor) (divisor_fault earlier cut.divisor)
    ∷ Words (codes " rows ") ∷ count (length cut.pairs) ∷ pairs_behind (may_combine frame earlier) greatest_scale [] 0 cut.pairs
    ++ LineEnd None ∷ cut_lines frame (earlier + 1) cuts

-- the tokens of a certificate as it is written, where a leaf's pairs are those of its line
abbrev pub tokens_of : Frame → Version → Cert → List Token
tokens_of frame version cert =
    Words (codes "bpcert ") ∷ Words (version_word version) ∷ LineEnd None ∷ claim_lines frame cert.claim
    ++ cut_lines frame 0 cert.cuts ++ tree_lines frame version (length cert.cuts) 0 [] cert.tree
    ++ Words (codes "end") ∷ LineEnd None ∷ []

-- the proof that a leaf's line means
abbrev pub meant_proof : List (ℕ × ℤ) → Proof → Proof
meant_proof had proof = record { scale = proof.scale; pairs = changed had proof.pairs; picked = proof.picked }

-- the tree that its lines mean: each leaf with its own multipliers
abbrev pub meant_tree : Version → List (ℕ × ℤ) → Tree → Tree
meant_tree version had (Shut proof) = Shut (meant_proof had proof)
meant_tree version had (Open proof) = Open (meant_proof had proof)
meant_tree version had (Split var at low high) = Split var at (meant_tree version had low) (meant_tree version (kept_behind version had low) high)

-- the certificate that is meant by a written one
abbrev pub meant : Version → Cert → Cert
meant version written = record { claim = written.claim; cuts = written.cuts; tree = meant_tree version [] written.tree }

-- the certificates that are written and read: those of versions 1 and 2 have no cuts, and those of version 3 some
abbrev pub HasForm : Version → Cert → Type 0
HasForm One cert = cert.cuts ≡ []
HasForm Two cert = cert.cuts ≡ []
HasForm Three cert = 0 < length cert.cuts
