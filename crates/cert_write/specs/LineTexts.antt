-- The text of a tree's lines, one by one.
use Rattle.std.specs.Prelude.{ℕ, ◌+◌, List, [], ◌∷◌, ◌++◌, codes, ℤ}
use Rattle.std.specs.List.{flat_map}
use Rattle.cert_format.specs.Text.{Version, numeral, signed_numeral}
use Rattle.cert_format.specs.Plain.{proof_text}
use Rattle.cert_format.specs.Preorder.{Line, shut_line, open_line, split_line}
use Rattle.cert_write.specs.Changes.{changing_proof}

-- a split's line
abbrev pub split_text : ℕ → ℤ → List ℕ
split_text v at = codes "split " ++ numeral (v + 1) ++ codes " " ++ signed_numeral at ++ codes "\n"

-- a node's line, where a proof has the multipliers of the line
abbrev pub line_text : Version → Line → List ℕ
line_text version (shut_line proof) = codes "leaf " ++ proof_text version proof
line_text version (open_line proof) = codes "open " ++ proof_text version proof
line_text version (split_line v at) = split_text v at

-- lines one behind another
abbrev pub lines_text : Version → List Line → List ℕ
lines_text version lines = flat_map (line_text version) lines

-- a line with its leaf's changes of these multipliers
abbrev pub changing_line : List (ℕ × ℤ) → Line → Line
changing_line had (shut_line proof) = shut_line (changing_proof had proof)
changing_line had (open_line proof) = open_line (changing_proof had proof)
changing_line had (split_line v at) = split_line v at

-- the multipliers of the last leaf up to a line, behind a leaf with these multipliers
abbrev pub mults_behind : List (ℕ × ℤ) → Line → List (ℕ × ℤ)
mults_behind had (shut_line proof) = proof.mults
mults_behind had (open_line proof) = proof.mults
mults_behind had (split_line v at) = had

-- lines with their leaves' changes, behind a leaf with these multipliers
abbrev pub changing_lines : List (ℕ × ℤ) → List Line → List Line
changing_lines had [] = []
changing_lines had (line ∷ lines) = changing_line had line ∷ changing_lines (mults_behind had line) lines

-- the multipliers of the last leaf of some lines, behind a leaf with these multipliers
abbrev pub mults_after : List (ℕ × ℤ) → List Line → List (ℕ × ℤ)
mults_after had [] = had
mults_after had (line ∷ lines) = mults_after (mults_behind had line) lines
