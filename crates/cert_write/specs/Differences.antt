-- How one leaf's multipliers differ from those of another: the changes that make them of those.
use Rattle.std.specs.Prelude.{ℕ, List, [], ◌∷◌, ℤ, pos, if◌then◌else◌, nat_eq, nat_lt}
use Rattle.std.specs.Ordering.{int_eq}
use Rattle.cert_format.specs.Cert.{Proof, Tree, Shut, Open, Split, Cert}

-- the changes behind a pair, where others differ from the pairs behind it by these changes
abbrev pub against : ℕ × ℤ → (List (ℕ × ℤ) → List (ℕ × ℤ)) → List (ℕ × ℤ) → List (ℕ × ℤ)
against h rest [] = (h.0, pos 0) ∷ rest []
against h rest (n ∷ ns) =
    if nat_lt n.0 h.0 then n ∷ against h rest ns
    else (if nat_eq n.0 h.0 then (if int_eq n.1 h.1 then rest ns else n ∷ rest ns) else (h.0, pos 0) ∷ rest (n ∷ ns))

-- each row whose multiplier differs, with its new one
abbrev pub difference : List (ℕ × ℤ) → List (ℕ × ℤ) → List (ℕ × ℤ)
difference [] now = now
difference (h ∷ had) now = against h (difference had) now

-- a leaf's proof as a line of versions 2 and 3 has it behind these multipliers
abbrev pub changing : List (ℕ × ℤ) → Proof → Proof
changing had proof = record { scale = proof.scale; pairs = difference had proof.pairs; picked = proof.picked }

-- the multipliers of a tree's last leaf
abbrev pub last_pairs : Tree → List (ℕ × ℤ)
last_pairs (Shut proof) = proof.pairs
last_pairs (Open proof) = proof.pairs
last_pairs (Split var at low high) = last_pairs high

-- a tree as the lines of versions 2 and 3 have it
abbrev pub changing_tree : List (ℕ × ℤ) → Tree → Tree
changing_tree had (Shut proof) = Shut (changing had proof)
changing_tree had (Open proof) = Open (changing had proof)
changing_tree had (Split var at low high) = Split var at (changing_tree had low) (changing_tree (last_pairs low) high)

-- a certificate as its text of versions 2 and 3 has it
abbrev pub changing_cert : Cert → Cert
changing_cert cert = record { claim = cert.claim; cuts = cert.cuts; tree = changing_tree [] cert.tree }
