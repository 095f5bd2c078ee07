-- Parts of the grammar as sets of token lists, each in front of what may follow it.
use Rattle.std.specs.Prelude.{◌≡◌, ℕ, Bool, List, ◌∷◌, ◌++◌, length, Option, ℤ, pos}
use Rattle.cert_format.specs.Cert.{Picked, Tree, Cut, Frame}
use Rattle.cert_format.specs.Text.{Kind, Token, Figure, Version, point_values, pairs_behind, blocks_behind, picked_words, cut_lines, tree_lines}

-- a token in front of others
abbrev pub Prefixed : Token → (List Token → Type 0) → List Token → Type 0
Prefixed x M ts = (us : List Token) × (ts ≡ x ∷ us) × M us

-- a natural number in front of what may follow it
abbrev pub Numbered : (ℕ → Option Kind) → (ℕ → List Token → Type 0) → List Token → Type 0
Numbered f M ts = (n : ℕ) × (us : List Token) × (ts ≡ Figure (pos n) (f n) ∷ us) × M n us

-- a number with its sign in front of what may follow it
abbrev pub Valued : (ℤ → Option Kind) → (ℤ → List Token → Type 0) → List Token → Type 0
Valued f M ts = (z : ℤ) × (us : List Token) × (ts ≡ Figure z (f z) ∷ us) × M z us

-- the values of a point from a variable on, in front of what may follow them
abbrev pub Points : Frame → ℕ → (List ℤ → List Token → Type 0) → List Token → Type 0
Points frame number G ts = (zs : List ℤ) × (us : List Token) × G zs us × (ts ≡ point_values frame number zs ++ us)

-- so many rows with multipliers, in front of what may follow them
abbrev pub Pairs : (ℕ → Bool) → ℕ → List (ℕ × ℤ) → ℕ → ℕ → (List (ℕ × ℤ) → List Token → Type 0) → List Token → Type 0
Pairs named limit had last n G ts = (ps : List (ℕ × ℤ)) × (us : List Token) × (length ps ≡ n) × G ps us × (ts ≡ pairs_behind named limit had last ps ++ us)

-- so many blocks, in front of what may follow them
abbrev pub Blocks : Frame → ℕ → ℕ → (List ℕ → List Token → Type 0) → List Token → Type 0
Blocks frame last n G ts = (ks : List ℕ) × (us : List Token) × (length ks ≡ n) × G ks us × (ts ≡ blocks_behind frame last ks ++ us)

-- the priced blocks, in front of what may follow them
abbrev pub Priced : Frame → (Picked → List Token → Type 0) → List Token → Type 0
Priced frame G ts = (p : Picked) × (us : List Token) × G p us × (ts ≡ picked_words frame p ++ us)

-- cuts behind so many earlier ones, in front of what may follow them
abbrev pub Cuts : Frame → ℕ → (List Cut → List Token → Type 0) → List Token → Type 0
Cuts frame earlier G ts = (cuts : List Cut) × (us : List Token) × G cuts us × (ts ≡ cut_lines frame earlier cuts ++ us)

-- a tree at a depth, in front of what may follow it
abbrev pub Trees : Frame → Version → ℕ → ℕ → List (ℕ × ℤ) → (Tree → List Token → Type 0) → List Token → Type 0
Trees frame version cuts depth had G ts = (t : Tree) × (us : List Token) × G t us × (ts ≡ tree_lines frame version cuts depth had t ++ us)
