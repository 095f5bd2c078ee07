-- Each part of the grammar is read, or has a first fault.
use Rattle.std.proofs.Common.{◌≡◌, ◌⊎◌, ℕ, zero, suc, ◌+◌, ◌<◌, ◌≤◌, Bool, List, [], ◌∷◌, ◌++◌, length, codes, Option, None, ℤ, pos, refl, sym, ap, ◌∙◌, subst, inl, inr, ⊎_elim, arith}
use Rattle.cert_format.specs.Cert.{Picked, Every, These, Frame}
use Rattle.cert_format.specs.Text.{Kind, coordinate_fault, end_fault, row_fault, multiplier_fault, block_fault, Token, Words, Figure, LineEnd, token_text, count, point_values, pairs_behind, blocks_behind, picked_words}
use Rattle.cert_format.specs.Fault.{EndsToken}
use Rattle.cert_format.specs.Grammar.{Prefixed, Numbered, Valued, Points, Pairs, Blocks, Priced}
use Rattle.cert_format.proofs.Verdicts.{Verdict, relabel, IsOff, begins_with, off_words, off_end, off_figure, other_first, Shorter, natural_step, figure_step, fixed_step}

-- a token that is off under another name
pub off_by : (y x : Token) (t : List ℕ) → y ≡ x → IsOff x t → IsOff y t
off_by y x t same off = let P : Token → Type 0 = λ w. IsOff w t in subst P (sym same) off

pub points_first : (frame : Frame) (number : ℕ) (zs : List ℤ) (us : List Token) (y : Token) (ys : List Token) → y ∷ ys ≡ point_values frame number zs ++ us → (y ≡ LineEnd (end_fault frame number)) ⊎ (y ≡ Words (codes " "))
points_first frame number [] us y ys is = inl cc
points_first frame number (z ∷ zs) us y ys is = inr cc

pub points_over : (frame : Frame) (number : ℕ) (zs : List ℤ) (us : List Token) → [] ≡ point_values frame number zs ++ us → ⊥
points_over frame number [] us is = cc
points_over frame number (z ∷ zs) us is = cc

pub points_end : (frame : Frame) (number : ℕ) (G : List ℤ → List Token → Type 0) (zs : List ℤ) (us ts : List Token) → G zs us → LineEnd (end_fault frame number) ∷ ts ≡ point_values frame number zs ++ us → G [] ts
points_end frame number G [] us ts g is = let e : ts ≡ us = cc in let P : List Token → Type 0 = G [] in subst P (sym e) g
points_end frame number G (z ∷ zs) us ts g is = let wrong : LineEnd (end_fault frame number) ≡ Words (codes " ") = cc in cc

pub points_more : (frame : Frame) (number : ℕ) (G : List ℤ → List Token → Type 0) (zs : List ℤ) (us : List Token) (y : Token) (ys : List Token) → G zs us → Words (codes " ") ∷ y ∷ ys ≡ point_values frame number zs ++ us
    → (z : ℤ) × (y ≡ Figure z (coordinate_fault frame number z)) × Points frame (number + 1) (λ ws. G (z ∷ ws)) ys
points_more frame number G [] us y ys g is = let wrong : LineEnd (end_fault frame number) ≡ Words (codes " ") = cc in absurd cc
points_more frame number G (z ∷ zs) us y ys g is = let e : y ≡ Figure z (coordinate_fault frame number z) = cc in let f : ys ≡ point_values frame (number + 1) zs ++ us = cc in (z, e, (zs, us, g, f))

pub points_short : (frame : Frame) (number : ℕ) (G : List ℤ → List Token → Type 0) (zs : List ℤ) (us : List Token) → Words (codes " ") ∷ [] ≡ point_values frame number zs ++ us → ⊥
points_short frame number G [] us is = cc
points_short frame number G (z ∷ zs) us is = cc

points_step : (frame : Frame) (number : ℕ) (G : List ℤ → List Token → Type 0) → ((zs : List ℤ) → (us : List Token) × G zs us) → (t : List ℕ) → ((rest : List ℕ) → Shorter rest t → Verdict (G []) rest)
    → ((z : ℤ) (rest : List ℕ) → Shorter rest t → Verdict (Points frame (number + 1) (λ zs. G (z ∷ zs))) rest) → Verdict (Points frame number G) t
points_step frame number G some t stop again = ⊎_elim
    (λ line. fixed_step (Points frame number G) (LineEnd (end_fault frame number)) 10 [] t refl (λ r. tt)
    (λ y ys m. ⊎_elim (λ e. inl e) (λ e. inr (off_by y (Words (codes " ")) t e (off_words 32 [] t (other_first 32 10 line.0 t line.1 (λ wrong. omega arith))))) (points_first frame number m.0 m.1 y ys m.3))
    (some []).0 ([], (some []).0, (some []).1, refl) (λ m. points_over frame number m.0 m.1 m.3)
    (λ rest less. relabel (G []) (λ us. Points frame number G (LineEnd (end_fault frame number) ∷ us)) rest (λ ts g. ([], ts, g, refl)) (λ ts m. points_end frame number G m.0 m.1 ts m.2 m.3) (stop rest less)))
    (λ other. fixed_step (Points frame number G) (Words (codes " ")) 32 [] t refl (λ r. tt)
    (λ y ys m. ⊎_elim (λ e. inr (off_by y (LineEnd (end_fault frame number)) t e (off_end (end_fault frame number) t other))) (λ e. inl e) (points_first frame number m.0 m.1 y ys m.3))
    (Figure (pos 0) (coordinate_fault frame number (pos 0)) ∷ (point_values frame (number + 1) [] ++ (some (pos 0 ∷ [])).0)) ((pos 0 ∷ []), (some (pos 0 ∷ [])).0, (some (pos 0 ∷ [])).1, refl)
    (λ m. points_over frame number m.0 m.1 m.3)
    (λ rest less. figure_step (λ us. Points frame number G (Words (codes " ") ∷ us)) (coordinate_fault frame number) rest
    (λ y ys m. let i = points_more frame number G m.0 m.1 y ys m.2 m.3 in inl (i.0, i.1))
    (λ z. (point_values frame (number + 1) [] ++ (some (z ∷ [])).0, ((z ∷ []), (some (z ∷ [])).0, (some (z ∷ [])).1, refl)))
    (λ m. points_short frame number G m.0 m.1 m.3)
    (λ z tail shorter. relabel (Points frame (number + 1) (λ zs. G (z ∷ zs))) (λ us. Points frame number G (Words (codes " ") ∷ Figure z (coordinate_fault frame number z) ∷ us)) tail
    (λ ts m. ((z ∷ m.0), m.1, m.2, ap (λ (xs : List Token). Words (codes " ") ∷ Figure z (coordinate_fault frame number z) ∷ xs) m.3))
    (λ ts m. let i = points_more frame number G m.0 m.1 (Figure z (coordinate_fault frame number z)) ts m.2 m.3 in same_value z i.0 ts i.1 i.2)
    (again z tail (let a : length rest < length t = less in let b : length tail < length rest = shorter in omega arith)))))
    (begins_with 10 t) where
      same_value : (z w : ℤ) (ts : List Token) → Figure z (coordinate_fault frame number z) ≡ Figure w (coordinate_fault frame number w) → Points frame (number + 1) (λ zs. G (w ∷ zs)) ts → Points frame (number + 1) (λ zs. G (z ∷ zs)) ts
      same_value z w ts is m = let e : w ≡ z = cc in let P : ℤ → Type 0 = λ v. Points frame (number + 1) (λ zs. G (v ∷ zs)) ts in subst P e m

pub points_read : (fuel : ℕ) (frame : Frame) (number : ℕ) (G : List ℤ → List Token → Type 0) → ((zs : List ℤ) → (us : List Token) × G zs us) → (t : List ℕ) → ((zs : List ℤ) (rest : List ℕ) → Shorter rest t → Verdict (G zs) rest) → length t ≤ fuel → Verdict (Points frame number G) t
points_read zero frame number G some t next small = points_step frame number G some t (next []) (λ z rest less. let a : length rest < length t = less in absurd (omega arith))
points_read (suc fuel) frame number G some t next small = points_step frame number G some t (next []) (λ z rest less.
    let a : length rest < length t = less in points_read fuel frame (number + 1) (λ zs. G (z ∷ zs)) (λ zs. some (z ∷ zs)) rest (λ zs tail shorter. next (z ∷ zs) tail (let b : length tail < length rest = shorter in omega arith)) (omega arith))

-- some list of a length
pub filler : (n : ℕ) → (ps : List (ℕ × ℤ)) × (length ps ≡ n)
filler zero = ([], refl)
filler (suc n) = let rest = filler n in ((0, pos 0) ∷ rest.0, (let e : length rest.0 ≡ n = rest.1 in omega arith))

-- the tokens of one pair in front of others
abbrev pub pair_then : (ℕ → Bool) → ℕ → List (ℕ × ℤ) → ℕ → ℕ → ℤ → List Token → List Token
pair_then named limit had last r p us = Words (codes " ") ∷ Figure (pos r) (row_fault named last r) ∷ Words (codes " ") ∷ Figure p (multiplier_fault limit had r p) ∷ us

pub record FirstPair (named : ℕ → Bool) (limit : ℕ) (had : List (ℕ × ℤ)) (last n : ℕ) (G : List (ℕ × ℤ) → List Token → Type 0) (ts : List Token) : Type 0 where
  pub row : ℕ
  pub by : ℤ
  pub tail : List Token
  pub is : ts ≡ pair_then named limit had last row by tail
  pub rest : Pairs named limit had row n (λ ps. G ((row, by) ∷ ps)) tail

pub first_pair : (named : ℕ → Bool) (limit : ℕ) (had : List (ℕ × ℤ)) (last n : ℕ) (G : List (ℕ × ℤ) → List Token → Type 0) (ps : List (ℕ × ℤ)) (us ts : List Token) → length ps ≡ suc n → G ps us → ts ≡ pairs_behind named limit had last ps ++ us → FirstPair named limit had last n G ts
first_pair named limit had last n G [] us ts long g is = absurd (omega arith)
first_pair named limit had last n G (p ∷ ps) us ts long g is =
    let e : length ps ≡ n = omega arith in
    record { row = p.0; by = p.1; tail = pairs_behind named limit had p.0 ps ++ us; is = is; rest = (ps, us, e, g, refl) }

pub no_pairs : (named : ℕ → Bool) (limit : ℕ) (had : List (ℕ × ℤ)) (last : ℕ) (G : List (ℕ × ℤ) → List Token → Type 0) (ps : List (ℕ × ℤ)) (us ts : List Token) → length ps ≡ 0 → G ps us → ts ≡ pairs_behind named limit had last ps ++ us → G [] ts
no_pairs named limit had last G [] us ts long g is = let P : List Token → Type 0 = G [] in subst P (sym is) g
no_pairs named limit had last G (p ∷ ps) us ts long g is = absurd (omega arith)

pub pairs_read : (n : ℕ) (named : ℕ → Bool) (limit : ℕ) (had : List (ℕ × ℤ)) (last : ℕ) (G : List (ℕ × ℤ) → List Token → Type 0) → ((ps : List (ℕ × ℤ)) → length ps ≡ n → (us : List Token) × G ps us)
    → (t : List ℕ) → ((ps : List (ℕ × ℤ)) → length ps ≡ n → (rest : List ℕ) → length rest ≤ length t → Verdict (G ps) rest) → Verdict (Pairs named limit had last n G) t
pairs_read zero named limit had last G some t next =
    relabel (G []) (Pairs named limit had last 0 G) t (λ ts g. ([], ts, refl, g, refl)) (λ ts m. no_pairs named limit had last G m.0 m.1 ts m.2 m.3 m.4) (next [] refl t (omega arith))
pairs_read (suc n) named limit had last G some t next =
    let L : List Token → Type 0 = Pairs named limit had last (suc n) G in
    let open_pair : (ts : List Token) → L ts → FirstPair named limit had last n G ts = λ ts m. first_pair named limit had last n G m.0 m.1 ts m.2 m.3 m.4 in
    let fill = filler n in
    let longer : (ps : List (ℕ × ℤ)) (r : ℕ) (p : ℤ) → length ps ≡ n → length ((r, p) ∷ ps) ≡ suc n = λ ps r p e. omega arith in
    let with_pair : (r : ℕ) (p : ℤ) → (us : List Token) × L (pair_then named limit had last r p us) = λ r p.
    let w = some ((r, p) ∷ fill.0) (longer fill.0 r p fill.1) in (pairs_behind named limit had r fill.0 ++ w.0, ((r, p) ∷ fill.0, w.0, longer fill.0 r p fill.1, w.1, refl)) in
    fixed_step L (Words (codes " ")) 32 [] t refl (λ r. tt)
    (λ y ys m. let i = open_pair (y ∷ ys) m in let same : y ∷ ys ≡ pair_then named limit had last i.row i.by i.tail = i.is in let e : y ≡ Words (codes " ") = cc in inl e)
    (Figure (pos 0) (row_fault named last 0) ∷ Words (codes " ") ∷ Figure (pos 0) (multiplier_fault limit had 0 (pos 0)) ∷ (with_pair 0 (pos 0)).0) (with_pair 0 (pos 0)).1
    (λ m. let i = open_pair [] m in let same : [] ≡ pair_then named limit had last i.row i.by i.tail = i.is in cc)
    (λ rest1 less1. natural_step (λ us. L (Words (codes " ") ∷ us)) (row_fault named last) rest1
    (λ y ys m. let i = open_pair (Words (codes " ") ∷ y ∷ ys) m in let same : Words (codes " ") ∷ y ∷ ys ≡ pair_then named limit had last i.row i.by i.tail = i.is in let e : y ≡ Figure (pos i.row) (row_fault named last i.row) = cc in inl (i.row, e))
    (λ r. (Words (codes " ") ∷ Figure (pos 0) (multiplier_fault limit had r (pos 0)) ∷ (with_pair r (pos 0)).0, (with_pair r (pos 0)).1))
    (λ m. let i = open_pair (Words (codes " ") ∷ []) m in let same : Words (codes " ") ∷ [] ≡ pair_then named limit had last i.row i.by i.tail = i.is in cc)
    (λ r rest2 less2. fixed_step (λ us. L (Words (codes " ") ∷ Figure (pos r) (row_fault named last r) ∷ us)) (Words (codes " ")) 32 [] rest2 refl (λ r. tt)
    (λ y ys m. let i = open_pair (Words (codes " ") ∷ Figure (pos r) (row_fault named last r) ∷ y ∷ ys) m in
    let same : Words (codes " ") ∷ Figure (pos r) (row_fault named last r) ∷ y ∷ ys ≡ pair_then named limit had last i.row i.by i.tail = i.is in let e : y ≡ Words (codes " ") = cc in inl e)
    (Figure (pos 0) (multiplier_fault limit had r (pos 0)) ∷ (with_pair r (pos 0)).0) (with_pair r (pos 0)).1
    (λ m. let i = open_pair (Words (codes " ") ∷ Figure (pos r) (row_fault named last r) ∷ []) m in
    let same : Words (codes " ") ∷ Figure (pos r) (row_fault named last r) ∷ [] ≡ pair_then named limit had last i.row i.by i.tail = i.is in cc)
    (λ rest3 less3. figure_step (λ us. L (Words (codes " ") ∷ Figure (pos r) (row_fault named last r) ∷ Words (codes " ") ∷ us)) (multiplier_fault limit had r) rest3
    (λ y ys m. let i = open_pair (Words (codes " ") ∷ Figure (pos r) (row_fault named last r) ∷ Words (codes " ") ∷ y ∷ ys) m in
    let same : Words (codes " ") ∷ Figure (pos r) (row_fault named last r) ∷ Words (codes " ") ∷ y ∷ ys ≡ pair_then named limit had last i.row i.by i.tail = i.is in
    let rows : i.row ≡ r = cc in
    let e : y ≡ Figure i.by (multiplier_fault limit had i.row i.by) = cc in
    inl (i.by, e ∙ ap (λ (q : ℕ). Figure i.by (multiplier_fault limit had q i.by)) rows))
    (λ p. ((with_pair r p).0, (with_pair r p).1))
    (λ m. let i = open_pair (Words (codes " ") ∷ Figure (pos r) (row_fault named last r) ∷ Words (codes " ") ∷ []) m in
    let same : Words (codes " ") ∷ Figure (pos r) (row_fault named last r) ∷ Words (codes " ") ∷ [] ≡ pair_then named limit had last i.row i.by i.tail = i.is in cc)
    (λ p rest4 less4. relabel (Pairs named limit had r n (λ ps. G ((r, p) ∷ ps))) (λ us. L (pair_then named limit had last r p us)) rest4
    (λ ts m. ((r, p) ∷ m.0, m.1, longer m.0 r p m.2, m.3, ap (λ (xs : List Token). pair_then named limit had last r p xs) m.4))
    (λ ts m. let i = open_pair (pair_then named limit had last r p ts) m in
    let same : pair_then named limit had last r p ts ≡ pair_then named limit had last i.row i.by i.tail = i.is in
    let rows : i.row ≡ r = cc in let bys : i.by ≡ p = cc in let tails : i.tail ≡ ts = cc in
    let P : ℕ → Type 0 = λ q. Pairs named limit had q n (λ ps. G ((q, i.by) ∷ ps)) i.tail in
    let Q : ℤ → Type 0 = λ q. Pairs named limit had r n (λ ps. G ((r, q) ∷ ps)) i.tail in
    let R : List Token → Type 0 = λ xs. Pairs named limit had r n (λ ps. G ((r, p) ∷ ps)) xs in
    subst R tails (subst Q bys (subst P rows i.rest)))
    (pairs_read n named limit had r (λ ps. G ((r, p) ∷ ps)) (λ ps e. some ((r, p) ∷ ps) (longer ps r p e)) rest4
    (λ ps e tail low. next ((r, p) ∷ ps) (longer ps r p e) tail
    (let a : length rest1 < length t = less1 in let b : length rest2 < length rest1 = less2 in let c : length rest3 < length rest2 = less3 in let d : length rest4 < length rest3 = less4 in omega arith)))))))

pub block_filler : (n : ℕ) → (ks : List ℕ) × (length ks ≡ n)
block_filler zero = ([], refl)
block_filler (suc n) = let rest = block_filler n in (0 ∷ rest.0, (let e : length rest.0 ≡ n = rest.1 in omega arith))

abbrev pub block_then : Frame → ℕ → ℕ → List Token → List Token
block_then frame last k us = Words (codes " ") ∷ Figure (pos k) (block_fault frame last k) ∷ us

pub record FirstBlock (frame : Frame) (last n : ℕ) (G : List ℕ → List Token → Type 0) (ts : List Token) : Type 0 where
  pub block : ℕ
  pub tail : List Token
  pub is : ts ≡ block_then frame last block tail
  pub rest : Blocks frame block n (λ ks. G (block ∷ ks)) tail

pub first_block : (frame : Frame) (last n : ℕ) (G : List ℕ → List Token → Type 0) (ks : List ℕ) (us ts : List Token) → length ks ≡ suc n → G ks us → ts ≡ blocks_behind frame last ks ++ us → FirstBlock frame last n G ts
first_block frame last n G [] us ts long g is = absurd (omega arith)
first_block frame last n G (k ∷ ks) us ts long g is = let e : length ks ≡ n = omega arith in record { block = k; tail = blocks_behind frame k ks ++ us; is = is; rest = (ks, us, e, g, refl) }

pub no_blocks : (frame : Frame) (last : ℕ) (G : List ℕ → List Token → Type 0) (ks : List ℕ) (us ts : List Token) → length ks ≡ 0 → G ks us → ts ≡ blocks_behind frame last ks ++ us → G [] ts
no_blocks frame last G [] us ts long g is = let P : List Token → Type 0 = G [] in subst P (sym is) g
no_blocks frame last G (k ∷ ks) us ts long g is = absurd (omega arith)

pub blocks_read : (n : ℕ) (frame : Frame) (last : ℕ) (G : List ℕ → List Token → Type 0) → ((ks : List ℕ) → length ks ≡ n → (us : List Token) × G ks us)
    → (t : List ℕ) → ((ks : List ℕ) → length ks ≡ n → (rest : List ℕ) → length rest ≤ length t → Verdict (G ks) rest) → Verdict (Blocks frame last n G) t
blocks_read zero frame last G some t next =
    relabel (G []) (Blocks frame last 0 G) t (λ ts g. ([], ts, refl, g, refl)) (λ ts m. no_blocks frame last G m.0 m.1 ts m.2 m.3 m.4) (next [] refl t (omega arith))
blocks_read (suc n) frame last G some t next =
    let L : List Token → Type 0 = Blocks frame last (suc n) G in
    let opened : (ts : List Token) → L ts → FirstBlock frame last n G ts = λ ts m. first_block frame last n G m.0 m.1 ts m.2 m.3 m.4 in
    let fill = block_filler n in
    let longer : (ks : List ℕ) (k : ℕ) → length ks ≡ n → length (k ∷ ks) ≡ suc n = λ ks k e. omega arith in
    let with_block : (k : ℕ) → (us : List Token) × L (block_then frame last k us) = λ k.
    let w = some (k ∷ fill.0) (longer fill.0 k fill.1) in (blocks_behind frame k fill.0 ++ w.0, (k ∷ fill.0, w.0, longer fill.0 k fill.1, w.1, refl)) in
    fixed_step L (Words (codes " ")) 32 [] t refl (λ r. tt)
    (λ y ys m. let i = opened (y ∷ ys) m in let same : y ∷ ys ≡ block_then frame last i.block i.tail = i.is in let e : y ≡ Words (codes " ") = cc in inl e)
    (Figure (pos 0) (block_fault frame last 0) ∷ (with_block 0).0) (with_block 0).1
    (λ m. let i = opened [] m in let same : [] ≡ block_then frame last i.block i.tail = i.is in cc)
    (λ rest1 less1. natural_step (λ us. L (Words (codes " ") ∷ us)) (block_fault frame last) rest1
    (λ y ys m. let i = opened (Words (codes " ") ∷ y ∷ ys) m in let same : Words (codes " ") ∷ y ∷ ys ≡ block_then frame last i.block i.tail = i.is in let e : y ≡ Figure (pos i.block) (block_fault frame last i.block) = cc in inl (i.block, e))
    (λ k. ((with_block k).0, (with_block k).1))
    (λ m. let i = opened (Words (codes " ") ∷ []) m in let same : Words (codes " ") ∷ [] ≡ block_then frame last i.block i.tail = i.is in cc)
    (λ k rest2 less2. relabel (Blocks frame k n (λ ks. G (k ∷ ks))) (λ us. L (block_then frame last k us)) rest2
    (λ ts m. (k ∷ m.0, m.1, longer m.0 k m.2, m.3, ap (λ (xs : List Token). block_then frame last k xs) m.4))
    (λ ts m. let i = opened (block_then frame last k ts) m in
    let same : block_then frame last k ts ≡ block_then frame last i.block i.tail = i.is in
    let blocks : i.block ≡ k = cc in let tails : i.tail ≡ ts = cc in
    let P : ℕ → Type 0 = λ q. Blocks frame q n (λ ks. G (q ∷ ks)) i.tail in
    let R : List Token → Type 0 = λ xs. Blocks frame k n (λ ks. G (k ∷ ks)) xs in
    subst R tails (subst P blocks i.rest))
    (blocks_read n frame k (λ ks. G (k ∷ ks)) (λ ks e. some (k ∷ ks) (longer ks k e)) rest2
    (λ ks e tail low. next (k ∷ ks) (longer ks k e) tail (let a : length rest1 < length t = less1 in let b : length rest2 < length rest1 = less2 in omega arith)))))

-- which way the priced blocks are written
pub data PricedBy (frame : Frame) (G : Picked → List Token → Type 0) (ts : List Token) : Type 0 where
  by_word : (us : List Token) → ts ≡ Words (codes "all") ∷ us → G Every us → PricedBy frame G ts
  by_list : (n : ℕ) (us : List Token) → ts ≡ count n ∷ us → Blocks frame 0 n (λ ks. G (These ks)) us → PricedBy frame G ts

pub priced_by : (frame : Frame) (G : Picked → List Token → Type 0) (p : Picked) (us ts : List Token) → G p us → ts ≡ picked_words frame p ++ us → PricedBy frame G ts
priced_by frame G Every us ts g is = by_word us is g
priced_by frame G (These ks) us ts g is = by_list (length ks) (blocks_behind frame 0 ks ++ us) is (ks, us, refl, g, refl)

pub priced_first : (frame : Frame) (G : Picked → List Token → Type 0) (y : Token) (ys : List Token) → PricedBy frame G (y ∷ ys) → (y ≡ Words (codes "all")) ⊎ ((n : ℕ) × (y ≡ count n))
priced_first frame G y ys (by_word us is g) = inl cc
priced_first frame G y ys (by_list n us is m) = let e : y ≡ count n = cc in inr (n, e)

pub priced_over : (frame : Frame) (G : Picked → List Token → Type 0) → PricedBy frame G [] → ⊥
priced_over frame G (by_word us is g) = cc
priced_over frame G (by_list n us is m) = cc

pub priced_all : (frame : Frame) (G : Picked → List Token → Type 0) (ts : List Token) → PricedBy frame G (Words (codes "all") ∷ ts) → G Every ts
priced_all frame G ts (by_word us is g) = let e : us ≡ ts = cc in let P : List Token → Type 0 = G Every in subst P e g
priced_all frame G ts (by_list n us is m) = let wrong : Words (codes "all") ≡ count n = cc in absurd cc

pub priced_list : (frame : Frame) (G : Picked → List Token → Type 0) (n : ℕ) (ts : List Token) → PricedBy frame G (count n ∷ ts) → Blocks frame 0 n (λ ks. G (These ks)) ts
priced_list frame G n ts (by_word us is g) = let wrong : count n ≡ Words (codes "all") = cc in absurd cc
priced_list frame G n ts (by_list k us is m) =
    let e : us ≡ ts = cc in let f : k ≡ n = cc in
    let P : List Token → Type 0 = λ xs. Blocks frame 0 k (λ ks. G (These ks)) xs in
    let Q : ℕ → Type 0 = λ q. Blocks frame 0 q (λ ks. G (These ks)) ts in subst Q f (subst P e m)

pub priced_read : (frame : Frame) (G : Picked → List Token → Type 0) → ((p : Picked) → (us : List Token) × G p us) → (t : List ℕ) → ((p : Picked) (rest : List ℕ) → Shorter rest t → Verdict (G p) rest) → Verdict (Priced frame G) t
priced_read frame G some t next =
    let L : List Token → Type 0 = Priced frame G in
    let by : (ts : List Token) → L ts → PricedBy frame G ts = λ ts m. priced_by frame G m.0 m.1 ts m.2 m.3 in
    let over : L [] → ⊥ = λ m. priced_over frame G (by [] m) in
    ⊎_elim
    (λ word. fixed_step L (Words (codes "all")) 97 (codes "ll") t refl (λ r. tt)
    (λ y ys m. ⊎_elim (λ e. inl e) (λ n. inr (off_by y (count n.0) t n.1 (off_figure n.0 None 97 word.0 t word.1 (λ low high. omega arith)))) (priced_first frame G y ys (by (y ∷ ys) m)))
    (some Every).0 (Every, (some Every).0, (some Every).1, refl) over
    (λ rest less. relabel (G Every) (λ us. L (Words (codes "all") ∷ us)) rest (λ ts g. (Every, ts, g, refl)) (λ ts m. priced_all frame G ts (by (Words (codes "all") ∷ ts) m)) (next Every rest less)))
    (λ other. natural_step L (λ _. None) t
    (λ y ys m. ⊎_elim (λ e. inr (off_by y (Words (codes "all")) t e (off_words 97 (codes "ll") t other))) (λ n. inl n) (priced_first frame G y ys (by (y ∷ ys) m)))
    (λ n. let fill = block_filler n in let P : ℕ → Type 0 = λ k. L (count k ∷ (blocks_behind frame 0 fill.0 ++ (some (These fill.0)).0)) in
    (blocks_behind frame 0 fill.0 ++ (some (These fill.0)).0, subst P fill.1 (These fill.0, (some (These fill.0)).0, (some (These fill.0)).1, refl)))
    over
    (λ n rest less. relabel (Blocks frame 0 n (λ ks. G (These ks))) (λ us. L (count n ∷ us)) rest
    (λ ts m. let P : ℕ → Type 0 = λ k. count n ∷ ts ≡ count k ∷ ts in
    (These m.0, m.1, m.3, subst P (sym m.2) refl ∙ ap (λ (xs : List Token). count (length m.0) ∷ xs) m.4))
    (λ ts m. priced_list frame G n ts (by (count n ∷ ts) m))
    (blocks_read n frame 0 (λ ks. G (These ks)) (λ ks e. some (These ks)) rest (λ ks e tail low. next (These ks) tail (let a : length rest < length t = less in omega arith)))))
    (begins_with 97 t)

pub prefixed_under : (x : Token) (M : List Token → Type 0) (ts : List Token) → Prefixed x M (x ∷ ts) → M ts
prefixed_under x M ts m = let is : x ∷ ts ≡ x ∷ m.0 = m.1 in let e : m.0 ≡ ts = cc in subst M e m.2

pub prefixed_read : (x : Token) (b : ℕ) (w : List ℕ) (M : List Token → Type 0) (t : List ℕ) → token_text x ≡ b ∷ w → ((r : List ℕ) → EndsToken x r) → (us : List Token) → M us → ((rest : List ℕ) → Shorter rest t → Verdict M rest) → Verdict (Prefixed x M) t
prefixed_read x b w M t is ends us member next =
    fixed_step (Prefixed x M) x b w t is ends
    (λ y ys m. let same : y ∷ ys ≡ x ∷ m.0 = m.1 in let e : y ≡ x = cc in inl e)
    us (us, refl, member) (λ m. let same : [] ≡ x ∷ m.0 = m.1 in cc)
    (λ rest less. relabel M (λ ts. Prefixed x M (x ∷ ts)) rest (λ ts m. (ts, refl, m)) (λ ts m. prefixed_under x M ts m) (next rest less))

pub numbered_under : (f : ℕ → Option Kind) (M : ℕ → List Token → Type 0) (n : ℕ) (ts : List Token) → Numbered f M (Figure (pos n) (f n) ∷ ts) → M n ts
numbered_under f M n ts m =
    let is : Figure (pos n) (f n) ∷ ts ≡ Figure (pos m.0) (f m.0) ∷ m.1 = m.2 in
    let e : m.0 ≡ n = cc in let g : m.1 ≡ ts = cc in
    let P : ℕ → Type 0 = λ k. M k m.1 in let Q : List Token → Type 0 = M n in subst Q g (subst P e m.3)

pub numbered_read : (f : ℕ → Option Kind) (M : ℕ → List Token → Type 0) (t : List ℕ) → ((n : ℕ) → (us : List Token) × M n us) → ((n : ℕ) (rest : List ℕ) → Shorter rest t → Verdict (M n) rest) → Verdict (Numbered f M) t
numbered_read f M t some next =
    natural_step (Numbered f M) f t
    (λ y ys m. let same : y ∷ ys ≡ Figure (pos m.0) (f m.0) ∷ m.1 = m.2 in let e : y ≡ Figure (pos m.0) (f m.0) = cc in inl (m.0, e))
    (λ n. ((some n).0, (n, (some n).0, refl, (some n).1))) (λ m. let same : [] ≡ Figure (pos m.0) (f m.0) ∷ m.1 = m.2 in cc)
    (λ n rest less. relabel (M n) (λ ts. Numbered f M (Figure (pos n) (f n) ∷ ts)) rest (λ ts m. (n, ts, refl, m)) (λ ts m. numbered_under f M n ts m) (next n rest less))

pub valued_under : (f : ℤ → Option Kind) (M : ℤ → List Token → Type 0) (z : ℤ) (ts : List Token) → Valued f M (Figure z (f z) ∷ ts) → M z ts
valued_under f M z ts m =
    let is : Figure z (f z) ∷ ts ≡ Figure m.0 (f m.0) ∷ m.1 = m.2 in
    let e : m.0 ≡ z = cc in let g : m.1 ≡ ts = cc in
    let P : ℤ → Type 0 = λ k. M k m.1 in let Q : List Token → Type 0 = M z in subst Q g (subst P e m.3)

pub valued_read : (f : ℤ → Option Kind) (M : ℤ → List Token → Type 0) (t : List ℕ) → ((z : ℤ) → (us : List Token) × M z us) → ((z : ℤ) (rest : List ℕ) → Shorter rest t → Verdict (M z) rest) → Verdict (Valued f M) t
valued_read f M t some next =
    figure_step (Valued f M) f t
    (λ y ys m. let same : y ∷ ys ≡ Figure m.0 (f m.0) ∷ m.1 = m.2 in let e : y ≡ Figure m.0 (f m.0) = cc in inl (m.0, e))
    (λ z. ((some z).0, (z, (some z).0, refl, (some z).1))) (λ m. let same : [] ≡ Figure m.0 (f m.0) ∷ m.1 = m.2 in cc)
    (λ z rest less. relabel (M z) (λ ts. Valued f M (Figure z (f z) ∷ ts)) rest (λ ts m. (z, ts, refl, m)) (λ ts m. valued_under f M z ts m) (next z rest less))
