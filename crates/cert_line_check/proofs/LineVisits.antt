-- Visits of lines: those of lists together are those of their parts, and lines have one number of visits.
use Rattle.std.proofs.Common.{◌≡◌, refl, sym, subst, ◌∙◌, ℕ, zero, suc, ◌+◌, List, [], ◌∷◌, ◌++◌, Option, Some, None, arith, inl, inr}
use Rattle.std.proofs.Math.IntN.{ℤ}
use Rattle.std.specs.Prelude.{◌⊎◌}
use Rattle.bp_theory.specs.Blocking.{Blocking}
use Rattle.bp_theory.specs.Trees.{Leaf}
use Rattle.bp_theory.specs.Judgement.{Line, point_line, cut_line, split_line, leaf_line, point_lines}
use Rattle.bp_theory.specs.declared.Span.{Span}
use Rattle.bp_theory.specs.declared.Picked.{Picked}
use Rattle.std.specs.Option.{option_map}
use Rattle.cert_line_check.specs.Visits.{IsBlockVisits, searched, spared, AreBlockVisits, AreZoneVisits, IsLineVisits, AreLineVisits}
use Rattle.cert_line_check.specs.Judging.{IsLeft, IsAfforded, LeavesOf}

-- ---- one number of visits

block_once : (root : List Span) (b : Blocking) (zone : List Span) (picked : Picked) (k m n : ℕ) → IsBlockVisits root b zone picked k m → IsBlockVisits root b zone picked k n → m ≡ n
block_once root b zone picked k m n (searched s e) (searched t f) = e ∙ sym f
block_once root b zone picked k m n (searched s e) (spared t f) = absurd (t s)
block_once root b zone picked k m n (spared s e) (searched t f) = absurd (s t)
block_once root b zone picked k m n (spared s e) (spared t f) = e ∙ sym f

blocks_once : (root : List Span) (b : Blocking) (zone : List Span) (picked : Picked) (k m n : ℕ) → AreBlockVisits root b zone picked k m → AreBlockVisits root b zone picked k n → m ≡ n
blocks_once root b zone picked zero m n h g = h ∙ sym g
blocks_once root b zone picked (suc k) m n h g =
    let below : h.0 ≡ g.0 = blocks_once root b zone picked k h.0 g.0 h.2 g.2 in
    let own : h.1 ≡ g.1 = block_once root b zone picked k h.1 g.1 h.3 g.3 in
    omega (arith, below, own, h.4, g.4)

line_once : (root : List Span) (b : Blocking) (line : Line) (m n : ℕ) → IsLineVisits root b line m → IsLineVisits root b line n → m ≡ n
line_once root b (point_line v x) m n h g = h ∙ sym g
line_once root b (cut_line rows cut) m n h g = h ∙ sym g
line_once root b (split_line zone v at) m n h g = h ∙ sym g
line_once root b (leaf_line leaf) m n h g = blocks_once root b leaf.zone leaf.proof.picked _ m n h g

pub zone_once : (root : List Span) (b : Blocking) (zone : List Span) (picked : Picked) (m n : ℕ) → AreZoneVisits root b zone picked m → AreZoneVisits root b zone picked n → m ≡ n
zone_once root b zone picked m n h g = blocks_once root b zone picked _ m n h g

pub lines_once : (root : List Span) (b : Blocking) (lines : List Line) (m n : ℕ) → AreLineVisits root b lines m → AreLineVisits root b lines n → m ≡ n
lines_once root b [] m n h g = h ∙ sym g
lines_once root b (line ∷ lines) m n h g =
    let own : h.0 ≡ g.0 = line_once root b line h.0 g.0 h.2 g.2 in
    let rest : h.1 ≡ g.1 = lines_once root b lines h.1 g.1 h.3 g.3 in
    omega (arith, own, rest, h.4, g.4)

-- ---- lists of lines

both_visits : (root : List Span) (b : Blocking) (xs ys : List Line) (m n : ℕ) → AreLineVisits root b xs m → AreLineVisits root b ys n → AreLineVisits root b (xs ++ ys) (m + n)
both_visits root b [] ys m n h g = let same : n ≡ m + n = omega (arith, h) in subst (AreLineVisits root b ys) same g
both_visits root b (x ∷ xs) ys m n h g = (h.0, h.1 + n, h.2, both_visits root b xs ys h.1 n h.3 g, omega (arith, h.4))

pub split_visits : (root : List Span) (b : Blocking) (xs ys : List Line) (n : ℕ) → AreLineVisits root b (xs ++ ys) n
    → (m : ℕ) × (k : ℕ) × AreLineVisits root b xs m × AreLineVisits root b ys k × (n ≡ m + k)
split_visits root b [] ys n h = (0, n, refl, h, omega arith)
split_visits root b (x ∷ xs) ys n h =
    let rest = split_visits root b xs ys h.1 h.3 in
    (h.0 + rest.0, rest.1, (h.0, rest.0, h.2, rest.2, refl), rest.3, omega (arith, h.4, rest.4))

-- ---- what is left

pub nothing_spent : (root : List Span) (b : Blocking) (left : Option ℕ) → IsLeft root b [] left left
nothing_spent root b None = refl
nothing_spent root b (Some most) = (0, most, refl, refl, omega arith)

pub split_left : (root : List Span) (b : Blocking) (zone : List Span) (v : ℕ) (at : ℤ) (lines : List Line) (left now : Option ℕ) → IsLeft root b lines left now
    → IsLeft root b (split_line zone v at ∷ lines) left now
split_left root b zone v at lines None now h = h
split_left root b zone v at lines (Some most) now h = (h.0, h.1, (0, h.0, refl, h.2, omega arith), h.3, h.4)

pub both_left : (root : List Span) (b : Blocking) (xs ys : List Line) (left middle now : Option ℕ) → IsLeft root b xs left middle → IsLeft root b ys middle now
    → IsLeft root b (xs ++ ys) left now
both_left root b xs ys None middle now h g = subst (λ (o : Option ℕ). IsLeft root b ys o now) h g
both_left root b xs ys (Some most) middle now h g =
    let rest : IsLeft root b ys (Some h.1) now = subst (λ (o : Option ℕ). IsLeft root b ys o now) h.3 g in
    (h.0 + rest.0, rest.1, both_visits root b xs ys h.0 rest.0 h.2 rest.2, rest.3, omega (arith, h.4, rest.4))

pub points_left : (root : List Span) (b : Blocking) (named : Option ℤ) (zs : List ℤ) (left : Option ℕ)
    → IsLeft root b (point_lines named (option_map (λ _. zs) named)) left left
points_left root b None zs left = nothing_spent root b left
points_left root b (Some v) zs None = refl
points_left root b (Some v) zs (Some most) = (0, most, (0, 0, refl, refl, refl), refl, omega arith)

pub leaf_left : (root : List Span) (b : Blocking) (leaf : Leaf) (left now : Option ℕ) → LeavesOf root b leaf.zone leaf.proof.picked left now
    → IsLeft root b (leaf_line leaf ∷ []) left now
leaf_left root b leaf None now h = h
leaf_left root b leaf (Some most) now h = (h.0, h.1, (h.0, 0, h.2, refl, omega arith), h.3, h.4)

pub afforded_by : (root : List Span) (b : Blocking) (zone : List Span) (picked : Picked) (left now : Option ℕ) → LeavesOf root b zone picked left now
    → IsAfforded root b zone picked left
afforded_by root b zone picked None now h = tt
afforded_by root b zone picked (Some left) now h = (h.0, h.2, omega (arith, h.4))

-- ---- where two parts of a list come apart

-- what two parts of a list may be to one another
abbrev pub PartsMeet : {X : Type 0} → (xs ys : List X) (x y : X) → Type 0
PartsMeet {X} xs ys x y = ((zs : List X) × (xs ≡ ys ++ (y ∷ zs))) ⊎ (((xs ≡ ys) × (x ≡ y)) ⊎ ((zs : List X) × (ys ≡ xs ++ (x ∷ zs))))

one_longer : {X : Type 0} (z w : X) (xs ys : List X) → z ≡ w → xs ≡ ys → z ∷ xs ≡ w ∷ ys
one_longer z w xs ys e f = cc

both_longer : {X : Type 0} (z w : X) (xs ys : List X) (x y : X) → z ≡ w → PartsMeet xs ys x y → PartsMeet (z ∷ xs) (w ∷ ys) x y
both_longer z w xs ys x y same (inl h) = inl (h.0, one_longer z w xs (ys ++ (y ∷ h.0)) same h.1)
both_longer z w xs ys x y same (inr (inl h)) = inr (inl (one_longer z w xs ys same h.0, h.1))
both_longer z w xs ys x y same (inr (inr h)) = inr (inr (h.0, one_longer w z ys (xs ++ (x ∷ h.0)) (sym same) h.1))

pub two_parts : {X : Type 0} (xs ys : List X) (x y : X) (us vs : List X) → xs ++ x ∷ us ≡ ys ++ y ∷ vs → PartsMeet xs ys x y
two_parts [] [] x y us vs e = let same : x ≡ y = cc in inr (inl (refl, same))
two_parts [] (z ∷ ys) x y us vs e = let same : z ≡ x = cc in inr (inr (ys, one_longer z x ys ys same refl))
two_parts (z ∷ xs) [] x y us vs e = let same : z ≡ y = cc in inl (xs, one_longer z y xs xs same refl)
two_parts (z ∷ xs) (w ∷ ys) x y us vs e =
    let same : z ≡ w = cc in
    let tails : xs ++ x ∷ us ≡ ys ++ y ∷ vs = cc in
    both_longer z w xs ys x y same (two_parts xs ys x y us vs tails)
