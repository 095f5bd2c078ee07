-- A faultless certificate of version 1 means itself.
use Rattle.std.proofs.Common.{◌≡◌, ◌≢◌, ℕ, ◌+◌, ◌^◌, ◌<◌, ◌≤◌, Bool, true, false, List, [], ◌∷◌, ◌++◌, ℤ, pos, refl, sym, ap, ◌∙◌, subst, arith, append_assoc, append-nil, if◌then◌else◌}
use Rattle.std.proofs.lemmas.Bool.{lt-ltb}
use Rattle.std.specs.Cmp.{signed_Decides}
use Rattle.std.specs.Ordering.{int_eq}
use Rattle.cert_format.specs.Cert.{Proof, Tree, Shut, Open, Split, multiplier, put, changed}
use Rattle.cert_format.specs.Cert as texts
use Rattle.cert_format.specs.Text.{One, may_name, leaf_line, tree_lines, kept_behind, tokens_of, meant, meant_proof, meant_tree}
use Rattle.cert_format.specs.Fault.{AreClean}
use Rattle.cert_format.specs.Stages.{plain_of}
use Rattle.cert_format.proofs.Changes.{AscendAbove, Differ}
use Rattle.cert_format.proofs.Coherent.{proof_one, cert_one}
use Rattle.cert_format.proofs.Meaning.{kept_none, clean_front, clean_back, pairs_ascend, pairs_differ, leaf_pairs, tree_clean}

-- rows below a row
abbrev AreBelow : ℕ → List (ℕ × ℤ) → Type 0
AreBelow row [] = Unit {0}
AreBelow row (p ∷ ps) = (p.0 < row) × AreBelow row ps

below_more : (row next : ℕ) (ps : List (ℕ × ℤ)) → row ≤ next → AreBelow row ps → AreBelow next ps
below_more row next [] less below = tt
below_more row next (p ∷ ps) less below = let low : p.0 < row = below.0 in (omega arith, below_more row next ps less below.1)

below_push : (row : ℕ) (ps : List (ℕ × ℤ)) (p : ℕ × ℤ) → AreBelow row ps → p.0 < row → AreBelow row (ps ++ p ∷ [])
below_push row [] p below last = (last, tt)
below_push row (q ∷ ps) p below last = (below.0, below_push row ps p below.1 last)

-- a multiplier behind lower rows goes to the end
put_last : (row : ℕ) (p : ℤ) (ps : List (ℕ × ℤ)) → AreBelow row ps → p ≢ pos 0 → put row p ps ≡ ps ++ (row, p) ∷ []
put_last row p [] below some = by (int_eq p (pos 0)) refl where
  by : (t : Bool) → int_eq p (pos 0) ≡ t → if◌then◌else◌ {A = List (ℕ × ℤ)} t [] ((row, p) ∷ []) ≡ (row, p) ∷ []
  by true is = absurd (some ((signed_Decides p (pos 0)).0 is))
  by false is = refl
put_last row p (q ∷ ps) below some =
    rw (lt-ltb q.0 row below.0) (ap (λ (xs : List (ℕ × ℤ)). q ∷ xs) (put_last row p ps below.1 some))

-- changes of nothing are the multipliers themselves
changed_plain : (before ps : List (ℕ × ℤ)) (last : ℕ) → AreBelow (last + 1) before → AscendAbove last ps → Differ [] ps → changed before ps ≡ before ++ ps
changed_plain before [] last below up apart = sym (append-nil before)
changed_plain before (p ∷ ps) last below up apart =
    let low : last < p.0 = up.0 in
    let under = below_more (last + 1) p.0 before (omega arith) below in
    let now = put_last p.0 p.1 before under apart.0 in
    let next : AreBelow (p.0 + 1) (before ++ p ∷ []) = below_push (p.0 + 1) before p (below_more p.0 (p.0 + 1) before (omega arith) under) (omega arith) in
    ap (λ (xs : List (ℕ × ℤ)). changed xs ps) now ∙ changed_plain (before ++ p ∷ []) ps p.0 next up.1 apart.1 ∙ append_assoc before (p ∷ []) ps

-- a faultless leaf of version 1 means itself
leaf_means : (frame : texts.Frame) (depth : ℕ) (p : Proof) → AreClean (leaf_line frame One 0 depth [] p) → meant_proof [] p ≡ p
leaf_means frame depth p clean =
    let pairs = leaf_pairs frame One 0 depth [] p clean in
    let named = may_name frame 0 in
    proof_one (meant_proof [] p) p refl (changed_plain [] p.pairs 0 tt (pairs_ascend named (2 ^ 40) [] 0 p.pairs pairs) (pairs_differ named (2 ^ 40) [] 0 p.pairs pairs)) refl

tree_means : (frame : texts.Frame) (depth : ℕ) (t : Tree) → AreClean (tree_lines frame One 0 depth [] t) → meant_tree One [] t ≡ t
tree_means frame depth (Shut p) clean = ap Shut (leaf_means frame depth p clean.1)
tree_means frame depth (Open p) clean = ap Open (leaf_means frame depth p clean.1)
tree_means frame depth (Split i z low high) clean =
    let left = tree_lines frame One 0 (depth + 1) [] low in
    let right = tree_lines frame One 0 (depth + 1) (kept_behind One [] low) high in
    let both = clean.1.1.1.1.1 in
    let P : List (ℕ × ℤ) → Type 0 = λ had. AreClean (tree_lines frame One 0 (depth + 1) had high) in
    let a = tree_means frame (depth + 1) low (clean_front left right both) in
    let b = tree_means frame (depth + 1) high (subst P (kept_none low) (clean_back left right both)) in
    ap (λ (had : List (ℕ × ℤ)). Split i z (meant_tree One [] low) (meant_tree One had high)) (kept_none low)
    ∙ ap (λ (x : Tree). Split i z x (meant_tree One [] high)) a ∙ ap (λ (x : Tree). Split i z low x) b

-- a faultless certificate of version 1 means itself
pub cert_means : (frame : texts.Frame) (a : texts.Claim) (t : Tree) → AreClean (tokens_of frame One (plain_of a t)) → meant One (plain_of a t) ≡ plain_of a t
cert_means frame a t clean = cert_one (meant One (plain_of a t)) (plain_of a t) refl refl (tree_means frame 0 t (tree_clean frame One (plain_of a t) clean))
