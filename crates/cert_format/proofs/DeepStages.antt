-- The places where the number comes of a node that is too deep, or of a cut that is one too many.
use Rattle.std.proofs.Common.{◌≡◌, ℕ, Bool, true, false, List, [], ◌∷◌, length, Option, Some, ℤ, pos, negsuc, nat_abs, refl, sym, ap, ◌∙◌, subst, inl, inr, ⊎_elim, ◌^◌, not, ◌&&◌, nat_lt, nat_le, nat_eq}
use Rattle.cert_format.specs.Cert.{Frame}
use Rattle.cert_format.specs.declared.fault.CertKind.TheVariants.{TooLarge, Number, Length, Depth, Limit}
use Rattle.cert_format.specs.declared.spots.Sort.{Sort}
use Rattle.cert_format.specs.declared.spots.Sort.TheVariants.{Natural}
use Rattle.cert_format.specs.declared.words.Word.{Word}
use Rattle.cert_format.specs.declared.words.Word.TheVariants as w
use Rattle.cert_format.specs.Text.{Kind, fault_of, first_kind, is_deep}
use Rattle.cert_format.specs.Words.{word_token}
use Rattle.cert_format.specs.Stages.{of_leaf, of_cut, at_first_cut, at_cuts, at_bpcert, at_version, at_first_end, at_claim, at_kind, at_optimal, infeasible_end, at_bound, after_bound, at_value, claim_end, at_point, at_values, at_coordinate, at_node, at_scale, at_rows, at_count, at_pairs, at_row, row_gap, at_multiplier, at_priced, at_blocks, at_block, leaf_end, at_variable, variable_gap, at_place, split_end, at_end, last_end, over}
use Rattle.cert_format.specs.Stages.{Stage, words, line_fault, sort, IsOfSort, is_deep_stage, deep_kind, number_fault}
use Rattle.cert_format.specs.Fault.{IsExcess}
use Rattle.cert_format.specs.Reached.{Comes}
use Rattle.cert_format.proofs.Coherent.{none_other, one_other, two_other, large_other, number_other, length_other}
use Rattle.cert_format.proofs.Deep.{deep}
use Rattle.cert_format.proofs.StageProofs.{ForSomeOf}
use Rattle.cert_format.proofs.StageMoves.{IsFirst}

-- the number is one of a node that is too deep, or of a cut that is one too many, of this kind
pub record IsDeepAt (frame : Frame) (stage : Stage) (j : Kind) : Type 0 where
  pub deep : is_deep_stage frame stage ≡ true
  pub kind : deep_kind stage ≡ j
  pub wordless : words stage ≡ []
  pub natural : sort stage ≡ Natural

-- the kind of a first test that is true
first_true : (b : Bool) (l : Kind) (rest : List (Bool × Kind)) (j : Kind) → (first_kind rest ≡ Some j → ⊥) → first_kind ((b, l) ∷ rest) ≡ Some j → (b ≡ true) × (l ≡ j)
first_true true l rest j apart e = (refl, cc)
first_true false l rest j apart e = absurd (apart e)

-- a number that is at fault for its depth, or for its cut's number
pub number_deep : (frame : Frame) (stage : Stage) (z : ℤ) (j : Kind) → IsExcess j → number_fault frame stage z ≡ Some j → IsDeepAt frame stage j
number_deep frame at_bpcert z j x e = absurd (none_other j x e)
number_deep frame at_version z j x e = absurd (none_other j x e)
number_deep frame (at_first_end v) z j x e = absurd (none_other j x e)
number_deep frame (at_claim v) z j x e = absurd (none_other j x e)
number_deep frame (at_kind v) z j x e = absurd (none_other j x e)
number_deep frame (at_optimal v) z j x e = absurd (one_other _ TooLarge large_other j x e)
number_deep frame (infeasible_end v) z j x e = absurd (none_other j x e)
number_deep frame (at_bound v) z j x e = absurd (one_other _ TooLarge large_other j x e)
number_deep frame (after_bound v b) z j x e = absurd (none_other j x e)
number_deep frame (at_value v b) z j x e = absurd (one_other _ TooLarge large_other j x e)
number_deep frame (claim_end v k) z j x e = absurd (none_other j x e)
number_deep frame (at_point v k) z j x e = absurd (none_other j x e)
number_deep frame (at_values v k zs) z j x e = absurd (none_other j x e)
number_deep frame (at_coordinate v k zs) z j x e = absurd (two_other _ _ TooLarge Length large_other length_other j x e)
number_deep frame (at_first_cut a ws) z j x e = absurd (none_other j x e)
number_deep frame (at_cuts a ws) z j x e = absurd (none_other j x e)
number_deep frame (at_node a ws) z j x e = absurd (none_other j x e)
number_deep frame (at_scale a ws (of_leaf o)) z j x e =
    let found = first_true (is_deep frame.limits (length ws)) Depth ((nat_lt (2 ^ 20) (nat_abs z), TooLarge) ∷ []) j (one_other _ TooLarge large_other j x) e in
    record { deep = found.0; kind = found.1; wordless = refl; natural = refl }
number_deep frame (at_scale a ws of_cut) z j x e =
    let found = first_true (nat_le 256 (length a.cuts)) Limit ((nat_lt (2 ^ 20) (nat_abs z), TooLarge) ∷ (nat_eq (nat_abs z) 0, Number) ∷ []) j (two_other _ _ TooLarge Number large_other number_other j x) e in
    record { deep = found.0; kind = found.1; wordless = refl; natural = refl }
number_deep frame (at_rows a ws o s) z j x e = absurd (none_other j x e)
number_deep frame (at_count a ws o s) z j x e = absurd (none_other j x e)
number_deep frame (at_pairs a ws o s ps last n) z j x e = absurd (none_other j x e)
number_deep frame (at_row a ws o s ps last n) z j x e = absurd (one_other _ Number number_other j x e)
number_deep frame (row_gap a ws o s ps r n) z j x e = absurd (none_other j x e)
number_deep frame (at_multiplier a ws o s ps r n) z j x e = absurd (two_other _ _ TooLarge Number large_other number_other j x e)
number_deep frame (at_priced a ws o s ps) z j x e = absurd (none_other j x e)
number_deep frame (at_blocks a ws o s ps ks last n) z j x e = absurd (none_other j x e)
number_deep frame (at_block a ws o s ps ks last n) z j x e = absurd (one_other _ Number number_other j x e)
number_deep frame (leaf_end a ws o p) z j x e = absurd (none_other j x e)
number_deep frame (at_variable a ws) z j x e =
    let found = first_true (is_deep frame.limits (length ws)) Depth ((not (nat_lt 0 (nat_abs z) && nat_le (nat_abs z) frame.variables), Number) ∷ []) j (one_other _ Number number_other j x) e in
    record { deep = found.0; kind = found.1; wordless = refl; natural = refl }
number_deep frame (variable_gap a ws i) z j x e = absurd (none_other j x e)
number_deep frame (at_place a ws i) z j x e = absurd (one_other _ TooLarge large_other j x e)
number_deep frame (split_end a ws i y) z j x e = absurd (none_other j x e)
number_deep frame (at_end a t) z j x e = absurd (none_other j x e)
number_deep frame (last_end a t) z j x e = absurd (none_other j x e)
number_deep frame (over a t) z j x e = absurd (none_other j x e)

-- such a kind
pub deep_excess : (stage : Stage) → IsExcess (deep_kind stage)
deep_excess at_bpcert = inl refl
deep_excess at_version = inl refl
deep_excess (at_first_end v) = inl refl
deep_excess (at_claim v) = inl refl
deep_excess (at_kind v) = inl refl
deep_excess (at_optimal v) = inl refl
deep_excess (infeasible_end v) = inl refl
deep_excess (at_bound v) = inl refl
deep_excess (after_bound v b) = inl refl
deep_excess (at_value v b) = inl refl
deep_excess (claim_end v k) = inl refl
deep_excess (at_point v k) = inl refl
deep_excess (at_values v k zs) = inl refl
deep_excess (at_coordinate v k zs) = inl refl
deep_excess (at_first_cut a ws) = inl refl
deep_excess (at_cuts a ws) = inl refl
deep_excess (at_node a ws) = inl refl
deep_excess (at_scale a ws (of_leaf o)) = inl refl
deep_excess (at_scale a ws of_cut) = inr refl
deep_excess (at_rows a ws o s) = inl refl
deep_excess (at_count a ws o s) = inl refl
deep_excess (at_pairs a ws o s ps last n) = inl refl
deep_excess (at_row a ws o s ps last n) = inl refl
deep_excess (row_gap a ws o s ps r n) = inl refl
deep_excess (at_multiplier a ws o s ps r n) = inl refl
deep_excess (at_priced a ws o s ps) = inl refl
deep_excess (at_blocks a ws o s ps ks last n) = inl refl
deep_excess (at_block a ws o s ps ks last n) = inl refl
deep_excess (leaf_end a ws o p) = inl refl
deep_excess (at_variable a ws) = inl refl
deep_excess (variable_gap a ws i) = inl refl
deep_excess (at_place a ws i) = inl refl
deep_excess (split_end a ws i y) = inl refl
deep_excess (at_end a t) = inl refl
deep_excess (last_end a t) = inl refl
deep_excess (over a t) = inl refl

-- where such a number comes, each is at fault so
pub deep_number : (frame : Frame) (stage : Stage) → is_deep_stage frame stage ≡ true → (number_fault frame stage (pos 0) ≡ Some (deep_kind stage)) × (words stage ≡ []) × (sort stage ≡ Natural)
deep_number frame at_bpcert is = absurd (cc)
deep_number frame at_version is = absurd (cc)
deep_number frame (at_first_end v) is = absurd (cc)
deep_number frame (at_claim v) is = absurd (cc)
deep_number frame (at_kind v) is = absurd (cc)
deep_number frame (at_optimal v) is = absurd (cc)
deep_number frame (infeasible_end v) is = absurd (cc)
deep_number frame (at_bound v) is = absurd (cc)
deep_number frame (after_bound v b) is = absurd (cc)
deep_number frame (at_value v b) is = absurd (cc)
deep_number frame (claim_end v k) is = absurd (cc)
deep_number frame (at_point v k) is = absurd (cc)
deep_number frame (at_values v k zs) is = absurd (cc)
deep_number frame (at_coordinate v k zs) is = absurd (cc)
deep_number frame (at_first_cut a ws) is = absurd (cc)
deep_number frame (at_cuts a ws) is = absurd (cc)
deep_number frame (at_node a ws) is = absurd (cc)
deep_number frame (at_scale a ws (of_leaf o)) is = (rw is refl, refl, refl)
deep_number frame (at_scale a ws of_cut) is = (rw is refl, refl, refl)
deep_number frame (at_rows a ws o s) is = absurd (cc)
deep_number frame (at_count a ws o s) is = absurd (cc)
deep_number frame (at_pairs a ws o s ps last n) is = absurd (cc)
deep_number frame (at_row a ws o s ps last n) is = absurd (cc)
deep_number frame (row_gap a ws o s ps r n) is = absurd (cc)
deep_number frame (at_multiplier a ws o s ps r n) is = absurd (cc)
deep_number frame (at_priced a ws o s ps) is = absurd (cc)
deep_number frame (at_blocks a ws o s ps ks last n) is = absurd (cc)
deep_number frame (at_block a ws o s ps ks last n) is = absurd (cc)
deep_number frame (leaf_end a ws o p) is = absurd (cc)
deep_number frame (at_variable a ws) is = (rw is refl, refl, refl)
deep_number frame (variable_gap a ws i) is = absurd (cc)
deep_number frame (at_place a ws i) is = absurd (cc)
deep_number frame (split_end a ws i y) is = absurd (cc)
deep_number frame (at_end a t) is = absurd (cc)
deep_number frame (last_end a t) is = absurd (cc)
deep_number frame (over a t) is = absurd (cc)

-- no word stands for a number
word_other : (k : Kind) (f : Option Kind) (v : Word) → deep k ≡ word_token f v → ⊥
word_other k f w.Bpcert is = cc
word_other k f w.One is = cc
word_other k f w.Two is = cc
word_other k f w.Three is = cc
word_other k f w.LineEnd is = cc
word_other k f w.Claim is = cc
word_other k f w.Optimal is = cc
word_other k f w.Infeasible is = cc
word_other k f w.Bound is = cc
word_other k f w.Value is = cc
word_other k f w.Point is = cc
word_other k f w.Space is = cc
word_other k f w.Cut is = cc
word_other k f w.Leaf is = cc
word_other k f w.Open is = cc
word_other k f w.Split is = cc
word_other k f w.Rows is = cc
word_other k f w.Change is = cc
word_other k f w.Priced is = cc
word_other k f w.All is = cc
word_other k f w.End is = cc

-- where such a number may come first, it does
pub first_deep : (frame : Frame) (stage : Stage) (k : Kind) → IsExcess k → IsFirst frame stage (deep k) → IsDeepAt frame stage k
first_deep frame stage k x first = ⊎_elim
    (λ some. absurd (along (words stage) some))
    (λ n. number_deep frame stage n.0 k x (sym (ap fault_of n.2)))
    first
  where
    along : (es : List (Word × Stage)) → ForSomeOf (λ v next. deep k ≡ word_token (line_fault frame stage) v) es → ⊥
    along [] none = none
    along (e ∷ es) some = ⊎_elim (λ is. word_other k (line_fault frame stage) e.0 is) (λ more. along es more) some

pub no_word_deep : (frame : Frame) (stage : Stage) (word : Word) (k : Kind) → IsExcess k → IsFirst frame stage (deep k) → Comes word (words stage) → ⊥
no_word_deep frame stage word k x first comes = let P : List (Word × Stage) → Type 0 = Comes word in subst P (first_deep frame stage k x first).wordless comes

pub no_negative_deep : (frame : Frame) (stage : Stage) (m : ℕ) (k : Kind) → IsExcess k → IsFirst frame stage (deep k) → IsOfSort (sort stage) (negsuc m) → ⊥
no_negative_deep frame stage m k x first of_sort =
    let P : Sort → Type 0 = λ t. IsOfSort t (negsuc m) in
    let wrong : negsuc m ≡ pos (nat_abs (negsuc m)) = subst P (first_deep frame stage k x first).natural of_sort in cc

pub no_shallow_deep : (frame : Frame) (stage : Stage) (k : Kind) → IsExcess k → IsFirst frame stage (deep k) → is_deep_stage frame stage ≡ false → ⊥
no_shallow_deep frame stage k x first shallow = let wrong : true ≡ false = sym (first_deep frame stage k x first).deep ∙ shallow in cc
