-- A program's cuts go on with the first of others in one way.
use Rattle.std.proofs.Common.{◌≡◌, ◌∙◌, ◌≤◌, ◌⊎◌, ⊎_elim, inl, inr, ℕ, List, [], ◌∷◌, ◌++◌, length, refl, sym, ap, subst, arith, length-append, append_assoc, append-nil, All}
use Rattle.std.specs.List.{AllByRecursion}
use Rattle.std.proofs.lemmas.List.Elements.{recursion_from_All, All-from_recursion}
use Rattle.bp_theory.specs.Cuts.{AreFitting, cut_row, cut_rows}
use Rattle.bp_theory.specs.Program.{Program, KeepsActivity}
use Rattle.bp_theory.specs.Decomposition.{Decomposition, proof_rows}
use Rattle.bp_theory.specs.declared.Row.{Row}
use Rattle.bp_theory.specs.declared.Cut.{Cut}
use Rattle.block_program.specs.Cuts.{KeepsCuts, IsSmallCut}
use Rattle.round_cut.specs.Taken.{GoNoFurther, HasFirstOf}

-- ---- the first of cuts that a program may have are such too

first_each : {X : Type 0} (P : X → Type 0) (xs ys : List X) → AllByRecursion P (xs ++ ys) → AllByRecursion P xs
first_each P [] ys h = tt
first_each P (x ∷ xs) ys h = (h.0, first_each P xs ys h.1)

first_all : {X : Type 0} (P : X → Type 0) (xs ys : List X) → All P (xs ++ ys) → All P xs
first_all P xs ys h = All-from_recursion P xs (first_each P xs ys (recursion_from_All P (xs ++ ys) h))

first_fitting : (p : Program) (d : Decomposition) (earlier : List Row) (cs ds : List Cut) → AreFitting p d earlier (cs ++ ds) → AreFitting p d earlier cs
first_fitting p d earlier [] ds h = tt
first_fitting p d earlier (c ∷ cs) ds h = (h.0, first_fitting p d (earlier ++ cut_row p (proof_rows p d earlier) c ∷ []) cs ds h.1)

rows_behind : (p : Program) (d : Decomposition) (earlier : List Row) (cs ds : List Cut)
    → cut_rows p d earlier (cs ++ ds) ≡ cut_rows p d (cut_rows p d earlier cs) ds
rows_behind p d earlier [] ds = refl
rows_behind p d earlier (c ∷ cs) ds = rows_behind p d (earlier ++ cut_row p (proof_rows p d earlier) c ∷ []) cs ds

first_rows : (p : Program) (d : Decomposition) (earlier : List Row) (ds : List Cut) → AllByRecursion (KeepsActivity p) (cut_rows p d earlier ds)
    → AllByRecursion (KeepsActivity p) earlier
first_rows p d earlier [] h = h
first_rows p d earlier (c ∷ cs) h =
    let row : Row = cut_row p (proof_rows p d earlier) c in
    first_each (KeepsActivity p) earlier (row ∷ []) (first_rows p d (earlier ++ row ∷ []) cs h)

first_kept : (p : Program) (d : Decomposition) (cs ds : List Cut) → KeepsCuts p d (cs ++ ds) → KeepsCuts p d cs
first_kept p d cs ds h =
    let rows : AllByRecursion (KeepsActivity p) (cut_rows p d [] (cs ++ ds)) = recursion_from_All (KeepsActivity p) (cut_rows p d [] (cs ++ ds)) h.bounded in
    record {
      few = omega (arith, h.few, length-append cs ds);
      small = first_all IsSmallCut cs ds h.small;
      fitting = first_fitting p d [] cs ds h.fitting;
      bounded = All-from_recursion (KeepsActivity p) (cut_rows p d [] cs)
          (first_rows p d (cut_rows p d [] cs) ds (subst (AllByRecursion (KeepsActivity p)) (rows_behind p d [] cs ds) rows));
    }

-- ---- cuts with others behind them, where these end

-- what is taken and what is left of others, behind cuts that are there
record IsParted (p : Program) (d : Decomposition) (cuts : List Cut) (most : ℕ) (taken left : List Cut) : Type 0 where
  kept : KeepsCuts p d (cuts ++ taken)
  few : (taken ≡ []) ⊎ (length (cuts ++ taken) ≤ most)
  ends : GoNoFurther p d most (cuts ++ taken) left

-- none is taken behind those that go no further
none_further : (p : Program) (d : Decomposition) (cuts : List Cut) (most : ℕ) (c : Cut) (more left rest : List Cut)
    → GoNoFurther p d most (cuts ++ []) (c ∷ left) → IsParted p d cuts most (c ∷ more) rest → ⊥
none_further p d cuts most c more left rest ends h =
    let same : cuts ++ c ∷ more ≡ ((cuts ++ []) ++ c ∷ []) ++ more =
    sym (append_assoc cuts (c ∷ []) more) ∙ ap (λ (l : List Cut). (l ++ c ∷ []) ++ more) (sym (append-nil cuts)) in
    ⊎_elim
    (λ full. ⊎_elim (λ none. absurd (cc)) (λ few. absurd (omega (arith, full, few, length-append cuts [], length-append cuts (c ∷ more)))) h.few)
    (λ refused. refused (first_kept p d ((cuts ++ []) ++ c ∷ []) more (subst (KeepsCuts p d) same h.kept)))
    ends

one_on : (p : Program) (d : Decomposition) (cuts : List Cut) (most : ℕ) (c : Cut) (taken left : List Cut) → IsParted p d cuts most (c ∷ taken) left
    → IsParted p d (cuts ++ c ∷ []) most taken left
one_on p d cuts most c taken left h =
    let same : cuts ++ c ∷ taken ≡ (cuts ++ c ∷ []) ++ taken = sym (append_assoc cuts (c ∷ []) taken) in
    record {
      kept = subst (KeepsCuts p d) same h.kept;
      few = ⊎_elim (λ none. absurd (cc)) (λ few. inr (subst (λ (l : List Cut). length l ≤ most) same few)) h.few;
      ends = subst (λ (l : List Cut). GoNoFurther p d most l left) same h.ends;
    }

same_taken : (p : Program) (d : Decomposition) (cuts : List Cut) (most : ℕ) (xs ys xl yl : List Cut) → xs ++ xl ≡ ys ++ yl
    → IsParted p d cuts most xs xl → IsParted p d cuts most ys yl → xs ≡ ys
same_taken p d cuts most [] [] xl yl same a b = refl
same_taken p d cuts most [] (y ∷ ys) xl yl same a b =
    absurd (none_further p d cuts most y ys (ys ++ yl) yl (subst (GoNoFurther p d most (cuts ++ [])) same a.ends) b)
same_taken p d cuts most (x ∷ xs) [] xl yl same a b =
    absurd (none_further p d cuts most x xs (xs ++ xl) xl (subst (GoNoFurther p d most (cuts ++ [])) (sym same) b.ends) a)
same_taken p d cuts most (x ∷ xs) (y ∷ ys) xl yl same a b =
    let head : x ≡ y = cc in
    let tail : xs ++ xl ≡ ys ++ yl = cc in
    let b' : IsParted p d cuts most (x ∷ ys) yl = subst (λ (c : Cut). IsParted p d cuts most (c ∷ ys) yl) (sym head) b in
    let rest : xs ≡ ys = same_taken p d (cuts ++ x ∷ []) most xs ys xl yl tail (one_on p d cuts most x xs xl a) (one_on p d cuts most x ys yl b') in
    ap (λ (c : Cut). c ∷ xs) head ∙ ap (λ (l : List Cut). y ∷ l) rest

pub one_list_lem : (p : Program) (d : Decomposition) (given others cs ds : List Cut) (most : ℕ) → HasFirstOf p d given others most cs
    → HasFirstOf p d given others most ds → cs ≡ ds
one_list_lem p d given others cs ds most a b =
    let parts_a : IsParted p d given most a.taken a.left = record {
      kept = subst (KeepsCuts p d) a.is a.kept;
      few = ⊎_elim (λ none. inl none) (λ few. inr (subst (λ (l : List Cut). length l ≤ most) a.is few)) a.few;
      ends = subst (λ (l : List Cut). GoNoFurther p d most l a.left) a.is a.ends;
    } in
    let parts_b : IsParted p d given most b.taken b.left = record {
      kept = subst (KeepsCuts p d) b.is b.kept;
      few = ⊎_elim (λ none. inl none) (λ few. inr (subst (λ (l : List Cut). length l ≤ most) b.is few)) b.few;
      ends = subst (λ (l : List Cut). GoNoFurther p d most l b.left) b.is b.ends;
    } in
    a.is ∙ ap (λ (taken : List Cut). given ++ taken) (same_taken p d given most a.taken b.taken a.left b.left (sym a.parts ∙ b.parts) parts_a parts_b) ∙ sym b.is
