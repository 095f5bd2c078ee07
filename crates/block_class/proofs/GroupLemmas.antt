-- Blocks grouped by signatures, one by one, and the classes that they end with.
use Rattle.std.proofs.Common.{◌≡◌, ℕ, zero, suc, ◌+◌, ◌<◌, Bool, true, false, List, [], ◌∷◌, ◌++◌, length, get_or, slice_get, Some, All, refl, sym, ap, subst, ◌∙◌, ⊎_elim, arith, true≢false, if◌then◌else◌, length-append}
use Rattle.std.specs.Prelude.{ℤ, MatchBool}
use Rattle.std.specs.List.{AllByRecursion, IsDistinct}
use Rattle.std.specs.List.Sorted.{IsStrictlyIncreasing}
use Rattle.std.specs.Ordering.{int_eq}
use Rattle.std.specs.Cmp.Lexicographic.{pointwise}
use Rattle.std.proofs.lemmas.Bool.{cases_lt}
use Rattle.std.proofs.lemmas.List.{get_or_append_left, get_or-append-add, get_or_default}
use Rattle.std.proofs.lemmas.Option.{slice_get_within, get_or_from_slice_get}
use Rattle.bp_theory.specs.Blocking.{Block, Blocking}
use Rattle.bp_theory.specs.declared.Span.{Span}
use Rattle.search_laws.specs.Spread.{block_at, class_at, AreClasses}
use Rattle.block_class.specs.Classes.{Grouping, IsFirstOf, AreSameClasses}
use Rattle.block_class.specs.Signatures.{signature, IsGrouped}
use Rattle.block_program.specs.Blocked.{BlockedProgram, IsFormed}
use Rattle.block_class.proofs.SameLemmas.{HasCoefs, same_from_signature, signature_from_same, named_count, formed_have}
use Rattle.std.proofs.lemmas.Cmp.{lists_equiv, int_eq_equiv}
use Rattle.std.proofs.lemmas.Map.Keys.{apart_from_distinct}

-- ---- lists with one element more

pushed_before : (xs : List ℕ) (x i : ℕ) → i < length xs → class_at (xs ++ x ∷ []) i ≡ class_at xs i
pushed_before xs x i l = get_or_append_left xs (x ∷ []) 0 i l

pushed_last : (xs : List ℕ) (x i : ℕ) → i ≡ length xs → class_at (xs ++ x ∷ []) i ≡ x
pushed_last xs x i e = let at : i ≡ length xs + 0 = omega (arith, e) in ap (λ n. get_or (xs ++ x ∷ []) n 0) at ∙ get_or-append-add xs (x ∷ []) 0 0

longer : {X : Type 0} (xs : List X) (x : X) → length (xs ++ x ∷ []) ≡ length xs + 1
longer xs x = length-append xs (x ∷ [])

-- rising numbers with a greater one behind them
rise_more : (xs : List ℕ) (x : ℕ) → IsStrictlyIncreasing xs → ((i : ℕ) → i < length xs → get_or xs i 0 < x) → IsStrictlyIncreasing (xs ++ x ∷ [])
rise_more xs x h below i l =
    let long = longer xs x in
    ⊎_elim
    (λ inside. omega (arith, pushed_before xs x i (omega (arith, inside)), pushed_before xs x (i + 1) inside, h i inside))
    (λ at. omega (arith, pushed_before xs x i (omega (arith, at, l, long)), pushed_last xs x (i + 1) (omega (arith, at, l, long)), below i (omega (arith, at, l, long))))
    (cases_lt (i + 1) (length xs))

-- ---- one block more

-- a class's first block is so with one block more
first_stays : (classes : List ℕ) (x c f : ℕ) → IsFirstOf classes c f → IsFirstOf (classes ++ x ∷ []) c f
first_stays classes x c f h = record {
  there = omega (arith, h.there, longer classes x);
  own = pushed_before classes x f h.there ∙ h.own;
  least = λ j l e. ⊎_elim
      (λ inside. h.least j inside (sym (pushed_before classes x j inside) ∙ e))
      (λ past. omega (arith, past, h.there))
      (cases_lt j (length classes));
}

-- the numbers of classes are those of kept signatures
below_kept : (sig : ℕ → List ℤ) (k : ℕ) (kept : List (List ℤ)) (classes firsts : List ℕ) → IsGrouped sig k kept classes firsts → (j : ℕ) → j < k → class_at classes j < length kept
below_kept sig k kept classes firsts h j l = slice_get_within kept (class_at classes j) (sig j) (h.class j l)

firsts_below : (sig : ℕ → List ℤ) (k : ℕ) (kept : List (List ℤ)) (classes firsts : List ℕ) → IsGrouped sig k kept classes firsts → (i : ℕ) → i < length firsts → get_or firsts i 0 < k
firsts_below sig k kept classes firsts h i l = omega (arith, (h.own i (omega (arith, l, h.each_first))).there, h.each)

-- a signature that is kept already
pub grouped_old : (sig : ℕ → List ℤ) (k : ℕ) (kept : List (List ℤ)) (classes firsts : List ℕ) (c : ℕ) → IsGrouped sig k kept classes firsts
    → slice_get kept c ≡ Some (sig k) → IsGrouped sig (k + 1) kept (classes ++ c ∷ []) firsts
grouped_old sig k kept classes firsts c h at = record {
  each = omega (arith, longer classes c, h.each);
  few = omega (arith, h.few);
  each_first = h.each_first;
  class = λ j l. ⊎_elim
      (λ less. ap (slice_get kept) (pushed_before classes c j (omega (arith, less, h.each))) ∙ h.class j less)
      (λ more. let same : j ≡ k = omega (arith, l, more) in ap (slice_get kept) (pushed_last classes c j (omega (arith, same, h.each))) ∙ at ∙ ap (λ n. Some (sig n)) (sym same))
      (cases_lt j k);
  own = λ d l. first_stays classes c d (class_at firsts d) (h.own d l);
  ascend = h.ascend;
}

-- a new signature
pub grouped_new : (sig : ℕ → List ℤ) (k : ℕ) (kept : List (List ℤ)) (classes firsts : List ℕ) (c : ℕ) → IsGrouped sig k kept classes firsts
    → c ≡ length kept → slice_get (kept ++ sig k ∷ []) c ≡ Some (sig k) → IsGrouped sig (k + 1) (kept ++ sig k ∷ []) (classes ++ c ∷ []) (firsts ++ k ∷ [])
grouped_new sig k kept classes firsts c h last at =
    let long = longer kept (sig k) in
    record {
      each = omega (arith, longer classes c, h.each);
      few = omega (arith, h.few, long);
      each_first = omega (arith, h.each_first, long, longer firsts k);
      class = λ j l. ⊎_elim
          (λ less.
          let inside = below_kept sig k kept classes firsts h j less in
          ap (slice_get (kept ++ sig k ∷ [])) (pushed_before classes c j (omega (arith, less, h.each)))
          ∙ stays kept (sig k) (class_at classes j) inside ∙ h.class j less)
          (λ more. let same : j ≡ k = omega (arith, l, more) in
          ap (slice_get (kept ++ sig k ∷ [])) (pushed_last classes c j (omega (arith, same, h.each))) ∙ at ∙ ap (λ n. Some (sig n)) (sym same))
          (cases_lt j k);
      own = λ d l. ⊎_elim
          (λ less. subst (IsFirstOf (classes ++ c ∷ []) d) (sym (pushed_before firsts k d (omega (arith, less, h.each_first)))) (first_stays classes c d (class_at firsts d) (h.own d less)))
          (λ more.
          let same : d ≡ length kept = omega (arith, l, more, long) in
          subst (IsFirstOf (classes ++ c ∷ []) d) (sym (pushed_last firsts k d (omega (arith, same, h.each_first)))) (newest d same))
          (cases_lt d (length kept));
      ascend = rise_more firsts k h.ascend (firsts_below sig k kept classes firsts h);
    }
  where
    stays : (xs : List (List ℤ)) (x : List ℤ) (i : ℕ) → i < length xs → slice_get (xs ++ x ∷ []) i ≡ slice_get xs i
    stays [] x i l = absurd (omega arith)
    stays (y ∷ ys) x zero l = refl
    stays (y ∷ ys) x (suc i) l = stays ys x i (omega arith)

    newest : (d : ℕ) → d ≡ length kept → IsFirstOf (classes ++ c ∷ []) d k
    newest d same = record {
      there = omega (arith, longer classes c, h.each);
      own = pushed_last classes c k (sym h.each) ∙ last ∙ sym same;
      least = λ j l e. ⊎_elim
          (λ less. absurd (let none : ⊥ = omega (arith, below_kept sig k kept classes firsts h j less, pushed_before classes c j (omega (arith, less, h.each)), e, same) in none))
          (λ more. more)
          (cases_lt j k);
    }

one_value : {X : Type 0} (x y : X) → Some x ≡ Some y → x ≡ y
one_value x y e = cc

-- signatures that are kept twice are kept at one place
one_place : (kept : List (List ℤ)) (c d : ℕ) (x : List ℤ) → IsDistinct (pointwise int_eq) kept → slice_get kept c ≡ Some x → slice_get kept d ≡ Some x → c ≡ d
one_place kept c d x distinct at_c at_d = ⊎_elim
    (λ less. absurd (apart c d less at_c at_d))
    (λ more. ⊎_elim (λ less. absurd (apart d c less at_d at_c)) (λ even. omega (arith, more, even)) (cases_lt d c))
    (cases_lt c d)
  where
    apart : (i j : ℕ) → i < j → slice_get kept i ≡ Some x → slice_get kept j ≡ Some x → ⊥
    apart i j less at_i at_j =
        true≢false
        (sym ((lists_equiv int_eq_equiv).refl x) ∙ ap (λ (y : List ℤ). pointwise int_eq y x) (sym (get_or_from_slice_get kept i x x at_i))
        ∙ ap (pointwise int_eq (get_or kept i x)) (sym (get_or_from_slice_get kept j x x at_j))
        ∙ apart_from_distinct (pointwise int_eq) kept i j x distinct less (slice_get_within kept j x at_j))

pushed_at : (xs : List (List ℤ)) (x : List ℤ) → slice_get (xs ++ x ∷ []) (length xs) ≡ Some x
pushed_at [] x = refl
pushed_at (y ∷ ys) x = pushed_at ys x

-- a block more, whether its signature is new or not
pub grouped_more : (sig : ℕ → List ℤ) (k : ℕ) (kept kept' : List (List ℤ)) (classes firsts classes' firsts' : List ℕ) (numbers : List ℤ) (c : ℕ) (is_new : Bool)
    → IsGrouped sig k kept classes firsts → numbers ≡ sig k → slice_get kept' c ≡ Some numbers
    → MatchBool is_new (kept' ≡ kept ++ numbers ∷ []) (kept' ≡ kept) → IsDistinct (pointwise int_eq) kept'
    → classes' ≡ classes ++ c ∷ [] → firsts' ≡ (if is_new then firsts ++ k ∷ [] else firsts)
    → IsGrouped sig (k + 1) kept' classes' firsts'
grouped_more sig k kept kept' classes firsts classes' firsts' numbers c true h is at kept_is distinct classes_are firsts_are =
    let last : c ≡ length kept = one_place kept' c (length kept) numbers distinct at (ap (λ (ks : List (List ℤ)). slice_get ks (length kept)) kept_is ∙ pushed_at kept numbers) in
    let kept_are : kept' ≡ kept ++ sig k ∷ [] = kept_is ∙ ap (λ (zs : List ℤ). kept ++ zs ∷ []) is in
    subst (λ (fs : List ℕ). IsGrouped sig (k + 1) kept' classes' fs) (sym firsts_are)
    (subst (λ (cs : List ℕ). IsGrouped sig (k + 1) kept' cs (firsts ++ k ∷ [])) (sym classes_are)
    (subst (λ (ks : List (List ℤ)). IsGrouped sig (k + 1) ks (classes ++ c ∷ []) (firsts ++ k ∷ [])) (sym kept_are)
    (grouped_new sig k kept classes firsts c h last (ap (λ (ks : List (List ℤ)). slice_get ks c) (sym kept_are) ∙ at ∙ ap Some is))))
grouped_more sig k kept kept' classes firsts classes' firsts' numbers c false h is at kept_is distinct classes_are firsts_are =
    subst (λ (fs : List ℕ). IsGrouped sig (k + 1) kept' classes' fs) (sym firsts_are)
    (subst (λ (cs : List ℕ). IsGrouped sig (k + 1) kept' cs firsts) (sym classes_are)
    (subst (λ (ks : List (List ℤ)). IsGrouped sig (k + 1) ks (classes ++ c ∷ []) firsts) (sym kept_is)
    (grouped_old sig k kept classes firsts c h (ap (λ (ks : List (List ℤ)). slice_get ks c) (sym kept_is) ∙ at ∙ ap Some is))))

-- ---- the classes

pub classes_are : (n m : ℕ) (zone : List Span) (b : Blocking) (kept : List (List ℤ)) (classes firsts : List ℕ) → m ≡ length b.blocks
    → IsGrouped (λ j. signature zone (block_at b j)) m kept classes firsts → IsDistinct (pointwise int_eq) kept
    → All (λ (k : Block). AllByRecursion (HasCoefs n) k.copies) b.blocks → AreSameClasses zone b (record { classes = classes; firsts = firsts })
classes_are n m zone b kept classes firsts m_is h distinct have =
    let sig : ℕ → List ℤ = λ j. signature zone (block_at b j) in
    record {
      each = h.each ∙ m_is;
      known = λ j d l.
          let below = below_kept sig m kept classes firsts h j (omega (arith, l, h.each)) in
          omega (arith, below, get_or_default classes j d 0 l, h.each_first);
      same = λ j k lj lk. (
        (λ e. same_from_signature zone (block_at b j) (block_at b k)
            (one_value (sig j) (sig k) (sym (h.class j (omega (arith, lj, m_is))) ∙ ap (slice_get kept) e ∙ h.class k (omega (arith, lk, m_is))))),
        (λ same. one_place kept (class_at classes j) (class_at classes k) (sig k) distinct
            (h.class j (omega (arith, lj, m_is)) ∙ ap Some (signature_from_same n zone (block_at b j) (block_at b k) (have j _ lj) (have k _ lk) same))
            (h.class k (omega (arith, lk, m_is)))),
      );
      firsts = λ c l. h.own c (omega (arith, l, h.each_first));
      ascend = h.ascend;
    }

-- each block is the same as its class's first
pub classes_shared : (zone : List Span) (b : Blocking) (g : Grouping) → AreSameClasses zone b g → AreClasses zone b g.classes g.firsts
classes_shared zone b g h = record {
  each = h.each;
  known = h.known;
  same = λ j l.
      let c : ℕ = class_at g.classes j in
      let first = h.firsts c (h.known j 0 (omega (arith, l, h.each))) in
      (h.same (class_at g.firsts c) j (omega (arith, first.there, h.each)) l).0 first.own;
}

-- the classes of a program in blocks
pub program_classes : (b : BlockedProgram) (zone : List Span) (m : ℕ) (kept : List (List ℤ)) (classes firsts : List ℕ) → IsFormed b → m ≡ length b.blocking.blocks
    → IsGrouped (λ j. signature zone (block_at b.blocking j)) m kept classes firsts → IsDistinct (pointwise int_eq) kept
    → AreSameClasses zone b.blocking (record { classes = classes; firsts = firsts })
program_classes b zone m kept classes firsts formed m_is h distinct =
    classes_are (named_count b) m zone b.blocking kept classes firsts m_is h distinct (formed_have b formed)

-- no blocks are grouped by no signatures
pub none_grouped : (sig : ℕ → List ℤ) (kept : List (List ℤ)) (classes firsts : List ℕ) → kept ≡ [] → classes ≡ [] → firsts ≡ [] → IsGrouped sig 0 kept classes firsts
none_grouped sig kept classes firsts kept_are classes_are firsts_are = record {
  each = ap length classes_are;
  few = omega (arith, ap length kept_are);
  each_first = ap length firsts_are ∙ sym (ap length kept_are);
  class = λ j l. absurd (omega (arith, l));
  own = λ c l. absurd (let none : ⊥ = omega (arith, l, ap length kept_are) in none);
  ascend = λ k l. absurd (let none : ⊥ = omega (arith, l, ap length firsts_are) in none);
}
