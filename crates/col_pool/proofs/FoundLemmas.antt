-- Columns and the hashes of their points.
use Rattle.std.proofs.Common.{◌≡◌, ◌≢◌, ◌∙◌, refl, sym, ap, subst, ℕ, zero, suc, ◌<◌, List, [], ◌∷◌, ◌++◌, map, length, get_or, arith, ⊎_elim, Bool, true, false, true≢false}
use Rattle.std.proofs.lemmas.Bool.{cases_lt}
use Rattle.std.proofs.Math.IntN.{ℤ}
use Rattle.std.specs.Ordering.{int_eq}
use Rattle.std.specs.Cmp.Lexicographic.{pointwise}
use Rattle.std.specs.Cmp.Rules.{signed_items}
use Rattle.std.specs.List.{fold}
use Rattle.std.specs.Hash as fed
use Rattle.std.specs.Hash.FoldHasher as folding
use Rattle.hash_index.specs.declared.index.HashIndex.{HashIndex}
use Rattle.hash_index.proofs.WalkLemmas.{AreOthers, others_by_hash}
use Rattle.col_pool.specs.declared.column.Column.{Column}
use Rattle.col_pool.specs.Indexed.{hash_of}
use Rattle.col_pool.specs.Pools.{AreApart, HasPointAt, IsAbsent}

-- the column of a number has another point
abbrev pub IsOtherAt : List Column → Column → ℕ → Type 0
IsOtherAt columns column k = (d : Column) → (get_or columns k d).point ≢ column.point

-- columns with the same point have the same hash
same_hash : (a b : Column) → a.point ≡ b.point → hash_of a ≡ hash_of b
unfolding hash_of
same_hash a b e = ap (λ (y : List ℤ). folding.finish (fold folding.write folding.initial (fed.slice fed.i64 y))) e

-- a column with another hash has another point
pub other_columns : (index : HashIndex) (columns : List Column) (column : Column)
    → AreOthers index (map hash_of columns) (hash_of column) (IsOtherAt columns column)
other_columns index columns column =
    others_by_hash hash_of index columns (hash_of column) (IsOtherAt columns column) (λ k l apart d same. apart d (same_hash (get_or columns k d) column same))

-- one column more
pub count : (cs : List Column) (c : Column) → length (cs ++ c ∷ []) ≡ suc (length cs)
count [] c = refl
count (x ∷ xs) c = ap suc (count xs c)

-- one column more, whose point no other one has
pub apart_more : (columns : List Column) (column : Column) → AreApart columns → IsAbsent columns column.point → AreApart (columns ++ column ∷ [])
apart_more columns column apart absent = λ i j d before inside. ⊎_elim
    (λ (l : j < length columns).
    subst (λ (a : Column). a.point ≢ (get_or (columns ++ column ∷ []) j d).point) (sym (read_before columns column i d (omega (arith, before, l))))
    (subst (λ (b : Column). (get_or columns i d).point ≢ b.point) (sym (read_before columns column j d l)) (apart i j d before l)))
    (λ behind.
    let last : j ≡ length columns = omega (arith, behind, inside, count columns column) in
    let there : i < length columns = omega (arith, before, last) in
    subst (λ (a : Column). a.point ≢ (get_or (columns ++ column ∷ []) j d).point) (sym (read_before columns column i d there))
    (subst (λ (b : Column). (get_or columns i d).point ≢ b.point) (sym (ap (λ k. get_or (columns ++ column ∷ []) k d) last ∙ read_last columns column d))
    (absent i d there)))
    (cases_lt j (length columns))
  where
    read_before : (cs : List Column) (c : Column) (k : ℕ) (d : Column) → k < length cs → get_or (cs ++ c ∷ []) k d ≡ get_or cs k d
    read_before [] c k d l = let none : ⊥ = omega (arith, l) in absurd none
    read_before (x ∷ xs) c zero d l = refl
    read_before (x ∷ xs) c (suc k) d l = read_before xs c k d (omega (arith, l))

    read_last : (cs : List Column) (c d : Column) → get_or (cs ++ c ∷ []) (length cs) d ≡ c
    read_last [] c d = refl
    read_last (x ∷ xs) c d = read_last xs c d

-- the column that is read at a place, whatever stands in for one that isn't there
read_one : (columns : List Column) (k : ℕ) (at d : Column) → k < length columns → at ≡ get_or columns k at → get_or columns k d ≡ at
read_one [] k at d l e = let none : ⊥ = omega (arith, l) in absurd none
read_one (x ∷ xs) zero at d l e = sym e
read_one (x ∷ xs) (suc k) at d l e = read_one xs k at d (omega (arith, l)) e

-- a column that is equal has the point
pub has_point : (columns : List Column) (column at : Column) (k : ℕ) (same : Bool) → k < length columns → at ≡ get_or columns k at
    → same ≡ pointwise int_eq at.point column.point → same ≡ true → HasPointAt columns k column.point
has_point columns column at k same l e is told = record {
  there = l;
  is = λ d. ap (λ (c : Column). c.point) (read_one columns k at d l e) ∙ (signed_items at.point column.point).0 (sym is ∙ told);
}

-- a column that isn't has another point
pub has_other : (columns : List Column) (column at : Column) (k : ℕ) (same : Bool) → k < length columns → at ≡ get_or columns k at
    → same ≡ pointwise int_eq at.point column.point → same ≡ false → IsOtherAt columns column k
has_other columns column at k same l e is told = λ d found.
    true≢false (sym ((signed_items at.point column.point).1 (sym (ap (λ (c : Column). c.point) (read_one columns k at d l e)) ∙ found)) ∙ sym is ∙ told)
