-- Decks of columns, and which column a block gets.
use Rattle.std.proofs.Common.{◌≡◌, refl, sym, ap, subst, ◌∙◌, ℕ, zero, suc, ◌+◌, ◌<◌, ◌≤◌, Bool, true, false, cond, List, [], ◌∷◌, ◌++◌, filter, length, take, get_or, set, replicate, append_assoc, arith, ⊎_elim, if◌then◌else◌}
use Rattle.std.proofs.Math.IntN.{ℤ, pos, ◌+ℤ◌, ◌*ℤ◌}
use Rattle.std.specs.Prelude.{◌==◌, count_by, flat_map}
use Rattle.std.specs.List.{AllByRecursion}
use Rattle.std.proofs.lemmas.Int.{ints}
use Rattle.std.proofs.lemmas.Bool.Decides.{eqb_tells}
use Rattle.std.proofs.lemmas.List.{take_more, get_or-set_same, get_or-set_other, map-append}
use Rattle.std.proofs.lemmas.List.Sums.{count_by_more_yes, count_by_more_no, count_by-le-length, sum_by-take-le}
use Rattle.bp_theory.specs.Sums.{sum_at}
use Rattle.search_laws.specs.declared.UsedColumn.{UsedColumn}
use Rattle.search_laws.specs.Master.{one_weight}
use Rattle.search_laws.specs.Spread.{class_at, class_blocks, times, IsWhole, class_points, rank}
use Rattle.column_assignment.specs.Deals.{point_at, points_at}

-- ---- decks

nothing_behind : {X : Type 0} (xs : List X) → xs ++ [] ≡ xs
nothing_behind [] = refl
nothing_behind (x ∷ xs) = ap (λ ys. x ∷ ys) (nothing_behind xs)

-- a used column more
class_points_more : (used : List UsedColumn) (u : UsedColumn) (k : ℕ)
    → class_points (used ++ u ∷ []) k ≡ class_points used k ++ (if u.class == k then replicate (times u) u.point else [])
class_points_more [] u k = by (u.class == k)
  where
    by : (b : Bool) → flat_map (λ (v : UsedColumn). replicate (times v) v.point) (cond b (u ∷ []) []) ≡ [] ++ (if b then replicate (times u) u.point else [])
    by true = nothing_behind (replicate (times u) u.point)
    by false = refl
class_points_more (x ∷ used) u k = by (x.class == k) (class_points_more used u k)
  where
    f : UsedColumn → List (List ℤ)
    f v = replicate (times v) v.point

    own : List (List ℤ)
    own = if u.class == k then replicate (times u) u.point else []

    by : (b : Bool) → flat_map f (filter (λ (v : UsedColumn). v.class == k) (used ++ u ∷ [])) ≡ flat_map f (filter (λ (v : UsedColumn). v.class == k) used) ++ own
        → flat_map f (cond b (x ∷ filter (λ (v : UsedColumn). v.class == k) (used ++ u ∷ [])) (filter (λ (v : UsedColumn). v.class == k) (used ++ u ∷ [])))
        ≡ flat_map f (cond b (x ∷ filter (λ (v : UsedColumn). v.class == k) used) (filter (λ (v : UsedColumn). v.class == k) used)) ++ own
    by true rest = ap (λ ys. f x ++ ys) rest ∙ sym (append_assoc (f x) (flat_map f (filter (λ (v : UsedColumn). v.class == k) used)) own)
    by false rest = rest

points_replicate : (used : List UsedColumn) (n i : ℕ) → points_at used (replicate n i) ≡ replicate n (point_at used i)
points_replicate used zero i = refl
points_replicate used (suc n) i = ap (λ ys. point_at used i ∷ ys) (points_replicate used n i)

pub any_default : {X : Type 0} (xs : List X) (i : ℕ) (d e : X) → i < length xs → get_or xs i d ≡ get_or xs i e
any_default [] i d e l = absurd (omega arith)
any_default (x ∷ xs) zero d e l = refl
any_default (x ∷ xs) (suc i) d e l = any_default xs i d e (omega arith)

-- no column is dealt out yet
pub deck_none : (used : List UsedColumn) (k : ℕ) (all : List (List ℕ)) → get_or all k [] ≡ [] → points_at used (get_or all k []) ≡ class_points [] k
deck_none used k all e = ap (points_at used) e

-- one used column more is put into its class's deck
pub deck_more : (used : List UsedColumn) (i : ℕ) (d : UsedColumn) (k class many : ℕ) (old new : List (List ℕ)) → i < length used
    → class ≡ (get_or used i d).class → many ≡ times (get_or used i d) → class < length old → new ≡ set old class (get_or old class [] ++ replicate many i)
    → points_at used (get_or old k []) ≡ class_points (take i used) k → points_at used (get_or new k []) ≡ class_points (take (i + 1) used) k
deck_more used i d k class many old new l class_is many_is there is h =
    let u : UsedColumn = get_or used i d in
    let right : class_points (take (i + 1) used) k ≡ class_points (take i used) k ++ (if class == k then replicate many u.point else []) =
    ap (λ (us : List UsedColumn). class_points us k) (take_more used i d l) ∙ class_points_more (take i used) u k
    ∙ ap (λ (c : ℕ). class_points (take i used) k ++ (if c == k then replicate (times u) u.point else [])) (sym class_is)
    ∙ ap (λ n. class_points (take i used) k ++ (if class == k then replicate n u.point else [])) (sym many_is) in
    let own : point_at used i ≡ u.point = ap (λ (c : UsedColumn). c.point) (any_default used i (record { class = 0; weight = pos 0; point = [] }) d l) in ⊎_elim
    (λ same.
    let here : get_or new k [] ≡ get_or old k [] ++ replicate many i =
    ap (λ (all : List (List ℕ)). get_or all k []) is
    ∙ subst (λ n. get_or (set old class (get_or old class [] ++ replicate many i)) n [] ≡ get_or old n [] ++ replicate many i) same.1
    (get_or-set_same old class (get_or old class [] ++ replicate many i) [] there) in
    ap (points_at used) here
    ∙ map-append (point_at used) (get_or old k []) (replicate many i)
    ∙ ap (λ ys. ys ++ points_at used (replicate many i)) h
    ∙ ap (λ ys. class_points (take i used) k ++ ys) (points_replicate used many i ∙ ap (replicate many) own)
    ∙ ap (λ (b : Bool). class_points (take i used) k ++ (if b then replicate many u.point else [])) (sym same.0)
    ∙ sym right)
    (λ other.
    let here : get_or new k [] ≡ get_or old k [] =
    ap (λ (all : List (List ℕ)). get_or all k []) is
    ∙ get_or-set_other old class k (get_or old class [] ++ replicate many i) [] (λ e. other.1 (sym e)) in
    ap (points_at used) here
    ∙ h
    ∙ sym (nothing_behind (class_points (take i used) k))
    ∙ ap (λ (b : Bool). class_points (take i used) k ++ (if b then replicate many u.point else [])) (sym other.0)
    ∙ sym right)
    (eqb_tells class k)

-- ---- how many blocks a class has

-- how many of a class are there, one block further
count_more : (classes : List ℕ) (n k : ℕ) → n < length classes
    → count_by (λ c. c == k) (take (n + 1) classes) ≡ count_by (λ c. c == k) (take n classes) + (if class_at classes n == k then 1 else 0)
count_more classes n k l = ⊎_elim
    (λ same. count_by_more_yes (λ c. c == k) classes n 0 l same.0
    ∙ ap {B = ℕ} (λ t. count_by (λ c. c == k) (take n classes) + (if t then 1 else 0)) (sym same.0))
    (λ other. count_by_more_no (λ c. c == k) classes n 0 l other.0
    ∙ add_none (count_by (λ c. c == k) (take n classes))
    ∙ ap {B = ℕ} (λ t. count_by (λ c. c == k) (take n classes) + (if t then 1 else 0)) (sym other.0))
    (eqb_tells (class_at classes n) k)
  where
    add_none : (m : ℕ) → m ≡ m + 0
    add_none m = omega arith

-- a block's rank is below the number of its class's blocks
pub rank_below : (classes : List ℕ) (j : ℕ) → j < length classes → rank classes j < class_blocks classes (class_at classes j)
rank_below classes j l =
    let k : ℕ = class_at classes j in
    omega (
      arith,
      count_more classes j k l,
      ap {B = ℕ} (λ t. if t then 1 else 0) (itself k),
      sum_by-take-le (λ c. cond (c == k) 1 0) classes (j + 1),
    )
  where
    itself : (k : ℕ) → (k == k) ≡ true
    itself k = ⊎_elim (λ same. same.0) (λ other. absurd (other.1 refl)) (eqb_tells k k)

-- a rank is at most the number of blocks so far
pub rank_small : (classes : List ℕ) (k n : ℕ) → count_by (λ c. c == k) (take n classes) ≤ n
rank_small classes k n = omega (arith, count_by-le-length (λ c. c == k) (take n classes), low classes n)
  where
    low : (cs : List ℕ) (n : ℕ) → length (take n cs) ≤ n
    low cs zero = omega arith
    low [] (suc n) = omega arith
    low (c ∷ cs) (suc n) = omega (arith, low cs n)

-- ranks, one block further
pub ranks_more : (classes ranks : List ℕ) (j class : ℕ) → j < length classes → class ≡ class_at classes j → class < length ranks
    → ((k : ℕ) → k < length ranks → get_or ranks k 0 ≡ count_by (λ c. c == k) (take j classes))
    → (k : ℕ) → k < length ranks → get_or (set ranks class (get_or ranks class 0 + 1)) k 0 ≡ count_by (λ c. c == k) (take (j + 1) classes)
ranks_more classes ranks j class l is there h k m = ⊎_elim
    (λ same.
    subst (λ n. get_or (set ranks class (get_or ranks class 0 + 1)) n 0 ≡ count_by (λ c. c == n) (take (j + 1) classes)) same.1
    (get_or-set_same ranks class (get_or ranks class 0 + 1) 0 there
    ∙ ap (λ n. n + 1) (h class there)
    ∙ sym (count_more classes j class l ∙ ap {B = ℕ} (λ t. count_by (λ c. c == class) (take j classes) + (if t then 1 else 0)) (at class (sym is)))))
    (λ other.
    get_or-set_other ranks class k (get_or ranks class 0 + 1) 0 (λ e. other.1 (sym e))
    ∙ h k m
    ∙ add_none (count_by (λ c. c == k) (take j classes))
    ∙ sym (count_more classes j k l ∙ ap {B = ℕ} (λ t. count_by (λ c. c == k) (take j classes) + (if t then 1 else 0)) (ap (λ c. c == k) (sym is) ∙ other.0)))
    (eqb_tells class k)
  where
    add_none : (m : ℕ) → m ≡ m + 0
    add_none m = omega arith

    at : (k : ℕ) → class_at classes j ≡ k → (class_at classes j == k) ≡ true
    at k e = ⊎_elim (λ same. same.0) (λ other. absurd (other.1 e)) (eqb_tells (class_at classes j) k)

-- a number at the end, and those before
pub pushed_last : (xs : List ℕ) (x n : ℕ) → length xs ≡ n → get_or (xs ++ x ∷ []) n 0 ≡ x
pushed_last [] x zero e = refl
pushed_last [] x (suc n) e = absurd (omega arith)
pushed_last (y ∷ xs) x zero e = absurd (omega arith)
pushed_last (y ∷ xs) x (suc n) e = pushed_last xs x n (omega arith)

pub pushed_before : (xs : List ℕ) (x j : ℕ) → j < length xs → get_or (xs ++ x ∷ []) j 0 ≡ get_or xs j 0
pushed_before [] x j l = absurd (omega arith)
pushed_before (y ∷ xs) x zero l = refl
pushed_before (y ∷ xs) x (suc j) l = pushed_before xs x j (omega arith)

-- ---- whole weights

-- the weights of a class are its number of points in units
units : (used : List UsedColumn) (k : ℕ) → AllByRecursion IsWhole used
    → pos one_weight *ℤ pos (length (class_points used k)) ≡ sum_at (λ (u : UsedColumn). u.class) (λ u. u.weight) used k
units [] k h = omega (arith, ints)
units (u ∷ used) k h = by (u.class == k) (units used k h.1)
  where
    f : UsedColumn → List (List ℤ)
    f v = replicate (times v) v.point

    rest : List (List ℤ)
    rest = class_points used k

    joined : (n : ℕ) (x : List ℤ) (ys : List (List ℤ)) → length (replicate n x ++ ys) ≡ n + length ys
    joined zero x ys = omega arith
    joined (suc n) x ys = omega (arith, joined n x ys)

    together : (n m l : ℕ) (w s : ℤ) → w ≡ pos one_weight *ℤ pos n → l ≡ n + m → pos one_weight *ℤ pos m ≡ s → pos one_weight *ℤ pos l ≡ w +ℤ s
    together n m l w s e f g = omega (arith, ints, e, f, g)

    none : (z : ℤ) → z ≡ pos 0 +ℤ z
    none z = omega (arith, ints)

    by : (b : Bool) → pos one_weight *ℤ pos (length rest) ≡ sum_at (λ (u : UsedColumn). u.class) (λ u. u.weight) used k
        → pos one_weight *ℤ pos (length (flat_map f (cond b (u ∷ filter (λ (v : UsedColumn). v.class == k) used) (filter (λ (v : UsedColumn). v.class == k) used))))
        ≡ (if b then u.weight else pos 0) +ℤ sum_at (λ (u : UsedColumn). u.class) (λ u. u.weight) used k
    by true e =
        together (times u) (length rest) (length (f u ++ rest)) u.weight (sum_at (λ (u : UsedColumn). u.class) (λ u. u.weight) used k)
        h.0 (joined (times u) u.point rest) e
    by false e = e ∙ none (sum_at (λ (u : UsedColumn). u.class) (λ u. u.weight) used k)

-- a class has as many points as blocks
pub sizes_agree : (used : List UsedColumn) (n k : ℕ) → AllByRecursion IsWhole used
    → sum_at (λ (u : UsedColumn). u.class) (λ u. u.weight) used k ≡ pos one_weight *ℤ pos n → length (class_points used k) ≡ n
sizes_agree used n k whole e = cancel (length (class_points used k)) n (units used k whole ∙ e)
  where
    cancel : (a b : ℕ) → pos one_weight *ℤ pos a ≡ pos one_weight *ℤ pos b → a ≡ b
    cancel a b h = omega (arith, ints, h)

-- a number of a point at the end, and those before
pub number_last : (xs : List ℤ) (x : ℤ) (n : ℕ) → length xs ≡ n → get_or (xs ++ x ∷ []) n (pos 0) ≡ x
number_last [] x zero e = refl
number_last [] x (suc n) e = absurd (omega arith)
number_last (y ∷ xs) x zero e = absurd (omega arith)
number_last (y ∷ xs) x (suc n) e = number_last xs x n (omega arith)

pub number_before : (xs : List ℤ) (x : ℤ) (j : ℕ) → j < length xs → get_or (xs ++ x ∷ []) j (pos 0) ≡ get_or xs j (pos 0)
number_before [] x j l = absurd (omega arith)
number_before (y ∷ xs) x zero l = refl
number_before (y ∷ xs) x (suc j) l = number_before xs x j (omega arith)
