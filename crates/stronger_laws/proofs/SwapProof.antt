-- Two blocks that are alike and stand alone can change their numbers: what comes of it is as feasible and costs as much.
use Rattle.std.proofs.Common.{◌≡◌, ◌≢◌, refl, sym, ap, ◌∙◌, ℕ, zero, suc, ◌+◌, ◌<◌, ◌≤◌, Bool, true, false, not, ◌&&◌, ◌||◌, List, [], ◌∷◌, map, length, get_or, arith, ⊎_elim}
use Rattle.std.proofs.Math.IntN.{ℤ, pos, ◌+ℤ◌, ◌-ℤ◌, ◌*ℤ◌}
use Rattle.std.specs.Prelude.{◌==◌, if◌then◌else◌}
use Rattle.std.specs.List.{AllByRecursion, AllPairs, range_with_len, list_any}
use Rattle.std.specs.Ordering.{int_eq}
use Rattle.std.proofs.lemmas.Bool.Decides.{eqb_tells, Decides-int_eq}
use Rattle.std.proofs.lemmas.Int.{ints}
use Rattle.std.proofs.lemmas.List.FromFn.{fill_by_all, length-map-range_with_len, get_or-map-range_with_len}
use Rattle.std.proofs.lemmas.List.Kept.{AllPairs-from_increasing}
use Rattle.std.proofs.lemmas.List.Elements.{recursion_from_All}
use Rattle.bp_theory.specs.Sums.{sum_of, sum_at, dot}
use Rattle.bp_theory.specs.Program.{value_at}
use Rattle.bp_theory.specs.Blocking.{Copy, Block, Blocking, restriction, all_copies}
use Rattle.bp_theory.specs.Bound.{spans_of}
use Rattle.bp_theory.specs.Classes.{IsSame}
use Rattle.bp_theory.specs.declared.Sense.{Sense}
use Rattle.bp_theory.specs.declared.Sense.TheVariants.{Le, Ge, Eq, In}
use Rattle.bp_theory.specs.declared.Span.{Span}
use Rattle.bp_theory.specs.declared.Term.{Term}
use Rattle.bp_theory.specs.declared.Row.{Row}
use Rattle.bp_theory.proofs.SumLaws.{sum_of-same, sum_of-add, sum_of-map, sum_of-flat_map, dot-map-map}
use Rattle.bp_theory.proofs.KeyLaws.{sum_of-pick}
use Rattle.bp_theory.proofs.DecompositionProof.{eqb_itself}
use Rattle.search_laws.specs.Spread.{block_at}
use Rattle.stronger_laws.specs.Alike.{agree, same_span, same_entry, same_term, same_sense, same_row, is_alike, variables_of, HasDistinctVariables, is_among, shares, stands_alone}

-- ---- tests

pub and_true : (s t : Bool) → (s && t) ≡ true → (s ≡ true) × (t ≡ true)
and_true true t h = (refl, h)
and_true false t h = absurd (cc)

or_false : (s t : Bool) → (s || t) ≡ false → (s ≡ false) × (t ≡ false)
or_false true t h = absurd (cc)
or_false false t h = (refl, h)

not_true : (s : Bool) → not s ≡ true → s ≡ false
not_true true h = absurd (cc)
not_true false h = refl

pub differ : (a b : ℕ) → a ≢ b → (a == b) ≡ false
differ a b n = ⊎_elim (λ same. absurd (n same.1)) (λ other. other.0) (eqb_tells a b)

same_numbers : (a b : ℕ) → (a == b) ≡ true → a ≡ b
same_numbers a b e = ⊎_elim (λ same. same.1) (λ other. absurd (nothing (sym e ∙ other.0))) (eqb_tells a b)
  where
    nothing : true ≡ false → ⊥
    nothing h = cc

other_numbers : (a b : ℕ) → (a == b) ≡ false → a ≢ b
other_numbers a b e = ⊎_elim (λ same. absurd (nothing (sym same.0 ∙ e))) (λ other. other.1) (eqb_tells a b)
  where
    nothing : true ≡ false → ⊥
    nothing h = cc

-- lists that agree are equal
agree_tells : {X : Type 0} (same : X → X → Bool) → ((x y : X) → same x y ≡ true → x ≡ y) → (xs ys : List X) → agree same xs ys ≡ true → xs ≡ ys
agree_tells same sound [] [] h = refl
agree_tells same sound [] (y ∷ ys) h = absurd (cc)
agree_tells same sound (x ∷ xs) [] h = absurd (cc)
agree_tells same sound (x ∷ xs) (y ∷ ys) h =
    let both = and_true (same x y) (agree same xs ys) h in
    joined x y xs ys (sound x y both.0) (agree_tells same sound xs ys both.1)
  where
    joined : {X : Type 0} (x y : X) (xs ys : List X) → x ≡ y → xs ≡ ys → x ∷ xs ≡ y ∷ ys
    joined x y xs ys e f = cc

same_ints : (a b : ℤ) → int_eq a b ≡ true → a ≡ b
same_ints a b e = (Decides-int_eq a b).0 e

-- records of their fields
abbrev span_by : ℤ → ℤ → Span
span_by lo hi = record { lo = lo; hi = hi }

abbrev term_by : ℕ → ℤ → Term
term_by v c = record { var = v; coef = c }

abbrev row_by : Sense → ℤ → ℤ → List Term → Row
row_by s low rhs ts = record { sense = s; low = low; rhs = rhs; terms = ts }

same_spans : (s t : Span) → same_span s t ≡ true → s ≡ t
same_spans s t h =
    let both = and_true (int_eq s.lo t.lo) (int_eq s.hi t.hi) h in
    joined s.lo s.hi t.lo t.hi (same_ints s.lo t.lo both.0) (same_ints s.hi t.hi both.1)
  where
    joined : (a b c d : ℤ) → a ≡ c → b ≡ d → span_by a b ≡ span_by c d
    joined a b c d e f = cc

same_entries : (e f : ℕ × ℤ) → same_entry e f ≡ true → e ≡ f
same_entries e f h =
    let both = and_true (e.0 == f.0) (int_eq e.1 f.1) h in
    joined e.0 f.0 e.1 f.1 (same_numbers e.0 f.0 both.0) (same_ints e.1 f.1 both.1)
  where
    joined : (a b : ℕ) (c d : ℤ) → a ≡ b → c ≡ d → ◌≡◌ {A = ℕ × ℤ} (a, c) (b, d)
    joined a b c d e f = cc

same_terms : (t u : Term) → same_term t u ≡ true → t ≡ u
same_terms t u h =
    let both = and_true (t.var == u.var) (int_eq t.coef u.coef) h in
    joined t.var u.var t.coef u.coef (same_numbers t.var u.var both.0) (same_ints t.coef u.coef both.1)
  where
    joined : (a b : ℕ) (c d : ℤ) → a ≡ b → c ≡ d → term_by a c ≡ term_by b d
    joined a b c d e f = cc

same_senses : (s t : Sense) → same_sense s t ≡ true → s ≡ t
same_senses Le Le h = refl
same_senses Le Ge h = absurd (cc)
same_senses Le Eq h = absurd (cc)
same_senses Le In h = absurd (cc)
same_senses Ge Le h = absurd (cc)
same_senses Ge Ge h = refl
same_senses Ge Eq h = absurd (cc)
same_senses Ge In h = absurd (cc)
same_senses Eq Le h = absurd (cc)
same_senses Eq Ge h = absurd (cc)
same_senses Eq Eq h = refl
same_senses Eq In h = absurd (cc)
same_senses In Le h = absurd (cc)
same_senses In Ge h = absurd (cc)
same_senses In Eq h = absurd (cc)
same_senses In In h = refl

same_rows : (r s : Row) → same_row r s ≡ true → r ≡ s
same_rows r s h =
    let senses = and_true (same_sense r.sense s.sense) (int_eq r.low s.low && (int_eq r.rhs s.rhs && agree same_term r.terms s.terms)) h in
    let lows = and_true (int_eq r.low s.low) (int_eq r.rhs s.rhs && agree same_term r.terms s.terms) senses.1 in
    let sides = and_true (int_eq r.rhs s.rhs) (agree same_term r.terms s.terms) lows.1 in
    joined r.sense s.sense r.low s.low r.rhs s.rhs r.terms s.terms (same_senses r.sense s.sense senses.0) (same_ints r.low s.low lows.0)
    (same_ints r.rhs s.rhs sides.0) (agree_tells same_term same_terms r.terms s.terms sides.1)
  where
    joined : (a b : Sense) (c d e f : ℤ) (ts us : List Term) → a ≡ b → c ≡ d → e ≡ f → ts ≡ us
        → row_by a c e ts ≡ row_by b d f us
    joined a b c d e f ts us g h i j = cc

-- a map of a map
pub fused : {X Y Z : Type 0} (g : Y → Z) (f : X → Y) (xs : List X) → map (λ x. g (f x)) xs ≡ map g (map f xs)
fused g f [] = refl
fused g f (x ∷ xs) = ap (λ zs. g (f x) ∷ zs) (fused g f xs)

-- blocks that are alike are the same in the zone
pub alike_tells : (zone : List Span) (k l : Block) → is_alike zone k l ≡ true → IsSame zone k l
alike_tells zone k l h =
    let costs : Bool = agree int_eq (map (λ (c : Copy). c.cost) k.copies) (map (λ (c : Copy). c.cost) l.copies) in
    let spans : Bool = agree same_span (spans_of zone k) (spans_of zone l) in
    let coefs : Bool = agree (agree same_entry) (map (λ (c : Copy). c.coefs) k.copies) (map (λ (c : Copy). c.coefs) l.copies) in
    let rows : Bool = agree same_row k.rows l.rows in
    let first = and_true costs (spans && (coefs && rows)) h in
    let second = and_true spans (coefs && rows) first.1 in
    let third = and_true coefs rows second.1 in
    let entries : map (λ (c : Copy). c.coefs) k.copies ≡ map (λ (c : Copy). c.coefs) l.copies =
    agree_tells (agree same_entry) (agree_tells same_entry same_entries) (map (λ (c : Copy). c.coefs) k.copies) (map (λ (c : Copy). c.coefs) l.copies) third.0 in
    record {
      costs = agree_tells int_eq same_ints (map (λ (c : Copy). c.cost) k.copies) (map (λ (c : Copy). c.cost) l.copies) first.0;
      spans = agree_tells same_span same_spans (spans_of zone k) (spans_of zone l) second.0;
      coefs = λ row.
          let at : List (ℕ × ℤ) → ℤ = λ es. sum_at (λ (e : ℕ × ℤ). e.0) (λ e. e.1) es row in
          fused at (λ (c : Copy). c.coefs) k.copies ∙ ap (map at) entries ∙ sym (fused at (λ (c : Copy). c.coefs) l.copies);
      rows = agree_tells same_row same_rows k.rows l.rows third.1;
    }

-- ---- variables that change places

-- what stands in the place of a variable in the other list
pub partner : List ℕ → List ℕ → ℕ → ℕ
partner [] ws v = v
partner (u ∷ us) [] v = v
partner (u ∷ us) (w ∷ ws) v = if u == v then w else if w == v then u else partner us ws v

-- a variable isn't in a list
abbrev pub IsMissing : List ℕ → ℕ → Type 0
IsMissing us v = AllByRecursion (λ u. u ≢ v) us

-- no variable twice, and none in both lists
pub AreDistinct : List ℕ → Type 0
AreDistinct [] = Unit {0}
AreDistinct (u ∷ us) = IsMissing us u × AreDistinct us

abbrev pub AreApart : List ℕ → List ℕ → Type 0
AreApart us ws = AllByRecursion (IsMissing ws) us

partner_first : (u w : ℕ) (us ws : List ℕ) → partner (u ∷ us) (w ∷ ws) u ≡ w
unfolding partner
partner_first u w us ws = ap (λ t. if t then w else if w == u then u else partner us ws u) (eqb_itself u)

partner_back : (u w : ℕ) (us ws : List ℕ) → u ≢ w → partner (u ∷ us) (w ∷ ws) w ≡ u
unfolding partner
partner_back u w us ws n =
    ap (λ t. if t then w else if w == w then u else partner us ws w) (differ u w n)
    ∙ ap (λ t. if t then u else partner us ws w) (eqb_itself w)

partner_next : (u w : ℕ) (us ws : List ℕ) (v : ℕ) → u ≢ v → w ≢ v → partner (u ∷ us) (w ∷ ws) v ≡ partner us ws v
unfolding partner
partner_next u w us ws v n m =
    ap (λ t. if t then w else if w == v then u else partner us ws v) (differ u v n)
    ∙ ap (λ t. if t then u else partner us ws v) (differ w v m)

-- a variable that is in neither list stays
pub partner_other : (us ws : List ℕ) (v : ℕ) → IsMissing us v → IsMissing ws v → partner us ws v ≡ v
unfolding partner
partner_other [] ws v h g = refl
partner_other (u ∷ us) [] v h g = refl
partner_other (u ∷ us) (w ∷ ws) v h g = partner_next u w us ws v h.0 g.0 ∙ partner_other us ws v h.1 g.1

-- what agrees on both lists agrees on partners
pub partner_keeps : {Y : Type 0} (f : ℕ → Y) (us ws : List ℕ) → map f us ≡ map f ws → (v : ℕ) → f (partner us ws v) ≡ f v
unfolding partner
partner_keeps f [] ws e v = refl
partner_keeps f (u ∷ us) [] e v = refl
partner_keeps f (u ∷ us) (w ∷ ws) e v =
    let head : f u ≡ f w = cc in
    let tail : map f us ≡ map f ws = cc in
    ⊎_elim
    (λ same. ap f (ap (λ t. if t then w else if w == v then u else partner us ws v) same.0) ∙ sym head ∙ ap f same.1)
    (λ other. ap f (ap (λ t. if t then w else if w == v then u else partner us ws v) other.0)
    ∙ ⊎_elim
    (λ same. ap f (ap (λ t. if t then u else partner us ws v) same.0) ∙ head ∙ ap f same.1)
    (λ last. ap f (ap (λ t. if t then u else partner us ws v) last.0) ∙ partner_keeps f us ws tail v)
    (eqb_tells w v))
    (eqb_tells u v)

-- two facts about a list together
combine : {X : Type 0} (P Q R : X → Type 0) → ((x : X) → P x → Q x → R x) → (xs : List X) → AllByRecursion P xs → AllByRecursion Q xs
    → AllByRecursion R xs
combine P Q R f [] h g = tt
combine P Q R f (x ∷ xs) h g = (f x h.0 g.0, combine P Q R f xs h.1 g.1)

-- functions that agree on a list
pub maps_agree : {X Y : Type 0} (f g : X → Y) (xs : List X) → AllByRecursion (λ x. f x ≡ g x) xs → map f xs ≡ map g xs
maps_agree f g [] h = refl
maps_agree f g (x ∷ xs) h = ap (λ y. y ∷ map f xs) h.0 ∙ ap (λ ys. g x ∷ ys) (maps_agree f g xs h.1)

turned : (a b : ℕ) → a ≢ b → b ≢ a
turned a b n e = n (sym e)

-- the first list's variables get those of the second
pub partners_of_first : (us ws : List ℕ) → length us ≡ length ws → AreDistinct us → AreApart us ws → map (partner us ws) us ≡ ws
unfolding AreDistinct
partners_of_first [] [] long distinct apart = refl
partners_of_first [] (w ∷ ws) long distinct apart = absurd (omega arith)
partners_of_first (u ∷ us) [] long distinct apart = absurd (omega arith)
partners_of_first (u ∷ us) (w ∷ ws) long distinct apart =
    ap (λ v. v ∷ map (partner (u ∷ us) (w ∷ ws)) us) (partner_first u w us ws)
    ∙ ap (λ (vs : List ℕ). w ∷ vs)
    (maps_agree (partner (u ∷ us) (w ∷ ws)) (partner us ws) us
    (combine (λ v. v ≢ u) (IsMissing (w ∷ ws)) (λ v. partner (u ∷ us) (w ∷ ws) v ≡ partner us ws v)
    (λ v n m. partner_next u w us ws v (turned v u n) m.0) us distinct.0 apart.1)
    ∙ partners_of_first us ws (omega (arith, long)) distinct.1
    (combine (IsMissing (w ∷ ws)) (IsMissing (w ∷ ws)) (IsMissing ws) (λ v m n. m.1) us apart.1 apart.1))

-- and the second list's those of the first
pub partners_of_second : (us ws : List ℕ) → length us ≡ length ws → AreDistinct ws → AreApart us ws → map (partner us ws) ws ≡ us
unfolding AreDistinct
partners_of_second [] [] long distinct apart = refl
partners_of_second [] (w ∷ ws) long distinct apart = absurd (omega arith)
partners_of_second (u ∷ us) [] long distinct apart = absurd (omega arith)
partners_of_second (u ∷ us) (w ∷ ws) long distinct apart =
    ap (λ v. v ∷ map (partner (u ∷ us) (w ∷ ws)) ws) (partner_back u w us ws (turned w u apart.0.0))
    ∙ ap (λ (vs : List ℕ). u ∷ vs)
    (maps_agree (partner (u ∷ us) (w ∷ ws)) (partner us ws) ws
    (combine (λ v. v ≢ u) (λ v. v ≢ w) (λ v. partner (u ∷ us) (w ∷ ws) v ≡ partner us ws v)
    (λ v n m. partner_next u w us ws v (turned v u n) (turned v w m)) ws apart.0.1 distinct.0)
    ∙ partners_of_second us ws (omega (arith, long)) distinct.1
    (combine (IsMissing (w ∷ ws)) (IsMissing (w ∷ ws)) (IsMissing ws) (λ v m n. m.1) us apart.1 apart.1))

-- numbers in order are distinct
increasing_distinct : (us : List ℕ) → AllPairs (λ x y. x < y) us → AreDistinct us
unfolding AreDistinct
increasing_distinct [] pairs = tt
increasing_distinct (u ∷ us) pairs = (
  apart u us (recursion_from_All (λ w. u < w) us (λ k d l. pairs 0 (suc k) d (omega arith) (omega (arith, l)))),
  increasing_distinct us (λ i j d l m. pairs (suc i) (suc j) d (omega (arith, l)) (omega (arith, m))),
)
  where
    apart : (u : ℕ) (us : List ℕ) → AllByRecursion (λ w. u < w) us → IsMissing us u
    apart u [] h = tt
    apart u (w ∷ ws) h = ((λ e. omega (arith, h.0, e)), apart u ws h.1)

pub distinct_at : (b : Blocking) (k : ℕ) → k < length b.blocks → HasDistinctVariables b → AreDistinct (variables_of (block_at b k))
distinct_at b k l distinct =
    let none : Block = record { copies = []; rows = [] } in
    increasing_distinct (variables_of (block_at b k)) (AllPairs-from_increasing (variables_of (block_at b k)) (distinct k none l))

-- ---- blocks that stand alone

none_passes : {X : Type 0} (q : X → Bool) (xs : List X) → list_any q xs ≡ false → AllByRecursion (λ x. q x ≡ false) xs
none_passes q [] h = tt
none_passes q (x ∷ xs) h = let both = or_false (q x) (list_any q xs) h in (both.0, none_passes q xs both.1)

none_in_range : (q : ℕ → Bool) (j a n : ℕ) → a ≤ j → j < a + n → list_any q (range_with_len a n) ≡ false → q j ≡ false
none_in_range q j a zero low high h = absurd (omega (arith, low, high))
none_in_range q j a (suc n) low high h =
    let both = or_false (q a) (list_any q (range_with_len (a + 1) n)) h in
    ⊎_elim
    (λ same. ap q (sym same.1) ∙ both.0)
    (λ other. none_in_range q j (a + 1) n (above a j low other.1) (omega (arith, high)) both.1)
    (eqb_tells a j)
  where
    above : (a j : ℕ) → a ≤ j → a ≢ j → a + 1 ≤ j
    above a j l n = omega (arith, l, n)

missing_from : (v : ℕ) (us : List ℕ) → is_among v us ≡ false → IsMissing us v
missing_from v us h = weaken us (none_passes (λ u. u == v) us h)
  where
    weaken : (us : List ℕ) → AllByRecursion (λ u. (u == v) ≡ false) us → IsMissing us v
    weaken [] g = tt
    weaken (u ∷ us) g = (other_numbers u v g.0, weaken us g.1)

-- a block that stands alone has no variable of another
pub alone_apart : (b : Blocking) (k j : ℕ) → j < length b.blocks → j ≢ k → stands_alone b k ≡ true
    → AreApart (variables_of (block_at b k)) (variables_of (block_at b j))
alone_apart b k j l n h =
    let q : ℕ → Bool = λ i. not (i == k) && shares (block_at b k) (block_at b i) in
    let none : q j ≡ false = none_in_range q j 0 (length b.blocks) (omega arith) (omega (arith, l)) (not_true (list_any q (range_with_len 0 (length b.blocks))) h) in
    let unshared : shares (block_at b k) (block_at b j) ≡ false = by (j == k) (shares (block_at b k) (block_at b j)) (differ j k n) none in
    weaken (variables_of (block_at b k)) (none_passes (λ u. is_among u (variables_of (block_at b j))) (variables_of (block_at b k)) unshared)
  where
    by : (s t : Bool) → s ≡ false → (not s && t) ≡ false → t ≡ false
    by true t e g = absurd (cc)
    by false t e g = g

    weaken : (us : List ℕ) → AllByRecursion (λ u. is_among u (variables_of (block_at b j)) ≡ false) us → AreApart us (variables_of (block_at b j))
    weaken [] g = tt
    weaken (u ∷ us) g = (missing_from u (variables_of (block_at b j)) g.0, weaken us g.1)

-- apart the other way round
pub apart_back : (us ws : List ℕ) → AreApart us ws → AreApart ws us
apart_back us [] h = tt
apart_back us (w ∷ ws) h = (first us h, apart_back us ws (rest us h))
  where
    first : (us : List ℕ) → AreApart us (w ∷ ws) → IsMissing us w
    first [] g = tt
    first (u ∷ us) g = (turned w u g.0.0, first us g.1)

    rest : (us : List ℕ) → AreApart us (w ∷ ws) → AreApart us ws
    rest [] g = tt
    rest (u ∷ us) g = (g.0.1, rest us g.1)

-- ---- the point with two blocks' numbers changed

pub swapped : List ℕ → List ℕ → List ℤ → List ℤ
swapped us ws x = map (λ v. value_at x (partner us ws v)) (range_with_len 0 (length x))

pub length-swapped : (us ws : List ℕ) (x : List ℤ) → length (swapped us ws x) ≡ length x
unfolding swapped
length-swapped us ws x = length-map-range_with_len (λ v. value_at x (partner us ws v)) 0 (length x)

pub swapped_at : (us ws : List ℕ) (x : List ℤ) (v : ℕ) (e : ℤ) → v < length x → get_or (swapped us ws x) v e ≡ value_at x (partner us ws v)
unfolding swapped
swapped_at us ws x v e l = get_or-map-range_with_len (λ u. value_at x (partner us ws u)) 0 (length x) v v e l (omega arith)

-- a restriction, by its variables
pub restriction_by : (x : List ℤ) (k : Block) → restriction x k ≡ map (value_at x) (variables_of k)
restriction_by x k = fused (value_at x) (λ (c : Copy). c.var) k.copies

-- the numbers of variables whose partners are others
pub swapped_numbers : (us ws : List ℕ) (x : List ℤ) (vs others : List ℕ) → AllByRecursion (λ v. v < length x) vs → map (partner us ws) vs ≡ others
    → map (value_at (swapped us ws x)) vs ≡ map (value_at x) others
swapped_numbers us ws x vs others below e =
    maps_agree (value_at (swapped us ws x)) (λ v. value_at x (partner us ws v)) vs (each vs below)
    ∙ fused (value_at x) (partner us ws) vs
    ∙ ap (map (value_at x)) e
  where
    each : (vs : List ℕ) → AllByRecursion (λ v. v < length x) vs → AllByRecursion (λ v. value_at (swapped us ws x) v ≡ value_at x (partner us ws v)) vs
    each [] h = tt
    each (v ∷ vs) h = (swapped_at us ws x v (pos 0) h.0, each vs h.1)

-- the restriction of another block stays
pub partners_of_other : (us ws vs : List ℕ) → AreApart vs us → AreApart vs ws → map (partner us ws) vs ≡ vs
partners_of_other us ws [] h g = refl
partners_of_other us ws (v ∷ vs) h g =
    ap (λ u. u ∷ map (partner us ws) vs) (partner_other us ws v h.0 g.0) ∙ ap (λ (rest : List ℕ). v ∷ rest) (partners_of_other us ws vs h.1 g.1)

-- ---- sums over all copies

by_place : {X : Type 0} (f : X → ℤ) (xs : List X) (d : X) → sum_of f xs ≡ sum_of (λ j. f (get_or xs j d)) (range_with_len 0 (length xs))
by_place f xs d =
    ap (sum_of f) (fill_by_all (λ j. get_or xs j d) xs (length xs) d refl (λ k l. refl))
    ∙ sum_of-map f (λ j. get_or xs j d) (range_with_len 0 (length xs))

pub copies_by_block : (b : Blocking) (x : List ℤ) (f : Copy → ℤ)
    → sum_of (λ c. f c *ℤ value_at x c.var) (all_copies b)
    ≡ sum_of (λ j. dot (map f (block_at b j).copies) (restriction x (block_at b j))) (range_with_len 0 (length b.blocks))
copies_by_block b x f =
    sum_of-flat_map (λ c. f c *ℤ value_at x c.var) (λ (k : Block). k.copies) b.blocks
    ∙ by_place (λ (k : Block). sum_of (λ c. f c *ℤ value_at x c.var) k.copies) b.blocks (record { copies = []; rows = [] })
    ∙ sum_of-same (λ j. sum_of (λ c. f c *ℤ value_at x c.var) (block_at b j).copies) (λ j. dot (map f (block_at b j).copies) (restriction x (block_at b j)))
    (λ j. sym (dot-map-map f (λ c. value_at x c.var) (block_at b j).copies)) (range_with_len 0 (length b.blocks))

range_same : (f g : ℕ → ℤ) (a n : ℕ) → ((i : ℕ) → a ≤ i → i < a + n → f i ≡ g i) → sum_of f (range_with_len a n) ≡ sum_of g (range_with_len a n)
range_same f g a zero h = refl
range_same f g a (suc n) h =
    omega (arith, ints, h a (omega arith) (omega arith), range_same f g (a + 1) n (λ i l m. h i (omega (arith, l)) (omega (arith, m))))

-- a sum of which two terms change places
pub swapped_sum : (f g : ℕ → ℤ) (j k n : ℕ) → j < n → k < n → j ≢ k → f j ≡ g k → f k ≡ g j
    → ((i : ℕ) → i < n → i ≢ j → i ≢ k → f i ≡ g i) → sum_of f (range_with_len 0 n) ≡ sum_of g (range_with_len 0 n)
swapped_sum f g j k n lj lk apart at_j at_k other =
    let up : ℤ = g k -ℤ g j in
    let down : ℤ = g j -ℤ g k in
    let one : ℕ → ℤ = λ i. pos 1 in
    omega (
      arith,
      ints,
      range_same f (λ i. g i +ℤ ((if j == i then up else pos 0) *ℤ one i +ℤ (if k == i then down else pos 0) *ℤ one i)) 0 n (λ i l m. each i (omega (arith, m))),
      sum_of-add g (λ i. (if j == i then up else pos 0) *ℤ one i +ℤ (if k == i then down else pos 0) *ℤ one i) (range_with_len 0 n),
      sum_of-add (λ i. (if j == i then up else pos 0) *ℤ one i) (λ i. (if k == i then down else pos 0) *ℤ one i) (range_with_len 0 n),
      sum_of-pick one up j 0 n (omega arith) (omega (arith, lj)),
      sum_of-pick one down k 0 n (omega arith) (omega (arith, lk)),
    )
  where
    first : (i : ℕ) → j ≡ i → f i ≡ g i +ℤ ((if j == i then g k -ℤ g j else pos 0) *ℤ pos 1 +ℤ (if k == i then g j -ℤ g k else pos 0) *ℤ pos 1)
    first i e =
        let s : (j == i) ≡ true = ap (λ m. j == m) (sym e) ∙ eqb_itself j in
        let t : (k == i) ≡ false = differ k i (λ h. apart (e ∙ sym h)) in
        let here : f i ≡ g k = ap f (sym e) ∙ at_j in
        let there : g i ≡ g j = ap g (sym e) in
        omega (arith, ints, ap (λ t. (if t then g k -ℤ g j else pos 0) *ℤ pos 1) s, ap (λ t. (if t then g j -ℤ g k else pos 0) *ℤ pos 1) t, here, there)

    second : (i : ℕ) → k ≡ i → f i ≡ g i +ℤ ((if j == i then g k -ℤ g j else pos 0) *ℤ pos 1 +ℤ (if k == i then g j -ℤ g k else pos 0) *ℤ pos 1)
    second i e =
        let s : (j == i) ≡ false = differ j i (λ h. apart (h ∙ sym e)) in
        let t : (k == i) ≡ true = ap (λ m. k == m) (sym e) ∙ eqb_itself k in
        let here : f i ≡ g j = ap f (sym e) ∙ at_k in
        let there : g i ≡ g k = ap g (sym e) in
        omega (arith, ints, ap (λ t. (if t then g k -ℤ g j else pos 0) *ℤ pos 1) s, ap (λ t. (if t then g j -ℤ g k else pos 0) *ℤ pos 1) t, here, there)

    third : (i : ℕ) → i < n → j ≢ i → k ≢ i → f i ≡ g i +ℤ ((if j == i then g k -ℤ g j else pos 0) *ℤ pos 1 +ℤ (if k == i then g j -ℤ g k else pos 0) *ℤ pos 1)
    third i l a c =
        omega (
          arith,
          ints,
          ap (λ t. (if t then g k -ℤ g j else pos 0) *ℤ pos 1) (differ j i a),
          ap (λ t. (if t then g j -ℤ g k else pos 0) *ℤ pos 1) (differ k i c),
          other i l (turned j i a) (turned k i c),
        )

    each : (i : ℕ) → i < n → f i ≡ g i +ℤ ((if j == i then g k -ℤ g j else pos 0) *ℤ pos 1 +ℤ (if k == i then g j -ℤ g k else pos 0) *ℤ pos 1)
    each i l = ⊎_elim
        (λ same. first i same.1)
        (λ a. ⊎_elim (λ same. second i same.1) (λ c. third i l a.1 c.1) (eqb_tells k i))
        (eqb_tells j i)
