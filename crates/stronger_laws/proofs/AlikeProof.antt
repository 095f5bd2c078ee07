-- The test of blocks tells whether they are the same in a zone.
use Rattle.std.proofs.Common.{◌≡◌, refl, sym, ap, subst, ◌∙◌, ℕ, suc, Bool, true, ◌&&◌, List, [], ◌∷◌, map, length, get_or, arith}
use Rattle.std.proofs.Math.IntN.{ℤ, pos}
use Rattle.std.specs.Prelude.{◌==◌, All}
use Rattle.std.specs.List.{AllByRecursion}
use Rattle.std.specs.Ordering.{int_eq}
use Rattle.std.proofs.lemmas.Bool.Decides.{Decides-int_eq}
use Rattle.std.proofs.lemmas.List.{length-map}
use Rattle.std.proofs.lemmas.List.Elements.{recursion_from_All, All-from_recursion, All-map}
use Rattle.bp_theory.specs.Sums.{sum_at}
use Rattle.bp_theory.specs.Program.{Program}
use Rattle.bp_theory.specs.Blocking.{Copy, Block, Blocking, coef_in}
use Rattle.bp_theory.specs.Decomposition.{Decomposition, ProofRow, proof_rows, members, is_first, copy_of, copy_coefficient, numbered, blocking_of}
use Rattle.bp_theory.specs.Bound.{spans_of}
use Rattle.bp_theory.specs.Classes.{IsSame}
use Rattle.bp_theory.specs.declared.Span.{Span}
use Rattle.bp_theory.specs.declared.Term.{Term}
use Rattle.bp_theory.specs.declared.Sense.{Sense}
use Rattle.bp_theory.specs.declared.Sense.TheVariants.{Le, Ge, Eq, In}
use Rattle.bp_theory.specs.declared.Row.{Row}
use Rattle.bp_theory.proofs.DecompositionProof.{numbered_at, all_blocks, eqb_itself}
use Rattle.search_laws.specs.Spread.{block_at}
use Rattle.stronger_laws.specs.Alike.{agree, same_span, same_entry, same_term, same_sense, same_row, is_alike}
use Rattle.stronger_laws.specs.Laws.{AlikeTells}
use Rattle.stronger_laws.proofs.SwapProof.{alike_tells}

-- ---- tests of equal things

both_true : (s t : Bool) → s ≡ true → t ≡ true → (s && t) ≡ true
both_true s t e f = ap (λ b. b && t) e ∙ f

agree_itself : {X : Type 0} (same : X → X → Bool) → ((x : X) → same x x ≡ true) → (xs : List X) → agree same xs xs ≡ true
agree_itself same itself [] = refl
agree_itself same itself (x ∷ xs) = both_true (same x x) (agree same xs xs) (itself x) (agree_itself same itself xs)

int_itself : (z : ℤ) → int_eq z z ≡ true
int_itself z = (Decides-int_eq z z).1 refl

span_itself : (s : Span) → same_span s s ≡ true
span_itself s = both_true (int_eq s.lo s.lo) (int_eq s.hi s.hi) (int_itself s.lo) (int_itself s.hi)

entry_itself : (e : ℕ × ℤ) → same_entry e e ≡ true
entry_itself e = both_true (e.0 == e.0) (int_eq e.1 e.1) (eqb_itself e.0) (int_itself e.1)

term_itself : (t : Term) → same_term t t ≡ true
term_itself t = both_true (t.var == t.var) (int_eq t.coef t.coef) (eqb_itself t.var) (int_itself t.coef)

sense_itself : (s : Sense) → same_sense s s ≡ true
sense_itself Le = refl
sense_itself Ge = refl
sense_itself Eq = refl
sense_itself In = refl

row_itself : (r : Row) → same_row r r ≡ true
row_itself r =
    both_true (same_sense r.sense r.sense) (int_eq r.low r.low && (int_eq r.rhs r.rhs && agree same_term r.terms r.terms)) (sense_itself r.sense)
    (both_true (int_eq r.low r.low) (int_eq r.rhs r.rhs && agree same_term r.terms r.terms) (int_itself r.low)
    (both_true (int_eq r.rhs r.rhs) (agree same_term r.terms r.terms) (int_itself r.rhs) (agree_itself same_term term_itself r.terms)))

-- lists that are equal agree
agree_equal : {X : Type 0} (same : X → X → Bool) → ((x : X) → same x x ≡ true) → (xs ys : List X) → xs ≡ ys → agree same xs ys ≡ true
agree_equal same itself xs ys e = subst (λ zs. agree same xs zs ≡ true) e (agree_itself same itself xs)

-- ---- coefficients in order

-- a copy's coefficients are the numbers of a list that aren't 0, with their places
record IsNumbered (n : ℕ) (c : Copy) : Type 0 where
  numbers : List ℤ
  long : length numbers ≡ n
  are : c.coefs ≡ numbered numbers

coef_by_number : (n : ℕ) (c : Copy) (h : IsNumbered n c) (i : ℕ) → coef_in c i ≡ get_or h.numbers i (pos 0)
coef_by_number n c h i = ap (λ (es : List (ℕ × ℤ)). sum_at (λ (e : ℕ × ℤ). e.0) (λ e. e.1) es i) h.are ∙ numbered_at h.numbers i

both_same : {X : Type 0} (x y : X) (xs ys : List X) → x ≡ y → xs ≡ ys → x ∷ xs ≡ y ∷ ys
both_same x y xs ys e f = cc

same_lists : (zs ws : List ℤ) → length zs ≡ length ws → ((i : ℕ) → get_or zs i (pos 0) ≡ get_or ws i (pos 0)) → zs ≡ ws
same_lists [] [] e h = refl
same_lists [] (w ∷ ws) e h = absurd (omega (arith, e))
same_lists (z ∷ zs) [] e h = absurd (omega (arith, e))
same_lists (z ∷ zs) (w ∷ ws) e h = both_same z w zs ws (h 0) (same_lists zs ws (omega (arith, e)) (λ i. h (suc i)))

one_coefs : (n : ℕ) (c d : Copy) → IsNumbered n c → IsNumbered n d → ((row : ℕ) → coef_in c row ≡ coef_in d row) → c.coefs ≡ d.coefs
one_coefs n c d h g same =
    h.are
    ∙ ap numbered (same_lists h.numbers g.numbers (h.long ∙ sym g.long)
    (λ i. sym (coef_by_number n c h i) ∙ same i ∙ coef_by_number n d g i))
    ∙ sym g.are

same_coefs : (n : ℕ) (cs ds : List Copy) → AllByRecursion (IsNumbered n) cs → AllByRecursion (IsNumbered n) ds
    → ((row : ℕ) → map (λ (c : Copy). coef_in c row) cs ≡ map (λ (c : Copy). coef_in c row) ds)
    → map (λ (c : Copy). c.coefs) cs ≡ map (λ (c : Copy). c.coefs) ds
same_coefs n [] [] h g f = refl
same_coefs n [] (d ∷ ds) h g f = let here : [] ≡ coef_in d 0 ∷ map (λ (c : Copy). coef_in c 0) ds = f 0 in absurd (cc)
same_coefs n (c ∷ cs) [] h g f = let here : coef_in c 0 ∷ map (λ (c : Copy). coef_in c 0) cs ≡ [] = f 0 in absurd (cc)
same_coefs n (c ∷ cs) (d ∷ ds) h g f =
    let first : (row : ℕ) → coef_in c row ≡ coef_in d row = λ row. let here = f row in cc in
    let rest : (row : ℕ) → map (λ (c : Copy). coef_in c row) cs ≡ map (λ (c : Copy). coef_in c row) ds = λ row. let here = f row in cc in
    both_same c.coefs d.coefs (map (λ (c : Copy). c.coefs) cs) (map (λ (c : Copy). c.coefs) ds)
    (one_coefs n c d h.0 g.0 first) (same_coefs n cs ds h.1 g.1 rest)

numbered_copy : (p : Program) (rows : List ProofRow) (first : Bool) (v k : ℕ) → IsNumbered (length rows) (copy_of p rows first v k)
numbered_copy p rows first v k = record {
  numbers = map (copy_coefficient first v k) rows;
  long = length-map rows (copy_coefficient first v k);
  are = refl;
}

all_numbered : (p : Program) (d : Decomposition) (cuts : List Row)
    → All (λ (k : Block). All (IsNumbered (length (proof_rows p d cuts))) k.copies) (blocking_of p d cuts).blocks
all_numbered p d cuts =
    let rows : List ProofRow = proof_rows p d cuts in
    all_blocks p d rows (λ (k : Block). All (IsNumbered (length rows)) k.copies)
    (λ k. All-map (IsNumbered (length rows)) (λ v. copy_of p rows (is_first p d v k) v k) (members p d k)
    (λ i v l. numbered_copy p rows (is_first p d (get_or (members p d k) i v) k) (get_or (members p d k) i v) k))
    (λ v l. All-from_recursion (IsNumbered (length rows)) (copy_of p rows true v d.blocks ∷ []) (numbered_copy p rows true v d.blocks, tt))

-- ---- the same blocks are alike

same_is_alike : (n : ℕ) (zone : List Span) (k l : Block) → AllByRecursion (IsNumbered n) k.copies → AllByRecursion (IsNumbered n) l.copies
    → IsSame zone k l → is_alike zone k l ≡ true
same_is_alike n zone k l h g same =
    let costs : Bool = agree int_eq (map (λ (c : Copy). c.cost) k.copies) (map (λ (c : Copy). c.cost) l.copies) in
    let spans : Bool = agree same_span (spans_of zone k) (spans_of zone l) in
    let coefs : Bool = agree (agree same_entry) (map (λ (c : Copy). c.coefs) k.copies) (map (λ (c : Copy). c.coefs) l.copies) in
    let rows : Bool = agree same_row k.rows l.rows in
    both_true costs (spans && (coefs && rows))
    (agree_equal int_eq int_itself (map (λ (c : Copy). c.cost) k.copies) (map (λ (c : Copy). c.cost) l.copies) same.costs)
    (both_true spans (coefs && rows) (agree_equal same_span span_itself (spans_of zone k) (spans_of zone l) same.spans)
    (both_true coefs rows
    (agree_equal (agree same_entry) (agree_itself same_entry entry_itself) (map (λ (c : Copy). c.coefs) k.copies) (map (λ (c : Copy). c.coefs) l.copies)
    (same_coefs n k.copies l.copies h g same.coefs))
    (agree_equal same_row row_itself k.rows l.rows same.rows)))

pub alike_tells_lem : AlikeTells
alike_tells_lem = record {
  same = λ zone k l h. alike_tells zone k l h;
  alike = λ p d cuts zone j k lj lk same.
      let n : ℕ = length (proof_rows p d cuts) in
      let b : Blocking = blocking_of p d cuts in
      let none : Block = record { copies = []; rows = [] } in
      same_is_alike n zone (block_at b j) (block_at b k)
      (recursion_from_All (IsNumbered n) (block_at b j).copies (all_numbered p d cuts j none lj))
      (recursion_from_All (IsNumbered n) (block_at b k).copies (all_numbered p d cuts k none lk))
      same;
}
