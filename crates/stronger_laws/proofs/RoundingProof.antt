-- A rounding cut is a mixed-integer rounding cut of remainder 1 over its rows.
use Rattle.std.proofs.Common.{◌≡◌, refl, ap, subst, ◌∙◌, ℕ, zero, suc, ◌<◌, not, List, [], ◌∷◌, map, length, arith}
use Rattle.std.proofs.Math.IntN.{ℤ, pos, negsuc, neg_ℤ, ◌+ℤ◌, ◌-ℤ◌, ◌*ℤ◌, zero-*ℤ, *ℤ-zero}
use Rattle.std.specs.Prelude.{◌≤ℤ◌, ◌<ℤ◌, unsigned_abs, filter}
use Rattle.std.specs.List.{AllByRecursion, range_with_len}
use Rattle.std.specs.Int.{int_min, int_div_euclid, int_rem_euclid}
use Rattle.std.specs.Ordering.{int_eq}
use Rattle.std.proofs.lemmas.Int.{ints, clamps, by_lt_z}
use Rattle.std.proofs.lemmas.List.Elements.{recursion_from_All}
use Rattle.bp_theory.specs.Sums.{sum_of, round_up}
use Rattle.bp_theory.specs.Program.{Program, span_at}
use Rattle.bp_theory.specs.Decomposition.{ProofRow, whole_row, link_row, no_row}
use Rattle.bp_theory.specs.Bound.{side, SignFitsSense}
use Rattle.bp_theory.specs.Cuts.{row_coefficient, row_side, CombinesWell, combined, combined_side, at_lower_ends, rounded, cut_low, terms_of, term_at}
use Rattle.bp_theory.specs.declared.Term.{Term}
use Rattle.bp_theory.specs.declared.Sense.{Sense}
use Rattle.bp_theory.specs.declared.Sense.TheVariants.{Le, Ge, Eq, In}
use Rattle.bp_theory.specs.declared.Row.{Row}
use Rattle.bp_theory.proofs.Whole.{mul-add, le-mul_pos}
use Rattle.bp_theory.proofs.SumLaws.{sum_of-same}
use Rattle.bp_theory.proofs.CutProof.{le-round_up, round_up-le}
use Rattle.stronger_laws.specs.Mir.{mir_function, slack_side, put_back, HasOneSide, IsCombinable, named_side, named_put_back, row_of, weighted_coefficient, weighted_side, at_ends, summed_side, rounded_coefficient, slack_weight, mir_coefficient, mir_low}
use Rattle.stronger_laws.specs.Laws.{as_mir, RoundingIsMir}
use Rattle.stronger_laws.specs.declared.MirCut.{MirCut}
use Rattle.stronger_laws.proofs.MirProof.{euclid, rest_low, rest_high, same_at_each}

-- a remainder of 1 rounds up
rounds_up : (q : ℕ) (a : ℤ) → 0 < q → mir_function q 1 a ≡ round_up a q
rounds_up q a h =
    by (int_div_euclid a (pos q)) (int_rem_euclid a (pos q)) (round_up a q) (euclid a q h) (rest_low a q h) (rest_high a q h) (le-round_up a q h)
    (λ s. round_up-le a s q h)
  where
    above : (f e u : ℤ) → pos 0 <ℤ e → (pos q *ℤ f +ℤ e) ≤ℤ (pos q *ℤ u) → f <ℤ u
    above f e u more l = by_lt_z f u
        (λ less. less)
        (λ least. absurd (omega (arith, ints, more, l, le-mul_pos q u f least)))

    not_below : (f e u : ℤ) → pos 0 ≤ℤ e → (pos q *ℤ f +ℤ e) ≤ℤ (pos q *ℤ u) → f ≤ℤ u
    not_below f e u more l = by_lt_z u f
        (λ less. absurd (omega (arith, ints, more, l, h, mul-add (pos q) u (pos 1), le-mul_pos q (u +ℤ pos 1) f (omega (arith, ints, less)))))
        (λ least. least)

    by : (f e u : ℤ) → a ≡ pos q *ℤ f +ℤ e → pos 0 ≤ℤ e → e <ℤ pos q → a ≤ℤ (pos q *ℤ u) → ((s : ℤ) → a ≤ℤ (pos q *ℤ s) → u ≤ℤ s)
        → pos 1 *ℤ f +ℤ int_min e (pos 1) ≡ u
    by f e u same low high enough least = by_lt_z (pos 0) e
        (λ more.
        let up : f <ℤ u = above f e u more (subst (λ z. z ≤ℤ (pos q *ℤ u)) same enough) in
        let down : u ≤ℤ (f +ℤ pos 1) = least (f +ℤ pos 1) (omega (arith, ints, same, high, mul-add (pos q) f (pos 1))) in
        omega (arith, ints, clamps, more, up, down))
        (λ none.
        let up : f ≤ℤ u = not_below f e u low (subst (λ z. z ≤ℤ (pos q *ℤ u)) same enough) in
        let down : u ≤ℤ f = least f (omega (arith, ints, same, low, none)) in
        omega (arith, ints, clamps, low, none, up, down))

-- a small negative number rounds up to 0
small_is_zero : (q : ℕ) (c : ℤ) → 0 < q → c ≤ℤ pos 0 → neg_ℤ (pos q) <ℤ c → mir_function q 1 c ≡ pos 0
small_is_zero q c h low high =
    rounds_up q c h
    ∙ by (round_up c q) (le-round_up c q h) (round_up-le c (pos 0) q h (omega (arith, ints, low, *ℤ-zero (pos q))))
  where
    by : (u : ℤ) → c ≤ℤ (pos q *ℤ u) → u ≤ℤ pos 0 → u ≡ pos 0
    by u enough below = by_lt_z u (pos 0)
        (λ less. absurd (omega (arith, ints, enough, high, mul-add (pos q) u (pos 1), *ℤ-zero (pos q), le-mul_pos q (u +ℤ pos 1) (pos 0) (omega (arith, ints, less)))))
        (λ more. omega (arith, ints, below, more))

-- no slack of a small multiplier of fitting sign is put back
nothing_back : (q : ℕ) (s : Sense) (u : ℤ) → 0 < q → SignFitsSense s u → unsigned_abs u < q → put_back q 1 s u ≡ pos 0
nothing_back q Le u h fits small = omega (arith, ints, small_is_zero q u h (omega (arith, ints, fits)) (omega (arith, ints, fits, small)))
nothing_back q Ge u h fits small = small_is_zero q (neg_ℤ u) h (omega (arith, ints, fits)) (omega (arith, ints, fits, small))
nothing_back q Eq u h fits small = refl
nothing_back q In (pos n) h fits small = small_is_zero q (neg_ℤ (pos n)) h (omega (arith, ints)) (omega (arith, ints, small))
nothing_back q In (negsuc n) h fits small = omega (arith, ints, small_is_zero q (negsuc n) h (omega (arith, ints)) (omega (arith, ints, small)))

-- a multiplier times a side
same_side : (s : Sense) (low rhs u : ℤ) → SignFitsSense s u → HasOneSide s low rhs
    → u *ℤ slack_side s low rhs u ≡ u *ℤ side (record { sense = s; low = low; rhs = rhs }) u
same_side Le low rhs (pos zero) fits one = refl
same_side Ge low rhs (pos zero) fits one = omega (arith, ints, zero-*ℤ low, zero-*ℤ rhs)
same_side Eq low rhs (pos zero) fits one = omega (arith, ints, zero-*ℤ low, zero-*ℤ rhs)
same_side In low rhs (pos zero) fits one = omega (arith, ints, zero-*ℤ low, zero-*ℤ rhs)
same_side Le low rhs (pos (suc n)) fits one = absurd (omega (arith, ints, fits))
same_side Ge low rhs (pos (suc n)) fits one = refl
same_side Eq low rhs (pos (suc n)) fits one = refl
same_side In low rhs (pos (suc n)) fits one = refl
same_side Le low rhs (negsuc n) fits one = refl
same_side Ge low rhs (negsuc n) fits one = absurd (omega (arith, ints, fits))
same_side Eq low rhs (negsuc n) fits one = ap (λ z. negsuc n *ℤ z) one
same_side In low rhs (negsuc n) fits one = refl

-- what a multiplier must keep
abbrev IsPlain : List ProofRow → ℕ → ℕ × ℤ → Type 0
IsPlain rows q m = CombinesWell (row_of rows m) m.1 × IsCombinable (row_of rows m) × (unsigned_abs m.1 < q)

plain_side : (row : ProofRow) (u : ℤ) → CombinesWell row u → IsCombinable row → u *ℤ named_side row u ≡ u *ℤ row_side row u
plain_side (whole_row row) u well one = same_side row.sense row.low row.rhs u well one
plain_side (link_row v k) u well one = absurd well
plain_side no_row u well one = absurd well

plain_back : (q : ℕ) (row : ProofRow) (u : ℤ) → 0 < q → CombinesWell row u → unsigned_abs u < q → named_put_back q 1 row u ≡ pos 0
plain_back q (whole_row row) u h well small = nothing_back q row.sense u h well small
plain_back q (link_row v k) u h well small = absurd well
plain_back q no_row u h well small = absurd well

all_plain : (rows : List ProofRow) (q : ℕ) (ms : List (ℕ × ℤ)) → AllByRecursion (λ m. CombinesWell (row_of rows m) m.1) ms
    → AllByRecursion (λ m. IsCombinable (row_of rows m)) ms → AllByRecursion (λ (m : ℕ × ℤ). unsigned_abs m.1 < q) ms → AllByRecursion (IsPlain rows q) ms
all_plain rows q [] well one small = tt
all_plain rows q (m ∷ ms) well one small = ((well.0, one.0, small.0), all_plain rows q ms well.1 one.1 small.1)

sides_agree : (rows : List ProofRow) (q : ℕ) (ms : List (ℕ × ℤ)) → AllByRecursion (IsPlain rows q) ms
    → AllByRecursion (λ m. m.1 *ℤ named_side (row_of rows m) m.1 ≡ m.1 *ℤ row_side (row_of rows m) m.1) ms
sides_agree rows q [] all = tt
sides_agree rows q (m ∷ ms) all = (plain_side (row_of rows m) m.1 all.0.0 all.0.1, sides_agree rows q ms all.1)

nothing_put_back : (rows : List ProofRow) (q : ℕ) (f : ℕ × ℤ → ℤ) → 0 < q → (ms : List (ℕ × ℤ)) → AllByRecursion (IsPlain rows q) ms
    → sum_of (λ m. named_put_back q 1 (row_of rows m) m.1 *ℤ f m) ms ≡ pos 0
nothing_put_back rows q f h [] all = refl
nothing_put_back rows q f h (m ∷ ms) all =
    omega (
      arith,
      ints,
      ap (λ z. z *ℤ f m) (plain_back q (row_of rows m) m.1 h all.0.0 all.0.2),
      zero-*ℤ (f m),
      nothing_put_back rows q f h ms all.1,
    )

abbrev term_by : ℕ → ℤ → Term
term_by v c = record { var = v; coef = c }

-- a row that is at least a side
abbrev at_least : ℤ → List Term → Row
at_least low ts = record { sense = Ge; low = low; rhs = low; terms = ts }

same_terms_of : (p : Program) (f g : ℕ → ℤ) → ((v : ℕ) → f v ≡ g v) → terms_of p f ≡ terms_of p g
same_terms_of p f g same = ap (filter (λ (t : Term). not (int_eq t.coef (pos 0)))) (each (range_with_len 0 (length p.spans)))
  where
    each : (vs : List ℕ) → map (term_at f) vs ≡ map (term_at g) vs
    each [] = refl
    each (v ∷ vs) = ap (λ z. term_by v z ∷ map (term_at f) vs) (same v) ∙ ap (λ (ts : List Term). term_at g v ∷ ts) (each vs)

same_row : (l m : ℤ) (ts us : List Term) → l ≡ m → ts ≡ us → at_least l ts ≡ at_least m us
same_row l m ts us e f = cc

pub rounding_is_mir_lem : RoundingIsMir
rounding_is_mir_lem p rows cut fits combinable small =
    let q : ℕ = cut.q in
    let h : 0 < q = fits.divides in
    let mir : MirCut = as_mir cut in
    let plain : AllByRecursion (IsPlain rows q) cut.rows = all_plain rows q cut.rows
    (recursion_from_All (λ m. CombinesWell (row_of rows m) m.1) cut.rows fits.combines)
    (recursion_from_All (λ m. IsCombinable (row_of rows m)) cut.rows combinable)
    (recursion_from_All (λ (m : ℕ × ℤ). unsigned_abs m.1 < q) cut.rows small) in
    let first : (v : ℕ) → rounded_coefficient p rows mir v ≡ rounded rows cut v = λ v. rounds_up q (combined rows cut v) h in
    let coefficients : (v : ℕ) → mir_coefficient p rows mir v ≡ rounded rows cut v = λ v.
    plus_nothing (rounded_coefficient p rows mir v) (rounded rows cut v) (weighted_coefficient rows (slack_weight p rows mir) cut.rows v) (first v)
    (nothing_put_back rows q (λ m. row_coefficient (row_of rows m) v) h cut.rows plain) in
    let sides : summed_side p rows mir ≡ combined_side rows cut -ℤ at_lower_ends p (combined rows cut) =
    ap (λ z. z -ℤ at_lower_ends p (combined rows cut))
    (same_at_each (λ m. m.1 *ℤ named_side (row_of rows m) m.1) (λ m. m.1 *ℤ row_side (row_of rows m) m.1) cut.rows (sides_agree rows q cut.rows plain)) in
    let ends : at_ends p mir (rounded_coefficient p rows mir) ≡ at_lower_ends p (rounded rows cut) =
    sum_of-same (λ v. rounded_coefficient p rows mir v *ℤ (span_at p.spans v).lo) (λ v. rounded rows cut v *ℤ (span_at p.spans v).lo)
    (λ v. ap (λ z. z *ℤ (span_at p.spans v).lo) (first v)) (range_with_len 0 (length p.spans)) in
    let low : mir_low p rows mir ≡ cut_low p rows cut =
    three (mir_function q 1 (summed_side p rows mir)) (at_ends p mir (rounded_coefficient p rows mir)) (weighted_side rows (slack_weight p rows mir) cut.rows)
    (round_up (combined_side rows cut -ℤ at_lower_ends p (combined rows cut)) q) (at_lower_ends p (rounded rows cut))
    (rounds_up q (summed_side p rows mir) h ∙ ap (λ z. round_up z q) sides) ends
    (nothing_put_back rows q (λ m. named_side (row_of rows m) m.1) h cut.rows plain) in
    same_row (mir_low p rows mir) (cut_low p rows cut) (terms_of p (mir_coefficient p rows mir)) (terms_of p (rounded rows cut)) low
    (same_terms_of p (mir_coefficient p rows mir) (rounded rows cut) coefficients)
  where
    plus_nothing : (a b c : ℤ) → a ≡ b → c ≡ pos 0 → a +ℤ c ≡ b
    plus_nothing a b c e f = omega (arith, ints, e, f)

    three : (a b c d e : ℤ) → a ≡ d → b ≡ e → c ≡ pos 0 → (a +ℤ b) +ℤ c ≡ d +ℤ e
    three a b c d e f g h = omega (arith, ints, f, g, h)
