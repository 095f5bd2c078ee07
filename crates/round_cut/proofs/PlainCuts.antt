-- Plain cuts behind other cuts.
use Rattle.std.proofs.Common.{◌≡◌, ◌≢◌, ℕ, ◌+◌, ◌<◌, ◌≤◌, List, [], ◌∷◌, ◌++◌, map, length, get_or, All, Some, None, refl, sym, ap, subst, ◌∙◌, ⊎_elim, inl, inr, arith, append_assoc, length-append}
use Rattle.std.specs.Prelude.{ℤ, pos, negsuc, ◌+ℤ◌, ◌-ℤ◌, ◌*ℤ◌, unsigned_abs}
use Rattle.std.specs.List.{AllByRecursion}
use Rattle.std.specs.List.Sorted.{IsStrictlyIncreasing}
use Rattle.std.proofs.lemmas.Int.{ints}
use Rattle.std.proofs.lemmas.Bool.{cases_lt}
use Rattle.std.proofs.Math.ListN.{get_or-append}
use Rattle.std.proofs.lemmas.List.{get_or-append_right}
use Rattle.std.proofs.lemmas.List.Elements.{All-nil, All-cons, recursion_from_All}
use Rattle.bp_theory.specs.Limits.{most_cuts, greatest_divisor}
use Rattle.bp_theory.specs.Sums.{round_up}
use Rattle.bp_theory.specs.Program.{Program, KeepsActivity}
use Rattle.bp_theory.specs.Decomposition.{Decomposition, ProofRow, whole_row, link_row, no_row, proof_rows}
use Rattle.bp_theory.specs.Cuts.{row_coefficient, row_side, CombinesWell, at_lower_ends, terms_of, cut_row, AreFitting}
use Rattle.bp_theory.specs.declared.Sense.TheVariants.{Ge}
use Rattle.bp_theory.specs.declared.Row.{Row}
use Rattle.bp_theory.specs.declared.Cut.{Cut}
use Rattle.block_program.specs.Cuts.{KeepsCuts, IsSmallCut}
use Rattle.block_program.proofs.NamedRows.{own_rows}
use Rattle.cut_sums.specs.declared.fault.CutFault.{CutFault}
use Rattle.cut_sums.specs.declared.fault.CutFault.TheVariants.{Sign, Large, NoMemory}
use Rattle.cut_sums.specs.Cutting.{IsWhole, HasCutFault, HasFittingSigns, IsCutOver}
use Rattle.round_cut.specs.Several.{AreCutsOver, AreRowsOfCuts}
use Rattle.cut_sums.specs.Plain.{IsDivisor, Sharpens, IsPlain, entry_of}
use Rattle.cut_sums.specs.PlainSteps.{IsUnit, IsPlainOf, SharpensRow}
use Rattle.cut_sums.proofs.RowLemmas.{all_links}
use Rattle.cut_sums.proofs.CutLemmas.{later_cut}
use Rattle.round_cut.proofs.SeveralLemmas.{one_row_more}
use Rattle.cut_sums.proofs.PlainLemmas.{one_divisor, same_cut, entry_is, row_is}

-- ---- a master row stands at its number whatever cuts there are

not_whole : (row : Row) → ◌≡◌ {A = ProofRow} no_row (whole_row row) → ⊥
not_whole row e = cc

master_stays : (p : Program) (d : Decomposition) (earlier : List Row) (n : ℕ) (row : Row) → get_or (proof_rows p d []) n no_row ≡ whole_row row
    → get_or (proof_rows p d earlier) n no_row ≡ whole_row row
master_stays p d earlier n row is =
    let front : List ProofRow = own_rows p.rows d.places ++ all_links p d in ⊎_elim
    (λ less. get_or-append front (map whole_row earlier) no_row n less ∙ sym (get_or-append front (map whole_row []) no_row n less) ∙ is)
    (λ more. absurd (not_whole row (sym (get_or-append_right front (map whole_row []) (length front) n no_row refl more) ∙ is)))
    (cases_lt n (length front))

-- the row of a cut of one row
abbrev lone_row : Program → ℕ → ℤ → ProofRow → Row
lone_row p q u row = record {
  sense = Ge;
  low = round_up ((u *ℤ row_side row u +ℤ pos 0) -ℤ at_lower_ends p (λ v. u *ℤ row_coefficient row v +ℤ pos 0)) q
      +ℤ at_lower_ends p (λ v. round_up (u *ℤ row_coefficient row v +ℤ pos 0) q);
  rhs = round_up ((u *ℤ row_side row u +ℤ pos 0) -ℤ at_lower_ends p (λ v. u *ℤ row_coefficient row v +ℤ pos 0)) q
      +ℤ at_lower_ends p (λ v. round_up (u *ℤ row_coefficient row v +ℤ pos 0) q);
  terms = terms_of p (λ v. round_up (u *ℤ row_coefficient row v +ℤ pos 0) q);
}

row_of_one : (p : Program) (rows : List ProofRow) (cut : Cut) (n : ℕ) (u : ℤ) → cut.rows ≡ (n, u) ∷ [] → cut_row p rows cut ≡ lone_row p cut.q u (get_or rows n no_row)
row_of_one p rows cut n u is = ap (λ (es : List (ℕ × ℤ)). cut_row p rows (record { q = cut.q; rows = es })) is

-- a plain cut has the same row behind other cuts
pub plain_row : (p : Program) (d : Decomposition) (earlier : List Row) (cut : Cut) → IsPlain p d cut
    → cut_row p (proof_rows p d earlier) cut ≡ cut_row p (proof_rows p d []) cut
plain_row p d earlier cut h =
    row_of_one p (proof_rows p d earlier) cut h.number h.mult h.combines
    ∙ ap (lone_row p cut.q h.mult) (master_stays p d earlier h.number h.row h.master ∙ sym h.master)
    ∙ sym (row_of_one p (proof_rows p d []) cut h.number h.mult h.combines)

-- ---- a plain cut keeps the rules, and its sign fits

each_of_one : (P : ℕ × ℤ → Type 0) (cut : Cut) (m : ℕ × ℤ) → cut.rows ≡ m ∷ [] → P m → All P cut.rows
each_of_one P cut m is h = subst (All P) (sym is) (All-cons P m [] h (All-nil P))

sharp_limits : (row : ProofRow) (q : ℕ) → SharpensRow row q → (2 ≤ q) × (q ≤ greatest_divisor)
sharp_limits (whole_row row) q h = (h.low, h.high)
sharp_limits (link_row v k) q h = absurd h
sharp_limits no_row q h = absurd h

sharp_whole : (row : ProofRow) (q : ℕ) → SharpensRow row q → IsWhole row
sharp_whole (whole_row row) q h = tt
sharp_whole (link_row v k) q h = absurd h
sharp_whole no_row q h = absurd h

unit_small : (u : ℤ) → IsUnit u → (unsigned_abs u ≤ greatest_divisor) × (u ≢ pos 0)
unit_small u (inl h) = (omega (arith, ap unsigned_abs h), (λ same. let wrong : pos 1 ≡ pos 0 = sym h ∙ same in omega (arith, ints, wrong)))
unit_small u (inr h) = (omega (arith, ap unsigned_abs h), (λ same. let wrong : negsuc 0 ≡ pos 0 = sym h ∙ same in omega (arith, ints, wrong)))

-- so does a cut of one row and its divisor
pub lone_over : (rows : List ProofRow) (cut : Cut) (m : ℕ × ℤ) (q : ℕ) → cut.q ≡ q → cut.rows ≡ m ∷ [] → SharpensRow (get_or rows m.0 no_row) q → IsUnit m.1
    → IsCutOver rows cut
lone_over rows cut m q same is sharp unit =
    let small = unit_small m.1 unit in
    let limits = sharp_limits (get_or rows m.0 no_row) q sharp in
    record {
      divides = omega (arith, same, limits.0);
      small = record {
        divisor = omega (arith, same, limits.1);
        sizes = each_of_one (λ (m : ℕ × ℤ). unsigned_abs m.1 ≤ greatest_divisor) cut m is small.0;
        nonzero = each_of_one (λ (m : ℕ × ℤ). m.1 ≢ pos 0) cut m is small.1;
        ascend = subst (λ (es : List (ℕ × ℤ)). IsStrictlyIncreasing (map (λ (m : ℕ × ℤ). m.0) es)) (sym is) (λ k l. absurd (omega (arith, l)));
      };
      whole = each_of_one (λ (m : ℕ × ℤ). IsWhole (get_or rows m.0 no_row)) cut m is (sharp_whole (get_or rows m.0 no_row) q sharp);
    }

pub plain_over : (p : Program) (d : Decomposition) (earlier : List Row) (cut : Cut) → IsPlain p d cut → IsCutOver (proof_rows p d earlier) cut
plain_over p d earlier cut h =
    lone_over (proof_rows p d earlier) cut (h.number, h.mult) cut.q refl h.combines
    (subst (λ (row : ProofRow). SharpensRow row cut.q) (sym (master_stays p d earlier h.number h.row h.master)) h.sharpens) h.unit

pub plain_signs : (p : Program) (d : Decomposition) (earlier : List Row) (cut : Cut) → IsPlain p d cut → HasFittingSigns (proof_rows p d earlier) cut
plain_signs p d earlier cut h =
    each_of_one (λ (m : ℕ × ℤ). CombinesWell (get_or (proof_rows p d earlier) m.0 no_row) m.1) cut (h.number, h.mult) h.combines
    (subst (λ (row : ProofRow). CombinesWell row h.mult) (sym (master_stays p d earlier h.number h.row h.master)) h.sign)

-- ---- plain cuts behind others keep the limits

pub plain_keep : (p : Program) (d : Decomposition) (cuts : List Cut) (rows : List Row) (more : List Cut) → AreRowsOfCuts p d cuts rows
    → AllByRecursion (IsPlain p d) more → length cuts + length more ≤ most_cuts → KeepsCuts p d (cuts ++ more)
plain_keep p d cuts rows [] h plain few = subst (KeepsCuts p d) (sym (append_nil cuts)) h.kept
  where
    append_nil : (cs : List Cut) → cs ++ [] ≡ cs
    append_nil [] = refl
    append_nil (c ∷ cs) = ap (λ (rest : List Cut). c ∷ rest) (append_nil cs)
plain_keep p d cuts rows (cut ∷ more) h plain few =
    let row : Row = cut_row p (proof_rows p d rows) cut in
    let kept : KeepsActivity p row = subst (KeepsActivity p) (sym (plain_row p d rows cut plain.0)) plain.0.kept in
    let one : AreRowsOfCuts p d (cuts ++ cut ∷ []) (rows ++ row ∷ []) =
    one_row_more p d cuts rows cut row h (omega (arith, few)) (plain_over p d rows cut plain.0) (plain_signs p d rows cut plain.0) refl
    (later_cut p (proof_rows p d rows) cut kept) in
    subst (KeepsCuts p d) (append_assoc cuts (cut ∷ []) more)
    (plain_keep p d (cuts ++ cut ∷ []) (rows ++ row ∷ []) more one plain.1 (omega (arith, few, length-append cuts (cut ∷ []))))

-- they keep the rules
pub plain_cuts_over : (p : Program) (d : Decomposition) (earlier : List Row) (cuts more : List Cut) → AreCutsOver p d earlier cuts → AllByRecursion (IsPlain p d) more
    → AreCutsOver p d earlier (cuts ++ more)
plain_cuts_over p d earlier [] [] h plain = tt
plain_cuts_over p d earlier [] (cut ∷ more) h plain =
    (plain_over p d earlier cut plain.0, plain_cuts_over p d (earlier ++ cut_row p (proof_rows p d earlier) cut ∷ []) [] more tt plain.1)
plain_cuts_over p d earlier (cut ∷ cuts) more h plain =
    (h.0, plain_cuts_over p d (earlier ++ cut_row p (proof_rows p d earlier) cut ∷ []) cuts more h.1 plain)

-- ---- cuts that keep the limits keep the rules

whole_if_combined : (row : ProofRow) (u : ℤ) → CombinesWell row u → IsWhole row
whole_if_combined (whole_row row) u h = tt
whole_if_combined (link_row v k) u h = absurd h
whole_if_combined no_row u h = absurd h

fitting_over : (p : Program) (d : Decomposition) (earlier : List Row) (cuts : List Cut) → AreFitting p d earlier cuts → AllByRecursion IsSmallCut cuts → AreCutsOver p d earlier cuts
fitting_over p d earlier [] fits small = tt
fitting_over p d earlier (cut ∷ cuts) fits small = (
  record {
    divides = fits.0.divides;
    small = small.0;
    whole = λ k e l. whole_if_combined (get_or (proof_rows p d earlier) (get_or cut.rows k e).0 no_row) (get_or cut.rows k e).1 (fits.0.combines k e l);
  },
  fitting_over p d (earlier ++ cut_row p (proof_rows p d earlier) cut ∷ []) cuts fits.1 small.1,
)

pub kept_over : (p : Program) (d : Decomposition) (cuts : List Cut) → KeepsCuts p d cuts → AreCutsOver p d [] cuts
kept_over p d cuts h = fitting_over p d [] cuts h.fitting (recursion_from_All IsSmallCut cuts h.small)

-- ---- the cut of a master row and a multiplier

pub plain_is : (p : Program) (d : Decomposition) (rows : List ProofRow) (cut : Cut) (m : ℕ × ℤ) (q : ℕ) → rows ≡ proof_rows p d [] → cut.q ≡ q → cut.rows ≡ m ∷ []
    → SharpensRow (get_or rows m.0 no_row) q → IsUnit m.1 → HasFittingSigns rows cut → KeepsActivity p (cut_row p rows cut) → IsPlainOf p d m (Some cut)
plain_is p d rows cut m q named same is sharp unit signs kept =
    by (get_or rows m.0 no_row) refl sharp
    (subst (λ (es : List (ℕ × ℤ)). CombinesWell (get_or rows (get_or es 0 m).0 no_row) (get_or es 0 m).1) is
    (signs 0 m (subst (λ (es : List (ℕ × ℤ)). 0 < length es) (sym is) (omega arith))))
  where
    by : (row : ProofRow) → get_or rows m.0 no_row ≡ row → SharpensRow row q → CombinesWell row m.1 → IsPlainOf p d m (Some cut)
    by (whole_row row) e h well = (
      record {
        number = m.0;
        mult = m.1;
        unit = unit;
        combines = is;
        row = row;
        master = subst (λ (rs : List ProofRow). get_or rs m.0 no_row ≡ whole_row row) named e;
        sharpens = subst (Sharpens row) (sym same) h;
        sign = well;
        kept = subst (λ (rs : List ProofRow). KeepsActivity p (cut_row p rs cut)) named kept;
      },
      ap (λ (es : List (ℕ × ℤ)). get_or es 0 (0, pos 0)) is,
    )
    by (link_row v k) e h well = absurd h
    by no_row e h well = absurd h

-- each plain cut of the row and the multiplier is this one
lone_is : (p : Program) (d : Decomposition) (rows : List ProofRow) (cut : Cut) (m : ℕ × ℤ) (q : ℕ) → rows ≡ proof_rows p d [] → cut.q ≡ q → cut.rows ≡ m ∷ []
    → SharpensRow (get_or rows m.0 no_row) q → (other : Cut) → IsPlain p d other → entry_of other ≡ m → other ≡ cut
lone_is p d rows cut m q named same is sharp other plain entry = by (get_or rows m.0 no_row) refl sharp
  where
    by : (row : ProofRow) → get_or rows m.0 no_row ≡ row → SharpensRow row q → other ≡ cut
    by (whole_row row) e h =
        let at : get_or (proof_rows p d []) m.0 no_row ≡ whole_row row = subst (λ (rs : List ProofRow). get_or rs m.0 no_row ≡ whole_row row) named e in
        let rows_same : plain.row ≡ row = row_is p d other plain m.0 row (ap (λ (e : ℕ × ℤ). e.0) entry) at in
        let q_same : other.q ≡ q = one_divisor row.terms other.q q (subst (λ (r : Row). IsDivisor r.terms other.q) rows_same plain.sharpens.divisor) h.divisor in
        same_cut other cut (q_same ∙ sym same)
        (plain.combines ∙ ap (λ (e : ℕ × ℤ). e ∷ []) (sym (entry_is p d other plain) ∙ entry) ∙ sym is)
    by (link_row v k) e h = absurd h
    by no_row e h = absurd h

-- a row and a multiplier have no plain cut where their cut is refused
pub plain_none : (p : Program) (d : Decomposition) (rows : List ProofRow) (cut : Cut) (m : ℕ × ℤ) (q : ℕ) → rows ≡ proof_rows p d [] → cut.q ≡ q → cut.rows ≡ m ∷ []
    → SharpensRow (get_or rows m.0 no_row) q → (HasFittingSigns rows cut → KeepsActivity p (cut_row p rows cut) → ⊥) → IsPlainOf p d m None
plain_none p d rows cut m q named same is sharp refused other plain entry =
    let one : other ≡ cut = lone_is p d rows cut m q named same is sharp other plain entry in
    let signs : HasFittingSigns (proof_rows p d []) cut = subst (HasFittingSigns (proof_rows p d [])) one (plain_signs p d [] other plain) in
    let kept : KeepsActivity p (cut_row p (proof_rows p d []) cut) = subst (λ (c : Cut). KeepsActivity p (cut_row p (proof_rows p d []) c)) one plain.kept in
    refused (subst (λ (rs : List ProofRow). HasFittingSigns rs cut) (sym named) signs)
    (subst (λ (rs : List ProofRow). KeepsActivity p (cut_row p rs cut)) (sym named) kept)

-- a cut that is refused fits not, or its row's sums may leave 62 bits
pub refused : (p : Program) (rows : List ProofRow) (cut : Cut) (fault : CutFault) → fault ≢ NoMemory → HasCutFault p rows cut fault → HasFittingSigns rows cut
    → KeepsActivity p (cut_row p rows cut) → ⊥
refused p rows cut Sign other h signs kept = h signs
refused p rows cut Large other h signs kept = h.1 kept
refused p rows cut NoMemory other h signs kept = other refl
