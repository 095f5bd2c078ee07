-- The plain cuts up to a row and a multiplier.
use Rattle.std.proofs.Common.{◌≡◌, ℕ, ◌+◌, ◌-◌, ◌*◌, ◌<◌, ◌≤◌, List, [], ◌∷◌, ◌++◌, take, length, get_or, All, Some, None, refl, sym, ap, subst, ◌∙◌, ⊎_elim, inl, inr, arith, length-append}
use Rattle.std.specs.Prelude.{ℤ, pos, ◌<ℤ◌, ◌⊎◌, Contains, unsigned_abs}
use Rattle.std.specs.Int.{◌∣◌, IsGcd}
use Rattle.std.proofs.lemmas.Int.{ints}
use Rattle.std.proofs.lemmas.Bool.{cases_lt}
use Rattle.std.proofs.lemmas.Nat.Gcd.{dvd_antisymm, dvd_trans, dvd-zero}
use Rattle.std.proofs.Math.ListN.{get_or-append}
use Rattle.std.proofs.lemmas.List.{get_or-append_right, take_more}
use Rattle.std.proofs.lemmas.List.Elements.{All-nil, All-push, All-weaker, All-more, Contains-append_left, Contains-push}
use Rattle.bp_theory.specs.Program.{Program}
use Rattle.bp_theory.specs.Decomposition.{Decomposition, ProofRow, whole_row, no_row, proof_rows, HasPlaces}
use Rattle.bp_theory.specs.declared.Cut.{Cut}
use Rattle.bp_theory.specs.declared.Row.{Row}
use Rattle.bp_theory.specs.declared.Term.{Term}
use Rattle.cut_sums.specs.Cutting.{IsWhole}
use Rattle.cut_sums.specs.Plain.{DividesEach, IsDivisor, Sharpens, IsPlain, entry_of, ComesBefore, AreFirstPlain}
use Rattle.cut_sums.specs.PlainSteps.{half, rank_of, IsUnit, IsPlainOf, AreFirstBelow}
use Rattle.cut_sums.proofs.RowLemmas.{row_behind}

-- ---- the greatest common divisor of coefficients

-- what holds of each element holds of each but the last, and of the last
last_apart : {X : Type 0} (P : X → Type 0) (xs : List X) (x : X) → All P (xs ++ x ∷ []) → All P xs × P x
last_apart P xs x h =
    let long = length-append xs (x ∷ []) in
    let at_end = get_or-append_right xs (x ∷ []) (length xs) (length xs) x refl (omega arith) in
    let first : length xs - length xs ≡ 0 = omega arith in (
      (λ k t l. subst P (get_or-append xs (x ∷ []) t k l) (h k t (omega (arith, l, long)))),
      subst P (at_end ∙ ap (λ k. get_or (x ∷ []) k x) first) (h (length xs) x (omega (arith, long))),
    )

pub divisor_of_none : (terms : List Term) → IsDivisor (take 0 terms) 0
divisor_of_none terms = record {
  divides = λ k t l. absurd (omega (arith, l, none terms));
  greatest = λ n h. dvd-zero n;
}
  where
    none : (terms : List Term) → length (take 0 terms) ≡ 0
    none [] = refl
    none (t ∷ ts) = refl

-- one coefficient more
pub divisor_more : (terms : List Term) (i : ℕ) (e : Term) (before now : ℕ) → i < length terms → IsDivisor (take i terms) before
    → IsGcd before (unsigned_abs (get_or terms i e).coef) now → IsDivisor (take (i + 1) terms) now
divisor_more terms i e before now l h gcd = record {
  divides = All-more (λ (t : Term). now ∣ unsigned_abs t.coef) terms i e l
      (All-weaker (λ (t : Term). before ∣ unsigned_abs t.coef) (λ (t : Term). now ∣ unsigned_abs t.coef) (λ t divides. dvd_trans now gcd.0 divides) (take i terms) h.divides)
      gcd.1;
  greatest = λ n each. gcd.2 n (h.greatest n (parts n each).0) (parts n each).1;
}
  where
    parts : (n : ℕ) → DividesEach n (take (i + 1) terms) → DividesEach n (take i terms) × (n ∣ unsigned_abs (get_or terms i e).coef)
    parts n each =
        last_apart (λ (t : Term). n ∣ unsigned_abs t.coef) (take i terms) (get_or terms i e)
        (subst (All (λ (t : Term). n ∣ unsigned_abs t.coef)) (take_more terms i e l) each)

-- a row has one divisor
pub one_divisor : (terms : List Term) (q r : ℕ) → IsDivisor terms q → IsDivisor terms r → q ≡ r
one_divisor terms q r h g = dvd_antisymm (g.greatest q h.divides) (h.greatest r g.divides)

-- where the divisor of a row's coefficients gives no cuts, none does
pub not_sharp : (row : Row) (ts : List Term) (q : ℕ) → ts ≡ row.terms → IsDivisor ts q → (Sharpens row q → ⊥) → (n : ℕ) → Sharpens row n → ⊥
not_sharp row ts q same is never n sharp =
    never (subst (Sharpens row) (one_divisor row.terms n q sharp.divisor (subst (λ (us : List Term). IsDivisor us q) same is)) sharp)

-- ---- the ranks of rows and multipliers

abbrev pair : ℕ → ℤ → ℕ × ℤ
pair a u = (a, u)

same_pair : (m n : ℕ × ℤ) → m.0 ≡ n.0 → m.1 ≡ n.1 → m ≡ n
same_pair m n first second = ap (λ a. pair a m.1) first ∙ ap (pair n.0) second

pub rank_tells : (a b : ℕ) (u v : ℤ) → IsUnit u → IsUnit v → 2 * a + half u ≡ 2 * b + half v → (a ≡ b) × (u ≡ v)
rank_tells a b u v (inl hu) (inl hv) e = (omega (arith, e, ap half hu, ap half hv), hu ∙ sym hv)
rank_tells a b u v (inl hu) (inr hv) e = absurd (omega (arith, e, ap half hu, ap half hv))
rank_tells a b u v (inr hu) (inl hv) e = absurd (omega (arith, e, ap half hu, ap half hv))
rank_tells a b u v (inr hu) (inr hv) e = (omega (arith, e, ap half hu, ap half hv), hu ∙ sym hv)

before_by_rank : (a b : ℕ) (u v : ℤ) → IsUnit u → IsUnit v → 2 * a + half u < 2 * b + half v → (a < b) ⊎ ((a ≡ b) × (v <ℤ u))
before_by_rank a b u v (inl hu) (inl hv) l = inl (omega (arith, l, ap half hu, ap half hv))
before_by_rank a b u v (inl hu) (inr hv) l = ⊎_elim
    (λ less. inl less)
    (λ more. inr (omega (arith, l, more, ap half hu, ap half hv), omega (arith, ints, hu, hv)))
    (cases_lt a b)
before_by_rank a b u v (inr hu) (inl hv) l = inl (omega (arith, l, ap half hu, ap half hv))
before_by_rank a b u v (inr hu) (inr hv) l = inl (omega (arith, l, ap half hu, ap half hv))

row_of_rank : (a n : ℕ) (u : ℤ) → IsUnit u → 2 * a + half u < 2 * n + 2 → (2 * a + half u < 2 * n) ⊎ (a ≡ n)
row_of_rank a n u (inl hu) l = ⊎_elim (λ less. inl (omega (arith, less, ap half hu))) (λ more. inr (omega (arith, l, more, ap half hu))) (cases_lt a n)
row_of_rank a n u (inr hu) l = ⊎_elim (λ less. inl (omega (arith, less, ap half hu))) (λ more. inr (omega (arith, l, more, ap half hu))) (cases_lt a n)

half_small : (a : ℕ) (u : ℤ) → IsUnit u → (n : ℕ) → a < n → 2 * a + half u < 2 * n
half_small a u (inl hu) n l = omega (arith, l, ap half hu)
half_small a u (inr hu) n l = omega (arith, l, ap half hu)

-- ---- plain cuts

pub entry_is : (p : Program) (d : Decomposition) (cut : Cut) (h : IsPlain p d cut) → entry_of cut ≡ (h.number, h.mult)
entry_is p d cut h = ap (λ (es : List (ℕ × ℤ)). get_or es 0 (0, pos 0)) h.combines

entry_unit : (p : Program) (d : Decomposition) (cut : Cut) → IsPlain p d cut → IsUnit (entry_of cut).1
entry_unit p d cut h = subst (λ (m : ℕ × ℤ). IsUnit m.1) (sym (entry_is p d cut h)) h.unit

pub row_whole : (row other : Row) → ◌≡◌ {A = ProofRow} (whole_row row) (whole_row other) → row ≡ other
row_whole row other e = cc

pub same_cut : (c e : Cut) → c.q ≡ e.q → c.rows ≡ e.rows → c ≡ e
same_cut c e q rows = ap (λ (n : ℕ). record { q = n; rows = c.rows }) q ∙ ap (λ (es : List (ℕ × ℤ)). record { q = e.q; rows = es }) rows

-- the row of a plain cut
pub row_is : (p : Program) (d : Decomposition) (cut : Cut) (h : IsPlain p d cut) (number : ℕ) (row : Row) → (entry_of cut).0 ≡ number
    → get_or (proof_rows p d []) number no_row ≡ whole_row row → h.row ≡ row
row_is p d cut h number row same is =
    let numbers : h.number ≡ number = sym (ap (λ (m : ℕ × ℤ). m.0) (entry_is p d cut h)) ∙ same in
    row_whole h.row row (sym h.master ∙ ap (λ k. get_or (proof_rows p d []) k no_row) numbers ∙ is)

-- where a plain cut's row stands
pub plain_at : (p : Program) (d : Decomposition) (rows : List ProofRow) (number : ℕ) (cut : Cut) (h : IsPlain p d cut) → rows ≡ proof_rows p d []
    → (entry_of cut).0 ≡ number → get_or rows number no_row ≡ whole_row h.row
plain_at p d rows number cut h named same =
    ap (λ (rs : List ProofRow). get_or rs number no_row) named
    ∙ ap (λ k. get_or (proof_rows p d []) k no_row) (sym same ∙ ap (λ (m : ℕ × ℤ). m.0) (entry_is p d cut h)) ∙ h.master

-- a row and a multiplier have one plain cut
one_plain : (p : Program) (d : Decomposition) (c e : Cut) → IsPlain p d c → IsPlain p d e → entry_of c ≡ entry_of e → c ≡ e
one_plain p d c e h g same =
    let entries : ◌≡◌ {A = ℕ × ℤ} (h.number, h.mult) (g.number, g.mult) = sym (entry_is p d c h) ∙ same ∙ entry_is p d e g in
    let numbers : (entry_of c).0 ≡ g.number = ap (λ (m : ℕ × ℤ). m.0) (same ∙ entry_is p d e g) in
    let rows : h.row ≡ g.row = row_is p d c h g.number g.row numbers g.master in
    same_cut c e
    (one_divisor g.row.terms c.q e.q (subst (λ (row : Row). IsDivisor row.terms c.q) rows h.sharpens.divisor) g.sharpens.divisor)
    (h.combines ∙ ap (λ (m : ℕ × ℤ). m ∷ []) entries ∙ sym g.combines)

-- ---- the first ones

pub none_below : (p : Program) (d : Decomposition) (most : ℕ) → AreFirstBelow p d most 0 []
none_below p d most = record {
  few = omega arith;
  plain = All-nil (IsPlain p d);
  below = All-nil (λ (c : Cut). rank_of (entry_of c) < 0);
  order = λ i j c e less there. absurd (omega (arith, there));
  all_first = λ cut plain less. absurd (omega (arith, less));
}

-- a rank higher, where the cuts of before hold all plain ones below it, or there is no room
higher : (p : Program) (d : Decomposition) (most at above : ℕ) (cuts : List Cut) → AreFirstBelow p d most at cuts → at ≤ above
    → ((cut : Cut) → IsPlain p d cut → rank_of (entry_of cut) < above → (rank_of (entry_of cut) < at → ⊥)
    → (length cuts ≡ most) × All (λ c. rank_of (entry_of c) < rank_of (entry_of cut)) cuts)
    → AreFirstBelow p d most above cuts
higher p d most at above cuts h up rest = record {
  few = h.few;
  plain = h.plain;
  below = All-weaker (λ (c : Cut). rank_of (entry_of c) < at) (λ (c : Cut). rank_of (entry_of c) < above) (λ c less. omega (arith, less, up)) cuts h.below;
  order = h.order;
  all_first = λ cut plain less. ⊎_elim
      (λ under. h.all_first cut plain under)
      (λ over. inr (rest cut plain less (λ under. omega (arith, under, over))))
      (cases_lt (rank_of (entry_of cut)) at);
}

-- without room
pub full_below : (p : Program) (d : Decomposition) (most at above : ℕ) (cuts : List Cut) → AreFirstBelow p d most at cuts → at ≤ above → most ≤ length cuts
    → AreFirstBelow p d most above cuts
full_below p d most at above cuts h up full =
    higher p d most at above cuts h up
    (λ cut plain less past. (
      omega (arith, full, h.few),
      All-weaker (λ (c : Cut). rank_of (entry_of c) < at) (λ (c : Cut). rank_of (entry_of c) < rank_of (entry_of cut))
          (λ c under. ⊎_elim (λ l. absurd (past l)) (λ more. omega (arith, under, more)) (cases_lt (rank_of (entry_of cut)) at)) cuts h.below,
    ))

-- a row and a multiplier without a plain cut
pub none_of : (p : Program) (d : Decomposition) (most : ℕ) (m : ℕ × ℤ) (cuts : List Cut) → IsUnit m.1 → AreFirstBelow p d most (rank_of m) cuts
    → IsPlainOf p d m None → AreFirstBelow p d most (rank_of m + 1) cuts
none_of p d most m cuts unit h none =
    higher p d most (rank_of m) (rank_of m + 1) cuts h (omega arith)
    (λ cut plain less past. absurd (none cut plain (same cut plain less past)))
  where
    same : (cut : Cut) → IsPlain p d cut → rank_of (entry_of cut) < rank_of m + 1 → (rank_of (entry_of cut) < rank_of m → ⊥) → entry_of cut ≡ m
    same cut plain less past =
        let ranks : rank_of (entry_of cut) ≡ rank_of m = ⊎_elim (λ l. absurd (past l)) (λ more. omega (arith, less, more)) (cases_lt (rank_of (entry_of cut)) (rank_of m)) in
        let parts = rank_tells (entry_of cut).0 m.0 (entry_of cut).1 m.1 (entry_unit p d cut plain) unit ranks in
        same_pair (entry_of cut) m parts.0 parts.1

-- a row without plain cuts
pub none_of_row : (p : Program) (d : Decomposition) (most number : ℕ) (cuts : List Cut) → AreFirstBelow p d most (2 * number) cuts
    → ((cut : Cut) → IsPlain p d cut → (entry_of cut).0 ≡ number → ⊥) → AreFirstBelow p d most (2 * number + 2) cuts
none_of_row p d most number cuts h none =
    higher p d most (2 * number) (2 * number + 2) cuts h (omega arith)
    (λ cut plain less past. absurd (⊎_elim past (none cut plain)
    (row_of_rank (entry_of cut).0 number (entry_of cut).1 (entry_unit p d cut plain) less)))

-- one plain cut more
pub one_more_below : (p : Program) (d : Decomposition) (most : ℕ) (m : ℕ × ℤ) (cuts : List Cut) (cut : Cut) → IsUnit m.1 → AreFirstBelow p d most (rank_of m) cuts
    → length cuts < most → IsPlainOf p d m (Some cut) → AreFirstBelow p d most (rank_of m + 1) (cuts ++ cut ∷ [])
one_more_below p d most m cuts cut unit h room is = record {
  few = omega (arith, room, long);
  plain = All-push (IsPlain p d) cuts cut h.plain is.0;
  below = All-push (λ (c : Cut). rank_of (entry_of c) < rank_of m + 1) cuts cut
      (All-weaker (λ (c : Cut). rank_of (entry_of c) < rank_of m) (λ (c : Cut). rank_of (entry_of c) < rank_of m + 1) (λ c less. omega (arith, less)) cuts h.below)
      (omega (arith, rank));
  order = ordered;
  all_first = found;
}
  where
    long : length (cuts ++ cut ∷ []) ≡ length cuts + 1
    long = omega (arith, length-append cuts (cut ∷ []))

    rank : rank_of (entry_of cut) ≡ rank_of m
    rank = ap rank_of is.1

    at_end : (e : Cut) → get_or (cuts ++ cut ∷ []) (length cuts) e ≡ cut
    at_end e =
        let first : length cuts - length cuts ≡ 0 = omega arith in
        get_or-append_right cuts (cut ∷ []) (length cuts) (length cuts) e refl (omega arith) ∙ ap (λ k. get_or (cut ∷ []) k e) first

    ordered : (i j : ℕ) (c e : Cut) → i < j → j < length (cuts ++ cut ∷ [])
        → rank_of (entry_of (get_or (cuts ++ cut ∷ []) i c)) < rank_of (entry_of (get_or (cuts ++ cut ∷ []) j e))
    ordered i j c e less there =
        let early : i < length cuts = omega (arith, less, there, long) in
        let front : get_or (cuts ++ cut ∷ []) i c ≡ get_or cuts i c = get_or-append cuts (cut ∷ []) c i early in ⊎_elim
        (λ inside. omega (
          arith,
          h.order i j c e less inside,
          ap (λ (x : Cut). rank_of (entry_of x)) front,
          ap (λ (x : Cut). rank_of (entry_of x)) (get_or-append cuts (cut ∷ []) e j inside),
        ))
        (λ past.
        let last : j ≡ length cuts = omega (arith, past, there, long) in
        omega (
          arith,
          h.below i c early,
          rank,
          ap (λ (x : Cut). rank_of (entry_of x)) front,
          ap (λ k. rank_of (entry_of (get_or (cuts ++ cut ∷ []) k e))) last,
          ap (λ (x : Cut). rank_of (entry_of x)) (at_end e),
        ))
        (cases_lt j (length cuts))

    found : (c : Cut) → IsPlain p d c → rank_of (entry_of c) < rank_of m + 1
        → Contains (cuts ++ cut ∷ []) c ⊎ ((length (cuts ++ cut ∷ []) ≡ most) × All (λ (x : Cut). rank_of (entry_of x) < rank_of (entry_of c)) (cuts ++ cut ∷ []))
    found c plain less = ⊎_elim
        (λ under. ⊎_elim
        (λ there. inl (Contains-append_left cuts (cut ∷ []) c there))
        (λ full. absurd (omega (arith, room, full.0)))
        (h.all_first c plain under))
        (λ over.
        let ranks : rank_of (entry_of c) ≡ rank_of (entry_of cut) = omega (arith, less, over, rank) in
        let parts = rank_tells (entry_of c).0 (entry_of cut).0 (entry_of c).1 (entry_of cut).1 (entry_unit p d c plain) (entry_unit p d cut is.0) ranks in
        let entries : entry_of c ≡ entry_of cut = same_pair (entry_of c) (entry_of cut) parts.0 parts.1 in
        inl (subst (λ (x : Cut). Contains (cuts ++ cut ∷ []) x) (sym (one_plain p d c cut plain is.0 entries)) (Contains-push cuts cut)))
        (cases_lt (rank_of (entry_of c)) (rank_of m))

-- behind all rows
pub first_plain : (p : Program) (d : Decomposition) (most : ℕ) (cuts : List Cut) → HasPlaces p d → AreFirstBelow p d most (2 * length p.rows) cuts
    → AreFirstPlain p d most cuts
first_plain p d most cuts places h = record {
  few = h.few;
  plain = h.plain;
  order = λ i j c e less there. comes (get_or cuts i c) (get_or cuts j e) (h.plain i c (omega (arith, less, there))) (h.plain j e there) (h.order i j c e less there);
  all_first = λ cut plain. ⊎_elim
      (λ there. inl there)
      (λ full. inr (full.0, λ k e l. comes (get_or cuts k e) cut (h.plain k e l) plain (full.1 k e l)))
      (h.all_first cut plain (own cut plain));
}
  where
    comes : (c e : Cut) → IsPlain p d c → IsPlain p d e → rank_of (entry_of c) < rank_of (entry_of e) → ComesBefore c e
    comes c e hc he less =
        before_by_rank (entry_of c).0 (entry_of e).0 (entry_of c).1 (entry_of e).1 (entry_unit p d c hc) (entry_unit p d e he) less

    own : (cut : Cut) → IsPlain p d cut → rank_of (entry_of cut) < 2 * length p.rows
    own cut plain =
        let number : (entry_of cut).0 ≡ plain.number = ap (λ (m : ℕ × ℤ). m.0) (entry_is p d cut plain) in
        let inside : plain.number < length p.rows = ⊎_elim
        (λ less. less)
        (λ past. absurd (omega (arith, (row_behind p d [] plain.number places past (subst IsWhole (sym plain.master) tt)).there)))
        (cases_lt plain.number (length p.rows)) in
        half_small (entry_of cut).0 (entry_of cut).1 (entry_unit p d cut plain) (length p.rows) (omega (arith, number, inside))
