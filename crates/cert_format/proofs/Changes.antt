-- Which changes of multipliers there are between two lists.
use Rattle.std.proofs.Common.{◌≡◌, ◌≢◌, ℕ, ◌<◌, ◌≤◌, List, [], ◌∷◌, ℤ, pos, refl, sym, ap, ◌∙◌, subst, ⊎_elim, arith, nat_eq, if◌then◌else◌}
use Rattle.std.proofs.lemmas.Bool.{cases_order, lt-ltb, le-ltb, eq-eqb, ne_eqb, cases_Bool}
use Rattle.std.specs.Cmp.{signed_Decides}
use Rattle.std.specs.Ordering.{int_eq}
use Rattle.cert_format.specs.Cert.{multiplier, with_pair, put, changed}

-- rows that ascend above another one
abbrev pub AscendAbove : ℕ → List (ℕ × ℤ) → Type 0
AscendAbove last [] = Unit {0}
AscendAbove last (pair ∷ pairs) = (last < pair.0) × AscendAbove pair.0 pairs

-- no row has the multiplier that it had
abbrev pub Differ : List (ℕ × ℤ) → List (ℕ × ℤ) → Type 0
Differ had [] = Unit {0}
Differ had (pair ∷ pairs) = (pair.1 ≢ multiplier had pair.0) × Differ had pairs

-- rows above a row are above each lower one
ascend_lower : (m n : ℕ) (pairs : List (ℕ × ℤ)) → m ≤ n → AscendAbove n pairs → AscendAbove m pairs
ascend_lower m n [] le up = tt
ascend_lower m n (pair ∷ pairs) le up = (let low : n < pair.0 = up.0 in omega arith, up.1)

-- a row below all others isn't named
pub multiplier-below : (row : ℕ) (pairs : List (ℕ × ℤ)) → AscendAbove row pairs → multiplier pairs row ≡ pos 0
multiplier-below row [] up = refl
multiplier-below row (pair ∷ pairs) up =
    let low : row < pair.0 = up.0 in
    let other : pair.0 ≡ row → ⊥ = λ e. omega arith in
    rw (ne_eqb pair.0 row other) (multiplier-below row pairs (ascend_lower row pair.0 pairs (omega arith) up.1))

-- a pair in front of higher rows
with_pair-same : (row : ℕ) (p : ℤ) (pairs : List (ℕ × ℤ)) → AscendAbove row pairs → multiplier (with_pair row p pairs) row ≡ p
with_pair-same row p pairs up =
    ⊎_elim
    (λ zero_is. rw zero_is (multiplier-below row pairs up ∙ sym ((signed_Decides p (pos 0)).0 zero_is)))
    (λ some. rw some (rw (eq-eqb row row refl) refl))
    (cases_Bool (int_eq p (pos 0)))

with_pair-other : (row q : ℕ) (p : ℤ) (pairs : List (ℕ × ℤ)) → (row ≡ q → ⊥) → multiplier (with_pair row p pairs) q ≡ multiplier pairs q
with_pair-other row q p pairs other =
    ⊎_elim
    (λ zero_is. rw zero_is refl)
    (λ some. rw some (rw (ne_eqb row q other) refl))
    (cases_Bool (int_eq p (pos 0)))

with_pair-up : (last row : ℕ) (p : ℤ) (pairs : List (ℕ × ℤ)) → last < row → AscendAbove row pairs → AscendAbove last (with_pair row p pairs)
with_pair-up last row p pairs low up =
    ⊎_elim
    (λ zero_is. rw zero_is (ascend_lower last row pairs (omega arith) up))
    (λ some. rw some (low, up))
    (cases_Bool (int_eq p (pos 0)))

pub put-same : (last row : ℕ) (p : ℤ) (had : List (ℕ × ℤ)) → AscendAbove last had → multiplier (put row p had) row ≡ p
put-same last row p [] up = with_pair-same row p [] tt
put-same last row p (pair ∷ had) up =
    ⊎_elim
    (λ e. rw (le-ltb pair.0 row (omega arith), eq-eqb pair.0 row e) (with_pair-same row p had (subst (λ (n : ℕ). AscendAbove n had) e up.1)))
    (λ apart. ⊎_elim
    (λ less. let other : pair.0 ≡ row → ⊥ = λ e. omega arith in rw (lt-ltb pair.0 row less, ne_eqb pair.0 row other) (put-same pair.0 row p had up.1))
    (λ more. let other : pair.0 ≡ row → ⊥ = λ e. omega arith in rw (le-ltb pair.0 row (omega arith), ne_eqb pair.0 row other) (with_pair-same row p (pair ∷ had) (more, up.1)))
    apart)
    (cases_order pair.0 row)

pub put-other : (row q : ℕ) (p : ℤ) (had : List (ℕ × ℤ)) → (row ≡ q → ⊥) → multiplier (put row p had) q ≡ multiplier had q
put-other row q p [] other = with_pair-other row q p [] other
put-other row q p (pair ∷ had) other =
    ⊎_elim
    (λ e. let apart : pair.0 ≡ q → ⊥ = λ f. other (sym e ∙ f) in rw (le-ltb pair.0 row (omega arith), eq-eqb pair.0 row e, ne_eqb pair.0 q apart) (with_pair-other row q p had other))
    (λ apart. ⊎_elim
    (λ less. rw (lt-ltb pair.0 row less) (ap (λ (z : ℤ). if nat_eq pair.0 q then pair.1 else z) (put-other row q p had other)))
    (λ more. let ne : pair.0 ≡ row → ⊥ = λ e. omega arith in rw (le-ltb pair.0 row (omega arith), ne_eqb pair.0 row ne) (with_pair-other row q p (pair ∷ had) other))
    apart)
    (cases_order pair.0 row)

pub put-up : (last row : ℕ) (p : ℤ) (had : List (ℕ × ℤ)) → last < row → AscendAbove last had → AscendAbove last (put row p had)
put-up last row p [] low up = with_pair-up last row p [] low tt
put-up last row p (pair ∷ had) low up =
    ⊎_elim
    (λ e. rw (le-ltb pair.0 row (omega arith), eq-eqb pair.0 row e) (with_pair-up last row p had low (subst (λ (n : ℕ). AscendAbove n had) e up.1)))
    (λ apart. ⊎_elim
    (λ less. rw (lt-ltb pair.0 row less) (up.0, put-up pair.0 row p had less up.1))
    (λ more. let other : pair.0 ≡ row → ⊥ = λ e. omega arith in rw (le-ltb pair.0 row (omega arith), ne_eqb pair.0 row other) (with_pair-up last row p (pair ∷ had) low (more, up.1)))
    apart)
    (cases_order pair.0 row)

-- rows above a row keep its multiplier
pub changed-below : (row : ℕ) (had pairs : List (ℕ × ℤ)) → AscendAbove row pairs → multiplier (changed had pairs) row ≡ multiplier had row
changed-below row had [] up = refl
changed-below row had (pair ∷ pairs) up =
    let low : row < pair.0 = up.0 in
    let apart : pair.0 ≡ row → ⊥ = λ e. omega arith in
    changed-below row (put pair.0 pair.1 had) pairs (ascend_lower row pair.0 pairs (omega arith) up.1) ∙ put-other pair.0 row pair.1 had apart

-- what differs at higher rows still does after a change at a lower one
differ_still : (row : ℕ) (p : ℤ) (had pairs : List (ℕ × ℤ)) → AscendAbove row pairs → Differ had pairs → Differ (put row p had) pairs
differ_still row p had [] up differ = tt
differ_still row p had (pair ∷ pairs) up differ =
    let low : row < pair.0 = up.0 in
    let apart : row ≡ pair.0 → ⊥ = λ e. omega arith in
    (λ e. differ.0 (e ∙ put-other row pair.0 p had apart), differ_still row p had pairs (ascend_lower row pair.0 pairs (omega arith) up.1) differ.1)

-- a list of multipliers after a change has one change from the list before
pub change_one : (last : ℕ) (had ps qs : List (ℕ × ℤ)) → AscendAbove 0 had → AscendAbove last ps → AscendAbove last qs → Differ had ps → Differ had qs → changed had ps ≡ changed had qs → ps ≡ qs
change_one last had [] [] up up_p up_q differ_p differ_q same = refl
change_one last had [] (q ∷ qs) up up_p up_q differ_p differ_q same =
    absurd (differ_q.0 (sym (put-same 0 q.0 q.1 had up) ∙ sym (changed-below q.0 (put q.0 q.1 had) qs up_q.1) ∙ sym (ap (λ (l : List (ℕ × ℤ)). multiplier l q.0) same)))
change_one last had (p ∷ ps) [] up up_p up_q differ_p differ_q same =
    absurd (differ_p.0 (sym (put-same 0 p.0 p.1 had up) ∙ sym (changed-below p.0 (put p.0 p.1 had) ps up_p.1) ∙ ap (λ (l : List (ℕ × ℤ)). multiplier l p.0) same))
change_one last had (p ∷ ps) (q ∷ qs) up up_p up_q differ_p differ_q same =
    let at : (row : ℕ) → multiplier (changed (put p.0 p.1 had) ps) row ≡ multiplier (changed (put q.0 q.1 had) qs) row = λ row. ap (λ (l : List (ℕ × ℤ)). multiplier l row) same in
    let left : multiplier (changed (put p.0 p.1 had) ps) p.0 ≡ p.1 = changed-below p.0 (put p.0 p.1 had) ps up_p.1 ∙ put-same 0 p.0 p.1 had up in
    let right : multiplier (changed (put q.0 q.1 had) qs) q.0 ≡ q.1 = changed-below q.0 (put q.0 q.1 had) qs up_q.1 ∙ put-same 0 q.0 q.1 had up in
    ⊎_elim
    (λ e.
    let mult : p.1 ≡ q.1 = sym left ∙ at p.0 ∙ ap (λ (n : ℕ). multiplier (changed (put q.0 q.1 had) qs) n) e ∙ right in
    let first : (p.0, p.1) ≡ (q.0, p.1) = ap (λ (a : ℕ). (a, p.1)) e in
    let pair : p ≡ q = first ∙ ap (λ (b : ℤ). (q.0, b)) mult in
    let P : ℕ × ℤ → Type 0 = λ x. changed (put p.0 p.1 had) ps ≡ changed (put x.0 x.1 had) qs in
    let low : last < p.0 = up_p.0 in
    let qs_up : AscendAbove p.0 qs = subst (λ (n : ℕ). AscendAbove n qs) (sym e) up_q.1 in
    let rest = change_one p.0 (put p.0 p.1 had) ps qs (put-up 0 p.0 p.1 had (omega arith) up) up_p.1 qs_up (differ_still p.0 p.1 had ps up_p.1 differ_p.1) (differ_still p.0 p.1 had qs qs_up differ_q.1) (subst P (sym pair) same) in
    ap (λ (x : ℕ × ℤ). x ∷ ps) pair ∙ ap (λ (l : List (ℕ × ℤ)). q ∷ l) rest)
    (λ apart. ⊎_elim
    (λ less. let up_all : AscendAbove p.0 (q ∷ qs) = (less, up_q.1) in absurd (differ_p.0 (sym left ∙ at p.0 ∙ changed-below p.0 had (q ∷ qs) up_all)))
    (λ more. let up_all : AscendAbove q.0 (p ∷ ps) = (more, up_p.1) in absurd (differ_q.0 (sym right ∙ sym (at q.0) ∙ changed-below q.0 had (p ∷ ps) up_all)))
    apart)
    (cases_order p.0 q.0)

-- the multipliers after a change ascend
pub changed-up : (last : ℕ) (had pairs : List (ℕ × ℤ)) → AscendAbove 0 had → AscendAbove last pairs → AscendAbove 0 (changed had pairs)
changed-up last had [] up up_p = up
changed-up last had (p ∷ ps) up up_p = let low : last < p.0 = up_p.0 in changed-up p.0 (put p.0 p.1 had) ps (put-up 0 p.0 p.1 had (omega arith) up) up_p.1
