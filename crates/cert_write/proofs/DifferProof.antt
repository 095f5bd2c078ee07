-- The changes between two lists of multipliers make the second of the first.
use Rattle.std.proofs.Common.{◌≡◌, ◌≢◌, ℕ, ◌^◌, ◌<◌, ◌≤◌, Bool, true, false, List, [], ◌∷◌, ℤ, pos, refl, sym, ap, ◌∙◌, subst, arith, nat_lt, nat_eq, if◌then◌else◌}
use Rattle.std.specs.Prelude.{unsigned_abs}
use Rattle.std.specs.List.{AllByRecursion}
use Rattle.std.specs.Cmp.{signed_Decides}
use Rattle.std.specs.Ordering.{int_eq}
use Rattle.std.proofs.lemmas.Bool.{lt-ltb, le-ltb, eq-eqb, ne_eqb, ltb-true, ltb-false, eqb-true, true≢false}
use Rattle.cert_format.specs.Cert.{Frame, multiplier, with_pair, put, changed}
use Rattle.cert_format.specs.Text.{may_name}
use Rattle.cert_write.specs.Differences.{against, difference}
use Rattle.cert_format.proofs.Changes.{AscendAbove, Differ, multiplier-below}
use Rattle.cert_format.proofs.Fine.{IsKept}
use Rattle.cert_format.proofs.Putting.{some_false}

-- what holds of each change
abbrev pub IsChange : Frame → ℕ → ℕ × ℤ → Type 0
IsChange frame cuts pair = (unsigned_abs pair.1 ≤ 2 ^ 40) × (may_name frame cuts pair.0 ≡ true)

-- what holds of changes that make some multipliers of others
pub record Makes (frame : Frame) (cuts last : ℕ) (had now ds : List (ℕ × ℤ)) : Type 0 where
  pub made : changed had ds ≡ now
  pub up : AscendAbove last ds
  pub differ : Differ had ds
  pub each : AllByRecursion (IsChange frame cuts) ds

lower_up : (m n : ℕ) (ps : List (ℕ × ℤ)) → m ≤ n → AscendAbove n ps → AscendAbove m ps
lower_up m n [] le up = tt
lower_up m n (p ∷ ps) le up = (let low : n < p.0 = up.0 in omega arith, up.1)

-- a change of a higher row
put_above : (h : ℕ × ℤ) (row : ℕ) (p : ℤ) (hs : List (ℕ × ℤ)) → h.0 < row → put row p (h ∷ hs) ≡ h ∷ put row p hs
put_above h row p hs low = rw (lt-ltb h.0 row low) refl

-- changes of higher rows
changed_above : (h : ℕ × ℤ) (hs ds : List (ℕ × ℤ)) → AscendAbove h.0 ds → changed (h ∷ hs) ds ≡ h ∷ changed hs ds
changed_above h hs [] up = refl
changed_above h hs (d ∷ ds) up =
    let low : h.0 < d.0 = up.0 in
    ap (λ (xs : List (ℕ × ℤ)). changed xs ds) (put_above h d.0 d.1 hs low) ∙ changed_above h (put d.0 d.1 hs) ds (lower_up h.0 d.0 ds (omega arith) up.1)

-- a change of a lower row
put_front : (h : ℕ × ℤ) (n : ℕ × ℤ) (hs : List (ℕ × ℤ)) → n.0 < h.0 → n.1 ≢ pos 0 → put n.0 n.1 (h ∷ hs) ≡ n ∷ h ∷ hs
put_front h n hs low some =
    let other : h.0 ≡ n.0 → ⊥ = λ e. omega arith in
    rw (le-ltb h.0 n.0 (omega arith), ne_eqb h.0 n.0 other, some_false n.1 some) refl

-- a change of the first row
put_same : (h : ℕ × ℤ) (row : ℕ) (p : ℤ) (hs : List (ℕ × ℤ)) → h.0 ≡ row → put row p (h ∷ hs) ≡ with_pair row p hs
put_same h row p hs same = rw (le-ltb h.0 row (omega arith), eq-eqb h.0 row same) refl

with_some : (n : ℕ × ℤ) (hs : List (ℕ × ℤ)) → n.1 ≢ pos 0 → with_pair n.0 n.1 hs ≡ n ∷ hs
with_some n hs some = rw (some_false n.1 some) refl

-- changes of higher rows differ from those of more multipliers too
differ_above : (h : ℕ × ℤ) (hs ds : List (ℕ × ℤ)) → AscendAbove h.0 ds → Differ hs ds → Differ (h ∷ hs) ds
differ_above h hs [] up apart = tt
differ_above h hs (d ∷ ds) up apart =
    let low : h.0 < d.0 = up.0 in
    let other : h.0 ≡ d.0 → ⊥ = λ e. omega arith in
    let same : multiplier (h ∷ hs) d.0 ≡ multiplier hs d.0 = rw (ne_eqb h.0 d.0 other) refl in
    ((λ e. apart.0 (e ∙ same)), differ_above h hs ds (lower_up h.0 d.0 ds (omega arith) up.1) apart.1)

first_multiplier : (h : ℕ × ℤ) (hs : List (ℕ × ℤ)) → multiplier (h ∷ hs) h.0 ≡ h.1
first_multiplier h hs = rw (eq-eqb h.0 h.0 refl) refl

-- nothing had before: the multipliers themselves
all_new : (frame : Frame) (cuts last : ℕ) (now : List (ℕ × ℤ)) → AscendAbove last now → AllByRecursion (IsKept frame cuts) now → Makes frame cuts last [] now now
all_new frame cuts last now up all = record { made = made last now up all; up = up; differ = differ now all; each = each now all }
  where
    made : (last : ℕ) (now : List (ℕ × ℤ)) → AscendAbove last now → AllByRecursion (IsKept frame cuts) now → changed [] now ≡ now
    made last [] up all = refl
    made last (n ∷ ns) up all =
        ap (λ (xs : List (ℕ × ℤ)). changed xs ns) (with_some n [] all.0.1) ∙ changed_above n [] ns up.1 ∙ ap (λ (xs : List (ℕ × ℤ)). n ∷ xs) (made n.0 ns up.1 all.1)

    differ : (now : List (ℕ × ℤ)) → AllByRecursion (IsKept frame cuts) now → Differ [] now
    differ [] all = tt
    differ (n ∷ ns) all = (all.0.1, differ ns all.1)

    each : (now : List (ℕ × ℤ)) → AllByRecursion (IsKept frame cuts) now → AllByRecursion (IsChange frame cuts) now
    each [] all = tt
    each (n ∷ ns) all = ((all.0.0, all.0.2), each ns all.1)

-- a row that is taken out
taken_out : (frame : Frame) (cuts last : ℕ) (h : ℕ × ℤ) (hs now ds : List (ℕ × ℤ)) → last < h.0 → IsKept frame cuts h → Makes frame cuts h.0 hs now ds → Makes frame cuts last (h ∷ hs) now ((h.0, pos 0) ∷ ds)
taken_out frame cuts last h hs now ds low kept m = record {
  made = ap (λ (xs : List (ℕ × ℤ)). changed xs ds) (put_same h h.0 (pos 0) hs refl) ∙ m.made;
  up = (low, m.up);
  differ = ((λ e. kept.1 (sym (e ∙ first_multiplier h hs))), differ_above h hs ds m.up m.differ);
  each = ((omega arith, kept.2), m.each);
}

-- a row that keeps its multiplier
left_there : (frame : Frame) (cuts last : ℕ) (h : ℕ × ℤ) (hs ns ds : List (ℕ × ℤ)) → last < h.0 → Makes frame cuts h.0 hs ns ds → Makes frame cuts last (h ∷ hs) (h ∷ ns) ds
left_there frame cuts last h hs ns ds low m = record {
  made = changed_above h hs ds m.up ∙ ap (λ (xs : List (ℕ × ℤ)). h ∷ xs) m.made;
  up = lower_up last h.0 ds (omega arith) m.up;
  differ = differ_above h hs ds m.up m.differ;
  each = m.each;
}

-- a row that gets another multiplier
given_other : (frame : Frame) (cuts last : ℕ) (h n : ℕ × ℤ) (hs ns ds : List (ℕ × ℤ)) → last < h.0 → h.0 ≡ n.0 → n.1 ≢ h.1 → IsKept frame cuts n → Makes frame cuts h.0 hs ns ds → Makes frame cuts last (h ∷ hs) (n ∷ ns) (n ∷ ds)
given_other frame cuts last h n hs ns ds low same other kept m =
    let U : ℕ → Type 0 = λ row. AscendAbove row ds in
    let up : AscendAbove n.0 ds = subst U same m.up in
    let first : multiplier (h ∷ hs) n.0 ≡ h.1 = ap (multiplier (h ∷ hs)) (sym same) ∙ first_multiplier h hs in
    record {
      made = ap (λ (xs : List (ℕ × ℤ)). changed xs ds) (put_same h n.0 n.1 hs same ∙ with_some n hs kept.1) ∙ changed_above n hs ds up ∙ ap (λ (xs : List (ℕ × ℤ)). n ∷ xs) m.made;
      up = (omega (arith, low, same), up);
      differ = ((λ e. other (e ∙ first)), differ_above h hs ds m.up m.differ);
      each = ((kept.0, kept.2), m.each);
    }

-- a row that comes in
comes_in : (frame : Frame) (cuts last : ℕ) (h n : ℕ × ℤ) (hs ns ds : List (ℕ × ℤ)) → last < n.0 → n.0 < h.0 → AscendAbove h.0 hs → IsKept frame cuts n → Makes frame cuts n.0 (h ∷ hs) ns ds → Makes frame cuts last (h ∷ hs) (n ∷ ns) (n ∷ ds)
comes_in frame cuts last h n hs ns ds low below up kept m =
    let none : multiplier (h ∷ hs) n.0 ≡ pos 0 = multiplier-below n.0 (h ∷ hs) (below, up) in
    record {
      made = ap (λ (xs : List (ℕ × ℤ)). changed xs ds) (put_front h n hs below kept.1) ∙ changed_above n (h ∷ hs) ds m.up ∙ ap (λ (xs : List (ℕ × ℤ)). n ∷ xs) m.made;
      up = (low, m.up);
      differ = ((λ e. kept.1 (e ∙ none)), m.differ);
      each = ((kept.0, kept.2), m.each);
    }

-- the changes behind a pair
against_makes : (frame : Frame) (cuts : ℕ) (h : ℕ × ℤ) (hs : List (ℕ × ℤ)) (rest : List (ℕ × ℤ) → List (ℕ × ℤ)) → AscendAbove h.0 hs → IsKept frame cuts h
    → ((now : List (ℕ × ℤ)) → AscendAbove h.0 now → AllByRecursion (IsKept frame cuts) now → Makes frame cuts h.0 hs now (rest now))
    → (last : ℕ) (now : List (ℕ × ℤ)) → last < h.0 → AscendAbove last now → AllByRecursion (IsKept frame cuts) now → Makes frame cuts last (h ∷ hs) now (against h rest now)
against_makes frame cuts h hs rest up kept makes last [] low up_now all = taken_out frame cuts last h hs [] (rest []) low kept (makes [] tt tt)
against_makes frame cuts h hs rest up kept makes last (n ∷ ns) low up_now all =
    by (nat_lt n.0 h.0) (nat_eq n.0 h.0) (int_eq n.1 h.1) refl refl refl (λ below. against_makes frame cuts h hs rest up kept makes n.0 ns below up_now.1 all.1)
  where
    by : (s t u : Bool) → nat_lt n.0 h.0 ≡ s → nat_eq n.0 h.0 ≡ t → int_eq n.1 h.1 ≡ u → (n.0 < h.0 → Makes frame cuts n.0 (h ∷ hs) ns (against h rest ns))
        → Makes frame cuts last (h ∷ hs) (n ∷ ns) (if s then n ∷ against h rest ns else (if t then (if u then rest ns else n ∷ rest ns) else (h.0, pos 0) ∷ rest (n ∷ ns)))
    by true t u is eq also more =
        let below : n.0 < h.0 = ltb-true n.0 h.0 is in
        comes_in frame cuts last h n hs ns (against h rest ns) up_now.0 below up all.0 (more below)
    by false true u is eq also more =
        let same : h.0 ≡ n.0 = sym (eqb-true n.0 h.0 eq) in
        let U : ℕ → Type 0 = λ row. AscendAbove row ns in
        let behind = makes ns (subst U (sym same) up_now.1) all.1 in
        equal u same also behind
      where
        equal : (u : Bool) → h.0 ≡ n.0 → int_eq n.1 h.1 ≡ u → Makes frame cuts h.0 hs ns (rest ns) → Makes frame cuts last (h ∷ hs) (n ∷ ns) (if u then rest ns else n ∷ rest ns)
        equal true same also behind =
            let value : n.1 ≡ h.1 = (signed_Decides n.1 h.1).0 also in
            let first : (h.0, h.1) ≡ (n.0, h.1) = ap (λ (a : ℕ). (a, h.1)) same in
            let pair : h ≡ n = first ∙ ap (λ (z : ℤ). (n.0, z)) (sym value) in
            let P : ℕ × ℤ → Type 0 = λ x. Makes frame cuts last (h ∷ hs) (x ∷ ns) (rest ns) in
            subst P pair (left_there frame cuts last h hs ns (rest ns) low behind)
        equal false same also behind =
            given_other frame cuts last h n hs ns (rest ns) low same (λ e. true≢false (sym ((signed_Decides n.1 h.1).1 e) ∙ also)) all.0 behind
    by false false u is eq also more =
        let high : h.0 ≤ n.0 = ltb-false n.0 h.0 is in
        let apart : n.0 ≡ h.0 → ⊥ = λ e. true≢false (sym (eq-eqb n.0 h.0 e) ∙ eq) in
        let above : h.0 < n.0 = omega arith in
        taken_out frame cuts last h hs (n ∷ ns) (rest (n ∷ ns)) low kept (makes (n ∷ ns) (above, up_now.1) all)

-- the changes between two lists make the second of the first
pub difference_makes : (frame : Frame) (cuts last : ℕ) (had now : List (ℕ × ℤ)) → AscendAbove last had → AllByRecursion (IsKept frame cuts) had → AscendAbove last now → AllByRecursion (IsKept frame cuts) now → Makes frame cuts last had now (difference had now)
difference_makes frame cuts last [] now up all up_now all_now = all_new frame cuts last now up_now all_now
difference_makes frame cuts last (h ∷ had) now up all up_now all_now =
    against_makes frame cuts h had (difference had) up.1 all.0 (λ next above each. difference_makes frame cuts h.0 had next up.1 all.1 above each) last now up.0 up_now all_now
