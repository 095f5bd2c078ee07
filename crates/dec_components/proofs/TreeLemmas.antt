-- Trees of rows: what a changed parent keeps.
use Rattle.std.proofs.Common.{◌≡◌, ◌≢◌, ◌⊎◌, ◌↔◌, ℕ, zero, suc, ◌<◌, ◌≤◌, List, [], ◌∷◌, length, get_or, Option, Some, None, refl, sym, ap, subst, ◌∙◌, ◌++◌, ◌+◌, ◌-◌, Bool, true, false, ⊎_elim, inl, inr, arith, get_or-set_same, get_or-set_other}
use Rattle.std.proofs.Math.ListN.{set, length-set, take, drop}
use Rattle.std.proofs.lemmas.List.{take_all, take-append-le}
use Rattle.std.specs.Prelude.{slice_get, Contains, IsTrue, pos}
use Rattle.std.proofs.lemmas.Bool.{cases_eq}
use Rattle.std.proofs.lemmas.Bool.{both_ways}
use Rattle.bp_theory.specs.Program.{Program}
use Rattle.bp_theory.specs.Decomposition.{IsTidyFrom}
use Rattle.bp_theory.specs.declared.Term.{Term}
use Rattle.bp_theory.specs.declared.Row.{Row}
use Rattle.bp_model.specs.Named.{NamedProgram, IsKept}
use Rattle.block_build.proofs.GatherLemmas.{any_default}
use Rattle.dec_components.specs.Joined.{HasVariable, SharesVariable, IsOutside, Joined}
use Rattle.dec_components.specs.Forest.{IsParent, AreParents, Respects, AreTied, KeepsTied, KeepsRoots, IsForest, AreMarks, HasHome, AreHomes, AreWithin, IsReady, IsSound, Extends, KeepsHomes, AreTiedHome, IsTied}
use Rattle.dec_components.proofs.ChainLemmas.{joined_more, joined_back, joined_self, joined_end, joined_by, term_has, has_place}
use Rattle.dec_components.proofs.NumberLemmas.{no_some, one_some, some_there}

-- what a labelling says that respects a list with one parent changed
set_label : (parents : List ℕ) (i v : ℕ) (label : ℕ → Option ℕ) → i < length parents → Respects (set parents i v) label → label i ≡ label v
set_label parents i v label l h =
    let there : i < length (set parents i v) = omega (arith, length-set parents i v, l) in
    h i there ∙ ap label (get_or-set_same parents i v 0 l)

other_label : (parents : List ℕ) (i v r : ℕ) (label : ℕ → Option ℕ) → r < length parents → r ≢ i → Respects (set parents i v) label → label r ≡ label (get_or parents r 0)
other_label parents i v r label l apart h =
    let there : r < length (set parents i v) = omega (arith, length-set parents i v, l) in
    h r there ∙ ap label (get_or-set_other parents i r v 0 apart)

-- the parent of a parent as a parent
pub step_keeps : (parents : List ℕ) (i : ℕ) → IsForest parents → i < length parents → KeepsTied parents (set parents i (get_or parents (get_or parents i 0) 0))
step_keeps parents i forest l label h = λ r rl. elim (cases_eq r i) [
  | inl same ↦ subst (λ (x : ℕ). label x ≡ label (get_or parents x 0)) (sym same) at
  | inr apart ↦ other_label parents i (get_or parents (get_or parents i 0) 0) r label rl apart h
]
  where
    at : label i ≡ label (get_or parents i 0)
    at = elim (cases_eq (get_or parents i 0) i) [
      | inl same ↦ ap label (sym same)
      | inr apart ↦ set_label parents i (get_or parents (get_or parents i 0) 0) label l h
          ∙ sym (other_label parents i (get_or parents (get_or parents i 0) 0) (get_or parents i 0) label (omega (arith, forest i l, l)) apart h)
    ]

-- a root under another row
pub root_keeps : (parents : List ℕ) (i v : ℕ) → i < length parents → get_or parents i 0 ≡ i → KeepsTied parents (set parents i v)
root_keeps parents i v l root label h r rl = elim (cases_eq r i) [
  | inl same ↦ ap label (same ∙ sym root ∙ ap (λ (x : ℕ). get_or parents x 0) (sym same))
  | inr apart ↦ other_label parents i v r label rl apart h
]

pub set_tied : (parents : List ℕ) (i v : ℕ) → i < length parents → AreTied (set parents i v) i v
set_tied parents i v l label h = set_label parents i v label l h

pub set_forest : (parents : List ℕ) (i v : ℕ) → IsForest parents → i < length parents → v ≤ i → IsForest (set parents i v)
set_forest parents i v forest l low r rl =
    let there : r < length parents = omega (arith, length-set parents i v, rl) in
    elim (cases_eq r i) [
      | inl same ↦ subst (λ (x : ℕ). get_or (set parents i v) x 0 ≤ x) (sym same) (omega (arith, get_or-set_same parents i v 0 l, low))
      | inr apart ↦ omega (arith, get_or-set_other parents i r v 0 apart, forest r there)
    ]

pub set_sound : (p : Program) (master parents : List ℕ) (i v : ℕ) → i < length parents → IsParent p master i v → AreParents p master parents → AreParents p master (set parents i v)
set_sound p master parents i v l parent h = record {
  each = length-set parents i v ∙ h.each;
  parent = λ r rl.
      let there : r < length parents = omega (arith, length-set parents i v, rl) in
      elim (cases_eq r i) [
        | inl same ↦ subst (λ (x : ℕ). IsParent p master x (get_or (set parents i v) x 0)) (sym same) (subst (IsParent p master i) (sym (get_or-set_same parents i v 0 l)) parent)
        | inr apart ↦ subst (IsParent p master r) (sym (get_or-set_other parents i r v 0 apart)) (h.parent r there)
      ];
}

-- a parent's parent is a parent
pub parent_more : (p : Program) (master : List ℕ) (r s t : ℕ) → IsParent p master r s → IsParent p master s t → IsParent p master r t
parent_more p master r s t one two = by one two
  where
    by : IsParent p master r s → IsParent p master s t → IsParent p master r t
    by (inl a) b = subst (λ (x : ℕ). IsParent p master x t) a b
    by (inr a) (inl b) = inr (subst (λ (x : ℕ). (x < r) × Joined p master r x) (sym b) a)
    by (inr a) (inr b) = inr (omega (arith, a.0, b.0), joined_more p master r s t a.1 b.1)

pub parent_joined : (p : Program) (master : List ℕ) (r s : ℕ) → Joined p master r r → IsParent p master r s → Joined p master r s
parent_joined p master r s self (inl a) = subst (Joined p master r) (sym a) self
parent_joined p master r s self (inr a) = a.1

pub tied_later : (old new : List ℕ) (r s : ℕ) → KeepsTied old new → AreTied old r s → AreTied new r s
tied_later old new r s keeps tied label h = tied label (keeps label h)

pub tied_more : (parents : List ℕ) (r s t : ℕ) → AreTied parents r s → AreTied parents s t → AreTied parents r t
tied_more parents r s t one two label h = one label h ∙ two label h

pub tied_back : (parents : List ℕ) (r s : ℕ) → AreTied parents r s → AreTied parents s r
tied_back parents r s one label h = sym (one label h)

pub keeps_more : (a b c : List ℕ) → KeepsTied a b → KeepsTied b c → KeepsTied a c
keeps_more a b c one two label h = one label (two label h)

-- ---- one step up, and two roots

pub step_sound : (p : Program) (master parents : List ℕ) (i : ℕ) → IsForest parents → i < length parents → AreParents p master parents
    → IsParent p master i (get_or parents (get_or parents i 0) 0)
step_sound p master parents i forest l are =
    parent_more p master i (get_or parents i 0) (get_or parents (get_or parents i 0) 0) (are.parent i l) (are.parent (get_or parents i 0) (omega (arith, forest i l, l)))

pub set_roots : (parents : List ℕ) (i v : ℕ) → i < length parents → (get_or parents i 0 ≡ i → v ≡ i) → KeepsRoots parents (set parents i v)
set_roots parents i v l own r rl root = elim (cases_eq r i) [
  | inl same ↦
      let at : get_or (set parents i v) i 0 ≡ i = get_or-set_same parents i v 0 l ∙ own (ap (λ (x : ℕ). get_or parents x 0) (sym same) ∙ root ∙ same) in
      subst (λ (x : ℕ). get_or (set parents i v) x 0 ≡ x) (sym same) at
  | inr apart ↦ get_or-set_other parents i r v 0 apart ∙ root
]

pub roots_joined : (p : Program) (master : List ℕ) (one other first second : ℕ) → Joined p master one other → IsParent p master one first → IsParent p master other second
    → Joined p master first second
roots_joined p master one other first second j a b =
    let one_self = joined_self p master one j.outside in
    let other_self = joined_self p master other (joined_end p master one other j) in
    joined_more p master first one second (joined_back p master one first (parent_joined p master one first one_self a))
    (joined_more p master one other second j (parent_joined p master other second other_self b))

pub under : (p : Program) (master : List ℕ) (high low : ℕ) → low ≤ high → Joined p master high low → IsParent p master high low
under p master high low l j = elim (cases_eq low high) [ inl same ↦ inl same | inr apart ↦ inr (omega (arith, l, apart), j) ]

-- ---- homes

-- a slice of a list that was lent whole
pub whole_slice : (n : ℕ) (new old : List ℕ) → length new ≡ length old → n ≡ length old → take n (new ++ drop (length new) old) ≡ new
whole_slice n new old same is =
    let enough : n ≤ length new = omega (arith, same, is) in
    take-append-le n new (drop (length new) old) enough ∙ take_all n new (omega (arith, same, is))

set_home : (homes : List (Option ℕ)) (var row : ℕ) → var < length homes → get_or (set homes var (Some row)) var None ≡ Some row
set_home homes var row l = get_or-set_same homes var (Some row) None l

pub new_home : (parents : List ℕ) (homes : List (Option ℕ)) (row var : ℕ) → var < length homes → HasHome parents (set homes var (Some row)) row var
new_home parents homes row var l = record { home = row; known = set_home homes var row l; tied = λ label h. refl }

pub homes_kept : (homes : List (Option ℕ)) (var row : ℕ) → get_or homes var None ≡ None → KeepsHomes homes (set homes var (Some row))
homes_kept homes var row none v h e = elim (cases_eq v var) [
  | inl same ↦ absurd (no_some h (sym none ∙ ap (λ (x : ℕ). get_or homes x None) (sym same) ∙ e))
  | inr apart ↦ get_or-set_other homes var v (Some row) None apart ∙ e
]

new_at : (homes : List (Option ℕ)) (var row v h : ℕ) → var < length homes → get_or (set homes var (Some row)) v None ≡ Some h → ((v ≡ var) × (h ≡ row)) ⊎ (get_or homes v None ≡ Some h)
new_at homes var row v h l e = elim (cases_eq v var) [
  | inl same ↦ inl (same, one_some h row (sym e ∙ ap (λ (x : ℕ). get_or (set homes var (Some row)) x None) same ∙ set_home homes var row l))
  | inr apart ↦ inr (sym (get_or-set_other homes var v (Some row) None apart) ∙ e)
]

pub homes_within : (rows : ℕ) (homes : List (Option ℕ)) (var row : ℕ) → var < length homes → row < rows → AreWithin rows homes → AreWithin rows (set homes var (Some row))
homes_within rows homes var row l there within v h e = ⊎_elim (λ a. omega (arith, a.1, there)) (λ b. within v h b) (new_at homes var row v h l e)

pub homes_sound : (p : Program) (master : List ℕ) (homes : List (Option ℕ)) (var row : ℕ) → var < length homes → IsOutside p master row → HasVariable p row var → AreHomes p master homes
    → AreHomes p master (set homes var (Some row))
homes_sound p master homes var row l out has h = record {
  outside = λ v k e. ⊎_elim (λ a. subst (IsOutside p master) (sym a.1) out) (λ b. h.outside v k b) (new_at homes var row v k l e);
  has = λ v k e. ⊎_elim
      (λ a. subst (λ (x : ℕ). HasVariable p k x) (sym a.0) (subst (λ (x : ℕ). HasVariable p x var) (sym a.1) has))
      (λ b. h.has v k b)
      (new_at homes var row v k l e);
}

pub home_later : (old_parents parents : List ℕ) (old_homes homes : List (Option ℕ)) (row var : ℕ) → Extends old_parents old_homes parents homes → HasHome old_parents old_homes row var
    → HasHome parents homes row var
home_later old_parents parents old_homes homes row var e h = record { home = h.home; known = e.known var h.home h.known; tied = tied_later old_parents parents h.home row e.tied h.tied }

pub extends_self : (parents : List ℕ) (homes : List (Option ℕ)) → Extends parents homes parents homes
extends_self parents homes = record { tied = λ label h. h; known = λ v h e. e }

pub extends_more : (a b c : List ℕ) (x y z : List (Option ℕ)) → Extends a x b y → Extends b y c z → Extends a x c z
extends_more a b c x y z one two = record { tied = keeps_more a b c one.tied two.tied; known = λ v h e. two.known v h (one.known v h e) }

-- rows that have a variable in common have one home for it
pub homes_tie : (parents : List ℕ) (homes : List (Option ℕ)) (r s v : ℕ) → HasHome parents homes r v → HasHome parents homes s v → AreTied parents r s
homes_tie parents homes r s v a b =
    let same : a.home ≡ b.home = one_some a.home b.home (sym a.known ∙ b.known) in
    λ label h. sym (a.tied label h) ∙ ap label same ∙ b.tied label h

-- ---- the terms of a row

pub ready_same : (a b c d : ℕ) (parents : List ℕ) (homes : List (Option ℕ)) → a ≡ c → b ≡ d → IsReady a b parents homes → IsReady c d parents homes
ready_same a b c d parents homes one two h =
    subst (λ (x : ℕ). IsReady x d parents homes) one (subst (λ (x : ℕ). IsReady a x parents homes) two h)

row_is : (rows : List Row) (r : ℕ) (row : Row) → slice_get rows r ≡ Some row → (r < length rows) × ((e : Row) → get_or rows r e ≡ row)
row_is [] r row e = absurd (no_some row e)
row_is (x ∷ rows) zero row e = (omega arith, λ d. one_some x row e)
row_is (x ∷ rows) (suc r) row e = let rest = row_is rows r row e in (omega (arith, rest.0), rest.1)

pub term_of_row : (m : NamedProgram) (r i : ℕ) (d : Term) (row : Row) (terms : List Term) → IsKept m → slice_get m.program.rows r ≡ Some row → terms ≡ row.terms → i < length terms
    → HasVariable m.program r (get_or terms i d).var
term_of_row m r i d row terms kept is same l =
    let at = row_is m.program.rows r row is in
    let tidy : IsTidyFrom 0 row.terms = subst (λ (x : Row). IsTidyFrom 0 x.terms) (at.1 row) (kept.tidy_rows r row at.0) in
    subst (λ (xs : List Term). HasVariable m.program r (get_or xs i d).var) (sym same)
    (term_has m.program r i d row at.1 at.0 tidy (subst (λ (xs : List Term). i < length xs) same l))

pub home_of_row : (p : Program) (r v : ℕ) (row : Row) (terms : List Term) (parents : List ℕ) (homes : List (Option ℕ)) → slice_get p.rows r ≡ Some row → terms ≡ row.terms
    → HasVariable p r v → ((i : ℕ) (d : Term) → i < length terms → HasHome parents homes r (get_or terms i d).var) → HasHome parents homes r v
home_of_row p r v row terms parents homes is same has each =
    let at = row_is p.rows r row is in
    let place = has_place p r v row has in
    let alike : get_or p.rows r row ≡ row = at.1 row in
    let none : Term = record { var = 0; coef = pos 0 } in
    let low : place.0 < length terms = subst (λ (xs : List Term). place.0 < length xs) (ap (λ (x : Row). x.terms) alike ∙ sym same) place.1 in
    let var : (get_or terms place.0 none).var ≡ v = ap (λ (xs : List Term). (get_or xs place.0 none).var) (same ∙ sym (ap (λ (x : Row). x.terms) alike)) ∙ place.2 none in
    subst (λ (x : ℕ). HasHome parents homes r x) var (each place.0 none low)

-- a row that isn't marked is outside the master
pub unmarked_outside : (p : Program) (master : List ℕ) (marks : List Bool) (r : ℕ) (d : Bool) → AreMarks p master marks → r < length p.rows → get_or marks r d ≡ false → IsOutside p master r
unmarked_outside p master marks r d is l e =
    let low : r < length marks = omega (arith, l, is.each) in
    record { there = l; outside = λ c. both_ways (get_or marks r true) (any_default marks r true d low ∙ e) ((is.mark r low).1 c) }

pub marked_inside : (p : Program) (master : List ℕ) (marks : List Bool) (r : ℕ) (d : Bool) → AreMarks p master marks → r < length p.rows → get_or marks r d ≡ true → IsOutside p master r → ⊥
marked_inside p master marks r d is l e o =
    let low : r < length marks = omega (arith, l, is.each) in
    o.outside ((is.mark r low).0 (any_default marks r true d low ∙ e))

pub marks_at : (p : Program) (master : List ℕ) (marks : List Bool) (r n : ℕ) (d : Bool) → AreMarks p master marks → r < length marks → n ≡ r → IsTrue (get_or marks r d) ↔ Contains master n
marks_at p master marks r n d is l same =
    subst (λ (x : ℕ). IsTrue (get_or marks r d) ↔ Contains master x) (sym same)
    (subst (λ (b : Bool). IsTrue b ↔ Contains master r) (any_default marks r true d l) (is.mark r l))

pub known_home : (homes : List (Option ℕ)) (var home : ℕ) (x : Option ℕ) → var < length homes → x ≡ get_or homes var x → x ≡ Some home → get_or homes var None ≡ Some home
known_home homes var home x l e is = any_default homes var None x l ∙ sym e ∙ is
