-- A certificate is valid or has a first fault.
use Rattle.std.proofs.Common.{◌≡◌, refl, sym, ap, subst, ◌∙◌, ℕ, suc, ◌+◌, ◌<◌, ◌≤◌, ◌^◌, Bool, true, false, List, [], ◌∷◌, ◌++◌, length, get_or, Option, Some, None, arith, inl, inr, ⊎_elim, append_assoc}
use Rattle.std.proofs.Math.IntN.{ℤ, pos, ◌-ℤ◌, ◌*ℤ◌}
use Rattle.std.specs.Prelude.{◌<ℤ◌, ◌⊎◌, All, IsTrue}
use Rattle.std.specs.List.{AllByRecursion}
use Rattle.std.proofs.lemmas.Bool.{cases_lt, cases_eq}
use Rattle.std.proofs.lemmas.Int.{ints, by_lt_z}
use Rattle.std.proofs.lemmas.List.Elements.{recursion_from_All, All-from_recursion, All-push, All-nil}
use Rattle.bp_theory.specs.Program.{Program, span_at, IsWithin, IsInside, MeetsRow, IsFeasible, value, in_sense, KeepsActivity, activity_limit}
use Rattle.bp_theory.specs.Blocking.{Blocking, row_at}
use Rattle.bp_theory.specs.Decomposition.{Decomposition, ProofRow, whole_row, link_row, no_row, proof_rows}
use Rattle.bp_theory.specs.Bound.{IsBound, SignFits, SignFitsSense, SignsFit}
use Rattle.bp_theory.specs.Cuts.{CombinesWell, IsFitting, AreFitting, cut_row, cut_rows}
use Rattle.bp_theory.specs.Trees.{Tree, shut_leaf, open_leaf, split, Leaf, leaves, low_part, high_part, IsSoundSplit, HasSoundSplits, IsProper}
use Rattle.bp_theory.specs.Claims.{Holds, Empties, Certificate, Shows, PointFits, MayBeOpen, IsCertified}
use Rattle.bp_theory.specs.Judgement.{Line, point_line, cut_line, split_line, leaf_line, Passes, HasFault, outside, missed, other_value, cut_sign, large_cut, unsound, leaf_sign, weak, open_there, named_value, point_lines, cut_lines, tree_lines, judged_lines, HasItsPoint, blocking_with, IsFirstFault}
use Rattle.bp_theory.specs.Laws.{Judged}
use Rattle.bp_theory.specs.declared.Span.{Span}
use Rattle.bp_theory.specs.declared.Sense.{Sense}
use Rattle.bp_theory.specs.declared.Sense.TheVariants.{Le, Ge, Eq, In}
use Rattle.bp_theory.specs.declared.Row.{Row}
use Rattle.bp_theory.specs.declared.MasterRow.{MasterRow}
use Rattle.bp_theory.specs.declared.Proof.{Proof}
use Rattle.bp_theory.specs.declared.Cut.{Cut}
use Rattle.bp_theory.specs.declared.Claim.{Claim}
use Rattle.bp_theory.specs.declared.Claim.TheVariants.{Optimal, Infeasible, Bound}
use Rattle.bp_theory.specs.declared.CheckKind.{CheckKind}
use Rattle.bp_theory.specs.declared.CheckKind.TheVariants as kinds
use Rattle.bp_theory.specs.declared.CheckKind.TheVariants.{PointBound, PointRow, Value, Split, Sign, Weak, Open}
use Rattle.bp_theory.proofs.LeastLaws.{Decided, le_decided, both_decided, rows_decided}
use Rattle.bp_theory.proofs.ShrinkProof.{one_bound_lem}
use Rattle.bp_theory.proofs.ClassProof.{split_shrinks_lem}

-- ---- what a line must pass is decided

lt_decided : (a b : ℤ) → Decided (a <ℤ b)
lt_decided a b = by_lt_z a b (λ less. inl less) (λ more. inr (λ h. omega (arith, ints, more, h)))

all_decided : {X : Type 0} (P : X → Type 0) → ((x : X) → Decided (P x)) → (xs : List X) → Decided (All P xs)
all_decided {X} P each xs = ⊎_elim
    (λ h. inl (All-from_recursion P xs h))
    (λ n. inr (λ h. n (recursion_from_All P xs h)))
    (by xs)
  where
    by : (xs : List X) → Decided (AllByRecursion P xs)
    by [] = inl tt
    by (x ∷ xs) = both_decided (each x) (by xs)

inside_decided : (spans : List Span) (x : List ℤ) → Decided (IsInside spans x)
inside_decided [] [] = inl tt
inside_decided [] (v ∷ vs) = inr (λ h. h)
inside_decided (s ∷ ss) [] = inr (λ h. h)
inside_decided (s ∷ ss) (v ∷ vs) = both_decided (within s v) (inside_decided ss vs)
  where
    within : (s : Span) (v : ℤ) → Decided (IsWithin s v)
    within s v = ⊎_elim
        (λ h. inl (record { above = h.0; below = h.1 }))
        (λ n. inr (λ h. n (h.above, h.below)))
        (both_decided (le_decided s.lo v) (le_decided v s.hi))

sense_decided : (s : Sense) (p : ℤ) → Decided (SignFitsSense s p)
sense_decided Le p = lt_decided p (pos 0)
sense_decided Ge p = lt_decided (pos 0) p
sense_decided Eq p = inl tt
sense_decided In p = inl tt

sign_decided : (o : Option MasterRow) (p : ℤ) → Decided (SignFits o p)
sign_decided None p = inr (λ h. h)
sign_decided (Some r) p = sense_decided r.sense p

combines_decided : (row : ProofRow) (u : ℤ) → Decided (CombinesWell row u)
combines_decided (whole_row row) u = sense_decided row.sense u
combines_decided (link_row w k) u = inr (λ h. h)
combines_decided no_row u = inr (λ h. h)

fitting_decided : (rows : List ProofRow) (cut : Cut) → Decided (IsFitting rows cut)
fitting_decided rows cut = ⊎_elim
    (λ none. inr (λ h. omega (arith, h.divides, none)))
    (λ some. ⊎_elim
    (λ h. inl (record { divides = omega (arith, some); combines = h }))
    (λ n. inr (λ h. n h.combines))
    (all_decided (λ m. CombinesWell (get_or rows m.0 no_row) m.1) (λ m. combines_decided (get_or rows m.0 no_row) m.1) cut.rows))
    (cases_lt cut.q 1)

keeps_decided : (p : Program) (row : Row) → Decided (KeepsActivity p row)
keeps_decided p row = ⊎_elim
    (λ less. inl less)
    (λ more. inr (λ h. too_much (activity_limit p row) more h))
    (cases_lt (activity_limit p row) (2 ^ 62))
  where
    too_much : (n : ℕ) → 2 ^ 62 ≤ n → n < 2 ^ 62 → ⊥
    too_much n a b = omega arith

sound_decided : (zone : List Span) (v : ℕ) (at : ℤ) → Decided (IsSoundSplit zone v at)
sound_decided zone v at = ⊎_elim
    (λ h. inl (record { above = h.0; below = h.1 }))
    (λ n. inr (λ h. n (h.above, h.below)))
    (both_decided (le_decided (span_at zone v).lo at) (lt_decided at (span_at zone v).hi))

holds_decided : (b : Blocking) (zone : List Span) (proof : Proof) (z : ℤ) → IsProper zone → Decided (Holds b zone proof z)
holds_decided b zone proof z proper = ⊎_elim
    (λ endless. inl (inl endless))
    (λ found. ⊎_elim
    (λ more. inl (inr (found.0, found.1, more)))
    (λ n. inr (none found.0 found.1 n))
    (lt_decided (pos proof.scale *ℤ (z -ℤ pos 1)) found.0))
    (one_bound_lem.total b zone proof proper)
  where
    none : (v : ℤ) → IsBound b zone proof v → ((pos proof.scale *ℤ (z -ℤ pos 1)) <ℤ v → ⊥) → Holds b zone proof z → ⊥
    none v bound n (inl endless) = one_bound_lem.not_both b zone proof v endless bound
    none v bound n (inr other) =
        let same : other.0 ≡ v = one_bound_lem.one b zone proof other.0 v other.1 bound in
        n (subst (λ w. (pos proof.scale *ℤ (z -ℤ pos 1)) <ℤ w) same other.2)

empties_decided : (b : Blocking) (zone : List Span) (proof : Proof) → IsProper zone → Decided (Empties b zone proof)
empties_decided b zone proof proper = ⊎_elim
    (λ endless. inl (inl endless))
    (λ found. ⊎_elim
    (λ h. inl (inr (found.0, found.1, h.0, h.1)))
    (λ n. inr (none found.0 found.1 n))
    (both_decided (cases_eq proof.scale 0) (lt_decided (pos 0) found.0)))
    (one_bound_lem.total b zone proof proper)
  where
    none : (v : ℤ) → IsBound b zone proof v → ((proof.scale ≡ 0) × (pos 0 <ℤ v) → ⊥) → Empties b zone proof → ⊥
    none v bound n (inl endless) = one_bound_lem.not_both b zone proof v endless bound
    none v bound n (inr other) =
        let same : other.0 ≡ v = one_bound_lem.one b zone proof other.0 v other.1 bound in
        n (other.2, subst (λ w. pos 0 <ℤ w) same other.3)

shows_decided : (p : Program) (b : Blocking) (claim : Claim) (leaf : Leaf) → IsProper leaf.zone → Decided (Shows p b claim leaf)
shows_decided p b (Optimal v) leaf proper = holds_decided b leaf.zone leaf.proof (in_sense p.maximises v) proper
shows_decided p b Infeasible leaf proper = empties_decided b leaf.zone leaf.proof proper
shows_decided p b (Bound bound v) leaf proper = holds_decided b leaf.zone leaf.proof (in_sense p.maximises bound) proper

may_be_open_decided : (claim : Claim) → Decided (MayBeOpen claim)
may_be_open_decided (Optimal v) = inr (λ h. h)
may_be_open_decided Infeasible = inr (λ h. h)
may_be_open_decided (Bound bound v) = inl tt

-- ---- a line passes or has a fault

abbrev pub Verdict : Program → Blocking → Claim → Line → Type 0
Verdict p b claim line = Passes p b claim line ⊎ ((fault : CheckKind) × HasFault p b claim line fault)

point_verdict : (p : Program) (b : Blocking) (claim : Claim) (v : ℤ) (x : List ℤ) → Verdict p b claim (point_line v x)
point_verdict p b claim v x = ⊎_elim
    (λ inside. ⊎_elim
    (λ met. let feasible : IsFeasible p x = record { inside = inside; rows = met } in
    ⊎_elim
    (λ same. inl (record { feasible = feasible; has_value = same }))
    (λ other. inr (Value, other_value v x feasible other))
    (equal_decided (value p x) v))
    (λ n. inr (PointRow, missed v x inside n))
    (⊎_elim
    (λ h. inl (All-from_recursion (MeetsRow x) p.rows h))
    (λ n. inr (λ h. n (recursion_from_All (MeetsRow x) p.rows h)))
    (rows_decided x p.rows)))
    (λ n. inr (PointBound, outside v x n))
    (inside_decided p.spans x)
  where
    equal_decided : (a c : ℤ) → Decided (a ≡ c)
    equal_decided a c = by_lt_z a c
        (λ less. inr (λ e. omega (arith, ints, less, e)))
        (λ more. by_lt_z c a (λ less. inr (λ e. omega (arith, ints, less, e))) (λ most. inl (omega (arith, ints, more, most))))

cut_verdict : (p : Program) (b : Blocking) (claim : Claim) (rows : List ProofRow) (cut : Cut) → Verdict p b claim (cut_line rows cut)
cut_verdict p b claim rows cut = ⊎_elim
    (λ fits. ⊎_elim
    (λ keeps. inl (fits, keeps))
    (λ n. inr (kinds.Cut, large_cut rows cut fits n))
    (keeps_decided p (cut_row p rows cut)))
    (λ n. inr (Sign, cut_sign rows cut n))
    (fitting_decided rows cut)

leaf_verdict : (p : Program) (b : Blocking) (claim : Claim) (leaf : Leaf) → IsProper leaf.zone → Verdict p b claim (leaf_line leaf)
leaf_verdict p b claim leaf proper = ⊎_elim
    (λ signs. ⊎_elim
    (λ shows. by leaf.is_open refl signs shows)
    (λ n. inr (Weak, weak leaf signs n))
    (shows_decided p b claim leaf proper))
    (λ n. inr (Sign, leaf_sign leaf n))
    (all_decided (λ m. SignFits (row_at b m.0) m.1) (λ m. sign_decided (row_at b m.0) m.1) leaf.proof.mults)
  where
    by : (t : Bool) → leaf.is_open ≡ t → SignsFit b leaf.proof → Shows p b claim leaf → Verdict p b claim (leaf_line leaf)
    by false e signs shows = inl (signs, shows, λ h. absurd (cc))
    by true e signs shows = ⊎_elim
        (λ may. inl (signs, shows, λ h. may))
        (λ n. inr (Open, open_there leaf signs shows e n))
        (may_be_open_decided claim)

-- ---- lists of lines

-- all lines pass, or some is the first with a fault
abbrev pub Scan : Program → Blocking → Claim → List Line → Type 0
Scan p b claim lines =
    AllByRecursion (Passes p b claim) lines
    ⊎ ((fault : CheckKind) × (before : List Line) × (line : Line) × (after : List Line)
    × (lines ≡ before ++ line ∷ after) × AllByRecursion (Passes p b claim) before × HasFault p b claim line fault)

both_pass : {X : Type 0} (P : X → Type 0) (xs ys : List X) → AllByRecursion P xs → AllByRecursion P ys → AllByRecursion P (xs ++ ys)
both_pass P [] ys h g = g
both_pass P (x ∷ xs) ys h g = (h.0, both_pass P xs ys h.1 g)

scan_one : (p : Program) (b : Blocking) (claim : Claim) (line : Line) → Verdict p b claim line → Scan p b claim (line ∷ [])
scan_one p b claim line (inl passes) = inl (passes, tt)
scan_one p b claim line (inr found) = inr (found.0, [], line, [], refl, tt, found.1)

scan_append : (p : Program) (b : Blocking) (claim : Claim) (xs ys : List Line) → Scan p b claim xs → Scan p b claim ys → Scan p b claim (xs ++ ys)
scan_append p b claim xs ys (inl h) (inl g) = inl (both_pass (Passes p b claim) xs ys h g)
scan_append p b claim xs ys (inl h) (inr found) =
    inr (
      found.0,
      xs ++ found.1,
      found.2,
      found.3,
      ap (λ zs. xs ++ zs) found.4 ∙ sym (append_assoc xs found.1 (found.2 ∷ found.3)),
      both_pass (Passes p b claim) xs found.1 h found.5,
      found.6,
    )
scan_append p b claim xs ys (inr found) rest =
    inr (
      found.0,
      found.1,
      found.2,
      found.3 ++ ys,
      ap (λ zs. zs ++ ys) found.4 ∙ append_assoc found.1 (found.2 ∷ found.3) ys,
      found.5,
      found.6,
    )

scan_point : (p : Program) (b : Blocking) (claim : Claim) (named : Option ℤ) (point : Option (List ℤ)) → Scan p b claim (point_lines named point)
scan_point p b claim None point = inl tt
scan_point p b claim (Some v) None = inl tt
scan_point p b claim (Some v) (Some x) = scan_one p b claim (point_line v x) (point_verdict p b claim v x)

scan_cuts : (p : Program) (d : Decomposition) (b : Blocking) (claim : Claim) (earlier : List Row) (cuts : List Cut)
    → Scan p b claim (cut_lines p d earlier cuts)
scan_cuts p d b claim earlier [] = inl tt
scan_cuts p d b claim earlier (cut ∷ cuts) =
    let later : List Row = earlier ++ cut_row p (proof_rows p d earlier) cut ∷ [] in
    scan_append p b claim (cut_line (proof_rows p d earlier) cut ∷ []) (cut_lines p d later cuts)
    (scan_one p b claim (cut_line (proof_rows p d earlier) cut) (cut_verdict p b claim (proof_rows p d earlier) cut))
    (scan_cuts p d b claim later cuts)

scan_tree : (p : Program) (b : Blocking) (claim : Claim) (t : Tree) (zone : List Span) → IsProper zone → Scan p b claim (tree_lines t zone)
scan_tree p b claim (shut_leaf proof) zone proper =
    let leaf : Leaf = record { zone = zone; proof = proof; is_open = false } in
    scan_one p b claim (leaf_line leaf) (leaf_verdict p b claim leaf proper)
scan_tree p b claim (open_leaf proof) zone proper =
    let leaf : Leaf = record { zone = zone; proof = proof; is_open = true } in
    scan_one p b claim (leaf_line leaf) (leaf_verdict p b claim leaf proper)
scan_tree p b claim (split v at low high) zone proper = ⊎_elim
    (λ sound. scan_append p b claim (split_line zone v at ∷ []) (tree_lines low (low_part zone v at) ++ tree_lines high (high_part zone v at))
    (inl (sound, tt))
    (scan_append p b claim (tree_lines low (low_part zone v at)) (tree_lines high (high_part zone v at))
    (scan_tree p b claim low (low_part zone v at) (split_shrinks_lem.low zone v at sound proper).0)
    (scan_tree p b claim high (high_part zone v at) (split_shrinks_lem.high zone v at sound proper).0)))
    (λ n. inr (Split, [], split_line zone v at, tree_lines low (low_part zone v at) ++ tree_lines high (high_part zone v at), refl, tt, unsound zone v at n))
    (sound_decided zone v at)

-- ---- lines that pass, and valid certificates

first_half : {X : Type 0} (P : X → Type 0) (xs ys : List X) → AllByRecursion P (xs ++ ys) → AllByRecursion P xs
first_half P [] ys h = tt
first_half P (x ∷ xs) ys h = (h.0, first_half P xs ys h.1)

second_half : {X : Type 0} (P : X → Type 0) (xs ys : List X) → AllByRecursion P (xs ++ ys) → AllByRecursion P ys
second_half P [] ys h = h
second_half P (x ∷ xs) ys h = second_half P xs ys h.1

-- what the leaves pass
abbrev pub LeafPasses : Program → Blocking → Claim → Leaf → Type 0
LeafPasses p b claim leaf = SignsFit b leaf.proof × Shows p b claim leaf × (IsTrue leaf.is_open → MayBeOpen claim)

tree_from_lines : (p : Program) (b : Blocking) (claim : Claim) (t : Tree) (zone : List Span) → AllByRecursion (Passes p b claim) (tree_lines t zone)
    → HasSoundSplits t zone × AllByRecursion (LeafPasses p b claim) (leaves t zone)
tree_from_lines p b claim (shut_leaf proof) zone h = (tt, h)
tree_from_lines p b claim (open_leaf proof) zone h = (tt, h)
tree_from_lines p b claim (split v at low high) zone h =
    let l = tree_from_lines p b claim low (low_part zone v at)
    (first_half (Passes p b claim) (tree_lines low (low_part zone v at)) (tree_lines high (high_part zone v at)) h.1) in
    let r = tree_from_lines p b claim high (high_part zone v at)
    (second_half (Passes p b claim) (tree_lines low (low_part zone v at)) (tree_lines high (high_part zone v at)) h.1) in
    ((h.0, l.0, r.0), both_pass (LeafPasses p b claim) (leaves low (low_part zone v at)) (leaves high (high_part zone v at)) l.1 r.1)

lines_from_tree : (p : Program) (b : Blocking) (claim : Claim) (t : Tree) (zone : List Span) → HasSoundSplits t zone
    → AllByRecursion (LeafPasses p b claim) (leaves t zone) → AllByRecursion (Passes p b claim) (tree_lines t zone)
lines_from_tree p b claim (shut_leaf proof) zone sound h = h
lines_from_tree p b claim (open_leaf proof) zone sound h = h
lines_from_tree p b claim (split v at low high) zone sound h = (
  sound.0,
  both_pass (Passes p b claim) (tree_lines low (low_part zone v at)) (tree_lines high (high_part zone v at))
      (lines_from_tree p b claim low (low_part zone v at) sound.1
      (first_half (LeafPasses p b claim) (leaves low (low_part zone v at)) (leaves high (high_part zone v at)) h))
      (lines_from_tree p b claim high (high_part zone v at) sound.2
      (second_half (LeafPasses p b claim) (leaves low (low_part zone v at)) (leaves high (high_part zone v at)) h)),
)

cuts_from_lines : (p : Program) (d : Decomposition) (b : Blocking) (claim : Claim) (earlier : List Row) (cuts : List Cut)
    → AllByRecursion (Passes p b claim) (cut_lines p d earlier cuts) → All (KeepsActivity p) earlier
    → AreFitting p d earlier cuts × All (KeepsActivity p) (cut_rows p d earlier cuts)
cuts_from_lines p d b claim earlier [] h keeps = (tt, keeps)
cuts_from_lines p d b claim earlier (cut ∷ cuts) h keeps =
    let row : Row = cut_row p (proof_rows p d earlier) cut in
    let rest = cuts_from_lines p d b claim (earlier ++ row ∷ []) cuts h.1 (All-push (KeepsActivity p) earlier row keeps h.0.1) in
    ((h.0.0, rest.0), rest.1)

-- the earlier rows stay among the rows of cuts
earlier_keep : (p : Program) (d : Decomposition) (earlier : List Row) (cuts : List Cut)
    → AllByRecursion (KeepsActivity p) (cut_rows p d earlier cuts) → AllByRecursion (KeepsActivity p) earlier
earlier_keep p d earlier [] h = h
earlier_keep p d earlier (cut ∷ cuts) h =
    let row : Row = cut_row p (proof_rows p d earlier) cut in
    first_half (KeepsActivity p) earlier (row ∷ []) (earlier_keep p d (earlier ++ row ∷ []) cuts h)

lines_from_cuts : (p : Program) (d : Decomposition) (b : Blocking) (claim : Claim) (earlier : List Row) (cuts : List Cut)
    → AreFitting p d earlier cuts → AllByRecursion (KeepsActivity p) (cut_rows p d earlier cuts)
    → AllByRecursion (Passes p b claim) (cut_lines p d earlier cuts)
lines_from_cuts p d b claim earlier [] fits keeps = tt
lines_from_cuts p d b claim earlier (cut ∷ cuts) fits keeps =
    let row : Row = cut_row p (proof_rows p d earlier) cut in
    let here = second_half (KeepsActivity p) earlier (row ∷ []) (earlier_keep p d (earlier ++ row ∷ []) cuts keeps) in
    ((fits.0, here.0), lines_from_cuts p d b claim (earlier ++ row ∷ []) cuts fits.1 keeps)

point_from_lines : (p : Program) (b : Blocking) (claim : Claim) (point : Option (List ℤ)) → HasItsPoint (named_value claim) point
    → AllByRecursion (Passes p b claim) (point_lines (named_value claim) point) → PointFits p claim point
point_from_lines p b (Optimal v) None has h = absurd has
point_from_lines p b (Optimal v) (Some x) has h = h.0
point_from_lines p b Infeasible None has h = tt
point_from_lines p b Infeasible (Some x) has h = absurd has
point_from_lines p b (Bound bound None) None has h = tt
point_from_lines p b (Bound bound None) (Some x) has h = absurd has
point_from_lines p b (Bound bound (Some v)) None has h = absurd has
point_from_lines p b (Bound bound (Some v)) (Some x) has h = h.0

lines_from_point : (p : Program) (b : Blocking) (claim : Claim) (point : Option (List ℤ)) → PointFits p claim point
    → AllByRecursion (Passes p b claim) (point_lines (named_value claim) point)
lines_from_point p b (Optimal v) None fits = absurd fits
lines_from_point p b (Optimal v) (Some x) fits = (fits, tt)
lines_from_point p b Infeasible point fits = tt
lines_from_point p b (Bound bound None) point fits = tt
lines_from_point p b (Bound bound (Some v)) None fits = absurd fits
lines_from_point p b (Bound bound (Some v)) (Some x) fits = (fits, tt)

-- where all lines pass the certificate is valid
certified_from_lines : (p : Program) (d : Decomposition) (cert : Certificate) → HasItsPoint (named_value cert.claim) cert.point
    → AllByRecursion (Passes p (blocking_with p d cert) cert.claim) (judged_lines p d cert) → IsCertified p d cert
certified_from_lines p d cert has h =
    let b : Blocking = blocking_with p d cert in
    let P : Line → Type 0 = Passes p b cert.claim in
    let points : List Line = point_lines (named_value cert.claim) cert.point in
    let cuts : List Line = cut_lines p d [] cert.cuts in
    let nodes : List Line = tree_lines cert.tree p.spans in
    let first = first_half P (points ++ cuts) nodes h in
    let c = cuts_from_lines p d b cert.claim [] cert.cuts (second_half P points cuts first) (All-nil (KeepsActivity p)) in
    let t = tree_from_lines p b cert.claim cert.tree p.spans (second_half P (points ++ cuts) nodes h) in
    let all : All (LeafPasses p b cert.claim) (leaves cert.tree p.spans) =
    All-from_recursion (LeafPasses p b cert.claim) (leaves cert.tree p.spans) t.1 in
    record {
      fitting = c.0;
      bounded = c.1;
      valid = record {
        point = point_from_lines p b cert.claim cert.point has (first_half P points cuts first);
        splits = t.0;
        signs = λ k d l. (all k d l).0;
        shown = λ k d l. (all k d l).1;
        shut = λ k d l. (all k d l).2;
      };
    }

-- in a valid certificate all lines pass
lines_from_certified : (p : Program) (d : Decomposition) (cert : Certificate) → IsCertified p d cert
    → AllByRecursion (Passes p (blocking_with p d cert) cert.claim) (judged_lines p d cert)
lines_from_certified p d cert h =
    let b : Blocking = blocking_with p d cert in
    let P : Line → Type 0 = Passes p b cert.claim in
    let points : List Line = point_lines (named_value cert.claim) cert.point in
    let cuts : List Line = cut_lines p d [] cert.cuts in
    both_pass P (points ++ cuts) (tree_lines cert.tree p.spans)
    (both_pass P points cuts
    (lines_from_point p b cert.claim cert.point h.valid.point)
    (lines_from_cuts p d b cert.claim [] cert.cuts h.fitting (recursion_from_All (KeepsActivity p) (cut_rows p d [] cert.cuts) h.bounded)))
    (lines_from_tree p b cert.claim cert.tree p.spans h.valid.splits
    (recursion_from_All (LeafPasses p b cert.claim) (leaves cert.tree p.spans)
    (λ k d l. (h.valid.signs k d l, h.valid.shown k d l, h.valid.shut k d l))))

-- a line with a fault doesn't pass
fault_fails : (p : Program) (b : Blocking) (claim : Claim) (line : Line) (fault : CheckKind) → HasFault p b claim line fault → Passes p b claim line → ⊥
fault_fails p b claim line fault (outside v x n) h = n h.feasible.inside
fault_fails p b claim line fault (missed v x inside n) h = n h.feasible.rows
fault_fails p b claim line fault (other_value v x feasible n) h = n h.has_value
fault_fails p b claim line fault (cut_sign rows cut n) h = n h.0
fault_fails p b claim line fault (large_cut rows cut fits n) h = n h.1
fault_fails p b claim line fault (unsound zone v at n) h = n h
fault_fails p b claim line fault (leaf_sign leaf n) h = n h.0
fault_fails p b claim line fault (weak leaf signs n) h = n h.1
fault_fails p b claim line fault (open_there leaf signs shows e n) h = n (h.2 e)

judged_total : (p : Program) (d : Decomposition) (cert : Certificate) → IsProper p.spans → HasItsPoint (named_value cert.claim) cert.point
    → IsCertified p d cert ⊎ ((number : ℕ) × (fault : CheckKind) × IsFirstFault p d cert number fault)
judged_total p d cert proper has =
    let b : Blocking = blocking_with p d cert in
    let points : List Line = point_lines (named_value cert.claim) cert.point in
    let cuts : List Line = cut_lines p d [] cert.cuts in
    ⊎_elim
    (λ all. inl (certified_from_lines p d cert has all))
    (λ found. inr (
      3 + length found.1,
      found.0,
      record {
        before = found.1;
        line = found.2;
        after = found.3;
        lines = found.4;
        passed = All-from_recursion (Passes p b cert.claim) found.1 found.5;
        has_fault = found.6;
        numbered = refl;
      },
    ))
    (scan_append p b cert.claim (points ++ cuts) (tree_lines cert.tree p.spans)
    (scan_append p b cert.claim points cuts
    (scan_point p b cert.claim (named_value cert.claim) cert.point)
    (scan_cuts p d b cert.claim [] cert.cuts))
    (scan_tree p b cert.claim cert.tree p.spans proper))

judged_not_both : (p : Program) (d : Decomposition) (cert : Certificate) (number : ℕ) (fault : CheckKind)
    → IsCertified p d cert → IsFirstFault p d cert number fault → ⊥
judged_not_both p d cert number fault certified first =
    let b : Blocking = blocking_with p d cert in
    let all = subst (AllByRecursion (Passes p b cert.claim)) first.lines (lines_from_certified p d cert certified) in
    fault_fails p b cert.claim first.line fault first.has_fault
    (second_half (Passes p b cert.claim) first.before (first.line ∷ first.after) all).0

-- a line has one fault
fault_once : (p : Program) (b : Blocking) (claim : Claim) (line : Line) (f g : CheckKind) → HasFault p b claim line f → HasFault p b claim line g → f ≡ g
fault_once p b claim _ _ _ (outside v x n) (outside _ _ m) = refl
fault_once p b claim _ _ _ (outside v x n) (missed _ _ inside m) = absurd (n inside)
fault_once p b claim _ _ _ (outside v x n) (other_value _ _ feasible m) = absurd (n feasible.inside)
fault_once p b claim _ _ _ (missed v x inside n) (outside _ _ m) = absurd (m inside)
fault_once p b claim _ _ _ (missed v x inside n) (missed _ _ inside' m) = refl
fault_once p b claim _ _ _ (missed v x inside n) (other_value _ _ feasible m) = absurd (n feasible.rows)
fault_once p b claim _ _ _ (other_value v x feasible n) (outside _ _ m) = absurd (m feasible.inside)
fault_once p b claim _ _ _ (other_value v x feasible n) (missed _ _ inside m) = absurd (m feasible.rows)
fault_once p b claim _ _ _ (other_value v x feasible n) (other_value _ _ feasible' m) = refl
fault_once p b claim _ _ _ (cut_sign rows cut n) (cut_sign _ _ m) = refl
fault_once p b claim _ _ _ (cut_sign rows cut n) (large_cut _ _ fits m) = absurd (n fits)
fault_once p b claim _ _ _ (large_cut rows cut fits n) (cut_sign _ _ m) = absurd (m fits)
fault_once p b claim _ _ _ (large_cut rows cut fits n) (large_cut _ _ fits' m) = refl
fault_once p b claim _ _ _ (unsound zone v at n) (unsound _ _ _ m) = refl
fault_once p b claim _ _ _ (leaf_sign leaf n) (leaf_sign _ m) = refl
fault_once p b claim _ _ _ (leaf_sign leaf n) (weak _ signs m) = absurd (n signs)
fault_once p b claim _ _ _ (leaf_sign leaf n) (open_there _ signs shows e m) = absurd (n signs)
fault_once p b claim _ _ _ (weak leaf signs n) (leaf_sign _ m) = absurd (m signs)
fault_once p b claim _ _ _ (weak leaf signs n) (weak _ signs' m) = refl
fault_once p b claim _ _ _ (weak leaf signs n) (open_there _ signs' shows e m) = absurd (n shows)
fault_once p b claim _ _ _ (open_there leaf signs shows e n) (leaf_sign _ m) = absurd (m signs)
fault_once p b claim _ _ _ (open_there leaf signs shows e n) (weak _ signs' m) = absurd (m shows)
fault_once p b claim _ _ _ (open_there leaf signs shows e n) (open_there _ signs' shows' e' m) = refl

-- two first lines that fail are one
same_first : {X : Type 0} (P : X → Type 0) (xs ys : List X) (x y : X) (us vs : List X) → xs ++ x ∷ us ≡ ys ++ y ∷ vs
    → AllByRecursion P xs → AllByRecursion P ys → (P x → ⊥) → (P y → ⊥) → (length xs ≡ length ys) × (x ≡ y)
same_first P [] [] x y us vs e h g n m = (refl, cc)
same_first P [] (z ∷ ys) x y us vs e h g n m = let same : z ≡ x = cc in absurd (n (subst P same g.0))
same_first P (z ∷ xs) [] x y us vs e h g n m = let same : z ≡ y = cc in absurd (m (subst P same h.0))
same_first P (z ∷ xs) (w ∷ ys) x y us vs e h g n m =
    let tails : xs ++ x ∷ us ≡ ys ++ y ∷ vs = cc in
    let rest = same_first P xs ys x y us vs tails h.1 g.1 n m in
    (ap suc rest.0, rest.1)

judged_once : (p : Program) (d : Decomposition) (cert : Certificate) (number other : ℕ) (fault otherwise : CheckKind)
    → IsFirstFault p d cert number fault → IsFirstFault p d cert other otherwise → (number ≡ other) × (fault ≡ otherwise)
judged_once p d cert number other fault otherwise first second =
    let b : Blocking = blocking_with p d cert in
    let P : Line → Type 0 = Passes p b cert.claim in
    let same = same_first P first.before second.before first.line second.line first.after second.after
    (sym first.lines ∙ second.lines)
    (recursion_from_All P first.before first.passed) (recursion_from_All P second.before second.passed)
    (fault_fails p b cert.claim first.line fault first.has_fault)
    (fault_fails p b cert.claim second.line otherwise second.has_fault) in (
      omega (arith, first.numbered, second.numbered, same.0),
      fault_once p b cert.claim first.line fault otherwise first.has_fault
          (subst (λ line. HasFault p b cert.claim line otherwise) (sym same.1) second.has_fault),
    )

pub judged_lem : Judged
judged_lem = record { total = judged_total; not_both = judged_not_both; once = judged_once }
