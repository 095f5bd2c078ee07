-- A certificate of any cuts, rows and splits is valid or has a first fault.
use Rattle.std.proofs.Common.{◌≡◌, refl, sym, ap, subst, ◌∙◌, ℕ, suc, ◌+◌, ◌<◌, ◌≤◌, ◌^◌, Bool, true, false, List, [], ◌∷◌, ◌++◌, length, get_or, Option, Some, None, arith, inl, inr, ⊎_elim, append_assoc}
use Rattle.std.proofs.Math.IntN.{ℤ, pos, ◌-ℤ◌, ◌*ℤ◌}
use Rattle.std.specs.Prelude.{◌<ℤ◌, ◌⊎◌, All, IsTrue}
use Rattle.std.specs.List.{AllByRecursion}
use Rattle.std.proofs.lemmas.Bool.{cases_lt, cases_eq}
use Rattle.std.proofs.lemmas.Int.{ints, by_lt_z}
use Rattle.std.proofs.lemmas.List.Elements.{recursion_from_All, All-from_recursion, All-push, All-nil}
use Rattle.bp_theory.specs.Program.{Program, span_at, IsWithin, IsInside, MeetsRow, IsFeasible, value, in_sense, KeepsActivity, activity_limit}
use Rattle.bp_theory.specs.Blocking.{Blocking, row_at}
use Rattle.bp_theory.specs.Decomposition.{Decomposition, ProofRow, whole_row, link_row, no_row, proof_rows}
use Rattle.bp_theory.specs.Bound.{IsBound, SignFits, SignFitsSense, SignsFit}
use Rattle.bp_theory.specs.Cuts.{CombinesWell, IsFitting}
use Rattle.bp_theory.specs.Trees.{Leaf, low_part, high_part, IsSoundSplit, IsProper}
use Rattle.bp_theory.specs.Claims.{Holds, Empties, Shows, PointFits, MayBeOpen}
use Rattle.bp_theory.specs.Judgement.{named_value, HasItsPoint}
use Rattle.bp_theory.specs.declared.Span.{Span}
use Rattle.bp_theory.specs.declared.Term.{Term}
use Rattle.bp_theory.specs.declared.Sense.{Sense}
use Rattle.bp_theory.specs.declared.Sense.TheVariants.{Le, Ge, Eq, In}
use Rattle.bp_theory.specs.declared.Row.{Row}
use Rattle.bp_theory.specs.declared.MasterRow.{MasterRow}
use Rattle.bp_theory.specs.declared.Proof.{Proof}
use Rattle.bp_theory.specs.declared.Cut.{Cut}
use Rattle.bp_theory.specs.declared.Claim.{Claim}
use Rattle.bp_theory.specs.declared.Claim.TheVariants.{Optimal, Infeasible, Bound}
use Rattle.bp_theory.proofs.LeastLaws.{Decided, le_decided, both_decided, rows_decided}
use Rattle.bp_theory.proofs.ShrinkProof.{one_bound_lem}
use Rattle.bp_theory.proofs.ClassProof.{split_shrinks_lem}
use Rattle.search_laws.specs.Spread.{block_at}
use Rattle.stronger_laws.specs.WideRows.{wide_rows}
use Rattle.stronger_laws.specs.Mir.{HasOneSide, IsCombinable, row_of, full_remainder, remainder_of, IsLowered, IsFittingMir}
use Rattle.stronger_laws.specs.AllCuts.{any_row, any_rows, IsFittingAny, AreFittingAll}
use Rattle.stronger_laws.specs.Alike.{variables_of, is_among, home, siblings}
use Rattle.stronger_laws.specs.ClassTrees.{ClassTree, shut_leaf, open_leaf, split, class_split, class_low_part, class_leaves, IsSoundClassSplit, HasSoundNodes}
use Rattle.stronger_laws.specs.WideClaims.{WideCertificate, IsWideCertified}
use Rattle.stronger_laws.specs.WideJudgement.{Judge, WideLine, point_line, cut_line, split_line, class_line, leaf_line, Passes, priced_blocking, HasFault, outside, missed, other_value, rounding_sign, mir_row_kind, mir_divisor, priced_unknown, priced_sign, priced_weak, large_cut, unsound, class_unsound, no_class, leaf_sign, weak, open_there, wide_point_lines, wide_cut_lines, class_tree_lines, judge_of, wide_lines, IsFirstWideFault}
use Rattle.stronger_laws.specs.Laws.{WideJudged}
use Rattle.stronger_laws.specs.declared.MirCut.{MirCut}
use Rattle.stronger_laws.specs.declared.PricedCut.{PricedCut}
use Rattle.stronger_laws.specs.declared.AnyCut.{AnyCut}
use Rattle.stronger_laws.specs.declared.AnyCut.TheVariants.{Rounding, Mir, Priced}
use Rattle.stronger_laws.specs.declared.WideKind.{WideKind}
use Rattle.stronger_laws.specs.declared.WideKind.TheVariants as kinds
use Rattle.stronger_laws.proofs.MirProof.{join}
use Rattle.stronger_laws.proofs.WideProof.{left_part, right_part}
use Rattle.stronger_laws.proofs.ClassPartsProof.{class_parts_are_zones_lem}

-- ---- what a line must pass is decided

lt_decided : (a b : ℤ) → Decided (a <ℤ b)
lt_decided a b = by_lt_z a b (λ less. inl less) (λ more. inr (λ h. omega (arith, ints, more, h)))

all_decided : {X : Type 0} (P : X → Type 0) → ((x : X) → Decided (P x)) → (xs : List X) → Decided (All P xs)
all_decided {X} P each xs = ⊎_elim
    (λ h. inl (All-from_recursion P xs h))
    (λ n. inr (λ h. n (recursion_from_All P xs h)))
    (by xs)
  where
    by : (xs : List X) → Decided (AllByRecursion P xs)
    by [] = inl tt
    by (x ∷ xs) = both_decided (each x) (by xs)

inside_decided : (spans : List Span) (x : List ℤ) → Decided (IsInside spans x)
inside_decided [] [] = inl tt
inside_decided [] (v ∷ vs) = inr (λ h. h)
inside_decided (s ∷ ss) [] = inr (λ h. h)
inside_decided (s ∷ ss) (v ∷ vs) = both_decided (within s v) (inside_decided ss vs)
  where
    within : (s : Span) (v : ℤ) → Decided (IsWithin s v)
    within s v = ⊎_elim
        (λ h. inl (record { above = h.0; below = h.1 }))
        (λ n. inr (λ h. n (h.above, h.below)))
        (both_decided (le_decided s.lo v) (le_decided v s.hi))

sense_decided : (s : Sense) (p : ℤ) → Decided (SignFitsSense s p)
sense_decided Le p = lt_decided p (pos 0)
sense_decided Ge p = lt_decided (pos 0) p
sense_decided Eq p = inl tt
sense_decided In p = inl tt

sign_decided : (o : Option MasterRow) (p : ℤ) → Decided (SignFits o p)
sign_decided None p = inr (λ h. h)
sign_decided (Some r) p = sense_decided r.sense p

combines_decided : (row : ProofRow) (u : ℤ) → Decided (CombinesWell row u)
combines_decided (whole_row row) u = sense_decided row.sense u
combines_decided (link_row w k) u = inr (λ h. h)
combines_decided no_row u = inr (λ h. h)

fitting_decided : (rows : List ProofRow) (cut : Cut) → Decided (IsFitting rows cut)
fitting_decided rows cut = ⊎_elim
    (λ none. inr (λ h. omega (arith, h.divides, none)))
    (λ some. ⊎_elim
    (λ h. inl (record { divides = omega (arith, some); combines = h }))
    (λ n. inr (λ h. n h.combines))
    (all_decided (λ m. CombinesWell (get_or rows m.0 no_row) m.1) (λ m. combines_decided (get_or rows m.0 no_row) m.1) cut.rows))
    (cases_lt cut.q 1)

keeps_decided : (p : Program) (row : Row) → Decided (KeepsActivity p row)
keeps_decided p row = ⊎_elim
    (λ less. inl less)
    (λ more. inr (λ h. too_much (activity_limit p row) more h))
    (cases_lt (activity_limit p row) (2 ^ 62))
  where
    too_much : (n : ℕ) → 2 ^ 62 ≤ n → n < 2 ^ 62 → ⊥
    too_much n a b = omega arith

sound_decided : (zone : List Span) (v : ℕ) (at : ℤ) → Decided (IsSoundSplit zone v at)
sound_decided zone v at = ⊎_elim
    (λ h. inl (record { above = h.0; below = h.1 }))
    (λ n. inr (λ h. n (h.above, h.below)))
    (both_decided (le_decided (span_at zone v).lo at) (lt_decided at (span_at zone v).hi))

holds_decided : (b : Blocking) (zone : List Span) (proof : Proof) (z : ℤ) → IsProper zone → Decided (Holds b zone proof z)
holds_decided b zone proof z proper = ⊎_elim
    (λ endless. inl (inl endless))
    (λ found. ⊎_elim
    (λ more. inl (inr (found.0, found.1, more)))
    (λ n. inr (none found.0 found.1 n))
    (lt_decided (pos proof.scale *ℤ (z -ℤ pos 1)) found.0))
    (one_bound_lem.total b zone proof proper)
  where
    none : (v : ℤ) → IsBound b zone proof v → ((pos proof.scale *ℤ (z -ℤ pos 1)) <ℤ v → ⊥) → Holds b zone proof z → ⊥
    none v bound n (inl endless) = one_bound_lem.not_both b zone proof v endless bound
    none v bound n (inr other) =
        let same : other.0 ≡ v = one_bound_lem.one b zone proof other.0 v other.1 bound in
        n (subst (λ w. (pos proof.scale *ℤ (z -ℤ pos 1)) <ℤ w) same other.2)

empties_decided : (b : Blocking) (zone : List Span) (proof : Proof) → IsProper zone → Decided (Empties b zone proof)
empties_decided b zone proof proper = ⊎_elim
    (λ endless. inl (inl endless))
    (λ found. ⊎_elim
    (λ h. inl (inr (found.0, found.1, h.0, h.1)))
    (λ n. inr (none found.0 found.1 n))
    (both_decided (cases_eq proof.scale 0) (lt_decided (pos 0) found.0)))
    (one_bound_lem.total b zone proof proper)
  where
    none : (v : ℤ) → IsBound b zone proof v → ((proof.scale ≡ 0) × (pos 0 <ℤ v) → ⊥) → Empties b zone proof → ⊥
    none v bound n (inl endless) = one_bound_lem.not_both b zone proof v endless bound
    none v bound n (inr other) =
        let same : other.0 ≡ v = one_bound_lem.one b zone proof other.0 v other.1 bound in
        n (other.2, subst (λ w. pos 0 <ℤ w) same other.3)

shows_decided : (p : Program) (b : Blocking) (claim : Claim) (leaf : Leaf) → IsProper leaf.zone → Decided (Shows p b claim leaf)
shows_decided p b (Optimal v) leaf proper = holds_decided b leaf.zone leaf.proof (in_sense p.maximises v) proper
shows_decided p b Infeasible leaf proper = empties_decided b leaf.zone leaf.proof proper
shows_decided p b (Bound bound v) leaf proper = holds_decided b leaf.zone leaf.proof (in_sense p.maximises bound) proper

may_be_open_decided : (claim : Claim) → Decided (MayBeOpen claim)
may_be_open_decided (Optimal v) = inr (λ h. h)
may_be_open_decided Infeasible = inr (λ h. h)
may_be_open_decided (Bound bound v) = inl tt

-- ---- cuts, rows and splits of other kinds

natural_decided : (a b : ℕ) → Decided (a < b)
natural_decided a b = ⊎_elim (λ less. inl less) (λ more. inr (λ h. omega (arith, more, h))) (cases_lt a b)

equal_decided : (a c : ℤ) → Decided (a ≡ c)
equal_decided a c = by_lt_z a c
    (λ less. inr (λ e. omega (arith, ints, less, e)))
    (λ more. by_lt_z c a (λ less. inr (λ e. omega (arith, ints, less, e))) (λ most. inl (omega (arith, ints, more, most))))

one_side_decided : (s : Sense) (low rhs : ℤ) → Decided (HasOneSide s low rhs)
one_side_decided Le low rhs = inl tt
one_side_decided Ge low rhs = inl tt
one_side_decided Eq low rhs = equal_decided low rhs
one_side_decided In low rhs = inl tt

combinable_decided : (row : ProofRow) → Decided (IsCombinable row)
combinable_decided (whole_row row) = one_side_decided row.sense row.low row.rhs
combinable_decided (link_row w k) = inr (λ h. h)
combinable_decided no_row = inr (λ h. h)

lowered_decided : (o : Option ℕ) (full : ℕ) → Decided (IsLowered o full)
lowered_decided None full = inl tt
lowered_decided (Some r) full = natural_decided r full

mir_decided : (p : Program) (rows : List ProofRow) (cut : MirCut) → All (λ m. IsCombinable (row_of rows m)) cut.rows → Decided (IsFittingMir p rows cut)
mir_decided p rows cut combines = ⊎_elim
    (λ h. inl (record { divides = omega (arith, h.0); combines = combines; positive = h.1.0; lowered = h.1.1 }))
    (λ n. inr (λ h. n (omega (arith, h.divides), (h.positive, h.lowered))))
    (both_decided (natural_decided 1 cut.divisor)
    (both_decided (natural_decided 0 (remainder_of p rows cut)) (lowered_decided cut.lowered (full_remainder p rows cut))))

true_decided : (t : Bool) → Decided (IsTrue t)
true_decided true = inl refl
true_decided false = inr (λ h. absurd (cc))

class_decided : (b : Blocking) (zone : List Span) (v : ℕ) (at : ℤ) → IsSoundSplit zone v at → Decided (IsSoundClassSplit b zone v at)
class_decided b zone v at sound = ⊎_elim
    (λ h. inl (record { sound = sound; copied = h.0; several = omega (arith, h.1) }))
    (λ n. inr (λ h. n (h.copied, omega (arith, h.several))))
    (both_decided (true_decided (is_among v (variables_of (block_at b (home b v))))) (natural_decided 1 (length (siblings b zone v))))

-- ---- a line passes or has a fault

abbrev pub Verdict : Judge → WideLine → Type 0
Verdict j line = Passes j line ⊎ ((fault : WideKind) × HasFault j line fault)

point_verdict : (j : Judge) (v : ℤ) (x : List ℤ) → Verdict j (point_line v x)
point_verdict j v x = ⊎_elim
    (λ inside. ⊎_elim
    (λ met. let feasible : IsFeasible j.program x = record { inside = inside; rows = met } in
    ⊎_elim
    (λ same. inl (record { feasible = feasible; has_value = same }))
    (λ other. inr (kinds.Value, other_value v x feasible other))
    (equal_decided (value j.program x) v))
    (λ n. inr (kinds.PointRow, missed v x inside n))
    (⊎_elim
    (λ h. inl (All-from_recursion (MeetsRow x) j.program.rows h))
    (λ n. inr (λ h. n (recursion_from_All (MeetsRow x) j.program.rows h)))
    (rows_decided x j.program.rows)))
    (λ n. inr (kinds.PointBound, outside v x n))
    (inside_decided j.program.spans x)

-- a cut that fits keeps the limit or is too large
size_verdict : (j : Judge) (earlier : List Row) (cut : AnyCut) → IsFittingAny j.program j.decomposition earlier cut → Verdict j (cut_line earlier cut)
size_verdict j earlier cut fits = ⊎_elim
    (λ keeps. inl (fits, keeps))
    (λ n. inr (kinds.Cut, large_cut earlier cut fits n))
    (keeps_decided j.program (any_row j.program j.decomposition earlier cut))

priced_verdict : (j : Judge) (earlier : List Row) (cut : PricedCut) → IsProper j.program.spans → Verdict j (cut_line earlier (Priced cut))
priced_verdict j earlier cut proper =
    let b : Blocking = priced_blocking j earlier cut in
    ⊎_elim
    (λ known. ⊎_elim
    (λ signs. ⊎_elim
    (λ shown. size_verdict j earlier (Priced cut) (record { known = known; signs = signs; reached = shown }))
    (λ n. inr (kinds.Weak, priced_weak earlier cut known signs n))
    (holds_decided b j.program.spans cut.proof cut.low proper))
    (λ n. inr (kinds.Sign, priced_sign earlier cut known n))
    (all_decided (λ m. SignFits (row_at b m.0) m.1) (λ m. sign_decided (row_at b m.0) m.1) cut.proof.mults))
    (λ n. inr (kinds.Cut, priced_unknown earlier cut n))
    (all_decided (λ (t : Term). t.var < length j.program.spans) (λ t. natural_decided t.var (length j.program.spans)) cut.objective)

cut_verdict : (j : Judge) (earlier : List Row) (cut : AnyCut) → IsProper j.program.spans → Verdict j (cut_line earlier cut)
cut_verdict j earlier (Rounding cut) proper = ⊎_elim
    (λ fits. size_verdict j earlier (Rounding cut) fits)
    (λ n. inr (kinds.Sign, rounding_sign earlier cut n))
    (fitting_decided (proof_rows j.program j.decomposition earlier) cut)
cut_verdict j earlier (Mir cut) proper =
    let rows : List ProofRow = wide_rows j.program j.decomposition earlier in
    ⊎_elim
    (λ combines. ⊎_elim
    (λ fits. size_verdict j earlier (Mir cut) fits)
    (λ n. inr (kinds.Divisor, mir_divisor earlier cut combines n))
    (mir_decided j.program rows cut combines))
    (λ n. inr (kinds.Sign, mir_row_kind earlier cut n))
    (all_decided (λ m. IsCombinable (row_of rows m)) (λ m. combinable_decided (row_of rows m)) cut.rows)
cut_verdict j earlier (Priced cut) proper = priced_verdict j earlier cut proper

leaf_verdict : (j : Judge) (leaf : Leaf) → IsProper leaf.zone → Verdict j (leaf_line leaf)
leaf_verdict j leaf proper = ⊎_elim
    (λ signs. ⊎_elim
    (λ shows. by leaf.is_open refl signs shows)
    (λ n. inr (kinds.Weak, weak leaf signs n))
    (shows_decided j.program j.blocking j.claim leaf proper))
    (λ n. inr (kinds.Sign, leaf_sign leaf n))
    (all_decided (λ m. SignFits (row_at j.blocking m.0) m.1) (λ m. sign_decided (row_at j.blocking m.0) m.1) leaf.proof.mults)
  where
    by : (t : Bool) → leaf.is_open ≡ t → SignsFit j.blocking leaf.proof → Shows j.program j.blocking j.claim leaf → Verdict j (leaf_line leaf)
    by false e signs shows = inl (signs, shows, λ h. absurd (cc))
    by true e signs shows = ⊎_elim
        (λ may. inl (signs, shows, λ h. may))
        (λ n. inr (kinds.Open, open_there leaf signs shows e n))
        (may_be_open_decided j.claim)

-- ---- lists of lines

-- all lines pass, or some is the first with a fault
abbrev pub Scan : Judge → List WideLine → Type 0
Scan j lines =
    AllByRecursion (Passes j) lines
    ⊎ ((fault : WideKind) × (before : List WideLine) × (line : WideLine) × (after : List WideLine)
    × (lines ≡ before ++ line ∷ after) × AllByRecursion (Passes j) before × HasFault j line fault)

scan_one : (j : Judge) (line : WideLine) → Verdict j line → Scan j (line ∷ [])
scan_one j line (inl passes) = inl (passes, tt)
scan_one j line (inr found) = inr (found.0, [], line, [], refl, tt, found.1)

scan_append : (j : Judge) (xs ys : List WideLine) → Scan j xs → Scan j ys → Scan j (xs ++ ys)
scan_append j xs ys (inl h) (inl g) = inl (join (Passes j) xs ys h g)
scan_append j xs ys (inl h) (inr found) =
    inr (
      found.0,
      xs ++ found.1,
      found.2,
      found.3,
      ap (λ zs. xs ++ zs) found.4 ∙ sym (append_assoc xs found.1 (found.2 ∷ found.3)),
      join (Passes j) xs found.1 h found.5,
      found.6,
    )
scan_append j xs ys (inr found) rest =
    inr (
      found.0,
      found.1,
      found.2,
      found.3 ++ ys,
      ap (λ zs. zs ++ ys) found.4 ∙ append_assoc found.1 (found.2 ∷ found.3) ys,
      found.5,
      found.6,
    )

scan_point : (j : Judge) (named : Option ℤ) (point : Option (List ℤ)) → Scan j (wide_point_lines named point)
scan_point j None point = inl tt
scan_point j (Some v) None = inl tt
scan_point j (Some v) (Some x) = scan_one j (point_line v x) (point_verdict j v x)

scan_cuts : (j : Judge) (earlier : List Row) (cuts : List AnyCut) → IsProper j.program.spans
    → Scan j (wide_cut_lines j.program j.decomposition earlier cuts)
scan_cuts j earlier [] proper = inl tt
scan_cuts j earlier (cut ∷ cuts) proper =
    let later : List Row = earlier ++ any_row j.program j.decomposition earlier cut ∷ [] in
    scan_append j (cut_line earlier cut ∷ []) (wide_cut_lines j.program j.decomposition later cuts)
    (scan_one j (cut_line earlier cut) (cut_verdict j earlier cut proper))
    (scan_cuts j later cuts proper)

scan_tree : (j : Judge) (t : ClassTree) (zone : List Span) → IsProper zone → Scan j (class_tree_lines j.classes t zone)
scan_tree j (shut_leaf proof) zone proper =
    let leaf : Leaf = record { zone = zone; proof = proof; is_open = false } in
    scan_one j (leaf_line leaf) (leaf_verdict j leaf proper)
scan_tree j (open_leaf proof) zone proper =
    let leaf : Leaf = record { zone = zone; proof = proof; is_open = true } in
    scan_one j (leaf_line leaf) (leaf_verdict j leaf proper)
scan_tree j (split v at low high) zone proper =
    let first : List WideLine = class_tree_lines j.classes low (low_part zone v at) in
    let second : List WideLine = class_tree_lines j.classes high (high_part zone v at) in
    ⊎_elim
    (λ sound. scan_append j (split_line zone v at ∷ []) (first ++ second)
    (inl (sound, tt))
    (scan_append j first second
    (scan_tree j low (low_part zone v at) (split_shrinks_lem.low zone v at sound proper).0)
    (scan_tree j high (high_part zone v at) (split_shrinks_lem.high zone v at sound proper).0)))
    (λ n. inr (kinds.Split, [], split_line zone v at, first ++ second, refl, tt, unsound zone v at n))
    (sound_decided zone v at)
scan_tree j (class_split v at low high) zone proper =
    let first : List WideLine = class_tree_lines j.classes low (class_low_part j.classes zone v at) in
    let second : List WideLine = class_tree_lines j.classes high (high_part zone v at) in
    ⊎_elim
    (λ plain. ⊎_elim
    (λ sound. scan_append j (class_line zone v at ∷ []) (first ++ second)
    (inl (sound, tt))
    (scan_append j first second
    (scan_tree j low (class_low_part j.classes zone v at) (class_parts_are_zones_lem.low j.classes zone v at sound proper).0)
    (scan_tree j high (high_part zone v at) (split_shrinks_lem.high zone v at plain proper).0)))
    (λ n. inr (kinds.Class, [], class_line zone v at, first ++ second, refl, tt, no_class zone v at plain n))
    (class_decided j.classes zone v at plain))
    (λ n. inr (kinds.Split, [], class_line zone v at, first ++ second, refl, tt, class_unsound zone v at n))
    (sound_decided zone v at)

-- ---- lines that pass, and valid certificates

-- what the leaves pass
abbrev pub LeafPasses : Judge → Leaf → Type 0
LeafPasses j leaf = SignsFit j.blocking leaf.proof × Shows j.program j.blocking j.claim leaf × (IsTrue leaf.is_open → MayBeOpen j.claim)

-- the two parts of a split
both_from_lines : (j : Judge) (first second : List WideLine) (ls ms : List Leaf)
    → (AllByRecursion (Passes j) first → AllByRecursion (LeafPasses j) ls) → (AllByRecursion (Passes j) second → AllByRecursion (LeafPasses j) ms)
    → AllByRecursion (Passes j) (first ++ second) → AllByRecursion (LeafPasses j) (ls ++ ms)
both_from_lines j first second ls ms f g h = join (LeafPasses j) ls ms (f (left_part (Passes j) first second h)) (g (right_part (Passes j) first second h))

leaves_from_lines : (j : Judge) (t : ClassTree) (zone : List Span) → AllByRecursion (Passes j) (class_tree_lines j.classes t zone)
    → AllByRecursion (LeafPasses j) (class_leaves j.classes t zone)
leaves_from_lines j (shut_leaf proof) zone h = h
leaves_from_lines j (open_leaf proof) zone h = h
leaves_from_lines j (split v at low high) zone h =
    both_from_lines j (class_tree_lines j.classes low (low_part zone v at)) (class_tree_lines j.classes high (high_part zone v at))
    (class_leaves j.classes low (low_part zone v at)) (class_leaves j.classes high (high_part zone v at))
    (leaves_from_lines j low (low_part zone v at)) (leaves_from_lines j high (high_part zone v at)) h.1
leaves_from_lines j (class_split v at low high) zone h =
    both_from_lines j (class_tree_lines j.classes low (class_low_part j.classes zone v at)) (class_tree_lines j.classes high (high_part zone v at))
    (class_leaves j.classes low (class_low_part j.classes zone v at)) (class_leaves j.classes high (high_part zone v at))
    (leaves_from_lines j low (class_low_part j.classes zone v at)) (leaves_from_lines j high (high_part zone v at)) h.1

nodes_from_lines : (j : Judge) (t : ClassTree) (zone : List Span) → AllByRecursion (Passes j) (class_tree_lines j.classes t zone)
    → HasSoundNodes j.classes t zone
nodes_from_lines j (shut_leaf proof) zone h = tt
nodes_from_lines j (open_leaf proof) zone h = tt
nodes_from_lines j (split v at low high) zone h =
    let first : List WideLine = class_tree_lines j.classes low (low_part zone v at) in
    let second : List WideLine = class_tree_lines j.classes high (high_part zone v at) in (
      h.0,
      nodes_from_lines j low (low_part zone v at) (left_part (Passes j) first second h.1),
      nodes_from_lines j high (high_part zone v at) (right_part (Passes j) first second h.1),
    )
nodes_from_lines j (class_split v at low high) zone h =
    let first : List WideLine = class_tree_lines j.classes low (class_low_part j.classes zone v at) in
    let second : List WideLine = class_tree_lines j.classes high (high_part zone v at) in (
      h.0,
      nodes_from_lines j low (class_low_part j.classes zone v at) (left_part (Passes j) first second h.1),
      nodes_from_lines j high (high_part zone v at) (right_part (Passes j) first second h.1),
    )

lines_from_tree : (j : Judge) (t : ClassTree) (zone : List Span) → HasSoundNodes j.classes t zone
    → AllByRecursion (LeafPasses j) (class_leaves j.classes t zone) → AllByRecursion (Passes j) (class_tree_lines j.classes t zone)
lines_from_tree j (shut_leaf proof) zone sound h = h
lines_from_tree j (open_leaf proof) zone sound h = h
lines_from_tree j (split v at low high) zone sound h =
    let ls : List Leaf = class_leaves j.classes low (low_part zone v at) in
    let ms : List Leaf = class_leaves j.classes high (high_part zone v at) in (
      sound.0,
      join (Passes j) (class_tree_lines j.classes low (low_part zone v at)) (class_tree_lines j.classes high (high_part zone v at))
          (lines_from_tree j low (low_part zone v at) sound.1 (left_part (LeafPasses j) ls ms h))
          (lines_from_tree j high (high_part zone v at) sound.2 (right_part (LeafPasses j) ls ms h)),
    )
lines_from_tree j (class_split v at low high) zone sound h =
    let ls : List Leaf = class_leaves j.classes low (class_low_part j.classes zone v at) in
    let ms : List Leaf = class_leaves j.classes high (high_part zone v at) in (
      sound.0,
      join (Passes j) (class_tree_lines j.classes low (class_low_part j.classes zone v at)) (class_tree_lines j.classes high (high_part zone v at))
          (lines_from_tree j low (class_low_part j.classes zone v at) sound.1 (left_part (LeafPasses j) ls ms h))
          (lines_from_tree j high (high_part zone v at) sound.2 (right_part (LeafPasses j) ls ms h)),
    )

cuts_from_lines : (j : Judge) (earlier : List Row) (cuts : List AnyCut)
    → AllByRecursion (Passes j) (wide_cut_lines j.program j.decomposition earlier cuts) → All (KeepsActivity j.program) earlier
    → AreFittingAll j.program j.decomposition earlier cuts × All (KeepsActivity j.program) (any_rows j.program j.decomposition earlier cuts)
cuts_from_lines j earlier [] h keeps = (tt, keeps)
cuts_from_lines j earlier (cut ∷ cuts) h keeps =
    let row : Row = any_row j.program j.decomposition earlier cut in
    let rest = cuts_from_lines j (earlier ++ row ∷ []) cuts h.1 (All-push (KeepsActivity j.program) earlier row keeps h.0.1) in
    ((h.0.0, rest.0), rest.1)

-- the earlier rows stay among the rows of cuts
earlier_keep : (p : Program) (d : Decomposition) (earlier : List Row) (cuts : List AnyCut)
    → AllByRecursion (KeepsActivity p) (any_rows p d earlier cuts) → AllByRecursion (KeepsActivity p) earlier
earlier_keep p d earlier [] h = h
earlier_keep p d earlier (cut ∷ cuts) h =
    let row : Row = any_row p d earlier cut in
    left_part (KeepsActivity p) earlier (row ∷ []) (earlier_keep p d (earlier ++ row ∷ []) cuts h)

lines_from_cuts : (j : Judge) (earlier : List Row) (cuts : List AnyCut) → AreFittingAll j.program j.decomposition earlier cuts
    → AllByRecursion (KeepsActivity j.program) (any_rows j.program j.decomposition earlier cuts)
    → AllByRecursion (Passes j) (wide_cut_lines j.program j.decomposition earlier cuts)
lines_from_cuts j earlier [] fits keeps = tt
lines_from_cuts j earlier (cut ∷ cuts) fits keeps =
    let row : Row = any_row j.program j.decomposition earlier cut in
    let here = right_part (KeepsActivity j.program) earlier (row ∷ []) (earlier_keep j.program j.decomposition (earlier ++ row ∷ []) cuts keeps) in
    ((fits.0, here.0), lines_from_cuts j (earlier ++ row ∷ []) cuts fits.1 keeps)

point_from_lines : (p : Program) (d : Decomposition) (classes b : Blocking) (claim : Claim) (point : Option (List ℤ)) → HasItsPoint (named_value claim) point
    → AllByRecursion (Passes (record { program = p; decomposition = d; classes = classes; blocking = b; claim = claim })) (wide_point_lines (named_value claim) point)
    → PointFits p claim point
point_from_lines p d classes b (Optimal v) None has h = absurd has
point_from_lines p d classes b (Optimal v) (Some x) has h = h.0
point_from_lines p d classes b Infeasible None has h = tt
point_from_lines p d classes b Infeasible (Some x) has h = absurd has
point_from_lines p d classes b (Bound bound None) None has h = tt
point_from_lines p d classes b (Bound bound None) (Some x) has h = absurd has
point_from_lines p d classes b (Bound bound (Some v)) None has h = absurd has
point_from_lines p d classes b (Bound bound (Some v)) (Some x) has h = h.0

lines_from_point : (p : Program) (d : Decomposition) (classes b : Blocking) (claim : Claim) (point : Option (List ℤ)) → PointFits p claim point
    → AllByRecursion (Passes (record { program = p; decomposition = d; classes = classes; blocking = b; claim = claim })) (wide_point_lines (named_value claim) point)
lines_from_point p d classes b (Optimal v) None fits = absurd fits
lines_from_point p d classes b (Optimal v) (Some x) fits = (fits, tt)
lines_from_point p d classes b Infeasible point fits = tt
lines_from_point p d classes b (Bound bound None) point fits = tt
lines_from_point p d classes b (Bound bound (Some v)) None fits = absurd fits
lines_from_point p d classes b (Bound bound (Some v)) (Some x) fits = (fits, tt)

-- where all lines pass the certificate is valid
certified_from_lines : (p : Program) (d : Decomposition) (cert : WideCertificate) → HasItsPoint (named_value cert.claim) cert.point
    → AllByRecursion (Passes (judge_of p d cert)) (wide_lines p d cert) → IsWideCertified p d cert
certified_from_lines p d cert has h =
    let j : Judge = judge_of p d cert in
    let points : List WideLine = wide_point_lines (named_value cert.claim) cert.point in
    let cuts : List WideLine = wide_cut_lines p d [] cert.cuts in
    let nodes : List WideLine = class_tree_lines j.classes cert.tree p.spans in
    let first = left_part (Passes j) (points ++ cuts) nodes h in
    let last = right_part (Passes j) (points ++ cuts) nodes h in
    let c = cuts_from_lines j [] cert.cuts (right_part (Passes j) points cuts first) (All-nil (KeepsActivity p)) in
    let all : All (LeafPasses j) (class_leaves j.classes cert.tree p.spans) =
    All-from_recursion (LeafPasses j) (class_leaves j.classes cert.tree p.spans) (leaves_from_lines j cert.tree p.spans last) in
    record {
      fitting = c.0;
      bounded = c.1;
      valid = record {
        point = point_from_lines p d j.classes j.blocking cert.claim cert.point has (left_part (Passes j) points cuts first);
        splits = nodes_from_lines j cert.tree p.spans last;
        signs = λ k l m. (all k l m).0;
        shown = λ k l m. (all k l m).1;
        shut = λ k l m. (all k l m).2;
      };
    }

-- in a valid certificate all lines pass
lines_from_certified : (p : Program) (d : Decomposition) (cert : WideCertificate) → IsWideCertified p d cert
    → AllByRecursion (Passes (judge_of p d cert)) (wide_lines p d cert)
lines_from_certified p d cert h =
    let j : Judge = judge_of p d cert in
    let points : List WideLine = wide_point_lines (named_value cert.claim) cert.point in
    let cuts : List WideLine = wide_cut_lines p d [] cert.cuts in
    join (Passes j) (points ++ cuts) (class_tree_lines j.classes cert.tree p.spans)
    (join (Passes j) points cuts
    (lines_from_point p d j.classes j.blocking cert.claim cert.point h.valid.point)
    (lines_from_cuts j [] cert.cuts h.fitting (recursion_from_All (KeepsActivity p) (any_rows p d [] cert.cuts) h.bounded)))
    (lines_from_tree j cert.tree p.spans h.valid.splits
    (recursion_from_All (LeafPasses j) (class_leaves j.classes cert.tree p.spans)
    (λ k l m. (h.valid.signs k l m, h.valid.shown k l m, h.valid.shut k l m))))

-- a line with a fault doesn't pass
fault_fails : (j : Judge) (line : WideLine) (fault : WideKind) → HasFault j line fault → Passes j line → ⊥
fault_fails j line fault (outside v x n) h = n h.feasible.inside
fault_fails j line fault (missed v x inside n) h = n h.feasible.rows
fault_fails j line fault (other_value v x feasible n) h = n h.has_value
fault_fails j line fault (rounding_sign earlier cut n) h = n h.0
fault_fails j line fault (mir_row_kind earlier cut n) h = n h.0.combines
fault_fails j line fault (mir_divisor earlier cut combines n) h = n h.0
fault_fails j line fault (priced_unknown earlier cut n) h = n h.0.known
fault_fails j line fault (priced_sign earlier cut known n) h = n h.0.signs
fault_fails j line fault (priced_weak earlier cut known signs n) h = n h.0.reached
fault_fails j line fault (large_cut earlier cut fits n) h = n h.1
fault_fails j line fault (unsound zone v at n) h = n h
fault_fails j line fault (class_unsound zone v at n) h = n h.sound
fault_fails j line fault (no_class zone v at plain n) h = n h
fault_fails j line fault (leaf_sign leaf n) h = n h.0
fault_fails j line fault (weak leaf signs n) h = n h.1
fault_fails j line fault (open_there leaf signs shows e n) h = n (h.2 e)

judged_total : (p : Program) (d : Decomposition) (cert : WideCertificate) → IsProper p.spans → HasItsPoint (named_value cert.claim) cert.point
    → IsWideCertified p d cert ⊎ ((number : ℕ) × (fault : WideKind) × IsFirstWideFault p d cert number fault)
judged_total p d cert proper has =
    let j : Judge = judge_of p d cert in
    let points : List WideLine = wide_point_lines (named_value cert.claim) cert.point in
    let cuts : List WideLine = wide_cut_lines p d [] cert.cuts in
    ⊎_elim
    (λ all. inl (certified_from_lines p d cert has all))
    (λ found. inr (
      3 + length found.1,
      found.0,
      record {
        before = found.1;
        line = found.2;
        after = found.3;
        lines = found.4;
        passed = All-from_recursion (Passes j) found.1 found.5;
        has_fault = found.6;
        numbered = refl;
      },
    ))
    (scan_append j (points ++ cuts) (class_tree_lines j.classes cert.tree p.spans)
    (scan_append j points cuts
    (scan_point j (named_value cert.claim) cert.point)
    (scan_cuts j [] cert.cuts proper))
    (scan_tree j cert.tree p.spans proper))

judged_not_both : (p : Program) (d : Decomposition) (cert : WideCertificate) (number : ℕ) (fault : WideKind)
    → IsWideCertified p d cert → IsFirstWideFault p d cert number fault → ⊥
judged_not_both p d cert number fault certified first =
    let j : Judge = judge_of p d cert in
    let all = subst (AllByRecursion (Passes j)) first.lines (lines_from_certified p d cert certified) in
    fault_fails j first.line fault first.has_fault (right_part (Passes j) first.before (first.line ∷ first.after) all).0

-- a line has one fault
fault_once : (j : Judge) (line : WideLine) (f g : WideKind) → HasFault j line f → HasFault j line g → f ≡ g
fault_once j _ _ _ (outside v x n) (outside _ _ m) = refl
fault_once j _ _ _ (outside v x n) (missed _ _ inside m) = absurd (n inside)
fault_once j _ _ _ (outside v x n) (other_value _ _ feasible m) = absurd (n feasible.inside)
fault_once j _ _ _ (missed v x inside n) (outside _ _ m) = absurd (m inside)
fault_once j _ _ _ (missed v x inside n) (missed _ _ inside' m) = refl
fault_once j _ _ _ (missed v x inside n) (other_value _ _ feasible m) = absurd (n feasible.rows)
fault_once j _ _ _ (other_value v x feasible n) (outside _ _ m) = absurd (m feasible.inside)
fault_once j _ _ _ (other_value v x feasible n) (missed _ _ inside m) = absurd (m feasible.rows)
fault_once j _ _ _ (other_value v x feasible n) (other_value _ _ feasible' m) = refl
fault_once j _ _ _ (rounding_sign earlier cut n) (rounding_sign _ _ m) = refl
fault_once j _ _ _ (rounding_sign earlier cut n) (large_cut _ _ fits m) = absurd (n fits)
fault_once j _ _ _ (mir_row_kind earlier cut n) (mir_row_kind _ _ m) = refl
fault_once j _ _ _ (mir_row_kind earlier cut n) (mir_divisor _ _ combines m) = absurd (n combines)
fault_once j _ _ _ (mir_row_kind earlier cut n) (large_cut _ _ fits m) = absurd (n fits.combines)
fault_once j _ _ _ (mir_divisor earlier cut combines n) (mir_row_kind _ _ m) = absurd (m combines)
fault_once j _ _ _ (mir_divisor earlier cut combines n) (mir_divisor _ _ combines' m) = refl
fault_once j _ _ _ (mir_divisor earlier cut combines n) (large_cut _ _ fits m) = absurd (n fits)
fault_once j _ _ _ (priced_unknown earlier cut n) (priced_unknown _ _ m) = refl
fault_once j _ _ _ (priced_unknown earlier cut n) (priced_sign _ _ known m) = absurd (n known)
fault_once j _ _ _ (priced_unknown earlier cut n) (priced_weak _ _ known signs m) = absurd (n known)
fault_once j _ _ _ (priced_unknown earlier cut n) (large_cut _ _ fits m) = refl
fault_once j _ _ _ (priced_sign earlier cut known n) (priced_unknown _ _ m) = absurd (m known)
fault_once j _ _ _ (priced_sign earlier cut known n) (priced_sign _ _ known' m) = refl
fault_once j _ _ _ (priced_sign earlier cut known n) (priced_weak _ _ known' signs m) = absurd (n signs)
fault_once j _ _ _ (priced_sign earlier cut known n) (large_cut _ _ fits m) = absurd (n fits.signs)
fault_once j _ _ _ (priced_weak earlier cut known signs n) (priced_unknown _ _ m) = absurd (m known)
fault_once j _ _ _ (priced_weak earlier cut known signs n) (priced_sign _ _ known' m) = absurd (m signs)
fault_once j _ _ _ (priced_weak earlier cut known signs n) (priced_weak _ _ known' signs' m) = refl
fault_once j _ _ _ (priced_weak earlier cut known signs n) (large_cut _ _ fits m) = absurd (n fits.reached)
fault_once j _ _ _ (large_cut earlier _ fits n) (rounding_sign _ cut m) = absurd (m fits)
fault_once j _ _ _ (large_cut earlier _ fits n) (mir_row_kind _ cut m) = absurd (m fits.combines)
fault_once j _ _ _ (large_cut earlier _ fits n) (mir_divisor _ cut combines m) = absurd (m fits)
fault_once j _ _ _ (large_cut earlier _ fits n) (priced_unknown _ cut m) = refl
fault_once j _ _ _ (large_cut earlier _ fits n) (priced_sign _ cut known m) = absurd (m fits.signs)
fault_once j _ _ _ (large_cut earlier _ fits n) (priced_weak _ cut known signs m) = absurd (m fits.reached)
fault_once j _ _ _ (large_cut earlier cut fits n) (large_cut _ _ fits' m) = refl
fault_once j _ _ _ (unsound zone v at n) (unsound _ _ _ m) = refl
fault_once j _ _ _ (class_unsound zone v at n) (class_unsound _ _ _ m) = refl
fault_once j _ _ _ (class_unsound zone v at n) (no_class _ _ _ plain m) = absurd (n plain)
fault_once j _ _ _ (no_class zone v at plain n) (class_unsound _ _ _ m) = absurd (m plain)
fault_once j _ _ _ (no_class zone v at plain n) (no_class _ _ _ plain' m) = refl
fault_once j _ _ _ (leaf_sign leaf n) (leaf_sign _ m) = refl
fault_once j _ _ _ (leaf_sign leaf n) (weak _ signs m) = absurd (n signs)
fault_once j _ _ _ (leaf_sign leaf n) (open_there _ signs shows e m) = absurd (n signs)
fault_once j _ _ _ (weak leaf signs n) (leaf_sign _ m) = absurd (m signs)
fault_once j _ _ _ (weak leaf signs n) (weak _ signs' m) = refl
fault_once j _ _ _ (weak leaf signs n) (open_there _ signs' shows e m) = absurd (n shows)
fault_once j _ _ _ (open_there leaf signs shows e n) (leaf_sign _ m) = absurd (m signs)
fault_once j _ _ _ (open_there leaf signs shows e n) (weak _ signs' m) = absurd (m shows)
fault_once j _ _ _ (open_there leaf signs shows e n) (open_there _ signs' shows' e' m) = refl

-- two first lines that fail are one
same_first : {X : Type 0} (P : X → Type 0) (xs ys : List X) (x y : X) (us vs : List X) → xs ++ x ∷ us ≡ ys ++ y ∷ vs
    → AllByRecursion P xs → AllByRecursion P ys → (P x → ⊥) → (P y → ⊥) → (length xs ≡ length ys) × (x ≡ y)
same_first P [] [] x y us vs e h g n m = (refl, cc)
same_first P [] (z ∷ ys) x y us vs e h g n m = let same : z ≡ x = cc in absurd (n (subst P same g.0))
same_first P (z ∷ xs) [] x y us vs e h g n m = let same : z ≡ y = cc in absurd (m (subst P same h.0))
same_first P (z ∷ xs) (w ∷ ys) x y us vs e h g n m =
    let tails : xs ++ x ∷ us ≡ ys ++ y ∷ vs = cc in
    let rest = same_first P xs ys x y us vs tails h.1 g.1 n m in
    (ap suc rest.0, rest.1)

judged_once : (p : Program) (d : Decomposition) (cert : WideCertificate) (number other : ℕ) (fault otherwise : WideKind)
    → IsFirstWideFault p d cert number fault → IsFirstWideFault p d cert other otherwise → (number ≡ other) × (fault ≡ otherwise)
judged_once p d cert number other fault otherwise first second =
    let j : Judge = judge_of p d cert in
    let P : WideLine → Type 0 = Passes j in
    let same = same_first P first.before second.before first.line second.line first.after second.after
    (sym first.lines ∙ second.lines)
    (recursion_from_All P first.before first.passed) (recursion_from_All P second.before second.passed)
    (fault_fails j first.line fault first.has_fault)
    (fault_fails j second.line otherwise second.has_fault) in (
      omega (arith, first.numbered, second.numbered, same.0),
      fault_once j first.line fault otherwise first.has_fault
          (subst (λ line. HasFault j line otherwise) (sym same.1) second.has_fault),
    )

pub wide_judged_lem : WideJudged
wide_judged_lem = record { total = judged_total; not_both = judged_not_both; once = judged_once }
