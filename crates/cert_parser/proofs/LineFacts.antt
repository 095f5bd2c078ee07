-- The depths of the next node and of the high parts still to come, and the multipliers, behind a line.
use Rattle.std.proofs.Common.{◌≡◌, ℕ, suc, ◌+◌, ◌-◌, ◌^◌, ◌<◌, ◌≤◌, List, [], ◌∷◌, ◌++◌, length, take, min, map, Option, Some, None, Result, Ok, Err, ℤ, pos, nat_le, Bool, refl, sym, ap, ◌∙◌, subst, arith, length-append}
use Rattle.std.specs.Prelude.{IfOk, MatchResult}
use Rattle.std.specs.declared.alloc.AllocError.{AllocError}
use Rattle.std.proofs.lemmas.List.{map-append}
use Rattle.bp_theory.specs.Limits.{greatest_divisor, greatest_multiplier, most_cuts}
use Rattle.bp_theory.specs.declared.Picked.{Picked}
use Rattle.cert_format.specs.Cert as texts
use Rattle.cert_format.specs.Cert.{Claim, Cut, Proof, Tree, Split, multiplier, changed}
use Rattle.cert_format.specs.Spots.{spot_behind_claim}
use Rattle.cert_format.specs.Text.{Kind, divisor_fault, kept}
use Rattle.cert_format.specs.Written.{in_text, written_claim, written_pair, written_picked, written_proof}
use Rattle.cert_format.specs.Versions.{version_of, had_behind, changed_fault}
use Rattle.cert_format.specs.Stages.{of_leaf, of_cut, Wait, low_of, high_of, Told, Stage, leaf_of, begin, behind, behind_leaf, at_first_cut, at_node, at_rows, at_pairs, at_end, is_deep_stage, number_fault, behind_number}
use Rattle.cert_parser.specs.Readers.{HasHighs, KeepsHighs, kept_depth, highs_of, waits_behind, root_behind, waits_after, cuts_after, cutting, told_of, place_of, stage_of, count_behind, IsCount, slack, IsBehind}
use Rattle.cert_parser.specs.declared.lines.Event.{Event}
use Rattle.cert_parser.specs.declared.lines.Lines.{Lines}
use Rattle.cert_format.specs.declared.spots.Spot.{Spot}
use Rattle.cert_format.specs.declared.spots.Spot.TheVariants as s
use Rattle.cert_format.specs.declared.version.Version.{Version}
use Rattle.cert_format.specs.declared.version.Version.TheVariants.{One, Two, Three}
use Rattle.cert_format.proofs.Putting.{changed-written}

-- two lists with the same last element
last_alike : (xs ys : List ℕ) (x y : ℕ) → xs ++ x ∷ [] ≡ ys ++ y ∷ [] → (xs ≡ ys) × (x ≡ y)
last_alike [] [] x y same = (refl, cc)
last_alike [] (b ∷ []) x y same = absurd (cc)
last_alike [] (b ∷ c ∷ ys) x y same = absurd (cc)
last_alike (a ∷ []) [] x y same = absurd (cc)
last_alike (a ∷ c ∷ xs) [] x y same = absurd (cc)
last_alike (a ∷ xs) (b ∷ ys) x y same =
    let heads : a ≡ b = cc in
    let tails : xs ++ x ∷ [] ≡ ys ++ y ∷ [] = cc in
    let rest = last_alike xs ys x y tails in
    (ap (λ (k : ℕ). k ∷ xs) heads ∙ ap (λ (zs : List ℕ). b ∷ zs) rest.0, rest.1)

not_empty : (xs : List ℕ) (x : ℕ) → [] ≡ xs ++ x ∷ [] → ⊥
not_empty [] x same = cc
not_empty (a ∷ xs) x same = cc

-- where a high part is still to come, a node follows a whole tree
pub node_behind : (a : Told) (above : List Wait) (t : Tree) (hs : List ℕ) (d : ℕ) → highs_of above ≡ hs ++ d ∷ [] → at_node a (waits_behind above t) ≡ behind a above t
node_behind a [] t hs d some = absurd (not_empty hs d some)
node_behind a (low_of i z ∷ ws) t hs d some = refl
node_behind a (high_of i z low ∷ ws) t hs d some = node_behind a ws (Split i z low t) hs d some

-- its depth, and the depths of the others
pub highs_behind : (above : List Wait) (t : Tree) (hs : List ℕ) (d : ℕ) → highs_of above ≡ hs ++ d ∷ [] → (hs ≡ highs_of (waits_behind above t)) × (d ≡ kept_depth (length (waits_behind above t)))
highs_behind [] t hs d some = absurd (not_empty hs d some)
highs_behind (low_of i z ∷ ws) t hs d some =
    let both = last_alike (highs_of ws) hs (kept_depth (length ws + 1)) d some in
    let here : kept_depth (length ws + 1) ≡ d = both.1 in
    (sym both.0, omega arith)
highs_behind (high_of i z low ∷ ws) t hs d some = highs_behind ws (Split i z low t) hs d some

-- where none is, the tree is the root
pub end_behind : (a : Told) (above : List Wait) (root t : Tree) → highs_of above ≡ [] → at_end a (root_behind above root t) ≡ behind a above t
end_behind a [] root t none = refl
end_behind a (low_of i z ∷ ws) root t none = absurd (not_empty (highs_of ws) (kept_depth (length ws + 1)) (sym none))
end_behind a (high_of i z low ∷ ws) root t none = end_behind a ws root (Split i z low t) none

pub none_behind : (above : List Wait) (t : Tree) → highs_of above ≡ [] → waits_behind above t ≡ []
none_behind [] t none = refl
none_behind (low_of i z ∷ ws) t none = absurd (not_empty (highs_of ws) (kept_depth (length ws + 1)) (sym none))
none_behind (high_of i z low ∷ ws) t none = none_behind ws (Split i z low t) none

-- a depth more
pub depth_more : (n d next : ℕ) → d ≡ kept_depth n → next ≡ min (d + 1) (2 ^ 64 - 1) → (next ≡ kept_depth (n + 1)) × (next ≡ kept_depth (suc n))
depth_more n d next kept is = ((omega arith), (omega arith))

-- what the next leaf changes, behind a leaf
kept_behind_leaf : (v : Version) (had mults : List (ℕ × ℤ)) (p : Proof) → p.pairs ≡ map written_pair mults → map written_pair (had_behind v had mults) ≡ kept (version_of v) (map written_pair had) p
kept_behind_leaf One had mults p is = refl
kept_behind_leaf Two had mults p is = changed-written had mults ∙ ap (λ (ps : List (ℕ × ℤ)). changed (map written_pair had) ps) (sym is)
kept_behind_leaf Three had mults p is = changed-written had mults ∙ ap (λ (ps : List (ℕ × ℤ)). changed (map written_pair had) ps) (sym is)

-- a leaf whose line has these changes
pub leaf_behind : (v : Version) (a : Claim) (cuts : List Cut) (ws : List Wait) (o : Bool) (scale : ℕ) (picked : Picked) (had mults now all : List (ℕ × ℤ)) → all ≡ changed had mults → now ≡ had_behind v had mults
    → behind (record { version = version_of v; claim = a; cuts = cuts; had = map written_pair now }) ws (leaf_of o (written_proof (record { scale = scale; mults = all; picked = picked })))
    ≡ behind_leaf (record { version = version_of v; claim = a; cuts = cuts; had = map written_pair had }) ws o (written_proof (record { scale = scale; mults = mults; picked = picked }))
leaf_behind v a cuts ws o scale picked had mults now all changes next =
    let p : Proof = written_proof (record { scale = scale; mults = mults; picked = picked }) in
    let there : List (ℕ × ℤ) → List (ℕ × ℤ) → Stage = λ xs ys. behind (record { version = version_of v; claim = a; cuts = cuts; had = xs }) ws (leaf_of o (record { scale = scale; pairs = ys; picked = written_picked picked })) in
    ap (λ (xs : List (ℕ × ℤ)). there xs (map written_pair all)) (ap (map written_pair) next ∙ kept_behind_leaf v had mults p refl)
    ∙ ap (λ (ys : List (ℕ × ℤ)). there (kept (version_of v) (map written_pair had) p) ys) (ap (map written_pair) changes ∙ changed-written had mults)

-- a list of which nothing could be taken
pub nothing_taken : (old new : List ℕ) (count : ℕ) → count ≡ 0 → old ≡ new ++ [] → new ≡ take (count - 1) old → (old ≡ []) × (new ≡ [])
nothing_taken old new count none items rest =
    let empty : new ≡ [] = rest ∙ ap (λ (k : ℕ). take (k - 1) old) none in
    (items ∙ ap (λ (xs : List ℕ). xs ++ []) empty, empty)

-- a multiplier that differs from what the row had has no fault
pub multiplier_passes : (frame : texts.Frame) (above : List Wait) (root : Tree) (cuts : List Cut) (r : Lines) (n : ℕ) (had z : ℤ) → r.spot ≡ s.Multiplier → had ≡ multiplier (map written_pair r.had.pairs.items) (in_text r.row)
    → changed_fault greatest_multiplier had z ≡ None → number_fault frame (stage_of above root cuts r n) z ≡ None
multiplier_passes frame above root cuts r n had z is same none =
    let H : ℤ → Type 0 = λ h. changed_fault greatest_multiplier h z ≡ None in
    let P : Spot → Type 0 = λ x. number_fault frame (place_of above root cuts r n x) z ≡ None in
    subst P (sym is) (subst H same none)

-- a number of a cut's row that isn't 0
pub cut_multiplier_passes : (frame : texts.Frame) (above : List Wait) (root : Tree) (cuts : List Cut) (r : Lines) (n : ℕ) (z : ℤ) → r.spot ≡ s.CutMultiplier → changed_fault greatest_divisor (pos 0) z ≡ None
    → number_fault frame (stage_of above root cuts r n) z ≡ None
cut_multiplier_passes frame above root cuts r n z is none =
    let P : Spot → Type 0 = λ x. number_fault frame (place_of above root cuts r n x) z ≡ None in
    subst P (sym is) none

one_less : (left : ℕ) → 0 + left ≤ 1 + (left - 1)
one_less left = omega arith

-- a multiplier is kept
pub multiplier_kept : (old new : Lines) (z : ℤ) (value : ℕ) → old.spot ≡ s.Multiplier → new ≡ record old { spot = s.Pairs; mults = old.mults ++ (old.row, z) ∷ []; last = old.row + 1; left = old.left - 1 } → IsBehind old new z value
multiplier_kept old new z value is moved =
    let now : Lines = record old { spot = s.Pairs; mults = old.mults ++ (old.row, z) ∷ []; last = old.row + 1; left = old.left - 1 } in
    let P : Lines → Type 0 = λ r. IsBehind old r z value in
    let L : Spot → Type 0 = λ x. old.left - 1 ≡ count_behind x old.left value in
    let S : Spot → Type 0 = λ x. 0 + old.left ≤ slack x + (old.left - 1) in
    let C : Spot → Type 0 = λ x. (k : ℕ) → old.cuts ≡ k + cutting x → old.cuts ≡ k + 0 in
    subst P (sym moved) (record {
      place = λ above root cuts n.
          let Q : Spot → Type 0 = λ x. stage_of above root cuts now (count_behind x n value) ≡ behind_number (place_of above root cuts old n x) z in
          subst Q (sym is) (ap (λ (ps : List (ℕ × ℤ)). at_pairs (told_of cuts old) above (of_leaf old.is_open) old.scale ps (old.row + 1) (n - 1)) (map-append written_pair old.mults ((old.row, z) ∷ [])));
      counted = λ above root cuts n k count. absurd (subst IsCount is count);
      left = subst L (sym is) refl;
      line = refl;
      depth = refl;
      highs = refl;
      cuts = subst C (sym is) (λ k e. e);
      few = λ h. h;
      paced = λ _. subst S (sym is) (one_less old.left);
      fresh = λ _. refl;
      goes_on = λ e. cc;
    })

-- a multiplier of a cut is kept
pub cut_multiplier_kept : (old new : Lines) (z : ℤ) (value : ℕ) → old.spot ≡ s.CutMultiplier → new ≡ record old { spot = s.CutPairs; mults = old.mults ++ (old.row, z) ∷ []; last = old.row + 1; left = old.left - 1 } → IsBehind old new z value
cut_multiplier_kept old new z value is moved =
    let now : Lines = record old { spot = s.CutPairs; mults = old.mults ++ (old.row, z) ∷ []; last = old.row + 1; left = old.left - 1 } in
    let P : Lines → Type 0 = λ r. IsBehind old r z value in
    let L : Spot → Type 0 = λ x. old.left - 1 ≡ count_behind x old.left value in
    let S : Spot → Type 0 = λ x. 0 + old.left ≤ slack x + (old.left - 1) in
    let C : Spot → Type 0 = λ x. (k : ℕ) → old.cuts ≡ k + cutting x → old.cuts ≡ k + 1 in
    subst P (sym moved) (record {
      place = λ above root cuts n.
          let Q : Spot → Type 0 = λ x. stage_of above root cuts now (count_behind x n value) ≡ behind_number (place_of above root cuts old n x) z in
          subst Q (sym is) (ap (λ (ps : List (ℕ × ℤ)). at_pairs (told_of cuts old) above of_cut old.divisor ps (old.row + 1) (n - 1)) (map-append written_pair old.mults ((old.row, z) ∷ [])));
      counted = λ above root cuts n k count. absurd (subst IsCount is count);
      left = subst L (sym is) refl;
      line = refl;
      depth = refl;
      highs = refl;
      cuts = subst C (sym is) (λ k e. e);
      few = λ h. h;
      paced = λ _. subst S (sym is) (one_less old.left);
      fresh = λ _. refl;
      goes_on = λ e. cc;
    })

-- a divisor has no fault
pub divisor_passes : (frame : texts.Frame) (above : List Wait) (root : Tree) (cuts : List Cut) (r : Lines) (n value : ℕ) → r.spot ≡ s.Divisor → divisor_fault (length cuts) value ≡ None → number_fault frame (stage_of above root cuts r n) (pos value) ≡ None
divisor_passes frame above root cuts r n value is none =
    let P : Spot → Type 0 = λ x. number_fault frame (place_of above root cuts r n x) (pos value) ≡ None in
    subst P (sym is) none

-- a divisor is kept
pub divisor_kept : (old new : Lines) (value divisor : ℕ) → old.spot ≡ s.Divisor → divisor ≡ value → old.cuts < most_cuts → new ≡ record old { spot = s.CutRows; cuts = old.cuts + 1; divisor = divisor } → IsBehind old new (pos value) value
divisor_kept old new value divisor is same room moved =
    let now : Lines = record old { spot = s.CutRows; cuts = old.cuts + 1; divisor = divisor } in
    let P : Lines → Type 0 = λ r. IsBehind old r (pos value) value in
    let L : Spot → Type 0 = λ x. old.left ≡ count_behind x old.left value in
    let S : Spot → Type 0 = λ x. 0 + old.left ≤ slack x + old.left in
    let C : Spot → Type 0 = λ x. (k : ℕ) → old.cuts ≡ k + cutting x → old.cuts + 1 ≡ k + 1 in
    subst P (sym moved) (record {
      place = λ above root cuts n.
          let Q : Spot → Type 0 = λ x. stage_of above root cuts now (count_behind x n value) ≡ behind_number (place_of above root cuts old n x) (pos value) in
          subst Q (sym is) (ap (λ (q : ℕ). at_rows (told_of cuts old) above of_cut q) same);
      counted = λ above root cuts n k count. absurd (subst IsCount is count);
      left = subst L (sym is) refl;
      line = refl;
      depth = refl;
      highs = refl;
      cuts = subst C (sym is) (λ k e. omega (arith, e));
      few = λ h. omega (arith, room);
      paced = λ _. subst S (sym is) (omega arith);
      fresh = λ _. refl;
      goes_on = λ e. cc;
    })

-- the place behind a claim and its point
pub first_place : (root : Tree) (r : Lines) (n : ℕ) (spot : Spot) → r.had.pairs.items ≡ [] → spot ≡ spot_behind_claim r.version → place_of [] root [] r n spot ≡ begin (version_of r.version) (written_claim r.claim r.point) []
first_place root r n spot none is = by r.version refl where
  told_with : Version → List (ℕ × ℤ) → Told
  told_with v had = record { version = version_of v; claim = written_claim r.claim r.point; cuts = []; had = map written_pair had }

  by : (v : Version) → r.version ≡ v → place_of [] root [] r n spot ≡ begin (version_of r.version) (written_claim r.claim r.point) []
  by One e =
      let P : Spot → Type 0 = λ x. place_of [] root [] r n x ≡ begin (version_of r.version) (written_claim r.claim r.point) [] in
      let Q : Version → Type 0 = λ v. at_node (told_with v []) [] ≡ begin (version_of v) (written_claim r.claim r.point) [] in
      subst P (sym (is ∙ ap spot_behind_claim e)) (ap (λ (hs : List (ℕ × ℤ)). at_node (told_with r.version hs) []) none ∙ subst Q (sym e) refl)
  by Two e =
      let P : Spot → Type 0 = λ x. place_of [] root [] r n x ≡ begin (version_of r.version) (written_claim r.claim r.point) [] in
      let Q : Version → Type 0 = λ v. at_node (told_with v []) [] ≡ begin (version_of v) (written_claim r.claim r.point) [] in
      subst P (sym (is ∙ ap spot_behind_claim e)) (ap (λ (hs : List (ℕ × ℤ)). at_node (told_with r.version hs) []) none ∙ subst Q (sym e) refl)
  by Three e =
      let P : Spot → Type 0 = λ x. place_of [] root [] r n x ≡ begin (version_of r.version) (written_claim r.claim r.point) [] in
      let Q : Version → Type 0 = λ v. at_first_cut (told_with v []) [] ≡ begin (version_of v) (written_claim r.claim r.point) [] in
      subst P (sym (is ∙ ap spot_behind_claim e)) (ap (λ (hs : List (ℕ × ℤ)). at_first_cut (told_with r.version hs) []) none ∙ subst Q (sym e) refl)

-- there no line of a cut has begun
pub first_uncut : (v : Version) (spot : Spot) → spot ≡ spot_behind_claim v → cutting spot ≡ 0
first_uncut One spot is = ap cutting is
first_uncut Two spot is = ap cutting is
first_uncut Three spot is = ap cutting is

-- a cut more
pub cut_counted : (n : ℕ) (cuts : List Cut) (cut : Cut) (spot : Spot) → spot ≡ s.CutPairs → n ≡ length cuts + cutting spot → n ≡ length (cuts ++ cut ∷ []) + 0
cut_counted n cuts cut spot is counted = let one : cutting spot ≡ 1 = ap cutting is in omega (arith, one, counted, length-append cuts (cut ∷ []))

-- where no cut's line has begun, the whole cuts are counted
pub cuts_whole : (cuts : List Cut) (r : Lines) → cutting r.spot ≡ 0 → r.cuts ≡ length cuts + cutting r.spot → r.cuts ≡ length cuts
cuts_whole cuts r none counted = omega (arith, none, counted)

-- within a cut's line, that cut too
pub cuts_begun : (cuts : List Cut) (r : Lines) (k : ℕ) → cutting r.spot ≡ 1 → r.cuts ≡ length cuts + cutting r.spot → k ≡ r.cuts - 1 → k ≡ length cuts
cuts_begun cuts r k one counted is = omega (arith, one, counted, is)

-- no further cut may come
pub all_cuts : (frame : texts.Frame) (above : List Wait) (root : Tree) (cuts : List Cut) (r : Lines) (n : ℕ) (last : Bool) → r.spot ≡ s.Divisor → HasHighs above cuts r → last ≡ nat_le most_cuts r.cuts → last ≡ is_deep_stage frame (stage_of above root cuts r n)
all_cuts frame above root cuts r n last is highs same =
    let P : Spot → Type 0 = λ x. last ≡ is_deep_stage frame (place_of above root cuts r n x) in
    subst P (sym is) (same ∙ ap (λ (k : ℕ). nat_le most_cuts k) (cuts_whole cuts r (ap cutting is) highs.cuts))

-- what a number is judged by the count of cuts, it is by the cuts
pub judged : (F : ℕ → Option Kind) (Q : ℕ → Type 0) (k : ℕ) (H : List Wait → List Cut → Type 0) (result : Result ℕ Kind) → ((above : List Wait) (cuts : List Cut) → H above cuts → k ≡ length cuts)
    → MatchResult result (λ q. (F k ≡ None) × Q q) (λ kind. F k ≡ Some kind)
    → MatchResult result (λ q. ((above : List Wait) (cuts : List Cut) → H above cuts → F (length cuts) ≡ None) × Q q) (λ kind. (above : List Wait) (cuts : List Cut) → H above cuts → F (length cuts) ≡ Some kind)
judged F Q k H (Ok q) same h = (λ above cuts highs. subst (λ (n : ℕ). F n ≡ None) (same above cuts highs) h.0, h.1)
judged F Q k H (Err kind) same h = λ above cuts highs. subst (λ (n : ℕ). F n ≡ Some kind) (same above cuts highs) h

-- what holds behind a claim whatever came before it
pub any_highs : (old new : Lines) (result : Result (Option Event) AllocError) → IfOk result (λ event. (above : List Wait) (cuts : List Cut) → HasHighs (waits_after above event) (cuts_after cuts event) new) → IfOk result (λ event. KeepsHighs old new event)
any_highs old new (Ok event) h = λ above cuts highs. h above cuts
any_highs old new (Err e) h = tt
