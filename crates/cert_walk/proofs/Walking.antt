-- A walk behind a line.
use Rattle.std.proofs.Common.{◌≡◌, refl, sym, ap, subst, ◌∙◌, ℕ, ◌+◌, ◌<◌, Bool, false, List, [], ◌∷◌, ◌++◌, length, Option, Some, None, Result, Ok, Err, arith, append_assoc, append-nil, length-append}
use Rattle.std.proofs.Math.IntN.{ℤ}
use Rattle.std.specs.Prelude.{All, IfOk}
use Rattle.std.specs.declared.alloc.AllocError.{AllocError}
use Rattle.std.specs.List.{AllByRecursion}
use Rattle.std.proofs.lemmas.Int.{ints}
use Rattle.std.proofs.lemmas.List.Elements.{All-push, length_all_zip}
use Rattle.std.specs.Option.{option_map}
use Rattle.bp_theory.specs.Program.{Program, span_at}
use Rattle.bp_theory.specs.Blocking.{Blocking}
use Rattle.bp_theory.specs.Bound.{Fits}
use Rattle.bp_theory.specs.Decomposition.{Decomposition, ProofRow, proof_rows}
use Rattle.bp_theory.specs.Cuts.{cut_rows}
use Rattle.bp_theory.specs.Trees.{Tree, Leaf, low_part, IsSubspan, IsSoundSplit}
use Rattle.bp_theory.proofs.ShrinkProof.{subspan_at}
use Rattle.bp_theory.specs.Judgement.{Line, point_line, cut_line, split_line, leaf_line, point_lines, cut_lines, named_value, tree_lines, Passes, HasFault, unsound}
use Rattle.bp_theory.specs.declared.Span.{Span}
use Rattle.bp_theory.specs.declared.Proof.{Proof}
use Rattle.bp_theory.specs.declared.Claim.{Claim}
use Rattle.bp_theory.specs.declared.Cut.{Cut}
use Rattle.bp_theory.specs.declared.Row.{Row}
use Rattle.bp_theory.specs.declared.CheckKind.{CheckKind}
use Rattle.bp_theory.specs.declared.CheckKind.TheVariants.{Split}
use Rattle.block_program.specs.Blocked.{BlockedProgram}
use Rattle.cert_text.specs.Programs.{IsSmallClaim}
use Rattle.cut_sums.specs.Cutting.{IsCutOver}
use Rattle.round_cut.specs.Several.{AreRowsOfCuts}
use Rattle.cert_line_check.specs.Cutting.{JudgesCut}
use Rattle.cert_line_check.specs.Judging.{IsFirstBad, IsLeft, IsEnd, JudgesLines, JudgesPoint}
use Rattle.cert_line_check.specs.declared.place.NodePlace.{NodePlace}
use Rattle.cert_line_check.specs.declared.place.Rejection.{Rejection}
use Rattle.cert_line_check.specs.declared.place.Stop.{Stop}
use Rattle.cert_line_check.proofs.Lines.{low_zone}
use Rattle.cert_line_check.proofs.CutLines.{line_more, over_last, over_less, rows_many, cut_left}
use Rattle.cert_line_check.proofs.LineVisits.{nothing_spent, split_left, points_left}
use Rattle.cert_line_check.proofs.Heads.{line_fails}
use Rattle.cert_walk.specs.Turns.{Turn, to_low, zone_of, turns_behind}
use Rattle.cert_walk.specs.Paths.{AreForksOf, IsForkIn, IsPathIn, GoesOn}
use Rattle.cert_walk.specs.Walks.{below, whole, Front, points_of, lines_to, IsBelow, WalksBelow, WalksBehind, IsFresh, GoesOver, leaf_with}
use Rattle.cert_walk.specs.declared.path.Fork.{Fork}
use Rattle.cert_walk.specs.declared.path.Path.{Path}
use Rattle.cert_walk.specs.declared.walk.Walk.{Walk}
use Rattle.cert_walk.specs.declared.walk.Walk.TheVariants.{At, Ended, Misfit}
use Rattle.cert_walk.proofs.Judging.{split_comes, node_comes, root_comes, passes_on, ends_on, still_ends, node_fits, root_fits, leaf_lines, leaf_fits}

-- ---- behind the line of a point

no_leaf : (v : ℤ) (zs : List ℤ) (leaf : Leaf) → point_line v zs ≡ leaf_line leaf → ⊥
no_leaf v zs leaf e = absurd (cc)

nothing_there : {X : Type 0} (before : List X) (x : X) (after : List X) → [] ≡ before ++ x ∷ after → ⊥
nothing_there [] x after e = cc
nothing_there (y ∷ before) x after e = cc

-- a point's line is at fault
bad_ends : (p : Program) (b k : Blocking) (claim : Claim) (v : ℤ) (zs : List ℤ) (visits : Option ℕ) (number : ℕ) (kind : CheckKind)
    → IsFirstBad p b claim (point_line v zs ∷ []) 3 number kind → IsEnd p k claim (point_line v zs ∷ []) visits 3 number (Some kind)
bad_ends p b k claim v zs visits number kind bad = by bad.before bad.parts bad.numbered
  where
    by : (before : List Line) → point_line v zs ∷ [] ≡ before ++ bad.line ∷ bad.after → number ≡ 3 + length before → IsEnd p k claim (point_line v zs ∷ []) visits 3 number (Some kind)
    by [] parts numbered =
        let same : point_line v zs ≡ bad.line = cc in
        record {
          before = [];
          line = point_line v zs;
          after = [];
          parts = refl;
          passed = tt;
          now = visits;
          is_left = nothing_spent p.spans k visits;
          ends = (line_fails p b k claim v zs kind (subst (λ (x : Line). HasFault p b claim x kind) (sym same) bad.has_fault), λ leaf e signs. absurd (no_leaf v zs leaf e));
          numbered = numbered;
        }
    by (x ∷ before) parts numbered = let rest : [] ≡ before ++ bad.line ∷ bad.after = cc in absurd (nothing_there before bad.line bad.after rest)

points_end : (p : Program) (b k : Blocking) (claim : Claim) (named : Option ℤ) (zs : List ℤ) (visits : Option ℕ) (number : ℕ) (kind : CheckKind)
    → IsFirstBad p b claim (point_lines named (Some zs)) 3 number kind → IsEnd p k claim ((point_lines named (option_map (λ _. zs) named) ++ []) ++ []) visits 3 number (Some kind)
points_end p b k claim None zs visits number kind bad = absurd (nothing_there bad.before bad.line bad.after bad.parts)
points_end p b k claim (Some v) zs visits number kind bad = bad_ends p b k claim v zs visits number kind bad

pub begun_ended : (p : Program) (b k : Blocking) (d : Decomposition) (claim : Claim) (zs : List ℤ) (visits : Option ℕ) (found : Rejection) (stop : Stop)
    → JudgesPoint p b claim (point_lines (named_value claim) (Some zs)) (Err found) → stop.line ≡ found.line → stop.fault ≡ Some found.kind
    → WalksBelow p k claim (record { point = zs; dec = d; cuts = [] }) visits [] (Ended stop)
begun_ended p b k d claim zs visits found stop h line fault =
    let P : ℕ → Type 0 = λ n. IsEnd p k claim ((points_of claim zs ++ []) ++ []) visits 3 n (Some found.kind) in
    let Q : Option CheckKind → Type 0 = λ o. IsEnd p k claim ((points_of claim zs ++ []) ++ []) visits 3 stop.line o in
    record {
      judges = subst Q (sym fault) (subst P (sym line) (points_end p b k claim (named_value claim) zs visits found.line found.kind h));
      stands = tt;
    }

-- it passes
pub begun_at : (p : Program) (b k : Blocking) (d : Decomposition) (claim : Claim) (zs : List ℤ) (visits : Option ℕ) (path now : Path) (line : ℕ)
    → JudgesPoint p b claim (point_lines (named_value claim) (Some zs)) (Ok line) → now.place.line ≡ line → now.place.left ≡ path.place.left → now.place.zone ≡ path.place.zone
    → now.forks.items ≡ path.forks.items → IsFresh p.spans visits (At path) → WalksBelow p k claim (record { point = zs; dec = d; cuts = [] }) visits [] (At now)
begun_at p b k d claim zs visits path now line h is left zone forks fresh = record {
  judges = by (named_value claim) h;
  stands = (forks ∙ fresh.2, zone ∙ fresh.3);
}
  where
    spent : (lines : List Line) → IsLeft p.spans k lines visits visits → IsLeft p.spans k lines visits now.place.left
    spent lines g = subst (λ (o : Option ℕ). IsLeft p.spans k lines visits o) (sym (left ∙ fresh.1)) g

    by : (named : Option ℤ) → JudgesPoint p b claim (point_lines named (Some zs)) (Ok line)
        → (now.place.line ≡ 3 + length ((point_lines named (option_map (λ _. zs) named) ++ []) ++ []))
        × AllByRecursion (Passes p k claim) ((point_lines named (option_map (λ _. zs) named) ++ []) ++ [])
        × IsLeft p.spans k ((point_lines named (option_map (λ _. zs) named) ++ []) ++ []) visits now.place.left
    by None g = (is ∙ g.0, tt, spent [] (nothing_spent p.spans k visits))
    by (Some v) g = (is ∙ g.0, (g.1.0, tt), spent (point_line v zs ∷ []) (points_left p.spans k (Some v) zs visits))

-- ---- behind the line of a cut

cut_no_leaf : (rows : List ProofRow) (cut : Cut) (leaf : Leaf) → cut_line rows cut ≡ leaf_line leaf → ⊥
cut_no_leaf rows cut leaf e = absurd (cc)

-- which lines come
cut_comes : (p : Program) (claim : Claim) (zs : List ℤ) (d : Decomposition) (cuts : List Cut) (cut : Cut) (rows : List Row) → rows ≡ cut_rows p d [] cuts
    → lines_to p claim (record { point = zs; dec = d; cuts = cuts ++ cut ∷ [] }) (below [])
    ≡ lines_to p claim (record { point = zs; dec = d; cuts = cuts }) (below []) ++ cut_line (proof_rows p d rows) cut ∷ []
cut_comes p claim zs d cuts cut rows is =
    let front : List Line = points_of claim zs in
    let had : List Line = cut_lines p d [] cuts in
    let more : List Line = cut_line (proof_rows p d rows) cut ∷ [] in
    append-nil (front ++ cut_lines p d [] (cuts ++ cut ∷ [])) ∙ ap (λ (xs : List Line). front ++ xs) (line_more p d cuts cut rows is) ∙ sym (append_assoc front had more)
    ∙ ap (λ (xs : List Line). xs ++ more) (sym (append-nil (front ++ had)))

-- it is at fault
pub cut_ended : (p : Program) (k : Blocking) (claim : Claim) (zs : List ℤ) (d : Decomposition) (cuts had : List Cut) (cut : Cut) (rows : List Row) (visits : Option ℕ) (path : Path) (found : Rejection) (stop : Stop)
    → had ≡ cuts → rows ≡ cut_rows p d [] had → JudgesCut p (proof_rows p d rows) cut path.place.line (Err found) → stop.line ≡ found.line → stop.fault ≡ Some found.kind
    → WalksBelow p k claim (record { point = zs; dec = d; cuts = cuts }) visits [] (At path)
    → WalksBelow p k claim (record { point = zs; dec = d; cuts = cuts ++ cut ∷ [] }) visits [] (Ended stop)
cut_ended p k claim zs d cuts had cut rows visits path found stop same is judged line fault h =
    let rows_are : rows ≡ cut_rows p d [] cuts = is ∙ ap (λ (cs : List Cut). cut_rows p d [] cs) same in
    let one : Line = cut_line (proof_rows p d rows) cut in
    let end : IsEnd p k claim (one ∷ []) path.place.left path.place.line found.line (Some found.kind) = record {
      before = [];
      line = one;
      after = [];
      parts = refl;
      passed = tt;
      now = path.place.left;
      is_left = nothing_spent p.spans k path.place.left;
      ends = (judged.1 k claim, λ leaf e signs. absurd (cut_no_leaf (proof_rows p d rows) cut leaf e));
      numbered = omega (arith, judged.0);
    } in
    let lines = lines_to p claim (record { point = zs; dec = d; cuts = cuts }) (below []) in
    let all = lines_to p claim (record { point = zs; dec = d; cuts = cuts ++ cut ∷ [] }) (below []) in
    let P : ℕ → Type 0 = λ n. IsEnd p k claim all visits 3 n (Some found.kind) in
    let Q : Option CheckKind → Type 0 = λ o. IsEnd p k claim all visits 3 stop.line o in
    record {
      judges = subst Q (sym fault) (subst P (sym line)
          (ends_on p k claim lines (one ∷ []) all visits path.place.left path.place.line found.line (Some found.kind) (cut_comes p claim zs d cuts cut rows rows_are)
          h.judges.0 h.judges.1 h.judges.2 end));
      stands = tt;
    }

-- it passes
pub cut_at : (p : Program) (k : Blocking) (claim : Claim) (zs : List ℤ) (d : Decomposition) (cuts had : List Cut) (cut : Cut) (rows : List Row) (row : Row) (visits : Option ℕ) (path now : Path)
    → had ≡ cuts → rows ≡ cut_rows p d [] had → JudgesCut p (proof_rows p d rows) cut path.place.line (Ok row) → now.place.line ≡ path.place.line + 1
    → now.place.left ≡ path.place.left → now.place.zone ≡ path.place.zone → now.forks.items ≡ path.forks.items
    → WalksBelow p k claim (record { point = zs; dec = d; cuts = cuts }) visits [] (At path)
    → WalksBelow p k claim (record { point = zs; dec = d; cuts = cuts ++ cut ∷ [] }) visits [] (At now)
cut_at p k claim zs d cuts had cut rows row visits path now same is judged line left zone forks h =
    let rows_are : rows ≡ cut_rows p d [] cuts = is ∙ ap (λ (cs : List Cut). cut_rows p d [] cs) same in
    let more : List Line = cut_line (proof_rows p d rows) cut ∷ [] in
    let lines = lines_to p claim (record { point = zs; dec = d; cuts = cuts }) (below []) in
    let all = lines_to p claim (record { point = zs; dec = d; cuts = cuts ++ cut ∷ [] }) (below []) in
    let spend : IsLeft p.spans k more path.place.left now.place.left =
    subst (λ (o : Option ℕ). IsLeft p.spans k more path.place.left o) (sym left) (cut_left p.spans k (proof_rows p d rows) cut path.place.left) in
    record {
      judges = passes_on p k claim lines more all visits path.place.left now.place.left path.place.line now.place.line (cut_comes p claim zs d cuts cut rows rows_are)
          h.judges.0 h.judges.1 h.judges.2 line (judged.3 k claim) spend;
      stands = (forks ∙ h.stands.0, zone ∙ h.stands.1);
    }

-- what ended the judgement still does
pub cut_still : (p : Program) (k : Blocking) (claim : Claim) (zs : List ℤ) (d : Decomposition) (cuts : List Cut) (cut : Cut) (visits : Option ℕ) (stop : Stop)
    → WalksBelow p k claim (record { point = zs; dec = d; cuts = cuts }) visits [] (Ended stop)
    → WalksBelow p k claim (record { point = zs; dec = d; cuts = cuts ++ cut ∷ [] }) visits [] (Ended stop)
cut_still p k claim zs d cuts cut visits stop h = record {
  judges = still_ends p k claim (lines_to p claim (record { point = zs; dec = d; cuts = cuts }) (below [])) (cut_line (proof_rows p d (cut_rows p d [] cuts)) cut ∷ [])
      (lines_to p claim (record { point = zs; dec = d; cuts = cuts ++ cut ∷ [] }) (below [])) visits stop.line stop.fault (cut_comes p claim zs d cuts cut (cut_rows p d [] cuts) refl) h.judges;
  stands = tt;
}

pub cut_misfit : (p : Program) (k : Blocking) (claim : Claim) (zs : List ℤ) (d : Decomposition) (cuts : List Cut) (cut : Cut) (visits : Option ℕ)
    → WalksBelow p k claim (record { point = zs; dec = d; cuts = cuts }) visits [] Misfit
    → WalksBelow p k claim (record { point = zs; dec = d; cuts = cuts ++ cut ∷ [] }) visits [] Misfit
cut_misfit p k claim zs d cuts cut visits h = record {
  judges = λ small fits come. h.judges small (omega (arith, fits.0, length-append cuts (cut ∷ [])), over_less p d [] cuts (cut ∷ []) fits.1) come;
  stands = tt;
}

-- a cut that can't be judged: there are too many, or it combines none that it may
pub cut_many : (p : Program) (k : Blocking) (claim : Claim) (zs : List ℤ) (d : Decomposition) (cuts had : List Cut) (cut : Cut) (rows : List Row) (visits : Option ℕ) → had ≡ cuts
    → AreRowsOfCuts p d had rows → 255 < length rows → WalksBelow p k claim (record { point = zs; dec = d; cuts = cuts ++ cut ∷ [] }) visits [] Misfit
cut_many p k claim zs d cuts had cut rows visits same is many = record {
  judges = λ small fits come. omega (
    arith,
    fits.0,
    many,
    length-append cuts (cut ∷ []),
    rows_many p d had rows is,
    ap (λ (cs : List Cut). length cs) same,
  );
  stands = tt;
}

pub cut_unjudged : (p : Program) (k : Blocking) (claim : Claim) (zs : List ℤ) (d : Decomposition) (cuts had : List Cut) (cut : Cut) (rows : List Row) (visits : Option ℕ) → had ≡ cuts
    → rows ≡ cut_rows p d [] had → (IsCutOver (proof_rows p d rows) cut → ⊥) → WalksBelow p k claim (record { point = zs; dec = d; cuts = cuts ++ cut ∷ [] }) visits [] Misfit
cut_unjudged p k claim zs d cuts had cut rows visits same is none = record {
  judges = λ small fits come. none
      (subst (λ (rs : List Row). IsCutOver (proof_rows p d rs) cut) (sym (is ∙ ap (λ (cs : List Cut). cut_rows p d [] cs) same)) (over_last p d [] cuts cut [] fits.1));
  stands = tt;
}

-- ---- behind the line of a split

pub entered_ended : (p : Program) (b : Blocking) (claim : Claim) (front : Front) (visits : Option ℕ) (ts : List Turn) (path : Path) (stop : Stop) (v : ℕ) (at : ℤ)
    → (IsSoundSplit path.place.zone v at → ⊥) → stop.line ≡ path.place.line → stop.fault ≡ Some Split → WalksBelow p b claim front visits ts (At path)
    → WalksBelow p b claim front visits (to_low v at ∷ ts) (Ended stop)
entered_ended p b claim front visits ts path stop v at none line fault h =
    let zone = zone_of p.spans ts in
    let more : List Line = split_line zone v at ∷ [] in
    let wrong : IsSoundSplit zone v at → ⊥ = λ sound. none (subst (λ (ss : List Span). IsSoundSplit ss v at) (sym h.stands.1) sound) in
    let end : IsEnd p b claim more path.place.left path.place.line path.place.line (Some Split) = record {
      before = [];
      line = split_line zone v at;
      after = [];
      parts = refl;
      passed = tt;
      now = path.place.left;
      is_left = nothing_spent p.spans b path.place.left;
      ends = (unsound zone v at wrong, λ leaf e signs. absurd (split_no_leaf zone v at leaf e));
      numbered = omega arith;
    } in
    let all = lines_to p claim front (below (to_low v at ∷ ts)) in
    let P : ℕ → Type 0 = λ n. IsEnd p b claim all visits 3 n (Some Split) in
    let Q : Option CheckKind → Type 0 = λ o. IsEnd p b claim all visits 3 stop.line o in
    record {
      judges = subst Q (sym fault) (subst P (sym line)
          (ends_on p b claim (lines_to p claim front (below ts)) more all visits path.place.left path.place.line path.place.line (Some Split) (split_comes p claim front v at ts)
          h.judges.0 h.judges.1 h.judges.2 end));
      stands = tt;
    }
  where
    split_no_leaf : (zone : List Span) (v : ℕ) (at : ℤ) (leaf : Leaf) → split_line zone v at ≡ leaf_line leaf → ⊥
    split_no_leaf zone v at leaf e = absurd (cc)

pub entered_at : (p : Program) (b : Blocking) (claim : Claim) (front : Front) (visits : Option ℕ) (ts : List Turn) (path now : Path) (v : ℕ) (at : ℤ)
    → IsSoundSplit path.place.zone v at → now.place.line ≡ path.place.line + 1 → now.place.left ≡ path.place.left → IsBelow p.spans (to_low v at ∷ ts) (At now)
    → WalksBelow p b claim front visits ts (At path) → WalksBelow p b claim front visits (to_low v at ∷ ts) (At now)
entered_at p b claim front visits ts path now v at sound line left stands h =
    let zone = zone_of p.spans ts in
    let more : List Line = split_line zone v at ∷ [] in
    let there : IsSoundSplit zone v at = subst (λ (ss : List Span). IsSoundSplit ss v at) h.stands.1 sound in
    let spend : IsLeft p.spans b more path.place.left now.place.left =
    subst (λ (o : Option ℕ). IsLeft p.spans b more path.place.left o) (sym left) (split_left p.spans b zone v at [] path.place.left path.place.left (nothing_spent p.spans b path.place.left)) in
    record {
      judges = passes_on p b claim (lines_to p claim front (below ts)) more (lines_to p claim front (below (to_low v at ∷ ts))) visits path.place.left now.place.left path.place.line
          now.place.line (split_comes p claim front v at ts) h.judges.0 h.judges.1 h.judges.2 line (there, tt) spend;
      stands = stands;
    }

-- the split is kept
pub entered_below : (spans : List Span) (ts : List Turn) (path now : Path) (f : Fork) (v : ℕ) (at : ℤ) → now.forks.items ≡ path.forks.items ++ f ∷ [] → f.place.var ≡ v → f.place.at ≡ at
    → f.span ≡ span_at path.place.zone v → f.is_high ≡ false → now.place.zone ≡ low_part path.place.zone v at → IsBelow spans ts (At path)
    → IsBelow spans (to_low v at ∷ ts) (At now)
entered_below spans ts path now f v at forks var number span low zone stands = (
  (path.forks.items, f, forks, (var, number, span ∙ ap (λ (ss : List Span). span_at ss v) stands.1, low), stands.0),
  zone ∙ ap (λ (ss : List Span). low_part ss v at) stands.1,
)

pub entered_in : (root : List Span) (path now : Path) (f : Fork) (v : ℕ) (at : ℤ) → now.forks.items ≡ path.forks.items ++ f ∷ [] → f.place.var ≡ v → f.place.at ≡ at
    → f.span ≡ span_at path.place.zone v → v < length path.place.zone → IsSoundSplit path.place.zone v at → now.place.zone ≡ low_part path.place.zone v at → IsPathIn root path
    → IsPathIn root now
entered_in root path now f v at forks var number span there sound zone h =
    let same = length_all_zip IsSubspan path.place.zone root h.zone.inside in
    let sub : IsSubspan f.span (span_at root v) = subst (λ (s : Span). IsSubspan s (span_at root v)) (sym span) (subspan_at path.place.zone root h.zone.inside v) in
    let lo : (span_at path.place.zone v).lo ≡ f.span.lo = ap (λ (s : Span). s.lo) (sym span) in
    let hi : (span_at path.place.zone v).hi ≡ f.span.hi = ap (λ (s : Span). s.hi) (sym span) in
    let here : IsForkIn root f = record {
      there = omega (arith, same, there, var);
      inside = subst (λ (k : ℕ). IsSubspan f.span (span_at root k)) (sym var) sub;
      above = omega (arith, ints, sound.above, lo, number);
      below = omega (arith, ints, sound.below, hi, number);
    } in
    let Q : List Fork → Type 0 = All (IsForkIn root) in
    record {
      zone = low_zone root path.place.zone now.place.zone v at sound zone h.zone;
      forks = subst Q (sym forks) (All-push (IsForkIn root) path.forks.items f h.forks here);
    }

-- what ended the judgement still does
pub entered_still : (p : Program) (b : Blocking) (claim : Claim) (front : Front) (visits : Option ℕ) (ts : List Turn) (stop : Stop) (v : ℕ) (at : ℤ)
    → WalksBelow p b claim front visits ts (Ended stop) → WalksBelow p b claim front visits (to_low v at ∷ ts) (Ended stop)
entered_still p b claim front visits ts stop v at h = record {
  judges = still_ends p b claim (lines_to p claim front (below ts)) (split_line (zone_of p.spans ts) v at ∷ []) (lines_to p claim front (below (to_low v at ∷ ts))) visits stop.line stop.fault
      (split_comes p claim front v at ts) h.judges;
  stands = tt;
}

pub entered_misfit : (p : Program) (b : Blocking) (claim : Claim) (front : Front) (visits : Option ℕ) (ts : List Turn) (v : ℕ) (at : ℤ)
    → WalksBelow p b claim front visits ts Misfit → WalksBelow p b claim front visits (to_low v at ∷ ts) Misfit
entered_misfit p b claim front visits ts v at h = record { judges = h.judges; stands = tt }

-- ---- behind the line of a leaf

pub left_still : (p : Program) (b : Blocking) (claim : Claim) (front : Front) (visits : Option ℕ) (ts : List Turn) (t : Tree) (stop : Stop)
    → WalksBelow p b claim front visits ts (Ended stop) → WalksBehind p b claim front visits ts t (Ended stop)
left_still p b claim front visits ts t stop h =
    let lines = lines_to p claim front (below ts) in
    let more = tree_lines t (zone_of p.spans ts) in
    record {
      goes_on = λ none. record {
        judges = still_ends p b claim lines more (lines_to p claim front (below (turns_behind ts t))) visits stop.line stop.fault (node_comes p claim front ts t none) h.judges;
        stands = tt;
      };
      ends = λ root is. still_ends p b claim lines more (lines_to p claim front (whole root)) visits stop.line stop.fault (root_comes p claim front ts t root is) h.judges;
    }

pub left_misfit : (p : Program) (b : Blocking) (claim : Claim) (front : Front) (visits : Option ℕ) (ts : List Turn) (t : Tree)
    → WalksBelow p b claim front visits ts Misfit → WalksBehind p b claim front visits ts t Misfit
left_misfit p b claim front visits ts t h = record {
  goes_on = λ none. record { judges = λ small cuts fits. h.judges small cuts (node_fits b ts t none fits).0; stands = tt };
  ends = λ root is small cuts fits. h.judges small cuts (root_fits b ts t root is fits).0;
}

-- a leaf that can't be judged
left_unjudged : (p : Program) (b : Blocking) (claim : Claim) (front : Front) (visits : Option ℕ) (ts : List Turn) (proof : Proof) (is_open : Bool)
    → (IsSmallClaim claim × Fits b proof → ⊥) → WalksBehind p b claim front visits ts (leaf_with is_open proof) Misfit
left_unjudged p b claim front visits ts proof is_open none = record {
  goes_on = λ node. record { judges = λ small cuts fits. none (small, leaf_fits b proof is_open (node_fits b ts (leaf_with is_open proof) node fits).1); stands = tt };
  ends = λ root is small cuts fits. none (small, leaf_fits b proof is_open (root_fits b ts (leaf_with is_open proof) root is fits).1);
}

-- the lines of a leaf at a place
leaf_at : (p : Program) (b : Blocking) (claim : Claim) (ts : List Turn) (place : NodePlace) (proof : Proof) (is_open : Bool) (r : Result NodePlace Stop) → place.zone ≡ zone_of p.spans ts
    → JudgesLines p b claim (leaf_line (record { zone = place.zone; proof = proof; is_open = is_open }) ∷ []) place r
    → JudgesLines p b claim (tree_lines (leaf_with is_open proof) (zone_of p.spans ts)) place r
leaf_at p b claim ts place proof is_open r zone h =
    let P : List Line → Type 0 = λ xs. JudgesLines p b claim xs place r in
    let Q : List Span → Type 0 = λ ss. JudgesLines p b claim (tree_lines (leaf_with is_open proof) ss) place r in
    subst Q zone (subst P (sym (leaf_lines proof is_open place.zone)) h)

-- a leaf's line ends the judgement
pub left_ended : (p : Program) (b : Blocking) (claim : Claim) (front : Front) (visits : Option ℕ) (ts : List Turn) (path : Path) (proof : Proof) (is_open : Bool) (stop : Stop)
    → JudgesLines p b claim (leaf_line (record { zone = path.place.zone; proof = proof; is_open = is_open }) ∷ []) path.place (Err stop)
    → WalksBelow p b claim front visits ts (At path) → WalksBehind p b claim front visits ts (leaf_with is_open proof) (Ended stop)
left_ended p b claim front visits ts path proof is_open stop judged h =
    let t = leaf_with is_open proof in
    let lines = lines_to p claim front (below ts) in
    let more = tree_lines t (zone_of p.spans ts) in
    let end = leaf_at p b claim ts path.place proof is_open (Err stop) h.stands.1 judged in
    record {
      goes_on = λ none. record {
        judges = ends_on p b claim lines more (lines_to p claim front (below (turns_behind ts t))) visits path.place.left path.place.line stop.line stop.fault
            (node_comes p claim front ts t none) h.judges.0 h.judges.1 h.judges.2 end;
        stands = tt;
      };
      ends = λ root is. ends_on p b claim lines more (lines_to p claim front (whole root)) visits path.place.left path.place.line stop.line stop.fault
          (root_comes p claim front ts t root is) h.judges.0 h.judges.1 h.judges.2 end;
    }

-- it passes
pub left_at : (p : Program) (b : Blocking) (claim : Claim) (front : Front) (visits : Option ℕ) (ts : List Turn) (path now : Path) (place : NodePlace) (proof : Proof) (is_open : Bool)
    → JudgesLines p b claim (leaf_line (record { zone = path.place.zone; proof = proof; is_open = is_open }) ∷ []) path.place (Ok place)
    → now.place.line ≡ place.line → now.place.left ≡ place.left
    → ((us : List Turn) (u : Tree) → AreForksOf p.spans path.forks.items us → place.zone ≡ zone_of p.spans us → GoesOn p.spans us u now)
    → WalksBelow p b claim front visits ts (At path) → WalksBehind p b claim front visits ts (leaf_with is_open proof) (At now)
left_at p b claim front visits ts path now place proof is_open judged line left moved h =
    let t = leaf_with is_open proof in
    let lines = lines_to p claim front (below ts) in
    let more = tree_lines t (zone_of p.spans ts) in
    let passed = leaf_at p b claim ts path.place proof is_open (Ok place) h.stands.1 judged in
    let goes = moved ts t h.stands.0 (judged.0 ∙ h.stands.1) in
    let spend : IsLeft p.spans b more path.place.left now.place.left = subst (λ (o : Option ℕ). IsLeft p.spans b more path.place.left o) (sym left) passed.3 in
    record {
      goes_on = λ none. record {
        judges = passes_on p b claim lines more (lines_to p claim front (below (turns_behind ts t))) visits path.place.left now.place.left path.place.line now.place.line
            (node_comes p claim front ts t none) h.judges.0 h.judges.1 h.judges.2 (line ∙ passed.1) passed.2 spend;
        stands = (goes.forks, goes.zone);
      };
      ends = λ root is. passes_on p b claim lines more (lines_to p claim front (whole root)) visits path.place.left now.place.left path.place.line now.place.line
          (root_comes p claim front ts t root is) h.judges.0 h.judges.1 h.judges.2 (line ∙ passed.1) passed.2 spend;
    }

-- over a program that is this one where the walk goes on
pub left_over : (b : BlockedProgram) (p : Program) (k : Blocking) (claim : Claim) (front : Front) (visits : Option ℕ) (ts : List Turn) (t : Tree) (walk : Walk) (path : Path)
    (r : Result Walk AllocError) → walk ≡ At path → GoesOver b p k walk → WalksBelow p k claim front visits ts walk
    → ((f : Front) (v : Option ℕ) (us : List Turn) → WalksBelow b.named.program b.blocking claim f v us (At path)
    → IfOk r (WalksBehind b.named.program b.blocking claim f v us t)) → IfOk r (WalksBehind p k claim front visits ts t)
left_over b p k claim front visits ts t walk path r is over h leaves =
    let same = subst (GoesOver b p k) is over in
    let here = subst (WalksBelow p k claim front visits ts) is h in
    let P : Program → Type 0 = λ q. WalksBelow q k claim front visits ts (At path) in
    let K : Blocking → Type 0 = λ j. WalksBelow b.named.program j claim front visits ts (At path) in
    let Q : Blocking → Type 0 = λ j. IfOk r (WalksBehind b.named.program j claim front visits ts t) in
    let R : Program → Type 0 = λ q. IfOk r (WalksBehind q k claim front visits ts t) in
    subst R (sym same.0) (subst Q (sym same.1) (leaves front visits ts (subst K same.1 (subst P same.0 here))))

-- a leaf whose proof fits no such program
pub left_foreign : (b : BlockedProgram) (p : Program) (k : Blocking) (claim : Claim) (front : Front) (visits : Option ℕ) (ts : List Turn) (walk : Walk) (path : Path) (proof : Proof) (is_open : Bool)
    → walk ≡ At path → GoesOver b p k walk → (IsSmallClaim claim × Fits b.blocking proof → ⊥) → WalksBehind p k claim front visits ts (leaf_with is_open proof) Misfit
left_foreign b p k claim front visits ts walk path proof is_open is over none =
    let same = subst (GoesOver b p k) is over in
    left_unjudged p k claim front visits ts proof is_open (λ both. none (both.0, subst (λ (j : Blocking). Fits j proof) same.1 both.1))
