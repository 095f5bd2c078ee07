-- Laws of the levels that a search stands below.
use Rattle.std.proofs.Common.{◌≡◌, refl, sym, ap, subst, ◌∙◌, ℕ, zero, suc, ◌+◌, ◌-◌, ◌*◌, ◌^◌, ◌<◌, ◌≤◌, Bool, List, [], ◌∷◌, length, drop, get_or, set, arith}
use Rattle.std.proofs.Math.IntN.{ℤ, pos, negsuc, ◌-ℤ◌}
use Rattle.std.proofs.Math.Nat.{suc-mul}
use Rattle.std.proofs.Math.Numerals.{add-one}
use Rattle.std.proofs.Math.Seq.{drop-cons}
use Rattle.std.specs.Prelude.{Option, None, Some, IfSome, All}
use Rattle.std.proofs.lemmas.Int.{ints}
use Rattle.std.proofs.lemmas.List.{length-set, get_or-set_same, get_or-set_other}
use Rattle.bp_theory.specs.Sums.{dot}
use Rattle.bp_theory.specs.Program.{span_at, IsWithin}
use Rattle.bp_theory.specs.Classes.{width, count_to}
use Rattle.bp_theory.specs.Trees.{IsSubzone}
use Rattle.bp_theory.specs.declared.Span.{Span}
use Rattle.bp_theory.specs.declared.Row.{Row}
use Rattle.pricing_problem.specs.Form.{HasShortEnds}
use Rattle.enumeration.specs.Reach.{CanMeetRow, IsNarrowed}
use Rattle.enumeration.specs.Best.{AllCovered, IsNoWorse}
use Rattle.enumeration.specs.Relax.{IsUndercut}
use Rattle.enumeration.specs.Search.{IsTracked, IsPaid, IsOver, single, step_value, Follows}
use Rattle.enumeration.specs.Levels.{AreCoveredTo, widened, IsTried, IsFramed, IsBelow, nodes_of, rest_of, left_behind, left_from}
use Rattle.enumeration.specs.declared.dive.Dive.{Dive}
use Rattle.enumeration.specs.declared.frame.Frame.{Frame}
use Rattle.enumeration.specs.declared.frame.Frame.TheVariants.{Passed, At}
use Rattle.enumeration.specs.declared.frame.Node.{Node}
use Rattle.enumeration.specs.declared.relax.Relaxed.{Relaxed}
use Rattle.enumeration.proofs.ReachLaws.{span_at-set}
use Rattle.enumeration.proofs.SearchLaws.{IsWholeAt, set_twice, set_back, narrowed_more, narrowed_past, covered_more, covered_all}
use Rattle.enumeration.proofs.RelaxLaws.{covered_over}

-- a widened zone is whole at the variable
pub widened_at : (zone narrow : List Span) (var : ℕ) → var < length narrow → span_at (widened zone narrow var) var ≡ span_at zone var
widened_at zone narrow var l = span_at-set narrow var (span_at zone var) l

-- the number of a variable after a widened zone
pub widened_set : (zone narrow : List Span) (var : ℕ) (s : Span) → set (widened zone narrow var) var s ≡ set narrow var s
widened_set zone narrow var s = set_twice narrow var (span_at zone var) s

-- a zone that is whole at a variable is that with its whole span
pub widened_whole : (zone narrow : List Span) (var : ℕ) → span_at narrow var ≡ span_at zone var → widened zone narrow var ≡ narrow
widened_whole zone narrow var e = ap (set narrow var) (sym e) ∙ set_back narrow var

-- and it is again that zone after a number
pub widened_again : (zone outer : List Span) (var : ℕ) (s : Span) → span_at outer var ≡ span_at zone var → widened zone (set outer var s) var ≡ outer
widened_again zone outer var s e = set_twice outer var s (span_at zone var) ∙ widened_whole zone outer var e

-- where all numbers of a variable are covered, so is the zone with its whole span
pub tried_all : (rows : List Row) (zone old new : List Span) (costs : List ℤ) (before now : Option ℤ) (var step : ℕ) (up : Bool)
    → var < length old → IsSubzone new zone → new ≡ widened zone old var → now ≡ before → width (span_at zone var) ≤ step
    → AreCoveredTo rows (widened zone old var) costs up (span_at zone var) var step before
    → AllCovered rows new costs now
tried_all rows zone old new costs before now var step up l inside is same wide had =
    subst (AllCovered rows new costs) (sym same)
    (covered_all rows zone new costs var step up before
    (omega (arith, l, ap (λ (zs : List Span). length zs) is, length-set old var (span_at zone var)))
    (record { inside = inside; whole = ap (λ (zs : List Span). span_at zs var) is ∙ widened_at zone old var l })
    wide
    (subst (λ (zs : List Span). AreCoveredTo rows zs costs up (span_at zone var) var step before) (sym is) had))

-- and where no later number leads to a cheaper point
pub tried_over : (rows : List Row) (zone old new : List Span) (costs : List ℤ) (r : Relaxed) (d : Dive) (now : Option ℤ) (var step : ℕ) (up : Bool) (v cost : ℤ)
    → var < length old → length costs ≡ length old → length r.costs.items ≡ length old
    → IsSubzone new zone → new ≡ widened zone old var → now ≡ d.best
    → v ≡ step_value up (span_at zone var) step → Follows up (get_or r.costs.items var (pos 0)) → IsUndercut rows zone costs r
    → AreCoveredTo rows (widened zone old var) costs up (span_at zone var) var step d.best
    → d.zone.items ≡ set old var (single v) → IsTracked rows zone costs d → IsPaid r d → cost ≡ get_or costs var (pos 0)
    → IsOver r d up cost
    → AllCovered rows new costs now
tried_over rows zone old new costs r d now var step up v cost l e f inside is same value follows below had placed tracked paid read over =
    let many : length (widened zone old var) ≡ length old = length-set old var (span_at zone var) in
    subst (AllCovered rows new costs) (sym same)
    (subst (λ (zs : List Span). AllCovered rows zs costs d.best) (sym is)
    (covered_over rows zone (widened zone old var) costs r d var step up v cost
    (omega (arith, l, many)) (e ∙ sym many) (f ∙ sym many)
    (record { inside = subst (λ (zs : List Span). IsSubzone zs zone) is inside; whole = widened_at zone old var l })
    value follows below had (placed ∙ sym (widened_set zone old var (single v))) tracked paid read over))

-- what is said of the levels before, at another place and for another best cost
framed_map : (rows : List Row) (zone : List Span) (costs adjusted : List ℤ) (before now : Option ℤ) (var : ℕ) (Before After : List Span → Type 0) (frame : Frame) (narrow : List Span)
    → IsNoWorse before now → ((zs : List Span) → Before zs → After zs)
    → IsFramed rows zone costs adjusted before var Before frame narrow → IsFramed rows zone costs adjusted now var After frame narrow
framed_map rows zone costs adjusted before now var Before After Passed narrow better go h = go narrow h
framed_map rows zone costs adjusted before now var Before After (At up step) narrow better go h = (
  record {
    there = h.0.there;
    placed = h.0.placed;
    can = h.0.can;
    follows = h.0.follows;
    covered = λ y point less. better (dot costs y) (h.0.covered y point less);
  },
  go (widened zone narrow var) h.1,
)

-- levels before a frame that is written stand as they were
pub below_written : (rows : List Row) (zone : List Span) (costs adjusted : List ℤ) (order : List ℕ) (frames : List Frame) (best : Option ℤ) (level k : ℕ) (frame : Frame)
    (narrow : List Span) → level ≤ k
    → IsBelow rows zone costs adjusted order frames best level narrow → IsBelow rows zone costs adjusted order (set frames k frame) best level narrow
below_written rows zone costs adjusted order frames best zero k frame narrow l h = h
below_written rows zone costs adjusted order frames best (suc level) k frame narrow l h = (
  h.0,
  subst (λ (f : Frame). IsFramed rows zone costs adjusted best (get_or order level 0) (IsBelow rows zone costs adjusted order (set frames k frame) best level) f narrow)
      (sym (get_or-set_other frames k level frame Passed (λ e. omega (arith, l, e))))
      (framed_map rows zone costs adjusted best best (get_or order level 0)
      (IsBelow rows zone costs adjusted order frames best level) (IsBelow rows zone costs adjusted order (set frames k frame) best level)
      (get_or frames level Passed) narrow (λ cost c. c)
      (λ zs b. below_written rows zone costs adjusted order frames best level k frame zs (omega (arith, l)) b) h.1),
)

-- a cheaper best point covers what the one before covers
pub below_better : (rows : List Row) (zone : List Span) (costs adjusted : List ℤ) (order : List ℕ) (frames : List Frame) (before now : Option ℤ) (level : ℕ)
    (narrow : List Span) → IsNoWorse before now
    → IsBelow rows zone costs adjusted order frames before level narrow → IsBelow rows zone costs adjusted order frames now level narrow
below_better rows zone costs adjusted order frames before now zero narrow better h = h
below_better rows zone costs adjusted order frames before now (suc level) narrow better h = (
  h.0,
  framed_map rows zone costs adjusted before now (get_or order level 0)
      (IsBelow rows zone costs adjusted order frames before level) (IsBelow rows zone costs adjusted order frames now level)
      (get_or frames level Passed) narrow better
      (λ zs b. below_better rows zone costs adjusted order frames before now level zs better b) h.1,
)

-- what is narrowed below a level
pub below_narrowed : (rows : List Row) (zone : List Span) (costs adjusted : List ℤ) (order : List ℕ) (frames : List Frame) (best : Option ℤ) (level : ℕ) (narrow : List Span)
    → IsBelow rows zone costs adjusted order frames best level narrow → IsNarrowed zone order level narrow
below_narrowed rows zone costs adjusted order frames best zero narrow h = h.0
below_narrowed rows zone costs adjusted order frames best (suc level) narrow h = h.0

-- a level more, whose variable had one number before
pub below_passed : (rows : List Row) (zone : List Span) (costs adjusted : List ℤ) (order : List ℕ) (frames : List Frame) (best : Option ℤ) (level : ℕ) (narrow : List Span)
    → level < length frames → (span_at narrow (get_or order level 0) ≡ span_at zone (get_or order level 0) → ⊥)
    → IsBelow rows zone costs adjusted order frames best level narrow
    → IsBelow rows zone costs adjusted order (set frames level Passed) best (suc level) narrow
below_passed rows zone costs adjusted order frames best level narrow l changed h = (
  subst (λ n. IsNarrowed zone order n narrow) (add-one level)
      (narrowed_past zone narrow order level (get_or order level 0) refl changed (below_narrowed rows zone costs adjusted order frames best level narrow h)),
  subst (λ (f : Frame). IsFramed rows zone costs adjusted best (get_or order level 0) (IsBelow rows zone costs adjusted order (set frames level Passed) best level) f narrow)
      (sym (get_or-set_same frames level Passed Passed l))
      (below_written rows zone costs adjusted order frames best level level Passed narrow (omega arith) h),
)

-- a level more, whose variable has the number at a step
pub below_tried : (rows : List Row) (zone : List Span) (costs adjusted : List ℤ) (order : List ℕ) (frames : List Frame) (best : Option ℤ) (level : ℕ) (outer narrow : List Span)
    (up : Bool) (step : ℕ)
    → level < length frames → get_or order level 0 < length zone → get_or order level 0 < length outer
    → span_at outer (get_or order level 0) ≡ span_at zone (get_or order level 0)
    → step < width (span_at zone (get_or order level 0))
    → IsWithin (span_at zone (get_or order level 0)) (step_value up (span_at zone (get_or order level 0)) step)
    → narrow ≡ set outer (get_or order level 0) (single (step_value up (span_at zone (get_or order level 0)) step))
    → All (CanMeetRow outer) rows → Follows up (get_or adjusted (get_or order level 0) (pos 0))
    → AreCoveredTo rows outer costs up (span_at zone (get_or order level 0)) (get_or order level 0) step best
    → IsBelow rows zone costs adjusted order frames best level outer
    → IsBelow rows zone costs adjusted order (set frames level (At up step)) best (suc level) narrow
below_tried rows zone costs adjusted order frames best level outer narrow up step l in_zone in_outer whole there within is can follows covered h = (
  subst (IsNarrowed zone order (suc level)) (sym is)
      (subst (λ n. IsNarrowed zone order n (set outer (get_or order level 0) number)) (add-one level)
      (narrowed_more zone outer order level (get_or order level 0) (step_value up (span_at zone (get_or order level 0)) step) in_zone refl
      (below_narrowed rows zone costs adjusted order frames best level outer h) within)),
  subst (λ (f : Frame). IsFramed rows zone costs adjusted best (get_or order level 0) (IsBelow rows zone costs adjusted order (set frames level (At up step)) best level) f narrow)
      (sym (get_or-set_same frames level (At up step) Passed l)) (
        tried,
        subst (IsBelow rows zone costs adjusted order (set frames level (At up step)) best level) (sym again)
            (below_written rows zone costs adjusted order frames best level level (At up step) outer (omega arith) h),
      ),
)
  where
    number : Span
    number = single (step_value up (span_at zone (get_or order level 0)) step)

    again : widened zone narrow (get_or order level 0) ≡ outer
    again = ap (λ (zs : List Span). widened zone zs (get_or order level 0)) is ∙ widened_again zone outer (get_or order level 0) number whole

    tried : IsTried rows zone costs adjusted best (get_or order level 0) up step narrow
    tried = record {
      there = there;
      placed = is ∙ sym (ap (λ (zs : List Span). set zs (get_or order level 0) number) is ∙ set_twice outer (get_or order level 0) number number);
      can = subst (λ (zs : List Span). All (CanMeetRow zs) rows) (sym again) can;
      follows = follows;
      covered = subst (λ (zs : List Span). AreCoveredTo rows zs costs up (span_at zone (get_or order level 0)) (get_or order level 0) step best) (sym again) covered;
    }

-- where the zone with a number is covered, so are the points up to its step
pub tried_more : (rows : List Row) (zone narrow : List Span) (costs adjusted : List ℤ) (best : Option ℤ) (var : ℕ) (up : Bool) (step : ℕ)
    → var < length narrow → IsWholeAt zone var (widened zone narrow var)
    → IsTried rows zone costs adjusted best var up step narrow → AllCovered rows narrow costs best
    → AreCoveredTo rows (widened zone narrow var) costs up (span_at zone var) var (step + 1) best
tried_more rows zone narrow costs adjusted best var up step l whole tried covered =
    covered_more rows zone (widened zone narrow var) costs var step up (step_value up (span_at zone var) step) best best
    (omega (arith, l, length-set narrow var (span_at zone var))) whole refl tried.covered (λ cost c. c)
    (subst (λ (zs : List Span). AllCovered rows zs costs best)
    (tried.placed ∙ sym (widened_set zone narrow var (single (step_value up (span_at zone var) step)))) covered)

-- the numbers of a short span are counted in 64 bits
pub width_short : (s : Span) → HasShortEnds s → width s < 2 ^ 64
width_short s h = by (s.hi -ℤ s.lo) refl
  where
    by : (d : ℤ) → s.hi -ℤ s.lo ≡ d → count_to d < 2 ^ 64
    by (pos n) e = omega (arith, ints, h.lo, h.hi, e)
    by (negsuc n) e = omega arith

-- frames that are written behind a level leave as many nodes
pub left_written : (zone : List Span) (order : List ℕ) (frames : List Frame) (level k : ℕ) (frame : Frame) → level ≤ k
    → left_behind zone order (set frames k frame) level ≡ left_behind zone order frames level
left_written zone order frames zero k frame l = refl
left_written zone order frames (suc level) k frame l =
    ap (λ n. n + rest_of (get_or (set frames k frame) level Passed) (width (span_at zone (get_or order level 0))) * nodes_of zone (drop (suc level) order))
    (left_written zone order frames level k frame (omega (arith, l)))
    ∙ ap (λ (f : Frame). left_behind zone order frames level + rest_of f (width (span_at zone (get_or order level 0))) * nodes_of zone (drop (suc level) order))
    (get_or-set_other frames k level frame Passed (λ e. omega (arith, l, e)))

-- the nodes from a level on, by those from the next one on
nodes_more : (zone : List Span) (order : List ℕ) (level : ℕ) → level < length order
    → nodes_of zone (drop level order) ≡ 1 + width (span_at zone (get_or order level 0)) * nodes_of zone (drop (suc level) order)
nodes_more zone order level l = ap (nodes_of zone) (drop-cons order level 0 l)

-- what a level's frame leaves
left_more : (zone : List Span) (order : List ℕ) (frames : List Frame) (level : ℕ) (frame : Frame) → level < length frames
    → left_behind zone order (set frames level frame) (suc level)
    ≡ left_behind zone order frames level + rest_of frame (width (span_at zone (get_or order level 0))) * nodes_of zone (drop (suc level) order)
left_more zone order frames level frame l =
    ap (λ n. n + rest_of (get_or (set frames level frame) level Passed) (width (span_at zone (get_or order level 0))) * nodes_of zone (drop (suc level) order))
    (left_written zone order frames level level frame (omega arith))
    ∙ ap (λ (f : Frame). left_behind zone order frames level + rest_of f (width (span_at zone (get_or order level 0))) * nodes_of zone (drop (suc level) order))
    (get_or-set_same frames level frame Passed l)

-- a multiple of a number by one more
times_more : (a w n : ℕ) → w ≡ suc a → w * n ≡ a * n + n
times_more a w n e = subst (λ v. v * n ≡ a * n + n) (sym e) (suc-mul a n)

-- a level that is passed leaves fewer nodes
pub passed_less : (zone : List Span) (order : List ℕ) (frames : List Frame) (level : ℕ) → level < length frames → level < length order
    → 0 < width (span_at zone (get_or order level 0))
    → left_from zone order (set frames level Passed) (suc level) < left_from zone order frames level
passed_less zone order frames level l m wide = less (left_behind zone order frames level) (width (span_at zone (get_or order level 0))) (nodes_of zone (drop (suc level) order))
    (left_more zone order frames level Passed l) (nodes_more zone order level m) wide
  where
    less : (b w n : ℕ) {new all : ℕ} → new ≡ b + 0 * n → all ≡ 1 + w * n → 0 < w → new + n < b + all
    less b w n e f h = omega (arith, e, f, times_more (w - 1) w n (omega (arith, h)))

-- so does one whose first number is tried
pub first_less : (zone : List Span) (order : List ℕ) (frames : List Frame) (level : ℕ) (up : Bool) → level < length frames → level < length order
    → 0 < width (span_at zone (get_or order level 0))
    → left_from zone order (set frames level (At up 0)) (suc level) < left_from zone order frames level
first_less zone order frames level up l m wide = less (left_behind zone order frames level) (width (span_at zone (get_or order level 0))) (nodes_of zone (drop (suc level) order))
    (left_more zone order frames level (At up 0) l) (nodes_more zone order level m) wide
  where
    less : (b w n : ℕ) {new all : ℕ} → new ≡ b + (w - suc 0) * n → all ≡ 1 + w * n → 0 < w → new + n < b + all
    less b w n e f h = omega (arith, e, f, times_more (w - suc 0) w n (omega (arith, h)))

-- and the next number takes one of those that are left
pub next_no_more : (zone : List Span) (order : List ℕ) (frames : List Frame) (level : ℕ) (up : Bool) (step : ℕ) → level < length frames
    → get_or frames level Passed ≡ At up step → step + 1 < width (span_at zone (get_or order level 0))
    → left_from zone order (set frames level (At up (step + 1))) (suc level) ≤ left_behind zone order frames (suc level)
next_no_more zone order frames level up step l is there = fewer (left_behind zone order frames level) (width (span_at zone (get_or order level 0))) (nodes_of zone (drop (suc level) order))
    (left_more zone order frames level (At up (step + 1)) l)
    (ap (λ (f : Frame). left_behind zone order frames level + rest_of f (width (span_at zone (get_or order level 0))) * nodes_of zone (drop (suc level) order)) is)
    there
  where
    fewer : (b w n : ℕ) {new old : ℕ} → new ≡ b + (w - suc (step + 1)) * n → old ≡ b + (w - suc step) * n → step + 1 < w → new + n ≤ old
    fewer b w n e f h = omega (arith, e, f, times_more (w - suc (step + 1)) (w - suc step) n (omega (arith, h)))

-- a level that is left leaves no more
pub leave_no_more : (zone : List Span) (order : List ℕ) (frames : List Frame) (level : ℕ) → left_behind zone order frames level ≤ left_behind zone order frames (suc level)
leave_no_more zone order frames level = omega arith

-- how many nodes there are at most from the next one on
abbrev pub left_ahead : (zone : List Span) (order : List ℕ) (frames : List Frame) → Option Node → ℕ
left_ahead zone order frames None = 0
left_ahead zone order frames (Some node) = left_from zone order frames node.level

nodes_some : (zone : List Span) (vars : List ℕ) → 0 < nodes_of zone vars
nodes_some zone [] = omega arith
nodes_some zone (var ∷ vars) = omega arith

-- after a node there are fewer
pub ahead_less : (zone : List Span) (order : List ℕ) (frames later : List Frame) (level : ℕ) (next : Option Node)
    → IfSome next (λ node. left_from zone order later node.level < left_from zone order frames level)
    → left_ahead zone order later next < left_from zone order frames level
ahead_less zone order frames later level None h = omega (arith, nodes_some zone (drop level order))
ahead_less zone order frames later level (Some node) h = h

-- what is left behind a node is fewer than what is left from it on
pub behind_less : (zone : List Span) (order : List ℕ) (frames : List Frame) (level n : ℕ) → n ≤ left_behind zone order frames level
    → n < left_from zone order frames level
behind_less zone order frames level n l = omega (arith, l, nodes_some zone (drop level order))
