-- Laws of one layer's arcs as they are made.
use Rattle.std.proofs.Common.{◌≡◌, refl, sym, ap, subst, ◌∙◌, ℕ, zero, suc, ◌+◌, ◌<◌, ◌≤◌, List, [], ◌∷◌, ◌++◌, length, get_or, arith, inl, inr, ⊎_elim}
use Rattle.std.proofs.Math.IntN.{ℤ, pos, ◌+ℤ◌, ◌-ℤ◌, ◌*ℤ◌}
use Rattle.std.specs.Prelude.{◌≤ℤ◌, ◌<ℤ◌, ◌⊎◌, All}
use Rattle.std.specs.Int.{int_min, int_max}
use Rattle.std.proofs.lemmas.List.{get_or_default}
use Rattle.std.proofs.lemmas.Int.{ints, clamps, by_lt_z}
use Rattle.std.proofs.lemmas.Bool.{cases_lt}
use Rattle.bp_theory.specs.Program.{span_at, IsWithin}
use Rattle.bp_theory.specs.Classes.{width}
use Rattle.bp_theory.specs.declared.Span.{Span}
use Rattle.state_graph.specs.Windows.{clip, coef_of, IsEmpty, IsFound, IsGrown}
use Rattle.state_graph.specs.Layers.{IsShaped, AreBare}
use Rattle.layer_graph.specs.Graphs.{arc_at, AreOrdered, Leads}
use Rattle.state_graph.specs.Expansions.{state_at, IsEndState, HaveRows, IsStateOf, IsLeft, IsGone, IsSound, IsServed, IsBuilt, IsExpanded}
use Rattle.layer_graph.specs.declared.graph.Arc.{Arc}
use Rattle.state_graph.specs.declared.layers.Layer.{Layer}

-- an element of a list with one more at the end
old_at : {X : Type 0} (xs : List X) (x d : X) (k : ℕ) → k < length xs → get_or (xs ++ (x ∷ [])) k d ≡ get_or xs k d
old_at [] x d k l = absurd (omega arith)
old_at (y ∷ ys) x d zero l = refl
old_at (y ∷ ys) x d (suc k) l = old_at ys x d k (omega arith)

new_at : {X : Type 0} (xs : List X) (x d : X) → get_or (xs ++ (x ∷ [])) (length xs) d ≡ x
new_at [] x d = refl
new_at (y ∷ ys) x d = new_at ys x d

longer : {X : Type 0} (xs : List X) (x : X) → length (xs ++ (x ∷ [])) ≡ length xs + 1
longer [] x = omega arith
longer (y ∷ ys) x = omega (arith, longer ys x)

-- a served number stays served by more arcs
served_more : (layer : Layer) (states : List (List Span)) (arcs : List Arc) (arc : Arc) (i : ℕ) (y : ℤ) → IsServed layer states arcs i y → IsServed layer states (arcs ++ (arc ∷ [])) i y
served_more layer states arcs arc i y (inl lost) = inl lost
served_more layer states arcs arc i y (inr (j, leads)) =
    let same : arc_at (arcs ++ (arc ∷ [])) j ≡ arc_at arcs j = old_at arcs arc (record { from = 0; to = 0; label = record { lo = pos 0; hi = pos 0 } }) j leads.there in
    inr (
      j,
      record {
        there = omega (arith, leads.there, longer arcs arc);
        from = ap (λ (a : Arc). a.from) same ∙ leads.from;
        within = subst (λ (a : Arc). IsWithin a.label y) (sym same) leads.within;
      },
    )

-- the least number not served is served, and so are those up to it
up_to : (y end : ℤ) → y <ℤ (end +ℤ pos 1) → (y <ℤ end) ⊎ (y ≡ end)
up_to y end l = by_lt_z y end (λ less. inl less) (λ more. inr (omega (arith, ints)))

-- where an arc starts in a list with one more at the end
old_from : (arcs : List Arc) (arc : Arc) (j : ℕ) → j < length arcs → (arc_at (arcs ++ (arc ∷ [])) j).from ≡ (arc_at arcs j).from
old_from arcs arc j l = ap (λ (a : Arc). a.from) (old_at arcs arc (record { from = 0; to = 0; label = record { lo = pos 0; hi = pos 0 } }) j l)

new_from : (arcs : List Arc) (arc : Arc) (j : ℕ) → j ≡ length arcs → (arc_at (arcs ++ (arc ∷ [])) j).from ≡ arc.from
new_from arcs arc j e =
    ap (λ n. (arc_at (arcs ++ (arc ∷ [])) n).from) e
    ∙ ap (λ (a : Arc). a.from) (new_at arcs arc (record { from = 0; to = 0; label = record { lo = pos 0; hi = pos 0 } }))

-- arcs start at no node behind one
upto_more : (arcs : List Arc) (arc : Arc) (from : ℕ) → arc.from ≡ from → ((j : ℕ) → j < length arcs → (arc_at arcs j).from ≤ from)
    → (j : ℕ) → j < length (arcs ++ (arc ∷ [])) → (arc_at (arcs ++ (arc ∷ [])) j).from ≤ from
upto_more arcs arc from is upto j l = ⊎_elim
    (λ less. omega (arith, old_from arcs arc j less, upto j less))
    (λ above. omega (arith, new_from arcs arc j (omega (arith, l, above, longer arcs arc)), is))
    (cases_lt j (length arcs))

-- they stay in order
ordered_more : (arcs : List Arc) (arc : Arc) (from : ℕ) → arc.from ≡ from → ((j : ℕ) → j < length arcs → (arc_at arcs j).from ≤ from)
    → AreOrdered arcs → AreOrdered (arcs ++ (arc ∷ []))
ordered_more arcs arc from is upto ordered j k le l = ⊎_elim
    (λ less. omega (arith, old_from arcs arc k less, old_from arcs arc j (omega (arith, le, less)), ordered j k le less))
    (λ above. omega (arith, new_from arcs arc k (omega (arith, l, above, longer arcs arc)), is, upto_more arcs arc from is upto j (omega (arith, le, l))))
    (cases_lt k (length arcs))

-- a window that is left of a hull to which nothing can be added has nothing but 0
zero_left : (w : Span) (d : ℤ) (h : Span) → h ≡ record { lo = pos 0; hi = pos 0 } → (IsEmpty (clip w d h) → ⊥) → IsWithin (clip w d h) (pos 0)
zero_left w d h e filled =
    subst (λ (x : Span). IsWithin (clip w d x) (pos 0)) (sym e) (by w.lo w.hi d (subst (λ (x : Span). IsEmpty (clip w d x) → ⊥) e filled))
  where
    crossed : (a b : ℤ) → (b <ℤ a → ⊥) → a ≤ℤ b
    crossed a b none = by_lt_z b a (λ less. absurd (none less)) (λ more. more)

    by : (a b d : ℤ) → (int_min (b -ℤ d) (pos 0) <ℤ int_max (a -ℤ d) (pos 0) → ⊥)
        → IsWithin (record { lo = int_max (a -ℤ d) (pos 0); hi = int_min (b -ℤ d) (pos 0) }) (pos 0)
    by a b d none = record {
      above = low (a -ℤ d) (b -ℤ d) (crossed (int_max (a -ℤ d) (pos 0)) (int_min (b -ℤ d) (pos 0)) none);
      below = high (a -ℤ d) (b -ℤ d) (crossed (int_max (a -ℤ d) (pos 0)) (int_min (b -ℤ d) (pos 0)) none);
    }
      where
        low : (a b : ℤ) → int_max a (pos 0) ≤ℤ int_min b (pos 0) → int_max a (pos 0) ≤ℤ pos 0
        low a b p = omega (arith, ints, clamps)

        high : (a b : ℤ) → int_max a (pos 0) ≤ℤ int_min b (pos 0) → pos 0 ≤ℤ int_min b (pos 0)
        high a b p = omega (arith, ints, clamps)

-- so the state that is left behind the last layer allows the end
left_end : (layer : Layer) (state : List Span) (y : ℤ) (left : List Span) → length layer.hulls ≡ length state → IsLeft layer state y left → AreBare layer.hulls → IsEndState left
left_end layer state y left each m bare k d l =
    subst (λ (s : Span). IsWithin s (pos 0)) (get_or_default left k (record { lo = pos 0; hi = pos 0 }) d l)
    (m.joins.onto (λ row. pos 0) (λ row r. refl) holds k l)
  where
    holds : (row : ℕ) → row < length m.moved → IsWithin (span_at m.moved row) (pos 0)
    holds row r =
        let there : row < length state = omega (arith, r, m.moves.each) in
        subst (λ (s : Span). IsWithin s (pos 0)) (sym (m.moves.windows row there))
        (zero_left (span_at state row) (coef_of layer.column row *ℤ y) (span_at layer.hulls row) (bare row (omega (arith, there, each)))
        (λ e. m.filled row r (subst (λ (s : Span). IsEmpty s) (sym (m.moves.windows row there)) e)))

-- a number that leaves nothing
pub built_gone : (layer : Layer) (states : List (List Span)) (from : ℕ) (y : ℤ) (next : List (List Span)) (arcs : List Arc)
    → IsGone layer (state_at states from) y → IsBuilt layer states from y next arcs → IsBuilt layer states from (y +ℤ pos 1) next arcs
built_gone layer states from y next arcs gone b = record {
  sound = b.sound;
  before = b.before;
  rows = b.rows;
  here = λ z within less. by z within (up_to z y less);
  ordered = b.ordered;
  upto = b.upto;
  ends = b.ends;
}
  where
    by : (z : ℤ) → IsWithin layer.span z → (z <ℤ y) ⊎ (z ≡ y) → IsServed layer states arcs from z
    by z within (inl less) = b.here z within less
    by z within (inr same) = inl (subst (IsGone layer (state_at states from)) (sym same) gone)

-- states keep their numbers in a grown list
kept_at : (before now : List (List Span)) (state : List Span) (k : ℕ) → IsGrown before state now → k < length before → state_at now k ≡ state_at before k
kept_at before now state k (inl same) l = ap (λ (ss : List (List Span)). state_at ss k) same
kept_at before now state k (inr more) l = ap (λ (ss : List (List Span)). state_at ss k) more ∙ old_at before state [] k l

kept_many : (before now : List (List Span)) (state : List Span) → IsGrown before state now → length before ≤ length now
kept_many before now state (inl same) = omega (arith, ap (λ (ss : List (List Span)). length ss) same)
kept_many before now state (inr more) = omega (arith, ap (λ (ss : List (List Span)). length ss) more, longer before state)

pub grown_many : (before now : List (List Span)) (state : List Span) → IsGrown before state now → length now ≤ length before + 1
grown_many before now state (inl same) = omega (arith, ap (λ (ss : List (List Span)). length ss) same)
grown_many before now state (inr more) = omega (arith, ap (λ (ss : List (List Span)). length ss) more, longer before state)

kept_rows : (rows : ℕ) (before now : List (List Span)) (state : List Span) → IsGrown before state now → length state ≡ rows → HaveRows rows before → HaveRows rows now
kept_rows rows before now state (inl same) each have = subst (HaveRows rows) (sym same) have
kept_rows rows before now state (inr more) each have = subst (HaveRows rows) (sym more) here
  where
    here : HaveRows rows (before ++ (state ∷ []))
    here k d l = ⊎_elim
        (λ less. ap (λ (s : List Span). length s) (old_at before state d k less) ∙ have k d less)
        (λ above. let last : k ≡ length before = omega (arith, l, above, longer before state) in
        ap (λ n. length (get_or (before ++ (state ∷ [])) n d)) last ∙ ap (λ (s : List Span). length s) (new_at before state d) ∙ each)
        (cases_lt k (length before))

kept_each : (P : List Span → Type 0) (before now : List (List Span)) (state : List Span) → IsGrown before state now → P state → All P before → All P now
kept_each P before now state (inl same) is have = subst (λ (ss : List (List Span)). All P ss) (sym same) have
kept_each P before now state (inr more) is have = subst (λ (ss : List (List Span)). All P ss) (sym more) here
  where
    here : All P (before ++ (state ∷ []))
    here k d l = ⊎_elim
        (λ less. subst P (sym (old_at before state d k less)) (have k d less))
        (λ above. let last : k ≡ length before = omega (arith, l, above, longer before state) in
        subst (λ n. P (get_or (before ++ (state ∷ [])) n d)) (sym last) (subst P (sym (new_at before state d)) is))
        (cases_lt k (length before))

-- a number that leads to a state
pub built_moved : (layer : Layer) (states : List (List Span)) (from : ℕ) (y : ℤ) (next now : List (List Span)) (arcs : List Arc) (moved : List Span) (to : ℕ) (arc : Arc)
    → from < length states → IsWithin layer.span y → length layer.column ≡ length (state_at states from) → length layer.hulls ≡ length (state_at states from)
    → IsLeft layer (state_at states from) y moved → IsFound now moved to → IsGrown next moved now
    → arc ≡ record { from = from; to = to; label = record { lo = y; hi = y } }
    → IsBuilt layer states from y next arcs → IsBuilt layer states from (y +ℤ pos 1) now (arcs ++ (arc ∷ []))
built_moved layer states from y next now arcs moved to arc there within shaped each m found grown is b = record {
  sound = sound;
  before = λ i z less inside. served_more layer states arcs arc i z (b.before i z less inside);
  rows = kept_rows (length layer.column) next now moved grown ((m.joins.each ∙ m.moves.each) ∙ sym shaped) b.rows;
  here = λ z inside less. by z inside (up_to z y less);
  ordered = ordered_more arcs arc from (ap (λ (a : Arc). a.from) is) b.upto b.ordered;
  upto = upto_more arcs arc from (ap (λ (a : Arc). a.from) is) b.upto;
  ends = λ bare. kept_each IsEndState next now moved grown (left_end layer (state_at states from) y moved each m bare) (b.ends bare);
}
  where
    none : Arc
    none = record { from = 0; to = 0; label = record { lo = pos 0; hi = pos 0 } }

    one : (a b : ℤ) → a ≤ℤ b → b ≤ℤ a → b ≡ a
    one a b p q = omega (arith, ints)

    last : arc_at (arcs ++ (arc ∷ [])) (length arcs) ≡ record { from = from; to = to; label = record { lo = y; hi = y } }
    last = new_at arcs arc (record { from = 0; to = 0; label = record { lo = pos 0; hi = pos 0 } }) ∙ is

    last_sound : IsSound layer states now (record { from = from; to = to; label = record { lo = y; hi = y } })
    last_sound = record {
      from = there;
      to = found.there;
      within = λ z h. subst (IsWithin layer.span) (sym (one y z h.above h.below)) within;
      moves = λ z h. subst (λ v. IsLeft layer (state_at states from) v (state_at now to)) (sym (one y z h.above h.below))
          (subst (IsLeft layer (state_at states from) y) (sym found.same) m);
    }

    sound : (j : ℕ) → j < length (arcs ++ (arc ∷ [])) → IsSound layer states now (arc_at (arcs ++ (arc ∷ [])) j)
    sound j l = ⊎_elim
        (λ less. let s = b.sound j less in
        subst (IsSound layer states now) (sym (old_at arcs arc (record { from = 0; to = 0; label = record { lo = pos 0; hi = pos 0 } }) j less)) (record {
          from = s.from;
          to = omega (arith, s.to, kept_many next now moved grown);
          within = s.within;
          moves = λ z h. subst (IsLeft layer (state_at states (arc_at arcs j).from) z) (sym (kept_at next now moved (arc_at arcs j).to grown s.to)) (s.moves z h);
        }))
        (λ above. let at : j ≡ length arcs = omega (arith, l, above, longer arcs arc) in
        subst (λ n. IsSound layer states now (arc_at (arcs ++ (arc ∷ [])) n)) (sym at) (subst (IsSound layer states now) (sym last) last_sound))
        (cases_lt j (length arcs))

    leads : Leads (arcs ++ (arc ∷ [])) from y (length arcs)
    leads = record {
      there = omega (arith, longer arcs arc);
      from = ap (λ (a : Arc). a.from) last;
      within = subst (λ (a : Arc). IsWithin a.label y) (sym last) (record { above = omega (arith, ints); below = omega (arith, ints) });
    }

    by : (z : ℤ) → IsWithin layer.span z → (z <ℤ y) ⊎ (z ≡ y) → IsServed layer states (arcs ++ (arc ∷ [])) from z
    by z inside (inl less) = served_more layer states arcs arc from z (b.here z inside less)
    by z inside (inr same) = inr (length arcs, subst (λ v. Leads (arcs ++ (arc ∷ [])) from v (length arcs)) (sym same) leads)

-- no arcs yet
pub built_none : (layer : Layer) (states : List (List Span)) → IsBuilt layer states 0 layer.span.lo [] []
built_none layer states = record {
  sound = λ j l. absurd (omega arith);
  before = λ i y l within. absurd (omega arith);
  rows = λ k d l. absurd (omega arith);
  here = λ y within less. absurd (none layer.span.lo y within.above less);
  ordered = λ j k le l. absurd (omega (arith, l));
  upto = λ j l. absurd (omega (arith, l));
  ends = λ bare k d l. absurd (omega (arith, l));
}
  where
    none : (a b : ℤ) → a ≤ℤ b → b <ℤ a → ⊥
    none a b p q = omega (arith, ints)

-- all numbers of a state
pub built_state : (layer : Layer) (states : List (List Span)) (from : ℕ) (next : List (List Span)) (arcs : List Arc)
    → IsBuilt layer states from (layer.span.lo +ℤ pos (width layer.span)) next arcs → IsBuilt layer states (from + 1) layer.span.lo next arcs
built_state layer states from next arcs b = record {
  sound = b.sound;
  before = λ i y l within. ⊎_elim
      (λ less. b.before i y less within)
      (λ above. let same : i ≡ from = omega (arith, l, above) in
      subst (λ n. IsServed layer states arcs n y) (sym same) (b.here y within (below layer.span y within)))
      (cases_lt i from);
  rows = b.rows;
  here = λ y within less. absurd (none layer.span.lo y within.above less);
  ordered = b.ordered;
  upto = λ j l. omega (arith, b.upto j l);
  ends = b.ends;
}
  where
    none : (a b : ℤ) → a ≤ℤ b → b <ℤ a → ⊥
    none a b p q = omega (arith, ints)

    below : (s : Span) (y : ℤ) → IsWithin s y → y <ℤ (s.lo +ℤ pos (width s))
    below s y h = by s.lo s.hi y h.above h.below
      where
        by : (a b y : ℤ) → a ≤ℤ y → y ≤ℤ b → y <ℤ (a +ℤ pos (width (record { lo = a; hi = b })))
        by a b y p q = grind (arith, ints)

-- all states
pub built_all : (layer : Layer) (states next : List (List Span)) (arcs : List Arc) (from : ℕ) → length states ≤ from
    → IsBuilt layer states from layer.span.lo next arcs → IsExpanded layer states next arcs
built_all layer states next arcs from all b = record {
  sound = b.sound;
  rows = b.rows;
  served = λ i y l within. b.before i y (omega (arith, l, all)) within;
  ordered = b.ordered;
  ends = b.ends;
}

-- the same of a state that was read
pub read_gone : (layer : Layer) (states : List (List Span)) (from : ℕ) (y : ℤ) (next : List (List Span)) (arcs : List Arc) (state : List Span)
    → IsStateOf states from state → IsGone layer state y → IsBuilt layer states from y next arcs → IsBuilt layer states from (y +ℤ pos 1) next arcs
read_gone layer states from y next arcs state at gone built =
    built_gone layer states from y next arcs (subst (λ (s : List Span). IsGone layer s y) (sym at.same) gone) built

pub read_left : (layer : Layer) (states : List (List Span)) (from : ℕ) (y : ℤ) (next now : List (List Span)) (arcs : List Arc) (state left : List Span) (to : ℕ) (arc : Arc)
    → IsStateOf states from state → IsWithin layer.span y → IsShaped (length state) layer
    → IsLeft layer state y left → IsFound now left to → IsGrown next left now
    → arc ≡ record { from = from; to = to; label = record { lo = y; hi = y } }
    → IsBuilt layer states from y next arcs → IsBuilt layer states from (y +ℤ pos 1) now (arcs ++ (arc ∷ []))
read_left layer states from y next now arcs state left to arc at within shaped m found grown is built =
    built_moved layer states from y next now arcs left to arc at.there within (shaped.column ∙ ap (λ (s : List Span). length s) (sym at.same)) (shaped.hulls ∙ ap (λ (s : List Span). length s) (sym at.same))
    (subst (λ (s : List Span). IsLeft layer s y left) (sym at.same) m)
    found grown is built
