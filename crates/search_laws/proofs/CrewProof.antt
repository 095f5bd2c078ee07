-- The facts of a crew, kept by each event and so by every run.
use Rattle.std.proofs.Common.{◌≡◌, ◌≢◌, ◌⊎◌, refl, sym, ap, subst, ◌∙◌, ℕ, zero, suc, ◌+◌, Bool, true, false, List, [], ◌∷◌, length, get_or, set, replicate, Option, Some, None, arith, inl, inr, ⊎_elim}
use Rattle.std.proofs.Math.IntN.{ℤ}
use Rattle.std.specs.Prelude.{◌≤ℤ◌, ◌<ℤ◌, int_lt, if◌then◌else◌, IfSome, count_by, cond}
use Rattle.std.specs.Int.{int_min}
use Rattle.std.proofs.lemmas.Int.{ints, clamps}
use Rattle.std.proofs.lemmas.List.Sums.{sum_by-cons}
use Rattle.bp_theory.specs.Program.{Program, IsFeasible, cost}
use Rattle.bp_theory.specs.Blocking.{Blocking}
use Rattle.bp_theory.specs.Decomposition.{blocking_of}
use Rattle.bp_theory.specs.Cuts.{cut_rows}
use Rattle.bp_theory.specs.Trees.{steps}
use Rattle.bp_theory.proofs.CoverProof.{cover_lem}
use Rattle.search_laws.specs.declared.Side.{Side}
use Rattle.search_laws.specs.declared.Side.TheVariants.{Low, High}
use Rattle.search_laws.specs.declared.Next.{Next}
use Rattle.search_laws.specs.declared.Next.TheVariants.{Shut, Fork}
use Rattle.search_laws.specs.declared.Verdict.{Verdict}
use Rattle.search_laws.specs.Grove.{GrowingTree, live, shut, fork, LiveLeaf, live_at, zone_at, put_at, certificate_tree, live_count}
use Rattle.search_laws.specs.GroveFacts.{IsNoDearer, IsSized, IsSearch, best_cost}
use Rattle.search_laws.specs.Verdicts.{cheaper_cost, better, IsNext, grown}
use Rattle.search_laws.specs.declared.Holding.{Holding}
use Rattle.search_laws.specs.Crew.{Crew, CrewEvent, takes, reports, drops, Takes, Reports, Drops, Leads, IsRun, is_report, shuts_leaf, forks_leaf, IsCrew}
use Rattle.search_laws.specs.Laws.{VerdictsKeep, EventsKeep, RunsKeep, CrewIsRight}
use Rattle.search_laws.proofs.Places.{steps_put, live_count_put}
use Rattle.search_laws.proofs.SearchProof.{search_keeps_lem, settles_for_cheaper}
use Rattle.search_laws.proofs.OutcomeProof.{search_is_right_lem, read_off_is_certified_lem}

-- ---- costs, where none is dearest

no_dearer_itself : (y : Option ℤ) → IsNoDearer y y
no_dearer_itself None = tt
no_dearer_itself (Some y) = omega (arith, ints)

no_dearer_on : (x y z : Option ℤ) → IsNoDearer x y → IsNoDearer y z → IsNoDearer x z
no_dearer_on x y None h k = tt
no_dearer_on x None (Some z) h k = absurd k
no_dearer_on None (Some y) (Some z) h k = absurd h
no_dearer_on (Some x) (Some y) (Some z) h k = omega (arith, ints)

less_by_test : (a b : ℤ) → int_lt a b ≡ true → a <ℤ b
less_by_test a b h = grind (arith, ints)

no_less_by_test : (a b : ℤ) → int_lt a b ≡ false → b ≤ℤ a
no_less_by_test a b h = grind (arith, ints)

-- the better of two points costs no more than either, as well as than a cost that the first is no dearer than
better_of_two : (p : Program) (x y : List ℤ) (z : ℤ) → cost p y ≤ℤ z
    → IsNoDearer (best_cost p (better p (Some y) (Some x))) (Some (int_min (cost p x) z))
better_of_two p x y z h = by (int_lt (cost p x) (cost p y)) refl
  where
    first : (a b c : ℤ) → a <ℤ b → b ≤ℤ c → a ≤ℤ int_min a c
    first a b c h k = omega (arith, ints, clamps)

    second : (a b c : ℤ) → b ≤ℤ a → b ≤ℤ c → b ≤ℤ int_min a c
    second a b c h k = omega (arith, ints, clamps)

    by : (t : Bool) → int_lt (cost p x) (cost p y) ≡ t
        → IsNoDearer (best_cost p (if t then Some x else Some y)) (Some (int_min (cost p x) z))
    by true e = first (cost p x) (cost p y) z (less_by_test (cost p x) (cost p y) e) h
    by false e = second (cost p x) (cost p y) z (no_less_by_test (cost p x) (cost p y) e) h

min_itself : (a b : ℤ) → a ≤ℤ int_min a b → a ≤ℤ a
min_itself a b h = omega (arith, ints)

-- the better point costs no more than what a verdict was right for
better_than_both : (p : Program) (best point : Option (List ℤ)) (given : Option ℤ) → IsNoDearer (best_cost p best) given
    → IsNoDearer (best_cost p (better p best point)) (cheaper_cost (best_cost p point) given)
better_than_both p best None given h = h
better_than_both p None (Some x) None h = omega (arith, ints)
better_than_both p None (Some x) (Some z) h = absurd h
better_than_both p (Some y) (Some x) None h =
    no_dearer_on (best_cost p (better p (Some y) (Some x))) (Some (int_min (cost p x) (cost p y))) (Some (cost p x))
    (better_of_two p x y (cost p y) (omega (arith, ints))) (least (cost p x) (cost p y))
  where
    least : (a b : ℤ) → int_min a b ≤ℤ a
    least a b = omega (arith, ints, clamps)
better_than_both p (Some y) (Some x) (Some z) h = better_of_two p x y z h

better_than_before : (p : Program) (best point : Option (List ℤ)) → IsNoDearer (best_cost p (better p best point)) (best_cost p best)
better_than_before p best None = no_dearer_itself (best_cost p best)
better_than_before p None (Some x) = tt
better_than_before p (Some y) (Some x) =
    no_dearer_on (best_cost p (better p (Some y) (Some x))) (Some (int_min (cost p x) (cost p y))) (Some (cost p y))
    (better_of_two p x y (cost p y) (omega (arith, ints))) (least (cost p x) (cost p y))
  where
    least : (a b : ℤ) → int_min a b ≤ℤ b
    least a b = omega (arith, ints, clamps)

-- the facts of a search stay for the better of two points
search_for_better : (p : Program) (b : Blocking) (t : GrowingTree) (best point : Option (List ℤ)) → IsSearch p b t best
    → IfSome point (IsFeasible p) → IsSearch p b t (better p best point)
search_for_better p b t best None search h = search
search_for_better p b t None (Some x) search h = search_keeps_lem.cheaper p b t None x search h tt
search_for_better p b t (Some y) (Some x) search h = by (int_lt (cost p x) (cost p y)) refl
  where
    weaker : (a c : ℤ) → a <ℤ c → a ≤ℤ c
    weaker a c h = omega (arith, ints)

    by : (s : Bool) → int_lt (cost p x) (cost p y) ≡ s → IsSearch p b t (if s then Some x else Some y)
    by true e = search_keeps_lem.cheaper p b t (Some y) x search h (weaker (cost p x) (cost p y) (less_by_test (cost p x) (cost p y) e))
    by false e = search

-- what is done with a leaf, where it is right for a cost that isn't cheaper than the best of now
next_keeps : (p : Program) (b : Blocking) (t : GrowingTree) (best : Option (List ℤ)) (path : List Side) (leaf : LiveLeaf) (cheapest : Option ℤ) (next : Next)
    → IsSized p → IsSearch p b t best → live_at t path ≡ Some leaf → IsNoDearer (best_cost p best) cheapest
    → IsNext b (length path) (zone_at t p.spans path) leaf.bound cheapest next → IsSearch p b (grown t path next) best
next_keeps p b t best path leaf cheapest (Shut proof) sized search h cheap right =
    search_keeps_lem.shut p b t best path leaf proof search h right.0
    (settles_for_cheaper b (zone_at t p.spans path) proof (best_cost p best) cheapest cheap right.1)
next_keeps p b t best path leaf cheapest (Fork v at proof bound) sized search h cheap right =
    search_keeps_lem.forked p b t best path leaf v at proof bound sized search h right.split right.timely right.sound right.keeps

steps_grown : (t : GrowingTree) (path : List Side) (leaf : LiveLeaf) (next : Next) → live_at t path ≡ Some leaf
    → steps (certificate_tree (grown t path next)) ≡ steps (certificate_tree t) + 1
steps_grown t path leaf (Shut proof) h = steps_put t path leaf (shut proof) h
steps_grown t path leaf (Fork v at proof bound) h = steps_put t path leaf (fork v at (live proof bound) (live proof bound)) h

pub verdicts_keep_lem : VerdictsKeep
verdicts_keep_lem = record {
  search = λ p b t best path leaf given verdict sized search h cheap right.
      next_keeps p b t (better p best verdict.point) path leaf (cheaper_cost (best_cost p verdict.point) given) verdict.next sized
      (search_for_better p b t best verdict.point search right.feasible) h
      (better_than_both p best verdict.point given cheap) right.next;
  steps = steps_grown;
  no_dearer = better_than_before;
}

-- ---- who holds what

-- what another leaf of a crew holds after one is written over
held_after : {X : Type 0} (held : List (Option X)) (w other : ℕ) (o : Option X) (h : X) → get_or (set held w o) other None ≡ Some h
    → ((other ≡ w) × (o ≡ Some h)) ⊎ ((other ≢ w) × (get_or held other None ≡ Some h))
held_after [] w other o h e = absurd (cc)
held_after (x ∷ xs) zero zero o h e = inl (refl, e)
held_after (x ∷ xs) zero (suc other) o h e = inr (λ same. omega arith, e)
held_after (x ∷ xs) (suc w) zero o h e = inr (λ same. omega arith, e)
held_after (x ∷ xs) (suc w) (suc other) o h e = ⊎_elim
    (λ first. inl (ap suc first.0, first.1))
    (λ second. inr (λ same. second.0 (omega arith), second.1))
    (held_after xs w other o h e)

held_by_none : {X : Type 0} (n w : ℕ) (h : X) → get_or (replicate n None) w None ≡ Some h → ⊥
held_by_none zero w h e = cc
held_by_none (suc n) zero h e = cc
held_by_none (suc n) (suc w) h e = held_by_none n w h e

-- another live leaf stays where one is replaced
live_elsewhere : (t : GrowingTree) (path other : List Side) (leaf kept : LiveLeaf) (new : GrowingTree) → live_at t path ≡ Some leaf
    → live_at t other ≡ Some kept → other ≢ path → live_at (put_at t path new) other ≡ Some kept
live_elsewhere (live proof bound) [] [] leaf kept new h k apart = absurd (apart refl)
live_elsewhere (live proof bound) [] (side ∷ other) leaf kept new h k apart = absurd (cc)
live_elsewhere (live proof bound) (side ∷ path) other leaf kept new h k apart = absurd (cc)
live_elsewhere (shut proof) path other leaf kept new h k apart = absurd (cc)
live_elsewhere (fork v at low high) [] other leaf kept new h k apart = absurd (cc)
live_elsewhere (fork v at low high) (Low ∷ path) [] leaf kept new h k apart = absurd (cc)
live_elsewhere (fork v at low high) (High ∷ path) [] leaf kept new h k apart = absurd (cc)
live_elsewhere (fork v at low high) (Low ∷ path) (Low ∷ other) leaf kept new h k apart =
    live_elsewhere low path other leaf kept new h k (λ same. apart (ap (λ (q : List Side). Low ∷ q) same))
live_elsewhere (fork v at low high) (Low ∷ path) (High ∷ other) leaf kept new h k apart = k
live_elsewhere (fork v at low high) (High ∷ path) (Low ∷ other) leaf kept new h k apart = k
live_elsewhere (fork v at low high) (High ∷ path) (High ∷ other) leaf kept new h k apart =
    live_elsewhere high path other leaf kept new h k (λ same. apart (ap (λ (q : List Side). High ∷ q) same))

live_in_grown : (t : GrowingTree) (path other : List Side) (leaf kept : LiveLeaf) (next : Next) → live_at t path ≡ Some leaf
    → live_at t other ≡ Some kept → other ≢ path → live_at (grown t path next) other ≡ Some kept
live_in_grown t path other leaf kept (Shut proof) h k apart = live_elsewhere t path other leaf kept (shut proof) h k apart
live_in_grown t path other leaf kept (Fork v at proof bound) h k apart =
    live_elsewhere t path other leaf kept (fork v at (live proof bound) (live proof bound)) h k apart

-- ---- events

same_held : (h g : Holding) → Some h ≡ Some g → h ≡ g
same_held h g e = cc

take_keeps : (p : Program) (b : Blocking) (before after : Crew) (worker : ℕ) (path : List Side) → IsCrew p b before
    → Takes p before worker path after → IsCrew p b after
take_keeps p b before after worker path crew event =
    let new : Holding = record { path = path; given = best_cost p before.best } in
    let held : List (Option Holding) = set before.held worker (Some new) in
    subst (IsCrew p b) (sym event.becomes) (record {
      search = crew.search;
      live = λ w h e. ⊎_elim
          (λ here. (event.leaf, subst (λ (g : Holding). live_at before.tree g.path ≡ Some event.leaf) (same_held new h here.1) event.live))
          (λ there. crew.live w h there.1)
          (held_after before.held worker w (Some new) h e);
      alone = λ v w g h d e same. ⊎_elim
          (λ here. ⊎_elim
          (λ here'. here.0 ∙ sym here'.0)
          (λ there. absurd (event.free w h there.1 (sym same ∙ ap (λ (f : Holding). f.path) (sym (same_held new g here.1)))))
          (held_after before.held worker w (Some new) h e))
          (λ there. ⊎_elim
          (λ here. absurd (event.free v g there.1 (same ∙ ap (λ (f : Holding). f.path) (sym (same_held new h here.1)))))
          (λ there'. crew.alone v w g h there.1 there'.1 same)
          (held_after before.held worker w (Some new) h e))
          (held_after before.held worker v (Some new) g d);
      outdated = λ w h e. ⊎_elim
          (λ here. subst (λ (g : Holding). IsNoDearer (best_cost p before.best) g.given) (same_held new h here.1) (no_dearer_itself (best_cost p before.best)))
          (λ there. crew.outdated w h there.1)
          (held_after before.held worker w (Some new) h e);
    })

-- what was held before a worker let go, by another
held_before : (held : List (Option Holding)) (worker w : ℕ) (h : Holding) → get_or (set held worker None) w None ≡ Some h
    → (w ≢ worker) × (get_or held w None ≡ Some h)
held_before held worker w h e = ⊎_elim (λ here. absurd (nothing here.1)) (λ there. there) (held_after held worker w None h e)
  where
    nothing : None ≡ Some h → ⊥
    nothing e = cc

report_keeps : (p : Program) (b : Blocking) (before after : Crew) (worker : ℕ) (verdict : Verdict) → IsSized p → IsCrew p b before
    → Reports p b before worker verdict after → IsCrew p b after
report_keeps p b before after worker verdict sized crew event =
    let holding : Holding = event.holding in
    let now : Option (List ℤ) = better p before.best verdict.point in
    subst (IsCrew p b) (sym event.becomes) (record {
      search = verdicts_keep_lem.search p b before.tree before.best holding.path event.leaf holding.given verdict sized crew.search event.live
          (crew.outdated worker holding event.holds) event.right;
      live = λ w h e.
          let other = held_before before.held worker w h e in
          let kept = crew.live w h other.1 in (
            kept.0,
            live_in_grown before.tree holding.path h.path event.leaf kept.0 verdict.next event.live kept.1
                (λ same. other.0 (crew.alone w worker h holding other.1 event.holds same)),
          );
      alone = λ v w g h d e same.
          crew.alone v w g h (held_before before.held worker v g d).1 (held_before before.held worker w h e).1 same;
      outdated = λ w h e.
          no_dearer_on (best_cost p now) (best_cost p before.best) h.given (better_than_before p before.best verdict.point)
          (crew.outdated w h (held_before before.held worker w h e).1);
    })

drop_keeps : (p : Program) (b : Blocking) (before after : Crew) (worker : ℕ) → IsCrew p b before → Drops before worker after → IsCrew p b after
drop_keeps p b before after worker crew event =
    subst (IsCrew p b) (sym event.becomes) (record {
      search = crew.search;
      live = λ w h e. crew.live w h (held_before before.held worker w h e).1;
      alone = λ v w g h d e same. crew.alone v w g h (held_before before.held worker v g d).1 (held_before before.held worker w h e).1 same;
      outdated = λ w h e. crew.outdated w h (held_before before.held worker w h e).1;
    })

event_keeps : (p : Program) (b : Blocking) (before after : Crew) (event : CrewEvent) → IsSized p → IsCrew p b before → Leads p b before event after
    → IsCrew p b after
event_keeps p b before after (takes worker path) sized crew leads = take_keeps p b before after worker path crew leads
event_keeps p b before after (reports worker verdict) sized crew leads = report_keeps p b before after worker verdict sized crew leads
event_keeps p b before after (drops worker) sized crew leads = drop_keeps p b before after worker crew leads

report_steps : (p : Program) (b : Blocking) (before after : Crew) (worker : ℕ) (verdict : Verdict) → Reports p b before worker verdict after
    → steps (certificate_tree after.tree) ≡ steps (certificate_tree before.tree) + 1
report_steps p b before after worker verdict event =
    ap (λ (c : Crew). steps (certificate_tree c.tree)) event.becomes ∙ steps_grown before.tree event.holding.path event.leaf verdict.next event.live

pub events_keep_lem : EventsKeep
events_keep_lem = record {
  idle = λ p b t best workers search. record {
    search = search;
    live = λ w h e. absurd (held_by_none workers w h e);
    alone = λ v w g h d e same. absurd (held_by_none workers v g d);
    outdated = λ w h e. absurd (held_by_none workers w h e);
  };
  kept = event_keeps;
  reported = report_steps;
  taken = λ p b before after worker path event. (ap (λ (c : Crew). c.tree) event.becomes, ap (λ (c : Crew). c.best) event.becomes);
  dropped = λ p b before after worker event. (ap (λ (c : Crew). c.tree) event.becomes, ap (λ (c : Crew). c.best) event.becomes);
}

-- ---- runs

run_keeps : (p : Program) (b : Blocking) (first last : Crew) (events : List CrewEvent) → IsSized p → IsCrew p b first → IsRun p b first events last
    → IsCrew p b last
run_keeps p b first last [] sized crew run = subst (IsCrew p b) run crew
run_keeps p b first last (event ∷ events) sized crew run =
    run_keeps p b run.0 last events sized (event_keeps p b first run.0 event sized crew run.1) run.2

-- the steps of one event
event_steps : (p : Program) (b : Blocking) (before after : Crew) (event : CrewEvent) → Leads p b before event after
    → steps (certificate_tree after.tree) ≡ steps (certificate_tree before.tree) + count_by is_report (event ∷ [])
event_steps p b before after (takes worker path) event = omega (arith, ap (λ (c : Crew). steps (certificate_tree c.tree)) event.becomes)
event_steps p b before after (reports worker verdict) event = omega (arith, report_steps p b before after worker verdict event)
event_steps p b before after (drops worker) event = omega (arith, ap (λ (c : Crew). steps (certificate_tree c.tree)) event.becomes)

count_by-first : {X : Type 0} (test : X → Bool) (x : X) (xs : List X) → count_by test (x ∷ xs) ≡ count_by test (x ∷ []) + count_by test xs
count_by-first test x xs =
    omega (arith, sum_by-cons (λ y. cond (test y) 1 0) x xs, sum_by-cons (λ y. cond (test y) 1 0) x [])

run_steps : (p : Program) (b : Blocking) (first last : Crew) (events : List CrewEvent) → IsRun p b first events last
    → steps (certificate_tree last.tree) ≡ steps (certificate_tree first.tree) + count_by is_report events
run_steps p b first last [] run = omega (arith, ap (λ (c : Crew). steps (certificate_tree c.tree)) run)
run_steps p b first last (event ∷ events) run =
    omega (arith, event_steps p b first run.0 event run.1, run_steps p b run.0 last events run.2, count_by-first is_report event events)

-- the live leaves of one event
grown_live : (t : GrowingTree) (path : List Side) (leaf : LiveLeaf) (worker : ℕ) (point : Option (List ℤ)) (next : Next) → live_at t path ≡ Some leaf
    → live_count (grown t path next) + count_by shuts_leaf (reports worker (record { point = point; next = next }) ∷ [])
    ≡ live_count t + count_by forks_leaf (reports worker (record { point = point; next = next }) ∷ [])
grown_live t path leaf worker point (Shut proof) h = omega (arith, live_count_put t path leaf (shut proof) h)
grown_live t path leaf worker point (Fork v at proof bound) h =
    omega (arith, live_count_put t path leaf (fork v at (live proof bound) (live proof bound)) h)

event_live : (p : Program) (b : Blocking) (before after : Crew) (event : CrewEvent) → Leads p b before event after
    → live_count after.tree + count_by shuts_leaf (event ∷ []) ≡ live_count before.tree + count_by forks_leaf (event ∷ [])
event_live p b before after (takes worker path) event = omega (arith, ap (λ (c : Crew). live_count c.tree) event.becomes)
event_live p b before after (reports worker verdict) event =
    let count : ℕ = count_by shuts_leaf (reports worker verdict ∷ []) in
    ap (λ (c : Crew). live_count c.tree + count) event.becomes
    ∙ grown_live before.tree event.holding.path event.leaf worker verdict.point verdict.next event.live
event_live p b before after (drops worker) event = omega (arith, ap (λ (c : Crew). live_count c.tree) event.becomes)

run_live : (p : Program) (b : Blocking) (first last : Crew) (events : List CrewEvent) → IsRun p b first events last
    → live_count last.tree + count_by shuts_leaf events ≡ live_count first.tree + count_by forks_leaf events
run_live p b first last [] run = omega (arith, ap (λ (c : Crew). live_count c.tree) run)
run_live p b first last (event ∷ events) run =
    omega (
      arith,
      event_live p b first run.0 event run.1,
      run_live p b run.0 last events run.2,
      count_by-first shuts_leaf event events,
      count_by-first forks_leaf event events,
    )

pub runs_keep_lem : RunsKeep
runs_keep_lem = record {
  kept = run_keeps;
  steps = run_steps;
  live = run_live;
  covered = λ p b crew x facts inside. cover_lem (certificate_tree crew.tree) p.spans x facts.search.grove.splits inside;
}

pub crew_is_right_lem : CrewIsRight
crew_is_right_lem = record {
  best = λ p b first last events x sized faithful crew run e h.
      search_is_right_lem.best p b last.tree x faithful (subst (IsSearch p b last.tree) e (run_keeps p b first last events sized crew run).search) h;
  none = λ p b first last events x sized faithful crew run e h.
      search_is_right_lem.none p b last.tree faithful (subst (IsSearch p b last.tree) e (run_keeps p b first last events sized crew run).search) h x;
  bound = λ p b first last events v x sized faithful crew run remaining.
      search_is_right_lem.bound p b last.tree last.best v faithful (run_keeps p b first last events sized crew run).search remaining x;
  ended = λ p d cuts first last events sized fit crew run h.
      read_off_is_certified_lem.ended p d cuts last.tree last.best fit
      (run_keeps p (blocking_of p d (cut_rows p d [] cuts)) first last events sized crew run).search h;
  stopped = λ p d cuts first last events v sized fit crew run h.
      read_off_is_certified_lem.stopped p d cuts last.tree last.best v fit
      (run_keeps p (blocking_of p d (cut_rows p d [] cuts)) first last events sized crew run).search h;
}
