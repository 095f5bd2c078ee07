-- What the list of a run's events tells, and how many leaves are free.
use Rattle.std.proofs.Common.{◌≡◌, ◌≢◌, refl, sym, ap, ◌∙◌, ℕ, zero, suc, ◌+◌, ◌<◌, Bool, true, false, ◌||◌, List, [], ◌∷◌, length, map, get_or, set, Option, Some, None, arith, ⊎_elim}
use Rattle.std.specs.Prelude.{is_some, not, ◌==◌, if◌then◌else◌, cond, count_by}
use Rattle.std.specs.List.{list_any}
use Rattle.std.proofs.lemmas.Bool.{cases_lt}
use Rattle.std.proofs.lemmas.Bool.Decides.{eqb_tells}
use Rattle.std.proofs.lemmas.List.{get_or-set_same, get_or-set_other, get_or_past}
use Rattle.std.proofs.lemmas.List.Sums.{sum_by-cons}
use Rattle.bp_theory.specs.Program.{Program}
use Rattle.bp_theory.specs.Blocking.{Blocking}
use Rattle.search_laws.specs.declared.Side.{Side}
use Rattle.search_laws.specs.declared.Side.TheVariants.{Low, High}
use Rattle.search_laws.specs.declared.Next.{Next}
use Rattle.search_laws.specs.declared.Next.TheVariants.{Shut, Fork}
use Rattle.search_laws.specs.Grove.{GrowingTree, live, shut, fork, LiveLeaf, live_at, live_count}
use Rattle.search_laws.specs.declared.Holding.{Holding}
use Rattle.search_laws.specs.Crew.{Crew, CrewEvent, takes, reports, drops, Leads, IsRun, held_by, kind_of_next, listed, is_take, holds_after, is_shut_kind, is_fork_kind, is_report, is_shut, is_fork, shuts_leaf, forks_leaf, same_path, is_holding, count_live}
use Rattle.search_laws.specs.Laws.{EventsTell, FreeIsTheRest}
use Rattle.search_laws.proofs.CrewProof.{runs_keep_lem}

-- ---- counts of kinds

-- a count over a list, from its first
count-first : {X : Type 0} (test : X → Bool) (x : X) (xs : List X) → count_by test (x ∷ xs) ≡ cond (test x) 1 0 + count_by test xs
count-first test x xs = sum_by-cons (λ y. cond (test y) 1 0) x xs

-- counts of two tests that agree
count-listed : {X Y : Type 0} (f : X → Y) (test : X → Bool) (other : Y → Bool) → ((x : X) → test x ≡ other (f x)) → (xs : List X)
    → count_by test xs ≡ count_by other (map f xs)
count-listed f test other same [] = refl
count-listed f test other same (x ∷ xs) =
    omega (
      arith,
      count-first test x xs,
      count-first other (f x) (map f xs),
      ap {B = ℕ} (λ t. cond t 1 0) (same x),
      count-listed f test other same xs,
    )

shut_same : (next : Next) → is_shut next ≡ is_shut_kind (kind_of_next next)
shut_same (Shut proof) = refl
shut_same (Fork v at proof bound) = refl

fork_same : (next : Next) → is_fork next ≡ is_fork_kind (kind_of_next next)
fork_same (Shut proof) = refl
fork_same (Fork v at proof bound) = refl

shuts_same : (e : CrewEvent) → shuts_leaf e ≡ is_shut_kind (listed e).kind
shuts_same (takes worker path) = refl
shuts_same (reports worker verdict) = shut_same verdict.next
shuts_same (drops worker) = refl

forks_same : (e : CrewEvent) → forks_leaf e ≡ is_fork_kind (listed e).kind
forks_same (takes worker path) = refl
forks_same (reports worker verdict) = fork_same verdict.next
forks_same (drops worker) = refl

one_of_both : (next : Next) → 1 ≡ cond (is_shut next) 1 0 + cond (is_fork next) 1 0
one_of_both (Shut proof) = refl
one_of_both (Fork v at proof bound) = refl

report_is_one : (e : CrewEvent) → cond (is_report e) 1 0 ≡ cond (shuts_leaf e) 1 0 + cond (forks_leaf e) 1 0
report_is_one (takes worker path) = refl
report_is_one (reports worker verdict) = one_of_both verdict.next
report_is_one (drops worker) = refl

reports_are_both : (es : List CrewEvent) → count_by is_report es ≡ count_by shuts_leaf es + count_by forks_leaf es
reports_are_both [] = refl
reports_are_both (e ∷ es) =
    omega (arith, count-first is_report e es, count-first shuts_leaf e es, count-first forks_leaf e es, report_is_one e, reports_are_both es)

-- ---- who holds a leaf

-- whether a place has something, after another was written over
some_after : (held : List (Option Holding)) (worker other : ℕ) (o : Option Holding) → worker < length held
    → is_some (get_or (set held worker o) other None) ≡ (if worker == other then is_some o else is_some (get_or held other None))
some_after held worker other o there = ⊎_elim
    (λ same.
    ap (λ k. is_some (get_or (set held worker o) k None)) (sym same.1)
    ∙ ap (λ (q : Option Holding). is_some q) (get_or-set_same held worker o None there)
    ∙ ap (λ t. if t then is_some o else is_some (get_or held other None)) (sym same.0))
    (λ apart.
    ap (λ (q : Option Holding). is_some q) (get_or-set_other held worker other o None (λ e. apart.1 (sym e)))
    ∙ ap (λ t. if t then is_some o else is_some (get_or held other None)) (sym apart.0))
    (eqb_tells worker other)

-- a worker that holds something is there
holder_there : (held : List (Option Holding)) (worker : ℕ) (h : Holding) → get_or held worker None ≡ Some h → worker < length held
holder_there held worker h e = ⊎_elim
    (λ there. there)
    (λ past. absurd (nothing (sym (get_or_past held worker None past) ∙ e)))
    (cases_lt worker (length held))
  where
    nothing : None ≡ Some h → ⊥
    nothing e = cc

not_take : (next : Next) → false ≡ is_take (kind_of_next next)
not_take (Shut proof) = refl
not_take (Fork v at proof bound) = refl

event_held : (p : Program) (b : Blocking) (before after : Crew) (event : CrewEvent) (worker : ℕ) → Leads p b before event after
    → is_some (held_by after worker) ≡ (if (listed event).worker == worker then is_take (listed event).kind else is_some (held_by before worker))
event_held p b before after (takes w path) worker event =
    ap (λ (c : Crew). is_some (held_by c worker)) event.becomes
    ∙ some_after before.held w worker _ event.known
event_held p b before after (reports w verdict) worker event =
    ap (λ (c : Crew). is_some (held_by c worker)) event.becomes
    ∙ some_after before.held w worker None (holder_there before.held w event.holding event.holds)
    ∙ ap (λ t. if w == worker then t else is_some (held_by before worker)) (not_take verdict.next)
event_held p b before after (drops w) worker event =
    ap (λ (c : Crew). is_some (held_by c worker)) event.becomes
    ∙ some_after before.held w worker None (holder_there before.held w event.holding event.holds)

run_held : (p : Program) (b : Blocking) (first last : Crew) (events : List CrewEvent) (worker : ℕ) → IsRun p b first events last
    → is_some (held_by last worker) ≡ holds_after worker (is_some (held_by first worker)) (map listed events)
run_held p b first last [] worker run = ap (λ (c : Crew). is_some (held_by c worker)) (sym run)
run_held p b first last (event ∷ events) worker run =
    run_held p b run.0 last events worker run.2
    ∙ ap (λ t. holds_after worker t (map listed events)) (event_held p b first run.0 event worker run.1)

pub events_tell_lem : EventsTell
events_tell_lem = record {
  steps = λ p b first last events run.
      omega (
        arith,
        runs_keep_lem.steps p b first last events run,
        reports_are_both events,
        count-listed listed shuts_leaf (λ e. is_shut_kind e.kind) shuts_same events,
        count-listed listed forks_leaf (λ e. is_fork_kind e.kind) forks_same events,
      );
  live = λ p b first last events run.
      omega (
        arith,
        runs_keep_lem.live p b first last events run,
        count-listed listed shuts_leaf (λ e. is_shut_kind e.kind) shuts_same events,
        count-listed listed forks_leaf (λ e. is_fork_kind e.kind) forks_same events,
      );
  held = run_held;
}

-- ---- free leaves

same_path-same : (path : List Side) → same_path path path ≡ true
same_path-same [] = refl
same_path-same (Low ∷ path) = same_path-same path
same_path-same (High ∷ path) = same_path-same path

same_path_true : (path other : List Side) → same_path path other ≡ true → path ≡ other
same_path_true [] [] e = refl
same_path_true [] (side ∷ other) e = cc
same_path_true (side ∷ path) [] e = absurd (wrong side path e)
  where
    wrong : (s : Side) (q : List Side) → same_path (s ∷ q) [] ≡ true → ⊥
    wrong Low q e = cc
    wrong High q e = cc
same_path_true (Low ∷ path) (Low ∷ other) e = ap (λ (q : List Side). Low ∷ q) (same_path_true path other e)
same_path_true (Low ∷ path) (High ∷ other) e = cc
same_path_true (High ∷ path) (Low ∷ other) e = cc
same_path_true (High ∷ path) (High ∷ other) e = ap (λ (q : List Side). High ∷ q) (same_path_true path other e)

-- counts of live leaves by two tests that agree
count_live-same : (f g : List Side → Bool) → ((q : List Side) → f q ≡ g q) → (t : GrowingTree) → count_live f t ≡ count_live g t
count_live-same f g same (live proof bound) = ap (λ t. if t then 1 else 0) (same [])
count_live-same f g same (shut proof) = refl
count_live-same f g same (fork v at low high) =
    omega (
      arith,
      count_live-same (λ q. f (Low ∷ q)) (λ q. g (Low ∷ q)) (λ q. same (Low ∷ q)) low,
      count_live-same (λ q. f (High ∷ q)) (λ q. g (High ∷ q)) (λ q. same (High ∷ q)) high,
    )

-- all live leaves
count_live-all : (f : List Side → Bool) → ((q : List Side) → f q ≡ true) → (t : GrowingTree) → count_live f t ≡ live_count t
count_live-all f all (live proof bound) = ap (λ t. if t then 1 else 0) (all [])
count_live-all f all (shut proof) = refl
count_live-all f all (fork v at low high) =
    omega (arith, count_live-all (λ q. f (Low ∷ q)) (λ q. all (Low ∷ q)) low, count_live-all (λ q. f (High ∷ q)) (λ q. all (High ∷ q)) high)

-- one live leaf that passes is left out
count_live-without : (f : List Side → Bool) (t : GrowingTree) (path : List Side) (leaf : LiveLeaf) → live_at t path ≡ Some leaf → f path ≡ true
    → count_live (λ q. not (same_path path q || not (f q))) t + 1 ≡ count_live f t
count_live-without f (live proof bound) [] leaf h e = ap (λ t. if t then 1 else 0) (sym e)
count_live-without f (live proof bound) (side ∷ path) leaf h e = absurd (cc)
count_live-without f (shut proof) path leaf h e = absurd (cc)
count_live-without f (fork v at low high) [] leaf h e = absurd (cc)
count_live-without f (fork v at low high) (Low ∷ path) leaf h e =
    omega (
      arith,
      count_live-without (λ q. f (Low ∷ q)) low path leaf h e,
      count_live-same (λ q. not (not (f (High ∷ q)))) (λ q. f (High ∷ q)) (λ q. twice (f (High ∷ q))) high,
    )
  where
    twice : (t : Bool) → not (not t) ≡ t
    twice true = refl
    twice false = refl
count_live-without f (fork v at low high) (High ∷ path) leaf h e =
    omega (
      arith,
      count_live-without (λ q. f (High ∷ q)) high path leaf h e,
      count_live-same (λ q. not (not (f (Low ∷ q)))) (λ q. f (Low ∷ q)) (λ q. twice (f (Low ∷ q))) low,
    )
  where
    twice : (t : Bool) → not (not t) ≡ t
    twice true = refl
    twice false = refl

-- what is known of a list of holders: each holds a live leaf, no two the same
record AreApart (t : GrowingTree) (held : List (Option Holding)) : Type 0 where
  live : (worker : ℕ) (h : Holding) → get_or held worker None ≡ Some h → (leaf : LiveLeaf) × (live_at t h.path ≡ Some leaf)
  alone : (worker other : ℕ) (h g : Holding) → get_or held worker None ≡ Some h → get_or held other None ≡ Some g → h.path ≡ g.path → worker ≡ other

-- a path that no holder holds
none_holds : (held : List (Option Holding)) (path : List Side) → ((worker : ℕ) (h : Holding) → get_or held worker None ≡ Some h → h.path ≢ path)
    → list_any (is_holding path) held ≡ false
none_holds [] path h = refl
none_holds (None ∷ held) path h = none_holds held path (λ w g e. h (suc w) g e)
none_holds (Some g ∷ held) path h = by (same_path g.path path) refl (none_holds held path (λ w f e. h (suc w) f e))
  where
    by : (t : Bool) → same_path g.path path ≡ t → list_any (is_holding path) held ≡ false → (t || list_any (is_holding path) held) ≡ false
    by true e rest = absurd (h 0 g refl (same_path_true g.path path e))
    by false e rest = rest

rest_of_apart : (t : GrowingTree) (o : Option Holding) (held : List (Option Holding)) → AreApart t (o ∷ held) → AreApart t held
rest_of_apart t o held apart = record {
  live = λ w h e. apart.live (suc w) h e;
  alone = λ v w h g d e same. omega (arith, apart.alone (suc v) (suc w) h g d e same);
}

free_and_held : (t : GrowingTree) (held : List (Option Holding)) → AreApart t held
    → count_live (λ q. not (list_any (is_holding q) held)) t + count_by is_some held ≡ live_count t
free_and_held t [] apart = omega (arith, count_live-all (λ q. true) (λ q. refl) t)
free_and_held t (None ∷ held) apart =
    omega (arith, free_and_held t held (rest_of_apart t None held apart), count-first (λ (o : Option Holding). is_some o) None held)
free_and_held t (Some h ∷ held) apart =
    let leaf = apart.live 0 h refl in
    let rest : (λ (q : List Side). not (list_any (is_holding q) held)) h.path ≡ true =
    ap not (none_holds held h.path (λ w g e same. later w (apart.alone 0 (suc w) h g refl e (sym same)))) in
    omega (
      arith,
      free_and_held t held (rest_of_apart t (Some h) held apart),
      count-first (λ (o : Option Holding). is_some o) (Some h) held,
      count_live-without (λ q. not (list_any (is_holding q) held)) t h.path leaf.0 leaf.1 rest,
      count_live-same
          (λ q. not (same_path h.path q || list_any (is_holding q) held))
          (λ q. not (same_path h.path q || not (not (list_any (is_holding q) held))))
          (λ q. ap (λ s. not (same_path h.path q || s)) (sym (twice (list_any (is_holding q) held)))) t,
    )
  where
    later : (w : ℕ) → 0 ≡ suc w → ⊥
    later w e = omega (arith, e)

    twice : (t : Bool) → not (not t) ≡ t
    twice true = refl
    twice false = refl

-- a live leaf that passes, where some are counted
some_live : (f : List Side → Bool) (t : GrowingTree) → 0 < count_live f t
    → (path : List Side) × (leaf : LiveLeaf) × (live_at t path ≡ Some leaf) × (f path ≡ true)
some_live f (live proof bound) h = by (f []) refl h
  where
    by : (t : Bool) → f [] ≡ t → 0 < (if t then 1 else 0)
        → (path : List Side) × (leaf : LiveLeaf) × (live_at (live proof bound) path ≡ Some leaf) × (f path ≡ true)
    by true e h = ([], record { proof = proof; bound = bound }, refl, e)
    by false e h = absurd (omega (arith, h))
some_live f (shut proof) h = absurd (omega (arith, h))
some_live f (fork v at low high) h = ⊎_elim
    (λ none. let found = some_live (λ q. f (High ∷ q)) high (omega (arith, h, none)) in (High ∷ found.0, found.1, found.2, found.3))
    (λ some. let found = some_live (λ q. f (Low ∷ q)) low (omega (arith, some)) in (Low ∷ found.0, found.1, found.2, found.3))
    (cases_lt (count_live (λ q. f (Low ∷ q)) low) 1)

-- a live leaf that passes is counted
live_counts : (f : List Side → Bool) (t : GrowingTree) (path : List Side) (leaf : LiveLeaf) → live_at t path ≡ Some leaf → f path ≡ true → 0 < count_live f t
live_counts f t path leaf h e = omega (arith, count_live-without f t path leaf h e)

-- where no holder is found, a path is free
free_by_test : (held : List (Option Holding)) (path : List Side) → list_any (is_holding path) held ≡ false
    → (worker : ℕ) (h : Holding) → get_or held worker None ≡ Some h → h.path ≢ path
free_by_test [] path e w h k same = absurd (cc)
free_by_test (o ∷ held) path e zero h k same =
    wrong (sym (ap (λ (q : Option Holding). is_holding path q) k ∙ ap (same_path h.path) (sym same) ∙ same_path-same h.path) ∙ first (is_holding path o) (list_any (is_holding path) held) e)
  where
    first : (s t : Bool) → (s || t) ≡ false → s ≡ false
    first true t e = e
    first false t e = refl

    wrong : true ≡ false → ⊥
    wrong e = cc
free_by_test (o ∷ held) path e (suc w) h k same = free_by_test held path (second (is_holding path o) (list_any (is_holding path) held) e) w h k same
  where
    second : (s t : Bool) → (s || t) ≡ false → t ≡ false
    second true t e = absurd (cc)
    second false t e = e

not_true : (t : Bool) → not t ≡ true → t ≡ false
not_true true e = cc
not_true false e = refl

pub free_is_the_rest_lem : FreeIsTheRest
free_is_the_rest_lem = record {
  rest = λ p b crew facts. free_and_held crew.tree crew.held (record { live = facts.live; alone = facts.alone });
  there = λ crew h.
      let found = some_live (λ q. not (list_any (is_holding q) crew.held)) crew.tree h in
      (found.0, found.1, found.2, free_by_test crew.held found.0 (not_true (list_any (is_holding found.0) crew.held) found.3));
  counted = λ crew path leaf h free.
      live_counts (λ q. not (list_any (is_holding q) crew.held)) crew.tree path leaf h (ap not (none_holds crew.held path free));
}
