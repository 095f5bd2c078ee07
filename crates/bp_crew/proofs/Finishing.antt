-- What is still held at the end is dropped, and what a whole run comes to.
use Rattle.std.proofs.Common.{◌≡◌, refl, sym, ap, subst, ◌∙◌, ℕ, zero, suc, ◌+◌, ◌-◌, ◌<◌, ◌≤◌, Bool, true, false, List, [], ◌∷◌, ◌++◌, length, map, get_or, set, drop, replicate, Option, Some, None, arith, append_assoc, append-nil}
use Rattle.std.specs.Prelude.{is_some, option_map, ℤ}
use Rattle.std.proofs.lemmas.List.{map-set, map_push, length-map, drop-set-lt, map-append}
use Rattle.bp_theory.specs.Program.{Program}
use Rattle.bp_theory.specs.Blocking.{Blocking}
use Rattle.bp_theory.specs.Trees.{steps}
use Rattle.block_program.specs.Blocked.{BlockedProgram}
use Rattle.search_laws.specs.declared.Event.{Event}
use Rattle.search_laws.specs.declared.Kind.TheVariants.{Drop}
use Rattle.search_laws.specs.declared.Holding.{Holding}
use Rattle.search_laws.specs.Grove.{GrowingTree, live_count, certificate_tree}
use Rattle.search_laws.specs.Crew.{Crew, CrewEvent, drops as drops', IsRun, listed, idle_crew}
use Rattle.branch_tree.specs.Adopted.{point_in}
use Rattle.branch_tree.specs.Groves.{GroveState}
use Rattle.branch_tree.specs.declared.loaded.Loaded.{Loaded}
use Rattle.branch_tree.specs.declared.outcome.Outcome.{Outcome}
use Rattle.bp_search.specs.declared.kept.Kept.{Kept}
use Rattle.bp_search.specs.Searches.{kept_point, as_pair}
use Rattle.bp_search.specs.Ends.{grove_in, point_of}
use Rattle.crew_steps.specs.declared.hand.Hand.{Hand}
use Rattle.crew_steps.specs.Hands.{holding_of}
use Rattle.crew_steps.specs.States.{CrewState, crew_of, hand_of, IsMade, IsCrewOf}
use Rattle.crew_steps.specs.Draws.{moment_of, AreDrawn, drops_from}
use Rattle.bp_crew.specs.Runs.{IsLetGo, IsLetGoOf, IsDrawnTo, IsCrewRun}
use Rattle.crew_steps.proofs.Choosing.{holds_same}
use Rattle.bp_crew.proofs.Drawing.{more_listed, run_more, hands_long}

-- ---- what is still held is dropped

pub record IsLetGoTo (b : BlockedProgram) (first : CrewState) (worker : ℕ) (now : CrewState) : Type 0 where
  pub events : List CrewEvent
  pub run : IsRun b.named.program b.blocking (crew_of first) events (crew_of now)
  pub adds : now.events ≡ first.events ++ map listed events
  pub told : map listed events ++ drops_from worker (drop worker (map is_some now.hands)) ≡ drops_from 0 (map is_some (crew_of first).held)
  pub grove : now.grove ≡ first.grove

pub let_go_first : (b : BlockedProgram) (first : CrewState) → IsLetGoTo b first 0 first
let_go_first b first = record {
  events = [];
  run = refl;
  adds = sym (append-nil first.events);
  told = ap (drops_from 0) (sym (holds_same first.hands));
  grove = refl;
}

drops_false : (xs : List Bool) (k j : ℕ) → k < length xs → get_or xs k false ≡ false → drops_from j (drop k xs) ≡ drops_from (suc j) (drop (suc k) xs)
drops_false [] k j there e = absurd (omega (arith, there))
drops_false (true ∷ xs) zero j there e = absurd (cc)
drops_false (false ∷ xs) zero j there e = refl
drops_false (x ∷ xs) (suc k) j there e = drops_false xs k j (omega (arith, there)) e

drops_true : (xs : List Bool) (k j : ℕ) → k < length xs → get_or xs k false ≡ true
    → drops_from j (drop k xs) ≡ record { worker = j; kind = Drop } ∷ drops_from (suc j) (drop (suc k) xs)
drops_true [] k j there e = absurd (omega (arith, there))
drops_true (true ∷ xs) zero j there e = refl
drops_true (false ∷ xs) zero j there e = absurd (cc)
drops_true (x ∷ xs) (suc k) j there e = drops_true xs k j (omega (arith, there)) e

some_at : (hands : List (Option Hand)) (w : ℕ) (o : Option Hand) → get_or hands w None ≡ o → get_or (map is_some hands) w false ≡ is_some o
some_at [] w o e = ap (λ (q : Option Hand). is_some q) e
some_at (x ∷ hands) zero o e = ap (λ (q : Option Hand). is_some q) e
some_at (x ∷ hands) (suc w) o e = some_at hands w o e

pub let_go_more : (b : BlockedProgram) (first now next : CrewState) (worker : ℕ) (o : Option Hand) → hand_of now worker ≡ o → IsLetGoOf b now worker o next
    → worker < length now.hands → IsLetGoTo b first worker now → IsLetGoTo b first (worker + 1) next
let_go_more b first now next worker None held is there gone =
    let step : worker + 1 ≡ suc worker = omega arith in
    let told : map listed gone.events ++ drops_from (suc worker) (drop (suc worker) (map is_some now.hands)) ≡ drops_from 0 (map is_some (crew_of first).held) =
    ap (λ (es : List Event). map listed gone.events ++ es)
    (sym (drops_false (map is_some now.hands) worker worker (omega (arith, there, length-map now.hands is_some)) (some_at now.hands worker None held))) ∙ gone.told in
    subst (λ (s : CrewState). IsLetGoTo b first (worker + 1) s) (sym is)
    (subst (λ n. IsLetGoTo b first n now) (sym step)
    (record { events = gone.events; run = gone.run; adds = gone.adds; told = told; grove = gone.grove }))
let_go_more b first now next worker (Some hand) held is there gone =
    let step : worker + 1 ≡ suc worker = omega arith in
    let event : Event = record { worker = worker; kind = Drop } in
    let rest : List Event = drops_from (suc worker) (drop (suc worker) (map is_some now.hands)) in
    let same : map is_some next.hands ≡ set (map is_some now.hands) worker false =
    ap (λ (s : CrewState). map is_some s.hands) is.0 ∙ map-set is_some now.hands worker None in
    let left : drops_from (suc worker) (drop (suc worker) (map is_some next.hands)) ≡ rest =
    ap (λ (hs : List Bool). drops_from (suc worker) (drop (suc worker) hs)) same
    ∙ ap (drops_from (suc worker)) (drop-set-lt (suc worker) (map is_some now.hands) worker false (omega arith)) in
    let told : map listed (gone.events ++ drops' worker ∷ []) ++ drops_from (suc worker) (drop (suc worker) (map is_some next.hands))
    ≡ drops_from 0 (map is_some (crew_of first).held) =
    ap (λ (es : List Event). map listed (gone.events ++ drops' worker ∷ []) ++ es) left
    ∙ ap (λ (es : List Event). es ++ rest) (map_push listed gone.events (drops' worker))
    ∙ append_assoc (map listed gone.events) (event ∷ []) rest
    ∙ ap (λ (es : List Event). map listed gone.events ++ es)
    (sym (drops_true (map is_some now.hands) worker worker (omega (arith, there, length-map now.hands is_some)) (some_at now.hands worker (Some hand) held))) ∙ gone.told in
    subst (λ n. IsLetGoTo b first n next) (sym step)
    (record {
      events = gone.events ++ drops' worker ∷ [];
      run = run_more b.named.program b.blocking (crew_of first) (crew_of now) (crew_of next) gone.events (drops' worker) gone.run is.1.leads;
      adds = more_listed first.events now.events next.events gone.events (drops' worker) gone.adds is.1.adds;
      told = told;
      grove = ap (λ (s : CrewState). s.grove) is.0 ∙ gone.grove;
    })

pub let_go_kept : (b : BlockedProgram) (now next : CrewState) (worker : ℕ) (o : Option Hand) → IsCrewOf b now → hand_of now worker ≡ o → IsLetGoOf b now worker o next
    → IsCrewOf b next
let_go_kept b now next worker None crew held is = subst (IsCrewOf b) (sym is) crew
let_go_kept b now next worker (Some hand) crew held is = is.1.kept

pub let_go_long : (b : BlockedProgram) (now next : CrewState) (worker : ℕ) (o : Option Hand) → hand_of now worker ≡ o → IsLetGoOf b now worker o next
    → length next.hands ≡ length now.hands
let_go_long b now next worker None held is = ap (λ (s : CrewState). length s.hands) is
let_go_long b now next worker (Some hand) held is = hands_long b now next (drops' worker) is.1

drop_past : (xs : List Bool) (k : ℕ) → length xs ≤ k → drop k xs ≡ []
drop_past [] zero past = refl
drop_past [] (suc k) past = refl
drop_past (x ∷ xs) zero past = absurd (omega (arith, past))
drop_past (x ∷ xs) (suc k) past = drop_past xs k (omega (arith, past))

pub all_gone : (b : BlockedProgram) (first now : CrewState) (worker : ℕ) → length now.hands ≤ worker → IsLetGoTo b first worker now → IsLetGo b first now
all_gone b first now worker past gone = record {
  events = gone.events;
  run = gone.run;
  adds = gone.adds;
  listed_are = sym (append-nil (map listed gone.events))
      ∙ ap (λ (hs : List Bool). map listed gone.events ++ drops_from worker hs)
      (sym (drop_past (map is_some now.hands) worker (omega (arith, past, length-map now.hands is_some)))) ∙ gone.told;
  grove = gone.grove;
}

-- ---- a whole run

none_mapped : (n : ℕ) → map (option_map holding_of) (replicate n None) ≡ replicate n None
none_mapped zero = refl
none_mapped (suc n) = ap (λ (held : List (Option Holding)). None ∷ held) (none_mapped n)

pair_point : (best : Option Kept) → kept_point best ≡ point_in (as_pair best)
pair_point None = refl
pair_point (Some k) = refl

abbrev crew_with : GrowingTree → Option (List ℤ) → List (Option Holding) → Crew
crew_with t best held = record { tree = t; best = best; held = held }

-- a crew that is made is idle
pub made_idle : (from : Loaded) (workers : ℕ) (s : CrewState) → IsMade from workers s → crew_of s ≡ idle_crew from.grove.tree (point_in from.best) workers
made_idle from workers s made =
    ap (λ (g : GroveState). crew_with g.tree (kept_point s.best) (map (option_map holding_of) s.hands)) made.grove
    ∙ ap (λ (x : Option (List ℤ)). crew_with from.grove.tree x (map (option_map holding_of) s.hands)) (pair_point s.best ∙ ap point_in made.best)
    ∙ ap (crew_with from.grove.tree (point_in from.best)) (ap (map (option_map holding_of)) made.hands ∙ none_mapped workers)

run_joined : (p : Program) (b : Blocking) (first mid last : Crew) (events more : List CrewEvent) → IsRun p b first events mid → IsRun p b mid more last
    → IsRun p b first (events ++ more) last
run_joined p b first mid last [] more run next = subst (λ (c : Crew). IsRun p b c more last) (sym run) next
run_joined p b first mid last (e ∷ events) more run next = (run.0, run.1, run_joined p b run.0 mid last events more run.2 next)

pub whole_run : (b : BlockedProgram) (from : Loaded) (workers order most drops state : ℕ) (made mid last : CrewState) (outcome : Outcome) (list : List Event)
    → IsMade from workers made → IsDrawnTo b most order made mid drops state → IsLetGo b mid last
    → (0 < live_count mid.grove.tree → steps (certificate_tree mid.grove.tree) ≡ most)
    → grove_in outcome ≡ last.grove → point_of outcome ≡ kept_point last.best → list ≡ last.events → IsCrewRun b from workers order most outcome list
whole_run b from workers order most drops state made mid last outcome list is drawn gone over grove point list_is =
    let idle = made_idle from workers made is in
    let none : made.events ≡ [] = is.events in
    let told : list ≡ map listed drawn.events ++ map listed gone.events =
    list_is ∙ gone.adds ∙ ap (λ (es : List Event). es ++ map listed gone.events)
    (drawn.adds ∙ ap (λ (es : List Event). es ++ map listed drawn.events) none) in
    record {
      events = drawn.events ++ gone.events;
      last = crew_of last;
      run = run_joined b.named.program b.blocking (idle_crew from.grove.tree (point_in from.best) workers) (crew_of mid) (crew_of last) drawn.events gone.events
          (subst (λ (c : Crew). IsRun b.named.program b.blocking c drawn.events (crew_of mid)) idle drawn.run) gone.run;
      tree = sym (ap (λ (g : GroveState). g.tree) grove);
      best = sym point;
      list_is = told ∙ sym (map-append listed drawn.events gone.events);
      drawn = record {
        drawn = map listed drawn.events;
        last = moment_of most drops state (crew_of mid);
        draws = subst (λ (c : Crew). AreDrawn (moment_of most 0 order c) (map listed drawn.events) (moment_of most drops state (crew_of mid))) idle drawn.drawn;
        over = λ on. not_over on.0 on.1 (over on.0);
        all = told ∙ ap (λ (es : List Event). map listed drawn.events ++ es) gone.listed_are;
      };
    }
  where
    not_over : 0 < live_count mid.grove.tree → 0 < most - steps (certificate_tree mid.grove.tree) → steps (certificate_tree mid.grove.tree) ≡ most → ⊥
    not_over some left spent = omega (arith, left, spent)
