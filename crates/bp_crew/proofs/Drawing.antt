-- What is drawn can be done, and a drawn run goes on by it.
use Rattle.std.proofs.Common.{◌≡◌, refl, sym, ap, subst, ◌∙◌, ℕ, zero, suc, ◌+◌, ◌-◌, ◌*◌, ◌%◌, ◌<◌, ◌≤◌, nat_lt, Bool, true, false, List, [], ◌∷◌, ◌++◌, length, map, get_or, set, Option, Some, None, arith, append_assoc, append-nil}
use Rattle.std.proofs.Math.Nat.{suc-mul}
use Rattle.std.specs.Prelude.{is_some, option_map, slice_get, ℤ}
use Rattle.std.proofs.lemmas.List.{map-set, map_push, length-map, length-set}
use Rattle.bp_theory.specs.Program.{Program}
use Rattle.bp_theory.specs.Blocking.{Blocking}
use Rattle.bp_theory.specs.Trees.{steps}
use Rattle.block_program.specs.Blocked.{BlockedProgram}
use Rattle.search_laws.specs.declared.Side.{Side}
use Rattle.search_laws.specs.declared.Event.{Event}
use Rattle.search_laws.specs.declared.Kind.{Kind}
use Rattle.search_laws.specs.declared.Kind.TheVariants.{Take, Shut as ShutKind, Fork as ForkKind, Drop}
use Rattle.search_laws.specs.declared.Next.{Next}
use Rattle.search_laws.specs.declared.Next.TheVariants.{Shut, Fork}
use Rattle.search_laws.specs.declared.Holding.{Holding}
use Rattle.search_laws.specs.Grove.{GrowingTree, LiveLeaf, live_at, live_count, certificate_tree}
use Rattle.search_laws.specs.Verdicts.{grown}
use Rattle.search_laws.specs.Crew.{Crew, CrewEvent, takes, reports, drops as drops', Leads, IsRun, listed, kind_of_next, free_count}
use Rattle.search_laws.proofs.GroveProof.{counts_change_by_one_lem}
use Rattle.search_laws.proofs.CrewProof.{verdicts_keep_lem}
use Rattle.crew_steps.specs.declared.hand.Hand.{Hand}
use Rattle.crew_steps.specs.declared.choice.Task.{Task}
use Rattle.crew_steps.specs.declared.choice.Task.TheVariants.{Take as TakeTask, Report as ReportTask, Drop as DropTask}
use Rattle.crew_steps.specs.declared.choice.Choice.{Choice}
use Rattle.crew_steps.specs.Hands.{holding_of}
use Rattle.crew_steps.specs.States.{CrewState, crew_of, hand_of, IsEvent, IsSomeCrew}
use Rattle.crew_steps.specs.Draws.{choices_in, Moment, holder_count, choices_from, next_state, draw_of, IsOf, IsPicked, GoesOn, moment_of, moment_after, AreDrawn, drops_after}
use Rattle.bp_crew.specs.Runs.{IsFor, IsPossible, IsAllowed, IsAllowedFor, IsDone, IsDrawnTo}
use Rattle.crew_steps.proofs.Events.{held_and_free}
use Rattle.crew_steps.proofs.Choosing.{count_holders, holds_same, less_by_test, all_there, drawn_some}

-- ---- what is possible

-- one worker on
shifted : (first : ℕ) (h : Bool) (holds : List Bool) (t d : Bool) (c : Choice) → IsPossible (suc first) holds t d c → IsPossible first (h ∷ holds) t d c
shifted first h holds t d c p = record { place = suc p.place; at = omega (arith, p.at); there = omega (arith, p.there); task = p.task }

here : (first : ℕ) (h : Bool) (holds : List Bool) (t d : Bool) (c e : Choice) → e.worker ≡ first → IsFor h t d e.task → Some e ≡ Some c
    → IsPossible first (h ∷ holds) t d c
here first h holds t d c e at task same =
    let is : e ≡ c = cc in
    subst (λ (k : Choice). IsPossible first (h ∷ holds) t d k) is (record { place = 0; at = omega (arith, at); there = omega arith; task = task })

pub possible : (first : ℕ) (holds : List Bool) (t d : Bool) (i : ℕ) (c : Choice) → slice_get (choices_from first holds t d) i ≡ Some c → IsPossible first holds t d c
possible first [] t d i c e = absurd (cc)
possible first (false ∷ holds) false d i c e = shifted first false holds false d c (possible (suc first) holds false d i c e)
possible first (false ∷ holds) true d zero c e = here first false holds true d c (record { worker = first; task = TakeTask }) refl tt e
possible first (false ∷ holds) true d (suc i) c e = shifted first false holds true d c (possible (suc first) holds true d i c e)
possible first (true ∷ holds) t false zero c e = here first true holds t false c (record { worker = first; task = ReportTask }) refl tt e
possible first (true ∷ holds) t false (suc i) c e = shifted first true holds t false c (possible (suc first) holds t false i c e)
possible first (true ∷ holds) t true zero c e = here first true holds t true c (record { worker = first; task = ReportTask }) refl tt e
possible first (true ∷ holds) t true (suc zero) c e = here first true holds t true c (record { worker = first; task = DropTask }) refl tt e
possible first (true ∷ holds) t true (suc (suc i)) c e = shifted first true holds t true c (possible (suc first) holds t true i c e)

-- ---- who holds a leaf

-- whether a worker holds a leaf
is_some_at : (hands : List (Option Hand)) (w : ℕ) → get_or (map is_some hands) w false ≡ is_some (get_or hands w None)
is_some_at [] w = refl
is_some_at (o ∷ hands) zero = refl
is_some_at (o ∷ hands) (suc w) = is_some_at hands w

holds_hand : (o : Option Hand) → is_some o ≡ true → (hand : Hand) × (o ≡ Some hand)
holds_hand None e = absurd (cc)
holds_hand (Some hand) e = (hand, refl)

holds_none : (o : Option Hand) → is_some o ≡ false → o ≡ None
holds_none None e = refl
holds_none (Some hand) e = absurd (cc)

allowed_for : (s : CrewState) (w : ℕ) (task : Task) (h t d : Bool) → IsFor h t d task → is_some (hand_of s w) ≡ h → w < length s.hands
    → (t ≡ true → 0 < free_count (crew_of s)) → IsAllowedFor s w task
allowed_for s w TakeTask false false d ok e there free = absurd ok
allowed_for s w TakeTask false true d ok e there free = (there, holds_none (hand_of s w) e, free refl)
allowed_for s w TakeTask true t d ok e there free = absurd ok
allowed_for s w ReportTask false t d ok e there free = absurd ok
allowed_for s w ReportTask true t d ok e there free = holds_hand (hand_of s w) e
allowed_for s w DropTask false t d ok e there free = absurd ok
allowed_for s w DropTask true t false ok e there free = absurd ok
allowed_for s w DropTask true t true ok e there free = holds_hand (hand_of s w) e

low_after : (task : Task) (h t d : Bool) (drops most : ℕ) → IsFor h t d task → (d ≡ true → drops < most) → drops ≤ most → drops_after task drops ≤ most
low_after TakeTask h t d drops most ok few low = low
low_after ReportTask h t d drops most ok few low = omega arith
low_after DropTask false t d drops most ok few low = absurd ok
low_after DropTask true t false drops most ok few low = absurd ok
low_after DropTask true t true drops most ok few low = omega (arith, few refl)

-- what is drawn can be done, and does not pass the number of drops
pub drawn_allowed : (s : CrewState) (drops i : ℕ) (c : Choice) → IsSomeCrew s → slice_get (choices_in drops s) i ≡ Some c → IsAllowed s c
drawn_allowed s drops i c some e =
    let p = possible 0 (map is_some (crew_of s).held) (nat_lt (holder_count (map is_some (crew_of s).held)) (live_count s.grove.tree))
    (nat_lt drops (length (map is_some (crew_of s).held))) i c e in
    let at : c.worker ≡ p.place = omega (arith, p.at) in
    subst (λ w. IsAllowedFor s w c.task) (sym at)
    (allowed_for s p.place c.task (get_or (map is_some (crew_of s).held) p.place false) _ _ p.task
    (sym (ap (λ (hs : List Bool). get_or hs p.place false) (holds_same s.hands) ∙ is_some_at s.hands p.place))
    (omega (arith, p.there, all_there s))
    (λ free. omega (
      arith,
      held_and_free s some,
      less_by_test (holder_count (map is_some (crew_of s).held)) (live_count s.grove.tree) free,
      ap holder_count (holds_same s.hands),
      count_holders s.hands,
    )))

pub drawn_low : (s : CrewState) (drops i : ℕ) (c : Choice) → drops ≤ length s.hands → slice_get (choices_in drops s) i ≡ Some c
    → drops_after c.task drops ≤ length s.hands
drawn_low s drops i c low e =
    let p = possible 0 (map is_some (crew_of s).held) (nat_lt (holder_count (map is_some (crew_of s).held)) (live_count s.grove.tree))
    (nat_lt drops (length (map is_some (crew_of s).held))) i c e in
    low_after c.task _ _ _ drops (length s.hands) p.task
    (λ few. omega (arith, less_by_test drops (length (map is_some (crew_of s).held)) few, all_there s)) low

-- ---- the moment behind an event

abbrev moment_with : List Bool → ℕ → ℕ → ℕ → ℕ → Moment
moment_with holds live left drops state = record { holds = holds; live = live; left = left; drops = drops; state = state }

moments : (h k : List Bool) (l m f g : ℕ) (drops state : ℕ) → h ≡ k → l ≡ m → f ≡ g
    → moment_with h l f drops state ≡ moment_with k m g drops state
moments h k l m f g drops state e d c =
    ap (λ (hs : List Bool). moment_with hs l f drops state) e ∙ ap (λ n. moment_with k n f drops state) d ∙ ap (λ n. moment_with k m n drops state) c

report_moment : (next : Next) (t : GrowingTree) (path : List Side) (leaf : LiveLeaf) (held : List (Option Holding)) (w most drops state : ℕ) (best : Option (List ℤ)) → live_at t path ≡ Some leaf
    → moment_of most 0 (next_state state) (record { tree = grown t path next; best = best; held = set held w None })
    ≡ moment_after (kind_of_next next) w (moment_of most drops state (record { tree = t; best = best; held = held }))
report_moment (Shut proof) t path leaf held w most drops state best h =
    moments (map is_some (set held w None)) (set (map is_some held) w false) _ _ _ _ 0 (next_state state) (map-set is_some held w None)
    (omega (arith, counts_change_by_one_lem.shut_live t path leaf proof h)) (omega (arith, counts_change_by_one_lem.shut_steps t path leaf proof h))
report_moment (Fork v at proof bound) t path leaf held w most drops state best h =
    moments (map is_some (set held w None)) (set (map is_some held) w false) _ _ _ _ 0 (next_state state) (map-set is_some held w None)
    (omega (arith, counts_change_by_one_lem.fork_live t path leaf v at proof bound h)) (omega (arith, counts_change_by_one_lem.fork_steps t path leaf v at proof bound h))

no_report : (next : Next) (task : Task) → IsOf task (kind_of_next next) → task ≡ ReportTask
no_report (Shut proof) TakeTask ok = absurd ok
no_report (Shut proof) ReportTask ok = refl
no_report (Shut proof) DropTask ok = absurd ok
no_report (Fork v at proof bound) TakeTask ok = absurd ok
no_report (Fork v at proof bound) ReportTask ok = refl
no_report (Fork v at proof bound) DropTask ok = absurd ok

pub moment_on : (p : Program) (b : Blocking) (before after : Crew) (event : CrewEvent) (task : Task) (most drops state : ℕ) → Leads p b before event after
    → IsOf task (listed event).kind
    → moment_of most (drops_after task drops) (next_state state) after ≡ moment_after (listed event).kind (listed event).worker (moment_of most drops state before)
moment_on p b before after (takes w path) TakeTask most drops state e ok =
    ap (moment_of most drops (next_state state)) e.becomes
    ∙ moments _ (set (map is_some before.held) w true) _ _ _ _ drops (next_state state) (map-set is_some before.held w _) refl refl
moment_on p b before after (takes w path) ReportTask most drops state e ok = absurd ok
moment_on p b before after (takes w path) DropTask most drops state e ok = absurd ok
moment_on p b before after (drops' w) DropTask most drops state e ok =
    ap (moment_of most (drops + 1) (next_state state)) e.becomes
    ∙ moments _ (set (map is_some before.held) w false) _ _ _ _ (drops + 1) (next_state state) (map-set is_some before.held w None) refl refl
moment_on p b before after (drops' w) TakeTask most drops state e ok = absurd ok
moment_on p b before after (drops' w) ReportTask most drops state e ok = absurd ok
moment_on p b before after (reports w verdict) task most drops state e ok =
    ap (λ (t : Task). moment_of most (drops_after t drops) (next_state state) after) (no_report verdict.next task ok)
    ∙ ap (moment_of most 0 (next_state state)) e.becomes
    ∙ report_moment verdict.next before.tree e.holding.path e.leaf before.held w most drops state before.best e.live

-- ---- a run that goes on

pub run_more : (p : Program) (b : Blocking) (first mid next : Crew) (events : List CrewEvent) (event : CrewEvent) → IsRun p b first events mid
    → Leads p b mid event next → IsRun p b first (events ++ event ∷ []) next
run_more p b first mid next [] event run leads = (next, subst (λ (c : Crew). Leads p b c event next) (sym run) leads, refl)
run_more p b first mid next (e ∷ events) event run leads = (run.0, run.1, run_more p b run.0 mid next events event run.2 leads)

draws_more : (m mid last : Moment) (events : List Event) (event : Event) → AreDrawn m events mid → GoesOn mid → IsPicked mid event
    → last ≡ moment_after event.kind event.worker mid → AreDrawn m (events ++ event ∷ []) last
draws_more m mid last [] event drawn on picked is = (
  subst GoesOn (sym drawn) on,
  subst (λ (k : Moment). IsPicked k event) (sym drawn) picked,
  ap (moment_after event.kind event.worker) drawn ∙ sym is,
)
draws_more m mid last (e ∷ events) event drawn on picked is = (drawn.0, drawn.1, draws_more (moment_after e.kind e.worker m) mid last events event drawn.2 on picked is)

pub more_listed : (first now next : List Event) (events : List CrewEvent) (event : CrewEvent) → now ≡ first ++ map listed events → next ≡ now ++ listed event ∷ []
    → next ≡ first ++ map listed (events ++ event ∷ [])
more_listed first now next events event is adds =
    adds ∙ ap (λ (es : List Event). es ++ listed event ∷ []) is ∙ append_assoc first (map listed events) (listed event ∷ [])
    ∙ ap (λ (es : List Event). first ++ es) (sym (map_push listed events event))

pub drawn_on : (b : BlockedProgram) (most order drops state : ℕ) (first now next : CrewState) (c : Choice) → IsDrawnTo b most order first now drops state
    → 1 ≤ length now.hands → 0 < live_count now.grove.tree → steps (certificate_tree now.grove.tree) < most
    → slice_get (choices_in drops now) (draw_of (next_state state) % length (choices_in drops now)) ≡ Some c → IsDone b now c next
    → IsDrawnTo b most order first next (drops_after c.task drops) (next_state state)
drawn_on b most order drops state first now next c d workers some few e done = record {
  events = d.events ++ done.event ∷ [];
  run = run_more b.named.program b.blocking (crew_of first) (crew_of now) (crew_of next) d.events done.event d.run done.is.leads;
  adds = more_listed first.events now.events next.events d.events done.event d.adds done.is.adds;
  drawn = subst (λ (es : List Event). AreDrawn (moment_of most 0 order (crew_of first)) es (moment_of most (drops_after c.task drops) (next_state state) (crew_of next)))
      (sym (map_push listed d.events done.event))
      (draws_more (moment_of most 0 order (crew_of first)) (moment_of most drops state (crew_of now)) (moment_of most (drops_after c.task drops) (next_state state) (crew_of next))
      (map listed d.events) (listed done.event) d.drawn (some, omega (arith, few))
      (record { choice = c; some = drawn_some now drops workers some; drawn = e; worker = done.worker; kind = done.kind })
      (moment_on b.named.program b.blocking (crew_of now) (crew_of next) done.event c.task most drops state done.is.leads done.kind));
}

pub drawn_first : (b : BlockedProgram) (most order : ℕ) (first : CrewState) → IsDrawnTo b most order first first 0 order
drawn_first b most order first = record { events = []; run = refl; adds = sym (append-nil first.events); drawn = refl }

-- ---- what an event leaves as it was

held_long : (p : Program) (b : Blocking) (before after : Crew) (event : CrewEvent) → Leads p b before event after → length after.held ≡ length before.held
held_long p b before after (takes w path) e = ap (λ (c : Crew). length c.held) e.becomes ∙ length-set before.held w _
held_long p b before after (reports w verdict) e = ap (λ (c : Crew). length c.held) e.becomes ∙ length-set before.held w None
held_long p b before after (drops' w) e = ap (λ (c : Crew). length c.held) e.becomes ∙ length-set before.held w None

pub hands_long : (b : BlockedProgram) (before after : CrewState) (event : CrewEvent) → IsEvent b before event after → length after.hands ≡ length before.hands
hands_long b before after event is =
    omega (
      arith,
      length-map after.hands (option_map holding_of),
      length-map before.hands (option_map holding_of),
      held_long b.named.program b.blocking (crew_of before) (crew_of after) event is.leads,
    )

one_step_most : (p : Program) (b : Blocking) (before after : Crew) (event : CrewEvent) → Leads p b before event after
    → steps (certificate_tree after.tree) ≤ steps (certificate_tree before.tree) + 1
one_step_most p b before after (takes w path) e = omega (arith, ap (λ (c : Crew). steps (certificate_tree c.tree)) e.becomes)
one_step_most p b before after (reports w verdict) e =
    omega (arith, ap (λ (c : Crew). steps (certificate_tree c.tree)) e.becomes, verdicts_keep_lem.steps before.tree e.holding.path e.leaf verdict.next e.live)
one_step_most p b before after (drops' w) e = omega (arith, ap (λ (c : Crew). steps (certificate_tree c.tree)) e.becomes)

pub steps_within : (b : BlockedProgram) (before after : CrewState) (event : CrewEvent) (most : ℕ) → IsEvent b before event after
    → steps (certificate_tree before.grove.tree) < most → steps (certificate_tree after.grove.tree) ≤ most
steps_within b before after event most is few =
    omega (arith, few, one_step_most b.named.program b.blocking (crew_of before) (crew_of after) event is.leads)

-- ---- drawing ends

-- a number that falls with each event: steps left, then drops left, then workers that hold nothing
abbrev size : (left drops workers holders : ℕ) → ℕ
size left drops workers holders = left * ((workers + 1) * (workers + 1)) + ((workers - drops) * (workers + 1) + (workers - holders))

abbrev pub left_to_do : Moment → ℕ
left_to_do m = size m.left m.drops (length m.holds) (holder_count m.holds)

holders_few : (hs : List Bool) → holder_count hs ≤ length hs
holders_few [] = omega arith
holders_few (true ∷ hs) = omega (arith, holders_few hs)
holders_few (false ∷ hs) = omega (arith, holders_few hs)

one_taken : (hs : List Bool) (w : ℕ) → w < length hs → get_or hs w false ≡ false → holder_count (set hs w true) ≡ holder_count hs + 1
one_taken [] w there e = absurd (omega (arith, there))
one_taken (true ∷ hs) zero there e = absurd (cc)
one_taken (false ∷ hs) zero there e = omega arith
one_taken (true ∷ hs) (suc w) there e = omega (arith, one_taken hs w (omega (arith, there)) e)
one_taken (false ∷ hs) (suc w) there e = one_taken hs w (omega (arith, there)) e

one_gone : (hs : List Bool) (w : ℕ) → get_or hs w false ≡ true → holder_count (set hs w false) + 1 ≡ holder_count hs
one_gone [] w e = absurd (cc)
one_gone (true ∷ hs) zero e = omega arith
one_gone (false ∷ hs) zero e = absurd (cc)
one_gone (true ∷ hs) (suc w) e = omega (arith, one_gone hs w e)
one_gone (false ∷ hs) (suc w) e = one_gone hs w e

take_less : (left drops workers all holders more : ℕ) → all ≡ workers → more ≡ holders + 1 → more ≤ all → size left drops all more < size left drops workers holders
take_less left drops workers all holders more same up fits =
    subst (λ n. size left drops n more < size left drops workers holders) (sym same)
    (by (left * ((workers + 1) * (workers + 1))) ((workers - drops) * (workers + 1)) workers holders more up (omega (arith, same, fits)))
  where
    by : (x y n h m : ℕ) → m ≡ h + 1 → m ≤ n → x + (y + (n - m)) < x + (y + (n - h))
    by x y n h m up fits = omega (arith, up, fits)

drop_less : (left drops workers all holders fewer : ℕ) → all ≡ workers → fewer + 1 ≡ holders → holders ≤ workers → drops < workers
    → size left (drops + 1) all fewer < size left drops workers holders
drop_less left drops workers all holders fewer same down fits few =
    let one : workers - drops ≡ suc (workers - (drops + 1)) = omega (arith, few) in
    subst (λ n. size left (drops + 1) n fewer < size left drops workers holders) (sym same)
    (by (left * ((workers + 1) * (workers + 1))) ((workers - drops) * (workers + 1)) ((workers - (drops + 1)) * (workers + 1)) workers holders fewer
    (ap (λ n. n * (workers + 1)) one ∙ suc-mul (workers - (drops + 1)) (workers + 1)) down fits (omega (arith, few)))
  where
    by : (x y z n h m : ℕ) → y ≡ z + (n + 1) → m + 1 ≡ h → h ≤ n → 0 < n → x + (z + (n - m)) < x + (y + (n - h))
    by x y z n h m is down fits some = omega (arith, is, down, fits, some)

report_less : (left drops workers all holders fewer : ℕ) → all ≡ workers → 0 < left → size (left - 1) 0 all fewer < size left drops workers holders
report_less left drops workers all holders fewer same some =
    let one : left ≡ suc (left - 1) = omega (arith, some) in
    let next : workers + 1 ≡ suc workers = omega arith in
    let none : workers - 0 ≡ workers = omega arith in
    subst (λ n. size (left - 1) 0 n fewer < size left drops workers holders) (sym same)
    (by (left * ((workers + 1) * (workers + 1))) ((left - 1) * ((workers + 1) * (workers + 1))) ((workers + 1) * (workers + 1)) ((workers - 0) * (workers + 1)) ((workers - drops) * (workers + 1) + (workers - holders)) workers fewer
    (ap (λ n. n * ((workers + 1) * (workers + 1))) one ∙ suc-mul (left - 1) ((workers + 1) * (workers + 1)))
    (ap (λ n. n * (workers + 1)) next ∙ suc-mul workers (workers + 1) ∙ ap (λ n. n * (workers + 1) + (workers + 1)) (sym none)))
  where
    by : (x y k z r n m : ℕ) → x ≡ y + k → k ≡ z + (n + 1) → y + (z + (n - m)) < x + r
    by x y k z r n m is too = omega (arith, is, too)

falls_by : (task : Task) (kind : Kind) (h t d : Bool) (w : ℕ) (m : Moment) → IsFor h t d task → IsOf task kind → get_or m.holds w false ≡ h → w < length m.holds
    → (d ≡ true → m.drops < length m.holds) → 0 < m.left → left_to_do (moment_after kind w m) < left_to_do m
falls_by TakeTask Take false false d w m ok is e there few some = absurd ok
falls_by TakeTask Take false true d w m ok is e there few some =
    take_less m.left m.drops (length m.holds) (length (set m.holds w true)) (holder_count m.holds) (holder_count (set m.holds w true)) (length-set m.holds w true)
    (one_taken m.holds w there e) (holders_few (set m.holds w true))
falls_by TakeTask Take true t d w m ok is e there few some = absurd ok
falls_by TakeTask ShutKind h t d w m ok is e there few some = absurd is
falls_by TakeTask ForkKind h t d w m ok is e there few some = absurd is
falls_by TakeTask Drop h t d w m ok is e there few some = absurd is
falls_by ReportTask Take h t d w m ok is e there few some = absurd is
falls_by ReportTask ShutKind h t d w m ok is e there few some =
    report_less m.left m.drops (length m.holds) (length (set m.holds w false)) (holder_count m.holds) (holder_count (set m.holds w false)) (length-set m.holds w false) some
falls_by ReportTask ForkKind h t d w m ok is e there few some =
    report_less m.left m.drops (length m.holds) (length (set m.holds w false)) (holder_count m.holds) (holder_count (set m.holds w false)) (length-set m.holds w false) some
falls_by ReportTask Drop h t d w m ok is e there few some = absurd is
falls_by DropTask Take h t d w m ok is e there few some = absurd is
falls_by DropTask ShutKind h t d w m ok is e there few some = absurd is
falls_by DropTask ForkKind h t d w m ok is e there few some = absurd is
falls_by DropTask Drop false t d w m ok is e there few some = absurd ok
falls_by DropTask Drop true t false w m ok is e there few some = absurd ok
falls_by DropTask Drop true t true w m ok is e there few some =
    drop_less m.left m.drops (length m.holds) (length (set m.holds w false)) (holder_count m.holds) (holder_count (set m.holds w false)) (length-set m.holds w false)
    (one_gone m.holds w e) (holders_few m.holds) (few refl)

pub falls : (b : BlockedProgram) (most drops state i : ℕ) (now next : CrewState) (c : Choice) → steps (certificate_tree now.grove.tree) < most
    → slice_get (choices_in drops now) i ≡ Some c → IsDone b now c next
    → left_to_do (moment_of most (drops_after c.task drops) (next_state state) (crew_of next)) < left_to_do (moment_of most drops state (crew_of now))
falls b most drops state i now next c few e done =
    let holds : List Bool = map is_some (crew_of now).held in
    let p = possible 0 holds (nat_lt (holder_count holds) (live_count now.grove.tree)) (nat_lt drops (length holds)) i c e in
    let m : Moment = moment_of most drops state (crew_of now) in
    let at : (listed done.event).worker ≡ p.place = omega (arith, done.worker, p.at) in
    subst (λ (k : Moment). left_to_do k < left_to_do m)
    (sym (moment_on b.named.program b.blocking (crew_of now) (crew_of next) done.event c.task most drops state done.is.leads done.kind))
    (subst (λ w. left_to_do (moment_after (listed done.event).kind w m) < left_to_do m) (sym at)
    (falls_by c.task (listed done.event).kind (get_or holds p.place false) _ _ p.place m p.task done.kind refl p.there
    (λ d. less_by_test drops (length holds) d) (omega (arith, few))))
