-- The calls of a crew are events of it.
use Rattle.std.proofs.Common.{◌≡◌, ◌≢◌, refl, sym, ap, subst, ◌∙◌, ℕ, zero, suc, ◌+◌, ◌-◌, ◌<◌, ◌≤◌, ◌^◌, List, [], ◌∷◌, ◌++◌, length, map, get_or, set, replicate, Option, Some, None, ℤ, arith}
use Rattle.std.specs.Prelude.{is_some, count_by, option_map, IfSome, unsigned_abs}
use Rattle.std.proofs.lemmas.List.{map-set, length-map, length-set}
use Rattle.std.proofs.lemmas.List.Sums.{count_by-le-length}
use Rattle.bp_theory.specs.Program.{Program}
use Rattle.bp_theory.specs.declared.Span.{Span}
use Rattle.block_program.specs.Blocked.{BlockedProgram, IsFormed}
use Rattle.search_laws.specs.declared.Side.{Side}
use Rattle.search_laws.specs.declared.Side.TheVariants.{Low, High}
use Rattle.search_laws.specs.declared.Event.{Event}
use Rattle.search_laws.specs.declared.Kind.{Kind}
use Rattle.search_laws.specs.declared.Kind.TheVariants.{Take, Drop}
use Rattle.search_laws.specs.declared.Holding.{Holding}
use Rattle.search_laws.specs.declared.Next.{Next}
use Rattle.search_laws.specs.declared.Next.TheVariants.{Shut, Fork}
use Rattle.search_laws.specs.declared.Verdict.{Verdict}
use Rattle.search_laws.specs.Grove.{GrowingTree, live, shut, fork, LiveLeaf, live_at, zone_at, put_at, live_count}
use Rattle.search_laws.specs.GroveFacts.{best_cost}
use Rattle.search_laws.specs.Verdicts.{better, grown}
use Rattle.search_laws.specs.Crew.{Crew, takes, reports, drops, Takes, Reports, Drops, IsCrew, IsFree, held_by, free_count, kind_of_next}
use Rattle.search_laws.proofs.CrewProof.{events_keep_lem}
use Rattle.search_laws.proofs.ListedProof.{free_is_the_rest_lem}
use Rattle.search_laws.proofs.PathProof.{live_leaves_change_lem}
use Rattle.branch_tree.specs.Groves.{GroveState, IsLiveTurn}
use Rattle.open_nodes.specs.declared.turn.Turn.{Turn}
use Rattle.branch_tree.specs.declared.loaded.Loaded.{Loaded}
use Rattle.branch_tree.specs.Loads.{IsLoaded}
use Rattle.branch_tree.proofs.Standing.{leaf_of_turn}
use Rattle.bp_search.specs.declared.kept.Kept.{Kept}
use Rattle.bp_search.specs.Searches.{kept_point, kept_cost, as_pair, HasItsCost, IsRunning}
use Rattle.bp_search.proofs.Running.{given_is, is_sized, small_cost, can_grow, at_path, running_of}
use Rattle.crew_steps.specs.declared.hand.Hand.{Hand}
use Rattle.crew_steps.specs.Hands.{holding_of, IsHeld, IsFirstFree, IsGrown, CanGrowHeld}
use Rattle.crew_steps.specs.States.{CrewState, hand_of, crew_of, IsCrewOf, IsSomeCrew, HasRoom, IsMade, IsTaken, IsRight, IsEvent, dropped}
use Rattle.crew_steps.proofs.HandLemmas.{count_freed, count_taken, count_mapped, count_none, get_mapped, each_after, freed_elsewhere}

-- what the laws' crew says is held
pub held_is : (s : CrewState) (w : ℕ) (hand : Hand) → hand_of s w ≡ Some hand → held_by (crew_of s) w ≡ Some (holding_of hand)
held_is s w hand e = get_mapped holding_of s.hands w ∙ ap (option_map holding_of) e

held_none : (s : CrewState) (w : ℕ) → hand_of s w ≡ None → held_by (crew_of s) w ≡ None
held_none s w e = get_mapped holding_of s.hands w ∙ ap (option_map holding_of) e

-- a path that nobody holds is free
pub is_free : (s : CrewState) (path : List Side) → (IsHeld s.hands path → ⊥) → IsFree (crew_of s) path
is_free s path none w h e same = by (hand_of s w) refl (sym (get_mapped holding_of s.hands w) ∙ e)
  where
    by : (o : Option Hand) → hand_of s w ≡ o → option_map holding_of o ≡ Some h → ⊥
    by None f k = absurd (cc)
    by (Some hand) f k =
        let is : holding_of hand ≡ h = cc in
        none (record { worker = w; hand = hand; holds = f; same = ap (λ (g : Holding). g.path) is ∙ same })

-- ---- how many are held, and how many are free

pub held_and_free : (s : CrewState) → IsSomeCrew s → free_count (crew_of s) + count_by is_some s.hands ≡ live_count s.grove.tree
held_and_free s some =
    omega (arith, free_is_the_rest_lem.rest some.0.named.program some.0.blocking (crew_of s) some.1.crew, count_mapped holding_of s.hands)

-- a list of events changes nothing of what a crew keeps
pub with_events : (b : BlockedProgram) (s : CrewState) (events : List Event) → IsCrewOf b s → IsCrewOf b (record s { events = events })
with_events b s events crew = record {
  formed = crew.formed;
  running = crew.running;
  crew = crew.crew;
  turns = crew.turns;
  small = crew.small;
}

-- ---- room for events

pub made_room : (workers events room : ℕ) (hands : List (Option Hand)) → hands ≡ replicate workers None → events ≡ 0 → HasRoom hands 0 events room
made_room workers events room hands none no_events = record {
  count = sym (ap (λ (h : List (Option Hand)). count_by is_some h) none ∙ count_none workers);
  enough = omega (arith, no_events);
}

pub freed_room : (hands : List (Option Hand)) (w : ℕ) (hand : Hand) (holders fewer events more room wider : ℕ) → HasRoom hands holders events room
    → get_or hands w None ≡ Some hand → fewer ≡ holders - 1 → more ≡ events + 1 → room ≤ wider → HasRoom (set hands w None) fewer more wider
freed_room hands w hand holders fewer events more room wider h held less one wide = record {
  count = omega (arith, h.count, count_freed hands w hand held, less);
  enough = omega (arith, h.count, h.enough, count_freed hands w hand held, less, one, wide);
}

pub taken_room : (hands : List (Option Hand)) (w : ℕ) (hand : Hand) (holders above events more room : ℕ) → holders ≡ count_by is_some hands
    → w < length hands → get_or hands w None ≡ None → above ≡ holders + 1 → more ≡ events + 1 → events + (length hands + 1) ≤ room
    → HasRoom (set hands w (Some hand)) above more room
taken_room hands w hand holders above events more room count there none up one wide = record {
  count = omega (arith, count, count_taken hands w hand there none, up);
  enough = omega (
    arith,
    count,
    count_taken hands w hand there none,
    up,
    one,
    wide,
    count_by-le-length (λ (o : Option Hand). is_some o) (set hands w (Some hand)),
    length-set hands w (Some hand),
  );
}

-- ---- a crew that begins

pub made_crew : (b : BlockedProgram) (from : Loaded) (workers : ℕ) (s : CrewState) → IsFormed b → IsLoaded b from → IsMade from workers s → IsCrewOf b s
made_crew b from workers s formed loaded made =
    let pair : as_pair s.best ≡ from.best = made.best in
    let run : IsRunning b from.grove s.best = running_of b from.grove s.best from.best loaded pair in
    let here : IsRunning b s.grove s.best = subst (λ (g : GroveState). IsRunning b g s.best) (sym made.grove) run in
    let idle : (n : ℕ) → map (option_map holding_of) (replicate n None) ≡ replicate n None = none_mapped in
    record {
      formed = formed;
      running = here;
      crew = subst (λ (held : List (Option Holding)). IsCrew b.named.program b.blocking (record { tree = s.grove.tree; best = kept_point s.best; held = held }))
          (sym (ap (map (option_map holding_of)) made.hands ∙ idle workers))
          (events_keep_lem.idle b.named.program b.blocking s.grove.tree (kept_point s.best) workers here.search);
      turns = λ w hand e. absurd (nothing workers w hand (subst (λ (hands : List (Option Hand)). get_or hands w None ≡ Some hand) made.hands e));
      small = λ w hand e. absurd (nothing workers w hand (subst (λ (hands : List (Option Hand)). get_or hands w None ≡ Some hand) made.hands e));
    }
  where
    none_mapped : (n : ℕ) → map (option_map holding_of) (replicate n None) ≡ replicate n None
    none_mapped zero = refl
    none_mapped (suc n) = ap (λ (held : List (Option Holding)). None ∷ held) (none_mapped n)

    nothing : (n w : ℕ) (hand : Hand) → get_or (replicate n None) w None ≡ Some hand → ⊥
    nothing zero w hand e = cc
    nothing (suc n) zero hand e = cc
    nothing (suc n) (suc w) hand e = nothing n w hand e

-- ---- a worker takes a leaf

takes_of : (b : BlockedProgram) (before after : CrewState) (worker : ℕ) → IsCrewOf b before → worker < length before.hands
    → hand_of before worker ≡ None → (t : IsTaken before worker after) → Takes b.named.program (crew_of before) worker t.hand.turn.path (crew_of after)
takes_of b before after worker crew known idle t =
    let p : Program = b.named.program in
    let cost : t.hand.given ≡ best_cost p (kept_point before.best) = t.given ∙ given_is p before.best crew.running.costs in
    record {
      known = omega (arith, length-map before.hands (option_map holding_of), known);
      idle = held_none before worker idle;
      leaf = leaf_of_turn t.hand.turn;
      live = t.first.live.live;
      free = is_free before t.hand.turn.path t.first.free;
      becomes = ap crew_of t.becomes
          ∙ ap (λ (held : List (Option Holding)). record { tree = before.grove.tree; best = kept_point before.best; held = held })
          (map-set (option_map holding_of) before.hands worker (Some t.hand)
          ∙ ap (λ (z : Option ℤ). set (map (option_map holding_of) before.hands) worker (Some (record { path = t.hand.turn.path; given = z }))) cost);
    }

pub take_event : (b : BlockedProgram) (before after : CrewState) (worker : ℕ) → IsCrewOf b before → worker < length before.hands
    → hand_of before worker ≡ None → (t : IsTaken before worker after) → IsEvent b before (takes worker t.hand.turn.path) after
take_event b before after worker crew known idle t =
    let p : Program = b.named.program in
    let leads = takes_of b before after worker crew known idle t in
    record {
      leads = leads;
      adds = ap (λ (s : CrewState). s.events) t.becomes;
      kept = record {
        formed = crew.formed;
        running = subst (λ (s : CrewState). IsRunning b s.grove s.best) (sym t.becomes) crew.running;
        crew = events_keep_lem.kept p b.blocking (crew_of before) (crew_of after) (takes worker t.hand.turn.path) (is_sized b crew.formed) crew.crew leads;
        turns = λ w hand e. subst (λ (s : CrewState). IsLiveTurn s.grove hand.turn) (sym t.becomes)
            (each_after (λ (h : Hand). IsLiveTurn before.grove h.turn) before.hands worker (Some t.hand) crew.turns
            (λ h same. subst (λ (k : Hand). IsLiveTurn before.grove k.turn) (same_hand t.hand h same) t.first.live)
            w hand (subst (λ (s : CrewState). hand_of s w ≡ Some hand) t.becomes e));
        small = λ w hand e.
            each_after (λ (h : Hand). IfSome h.given (λ z. unsigned_abs z < 2 ^ 62)) before.hands worker (Some t.hand) crew.small
            (λ h same. subst (λ (k : Hand). IfSome k.given (λ z. unsigned_abs z < 2 ^ 62)) (same_hand t.hand h same)
            (subst (λ (z : Option ℤ). IfSome z (λ z. unsigned_abs z < 2 ^ 62)) (sym t.given) (small_cost b before.grove before.best crew.formed crew.running)))
            w hand (subst (λ (s : CrewState). hand_of s w ≡ Some hand) t.becomes e);
      };
    }
  where
    same_hand : (h k : Hand) → Some h ≡ Some k → h ≡ k
    same_hand h k e = cc

-- ---- a worker drops a leaf

pub drop_event : (b : BlockedProgram) (before : CrewState) (worker : ℕ) (hand : Hand) → IsCrewOf b before
    → hand_of before worker ≡ Some hand → IsEvent b before (drops worker) (dropped before worker)
drop_event b before worker hand crew held =
    let p : Program = b.named.program in
    let leads : Drops (crew_of before) worker (crew_of (dropped before worker)) = record {
      holding = holding_of hand;
      holds = held_is before worker hand held;
      becomes = ap (λ (h : List (Option Holding)). record { tree = before.grove.tree; best = kept_point before.best; held = h })
          (map-set (option_map holding_of) before.hands worker None);
    } in
    record {
      leads = leads;
      adds = refl;
      kept = record {
        formed = crew.formed;
        running = crew.running;
        crew = events_keep_lem.kept p b.blocking (crew_of before) (crew_of (dropped before worker)) (drops worker) (is_sized b crew.formed) crew.crew leads;
        turns = λ w h e. crew.turns w h (freed_elsewhere before.hands worker w h e).1;
        small = λ w h e. crew.small w h (freed_elsewhere before.hands worker w h e).1;
      };
    }

-- ---- a worker reports

-- another live leaf stays where one is replaced
live_elsewhere : (t : GrowingTree) (path other : List Side) (leaf kept : LiveLeaf) (new : GrowingTree) → live_at t path ≡ Some leaf
    → live_at t other ≡ Some kept → other ≢ path → live_at (put_at t path new) other ≡ Some kept
live_elsewhere (live proof bound) [] [] leaf kept new h k apart = absurd (apart refl)
live_elsewhere (live proof bound) [] (side ∷ other) leaf kept new h k apart = absurd (cc)
live_elsewhere (live proof bound) (side ∷ path) other leaf kept new h k apart = absurd (cc)
live_elsewhere (shut proof) path other leaf kept new h k apart = absurd (cc)
live_elsewhere (fork v at low high) [] other leaf kept new h k apart = absurd (cc)
live_elsewhere (fork v at low high) (Low ∷ path) [] leaf kept new h k apart = absurd (cc)
live_elsewhere (fork v at low high) (High ∷ path) [] leaf kept new h k apart = absurd (cc)
live_elsewhere (fork v at low high) (Low ∷ path) (Low ∷ other) leaf kept new h k apart =
    live_elsewhere low path other leaf kept new h k (λ same. apart (ap (λ (q : List Side). Low ∷ q) same))
live_elsewhere (fork v at low high) (Low ∷ path) (High ∷ other) leaf kept new h k apart = k
live_elsewhere (fork v at low high) (High ∷ path) (Low ∷ other) leaf kept new h k apart = k
live_elsewhere (fork v at low high) (High ∷ path) (High ∷ other) leaf kept new h k apart =
    live_elsewhere high path other leaf kept new h k (λ same. apart (ap (λ (q : List Side). High ∷ q) same))

-- a turn stays one of a live leaf when another leaf is shut or forked
turn_stays : (g after : GroveState) (turn other : Turn) (next : Next) → IsLiveTurn g turn → IsLiveTurn g other → other.path ≢ turn.path
    → after.tree ≡ grown g.tree turn.path next → after.root ≡ g.root → IsLiveTurn after other
turn_stays g after turn other next alive too apart tree root =
    let new = put_form g.tree turn.path next in
    let is : after.tree ≡ put_at g.tree turn.path new.0 = tree ∙ new.1 in
    record {
      live = ap (λ (t : GrowingTree). live_at t other.path) is
          ∙ live_elsewhere g.tree turn.path other.path (leaf_of_turn turn) (leaf_of_turn other) new.0 alive.live too.live apart;
      in_zone = too.in_zone
          ∙ sym (live_leaves_change_lem.zones_stay g.tree new.0 g.root turn.path other.path (leaf_of_turn turn) (leaf_of_turn other) alive.live too.live apart)
          ∙ sym (ap (λ (t : GrowingTree). zone_at t g.root other.path) is)
          ∙ sym (ap (λ (spans : List Span). zone_at after.tree spans other.path) root);
      far = too.far;
    }
  where
    put_form : (t : GrowingTree) (path : List Side) (next : Next) → (new : GrowingTree) × (grown t path next ≡ put_at t path new)
    put_form t path (Shut proof) = (shut proof, refl)
    put_form t path (Fork v at proof bound) = (fork v at (live proof bound) (live proof bound), refl)

-- what is to be done with the held leaf can be done
pub can_grow_held : (b : BlockedProgram) (s : CrewState) (worker : ℕ) (verdict : Verdict) → IsCrewOf b s → IsRight b s worker verdict
    → CanGrowHeld b.blocking s.grove (hand_of s worker) verdict.next
can_grow_held b s worker verdict crew right =
    let alive = crew.turns worker right.hand right.holds in
    record {
      hand = right.hand;
      holds = right.holds;
      live = alive;
      can = can_grow b s.grove s.best right.hand.turn right.hand.given verdict crew.formed crew.running alive right.right;
    }

-- the parts of a crew after a report
pub record IsReported (b : BlockedProgram) (before : CrewState) (worker : ℕ) (verdict : Verdict) (after : CrewState) : Type 0 where
  pub grows : IsGrown before.grove (hand_of before worker) verdict.next after.grove
  pub point : kept_point after.best ≡ better b.named.program (kept_point before.best) verdict.point
  pub costs : HasItsCost b.named.program after.best
  pub hands : after.hands ≡ set before.hands worker None
  pub events : after.events ≡ before.events ++ record { worker = worker; kind = kind_of_next verdict.next } ∷ []

same_hand : (h k : Hand) (o : Option Hand) → o ≡ Some h → o ≡ Some k → h ≡ k
same_hand h k o e f = let both : Some h ≡ Some k = sym e ∙ f in cc

abbrev crew_state : GroveState → Option Kept → List (Option Hand) → List Event → CrewState
crew_state grove best hands events = record { grove = grove; best = best; hands = hands; events = events }

abbrev crew_with : GrowingTree → Option (List ℤ) → List (Option Holding) → Crew
crew_with t best held = record { tree = t; best = best; held = held }

parts : (t u : GrowingTree) (x y : Option (List ℤ)) (h k : List (Option Holding)) → t ≡ u → x ≡ y → h ≡ k → crew_with t x h ≡ crew_with u y k
parts t u x y h k e f g = ap (λ t. crew_with t x h) e ∙ ap (λ x. crew_with u x h) f ∙ ap (crew_with u y) g

reports_of : (b : BlockedProgram) (before after : CrewState) (worker : ℕ) (verdict : Verdict) → IsCrewOf b before
    → IsRight b before worker verdict → IsReported b before worker verdict after
    → Reports b.named.program b.blocking (crew_of before) worker verdict (crew_of after)
reports_of b before after worker verdict crew right done =
    let p : Program = b.named.program in
    let hand : Hand = right.hand in
    let alive = crew.turns worker hand right.holds in
    let one : done.grows.hand ≡ hand = same_hand done.grows.hand hand (hand_of before worker) done.grows.holds right.holds in
    let tree : after.grove.tree ≡ grown before.grove.tree hand.turn.path verdict.next =
    done.grows.tree ∙ ap (λ (h : Hand). grown before.grove.tree h.turn.path verdict.next) one in
    record {
      holding = holding_of hand;
      holds = held_is before worker hand right.holds;
      leaf = leaf_of_turn hand.turn;
      live = alive.live;
      right = at_path b before.grove before.best hand.turn hand.given verdict crew.running alive right.right;
      becomes = parts after.grove.tree (grown before.grove.tree hand.turn.path verdict.next) (kept_point after.best)
          (better p (kept_point before.best) verdict.point) (crew_of after).held (set (crew_of before).held worker None)
          tree done.point (ap (map (option_map holding_of)) done.hands ∙ map-set (option_map holding_of) before.hands worker None);
    }

pub report_event : (b : BlockedProgram) (before after : CrewState) (worker : ℕ) (verdict : Verdict) → IsCrewOf b before
    → IsRight b before worker verdict → IsReported b before worker verdict after → IsEvent b before (reports worker verdict) after
report_event b before after worker verdict crew right done =
    let p : Program = b.named.program in
    let hand : Hand = right.hand in
    let leads = reports_of b before after worker verdict crew right done in
    let whole = events_keep_lem.kept p b.blocking (crew_of before) (crew_of after) (reports worker verdict) (is_sized b crew.formed) crew.crew leads in
    let one : done.grows.hand ≡ hand = same_hand done.grows.hand hand (hand_of before worker) done.grows.holds right.holds in
    record {
      leads = leads;
      adds = done.events;
      kept = record {
        formed = crew.formed;
        running = record {
          standing = done.grows.standing;
          root = done.grows.root ∙ crew.running.root;
          search = whole.search;
          costs = done.costs;
        };
        crew = whole;
        turns = λ w h e.
            let was = freed_elsewhere before.hands worker w h (subst (λ (hands : List (Option Hand)). get_or hands w None ≡ Some h) done.hands e) in
            turn_stays before.grove after.grove hand.turn h.turn verdict.next (crew.turns worker hand right.holds) (crew.turns w h was.1)
            (λ same. was.0 (crew.crew.alone w worker (holding_of h) (holding_of hand) (held_is before w h was.1) (held_is before worker hand right.holds) same))
            (done.grows.tree ∙ ap (λ (k : Hand). grown before.grove.tree k.turn.path verdict.next) one) done.grows.root;
        small = λ w h e.
            crew.small w h (freed_elsewhere before.hands worker w h (subst (λ (hands : List (Option Hand)). get_or hands w None ≡ Some h) done.hands e)).1;
      };
    }

-- ---- the parts of a crew, put together

abbrev pub event_of : ℕ → Kind → Event
event_of worker kind = record { worker = worker; kind = kind }

pub whole_drop : (s now : CrewState) (worker : ℕ) (events : List Event) → s ≡ now
    → events ≡ s.events ++ record { worker = worker; kind = Drop } ∷ [] → record s { hands = set s.hands worker None; events = events } ≡ dropped now worker
whole_drop s now worker events is adds =
    ap (λ (es : List Event). crew_state s.grove s.best (set s.hands worker None) es) adds ∙ ap (λ (c : CrewState). dropped c worker) is

-- a worker that drops: the crew is one of its program still, and this is an event
pub drop_whole : (b : BlockedProgram) (s now : CrewState) (worker : ℕ) (hand : Hand) (events : List Event) → s ≡ now → IsCrewOf b now
    → hand_of now worker ≡ Some hand → events ≡ s.events ++ record { worker = worker; kind = Drop } ∷ []
    → IsEvent b now (drops worker) (record s { hands = set s.hands worker None; events = events })
drop_whole b s now worker hand events is crew held adds =
    subst (IsEvent b now (drops worker)) (sym (whole_drop s now worker events is adds)) (drop_event b now worker hand crew held)

-- a worker that takes
pub take_whole : (s now : CrewState) (worker : ℕ) (turn : Turn) (given : Option ℤ) (events : List Event) → s ≡ now
    → IsFirstFree s.grove s.hands turn → given ≡ kept_cost s.best → events ≡ s.events ++ record { worker = worker; kind = Take } ∷ []
    → IsTaken now worker (record s { hands = set s.hands worker (Some (record { turn = turn; given = given })); events = events })
take_whole s now worker turn given events is first cost adds =
    subst (λ (c : CrewState). IsTaken c worker (record s { hands = set s.hands worker (Some (record { turn = turn; given = given })); events = events })) is
    (record {
      hand = record { turn = turn; given = given };
      first = first;
      given = cost;
      becomes = ap (λ (es : List Event). crew_state s.grove s.best (set s.hands worker (Some (record { turn = turn; given = given }))) es) adds;
    })

-- a worker that reports
pub report_whole : (b : BlockedProgram) (s now : CrewState) (worker : ℕ) (verdict : Verdict) (grove : GroveState) (best : Option Kept) (events : List Event) → s ≡ now
    → IsCrewOf b now → IsRight b now worker verdict → IsGrown s.grove (hand_of s worker) verdict.next grove
    → kept_point best ≡ better b.named.program (kept_point s.best) verdict.point → HasItsCost b.named.program best
    → events ≡ s.events ++ record { worker = worker; kind = kind_of_next verdict.next } ∷ []
    → IsEvent b now (reports worker verdict) (record { grove = grove; best = best; hands = set s.hands worker None; events = events })
report_whole b s now worker verdict grove best events is crew right grows point costs adds =
    let after : CrewState = record { grove = grove; best = best; hands = set s.hands worker None; events = events } in
    subst (λ (c : CrewState). IsEvent b c (reports worker verdict) after) is
    (report_event b s after worker verdict (subst (IsCrewOf b) (sym is) crew) (subst (λ (c : CrewState). IsRight b c worker verdict) (sym is) right)
    (record { grows = grows; point = point; costs = costs; hands = refl; events = adds }))
