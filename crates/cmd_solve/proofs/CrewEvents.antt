-- The events that are handed out beside what is kept.
use Rattle.std.proofs.Common.{◌≡◌, ◌≢◌, ◌⊎◌, inl, inr, refl, sym, subst, ℕ, List, [], Option, Some, None}
use Rattle.bp_theory.specs.declared.Limits.{Limits}
use Rattle.bp_shelf.specs.Shelf.{Files}
use Rattle.block_program.specs.Blocked.{BlockedProgram}
use Rattle.search_laws.specs.declared.Event.{Event}
use Rattle.search_laws.specs.declared.Side.{Side}
use Rattle.branch_tree.specs.declared.loaded.Loaded.{Loaded}
use Rattle.branch_tree.specs.declared.outcome.Outcome.{Outcome}
use Rattle.frontend.specs.Front.{FilesCome, blocked}
use Rattle.cmd_solve.specs.declared.crew.CrewOrder.{CrewOrder}
use Rattle.cmd_solve.specs.Crews.{ordered_crew, IsSearchOf, HasEventsFrom, events_with, EventsBy, HasEvents}
use Rattle.cmd_solve.proofs.Starting.{ComesFrom, begins}

-- the events of a search beside the outcome that is kept of it, or beside nothing
pub kept_with : (b : BlockedProgram) (from : Option Loaded) (steps : Option ℕ) (crew : Option CrewOrder) (outcome : Outcome) (kept : Option Outcome) (events : List Event)
    → IsSearchOf b from steps crew outcome events → (kept ≡ None) ⊎ (kept ≡ Some outcome) → HasEventsFrom b from steps crew kept (events_with kept events)
kept_with b from steps crew outcome None events is told = refl
kept_with b from steps crew outcome (Some other) events is (inl none) = absurd (cc)
kept_with b from steps crew outcome (Some other) events is (inr same) = subst (λ (o : Outcome). IsSearchOf b from steps crew o events) (sym (one other outcome same)) is
  where
    one : (o p : Outcome) → (let x : Option Outcome = Some o in x) ≡ Some p → o ≡ p
    one o p e = cc

-- the events of a search from where it begins
pub started_events : (files : Files) (from : Option (List ℕ)) (leaf steps : Option ℕ) (crew : Option CrewOrder) (cuts : ℕ) (b c : BlockedProgram) (start : Option Loaded)
    (below : Option (List Side)) (kept : Option Outcome) (events : List Event) → ComesFrom files from leaf cuts b c start below → HasEventsFrom c start steps crew kept events
    → EventsBy files from steps crew cuts b kept events
started_events files from leaf steps crew cuts b c start below None events come has = has
started_events files from leaf steps crew cuts b c start below (Some outcome) events come has = (c, start, begins files from leaf cuts b c start below come, has)

-- nothing is kept of a reply whose status is no fault of the sink
pub printed_none : (status end : ℕ) (kept : Option Outcome) → (status ≡ end) ⊎ (status ≡ 8) → (status ≢ 8 → kept ≡ None) → (status ≡ 8 → kept ≡ None) → end ≢ 8 → kept ≡ None
printed_none status end kept (inl is) whole cut apart = whole (λ e. apart (subst (λ (n : ℕ). n ≡ 8) is e))
printed_none status end kept (inr is) whole cut apart = cut is

-- the statuses of a file that is no start
pub refused_apart : (end : ℕ) → (end ≡ 3) ⊎ (end ≡ 6) → end ≢ 8
refused_apart end (inl is) = λ e. absurd (cc)
refused_apart end (inr is) = λ e. absurd (cc)

-- there are no events where nothing is kept
pub none_by : (files : Files) (from : Option (List ℕ)) (steps : Option ℕ) (crew : Option CrewOrder) (cuts : ℕ) (b : BlockedProgram) (kept : Option Outcome) (events : List Event)
    → kept ≡ None → events ≡ [] → EventsBy files from steps crew cuts b kept events
none_by files from steps crew cuts b None events none is = is
none_by files from steps crew cuts b (Some outcome) events none is = absurd (cc)

pub none_of : (limits : Limits) (files : Files) (lp : List ℕ) (dec : Option (List ℕ)) (steps : Option ℕ) (from : Option (List ℕ)) (workers order : Option ℕ) (cuts : ℕ) (kept : Option Outcome) (events : List Event)
    → kept ≡ None → events ≡ [] → HasEvents limits files lp dec steps from workers order cuts kept events
none_of limits files lp dec steps from workers order cuts None events none is = is
none_of limits files lp dec steps from workers order cuts (Some outcome) events none is = absurd (cc)

-- the events of the program in blocks that files come to
pub lift_events : (limits : Limits) (files : Files) (lp : List ℕ) (dec : Option (List ℕ)) (steps : Option ℕ) (from : Option (List ℕ)) (workers order : Option ℕ) (cuts : ℕ) (b : BlockedProgram) (kept : Option Outcome) (events : List Event)
    → FilesCome limits files lp dec (blocked b) → EventsBy files from steps (ordered_crew workers order) cuts b kept events → HasEvents limits files lp dec steps from workers order cuts kept events
lift_events limits files lp dec steps from workers order cuts b None events come has = has
lift_events limits files lp dec steps from workers order cuts b (Some outcome) events come has = (b, come, has)
