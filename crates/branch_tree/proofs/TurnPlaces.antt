-- The turns of a grove by their places in the queue's order.
use Rattle.std.proofs.Common.{◌≡◌, ℕ, ◌<◌, ◌≤◌, ◌^◌, List, length, Some, ℤ, sym, subst, ap, ◌∙◌, arith}
use Rattle.bp_theory.specs.declared.Span.{Span}
use Rattle.search_laws.specs.Grove.{GrowingTree, LiveLeaf, live_at, zone_at, live_count}
use Rattle.search_laws.specs.Queue.{ComesFirst}
use Rattle.search_laws.specs.declared.Side.{Side}
use Rattle.open_nodes.specs.Queues.{Entries, queue_of, IsEntryAt}
use Rattle.branch_tree.specs.Groves.{GroveState, IsStanding, IsNextTurn, IsTurnAt, made}
use Rattle.open_nodes.specs.declared.turn.Turn.{Turn}
use Rattle.open_nodes.proofs.Held.{each_is_held}
use Rattle.open_nodes.proofs.Places.{live_within, first_not_held, none_before_first}
use Rattle.branch_tree.proofs.Standing.{key_bound, leaf_of_turn, path_within_depth}

-- where a queue ends, no more leaves are live
pub live_at_end : (t : GrowingTree) (root : List Span) (q : Entries) (g : GroveState) (place : ℕ) → record { tree = t; root = root; queue = q } ≡ g
    → IsStanding (record { tree = t; root = root; queue = q }) → length q ≤ place → live_count g.tree ≤ place
live_at_end t root q g place is s ends =
    subst (λ (h : GroveState). live_count h.tree ≤ place) is (omega (arith, live_within t q (made t) s.queued, ends))

-- an entry's path is short
pub entry_is_short : (t : GrowingTree) (root : List Span) (q : Entries) (place : ℕ) (z : ℤ) (n : ℕ) (path : List Side)
    → IsStanding (record { tree = t; root = root; queue = q }) → IsEntryAt q place z n path → length path < 2 ^ 32
entry_is_short t root q place z n path s at =
    let found = s.queued.live z n path at.there in
    omega (arith, path_within_depth t path found.0 found.1, s.deep)

-- the turn of the entry at a place
pub turn_at_place : (t : GrowingTree) (root copy : List Span) (q : Entries) (g : GroveState) (turn : Turn) (place : ℕ) (z : ℤ) (n : ℕ) (path : List Side)
    → record { tree = t; root = root; queue = q } ≡ g → IsStanding (record { tree = t; root = root; queue = q }) → IsEntryAt q place z n path
    → copy ≡ root → live_at t path ≡ Some (leaf_of_turn turn) → turn.zone ≡ zone_at t copy path → turn.path ≡ path → turn.depth ≡ length path
    → IsTurnAt g place turn
turn_at_place t root copy q g turn place z n path is s at copied h in_zone same far =
    let key : z ≡ turn.bound = key_bound t (queue_of q) (made t) path turn.proof turn.bound z n s.queued h at.there in
    subst (λ (h : GroveState). IsTurnAt h place turn) is
    (record {
      live = record {
        live = ap (live_at t) same ∙ h;
        in_zone = in_zone ∙ ap (λ spans. zone_at t spans path) copied ∙ sym (ap (zone_at t root) same);
        far = far ∙ sym (ap length same);
      };
      number = n;
      entry = subst (IsEntryAt q place turn.bound n) (sym same) (subst (λ y. IsEntryAt q place y n path) key at);
    })

-- where all live leaves at lower places are held, the one at a place comes before each that isn't
pub first_free_turn : (g : GroveState) (place : ℕ) (turn : Turn) (Held : List Side → Type 0) (at : IsTurnAt g place turn)
    → ((i : ℕ) → i < place → (other : Turn) × IsTurnAt g i other × Held other.path)
    → (w : ℤ) (m : ℕ) (path : List Side) → queue_of g.queue w m ≡ Some path → (Held path → ⊥) → ComesFirst turn.bound at.number w m
first_free_turn g place turn Held at held w m path found free =
    first_not_held g.queue place turn.bound at.number turn.path Held at.entry
    (λ i low. let k = held i low in (k.0.bound, k.1.number, k.0.path, k.1.entry, k.2)) w m path found free

-- the next turn is the one at place 0
pub next_turn_is_first : (g : GroveState) (turn : Turn) → IsNextTurn g turn → IsTurnAt g 0 turn
next_turn_is_first g turn next = record {
  live = next.live;
  number = next.number;
  entry = record { there = next.first.there; before = none_before_first g.queue turn.bound next.number turn.path next.first };
}

-- where all live leaves at places below their number are held, all are
pub each_live_leaf_is_held : (g : GroveState) (Held : List Side → Type 0) → IsStanding g
    → ((i : ℕ) → i < live_count g.tree → (other : Turn) × IsTurnAt g i other × Held other.path)
    → (path : List Side) (leaf : LiveLeaf) → live_at g.tree path ≡ Some leaf → Held path
each_live_leaf_is_held g Held s held path leaf live =
    let found = s.queued.each path leaf live in
    each_is_held g.tree g.queue (made g.tree) s.queued Held
    (λ i low. let k = held i low in (k.0.bound, k.1.number, k.0.path, k.1.entry, k.2)) leaf.bound found.0 path found.1
