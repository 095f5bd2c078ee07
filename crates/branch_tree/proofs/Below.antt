-- The turns of a grove at or below a node.
use Rattle.std.proofs.Common.{◌≡◌, ℕ, List, length, ◌<◌, ◌^◌, Option, Some, None, ℤ, refl, sym, subst, ap, ◌∙◌, arith}
use Rattle.search_laws.specs.declared.Side.{Side}
use Rattle.bp_theory.specs.declared.Span.{Span}
use Rattle.search_laws.specs.Grove.{GrowingTree, LiveLeaf, live_at, zone_at}
use Rattle.open_nodes.specs.Queues.{Entries, queue_of, LiesBelow, IsFirstBelow}
use Rattle.branch_tree.specs.Groves.{GroveState, IsStanding, IsTurnBelow, NoneLiveBelow, made}
use Rattle.open_nodes.specs.declared.turn.Turn.{Turn}
use Rattle.branch_tree.proofs.Standing.{key_bound, leaf_of_turn, path_within_depth}

-- where no entry lies below, no leaf there is live
pub none_live : (t : GrowingTree) (root : List Span) (q : Entries) (g : GroveState) (above : List Side) → record { tree = t; root = root; queue = q } ≡ g
    → IsStanding (record { tree = t; root = root; queue = q })
    → ((z : ℤ) (n : ℕ) (path : List Side) → queue_of q z n ≡ Some path → LiesBelow above path → ⊥) → NoneLiveBelow g.tree above
none_live t root q g above is s none =
    subst (λ (h : GroveState). NoneLiveBelow h.tree above) is (λ path below. by path below (live_at t path) refl)
  where
    by : (path : List Side) → LiesBelow above path → (leaf : Option LiveLeaf) → live_at t path ≡ leaf → leaf ≡ None
    by path below None found = refl
    by path below (Some leaf) found = let entry = s.queued.each path leaf found in absurd (none leaf.bound entry.0 path entry.1 below)

-- the path of an entry below is short
pub below_is_short : (t : GrowingTree) (root : List Span) (q : Entries) (above : List Side) (z : ℤ) (n : ℕ) (path : List Side)
    → IsStanding (record { tree = t; root = root; queue = q }) → IsFirstBelow (queue_of q) above z n path → length path < 2 ^ 32
below_is_short t root q above z n path s first =
    let found = s.queued.live z n path first.there in
    omega (arith, path_within_depth t path found.0 found.1, s.deep)

-- the turn of the first entry below
pub turn_below : (t : GrowingTree) (root copy : List Span) (q : Entries) (g : GroveState) (turn : Turn) (above : List Side) (z : ℤ) (n : ℕ)
    (path : List Side) → record { tree = t; root = root; queue = q } ≡ g → IsStanding (record { tree = t; root = root; queue = q })
    → IsFirstBelow (queue_of q) above z n path → copy ≡ root → live_at t path ≡ Some (leaf_of_turn turn) → turn.zone ≡ zone_at t copy path
    → turn.path ≡ path → turn.depth ≡ length path → IsTurnBelow g above turn
turn_below t root copy q g turn above z n path is s first copied h in_zone same far =
    let key : z ≡ turn.bound = key_bound t (queue_of q) (made t) path turn.proof turn.bound z n s.queued h first.there in
    subst (λ (h : GroveState). IsTurnBelow h above turn) is
    (record {
      live = record {
        live = ap (live_at t) same ∙ h;
        in_zone = in_zone ∙ ap (λ spans. zone_at t spans path) copied ∙ sym (ap (zone_at t root) same);
        far = far ∙ sym (ap length same);
      };
      number = n;
      first = subst (IsFirstBelow (queue_of q) above turn.bound n) (sym same) (subst (λ y. IsFirstBelow (queue_of q) above y n path) key first);
    })
