-- Live leaves and their paths.
use Rattle.std.proofs.Common.{◌≡◌, ◌≢◌, refl, sym, ap, subst, ◌∙◌, ℕ, List, [], ◌∷◌, ◌++◌, Some, None, arith}
use Rattle.std.proofs.Math.IntN.{ℤ}
use Rattle.std.specs.Prelude.{◌≤ℤ◌, Contains}
use Rattle.std.specs.List.{AllByRecursion}
use Rattle.std.proofs.lemmas.List.Elements.{All-contains, All-from_recursion, Contains-append_left, Contains-append_right}
use Rattle.bp_theory.specs.Trees.{low_part, high_part}
use Rattle.bp_theory.specs.declared.Span.{Span}
use Rattle.bp_theory.specs.declared.Proof.{Proof}
use Rattle.search_laws.specs.declared.Side.{Side}
use Rattle.search_laws.specs.declared.Side.TheVariants.{Low, High}
use Rattle.search_laws.specs.Grove.{GrowingTree, live, shut, fork, LiveLeaf, live_at, zone_at, put_at, live_bounds}
use Rattle.search_laws.specs.Laws.{LiveLeavesChange, LeastByPaths}
use Rattle.search_laws.proofs.Places.{recursion-append}

-- what is put at the path of a live leaf is what stands there and below
live_below : (t : GrowingTree) (path rest : List Side) (leaf : LiveLeaf) (new : GrowingTree) → live_at t path ≡ Some leaf
    → live_at (put_at t path new) (path ++ rest) ≡ live_at new rest
live_below t [] rest leaf new h = refl
live_below (live proof bound) (side ∷ path) rest leaf new h = absurd (cc)
live_below (shut proof) (side ∷ path) rest leaf new h = absurd (cc)
live_below (fork v at low high) (Low ∷ path) rest leaf new h = live_below low path rest leaf new h
live_below (fork v at low high) (High ∷ path) rest leaf new h = live_below high path rest leaf new h

zone_below : (t : GrowingTree) (zone : List Span) (path rest : List Side) (leaf : LiveLeaf) (new : GrowingTree) → live_at t path ≡ Some leaf
    → zone_at (put_at t path new) zone (path ++ rest) ≡ zone_at new (zone_at t zone path) rest
zone_below t zone [] rest leaf new h = refl
zone_below (live proof bound) zone (side ∷ path) rest leaf new h = absurd (cc)
zone_below (shut proof) zone (side ∷ path) rest leaf new h = absurd (cc)
zone_below (fork v at low high) zone (Low ∷ path) rest leaf new h = zone_below low (low_part zone v at) path rest leaf new h
zone_below (fork v at low high) zone (High ∷ path) rest leaf new h = zone_below high (high_part zone v at) path rest leaf new h

append-none : (path : List Side) → path ++ [] ≡ path
append-none [] = refl
append-none (side ∷ path) = ap (λ (q : List Side). side ∷ q) (append-none path)

-- the node itself
live_there : (t : GrowingTree) (path : List Side) (leaf : LiveLeaf) (new : GrowingTree) → live_at t path ≡ Some leaf
    → live_at (put_at t path new) path ≡ live_at new []
live_there t path leaf new h = ap (live_at (put_at t path new)) (sym (append-none path)) ∙ live_below t path [] leaf new h

-- elsewhere the same leaves are live, where what is put has none but at the root and the paths that are left out
live_others : (t : GrowingTree) (path other : List Side) (leaf : LiveLeaf) (new : GrowingTree) → live_at t path ≡ Some leaf → other ≢ path
    → ((side : Side) (rest : List Side) → other ≡ path ++ side ∷ rest → live_at new (side ∷ rest) ≡ None)
    → live_at (put_at t path new) other ≡ live_at t other
live_others (live proof bound) [] [] leaf new h apart none = absurd (apart refl)
live_others (live proof bound) [] (side ∷ other) leaf new h apart none = none side other refl
live_others (live proof bound) (side ∷ path) other leaf new h apart none = absurd (cc)
live_others (shut proof) path other leaf new h apart none = absurd (cc)
live_others (fork v at low high) [] other leaf new h apart none = absurd (cc)
live_others (fork v at low high) (Low ∷ path) [] leaf new h apart none = refl
live_others (fork v at low high) (High ∷ path) [] leaf new h apart none = refl
live_others (fork v at low high) (Low ∷ path) (Low ∷ other) leaf new h apart none =
    live_others low path other leaf new h (λ same. apart (ap (λ (q : List Side). Low ∷ q) same))
    (λ side rest e. none side rest (ap (λ (q : List Side). Low ∷ q) e))
live_others (fork v at low high) (Low ∷ path) (High ∷ other) leaf new h apart none = refl
live_others (fork v at low high) (High ∷ path) (Low ∷ other) leaf new h apart none = refl
live_others (fork v at low high) (High ∷ path) (High ∷ other) leaf new h apart none =
    live_others high path other leaf new h (λ same. apart (ap (λ (q : List Side). High ∷ q) same))
    (λ side rest e. none side rest (ap (λ (q : List Side). High ∷ q) e))

zones_stay_by : (t new : GrowingTree) (zone : List Span) (path other : List Side) (leaf kept : LiveLeaf) → live_at t path ≡ Some leaf
    → live_at t other ≡ Some kept → other ≢ path → zone_at (put_at t path new) zone other ≡ zone_at t zone other
zones_stay_by (live proof bound) new zone [] [] leaf kept h k apart = absurd (apart refl)
zones_stay_by (live proof bound) new zone [] (side ∷ other) leaf kept h k apart = absurd (cc)
zones_stay_by (live proof bound) new zone (side ∷ path) other leaf kept h k apart = absurd (cc)
zones_stay_by (shut proof) new zone path other leaf kept h k apart = absurd (cc)
zones_stay_by (fork v at low high) new zone [] other leaf kept h k apart = absurd (cc)
zones_stay_by (fork v at low high) new zone (Low ∷ path) [] leaf kept h k apart = refl
zones_stay_by (fork v at low high) new zone (High ∷ path) [] leaf kept h k apart = refl
zones_stay_by (fork v at low high) new zone (Low ∷ path) (Low ∷ other) leaf kept h k apart =
    zones_stay_by low new (low_part zone v at) path other leaf kept h k (λ same. apart (ap (λ (q : List Side). Low ∷ q) same))
zones_stay_by (fork v at low high) new zone (Low ∷ path) (High ∷ other) leaf kept h k apart = refl
zones_stay_by (fork v at low high) new zone (High ∷ path) (Low ∷ other) leaf kept h k apart = refl
zones_stay_by (fork v at low high) new zone (High ∷ path) (High ∷ other) leaf kept h k apart =
    zones_stay_by high new (high_part zone v at) path other leaf kept h k (λ same. apart (ap (λ (q : List Side). High ∷ q) same))

-- a fork of two live leaves has no other live leaf
no_third : (v : ℕ) (at : ℤ) (proof : Proof) (bound : ℤ) (path other : List Side) → ((side : Side) → other ≢ path ++ side ∷ [])
    → (side : Side) (rest : List Side) → other ≡ path ++ side ∷ rest → live_at (fork v at (live proof bound) (live proof bound)) (side ∷ rest) ≡ None
no_third v at proof bound path other apart Low [] e = absurd (apart Low e)
no_third v at proof bound path other apart High [] e = absurd (apart High e)
no_third v at proof bound path other apart Low (side ∷ rest) e = refl
no_third v at proof bound path other apart High (side ∷ rest) e = refl

live_part : (v : ℕ) (at : ℤ) (proof : Proof) (bound : ℤ) (side : Side)
    → live_at (fork v at (live proof bound) (live proof bound)) (side ∷ []) ≡ Some (record { proof = proof; bound = bound })
live_part v at proof bound Low = refl
live_part v at proof bound High = refl

pub live_leaves_change_lem : LiveLeavesChange
live_leaves_change_lem = record {
  shut_gone = λ t path leaf proof h. live_there t path leaf (shut proof) h;
  shut_others = λ t path other leaf proof h apart. live_others t path other leaf (shut proof) h apart (λ side rest e. refl);
  fork_gone = λ t path leaf v at proof bound h. live_there t path leaf (fork v at (live proof bound) (live proof bound)) h;
  fork_parts = λ t path leaf v at proof bound side h.
      live_below t path (side ∷ []) leaf (fork v at (live proof bound) (live proof bound)) h ∙ live_part v at proof bound side;
  fork_others = λ t path other leaf v at proof bound h apart parts.
      live_others t path other leaf (fork v at (live proof bound) (live proof bound)) h apart (no_third v at proof bound path other parts);
  low_zone = λ t zone path leaf v at proof bound h. zone_below t zone path (Low ∷ []) leaf (fork v at (live proof bound) (live proof bound)) h;
  high_zone = λ t zone path leaf v at proof bound h. zone_below t zone path (High ∷ []) leaf (fork v at (live proof bound) (live proof bound)) h;
  zones_stay = zones_stay_by;
}

-- ---- bounds

-- the bound of a live leaf is listed
bound_listed : (t : GrowingTree) (path : List Side) (leaf : LiveLeaf) → live_at t path ≡ Some leaf → Contains (live_bounds t) leaf.bound
bound_listed (live proof bound) [] leaf h =
    let same : record { proof = proof; bound = bound } ≡ leaf = cc in
    subst (λ (z : ℤ). Contains (bound ∷ []) z) (ap (λ (l : LiveLeaf). l.bound) same) (0, omega arith, refl)
bound_listed (live proof bound) (side ∷ path) leaf h = absurd (cc)
bound_listed (shut proof) path leaf h = absurd (cc)
bound_listed (fork v at low high) [] leaf h = absurd (cc)
bound_listed (fork v at low high) (Low ∷ path) leaf h = Contains-append_left (live_bounds low) (live_bounds high) leaf.bound (bound_listed low path leaf h)
bound_listed (fork v at low high) (High ∷ path) leaf h = Contains-append_right (live_bounds low) (live_bounds high) leaf.bound (bound_listed high path leaf h)

-- what holds of each live leaf's bound holds of each listed one
each_bound : (P : ℤ → Type 0) (t : GrowingTree) → ((path : List Side) (leaf : LiveLeaf) → live_at t path ≡ Some leaf → P leaf.bound)
    → AllByRecursion P (live_bounds t)
each_bound P (live proof bound) h = (h [] (record { proof = proof; bound = bound }) refl, tt)
each_bound P (shut proof) h = tt
each_bound P (fork v at low high) h =
    recursion-append P (live_bounds low) (live_bounds high)
    (each_bound P low (λ path leaf e. h (Low ∷ path) leaf e)) (each_bound P high (λ path leaf e. h (High ∷ path) leaf e))

pub least_by_paths_lem : LeastByPaths
least_by_paths_lem = record {
  from_paths = λ t path leaf h each. record {
    reached = bound_listed t path leaf h;
    least = All-from_recursion (λ z. leaf.bound ≤ℤ z) (live_bounds t) (each_bound (λ z. leaf.bound ≤ℤ z) t each);
  };
  to_path = λ t v least.
      let P : ℤ → Type 0 = λ z. (path : List Side) × (leaf : LiveLeaf) × (live_at t path ≡ Some leaf) × (leaf.bound ≡ z) in
      All-contains P (live_bounds t) v (All-from_recursion P (live_bounds t) (each_bound P t (λ path leaf h. (path, leaf, h, refl)))) least.reached;
  to_all = λ t v path leaf least h. All-contains (λ z. v ≤ℤ z) (live_bounds t) leaf.bound least.least (bound_listed t path leaf h);
}
