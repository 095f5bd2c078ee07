-- Trees that extend others, and bounds that rise.
use Rattle.std.proofs.Common.{◌≡◌, ⊎_elim, refl, sym, subst, List, [], ◌∷◌, ◌++◌, Option, Some, None, ℤ, arith}
use Rattle.std.specs.Prelude.{◌≤ℤ◌, Contains, option_to_list}
use Rattle.std.proofs.lemmas.List.Elements.{All-nil, All-contains, Contains-push, Contains-append_left, Contains-append_right, Contains-append_cases}
use Rattle.std.proofs.lemmas.Int.{ints}
use Rattle.search_laws.specs.declared.Side.{Side}
use Rattle.search_laws.specs.declared.Side.TheVariants.{Low, High}
use Rattle.search_laws.specs.declared.Next.{Next}
use Rattle.search_laws.specs.declared.Next.TheVariants.{Shut, Fork}
use Rattle.search_laws.specs.Grove.{GrowingTree, live, shut, fork, LiveLeaf, live_at, put_at, live_bounds}
use Rattle.search_laws.specs.GroveFacts.{IsNoDearer, IsLeastOf}
use Rattle.search_laws.proofs.GroveProof.{All-one}
use Rattle.search_laws.specs.Verdicts.{grown}
use Rattle.bp_search.specs.Resumed.{KeepsAbove, Extends}

-- a fork keeps a bound no less than its leaf's
abbrev pub IsNoLess : ℤ → Next → Type 0
IsNoLess z (Shut proof) = Unit {0}
IsNoLess z (Fork v at proof bound) = z ≤ℤ bound

pub extends_itself : (t : GrowingTree) → Extends t t
extends_itself (live proof bound) = omega (arith, ints)
extends_itself (shut proof) = refl
extends_itself (fork v at low high) = (low, high, refl, extends_itself low, extends_itself high)

lower : (y z : ℤ) (t : GrowingTree) → z ≤ℤ y → KeepsAbove y t → KeepsAbove z t
lower y z (live proof bound) less h = omega (arith, ints)
lower y z (shut proof) less h = tt
lower y z (fork v at low high) less h = (lower y z low less h.0, lower y z high less h.1)

-- no live leaf of a tree that extends another keeps a bound below a number below which the other keeps none
pub keeps_above_on : (z : ℤ) (before after : GrowingTree) → Extends before after → KeepsAbove z before → KeepsAbove z after
keeps_above_on z (live proof bound) after h k = lower bound z after k h
keeps_above_on z (shut proof) after h k = subst (KeepsAbove z) (sym h) tt
keeps_above_on z (fork v at low high) after h k =
    subst (KeepsAbove z) (sym h.2) (keeps_above_on z low h.0 h.3 k.0, keeps_above_on z high h.1 h.4 k.1)

pub extends_on : (first second third : GrowingTree) → Extends first second → Extends second third → Extends first third
extends_on (live proof bound) second third h k = keeps_above_on bound second third k h
extends_on (shut proof) second third h k = subst (λ (t : GrowingTree). Extends t third) h k
extends_on (fork v at low high) second third h k =
    let further : Extends (fork v at h.0 h.1) third = subst (λ (t : GrowingTree). Extends t third) h.2 k in
    (further.0, further.1, further.2, extends_on low h.0 further.0 h.3 further.3, extends_on high h.1 further.1 h.4 further.4)

same_leaf : (one other : LiveLeaf) → Some one ≡ Some other → one ≡ other
same_leaf one other e = cc

put_extends : (t : GrowingTree) (path : List Side) (leaf : LiveLeaf) (new : GrowingTree) → live_at t path ≡ Some leaf → KeepsAbove leaf.bound new
    → Extends t (put_at t path new)
put_extends (live proof bound) [] leaf new h k =
    subst (λ (l : LiveLeaf). KeepsAbove l.bound new) (sym (same_leaf (record { proof = proof; bound = bound }) leaf h)) k
put_extends (live proof bound) (side ∷ path) leaf new h k = absurd (cc)
put_extends (shut proof) path leaf new h k = absurd (cc)
put_extends (fork v at low high) [] leaf new h k = absurd (cc)
put_extends (fork v at low high) (Low ∷ path) leaf new h k =
    (put_at low path new, high, refl, put_extends low path leaf new h k, extends_itself high)
put_extends (fork v at low high) (High ∷ path) leaf new h k =
    (low, put_at high path new, refl, extends_itself low, put_extends high path leaf new h k)

-- a tree in which a live leaf is shut or forked extends the tree before
pub grown_extends : (t : GrowingTree) (path : List Side) (leaf : LiveLeaf) (next : Next) → live_at t path ≡ Some leaf → IsNoLess leaf.bound next
    → Extends t (grown t path next)
grown_extends t path leaf (Shut proof) h k = put_extends t path leaf (shut proof) h tt
grown_extends t path leaf (Fork v at proof bound) h k = put_extends t path leaf (fork v at (live proof bound) (live proof bound)) h (k, k)

pub no_dearer_itself : (z : Option ℤ) → IsNoDearer z z
no_dearer_itself None = tt
no_dearer_itself (Some z) = omega (arith, ints)

pub no_dearer_on : (x y z : Option ℤ) → IsNoDearer x y → IsNoDearer y z → IsNoDearer x z
no_dearer_on x y None h k = tt
no_dearer_on x None (Some z) h k = absurd k
no_dearer_on None (Some y) (Some z) h k = absurd h
no_dearer_on (Some x) (Some y) (Some z) h k = omega (arith, ints)

-- a number below none of a list is below no bound that a live leaf keeps
pub least_above : (t : GrowingTree) (best : Option ℤ) (v : ℤ) → IsLeastOf (live_bounds t ++ option_to_list best) v → KeepsAbove v t
least_above t best v least =
    above_of t (λ w there. All-contains (λ z. v ≤ℤ z) (live_bounds t ++ option_to_list best) w least.least (Contains-append_left (live_bounds t) (option_to_list best) w there))
  where
    above_of : (t : GrowingTree) → ((w : ℤ) → Contains (live_bounds t) w → v ≤ℤ w) → KeepsAbove v t
    above_of (live proof bound) each = each bound (Contains-push [] bound)
    above_of (shut proof) each = tt
    above_of (fork u at low high) each = (
      above_of low (λ w there. each w (Contains-append_left (live_bounds low) (live_bounds high) w there)),
      above_of high (λ w there. each w (Contains-append_right (live_bounds low) (live_bounds high) w there)),
    )

-- no live leaf keeps a bound below a number below which the tree keeps none
kept_above : (t : GrowingTree) (v w : ℤ) → KeepsAbove v t → Contains (live_bounds t) w → v ≤ℤ w
kept_above (live proof bound) v w keeps there = All-contains (λ z. v ≤ℤ z) (bound ∷ []) w (All-one (λ z. v ≤ℤ z) bound keeps) there
kept_above (shut proof) v w keeps there = All-contains (λ z. v ≤ℤ z) [] w (All-nil (λ z. v ≤ℤ z)) there
kept_above (fork u at low high) v w keeps there =
    ⊎_elim (λ left. kept_above low v w keeps.0 left) (λ right. kept_above high v w keeps.1 right) (Contains-append_cases (live_bounds low) (live_bounds high) w there)

-- a cost, where there is one, is no less
abbrev pub IsNoLower : ℤ → Option ℤ → Type 0
IsNoLower v None = Unit {0}
IsNoLower v (Some z) = v ≤ℤ z

cost_above : (v w : ℤ) (best : Option ℤ) → IsNoLower v best → Contains (option_to_list best) w → v ≤ℤ w
cost_above v w None higher there = All-contains (λ z. v ≤ℤ z) [] w (All-nil (λ z. v ≤ℤ z)) there
cost_above v w (Some z) higher there = All-contains (λ z. v ≤ℤ z) (z ∷ []) w (All-one (λ z. v ≤ℤ z) z higher) there

-- what remains of a tree that extends another is no less
pub above_least : (before after : GrowingTree) (best : Option ℤ) (v w : ℤ) → Extends before after → KeepsAbove v before → IsNoLower v best
    → Contains (live_bounds after ++ option_to_list best) w → v ≤ℤ w
above_least before after best v w extends keeps higher there =
    ⊎_elim (λ left. kept_above after v w (keeps_above_on v before after extends keeps) left) (λ right. cost_above v w best higher right)
    (Contains-append_cases (live_bounds after) (option_to_list best) w there)
