-- Trees that are as others but at a path and below it, and what a search there ends with.
use Rattle.std.proofs.Common.{◌≡◌, ◌∙◌, ◌⊎◌, inl, inr, ⊎_elim, refl, sym, ap, subst, ℕ, ◌+◌, ◌-◌, ◌≤◌, List, [], ◌∷◌, ◌++◌, Option, Some, arith}
use Rattle.std.specs.Prelude.{MatchOption}
use Rattle.bp_theory.specs.Trees.{steps}
use Rattle.block_program.specs.Blocked.{BlockedProgram}
use Rattle.search_laws.specs.declared.Side.{Side}
use Rattle.search_laws.specs.declared.Side.TheVariants.{Low, High}
use Rattle.search_laws.specs.declared.Next.{Next}
use Rattle.search_laws.specs.declared.Next.TheVariants.{Shut, Fork}
use Rattle.search_laws.specs.Grove.{GrowingTree, live, shut, fork, put_at, certificate_tree}
use Rattle.search_laws.specs.Verdicts.{grown}
use Rattle.open_nodes.specs.Queues.{LiesBelow}
use Rattle.branch_tree.specs.Groves.{GroveState, NoneLiveBelow, IsTurnBelow}
use Rattle.open_nodes.specs.declared.turn.Turn.{Turn}
use Rattle.branch_tree.specs.declared.outcome.Outcome.{Outcome}
use Rattle.bp_search.specs.Ends.{EndsWithin, HasStopped, given_steps, grove_in}
use Rattle.bp_search.specs.Below.{IsAsBeside, steps_in, EndsBelow}

-- the node at a path, and where there is none some node
node_at : GrowingTree → List Side → GrowingTree
node_at t [] = t
node_at (live proof bound) (side ∷ path) = live proof bound
node_at (shut proof) (side ∷ path) = shut proof
node_at (fork v at low high) (Low ∷ path) = node_at low path
node_at (fork v at low high) (High ∷ path) = node_at high path

-- a tree is as itself
as_itself : (t : GrowingTree) (path : List Side) → t ≡ put_at t path (node_at t path)
unfolding node_at
as_itself t [] = refl
as_itself (live proof bound) (side ∷ path) = refl
as_itself (shut proof) (side ∷ path) = refl
as_itself (fork v at low high) (Low ∷ path) = ap (λ (t : GrowingTree). fork v at t high) (as_itself low path)
as_itself (fork v at low high) (High ∷ path) = ap (λ (t : GrowingTree). fork v at low t) (as_itself high path)

-- what is put below a path is put into the node there
put_below : (t : GrowingTree) (path rest : List Side) (new : GrowingTree) → put_at t (path ++ rest) new ≡ put_at t path (put_at (node_at t path) rest new)
unfolding node_at
put_below t [] rest new = refl
put_below (live proof bound) (side ∷ path) rest new = refl
put_below (shut proof) (side ∷ path) rest new = refl
put_below (fork v at low high) (Low ∷ path) rest new = ap (λ (t : GrowingTree). fork v at t high) (put_below low path rest new)
put_below (fork v at low high) (High ∷ path) rest new = ap (λ (t : GrowingTree). fork v at low t) (put_below high path rest new)

-- of two nodes that are put at one path the last stands
put_twice : (t : GrowingTree) (path : List Side) (first last : GrowingTree) → put_at (put_at t path first) path last ≡ put_at t path last
put_twice t [] first last = refl
put_twice (live proof bound) (side ∷ path) first last = refl
put_twice (shut proof) (side ∷ path) first last = refl
put_twice (fork v at low high) (Low ∷ path) first last = ap (λ (t : GrowingTree). fork v at t high) (put_twice low path first last)
put_twice (fork v at low high) (High ∷ path) first last = ap (λ (t : GrowingTree). fork v at low t) (put_twice high path first last)

pub beside_itself : (t : GrowingTree) (path : List Side) → IsAsBeside path t t
beside_itself t path = (node_at t path, as_itself t path)

-- what a verdict does with a leaf is some node in place of it
pub grown_is : (t : GrowingTree) (path : List Side) (next : Next) → IsAsBeside path t (grown t path next)
grown_is t path (Shut proof) = (shut proof, refl)
grown_is t path (Fork v at proof bound) = (fork v at (live proof bound) (live proof bound), refl)

-- one more step below a path
pub beside_more : (before now after : GrowingTree) (path rest whole : List Side) → whole ≡ path ++ rest → IsAsBeside path before now → IsAsBeside whole now after
    → IsAsBeside path before after
beside_more before now after path rest whole is had step = (
  put_at (node_at now path) rest step.0,
  step.1
      ∙ ap (λ (w : List Side). put_at now w step.0) is
      ∙ put_below now path rest step.0
      ∙ ap (λ (t : GrowingTree). put_at t path (put_at (node_at now path) rest step.0)) had.1
      ∙ put_twice before path had.0 (put_at (node_at now path) rest step.0),
)

-- the leaf that is taken lies at the path or below it
pub taken_below : (g : GroveState) (above : List Side) (taken : Option Turn) (turn : Turn) → MatchOption taken (NoneLiveBelow g.tree above) (IsTurnBelow g above)
    → taken ≡ Some turn → LiesBelow above turn.path
taken_below g above taken turn next is =
    let below : IsTurnBelow g above turn =
    subst (λ (t : Option Turn). MatchOption t (NoneLiveBelow g.tree above) (IsTurnBelow g above)) is next in
    below.first.below

-- the end of a search at a path and below it
pub ends_below : (b : BlockedProgram) (start : GrowingTree) (path : List Side) (given : Option ℕ) (g : GroveState) (outcome : Outcome)
    → ((most : ℕ) → HasStopped most g.tree → EndsWithin b most outcome) → grove_in outcome ≡ g
    → steps (certificate_tree start) ≤ steps (certificate_tree g.tree)
    → steps (certificate_tree g.tree) ≤ steps (certificate_tree start) + given_steps given
    → NoneLiveBelow g.tree path ⊎ (steps (certificate_tree g.tree) ≡ steps (certificate_tree start) + given_steps given)
    → IsAsBeside path start g.tree → EndsBelow b start path given outcome
ends_below b start path given g outcome ends is more few done beside =
    let all : ℕ = steps (certificate_tree g.tree) in
    let same : steps_in outcome ≡ all = ap (λ (h : GroveState). steps (certificate_tree h.tree)) is in
    record {
      ends = subst (λ (n : ℕ). EndsWithin b n outcome) (sym same) (ends all (record { few = omega arith; spent = λ some. refl }));
      taken = all - steps (certificate_tree start);
      count = omega (arith, same, more);
      few = omega (arith, few);
      done = ⊎_elim (λ none. inl (subst (λ (h : GroveState). NoneLiveBelow h.tree path) (sym is) none)) (λ spent. inr (omega (arith, spent))) done;
      beside = subst (λ (h : GroveState). IsAsBeside path start h.tree) (sym is) beside;
    }
