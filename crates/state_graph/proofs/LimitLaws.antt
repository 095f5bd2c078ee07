-- Laws of limits: the arcs so far, and those that the states of a layer may lead to, are no more than beginnings.
use Rattle.std.proofs.Common.{◌≡◌, sym, ap, ◌∙◌, ℕ, suc, ◌+◌, ◌-◌, ◌*◌, ◌<◌, ◌≤◌, List, [], ◌∷◌, drop, get_or, length, arith, drop-cons}
use Rattle.std.proofs.Math.Nat.{mul-le-mul_left}
use Rattle.bp_theory.specs.Classes.{width, prefixes}
use Rattle.bp_theory.specs.declared.Span.{Span}
use Rattle.state_graph.specs.Limits.{beginnings}
use Rattle.state_graph.specs.Layers.{spans_in}
use Rattle.state_graph.specs.declared.layers.Layer.{Layer}

-- with the empty one
pub with_empty : (spans : List Span) → beginnings spans + 1 ≡ prefixes spans
with_empty [] = omega arith
with_empty (s ∷ ss) = omega arith

-- those that begin with a number of the first span
pub beginnings-cons : (s : Span) (ss : List Span) → beginnings (s ∷ ss) ≡ width s * (beginnings ss + 1)
beginnings-cons s ss = first (width s * prefixes ss) ∙ ap (λ n. width s * n) (sym (with_empty ss))
  where
    first : (m : ℕ) → 1 + m - 1 ≡ m
    first m = omega arith

-- those of the layers from a place on
pub layers_behind : (layers : List Layer) (k : ℕ) (l : Layer) → k < length layers → l ≡ get_or layers k l
    → beginnings (spans_in (drop k layers)) ≡ width l.span * (beginnings (spans_in (drop (k + 1) layers)) + 1)
layers_behind layers k l there is =
    ap (λ (ls : List Layer). beginnings (spans_in ls)) (drop-cons layers k l there ∙ ap (λ (x : Layer). x ∷ drop (suc k) layers) (sym is))
    ∙ beginnings-cons l.span (spans_in (drop (suc k) layers))
    ∙ ap (λ n. width l.span * (beginnings (spans_in (drop n layers)) + 1)) one
  where
    one : suc k ≡ k + 1
    one = omega arith

-- a loop's step: one layer more
pub begun_more : (used states arcs next w rest all : ℕ) → used + states * (w * (rest + 1)) ≤ all → arcs ≤ states * w → next ≤ arcs → (used + arcs) + next * rest ≤ all
begun_more used states arcs next w rest all h few fewer =
    omega (arith, h, mul-le-mul_left rest fewer, mul-le-mul_left (rest + 1) few)

-- where there is no room for the numbers of a layer's states
pub begun_full : (used states room w rest all : ℕ) → used + states * (w * (rest + 1)) ≤ all → room < states * w → used + room < all
begun_full used states room w rest all h full = omega (arith, h, full, part (states * w) rest)
  where
    part : (a b : ℕ) → a ≤ a * (b + 1)
    part a b = omega arith
