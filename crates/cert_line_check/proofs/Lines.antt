-- The lines of a tree, judged one after another.
use Rattle.std.proofs.Common.{◌≡◌, refl, sym, ap, subst, ◌∙◌, ℕ, zero, suc, Bool, true, List, [], ◌∷◌, ◌++◌, get_or, set, Option, Some, None, arith, inl, inr}
use Rattle.std.proofs.Math.IntN.{ℤ, pos, ◌+ℤ◌, ◌-ℤ◌, ◌*ℤ◌}
use Rattle.std.specs.Prelude.{◌<ℤ◌, ◌↔◌, IsTrue, MatchOption}
use Rattle.std.specs.List.{AllByRecursion}
use Rattle.bp_theory.specs.Program.{Program, span_at, in_sense}
use Rattle.bp_theory.specs.Blocking.{Blocking}
use Rattle.bp_theory.specs.Bound.{Fits, IsBound, IsEndless, SignsFit}
use Rattle.bp_theory.specs.Trees.{Tree, shut_leaf, open_leaf, split, Leaf, leaves, low_part, high_part, IsSoundSplit, IsZone}
use Rattle.bp_theory.specs.Claims.{Holds, Empties, Shows, MayBeOpen}
use Rattle.bp_theory.specs.Judgement.{Line, split_line, leaf_line, tree_lines, Passes, HasFault, unsound, leaf_sign, weak, open_there}
use Rattle.bp_theory.specs.declared.Span.{Span}
use Rattle.bp_theory.specs.declared.Proof.{Proof}
use Rattle.bp_theory.specs.declared.Claim.{Claim}
use Rattle.bp_theory.specs.declared.Claim.TheVariants.{Optimal, Infeasible, Bound}
use Rattle.bp_theory.specs.declared.CheckKind.{CheckKind}
use Rattle.bp_theory.specs.declared.CheckKind.TheVariants.{Split, Sign, Weak, Open}
use Rattle.bp_theory.proofs.ShrinkProof.{one_bound_lem}
use Rattle.block_program.proofs.BlockLemmas.{part_zones}
use Rattle.cert_line_check.specs.Judging.{ProofsFit, IsAfforded, Exceeds, LeavesOf, EndsWalk, IsEnd}
use Rattle.cert_line_check.proofs.LineVisits.{nothing_spent, afforded_by}
use Rattle.cert_line_check.specs.declared.place.Stop.{Stop}

-- ---- lists

pub both_all : {X : Type 0} (P : X → Type 0) (xs ys : List X) → AllByRecursion P xs → AllByRecursion P ys → AllByRecursion P (xs ++ ys)
both_all P [] ys h g = g
both_all P (x ∷ xs) ys h g = (h.0, both_all P xs ys h.1 g)

first_all : {X : Type 0} (P : X → Type 0) (xs ys : List X) → AllByRecursion P (xs ++ ys) → AllByRecursion P xs
first_all P [] ys h = tt
first_all P (x ∷ xs) ys h = (h.0, first_all P xs ys h.1)

pub second_all : {X : Type 0} (P : X → Type 0) (xs ys : List X) → AllByRecursion P (xs ++ ys) → AllByRecursion P ys
second_all P [] ys h = h
second_all P (x ∷ xs) ys h = second_all P xs ys h.1

set_twice : {X : Type 0} (xs : List X) (k : ℕ) (a b : X) → set (set xs k a) k b ≡ set xs k b
set_twice [] k a b = refl
set_twice (x ∷ xs) zero a b = refl
set_twice (x ∷ xs) (suc k) a b = ap (λ ys. x ∷ ys) (set_twice xs k a b)

set_itself : {X : Type 0} (xs : List X) (k : ℕ) (d : X) → set xs k (get_or xs k d) ≡ xs
set_itself [] k d = refl
set_itself (x ∷ xs) zero d = refl
set_itself (x ∷ xs) (suc k) d = ap (λ ys. x ∷ ys) (set_itself xs k d)

-- ---- zones along a path

pub high_is : (zone y z : List Span) (v : ℕ) (at : ℤ) (span : Span) → span ≡ span_at zone v → y ≡ low_part zone v at
    → z ≡ set y v (record { lo = at +ℤ pos 1; hi = span.hi }) → z ≡ high_part zone v at
high_is zone y z v at span is low high =
    high ∙ ap (λ (s : Span). set y v (record { lo = at +ℤ pos 1; hi = s.hi })) is
    ∙ ap (λ (ss : List Span). set ss v (record { lo = at +ℤ pos 1; hi = (span_at zone v).hi })) low
    ∙ set_twice zone v (record { lo = (span_at zone v).lo; hi = at }) (record { lo = at +ℤ pos 1; hi = (span_at zone v).hi })

pub back_is : (zone y z : List Span) (v : ℕ) (at : ℤ) (span : Span) → span ≡ span_at zone v → y ≡ high_part zone v at → z ≡ set y v span → z ≡ zone
back_is zone y z v at span is high back =
    back ∙ ap (λ (s : Span). set y v s) is ∙ ap (λ (ss : List Span). set ss v (span_at zone v)) high
    ∙ set_twice zone v (record { lo = at +ℤ pos 1; hi = (span_at zone v).hi }) (span_at zone v)
    ∙ set_itself zone v (record { lo = pos 0; hi = pos 0 })

pub low_zone : (root zone z : List Span) (v : ℕ) (at : ℤ) → IsSoundSplit zone v at → z ≡ low_part zone v at → IsZone root zone → IsZone root z
low_zone root zone z v at sound is h = (part_zones root zone z (high_part zone v at) v at sound is refl h).0

pub high_zone : (root zone z : List Span) (v : ℕ) (at : ℤ) → IsSoundSplit zone v at → z ≡ high_part zone v at → IsZone root zone → IsZone root z
high_zone root zone z v at sound is h = (part_zones root zone (low_part zone v at) z v at sound refl is h).1

-- ---- a split that is not sound

no_leaf : (zone : List Span) (v : ℕ) (at : ℤ) (leaf : Leaf) → split_line zone v at ≡ leaf_line leaf → ⊥
no_leaf zone v at leaf e = absurd (cc)

end_split : (p : Program) (b : Blocking) (claim : Claim) (zone : List Span) (v : ℕ) (at : ℤ) (low high : Tree) (left : Option ℕ) (first : ℕ) → (IsSoundSplit zone v at → ⊥)
    → IsEnd p b claim (tree_lines (split v at low high) zone) left first first (Some Split)
end_split p b claim zone v at low high left first none = record {
  before = [];
  line = split_line zone v at;
  after = tree_lines low (low_part zone v at) ++ tree_lines high (high_part zone v at);
  parts = refl;
  passed = tt;
  now = left;
  is_left = nothing_spent p.spans b left;
  ends = (unsound zone v at none, λ leaf e signs. absurd (no_leaf zone v at leaf e));
  numbered = omega arith;
}

-- ---- the proofs of leaves

pub proofs_fit : (b : Blocking) (t : Tree) (zone : List Span) → AllByRecursion (λ (leaf : Leaf). Fits b leaf.proof) (leaves t zone) → ProofsFit b t
proofs_fit b (shut_leaf p) zone h = h.0
proofs_fit b (open_leaf p) zone h = h.0
proofs_fit b (split v at low high) zone h =
    let P : Leaf → Type 0 = λ leaf. Fits b leaf.proof in (
      proofs_fit b low (low_part zone v at) (first_all P (leaves low (low_part zone v at)) (leaves high (high_part zone v at)) h),
      proofs_fit b high (high_part zone v at) (second_all P (leaves low (low_part zone v at)) (leaves high (high_part zone v at)) h),
    )

-- ---- what a bound shows

pub holds_by : (b : Blocking) (zone : List Span) (proof : Proof) (z v : ℤ) → IsBound b zone proof v
    → ((pos proof.scale *ℤ (z -ℤ pos 1)) <ℤ v) ↔ Holds b zone proof z
holds_by b zone proof z v bound = ((λ above. inr (v, bound, above)), other)
  where
    other : Holds b zone proof z → (pos proof.scale *ℤ (z -ℤ pos 1)) <ℤ v
    other (inl endless) = absurd (one_bound_lem.not_both b zone proof v endless bound)
    other (inr found) = subst (λ w. (pos proof.scale *ℤ (z -ℤ pos 1)) <ℤ w) (one_bound_lem.one b zone proof found.0 v found.1 bound) found.2

pub empties_by : (b : Blocking) (zone : List Span) (proof : Proof) (v : ℤ) → IsBound b zone proof v
    → ((proof.scale ≡ 0) × (pos 0 <ℤ v)) ↔ Empties b zone proof
empties_by b zone proof v bound = ((λ h. inr (v, bound, h.0, h.1)), other)
  where
    other : Empties b zone proof → (proof.scale ≡ 0) × (pos 0 <ℤ v)
    other (inl endless) = absurd (one_bound_lem.not_both b zone proof v endless bound)
    other (inr found) = (found.2, subst (λ w. pos 0 <ℤ w) (one_bound_lem.one b zone proof found.0 v found.1 bound) found.3)

pub equal_by : {A B C : Type 0} → A ↔ B → B ↔ C → A ↔ C
equal_by h g = ((λ a. g.0 (h.0 a)), λ c. h.1 (g.1 c))

-- scale times one less than a cost, below a bound
pub above_by : (b : Blocking) (zone : List Span) (proof : Proof) (z less v : ℤ) (result : Bool) → less ≡ z -ℤ pos 1 → IsBound b zone proof v
    → IsTrue result ↔ ((pos proof.scale *ℤ less) <ℤ v) → IsTrue result ↔ Holds b zone proof z
above_by b zone proof z less v result is bound tested =
    equal_by (subst (λ w. IsTrue result ↔ ((pos proof.scale *ℤ w) <ℤ v)) is tested) (holds_by b zone proof z v bound)

pub empty_by : (b : Blocking) (zone : List Span) (proof : Proof) (v : ℤ) (result : Bool) → IsBound b zone proof v
    → IsTrue result ↔ ((proof.scale ≡ 0) × (pos 0 <ℤ v)) → IsTrue result ↔ Empties b zone proof
empty_by b zone proof v result bound tested = equal_by tested (empties_by b zone proof v bound)

-- ---- what a claim asks of a leaf

shows_optimal : (p : Program) (b : Blocking) (claim : Claim) (zone : List Span) (proof : Proof) (is_open : Bool) (v less bound : ℤ) (m result : Bool)
    → claim ≡ Optimal v → m ≡ p.maximises → less ≡ in_sense m v -ℤ pos 1 → IsBound b zone proof bound
    → IsTrue result ↔ ((pos proof.scale *ℤ less) <ℤ bound) → IsTrue result ↔ Shows p b claim (record { zone = zone; proof = proof; is_open = is_open })
shows_optimal p b claim zone proof is_open v less bound m result is sense one_less is_bound tested =
    subst (λ (k : Claim). IsTrue result ↔ Shows p b k (record { zone = zone; proof = proof; is_open = is_open })) (sym is)
    (above_by b zone proof (in_sense p.maximises v) less bound result (one_less ∙ ap (λ (s : Bool). in_sense s v -ℤ pos 1) sense) is_bound tested)

shows_bound : (p : Program) (b : Blocking) (claim : Claim) (zone : List Span) (proof : Proof) (is_open : Bool) (v less bound : ℤ) (known : Option ℤ) (m result : Bool)
    → claim ≡ Bound v known → m ≡ p.maximises → less ≡ in_sense m v -ℤ pos 1 → IsBound b zone proof bound
    → IsTrue result ↔ ((pos proof.scale *ℤ less) <ℤ bound) → IsTrue result ↔ Shows p b claim (record { zone = zone; proof = proof; is_open = is_open })
shows_bound p b claim zone proof is_open v less bound known m result is sense one_less is_bound tested =
    subst (λ (k : Claim). IsTrue result ↔ Shows p b k (record { zone = zone; proof = proof; is_open = is_open })) (sym is)
    (above_by b zone proof (in_sense p.maximises v) less bound result (one_less ∙ ap (λ (s : Bool). in_sense s v -ℤ pos 1) sense) is_bound tested)

shows_infeasible : (p : Program) (b : Blocking) (claim : Claim) (zone : List Span) (proof : Proof) (is_open : Bool) (bound : ℤ) (result : Bool)
    → claim ≡ Infeasible → IsBound b zone proof bound → IsTrue result ↔ ((proof.scale ≡ 0) × (pos 0 <ℤ bound))
    → IsTrue result ↔ Shows p b claim (record { zone = zone; proof = proof; is_open = is_open })
shows_infeasible p b claim zone proof is_open bound result is is_bound tested =
    subst (λ (k : Claim). IsTrue result ↔ Shows p b k (record { zone = zone; proof = proof; is_open = is_open })) (sym is)
    (empty_by b zone proof bound result is_bound tested)

-- the same where numbers are only known to be equal, and where the proof is only known to have the scale
tested_at : (scale at : ℕ) (less other bound : ℤ) (result : Bool) → scale ≡ at → other ≡ less
    → IsTrue result ↔ ((pos at *ℤ other) <ℤ bound) → IsTrue result ↔ ((pos scale *ℤ less) <ℤ bound)
tested_at scale at less other bound result is_scale is_less tested =
    subst (λ (w : ℤ). IsTrue result ↔ ((pos scale *ℤ w) <ℤ bound)) is_less (subst (λ (k : ℕ). IsTrue result ↔ ((pos k *ℤ other) <ℤ bound)) (sym is_scale) tested)

pub enough_optimal : (p : Program) (b : Blocking) (claim : Claim) (zone : List Span) (proof : Proof) (is_open : Bool) (at : ℕ) (v less other bound : ℤ) (m result : Bool)
    → claim ≡ Optimal v → m ≡ p.maximises → less ≡ in_sense m v -ℤ pos 1 → other ≡ less → proof.scale ≡ at → IsBound b zone proof bound
    → IsTrue result ↔ ((pos at *ℤ other) <ℤ bound) → IsTrue result ↔ Shows p b claim (record { zone = zone; proof = proof; is_open = is_open })
enough_optimal p b claim zone proof is_open at v less other bound m result is sense one_less same scale is_bound tested =
    shows_optimal p b claim zone proof is_open v less bound m result is sense one_less is_bound (tested_at proof.scale at less other bound result scale same tested)

pub enough_bound : (p : Program) (b : Blocking) (claim : Claim) (zone : List Span) (proof : Proof) (is_open : Bool) (at : ℕ) (v less other bound : ℤ) (known : Option ℤ) (m result : Bool)
    → claim ≡ Bound v known → m ≡ p.maximises → less ≡ in_sense m v -ℤ pos 1 → other ≡ less → proof.scale ≡ at → IsBound b zone proof bound
    → IsTrue result ↔ ((pos at *ℤ other) <ℤ bound) → IsTrue result ↔ Shows p b claim (record { zone = zone; proof = proof; is_open = is_open })
enough_bound p b claim zone proof is_open at v less other bound known m result is sense one_less same scale is_bound tested =
    shows_bound p b claim zone proof is_open v less bound known m result is sense one_less is_bound (tested_at proof.scale at less other bound result scale same tested)

pub enough_infeasible : (p : Program) (b : Blocking) (claim : Claim) (zone : List Span) (proof : Proof) (is_open : Bool) (at : ℕ) (bound : ℤ) (result : Bool)
    → claim ≡ Infeasible → proof.scale ≡ at → IsBound b zone proof bound → IsTrue result ↔ ((at ≡ 0) × (pos 0 <ℤ bound))
    → IsTrue result ↔ Shows p b claim (record { zone = zone; proof = proof; is_open = is_open })
enough_infeasible p b claim zone proof is_open at bound result is scale is_bound tested =
    shows_infeasible p b claim zone proof is_open bound result is is_bound
    (subst (λ (k : ℕ). IsTrue result ↔ ((k ≡ 0) × (pos 0 <ℤ bound))) (sym scale) tested)

-- an endless bound shows all
pub endless_shows : (p : Program) (b : Blocking) (claim : Claim) (zone : List Span) (proof : Proof) (is_open : Bool) → IsEndless b zone proof
    → Shows p b claim (record { zone = zone; proof = proof; is_open = is_open })
endless_shows p b (Optimal v) zone proof is_open endless = inl endless
endless_shows p b Infeasible zone proof is_open endless = inl endless
endless_shows p b (Bound v known) zone proof is_open endless = inl endless

-- ---- the fault of a leaf

pub sign_fault : (p : Program) (b : Blocking) (claim : Claim) (zone : List Span) (proof : Proof) (is_open : Bool) → (SignsFit b proof → ⊥)
    → HasFault p b claim (leaf_line (record { zone = zone; proof = proof; is_open = is_open })) Sign
sign_fault p b claim zone proof is_open none = leaf_sign (record { zone = zone; proof = proof; is_open = is_open }) none

pub weak_fault : (p : Program) (b : Blocking) (claim : Claim) (zone : List Span) (proof : Proof) (is_open : Bool) → SignsFit b proof
    → (Shows p b claim (record { zone = zone; proof = proof; is_open = is_open }) → ⊥) → HasFault p b claim (leaf_line (record { zone = zone; proof = proof; is_open = is_open })) Weak
weak_fault p b claim zone proof is_open signs none = weak (record { zone = zone; proof = proof; is_open = is_open }) signs none

pub open_fault : (p : Program) (b : Blocking) (claim : Claim) (zone : List Span) (proof : Proof) (is_open : Bool) → SignsFit b proof
    → Shows p b claim (record { zone = zone; proof = proof; is_open = is_open }) → is_open ≡ true → (MayBeOpen claim → ⊥)
    → HasFault p b claim (leaf_line (record { zone = zone; proof = proof; is_open = is_open })) Open
open_fault p b claim zone proof is_open signs shows is none = open_there (record { zone = zone; proof = proof; is_open = is_open }) signs shows is none

same_leaf : (x y : Leaf) → leaf_line x ≡ leaf_line y → x ≡ y
same_leaf x y e = cc

leaf_end : (p : Program) (b : Blocking) (claim : Claim) (leaf : Leaf) (left : Option ℕ) (first : ℕ) (fault : Option CheckKind) → EndsWalk p b claim left (leaf_line leaf) fault
    → IsEnd p b claim (leaf_line leaf ∷ []) left first first fault
leaf_end p b claim leaf left first fault ends = record {
  before = [];
  line = leaf_line leaf;
  after = [];
  parts = refl;
  passed = tt;
  now = left;
  is_left = nothing_spent p.spans b left;
  ends = ends;
  numbered = omega arith;
}

-- a leaf with a sign that doesn't fit
pub sign_ends : (p : Program) (b : Blocking) (claim : Claim) (leaf : Leaf) (left : Option ℕ) (first : ℕ) → (SignsFit b leaf.proof → ⊥)
    → IsEnd p b claim (leaf_line leaf ∷ []) left first first (Some Sign)
sign_ends p b claim leaf left first none =
    leaf_end p b claim leaf left first (Some Sign)
    (leaf_sign leaf none, λ other e signs. absurd (none (subst (λ (x : Leaf). SignsFit b x.proof) (sym (same_leaf leaf other e)) signs)))

-- one that asks for more visits than are left
pub unpriced_ends : (p : Program) (b : Blocking) (claim : Claim) (leaf : Leaf) (left : Option ℕ) (first : ℕ) → SignsFit b leaf.proof
    → Exceeds p.spans b leaf.zone leaf.proof.picked left → IsEnd p b claim (leaf_line leaf ∷ []) left first first None
unpriced_ends p b claim leaf left first signs exceeds = leaf_end p b claim leaf left first None (leaf, refl, signs, exceeds)

-- one that is priced and at fault
pub priced_ends : (p : Program) (b : Blocking) (claim : Claim) (leaf : Leaf) (left now : Option ℕ) (first : ℕ) (kind : CheckKind)
    → LeavesOf p.spans b leaf.zone leaf.proof.picked left now → HasFault p b claim (leaf_line leaf) kind
    → IsEnd p b claim (leaf_line leaf ∷ []) left first first (Some kind)
priced_ends p b claim leaf left now first kind spent fault =
    leaf_end p b claim leaf left first (Some kind) (
      fault,
      λ other e signs. subst (λ (x : Leaf). IsAfforded p.spans b x.zone x.proof.picked left) (same_leaf leaf other e)
          (afforded_by p.spans b leaf.zone leaf.proof.picked left now spent),
    )

pub ended_at : (p : Program) (b : Blocking) (claim : Claim) (leaf : Leaf) (left : Option ℕ) (first : ℕ) (kind : CheckKind) (found : Stop)
    → found ≡ record { line = first; fault = Some kind } → IsEnd p b claim (leaf_line leaf ∷ []) left first first (Some kind)
    → IsEnd p b claim (leaf_line leaf ∷ []) left first found.line found.fault
ended_at p b claim leaf left first kind found is end = subst (λ (x : Stop). IsEnd p b claim (leaf_line leaf ∷ []) left first x.line x.fault) (sym is) end

pub fault_there : (p : Program) (b : Blocking) (claim : Claim) (line : Line) (found : Option CheckKind) (kind : CheckKind) → found ≡ Some kind
    → MatchOption found (Passes p b claim line) (HasFault p b claim line) → HasFault p b claim line kind
fault_there p b claim line found kind is h = subst (λ (o : Option CheckKind). MatchOption o (Passes p b claim line) (HasFault p b claim line)) is h

-- ---- the same where a tree is known to be a split

pub split_end : (p : Program) (b : Blocking) (claim : Claim) (t : Tree) (zone : List Span) (v : ℕ) (at : ℤ) (low high : Tree) (left : Option ℕ) (first : ℕ) → t ≡ split v at low high
    → (IsSoundSplit zone v at → ⊥) → IsEnd p b claim (tree_lines t zone) left first first (Some Split)
split_end p b claim t zone v at low high left first is none =
    subst (λ (x : Tree). IsEnd p b claim (tree_lines x zone) left first first (Some Split)) (sym is) (end_split p b claim zone v at low high left first none)
