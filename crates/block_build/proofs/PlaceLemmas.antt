-- The places of variables' copies, block by block.
use Rattle.std.proofs.Common.{◌≡◌, ℕ, ◌+◌, ◌<◌, ◌≤◌, List, map, length, get_or, All, sym, ap, subst, ◌∙◌, ⊎_elim, arith}
use Rattle.std.specs.Prelude.{pos, []}
use Rattle.std.proofs.lemmas.Bool.{cases_lt}
use Rattle.std.proofs.lemmas.List.{get_or-map, get_or_default, length-map}
use Rattle.bp_theory.specs.Blocking.{Copy, Block, Blocking}
use Rattle.bp_theory.specs.Decomposition.{blocking_of}
use Rattle.bp_theory.specs.Cuts.{cut_rows}
use Rattle.bp_theory.specs.declared.Row.{Row}
use Rattle.bp_theory.proofs.CopyProof.{copies_of_each_lem}
use Rattle.bp_theory.proofs.CutProof.{cuts_are_met_lem}
use Rattle.bp_theory.proofs.DecompositionProof.{decomposition_lem, get_or-map_past}
use Rattle.block_program.specs.Blocked.{RootBlock, BlockedProgram, IsFormed, HasCopyAt, IsFirstCopyAt, ArePlaces}
use Rattle.block_build.specs.Places.{IsNoted, IsNotedHere, IsNotedElsewhere, IsFirstFrom}

-- a block of a list, whatever the default
block_at : (roots : List RootBlock) (k : ℕ) (root : RootBlock) (d : Block) → k < length roots → root ≡ get_or roots k root
    → get_or (map (λ (r : RootBlock). r.block) roots) k d ≡ root.block
block_at roots k root d l is = get_or-map (λ (r : RootBlock). r.block) roots k root d l ∙ ap (λ (r : RootBlock). r.block) (sym is)

var_at : (copies : List Copy) (i : ℕ) (c : Copy) → get_or (map (λ (e : Copy). e.var) copies) i c.var ≡ (get_or copies i c).var
var_at copies i c = get_or-map_past (λ (e : Copy). e.var) copies i c

-- what is noted at a block is a copy's place
here : (bs : List Block) (k : ℕ) (b : Block) (v : ℕ) (new : ℕ × ℕ) → k < length bs → ((d : Block) → get_or bs k d ≡ b)
    → IsNotedHere k (map (λ (c : Copy). c.var) b.copies) v new → HasCopyAt bs v new
here bs k b v new l is h =
    let at : (d : Block) → get_or bs new.0 d ≡ b = λ d. ap (λ n. get_or bs n d) h.block_is ∙ is d in
    record {
      there = omega (arith, h.block_is, l);
      within = λ d. omega (arith, h.within, length-map b.copies (λ (c : Copy). c.var), ap (λ (e : Block). length e.copies) (at d));
      var = λ d c. ap (λ (e : Block). (get_or e.copies new.1 c).var) (at d) ∙ sym (var_at b.copies new.1 c) ∙ h.var c.var;
    }

-- a copy of a block is among its variables
absent_here : (bs : List Block) (k : ℕ) (b : Block) (v : ℕ) (at old new : ℕ × ℕ) → ((d : Block) → get_or bs k d ≡ b) → at.0 ≡ k
    → IsNotedElsewhere (map (λ (c : Copy). c.var) b.copies) v old new → HasCopyAt bs v at → ⊥
absent_here bs k b v at old new is same h copy =
    let block_is : (d : Block) → get_or bs at.0 d ≡ b = λ d. ap (λ n. get_or bs n d) same ∙ is d in
    let c : Copy = record { var = 0; cost = pos 0; coefs = [] } in
    h.absent at.1 c.var
    (omega (arith, copy.within b, length-map b.copies (λ (c : Copy). c.var), ap (λ (e : Block). length e.copies) (block_is b)))
    (var_at b.copies at.1 c ∙ ap (λ (e : Block). (get_or e.copies at.1 c).var) (sym (block_is b)) ∙ copy.var b c)

-- one block more, the one before
pub places_more : (roots : List RootBlock) (k : ℕ) (root : RootBlock) (vars : List ℕ) (v : ℕ) (old new : ℕ × ℕ) → k < length roots → root ≡ get_or roots k root
    → vars ≡ map (λ (c : Copy). c.var) root.block.copies → IsNoted k vars v old new
    → ((at : ℕ × ℕ) → k + 1 ≤ at.0 → HasCopyAt (map (λ (r : RootBlock). r.block) roots) v at → IsFirstFrom (k + 1) (map (λ (r : RootBlock). r.block) roots) v old)
    → (at : ℕ × ℕ) → k ≤ at.0 → HasCopyAt (map (λ (r : RootBlock). r.block) roots) v at → IsFirstFrom k (map (λ (r : RootBlock). r.block) roots) v new
places_more roots k root vars v old new l is vars_are noted later at low copy =
    let bs : List Block = map (λ (r : RootBlock). r.block) roots in
    let block_is : (d : Block) → get_or bs k d ≡ root.block = λ d. block_at roots k root d l is in
    ⊎_elim
    (λ h. record {
      copy = here bs k root.block v new (omega (arith, l, length-map roots (λ (r : RootBlock). r.block))) block_is (subst (λ (vs : List ℕ). IsNotedHere k vs v new) vars_are h);
      least = λ other from other_copy. omega (arith, h.block_is, from);
    })
    (λ h.
    let elsewhere = subst (λ (vs : List ℕ). IsNotedElsewhere vs v old new) vars_are h in
    let behind : (other : ℕ × ℕ) → k ≤ other.0 → HasCopyAt bs v other → k + 1 ≤ other.0 =
    λ other from other_copy. ⊎_elim
    (λ less. absurd (absent_here bs k root.block v other old new block_is (omega (arith, less, from)) elsewhere other_copy))
    (λ more. more)
    (cases_lt other.0 (k + 1)) in
    let found = later at (behind at low copy) copy in
    subst (IsFirstFrom k bs v) (sym h.unchanged)
    (record { copy = found.copy; least = λ other from other_copy. found.least other (behind other from other_copy) other_copy }))
    noted

-- the blocks of a blocking name variables that are there
known_vars : (b : BlockedProgram) → IsFormed b → All (λ (k : Block). All (λ (c : Copy). c.var < length b.named.program.spans) k.copies) b.blocking.blocks
known_vars b formed =
    subst (λ (bl : Blocking). All (λ (k : Block). All (λ (c : Copy). c.var < length b.named.program.spans) k.copies) bl.blocks) (sym formed.blocking)
    (decomposition_lem.adds_up b.named.program b.dec (cut_rows b.named.program b.dec [] b.cuts) formed.kept.closed (cuts_are_met_lem.closed b.named.program b.dec b.cuts)).known

pub vars_below : (b : BlockedProgram) (roots shown : List RootBlock) (vars : ℕ) → IsFormed b → map (λ (r : RootBlock). r.block) roots ≡ b.blocking.blocks → shown ≡ roots
    → vars ≡ length b.named.program.spans → All (λ (r : RootBlock). All (λ (c : Copy). c.var < vars) r.block.copies) shown
vars_below b roots shown vars formed are shown_are vars_are =
    subst (λ (rs : List RootBlock). All (λ (r : RootBlock). All (λ (c : Copy). c.var < vars) r.block.copies) rs) (sym shown_are)
    (λ k r l.
    let known : All (λ (c : Copy). c.var < length b.named.program.spans) (get_or (map (λ (r : RootBlock). r.block) roots) k r.block).copies =
    subst (λ (bs : List Block). All (λ (e : Block). All (λ (c : Copy). c.var < length b.named.program.spans) e.copies) bs) (sym are) (known_vars b formed) k r.block
    (omega (arith, l, length-map roots (λ (r : RootBlock). r.block))) in
    subst (λ (n : ℕ). All (λ (c : Copy). c.var < n) (get_or roots k r).block.copies) (sym vars_are)
    (subst (λ (e : Block). All (λ (c : Copy). c.var < length b.named.program.spans) e.copies) (get_or-map (λ (r : RootBlock). r.block) roots k r r.block l) known))

-- each variable has a copy
copy_of_each : (b : BlockedProgram) (v : ℕ) → IsFormed b → v < length b.named.program.spans → (at : ℕ × ℕ) × HasCopyAt b.blocking.blocks v at
copy_of_each b v formed l =
    let rows : List Row = cut_rows b.named.program b.dec [] b.cuts in
    let found = copies_of_each_lem.there b.named.program b.dec rows v l in
    subst (λ (bl : Blocking). (at : ℕ × ℕ) × HasCopyAt bl.blocks v at) (sym formed.blocking) (
      (found.0, found.4.0),
      place (blocking_of b.named.program b.dec rows).blocks v found.0 found.4.0 found.1 found.2 found.3 found.4.1 found.4.2,
    )
  where
    place : (bs : List Block) (v k i : ℕ) (e : Block) → k < length bs → get_or bs k e ≡ e → i < length (map (λ (c : Copy). c.var) e.copies)
        → get_or (map (λ (c : Copy). c.var) e.copies) i v ≡ v → HasCopyAt bs v (k, i)
    place bs v k i e there is within at =
        let inside : i < length e.copies = omega (arith, within, length-map e.copies (λ (c : Copy). c.var)) in
        let block_is : (d : Block) → get_or bs k d ≡ e = λ d. get_or_default bs k d e there ∙ is in
        record {
          there = there;
          within = λ d. omega (arith, inside, ap (λ (o : Block). length o.copies) (block_is d));
          var = λ d c. ap (λ (o : Block). (get_or o.copies i c).var) (block_is d) ∙ sym (get_or-map (λ (c : Copy). c.var) e.copies i c v inside) ∙ at;
        }

-- each variable has its first copy in its place
pub all_placed : (b : BlockedProgram) (roots shown : List RootBlock) (vars : ℕ) (places : List (ℕ × ℕ)) → IsFormed b → map (λ (r : RootBlock). r.block) roots ≡ b.blocking.blocks
    → shown ≡ roots → vars ≡ length b.named.program.spans → length places ≡ vars
    → ((v : ℕ) (at : ℕ × ℕ) → v < vars → HasCopyAt (map (λ (r : RootBlock). r.block) shown) v at → IsFirstCopyAt (map (λ (r : RootBlock). r.block) shown) v (get_or places v (0, 0)))
    → ArePlaces (map (λ (r : RootBlock). r.block) roots) (length b.named.program.spans) places
all_placed b roots shown vars places formed are shown_are vars_are each copies = record {
  each = each ∙ vars_are;
  copies = λ v l.
      let found = copy_of_each b v formed l in
      let shown_is : map (λ (r : RootBlock). r.block) shown ≡ b.blocking.blocks = ap (λ (rs : List RootBlock). map (λ (r : RootBlock). r.block) rs) shown_are ∙ are in
      subst (λ (bs : List Block). IsFirstCopyAt bs v (get_or places v (0, 0))) (shown_is ∙ sym are)
      (copies v found.0 (omega (arith, l, vars_are)) (subst (λ (bs : List Block). HasCopyAt bs v found.0) (sym shown_is) found.1));
}

-- a block's variables are there
pub vars_there : (roots : List RootBlock) (k : ℕ) (root : RootBlock) (vars : List ℕ) (n m : ℕ) → k < length roots → root ≡ get_or roots k root
    → vars ≡ map (λ (c : Copy). c.var) root.block.copies → m ≡ n → All (λ (r : RootBlock). All (λ (c : Copy). c.var < n) r.block.copies) roots
    → All (λ v. v < m) vars
vars_there roots k root vars n m l is vars_are same below =
    subst (λ (vs : List ℕ). All (λ v. v < m) vs) (sym vars_are)
    (λ i d low.
    let c : Copy = record { var = d; cost = pos 0; coefs = [] } in
    let known : (get_or (get_or roots k root).block.copies i c).var < n =
    below k root l i c (omega (arith, low, length-map root.block.copies (λ (e : Copy). e.var), ap (λ (r : RootBlock). length r.block.copies) is)) in
    omega (arith, known, same, var_at root.block.copies i c, ap (λ (r : RootBlock). (get_or r.block.copies i c).var) is))
