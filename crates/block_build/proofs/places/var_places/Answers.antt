-- The blocks are walked from the last to the first, so that what is noted last is the first copy.
use Rattle.std.proofs.Common.{◌≡◌, ℕ, ◌-◌, ◌+◌, map, get_or, sym, subst, arith}
use Rattle.block_program.specs.Blocked.{RootBlock}
use Rattle.block_build.specs.Places.{IsFirstFrom}
use Rattle.block_build.proofs.PlaceLemmas.{places_more, vars_there}
use Rattle.block_build.proofs.places.var_places.Goals as goal

pub note-requires-clause-below : goal.note-requires-clause-below
note-requires-clause-below c =
    vars_there c.args.blocks.now (c.loop-k.k - 1) c.index-blocks-k.result c.vars.result.now c.args.vars _ (omega (arith, c.loop-k-test.true, c.loop-k.auto.k)) c.index-blocks-k.is c.vars.ensures
    c.loop-k.invariant.each c.requires.below

pub loop-k-preserved : goal.loop-k-preserved
loop-k-preserved c =
    let back : (c.loop-k.k - 1) + 1 ≡ c.loop-k.k = omega (arith, c.loop-k-test.true) in record {
      each = omega (arith, c.note.ensures.each, c.loop-k.invariant.each);
      copies = λ v at l low copy.
          let old : ℕ × ℕ = get_or c.loop-k.places.items v (0, 0) in
          places_more c.args.blocks.now (c.loop-k.k - 1) c.index-blocks-k.result c.vars.result.now v old (get_or c.note.new.places.items v (0, 0))
          (omega (arith, c.loop-k-test.true, c.loop-k.auto.k)) c.index-blocks-k.is c.vars.ensures (c.note.ensures.noted v (omega (arith, l, c.loop-k.invariant.each)))
          (λ at₁ behind copy₁. subst (λ k. IsFirstFrom k (map (λ (r : RootBlock). r.block) c.args.blocks.now) v old) (sym back) (c.loop-k.invariant.copies v at₁ l (omega (arith, behind, back)) copy₁))
          at low copy;
    }

pub returns-clause-places : goal.returns-clause-places
returns-clause-places c = λ v at l copy.
    let found = c.loop-k.invariant.copies v at l (omega (arith, c.loop-k-test.false)) copy in
    record { copy = found.copy; first = λ other other_copy. found.least other (omega (arith, c.loop-k-test.false)) other_copy }
