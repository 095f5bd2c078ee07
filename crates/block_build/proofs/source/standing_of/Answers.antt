use Rattle.std.proofs.Common.{List, Option, ℕ, All, length, refl, sym, ap, subst, arith}
use Rattle.bp_theory.specs.Decomposition.{IsPlace}
use Rattle.block_build.proofs.HomeLemmas.{homes_by}
use Rattle.block_build.proofs.SeenLemmas.{columns_shown}
use Rattle.block_build.proofs.source.standing_of.Goals as goal

pub homes_of-requires : goal.homes_of-requires
homes_of-requires c =
    subst (λ (n : ℕ). All (IsPlace n) c.places.result.now) (sym c.blocks-2.ensures.blocks)
    (subst (λ (ps : List (Option ℕ)). All (IsPlace c.args.dec.now.blocks) ps) (sym c.places.ensures) c.requires.known)

pub returns : goal.returns
returns c =
    let p = c.args.model.now.program in
    let d = c.args.dec.now in
    let columns = columns_shown c.all_rows.result.now c.all_rows.result.now c.in_ok-columns.columns.items c.as_slice.result.now c.vars.result refl
    (omega (arith, c.in_ok-columns.ensures.each, c.in_ok-columns.columns.ok)) c.in_ok-columns.ensures.columns c.as_slice.ensures.value in record {
      columns = columns_shown c.all_rows.result.now c.args.model.now.program.rows c.in_ok-columns.columns.items c.in_ok-columns.columns.items c.vars.result c.all_rows.ensures.rows
          (omega (arith, c.in_ok-columns.ensures.each, c.in_ok-columns.columns.ok)) c.in_ok-columns.ensures.columns refl;
      each_column = omega (arith, c.in_ok-columns.ensures.each, c.in_ok-columns.columns.ok, c.vars.ensures.vars);
      homes = homes_by p d c.all_rows.result.now c.places.result.now c.blocks-2.result c.as_slice.result.now c.in_ok-homes.homes.items
          c.all_rows.ensures.rows c.places.ensures c.blocks-2.ensures.blocks columns
          (omega (arith, c.in_ok-columns.ensures.each, c.in_ok-columns.columns.ok, ap length c.as_slice.ensures.value, c.vars.ensures.vars)) c.in_ok-homes.ensures.each c.in_ok-homes.ensures.homes;
    }
