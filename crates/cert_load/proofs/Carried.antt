-- A search may go on with further cuts.
use Rattle.std.proofs.Common.{◌≡◌, refl, sym, subst, List, ◌++◌}
use Rattle.bp_theory.specs.declared.Cut.{Cut}
use Rattle.block_program.specs.Blocked.{BlockedProgram, IsFormed}
use Rattle.search_laws.proofs.MoreCutsProof.{further_cuts_keep_lem}
use Rattle.branch_tree.specs.Adopted.{point_in}
use Rattle.branch_tree.specs.Loads.{IsLoaded}
use Rattle.branch_tree.specs.declared.loaded.Loaded.{Loaded}
use Rattle.cert_load.specs.Recut.{with_cuts}
use Rattle.cert_load.proofs.CutPrograms.{is_with_cuts}

pub carried : (b : BlockedProgram) (cuts more : List Cut) (from : Loaded) → IsLoaded (with_cuts b cuts) from → IsLoaded (with_cuts b (cuts ++ more)) from
carried b cuts more from loaded = record {
  standing = loaded.standing;
  root = loaded.root;
  search = further_cuts_keep_lem.search b.named.program b.dec cuts more from.grove.tree (point_in from.best) loaded.search;
  costs = loaded.costs;
}

-- the same of programs of one model and decomposition
pub carried_to : (b c : BlockedProgram) (more : List Cut) (from : Loaded) → IsFormed b → IsFormed c → c.named ≡ b.named → c.dec ≡ b.dec → c.cuts ≡ b.cuts ++ more → IsLoaded b from
    → IsLoaded c from
carried_to b c more from formed also named decs cuts loaded =
    subst (λ (x : BlockedProgram). IsLoaded x from) (sym (is_with_cuts b c (b.cuts ++ more) also named decs cuts))
    (carried b b.cuts more from (subst (λ (x : BlockedProgram). IsLoaded x from) (is_with_cuts b b b.cuts formed refl refl refl) loaded))
