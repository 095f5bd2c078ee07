use Rattle.std.proofs.Common.{◌≡◌, ◌∙◌, None, Some, arith, to_z, of_z, sym, subst}
use Rattle.std.specs.Prelude.{ℤ}
use Rattle.std.specs.Int.{w64}
use Rattle.std.proofs.lemmas.Int.{ints}
use Rattle.std.proofs.lemmas.Option.{get_or_from_slice_get}
use Rattle.bp_theory.specs.Trees.{zone_of}
use Rattle.bp_theory.specs.declared.Proof.{Proof}
use Rattle.node_bound.specs.Shown.{ShutsOff, row_proof, block_proof}
use Rattle.node_bound.proofs.OnePoint.{master_shuts, own_shuts}
use Rattle.node_bound.proofs.Leaves.{ok_from}
use Rattle.node_bound.proofs.point.missed_proof.Goals as goal

pub returns-in-None : goal.returns-in-None
returns-in-None c =
    let sign : ℤ = to_z w64 (of_z w64 c.sign-sign.result) in
    let same : sign ≡ c.sign-sign.result = omega (arith, ints) in
    ok_from c.by_row.result (λ (proof : Proof). proof ≡ row_proof c.args.row sign) (ShutsOff c.args.b.now.blocking (zone_of c.args.point.now))
    (λ proof is. subst (ShutsOff c.args.b.now.blocking (zone_of c.args.point.now)) (sym is)
    (master_shuts c.args.b.now c.args.point.now c.args.row sign c.requires.formed c.requires.missed
    (get_or_from_slice_get c.args.b.now.dec.places c.args.row None None c.in-None.ensures) (λ d. same ∙ c.sign-sign.ensures d)))
    c.by_row.ensures

pub returns-in-Some : goal.returns-in-Some
returns-in-Some c =
    ok_from c.by_block.result (λ (proof : Proof). proof ≡ block_proof c.in-Some.block) (ShutsOff c.args.b.now.blocking (zone_of c.args.point.now))
    (λ proof is. subst (ShutsOff c.args.b.now.blocking (zone_of c.args.point.now)) (sym is)
    (own_shuts c.args.b.now c.args.point.now c.args.row c.in-Some.block c.requires.formed c.requires.missed
    (get_or_from_slice_get c.args.b.now.dec.places c.args.row (Some c.in-Some.block) None c.in-Some.ensures)))
    c.by_block.ensures
