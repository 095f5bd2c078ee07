use Rattle.std.proofs.Common.{List, [], sym, subst}
use Rattle.std.proofs.lemmas.List.Elements.{recursion_from_All}
use Rattle.bp_theory.specs.declared.Cut.{Cut}
use Rattle.cut_sums.specs.Plain.{IsPlain}
use Rattle.round_cut.specs.Several.{AreCutsOver}
use Rattle.round_cut.proofs.PlainCuts.{plain_cuts_over}
use Rattle.test_pricing.proofs.cuts.a_program_takes_its_plain_cuts.Goals as goal

pub with_cuts-requires-clause-rules : goal.with_cuts-requires-clause-rules
with_cuts-requires-clause-rules g c =
    let p = c.in_ok-b.b.named.program in
    let d = c.in_ok-b.b.dec in
    let cuts : List Cut = c.in_ok-cuts.cuts.items in
    subst (AreCutsOver p d []) (sym c.as_slice.ensures.value) (plain_cuts_over p d [] [] cuts tt (recursion_from_All (IsPlain p d) cuts c.in_ok-cuts.ensures.plain))
