-- The cuts that are kept, and the program with them.
use Rattle.std.proofs.Common.{◌≡◌, refl, sym, ap, subst, ◌∙◌, ℕ, ◌+◌, ◌-◌, ◌≤◌, ◌<◌, List, [], ◌∷◌, ◌++◌, length, Option, Some, None, Ok, arith}
use Rattle.std.specs.Prelude.{IfSome}
use Rattle.bp_theory.specs.Decomposition.{proof_rows}
use Rattle.bp_theory.specs.declared.Cut.{Cut}
use Rattle.bp_theory.specs.declared.Row.{Row}
use Rattle.bp_model.specs.Named.{NamedProgram}
use Rattle.block_program.specs.Blocked.{BlockedProgram, IsFormed}
use Rattle.round_cut.specs.Several.{AreRowsOfCuts}
use Rattle.cut_sums.specs.Cutting.{IsCutOver}
use Rattle.round_cut.proofs.SeveralLemmas.{no_rows, one_row_more}
use Rattle.cert_line_check.specs.Cutting.{JudgesCut, blocking_over, HasCuts}
use Rattle.cert_line_check.proofs.CutLines.{rows_many}
use Rattle.cert_line_check.proofs.Heads.{without_cuts, same_blocking}
use Rattle.cert_walk.specs.Cuttings.{program_by, cuts_by, cuts_in, IsCutting, HoldsCuts, IsClosed}
use Rattle.cert_walk.specs.Walks.{IsOn, GoesOver}
use Rattle.cert_walk.specs.declared.cutting.Cutting.{Cutting}
use Rattle.cert_walk.specs.declared.walk.Walk.{Walk}
use Rattle.cert_walk.specs.declared.walk.Walk.TheVariants.{At, Ended, Misfit}

-- no cuts have come
pub no_cutting : (b : BlockedProgram) (c : Cutting) → c.cuts ≡ [] → c.rows ≡ [] → c.program ≡ None → IsCutting b c
no_cutting b c cuts rows program =
    let M : Option BlockedProgram → Type 0 = λ o. IfSome o (λ x. HasCuts b x.cuts x) in
    record {
      rows = subst (λ (cs : List Cut). AreRowsOfCuts b.named.program b.dec cs c.rows) (sym cuts)
          (subst (λ (rs : List Row). AreRowsOfCuts b.named.program b.dec [] rs) (sym rows) (no_rows b.named.program b.dec));
      made = subst M (sym program) tt;
    }

-- a cut more has passed
pub cutting_more : (b : BlockedProgram) (c now : Cutting) (cut : Cut) (row : Row) (line : ℕ) → IsCutting b c → length c.rows ≤ 255
    → IsCutOver (proof_rows b.named.program b.dec c.rows) cut → JudgesCut b.named.program (proof_rows b.named.program b.dec c.rows) cut line (Ok row)
    → now.cuts ≡ c.cuts ++ cut ∷ [] → now.rows ≡ c.rows ++ row ∷ [] → now.program ≡ c.program → IsCutting b now
cutting_more b c now cut row line h room over judged cuts rows program =
    let p = b.named.program in
    let d = b.dec in
    let few : length c.cuts < 256 = omega (arith, room, rows_many p d c.cuts c.rows h.rows) in
    let more = one_row_more p d c.cuts c.rows cut row h.rows few over judged.2 judged.0 judged.1 in
    let M : Option BlockedProgram → Type 0 = λ o. IfSome o (λ x. HasCuts b x.cuts x) in
    record {
      rows = subst (λ (cs : List Cut). AreRowsOfCuts p d cs now.rows) (sym cuts) (subst (λ (rs : List Row). AreRowsOfCuts p d (c.cuts ++ cut ∷ []) rs) (sym rows) more);
      made = subst M (sym program) h.made;
    }

-- the program with the cuts is made
pub closed_cutting : (b : BlockedProgram) (c : Cutting) (other : BlockedProgram) → c.cuts ≡ [] → c.rows ≡ [] → c.program ≡ Some other → HasCuts b other.cuts other → IsCutting b c
closed_cutting b c other cuts rows program made =
    let M : Option BlockedProgram → Type 0 = λ o. IfSome o (λ x. HasCuts b x.cuts x) in
    record {
      rows = subst (λ (cs : List Cut). AreRowsOfCuts b.named.program b.dec cs c.rows) (sym cuts)
          (subst (λ (rs : List Row). AreRowsOfCuts b.named.program b.dec [] rs) (sym rows) (no_rows b.named.program b.dec));
      made = subst M (sym program) made;
    }

-- the program that leaves are judged over has the cuts that came
holds_program : (b : BlockedProgram) (c : Cutting) (cuts : List Cut) → IsFormed b → b.cuts ≡ [] → IsCutting b c → IsClosed c → cuts_in c ≡ cuts → HasCuts b cuts (program_by b c.program)
holds_program b c cuts formed uncut kept closed same = by c.program refl
  where
    by : (o : Option BlockedProgram) → c.program ≡ o → HasCuts b cuts (program_by b o)
    by None is =
        let none : cuts ≡ [] = sym same ∙ ap (cuts_by c.cuts) is ∙ closed is in
        without_cuts b cuts formed uncut none
    by (Some other) is =
        let M : Option BlockedProgram → Type 0 = λ o. IfSome o (λ x. HasCuts b x.cuts x) in
        let made : HasCuts b other.cuts other = subst M is kept.made in
        let cuts_are : other.cuts ≡ cuts = sym (ap (cuts_by c.cuts) is) ∙ same in
        subst (λ (cs : List Cut). HasCuts b cs other) cuts_are made

pub goes_over : (b : BlockedProgram) (c : Cutting) (cuts : List Cut) (walk : Walk) → IsFormed b → b.cuts ≡ [] → IsCutting b c → (IsOn walk → IsClosed c) → HoldsCuts c cuts walk
    → GoesOver (program_by b c.program) b.named.program (blocking_over b cuts) walk
goes_over b c cuts (At path) formed uncut kept closed holds =
    let h = holds_program b c cuts formed uncut kept (closed tt) holds in
    (ap (λ (n : NamedProgram). n.program) (sym h.named), sym (same_blocking b cuts (program_by b c.program) h))
goes_over b c cuts (Ended stop) formed uncut kept closed holds = tt
goes_over b c cuts Misfit formed uncut kept closed holds = tt
