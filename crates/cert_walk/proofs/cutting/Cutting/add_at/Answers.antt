use Rattle.std.proofs.Common.{◌≤◌, List, Option, None, Some, Result, Ok, Err, length, refl, sym, ap, subst, ◌∙◌, arith}
use Rattle.std.proofs.lemmas.Bool.{true≢false}
use Rattle.bp_theory.specs.Decomposition.{proof_rows}
use Rattle.bp_theory.specs.declared.Row.{Row}
use Rattle.cut_sums.specs.Cutting.{IsCutOver}
use Rattle.cert_line_check.specs.Cutting.{JudgesCut}
use Rattle.cert_line_check.specs.declared.place.Rejection.{Rejection}
use Rattle.cert_walk.specs.Cuttings.{cuts_by}
use Rattle.cert_walk.proofs.CutFacts.{cutting_more}
use Rattle.cert_walk.proofs.Walking.{cut_many, cut_unjudged, cut_ended, cut_at}
use Rattle.cert_walk.proofs.cutting.Cutting.add_at.Goals as goal

pub returns-then-len-gt-MOST_EARLIER-clause-judged : goal.returns-then-len-gt-MOST_EARLIER-clause-judged
returns-then-len-gt-MOST_EARLIER-clause-judged c = λ claim zs cuts visits k none is h.
    let s = c.args.self in
    cut_many c.args.b.now.named.program k claim zs c.args.b.now.dec cuts s.cuts c.args.cut s.rows visits (ap (cuts_by s.cuts) (sym none) ∙ is) c.requires.cutting.rows
    (omega (arith, c.if-len-gt-MOST_EARLIER.true, c.len.ensures))

pub returns-then-not-keeps_rules-clause-judged : goal.returns-then-not-keeps_rules-clause-judged
returns-then-not-keeps_rules-clause-judged c = λ claim zs cuts visits k none is h.
    let s = c.args.self in
    let p = c.args.b.now.named.program in
    let d = c.args.b.now.dec in
    let S : List Row → Type 0 = λ rs. IsCutOver (proof_rows p d rs) c.args.cut in
    cut_unjudged p k claim zs d cuts s.cuts c.args.cut s.rows visits (ap (cuts_by s.cuts) (sym none) ∙ is) c.requires.cutting.rows.are
    (λ over. true≢false (sym (c.if-not-keeps_rules.ensures.1 (subst S (sym c.as_slice.ensures) over))))

pub returns-in-Err-clause-judged : goal.returns-in-Err-clause-judged
returns-in-Err-clause-judged c = λ claim zs cuts visits k none is h.
    let s = c.args.self in
    let p = c.args.b.now.named.program in
    let d = c.args.b.now.dec in
    let path = c.args.path in
    let R : Result Row Rejection → Type 0 = λ r. JudgesCut p (proof_rows p d c.as_slice-2.result.now) c.args.cut path.place.line r in
    let S : List Row → Type 0 = λ rs. JudgesCut p (proof_rows p d rs) c.args.cut path.place.line (Err c.in-Err.found) in
    cut_ended p k claim zs d cuts s.cuts c.args.cut s.rows visits path c.in-Err.found (record { line = c.in-Err.found.line; fault = Some c.in-Err.found.kind })
    (ap (cuts_by s.cuts) (sym none) ∙ is) c.requires.cutting.rows.are (subst S c.as_slice-2.ensures (subst R c.in-Err.is c.in_ok-found.ensures)) refl refl h

pub returns-in_ok-with-in-Ok-clause-cutting : goal.returns-in_ok-with-in-Ok-clause-cutting
returns-in_ok-with-in-Ok-clause-cutting c =
    let s = c.args.self in
    let p = c.args.b.now.named.program in
    let d = c.args.b.now.dec in
    let line = c.args.path.place.line in
    let O : List Row → Type 0 = λ rs. IsCutOver (proof_rows p d rs) c.args.cut in
    let R : Result Row Rejection → Type 0 = λ r. JudgesCut p (proof_rows p d c.as_slice-2.result.now) c.args.cut line r in
    let S : List Row → Type 0 = λ rs. JudgesCut p (proof_rows p d rs) c.args.cut line (Ok c.in-Ok.row) in
    let room : length s.rows ≤ 255 = omega (arith, c.if-len-gt-MOST_EARLIER.false, c.len.ensures) in
    let with = c.in_ok-with-in-Ok.ensures in
    cutting_more c.args.b.now s c.in_ok-with-in-Ok.field-0 c.args.cut c.in-Ok.row line c.requires.cutting room (subst O c.as_slice.ensures (c.if-not-keeps_rules.ensures.0 refl))
    (subst S c.as_slice-2.ensures (subst R c.in-Ok.is c.in_ok-found.ensures)) with.cuts with.rows with.program

pub returns-in_ok-with-in-Ok-clause-judged : goal.returns-in_ok-with-in-Ok-clause-judged
returns-in_ok-with-in-Ok-clause-judged c = λ claim zs cuts visits k none is h.
    let s = c.args.self in
    let p = c.args.b.now.named.program in
    let d = c.args.b.now.dec in
    let path = c.args.path in
    let R : Result Row Rejection → Type 0 = λ r. JudgesCut p (proof_rows p d c.as_slice-2.result.now) c.args.cut path.place.line r in
    let S : List Row → Type 0 = λ rs. JudgesCut p (proof_rows p d rs) c.args.cut path.place.line (Ok c.in-Ok.row) in
    cut_at p k claim zs d cuts s.cuts c.args.cut s.rows c.in-Ok.row visits path c.behind.result (ap (cuts_by s.cuts) (sym none) ∙ is) c.requires.cutting.rows.are
    (subst S c.as_slice-2.ensures (subst R c.in-Ok.is c.in_ok-found.ensures)) c.behind.ensures.line c.behind.ensures.left c.behind.ensures.zone c.behind.ensures.forks h
