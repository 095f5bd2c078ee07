use Rattle.std.proofs.Common.{ℕ, List, Option, sym, ap, subst, ◌∙◌}
use Rattle.bp_theory.specs.Program.{Program}
use Rattle.bp_theory.specs.Blocking.{Blocking}
use Rattle.block_program.specs.Blocked.{BlockedProgram}
use Rattle.cert_walk.specs.Turns.{Turn}
use Rattle.cert_walk.specs.Walks.{Front, WalksBelow, WalksBehind, GoesOver, IsWithin, leaf_with}
use Rattle.cert_stream.specs.declared.checker.Checker.{Checker}
use Rattle.cert_stream.proofs.Stepping.{takes_leaf}
use Rattle.cert_stream.proofs.checker.Checker.take_leaf.Goals as goal

pub returns-clause-judged : goal.returns-clause-judged
returns-clause-judged c =
    let r = c.args.self.now in
    let walk = c.replace-walk.result in
    let claim = c.claim-claim.result in
    let P : BlockedProgram → Type 0 = λ b. (p : Program) (k : Blocking) (front : Front) (visits : Option ℕ) (ts : List Turn) → GoesOver b p k walk → WalksBelow p k claim front visits ts walk
    → WalksBehind p k claim front visits ts (leaf_with c.args.is_open c.args.proof.now) c.in_ok-self.field-0 in
    takes_leaf c.args.b.now r.lines.claim claim r.lines.point r.cuts c.close_cuts.new.self.cuts r.walk walk c.in_ok-self.field-0 c.args.is_open c.args.proof.now
    c.requires.formed c.requires.uncut c.in_ok-close_cuts.ensures.cuts c.replace-walk.ensures.value
    (c.claim-claim.ensures ∙ ap (λ (x : Checker). x.lines.claim) c.in_ok-close_cuts.ensures.rest) c.in_ok-close_cuts.ensures.same c.in_ok-close_cuts.ensures.closed
    c.in_ok-self.ensures.on (subst P c.program-program.ensures c.in_ok-self.ensures.judged)

pub returns-clause-line : goal.returns-clause-line
returns-clause-line c = λ most h. c.in_ok-self.ensures.line most (subst (IsWithin most) (sym c.replace-walk.ensures.value) h)
