use Rattle.std.proofs.Common.{sym, subst}
use Rattle.cert_walk.specs.Cuttings.{IsCutting}
use Rattle.cert_walk.specs.Walks.{IsWalkIn, IsWithin}
use Rattle.cert_walk.proofs.CutFacts.{no_cutting}
use Rattle.cert_stream.proofs.Stepping.{takes_cut}
use Rattle.cert_stream.proofs.checker.Checker.take_cut.Goals as goal

pub returns-in_err-cuts-clause-keeps : goal.returns-in_err-cuts-clause-keeps
returns-in_err-cuts-clause-keeps c =
    let none = no_cutting c.args.b.now c.new.result c.new.ensures.cuts c.new.ensures.rows c.new.ensures.program in
    record {
      passed = subst (IsCutting c.args.b.now) (sym c.replace-cuts.ensures.after) none;
      made = tt;
      inside = subst (IsWalkIn c.args.b.now.named.program.spans) (sym c.replace-walk.ensures.after) tt;
    }

pub returns-clause-keeps : goal.returns-clause-keeps
returns-clause-keeps c =
    let spans = c.args.b.now.named.program.spans in
    record {
      passed = c.in_ok-cuts.ensures.cutting;
      made = tt;
      inside = c.in_ok-cuts.ensures.inside spans (subst (IsWalkIn spans) (sym c.replace-walk.ensures.value) c.requires.keeps.inside);
    }

pub returns-clause-judged : goal.returns-clause-judged
returns-clause-judged c =
    let r = c.args.self.now in
    takes_cut c.args.b.now r.lines.claim r.lines.point r.cuts c.replace-cuts.result c.in_ok-cuts.cuts r.walk c.replace-walk.result c.in_ok-cuts.walk c.args.cut
    c.replace-cuts.ensures.value c.replace-walk.ensures.value c.in_ok-cuts.ensures.program c.in_ok-cuts.ensures.holds c.in_ok-cuts.ensures.judged

pub returns-clause-line : goal.returns-clause-line
returns-clause-line c = λ most h. c.in_ok-cuts.ensures.line most (subst (IsWithin most) (sym c.replace-walk.ensures.value) h)
