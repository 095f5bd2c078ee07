use Rattle.bp_theory.specs.Judgement.{leaf_line}
use Rattle.bp_theory.specs.Trees.{Leaf}
use Rattle.cert_line_check.proofs.Lines.{priced_ends, fault_there, ended_at}
use Rattle.cert_line_check.proofs.leaf.judge_priced.Goals as goal

pub returns-in-Some-clause-judged : goal.returns-in-Some-clause-judged
returns-in-Some-clause-judged c =
    let leaf : Leaf = record { zone = c.args.at.zone; proof = c.args.leaf.proof.now; is_open = c.args.leaf.is_open } in
    ended_at c.args.b.now.named.program c.args.b.now.blocking c.args.claim.now leaf c.args.at.left c.args.at.line c.in-Some.kind c.fault_at.result c.fault_at.ensures
    (priced_ends c.args.b.now.named.program c.args.b.now.blocking c.args.claim.now leaf c.args.at.left c.args.left c.args.at.line c.in-Some.kind c.requires.spent
    (fault_there c.args.b.now.named.program c.args.b.now.blocking c.args.claim.now (leaf_line leaf)
    c.in_ok-fault.fault c.in-Some.kind c.in-Some.is c.in_ok-fault.ensures.fault))
