use Rattle.frontend.proofs.Written.{lp_halts}
use Rattle.frontend.specs.Written.{draft_answer}
use Rattle.cmd_decompose.specs.Proposes.{Proposes, missing_lp, faulty_lp, with_model}
use Rattle.cmd_decompose.proofs.proposal.load_proposal.Goals as goal

pub returns-in_err-model-clause-halted : goal.returns-in_err-model-clause-halted
returns-in_err-model-clause-halted g c = λ told.
    lp_halts c.args.limits (Proposes c.args.limits (g.F.Shelf.file c.args.shelf.now) c.args.lp.now) (g.F.Shelf.file c.args.shelf.now c.args.lp.now) c.in_err-model.field-0.0
    c.from_residual.result missing_lp faulty_lp c.from_residual.ensures.1 (c.in_err-model.ensures.halted told)

pub returns-clause-proposed : goal.returns-clause-proposed
returns-clause-proposed g c = λ told.
    with_model c.in_ok-model.model (draft_answer c.in_ok-proposal_of.field-0) (c.in_ok-model.ensures.model told) c.in_ok-proposal_of.ensures.proposed
