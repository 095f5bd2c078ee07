use Rattle.std.proofs.Common.{subst, ℕ, List, Some, IfOk, IfErr}
use Rattle.frontend.specs.Written.{draft_answer, IsTextHalt}
use Rattle.frontend.proofs.Written.{text_halts}
use Rattle.cmd_decompose.specs.Detects.{DetectsBeside, RowsCome}
use Rattle.cmd_decompose.proofs.Lifted.{blocks_found, blocks_halted}
use Rattle.cmd_decompose.proofs.detection.found_in.Goals as goal

pub returns-in_err-master-clause-halted : goal.returns-in_err-master-clause-halted
returns-in_err-master-clause-halted c =
    text_halts (RowsCome c.args.model.now (Some c.args.list.now)) c.in_err-master.field-0.0 c.from_residual.result c.from_residual.ensures.1 c.in_err-master.ensures.halted

pub returns-clause-found : goal.returns-clause-found
returns-clause-found c =
    blocks_found c.args.model.now c.args.list.now c.in_ok-master.master.items c.blocks_of.result c.in_ok-master.ensures.rows
    (subst (λ (rows : List ℕ). IfOk c.blocks_of.result (λ f. DetectsBeside c.args.model.now rows (draft_answer f))) c.deref.ensures.value c.blocks_of.ensures.found)

pub returns-clause-halted : goal.returns-clause-halted
returns-clause-halted c =
    blocks_halted c.args.model.now c.args.list.now c.in_ok-master.master.items c.blocks_of.result c.in_ok-master.ensures.rows
    (subst (λ (rows : List ℕ). IfErr c.blocks_of.result (IsTextHalt (DetectsBeside c.args.model.now rows))) c.deref.ensures.value c.blocks_of.ensures.halted)
