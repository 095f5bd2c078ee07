-- A text that can be cut is refused for the first fault of its tokens.
use Rattle.std.proofs.Common.{refl, subst, sym}
use Rattle.lp_token.specs.declared.LpKind.{LpKind}
use Rattle.lp_syntax.specs.Symbols.{symbols}
use Rattle.lp_semantics.specs.Reading.{HasLpTextFault}
use Rattle.lp_read.proofs.ReadTree.{token_refused, end_refused}
use Rattle.lp_read.proofs.read.read_cut.Goals as goal

pub returns-in-Err-At-clause-fault : goal.returns-in-Err-At-clause-fault
returns-in-Err-At-clause-fault c =
    subst (λ (k : LpKind). HasLpTextFault c.args.limits c.args.bytes.now c.line_of.result k) (sym c.in-Err-At.kind-is)
    (token_refused c.args.limits c.args.bytes.now c.requires.cut.0 (symbols c.args.bytes.now c.requires.cut.0) c.in-Err-At.token c.line_of.result c.in-Err-At.kind c.requires.size c.requires.cut.1
    refl ((rw c.in-Err-At.field-0-is at c.in-Err-At.ensures.fault) c.requires.cut.0 c.requires.cut.1) (rw c.in-Err-At.token-is at (c.line_of.ensures c.requires.cut.0 c.requires.cut.1)))

pub returns-in-Err-NoEnd-clause-fault : goal.returns-in-Err-NoEnd-clause-fault
returns-in-Err-NoEnd-clause-fault c =
    end_refused c.args.limits c.args.bytes.now c.requires.cut.0 (symbols c.args.bytes.now c.requires.cut.0) c.last_line.result c.requires.size c.requires.cut.1
    refl ((rw c.in-Err-NoEnd.field-0-is at c.in-Err-NoEnd.ensures.fault) c.requires.cut.0 c.requires.cut.1) c.last_line.ensures
