-- A tree's model is its text's, and so is its first fault.
use Rattle.std.proofs.Common.{None, Some}
use Rattle.lp_syntax.specs.TreeIn.{tree_in}
use Rattle.lp_read.proofs.ReadTree.{refusal, text_of, means, variable_refused, objective_refused, row_refused}
use Rattle.lp_read.proofs.read.read_tree.Goals as goal

pub model_of_tree-requires-clause-text_of : goal.model_of_tree-requires-clause-text_of
model_of_tree-requires-clause-text_of c = (c.requires.cut.0, text_of c.args.limits c.args.bytes.now c.requires.cut.0 c.args.parsed (c.requires.parsed c.requires.cut.0 c.requires.cut.1))

pub model_of_tree-requires-clause-variables : goal.model_of_tree-requires-clause-variables
model_of_tree-requires-clause-variables c = (c.requires.parsed c.requires.cut.0 c.requires.cut.1).notes.names

pub model_of_tree-requires-clause-row_names : goal.model_of_tree-requires-clause-row_names
model_of_tree-requires-clause-row_names c = (c.requires.parsed c.requires.cut.0 c.requires.cut.1).notes.row_names

pub returns-in-Ok-clause-read : goal.returns-in-Ok-clause-read
returns-in-Ok-clause-read c =
    means c.args.limits c.args.bytes.now c.requires.cut.0 c.args.parsed c.in-Ok.model c.requires.size c.requires.cut.1 (c.requires.parsed c.requires.cut.0 c.requires.cut.1) c.in-Ok.ensures.model

pub returns-in-Err-At-clause-fault : goal.returns-in-Err-At-clause-fault
returns-in-Err-At-clause-fault c =
    variable_refused c.args.limits c.args.bytes.now c.requires.cut.0 c.args.parsed c.in-Err-At.variable c.line_of.result c.place_at.result c.in-Err-At.kind c.requires.size c.requires.cut.1
    (c.requires.parsed c.requires.cut.0 c.requires.cut.1) (rw c.in-Err-At.field-0-is at c.in-Err-At.ensures.fault) c.place_at.ensures (c.line_of.ensures c.requires.cut.0 c.requires.cut.1)

pub returns-in-Err-Sums-None-clause-fault : goal.returns-in-Err-Sums-None-clause-fault
returns-in-Err-Sums-None-clause-fault c =
    objective_refused c.args.limits c.args.bytes.now c.requires.cut.0 c.args.parsed c.line_of-in-Err-Sums-None.result c.requires.size c.requires.cut.1 (c.requires.parsed c.requires.cut.0 c.requires.cut.1)
    (refusal c.args.limits (tree_in c.args.bytes.now c.args.parsed.tree) c.in-Err-Sums-None.field-0 c.in-Err-Sums-None.field-0-0 None c.in-Err-Sums-None.field-0-is c.in-Err-Sums-None.field-0-0-is c.in-Err-Sums-None.ensures.fault)
    (c.line_of-in-Err-Sums-None.ensures c.requires.cut.0 c.requires.cut.1)

pub returns-in-Err-Sums-Some-clause-fault : goal.returns-in-Err-Sums-Some-clause-fault
returns-in-Err-Sums-Some-clause-fault c =
    row_refused c.args.limits c.args.bytes.now c.requires.cut.0 c.args.parsed c.in-Err-Sums-Some.row c.line_of-in-Err-Sums-Some.result c.place_at-in-Err-Sums-Some.result c.requires.size c.requires.cut.1
    (c.requires.parsed c.requires.cut.0 c.requires.cut.1)
    (refusal c.args.limits (tree_in c.args.bytes.now c.args.parsed.tree) c.in-Err-Sums-Some.field-0 c.in-Err-Sums-Some.field-0-0 (Some c.in-Err-Sums-Some.row) c.in-Err-Sums-Some.field-0-is c.in-Err-Sums-Some.field-0-0-is c.in-Err-Sums-Some.ensures.fault)
    c.place_at-in-Err-Sums-Some.ensures (c.line_of-in-Err-Sums-Some.ensures c.requires.cut.0 c.requires.cut.1)
