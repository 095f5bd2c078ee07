-- One summand after another.
use Rattle.std.proofs.Common.{arith, ◌∙◌, ap, ◌++◌}
use Rattle.std.specs.Prelude.{option_to_list}
use Rattle.std.proofs.Math.IntN.{+ℤ_idl}
use Rattle.lp_syntax.specs.TreeIn.{item_in}
use Rattle.lp_semantics.specs.Numbered.{raw_item, turned_by}
use Rattle.lp_semantics.specs.Meaning.{minimised, constant_of}
use Rattle.lp_syntax.specs.declared.tree.Sign.{Sign}
use Rattle.lp_syntax.specs.declared.tree.Item.{Item}
use Rattle.lp_semantics.proofs.TermLemmas.{objective_terms, objective_constant, costs_more, constant_more}
use Rattle.lp_semantics.proofs.terms.sum_of_items.Goals as goal

pub loop-item-preserved : goal.loop-item-preserved
loop-item-preserved c = record {
  costs =
      costs_more (λ (m : Sign × Item). raw_item c.args.names.now (turned_by c.args.turned m.0) (item_in c.args.text.now m.1))
      c.as_slice-item-items.result.now c.loop-item.item-index c.item-item.result c.add.new.self.costs c.loop-item.objective.costs c.add_signed.new.self.costs
      c.loop-item-test.true c.item-item.is c.loop-item.invariant.costs c.in_ok-add_signed.ensures.costs;
  constant =
      constant_more (λ (m : Sign × Item). minimised (turned_by c.args.turned m.0) (constant_of (item_in c.args.text.now m.1)))
      c.as_slice-item-items.result.now c.loop-item.item-index c.item-item.result c.add.new.self.constant c.loop-item.objective.constant c.add_signed.new.self.constant
      c.loop-item-test.true c.item-item.is c.loop-item.invariant.constant c.in_ok-add_signed.ensures.constant;
  small = omega (arith, c.add_signed.ensures.small, c.loop-item.invariant.small);
}

pub returns-clause-costs : goal.returns-clause-costs
returns-clause-costs c =
    objective_terms c.args.text.now c.args.names.now c.args.turned c.args.sum.now c.loop-item.item-index c.as_slice-item-items.result.now
    c.add.new.self.costs c.loop-item.objective.costs c.as_slice-item-items.ensures (omega arith)
    (c.in_ok-add.ensures.costs ∙ ap (λ xs. xs ++ option_to_list (raw_item c.args.names.now c.args.turned (item_in c.args.text.now c.args.sum.now.first))) c.new.ensures)
    c.loop-item.invariant.costs

pub returns-clause-constant : goal.returns-clause-constant
returns-clause-constant c =
    objective_constant c.args.text.now c.args.turned c.args.sum.now c.loop-item.item-index c.as_slice-item-items.result.now
    c.add.new.self.constant c.loop-item.objective.constant c.as_slice-item-items.ensures (omega arith) (c.in_ok-add.ensures.constant ∙ +ℤ_idl _) c.loop-item.invariant.constant
