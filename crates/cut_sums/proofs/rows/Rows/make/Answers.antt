use Rattle.cut_sums.proofs.rows.Rows.make.Goals as goal

pub returns-clause-rows : goal.returns-clause-rows
returns-clause-rows c = record {
  formed = c.first_cut.ensures.formed;
  few = c.requires.few;
  earlier = c.requires.earlier;
  first = c.first_cut.ensures.number;
}
