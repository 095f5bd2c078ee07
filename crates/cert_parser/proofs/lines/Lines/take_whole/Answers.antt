use Rattle.cert_parser.proofs.lines.Lines.take_whole.Goals as goal

pub returns-in-CutMultiplier-clause-takes : goal.returns-in-CutMultiplier-clause-takes
returns-in-CutMultiplier-clause-takes c = c.take_cut_multiplier.ensures.takes c.args.frame.now

pub returns-in-Multiplier-clause-takes : goal.returns-in-Multiplier-clause-takes
returns-in-Multiplier-clause-takes c = c.take_multiplier.ensures.takes c.args.frame.now
