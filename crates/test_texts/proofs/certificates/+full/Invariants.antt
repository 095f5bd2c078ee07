use Rattle.test_texts.proofs.certificates.+full.Given as goal

abbrev pub decreases-full : goal.decreases-full
decreases-full l = l.depth
