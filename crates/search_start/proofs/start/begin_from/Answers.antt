use Rattle.search_start.proofs.start.begin_from.Goals as goal

pub returns-clause-start : goal.returns-clause-start
returns-clause-start g c = λ told.
    let file = c.in_ok-read.ensures.read in
    (file.text, file.there told, c.in_ok-start_of.ensures.start file.text file.reads)
