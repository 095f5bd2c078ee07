use Rattle.std.specs.Prelude.{map, string_bytes}
use Rattle.bp_cli.proofs.Headlines.{solved, accepts, decomposes, certifies, checked}
use Rattle.bp_cli.proofs.top.run.Goals as goal

pub returns-clause-solved_truly : goal.returns-clause-solved_truly
returns-clause-solved_truly g c = λ told heard.
    solved (map string_bytes c.args.words.now) c.answer_words.result.steps (g.F.Shelf.file c.args.shelf.now) c.answer_words.result.ended.kept c.answer_words.result.ended.status (g.O.Sink.tells c.args.out.now) (g.O.Sink.taken c.args.out.now)
    (g.O.Sink.taken c.answer_words.new.out) (c.answer_words.ensures.answered told) heard

pub returns-clause-solves_accepted : goal.returns-clause-solves_accepted
returns-clause-solves_accepted g c = λ told.
    accepts (map string_bytes c.args.words.now) c.answer_words.result.steps (g.F.Shelf.file c.args.shelf.now) c.answer_words.result.ended.kept c.answer_words.result.ended.status (g.O.Sink.tells c.args.out.now) (g.O.Sink.taken c.args.out.now)
    (g.O.Sink.taken c.answer_words.new.out) c.answer_words.ensures.causes.known (c.answer_words.ensures.answered told)

pub returns-clause-solves_decomposed : goal.returns-clause-solves_decomposed
returns-clause-solves_decomposed g c = λ told.
    decomposes (map string_bytes c.args.words.now) c.answer_words.result.steps (g.F.Shelf.file c.args.shelf.now) c.answer_words.result.ended.kept c.answer_words.result.ended.status (g.O.Sink.tells c.args.out.now) (g.O.Sink.taken c.args.out.now)
    (g.O.Sink.taken c.answer_words.new.out) c.answer_words.ensures.causes.known (c.answer_words.ensures.answered told)

pub returns-clause-certified : goal.returns-clause-certified
returns-clause-certified g c = λ told.
    certifies (map string_bytes c.args.words.now) c.answer_words.result.steps (g.F.Shelf.file c.args.shelf.now) (g.F.Shelf.file c.answer_words.new.shelf) c.answer_words.result.ended.kept c.answer_words.result.ended.status
    (c.answer_words.ensures.written told)

pub returns-clause-checked_truly : goal.returns-clause-checked_truly
returns-clause-checked_truly g c = λ told heard.
    checked (map string_bytes c.args.words.now) c.answer_words.result.steps (g.F.Shelf.file c.args.shelf.now) c.answer_words.result.ended.kept c.answer_words.result.ended.status (g.O.Sink.tells c.args.out.now) (g.O.Sink.taken c.args.out.now)
    (g.O.Sink.taken c.answer_words.new.out) (c.answer_words.ensures.answered told) heard
