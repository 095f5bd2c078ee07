-- The decomposition without blocks is that beside all rows.
use Rattle.std.proofs.Common.{◌≡◌, sym, subst}
use Rattle.std.proofs.lemmas.Result.{IfOk-weaker}
use Rattle.bp_model.specs.Dec.{plain_of}
use Rattle.dec_find.specs.Guess.{IsGuess}
use Rattle.dec_find.proofs.PlainLemmas.{plain_guess}
use Rattle.dec_find.proofs.marked.beside_or_plain.Goals as goal

pub returns-in-None-clause-guess : goal.returns-in-None-clause-guess
returns-in-None-clause-guess c =
    let p = c.args.m.now.program in
    IfOk-weaker c.plain.result (λ dec. dec ≡ plain_of p) (IsGuess p) (λ dec is. subst (IsGuess p) (sym is) (plain_guess p)) c.plain.ensures.value
