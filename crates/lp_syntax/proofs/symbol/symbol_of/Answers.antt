-- Each kind of token has its symbol.
use Rattle.lp_syntax.specs.Symbols.{symbol_of}
use Rattle.lp_syntax.proofs.SymbolLemmas.{no_name, name_of}
use Rattle.lp_syntax.proofs.symbol.symbol_of.Goals as goal

pub returns-in-Number-clause-same : goal.returns-in-Number-clause-same
unfolding symbol_of
returns-in-Number-clause-same c = rw (c.in-Number.is, ← c.bytes_at.ensures) (c.number_symbol.ensures.same c.args.bytes.now)

pub returns-in-Mark-clause-same : goal.returns-in-Mark-clause-same
unfolding symbol_of
returns-in-Mark-clause-same c = rw (c.in-Mark.is, ← c.bytes_at-in-Mark.ensures) (c.mark_symbol.ensures.same c.args.bytes.now)

pub returns-in-Word-clause-same : goal.returns-in-Word-clause-same
unfolding symbol_of
returns-in-Word-clause-same c = rw (c.in-Word.is, ← c.bytes_at-in-Word.ensures) (c.word_symbol.ensures.same c.args.bytes.now)

pub returns-in-Name-clause-same : goal.returns-in-Name-clause-same
unfolding symbol_of
returns-in-Name-clause-same c = rw c.in-Name.is c.name_symbol.ensures.same

pub returns-in-Number-clause-named : goal.returns-in-Number-clause-named
returns-in-Number-clause-named c = no_name c.args.token.now c.number_symbol.result c.number_symbol.ensures.other

pub returns-in-Mark-clause-named : goal.returns-in-Mark-clause-named
returns-in-Mark-clause-named c = no_name c.args.token.now c.mark_symbol.result c.mark_symbol.ensures.other

pub returns-in-Word-clause-named : goal.returns-in-Word-clause-named
returns-in-Word-clause-named c = no_name c.args.token.now c.word_symbol.result c.word_symbol.ensures.other

pub returns-in-Name-clause-named : goal.returns-in-Name-clause-named
returns-in-Name-clause-named c = name_of c.args.token.now c.name_symbol.result c.in-Name.is c.name_symbol.ensures.named
