-- A sign more in a run is read as the automaton reads it, and nothing is noted of it.
use Rattle.std.proofs.Common.{refl, sym, ◌∙◌, subst}
use Rattle.lp_syntax.specs.declared.symbol.Symbol.{Symbol}
use Rattle.lp_read.specs.Parsing.{ReadsOn}
use Rattle.lp_read.proofs.ReadAll.{sign_read}
use Rattle.lp_read.proofs.parse.read_sign.Goals as goal

pub returns-in_ok-site-in-Sign-clause-read : goal.returns-in_ok-site-in-Sign-clause-read
returns-in_ok-site-in-Sign-clause-read c = λ read text at next.
    subst (λ (s : Symbol). ReadsOn text at s next c.args.state.now (record { stage = c.add_sign.new.stage; notes = c.args.state.now.notes })) (sym c.in-Sign.is)
    (sign_read text at c.args.state.now (record { stage = c.add_sign.new.stage; notes = c.args.state.now.notes }) c.in-Sign.sign next c.in_ok-site-in-Sign.site (sym c.is_some.ensures ∙ read) (c.in_ok-site-in-Sign.ensures.added text) c.in_ok-site-in-Sign.ensures.further refl c.requires.room)
