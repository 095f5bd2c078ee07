use Rattle.std.proofs.Common.{sym, refl}
use Rattle.dec_syntax.specs.Parts.{stray, rows_listed}
use Rattle.dec_syntax.specs.declared.words.Section.TheVariants.{Outside, Closed}
use Rattle.dec_syntax.specs.declared.kind.DecKind.TheVariants as kinds
use Rattle.dec_syntax.proofs.ListLemmas.{plain_is_text}
use Rattle.dec_syntax.proofs.TakeLemmas.{bad_token, keyword_taken, number_taken, no_number_taken, stray_taken, row_taken, variable_taken, linking_taken}
use Rattle.dec_syntax.proofs.state.Reader.take.Goals as goal

pub returns-then-holds_bad_byte : goal.returns-then-holds_bad_byte
returns-then-holds_bad_byte c = λ earlier line keeps. bad_token c.args.m.now earlier line c.args.first c.args.word.now (sym c.if-holds_bad_byte.ensures)

pub returns-in-Some : goal.returns-in-Some
returns-in-Some c = λ earlier line keeps. keyword_taken c.args.m.now c.args.self.now c.open.new.self earlier line c.args.first c.args.word.now c.in-Some.keyword c.open.result keeps
    (sym c.if-holds_bad_byte.ensures) (sym c.in-Some.ensures) c.open.ensures.fault c.open.ensures.noted

pub list_row-requires-clause-text : goal.list_row-requires-clause-text
list_row-requires-clause-text c = plain_is_text c.args.word.now (sym c.if-holds_bad_byte.ensures)

pub list_variable-requires-clause-text : goal.list_variable-requires-clause-text
list_variable-requires-clause-text c = plain_is_text c.args.word.now (sym c.if-holds_bad_byte.ensures)

pub returns-in-Outside : goal.returns-in-Outside
returns-in-Outside c = λ earlier line keeps. stray_taken c.args.m.now c.args.self.now c.args.self.now earlier line c.args.first c.args.word.now Outside stray kinds.Syntax keeps
    (sym c.if-holds_bad_byte.ensures) (sym c.in_default.ensures) c.in-Outside.is refl refl

pub returns-in-Closed : goal.returns-in-Closed
returns-in-Closed c = λ earlier line keeps. stray_taken c.args.m.now c.args.self.now c.args.self.now earlier line c.args.first c.args.word.now Closed stray kinds.Syntax keeps
    (sym c.if-holds_bad_byte.ensures) (sym c.in_default.ensures) c.in-Closed.is refl refl

pub returns-in-Some-number : goal.returns-in-Some-number
returns-in-Some-number c = λ earlier line keeps. number_taken c.args.m.now c.args.self.now c.count.new.self earlier line c.args.first c.args.word.now c.in-Awaits.keyword c.in-Some-number.n c.count.result keeps
    (sym c.if-holds_bad_byte.ensures) (sym c.in_default.ensures) c.in-Awaits.is c.in-Some-number.ensures c.count.ensures.fault c.count.ensures.counted

pub returns-in-None : goal.returns-in-None
returns-in-None c = λ earlier line keeps. no_number_taken c.args.m.now c.args.self.now c.args.self.now earlier line c.args.first c.args.word.now c.in-Awaits.keyword keeps
    (sym c.if-holds_bad_byte.ensures) (sym c.in_default.ensures) c.in-Awaits.is c.in-None.ensures

pub returns-in-Rows : goal.returns-in-Rows
returns-in-Rows c = λ earlier line keeps. row_taken c.args.m.now c.args.self.now c.list_row.new.self earlier line c.args.first c.args.word.now c.in-Rows.place c.list_row.result keeps
    (sym c.if-holds_bad_byte.ensures) (sym c.in_default.ensures) c.in-Rows.is
    (c.list_row.ensures.fault (rows_listed earlier) keeps.rows) (c.list_row.ensures.listed (rows_listed earlier) keeps.rows) c.list_row.ensures.others

pub returns-in-Vars : goal.returns-in-Vars
returns-in-Vars c = λ earlier line keeps. variable_taken c.args.m.now c.args.self.now c.list_variable.new.self earlier line c.args.first c.args.word.now c.in-Vars.place c.list_variable.result keeps
    (sym c.if-holds_bad_byte.ensures) (sym c.in_default.ensures) c.in-Vars.is
    c.list_variable.ensures.fault c.list_variable.ensures.listed c.list_variable.ensures.entry

pub returns-in-Links : goal.returns-in-Links
returns-in-Links c = λ earlier line keeps. linking_taken c.args.m.now c.args.self.now earlier line c.args.first c.args.word.now c.fault_of_variable.result keeps
    (sym c.if-holds_bad_byte.ensures) (sym c.in_default.ensures) c.in-Links.is c.fault_of_variable.ensures

pub fault_of_variable-requires : goal.fault_of_variable-requires
fault_of_variable-requires c = plain_is_text c.args.word.now (sym c.if-holds_bad_byte.ensures)
