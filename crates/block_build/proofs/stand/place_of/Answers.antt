use Rattle.std.proofs.Common.{sym, Ok, Err}
use Rattle.block_program.proofs.StandLemmas.{place_found}
use Rattle.block_build.proofs.stand.place_of.Goals as goal

pub returns-in-Ok-clause-place : goal.returns-in-Ok-clause-place
returns-in-Ok-clause-place c = sym (place_found c.args.vars.now c.args.var (Ok c.in-Ok.place) c.requires c.in-Ok.ensures.position)

pub returns-in-Err-clause-place : goal.returns-in-Err-clause-place
returns-in-Err-clause-place c = sym (place_found c.args.vars.now c.args.var (Err c.in-Err.field-0) c.requires c.in-Err.ensures.position)
