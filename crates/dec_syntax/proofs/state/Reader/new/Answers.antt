use Rattle.std.proofs.Common.{refl, false}
use Rattle.dec_syntax.specs.declared.words.Section.TheVariants.{Outside}
use Rattle.dec_syntax.proofs.TakeLemmas.{kept_new}
use Rattle.dec_syntax.proofs.state.Reader.new.Goals as goal

pub returns : goal.returns
returns c = kept_new c.args.m.now (record { section = Outside; presolved = false; counted = false; defaulted = false; blocks = 0; strict = false; limits = c.limits.result; rows = c.in_ok-rows.rows; listed = c.new.result }) c.rows.result
    refl refl refl refl refl refl c.limits.ensures c.rows.ensures.rows c.rows.ensures.kept.row_named c.in_ok-rows.ensures.places c.in_ok-rows.ensures.seen c.new.ensures.items
