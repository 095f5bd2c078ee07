use Rattle.std.proofs.Common.{rules, sym, subst, List, ℕ, ◌-◌, length, take}
use Rattle.std.specs.Io.KnownBytes.{Consumes}
use Rattle.bp_real.proofs.Filled.{take_filled, consumed_more}
use Rattle.bp_real.proofs.whole.fill.Goals as goal

pub reads-preserved : goal.reads-preserved
reads-preserved g c = (
  Prim.search rules,
  subst (λ (xs : List ℕ). Consumes (g.F.Read.remaining c.args.file.now) (g.F.Read.remaining c.read.new.self) xs)
      (sym (take_filled c.reads.count (length c.reads.into - c.reads.count) c.reads.into c.read.new.buf c.in_ok-more.more c.reads.invariant.0
      c.in_ok-more.ensures.bound.0))
      (consumed_more (g.F.Read.remaining c.args.file.now) (g.F.Read.remaining c.reads.file) (g.F.Read.remaining c.read.new.self)
      (take c.reads.count c.reads.into) (take c.in_ok-more.more c.read.new.buf) c.reads.invariant.1 c.in_ok-more.ensures.bytes.0),
)
