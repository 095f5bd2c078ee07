-- A dealt point in which the copies agree is given, and no other.
use Rattle.std.proofs.Common.{refl, sym, subst, true≢false}
use Rattle.column_assignment.specs.Deals.{HaveNumbers}
use Rattle.disagg.proofs.spreading.agreed_point.Goals as goal

pub returns-then-not-copies_agree : goal.returns-then-not-copies_agree
returns-then-not-copies_agree c = λ have. absurd
    (true≢false (sym (c.if-not-copies_agree.ensures.1
    (subst (HaveNumbers c.args.b.now.blocking c.args.used.now c.args.columns.now) (sym c.deref.ensures.value) have))))

pub returns : goal.returns
returns c =
    let numbers = HaveNumbers c.args.b.now.blocking c.args.used.now c.args.columns.now in (
      subst numbers (sym c.from_vec.ensures) (subst numbers c.deref.ensures.value (c.if-not-copies_agree.ensures.0 refl)),
      c.from_vec.ensures,
    )
