use Rattle.std.proofs.Common.{◌∙◌, sym, inl, inr}
use Rattle.dec_syntax.proofs.TakeLemmas.{end_awaiting, end_uncounted, end_unassigned, end_whole}
use Rattle.dec_syntax.proofs.state.Reader.fault_at_end.Goals as goal
use Rattle.dec_syntax.proofs.state.Reader.fault_at_end.Goals.{else-self-via-then-self+else-lacks_row, else-self-via-else-self}

pub returns-then-is_awaiting : goal.returns-then-is_awaiting
returns-then-is_awaiting c = λ all k. end_awaiting c.args.m.now c.args.self.now all k (sym c.is_awaiting.ensures ∙ c.if-is_awaiting.true)

pub returns-then-not-self : goal.returns-then-not-self
returns-then-not-self c = λ all k. end_uncounted c.args.m.now c.args.self.now all k (sym c.is_awaiting.ensures ∙ c.if-is_awaiting.false) c.if-not-self.true

pub returns-then-lacks_row : goal.returns-then-lacks_row
returns-then-lacks_row c = λ all k. end_unassigned c.args.m.now c.args.self.now all k (sym c.is_awaiting.ensures ∙ c.if-is_awaiting.false) c.if-not-self.false c.if-self.true (sym c.lacks_row.ensures ∙ c.if-lacks_row.true)

pub returns : goal.returns
returns c = λ all k. end_whole c.args.m.now c.args.self.now all k (sym c.is_awaiting.ensures ∙ c.if-is_awaiting.false) c.if-not-self.false (elim c.else-self.branch [
  | else-self-via-then-self+else-lacks_row w ↦ inr (sym w.lacks_row.ensures ∙ w.if-lacks_row.false)
  | else-self-via-else-self w ↦ inl w.if-self.false
])
