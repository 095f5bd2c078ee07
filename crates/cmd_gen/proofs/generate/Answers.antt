use Rattle.std.proofs.Common.{◌≡◌, ◌⊎◌, inr, sym, subst, ℕ, None}
use Rattle.std.proofs.lemmas.List.{append-nil}
use Rattle.bp_gen.specs.Generator.{lp_text, dec_text}
use Rattle.cmd_gen.specs.Generates.{HoldsTexts, both}
use Rattle.cmd_gen.proofs.Writes.{known_texts, failed_leaves}
use Rattle.cmd_gen.proofs.generate.Goals as goal

pub returns-in-Ok-write-clause-leaves : goal.returns-in-Ok-write-clause-leaves
returns-in-Ok-write-clause-leaves g c = λ told.
    let made = c.in-Ok.made in
    let is : HoldsTexts c.args.seed c.args.size made = c.in-Ok.ensures in
    both (known_texts c.args.lp.now c.args.dec.now made.lp.items made.dec.items (lp_text c.args.seed c.args.size) (dec_text c.args.size)
    (g.F.Shelf.file c.args.shelf.now) (g.F.Shelf.file c.write.new.shelf) is.model is.decomposition (c.in-Ok-write.ensures.files told))
    (subst (λ (s : ℕ). (c.print.result.status ≡ s) ⊎ (c.print.result.status ≡ 8)) is.answer.done c.print.ensures.status)

pub returns-in-Ok-write-clause-failed : goal.returns-in-Ok-write-clause-failed
returns-in-Ok-write-clause-failed g c = λ is_fault. inr (record {
  rose = c.print.ensures.fault is_fault;
  no_write = c.in-Ok-write.ensures.cause;
  once = c.print.ensures.once;
  stands = λ told.
      let made = c.in-Ok.made in
      let is : HoldsTexts c.args.seed c.args.size made = c.in-Ok.ensures in
      known_texts c.args.lp.now c.args.dec.now made.lp.items made.dec.items (lp_text c.args.seed c.args.size) (dec_text c.args.size)
      (g.F.Shelf.file c.args.shelf.now) (g.F.Shelf.file c.write.new.shelf) is.model is.decomposition (c.in-Ok-write.ensures.files told);
})

pub returns-in-Err-Failed-clause-leaves : goal.returns-in-Err-Failed-clause-leaves
returns-in-Err-Failed-clause-leaves g c = λ told.
    let made = c.in-Ok.made in
    let is : HoldsTexts c.args.seed c.args.size made = c.in-Ok.ensures in
    let files = c.in-Err-Failed.ensures.files told in
    failed_leaves c.args.lp.now c.args.dec.now made.lp.items (lp_text c.args.seed c.args.size) (dec_text c.args.size)
    (g.F.Shelf.file c.args.shelf.now) (g.F.Shelf.file c.write.new.shelf) c.unwritten.result.status is.model
    (rw c.in-Err-Failed.field-0-is at files) c.unwritten.ensures.status

pub returns-in-Ok-write-clause-cut_off : goal.returns-in-Ok-write-clause-cut_off
returns-in-Ok-write-clause-cut_off g c = λ is_fault.
    let made = c.in-Ok.made in
    let is : HoldsTexts c.args.seed c.args.size made = c.in-Ok.ensures in
    (None, made.reply.status, made.reply.report, c.print.ensures.lost is_fault, is.answer, λ told. c.print.ensures.partly told is_fault)

pub returns-in-Err-Failed-clause-cut_off : goal.returns-in-Err-Failed-clause-cut_off
returns-in-Err-Failed-clause-cut_off g c = λ is_fault.
    let made = c.in-Ok.made in
    let is : HoldsTexts c.args.seed c.args.size made = c.in-Ok.ensures in
    (None, made.reply.status, made.reply.report, c.unwritten.ensures.lost, is.answer, λ told. (0, sym (append-nil (g.O.Sink.taken c.args.out.now))))
