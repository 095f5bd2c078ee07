-- Tokens are passed by until none more stands before the one that is sought.
use Rattle.std.proofs.Common.{◌≡◌, ◌<◌, ◌≤◌, length, sym, ◌∙◌, ap, arith, false}
use Rattle.std.specs.Prelude.{is_some}
use Rattle.lp_token.specs.Cut.{IsGap, IsToken, is_long}
use Rattle.lp_token.proofs.Places.{kind_nonempty}
use Rattle.lp_read.proofs.Seeking.{seek_start, seek_none, seek_fault, seek_here, seek_end, seek_more}
use Rattle.lp_read.proofs.lines.line_of.Goals as goal

pub seek-init : goal.seek-init
seek-init c = record {
  between = c.beginning-place.ensures.between c.args.bytes.now;
  sought = seek_start c.args.bytes.now c.args.count c.beginning-place.result.at c.beginning-place.ensures.start;
}

pub returns-then-left-eq0 : goal.returns-then-left-eq0
returns-then-left-eq0 c =
    let t : IsGap c.args.bytes.now c.seek.place.at c.in-Ok-Some.token.from × IsToken c.args.bytes.now c.in-Ok-Some.token × (is_long c.in-Ok-Some.token ≡ false) = rw c.in-Ok-Some.field-0-is at c.in-Ok-Some.ensures.token in
    seek_here c.args.bytes.now c.args.count c.seek.place.at c.seek.left c.in-Ok-Some.token c.seek.invariant.sought t.0 t.1 c.if-left-eq0.true

pub is_end-requires-clause-ordered : goal.is_end-requires-clause-ordered
is_end-requires-clause-ordered c =
    let t : IsGap c.args.bytes.now c.seek.place.at c.in-Ok-Some.token.from × IsToken c.args.bytes.now c.in-Ok-Some.token × (is_long c.in-Ok-Some.token ≡ false) = rw c.in-Ok-Some.field-0-is at c.in-Ok-Some.ensures.token in
    let after : c.in-Ok-Some.token.from < c.in-Ok-Some.token.to = kind_nonempty c.args.bytes.now c.in-Ok-Some.token.from c.in-Ok-Some.token.to (ap is_some t.1.kind) in
    omega arith

pub returns-then-is_end : goal.returns-then-is_end
returns-then-is_end c =
    let t : IsGap c.args.bytes.now c.seek.place.at c.in-Ok-Some.token.from × IsToken c.args.bytes.now c.in-Ok-Some.token × (is_long c.in-Ok-Some.token ≡ false) = rw c.in-Ok-Some.field-0-is at c.in-Ok-Some.ensures.token in
    seek_end c.args.bytes.now c.args.count c.seek.place.at c.seek.left c.in-Ok-Some.token c.seek.invariant.sought t.0 t.1 c.if-left-eq0.false (sym c.is_end.ensures ∙ c.if-is_end.true)

pub seek-smaller : goal.seek-smaller
seek-smaller c =
    let t : IsGap c.args.bytes.now c.seek.place.at c.in-Ok-Some.token.from × IsToken c.args.bytes.now c.in-Ok-Some.token × (is_long c.in-Ok-Some.token ≡ false) = rw c.in-Ok-Some.field-0-is at c.in-Ok-Some.ensures.token in
    let low : c.seek.place.at ≤ c.in-Ok-Some.token.from = t.0.ordered in
    let inside : c.in-Ok-Some.token.to ≤ length c.args.bytes.now = t.1.inside in
    let after : c.in-Ok-Some.token.from < c.in-Ok-Some.token.to = kind_nonempty c.args.bytes.now c.in-Ok-Some.token.from c.in-Ok-Some.token.to (ap is_some t.1.kind) in
    let end : c.behind-place.result.at ≡ c.in-Ok-Some.token.to = c.behind-place.ensures.end in
    omega arith

pub seek-preserved : goal.seek-preserved
seek-preserved c =
    let t : IsGap c.args.bytes.now c.seek.place.at c.in-Ok-Some.token.from × IsToken c.args.bytes.now c.in-Ok-Some.token × (is_long c.in-Ok-Some.token ≡ false) = rw c.in-Ok-Some.field-0-is at c.in-Ok-Some.ensures.token in
    record {
      between = c.behind-place.ensures.between c.args.bytes.now t.1;
      sought = seek_more c.args.bytes.now c.args.count c.seek.place.at c.seek.left c.behind-place.result.at c.in-Ok-Some.token c.seek.invariant.sought t.0 t.1 c.if-left-eq0.false (sym c.is_end.ensures ∙ c.if-is_end.false) c.behind-place.ensures.end;
    }

pub returns-in-Ok-None : goal.returns-in-Ok-None
returns-in-Ok-None c = seek_none c.args.bytes.now c.args.count c.seek.place.at c.seek.left c.seek.invariant.sought (rw c.in-Ok-None.field-0-is at c.in-Ok-None.ensures.token)

pub returns-in-Err : goal.returns-in-Err
returns-in-Err c = seek_fault c.args.bytes.now c.args.count c.seek.place.at c.seek.left c.in-Err.field-0 c.seek.invariant.sought c.in-Err.ensures.fault
