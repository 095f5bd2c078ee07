-- The next symbol is the next token's, if there is one.
use Rattle.std.proofs.Common.{◌≡◌, ◌<◌, ◌≤◌, ap, arith, false}
use Rattle.std.specs.Prelude.{is_some}
use Rattle.lp_token.specs.Cut.{IsGap, IsToken, is_long}
use Rattle.lp_token.proofs.Places.{kind_nonempty}
use Rattle.lp_syntax.proofs.SymbolLemmas.{named_symbol}
use Rattle.lp_syntax.proofs.Remaining.{rest_none, rest_sound, rest_some}
use Rattle.lp_syntax.proofs.cursor.next_symbol.Goals as goal

pub is_end-requires-clause-ordered : goal.is_end-requires-clause-ordered
is_end-requires-clause-ordered c =
    let t : IsGap c.args.bytes.now c.args.cursor.place.at c.in-Ok-Some.token.from × IsToken c.args.bytes.now c.in-Ok-Some.token × (is_long c.in-Ok-Some.token ≡ false) = rw c.in-Ok-Some.field-0-is at c.in-Ok-Some.ensures.token in
    let after : c.in-Ok-Some.token.from < c.in-Ok-Some.token.to = kind_nonempty c.args.bytes.now c.in-Ok-Some.token.from c.in-Ok-Some.token.to (ap is_some t.1.kind) in
    omega arith

pub returns-in-Ok-Some-clause-next : goal.returns-in-Ok-Some-clause-next
returns-in-Ok-Some-clause-next c =
    let t : IsGap c.args.bytes.now c.args.cursor.place.at c.in-Ok-Some.token.from × IsToken c.args.bytes.now c.in-Ok-Some.token × (is_long c.in-Ok-Some.token ≡ false) = rw c.in-Ok-Some.field-0-is at c.in-Ok-Some.ensures.token in
    λ rest r.
    rest_some c.args.bytes.now c.args.cursor (record { place = c.behind.result; in_bounds = c.stays_in_bounds.result; is_done = c.is_end.result }) rest c.in-Ok-Some.token c.symbol_of-symbol.result
    c.if-cursor.false t.0 t.1 c.symbol_of-symbol.ensures.same c.behind.ensures.end (c.stays_in_bounds.ensures c.args.bytes.now) c.is_end.ensures r

pub returns-in-Ok-Some-clause-named : goal.returns-in-Ok-Some-clause-named
returns-in-Ok-Some-clause-named c =
    let t : IsGap c.args.bytes.now c.args.cursor.place.at c.in-Ok-Some.token.from × IsToken c.args.bytes.now c.in-Ok-Some.token × (is_long c.in-Ok-Some.token ≡ false) = rw c.in-Ok-Some.field-0-is at c.in-Ok-Some.ensures.token in
    named_symbol c.args.bytes.now c.in-Ok-Some.token c.symbol_of-symbol.result t.1 c.symbol_of-symbol.ensures.named

pub returns-in-Ok-Some-clause-further : goal.returns-in-Ok-Some-clause-further
returns-in-Ok-Some-clause-further c =
    let t : IsGap c.args.bytes.now c.args.cursor.place.at c.in-Ok-Some.token.from × IsToken c.args.bytes.now c.in-Ok-Some.token × (is_long c.in-Ok-Some.token ≡ false) = rw c.in-Ok-Some.field-0-is at c.in-Ok-Some.ensures.token in
    let low : c.args.cursor.place.at ≤ c.in-Ok-Some.token.from = t.0.ordered in
    let after : c.in-Ok-Some.token.from < c.in-Ok-Some.token.to = kind_nonempty c.args.bytes.now c.in-Ok-Some.token.from c.in-Ok-Some.token.to (ap is_some t.1.kind) in
    let end : c.behind.result.at ≡ c.in-Ok-Some.token.to = c.behind.ensures.end in
    omega arith

pub returns-in-Ok-Some-clause-onward : goal.returns-in-Ok-Some-clause-onward
returns-in-Ok-Some-clause-onward c =
    let more : c.args.cursor.place.at < c.behind.result.at = returns-in-Ok-Some-clause-further c in
    omega arith

pub returns-in-Ok-None-clause-next : goal.returns-in-Ok-None-clause-next
returns-in-Ok-None-clause-next c = λ rest r. rest_none c.args.bytes.now c.args.cursor rest c.if-cursor.false (rw c.in-Ok-None.field-0-is at c.in-Ok-None.ensures.token) r

pub returns-in-Err-clause-next : goal.returns-in-Err-clause-next
returns-in-Err-clause-next c = λ rest r. absurd (rest_sound c.args.bytes.now c.args.cursor rest c.in-Err.field-0 c.if-cursor.false c.in-Err.ensures.fault r)
