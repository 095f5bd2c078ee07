use Rattle.std.proofs.Common.{◌≡◌, ◌-◌, ◌<◌, ◌≤◌, ◌∙◌, ap, subst, arith}
use Rattle.std.specs.Prelude.{count_by, true}
use Rattle.std.specs.Char.{is_ascii_digit}
use Rattle.lp_syntax.specs.Number.{digits_number}
use Rattle.lp_syntax.specs.Worth.{IsWorth, capped}
use Rattle.lp_syntax.proofs.NumberLemmas.{shifted, worth_whole, worth_part}
use Rattle.lp_syntax.proofs.number.shifted_worth.Goals as goal
use Rattle.lp_syntax.proofs.number.shifted_worth.Goals.{then-places-count, else-places-count}

pub returns-then-capped_number-gt0 : goal.returns-then-capped_number-gt0
returns-then-capped_number-gt0 c =
    let kept : c.if-places-count.kept ≡ count_by is_ascii_digit c.args.mantissa.now - c.args.places = elim c.if-places-count.branch [ then-places-count w ↦ omega (arith, w.kept-is) | else-places-count w ↦ omega (arith, w.kept-is) ] in
    let v = shifted c.args.mantissa.now c.behind_digits.result c.args.places c.if-places-count.kept c.behind_digits.ensures.front kept in
    worth_part _ _ _ _ v (subst (λ n. 0 < n) (c.capped_number.ensures ∙ ap (λ b. capped (digits_number b)) c.split_at.ensures.back) c.if-capped_number-gt0.true)

pub returns-else-capped_number-gt0 : goal.returns-else-capped_number-gt0
returns-else-capped_number-gt0 c =
    let kept : c.if-places-count.kept ≡ count_by is_ascii_digit c.args.mantissa.now - c.args.places = elim c.if-places-count.branch [ then-places-count w ↦ omega (arith, w.kept-is) | else-places-count w ↦ omega (arith, w.kept-is) ] in
    let v = shifted c.args.mantissa.now c.behind_digits.result c.args.places c.if-places-count.kept c.behind_digits.ensures.front kept in
    worth_whole _ _ _ _ c.whole_worth.result v
    (subst (λ n. n ≤ 0) (c.capped_number.ensures ∙ ap (λ b. capped (digits_number b)) c.split_at.ensures.back) c.if-capped_number-gt0.false)
    (subst (λ n. IsWorth true n c.whole_worth.result) (c.capped_number-else-capped_number-gt0.ensures ∙ ap (λ b. capped (digits_number b)) c.split_at.ensures.front) c.whole_worth.ensures)
