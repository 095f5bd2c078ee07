use Rattle.std.proofs.Common.{◌≡◌, ◌+◌, ◌∙◌, ◌++◌, ◌∷◌, [], if◌then◌else◌, take, List, sym, subst, ap}
use Rattle.std.proofs.lemmas.List.{take_more}
use Rattle.std.specs.List.{AllZip}
use Rattle.bp_theory.specs.declared.Row.{Row}
use Rattle.bp_model.specs.Tidy.{IsSmallRow}
use Rattle.bp_model.proofs.TidyLemmas.{AllZip-push}
use Rattle.bp_model.proofs.tidy.tidied_rows.Goals as goal

pub loop-i-preserved : goal.loop-i-preserved
loop-i-preserved c =
    let row : Row = c.index-rows-i.result in
    let front : take (c.loop-i.i + 1) c.args.rows.now ≡ take c.loop-i.i c.args.rows.now ++ row ∷ [] =
    take_more c.args.rows.now c.loop-i.i row c.loop-i-test.true ∙ ap (λ (r : Row). take c.loop-i.i c.args.rows.now ++ r ∷ []) (sym c.index-rows-i.is) in
    let pushed : c.push.new.self.items ≡ c.loop-i.tidy.items ++ c.in-Ok-Some.row ∷ [] =
    c.push.ensures.items ∙ ap (λ b. if b then c.loop-i.tidy.items ++ c.in-Ok-Some.row ∷ [] else c.loop-i.tidy.items) c.if-is_err.ensures.negation in
    subst (λ (tidy : List Row). AllZip (IsSmallRow c.args.spans.now) (take (c.loop-i.i + 1) c.args.rows.now) tidy) (sym pushed)
    (subst (λ (rows : List Row). AllZip (IsSmallRow c.args.spans.now) rows (c.loop-i.tidy.items ++ c.in-Ok-Some.row ∷ [])) (sym front)
    (AllZip-push (IsSmallRow c.args.spans.now) (take c.loop-i.i c.args.rows.now) c.loop-i.tidy.items row c.in-Ok-Some.row c.loop-i.invariant
    (rw c.in-Ok-Some.field-0-is at c.in-Ok-Some.ensures)))
