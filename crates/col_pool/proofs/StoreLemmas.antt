-- What is no point of a block: lists of another length, and those that its pool refuses.
use Rattle.std.proofs.Common.{◌≡◌, ◌∙◌, ℕ, List, [], length, map, sym, ap, subst}
use Rattle.std.specs.Prelude.{ℤ, pos}
use Rattle.std.proofs.lemmas.List.{length-map}
use Rattle.bp_theory.specs.Blocking.{Copy, Block}
use Rattle.bp_theory.specs.Bound.{IsPoint, spans_of}
use Rattle.bp_theory.specs.Program.{IsWithin, span_at}
use Rattle.bp_theory.specs.declared.Row.{Row}
use Rattle.bp_theory.specs.declared.Span.{Span}
use Rattle.bp_theory.specs.declared.Sense.TheVariants.{Eq}
use Rattle.bp_theory.proofs.ZipLaws.{AllZip_at, AllZip-length}
use Rattle.bp_model.specs.Miss.{IsFirstOutside, IsFirstMissed}
use Rattle.block_program.specs.Blocked.{RootBlock}

-- a point of a block at the root
pub own_point : (zone : List Span) (k : RootBlock) (block : Block) (y : List ℤ) → k.block ≡ block → k.spans ≡ spans_of zone k.block
    → IsPoint block.rows (spans_of zone block) y → IsPoint k.block.rows k.spans y
own_point zone k block y same spans p =
    subst (λ (ss : List Span). IsPoint k.block.rows ss y) (sym spans) (subst (λ (bl : Block). IsPoint bl.rows (spans_of zone bl) y) (sym same) p)

pub as_long : (zone : List Span) (k : RootBlock) (block : Block) (y : List ℤ) (vars : List ℕ) → k.block ≡ block
    → vars ≡ map (λ (c : Copy). c.var) k.block.copies → IsPoint block.rows (spans_of zone block) y → length y ≡ length vars
as_long zone k block y vars same named p =
    let each : length y ≡ length block.copies = sym (AllZip-length IsWithin (spans_of zone block) y p.inside) ∙ length-map block.copies (λ (c : Copy). span_at zone c.var) in
    each ∙ ap (λ (bl : Block). length bl.copies) (sym same) ∙ sym (length-map k.block.copies (λ (c : Copy). c.var)) ∙ ap length (sym named)

pub none_outside : (rows : List Row) (spans : List Span) (y : List ℤ) (v : ℕ) → IsFirstOutside spans y v → IsPoint rows spans y → ⊥
none_outside rows spans y v first p =
    first.outside (AllZip_at IsWithin spans y p.inside v (record { lo = pos 0; hi = pos 0 }) (pos 0) first.there)

pub none_missed : (rows : List Row) (spans : List Span) (y : List ℤ) (row : ℕ) → IsFirstMissed rows y row → IsPoint rows spans y → ⊥
none_missed rows spans y row first p =
    let d : Row = record { terms = []; sense = Eq; low = pos 0; rhs = pos 0 } in first.missed d (p.meets row d first.there)
