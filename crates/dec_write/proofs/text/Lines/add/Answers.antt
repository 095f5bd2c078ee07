use Rattle.std.proofs.Common.{◌≡◌, ◌<◌, ℕ, List, [], ◌∷◌, ◌++◌, map, length, get_or, arith, refl, sym, ◌∙◌, ap, subst, Option, Some}
use Rattle.std.proofs.Math.ListN.{length-set}
use Rattle.std.specs.Vec.{with_item}
use Rattle.bp_theory.specs.Decomposition.{IsPlace}
use Rattle.dec_write.specs.Text.{AreLines, line_at}
use Rattle.dec_write.specs.declared.text.Lines.{Lines}
use Rattle.dec_write.proofs.TextLemmas.{on_ok, lines_with_block, map_set_same, map_set_other, map_get}
use Rattle.dec_write.proofs.text.Lines.add.Goals as goal

pub returns-in-Some : goal.returns-in-Some
returns-in-Some c = λ blocks rows h.
    let name = c.args.name.now in
    let b = c.in-Some.block in
    let old : Lines = c.args.self.now in
    let line = c.push_name.new.line in
    let new : Lines = record { blocks = with_item old.blocks b line; master = old.master } in
    let there : b < length old.blocks.items = subst (IsPlace (length old.blocks.items)) c.in-Some.is c.requires in
    let was : c.index_mut.result.now.items ≡ (get_or old.blocks.items b c.index_mut.result.now).items = ap (λ l. l.items) c.index_mut.ensures.value in
    let at : line_at old b ≡ (get_or old.blocks.items b c.index_mut.result.now).items = map_get _ old.blocks.items b c.index_mut.result.now there in
    let here : line_at new b ≡ line.items = map_set_same _ old.blocks.items line b there in
    let others : (k : ℕ) → (k ≡ b → ⊥) → line_at new k ≡ line_at old k = λ k apart. map_set_other _ old.blocks.items line b k apart in
    on_ok c.push_name.result (line.items ≡ c.index_mut.result.now.items ++ (32 ∷ name)) (AreLines blocks (rows ++ ((name, c.args.place) ∷ [])) new)
    (λ more. subst (λ (p : Option ℕ). AreLines blocks (rows ++ ((name, p) ∷ [])) new) (sym c.in-Some.is)
    (lines_with_block blocks rows old new name b h (omega (arith, there, h.each)) (length-set old.blocks.items b line)
    (here ∙ more ∙ ap (λ (t : List ℕ). t ++ (32 ∷ name)) (was ∙ sym at)) others (let same : old.master.items ≡ old.master.items = refl in same)))
    c.push_name.ensures
