use Rattle.std.proofs.Common.{◌≡◌, ◌≤◌, List, [], ◌∷◌, ◌++◌, ℕ, map, take, length, arith, ◌∙◌, ap, append_assoc}
use Rattle.std.specs.Prelude.{codes, decimal}
use Rattle.std.specs.List.{flat_map}
use Rattle.std.proofs.lemmas.List.{take_all}
use Rattle.dec_write.proofs.TextLemmas.{lines_text}
use Rattle.dec_write.proofs.text.Lines.text.Goals as goal

pub returns : goal.returns
returns c = λ m d same are.
    let lines = c.args.self.now in
    let past : length c.deref-line-items.result.now ≤ c.loop-line.line-index = omega arith in
    let whole : map (λ line. line.items) (take c.loop-line.line-index c.deref-line-items.result.now) ≡ map (λ line. line.items) lines.blocks.items =
    ap (map _) (take_all c.loop-line.line-index c.deref-line-items.result.now past ∙ c.deref-line-items.ensures.value) in
    let front : List ℕ = (codes "NBLOCKS " ++ decimal c.args.blocks) ++ (10 ∷ []) in
    let body : List ℕ = flat_map (λ (t : List ℕ). t ++ (10 ∷ [])) (map (λ line. line.items) (take c.loop-line.line-index c.deref-line-items.result.now)) in
    c.in_ok-extend_from_slice-5.ensures.items
    ∙ ap (λ (t : List ℕ). t ++ (10 ∷ [])) (c.in_ok-extend_from_slice-4.ensures.items
    ∙ ap (λ (t : List ℕ). t ++ c.deref-2.result.now) c.loop-line.invariant
    ∙ ap (λ (t : List ℕ). (front ++ body) ++ t) c.deref-2.ensures.value)
    ∙ append_assoc (front ++ body) lines.master.items (10 ∷ [])
    ∙ ap (λ (n : ℕ). (((codes "NBLOCKS " ++ decimal n) ++ (10 ∷ [])) ++ body) ++ (lines.master.items ++ (10 ∷ []))) same
    ∙ lines_text m d lines (map (λ line. line.items) (take c.loop-line.line-index c.deref-line-items.result.now)) whole are
