use Rattle.std.proofs.Common.{◌≡◌, ◌<◌, ◌++◌, ◌∷◌, [], ℕ, List, map, take, length}
use Rattle.std.specs.Prelude.{codes, decimal}
use Rattle.std.specs.List.{flat_map}
use Rattle.dec_write.proofs.text.Lines.text.Given as goal

abbrev pub invariant-loop-line : goal.invariant-loop-line
invariant-loop-line l = l.text.items ≡ ((codes "NBLOCKS " ++ decimal l.blocks) ++ (10 ∷ [])) ++ flat_map (λ (t : List ℕ). t ++ (10 ∷ [])) (map (λ line. line.items) (take l.line-index l.line-items))
