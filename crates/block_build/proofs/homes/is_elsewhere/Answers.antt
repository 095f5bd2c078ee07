use Rattle.std.proofs.Common.{◌≡◌, ◌∙◌, List, ℕ, [], get_or, subst}
use Rattle.std.specs.Prelude.{MatchBool}
use Rattle.std.proofs.lemmas.List.{get_or_default}
use Rattle.block_build.specs.Gather.{IsOneElse}
use Rattle.block_build.proofs.homes.is_elsewhere.Goals as goal

pub returns : goal.returns
returns c =
    let e = c.args.entry.now in
    let own : c.as_slice.result.now ≡ get_or c.args.homes.now e.0 [] = c.as_slice.ensures ∙ c.index-homes-entry.is ∙ get_or_default c.args.homes.now e.0 c.index-homes-entry.result [] c.requires in
    subst (λ (hs : List ℕ). MatchBool c.has_other.result (IsOneElse hs e.1) (IsOneElse hs e.1 → ⊥)) own c.has_other.ensures
