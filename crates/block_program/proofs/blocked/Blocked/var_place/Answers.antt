use Rattle.std.proofs.Common.{◌<◌, ℕ, List, get_or, length, map, sym, ap, subst, arith}
use Rattle.bp_theory.specs.Blocking.{Block}
use Rattle.block_program.specs.Blocked.{BlockedProgram, RootBlock, IsFirstCopyAt}
use Rattle.block_program.proofs.blocked.Blocked.var_place.Goals as goal

pub place_at-requires : goal.place_at-requires
place_at-requires c =
    let there : c.args.var < length c.self.inside.base.value.model.program.spans =
    subst (λ (x : BlockedProgram). c.args.var < length x.named.program.spans) (sym c.self.view_is) c.requires in
    omega (arith, there, ap (λ (ps : List (ℕ × ℕ)). length ps) c.as_slice.ensures, c.self.invariant.2.each)

first : (c : goal.After-place_at) → IsFirstCopyAt c.args.self.now.blocking.blocks c.args.var c.place_at.result
first c =
    let b = c.self.inside in
    let bs : List Block = map (λ (k : RootBlock). k.block) b.blocks in
    let there : c.args.var < length b.base.value.model.program.spans =
    subst (λ (x : BlockedProgram). c.args.var < length x.named.program.spans) (sym c.self.view_is) c.requires in
    subst (λ (x : BlockedProgram). IsFirstCopyAt x.blocking.blocks c.args.var c.place_at.result) c.self.view_is
    (subst (λ (at : ℕ × ℕ). IsFirstCopyAt bs c.args.var at) (sym c.place_at.ensures)
    (subst (λ (ps : List (ℕ × ℕ)). IsFirstCopyAt bs c.args.var (get_or ps c.args.var (0, 0))) (sym c.as_slice.ensures) (c.self.invariant.2.copies c.args.var there)))

pub returns-clause-copy : goal.returns-clause-copy
returns-clause-copy c = (first c).copy

pub returns-clause-first : goal.returns-clause-first
returns-clause-first c = first c
