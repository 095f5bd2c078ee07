-- A sign more in a part of a stage is one in the stage.
use Rattle.std.proofs.Common.{◌≡◌, ℕ, List, Option, None, Some, Result, Ok, Err, IfOk, IfSome, ap, sym, ◌∙◌}
use Rattle.lp_syntax.specs.declared.tree.Sign.{Sign}
use Rattle.lp_syntax.specs.declared.tree.Site.{Site}
use Rattle.lp_syntax.specs.Tree.{sign}
use Rattle.lp_parser.specs.declared.stage.Stage.{Stage}
use Rattle.lp_parser.specs.StageIn.{stage_in}
use Rattle.lp_parser.specs.Parser as plain
use Rattle.lp_parser.specs.Parser.{step, to}

pub in_stage : {E : Type 0} (text : List ℕ) (old new : Stage) (x y : plain.Stage) (s : Sign) (r : Result (Option Site) E) → stage_in text old ≡ x → stage_in text new ≡ y
    → IfOk r (λ site. IfSome site (λ at. step x (sign s) ≡ to at y)) → IfOk r (λ site. IfSome site (λ at. step (stage_in text old) (sign s) ≡ to at (stage_in text new)))
in_stage text old new x y s (Err e) a b h = tt
in_stage text old new x y s (Ok None) a b h = tt
in_stage text old new x y s (Ok (Some at)) a b h = ap (λ z. step z (sign s)) a ∙ h ∙ ap (to at) (sym b)
