use Rattle.std.proofs.Common.{◌≡◌, List, [], ◌∷◌, ◌++◌, sym, subst, All, Option, IfSome}
use Rattle.std.proofs.lemmas.List.Elements.{All-push}
use Rattle.bp_theory.specs.declared.Cut.{Cut}
use Rattle.bp_theory.specs.declared.Row.{Row}
use Rattle.cut_sums.specs.Cutting.{IsEarlierCut}
use Rattle.round_cut.specs.Taken.{IsTaken}
use Rattle.cut_separation.proofs.search.take_cut.Goals as goal

pub returns : goal.returns
returns c =
    let p = c.args.b.now.named.program in
    let d = c.args.b.now.dec in
    let cut : Cut = c.args.cut in
    let row : Row = c.in-Some.row in
    let rows : List Row = c.args.rows.now.items in
    let taken : IsTaken p d c.as_slice.result.now cut row =
    subst (λ (found : Option Row). IfSome found (IsTaken p d c.as_slice.result.now cut)) c.in-Some.is c.in_ok-row.ensures.taken in
    let pushed : c.push.new.self.items ≡ rows ++ row ∷ [] = c.in_ok-push.ensures.items in
    subst (All (IsEarlierCut p)) (sym pushed) (All-push (IsEarlierCut p) rows row c.requires taken.kept)
