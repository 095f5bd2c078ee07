use Rattle.std.proofs.Common.{◌≡◌, List, [], ◌∷◌, Option, Some, Result, Ok, All, IfOk, subst}
use Rattle.std.specs.Prelude.{IfSome}
use Rattle.std.proofs.lemmas.List.Elements.{All-cons, All-nil}
use Rattle.bp_theory.specs.declared.Row.{Row}
use Rattle.cut_sums.specs.Cutting.{IsEarlierCut}
use Rattle.cut_sums.specs.declared.fault.CutFault.{CutFault}
use Rattle.test_pricing.proofs.cuts.a_later_cut_names_an_earlier_one_behind_the_links.Goals as goal

-- one row that was found
one_row : (P : Row → Type 0) (found : Option (Result Row CutFault)) (result : Result Row CutFault) (row : Row) → IfSome found (λ r. IfOk r P) → found ≡ Some result
    → result ≡ Ok row → All P (row ∷ [])
one_row P found result row h is same =
    All-cons P row []
    (subst (λ (r : Result Row CutFault). IfOk r P) same (subst (λ (o : Option (Result Row CutFault)). IfSome o (λ r. IfOk r P)) is h)) (All-nil P)

pub tried-requires-5-clause-earlier : goal.tried-requires-5-clause-earlier
tried-requires-5-clause-earlier g c =
    one_row (IsEarlierCut c.in_ok-b.b.named.program) c.in_ok-first.field-0 c.in-Some-Ok.field-0 c.in-Some-Ok.first c.in_ok-first.ensures c.in-Some-Ok.is
    c.in-Some-Ok.field-0-is

pub tried-requires-6-clause-earlier : goal.tried-requires-6-clause-earlier
tried-requires-6-clause-earlier g c =
    one_row (IsEarlierCut c.in_ok-b.b.named.program) c.in_ok-first.field-0 c.in-Some-Ok.field-0 c.in-Some-Ok.first c.in_ok-first.ensures c.in-Some-Ok.is
    c.in-Some-Ok.field-0-is

pub tried-requires-7-clause-earlier : goal.tried-requires-7-clause-earlier
tried-requires-7-clause-earlier g c =
    one_row (IsEarlierCut c.in_ok-b.b.named.program) c.in_ok-first.field-0 c.in-Some-Ok.field-0 c.in-Some-Ok.first c.in_ok-first.ensures c.in-Some-Ok.is
    c.in-Some-Ok.field-0-is
