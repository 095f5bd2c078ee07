-- Laws of what is spent on graphs, desk by desk.
use Rattle.std.proofs.Common.{◌≡◌, sym, subst, ◌∙◌, ◌+◌, ◌<◌, ◌≤◌, List, [], ◌∷◌, ◌++◌, arith, inl, inr}
use Rattle.std.specs.Prelude.{◌⊎◌, sum_by, All, IsTrue}
use Rattle.std.specs.List.{AllByRecursion}
use Rattle.std.proofs.lemmas.List.Elements.{recursion_from_All, All-from_recursion}
use Rattle.std.proofs.lemmas.List.Sums.{sum_by-cons, sum_by-append}
use Rattle.state_graph.specs.Limits.{IsBeyond}
use Rattle.block_pricers.specs.Pricers.{is_search, most_graph_arcs, IsUngraphed, HasSpent}
use Rattle.block_pricers.specs.Desks.{form_of, begun_at, IsNear, IsGraphed, HaveGraphs}
use Rattle.block_pricers.proofs.FormLemmas.{all_more}
use Rattle.block_pricers.specs.declared.pricers.GraphRoom.{GraphRoom}
use Rattle.block_pricers.specs.declared.desk.Desk.{Desk}

-- where no graph may pass a limit, none was declined, and beginnings and what may still be spent are together no fewer arcs than may be spent
pub record IsSpending (room : GraphRoom) (desks : List Desk) : Type 0 where
  pub declined : All IsNear desks → room.declined ≡ 2
  pub arcs : All IsNear desks → most_graph_arcs ≤ room.arcs + sum_by begun_at desks

sum_more : (desks : List Desk) (desk : Desk) → sum_by begun_at (desks ++ (desk ∷ [])) ≡ sum_by begun_at desks + begun_at desk
sum_more desks desk = omega (arith, sum_by-append begun_at desks (desk ∷ []), sum_by-cons begun_at desk [])

before_all : (P : Desk → Type 0) (desks : List Desk) (desk : Desk) → All P (desks ++ (desk ∷ [])) → All P desks × P desk
before_all P desks desk all = let h = by desks (recursion_from_All P (desks ++ (desk ∷ [])) all) in (All-from_recursion P desks h.0, h.1)
  where
    by : (ds : List Desk) → AllByRecursion P (ds ++ (desk ∷ [])) → AllByRecursion P ds × P desk
    by [] h = (tt, h.0)
    by (d ∷ ds) h = let r = by ds h.1 in ((h.0, r.0), r.1)

-- a loop's step: one desk more
pub spending_more : (room now : GraphRoom) (desks more : List Desk) (desk : Desk) → more ≡ desks ++ (desk ∷ [])
    → HasSpent room (form_of desk).rows (form_of desk).spans now → IsSpending room desks → IsSpending now more
spending_more room now desks more desk pushed spent h = subst (IsSpending now) (sym pushed) (record {
  declined = λ near. let n = before_all IsNear desks desk near in same n.1 spent.declined ∙ h.declined n.0;
  arcs = λ near. let n = before_all IsNear desks desk near in omega (arith, h.arcs n.0, spent.arcs, sum_more desks desk);
})
  where
    same : IsNear desk → (now.declined ≡ room.declined) ⊎ IsBeyond (form_of desk).rows (form_of desk).spans → now.declined ≡ room.declined
    same near (inl e) = e
    same near (inr beyond) = absurd (near beyond)

pub graphs_more : (room : GraphRoom) (desks more : List Desk) (desk : Desk) → more ≡ desks ++ (desk ∷ [])
    → (IsTrue (is_search desk.pricer) → IsUngraphed room (form_of desk).rows (form_of desk).spans) → IsSpending room desks → HaveGraphs desks → HaveGraphs more
graphs_more room desks more desk pushed search s h = subst HaveGraphs (sym pushed) (λ near few.
    let n = before_all IsNear desks desk near in
    let fewer : sum_by begun_at desks < most_graph_arcs = omega (arith, few, sum_more desks desk) in
    all_more IsGraphed desks desk (h n.0 fewer) (λ is. by (s.declined n.0) (s.arcs n.0) fewer n.1 (search is)))
  where
    by : room.declined ≡ 2 → most_graph_arcs ≤ room.arcs + sum_by begun_at desks → sum_by begun_at desks < most_graph_arcs → IsNear desk
        → IsUngraphed room (form_of desk).rows (form_of desk).spans → (form_of desk).rows ≡ []
    by two arcs few near (inl (inl none)) = absurd (omega (arith, none, arcs, few))
    by two arcs few near (inl (inr none)) = absurd (omega (arith, none, two))
    by two arcs few near (inr (inl bare)) = bare
    by two arcs few near (inr (inr beyond)) = absurd (near beyond)
