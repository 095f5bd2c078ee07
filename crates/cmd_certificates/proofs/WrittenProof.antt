-- The merged certificate of two loaded trees.
use Rattle.std.proofs.Common.{◌≡◌, refl, sym, ap, subst, ◌∙◌, ℕ, ◌+◌, ◌<◌, ◌^◌, List, Option, Some, None, arith}
use Rattle.std.proofs.Math.IntN.{ℤ}
use Rattle.bp_theory.specs.Trees.{steps}
use Rattle.bp_theory.specs.declared.Cut.{Cut}
use Rattle.block_program.specs.Blocked.{BlockedProgram, IsFormed}
use Rattle.cert_load.specs.Recut.{with_cuts}
use Rattle.search_laws.specs.Grove.{GrowingTree, certificate_tree}
use Rattle.search_laws.specs.GroveFacts.{IsSearch}
use Rattle.branch_tree.specs.Groves.{GroveState}
use Rattle.branch_tree.specs.Adopted.{point_in, IsSearchState}
use Rattle.branch_tree.specs.declared.loaded.Loaded.{Loaded}
use Rattle.branch_tree.specs.declared.outcome.Outcome.{Outcome}
use Rattle.tree_merge.specs.Merges.{IsMergedOf}
use Rattle.bp_search.specs.Ends.{EndsWithin, HasStopped, grove_in, point_of}
use Rattle.bp_search.specs.Searches.{kept_point, as_pair, HasItsCost, IsRunning}
use Rattle.bp_search.specs.declared.kept.Kept.{Kept}
use Rattle.bp_theory.specs.Program.{Program, cost}
use Rattle.cert_format.specs.Plain.{version_with}
use Rattle.cert_format.specs.Fault.{IsText}
use Rattle.cert_format.specs.Written.{cert_of}
use Rattle.cert_text.specs.Programs.{frame_for}
use Rattle.cert_report.specs.Certificates.{merged_report}
use Rattle.search_outcome.specs.Outcomes.{outcome_certificate}
use Rattle.search_outcome.proofs.Outcomes.{outcome_certified}
use Rattle.frontend.specs.Written.{draft_answer}
use Rattle.cmd_certificates.specs.Opens.{IsOpened}
use Rattle.cmd_certificates.specs.Merges.{AnswersBoth}
use Rattle.frontend.specs.declared.draft.Draft.{Draft}
use Rattle.cmd_certificates.proofs.ClaimProof.{merged_claim}

-- a kept point is that of the pair that it is kept of
kept_is : (best : Option (List ℤ × ℤ)) (kept : Option Kept) → as_pair kept ≡ best → kept_point kept ≡ point_in best
kept_is best None is = ap point_in is
kept_is best (Some k) is = ap point_in is

kept_costs : (p : Program) (kept : Option Kept) (best : Option (List ℤ × ℤ)) → as_pair kept ≡ best → (b : BlockedProgram) (g : GroveState) → b.named.program ≡ p → IsSearchState b g best
    → HasItsCost p kept
kept_costs p None best is b g same state = tt
kept_costs p (Some k) best is b g same state =
    let here : IsSearchState b g (Some (k.point, k.cost)) = subst (λ (o : Option (List ℤ × ℤ)). IsSearchState b g o) (sym is) state in
    here.costs ∙ ap (λ (q : Program). cost q k.point) same

-- a search may be concluded that has a loaded tree
pub running : (b : BlockedProgram) (g : GroveState) (best : Option (List ℤ × ℤ)) (kept : Option Kept) → IsSearchState b g best → as_pair kept ≡ best → IsRunning b g kept
running b g best kept state is = record {
  standing = state.standing;
  root = state.root;
  search = subst (λ (x : Option (List ℤ)). IsSearch b.named.program b.blocking g.tree x) (sym (kept_is best kept is)) state.search;
  costs = kept_costs b.named.program kept best is b g refl state;
}

-- it ends within its own steps
own_steps : (t : GrowingTree) → HasStopped (steps (certificate_tree t)) t
own_steps t = record { few = omega arith; spent = λ some. refl }

pub few_together : (m n : ℕ) → m < 2 ^ 61 → n < 2 ^ 61 → m + n < 2 ^ 62
few_together m n h g = omega (arith, h, g)

pub both_answered : (b : BlockedProgram) (cuts : List Cut) (text more : List ℕ) (first second from : Loaded) (kept : Option Kept) (o : Outcome) (m : Draft) → IsFormed b
    → (one : IsOpened b text first) → (other : IsOpened b more second) → IsMergedOf first second from → as_pair kept ≡ from.best
    → ((most : ℕ) → HasStopped most from.grove.tree → EndsWithin (with_cuts b cuts) most o) → grove_in o ≡ from.grove → point_of o ≡ kept_point kept
    → IsText (frame_for (with_cuts b cuts)) (version_with cuts) (cert_of (outcome_certificate (with_cuts b cuts) o)) m.text.items
    → m.reply.report.items ≡ merged_report b.named.program.maximises o → m.reply.status ≡ 0
    → AnswersBoth (with_cuts b cuts) one.cert other.cert first second (draft_answer m)
both_answered b cuts text more first second from kept o m formed one other is kept_of ended grove point spelled told done =
    let t : GrowingTree = from.grove.tree in
    let ends : EndsWithin (with_cuts b cuts) (steps (certificate_tree t)) o = ended (steps (certificate_tree t)) (own_steps t) in
    record {
      from = from;
      merged = is;
      outcome = o;
      grove = grove;
      ended = ends;
      claim = merged_claim b cuts (steps (certificate_tree t)) text more first second from o formed one other is ends grove (point ∙ kept_is from.best kept kept_of);
      text = m.text.items;
      spelled = record { spelled = spelled; valid = outcome_certified (with_cuts b cuts) (steps (certificate_tree t)) o ends };
      is = rw (done, told) refl;
    }
