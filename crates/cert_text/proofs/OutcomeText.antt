-- The text of a search's outcome.
use Rattle.std.proofs.Common.{◌≡◌, sym, ap, subst, ℕ, ◌<◌, ◌^◌, Bool, true, false, List, [], ◌∷◌, ◌++◌, map, length, get_or, Some, None, arith}
use Rattle.std.proofs.Math.IntN.{ℤ}
use Rattle.std.specs.Prelude.{IfSome, unsigned_abs, unwrap_or, All}
use Rattle.std.specs.Option.{option_map}
use Rattle.std.proofs.lemmas.Int.{ints}
use Rattle.std.specs.List.{AllByRecursion}
use Rattle.std.proofs.lemmas.List.Elements.{All-from_recursion, recursion_from_All}
use Rattle.bp_theory.specs.Program.{Program, in_sense}
use Rattle.bp_theory.specs.Bound.{Fits}
use Rattle.bp_theory.specs.Blocking.{Blocking}
use Rattle.bp_theory.specs.Trees.{Tree, Leaf, leaves}
use Rattle.bp_theory.specs.Decomposition.{Decomposition, ProofRow, whole_row, link_row, no_row, proof_rows}
use Rattle.bp_theory.specs.Cuts.{CombinesWell, cut_row, AreFitting}
use Rattle.bp_theory.specs.Judgement.{named_value}
use Rattle.bp_theory.specs.declared.Span.{Span}
use Rattle.bp_theory.specs.declared.Row.{Row}
use Rattle.bp_theory.specs.declared.Cut.{Cut}
use Rattle.bp_theory.specs.declared.Claim.{Claim}
use Rattle.block_program.specs.Blocked.{BlockedProgram, IsFormed}
use Rattle.block_program.specs.Cuts.{IsSmallCut}
use Rattle.search_laws.specs.Grove.{GrowingTree, certificate_tree}
use Rattle.search_laws.specs.GroveFacts.{IsGrove}
use Rattle.search_laws.specs.Outcomes.{read_off}
use Rattle.search_laws.proofs.OutcomeProof.{of_leaves}
use Rattle.branch_tree.specs.declared.outcome.Outcome.{Outcome}
use Rattle.branch_tree.specs.declared.outcome.Outcome.TheVariants.{Optimal, Infeasible, Budget}
use Rattle.cert_format.specs.Cert as texts
use Rattle.cert_format.specs.Text.{Version}
use Rattle.cert_format.specs.Fault.{IsText}
use Rattle.cert_format.specs.Written.{written_cut, written_tree, cert_of, certificate}
use Rattle.cert_format.specs.Plain.{version_with, plain_text}
use Rattle.cert_text.specs.Programs.{frame_for, IsWhole, AreOver, IsSmall, IsSmallClaim, IsSmallPoint, CanWrite}
use Rattle.cert_text.specs.Outcomes.{grove_of, claim_of, point_of, HasSmallNumbers, IsWritable}
use Rattle.cert_format.proofs.PlainProof.{same_claim}
use Rattle.cert_write.specs.Changes.{changing_nodes}
use Rattle.cert_text.proofs.WritesProof.{has_text, has_changed_text}

small_sense : (m : Bool) (z : ℤ) → unsigned_abs z < 2 ^ 62 → IsSmall (in_sense m z)
small_sense true z h = grind (arith, ints)
small_sense false z h = h

small_numbers : (m : Bool) (o : Outcome) → HasSmallNumbers o → IsSmallClaim (claim_of m o)
small_numbers m (Optimal grove point cost) h = small_sense m cost h
small_numbers m (Infeasible grove) h = tt
small_numbers m (Budget grove None bound) h = small_sense m bound h.0
small_numbers m (Budget grove (Some e) bound) h = (small_sense m bound h.0, small_sense m e.1 h.1)

small_point : (m : Bool) (o : Outcome) (n : ℕ) → IfSome (point_of o) (IsSmallPoint n)
    → IfSome (option_map (λ _. unwrap_or (point_of o) []) (named_value (claim_of m o))) (IsSmallPoint n)
small_point m (Optimal grove point cost) n h = h
small_point m (Infeasible grove) n h = tt
small_point m (Budget grove None bound) n h = tt
small_point m (Budget grove (Some e) bound) n h = h

-- a row that cuts combine with a fitting sign is a master row or a cut
combines_whole : (row : ProofRow) (u : ℤ) → CombinesWell row u → IsWhole row
combines_whole (whole_row row) u h = tt
combines_whole (link_row v k) u h = h
combines_whole no_row u h = h

all_whole : (rows : List ProofRow) (ms : List (ℕ × ℤ)) → AllByRecursion (λ m. CombinesWell (get_or rows m.0 no_row) m.1) ms → AllByRecursion (λ m. IsWhole (get_or rows m.0 no_row)) ms
all_whole rows [] h = tt
all_whole rows (m ∷ ms) h = (combines_whole (get_or rows m.0 no_row) m.1 h.0, all_whole rows ms h.1)

-- the cuts of a program are cuts over the rows before them
kept_over : (p : Program) (d : Decomposition) (earlier : List Row) (cuts : List Cut) → AllByRecursion IsSmallCut cuts → AreFitting p d earlier cuts → AreOver p d earlier cuts
kept_over p d earlier [] small fitting = tt
kept_over p d earlier (cut ∷ cuts) small fitting =
    let rows : List ProofRow = proof_rows p d earlier in (
      record {
        divides = fitting.0.divides;
        small = small.0;
        whole = All-from_recursion (λ (m : ℕ × ℤ). IsWhole (get_or rows m.0 no_row)) cut.rows
            (all_whole rows cut.rows (recursion_from_All (λ (m : ℕ × ℤ). CombinesWell (get_or rows m.0 no_row) m.1) cut.rows fitting.0.combines));
      },
      kept_over p d (earlier ++ cut_row p rows cut ∷ []) cuts small.1 fitting.1,
    )

can_write : (b : BlockedProgram) → IsFormed b → (o : Outcome) → IsWritable b o
    → CanWrite b (certificate (claim_of b.named.program.maximises o) (unwrap_or (point_of o) []) b.cuts (certificate_tree (grove_of o).tree))
can_write b formed o writable =
    let t : GrowingTree = (grove_of o).tree in
    let kept : IsGrove b.blocking b.named.program.spans t = subst (λ (zone : List Span). IsGrove b.blocking zone t) writable.grove.root writable.grove.kept in
    let fits = of_leaves (λ (leaf : Leaf). Fits b.blocking leaf.proof) t b.named.program.spans (λ k d l. (kept.leaves k d l).sound.fits) in
    record {
      claim = small_numbers b.named.program.maximises o writable.numbers;
      point = small_point b.named.program.maximises o (length b.named.program.spans) writable.point;
      few = formed.cuts_kept.few;
      cuts = kept_over b.named.program b.dec [] b.cuts (recursion_from_All IsSmallCut b.cuts formed.cuts_kept.small) formed.cuts_kept.fitting;
      splits = kept.splits;
      fits = subst (λ (x : Blocking). All (λ (leaf : Leaf). Fits x leaf.proof) (leaves (certificate_tree t) b.named.program.spans)) formed.blocking fits;
      shallow = writable.shallow;
    }

-- what is written of an outcome is the text of its certificate
pub outcome_text : (b : BlockedProgram) → IsFormed b → (o : Outcome) (text : List ℕ) → IsWritable b o
    → text ≡ plain_text (version_with b.cuts) (claim_of b.named.program.maximises o) (unwrap_or (point_of o) []) b.cuts (changing_nodes [] (certificate_tree (grove_of o).tree))
    → IsText (frame_for b) (version_with b.cuts) (cert_of (read_off (claim_of b.named.program.maximises o) (point_of o) b.cuts (grove_of o).tree)) text
outcome_text b formed o text writable is =
    let k : Claim = claim_of b.named.program.maximises o in
    let zs : List ℤ = unwrap_or (point_of o) [] in
    let t : Tree = certificate_tree (grove_of o).tree in
    let v : Version = version_with b.cuts in
    let same : cert_of (certificate k zs b.cuts t) ≡ cert_of (read_off k (point_of o) b.cuts (grove_of o).tree) =
    ap (λ (c : texts.Claim). record { claim = c; cuts = map written_cut b.cuts; tree = written_tree t }) (same_claim k zs) in
    let new = has_changed_text (frame_for b) k zs b.cuts t (has_text b formed k zs b.cuts t (can_write b formed o writable)) in
    subst (λ (s : List ℕ). IsText (frame_for b) v (cert_of (read_off k (point_of o) b.cuts (grove_of o).tree)) s) (sym is)
    (subst (λ (c : texts.Cert). IsText (frame_for b) v c (plain_text v k zs b.cuts (changing_nodes [] t))) same new)
