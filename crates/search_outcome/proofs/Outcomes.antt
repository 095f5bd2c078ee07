-- The certificate of a search's outcome is valid, and what is told of the outcome.
use Rattle.std.proofs.Common.{refl, sym, subst, inl, inr, ℕ, List, Option, Some, None, Result, Ok, Err}
use Rattle.std.specs.Prelude.{IsOk, IsErrOf}
use Rattle.std.proofs.lemmas.Bool.{true≢false}
use Rattle.std.proofs.Math.IntN.{ℤ}
use Rattle.bp_theory.specs.Program.{Program, in_sense}
use Rattle.bp_theory.specs.Claims.{IsCertified}
use Rattle.bp_theory.specs.declared.Claim.TheVariants as claim
use Rattle.block_program.specs.Blocked.{BlockedProgram}
use Rattle.branch_tree.specs.declared.outcome.Outcome.{Outcome}
use Rattle.branch_tree.specs.declared.outcome.Outcome.TheVariants.{Optimal, Infeasible, Budget}
use Rattle.bp_shelf.specs.Shelf.{Files}
use Rattle.cert_stream.specs.Streams.{HoldsCertificate, Streams}
use Rattle.cert_file.specs.declared.stop.StreamStop.{StreamStop}
use Rattle.cert_file.specs.declared.stop.StreamStop.TheVariants.{Failed, NoMemory}
use Rattle.bp_search.specs.Ends.{EndsWithin}
use Rattle.search_laws.specs.Outcomes.{read_off}
use Rattle.frontend.specs.declared.ending.Reply.{Reply}
use Rattle.search_outcome.specs.Outcomes.{outcome_certificate, IsSolved, TellsOf, IsSaved, IsPartOf, AsBeforeOr}

-- the certificate of an outcome of a search is valid
pub outcome_certified : (b : BlockedProgram) (most : ℕ) (o : Outcome) → EndsWithin b most o → IsCertified b.named.program b.dec (outcome_certificate b o)
outcome_certified b most (Optimal g point value) is =
    let p : Program = b.named.program in
    subst (λ (z : ℤ). IsCertified p b.dec (read_off (claim.Optimal (in_sense p.maximises z)) (Some point) b.cuts g.tree)) (sym is.is_cost) is.searched.certified
outcome_certified b most (Infeasible g) is = is.searched.certified
outcome_certified b most (Budget g None bound) is = is.searched.certified
outcome_certified b most (Budget g (Some kept) bound) is =
    let p : Program = b.named.program in
    subst (λ (z : ℤ). IsCertified p b.dec (read_off (claim.Bound (in_sense p.maximises bound) (Some (in_sense p.maximises z))) (Some kept.0) b.cuts g.tree)) (sym is.kept.1)
    is.searched.certified

-- the reply to an outcome is what is told of it
pub tells : (b : BlockedProgram) (told : Option ℕ) (o : Outcome) (reply : Reply) → IsSolved b told o reply → TellsOf b told o (Some o) reply.status reply.report.items
tells b told o reply solved = record { is_kept = refl; has_status = solved.ended; has_report = solved.told }

-- the certificate of an outcome of a search, once it is written whole, is saved
pub is_saved : (b : BlockedProgram) (most : ℕ) (o : Outcome) (name : List ℕ) (before now : Files) (r : Result (Unit {0}) StreamStop) → EndsWithin b most o
    → Streams b o name before now r → IsOk r → IsSaved b o (Some name) now
is_saved b most o name before now (Ok u) ends streams ok =
    let whole = streams.holds in
    (whole.0, whole.2, record { spelled = whole.1; valid = outcome_certified b most o ends })
is_saved b most o name before now (Err stop) ends streams ok = absurd (true≢false (sym ok))

-- what is written of it, where memory was wanting, is a beginning
pub is_part : (b : BlockedProgram) (most : ℕ) (o : Outcome) (name : List ℕ) (before now : Files) (r : Result (Unit {0}) StreamStop) → EndsWithin b most o
    → Streams b o name before now r → IsErrOf r NoMemory → AsBeforeOr (IsPartOf b o) (Some name) before now
is_part b most o name before now (Ok u) ends streams want = absurd (cc)
is_part b most o name before now (Err Failed) ends streams want = absurd (cc)
is_part b most o name before now (Err NoMemory) ends streams want = by streams.holds
  where
    by : HoldsCertificate b o name before now (Err NoMemory) → AsBeforeOr (IsPartOf b o) (Some name) before now
    by (inl same) = inl same
    by (inr part) = inr (part.0, part.1, part.3, record { spelled = part.2; valid = outcome_certified b most o ends })
