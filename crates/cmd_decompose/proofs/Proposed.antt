-- What is proposed is an answer, and files have answers of one status.
use Rattle.std.proofs.Common.{◌≡◌, ◌∙◌, ◌⊎◌, inl, inr, ℕ, List, Some, refl, sym, ap, subst, arith, length}
use Rattle.bp_theory.specs.declared.Limits.{Limits}
use Rattle.bp_theory.specs.Decomposition.{Decomposition}
use Rattle.bp_theory.specs.Program.{Program}
use Rattle.bp_model.specs.Named.{NamedProgram, IsKept}
use Rattle.bp_model.specs.Dec.{HasListed}
use Rattle.bp_shelf.specs.Shelf.{Files}
use Rattle.dec_read.specs.Reading.{ReadsDecomposition}
use Rattle.dec_write.specs.Text.{text_of}
use Rattle.dec_components.proofs.FoundLemmas.{found_accepted}
use Rattle.dec_find.specs.Guess.{IsGuess}
use Rattle.block_program.specs.Blocked.{BlockedProgram}
use Rattle.block_form.specs.Checks.{HasBlockFault}
use Rattle.block_form.specs.declared.fault.BlockFault.{BlockFault}
use Rattle.block_form.specs.declared.fault.BlockFault.TheVariants.{VarPlace, Links, NoMemory}
use Rattle.block_class.specs.Classes.{Grouping, AreSameClasses}
use Rattle.bp_report.specs.Report.{proposed_report}
use Rattle.frontend.specs.Front.{BlocksCome, blocked}
use Rattle.frontend.specs.Written.{Answer}
use Rattle.frontend.proofs.Written.{no_text, model_or_fault, HasOneStatus}
use Rattle.cmd_decompose.specs.Proposes.{IsReported, ModelProposes, proposed, Proposes, missing_lp, faulty_lp, with_model}

-- nothing is listed, so all that is listed is there
pub none_listed : (p : Program) (d : Decomposition) → IsGuess p d → HasListed p d
none_listed p d guess = λ k e l. absurd (omega (arith, l, ap length guess.1.unlisted))

no_place : (v : ℕ) → ◌≡◌ {A = BlockFault} (VarPlace v) NoMemory → ⊥
no_place v e = cc

no_links : ◌≡◌ {A = BlockFault} Links NoMemory → ⊥
no_links e = cc

-- the blocks beside master rows are refused for no variable and no links
pub never_refused : (m : NamedProgram) (d : Decomposition) (fault : BlockFault) → IsKept m → IsGuess m.program d → HasBlockFault m.program d fault
    → ((v : ℕ) × (fault ≡ VarPlace v)) ⊎ (fault ≡ Links) → ⊥
never_refused m d fault kept guess h (inl is) = no_place is.0 (sym is.1 ∙ found_accepted m guess.0 d fault kept guess.1 h)
never_refused m d fault kept guess h (inr is) = no_links (sym is ∙ found_accepted m guess.0 d fault kept guess.1 h)

proposes_as : (m : NamedProgram) (r report x text : List ℕ) → report ≡ r → text ≡ x
    → ModelProposes m (record { status = 0; report = r; text = Some x }) → ModelProposes m (record { status = 0; report = report; text = Some text })
proposes_as m r report x text a b come = rw (a, b) come

-- a decomposition with its text, its program in blocks and the report on it
pub model_proposes : (m : NamedProgram) (d : Decomposition) (b : BlockedProgram) (g : Grouping) (text report : List ℕ) → IsGuess m.program d → ReadsDecomposition text m d → text ≡ text_of m d
    → BlocksCome m d (blocked b) → AreSameClasses b.named.program.spans b.blocking g → report ≡ proposed_report b g
    → ModelProposes m (record { status = 0; report = report; text = Some text })
model_proposes m d b g text report guess reads is come classes printed =
    proposes_as m (proposed_report b g) report (text_of m d) text printed is
    (proposed d b g (record { guess = guess; read_back = subst (λ (t : List ℕ). ReadsDecomposition t m d) is reads; accepted = come; classes = classes }))

-- the same by what is said of its report
pub reported_proposes : (m : NamedProgram) (d : Decomposition) (text report : List ℕ) → IsGuess m.program d → ReadsDecomposition text m d → text ≡ text_of m d → IsReported m d report
    → ModelProposes m (record { status = 0; report = report; text = Some text })
reported_proposes m d text report guess reads is come =
    model_proposes m d come.formed come.told.root text report guess reads is come.accepted come.told.classes come.told.printed

-- a program's answers have the status of success
all_done : (m : NamedProgram) (a : Answer) → ModelProposes m a → a.status ≡ 0
all_done m a (proposed d b g is) = refl

-- the files are answered by one status
pub one_answer : (limits : Limits) (files : Files) (lp : List ℕ) → HasOneStatus (Proposes limits files lp)
one_answer limits files lp a b (missing_lp x) (missing_lp y) = refl
one_answer limits files lp a b (missing_lp x) (faulty_lp report h) = absurd (no_text (files lp) h.text x h.there)
one_answer limits files lp a b (missing_lp x) (with_model m b' h come) = absurd (no_text (files lp) h.text x h.there)
one_answer limits files lp a b (faulty_lp report h) (missing_lp y) = absurd (no_text (files lp) h.text y h.there)
one_answer limits files lp a b (faulty_lp report h) (faulty_lp report' g) = refl
one_answer limits files lp a b (faulty_lp report h) (with_model m b' g come) = absurd (model_or_fault limits (files lp) m report g h)
one_answer limits files lp a b (with_model m a' h come) (missing_lp y) = absurd (no_text (files lp) h.text y h.there)
one_answer limits files lp a b (with_model m a' h come) (faulty_lp report g) = absurd (model_or_fault limits (files lp) m report h g)
one_answer limits files lp a b (with_model m a' h come) (with_model n b' g come') = all_done m a' come ∙ sym (all_done n b' come')
