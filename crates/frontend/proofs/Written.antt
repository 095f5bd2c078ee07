-- What is right of files and of texts for a run that writes one file.
use Rattle.std.proofs.Common.{◌≡◌, ℕ, List, [], Option, Some, None, Result, Ok, Err, IfErr, IsErrAnd, sym, subst}
use Rattle.bp_theory.specs.declared.Limits.{Limits}
use Rattle.bp_model.specs.Named.{NamedProgram}
use Rattle.bp_shelf.specs.declared.shelf.ShelfFault.TheVariants.{Missing, Failed, NoMemory}
use Rattle.lp_semantics.specs.Reading as lp_text
use Rattle.lp_semantics.specs.Model.{Means}
use Rattle.lp_read.proofs.Readings as lp_laws
use Rattle.frontend.specs.Front.{HasModel, HasLpFault}
use Rattle.frontend.specs.Halts.{LpHalts}
use Rattle.frontend.specs.Written.{Answer, stops, IsHalt, IsTextHalt}
use Rattle.frontend.specs.declared.front.Halt.{Halt}
use Rattle.frontend.specs.declared.front.Halt.TheVariants.{Refused, Stopped}
use Rattle.frontend.proofs.Unique.{one_program}

-- right answers have one status
abbrev pub HasOneStatus : (Answer → Type 0) → Type 0
HasOneStatus Right = (a b : Answer) → Right a → Right b → a.status ≡ b.status

-- ---- a model's file

-- what a model's file comes to, where there is no model
lp_halted : (limits : Limits) (Right : Answer → Type 0) (file : Option (List ℕ)) (halt : Halt) → (file ≡ None → Right (stops 11 [])) → ((report : List ℕ) → HasLpFault limits file report → Right (stops 3 report))
    → LpHalts limits file halt → IsHalt Right halt
lp_halted limits Right file (Refused report) missing faulty h = faulty report.items h
lp_halted limits Right file (Stopped Missing) missing faulty h = missing h
lp_halted limits Right file (Stopped Failed) missing faulty h = tt
lp_halted limits Right file (Stopped NoMemory) missing faulty h = tt

pub lp_halts : {T : Type 0} (limits : Limits) (Right : Answer → Type 0) (file : Option (List ℕ)) (halt : Halt) (r : Result T Halt) → (file ≡ None → Right (stops 11 []))
    → ((report : List ℕ) → HasLpFault limits file report → Right (stops 3 report)) → IsErrAnd r (λ e. e ≡ halt) → LpHalts limits file halt → IfErr r (IsHalt Right)
lp_halts limits Right file halt (Ok x) missing faulty is h = tt
lp_halts limits Right file halt (Err e) missing faulty is h = subst (λ (s : Halt). IsHalt Right s) (sym is) (lp_halted limits Right file halt missing faulty h)

-- a text that is refused, behind which nothing was done
pub text_halts : {T : Type 0} (Right : Answer → Type 0) (halt : Halt) (r : Result T Halt) → IsErrAnd r (λ e. e ≡ halt) → IsTextHalt Right halt → IfErr r (IsTextHalt Right)
text_halts Right halt (Ok x) is h = tt
text_halts Right halt (Err e) is h = subst (λ (s : Halt). IsTextHalt Right s) (sym is) h

-- a file holds one text
pub one_text : (file : Option (List ℕ)) (t u : List ℕ) → file ≡ Some t → file ≡ Some u → t ≡ u
one_text file t u a b = cc

pub no_text : (file : Option (List ℕ)) (t : List ℕ) → file ≡ None → file ≡ Some t → ⊥
no_text file t a b = absurd (cc)

-- a model's file comes to one program, or to a fault
pub one_model : (limits : Limits) (file : Option (List ℕ)) (m n : NamedProgram) → HasModel limits file m → HasModel limits file n → m ≡ n
one_model limits file m n h g = one_program limits h.text m n h.means (subst (λ (t : List ℕ). Means limits t n) (one_text file g.text h.text g.there h.there) g.means)

pub model_or_fault : (limits : Limits) (file : Option (List ℕ)) (m : NamedProgram) (report : List ℕ) → HasModel limits file m → HasLpFault limits file report → ⊥
model_or_fault limits file m report h g =
    lp_laws.model_or_fault limits h.text h.means.0 g.line g.kind h.means.1 (subst (λ (t : List ℕ). lp_text.HasLpTextFault limits t g.line g.kind) (one_text file g.text h.text g.there h.there) g.fault)
