-- What single files come to is what all files come to.
use Rattle.std.proofs.Common.{◌≡◌, ◌<◌, ℕ, List, Option, Some, None, Result, Ok, Err, IfOk, IfErr, IsErrAnd, length, sym, subst}
use Rattle.std.proofs.lemmas.List.Elements.{All-get_or}
use Rattle.bp_theory.specs.declared.Limits.{Limits}
use Rattle.bp_theory.specs.Decomposition.{Decomposition, IsPlace}
use Rattle.bp_model.specs.Named.{NamedProgram}
use Rattle.bp_model.specs.Dec.{HasListed}
use Rattle.bp_shelf.specs.Shelf.{Files}
use Rattle.bp_shelf.specs.declared.shelf.ShelfFault.TheVariants as shelf
use Rattle.block_program.specs.Blocked.{BlockedProgram}
use Rattle.block_form.specs.Checks.{HasBlockFault}
use Rattle.block_form.specs.declared.fault.BlockFault.{BlockFault}
use Rattle.block_form.specs.declared.fault.BlockFault.TheVariants.{VarPlace, Links, NoMemory}
use Rattle.lp_semantics.specs.Model.{Means}
use Rattle.dec_read.specs.Reading.{ReadsDecomposition}
use Rattle.bp_report.specs.Refusals.{dec_refusal, HasNamed}
use Rattle.frontend.specs.Front.{Front, blocked, ends, BlocksCome, TextsCome, plain, missing, faulty, read, FilesCome, missing_lp, faulty_lp, read_lp, HasModel, HasDec}
use Rattle.frontend.specs.Halts.{ComesToHalt, TextsHalt, LpHalts, DecHalts, IsLpHalt, IsDecHalt, IsBlocksHalt}
use Rattle.frontend.specs.declared.front.Halt.{Halt}
use Rattle.frontend.specs.declared.front.Halt.TheVariants.{Refused, Stopped}

lp_comes : (limits : Limits) (files : Files) (lp : List ℕ) (dec : Option (List ℕ)) (halt : Halt) → LpHalts limits (files lp) halt → ComesToHalt limits files lp dec halt
lp_comes limits files lp dec (Refused report) h =
    subst (λ (r : List ℕ). FilesCome limits files lp dec (ends 3 r)) (sym h.printed) (faulty_lp h.text h.line h.kind h.there h.fault)
lp_comes limits files lp dec (Stopped shelf.Missing) h = missing_lp h
lp_comes limits files lp dec (Stopped shelf.Failed) h = tt
lp_comes limits files lp dec (Stopped shelf.NoMemory) h = tt

-- a model's file that halts a run
pub model_halted : {T : Type 0} (limits : Limits) (files : Files) (lp : List ℕ) (dec : Option (List ℕ)) (halt : Halt) (r : Result T Halt) → IsErrAnd r (λ e. e ≡ halt)
    → LpHalts limits (files lp) halt → IfErr r (ComesToHalt limits files lp dec)
model_halted limits files lp dec halt (Ok b) is h = tt
model_halted limits files lp dec halt (Err e) is h = subst (λ (s : Halt). ComesToHalt limits files lp dec s) (sym is) (lp_comes limits files lp dec halt h)

dec_comes : (limits : Limits) (files : Files) (lp : List ℕ) (dec : Option (List ℕ)) (m : NamedProgram) (halt : Halt) → HasModel limits (files lp) m → DecHalts files m dec halt
    → ComesToHalt limits files lp dec halt
dec_comes limits files lp None m (Refused report) model h = absurd h
dec_comes limits files lp (Some name) m (Refused report) model h =
    subst (λ (r : List ℕ). FilesCome limits files lp (Some name) (ends 3 r)) (sym h.5)
    (read_lp model.text m (ends 3 (dec_refusal h.1 h.2)) model.there model.means (faulty name h.0 h.1 h.2 h.3 h.4))
dec_comes limits files lp None m (Stopped shelf.Missing) model h = absurd h
dec_comes limits files lp (Some name) m (Stopped shelf.Missing) model h = read_lp model.text m (ends 11 _) model.there model.means (missing name h)
dec_comes limits files lp dec m (Stopped shelf.Failed) model h = tt
dec_comes limits files lp dec m (Stopped shelf.NoMemory) model h = tt

-- the file of a decomposition that halts a run
pub dec_halted : {T : Type 0} (limits : Limits) (files : Files) (lp : List ℕ) (dec : Option (List ℕ)) (m : NamedProgram) (halt : Halt) (r : Result T Halt) → IsErrAnd r (λ e. e ≡ halt)
    → HasModel limits (files lp) m → DecHalts files m dec halt → IfErr r (ComesToHalt limits files lp dec)
dec_halted limits files lp dec m halt (Ok b) is model h = tt
dec_halted limits files lp dec m halt (Err e) is model h = subst (λ (s : Halt). ComesToHalt limits files lp dec s) (sym is) (dec_comes limits files lp dec m halt model h)

-- what a decomposition's blocks come to
both_come : (limits : Limits) (files : Files) (lp : List ℕ) (dec : Option (List ℕ)) (m : NamedProgram) (d : Decomposition) (f : Front) → HasModel limits (files lp) m
    → HasDec files m dec d → BlocksCome m d f → FilesCome limits files lp dec f
both_come limits files lp None m d f model is come =
    read_lp model.text m f model.there model.means (plain f (subst (λ (e : Decomposition). BlocksCome m e f) is come))
both_come limits files lp (Some name) m d f model is come =
    read_lp model.text m f model.there model.means (read name is.0 d f is.1 is.2 come)

pub blocks_come : {T : Type 0} (limits : Limits) (files : Files) (lp : List ℕ) (dec : Option (List ℕ)) (m : NamedProgram) (d : Decomposition) (r : Result BlockedProgram T)
    → HasModel limits (files lp) m → HasDec files m dec d → IfOk r (λ b. BlocksCome m d (blocked b)) → IfOk r (λ b. FilesCome limits files lp dec (blocked b))
blocks_come limits files lp dec m d (Ok b) model is come = both_come limits files lp dec m d (blocked b) model is come
blocks_come limits files lp dec m d (Err e) model is come = tt

pub blocks_halted : {T : Type 0} (limits : Limits) (files : Files) (lp : List ℕ) (dec : Option (List ℕ)) (m : NamedProgram) (d : Decomposition) (r : Result T Halt)
    → HasModel limits (files lp) m → HasDec files m dec d → IfErr r (IsBlocksHalt m d) → IfErr r (ComesToHalt limits files lp dec)
blocks_halted limits files lp dec m d (Ok b) model is halts = tt
blocks_halted limits files lp dec m d (Err (Refused report)) model is halts = both_come limits files lp dec m d (ends 3 report.items) model is halts
blocks_halted limits files lp dec m d (Err (Stopped shelf.NoMemory)) model is halts = tt
blocks_halted limits files lp dec m d (Err (Stopped shelf.Missing)) model is halts = absurd (cc)
blocks_halted limits files lp dec m d (Err (Stopped shelf.Failed)) model is halts = tt

-- the variable that a fault names is there
pub fault_named : (m : NamedProgram) (d : Decomposition) (fault : BlockFault) → HasListed m.program d → HasBlockFault m.program d fault → HasNamed m fault
fault_named m d (VarPlace v) listed has =
    let none : ℕ × Option ℕ = (0, None) in
    let there = All-get_or (λ (e : ℕ × Option ℕ). (e.0 < length m.program.spans) × IsPlace d.blocks e.1) d.listed has.place none has.there listed in
    subst (λ (n : ℕ). n < length m.program.spans) (has.var none) there.0
fault_named m d Links listed has = tt
fault_named m d NoMemory listed has = tt

-- ---- texts in whatever files

lp_text_comes : (limits : Limits) (lp dec : List ℕ) (halt : Halt) → IsLpHalt limits lp halt → TextsHalt limits lp dec halt
lp_text_comes limits lp dec (Refused report) h = λ files lp_file dec_file there also.
    subst (λ (r : List ℕ). FilesCome limits files lp_file (Some dec_file) (ends 3 r)) (sym h.3) (faulty_lp lp h.0 h.1 there h.2)
lp_text_comes limits lp dec (Stopped fault) h = h

-- a model's text that halts a run
pub model_text_halted : {T : Type 0} (limits : Limits) (lp dec : List ℕ) (halt : Halt) (r : Result T Halt) → IsErrAnd r (λ e. e ≡ halt) → IsLpHalt limits lp halt → IfErr r (TextsHalt limits lp dec)
model_text_halted limits lp dec halt (Ok b) is h = tt
model_text_halted limits lp dec halt (Err e) is h = subst (λ (s : Halt). TextsHalt limits lp dec s) (sym is) (lp_text_comes limits lp dec halt h)

dec_text_comes : (limits : Limits) (lp dec : List ℕ) (m : NamedProgram) (halt : Halt) → Means limits lp m → IsDecHalt dec m halt → TextsHalt limits lp dec halt
dec_text_comes limits lp dec m (Refused report) means h = λ files lp_file dec_file there also.
    subst (λ (r : List ℕ). FilesCome limits files lp_file (Some dec_file) (ends 3 r)) (sym h.3)
    (read_lp lp m (ends 3 (dec_refusal h.0 h.1)) there means (faulty dec_file dec h.0 h.1 also h.2))
dec_text_comes limits lp dec m (Stopped fault) means h = h

-- a decomposition's text that halts a run
pub dec_text_halted : {T : Type 0} (limits : Limits) (lp dec : List ℕ) (m : NamedProgram) (halt : Halt) (r : Result T Halt) → IsErrAnd r (λ e. e ≡ halt) → Means limits lp m → IsDecHalt dec m halt
    → IfErr r (TextsHalt limits lp dec)
dec_text_halted limits lp dec m halt (Ok b) is means h = tt
dec_text_halted limits lp dec m halt (Err e) is means h = subst (λ (s : Halt). TextsHalt limits lp dec s) (sym is) (dec_text_comes limits lp dec m halt means h)

text_comes : (limits : Limits) (lp dec : List ℕ) (m : NamedProgram) (d : Decomposition) (f : Front) → Means limits lp m → ReadsDecomposition dec m d → BlocksCome m d f → TextsCome limits lp dec f
text_comes limits lp dec m d f means reads come = λ files lp_file dec_file there also. read_lp lp m f there means (read dec_file dec d f also reads come)

-- what a decomposition's blocks come to
pub text_blocks_come : {T : Type 0} (limits : Limits) (lp dec : List ℕ) (m : NamedProgram) (d : Decomposition) (r : Result BlockedProgram T)
    → Means limits lp m → ReadsDecomposition dec m d → IfOk r (λ b. BlocksCome m d (blocked b)) → IfOk r (λ b. TextsCome limits lp dec (blocked b))
text_blocks_come limits lp dec m d (Ok b) means reads come = text_comes limits lp dec m d (blocked b) means reads come
text_blocks_come limits lp dec m d (Err e) means reads come = tt

pub text_blocks_halted : {T : Type 0} (limits : Limits) (lp dec : List ℕ) (m : NamedProgram) (d : Decomposition) (r : Result T Halt)
    → Means limits lp m → ReadsDecomposition dec m d → IfErr r (IsBlocksHalt m d) → IfErr r (TextsHalt limits lp dec)
text_blocks_halted limits lp dec m d (Ok b) means reads halts = tt
text_blocks_halted limits lp dec m d (Err (Refused report)) means reads halts = text_comes limits lp dec m d (ends 3 report.items) means reads halts
text_blocks_halted limits lp dec m d (Err (Stopped fault)) means reads halts = halts
