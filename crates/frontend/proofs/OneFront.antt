-- Files come to one program in blocks, or to ends of one status.
use Rattle.std.proofs.Common.{◌≡◌, ◌≢◌, ◌∙◌, refl, sym, ap, subst, ℕ, List, [], Option, Some, None, All, arith}
use Rattle.std.proofs.lemmas.List.Elements.{All-get_or}
use Rattle.bp_theory.specs.declared.Limits.{Limits}
use Rattle.bp_theory.specs.Program.{Program}
use Rattle.bp_theory.specs.Blocking.{Blocking}
use Rattle.bp_theory.specs.Decomposition.{Decomposition, IsMisplaced, HasLargeLinks, blocking_of}
use Rattle.bp_model.specs.Named.{NamedProgram}
use Rattle.bp_shelf.specs.Shelf.{Files}
use Rattle.lp_semantics.specs.Reading as lp_text
use Rattle.lp_semantics.specs.Model.{Means}
use Rattle.lp_read.proofs.Readings as lp_laws
use Rattle.dec_read.specs.Reading as dec_text
use Rattle.dec_syntax.specs.declared.kind.DecKind.{DecKind}
use Rattle.block_program.specs.Blocked.{BlockedProgram, IsFormed}
use Rattle.block_form.specs.Checks.{HasBlockFault}
use Rattle.block_program.proofs.PlainLemmas.{plain_blocking}
use Rattle.bp_theory.specs.declared.Cut.{Cut}
use Rattle.block_form.specs.declared.fault.BlockFault.{BlockFault}
use Rattle.block_form.specs.declared.fault.BlockFault.TheVariants.{VarPlace, Links, NoMemory}
use Rattle.frontend.specs.Front.{Front, blocked, ends, BlocksCome, formed, refused, DecComes, plain, missing, faulty, read, FilesCome, missing_lp, faulty_lp, read_lp}
use Rattle.frontend.proofs.Unique.{one_program}

-- two fronts are one program in blocks, or ends of one status
abbrev pub SameFront : Front → Front → Type 0
SameFront (blocked b) (blocked c) = b ≡ c
SameFront (blocked b) (ends t q) = ⊥
SameFront (ends s p) (blocked c) = ⊥
SameFront (ends s p) (ends t q) = s ≡ t

blocked_parts : (a b : NamedProgram) (c d : Decomposition) (i j : List Cut) (e f : Blocking) → a ≡ b → c ≡ d → i ≡ j → e ≡ f
    → (let x : BlockedProgram = record { named = a; dec = c; cuts = i; blocking = e } in x) ≡ (let x : BlockedProgram = record { named = b; dec = d; cuts = j; blocking = f } in x)
blocked_parts a b c d i j e f p q o r = rw (p, q, o, r) refl

-- a program in blocks without cuts is told by its program and its decomposition
one_blocked : (b c : BlockedProgram) → IsFormed b → IsFormed c → b.named ≡ c.named → b.dec ≡ c.dec → b.cuts ≡ [] → c.cuts ≡ [] → b ≡ c
one_blocked b c f g named decs uncut also =
    let blockings : blocking_of b.named.program b.dec [] ≡ blocking_of c.named.program c.dec [] =
    ap (λ (m : NamedProgram). blocking_of m.program b.dec []) named ∙ ap (λ (d : Decomposition). blocking_of c.named.program d []) decs in
    blocked_parts b.named c.named b.dec c.dec b.cuts c.cuts b.blocking c.blocking named decs (uncut ∙ sym also) (plain_blocking f uncut ∙ blockings ∙ sym (plain_blocking g also))

-- what has blocks is not refused
not_refused : (m : NamedProgram) (d : Decomposition) (b : BlockedProgram) (fault : BlockFault) → b.named ≡ m → b.dec ≡ d → IsFormed b
    → All (λ e. IsMisplaced m.program d e → ⊥) d.listed → fault ≢ NoMemory → HasBlockFault m.program d fault → ⊥
not_refused m d b (VarPlace v) named decs f placed known has =
    let none : ℕ × Option ℕ = (0, None) in
    All-get_or (λ (e : ℕ × Option ℕ). IsMisplaced m.program d e → ⊥) d.listed has.place none has.there placed (has.misplaced none)
not_refused m d b Links named decs f placed known has =
    f.moderate (subst (λ (p : Program). HasLargeLinks p b.dec) (sym (ap (λ (n : NamedProgram). n.program) named))
    (subst (λ (e : Decomposition). HasLargeLinks m.program e) (sym decs) has.1))
not_refused m d b NoMemory named decs f placed known has = known refl

one_in_blocks : (m : NamedProgram) (d : Decomposition) (f g : Front) → BlocksCome m d f → BlocksCome m d g → SameFront f g
one_in_blocks m d f g (formed b n e uncut is placed) (formed c n' e' also is' placed') = one_blocked b c is is' (n ∙ sym n') (e ∙ sym e') uncut also
one_in_blocks m d f g (formed b n e uncut is placed) (refused fault known has) = not_refused m d b fault n e is placed known has
one_in_blocks m d f g (refused fault known has) (formed b n e uncut is placed) = not_refused m d b fault n e is placed known has
one_in_blocks m d f g (refused fault known has) (refused fault' known' has') = refl

-- a file holds one text
one_text : (file : Option (List ℕ)) (t u : List ℕ) → file ≡ Some t → file ≡ Some u → t ≡ u
one_text file t u a b = cc

no_text : (file : Option (List ℕ)) (t : List ℕ) → file ≡ None → file ≡ Some t → ⊥
no_text file t a b = absurd (cc)

-- a text of a decomposition means one, or has a fault, and not both
one_meant : (text : List ℕ) (m : NamedProgram) (d e : Decomposition) → dec_text.ReadsDecomposition text m d → dec_text.ReadsDecomposition text m e → d ≡ e
one_meant text m d e a b = a.meant ∙ sym b.meant

decided : (text : List ℕ) (m : NamedProgram) (d : Decomposition) (line : ℕ) (kind : DecKind) → dec_text.ReadsDecomposition text m d → dec_text.HasDecTextFault text m line kind → ⊥
decided text m d line kind reads (dec_text.too_long long _ _) = let short = reads.short in omega arith
decided text m d line kind reads (dec_text.at_token _ i token _ fault _ _) = let none = reads.faultless i in absurd (cc)
decided text m d line kind reads (dec_text.at_end _ _ fault _) = let none = reads.ended in absurd (cc)

one_dec : (files : Files) (m : NamedProgram) (name : Option (List ℕ)) (f g : Front) → DecComes files m name f → DecComes files m name g → SameFront f g
one_dec files m name f g (plain _ a) (plain _ b) = one_in_blocks m _ f g a b
one_dec files m name f g (missing n a) (missing _ b) = refl
one_dec files m name f g (missing n a) (faulty _ text line kind b fault) = absurd (no_text (files n) text a b)
one_dec files m name f g (missing n a) (read _ text d _ b reads come) = absurd (no_text (files n) text a b)
one_dec files m name f g (faulty n text line kind a fault) (missing _ b) = absurd (no_text (files n) text b a)
one_dec files m name f g (faulty n text line kind a fault) (faulty _ text' line' kind' b fault') = refl
one_dec files m name f g (faulty n text line kind a fault) (read _ text' d _ b reads come) =
    absurd (decided text' m d line kind reads (subst (λ (t : List ℕ). dec_text.HasDecTextFault t m line kind) (one_text (files n) text text' a b) fault))
one_dec files m name f g (read n text d _ a reads come) (missing _ b) = absurd (no_text (files n) text b a)
one_dec files m name f g (read n text d _ a reads come) (faulty _ text' line kind b fault) =
    absurd (decided text m d line kind reads (subst (λ (t : List ℕ). dec_text.HasDecTextFault t m line kind) (one_text (files n) text' text b a) fault))
one_dec files m name f g (read n text d _ a reads come) (read _ text' d' _ b reads' come') =
    let same : text' ≡ text = one_text (files n) text' text b a in
    let decs : d' ≡ d = one_meant text m d' d (subst (λ (t : List ℕ). dec_text.ReadsDecomposition t m d') same reads') reads in
    one_in_blocks m d f g come (subst (λ (e : Decomposition). BlocksCome m e g) decs come')

-- files come to one front
pub one_front : (limits : Limits) (files : Files) (name : List ℕ) (d : Option (List ℕ)) (f g : Front) → FilesCome limits files name d f → FilesCome limits files name d g → SameFront f g
one_front limits files name d f g (missing_lp a) (missing_lp b) = refl
one_front limits files name d f g (missing_lp a) (faulty_lp text line kind b fault) = absurd (no_text (files name) text a b)
one_front limits files name d f g (missing_lp a) (read_lp text m _ b means come) = absurd (no_text (files name) text a b)
one_front limits files name d f g (faulty_lp text line kind a fault) (missing_lp b) = absurd (no_text (files name) text b a)
one_front limits files name d f g (faulty_lp text line kind a fault) (faulty_lp text' line' kind' b fault') = refl
one_front limits files name d f g (faulty_lp text line kind a fault) (read_lp text' m _ b means come) =
    absurd (lp_laws.model_or_fault limits text' means.0 line kind means.1 (subst (λ (t : List ℕ). lp_text.HasLpTextFault limits t line kind) (one_text (files name) text text' a b) fault))
one_front limits files name d f g (read_lp text m _ a means come) (missing_lp b) = absurd (no_text (files name) text b a)
one_front limits files name d f g (read_lp text m _ a means come) (faulty_lp text' line kind b fault) =
    absurd (lp_laws.model_or_fault limits text means.0 line kind means.1 (subst (λ (t : List ℕ). lp_text.HasLpTextFault limits t line kind) (one_text (files name) text' text b a) fault))
one_front limits files name d f g (read_lp text m _ a means come) (read_lp text' n _ b means' come') =
    let same : text' ≡ text = one_text (files name) text' text b a in
    let programs : n ≡ m = one_program limits text n m (subst (λ (t : List ℕ). Means limits t n) same means') means in
    one_dec files m d f g come (subst (λ (p : NamedProgram). DecComes files p d g) programs come')

-- a program in blocks that files come to is formed and has no cuts
abbrev pub IsPlainFront : Front → Type 0
IsPlainFront (blocked b) = IsFormed b × (b.cuts ≡ [])
IsPlainFront (ends status report) = Unit {0}

blocks_plain : (m : NamedProgram) (d : Decomposition) (f : Front) → BlocksCome m d f → IsPlainFront f
blocks_plain m d f (formed b n e uncut is placed) = (is, uncut)
blocks_plain m d f (refused fault known has) = tt

dec_plain : (files : Files) (m : NamedProgram) (name : Option (List ℕ)) (f : Front) → DecComes files m name f → IsPlainFront f
dec_plain files m name f (plain _ come) = blocks_plain m _ f come
dec_plain files m name f (missing n x) = tt
dec_plain files m name f (faulty n text line kind x fault) = tt
dec_plain files m name f (read n text d _ x reads come) = blocks_plain m d f come

pub plain_front : (limits : Limits) (files : Files) (lp : List ℕ) (dec : Option (List ℕ)) (f : Front) → FilesCome limits files lp dec f → IsPlainFront f
plain_front limits files lp dec f (missing_lp x) = tt
plain_front limits files lp dec f (faulty_lp text line kind x fault) = tt
plain_front limits files lp dec f (read_lp text m _ x means come) = dec_plain files m dec f come
