-- A program in blocks is told by its model, its decomposition and its cuts.
use Rattle.std.proofs.Common.{◌≡◌, ◌∙◌, refl, ap, List, []}
use Rattle.bp_theory.specs.Blocking.{Blocking}
use Rattle.bp_theory.specs.Decomposition.{Decomposition, blocking_of}
use Rattle.bp_theory.specs.Cuts.{cut_rows}
use Rattle.bp_theory.specs.declared.Cut.{Cut}
use Rattle.bp_model.specs.Named.{NamedProgram}
use Rattle.block_program.specs.Blocked.{BlockedProgram, IsFormed}
use Rattle.bp_theory.specs.Claims.{Certificate}
use Rattle.cert_text.specs.Programs.{GoesWith}
use Rattle.cert_load.specs.Recut.{with_cuts}

blocked_parts : (a b : NamedProgram) (c d : Decomposition) (i j : List Cut) (e f : Blocking) → a ≡ b → c ≡ d → i ≡ j → e ≡ f
    → (let x : BlockedProgram = record { named = a; dec = c; cuts = i; blocking = e } in x) ≡ (let x : BlockedProgram = record { named = b; dec = d; cuts = j; blocking = f } in x)
blocked_parts a b c d i j e f p q o r = rw (p, q, o, r) refl

-- what has another's model and decomposition is the other with its own cuts
pub is_with_cuts : (b c : BlockedProgram) (cuts : List Cut) → IsFormed c → c.named ≡ b.named → c.dec ≡ b.dec → c.cuts ≡ cuts → c ≡ with_cuts b cuts
is_with_cuts b c cuts formed named decs same =
    let blockings : c.blocking ≡ blocking_of b.named.program b.dec (cut_rows b.named.program b.dec [] cuts) =
    formed.blocking ∙ ap (λ (m : NamedProgram). blocking_of m.program c.dec (cut_rows m.program c.dec [] c.cuts)) named
    ∙ ap (λ (d : Decomposition). blocking_of b.named.program d (cut_rows b.named.program d [] c.cuts)) decs
    ∙ ap (λ (all : List Cut). blocking_of b.named.program b.dec (cut_rows b.named.program b.dec [] all)) same in
    blocked_parts c.named b.named c.dec b.dec c.cuts cuts c.blocking (with_cuts b cuts).blocking named decs same blockings

-- one without cuts is itself
pub uncut_is : (b : BlockedProgram) → IsFormed b → b.cuts ≡ [] → b ≡ with_cuts b []
uncut_is b formed uncut = is_with_cuts b b [] formed refl refl uncut

-- a certificate goes with each of these programs, since it names its own cuts
pub goes_along : (b : BlockedProgram) (cuts : List Cut) (cert : Certificate) → GoesWith b cert → GoesWith (with_cuts b cuts) cert
goes_along b cuts cert goes = record { claim = goes.claim; few = goes.few; cuts = goes.cuts; fits = goes.fits; shallow = goes.shallow; lines = goes.lines }
