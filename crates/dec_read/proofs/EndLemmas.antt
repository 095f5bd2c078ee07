-- What a text that has been read so far means or is refused for.
use Rattle.std.proofs.Common.{◌≡◌, ℕ, ◌≤◌, List, [], ◌∷◌, length, refl, sym, ◌∙◌, ap, subst, Option, None, Some, Ok}
use Rattle.bp_theory.specs.Decomposition.{Decomposition}
use Rattle.bp_theory.specs.Limits.{most_bytes}
use Rattle.bp_model.specs.Named.{NamedProgram, IsKept}
use Rattle.dec_syntax.specs.Cut.{Token, tokens, end_line}
use Rattle.dec_syntax.specs.Parts.{Part, decomposition_of}
use Rattle.dec_syntax.specs.Faults.{token_fault, end_fault}
use Rattle.dec_syntax.specs.State.{HasRead, StandsBefore, Takes}
use Rattle.dec_syntax.specs.declared.state.Reader.{Reader}
use Rattle.dec_syntax.specs.declared.kind.DecKind.{DecKind}
use Rattle.dec_syntax.proofs.ReadLemmas.{next_is, here, read_all}
use Rattle.dec_syntax.proofs.PlaceLemmas.{IsPlaced, faultless_placed}
use Rattle.dec_read.specs.Reading.{ReadsDecomposition, HasDecTextFault, at_token, at_end}

-- the next token at fault is the first
pub read_fault : (text : List ℕ) (m : NamedProgram) (left rest : List Token) (earlier : List Part) (token : Token) (kind : DecKind) → length text ≤ most_bytes m.program.limits → HasRead text m left earlier → left ≡ token ∷ rest
    → token_fault m earlier token ≡ Some kind → HasDecTextFault text m token.line kind
read_fault text m left rest earlier token kind short h e fault =
    let next = next_is (tokens text) h.place token rest (sym e ∙ h.left_is) in
    at_token short h.place token next.0 (here m (tokens text) h.place token earlier next.0 h.earlier_is ∙ fault) h.faultless refl

pub end_reads : (text : List ℕ) (m : NamedProgram) (left : List Token) (earlier : List Part) (d : Decomposition) → length text ≤ most_bytes m.program.limits → HasRead text m left earlier → left ≡ []
    → None ≡ end_fault m earlier → d ≡ decomposition_of m earlier → ReadsDecomposition text m d
end_reads text m left earlier d short h e ended meant =
    let all = read_all text m left earlier h e in
    record {
      short = short;
      faultless = all.0;
      ended = ap (end_fault m) (sym all.1) ∙ sym ended;
      meant = meant ∙ ap (decomposition_of m) all.1;
    }

pub end_has_fault : (text : List ℕ) (m : NamedProgram) (left : List Token) (earlier : List Part) (kind : DecKind) → length text ≤ most_bytes m.program.limits → HasRead text m left earlier → left ≡ []
    → Some kind ≡ end_fault m earlier → HasDecTextFault text m (end_line text) kind
end_has_fault text m left earlier kind short h e fault =
    let all = read_all text m left earlier h e in
    at_end short all.0 (ap (end_fault m) (sym all.1) ∙ sym fault) refl

-- a token at fault
pub stands_fault : (text : List ℕ) (m : NamedProgram) (reader new : Reader) (left rest : List Token) (token : Token) (fault : Option DecKind) (kind : DecKind) (b : StandsBefore text m reader left) → length text ≤ most_bytes m.program.limits
    → left ≡ token ∷ rest → Takes m new b.earlier token (Ok fault) → fault ≡ Some kind → HasDecTextFault text m token.line kind
stands_fault text m reader new left rest token fault kind b short e taken is =
    let told = subst (λ (o : Option DecKind). Takes m new b.earlier token (Ok o)) is taken in
    read_fault text m left rest b.earlier token kind short b.has_read e told

-- a text that is read lists known variables and places
pub reads_placed : (text : List ℕ) (m : NamedProgram) (d : Decomposition) → IsKept m → ReadsDecomposition text m d → IsPlaced m d
reads_placed text m d kept r = subst (IsPlaced m) (sym r.meant) (faultless_placed text m kept r.faultless)
