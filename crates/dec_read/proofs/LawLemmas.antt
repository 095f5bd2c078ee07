-- Each text means a decomposition or has a first fault.
use Rattle.std.proofs.Common.{◌≡◌, ℕ, ◌<◌, ◌≤◌, ◌⊎◌, List, length, refl, inl, inr, Option, None, Some}
use Rattle.std.proofs.lemmas.Bool.{cases_lt}
use Rattle.bp_theory.specs.Decomposition.{Decomposition}
use Rattle.bp_theory.specs.Limits.{most_bytes}
use Rattle.bp_model.specs.Named.{NamedProgram}
use Rattle.dec_syntax.specs.Cut.{tokens, end_line}
use Rattle.dec_syntax.specs.Parts.{parts_of, decomposition_of}
use Rattle.dec_syntax.specs.Faults.{fault_at, end_fault}
use Rattle.dec_syntax.specs.declared.kind.DecKind.{DecKind}
use Rattle.dec_syntax.specs.declared.kind.DecKind.TheVariants.{Limit}
use Rattle.dec_syntax.proofs.FaultLemmas.{IsFirstBelow, first_or_none, fault_token, no_fault_past}
use Rattle.dec_read.specs.Reading.{ReadsDecomposition, HasDecTextFault, too_long, at_token, at_end}

pub decomposition_or_fault_lem : (text : List ℕ) (m : NamedProgram) → ((d : Decomposition) × ReadsDecomposition text m d) ⊎ ((line : ℕ) × (kind : DecKind) × HasDecTextFault text m line kind)
decomposition_or_fault_lem text m = elim (cases_lt (most_bytes m.program.limits) (length text)) [
  | inl l ↦ inr (0, Limit, too_long l refl refl)
  | inr l ↦ by l (first_or_none m (tokens text) (length (tokens text)))
]
  where
    ended : length text ≤ most_bytes m.program.limits → ((i : ℕ) → fault_at m (tokens text) i ≡ None) → (o : Option DecKind) → end_fault m (parts_of text) ≡ o → ((d : Decomposition) × ReadsDecomposition text m d) ⊎ ((line : ℕ) × (kind : DecKind) × HasDecTextFault text m line kind)
    ended l none None e = inl (decomposition_of m (parts_of text), record { short = l; faultless = none; ended = e; meant = refl })
    ended l none (Some kind) e = inr (end_line text, kind, at_end l none e refl)

    by : length text ≤ most_bytes m.program.limits → IsFirstBelow m (tokens text) (length (tokens text)) ⊎ ((k : ℕ) → k < length (tokens text) → fault_at m (tokens text) k ≡ None) → ((d : Decomposition) × ReadsDecomposition text m d) ⊎ ((line : ℕ) × (kind : DecKind) × HasDecTextFault text m line kind)
    by l (inl f) =
        let t = fault_token m (tokens text) f.place f.kind f.here in
        inr (t.0.line, f.kind, at_token l f.place t.0 t.1 f.here f.first refl)
    by l (inr none) =
        ended l (λ i. elim (cases_lt i (length (tokens text))) [ inl s ↦ none i s | inr s ↦ no_fault_past m (tokens text) i s ]) (end_fault m (parts_of text)) refl
