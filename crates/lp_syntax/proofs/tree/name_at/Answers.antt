-- A name's bytes are text.
use Rattle.std.proofs.Common.{List, ℕ, subst, sym, refl}
use Rattle.std.specs.Prelude.{Result, Ok, Err, MatchResult, IsOk}
use Rattle.std.specs.Str.{IsUtf8}
use Rattle.lp_syntax.specs.TreeIn.{name_in}
use Rattle.lp_syntax.proofs.Ascii.{name_is_text}
use Rattle.lp_syntax.proofs.tree.name_at.Goals as goal

is_text : {T E : Type 0} (r : Result T E) (bs : List ℕ) (P : T → Type 0) (Q : E → Type 0) → MatchResult r (λ s. P s × IsUtf8 bs) (λ e. (IsUtf8 bs → ⊥) × Q e) → IsUtf8 bs → IsOk r
is_text (Ok s) bs P Q h u = refl
is_text (Err e) bs P Q h u = absurd (h.0 u)

pub unwrap-requires : goal.unwrap-requires
unwrap-requires c =
    is_text c.from_utf8.result c.bytes_at.result.now _ _ c.from_utf8.ensures.cases
    (subst IsUtf8 (sym c.bytes_at.ensures) (name_is_text (name_in c.args.text.now c.args.place) c.requires))
