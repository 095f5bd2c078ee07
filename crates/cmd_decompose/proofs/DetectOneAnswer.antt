-- The files are answered in one way.
use Rattle.std.proofs.Common.{◌≡◌, ◌∙◌, refl, sym, ap, subst, ℕ, ◌<◌, ◌≤◌, List, Option, arith}
use Rattle.bp_theory.specs.Limits.{most_blocks}
use Rattle.bp_theory.specs.declared.Limits.{Limits}
use Rattle.bp_theory.specs.Decomposition.{Decomposition}
use Rattle.bp_model.specs.Named.{NamedProgram}
use Rattle.bp_shelf.specs.Shelf.{Files}
use Rattle.dec_write.specs.declared.fault.RowsKind.{RowsKind}
use Rattle.dec_write.specs.Rows.{ListsRows, HasRowsFault, too_long, at_token}
use Rattle.dec_components.specs.Joined.{IsFound}
use Rattle.dec_components.proofs.FoundLemmas.{found_once}
use Rattle.frontend.specs.Written.{Answer}
use Rattle.frontend.proofs.Written.{one_text, no_text, one_model, model_or_fault, HasOneStatus}
use Rattle.cmd_decompose.specs.Detects.{DetectsBeside, many, found, RowsCome, missing, faulty, read, Detects, missing_lp, faulty_lp, with_model}

-- blocks beside master rows are too many or not
too_many : (m : NamedProgram) (master : List ℕ) (d e : Decomposition) → IsFound m.program master d → IsFound m.program master e → most_blocks m.program.limits < d.blocks → e.blocks ≤ most_blocks m.program.limits → ⊥
too_many m master d e hd he more few =
    let same : d.blocks ≡ e.blocks = ap (λ (x : Decomposition). x.blocks) (found_once m.program master d e hd he) in
    omega (arith, same, more, few)

one_blocks : (m : NamedProgram) (master : List ℕ) (a b : Answer) → DetectsBeside m master a → DetectsBeside m master b → a.status ≡ b.status
one_blocks m master a b (many h) (many g) = refl
one_blocks m master a b (many h) (found d is few) = absurd (too_many m master h.found d h.is_found is h.many few)
one_blocks m master a b (found d is few) (many h) = absurd (too_many m master h.found d h.is_found is h.many few)
one_blocks m master a b (found d is few) (found e is' few') = refl

-- a list has rows or a fault, and not both
decided : (list : List ℕ) (m : NamedProgram) (rows : List ℕ) (line : ℕ) (kind : RowsKind) → ListsRows list m rows → HasRowsFault list m line kind → ⊥
decided list m rows line kind lists (too_long long _ _) = let short = lists.short in omega arith
decided list m rows line kind lists (at_token _ i token _ fault _ _) = let none = lists.faultless i in absurd (cc)

one_rows : (m : NamedProgram) (file : Option (List ℕ)) (a b : Answer) → RowsCome m file a → RowsCome m file b → a.status ≡ b.status
one_rows m file a b (missing x) (missing y) = refl
one_rows m file a b (missing x) (faulty list line kind y h) = absurd (no_text file list x y)
one_rows m file a b (missing x) (read list master b' y h g) = absurd (no_text file list x y)
one_rows m file a b (faulty list line kind x h) (missing y) = absurd (no_text file list y x)
one_rows m file a b (faulty list line kind x h) (faulty list' line' kind' y g) = refl
one_rows m file a b (faulty list line kind x h) (read list' master b' y g come) =
    absurd (decided list' m master line kind g (subst (λ (t : List ℕ). HasRowsFault t m line kind) (one_text file list list' x y) h))
one_rows m file a b (read list master a' x h come) (missing y) = absurd (no_text file list y x)
one_rows m file a b (read list master a' x h come) (faulty list' line kind y g) =
    absurd (decided list m master line kind h (subst (λ (t : List ℕ). HasRowsFault t m line kind) (one_text file list' list y x) g))
one_rows m file a b (read list master a' x h come) (read list' master' b' y g come') =
    let lists : ListsRows list m master' = subst (λ (t : List ℕ). ListsRows t m master') (one_text file list' list y x) g in
    let same : master' ≡ master = lists.meant ∙ sym h.meant in
    one_blocks m master a' b' come (subst (λ (rows : List ℕ). DetectsBeside m rows b') same come')

-- the files are answered by one status
pub one_answer : (limits : Limits) (files : Files) (lp rows : List ℕ) → HasOneStatus (Detects limits files lp rows)
one_answer limits files lp rows a b (missing_lp x) (missing_lp y) = refl
one_answer limits files lp rows a b (missing_lp x) (faulty_lp report h) = absurd (no_text (files lp) h.text x h.there)
one_answer limits files lp rows a b (missing_lp x) (with_model m b' h come) = absurd (no_text (files lp) h.text x h.there)
one_answer limits files lp rows a b (faulty_lp report h) (missing_lp y) = absurd (no_text (files lp) h.text y h.there)
one_answer limits files lp rows a b (faulty_lp report h) (faulty_lp report' g) = refl
one_answer limits files lp rows a b (faulty_lp report h) (with_model m b' g come) = absurd (model_or_fault limits (files lp) m report g h)
one_answer limits files lp rows a b (with_model m a' h come) (missing_lp y) = absurd (no_text (files lp) h.text y h.there)
one_answer limits files lp rows a b (with_model m a' h come) (faulty_lp report g) = absurd (model_or_fault limits (files lp) m report h g)
one_answer limits files lp rows a b (with_model m a' h come) (with_model n b' g come') =
    one_rows m (files rows) a' b' come (subst (λ (p : NamedProgram). RowsCome p (files rows) b') (one_model limits (files lp) n m g h) come')
