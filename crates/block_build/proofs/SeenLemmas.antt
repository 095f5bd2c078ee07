-- The columns of so many variables, where a slice shows them.
use Rattle.std.proofs.Common.{◌≡◌, ℕ, ◌<◌, List, [], length, get_or, sym, subst, arith}
use Rattle.std.specs.Prelude.{ℤ}
use Rattle.bp_theory.specs.declared.Row.{Row}
use Rattle.block_build.specs.Columns.{column_from, AreColumns}

pub columns_shown : (rows full : List Row) (columns shown : List (List (ℕ × ℤ))) (n : ℕ) → rows ≡ full → length columns ≡ n
    → ((v : ℕ) → v < n → get_or columns v [] ≡ column_from 0 rows v) → shown ≡ columns → AreColumns full shown
columns_shown rows full columns shown n rows_are each are shown_are =
    subst (λ (rs : List Row). AreColumns rs shown) rows_are
    (subst (AreColumns rows) (sym shown_are) (λ v l. are v (omega (arith, l, each))))
