-- The limits of a model, of a decomposition and of a certificate, each said once. There are two sets of them, the usual and
-- the large ones: what is read keeps one of the two, and everything behind the readers stands under the large ones.
use Rattle.std.specs.Prelude.{ℕ, ◌+◌, ◌^◌}
use Rattle.bp_theory.specs.declared.Limits.{Limits}
use Rattle.bp_theory.specs.declared.Limits.TheVariants.{Usual, Large}

-- the greatest number of a model's variables
abbrev pub most_variables : Limits → ℕ
most_variables Usual = 4096
most_variables Large = 524288

-- the greatest number of a model's rows
abbrev pub most_rows : Limits → ℕ
most_rows Usual = 8192
most_rows Large = 524288

-- the greatest number of a model's rows together with the link rows of its decomposition
abbrev pub most_lines : Limits → ℕ
most_lines Usual = 8192
most_lines Large = 1048576

-- the greatest number of terms written in the objective and in all rows
abbrev pub most_terms : Limits → ℕ
most_terms Usual = 65536
most_terms Large = 4194304

-- the most binary digits that the lengths of a model's spans have together
abbrev pub most_digits : Limits → ℕ
most_digits Usual = 8192
most_digits Large = 1048576

-- the greatest number of a decomposition's blocks
abbrev pub most_blocks : Limits → ℕ
most_blocks Usual = 4096
most_blocks Large = 131072

-- the most bytes of a model's or a decomposition's text
abbrev pub most_bytes : Limits → ℕ
most_bytes Usual = 2 ^ 24
most_bytes Large = 2 ^ 28

-- the greatest depth of a certificate's node: 64 splits anywhere, and behind them one for each binary digit
abbrev pub greatest_depth : Limits → ℕ
greatest_depth limits = 64 + most_digits limits

-- the greatest number of a model's blocks under the large limits: those of its decomposition, and each variable that is in
-- none of them
abbrev pub most_parts : ℕ
most_parts = 655360

-- the most beginnings of points that the search lets the pricing of a block look at
abbrev pub most_prefixes : ℕ
most_prefixes = 1048576

-- the most cells of a table that prices a block of one row
abbrev pub most_cells : ℕ
most_cells = 1048576

-- the greatest number of cuts
abbrev pub most_cuts : ℕ
most_cuts = 256

-- the greatest divisor of a cut, and the greatest size of its multipliers
abbrev pub greatest_divisor : ℕ
greatest_divisor = 2 ^ 20

-- the greatest scale of a proof
abbrev pub greatest_scale : ℕ
greatest_scale = 2 ^ 20

-- what the size of a number of a model stays below
abbrev pub number_limit : ℕ
number_limit = 2 ^ 62

-- the greatest size of a proof's multiplier
abbrev pub greatest_multiplier : ℕ
greatest_multiplier = 2 ^ 40

-- the greatest size of the costs that a block is priced by, over all of its spans
abbrev pub price_limit : ℕ
price_limit = 2 ^ 123

-- the greatest weight of a column, and of a class's columns together
abbrev pub greatest_weight : ℕ
greatest_weight = 2 ^ 33

-- the most columns that are kept of a block, and that a restricted master has
abbrev pub most_columns : ℕ
most_columns = 65536

-- the most steps of a search that is told no number of them
abbrev pub untold_steps : ℕ
untold_steps = 2 ^ 60

-- the most steps of each search of the demonstration
abbrev pub demo_steps : ℕ
demo_steps = 2000
