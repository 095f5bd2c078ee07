-- What a reader has read so far, as a stage of the automaton on its text.
use Rattle.std.specs.Prelude.{ℕ, List, map, Bool, Option, None, Some}
use Rattle.std.specs.Option.{option_map}
use Rattle.lp_syntax.specs.declared.tree.Site.{Site}
use Rattle.lp_syntax.specs.declared.tree.Site.TheVariants.{ObjectiveFirst, RowFirst}
use Rattle.lp_syntax.specs.declared.tree.Item.{Item}
use Rattle.lp_syntax.specs.declared.tree.Sum.{Sum}
use Rattle.lp_syntax.specs.declared.tree.Term.{Term}
use Rattle.lp_parser.specs.declared.stage.Gap.{Gap}
use Rattle.lp_parser.specs.declared.stage.Front.{Front}
use Rattle.lp_parser.specs.declared.stage.Within.{Within}
use Rattle.lp_parser.specs.declared.stage.ObjectiveStage.{ObjectiveStage}
use Rattle.lp_parser.specs.declared.stage.ObjectiveStage.TheVariants as objectives
use Rattle.lp_parser.specs.declared.stage.RowStage.{RowStage}
use Rattle.lp_parser.specs.declared.stage.RowStage.TheVariants as rows
use Rattle.lp_parser.specs.declared.stage.BoundStage.{BoundStage}
use Rattle.lp_parser.specs.declared.stage.BoundStage.TheVariants as bounds
use Rattle.lp_parser.specs.declared.stage.Stage.{Stage}
use Rattle.lp_parser.specs.declared.stage.Stage.TheVariants as stages
use Rattle.lp_syntax.specs.TreeIn.{name_in, label_in, term_in, item_in, sum_in, row_in, bound_in, part_in, tree_in}
use Rattle.lp_syntax.specs.Tree as plain
use Rattle.lp_parser.specs.Parser as parser

-- a place for a summand
abbrev pub gap_in : {A B : Type 0} → (A → B) → Gap A → parser.Open B
gap_in f o = elim o.before [ None ↦ parser.opening o.signs | Some p ↦ parser.further (sum_in f p.0) p.1 o.signs ]

abbrev pub objective_in : List ℕ → Option (Sum Item) → Option (plain.Sum plain.Item)
objective_in text objective = option_map (sum_in (item_in text)) objective

abbrev pub term_sum_in : List ℕ → Sum Term → plain.Sum plain.Term
term_sum_in text sum = sum_in (term_in text) sum

abbrev pub item_sum_in : List ℕ → Sum Item → plain.Sum plain.Item
item_sum_in text sum = sum_in (item_in text) sum

abbrev pub front_in : List ℕ → Front → parser.Front
front_in text f = record { maximises = f.maximises; label = label_in text f.label; objective = objective_in text f.objective; rows = map (row_in text) f.rows }

abbrev pub within_in : List ℕ → Within → parser.Within
within_in text w = record { front = front_in text w.front; parts = map (part_in text) w.parts; so_far = map (bound_in text) w.so_far }

abbrev pub objective_stage_in : List ℕ → Bool → ObjectiveStage → parser.Stage
objective_stage_in text b objectives.Word = parser.o_word b
objective_stage_in text b (objectives.Name n) = parser.o_name b (name_in text n)
objective_stage_in text b (objectives.Open label o) = parser.o_open b (label_in text label) (gap_in (item_in text) o)
objective_stage_in text b (objectives.Number label o k) = parser.o_number b (label_in text label) (gap_in (item_in text) o) k
objective_stage_in text b (objectives.Sum label sum) = parser.o_sum b (label_in text label) (item_sum_in text sum)

abbrev pub row_stage_in : List ℕ → parser.Front → RowStage → parser.Stage
row_stage_in text f rows.Start = parser.r_row f
row_stage_in text f (rows.Name n) = parser.r_name f (name_in text n)
row_stage_in text f (rows.Signs label signs) = parser.r_signs f (label_in text label) signs
row_stage_in text f (rows.Number label signs k) = parser.r_number f (label_in text label) signs k
row_stage_in text f (rows.Open label sum s signs) = parser.r_open f (label_in text label) (term_sum_in text sum) s signs
row_stage_in text f (rows.Factor label sum s signs k) = parser.r_factor f (label_in text label) (term_sum_in text sum) s signs k
row_stage_in text f (rows.Sum label sum) = parser.r_sum f (label_in text label) (term_sum_in text sum)
row_stage_in text f (rows.Compared label sum c signs) = parser.r_compared f (label_in text label) (term_sum_in text sum) c signs
row_stage_in text f (rows.NumberOpen h o) = parser.n_open f (label_in text h.label) h.side h.comparison (gap_in (term_in text) o)
row_stage_in text f (rows.NumberFactor h o k) = parser.n_factor f (label_in text h.label) h.side h.comparison (gap_in (term_in text) o) k
row_stage_in text f (rows.NumberSum h sum) = parser.n_sum f (label_in text h.label) h.side h.comparison (term_sum_in text sum)
row_stage_in text f (rows.NumberCompared label v d sum signs) = parser.n_compared f (label_in text label) v d (term_sum_in text sum) signs

abbrev pub bound_stage_in : List ℕ → parser.Within → BoundStage → parser.Stage
bound_stage_in text w bounds.Start = parser.p_bounds w
bound_stage_in text w (bounds.Signs signs) = parser.b_signs w signs
bound_stage_in text w (bounds.Value v) = parser.b_value w v
bound_stage_in text w (bounds.Compared v c) = parser.b_compared w v c
bound_stage_in text w (bounds.Half v c n) = parser.b_half w v c (name_in text n)
bound_stage_in text w (bounds.Between v d n signs) = parser.b_between w v d (name_in text n) signs
bound_stage_in text w (bounds.Name n) = parser.b_name w (name_in text n)
bound_stage_in text w (bounds.Named n c signs) = parser.b_named w (name_in text n) c signs

abbrev pub stage_in : List ℕ → Stage → parser.Stage
stage_in text stages.Start = parser.start
stage_in text (stages.Objective b stage) = objective_stage_in text b stage
stage_in text (stages.Row f stage) = row_stage_in text (front_in text f) stage
stage_in text (stages.Generals f parts names) = parser.p_generals (front_in text f) (map (part_in text) parts) (map (name_in text) names)
stage_in text (stages.Binaries f parts names) = parser.p_binaries (front_in text f) (map (part_in text) parts) (map (name_in text) names)
stage_in text (stages.Bounds w stage) = bound_stage_in text (within_in text w) stage
stage_in text (stages.Done tree) = parser.done (tree_in text tree)

-- what a step gives
abbrev pub step_in : List ℕ → Option (Site × Stage) → parser.Step
step_in text result = option_map (λ r. (r.0, stage_in text r.1)) result

-- a site behind the first symbol of an objective or a row
abbrev pub IsFurther : Site → Type 0
IsFurther ObjectiveFirst = ⊥
IsFurther RowFirst = ⊥
IsFurther _ = Unit {0}
