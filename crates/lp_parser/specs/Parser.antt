-- An automaton that reads a text's symbols one by one. It keeps the tree so far.
use Rattle.std.specs.Prelude.{◌≡◌, ℕ, Bool, true, false, List, [], ◌∷◌, ◌++◌, Option, None, Some}
use Rattle.lp_token.specs.declared.Section.{Section}
use Rattle.lp_token.specs.declared.Section.TheVariants as sections
use Rattle.lp_syntax.specs.Tree.{Name, Symbol, word, name, number, infinity, sign, comparison, colon, Term, Item, term, constant, Sum, Row, expression_first, number_first, ranged, Bound, value_first, name_first, between, free, Part, bounds, generals, binaries, SyntaxTree, Written, is_free}
use Rattle.lp_syntax.specs.declared.tree.Sign.{Sign}
use Rattle.lp_syntax.specs.declared.tree.Comparison.{Comparison}
use Rattle.lp_syntax.specs.declared.tree.Comparison.TheVariants.{AtMost as at_most, AtLeast as at_least}
use Rattle.lp_syntax.specs.declared.tree.Signed.{Signed}
use Rattle.lp_syntax.specs.declared.tree.Direction.{Direction}
use Rattle.lp_syntax.specs.declared.tree.Direction.TheVariants.{Upward as upward, Downward as downward}
use Rattle.lp_syntax.specs.declared.tree.Value.{Value}
use Rattle.lp_syntax.specs.declared.tree.Value.TheVariants.{Finite as finite, Endless as endless}
use Rattle.lp_syntax.specs.declared.tree.Site.{Site}
use Rattle.lp_syntax.specs.declared.tree.Site.TheVariants.{ObjectiveFirst as objective_first, ObjectiveMore as objective_more, RowFirst as row_first, RowMore as row_more, Listed as listed, Other as other}

-- a place for a summand, with the signs before it: the first, or a further one
pub data Open (A : Type 0) : Type 0 where
  opening : List Sign → Open A
  further : Sum A → Sign → List Sign → Open A

-- one more sign
abbrev pub more_sign : {A : Type 0} → Open A → Sign → Open A
more_sign (opening signs) s = opening (signs ++ s ∷ [])
more_sign (further sum first signs) s = further sum first (signs ++ s ∷ [])

abbrev pub lone : {A : Type 0} → A → Sum A
lone a = record { first = a; more = [] }

abbrev pub longer : {A : Type 0} → Sum A → Sign → A → Sum A
longer sum s a = record { first = sum.first; more = sum.more ++ (s, a) ∷ [] }

-- the sum with a summand that has the signs before it
abbrev pub put : {A : Type 0} → Open A → (List Sign → A) → Sum A
put (opening signs) f = lone (f signs)
put (further sum s signs) f = longer sum s (f signs)

abbrev pub named : Option ℕ → Name → List Sign → Term
named factor n signs = record { signs = signs; factor = factor; variable = n }

abbrev pub signed_by : ℕ → List Sign → Signed
signed_by k signs = record { signs = signs; size = k }

-- an objective and the rows so far
pub record Front : Type 0 where
  pub maximises : Bool
  pub label : Option Name
  pub objective : Option (Sum Item)
  pub rows : List Row

abbrev pub front_of : Bool → Option Name → Option (Sum Item) → Front
front_of b label objective = record { maximises = b; label = label; objective = objective; rows = [] }

abbrev pub with_row : Front → Row → Front
with_row f r = record { maximises = f.maximises; label = f.label; objective = f.objective; rows = f.rows ++ r ∷ [] }

abbrev pub tree_of : Front → List Part → SyntaxTree
tree_of f parts = record { maximises = f.maximises; label = f.label; objective = f.objective; rows = f.rows; parts = parts }

-- inside a bounds section
pub record Within : Type 0 where
  pub front : Front
  pub parts : List Part
  pub so_far : List Bound

abbrev pub with_bound : Within → Bound → Within
with_bound w b = record { front = w.front; parts = w.parts; so_far = w.so_far ++ b ∷ [] }

pub data Stage : Type 0 where
  start : Stage
  o_word : Bool → Stage
  o_name : Bool → Name → Stage
  o_open : Bool → Option Name → Open Item → Stage
  o_number : Bool → Option Name → Open Item → ℕ → Stage
  o_sum : Bool → Option Name → Sum Item → Stage
  r_row : Front → Stage
  r_name : Front → Name → Stage
  r_signs : Front → Option Name → List Sign → Stage
  r_number : Front → Option Name → List Sign → ℕ → Stage
  r_open : Front → Option Name → Sum Term → Sign → List Sign → Stage
  r_factor : Front → Option Name → Sum Term → Sign → List Sign → ℕ → Stage
  r_sum : Front → Option Name → Sum Term → Stage
  r_compared : Front → Option Name → Sum Term → Comparison → List Sign → Stage
  n_open : Front → Option Name → Signed → Comparison → Open Term → Stage
  n_factor : Front → Option Name → Signed → Comparison → Open Term → ℕ → Stage
  n_sum : Front → Option Name → Signed → Comparison → Sum Term → Stage
  n_compared : Front → Option Name → Signed → Direction → Sum Term → List Sign → Stage
  p_generals : Front → List Part → List Name → Stage
  p_binaries : Front → List Part → List Name → Stage
  p_bounds : Within → Stage
  b_signs : Within → List Sign → Stage
  b_value : Within → Value → Stage
  b_compared : Within → Value → Comparison → Stage
  b_half : Within → Value → Comparison → Name → Stage
  b_between : Within → Value → Direction → Name → List Sign → Stage
  b_name : Within → Name → Stage
  b_named : Within → Name → Comparison → List Sign → Stage
  done : SyntaxTree → Stage

-- what reading a symbol gives: its site, and the next stage
abbrev pub Step : Type 0
Step = Option (Site × Stage)

abbrev pub to : Site → Stage → Step
to site stage = Some (site, stage)

abbrev pub from_start : Symbol → Step
from_start (word sections.Maximize) = to other (o_word true)
from_start (word sections.Minimize) = to other (o_word false)
from_start _ = None

-- the word behind an objective
abbrev pub rows_word : Bool → Option Name → Option (Sum Item) → Section → Step
rows_word b label objective sections.Rows = to other (r_row (front_of b label objective))
rows_word b label objective _ = None

abbrev pub from_o_word : Bool → Symbol → Step
from_o_word b (name n) = to objective_first (o_name b n)
from_o_word b (number k) = to objective_first (o_number b None (opening []) k)
from_o_word b (sign s) = to objective_first (o_open b None (opening (s ∷ [])))
from_o_word b (word w) = rows_word b None None w
from_o_word b _ = None

abbrev pub from_o_sum : Bool → Option Name → Sum Item → Symbol → Step
from_o_sum b label sum (sign s) = to objective_more (o_open b label (further sum s []))
from_o_sum b label sum (word w) = rows_word b label (Some sum) w
from_o_sum b label sum _ = None

abbrev pub from_o_name : Bool → Name → Symbol → Step
from_o_name b n colon = to objective_more (o_open b (Some n) (opening []))
from_o_name b n s = from_o_sum b None (lone (term (named None n []))) s

-- the word behind a label alone
abbrev pub open_word : Bool → Option Name → Open Item → Section → Step
open_word b label (opening []) w = rows_word b label None w
open_word b label _ w = None

abbrev pub from_o_open : Bool → Option Name → Open Item → Symbol → Step
from_o_open b label o (sign s) = to objective_more (o_open b label (more_sign o s))
from_o_open b label o (number k) = to objective_more (o_number b label o k)
from_o_open b label o (name n) = to objective_more (o_sum b label (put o (λ signs. term (named None n signs))))
from_o_open b label o (word w) = open_word b label o w
from_o_open b label o _ = None

abbrev pub from_o_number : Bool → Option Name → Open Item → ℕ → Symbol → Step
from_o_number b label o k (name n) = to objective_more (o_sum b label (put o (λ signs. term (named (Some k) n signs))))
from_o_number b label o k s = from_o_sum b label (put o (λ signs. constant (signed_by k signs))) s

-- a word behind rows and parts
abbrev pub from_word : Front → List Part → Section → Step
from_word f parts sections.Bounds = to other (p_bounds (record { front = f; parts = parts; so_far = [] }))
from_word f parts sections.Generals = to other (p_generals f parts [])
from_word f parts sections.Binaries = to other (p_binaries f parts [])
from_word f parts sections.End = to other (done (tree_of f parts))
from_word f parts _ = None

abbrev pub from_r_row : Front → Symbol → Step
from_r_row f (name n) = to row_first (r_name f n)
from_r_row f (number k) = to row_first (r_number f None [] k)
from_r_row f (sign s) = to row_first (r_signs f None (s ∷ []))
from_r_row f (word w) = from_word f [] w
from_r_row f _ = None

abbrev pub from_r_sum : Front → Option Name → Sum Term → Symbol → Step
from_r_sum f label sum (sign s) = to row_more (r_open f label sum s [])
from_r_sum f label sum (comparison c) = to row_more (r_compared f label sum c [])
from_r_sum f label sum _ = None

abbrev pub from_r_name : Front → Name → Symbol → Step
from_r_name f n colon = to row_more (r_signs f (Some n) [])
from_r_name f n s = from_r_sum f None (lone (named None n [])) s

abbrev pub from_r_signs : Front → Option Name → List Sign → Symbol → Step
from_r_signs f label signs (sign s) = to row_more (r_signs f label (signs ++ s ∷ []))
from_r_signs f label signs (number k) = to row_more (r_number f label signs k)
from_r_signs f label signs (name n) = to row_more (r_sum f label (lone (named None n signs)))
from_r_signs f label signs _ = None

abbrev pub from_r_number : Front → Option Name → List Sign → ℕ → Symbol → Step
from_r_number f label signs k (name n) = to row_more (r_sum f label (lone (named (Some k) n signs)))
from_r_number f label signs k (comparison c) = to row_more (n_open f label (signed_by k signs) c (opening []))
from_r_number f label signs k _ = None

abbrev pub from_r_open : Front → Option Name → Sum Term → Sign → List Sign → Symbol → Step
from_r_open f label sum first signs (sign s) = to row_more (r_open f label sum first (signs ++ s ∷ []))
from_r_open f label sum first signs (number k) = to row_more (r_factor f label sum first signs k)
from_r_open f label sum first signs (name n) = to row_more (r_sum f label (longer sum first (named None n signs)))
from_r_open f label sum first signs _ = None

abbrev pub from_r_factor : Front → Option Name → Sum Term → Sign → List Sign → ℕ → Symbol → Step
from_r_factor f label sum first signs k (name n) = to row_more (r_sum f label (longer sum first (named (Some k) n signs)))
from_r_factor f label sum first signs k _ = None

abbrev pub from_r_compared : Front → Option Name → Sum Term → Comparison → List Sign → Symbol → Step
from_r_compared f label sum c signs (sign s) = to row_more (r_compared f label sum c (signs ++ s ∷ []))
from_r_compared f label sum c signs (number k) = to row_more (r_row (with_row f (expression_first label sum c (signed_by k signs))))
from_r_compared f label sum c signs _ = None

abbrev pub from_n_open : Front → Option Name → Signed → Comparison → Open Term → Symbol → Step
from_n_open f label v c o (sign s) = to row_more (n_open f label v c (more_sign o s))
from_n_open f label v c o (number k) = to row_more (n_factor f label v c o k)
from_n_open f label v c o (name n) = to row_more (n_sum f label v c (put o (named None n)))
from_n_open f label v c o _ = None

abbrev pub from_n_factor : Front → Option Name → Signed → Comparison → Open Term → ℕ → Symbol → Step
from_n_factor f label v c o k (name n) = to row_more (n_sum f label v c (put o (named (Some k) n)))
from_n_factor f label v c o k _ = None

-- a second comparison, which has to agree with the first
abbrev pub direction_of : Comparison → Comparison → Option Direction
direction_of at_most at_most = Some upward
direction_of at_least at_least = Some downward
direction_of _ _ = None

abbrev pub second_row : Front → Option Name → Signed → Sum Term → Option Direction → Step
second_row f label v sum None = None
second_row f label v sum (Some d) = to row_more (n_compared f label v d sum [])

abbrev pub from_n_sum : Front → Option Name → Signed → Comparison → Sum Term → Symbol → Step
from_n_sum f label v c sum (sign s) = to row_more (n_open f label v c (further sum s []))
from_n_sum f label v c sum (comparison e) = second_row f label v sum (direction_of c e)
from_n_sum f label v c sum s = from_r_row (with_row f (number_first label v c sum)) s

abbrev pub from_n_compared : Front → Option Name → Signed → Direction → Sum Term → List Sign → Symbol → Step
from_n_compared f label v d sum signs (sign s) = to row_more (n_compared f label v d sum (signs ++ s ∷ []))
from_n_compared f label v d sum signs (number k) = to row_more (r_row (with_row f (ranged label v d sum (signed_by k signs))))
from_n_compared f label v d sum signs _ = None

abbrev pub from_p_generals : Front → List Part → List Name → Symbol → Step
from_p_generals f parts names (name n) = to listed (p_generals f parts (names ++ n ∷ []))
from_p_generals f parts names (word w) = from_word f (parts ++ generals names ∷ []) w
from_p_generals f parts names _ = None

abbrev pub from_p_binaries : Front → List Part → List Name → Symbol → Step
from_p_binaries f parts names (name n) = to listed (p_binaries f parts (names ++ n ∷ []))
from_p_binaries f parts names (word w) = from_word f (parts ++ binaries names ∷ []) w
from_p_binaries f parts names _ = None

abbrev pub from_b_signs : Within → List Sign → Symbol → Step
from_b_signs w signs (sign s) = to other (b_signs w (signs ++ s ∷ []))
from_b_signs w signs (number k) = to other (b_value w (finite (signed_by k signs)))
from_b_signs w signs infinity = to other (b_value w (endless signs))
from_b_signs w signs _ = None

abbrev pub from_p_bounds : Within → Symbol → Step
from_p_bounds w (name n) = to listed (b_name w n)
from_p_bounds w (word s) = from_word w.front (w.parts ++ bounds w.so_far ∷ []) s
from_p_bounds w s = from_b_signs w [] s

abbrev pub from_b_value : Within → Value → Symbol → Step
from_b_value w v (comparison c) = to other (b_compared w v c)
from_b_value w v _ = None

abbrev pub from_b_compared : Within → Value → Comparison → Symbol → Step
from_b_compared w v c (name n) = to listed (b_half w v c n)
from_b_compared w v c _ = None

abbrev pub second_bound : Within → Value → Name → Option Direction → Step
second_bound w v n None = None
second_bound w v n (Some d) = to other (b_between w v d n [])

abbrev pub from_b_half : Within → Value → Comparison → Name → Symbol → Step
from_b_half w v c n (comparison e) = second_bound w v n (direction_of c e)
from_b_half w v c n s = from_p_bounds (with_bound w (value_first v c n)) s

abbrev pub from_b_between : Within → Value → Direction → Name → List Sign → Symbol → Step
from_b_between w v d n signs (sign s) = to other (b_between w v d n (signs ++ s ∷ []))
from_b_between w v d n signs (number k) = to other (p_bounds (with_bound w (between v d n (finite (signed_by k signs)))))
from_b_between w v d n signs infinity = to other (p_bounds (with_bound w (between v d n (endless signs))))
from_b_between w v d n signs _ = None

abbrev pub free_word : Within → Name → Name → Bool → Step
free_word w n m true = to other (p_bounds (with_bound w (free n m)))
free_word w n m false = None

abbrev pub from_b_name : Within → Name → Symbol → Step
from_b_name w n (comparison c) = to other (b_named w n c [])
from_b_name w n (name m) = free_word w n m (is_free m)
from_b_name w n _ = None

abbrev pub from_b_named : Within → Name → Comparison → List Sign → Symbol → Step
from_b_named w n c signs (sign s) = to other (b_named w n c (signs ++ s ∷ []))
from_b_named w n c signs (number k) = to other (p_bounds (with_bound w (name_first n c (finite (signed_by k signs)))))
from_b_named w n c signs infinity = to other (p_bounds (with_bound w (name_first n c (endless signs))))
from_b_named w n c signs _ = None

abbrev pub step : Stage → Symbol → Step
step start s = from_start s
step (o_word b) s = from_o_word b s
step (o_name b n) s = from_o_name b n s
step (o_open b label o) s = from_o_open b label o s
step (o_number b label o k) s = from_o_number b label o k s
step (o_sum b label sum) s = from_o_sum b label sum s
step (r_row f) s = from_r_row f s
step (r_name f n) s = from_r_name f n s
step (r_signs f label signs) s = from_r_signs f label signs s
step (r_number f label signs k) s = from_r_number f label signs k s
step (r_open f label sum first signs) s = from_r_open f label sum first signs s
step (r_factor f label sum first signs k) s = from_r_factor f label sum first signs k s
step (r_sum f label sum) s = from_r_sum f label sum s
step (r_compared f label sum c signs) s = from_r_compared f label sum c signs s
step (n_open f label v c o) s = from_n_open f label v c o s
step (n_factor f label v c o k) s = from_n_factor f label v c o k s
step (n_sum f label v c sum) s = from_n_sum f label v c sum s
step (n_compared f label v d sum signs) s = from_n_compared f label v d sum signs s
step (p_generals f parts names) s = from_p_generals f parts names s
step (p_binaries f parts names) s = from_p_binaries f parts names s
step (p_bounds w) s = from_p_bounds w s
step (b_signs w signs) s = from_b_signs w signs s
step (b_value w v) s = from_b_value w v s
step (b_compared w v c) s = from_b_compared w v c s
step (b_half w v c n) s = from_b_half w v c n s
step (b_between w v d n signs) s = from_b_between w v d n signs s
step (b_name w n) s = from_b_name w n s
step (b_named w n c signs) s = from_b_named w n c signs s
step (done t) s = None

-- from one stage a text leads to another, each symbol in its site
abbrev pub Leads : Stage → List Written → Stage → Type 0
Leads x [] z = x ≡ z
Leads x (w ∷ ws) z = (y : Stage) × (step x w.symbol ≡ Some (w.site, y)) × Leads y ws z
