-- From each stage that is reached some text is completed.
use Rattle.std.proofs.Common.{◌≡◌, ℕ, Bool, true, false, not, ◌&&◌, List, [], ◌∷◌, ◌++◌, refl, sym, ◌∙◌, ap, subst, append_assoc, Option, None, Some}
use Rattle.std.proofs.lemmas.List.{append-nil}
use Rattle.std.specs.Prelude.{MatchOption}
use Rattle.lp_token.specs.declared.Section.{Section}
use Rattle.lp_token.specs.declared.Section.TheVariants as sections
use Rattle.lp_syntax.specs.Tree.{Name, Symbol, word, name, number, infinity, sign, comparison, colon, Term, Item, term, constant, Sum, Row, expression_first, number_first, ranged, Bound, value_first, name_first, between, free, Part, bounds, generals, binaries, SyntaxTree, spelled_row, spelling, is_free}
use Rattle.lp_syntax.specs.declared.tree.Sign.{Sign}
use Rattle.lp_syntax.specs.declared.tree.Comparison.{Comparison}
use Rattle.lp_syntax.specs.declared.tree.Comparison.TheVariants.{AtMost as at_most, AtLeast as at_least, Equal as equal}
use Rattle.lp_syntax.specs.declared.tree.Signed.{Signed}
use Rattle.lp_syntax.specs.declared.tree.Direction.{Direction}
use Rattle.lp_syntax.specs.declared.tree.Value.{Value}
use Rattle.lp_syntax.specs.declared.tree.Value.TheVariants.{Finite as finite, Endless as endless}
use Rattle.lp_syntax.specs.declared.tree.Site.{Site}
use Rattle.lp_parser.specs.Parser.{Open, opening, further, lone, put, named, signed_by, Front, with_row, tree_of, Within, with_bound, Stage, start, o_word, o_name, o_open, o_number, o_sum, r_row, r_name, r_signs, r_number, r_open, r_factor, r_sum, r_compared, n_open, n_factor, n_sum, n_compared, p_generals, p_binaries, p_bounds, b_signs, b_value, b_compared, b_half, b_between, b_name, b_named, done, Step, rows_word, from_word, step}
use Rattle.std.proofs.lemmas.List.{append_cancel_left}
use Rattle.std.proofs.lemmas.Bool.{and_parts, and_from}
use Rattle.std.specs.List.{list_all}
use Rattle.lp_syntax.specs.Tree.{begins_signed, ends_with_expression, are_apart, has_free_word, part_has_free_words, IsText}
use Rattle.lp_parser.proofs.Shown.{shown_front, row_text, shown}
use Rattle.lp_parser.proofs.Kept.{keeps, shown_with_row}
use Rattle.lp_parser.specs.Parser.{free_word}

-- whether the last row ends with its expression
abbrev pub ends_open : List Row → Bool
ends_open [] = false
ends_open (r ∷ rows) = elim rows [ [] ↦ ends_with_expression r | _ ∷ _ ↦ ends_open rows ]

abbrev pub starts_signed : List Symbol → Bool
starts_signed xs = elim xs [ [] ↦ false | s ∷ symbols ↦ elim s [ sign _ ↦ true | _ ↦ false ] ]

-- one more row stays apart
apart_more : (rows : List Row) (r : Row) → are_apart rows ≡ true → not (ends_open rows && begins_signed r) ≡ true → are_apart (rows ++ r ∷ []) ≡ true
apart_more [] r a h = refl
apart_more (q ∷ []) r a h = and_from _ _ h refl
apart_more (q ∷ s ∷ rows) r a h = and_from _ _ (and_parts _ _ a).0 (apart_more (s ∷ rows) r (and_parts _ _ a).1 h)

ends_open-push : (rows : List Row) (r : Row) → ends_open (rows ++ r ∷ []) ≡ ends_with_expression r
ends_open-push [] r = refl
ends_open-push (q ∷ []) r = refl
ends_open-push (q ∷ s ∷ rows) r = ends_open-push (s ∷ rows) r

starts_more : (a b : List Symbol) → (a ≡ [] → ⊥) → starts_signed (a ++ b) ≡ starts_signed a
starts_more [] b n = absurd (n refl)
starts_more (s ∷ a) b n = refl

-- within a row whose text so far is this
pub record InRow (f : Front) (text : List Symbol) : Type 0 where
  pub apart : are_apart f.rows ≡ true
  pub follows : not (ends_open f.rows && starts_signed text) ≡ true
  pub some : text ≡ [] → ⊥

longer_nonempty : (a : List Symbol) (s : Symbol) → a ++ (s ∷ []) ≡ [] → ⊥
longer_nonempty [] s h = cc
longer_nonempty (x ∷ a) s h = cc

-- one more symbol in the row
grown : (f : Front) (a b : List Symbol) (s : Symbol) → shown_front f ++ b ≡ (shown_front f ++ a) ++ (s ∷ []) → InRow f a → InRow f b
grown f a b s h g =
    let same : b ≡ a ++ (s ∷ []) = append_cancel_left (shown_front f) b (a ++ (s ∷ [])) (h ∙ append_assoc (shown_front f) a (s ∷ [])) in
    subst (λ x. InRow f x) (sym same) (record { apart = g.apart; follows = ap (λ x. not (ends_open f.rows && x)) (starts_more a (s ∷ []) g.some) ∙ g.follows; some = longer_nonempty a s })

-- the row's last symbol
finished : (f : Front) (r : Row) (a : List Symbol) (s : Symbol) → shown_front (with_row f r) ≡ (shown_front f ++ a) ++ (s ∷ []) → InRow f a → are_apart (f.rows ++ r ∷ []) ≡ true
finished f r a s h g =
    let same : spelled_row r ≡ a ++ (s ∷ []) = append_cancel_left (shown_front f) (spelled_row r) (a ++ (s ∷ [])) (sym (shown_with_row f r) ∙ h ∙ append_assoc (shown_front f) a (s ∷ [])) in
    apart_more f.rows r g.apart (ap (λ x. not (ends_open f.rows && x)) (ap starts_signed same ∙ starts_more a (s ∷ []) g.some) ∙ g.follows)

pub record GoodParts (f : Front) (parts : List Part) : Type 0 where
  pub apart : are_apart f.rows ≡ true
  pub words : list_all part_has_free_words parts ≡ true

pub record GoodWithin (w : Within) : Type 0 where
  pub apart : are_apart w.front.rows ≡ true
  pub words : list_all part_has_free_words w.parts ≡ true
  pub here : list_all has_free_word w.so_far ≡ true

pub record AtRowEnd (f : Front) : Type 0 where
  pub apart : are_apart f.rows ≡ true
  pub closed : ends_open f.rows ≡ false

-- what holds of a stage that is reached
abbrev pub Good : Stage → Type 0
Good (r_row f) = AtRowEnd f
Good (r_name f n) = InRow f (row_text (r_name f n))
Good (r_signs f label signs) = InRow f (row_text (r_signs f label signs))
Good (r_number f label signs k) = InRow f (row_text (r_number f label signs k))
Good (r_open f label sum s signs) = InRow f (row_text (r_open f label sum s signs))
Good (r_factor f label sum s signs k) = InRow f (row_text (r_factor f label sum s signs k))
Good (r_sum f label sum) = InRow f (row_text (r_sum f label sum))
Good (r_compared f label sum c signs) = InRow f (row_text (r_compared f label sum c signs))
Good (n_open f label v c o) = InRow f (row_text (n_open f label v c o))
Good (n_factor f label v c o k) = InRow f (row_text (n_factor f label v c o k))
Good (n_sum f label v c sum) = InRow f (row_text (n_sum f label v c sum))
Good (n_compared f label v d sum signs) = InRow f (row_text (n_compared f label v d sum signs))
Good (p_generals f parts names) = GoodParts f parts
Good (p_binaries f parts names) = GoodParts f parts
Good (p_bounds w) = GoodWithin w
Good (b_signs w signs) = GoodWithin w
Good (b_value w v) = GoodWithin w
Good (b_compared w v c) = GoodWithin w
Good (b_half w v c n) = GoodWithin w
Good (b_between w v d n signs) = GoodWithin w
Good (b_name w n) = GoodWithin w
Good (b_named w n c signs) = GoodWithin w
Good (done t) = IsText t
Good _ = Unit {0}

abbrev pub GoodStep : Step → Type 0
GoodStep st = MatchOption st (Unit {0}) (λ p. Good p.1)

list_all-push : {A : Type 0} (p : A → Bool) (xs : List A) (x : A) → list_all p xs ≡ true → p x ≡ true → list_all p (xs ++ x ∷ []) ≡ true
list_all-push p [] x h k = and_from _ _ k refl
list_all-push p (y ∷ xs) x h k = and_from _ _ (and_parts _ _ h).0 (list_all-push p xs x (and_parts _ _ h).1 k)

good_rows_word : (b : Bool) (label : Option Name) (objective : Option (Sum Item)) (w : Section) → GoodStep (rows_word b label objective w)
good_rows_word b label objective sections.Rows = record { apart = refl; closed = refl }
good_rows_word b label objective _ = tt

good_word : (f : Front) (parts : List Part) (w : Section) → GoodParts f parts → GoodStep (from_word f parts w)
unfolding IsText
good_word f parts sections.Bounds g = record { apart = g.apart; words = g.words; here = refl }
good_word f parts sections.Generals g = g
good_word f parts sections.Binaries g = g
good_word f parts sections.End g = (g.apart, g.words)
good_word f parts _ g = tt

good_o_word : (b : Bool) (s : Symbol) → GoodStep (step (o_word b) s)
good_o_word b (name n) = tt
good_o_word b (number k) = tt
good_o_word b (sign s) = tt
good_o_word b (word w) = good_rows_word b None None w
good_o_word b _ = tt

good_o_sum : (b : Bool) (label : Option Name) (sum : Sum Item) (s : Symbol) → GoodStep (step (o_sum b label sum) s)
good_o_sum b label sum (sign s) = tt
good_o_sum b label sum (word w) = good_rows_word b label (Some sum) w
good_o_sum b label sum _ = tt

good_o_name : (b : Bool) (n : Name) (s : Symbol) → GoodStep (step (o_name b n) s)
good_o_name b n (sign s) = tt
good_o_name b n colon = tt
good_o_name b n (word w) = good_rows_word b None (Some (lone (term (named None n [])))) w
good_o_name b n _ = tt

good_open_word : (b : Bool) (label : Option Name) (o : Open Item) (w : Section) → GoodStep (step (o_open b label o) (word w))
good_open_word b label (opening []) w = good_rows_word b label None w
good_open_word b label (opening (s ∷ signs)) w = tt
good_open_word b label (further sum s signs) w = tt

good_o_open : (b : Bool) (label : Option Name) (o : Open Item) (s : Symbol) → GoodStep (step (o_open b label o) s)
good_o_open b label o (sign s) = tt
good_o_open b label o (number k) = tt
good_o_open b label o (name n) = tt
good_o_open b label o (word w) = good_open_word b label o w
good_o_open b label o _ = tt

good_o_number : (b : Bool) (label : Option Name) (o : Open Item) (k : ℕ) (s : Symbol) → GoodStep (step (o_number b label o k) s)
good_o_number b label o k (sign s) = tt
good_o_number b label o k (name n) = tt
good_o_number b label o k (word w) = good_rows_word b label (Some (put o (λ signs. constant (signed_by k signs)))) w
good_o_number b label o k _ = tt

good_start : (s : Symbol) → GoodStep (step start s)
good_start (word sections.Maximize) = tt
good_start (word sections.Minimize) = tt
good_start _ = tt

-- the first symbol of a row
begun : (f : Front) (s : Symbol) → are_apart f.rows ≡ true → not (ends_open f.rows && starts_signed (s ∷ [])) ≡ true → InRow f (s ∷ [])
begun f s a h = record { apart = a; follows = h; some = λ e. cc }

unsigned : (b : Bool) → not (b && false) ≡ true
unsigned true = refl
unsigned false = refl

good_r_row : (f : Front) (s : Symbol) → AtRowEnd f → GoodStep (step (r_row f) s)
good_r_row f (name n) g = begun f (name n) g.apart (unsigned (ends_open f.rows))
good_r_row f (number k) g = begun f (number k) g.apart (unsigned (ends_open f.rows))
good_r_row f (sign s) g = begun f (sign s) g.apart (ap (λ x. not (x && true)) g.closed)
good_r_row f (word w) g = good_word f [] w (record { apart = g.apart; words = refl })
good_r_row f _ g = tt

good_r_name : (f : Front) (n : Name) (s : Symbol) → InRow f (row_text (r_name f n)) → GoodStep (step (r_name f n) s)
good_r_name f n (sign s) g = grown f _ _ (sign s) (keeps (r_name f n) (sign s)) g
good_r_name f n (comparison c) g = grown f _ _ (comparison c) (keeps (r_name f n) (comparison c)) g
good_r_name f n colon g = grown f _ _ colon (keeps (r_name f n) colon) g
good_r_name f n _ g = tt

good_r_signs : (f : Front) (label : Option Name) (signs : List Sign) (s : Symbol) → InRow f (row_text (r_signs f label signs)) → GoodStep (step (r_signs f label signs) s)
good_r_signs f label signs (sign s) g = grown f _ _ (sign s) (keeps (r_signs f label signs) (sign s)) g
good_r_signs f label signs (number k) g = grown f _ _ (number k) (keeps (r_signs f label signs) (number k)) g
good_r_signs f label signs (name n) g = grown f _ _ (name n) (keeps (r_signs f label signs) (name n)) g
good_r_signs f label signs _ g = tt

good_r_number : (f : Front) (label : Option Name) (signs : List Sign) (k : ℕ) (s : Symbol) → InRow f (row_text (r_number f label signs k)) → GoodStep (step (r_number f label signs k) s)
good_r_number f label signs k (name n) g = grown f _ _ (name n) (keeps (r_number f label signs k) (name n)) g
good_r_number f label signs k (comparison c) g = grown f _ _ (comparison c) (keeps (r_number f label signs k) (comparison c)) g
good_r_number f label signs k _ g = tt

good_r_open : (f : Front) (label : Option Name) (sum : Sum Term) (t : Sign) (signs : List Sign) (s : Symbol) → InRow f (row_text (r_open f label sum t signs)) → GoodStep (step (r_open f label sum t signs) s)
good_r_open f label sum t signs (sign s) g = grown f _ _ (sign s) (keeps (r_open f label sum t signs) (sign s)) g
good_r_open f label sum t signs (number k) g = grown f _ _ (number k) (keeps (r_open f label sum t signs) (number k)) g
good_r_open f label sum t signs (name n) g = grown f _ _ (name n) (keeps (r_open f label sum t signs) (name n)) g
good_r_open f label sum t signs _ g = tt

good_r_factor : (f : Front) (label : Option Name) (sum : Sum Term) (t : Sign) (signs : List Sign) (k : ℕ) (s : Symbol) → InRow f (row_text (r_factor f label sum t signs k)) → GoodStep (step (r_factor f label sum t signs k) s)
good_r_factor f label sum t signs k (name n) g = grown f _ _ (name n) (keeps (r_factor f label sum t signs k) (name n)) g
good_r_factor f label sum t signs k _ g = tt

good_r_sum : (f : Front) (label : Option Name) (sum : Sum Term) (s : Symbol) → InRow f (row_text (r_sum f label sum)) → GoodStep (step (r_sum f label sum) s)
good_r_sum f label sum (sign s) g = grown f _ _ (sign s) (keeps (r_sum f label sum) (sign s)) g
good_r_sum f label sum (comparison c) g = grown f _ _ (comparison c) (keeps (r_sum f label sum) (comparison c)) g
good_r_sum f label sum _ g = tt

good_r_compared : (f : Front) (label : Option Name) (sum : Sum Term) (c : Comparison) (signs : List Sign) (s : Symbol) → InRow f (row_text (r_compared f label sum c signs)) → GoodStep (step (r_compared f label sum c signs) s)
good_r_compared f label sum c signs (sign s) g = grown f _ _ (sign s) (keeps (r_compared f label sum c signs) (sign s)) g
good_r_compared f label sum c signs (number k) g = record {
  apart = finished f (expression_first label sum c (signed_by k signs)) _ (number k) (keeps (r_compared f label sum c signs) (number k)) g;
  closed = ends_open-push f.rows (expression_first label sum c (signed_by k signs));
}
good_r_compared f label sum c signs _ g = tt

good_n_open : (f : Front) (label : Option Name) (v : Signed) (c : Comparison) (o : Open Term) (s : Symbol) → InRow f (row_text (n_open f label v c o)) → GoodStep (step (n_open f label v c o) s)
good_n_open f label v c o (sign s) g = grown f _ _ (sign s) (keeps (n_open f label v c o) (sign s)) g
good_n_open f label v c o (number k) g = grown f _ _ (number k) (keeps (n_open f label v c o) (number k)) g
good_n_open f label v c o (name n) g = grown f _ _ (name n) (keeps (n_open f label v c o) (name n)) g
good_n_open f label v c o _ g = tt

good_n_factor : (f : Front) (label : Option Name) (v : Signed) (c : Comparison) (o : Open Term) (k : ℕ) (s : Symbol) → InRow f (row_text (n_factor f label v c o k)) → GoodStep (step (n_factor f label v c o k) s)
good_n_factor f label v c o k (name n) g = grown f _ _ (name n) (keeps (n_factor f label v c o k) (name n)) g
good_n_factor f label v c o k _ g = tt

good_second : (f : Front) (label : Option Name) (v : Signed) (c e : Comparison) (sum : Sum Term) → InRow f (row_text (n_sum f label v c sum)) → GoodStep (step (n_sum f label v c sum) (comparison e))
good_second f label v at_most at_most sum g = grown f _ _ (comparison at_most) (keeps (n_sum f label v at_most sum) (comparison at_most)) g
good_second f label v at_least at_least sum g = grown f _ _ (comparison at_least) (keeps (n_sum f label v at_least sum) (comparison at_least)) g
good_second f label v at_most at_least sum g = tt
good_second f label v at_most equal sum g = tt
good_second f label v at_least at_most sum g = tt
good_second f label v at_least equal sum g = tt
good_second f label v equal e sum g = tt

good_n_sum : (f : Front) (label : Option Name) (v : Signed) (c : Comparison) (sum : Sum Term) (s : Symbol) → InRow f (row_text (n_sum f label v c sum)) → GoodStep (step (n_sum f label v c sum) s)
good_n_sum f label v c sum (sign s) g = grown f _ _ (sign s) (keeps (n_sum f label v c sum) (sign s)) g
good_n_sum f label v c sum (comparison e) g = good_second f label v c e sum g
good_n_sum f label v c sum (name n) g = let r : Row = number_first label v c sum in begun (with_row f r) (name n) (apart_more f.rows r g.apart g.follows) (unsigned (ends_open (f.rows ++ r ∷ [])))
good_n_sum f label v c sum (number k) g = let r : Row = number_first label v c sum in begun (with_row f r) (number k) (apart_more f.rows r g.apart g.follows) (unsigned (ends_open (f.rows ++ r ∷ [])))
good_n_sum f label v c sum (word w) g = good_word (with_row f (number_first label v c sum)) [] w (record { apart = apart_more f.rows (number_first label v c sum) g.apart g.follows; words = refl })
good_n_sum f label v c sum _ g = tt

good_n_compared : (f : Front) (label : Option Name) (v : Signed) (d : Direction) (sum : Sum Term) (signs : List Sign) (s : Symbol) → InRow f (row_text (n_compared f label v d sum signs)) → GoodStep (step (n_compared f label v d sum signs) s)
good_n_compared f label v d sum signs (sign s) g = grown f _ _ (sign s) (keeps (n_compared f label v d sum signs) (sign s)) g
good_n_compared f label v d sum signs (number k) g = record {
  apart = finished f (ranged label v d sum (signed_by k signs)) _ (number k) (keeps (n_compared f label v d sum signs) (number k)) g;
  closed = ends_open-push f.rows (ranged label v d sum (signed_by k signs));
}
good_n_compared f label v d sum signs _ g = tt

good_p_generals : (f : Front) (parts : List Part) (names : List Name) (s : Symbol) → GoodParts f parts → GoodStep (step (p_generals f parts names) s)
good_p_generals f parts names (name n) g = g
good_p_generals f parts names (word w) g = good_word f (parts ++ generals names ∷ []) w (record { apart = g.apart; words = list_all-push part_has_free_words parts (generals names) g.words refl })
good_p_generals f parts names _ g = tt

good_p_binaries : (f : Front) (parts : List Part) (names : List Name) (s : Symbol) → GoodParts f parts → GoodStep (step (p_binaries f parts names) s)
good_p_binaries f parts names (name n) g = g
good_p_binaries f parts names (word w) g = good_word f (parts ++ binaries names ∷ []) w (record { apart = g.apart; words = list_all-push part_has_free_words parts (binaries names) g.words refl })
good_p_binaries f parts names _ g = tt

good_b_signs : (w : Within) (signs : List Sign) (s : Symbol) → GoodWithin w → GoodStep (step (b_signs w signs) s)
good_b_signs w signs (sign s) g = g
good_b_signs w signs (number k) g = g
good_b_signs w signs infinity g = g
good_b_signs w signs _ g = tt

good_p_bounds : (w : Within) (s : Symbol) → GoodWithin w → GoodStep (step (p_bounds w) s)
good_p_bounds w (name n) g = g
good_p_bounds w (sign s) g = g
good_p_bounds w (number k) g = g
good_p_bounds w infinity g = g
good_p_bounds w (word s) g = good_word w.front (w.parts ++ bounds w.so_far ∷ []) s (record { apart = g.apart; words = list_all-push part_has_free_words w.parts (bounds w.so_far) g.words g.here })
good_p_bounds w _ g = tt

good_b_value : (w : Within) (v : Value) (s : Symbol) → GoodWithin w → GoodStep (step (b_value w v) s)
good_b_value w v (comparison c) g = g
good_b_value w v _ g = tt

good_b_compared : (w : Within) (v : Value) (c : Comparison) (s : Symbol) → GoodWithin w → GoodStep (step (b_compared w v c) s)
good_b_compared w v c (name n) g = g
good_b_compared w v c _ g = tt

-- one more bound
good_bound : (w : Within) (b : Bound) → has_free_word b ≡ true → GoodWithin w → GoodWithin (with_bound w b)
good_bound w b h g = record { apart = g.apart; words = g.words; here = list_all-push has_free_word w.so_far b g.here h }

good_half : (w : Within) (v : Value) (c e : Comparison) (n : Name) → GoodWithin w → GoodStep (step (b_half w v c n) (comparison e))
good_half w v at_most at_most n g = g
good_half w v at_least at_least n g = g
good_half w v at_most at_least n g = tt
good_half w v at_most equal n g = tt
good_half w v at_least at_most n g = tt
good_half w v at_least equal n g = tt
good_half w v equal e n g = tt

good_b_half : (w : Within) (v : Value) (c : Comparison) (n : Name) (s : Symbol) → GoodWithin w → GoodStep (step (b_half w v c n) s)
good_b_half w v c n (comparison e) g = good_half w v c e n g
good_b_half w v c n (name m) g = good_bound w (value_first v c n) refl g
good_b_half w v c n (sign s) g = good_bound w (value_first v c n) refl g
good_b_half w v c n (number k) g = good_bound w (value_first v c n) refl g
good_b_half w v c n infinity g = good_bound w (value_first v c n) refl g
good_b_half w v c n (word s) g = good_p_bounds (with_bound w (value_first v c n)) (word s) (good_bound w (value_first v c n) refl g)
good_b_half w v c n _ g = tt

good_b_between : (w : Within) (v : Value) (d : Direction) (n : Name) (signs : List Sign) (s : Symbol) → GoodWithin w → GoodStep (step (b_between w v d n signs) s)
good_b_between w v d n signs (sign s) g = g
good_b_between w v d n signs (number k) g = good_bound w (between v d n (finite (signed_by k signs))) refl g
good_b_between w v d n signs infinity g = good_bound w (between v d n (endless signs)) refl g
good_b_between w v d n signs _ g = tt

good_free : (w : Within) (n m : Name) (b : Bool) → is_free m ≡ b → GoodWithin w → GoodStep (free_word w n m b)
good_free w n m true h g = good_bound w (free n m) h g
good_free w n m false h g = tt

good_b_name : (w : Within) (n : Name) (s : Symbol) → GoodWithin w → GoodStep (step (b_name w n) s)
good_b_name w n (comparison c) g = g
good_b_name w n (name m) g = good_free w n m (is_free m) refl g
good_b_name w n _ g = tt

good_b_named : (w : Within) (n : Name) (c : Comparison) (signs : List Sign) (s : Symbol) → GoodWithin w → GoodStep (step (b_named w n c signs) s)
good_b_named w n c signs (sign s) g = g
good_b_named w n c signs (number k) g = good_bound w (name_first n c (finite (signed_by k signs))) refl g
good_b_named w n c signs infinity g = good_bound w (name_first n c (endless signs)) refl g
good_b_named w n c signs _ g = tt

-- what is good stays so
pub good : (x : Stage) (s : Symbol) → Good x → GoodStep (step x s)
good start s g = good_start s
good (o_word b) s g = good_o_word b s
good (o_name b n) s g = good_o_name b n s
good (o_open b label o) s g = good_o_open b label o s
good (o_number b label o k) s g = good_o_number b label o k s
good (o_sum b label sum) s g = good_o_sum b label sum s
good (r_row f) s g = good_r_row f s g
good (r_name f n) s g = good_r_name f n s g
good (r_signs f label signs) s g = good_r_signs f label signs s g
good (r_number f label signs k) s g = good_r_number f label signs k s g
good (r_open f label sum t signs) s g = good_r_open f label sum t signs s g
good (r_factor f label sum t signs k) s g = good_r_factor f label sum t signs k s g
good (r_sum f label sum) s g = good_r_sum f label sum s g
good (r_compared f label sum c signs) s g = good_r_compared f label sum c signs s g
good (n_open f label v c o) s g = good_n_open f label v c o s g
good (n_factor f label v c o k) s g = good_n_factor f label v c o k s g
good (n_sum f label v c sum) s g = good_n_sum f label v c sum s g
good (n_compared f label v d sum signs) s g = good_n_compared f label v d sum signs s g
good (p_generals f parts names) s g = good_p_generals f parts names s g
good (p_binaries f parts names) s g = good_p_binaries f parts names s g
good (p_bounds w) s g = good_p_bounds w s g
good (b_signs w signs) s g = good_b_signs w signs s g
good (b_value w v) s g = good_b_value w v s g
good (b_compared w v c) s g = good_b_compared w v c s g
good (b_half w v c n) s g = good_b_half w v c n s g
good (b_between w v d n signs) s g = good_b_between w v d n signs s g
good (b_name w n) s g = good_b_name w n s g
good (b_named w n c signs) s g = good_b_named w n c signs s g
good (done t) s g = tt

-- what a stage has read begins a text
abbrev pub Completes : Stage → Type 0
Completes x = (t : SyntaxTree) × (more : List Symbol) × IsText t × (spelling t ≡ shown x ++ more)

-- by a symbol to a stage that does
via : (x : Stage) (s : Symbol) (p : Site × Stage) → step x s ≡ Some p → Good x → (Good p.1 → Completes p.1) → Completes x
via x s p e g f =
    let read : shown p.1 ≡ shown x ++ (s ∷ []) = subst (λ st. MatchOption st (Unit {0}) (λ p. shown p.1 ≡ shown x ++ (s ∷ []))) e (keeps x s) in
    let next : Good p.1 = subst GoodStep e (good x s g) in
    let c : Completes p.1 = f next in
    (c.0, s ∷ c.1, c.2, c.3 ∙ ap (λ l. l ++ c.1) read ∙ append_assoc (shown x) (s ∷ []) c.1)

c_done : (t : SyntaxTree) → Good (done t) → Completes (done t)
c_done t g = (t, [], g, sym (append-nil (spelling t)))

c_row : (f : Front) → Good (r_row f) → Completes (r_row f)
c_row f g = via (r_row f) (word sections.End) _ refl g (c_done (tree_of f []))

c_r_compared : (f : Front) (label : Option Name) (sum : Sum Term) (c : Comparison) (signs : List Sign) → Good (r_compared f label sum c signs) → Completes (r_compared f label sum c signs)
c_r_compared f label sum c signs g = via (r_compared f label sum c signs) (number 0) _ refl g (c_row _)

c_r_sum : (f : Front) (label : Option Name) (sum : Sum Term) → Good (r_sum f label sum) → Completes (r_sum f label sum)
c_r_sum f label sum g = via (r_sum f label sum) (comparison at_most) _ refl g (c_r_compared f label sum at_most [])

c_n_sum : (f : Front) (label : Option Name) (v : Signed) (c : Comparison) (sum : Sum Term) → Good (n_sum f label v c sum) → Completes (n_sum f label v c sum)
c_n_sum f label v c sum g = via (n_sum f label v c sum) (word sections.End) _ refl g (c_done _)

c_p_bounds : (w : Within) → Good (p_bounds w) → Completes (p_bounds w)
c_p_bounds w g = via (p_bounds w) (word sections.End) _ refl g (c_done _)

c_b_half : (w : Within) (v : Value) (c : Comparison) (n : Name) → Good (b_half w v c n) → Completes (b_half w v c n)
c_b_half w v c n g = via (b_half w v c n) (word sections.End) _ refl g (c_done _)

c_b_compared : (w : Within) (v : Value) (c : Comparison) → Good (b_compared w v c) → Completes (b_compared w v c)
c_b_compared w v c g = via (b_compared w v c) (name []) _ refl g (c_b_half w v c [])

c_b_value : (w : Within) (v : Value) → Good (b_value w v) → Completes (b_value w v)
c_b_value w v g = via (b_value w v) (comparison at_most) _ refl g (c_b_compared w v at_most)

c_b_named : (w : Within) (n : Name) (c : Comparison) (signs : List Sign) → Good (b_named w n c signs) → Completes (b_named w n c signs)
c_b_named w n c signs g = via (b_named w n c signs) (number 0) _ refl g (c_p_bounds _)

c_o_sum : (b : Bool) (label : Option Name) (sum : Sum Item) → Good (o_sum b label sum) → Completes (o_sum b label sum)
c_o_sum b label sum g = via (o_sum b label sum) (word sections.Rows) _ refl g (c_row _)

c_o_word : (b : Bool) → Good (o_word b) → Completes (o_word b)
c_o_word b g = via (o_word b) (word sections.Rows) _ refl g (c_row _)

pub completes : (x : Stage) → Good x → Completes x
completes start g = via start (word sections.Minimize) _ refl g (c_o_word false)
completes (o_word b) g = c_o_word b g
completes (o_name b n) g = via (o_name b n) (word sections.Rows) _ refl g (c_row _)
completes (o_open b label o) g = via (o_open b label o) (name []) _ refl g (c_o_sum b label _)
completes (o_number b label o k) g = via (o_number b label o k) (word sections.Rows) _ refl g (c_row _)
completes (o_sum b label sum) g = c_o_sum b label sum g
completes (r_row f) g = c_row f g
completes (r_name f n) g = via (r_name f n) (comparison at_most) _ refl g (c_r_compared f None (lone (named None n [])) at_most [])
completes (r_signs f label signs) g = via (r_signs f label signs) (name []) _ refl g (c_r_sum f label (lone (named None [] signs)))
completes (r_number f label signs k) g = via (r_number f label signs k) (name []) _ refl g (c_r_sum f label (lone (named (Some k) [] signs)))
completes (r_open f label sum t signs) g = via (r_open f label sum t signs) (name []) _ refl g (c_r_sum f label _)
completes (r_factor f label sum t signs k) g = via (r_factor f label sum t signs k) (name []) _ refl g (c_r_sum f label _)
completes (r_sum f label sum) g = c_r_sum f label sum g
completes (r_compared f label sum c signs) g = c_r_compared f label sum c signs g
completes (n_open f label v c o) g = via (n_open f label v c o) (name []) _ refl g (c_n_sum f label v c _)
completes (n_factor f label v c o k) g = via (n_factor f label v c o k) (name []) _ refl g (c_n_sum f label v c _)
completes (n_sum f label v c sum) g = c_n_sum f label v c sum g
completes (n_compared f label v d sum signs) g = via (n_compared f label v d sum signs) (number 0) _ refl g (c_row _)
completes (p_generals f parts names) g = via (p_generals f parts names) (word sections.End) _ refl g (c_done _)
completes (p_binaries f parts names) g = via (p_binaries f parts names) (word sections.End) _ refl g (c_done _)
completes (p_bounds w) g = c_p_bounds w g
completes (b_signs w signs) g = via (b_signs w signs) (number 0) _ refl g (c_b_value w (finite (signed_by 0 signs)))
completes (b_value w v) g = c_b_value w v g
completes (b_compared w v c) g = c_b_compared w v c g
completes (b_half w v c n) g = c_b_half w v c n g
completes (b_between w v d n signs) g = via (b_between w v d n signs) (number 0) _ refl g (c_p_bounds _)
completes (b_name w n) g = via (b_name w n) (comparison at_most) _ refl g (c_b_named w n at_most [])
completes (b_named w n c signs) g = c_b_named w n c signs g
completes (done t) g = c_done t g
