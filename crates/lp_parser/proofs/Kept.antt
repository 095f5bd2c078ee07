-- Each stage has read what the one before it had, and the symbol.
use Rattle.std.proofs.Common.{◌≡◌, ℕ, Bool, true, false, List, [], ◌∷◌, ◌++◌, map, refl, sym, ◌∙◌, ap, subst, append_assoc, Option, None, Some}
use Rattle.std.proofs.lemmas.List.{append-nil, map-append}
use Rattle.std.proofs.lemmas.Grind.{flat_map-append}
use Rattle.std.specs.Prelude.{flat_map, MatchOption}
use Rattle.lp_token.specs.declared.Section.{Section}
use Rattle.lp_token.specs.declared.Section.TheVariants as sections
use Rattle.lp_syntax.specs.Tree.{Name, Symbol, word, name, number, infinity, sign, comparison, colon, Term, Item, term, constant, Sum, Row, expression_first, number_first, ranged, Bound, value_first, name_first, between, free, Part, bounds, generals, binaries, comparison_of, spelled_label, spelled_signs, spelled_signed, spelled_term, spelled_item, spelled_sum, spelled_row, spelled_value, is_free}
use Rattle.lp_syntax.specs.declared.tree.Sign.{Sign}
use Rattle.lp_syntax.specs.declared.tree.Comparison.{Comparison}
use Rattle.lp_syntax.specs.declared.tree.Comparison.TheVariants.{AtMost as at_most, AtLeast as at_least, Equal as equal}
use Rattle.lp_syntax.specs.declared.tree.Signed.{Signed}
use Rattle.lp_syntax.specs.declared.tree.Direction.{Direction}
use Rattle.lp_syntax.specs.declared.tree.Value.{Value}
use Rattle.lp_syntax.specs.declared.tree.Value.TheVariants.{Finite as finite, Endless as endless}
use Rattle.lp_parser.specs.Parser.{Open, opening, further, lone, put, named, signed_by, Front, with_row, Within, with_bound, Stage, start, o_word, o_name, o_open, o_number, o_sum, r_row, r_name, r_signs, r_number, r_open, r_factor, r_sum, r_compared, n_open, n_factor, n_sum, n_compared, p_generals, p_binaries, p_bounds, b_signs, b_value, b_compared, b_half, b_between, b_name, b_named, done, Step, rows_word, from_word, step}
use Rattle.lp_parser.proofs.Shown.{spelled_bound, spelled_part, first_word, spelled_objective, shown_front, shown_parts, spelled_as, shown_open, shown_more, shown_put, row_text, shown_within, shown}
use Rattle.lp_parser.specs.Parser.{free_word}

-- what a symbol leads to has read that symbol too
abbrev pub Keeps : Stage → Symbol → Type 0
Keeps x s = MatchOption (step x s) (Unit {0}) (λ p. shown p.1 ≡ shown x ++ (s ∷ []))

-- one more symbol, behind a front
into : (f a b : List Symbol) (s : Symbol) → b ≡ a ++ (s ∷ []) → f ++ b ≡ (f ++ a) ++ (s ∷ [])
into f a b s h = ap (λ l. f ++ l) h ∙ sym (append_assoc f a (s ∷ []))

more_signs : (signs : List Sign) (s : Sign) → spelled_signs (signs ++ s ∷ []) ≡ spelled_signs signs ++ (sign s ∷ [])
more_signs signs s = map-append sign signs (s ∷ [])

-- a front with one more row
pub shown_with_row : (f : Front) (r : Row) → shown_front (with_row f r) ≡ shown_front f ++ spelled_row r
shown_with_row f r =
    ap (λ l. first_word f.maximises ∷ l) (ap (λ x. spelled_label f.label ++ (spelled_objective f.objective ++ (word sections.Rows ∷ x))) (flat_map-append spelled_row f.rows (r ∷ []) ∙ ap (λ x. flat_map spelled_row f.rows ++ x) (append-nil (spelled_row r)))
    ∙ three (spelled_label f.label) (spelled_objective f.objective) (flat_map spelled_row f.rows) (spelled_row r) (word sections.Rows))
  where
    three : (a b c d : List Symbol) (w : Symbol) → a ++ (b ++ (w ∷ (c ++ d))) ≡ (a ++ (b ++ (w ∷ c))) ++ d
    three a b c d w = simp append_assoc

shown_with_part : (f : Front) (parts : List Part) (p : Part) → shown_parts f (parts ++ p ∷ []) ≡ shown_parts f parts ++ spelled_part p
shown_with_part f parts p = ap (λ x. shown_front f ++ x) (flat_map-append spelled_part parts (p ∷ []) ∙ ap (λ x. flat_map spelled_part parts ++ x) (append-nil (spelled_part p))) ∙ sym (append_assoc (shown_front f) (flat_map spelled_part parts) (spelled_part p))

shown_with_bound : (w : Within) (b : Bound) → shown_within (with_bound w b) ≡ shown_within w ++ spelled_bound b
shown_with_bound w b =
    ap (λ x. shown_parts w.front w.parts ++ (word sections.Bounds ∷ x)) (flat_map-append spelled_bound w.so_far (b ∷ []) ∙ ap (λ x. flat_map spelled_bound w.so_far ++ x) (append-nil (spelled_bound b)))
    ∙ sym (append_assoc (shown_parts w.front w.parts) (word sections.Bounds ∷ flat_map spelled_bound w.so_far) (spelled_bound b))

-- a row, or a bound, that is complete with a symbol
row_done : (f : Front) (r : Row) (text : List Symbol) (s : Symbol) → spelled_row r ≡ text ++ (s ∷ []) → shown_front (with_row f r) ≡ (shown_front f ++ text) ++ (s ∷ [])
row_done f r text s h = shown_with_row f r ∙ into (shown_front f) text (spelled_row r) s h

bound_done : (w : Within) (b : Bound) (text : List Symbol) (s : Symbol) → spelled_bound b ≡ text ++ (s ∷ []) → shown_within (with_bound w b) ≡ (shown_within w ++ text) ++ (s ∷ [])
bound_done w b text s h = shown_with_bound w b ∙ into (shown_within w) text (spelled_bound b) s h

-- a symbol read from a stage that has read the same
abbrev Adds : Step → List Symbol → Symbol → Type 0
Adds st text s = MatchOption st (Unit {0}) (λ p. shown p.1 ≡ text ++ (s ∷ []))

keeps_start : (s : Symbol) → Keeps start s
keeps_start (word sections.Maximize) = refl
keeps_start (word sections.Minimize) = refl
keeps_start _ = tt

rows_word_adds : (b : Bool) (label : Option Name) (objective : Option (Sum Item)) (w : Section) → Adds (rows_word b label objective w) (first_word b ∷ (spelled_label label ++ spelled_objective objective)) (word w)
rows_word_adds b label objective sections.Rows = ap (λ l. first_word b ∷ l) (sym (append_assoc (spelled_label label) (spelled_objective objective) _))
rows_word_adds b label objective _ = tt

keeps_o_word : (b : Bool) (s : Symbol) → Keeps (o_word b) s
keeps_o_word b (name n) = refl
keeps_o_word b (number k) = refl
keeps_o_word b (sign s) = refl
keeps_o_word b (word w) = rows_word_adds b None None w
keeps_o_word b _ = tt

keeps_o_sum : (b : Bool) (label : Option Name) (sum : Sum Item) (s : Symbol) → Keeps (o_sum b label sum) s
keeps_o_sum b label sum (sign s) = ap (λ l. first_word b ∷ l) (into (spelled_label label) (spelled_sum spelled_item sum) _ (sign s) refl)
keeps_o_sum b label sum (word w) = rows_word_adds b label (Some sum) w
keeps_o_sum b label sum _ = tt

keeps_o_name : (b : Bool) (n : Name) (s : Symbol) → Keeps (o_name b n) s
keeps_o_name b n (sign s) = refl
keeps_o_name b n colon = refl
keeps_o_name b n (word w) = rows_word_adds b None (Some (lone (term (named None n [])))) w
keeps_o_name b n _ = tt

open_word_adds : (b : Bool) (label : Option Name) (o : Open Item) (w : Section) → Keeps (o_open b label o) (word w)
open_word_adds b label (opening []) w = rows_word_adds b label None w
open_word_adds b label (opening (s ∷ signs)) w = tt
open_word_adds b label (further sum s signs) w = tt

keeps_o_open : (b : Bool) (label : Option Name) (o : Open Item) (s : Symbol) → Keeps (o_open b label o) s
keeps_o_open b label o (sign s) = ap (λ l. first_word b ∷ l) (into (spelled_label label) (shown_open spelled_item o) _ (sign s) (shown_more spelled_item o s))
keeps_o_open b label o (number k) = ap (λ l. first_word b ∷ l) (into (spelled_label label) (shown_open spelled_item o) _ (number k) refl)
keeps_o_open b label o (name n) = ap (λ l. first_word b ∷ l) (into (spelled_label label) (shown_open spelled_item o) _ (name n) (shown_put spelled_item o (λ signs. term (named None n signs)) (name n ∷ []) (λ signs. refl)))
keeps_o_open b label o (word w) = open_word_adds b label o w
keeps_o_open b label o _ = tt

-- a constant is the last summand
constant_shown : (b : Bool) (label : Option Name) (o : Open Item) (k : ℕ) → shown (o_sum b label (put o (λ signs. constant (signed_by k signs)))) ≡ shown (o_number b label o k)
constant_shown b label o k = ap (λ l. first_word b ∷ (spelled_label label ++ l)) (shown_put spelled_item o (λ signs. constant (signed_by k signs)) (number k ∷ []) (λ signs. refl))

keeps_o_number : (b : Bool) (label : Option Name) (o : Open Item) (k : ℕ) (s : Symbol) → Keeps (o_number b label o k) s
keeps_o_number b label o k (name n) = ap (λ l. first_word b ∷ l) (into (spelled_label label) (shown_open spelled_item o ++ (number k ∷ [])) _ (name n)
    (shown_put spelled_item o (λ signs. term (named (Some k) n signs)) (number k ∷ name n ∷ []) (λ signs. refl) ∙ sym (append_assoc (shown_open spelled_item o) (number k ∷ []) (name n ∷ []))))
keeps_o_number b label o k (sign s) = keeps_o_sum b label (put o (λ signs. constant (signed_by k signs))) (sign s) ∙ ap (λ l. l ++ (sign s ∷ [])) (constant_shown b label o k)
keeps_o_number b label o k (word w) = subst (λ l. Adds (rows_word b label (Some (put o (λ signs. constant (signed_by k signs)))) w) l (word w)) (constant_shown b label o k) (keeps_o_sum b label (put o (λ signs. constant (signed_by k signs))) (word w))
keeps_o_number b label o k _ = tt

-- rows

word_adds : (f : Front) (parts : List Part) (w : Section) → Adds (from_word f parts w) (shown_parts f parts) (word w)
word_adds f parts sections.Bounds = refl
word_adds f parts sections.Generals = refl
word_adds f parts sections.Binaries = refl
word_adds f parts sections.End = spelled_as f parts
word_adds f parts _ = tt

keeps_r_row : (f : Front) (s : Symbol) → Keeps (r_row f) s
keeps_r_row f (name n) = refl
keeps_r_row f (number k) = refl
keeps_r_row f (sign s) = refl
keeps_r_row f (word w) = subst (λ l. Adds (from_word f [] w) l (word w)) (append-nil (shown_front f)) (word_adds f [] w)
keeps_r_row f _ = tt

-- in a row
row_adds : (f : Front) (label : Option Name) (a b : List Symbol) (s : Symbol) → b ≡ a ++ (s ∷ []) → shown_front f ++ (spelled_label label ++ b) ≡ (shown_front f ++ (spelled_label label ++ a)) ++ (s ∷ [])
row_adds f label a b s h = into (shown_front f) (spelled_label label ++ a) (spelled_label label ++ b) s (into (spelled_label label) a b s h)

keeps_r_sum : (f : Front) (label : Option Name) (sum : Sum Term) (s : Symbol) → Keeps (r_sum f label sum) s
keeps_r_sum f label sum (sign s) = row_adds f label (spelled_sum spelled_term sum) _ (sign s) refl
keeps_r_sum f label sum (comparison c) = row_adds f label (spelled_sum spelled_term sum) _ (comparison c) refl
keeps_r_sum f label sum _ = tt

keeps_r_name : (f : Front) (n : Name) (s : Symbol) → Keeps (r_name f n) s
keeps_r_name f n (sign s) = into (shown_front f) (name n ∷ []) _ (sign s) refl
keeps_r_name f n (comparison c) = into (shown_front f) (name n ∷ []) _ (comparison c) refl
keeps_r_name f n colon = into (shown_front f) (name n ∷ []) _ colon refl
keeps_r_name f n _ = tt

keeps_r_signs : (f : Front) (label : Option Name) (signs : List Sign) (s : Symbol) → Keeps (r_signs f label signs) s
keeps_r_signs f label signs (sign s) = row_adds f label (spelled_signs signs) _ (sign s) (more_signs signs s)
keeps_r_signs f label signs (number k) = row_adds f label (spelled_signs signs) _ (number k) refl
keeps_r_signs f label signs (name n) = row_adds f label (spelled_signs signs) _ (name n) (append-nil _)
keeps_r_signs f label signs _ = tt

keeps_r_number : (f : Front) (label : Option Name) (signs : List Sign) (k : ℕ) (s : Symbol) → Keeps (r_number f label signs k) s
keeps_r_number f label signs k (name n) = row_adds f label (spelled_signs signs ++ (number k ∷ [])) _ (name n) (append-nil _ ∙ sym (append_assoc (spelled_signs signs) (number k ∷ []) (name n ∷ [])))
keeps_r_number f label signs k (comparison c) = row_adds f label (spelled_signs signs ++ (number k ∷ [])) _ (comparison c) refl
keeps_r_number f label signs k _ = tt

keeps_r_open : (f : Front) (label : Option Name) (sum : Sum Term) (first : Sign) (signs : List Sign) (s : Symbol) → Keeps (r_open f label sum first signs) s
keeps_r_open f label sum first signs (sign s) = row_adds f label _ _ (sign s) (into (spelled_sum spelled_term sum) (sign first ∷ spelled_signs signs) _ (sign s) (ap (λ l. sign first ∷ l) (more_signs signs s)))
keeps_r_open f label sum first signs (number k) = row_adds f label _ _ (number k) (into (spelled_sum spelled_term sum) (sign first ∷ spelled_signs signs) _ (number k) refl)
keeps_r_open f label sum first signs (name n) = row_adds f label _ _ (name n) (shown_put spelled_term (further sum first signs) (named None n) (name n ∷ []) (λ signs. refl))
keeps_r_open f label sum first signs _ = tt

factored : (o : Open Term) (k : ℕ) (n : Name) → spelled_sum spelled_term (put o (named (Some k) n)) ≡ (shown_open spelled_term o ++ (number k ∷ [])) ++ (name n ∷ [])
factored o k n = shown_put spelled_term o (named (Some k) n) (number k ∷ name n ∷ []) (λ signs. refl) ∙ sym (append_assoc (shown_open spelled_term o) (number k ∷ []) (name n ∷ []))

keeps_r_factor : (f : Front) (label : Option Name) (sum : Sum Term) (first : Sign) (signs : List Sign) (k : ℕ) (s : Symbol) → Keeps (r_factor f label sum first signs k) s
keeps_r_factor f label sum first signs k (name n) = row_adds f label (spelled_sum spelled_term sum ++ (sign first ∷ (spelled_signs signs ++ (number k ∷ [])))) _ (name n)
    (factored (further sum first signs) k n ∙ ap (λ l. l ++ (name n ∷ [])) (append_assoc (spelled_sum spelled_term sum) (sign first ∷ spelled_signs signs) (number k ∷ [])))
keeps_r_factor f label sum first signs k _ = tt

keeps_r_compared : (f : Front) (label : Option Name) (sum : Sum Term) (c : Comparison) (signs : List Sign) (s : Symbol) → Keeps (r_compared f label sum c signs) s
keeps_r_compared f label sum c signs (sign s) = row_adds f label _ _ (sign s) (into (spelled_sum spelled_term sum) (comparison c ∷ spelled_signs signs) _ (sign s) (ap (λ l. comparison c ∷ l) (more_signs signs s)))
keeps_r_compared f label sum c signs (number k) = row_done f (expression_first label sum c (signed_by k signs)) (row_text (r_compared f label sum c signs)) (number k)
    (into (spelled_label label) _ _ (number k) (into (spelled_sum spelled_term sum) (comparison c ∷ spelled_signs signs) _ (number k) refl))
keeps_r_compared f label sum c signs _ = tt

keeps_n_open : (f : Front) (label : Option Name) (v : Signed) (c : Comparison) (o : Open Term) (s : Symbol) → Keeps (n_open f label v c o) s
keeps_n_open f label v c o (sign s) = row_adds f label _ _ (sign s) (into (spelled_signed v) (comparison c ∷ shown_open spelled_term o) _ (sign s) (ap (λ l. comparison c ∷ l) (shown_more spelled_term o s)))
keeps_n_open f label v c o (number k) = row_adds f label _ _ (number k) (into (spelled_signed v) (comparison c ∷ shown_open spelled_term o) _ (number k) refl)
keeps_n_open f label v c o (name n) = row_adds f label _ _ (name n) (into (spelled_signed v) (comparison c ∷ shown_open spelled_term o) _ (name n) (ap (λ l. comparison c ∷ l) (shown_put spelled_term o (named None n) (name n ∷ []) (λ signs. refl))))
keeps_n_open f label v c o _ = tt

keeps_n_factor : (f : Front) (label : Option Name) (v : Signed) (c : Comparison) (o : Open Term) (k : ℕ) (s : Symbol) → Keeps (n_factor f label v c o k) s
keeps_n_factor f label v c o k (name n) = row_adds f label _ _ (name n) (into (spelled_signed v) (comparison c ∷ (shown_open spelled_term o ++ (number k ∷ []))) _ (name n) (ap (λ l. comparison c ∷ l) (factored o k n)))
keeps_n_factor f label v c o k _ = tt

second_adds : (f : Front) (label : Option Name) (v : Signed) (c e : Comparison) (sum : Sum Term) → Keeps (n_sum f label v c sum) (comparison e)
second_adds f label v at_most at_most sum = row_adds f label _ _ (comparison at_most) (into (spelled_signed v) (comparison at_most ∷ spelled_sum spelled_term sum) _ (comparison at_most) refl)
second_adds f label v at_least at_least sum = row_adds f label _ _ (comparison at_least) (into (spelled_signed v) (comparison at_least ∷ spelled_sum spelled_term sum) _ (comparison at_least) refl)
second_adds f label v at_most at_least sum = tt
second_adds f label v at_most equal sum = tt
second_adds f label v at_least at_most sum = tt
second_adds f label v at_least equal sum = tt
second_adds f label v equal e sum = tt

keeps_n_sum : (f : Front) (label : Option Name) (v : Signed) (c : Comparison) (sum : Sum Term) (s : Symbol) → Keeps (n_sum f label v c sum) s
keeps_n_sum f label v c sum (sign s) = row_adds f label _ _ (sign s) (into (spelled_signed v) (comparison c ∷ spelled_sum spelled_term sum) _ (sign s) refl)
keeps_n_sum f label v c sum (comparison e) = second_adds f label v c e sum
keeps_n_sum f label v c sum (name n) = ap (λ l. l ++ (name n ∷ [])) (shown_with_row f (number_first label v c sum))
keeps_n_sum f label v c sum (number k) = ap (λ l. l ++ (number k ∷ [])) (shown_with_row f (number_first label v c sum))
keeps_n_sum f label v c sum (word w) = subst (λ l. Adds (from_word (with_row f (number_first label v c sum)) [] w) l (word w)) (shown_with_row f (number_first label v c sum)) (keeps_r_row (with_row f (number_first label v c sum)) (word w))
keeps_n_sum f label v c sum _ = tt

keeps_n_compared : (f : Front) (label : Option Name) (v : Signed) (d : Direction) (sum : Sum Term) (signs : List Sign) (s : Symbol) → Keeps (n_compared f label v d sum signs) s
keeps_n_compared f label v d sum signs (sign s) = row_adds f label _ _ (sign s) (into (spelled_signed v) _ _ (sign s) (into (comparison (comparison_of d) ∷ spelled_sum spelled_term sum) (comparison (comparison_of d) ∷ spelled_signs signs) _ (sign s) (ap (λ l. comparison (comparison_of d) ∷ l) (more_signs signs s))))
keeps_n_compared f label v d sum signs (number k) = row_done f (ranged label v d sum (signed_by k signs)) (row_text (n_compared f label v d sum signs)) (number k)
    (into (spelled_label label) _ _ (number k) (into (spelled_signed v) _ _ (number k) (into (comparison (comparison_of d) ∷ spelled_sum spelled_term sum) (comparison (comparison_of d) ∷ spelled_signs signs) _ (number k) refl)))
keeps_n_compared f label v d sum signs _ = tt

-- parts

keeps_p_generals : (f : Front) (parts : List Part) (names : List Name) (s : Symbol) → Keeps (p_generals f parts names) s
keeps_p_generals f parts names (name n) = into (shown_parts f parts) (word sections.Generals ∷ map name names) _ (name n) (ap (λ l. word sections.Generals ∷ l) (map-append name names (n ∷ [])))
keeps_p_generals f parts names (word w) = subst (λ l. Adds (from_word f (parts ++ generals names ∷ []) w) l (word w)) (shown_with_part f parts (generals names)) (word_adds f (parts ++ generals names ∷ []) w)
keeps_p_generals f parts names _ = tt

keeps_p_binaries : (f : Front) (parts : List Part) (names : List Name) (s : Symbol) → Keeps (p_binaries f parts names) s
keeps_p_binaries f parts names (name n) = into (shown_parts f parts) (word sections.Binaries ∷ map name names) _ (name n) (ap (λ l. word sections.Binaries ∷ l) (map-append name names (n ∷ [])))
keeps_p_binaries f parts names (word w) = subst (λ l. Adds (from_word f (parts ++ binaries names ∷ []) w) l (word w)) (shown_with_part f parts (binaries names)) (word_adds f (parts ++ binaries names ∷ []) w)
keeps_p_binaries f parts names _ = tt

keeps_b_signs : (w : Within) (signs : List Sign) (s : Symbol) → Keeps (b_signs w signs) s
keeps_b_signs w signs (sign s) = into (shown_within w) (spelled_signs signs) _ (sign s) (more_signs signs s)
keeps_b_signs w signs (number k) = into (shown_within w) (spelled_signs signs) _ (number k) refl
keeps_b_signs w signs infinity = into (shown_within w) (spelled_signs signs) _ infinity refl
keeps_b_signs w signs _ = tt

keeps_p_bounds : (w : Within) (s : Symbol) → Keeps (p_bounds w) s
keeps_p_bounds w (name n) = refl
keeps_p_bounds w (sign s) = refl
keeps_p_bounds w (number k) = refl
keeps_p_bounds w infinity = refl
keeps_p_bounds w (word s) = subst (λ l. Adds (from_word w.front (w.parts ++ bounds w.so_far ∷ []) s) l (word s)) (shown_with_part w.front w.parts (bounds w.so_far)) (word_adds w.front (w.parts ++ bounds w.so_far ∷ []) s)
keeps_p_bounds w _ = tt

keeps_b_value : (w : Within) (v : Value) (s : Symbol) → Keeps (b_value w v) s
keeps_b_value w v (comparison c) = into (shown_within w) (spelled_value v) _ (comparison c) refl
keeps_b_value w v _ = tt

keeps_b_compared : (w : Within) (v : Value) (c : Comparison) (s : Symbol) → Keeps (b_compared w v c) s
keeps_b_compared w v c (name n) = into (shown_within w) (spelled_value v ++ (comparison c ∷ [])) _ (name n) (sym (append_assoc (spelled_value v) (comparison c ∷ []) (name n ∷ [])))
keeps_b_compared w v c _ = tt

half_adds : (w : Within) (v : Value) (c e : Comparison) (n : Name) → Keeps (b_half w v c n) (comparison e)
half_adds w v at_most at_most n = into (shown_within w) (spelled_value v ++ (comparison at_most ∷ name n ∷ [])) _ (comparison at_most) (sym (append_assoc (spelled_value v) (comparison at_most ∷ name n ∷ []) (comparison at_most ∷ [])))
half_adds w v at_least at_least n = into (shown_within w) (spelled_value v ++ (comparison at_least ∷ name n ∷ [])) _ (comparison at_least) (sym (append_assoc (spelled_value v) (comparison at_least ∷ name n ∷ []) (comparison at_least ∷ [])))
half_adds w v at_most at_least n = tt
half_adds w v at_most equal n = tt
half_adds w v at_least at_most n = tt
half_adds w v at_least equal n = tt
half_adds w v equal e n = tt

keeps_b_half : (w : Within) (v : Value) (c : Comparison) (n : Name) (s : Symbol) → Keeps (b_half w v c n) s
keeps_b_half w v c n (comparison e) = half_adds w v c e n
keeps_b_half w v c n (name m) = ap (λ l. l ++ (name m ∷ [])) (shown_with_bound w (value_first v c n))
keeps_b_half w v c n (sign s) = ap (λ l. l ++ (sign s ∷ [])) (shown_with_bound w (value_first v c n))
keeps_b_half w v c n (number k) = ap (λ l. l ++ (number k ∷ [])) (shown_with_bound w (value_first v c n))
keeps_b_half w v c n infinity = ap (λ l. l ++ (infinity ∷ [])) (shown_with_bound w (value_first v c n))
keeps_b_half w v c n (word s) = subst (λ l. Adds (from_word w.front (w.parts ++ bounds (w.so_far ++ value_first v c n ∷ []) ∷ []) s) l (word s)) (shown_with_bound w (value_first v c n)) (keeps_p_bounds (with_bound w (value_first v c n)) (word s))
keeps_b_half w v c n _ = tt

keeps_b_between : (w : Within) (v : Value) (d : Direction) (n : Name) (signs : List Sign) (s : Symbol) → Keeps (b_between w v d n signs) s
keeps_b_between w v d n signs (sign s) = into (shown_within w) _ _ (sign s) (into (spelled_value v) (comparison (comparison_of d) ∷ name n ∷ comparison (comparison_of d) ∷ spelled_signs signs) _ (sign s) (ap (λ l. comparison (comparison_of d) ∷ name n ∷ comparison (comparison_of d) ∷ l) (more_signs signs s)))
keeps_b_between w v d n signs (number k) = bound_done w (between v d n (finite (signed_by k signs))) _ (number k) (into (spelled_value v) (comparison (comparison_of d) ∷ name n ∷ comparison (comparison_of d) ∷ spelled_signs signs) _ (number k) refl)
keeps_b_between w v d n signs infinity = bound_done w (between v d n (endless signs)) _ infinity (into (spelled_value v) (comparison (comparison_of d) ∷ name n ∷ comparison (comparison_of d) ∷ spelled_signs signs) _ infinity refl)
keeps_b_between w v d n signs _ = tt

free_adds : (w : Within) (n m : Name) (b : Bool) → Adds (free_word w n m b) (shown (b_name w n)) (name m)
free_adds w n m true = bound_done w (free n m) (name n ∷ []) (name m) refl
free_adds w n m false = tt

keeps_b_name : (w : Within) (n : Name) (s : Symbol) → Keeps (b_name w n) s
keeps_b_name w n (comparison c) = into (shown_within w) (name n ∷ []) _ (comparison c) refl
keeps_b_name w n (name m) = free_adds w n m (is_free m)
keeps_b_name w n _ = tt

keeps_b_named : (w : Within) (n : Name) (c : Comparison) (signs : List Sign) (s : Symbol) → Keeps (b_named w n c signs) s
keeps_b_named w n c signs (sign s) = into (shown_within w) (name n ∷ comparison c ∷ spelled_signs signs) _ (sign s) (ap (λ l. name n ∷ comparison c ∷ l) (more_signs signs s))
keeps_b_named w n c signs (number k) = bound_done w (name_first n c (finite (signed_by k signs))) (name n ∷ comparison c ∷ spelled_signs signs) (number k) refl
keeps_b_named w n c signs infinity = bound_done w (name_first n c (endless signs)) (name n ∷ comparison c ∷ spelled_signs signs) infinity refl
keeps_b_named w n c signs _ = tt

pub keeps : (x : Stage) (s : Symbol) → Keeps x s
keeps start s = keeps_start s
keeps (o_word b) s = keeps_o_word b s
keeps (o_name b n) s = keeps_o_name b n s
keeps (o_open b label o) s = keeps_o_open b label o s
keeps (o_number b label o k) s = keeps_o_number b label o k s
keeps (o_sum b label sum) s = keeps_o_sum b label sum s
keeps (r_row f) s = keeps_r_row f s
keeps (r_name f n) s = keeps_r_name f n s
keeps (r_signs f label signs) s = keeps_r_signs f label signs s
keeps (r_number f label signs k) s = keeps_r_number f label signs k s
keeps (r_open f label sum t signs) s = keeps_r_open f label sum t signs s
keeps (r_factor f label sum t signs k) s = keeps_r_factor f label sum t signs k s
keeps (r_sum f label sum) s = keeps_r_sum f label sum s
keeps (r_compared f label sum c signs) s = keeps_r_compared f label sum c signs s
keeps (n_open f label v c o) s = keeps_n_open f label v c o s
keeps (n_factor f label v c o k) s = keeps_n_factor f label v c o k s
keeps (n_sum f label v c sum) s = keeps_n_sum f label v c sum s
keeps (n_compared f label v d sum signs) s = keeps_n_compared f label v d sum signs s
keeps (p_generals f parts names) s = keeps_p_generals f parts names s
keeps (p_binaries f parts names) s = keeps_p_binaries f parts names s
keeps (p_bounds w) s = keeps_p_bounds w s
keeps (b_signs w signs) s = keeps_b_signs w signs s
keeps (b_value w v) s = keeps_b_value w v s
keeps (b_compared w v c) s = keeps_b_compared w v c s
keeps (b_half w v c n) s = keeps_b_half w v c n s
keeps (b_between w v d n signs) s = keeps_b_between w v d n signs s
keeps (b_name w n) s = keeps_b_name w n s
keeps (b_named w n c signs) s = keeps_b_named w n c signs s
keeps (done t) s = tt
