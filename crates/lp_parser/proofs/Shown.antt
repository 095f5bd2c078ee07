-- What each stage of the automaton has read.
use Rattle.std.proofs.Common.{◌≡◌, Bool, List, [], ◌∷◌, ◌++◌, map, refl, ◌∙◌, ap, append_assoc, Option, None, Some}
use Rattle.std.proofs.lemmas.List.{append-nil, map-append}
use Rattle.std.proofs.lemmas.Grind.{flat_map-append}
use Rattle.std.specs.Prelude.{flat_map, if◌then◌else◌}
use Rattle.lp_token.specs.declared.Section.TheVariants as sections
use Rattle.lp_syntax.specs.Tree.{Symbol, word, name, number, sign, comparison, Item, Sum, Bound, value_first, name_first, between, free, Part, bounds, generals, binaries, Written, placed, headed, comparison_of, spelled_label, spelled_signs, spelled_signed, spelled_term, spelled_item, spelled_sum, spelled_row, spelled_value, written_row, written_bound, written_part, written_word, written, spelling}
use Rattle.lp_syntax.specs.declared.tree.Sign.{Sign}
use Rattle.lp_syntax.specs.declared.tree.Site.{Site}
use Rattle.lp_syntax.specs.declared.tree.Site.TheVariants.{ObjectiveFirst as objective_first, ObjectiveMore as objective_more, RowFirst as row_first, RowMore as row_more, Listed as listed, Other as other}
use Rattle.lp_parser.specs.Parser.{Open, opening, further, more_sign, put, Front, tree_of, Within, Stage, start, o_word, o_name, o_open, o_number, o_sum, r_row, r_name, r_signs, r_number, r_open, r_factor, r_sum, r_compared, n_open, n_factor, n_sum, n_compared, p_generals, p_binaries, p_bounds, b_signs, b_value, b_compared, b_half, b_between, b_name, b_named, done}

-- the symbols of what is written
symbols_of : List Written → List Symbol
symbols_of ws = map (λ w. w.symbol) ws

placed_symbols : (site : Site) (xs : List Symbol) → map (λ w. w.symbol) (placed site xs) ≡ xs
placed_symbols site [] = refl
placed_symbols site (x ∷ xs) = ap (λ l. x ∷ l) (placed_symbols site xs)

headed_symbols : (first more : Site) (xs : List Symbol) → map (λ w. w.symbol) (headed first more xs) ≡ xs
headed_symbols first more [] = refl
headed_symbols first more (x ∷ xs) = ap (λ l. x ∷ l) (placed_symbols more xs)

flat_symbols : {A : Type 0} (f : A → List Written) (g : A → List Symbol) → ((a : A) → map (λ w. w.symbol) (f a) ≡ g a) → (xs : List A) → map (λ w. w.symbol) (flat_map f xs) ≡ flat_map g xs
flat_symbols f g h [] = refl
flat_symbols f g h (x ∷ xs) = map-append (λ w. w.symbol) (f x) (flat_map f xs) ∙ ap (λ l. l ++ map (λ w. w.symbol) (flat_map f xs)) (h x) ∙ ap (λ l. g x ++ l) (flat_symbols f g h xs)

abbrev pub spelled_bound : Bound → List Symbol
spelled_bound (value_first v c n) = spelled_value v ++ (comparison c ∷ name n ∷ [])
spelled_bound (name_first n c v) = name n ∷ comparison c ∷ spelled_value v
spelled_bound (between v d n w) = spelled_value v ++ (comparison (comparison_of d) ∷ name n ∷ comparison (comparison_of d) ∷ spelled_value w)
spelled_bound (free n w) = name n ∷ name w ∷ []

bound_symbols : (b : Bound) → map (λ w. w.symbol) (written_bound b) ≡ spelled_bound b
bound_symbols (value_first v c n) = map-append _ (placed other (spelled_value v ++ (comparison c ∷ []))) _ ∙ ap (λ l. l ++ (name n ∷ [])) (placed_symbols other _) ∙ append_assoc (spelled_value v) _ _
bound_symbols (name_first n c v) = ap (λ l. name n ∷ comparison c ∷ l) (placed_symbols other (spelled_value v))
bound_symbols (between v d n w) = map-append _ (placed other (spelled_value v ++ (comparison (comparison_of d) ∷ []))) _
    ∙ ap (λ l. l ++ (name n ∷ comparison (comparison_of d) ∷ map (λ w. w.symbol) (placed other (spelled_value w)))) (placed_symbols other _)
    ∙ append_assoc (spelled_value v) _ _
    ∙ ap (λ l. spelled_value v ++ (comparison (comparison_of d) ∷ name n ∷ comparison (comparison_of d) ∷ l)) (placed_symbols other (spelled_value w))
bound_symbols (free n w) = refl

abbrev pub spelled_part : Part → List Symbol
spelled_part (bounds bs) = word sections.Bounds ∷ flat_map spelled_bound bs
spelled_part (generals ns) = word sections.Generals ∷ map name ns
spelled_part (binaries ns) = word sections.Binaries ∷ map name ns

part_symbols : (p : Part) → map (λ w. w.symbol) (written_part p) ≡ spelled_part p
part_symbols (bounds bs) = ap (λ l. word sections.Bounds ∷ l) (flat_symbols written_bound spelled_bound bound_symbols bs)
part_symbols (generals ns) = ap (λ l. word sections.Generals ∷ l) (placed_symbols listed (map name ns))
part_symbols (binaries ns) = ap (λ l. word sections.Binaries ∷ l) (placed_symbols listed (map name ns))

abbrev pub first_word : Bool → Symbol
first_word b = word (if b then sections.Maximize else sections.Minimize)

abbrev pub spelled_objective : Option (Sum Item) → List Symbol
spelled_objective None = []
spelled_objective (Some e) = spelled_sum spelled_item e

abbrev pub shown_front : Front → List Symbol
shown_front f = first_word f.maximises ∷ (spelled_label f.label ++ (spelled_objective f.objective ++ (word sections.Rows ∷ flat_map spelled_row f.rows)))

abbrev pub shown_parts : Front → List Part → List Symbol
shown_parts f parts = shown_front f ++ flat_map spelled_part parts

five : (a b r p e : List Symbol) (w : Symbol) → (a ++ b) ++ (w ∷ (r ++ (p ++ e))) ≡ ((a ++ (b ++ (w ∷ r))) ++ p) ++ e
five a b r p e w = simp append_assoc

-- a tree's text, by its front and its parts
pub spelled_as : (f : Front) (parts : List Part) → spelling (tree_of f parts) ≡ shown_parts f parts ++ (word sections.End ∷ [])
unfolding spelling written
spelled_as f parts =
    let head : List Written = headed objective_first objective_more (spelled_label f.label ++ spelled_objective f.objective) in
    let rows : List Written = flat_map written_row f.rows in
    let ps : List Written = flat_map written_part parts in
    let last : List Written = written_word sections.End ∷ [] in
    let h : map (λ w. w.symbol) head ≡ spelled_label f.label ++ spelled_objective f.objective = headed_symbols objective_first objective_more _ in
    let r : map (λ w. w.symbol) rows ≡ flat_map spelled_row f.rows = flat_symbols written_row spelled_row (λ r. headed_symbols row_first row_more (spelled_row r)) f.rows in
    let p : map (λ w. w.symbol) ps ≡ flat_map spelled_part parts = flat_symbols written_part spelled_part part_symbols parts in
    let tail : map (λ w. w.symbol) (ps ++ last) ≡ flat_map spelled_part parts ++ (word sections.End ∷ []) = map-append (λ w. w.symbol) ps last ∙ ap (λ x. x ++ (word sections.End ∷ [])) p in
    let body : map (λ w. w.symbol) (rows ++ (ps ++ last)) ≡ flat_map spelled_row f.rows ++ (flat_map spelled_part parts ++ (word sections.End ∷ [])) = map-append (λ w. w.symbol) rows (ps ++ last) ∙ ap (λ x. x ++ map (λ w. w.symbol) (ps ++ last)) r ∙ ap (λ x. flat_map spelled_row f.rows ++ x) tail in
    ap (λ l. first_word f.maximises ∷ l) (map-append (λ w. w.symbol) head (written_word sections.Rows ∷ (rows ++ (ps ++ last))) ∙ ap (λ x. x ++ (word sections.Rows ∷ map (λ w. w.symbol) (rows ++ (ps ++ last)))) h
    ∙ ap (λ x. (spelled_label f.label ++ spelled_objective f.objective) ++ (word sections.Rows ∷ x)) body
    ∙ five (spelled_label f.label) (spelled_objective f.objective) (flat_map spelled_row f.rows) (flat_map spelled_part parts) (word sections.End ∷ []) (word sections.Rows))

abbrev pub shown_open : {A : Type 0} → (A → List Symbol) → Open A → List Symbol
shown_open spelled (opening signs) = spelled_signs signs
shown_open spelled (further sum s signs) = spelled_sum spelled sum ++ (sign s ∷ spelled_signs signs)

-- one more sign
pub shown_more : {A : Type 0} (spelled : A → List Symbol) (o : Open A) (s : Sign) → shown_open spelled (more_sign o s) ≡ shown_open spelled o ++ (sign s ∷ [])
shown_more spelled (opening signs) s = map-append sign signs (s ∷ [])
shown_more spelled (further sum first signs) s = simp (append_assoc, map-append)

-- a summand at its place
pub shown_put : {A : Type 0} (spelled : A → List Symbol) (o : Open A) (f : List Sign → A) (tail : List Symbol) → ((signs : List Sign) → spelled (f signs) ≡ spelled_signs signs ++ tail) → spelled_sum spelled (put o f) ≡ shown_open spelled o ++ tail
shown_put spelled (opening signs) f tail h = append-nil _ ∙ h signs
shown_put spelled (further sum s signs) f tail h =
    ap (λ l. spelled sum.first ++ l) (flat_map-append (λ m. sign m.0 ∷ spelled m.1) sum.more ((s, f signs) ∷ []) ∙ ap (λ x. flat_map (λ m. sign m.0 ∷ spelled m.1) sum.more ++ (sign s ∷ x)) (append-nil _ ∙ h signs))
    ∙ simp append_assoc

-- the text of the row that is being read
abbrev pub row_text : Stage → List Symbol
row_text (r_name f n) = name n ∷ []
row_text (r_signs f label signs) = spelled_label label ++ spelled_signs signs
row_text (r_number f label signs k) = spelled_label label ++ (spelled_signs signs ++ (number k ∷ []))
row_text (r_open f label sum s signs) = spelled_label label ++ (spelled_sum spelled_term sum ++ (sign s ∷ spelled_signs signs))
row_text (r_factor f label sum s signs k) = spelled_label label ++ (spelled_sum spelled_term sum ++ (sign s ∷ (spelled_signs signs ++ (number k ∷ []))))
row_text (r_sum f label sum) = spelled_label label ++ spelled_sum spelled_term sum
row_text (r_compared f label sum c signs) = spelled_label label ++ (spelled_sum spelled_term sum ++ (comparison c ∷ spelled_signs signs))
row_text (n_open f label v c o) = spelled_label label ++ (spelled_signed v ++ (comparison c ∷ shown_open spelled_term o))
row_text (n_factor f label v c o k) = spelled_label label ++ (spelled_signed v ++ (comparison c ∷ (shown_open spelled_term o ++ (number k ∷ []))))
row_text (n_sum f label v c sum) = spelled_label label ++ (spelled_signed v ++ (comparison c ∷ spelled_sum spelled_term sum))
row_text (n_compared f label v d sum signs) = spelled_label label ++ (spelled_signed v ++ (comparison (comparison_of d) ∷ (spelled_sum spelled_term sum ++ (comparison (comparison_of d) ∷ spelled_signs signs))))
row_text _ = []

abbrev pub shown_within : Within → List Symbol
shown_within w = shown_parts w.front w.parts ++ (word sections.Bounds ∷ flat_map spelled_bound w.so_far)

-- what a stage has read
abbrev pub shown : Stage → List Symbol
shown start = []
shown (o_word b) = first_word b ∷ []
shown (o_name b n) = first_word b ∷ name n ∷ []
shown (o_open b label o) = first_word b ∷ (spelled_label label ++ shown_open spelled_item o)
shown (o_number b label o k) = first_word b ∷ (spelled_label label ++ (shown_open spelled_item o ++ (number k ∷ [])))
shown (o_sum b label sum) = first_word b ∷ (spelled_label label ++ spelled_sum spelled_item sum)
shown (r_row f) = shown_front f
shown (r_name f n) = shown_front f ++ row_text (r_name f n)
shown (r_signs f label signs) = shown_front f ++ row_text (r_signs f label signs)
shown (r_number f label signs k) = shown_front f ++ row_text (r_number f label signs k)
shown (r_open f label sum s signs) = shown_front f ++ row_text (r_open f label sum s signs)
shown (r_factor f label sum s signs k) = shown_front f ++ row_text (r_factor f label sum s signs k)
shown (r_sum f label sum) = shown_front f ++ row_text (r_sum f label sum)
shown (r_compared f label sum c signs) = shown_front f ++ row_text (r_compared f label sum c signs)
shown (n_open f label v c o) = shown_front f ++ row_text (n_open f label v c o)
shown (n_factor f label v c o k) = shown_front f ++ row_text (n_factor f label v c o k)
shown (n_sum f label v c sum) = shown_front f ++ row_text (n_sum f label v c sum)
shown (n_compared f label v d sum signs) = shown_front f ++ row_text (n_compared f label v d sum signs)
shown (p_generals f parts names) = shown_parts f parts ++ (word sections.Generals ∷ map name names)
shown (p_binaries f parts names) = shown_parts f parts ++ (word sections.Binaries ∷ map name names)
shown (p_bounds w) = shown_within w
shown (b_signs w signs) = shown_within w ++ spelled_signs signs
shown (b_value w v) = shown_within w ++ spelled_value v
shown (b_compared w v c) = shown_within w ++ (spelled_value v ++ (comparison c ∷ []))
shown (b_half w v c n) = shown_within w ++ (spelled_value v ++ (comparison c ∷ name n ∷ []))
shown (b_between w v d n signs) = shown_within w ++ (spelled_value v ++ (comparison (comparison_of d) ∷ name n ∷ comparison (comparison_of d) ∷ spelled_signs signs))
shown (b_name w n) = shown_within w ++ (name n ∷ [])
shown (b_named w n c signs) = shown_within w ++ (name n ∷ comparison c ∷ spelled_signs signs)
shown (done t) = spelling t
