-- The rows that cuts may combine are those that a text may name in a cut's line: the model's rows but those of blocks, and the earlier cuts.
use Rattle.std.proofs.Common.{◌≡◌, ℕ, zero, suc, ◌+◌, ◌-◌, ◌<◌, ◌≤◌, Bool, true, false, ◌&&◌, ◌||◌, List, [], ◌∷◌, ◌++◌, map, length, get_or, Option, Some, None, refl, sym, ap, subst, ◌∙◌, ⊎_elim, arith, true≢false, length-append}
use Rattle.std.specs.Prelude.{IsSome, nat_lt, nat_le}
use Rattle.std.specs.List.{range_with_len, flat_map}
use Rattle.std.proofs.lemmas.Bool.{ltb-true, leb-true, lt-ltb, le-leb, cases_lt}
use Rattle.std.proofs.lemmas.List.{get_or_append_left, get_or-append_right}
use Rattle.bp_theory.specs.Program.{Program}
use Rattle.bp_theory.specs.Decomposition.{Decomposition, ProofRow, whole_row, link_row, no_row, links_of, proof_rows}
use Rattle.bp_theory.specs.declared.Row.{Row}
use Rattle.bp_theory.specs.declared.MasterRow.{MasterRow}
use Rattle.block_program.specs.Blocked.{BlockedProgram, IsFormed}
use Rattle.block_program.proofs.NamedRows.{own_rows, own_long}
use Rattle.cert_format.specs.Text.{may_combine}
use Rattle.cert_text.specs.Programs.{IsWhole, masters_of, links_behind, frame_for}
use Rattle.cert_text.proofs.NamedRows.{sides, masters_long, master_at, own_side, links, links_long}

-- ---- rows that are master rows or cuts

-- the row at a place
abbrev row_of : List ProofRow → ℕ → ProofRow
row_of rows r = get_or rows r no_row

whole_some : (rows : List ProofRow) (r : ℕ) → IsWhole (row_of rows r) → IsSome (get_or (sides rows) r None)
whole_some [] r w = absurd w
whole_some (whole_row row ∷ rows) zero w = refl
whole_some (link_row v k ∷ rows) zero w = absurd w
whole_some (no_row ∷ rows) zero w = absurd w
whole_some (row ∷ rows) (suc r) w = whole_some rows r w

some_whole : (rows : List Row) (places : List (Option ℕ)) (r : ℕ) → IsSome (get_or (sides (own_rows rows places)) r None) → IsWhole (row_of (own_rows rows places) r)
some_whole [] places r is = absurd (true≢false (sym is))
some_whole (row ∷ rows) [] r is = absurd (true≢false (sym is))
some_whole (row ∷ rows) (None ∷ places) zero is = tt
some_whole (row ∷ rows) (Some k ∷ places) zero is = absurd (true≢false (sym is))
some_whole (row ∷ rows) (place ∷ places) (suc r) is = some_whole rows places r is

-- no link row is one
no_links : (v : ℕ) (ks : List ℕ) (r : ℕ) → IsWhole (row_of (map (link_row v) ks) r) → ⊥
no_links v [] r w = w
no_links v (k ∷ ks) zero w = w
no_links v (k ∷ ks) (suc r) w = no_links v ks r w

none_of_both : (xs ys : List ProofRow) → ((r : ℕ) → IsWhole (row_of xs r) → ⊥) → ((r : ℕ) → IsWhole (row_of ys r) → ⊥) → (r : ℕ) → IsWhole (row_of (xs ++ ys) r) → ⊥
none_of_both [] ys one other r w = other r w
none_of_both (x ∷ xs) ys one other zero w = one 0 w
none_of_both (x ∷ xs) ys one other (suc r) w = none_of_both xs ys (λ k. one (suc k)) other r w

no_link : (p : Program) (d : Decomposition) (vs : List ℕ) (r : ℕ) → IsWhole (row_of (flat_map (links_of p d) vs) r) → ⊥
no_link p d [] r w = w
no_link p d (v ∷ vs) r w = none_of_both (links_of p d v) (flat_map (links_of p d) vs) (no_links v _) (no_link p d vs) r w

-- each cut is one
cuts_whole : (rows : List Row) (r : ℕ) → r < length rows → IsWhole (row_of (map whole_row rows) r)
cuts_whole [] r there = absurd (let none : ⊥ = omega (arith, there) in none)
cuts_whole (row ∷ rows) zero there = tt
cuts_whole (row ∷ rows) (suc r) there = cuts_whole rows r (omega (arith, there))

within_cuts : (rows : List Row) (r : ℕ) → IsWhole (row_of (map whole_row rows) r) → r < length rows
within_cuts [] r w = absurd w
within_cuts (row ∷ rows) zero w = omega arith
within_cuts (row ∷ rows) (suc r) w = let rest = within_cuts rows r w in omega (arith, rest)

-- ---- the rows of proofs, part by part

abbrev own : BlockedProgram → List ProofRow
own b = own_rows b.named.program.rows b.dec.places

-- the rows of proofs where there are these cuts
abbrev all_rows : BlockedProgram → List Row → List ProofRow
all_rows b earlier = proof_rows b.named.program b.dec earlier

own_there : (b : BlockedProgram) → IsFormed b → (earlier : List Row) (r : ℕ) → r < length b.named.program.rows → row_of (all_rows b earlier) r ≡ row_of (own b) r
unfolding links
own_there b formed earlier r there =
    let long = own_long b.named.program.rows b.dec.places formed.places.each in
    get_or_append_left (own b ++ links b) (map whole_row earlier) no_row r (omega (arith, there, long, length-append (own b) (links b)))
    ∙ get_or_append_left (own b) (links b) no_row r (omega (arith, there, long))

link_there : (b : BlockedProgram) → IsFormed b → (earlier : List Row) (r : ℕ) → length b.named.program.rows ≤ r → r < length b.named.program.rows + links_behind b
    → row_of (all_rows b earlier) r ≡ row_of (links b) (r - length b.named.program.rows)
unfolding links
link_there b formed earlier r past there =
    let long = own_long b.named.program.rows b.dec.places formed.places.each in
    get_or_append_left (own b ++ links b) (map whole_row earlier) no_row r (omega (arith, there, long, length-append (own b) (links b), links_long b formed))
    ∙ get_or-append_right (own b) (links b) (length b.named.program.rows) r no_row long past

cut_there : (b : BlockedProgram) → IsFormed b → (earlier : List Row) (r : ℕ) → length b.named.program.rows + links_behind b ≤ r
    → row_of (all_rows b earlier) r ≡ row_of (map whole_row earlier) (r - (length b.named.program.rows + links_behind b))
unfolding links
cut_there b formed earlier r past =
    let long = own_long b.named.program.rows b.dec.places formed.places.each in
    get_or-append_right (own b ++ links b) (map whole_row earlier) (length b.named.program.rows + links_behind b) r no_row
    (omega (arith, long, length-append (own b) (links b), links_long b formed)) past

-- no link row may be combined
no_link_there : (b : BlockedProgram) (r : ℕ) → IsWhole (row_of (links b) (r - length b.named.program.rows)) → ⊥
unfolding links
no_link_there b r there = no_link b.named.program b.dec (range_with_len 0 (length b.named.program.spans)) (r - length b.named.program.rows) there

-- ---- the rows that a cut's line may name

-- what may be named of a list of the model's rows, of so many link rows and of so many cuts
abbrev joins : List Bool → ℕ → ℕ → ℕ → Bool
joins masters links cuts row =
    (nat_le row (length masters) && (nat_lt 0 row && get_or masters (row - 1) false)) || (nat_lt (length masters + links) row && nat_le row (length masters + links + cuts))

own_joins : (masters : List Bool) (links cuts r : ℕ) → r < length masters → joins masters links cuts (r + 1) ≡ get_or masters r false
own_joins masters links cuts r there =
    let same : r + 1 - 1 ≡ r = omega arith in
    by (nat_le (r + 1) (length masters)) (nat_lt 0 (r + 1)) (get_or masters (r + 1 - 1) false) (nat_lt (length masters + links) (r + 1)) (nat_le (r + 1) (length masters + links + cuts))
    (le-leb (r + 1) (length masters) (omega (arith, there))) (lt-ltb 0 (r + 1) (omega arith))
    (not_past (nat_lt (length masters + links) (r + 1)) refl)
    ∙ ap (λ (n : ℕ). get_or masters n false) same
  where
    by : (w x y u v : Bool) → w ≡ true → x ≡ true → u ≡ false → ((w && (x && y)) || (u && v)) ≡ y
    by true true true false v p q e = refl
    by true true false false v p q e = refl
    by true true y true v p q e = absurd (true≢false e)
    by true false y u v p q e = absurd (true≢false (sym q))
    by false x y u v p q e = absurd (true≢false (sym p))

    not_past : (u : Bool) → nat_lt (length masters + links) (r + 1) ≡ u → u ≡ false
    not_past true e = absurd (let less : length masters + links < r + 1 = ltb-true (length masters + links) (r + 1) e in let none : ⊥ = omega (arith, less, there) in none)
    not_past false e = refl

cut_joins : (masters : List Bool) (links cuts r : ℕ) → length masters ≤ r → joins masters links cuts (r + 1) ≡ (nat_lt (length masters + links) (r + 1) && nat_le (r + 1) (length masters + links + cuts))
cut_joins masters links cuts r past =
    by (nat_le (r + 1) (length masters)) (nat_lt 0 (r + 1) && get_or masters (r + 1 - 1) false) (nat_lt (length masters + links) (r + 1) && nat_le (r + 1) (length masters + links + cuts))
    (not_own (nat_le (r + 1) (length masters)) refl)
  where
    by : (w x u : Bool) → w ≡ false → ((w && x) || u) ≡ u
    by false x u p = refl
    by true x u p = absurd (true≢false p)

    not_own : (w : Bool) → nat_le (r + 1) (length masters) ≡ w → w ≡ false
    not_own true e = absurd (let low : r + 1 ≤ length masters = leb-true (r + 1) (length masters) e in let none : ⊥ = omega (arith, low, past) in none)
    not_own false e = refl

both_are : (a b : Bool) → (a && b) ≡ true → (a ≡ true) × (b ≡ true)
both_are true true e = (refl, refl)
both_are true false e = absurd (true≢false (sym e))
both_are false b e = absurd (true≢false (sym e))

are_both : (a b : Bool) → a ≡ true → b ≡ true → (a && b) ≡ true
are_both true true p q = refl
are_both true false p q = absurd (true≢false (sym q))
are_both false b p q = absurd (true≢false (sym p))

-- what a cut's line may name, a cut may combine
pub combined_of_text : (b : BlockedProgram) → IsFormed b → (earlier : List Row) (r : ℕ) → may_combine (frame_for b) (length earlier) (r + 1) ≡ true → IsWhole (row_of (all_rows b earlier) r)
combined_of_text b formed earlier r is = ⊎_elim
    (λ inside.
    let name = sym (own_joins (masters_of b) (links_behind b) (length earlier) r (omega (arith, inside, masters_long b))) ∙ is in
    subst IsWhole (sym (own_there b formed earlier r inside))
    (some_whole b.named.program.rows b.dec.places r
    (subst (λ (row : Option MasterRow). IsSome row) (own_side b formed r inside) (sym (master_at b r inside) ∙ name))))
    (λ past.
    let name = sym (cut_joins (masters_of b) (links_behind b) (length earlier) r (omega (arith, past, masters_long b))) ∙ is in
    let tests = both_are (nat_lt (length (masters_of b) + links_behind b) (r + 1)) (nat_le (r + 1) (length (masters_of b) + links_behind b + length earlier)) name in
    let low = ltb-true (length (masters_of b) + links_behind b) (r + 1) tests.0 in
    let high = leb-true (r + 1) (length (masters_of b) + links_behind b + length earlier) tests.1 in
    subst IsWhole (sym (cut_there b formed earlier r (omega (arith, low, masters_long b))))
    (cuts_whole earlier (r - (length b.named.program.rows + links_behind b)) (omega (arith, low, high, masters_long b))))
    (cases_lt r (length b.named.program.rows))

-- what a cut may combine, its line may name
pub text_of_combined : (b : BlockedProgram) → IsFormed b → (earlier : List Row) (r : ℕ) → IsWhole (row_of (all_rows b earlier) r) → may_combine (frame_for b) (length earlier) (r + 1) ≡ true
text_of_combined b formed earlier r w = ⊎_elim
    (λ inside.
    own_joins (masters_of b) (links_behind b) (length earlier) r (omega (arith, inside, masters_long b))
    ∙ master_at b r inside
    ∙ subst (λ (row : Option MasterRow). IsSome row) (sym (own_side b formed r inside)) (whole_some (own b) r (subst IsWhole (own_there b formed earlier r inside) w)))
    (λ past. ⊎_elim
    (λ linked. absurd (no_link_there b r (subst IsWhole (link_there b formed earlier r past linked) w)))
    (λ behind.
    let within = within_cuts earlier (r - (length b.named.program.rows + links_behind b)) (subst IsWhole (cut_there b formed earlier r behind) w) in
    cut_joins (masters_of b) (links_behind b) (length earlier) r (omega (arith, past, masters_long b))
    ∙ are_both (nat_lt (length (masters_of b) + links_behind b) (r + 1)) (nat_le (r + 1) (length (masters_of b) + links_behind b + length earlier))
    (lt-ltb (length (masters_of b) + links_behind b) (r + 1) (omega (arith, behind, masters_long b)))
    (le-leb (r + 1) (length (masters_of b) + links_behind b + length earlier) (omega (arith, within, behind, masters_long b))))
    (cases_lt r (length b.named.program.rows + links_behind b)))
    (cases_lt r (length b.named.program.rows))
