-- What is assembled is the blocking of the decomposition and the cuts.
use Rattle.std.proofs.Common.{◌≡◌, ℕ, Bool, true, false, if◌then◌else◌, List, [], ◌∷◌, ◌++◌, map, filter, drop, length, Option, Some, None, All, refl, sym, ap, subst, ◌∙◌, ⊎_elim, arith, replicate, length-append}
use Rattle.std.specs.Prelude.{option_map}
use Rattle.std.specs.List.{range_with_len, AllByRecursion, zip, flat_map}
use Rattle.std.proofs.lemmas.Bool.Decides.{eqb_tells}
use Rattle.std.proofs.lemmas.List.{length-map, map-append}
use Rattle.std.proofs.lemmas.List.Elements.{recursion_from_All, All-nil}
use Rattle.std.proofs.lemmas.List.FromFn.{length-range_with_len}
use Rattle.bp_theory.specs.Program.{Program, KeepsActivity}
use Rattle.bp_theory.specs.Blocking.{Block, sides_of}
use Rattle.bp_theory.specs.Decomposition.{Decomposition, ProofRow, whole_row, link_row, links_of, full_row, proof_row, members, lone_variables, lone_block, blocking_of, rows_of, row_with_places, is_block, is_in, is_first, IsPlace, HasPlaces, HasLargeLinks, IsMisplaced, IsFirstMisplaced, link_count, copy_of, HasVariablesBelow, IsTidyFrom}
use Rattle.bp_theory.specs.Cuts.{cut_rows}
use Rattle.bp_theory.specs.declared.Cut.{Cut}
use Rattle.bp_theory.specs.declared.Row.{Row}
use Rattle.bp_theory.specs.declared.MasterRow.{MasterRow}
use Rattle.bp_model.specs.Named.{NamedProgram, IsKept}
use Rattle.bp_model.specs.Dec.{HasListed}
use Rattle.block_program.specs.Blocked.{RootBlock, BlockedProgram, HaveRootSpans, IsFormed, AreMade, AreParts}
use Rattle.block_program.specs.Cuts.{KeepsCuts, IsSmallCut, AreCutRows}
use Rattle.block_build.specs.Gather.{all_sides, link_sides, named_sides, IsElsewhere, IsFirstElsewhere}
use Rattle.block_build.specs.Homes.{AreHomes}
use Rattle.block_build.specs.Source.{IsSource, block_in, rows_in}
use Rattle.block_build.specs.declared.source.Source.{Source}
use Rattle.block_build.proofs.FormLemmas.{first_misplaced, none_misplaced}
use Rattle.block_program.proofs.StandLemmas.{passing_few}

-- ---- lone blocks

not_past : (blocks : ℕ) (place : Option ℕ) → IsPlace blocks place → is_block blocks place ≡ false
not_past blocks None h = refl
not_past blocks (Some j) h = ⊎_elim (λ same. absurd (let none : ⊥ = omega (arith, h, same.1) in none)) (λ other. other.0) (eqb_tells j blocks)

no_rows_past : (blocks : ℕ) (rows : List Row) (places : List (Option ℕ)) → AllByRecursion (IsPlace blocks) places
    → filter (λ (e : Row × Option ℕ). is_block blocks e.1) (zip rows places) ≡ []
no_rows_past blocks [] places h = refl
no_rows_past blocks (row ∷ rows) [] h = refl
no_rows_past blocks (row ∷ rows) (place ∷ places) h =
    ap (λ b. if b then (row, place) ∷ filter (λ (e : Row × Option ℕ). is_block blocks e.1) (zip rows places) else filter (λ (e : Row × Option ℕ). is_block blocks e.1) (zip rows places))
    (not_past blocks place h.0)
    ∙ no_rows_past blocks rows places h.1

pub no_lone_rows : (p : Program) (d : Decomposition) → HasPlaces p d → rows_of p d d.blocks ≡ []
no_lone_rows p d places =
    ap (map (λ (e : Row × Option ℕ). e.0)) (no_rows_past d.blocks p.rows d.places (recursion_from_All (IsPlace d.blocks) d.places places.known))

lone_is : (s : Source) (v : ℕ) → HasPlaces s.model.now.program s.dec.now → is_first s.model.now.program s.dec.now v s.dec.now.blocks ≡ true
    → block_in s s.dec.now.blocks (v ∷ []) ≡ lone_block s.model.now.program s.dec.now (rows_in s) v
lone_is s v places first =
    let p = s.model.now.program in
    let d = s.dec.now in
    ap (λ (b : Bool). record { copies = copy_of p (rows_in s) b v d.blocks ∷ []; rows = map (row_with_places (v ∷ [])) (rows_of p d d.blocks) }) first
    ∙ ap (λ (rows : List Row). record { copies = copy_of p (rows_in s) true v d.blocks ∷ []; rows = map (row_with_places (v ∷ [])) rows })
    (no_lone_rows p d places)

map_same : {X Y : Type 0} (f g : X → Y) (xs : List X) → AllByRecursion (λ x. f x ≡ g x) xs → map f xs ≡ map g xs
map_same f g [] h = refl
map_same f g (x ∷ xs) h = ap (λ y. y ∷ map f xs) h.0 ∙ ap (λ ys. g x ∷ ys) (map_same f g xs h.1)

passing_all : (P : ℕ → Type 0) (q : ℕ → Bool) → ((v : ℕ) → q v ≡ true → P v) → (xs : List ℕ) → AllByRecursion P (filter q xs)
passing_all P q f [] = tt
passing_all P q f (x ∷ xs) = by (q x) refl (passing_all P q f xs)
  where
    by : (b : Bool) → q x ≡ b → AllByRecursion P (filter q xs) → AllByRecursion P (if b then x ∷ filter q xs else filter q xs)
    by true is rest = (f x is, rest)
    by false is rest = rest

lones_are : (s : Source) → HasPlaces s.model.now.program s.dec.now
    → map (λ v. block_in s s.dec.now.blocks (v ∷ [])) (lone_variables s.model.now.program s.dec.now)
    ≡ map (lone_block s.model.now.program s.dec.now (rows_in s)) (lone_variables s.model.now.program s.dec.now)
lones_are s places =
    let p = s.model.now.program in
    let d = s.dec.now in
    map_same (λ v. block_in s d.blocks (v ∷ [])) (lone_block p d (rows_in s)) (lone_variables p d)
    (passing_all (λ v. block_in s d.blocks (v ∷ []) ≡ lone_block p d (rows_in s) v) (λ v. is_first p d v d.blocks) (λ v first. lone_is s v places first) (range_with_len 0 (length p.spans)))

-- ---- the sides of the rows of proofs

own_sides : (rows : List Row) (places : List (Option ℕ))
    → map (option_map sides_of) (map full_row (map (λ (e : Row × Option ℕ). proof_row e.0 e.1) (zip rows places))) ≡ map (λ (e : Row × Option ℕ). named_sides e.0 e.1) (zip rows places)
own_sides [] places = refl
own_sides (row ∷ rows) [] = refl
own_sides (row ∷ rows) (None ∷ places) = ap (λ (rs : List (Option MasterRow)). Some (sides_of row) ∷ rs) (own_sides rows places)
own_sides (row ∷ rows) (Some k ∷ places) = ap (λ (rs : List (Option MasterRow)). None ∷ rs) (own_sides rows places)

all_links : List ProofRow → Type 0
all_links rows = AllByRecursion (λ (r : ProofRow). option_map sides_of (full_row r) ≡ Some link_sides) rows

links_append : (xs ys : List ProofRow) → all_links xs → all_links ys → all_links (xs ++ ys)
unfolding all_links
links_append [] ys h g = g
links_append (x ∷ xs) ys h g = (h.0, links_append xs ys h.1 g)

links_of_one : (v : ℕ) (ks : List ℕ) → all_links (map (link_row v) ks)
unfolding all_links
links_of_one v [] = tt
links_of_one v (k ∷ ks) = (refl, links_of_one v ks)

links_of_all : (p : Program) (d : Decomposition) (vs : List ℕ) → all_links (flat_map (links_of p d) vs)
unfolding all_links
links_of_all p d [] = tt
links_of_all p d (v ∷ vs) =
    links_append (links_of p d v) (flat_map (links_of p d) vs)
    (links_of_one v (drop 1 (filter (is_in p d v) (range_with_len 0 d.blocks)))) (links_of_all p d vs)

link_rows_sides : (rows : List ProofRow) → all_links rows → map (option_map sides_of) (map full_row rows) ≡ replicate (length rows) (Some link_sides)
unfolding all_links
link_rows_sides [] h = refl
link_rows_sides (r ∷ rows) h =
    ap (λ (x : Option MasterRow). x ∷ map (option_map sides_of) (map full_row rows)) h.0 ∙ ap (λ (xs : List (Option MasterRow)). Some link_sides ∷ xs) (link_rows_sides rows h.1)

cut_sides : (cuts : List Row) → map (option_map sides_of) (map full_row (map whole_row cuts)) ≡ map (λ (cut : Row). Some (sides_of cut)) cuts
cut_sides [] = refl
cut_sides (cut ∷ cuts) = ap (λ (rs : List (Option MasterRow)). Some (sides_of cut) ∷ rs) (cut_sides cuts)

sides_are : (s : Source) (links : ℕ) → links ≡ link_count s.model.now.program s.dec.now
    → all_sides s.model.now.program.rows s.dec.now.places links s.cuts.now ≡ map (option_map sides_of) (map full_row (rows_in s))
sides_are s links links_is =
    let p = s.model.now.program in
    let d = s.dec.now in
    let X : List ProofRow = map (λ (e : Row × Option ℕ). proof_row e.0 e.1) (zip p.rows d.places) in
    let Y : List ProofRow = flat_map (links_of p d) (range_with_len 0 (length p.spans)) in
    let Z : List ProofRow = map whole_row s.cuts.now in
    let f : List ProofRow → List (Option MasterRow) = λ rows. map (option_map sides_of) (map full_row rows) in
    let split : (xs ys : List ProofRow) → f (xs ++ ys) ≡ f xs ++ f ys =
    λ xs ys. ap (map (option_map sides_of)) (map-append full_row xs ys) ∙ map-append (option_map sides_of) (map full_row xs) (map full_row ys) in
    ap (λ n. all_sides p.rows d.places n s.cuts.now) links_is
    ∙ ap (λ (xs : List (Option MasterRow)). (xs ++ replicate (length Y) (Some link_sides)) ++ map (λ (cut : Row). Some (sides_of cut)) s.cuts.now) (sym (own_sides p.rows d.places))
    ∙ ap (λ (ys : List (Option MasterRow)). (f X ++ ys) ++ map (λ (cut : Row). Some (sides_of cut)) s.cuts.now) (sym (link_rows_sides Y (links_of_all p d (range_with_len 0 (length p.spans)))))
    ∙ ap (λ (zs : List (Option MasterRow)). (f X ++ f Y) ++ zs) (sym (cut_sides s.cuts.now))
    ∙ sym (split (X ++ Y) Z ∙ ap (λ (xs : List (Option MasterRow)). xs ++ f Z) (split X Y))

-- ---- what is made

pub made : (s : Source) (own all shown : List RootBlock) (named given : List (Option MasterRow)) (links : ℕ) → IsSource s
    → links ≡ link_count s.model.now.program s.dec.now
    → map (λ (k : RootBlock). k.block) own ≡ map (λ k. block_in s k (members s.model.now.program s.dec.now k)) (range_with_len 0 s.dec.now.blocks)
    → map (λ (k : RootBlock). k.block) all ≡ map (λ (k : RootBlock). k.block) own
    ++ map (λ v. block_in s s.dec.now.blocks (v ∷ [])) (lone_variables s.model.now.program s.dec.now)
    → HaveRootSpans s.model.now.program.spans all → shown ≡ all → named ≡ all_sides s.model.now.program.rows s.dec.now.places links s.cuts.now → given ≡ named
    → AreMade s.model.now s.dec.now s.cuts.now shown given
made s own all shown named given links source links_is own_are all_are root shown_are named_are given_are =
    let p = s.model.now.program in
    let d = s.dec.now in
    let front : List Block = map (λ k. block_in s k (members p d k)) (range_with_len 0 d.blocks) in
    let back : List Block = map (λ v. block_in s d.blocks (v ∷ [])) (lone_variables p d) in
    let together : map (λ (k : RootBlock). k.block) shown ≡ front ++ back =
    ap (λ (bs : List RootBlock). map (λ (k : RootBlock). k.block) bs) shown_are ∙ all_are ∙ ap (λ (bs : List Block). bs ++ back) own_are in
    let blocks : map (λ (k : RootBlock). k.block) shown ≡ (blocking_of p d s.cuts.now).blocks = together ∙ ap (λ (bs : List Block). front ++ bs) (lones_are s source.places) in
    record {
      count = omega (
        arith,
        length-map shown (λ (k : RootBlock). k.block),
        ap (λ (bs : List Block). length bs) together,
        length-append front back,
        length-map (range_with_len 0 d.blocks) (λ k. block_in s k (members p d k)),
        length-map (lone_variables p d) (λ v. block_in s d.blocks (v ∷ [])),
        length-range_with_len 0 d.blocks,
        passing_few (λ v. is_first p d v d.blocks) (length p.spans),
        source.kept.variables,
        source.few,
      );
      blocking = ap (λ (bs : List Block). record { constant = p.constant; blocks = bs; rows = given }) blocks
          ∙ ap (λ (rs : List (Option MasterRow)). record { constant = p.constant; blocks = (blocking_of p d s.cuts.now).blocks; rows = rs })
          (given_are ∙ named_are ∙ sides_are s links links_is);
      spans = subst (λ (bs : List RootBlock). HaveRootSpans p.spans bs) (sym shown_are) root;
    }

-- the same by what the source is of
pub made_here : (m : NamedProgram) (d : Decomposition) (s : Source) (blocks : List RootBlock) (rows : List (Option MasterRow)) → s.model.now ≡ m → s.dec.now ≡ d → s.cuts.now ≡ []
    → AreMade s.model.now s.dec.now s.cuts.now blocks rows → AreMade m d [] blocks rows
made_here m d s blocks rows model_is dec_is cuts_are h =
    subst (λ (cs : List Row). AreMade m d cs blocks rows) cuts_are
    (subst (λ (e : Decomposition). AreMade m e s.cuts.now blocks rows) dec_is (subst (λ (n : NamedProgram). AreMade n s.dec.now s.cuts.now blocks rows) model_is h))

pub large_at : (m : NamedProgram) (d : Decomposition) (s : Source) → s.model.now ≡ m → s.dec.now ≡ d → HasLargeLinks s.model.now.program s.dec.now → HasLargeLinks m.program d
large_at m d s model_is dec_is h =
    subst (λ (e : Decomposition). HasLargeLinks m.program e) dec_is (subst (λ (n : NamedProgram). HasLargeLinks n.program s.dec.now) model_is h)

pub homes_at : (m : NamedProgram) (d : Decomposition) (s : Source) → s.model.now ≡ m → s.dec.now ≡ d → IsSource s → AreHomes m.program d s.homes.items
homes_at m d s model_is dec_is h =
    subst (λ (e : Decomposition). AreHomes m.program e s.homes.items) dec_is
    (subst (λ (n : NamedProgram). AreHomes n.program s.dec.now s.homes.items) model_is h.homes)

pub kept_at : (m : NamedProgram) (s : Source) → s.model.now ≡ m → IsSource s → IsKept m
kept_at m s model_is h = subst IsKept model_is h.kept

-- ---- programs in blocks

no_cuts : (p : Program) (d : Decomposition) → KeepsCuts p d []
no_cuts p d = record { few = omega arith; small = All-nil IsSmallCut; fitting = tt; bounded = All-nil (KeepsActivity p) }

pub no_cut_rows : (p : Program) → AreCutRows p []
no_cut_rows p = record { few = omega arith; below = All-nil (λ (row : Row). HasVariablesBelow (length p.spans) row.terms); tidy = All-nil (λ (row : Row). IsTidyFrom 0 row.terms) }

-- what is made of a model and a decomposition is a program in blocks without cuts
pub parts_bare : (m : NamedProgram) (d : Decomposition) (blocks : List RootBlock) (rows : List (Option MasterRow)) → IsKept m → HasPlaces m.program d
    → (HasLargeLinks m.program d → ⊥) → AreMade m d [] blocks rows → AreParts m d [] blocks rows
parts_bare m d blocks rows kept places moderate made = record {
  formed = record {
    kept = kept;
    places = places;
    count = omega (arith, made.count, length-map blocks (λ (k : RootBlock). k.block));
    moderate = moderate;
    cuts_kept = no_cuts m.program d;
    blocking = made.blocking;
  };
  spans = made.spans;
}

-- and so is what is made with other cuts
pub parts_cut : (b : BlockedProgram) (cuts : List Cut) (blocks : List RootBlock) (rows : List (Option MasterRow)) → IsFormed b → KeepsCuts b.named.program b.dec cuts
    → AreMade b.named b.dec (cut_rows b.named.program b.dec [] cuts) blocks rows → AreParts b.named b.dec cuts blocks rows
parts_cut b cuts blocks rows formed kept made = record {
  formed = record {
    kept = formed.kept;
    places = formed.places;
    count = omega (arith, made.count, length-map blocks (λ (k : RootBlock). k.block));
    moderate = formed.moderate;
    cuts_kept = kept;
    blocking = made.blocking;
  };
  spans = made.spans;
}

-- ---- the same where slices show the parts

pub first_misplaced_at : (p : Program) (d : Decomposition) (homes shown : List (List ℕ)) (listed : List (ℕ × Option ℕ)) (v : ℕ) → shown ≡ homes → listed ≡ d.listed
    → AreHomes p d homes → HasListed p d → IsFirstElsewhere shown listed v → IsFirstMisplaced p d v
first_misplaced_at p d homes shown listed v shown_are listed_are h below first =
    first_misplaced p d homes v h (λ k e l. (below k e l).0)
    (subst (λ (es : List (ℕ × Option ℕ)). IsFirstElsewhere homes es v) listed_are
    (subst (λ (hs : List (List ℕ)). IsFirstElsewhere hs listed v) shown_are first))

pub none_misplaced_at : (p : Program) (d : Decomposition) (homes shown : List (List ℕ)) (listed : List (ℕ × Option ℕ)) → shown ≡ homes → listed ≡ d.listed
    → AreHomes p d homes → HasListed p d → All (λ e. IsElsewhere shown e → ⊥) listed → All (λ e. IsMisplaced p d e → ⊥) d.listed
none_misplaced_at p d homes shown listed shown_are listed_are h below none =
    none_misplaced p d homes h (λ k e l. (below k e l).0)
    (subst (λ (es : List (ℕ × Option ℕ)). All (λ e. IsElsewhere homes e → ⊥) es) listed_are
    (subst (λ (hs : List (List ℕ)). All (λ e. IsElsewhere hs e → ⊥) listed) shown_are none))
