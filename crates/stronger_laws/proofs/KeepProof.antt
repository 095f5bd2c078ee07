-- A proof that names rows which stay has the bounds that it had.
use Rattle.std.proofs.Common.{◌≡◌, ◌⊎◌, refl, sym, ap, subst, ◌∙◌, ℕ, zero, suc, Bool, true, List, [], ◌∷◌, ◌++◌, map, length, get_or, Option, Some, None, arith, inl, inr, ⊎_elim}
use Rattle.std.proofs.Math.IntN.{ℤ, pos, ◌+ℤ◌, ◌-ℤ◌, ◌*ℤ◌}
use Rattle.std.specs.Prelude.{option_map, if◌then◌else◌}
use Rattle.std.specs.List.{AllByRecursion, AllZip, zip, flat_map, range_with_len}
use Rattle.std.proofs.lemmas.Int.{ints}
use Rattle.std.proofs.lemmas.List.{append_assoc}
use Rattle.std.proofs.lemmas.List.Elements.{recursion_from_All}
use Rattle.bp_theory.specs.Sums.{sum_of}
use Rattle.bp_theory.specs.Program.{Program, span_at}
use Rattle.bp_theory.specs.Blocking.{Block, coef_in, row_at, sides_of}
use Rattle.bp_theory.specs.Decomposition.{Decomposition, ProofRow, whole_row, no_row, proof_row, links_of, proof_rows, full_row, is_first, members, copy_of, copy_coefficient, block_of, lone_block, lone_variables, blocking_of}
use Rattle.bp_theory.specs.Bound.{spans_of, IsPoint, IsLeast, IsPart, AreParts, reduced_cost, side_at, IsBound, IsEndless, SignFits, SignsFit, is_picked}
use Rattle.bp_theory.specs.Claims.{Holds, Empties}
use Rattle.bp_theory.specs.declared.Span.{Span}
use Rattle.bp_theory.specs.declared.Row.{Row}
use Rattle.bp_theory.specs.declared.MasterRow.{MasterRow}
use Rattle.bp_theory.specs.declared.Proof.{Proof}
use Rattle.bp_theory.proofs.DecompositionProof.{get_or-map_past, coef_in-copy_of}
use Rattle.bp_theory.proofs.ZipLaws.{AllZip-length, AllZip_at}
use Rattle.stronger_laws.specs.WideRows.{wide_rows, blocking_over, wide_blocking}
use Rattle.stronger_laws.specs.Laws.{NamesStay, PricedAlike, NamedRowsKeep, WideRowsKeep}

-- the named rows are the same, multiplier by multiplier
abbrev Stay : List ProofRow → List ProofRow → List (ℕ × ℤ) → Type 0
Stay rows more ms = AllByRecursion (λ (m : ℕ × ℤ). get_or rows m.0 no_row ≡ get_or more m.0 no_row) ms

-- ---- prices

same_taken : (p : Program) (rows more : List ProofRow) (first : Bool) (v k : ℕ) (ms : List (ℕ × ℤ)) → Stay rows more ms
    → sum_of (λ m. m.1 *ℤ coef_in (copy_of p rows first v k) m.0) ms ≡ sum_of (λ m. m.1 *ℤ coef_in (copy_of p more first v k) m.0) ms
same_taken p rows more first v k [] stay = refl
same_taken p rows more first v k (m ∷ ms) stay =
    let same : coef_in (copy_of p rows first v k) m.0 ≡ coef_in (copy_of p more first v k) m.0 =
    coef_in-copy_of p rows first v k m.0 ∙ ap (copy_coefficient first v k) stay.0 ∙ sym (coef_in-copy_of p more first v k m.0) in
    omega (arith, ints, ap (λ z. m.1 *ℤ z) same, same_taken p rows more first v k ms stay.1)

same_price : (p : Program) (rows more : List ProofRow) (proof : Proof) (first : Bool) (v k : ℕ) → Stay rows more proof.mults
    → reduced_cost proof (copy_of p rows first v k) ≡ reduced_cost proof (copy_of p more first v k)
same_price p rows more proof first v k stay =
    ap (λ z. pos proof.scale *ℤ (copy_of p rows first v k).cost -ℤ z) (same_taken p rows more first v k proof.mults stay)

-- two blocks that a proof prices alike in a zone
record ArePricedAlike (zone : List Span) (proof : Proof) (k l : Block) : Type 0 where
  rows : k.rows ≡ l.rows
  spans : spans_of zone k ≡ spans_of zone l
  prices : map (reduced_cost proof) k.copies ≡ map (reduced_cost proof) l.copies

same_maps : {X Y : Type 0} (f g : ℕ → X) (h : X → Y) → ((v : ℕ) → h (f v) ≡ h (g v)) → (vs : List ℕ) → map h (map f vs) ≡ map h (map g vs)
same_maps f g h same [] = refl
same_maps f g h same (v ∷ vs) =
    ap (λ y. y ∷ map h (map f vs)) (same v) ∙ ap (λ ys. h (g v) ∷ ys) (same_maps f g h same vs)

blocks_alike : (zone : List Span) (p : Program) (d : Decomposition) (rows more : List ProofRow) (proof : Proof) (k : ℕ) → Stay rows more proof.mults
    → ArePricedAlike zone proof (block_of p d rows k) (block_of p d more k)
blocks_alike zone p d rows more proof k stay = record {
  rows = refl;
  spans = same_maps (λ v. copy_of p rows (is_first p d v k) v k) (λ v. copy_of p more (is_first p d v k) v k) (λ c. span_at zone c.var) (λ v. refl) (members p d k);
  prices = same_maps (λ v. copy_of p rows (is_first p d v k) v k) (λ v. copy_of p more (is_first p d v k) v k)
      (reduced_cost proof) (λ v. same_price p rows more proof (is_first p d v k) v k stay) (members p d k);
}

lone_alike : (zone : List Span) (p : Program) (d : Decomposition) (rows more : List ProofRow) (proof : Proof) (v : ℕ) → Stay rows more proof.mults
    → ArePricedAlike zone proof (lone_block p d rows v) (lone_block p d more v)
lone_alike zone p d rows more proof v stay = record {
  rows = refl;
  spans = refl;
  prices = ap (λ z. z ∷ []) (same_price p rows more proof true v d.blocks stay);
}

zipped_maps : (R : Block → Block → Type 0) (f g : ℕ → Block) → ((k : ℕ) → R (f k) (g k)) → (ks : List ℕ) → AllZip R (map f ks) (map g ks)
zipped_maps R f g h [] = tt
zipped_maps R f g h (k ∷ ks) = (h k, zipped_maps R f g h ks)

zipped_append : (R : Block → Block → Type 0) (bs cs ds es : List Block) → AllZip R bs cs → AllZip R ds es → AllZip R (bs ++ ds) (cs ++ es)
zipped_append R [] [] ds es h k = k
zipped_append R [] (c ∷ cs) ds es h k = absurd h
zipped_append R (b ∷ bs) [] ds es h k = absurd h
zipped_append R (b ∷ bs) (c ∷ cs) ds es h k = (h.0, zipped_append R bs cs ds es h.1 k)

all_alike : (zone : List Span) (p : Program) (d : Decomposition) (rows more : List ProofRow) (proof : Proof) → Stay rows more proof.mults
    → AllZip (ArePricedAlike zone proof) (blocking_over p d rows).blocks (blocking_over p d more).blocks
all_alike zone p d rows more proof stay =
    zipped_append (ArePricedAlike zone proof) (map (block_of p d rows) (range_with_len 0 d.blocks)) (map (block_of p d more) (range_with_len 0 d.blocks))
    (map (lone_block p d rows) (lone_variables p d)) (map (lone_block p d more) (lone_variables p d))
    (zipped_maps (ArePricedAlike zone proof) (block_of p d rows) (block_of p d more) (λ k. blocks_alike zone p d rows more proof k stay) (range_with_len 0 d.blocks))
    (zipped_maps (ArePricedAlike zone proof) (lone_block p d rows) (lone_block p d more) (λ v. lone_alike zone p d rows more proof v stay) (lone_variables p d))

part_alike : (zone : List Span) (proof : Proof) (k : ℕ) (b c : Block) (v : ℤ) → ArePricedAlike zone proof b c → IsPart zone proof k b v → IsPart zone proof k c v
part_alike zone proof k b c v alike part =
    subst (λ (rows : List Row). IsLeast (by rows) (spans_of zone c) (map (reduced_cost proof) c.copies) v) alike.rows
    (subst (λ (spans : List Span). IsLeast (by b.rows) spans (map (reduced_cost proof) c.copies) v) alike.spans
    (subst (λ costs. IsLeast (by b.rows) (spans_of zone b) costs v) alike.prices part))
  where
    by : List Row → List Row
    by rows = if is_picked proof.picked k then rows else []

pub priced_alike_lem : PricedAlike
priced_alike_lem zone proof j k b c v rows spans prices picked part =
    part_alike zone proof k b c v (record { rows = rows; spans = spans; prices = prices })
    (subst (λ t. IsLeast (if t then b.rows else []) (spans_of zone b) (map (reduced_cost proof) b.copies) v) picked part)

parts_alike : (zone : List Span) (proof : Proof) (k : ℕ) (bs cs : List Block) (vs : List ℤ) → AllZip (ArePricedAlike zone proof) bs cs
    → AreParts zone proof k bs vs → AreParts zone proof k cs vs
parts_alike zone proof k [] [] vs alike parts = parts
parts_alike zone proof k [] (c ∷ cs) vs alike parts = absurd alike
parts_alike zone proof k (b ∷ bs) [] vs alike parts = absurd alike
parts_alike zone proof k (b ∷ bs) (c ∷ cs) [] alike parts = absurd parts
parts_alike zone proof k (b ∷ bs) (c ∷ cs) (v ∷ vs) alike parts =
    (part_alike zone proof k b c v alike.0 parts.0, parts_alike zone proof (suc k) bs cs vs alike.1 parts.1)

-- ---- sides

pub row_at_by : (p : Program) (d : Decomposition) (rows : List ProofRow) (i : ℕ)
    → row_at (blocking_over p d rows) i ≡ option_map sides_of (full_row (get_or rows i no_row))
row_at_by p d rows i =
    get_or-map_past (option_map sides_of) (map full_row rows) i None ∙ ap (option_map sides_of) (get_or-map_past full_row rows i no_row)

same_row_at : (p : Program) (d : Decomposition) (rows more : List ProofRow) (i : ℕ) → get_or rows i no_row ≡ get_or more i no_row
    → row_at (blocking_over p d rows) i ≡ row_at (blocking_over p d more) i
same_row_at p d rows more i e = row_at_by p d rows i ∙ ap (λ (r : ProofRow). option_map sides_of (full_row r)) e ∙ sym (row_at_by p d more i)

same_sides : (p : Program) (d : Decomposition) (rows more : List ProofRow) (ms : List (ℕ × ℤ)) → Stay rows more ms
    → sum_of (λ m. m.1 *ℤ side_at (row_at (blocking_over p d rows) m.0) m.1) ms ≡ sum_of (λ m. m.1 *ℤ side_at (row_at (blocking_over p d more) m.0) m.1) ms
same_sides p d rows more [] stay = refl
same_sides p d rows more (m ∷ ms) stay =
    omega (arith, ints, ap (λ (o : Option MasterRow). m.1 *ℤ side_at o m.1) (same_row_at p d rows more m.0 stay.0), same_sides p d rows more ms stay.1)

-- ---- bounds

bound_stays : (p : Program) (d : Decomposition) (rows more : List ProofRow) (zone : List Span) (proof : Proof) (v : ℤ) → Stay rows more proof.mults
    → IsBound (blocking_over p d rows) zone proof v → IsBound (blocking_over p d more) zone proof v
bound_stays p d rows more zone proof v stay bound = record {
  parts = bound.parts;
  are_parts = parts_alike zone proof 0 (blocking_over p d rows).blocks (blocking_over p d more).blocks bound.parts
      (all_alike zone p d rows more proof stay) bound.are_parts;
  total = bound.total ∙ ap (λ z. pos proof.scale *ℤ p.constant +ℤ z +ℤ sum_of (λ z. z) bound.parts) (same_sides p d rows more proof.mults stay);
}

endless_stays : (p : Program) (d : Decomposition) (rows more : List ProofRow) (zone : List Span) (proof : Proof) → Stay rows more proof.mults
    → IsEndless (blocking_over p d rows) zone proof → IsEndless (blocking_over p d more) zone proof
endless_stays p d rows more zone proof stay endless =
    let alike = all_alike zone p d rows more proof stay in
    let bs : List Block = (blocking_over p d rows).blocks in
    let cs : List Block = (blocking_over p d more).blocks in
    record {
      block = endless.block;
      there = omega (arith, endless.there, AllZip-length (ArePricedAlike zone proof) bs cs alike);
      picked = endless.picked;
      none = λ c y h.
          let at : ArePricedAlike zone proof (get_or bs endless.block c) (get_or cs endless.block c) =
          AllZip_at (ArePricedAlike zone proof) bs cs alike endless.block c c endless.there in
          endless.none c y
          (subst (λ (rows : List Row). IsPoint rows (spans_of zone (get_or bs endless.block c)) y) (sym at.rows)
          (subst (λ (spans : List Span). IsPoint (get_or cs endless.block c).rows spans y) (sym at.spans) h));
    }

stay_from : (rows more : List ProofRow) (proof : Proof) → NamesStay rows more proof → Stay rows more proof.mults
stay_from rows more proof stay = recursion_from_All (λ (m : ℕ × ℤ). get_or rows m.0 no_row ≡ get_or more m.0 no_row) proof.mults stay

signs_stay : (p : Program) (d : Decomposition) (rows more : List ProofRow) (proof : Proof) → NamesStay rows more proof
    → SignsFit (blocking_over p d rows) proof → SignsFit (blocking_over p d more) proof
signs_stay p d rows more proof stay signs = λ k m l.
    subst (λ (o : Option MasterRow). SignFits o (get_or proof.mults k m).1) (same_row_at p d rows more (get_or proof.mults k m).0 (stay k m l)) (signs k m l)

pub named_rows_keep_lem : NamedRowsKeep
named_rows_keep_lem = record {
  signs = signs_stay;
  bound = λ p d rows more zone proof v stay. bound_stays p d rows more zone proof v (stay_from rows more proof stay);
  endless = λ p d rows more zone proof stay. endless_stays p d rows more zone proof (stay_from rows more proof stay);
}

-- ---- wide rows

-- a row beside master rows alone is none, or it stays
own_stays : (rows : List Row) (places : List (Option ℕ)) (rest : List ProofRow) (i : ℕ)
    → (get_or (map (λ (e : Row × Option ℕ). proof_row e.0 e.1) (zip rows places) ++ rest) i no_row ≡ no_row)
    ⊎ (get_or (map (λ (e : Row × Option ℕ). proof_row e.0 e.1) (zip rows places) ++ rest) i no_row
    ≡ get_or (map (λ (e : Row × Option ℕ). whole_row e.0) (zip rows places) ++ rest) i no_row)
own_stays [] places rest i = inr refl
own_stays (row ∷ rows) [] rest i = inr refl
own_stays (row ∷ rows) (None ∷ places) rest zero = inr refl
own_stays (row ∷ rows) (Some k ∷ places) rest zero = inl refl
own_stays (row ∷ rows) (place ∷ places) rest (suc i) = own_stays rows places rest i

row_stays : (p : Program) (d : Decomposition) (cuts : List Row) (i : ℕ)
    → (get_or (proof_rows p d cuts) i no_row ≡ no_row) ⊎ (get_or (proof_rows p d cuts) i no_row ≡ get_or (wide_rows p d cuts) i no_row)
row_stays p d cuts i =
    let masters : List ProofRow = map (λ e. proof_row e.0 e.1) (zip p.rows d.places) in
    let wholes : List ProofRow = map (λ e. whole_row e.0) (zip p.rows d.places) in
    let links : List ProofRow = flat_map (links_of p d) (range_with_len 0 (length p.spans)) in
    let last : List ProofRow = map whole_row cuts in
    let narrow : get_or (proof_rows p d cuts) i no_row ≡ get_or (masters ++ (links ++ last)) i no_row =
    ap (λ (rs : List ProofRow). get_or rs i no_row) (append_assoc masters links last) in
    let wide : get_or (wide_rows p d cuts) i no_row ≡ get_or (wholes ++ (links ++ last)) i no_row =
    ap (λ (rs : List ProofRow). get_or rs i no_row) (append_assoc wholes links last) in
    ⊎_elim (λ none. inl (narrow ∙ none)) (λ same. inr (narrow ∙ same ∙ sym wide)) (own_stays p.rows d.places (links ++ last) i)

wide_named : (p : Program) (d : Decomposition) (cuts : List Row) (i : ℕ) (u : ℤ) → SignFits (row_at (blocking_of p d cuts) i) u
    → get_or (proof_rows p d cuts) i no_row ≡ get_or (wide_rows p d cuts) i no_row
wide_named p d cuts i u fits = ⊎_elim
    (λ none. absurd (subst (λ (o : Option MasterRow). SignFits o u)
    (row_at_by p d (proof_rows p d cuts) i ∙ ap (λ (r : ProofRow). option_map sides_of (full_row r)) none) fits))
    (λ same. same)
    (row_stays p d cuts i)

wide_names_stay : (p : Program) (d : Decomposition) (cuts : List Row) (proof : Proof) → SignsFit (blocking_of p d cuts) proof
    → NamesStay (proof_rows p d cuts) (wide_rows p d cuts) proof
wide_names_stay p d cuts proof signs = λ k m l. wide_named p d cuts (get_or proof.mults k m).0 (get_or proof.mults k m).1 (signs k m l)

wide_holds : (p : Program) (d : Decomposition) (cuts : List Row) (zone : List Span) (proof : Proof) (z : ℤ) → NamesStay (proof_rows p d cuts) (wide_rows p d cuts) proof
    → Holds (blocking_of p d cuts) zone proof z → Holds (wide_blocking p d cuts) zone proof z
wide_holds p d cuts zone proof z stay (inl endless) = inl (named_rows_keep_lem.endless p d (proof_rows p d cuts) (wide_rows p d cuts) zone proof stay endless)
wide_holds p d cuts zone proof z stay (inr found) =
    inr (found.0, named_rows_keep_lem.bound p d (proof_rows p d cuts) (wide_rows p d cuts) zone proof found.0 stay found.1, found.2)

wide_empties : (p : Program) (d : Decomposition) (cuts : List Row) (zone : List Span) (proof : Proof) → NamesStay (proof_rows p d cuts) (wide_rows p d cuts) proof
    → Empties (blocking_of p d cuts) zone proof → Empties (wide_blocking p d cuts) zone proof
wide_empties p d cuts zone proof stay (inl endless) = inl (named_rows_keep_lem.endless p d (proof_rows p d cuts) (wide_rows p d cuts) zone proof stay endless)
wide_empties p d cuts zone proof stay (inr found) =
    inr (found.0, named_rows_keep_lem.bound p d (proof_rows p d cuts) (wide_rows p d cuts) zone proof found.0 stay found.1, found.2, found.3)

pub wide_rows_keep_lem : WideRowsKeep
wide_rows_keep_lem = record {
  signs = λ p d cuts proof signs. signs_stay p d (proof_rows p d cuts) (wide_rows p d cuts) proof (wide_names_stay p d cuts proof signs) signs;
  holds = λ p d cuts zone proof z signs. wide_holds p d cuts zone proof z (wide_names_stay p d cuts proof signs);
  empties = λ p d cuts zone proof signs. wide_empties p d cuts zone proof (wide_names_stay p d cuts proof signs);
}
