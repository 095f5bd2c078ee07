-- Further cuts change no bound of a proof that fits without them.
use Rattle.std.proofs.Common.{◌≡◌, refl, sym, ap, subst, ◌∙◌, ℕ, suc, ◌<◌, Bool, true, false, List, [], ◌∷◌, ◌++◌, map, length, get_or, Option, Some, None, arith, inl, inr, ⊎_elim}
use Rattle.std.proofs.Math.IntN.{ℤ, pos, ◌+ℤ◌, ◌-ℤ◌, ◌*ℤ◌}
use Rattle.std.specs.Prelude.{All, is_some, IsSome, IfSome, option_map, if◌then◌else◌}
use Rattle.std.specs.List.{AllByRecursion, AllZip, zip, flat_map, range_with_len}
use Rattle.std.proofs.lemmas.Bool.{cases_lt}
use Rattle.std.proofs.lemmas.Int.{ints}
use Rattle.std.proofs.lemmas.List.{append_assoc, map-append, get_or_append_left, get_or_past}
use Rattle.std.proofs.lemmas.List.Elements.{All-from_recursion, recursion_from_All}
use Rattle.bp_theory.specs.Sums.{sum_of}
use Rattle.bp_theory.specs.Program.{Program, span_at}
use Rattle.bp_theory.specs.Blocking.{Block, coef_in, row_at, sides_of}
use Rattle.bp_theory.specs.Decomposition.{Decomposition, ProofRow, whole_row, no_row, proof_row, links_of, proof_rows, full_row, is_first, members, copy_of, copy_coefficient, block_of, lone_block, lone_variables, blocking_of}
use Rattle.bp_theory.specs.Bound.{spans_of, IsPoint, IsLeast, IsPart, AreParts, reduced_cost, side_at, IsBound, IsEndless, SignFits, Fits, ArePicked, is_picked}
use Rattle.bp_theory.specs.Cuts.{cut_row, cut_rows}
use Rattle.bp_theory.specs.Claims.{Holds}
use Rattle.bp_theory.specs.declared.Span.{Span}
use Rattle.bp_theory.specs.declared.Row.{Row}
use Rattle.bp_theory.specs.declared.MasterRow.{MasterRow}
use Rattle.bp_theory.specs.declared.Proof.{Proof}
use Rattle.bp_theory.specs.declared.Cut.{Cut}
use Rattle.bp_theory.proofs.DecompositionProof.{get_or-map_past, coef_in-copy_of}
use Rattle.bp_theory.proofs.ZipLaws.{AllZip-length, AllZip_at}
use Rattle.search_laws.specs.Grove.{GrowingTree, GrowingLeaf, growing_leaves}
use Rattle.search_laws.specs.GroveFacts.{IsSoundProof, KeepsBound, IsKept, Settles, SettlesIfShut, IsSearch, best_cost}
use Rattle.search_laws.specs.Laws.{FurtherCutsKeep}

-- rows of proofs with further cuts are the former ones and more
more_rows : (p : Program) (d : Decomposition) (cuts more : List Row) → proof_rows p d (cuts ++ more) ≡ proof_rows p d cuts ++ map whole_row more
more_rows p d cuts more =
    let own : List ProofRow = map (λ e. proof_row e.0 e.1) (zip p.rows d.places) ++ flat_map (links_of p d) (range_with_len 0 (length p.spans)) in
    ap (λ (rs : List ProofRow). own ++ rs) (map-append whole_row cuts more) ∙ sym (append_assoc own (map whole_row cuts) (map whole_row more))

-- a row that proofs may name, by its kind
row_at_by : (p : Program) (d : Decomposition) (cuts : List Row) (i : ℕ)
    → row_at (blocking_of p d cuts) i ≡ option_map sides_of (full_row (get_or (proof_rows p d cuts) i no_row))
row_at_by p d cuts i =
    get_or-map_past (option_map sides_of) (map full_row (proof_rows p d cuts)) i None
    ∙ ap (option_map sides_of) (get_or-map_past full_row (proof_rows p d cuts) i no_row)

-- the former rows keep their numbers
row_stays : (p : Program) (d : Decomposition) (cuts more : List Row) (i : ℕ) → i < length (proof_rows p d cuts)
    → get_or (proof_rows p d (cuts ++ more)) i no_row ≡ get_or (proof_rows p d cuts) i no_row
row_stays p d cuts more i l =
    ap (λ (rs : List ProofRow). get_or rs i no_row) (more_rows p d cuts more)
    ∙ get_or_append_left (proof_rows p d cuts) (map whole_row more) no_row i l

-- a row that proofs may name is there
named_is_there : (p : Program) (d : Decomposition) (cuts : List Row) (i : ℕ) → IsSome (row_at (blocking_of p d cuts) i) → i < length (proof_rows p d cuts)
named_is_there p d cuts i h = ⊎_elim
    (λ there. there)
    (λ past. absurd (nothing (sym (ap (λ (o : Option MasterRow). is_some o)
    (row_at_by p d cuts i ∙ ap (λ (r : ProofRow). option_map sides_of (full_row r)) (get_or_past (proof_rows p d cuts) i no_row past))) ∙ h)))
    (cases_lt i (length (proof_rows p d cuts)))
  where
    nothing : false ≡ true → ⊥
    nothing e = cc

-- each multiplier's row is there
abbrev AreThere : Program → Decomposition → List Row → List (ℕ × ℤ) → Type 0
AreThere p d cuts ms = AllByRecursion (λ (m : ℕ × ℤ). m.0 < length (proof_rows p d cuts)) ms

fitting_are_there : (p : Program) (d : Decomposition) (cuts : List Row) (proof : Proof) → Fits (blocking_of p d cuts) proof → AreThere p d cuts proof.mults
fitting_are_there p d cuts proof fits =
    recursion_from_All (λ (m : ℕ × ℤ). m.0 < length (proof_rows p d cuts)) proof.mults
    (λ k m l. named_is_there p d cuts (get_or proof.mults k m).0 (fits.rows k m l))

-- ---- prices

-- what a copy's multipliers times coefficients add up to
same_taken : (p : Program) (d : Decomposition) (cuts more : List Row) (first : Bool) (v k : ℕ) (ms : List (ℕ × ℤ)) → AreThere p d cuts ms
    → sum_of (λ m. m.1 *ℤ coef_in (copy_of p (proof_rows p d cuts) first v k) m.0) ms
    ≡ sum_of (λ m. m.1 *ℤ coef_in (copy_of p (proof_rows p d (cuts ++ more)) first v k) m.0) ms
same_taken p d cuts more first v k [] there = refl
same_taken p d cuts more first v k (m ∷ ms) there =
    let same : coef_in (copy_of p (proof_rows p d cuts) first v k) m.0 ≡ coef_in (copy_of p (proof_rows p d (cuts ++ more)) first v k) m.0 =
    coef_in-copy_of p (proof_rows p d cuts) first v k m.0
    ∙ ap (copy_coefficient first v k) (sym (row_stays p d cuts more m.0 there.0))
    ∙ sym (coef_in-copy_of p (proof_rows p d (cuts ++ more)) first v k m.0) in
    omega (arith, ints, ap (λ z. m.1 *ℤ z) same, same_taken p d cuts more first v k ms there.1)

same_price : (p : Program) (d : Decomposition) (cuts more : List Row) (proof : Proof) (first : Bool) (v k : ℕ) → AreThere p d cuts proof.mults
    → reduced_cost proof (copy_of p (proof_rows p d cuts) first v k) ≡ reduced_cost proof (copy_of p (proof_rows p d (cuts ++ more)) first v k)
same_price p d cuts more proof first v k there =
    ap (λ z. pos proof.scale *ℤ (copy_of p (proof_rows p d cuts) first v k).cost -ℤ z) (same_taken p d cuts more first v k proof.mults there)

-- two blocks that a proof prices alike in a zone
record ArePricedAlike (zone : List Span) (proof : Proof) (k l : Block) : Type 0 where
  rows : k.rows ≡ l.rows
  spans : spans_of zone k ≡ spans_of zone l
  prices : map (reduced_cost proof) k.copies ≡ map (reduced_cost proof) l.copies

-- maps of maps that agree
same_maps : {X Y : Type 0} (f g : ℕ → X) (h : X → Y) → ((v : ℕ) → h (f v) ≡ h (g v)) → (vs : List ℕ) → map h (map f vs) ≡ map h (map g vs)
same_maps f g h same [] = refl
same_maps f g h same (v ∷ vs) =
    ap (λ y. y ∷ map h (map f vs)) (same v) ∙ ap (λ ys. h (g v) ∷ ys) (same_maps f g h same vs)

blocks_alike : (zone : List Span) (p : Program) (d : Decomposition) (cuts more : List Row) (proof : Proof) (k : ℕ) → AreThere p d cuts proof.mults
    → ArePricedAlike zone proof (block_of p d (proof_rows p d cuts) k) (block_of p d (proof_rows p d (cuts ++ more)) k)
blocks_alike zone p d cuts more proof k there = record {
  rows = refl;
  spans = same_maps (λ v. copy_of p (proof_rows p d cuts) (is_first p d v k) v k) (λ v. copy_of p (proof_rows p d (cuts ++ more)) (is_first p d v k) v k)
      (λ c. span_at zone c.var) (λ v. refl) (members p d k);
  prices = same_maps (λ v. copy_of p (proof_rows p d cuts) (is_first p d v k) v k) (λ v. copy_of p (proof_rows p d (cuts ++ more)) (is_first p d v k) v k)
      (reduced_cost proof) (λ v. same_price p d cuts more proof (is_first p d v k) v k there) (members p d k);
}

lone_alike : (zone : List Span) (p : Program) (d : Decomposition) (cuts more : List Row) (proof : Proof) (v : ℕ) → AreThere p d cuts proof.mults
    → ArePricedAlike zone proof (lone_block p d (proof_rows p d cuts) v) (lone_block p d (proof_rows p d (cuts ++ more)) v)
lone_alike zone p d cuts more proof v there = record {
  rows = refl;
  spans = refl;
  prices = ap (λ z. z ∷ []) (same_price p d cuts more proof true v d.blocks there);
}

zipped_maps : (R : Block → Block → Type 0) (f g : ℕ → Block) → ((k : ℕ) → R (f k) (g k)) → (ks : List ℕ) → AllZip R (map f ks) (map g ks)
zipped_maps R f g h [] = tt
zipped_maps R f g h (k ∷ ks) = (h k, zipped_maps R f g h ks)

zipped_append : (R : Block → Block → Type 0) (bs cs ds es : List Block) → AllZip R bs cs → AllZip R ds es → AllZip R (bs ++ ds) (cs ++ es)
zipped_append R [] [] ds es h k = k
zipped_append R [] (c ∷ cs) ds es h k = absurd h
zipped_append R (b ∷ bs) [] ds es h k = absurd h
zipped_append R (b ∷ bs) (c ∷ cs) ds es h k = (h.0, zipped_append R bs cs ds es h.1 k)

all_alike : (zone : List Span) (p : Program) (d : Decomposition) (cuts more : List Row) (proof : Proof) → AreThere p d cuts proof.mults
    → AllZip (ArePricedAlike zone proof) (blocking_of p d cuts).blocks (blocking_of p d (cuts ++ more)).blocks
all_alike zone p d cuts more proof there =
    zipped_append (ArePricedAlike zone proof) (map (block_of p d (proof_rows p d cuts)) (range_with_len 0 d.blocks))
    (map (block_of p d (proof_rows p d (cuts ++ more))) (range_with_len 0 d.blocks))
    (map (lone_block p d (proof_rows p d cuts)) (lone_variables p d)) (map (lone_block p d (proof_rows p d (cuts ++ more))) (lone_variables p d))
    (zipped_maps (ArePricedAlike zone proof) (block_of p d (proof_rows p d cuts)) (block_of p d (proof_rows p d (cuts ++ more)))
    (λ k. blocks_alike zone p d cuts more proof k there) (range_with_len 0 d.blocks))
    (zipped_maps (ArePricedAlike zone proof) (lone_block p d (proof_rows p d cuts)) (lone_block p d (proof_rows p d (cuts ++ more)))
    (λ v. lone_alike zone p d cuts more proof v there) (lone_variables p d))

part_alike : (zone : List Span) (proof : Proof) (k : ℕ) (b c : Block) (v : ℤ) → ArePricedAlike zone proof b c → IsPart zone proof k b v → IsPart zone proof k c v
part_alike zone proof k b c v alike part =
    subst (λ (rows : List Row). IsLeast (by rows) (spans_of zone c) (map (reduced_cost proof) c.copies) v) alike.rows
    (subst (λ (spans : List Span). IsLeast (by b.rows) spans (map (reduced_cost proof) c.copies) v) alike.spans
    (subst (λ costs. IsLeast (by b.rows) (spans_of zone b) costs v) alike.prices part))
  where
    by : List Row → List Row
    by rows = if is_picked proof.picked k then rows else []

parts_alike : (zone : List Span) (proof : Proof) (k : ℕ) (bs cs : List Block) (vs : List ℤ) → AllZip (ArePricedAlike zone proof) bs cs
    → AreParts zone proof k bs vs → AreParts zone proof k cs vs
parts_alike zone proof k [] [] vs alike parts = parts
parts_alike zone proof k [] (c ∷ cs) vs alike parts = absurd alike
parts_alike zone proof k (b ∷ bs) [] vs alike parts = absurd alike
parts_alike zone proof k (b ∷ bs) (c ∷ cs) [] alike parts = absurd parts
parts_alike zone proof k (b ∷ bs) (c ∷ cs) (v ∷ vs) alike parts =
    (part_alike zone proof k b c v alike.0 parts.0, parts_alike zone proof (suc k) bs cs vs alike.1 parts.1)

-- the row of a number stays
same_row_at : (p : Program) (d : Decomposition) (cuts more : List Row) (i : ℕ) → i < length (proof_rows p d cuts)
    → row_at (blocking_of p d cuts) i ≡ row_at (blocking_of p d (cuts ++ more)) i
same_row_at p d cuts more i l =
    row_at_by p d cuts i ∙ ap (λ (r : ProofRow). option_map sides_of (full_row r)) (sym (row_stays p d cuts more i l)) ∙ sym (row_at_by p d (cuts ++ more) i)

-- what multipliers times sides add up to
same_sides : (p : Program) (d : Decomposition) (cuts more : List Row) (ms : List (ℕ × ℤ)) → AreThere p d cuts ms
    → sum_of (λ m. m.1 *ℤ side_at (row_at (blocking_of p d cuts) m.0) m.1) ms
    ≡ sum_of (λ m. m.1 *ℤ side_at (row_at (blocking_of p d (cuts ++ more)) m.0) m.1) ms
same_sides p d cuts more [] there = refl
same_sides p d cuts more (m ∷ ms) there =
    omega (arith, ints, ap (λ (o : Option MasterRow). m.1 *ℤ side_at o m.1) (same_row_at p d cuts more m.0 there.0), same_sides p d cuts more ms there.1)

bound_stays : (p : Program) (d : Decomposition) (cuts more : List Row) (zone : List Span) (proof : Proof) (v : ℤ) → Fits (blocking_of p d cuts) proof
    → IsBound (blocking_of p d cuts) zone proof v → IsBound (blocking_of p d (cuts ++ more)) zone proof v
bound_stays p d cuts more zone proof v fits bound =
    let there : AreThere p d cuts proof.mults = fitting_are_there p d cuts proof fits in
    record {
      parts = bound.parts;
      are_parts = parts_alike zone proof 0 (blocking_of p d cuts).blocks (blocking_of p d (cuts ++ more)).blocks bound.parts
          (all_alike zone p d cuts more proof there) bound.are_parts;
      total = bound.total ∙ ap (λ z. pos proof.scale *ℤ p.constant +ℤ z +ℤ sum_of (λ z. z) bound.parts) (same_sides p d cuts more proof.mults there);
    }

endless_stays : (p : Program) (d : Decomposition) (cuts more : List Row) (zone : List Span) (proof : Proof) → Fits (blocking_of p d cuts) proof
    → IsEndless (blocking_of p d cuts) zone proof → IsEndless (blocking_of p d (cuts ++ more)) zone proof
endless_stays p d cuts more zone proof fits endless =
    let alike = all_alike zone p d cuts more proof (fitting_are_there p d cuts proof fits) in
    let bs : List Block = (blocking_of p d cuts).blocks in
    let cs : List Block = (blocking_of p d (cuts ++ more)).blocks in
    record {
      block = endless.block;
      there = omega (arith, endless.there, AllZip-length (ArePricedAlike zone proof) bs cs alike);
      picked = endless.picked;
      none = λ c y h.
          let at : ArePricedAlike zone proof (get_or bs endless.block c) (get_or cs endless.block c) =
          AllZip_at (ArePricedAlike zone proof) bs cs alike endless.block c c endless.there in
          endless.none c y
          (subst (λ (rows : List Row). IsPoint rows (spans_of zone (get_or bs endless.block c)) y) (sym at.rows)
          (subst (λ (spans : List Span). IsPoint (get_or cs endless.block c).rows spans y) (sym at.spans) h));
    }

sound_stays : (p : Program) (d : Decomposition) (cuts more : List Row) (proof : Proof) → IsSoundProof (blocking_of p d cuts) proof
    → IsSoundProof (blocking_of p d (cuts ++ more)) proof
sound_stays p d cuts more proof sound =
    let there : All (λ (m : ℕ × ℤ). m.0 < length (proof_rows p d cuts)) proof.mults =
    All-from_recursion (λ (m : ℕ × ℤ). m.0 < length (proof_rows p d cuts)) proof.mults (fitting_are_there p d cuts proof sound.fits) in
    record {
      fits = record {
        scale = sound.fits.scale;
        sizes = sound.fits.sizes;
        nonzero = sound.fits.nonzero;
        rows = λ k m l. subst (λ (o : Option MasterRow). IsSome o) (same_row_at p d cuts more (get_or proof.mults k m).0 (there k m l)) (sound.fits.rows k m l);
        ascend = sound.fits.ascend;
        picked = subst (λ n. ArePicked n proof.picked)
            (AllZip-length (ArePricedAlike [] proof) (blocking_of p d cuts).blocks (blocking_of p d (cuts ++ more)).blocks
            (all_alike [] p d cuts more proof (fitting_are_there p d cuts proof sound.fits))) sound.fits.picked;
      };
      signs = λ k m l.
          subst (λ (o : Option MasterRow). SignFits o (get_or proof.mults k m).1) (same_row_at p d cuts more (get_or proof.mults k m).0 (there k m l)) (sound.signs k m l);
    }

holds_stays : (p : Program) (d : Decomposition) (cuts more : List Row) (zone : List Span) (proof : Proof) (z : ℤ) → Fits (blocking_of p d cuts) proof
    → Holds (blocking_of p d cuts) zone proof z → Holds (blocking_of p d (cuts ++ more)) zone proof z
holds_stays p d cuts more zone proof z fits (inl endless) = inl (endless_stays p d cuts more zone proof fits endless)
holds_stays p d cuts more zone proof z fits (inr found) = inr (found.0, bound_stays p d cuts more zone proof found.0 fits found.1, found.2)

settles_stays : (p : Program) (d : Decomposition) (cuts more : List Row) (best : Option ℤ) (zone : List Span) (proof : Proof) → Fits (blocking_of p d cuts) proof
    → Settles (blocking_of p d cuts) best zone proof → Settles (blocking_of p d (cuts ++ more)) best zone proof
settles_stays p d cuts more None zone proof fits (inl endless) = inl (endless_stays p d cuts more zone proof fits endless)
settles_stays p d cuts more None zone proof fits (inr found) = inr (found.0, bound_stays p d cuts more zone proof found.0 fits found.1, found.2, found.3)
settles_stays p d cuts more (Some z) zone proof fits h = holds_stays p d cuts more zone proof z fits h

kept_stays : (p : Program) (d : Decomposition) (cuts more : List Row) (zone : List Span) (proof : Proof) (bound : Option ℤ) → Fits (blocking_of p d cuts) proof
    → IfSome bound (KeepsBound (blocking_of p d cuts) zone proof) → IfSome bound (KeepsBound (blocking_of p d (cuts ++ more)) zone proof)
kept_stays p d cuts more zone proof None fits h = tt
kept_stays p d cuts more zone proof (Some z) fits h = record { scale = h.scale; holds = holds_stays p d cuts more zone proof z fits h.holds; size = h.size }

settled_stays : (p : Program) (d : Decomposition) (cuts more : List Row) (best : Option ℤ) (zone : List Span) (proof : Proof) (bound : Option ℤ) → Fits (blocking_of p d cuts) proof
    → SettlesIfShut (blocking_of p d cuts) best zone proof bound → SettlesIfShut (blocking_of p d (cuts ++ more)) best zone proof bound
settled_stays p d cuts more best zone proof None fits h = settles_stays p d cuts more best zone proof fits h
settled_stays p d cuts more best zone proof (Some z) fits h = tt

search_stays : (p : Program) (d : Decomposition) (cuts more : List Row) (t : GrowingTree) (best : Option (List ℤ))
    → IsSearch p (blocking_of p d cuts) t best → IsSearch p (blocking_of p d (cuts ++ more)) t best
search_stays p d cuts more t best search = record {
  feasible = search.feasible;
  grove = record {
    splits = search.grove.splits;
    leaves = λ k l there.
        let leaf : GrowingLeaf = get_or (growing_leaves t p.spans) k l in
        let kept : IsKept (blocking_of p d cuts) leaf = search.grove.leaves k l there in
        record {
          sound = sound_stays p d cuts more leaf.proof kept.sound;
          bound = kept_stays p d cuts more leaf.zone leaf.proof leaf.bound kept.sound.fits kept.bound;
        };
  };
  shallow = search.shallow;
  settled = λ k l there.
      let leaf : GrowingLeaf = get_or (growing_leaves t p.spans) k l in
      settled_stays p d cuts more (best_cost p best) leaf.zone leaf.proof leaf.bound (search.grove.leaves k l there).sound.fits (search.settled k l there);
}

-- the rows of further cuts come behind
further_rows : (p : Program) (d : Decomposition) (earlier : List Row) (further : List Cut)
    → (more : List Row) × (cut_rows p d earlier further ≡ earlier ++ more)
further_rows p d earlier [] = ([], sym (none earlier))
  where
    none : (rs : List Row) → rs ++ [] ≡ rs
    none [] = refl
    none (r ∷ rs) = ap (λ (qs : List Row). r ∷ qs) (none rs)
further_rows p d earlier (cut ∷ further) =
    let row : Row = cut_row p (proof_rows p d earlier) cut in
    let found = further_rows p d (earlier ++ row ∷ []) further in
    (row ∷ found.0, found.1 ∙ append_assoc earlier (row ∷ []) found.0)

all_rows : (p : Program) (d : Decomposition) (earlier : List Row) (cuts further : List Cut)
    → (more : List Row) × (cut_rows p d earlier (cuts ++ further) ≡ cut_rows p d earlier cuts ++ more)
all_rows p d earlier [] further = further_rows p d earlier further
all_rows p d earlier (cut ∷ cuts) further = all_rows p d (earlier ++ cut_row p (proof_rows p d earlier) cut ∷ []) cuts further

pub further_cuts_keep_lem : FurtherCutsKeep
further_cuts_keep_lem = record {
  sound = sound_stays;
  bound = bound_stays;
  endless = endless_stays;
  search = λ p d cuts further t best search.
      let found = all_rows p d [] cuts further in
      subst (λ (rows : List Row). IsSearch p (blocking_of p d rows) t best) (sym found.1) (search_stays p d (cut_rows p d [] cuts) found.0 t best search);
}
