-- A certificate within the limits has a text without a fault.
use Rattle.std.proofs.Common.{◌≡◌, ◌≢◌, refl, sym, ap, subst, ◌∙◌, ℕ, zero, suc, ◌+◌, ◌-◌, ◌<◌, ◌≤◌, ◌^◌, Bool, true, false, List, [], ◌∷◌, ◌++◌, map, length, get_or, set, Some, None, arith, length-append}
use Rattle.std.proofs.Math.ListN.{length-map}
use Rattle.std.proofs.Math.IntN.{ℤ, pos, ◌+ℤ◌}
use Rattle.std.specs.Prelude.{IsSome, IfSome, nat_eq, nat_lt, nat_le, unsigned_abs, ◌<ℤ◌, ◌≤ℤ◌}
use Rattle.std.specs.List.{AllByRecursion}
use Rattle.std.specs.List.Sorted.{IsStrictlyIncreasing}
use Rattle.std.specs.Cmp.{signed_Decides}
use Rattle.std.specs.Ordering.{int_eq}
use Rattle.std.specs.Option.{option_map}
use Rattle.std.proofs.lemmas.Bool.{le-ltb, lt-leb, ne_eqb, true≢false}
use Rattle.std.proofs.lemmas.Int.{ints}
use Rattle.std.proofs.lemmas.List.Elements.{recursion_from_All}
use Rattle.bp_theory.specs.Limits.{greatest_depth}
use Rattle.bp_theory.specs.Program.{span_at}
use Rattle.bp_theory.specs.Blocking.{row_at}
use Rattle.bp_theory.specs.Decomposition.{no_row, proof_rows}
use Rattle.bp_theory.specs.Cuts.{cut_row}
use Rattle.bp_theory.specs.Bound.{Fits, ArePicked}
use Rattle.bp_theory.specs.Trees as theory
use Rattle.bp_theory.specs.Trees.{shut_leaf, open_leaf, split, Leaf, leaves, depth, low_part, high_part, IsSoundSplit, HasSoundSplits}
use Rattle.bp_theory.specs.Judgement.{named_value}
use Rattle.bp_theory.specs.declared.Span.{Span}
use Rattle.bp_theory.specs.declared.Row.{Row}
use Rattle.bp_theory.specs.declared.Cut.{Cut}
use Rattle.bp_theory.specs.declared.Proof as given
use Rattle.bp_theory.specs.declared.Picked.{Picked}
use Rattle.bp_theory.specs.declared.Picked.TheVariants.{Every, These}
use Rattle.bp_theory.specs.declared.Claim.{Claim}
use Rattle.bp_theory.specs.declared.Claim.TheVariants.{Optimal, Infeasible, Bound}
use Rattle.bp_model.specs.Named.{HasSmallEnds}
use Rattle.block_program.specs.Blocked.{BlockedProgram, IsFormed}
use Rattle.cert_format.specs.Cert as texts
use Rattle.cert_format.specs.Text.{Kind, Token, LineEnd, first_kind, is_past, divisor_fault, multiplier_fault, may_combine, point_values, claim_lines, cut_lines, pairs_behind, blocks_behind, picked_words, One, Three}
use Rattle.cert_format.specs.Fault.{AreClean, IsText}
use Rattle.cert_format.specs.Written.{in_text, written_pair, written_picked, written_proof, written_cut, written_tree, written_claim, cert_of, certificate}
use Rattle.cert_format.specs.Plain.{version_with, plain_text}
use Rattle.cert_write.specs.Changes.{changing_nodes}
use Rattle.cert_text.specs.Programs.{frame_for, IsWhole, AreOver, IsSmall, IsSmallClaim, IsSmallPoint, CanWrite, HasItsText}
use Rattle.cert_format.specs.declared.fault.CertKind.TheVariants.{TooLarge, Number, Length, Limit}
use Rattle.cert_format.proofs.PlainProof.{plain_lem, same_claim}
use Rattle.cert_format.proofs.Changes.{AscendAbove}
use Rattle.cert_format.proofs.Clean.{two_none, one_none, is_small_value, small_value, small_scale, named_row, known_block, known_variable, clean_both}
use Rattle.cert_format.proofs.Fine.{IsKept, IsFineLeaf, IsFine}
use Rattle.cert_text.proofs.NamedRows.{text_of_named, blocks_same, blocking_over}
use Rattle.cert_text.proofs.CombinedRows.{text_of_combined}
use Rattle.cert_write.proofs.BothTexts.{HasParts, wholes_text, changes_text, three_keeps}
use Rattle.cert_write.proofs.ChangeText.{changed_bytes, rewritten}
use Rattle.cert_text.proofs.GoesWithProof.{first_all, second_all}
use Rattle.cert_format.proofs.Putting.{Rises}

-- ---- lists

increasing_rises : (x : ℕ) (ks : List ℕ) → IsStrictlyIncreasing (x ∷ ks) → Rises (x + 1) ks
increasing_rises x [] h = tt
increasing_rises x (y ∷ ks) h = (
  (let first : x < y = h 0 (omega arith) in omega arith),
  increasing_rises y ks (λ k l.
      let e : suc k + 1 ≡ suc (k + 1) = omega arith in
      subst (λ n. get_or (y ∷ ks) k 0 < get_or (x ∷ y ∷ ks) n 0) e (h (suc k) (omega (arith, l)))),
)

rises : (ks : List ℕ) → IsStrictlyIncreasing ks → Rises 0 ks
rises [] h = tt
rises (x ∷ ks) h = (omega arith, increasing_rises x ks h)

-- ---- a leaf

-- rows in order
rises_above : (last : ℕ) (ms : List (ℕ × ℤ)) → Rises last (map (λ (m : ℕ × ℤ). m.0) ms) → AscendAbove last (map written_pair ms)
rises_above last [] up = tt
rises_above last (m ∷ ms) up = ((let low : last ≤ m.0 = up.0 in omega arith), rises_above (m.0 + 1) ms up.1)

blocks_clean : (frame : texts.Frame) (last : ℕ) (ks : List ℕ) → Rises last ks → AllByRecursion (λ k. k < frame.blocks) ks → AreClean (blocks_behind frame last (map in_text ks))
blocks_clean frame last [] up there = tt
blocks_clean frame last (k ∷ ks) up there = (
  refl,
  (
    known_block frame last (k + 1) (let low : last ≤ k = up.0 in omega arith) (let high : k < frame.blocks = there.0 in omega arith),
    blocks_clean frame (k + 1) ks up.1 there.1,
  ),
)

picked_clean : (frame : texts.Frame) (picked : Picked) → ArePicked frame.blocks picked → AreClean (picked_words frame (written_picked picked))
picked_clean frame Every h = (refl, tt)
picked_clean frame (These ks) h = (refl, blocks_clean frame 0 ks (rises ks h.0) (recursion_from_All (λ k. k < frame.blocks) ks h.1))

all_mapped : {X : Type 0} (P Q : X → Type 0) → ((x : X) → P x → Q x) → (xs : List X) → AllByRecursion P xs → AllByRecursion Q xs
all_mapped P Q f [] h = tt
all_mapped P Q f (x ∷ xs) h = (f x h.0, all_mapped P Q f xs h.1)

leaf_kept : (b : BlockedProgram) → IsFormed b → (cuts : List Cut) (ms : List (ℕ × ℤ)) → AllByRecursion (λ m. unsigned_abs m.1 ≤ 2 ^ 40) ms → AllByRecursion (λ m. m.1 ≢ pos 0) ms
    → AllByRecursion (λ m. IsSome (row_at (blocking_over b cuts) m.0)) ms → AllByRecursion (IsKept (frame_for b) (length cuts)) (map written_pair ms)
leaf_kept b formed cuts [] small some there = tt
leaf_kept b formed cuts (m ∷ ms) small some there = ((small.0, some.0, text_of_named b formed cuts m.0 there.0), leaf_kept b formed cuts ms small.1 some.1 there.1)

leaf_fine : (b : BlockedProgram) → IsFormed b → (cuts : List Cut) (above : ℕ) (proof : given.Proof) → above ≤ greatest_depth b.named.program.limits → Fits (blocking_over b cuts) proof → IsFineLeaf (frame_for b) (length cuts) above (written_proof proof)
leaf_fine b formed cuts above proof shallow fits = record {
  scale = small_scale (frame_for b) above proof.scale shallow fits.scale;
  pairs = record {
    up = rises_above 0 proof.mults (rises (map (λ (m : ℕ × ℤ). m.0) proof.mults) fits.ascend);
    each = leaf_kept b formed cuts proof.mults (recursion_from_All (λ (m : ℕ × ℤ). unsigned_abs m.1 ≤ 2 ^ 40) proof.mults fits.sizes)
        (recursion_from_All (λ (m : ℕ × ℤ). m.1 ≢ pos 0) proof.mults fits.nonzero) (recursion_from_All (λ (m : ℕ × ℤ). IsSome (row_at (blocking_over b cuts) m.0)) proof.mults fits.rows);
  };
  picked = picked_clean (frame_for b) proof.picked (subst (λ (n : ℕ). ArePicked n proof.picked) (blocks_same b formed cuts) fits.picked);
}

-- ---- a tree

set_all : {X : Type 0} (P : X → Type 0) (xs : List X) (k : ℕ) (a : X) → AllByRecursion P xs → P a → AllByRecursion P (set xs k a)
set_all P [] k a h g = tt
set_all P (x ∷ xs) zero a h g = (g, h.1)
set_all P (x ∷ xs) (suc k) a h g = (h.0, set_all P xs k a h.1 g)

set_length : {X : Type 0} (xs : List X) (k : ℕ) (a : X) → length (set xs k a) ≡ length xs
set_length [] k a = refl
set_length (x ∷ xs) zero a = refl
set_length (x ∷ xs) (suc k) a = ap suc (set_length xs k a)

-- the variable of a sound split is there, and its span has small ends
split_there : (zone : List Span) (v : ℕ) (at : ℤ) → AllByRecursion HasSmallEnds zone → (span_at zone v).lo ≤ℤ at → at <ℤ (span_at zone v).hi
    → (v < length zone) × HasSmallEnds (span_at zone v)
split_there [] v at small above below = absurd (none at above below)
  where
    none : (z : ℤ) → pos 0 ≤ℤ z → z <ℤ pos 0 → ⊥
    none z a b = omega (arith, ints)
split_there (s ∷ zone) zero at small above below = (omega arith, small.0)
split_there (s ∷ zone) (suc v) at small above below =
    let rest = split_there zone v at small.1 above below in
    (let low : v < length zone = rest.0 in omega arith, rest.1)

small_between : (lo at hi : ℤ) → unsigned_abs lo < 2 ^ 62 → unsigned_abs hi < 2 ^ 62 → lo ≤ℤ at → at <ℤ hi → IsSmall at × IsSmall (at +ℤ pos 1)
small_between lo at hi small less above below = (grind (arith, ints), grind (arith, ints))

tree_fine : (b : BlockedProgram) → IsFormed b → (cuts : List Cut) (above : ℕ) (t : theory.Tree) (zone : List Span) → length zone ≡ length b.named.program.spans → AllByRecursion HasSmallEnds zone
    → HasSoundSplits t zone → AllByRecursion (λ (leaf : Leaf). Fits (blocking_over b cuts) leaf.proof) (leaves t zone) → above + depth t ≤ greatest_depth b.named.program.limits → IsFine (frame_for b) (length cuts) above (written_tree t)
tree_fine b formed cuts above (shut_leaf p) zone each small sound fits shallow = leaf_fine b formed cuts above p (omega arith) fits.0
tree_fine b formed cuts above (open_leaf p) zone each small sound fits shallow = leaf_fine b formed cuts above p (omega arith) fits.0
tree_fine b formed cuts above (split v at low high) zone each small sound fits shallow =
    let Q : Leaf → Type 0 = λ leaf. Fits (blocking_over b cuts) leaf.proof in
    let there = split_there zone v at small sound.0.above sound.0.below in
    let place = small_between (span_at zone v).lo at (span_at zone v).hi there.1.lo there.1.hi sound.0.above sound.0.below in
    let lower : Span = record { lo = (span_at zone v).lo; hi = at } in
    let upper : Span = record { lo = at +ℤ pos 1; hi = (span_at zone v).hi } in (
      known_variable (frame_for b) above v (omega arith) (let inside : v < length zone = there.0 in omega (arith, inside, each)),
      small_value at place.0,
      tree_fine b formed cuts (above + 1) low (low_part zone v at) (set_length zone v lower ∙ each)
          (set_all HasSmallEnds zone v lower small (record { lo = there.1.lo; hi = place.0 })) sound.1
          (first_all Q (leaves low (low_part zone v at)) (leaves high (high_part zone v at)) fits) (omega arith),
      tree_fine b formed cuts (above + 1) high (high_part zone v at) (set_length zone v upper ∙ each)
          (set_all HasSmallEnds zone v upper small (record { lo = place.1; hi = there.1.hi })) sound.2
          (second_all Q (leaves low (low_part zone v at)) (leaves high (high_part zone v at)) fits) (omega arith),
    )

-- ---- cuts

three_none : (a b c : Bool) (k l m : Kind) → a ≡ false → b ≡ false → c ≡ false → first_kind ((a, k) ∷ (b, l) ∷ (c, m) ∷ []) ≡ None
three_none true b c k l m p q r = absurd (true≢false p)
three_none false b c k l m p q r = two_none b c l m q r

small_divisor : (earlier d : ℕ) → earlier < 256 → d ≤ 2 ^ 20 → 0 < d → divisor_fault earlier d ≡ None
small_divisor earlier d few small some =
    three_none (nat_le 256 earlier) (nat_lt (2 ^ 20) d) (nat_eq d 0) Limit TooLarge Number (lt-leb 256 earlier few) (le-ltb (2 ^ 20) d small) (ne_eqb d 0 (λ e. let none : ⊥ = omega (arith, some, e) in none))

combined_multiplier : (row : ℕ) (p : ℤ) → unsigned_abs p ≤ 2 ^ 20 → p ≢ pos 0 → multiplier_fault (2 ^ 20) [] row p ≡ None
combined_multiplier row p small some = two_none (is_past (2 ^ 20) p) (int_eq p (pos 0)) TooLarge Number (le-ltb (2 ^ 20) (unsigned_abs p) small) (by (int_eq p (pos 0)) refl)
  where
    by : (t : Bool) → int_eq p (pos 0) ≡ t → t ≡ false
    by true is = absurd (some ((signed_Decides p (pos 0)).0 is))
    by false is = refl

rows_clean : (named : ℕ → Bool) (last : ℕ) (ms : List (ℕ × ℤ)) → Rises last (map (λ (m : ℕ × ℤ). m.0) ms)
    → AllByRecursion (λ m. unsigned_abs m.1 ≤ 2 ^ 20) ms → AllByRecursion (λ m. m.1 ≢ pos 0) ms → AllByRecursion (λ m. named (m.0 + 1) ≡ true) ms
    → AreClean (pairs_behind named (2 ^ 20) [] last (map written_pair ms))
rows_clean named last [] up small some there = tt
rows_clean named last (m ∷ ms) up small some there = (
  refl,
  (
    named_row named last (m.0 + 1) (let low : last ≤ m.0 = up.0 in omega arith) there.0,
    (
      refl,
      (
        combined_multiplier (m.0 + 1) m.1 small.0 some.0,
        rows_clean named (m.0 + 1) ms up.1 small.1 some.1 there.1,
      ),
    ),
  ),
)

cut_lines_clean : (b : BlockedProgram) → IsFormed b → (earlier : List Row) (cuts : List Cut) → length earlier + length cuts ≤ 256 → AreOver b.named.program b.dec earlier cuts
    → AreClean (cut_lines (frame_for b) (length earlier) (map written_cut cuts))
cut_lines_clean b formed earlier [] few over = tt
cut_lines_clean b formed earlier (cut ∷ cuts) few over =
    let frame : texts.Frame = frame_for b in
    let named : ℕ → Bool = may_combine frame (length earlier) in
    let row : Row = cut_row b.named.program (proof_rows b.named.program b.dec earlier) cut in
    let long : length (earlier ++ row ∷ []) ≡ length earlier + 1 = omega (arith, length-append earlier (row ∷ [])) in
    let W : ℕ × ℤ → Type 0 = λ m. IsWhole (get_or (proof_rows b.named.program b.dec earlier) m.0 no_row) in
    let pairs : List Token = pairs_behind named (2 ^ 20) [] 0 (map written_pair cut.rows) in
    let rows : AreClean pairs = rows_clean named 0 cut.rows (rises (map (λ (m : ℕ × ℤ). m.0) cut.rows) over.0.small.ascend)
    (recursion_from_All (λ (m : ℕ × ℤ). unsigned_abs m.1 ≤ 2 ^ 20) cut.rows over.0.small.sizes) (recursion_from_All (λ (m : ℕ × ℤ). m.1 ≢ pos 0) cut.rows over.0.small.nonzero)
    (all_mapped W (λ (m : ℕ × ℤ). named (m.0 + 1) ≡ true) (λ m h. text_of_combined b formed earlier m.0 h) cut.rows (recursion_from_All W cut.rows over.0.whole)) in
    let more = subst (λ (n : ℕ). AreClean (cut_lines frame n (map written_cut cuts))) long (cut_lines_clean b formed (earlier ++ row ∷ []) cuts (omega (arith, few, long)) over.1) in (
      refl,
      (
        small_divisor (length earlier) cut.q (omega (arith, few)) over.0.small.divisor over.0.divides,
        (refl, (refl, clean_both pairs (LineEnd None ∷ cut_lines frame (length earlier + 1) (map written_cut cuts)) rows (refl, more))),
      ),
    )

-- ---- a claim's lines

points_clean : (frame : texts.Frame) (number : ℕ) (zs : List ℤ) → number + length zs ≡ frame.variables + 1 → AllByRecursion IsSmall zs → AreClean (point_values frame number zs)
points_clean frame number [] each small = (one_none (nat_le number frame.variables) Length (lt-leb number frame.variables (let e : number + length {A = ℤ} [] ≡ frame.variables + 1 = each in omega (arith, e))), tt)
points_clean frame number (z ∷ zs) each small = (
  refl,
  (
    two_none (is_past (2 ^ 62 - 1) z) (nat_lt frame.variables number) TooLarge Length (is_small_value z small.0) (le-ltb frame.variables number (omega (arith, each))),
    points_clean frame (number + 1) zs (omega (arith, each)) small.1,
  ),
)

claim_clean_by : (frame : texts.Frame) (claim : Claim) (zs : List ℤ) → IsSmallClaim claim → IfSome (option_map (λ _. zs) (named_value claim)) (IsSmallPoint frame.variables)
    → AreClean (claim_lines frame (written_claim claim zs))
claim_clean_by frame (Optimal v) zs small point =
    (refl, (refl, (small_value v small, (refl, (refl, points_clean frame 1 zs (let each = point.each in omega (arith, each)) (recursion_from_All IsSmall zs point.small))))))
claim_clean_by frame Infeasible zs small point = (refl, (refl, (refl, tt)))
claim_clean_by frame (Bound b None) zs small point = (refl, (refl, (small_value b small, (refl, tt))))
claim_clean_by frame (Bound b (Some v)) zs small point = (
  refl,
  (
    refl,
    (
      small_value b small.0,
      (
        refl,
        (
          small_value v small.1,
          (
            refl,
            (
              refl,
              points_clean frame 1 zs (let each = point.each in omega (arith, each)) (recursion_from_All IsSmall zs point.small),
            ),
          ),
        ),
      ),
    ),
  ),
)

-- ---- a whole certificate

-- the parts of a certificate within the limits have no fault
parts_fine : (b : BlockedProgram) → IsFormed b → (claim : Claim) (zs : List ℤ) (cuts : List Cut) (t : theory.Tree) → CanWrite b (certificate claim zs cuts t)
    → HasParts (frame_for b) (cert_of (certificate claim zs cuts t))
parts_fine b formed claim zs cuts t can =
    let frame : texts.Frame = frame_for b in
    let fine = tree_fine b formed cuts 0 t b.named.program.spans refl (recursion_from_All HasSmallEnds b.named.program.spans formed.kept.ends) can.splits
    (recursion_from_All (λ (leaf : Leaf). Fits (blocking_over b cuts) leaf.proof) (leaves t b.named.program.spans) can.fits) (let low = can.shallow in omega arith) in
    record {
      claims = subst (λ (c : texts.Claim). AreClean (claim_lines frame c)) (sym (same_claim claim zs)) (claim_clean_by frame claim zs can.claim can.point);
      cuts = cut_lines_clean b formed [] cuts (let few = can.few in omega arith) can.cuts;
      fine = subst (λ (n : ℕ). IsFine frame n 0 (written_tree t)) (sym (length-map cuts written_cut)) fine;
    }

-- a certificate within the limits has its text
pub has_text : (b : BlockedProgram) → IsFormed b → (claim : Claim) (zs : List ℤ) (cuts : List Cut) (t : theory.Tree) → CanWrite b (certificate claim zs cuts t)
    → HasItsText (frame_for b) claim zs cuts t
has_text b formed claim zs [] t can =
    subst (λ (s : List ℕ). IsText (frame_for b) One (cert_of (certificate claim zs [] t)) s) (sym (plain_lem (frame_for b) One claim zs [] t))
    (wholes_text (frame_for b) (cert_of (certificate claim zs [] t)) refl (parts_fine b formed claim zs [] t can))
has_text b formed claim zs (cut ∷ cuts) t can =
    changed_bytes (frame_for b) Three claim zs (cut ∷ cuts) t
    (changes_text (frame_for b) Three three_keeps (cert_of (certificate claim zs (cut ∷ cuts) t)) (omega arith) (parts_fine b formed claim zs (cut ∷ cuts) t can))

-- and that with changes
pub has_changed_text : (frame : texts.Frame) (claim : Claim) (zs : List ℤ) (cuts : List Cut) (t : theory.Tree) → HasItsText frame claim zs cuts t
    → IsText frame (version_with cuts) (cert_of (certificate claim zs cuts t)) (plain_text (version_with cuts) claim zs cuts (changing_nodes [] t))
has_changed_text frame claim zs [] t has = rewritten frame One claim zs [] t (plain_text One claim zs [] t) has
has_changed_text frame claim zs (cut ∷ cuts) t has = has
