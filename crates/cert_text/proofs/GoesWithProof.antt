-- A certificate that is read for a program goes with it.
use Rattle.std.proofs.Common.{◌≡◌, ◌≢◌, refl, sym, suc, ap, subst, ◌∙◌, ℕ, ◌+◌, ◌-◌, ◌*◌, ◌<◌, ◌≤◌, ◌^◌, Bool, true, false, List, [], ◌∷◌, ◌++◌, map, length, get_or, Option, Some, None, Result, Ok, Err, arith, length-append}
use Rattle.std.proofs.Math.IntN.{ℤ, pos}
use Rattle.std.specs.Prelude.{IsSome, IfOk, unsigned_abs, unwrap_or}
use Rattle.std.specs.List.{AllByRecursion}
use Rattle.std.specs.Option.{option_map}
use Rattle.std.proofs.lemmas.Bool.{ltb-false}
use Rattle.std.proofs.lemmas.List.{length-map}
use Rattle.std.proofs.lemmas.List.Elements.{All-from_recursion}
use Rattle.bp_theory.specs.Limits.{greatest_depth}
use Rattle.bp_theory.specs.Blocking.{Blocking, row_at}
use Rattle.bp_theory.specs.Bound.{Fits, ArePicked}
use Rattle.bp_theory.specs.Decomposition.{no_row, proof_rows}
use Rattle.bp_theory.specs.Cuts.{cut_row}
use Rattle.bp_theory.specs.Trees as theory
use Rattle.bp_theory.specs.Trees.{shut_leaf, open_leaf, split, Leaf, leaves, depth, low_part, high_part}
use Rattle.bp_theory.specs.Judgement as judgement
use Rattle.bp_theory.specs.Judgement.{Line, judged_lines, point_lines, named_value}
use Rattle.bp_theory.specs.declared.Limits.{Limits}
use Rattle.bp_theory.specs.declared.Span.{Span}
use Rattle.bp_theory.specs.declared.Row.{Row}
use Rattle.bp_theory.specs.declared.Cut.{Cut}
use Rattle.bp_theory.specs.declared.Proof as given
use Rattle.bp_theory.specs.declared.Picked.{Picked}
use Rattle.bp_theory.specs.declared.Picked.TheVariants.{Every, These}
use Rattle.bp_theory.specs.declared.Claim.{Claim}
use Rattle.bp_theory.specs.declared.Claim.TheVariants.{Optimal, Infeasible, Bound}
use Rattle.block_program.specs.Blocked.{BlockedProgram, IsFormed}
use Rattle.cert_format.specs.Cert as texts
use Rattle.cert_format.specs.Text.{Version, first_kind, is_past, may_name, blocks_behind, picked_words, value_fault, claim_lines, meant_tree}
use Rattle.cert_format.specs.Fault.{AreClean, IsCertText, IsFirstCertFault}
use Rattle.cert_format.specs.Nodes.{nodes}
use Rattle.cert_format.specs.Frames.{frame_of}
use Rattle.cert_format.specs.Written.{cert_of, in_text, written_pair, written_picked, written_proof, written_cut, written_tree, written_claim, certificate}
use Rattle.cert_format.specs.Sketch.{tree_of}
use Rattle.cert_format.specs.Kept.{certificate_of, kept_cert}
use Rattle.cert_text.specs.Programs.{frame_by, frame_for, IsWhole, IsOver, AreOver, ReadsFor, IsSmall, IsSmallClaim, GoesWith}
use Rattle.cert_format.specs.Kept.{ReadsCertificate}
use Rattle.cert_format.specs.declared.cert.Cert.{Cert as Kept}
use Rattle.cert_format.specs.declared.frame.Frame.{Frame}
use Rattle.cert_format.specs.declared.fault.CertFault.{CertFault}
use Rattle.cert_format.specs.declared.fault.CertFault.TheVariants.{At, NoMemory}
use Rattle.cert_format.specs.declared.fault.CertKind.TheVariants.{TooLarge}
use Rattle.cert_format.proofs.Meaning.{tree_clean}
use Rattle.cert_format.proofs.Putting.{Rises, rises_increasing, above_rises}
use Rattle.cert_format.proofs.Fine.{scale_small, block_tested, IsKept, none_kept, IsFineLeaf, IsFine, fine_tree, text_nodes, IsCombined, IsFineCut, AreFineCuts, fine_cuts, cuts_few, cuts_clean}
use Rattle.cert_format.proofs.Clean.{claim_clean}
use Rattle.cert_text.proofs.CombinedRows.{combined_of_text}
use Rattle.cert_text.proofs.NamedRows.{named_of_text, blocks_same, blocking_over}

-- ---- lists

all_mapped : {X : Type 0} (P Q : X → Type 0) → ((x : X) → P x → Q x) → (xs : List X) → AllByRecursion P xs → AllByRecursion Q xs
all_mapped P Q f [] h = tt
all_mapped P Q f (x ∷ xs) h = (f x h.0, all_mapped P Q f xs h.1)

both_all : {X : Type 0} (P : X → Type 0) (xs ys : List X) → AllByRecursion P xs → AllByRecursion P ys → AllByRecursion P (xs ++ ys)
both_all P [] ys h g = g
both_all P (x ∷ xs) ys h g = (h.0, both_all P xs ys h.1 g)

pub first_all : {X : Type 0} (P : X → Type 0) (xs ys : List X) → AllByRecursion P (xs ++ ys) → AllByRecursion P xs
first_all P [] ys h = tt
first_all P (x ∷ xs) ys h = (h.0, first_all P xs ys h.1)

pub second_all : {X : Type 0} (P : X → Type 0) (xs ys : List X) → AllByRecursion P (xs ++ ys) → AllByRecursion P ys
second_all P [] ys h = h
second_all P (x ∷ xs) ys h = second_all P xs ys h.1

-- ---- a leaf's line

-- what holds of each multiplier
abbrev pub IsFitting : Blocking → ℕ × ℤ → Type 0
IsFitting b m = (unsigned_abs m.1 ≤ 2 ^ 40) × (m.1 ≢ pos 0) × IsSome (row_at b m.0)

pairs_fit : (b : Blocking) (frame : texts.Frame) (n : ℕ) (ms : List (ℕ × ℤ)) → ((r : ℕ) → may_name frame n (r + 1) ≡ true → IsSome (row_at b r))
    → AllByRecursion (IsKept frame n) (map written_pair ms) → AllByRecursion (IsFitting b) ms
pairs_fit b frame n [] names all = tt
pairs_fit b frame n (m ∷ ms) names all = ((all.0.0, all.0.1, names m.0 all.0.2), pairs_fit b frame n ms names all.1)

blocks_fit : (frame : texts.Frame) (last : ℕ) (ks : List ℕ) → AreClean (blocks_behind frame last (map in_text ks))
    → Rises last ks × AllByRecursion (λ k. k < frame.blocks) ks
blocks_fit frame last [] clean = (tt, tt)
blocks_fit frame last (k ∷ ks) clean =
    let here = block_tested frame last (k + 1) clean.1.0 in
    let rest = blocks_fit frame (k + 1) ks clean.1.1 in
    ((let low : last < k + 1 = here.0 in omega arith, rest.0), (let high : k + 1 ≤ frame.blocks = here.1 in omega arith, rest.1))

picked_fit : (frame : texts.Frame) (picked : Picked) → AreClean (picked_words frame (written_picked picked)) → ArePicked frame.blocks picked
picked_fit frame Every clean = tt
picked_fit frame (These ks) clean =
    let h = blocks_fit frame 0 ks clean.1 in
    (rises_increasing 0 ks h.0, All-from_recursion (λ k. k < frame.blocks) ks h.1)

-- a faultless leaf's proof fits
leaf_fits : (b : BlockedProgram) → IsFormed b → (cuts : List Cut) (depth : ℕ) (proof : given.Proof) → IsFineLeaf (frame_for b) (length cuts) depth (written_proof proof) → Fits (blocking_over b cuts) proof
leaf_fits b formed cuts depth proof fine =
    let frame : texts.Frame = frame_for b in
    let k : Blocking = blocking_over b cuts in
    let fits = pairs_fit k frame (length cuts) proof.mults (named_of_text b formed cuts) fine.pairs.each in
    record {
      scale = (scale_small (frame_for b) depth proof.scale fine.scale).1;
      sizes = All-from_recursion (λ m. unsigned_abs m.1 ≤ 2 ^ 40) proof.mults (all_mapped (IsFitting k) (λ m. unsigned_abs m.1 ≤ 2 ^ 40) (λ m h. h.0) proof.mults fits);
      nonzero = All-from_recursion (λ m. m.1 ≢ pos 0) proof.mults (all_mapped (IsFitting k) (λ m. m.1 ≢ pos 0) (λ m h. h.1) proof.mults fits);
      rows = All-from_recursion (λ m. IsSome (row_at k m.0)) proof.mults (all_mapped (IsFitting k) (λ m. IsSome (row_at k m.0)) (λ m h. h.2) proof.mults fits);
      ascend = rises_increasing 0 (map (λ (m : ℕ × ℤ). m.0) proof.mults) (above_rises 0 proof.mults fine.pairs.up);
      picked = subst (λ (n : ℕ). ArePicked n proof.picked) (sym (blocks_same b formed cuts)) (picked_fit frame proof.picked fine.picked);
    }

-- ---- a tree

tree_fits : (b : BlockedProgram) → IsFormed b → (cuts : List Cut) (depth : ℕ) (t : theory.Tree) (zone : List Span) → IsFine (frame_for b) (length cuts) depth (written_tree t)
    → AllByRecursion (λ (leaf : Leaf). Fits (blocking_over b cuts) leaf.proof) (leaves t zone)
tree_fits b formed cuts depth (shut_leaf p) zone fine = (leaf_fits b formed cuts depth p fine, tt)
tree_fits b formed cuts depth (open_leaf p) zone fine = (leaf_fits b formed cuts depth p fine, tt)
tree_fits b formed cuts depth (split v at low high) zone fine =
    both_all (λ (leaf : Leaf). Fits (blocking_over b cuts) leaf.proof) (leaves low (low_part zone v at)) (leaves high (high_part zone v at))
    (tree_fits b formed cuts (depth + 1) low (low_part zone v at) fine.2)
    (tree_fits b formed cuts (depth + 1) high (high_part zone v at) fine.3)

tree_shallow : (frame : texts.Frame) (cuts above : ℕ) (t : theory.Tree) → IsFine frame cuts above (written_tree t) → above + depth t ≤ greatest_depth frame.limits
tree_shallow frame cuts above (shut_leaf p) fine = let h = (scale_small frame above p.scale fine.scale).0 in omega arith
tree_shallow frame cuts above (open_leaf p) fine = let h = (scale_small frame above p.scale fine.scale).0 in omega arith
tree_shallow frame cuts above (split v at low high) fine =
    let a : above + 1 + depth low ≤ greatest_depth frame.limits = tree_shallow frame cuts (above + 1) low fine.2 in
    let b : above + 1 + depth high ≤ greatest_depth frame.limits = tree_shallow frame cuts (above + 1) high fine.3 in
    omega arith

-- ---- cuts

-- a faultless cut is one over the rows before it
cut_over : (b : BlockedProgram) → IsFormed b → (earlier : List Row) (cut : Cut) → IsFineCut (frame_for b) (length earlier) (written_cut cut) → IsOver (proof_rows b.named.program b.dec earlier) cut
cut_over b formed earlier cut fine =
    let frame : texts.Frame = frame_for b in
    let P : ℕ × ℤ → Type 0 = λ m. (unsigned_abs m.1 ≤ 2 ^ 20) × (m.1 ≢ pos 0) × IsWhole (get_or (proof_rows b.named.program b.dec earlier) m.0 no_row) in
    let all = over cut.rows fine.each in
    record {
      divides = fine.divides;
      small = record {
        divisor = fine.divisor;
        sizes = All-from_recursion (λ m. unsigned_abs m.1 ≤ 2 ^ 20) cut.rows (all_mapped P (λ m. unsigned_abs m.1 ≤ 2 ^ 20) (λ m h. h.0) cut.rows all);
        nonzero = All-from_recursion (λ m. m.1 ≢ pos 0) cut.rows (all_mapped P (λ m. m.1 ≢ pos 0) (λ m h. h.1) cut.rows all);
        ascend = rises_increasing 0 (map (λ (m : ℕ × ℤ). m.0) cut.rows) (above_rises 0 cut.rows fine.up);
      };
      whole = All-from_recursion (λ m. IsWhole (get_or (proof_rows b.named.program b.dec earlier) m.0 no_row)) cut.rows
          (all_mapped P (λ m. IsWhole (get_or (proof_rows b.named.program b.dec earlier) m.0 no_row)) (λ m h. h.2) cut.rows all);
    }
  where
    over : (ms : List (ℕ × ℤ)) → AllByRecursion (IsCombined (frame_for b) (length earlier)) (map written_pair ms)
        → AllByRecursion (λ (m : ℕ × ℤ). (unsigned_abs m.1 ≤ 2 ^ 20) × (m.1 ≢ pos 0) × IsWhole (get_or (proof_rows b.named.program b.dec earlier) m.0 no_row)) ms
    over [] all = tt
    over (m ∷ ms) all = ((all.0.0, all.0.1, combined_of_text b formed earlier m.0 all.0.2), over ms all.1)

cuts_over : (b : BlockedProgram) → IsFormed b → (earlier : List Row) (cuts : List Cut) → AreFineCuts (frame_for b) (length earlier) (map written_cut cuts) → AreOver b.named.program b.dec earlier cuts
cuts_over b formed earlier [] fine = tt
cuts_over b formed earlier (cut ∷ cuts) fine =
    let row : Row = cut_row b.named.program (proof_rows b.named.program b.dec earlier) cut in
    let long : length earlier + 1 ≡ length (earlier ++ row ∷ []) = omega (arith, length-append earlier (row ∷ [])) in
    (cut_over b formed earlier cut fine.0, cuts_over b formed (earlier ++ row ∷ []) cuts (subst (λ (n : ℕ). AreFineCuts (frame_for b) n (map written_cut cuts)) long fine.1))

-- ---- lines are counted by bytes

tree_count : (t : theory.Tree) (zone : List Span) → length (judgement.tree_lines t zone) ≡ nodes (written_tree t)
tree_count (shut_leaf p) zone = refl
tree_count (open_leaf p) zone = refl
tree_count (split v at low high) zone =
    let a = tree_count low (low_part zone v at) in
    let b = tree_count high (high_part zone v at) in
    let lines = length-append (judgement.tree_lines low (low_part zone v at)) (judgement.tree_lines high (high_part zone v at)) in
    omega (arith, a, b, lines)

point_count : (named : Option ℤ) (x : Option (List ℤ)) → length (point_lines named x) ≤ 1
point_count None x = omega arith
point_count (Some v) None = omega arith
point_count (Some v) (Some x) = omega arith

cuts_count : (b : BlockedProgram) (earlier : List Row) (cuts : List Cut) → length (judgement.cut_lines b.named.program b.dec earlier cuts) ≡ length cuts
cuts_count b earlier [] = refl
cuts_count b earlier (cut ∷ cuts) = ap suc (cuts_count b (earlier ++ cut_row b.named.program (proof_rows b.named.program b.dec earlier) cut ∷ []) cuts)

lines_counted : (b : BlockedProgram) (claim : Claim) (zs : List ℤ) (cuts : List Cut) (t : theory.Tree)
    → length (judged_lines b.named.program b.dec (certificate claim zs cuts t)) ≤ 1 + length cuts + nodes (written_tree t)
lines_counted b claim zs cuts t =
    let points : List Line = point_lines (named_value claim) (option_map (λ _. zs) (named_value claim)) in
    let middle : List Line = judgement.cut_lines b.named.program b.dec [] cuts in
    let lines : List Line = judgement.tree_lines t b.named.program.spans in
    let few = point_count (named_value claim) (option_map (λ _. zs) (named_value claim)) in
    let each = tree_count t b.named.program.spans in
    let first : length (points ++ middle) ≡ length points + length middle = length-append points middle in
    let all : length ((points ++ middle) ++ lines) ≡ length (points ++ middle) + length lines = length-append (points ++ middle) lines in
    omega (arith, few, each, first, all, cuts_count b [] cuts)

-- ---- a claim's line

value_small : (z : ℤ) → value_fault z ≡ None → IsSmall z
value_small z none = let low : unsigned_abs z ≤ 2 ^ 62 - 1 = ltb-false (2 ^ 62 - 1) (unsigned_abs z) (by (is_past (2 ^ 62 - 1) z) none) in omega arith
  where
    by : (a : Bool) → first_kind ((a, TooLarge) ∷ []) ≡ None → a ≡ false
    by true none = absurd (cc)
    by false none = refl

claim_small : (frame : texts.Frame) (claim : Claim) (zs : List ℤ) → AreClean (claim_lines frame (written_claim claim zs)) → IsSmallClaim claim
claim_small frame (Optimal v) zs clean = value_small v clean.1.1.0
claim_small frame Infeasible zs clean = tt
claim_small frame (Bound b None) zs clean = value_small b clean.1.1.0
claim_small frame (Bound b (Some v)) zs clean = (value_small b clean.1.1.0, value_small v clean.1.1.1.1.0)

-- ---- a whole certificate

pub text_goes_with : (b : BlockedProgram) → IsFormed b → (claim : Claim) (zs : List ℤ) (cuts : List Cut) (t : theory.Tree) (text : List ℕ) → length text < 2 ^ 64
    → IsCertText (frame_for b) (cert_of (certificate claim zs cuts t)) text → GoesWith b (certificate claim zs cuts t)
text_goes_with b formed claim zs cuts t text short spells =
    let frame : texts.Frame = frame_for b in
    let version : Version = spells.0 in
    let is = spells.1 in
    let w : texts.Cert = is.written in
    let lists : w.cuts ≡ map written_cut cuts = ap (λ (c : texts.Cert). c.cuts) is.means in
    let trees : meant_tree version [] w.tree ≡ written_tree t = ap (λ (c : texts.Cert). c.tree) is.means in
    let claims : w.claim ≡ written_claim claim (unwrap_or (option_map (λ _. zs) (named_value claim)) []) = ap (λ (c : texts.Cert). c.claim) is.means in
    let count : length w.cuts ≡ length cuts = ap (λ (xs : List texts.Cut). length xs) lists ∙ length-map cuts written_cut in
    let Q : texts.Tree → Type 0 = IsFine frame (length w.cuts) 0 in
    let N : ℕ → Type 0 = λ n. IsFine frame n 0 (written_tree t) in
    let fine : IsFine frame (length cuts) 0 (written_tree t) =
    subst N count (subst Q trees (fine_tree frame version (length w.cuts) 0 [] w.tree (none_kept frame (length w.cuts)) (tree_clean frame version w is.clean))) in
    let F : List texts.Cut → Type 0 = AreFineCuts frame 0 in
    let over : AreFineCuts frame 0 (map written_cut cuts) = subst F lists (fine_cuts frame 0 w.cuts (cuts_clean frame version w is.clean)) in
    let low : 0 + length (map written_cut cuts) ≤ 256 = cuts_few frame 0 (map written_cut cuts) (omega arith) over in
    let short_list : length cuts ≤ 256 = omega (arith, low, length-map cuts written_cut) in
    let C : texts.Claim → Type 0 = λ a. AreClean (claim_lines frame a) in
    let few : 12 + 8 * nodes (written_tree t) ≤ length text = text_nodes frame version (cert_of (certificate claim zs cuts t)) text is in
    record {
      claim = claim_small frame claim (unwrap_or (option_map (λ _. zs) (named_value claim)) []) (subst C claims (claim_clean frame version w is.clean));
      few = short_list;
      cuts = cuts_over b formed [] cuts over;
      fits = All-from_recursion (λ (leaf : Leaf). Fits (blocking_over b cuts) leaf.proof) (leaves t b.named.program.spans) (tree_fits b formed cuts 0 t b.named.program.spans fine);
      shallow = (let low = tree_shallow frame (length cuts) 0 t fine in omega (arith, low));
      lines = (let less = lines_counted b claim zs cuts t in omega (arith, less, few, short, short_list));
    }

goes_with : (b : BlockedProgram) → IsFormed b → (cert : Kept) (text : List ℕ) → length text < 2 ^ 64
    → IsCertText (frame_for b) (kept_cert cert) text → GoesWith b (certificate_of cert)
goes_with b formed cert text short spells = text_goes_with b formed cert.claim cert.point cert.cuts (tree_of cert.tree) text short spells

pub goes_with_read : (b : BlockedProgram) → IsFormed b → (text : List ℕ) → length text < 2 ^ 64 → (r : Result Kept CertFault)
    → ReadsFor b text r → IfOk r (λ cert. GoesWith b (certificate_of cert))
goes_with_read b formed text short (Ok cert) h = goes_with b formed cert text short h
goes_with_read b formed text short (Err e) h = tt

pub read_by : (b : BlockedProgram) (frame : Frame) (text : List ℕ) (r : Result Kept CertFault) → frame_of frame ≡ frame_for b → ReadsCertificate frame text r → ReadsFor b text r
read_by b frame text (Ok cert) same h = subst (λ (f : texts.Frame). IsCertText f (kept_cert cert) text) same h
read_by b frame text (Err NoMemory) same h = tt
read_by b frame text (Err (At line kind)) same h = subst (λ (f : texts.Frame). IsFirstCertFault f text line kind) same h

pub frame_is : (frame : Frame) (variables : ℕ) (masters : List Bool) (links blocks : ℕ) (limits : Limits) → frame.variables ≡ variables → frame.masters ≡ masters → frame.links ≡ links → frame.blocks ≡ blocks → frame.limits ≡ limits
    → frame_of frame ≡ frame_by variables masters links blocks limits
frame_is frame variables masters links blocks limits v m l k a =
    ap (λ n. frame_by n frame.masters frame.links frame.blocks frame.limits) v
    ∙ ap (λ (ms : List Bool). frame_by variables ms frame.links frame.blocks frame.limits) m
    ∙ ap (λ n. frame_by variables masters n frame.blocks frame.limits) l
    ∙ ap (λ n. frame_by variables masters links n frame.limits) k
    ∙ ap (λ (x : Limits). frame_by variables masters links blocks x) a
