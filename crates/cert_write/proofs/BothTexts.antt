-- A certificate that has a text has one of each version that has its form.
use Rattle.std.proofs.Common.{◌≡◌, ◌≢◌, ℕ, ◌+◌, ◌^◌, ◌<◌, ◌≤◌, Bool, true, false, List, [], ◌∷◌, ◌++◌, length, codes, None, ℤ, refl, sym, ap, ◌∙◌, subst}
use Rattle.std.specs.Prelude.{unsigned_abs}
use Rattle.std.specs.List.{AllByRecursion}
use Rattle.std.specs.Cmp.{signed_Decides}
use Rattle.std.specs.Ordering.{int_eq}
use Rattle.std.proofs.lemmas.Bool.{le-ltb}
use Rattle.cert_format.specs.Cert.{Proof, Tree, Shut, Open, Split, Claim, Cut, Cert, Frame, multiplier, changed}
use Rattle.cert_format.specs.Text.{Token, Words, LineEnd, text_of, is_past, multiplier_fault, may_name, pairs_behind, picked_words, claim_lines, cut_lines, leaf_line, tree_lines, tokens_of, Version, One, Two, Three, HasForm, kept, kept_behind, meant, meant_proof, meant_tree}
use Rattle.cert_format.specs.Fault.{AreClean, IsText}
use Rattle.cert_format.specs.Laws.{CertificatesHaveBothTexts}
use Rattle.cert_format.specs.Stages.{plain_of}
use Rattle.cert_write.specs.Differences.{difference, changing, last_pairs, changing_tree, changing_cert}
use Rattle.cert_format.specs.declared.fault.CertKind.TheVariants.{TooLarge, Number}
use Rattle.cert_format.proofs.Changes.{AscendAbove, Differ}
use Rattle.cert_format.proofs.Coherent.{proof_one, cert_one}
use Rattle.cert_format.proofs.Meaning.{kept_none, tree_clean}
use Rattle.cert_format.proofs.Fine.{AreKept, none_kept, IsFineLeaf, IsFine, fine_tree, cuts_clean}
use Rattle.cert_write.proofs.DifferProof.{IsChange, Makes, difference_makes}
use Rattle.cert_format.proofs.Clean.{claim_clean}
use Rattle.cert_format.proofs.Clean.{two_none, named_row, clean_both}
use Rattle.cert_format.proofs.Unchanged.{cert_means}

-- a multiplier within its limit that the row didn't have
other_multiplier : (had : List (ℕ × ℤ)) (row : ℕ) (p : ℤ) → unsigned_abs p ≤ 2 ^ 40 → p ≢ multiplier had row → multiplier_fault (2 ^ 40) had row p ≡ None
other_multiplier had row p small other = two_none (is_past (2 ^ 40) p) (int_eq p (multiplier had row)) TooLarge Number (le-ltb (2 ^ 40) (unsigned_abs p) small) (by (int_eq p (multiplier had row)) refl)
  where
    by : (t : Bool) → int_eq p (multiplier had row) ≡ t → t ≡ false
    by true is = absurd (other ((signed_Decides p (multiplier had row)).0 is))
    by false is = refl

changes_clean : (frame : Frame) (cuts : ℕ) (had : List (ℕ × ℤ)) (last : ℕ) (ds : List (ℕ × ℤ)) → AscendAbove last ds → Differ had ds → AllByRecursion (IsChange frame cuts) ds → AreClean (pairs_behind (may_name frame cuts) (2 ^ 40) had last ds)
changes_clean frame cuts had last [] up differ all = tt
changes_clean frame cuts had last (d ∷ ds) up differ all =
    (refl, (named_row (may_name frame cuts) last d.0 up.0 all.0.1, (refl, (other_multiplier had d.0 d.1 all.0.0 differ.0, changes_clean frame cuts had d.0 ds up.1 differ.1 all.1))))

-- a line with these pairs
line_clean : (frame : Frame) (version : Version) (cuts depth : ℕ) (had : List (ℕ × ℤ)) (p : Proof) → IsFineLeaf frame cuts depth p → AreClean (pairs_behind (may_name frame cuts) (2 ^ 40) had 0 (difference had p.pairs)) → AreClean (leaf_line frame version cuts depth had (changing had p))
line_clean frame version cuts depth had p fine rows =
    let pairs = pairs_behind (may_name frame cuts) (2 ^ 40) had 0 (difference had p.pairs) in
    let picked : List Token = Words (codes " priced ") ∷ picked_words frame p.picked in
    (fine.scale, (refl, (refl, clean_both (pairs ++ picked) (LineEnd None ∷ []) (clean_both pairs picked rows (refl, fine.picked)) (refl, tt))))

makes_leaf : (frame : Frame) (cuts depth : ℕ) (had : List (ℕ × ℤ)) (p : Proof) → AreKept frame cuts had → IsFineLeaf frame cuts depth p → Makes frame cuts 0 had p.pairs (difference had p.pairs)
makes_leaf frame cuts depth had p before fine = difference_makes frame cuts 0 had p.pairs before.up before.each fine.pairs.up fine.pairs.each

leaf_changes : (frame : Frame) (version : Version) (cuts depth : ℕ) (had : List (ℕ × ℤ)) (p : Proof) → AreKept frame cuts had → IsFineLeaf frame cuts depth p → AreClean (leaf_line frame version cuts depth had (changing had p))
leaf_changes frame version cuts depth had p before fine =
    let m = makes_leaf frame cuts depth had p before fine in
    line_clean frame version cuts depth had p fine (changes_clean frame cuts had 0 (difference had p.pairs) m.up m.differ m.each)

leaf_made : (frame : Frame) (cuts depth : ℕ) (had : List (ℕ × ℤ)) (p : Proof) → AreKept frame cuts had → IsFineLeaf frame cuts depth p → meant_proof had (changing had p) ≡ p
leaf_made frame cuts depth had p before fine = proof_one (meant_proof had (changing had p)) p refl (makes_leaf frame cuts depth had p before fine).made refl

last_kept : (frame : Frame) (cuts depth : ℕ) (t : Tree) → IsFine frame cuts depth t → AreKept frame cuts (last_pairs t)
last_kept frame cuts depth (Shut p) fine = fine.pairs
last_kept frame cuts depth (Open p) fine = fine.pairs
last_kept frame cuts depth (Split i z low high) fine = last_kept frame cuts (depth + 1) high fine.3

-- ---- versions 2 and 3

-- the versions in which a line has changes
abbrev pub KeepsChanges : Version → Type 0
KeepsChanges v = (had : List (ℕ × ℤ)) (p : Proof) → kept v had p ≡ changed had p.pairs

pub two_keeps : KeepsChanges Two
two_keeps had p = refl

pub three_keeps : KeepsChanges Three
three_keeps had p = refl

-- the lines of a tree with changes
pub record HasChanges (frame : Frame) (v : Version) (cuts depth : ℕ) (had : List (ℕ × ℤ)) (t : Tree) : Type 0 where
  pub clean : AreClean (tree_lines frame v cuts depth had (changing_tree had t))
  pub means : meant_tree v had (changing_tree had t) ≡ t
  pub behind : kept_behind v had (changing_tree had t) ≡ last_pairs t

pub tree_changes : (frame : Frame) (v : Version) (keeps : KeepsChanges v) (cuts depth : ℕ) (had : List (ℕ × ℤ)) (t : Tree) → AreKept frame cuts had → IsFine frame cuts depth t → HasChanges frame v cuts depth had t
tree_changes frame v keeps cuts depth had (Shut p) before fine = record {
  clean = (refl, leaf_changes frame v cuts depth had p before fine);
  means = ap Shut (leaf_made frame cuts depth had p before fine);
  behind = keeps had (changing had p) ∙ (makes_leaf frame cuts depth had p before fine).made;
}
tree_changes frame v keeps cuts depth had (Open p) before fine = record {
  clean = (refl, leaf_changes frame v cuts depth had p before fine);
  means = ap Open (leaf_made frame cuts depth had p before fine);
  behind = keeps had (changing had p) ∙ (makes_leaf frame cuts depth had p before fine).made;
}
tree_changes frame v keeps cuts depth had (Split i z low high) before fine =
    let a = tree_changes frame v keeps cuts (depth + 1) had low before fine.2 in
    let b = tree_changes frame v keeps cuts (depth + 1) (last_pairs low) high (last_kept frame cuts (depth + 1) low fine.2) fine.3 in
    let left = changing_tree had low in
    let right = changing_tree (last_pairs low) high in
    let P : List (ℕ × ℤ) → Type 0 = λ now. AreClean (tree_lines frame v cuts (depth + 1) now right) in
    record {
      clean = (refl, (fine.0, (refl, (fine.1, (refl, clean_both (tree_lines frame v cuts (depth + 1) had left) (tree_lines frame v cuts (depth + 1) (kept_behind v had left) right) a.clean (subst P (sym a.behind) b.clean))))));
      means = ap (λ (now : List (ℕ × ℤ)). Split i z (meant_tree v had left) (meant_tree v now right)) a.behind
          ∙ ap (λ (x : Tree). Split i z x (meant_tree v (last_pairs low) right)) a.means ∙ ap (λ (x : Tree). Split i z low x) b.means;
      behind = ap (λ (now : List (ℕ × ℤ)). kept_behind v now right) a.behind ∙ b.behind;
    }

-- ---- version 1

pub tree_whole : (frame : Frame) (cuts depth : ℕ) (t : Tree) → IsFine frame cuts depth t → AreClean (tree_lines frame One cuts depth [] t)
tree_whole frame cuts depth (Shut p) fine = (refl, leaf_changes frame One cuts depth [] p (none_kept frame cuts) fine)
tree_whole frame cuts depth (Open p) fine = (refl, leaf_changes frame One cuts depth [] p (none_kept frame cuts) fine)
tree_whole frame cuts depth (Split i z low high) fine =
    let P : List (ℕ × ℤ) → Type 0 = λ had. AreClean (tree_lines frame One cuts (depth + 1) had high) in (
      refl,
      (
        fine.0,
        (
          refl,
          (
            fine.1,
            (
              refl,
              clean_both (tree_lines frame One cuts (depth + 1) [] low) (tree_lines frame One cuts (depth + 1) (kept_behind One [] low) high)
                  (tree_whole frame cuts (depth + 1) low fine.2) (subst P (sym (kept_none low)) (tree_whole frame cuts (depth + 1) high fine.3)),
            ),
          ),
        ),
      ),
    )

-- ---- whole certificates

-- a certificate whose parts have no fault
pub parts_clean : (frame : Frame) (version : Version) (c : Cert) → AreClean (claim_lines frame c.claim) → AreClean (cut_lines frame 0 c.cuts)
    → AreClean (tree_lines frame version (length c.cuts) 0 [] c.tree) → AreClean (tokens_of frame version c)
parts_clean frame version c claims cuts lines =
    let end : List Token = Words (codes "end") ∷ LineEnd None ∷ [] in
    let first = claim_lines frame c.claim in
    let second = cut_lines frame 0 c.cuts in
    let tree = tree_lines frame version (length c.cuts) 0 [] c.tree in
    (refl, (refl, (refl, clean_both ((first ++ second) ++ tree) end (clean_both (first ++ second) tree (clean_both first second claims cuts) lines) (refl, (refl, tt)))))

-- the parts of a certificate that has a text
pub record HasParts (frame : Frame) (c : Cert) : Type 0 where
  pub claims : AreClean (claim_lines frame c.claim)
  pub cuts : AreClean (cut_lines frame 0 c.cuts)
  pub fine : IsFine frame (length c.cuts) 0 c.tree

parts_of : (frame : Frame) (version : Version) (c : Cert) (text : List ℕ) → IsText frame version c text → HasParts frame c
parts_of frame version c text is =
    let w = is.written in
    let cuts : w.cuts ≡ c.cuts = ap (λ (x : Cert). x.cuts) is.means in
    let fine = fine_tree frame version (length w.cuts) 0 [] w.tree (none_kept frame (length w.cuts)) (tree_clean frame version w is.clean) in
    let F : Tree → Type 0 = IsFine frame (length w.cuts) 0 in
    let G : List Cut → Type 0 = λ xs. IsFine frame (length xs) 0 c.tree in
    let C : Claim → Type 0 = λ a. AreClean (claim_lines frame a) in
    let D : List Cut → Type 0 = λ xs. AreClean (cut_lines frame 0 xs) in
    record {
      claims = subst C (ap (λ (x : Cert). x.claim) is.means) (claim_clean frame version w is.clean);
      cuts = subst D cuts (cuts_clean frame version w is.clean);
      fine = subst G cuts (subst F (ap (λ (x : Cert). x.tree) is.means) fine);
    }

-- the text of a version that has changes
pub changes_text : (frame : Frame) (version : Version) → KeepsChanges version → (c : Cert) → HasForm version (changing_cert c) → HasParts frame c → IsText frame version c (text_of (tokens_of frame version (changing_cert c)))
changes_text frame version keeps c form h =
    let m = tree_changes frame version keeps (length c.cuts) 0 [] c.tree (none_kept frame (length c.cuts)) h.fine in
    record {
      written = changing_cert c;
      form = form;
      clean = parts_clean frame version (changing_cert c) h.claims h.cuts m.clean;
      bytes = refl;
      means = ap (λ (t : Tree). record { claim = c.claim; cuts = c.cuts; tree = t }) m.means;
    }

-- the text of version 2, or that of version 3
pub text_of_changes : (frame : Frame) (version : Version) (c : Cert) (text : List ℕ) → c.cuts ≡ [] → IsText frame version c text → IsText frame Two c (text_of (tokens_of frame Two (changing_cert c)))
text_of_changes frame version c text none is = changes_text frame Two two_keeps c none (parts_of frame version c text is)

pub third_of_changes : (frame : Frame) (version : Version) (c : Cert) (text : List ℕ) → 0 < length c.cuts → IsText frame version c text → IsText frame Three c (text_of (tokens_of frame Three (changing_cert c)))
third_of_changes frame version c text some is = changes_text frame Three three_keeps c some (parts_of frame version c text is)

-- the text of version 1
pub wholes_text : (frame : Frame) (c : Cert) → c.cuts ≡ [] → HasParts frame c → IsText frame One c (text_of (tokens_of frame One c))
wholes_text frame c none h =
    let clean = parts_clean frame One c h.claims h.cuts (tree_whole frame (length c.cuts) 0 c.tree h.fine) in
    let plain : plain_of c.claim c.tree ≡ c = cert_one (plain_of c.claim c.tree) c refl (sym none) refl in
    let P : Cert → Type 0 = λ x. AreClean (tokens_of frame One x) in
    let means = cert_means frame c.claim c.tree (subst P (sym plain) clean) in
    record { written = c; form = none; clean = clean; bytes = refl; means = ap (meant One) (sym plain) ∙ means ∙ plain }

pub text_of_wholes : (frame : Frame) (version : Version) (c : Cert) (text : List ℕ) → c.cuts ≡ [] → IsText frame version c text → IsText frame One c (text_of (tokens_of frame One c))
text_of_wholes frame version c text none is = wholes_text frame c none (parts_of frame version c text is)

pub certificates_have_both_texts : CertificatesHaveBothTexts
certificates_have_both_texts frame c text none a = ((_, text_of_wholes frame a.0 c text none a.1), (_, text_of_changes frame a.0 c text none a.1))
