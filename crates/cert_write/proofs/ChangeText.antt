-- The bytes of a certificate's text of versions 2 and 3.
use Rattle.std.proofs.Common.{◌≡◌, ℕ, ◌+◌, ◌<◌, ◌≤◌, List, [], ◌∷◌, map, ℤ, pos, refl, sym, ap, ◌∙◌, subst, ⊎_elim, arith, if◌then◌else◌}
use Rattle.std.specs.Prelude.{unwrap_or, Bool, true, false}
use Rattle.std.specs.Option.{option_map}
use Rattle.std.specs.Ordering.{int_eq}
use Rattle.std.proofs.lemmas.Bool.{lt-ltb, le-ltb, eq-eqb, ne_eqb, cases_order}
use Rattle.bp_theory.specs.Trees as theory
use Rattle.bp_theory.specs.Trees.{shut_leaf, open_leaf, split}
use Rattle.bp_theory.specs.Judgement.{named_value}
use Rattle.bp_theory.specs.declared.Cut.{Cut}
use Rattle.bp_theory.specs.declared.Claim.{Claim}
use Rattle.bp_theory.specs.declared.Proof as given
use Rattle.cert_format.specs.Cert as texts
use Rattle.cert_format.specs.Cert.{Proof, Tree, Shut, Open, Split, Frame}
use Rattle.cert_format.specs.Text.{Version, Two, Three, text_of, tokens_of}
use Rattle.cert_format.specs.Fault.{IsText}
use Rattle.cert_write.specs.Differences.{against, difference, changing, last_pairs, changing_tree, changing_cert}
use Rattle.cert_write.specs.Changes.{changing_proof, last_mults, changing_nodes}
use Rattle.cert_format.specs.Written.{written_pair, written_proof, written_picked, written_cut, written_tree, written_claim, cert_of, certificate}
use Rattle.cert_format.specs.Plain.{version_with, plain_text}
use Rattle.cert_format.proofs.PlainProof.{plain_lem}
use Rattle.cert_write.proofs.BothTexts.{text_of_changes, third_of_changes}

-- one of two lists
either-written : (u : Bool) (xs ys : List (ℕ × ℤ)) (n : ℕ × ℤ) → map written_pair xs ≡ ys → map written_pair (if◌then◌else◌ {A = List (ℕ × ℤ)} u xs (n ∷ xs)) ≡ if◌then◌else◌ {A = List (ℕ × ℤ)} u ys (written_pair n ∷ ys)
either-written true xs ys n same = same
either-written false xs ys n same = ap (λ (zs : List (ℕ × ℤ)). written_pair n ∷ zs) same

against_equal : (h n : ℕ × ℤ) (ns : List (ℕ × ℤ)) (rest rest' : List (ℕ × ℤ) → List (ℕ × ℤ)) → n.0 ≡ h.0 → map written_pair (rest ns) ≡ rest' (map written_pair ns)
    → map written_pair (against h rest (n ∷ ns)) ≡ against (written_pair h) rest' (map written_pair (n ∷ ns))
against_equal h n ns rest rest' e same =
    let low : h.0 ≤ n.0 = omega arith in
    let low' : h.0 + 1 ≤ n.0 + 1 = omega arith in
    let also : n.0 + 1 ≡ h.0 + 1 = omega arith in
    rw (le-ltb n.0 h.0 low, eq-eqb n.0 h.0 e, le-ltb (n.0 + 1) (h.0 + 1) low', eq-eqb (n.0 + 1) (h.0 + 1) also) (either-written (int_eq n.1 h.1) (rest ns) (rest' (map written_pair ns)) n same)

against_below : (h n : ℕ × ℤ) (ns : List (ℕ × ℤ)) (rest rest' : List (ℕ × ℤ) → List (ℕ × ℤ)) → n.0 < h.0 → map written_pair (against h rest ns) ≡ against (written_pair h) rest' (map written_pair ns)
    → map written_pair (against h rest (n ∷ ns)) ≡ against (written_pair h) rest' (map written_pair (n ∷ ns))
against_below h n ns rest rest' less more =
    let less' : n.0 + 1 < h.0 + 1 = omega arith in
    rw (lt-ltb n.0 h.0 less, lt-ltb (n.0 + 1) (h.0 + 1) less') (ap (λ (xs : List (ℕ × ℤ)). written_pair n ∷ xs) more)

against_above : (h n : ℕ × ℤ) (ns : List (ℕ × ℤ)) (rest rest' : List (ℕ × ℤ) → List (ℕ × ℤ)) → h.0 < n.0 → map written_pair (rest (n ∷ ns)) ≡ rest' (map written_pair (n ∷ ns))
    → map written_pair (against h rest (n ∷ ns)) ≡ against (written_pair h) rest' (map written_pair (n ∷ ns))
against_above h n ns rest rest' more same =
    let low : h.0 ≤ n.0 = omega arith in
    let low' : h.0 + 1 ≤ n.0 + 1 = omega arith in
    let other : n.0 ≡ h.0 → ⊥ = λ e. omega arith in
    let far : n.0 + 1 ≡ h.0 + 1 → ⊥ = λ e. omega arith in
    rw (le-ltb n.0 h.0 low, ne_eqb n.0 h.0 other, le-ltb (n.0 + 1) (h.0 + 1) low', ne_eqb (n.0 + 1) (h.0 + 1) far) (ap (λ (xs : List (ℕ × ℤ)). (h.0 + 1, pos 0) ∷ xs) same)

against-written : (h : ℕ × ℤ) (rest rest' : List (ℕ × ℤ) → List (ℕ × ℤ)) → ((now : List (ℕ × ℤ)) → map written_pair (rest now) ≡ rest' (map written_pair now))
    → (now : List (ℕ × ℤ)) → map written_pair (against h rest now) ≡ against (written_pair h) rest' (map written_pair now)
against-written h rest rest' same [] = ap (λ (xs : List (ℕ × ℤ)). (h.0 + 1, pos 0) ∷ xs) (same [])
against-written h rest rest' same (n ∷ ns) = ⊎_elim
    (λ e. against_equal h n ns rest rest' e (same ns))
    (λ apart. ⊎_elim (λ less. against_below h n ns rest rest' less (against-written h rest rest' same ns)) (λ more. against_above h n ns rest rest' more (same (n ∷ ns))) apart)
    (cases_order n.0 h.0)

difference-written : (had now : List (ℕ × ℤ)) → map written_pair (difference had now) ≡ difference (map written_pair had) (map written_pair now)
difference-written [] now = refl
difference-written (h ∷ had) now = against-written h (difference had) (difference (map written_pair had)) (λ next. difference-written had next) now

last_pairs-written : (t : theory.Tree) → last_pairs (written_tree t) ≡ map written_pair (last_mults t)
last_pairs-written (shut_leaf p) = refl
last_pairs-written (open_leaf p) = refl
last_pairs-written (split v at low high) = last_pairs-written high

changing-written : (had : List (ℕ × ℤ)) (p : given.Proof) → changing (map written_pair had) (written_proof p) ≡ written_proof (changing_proof had p)
changing-written had p =
    let made : List (ℕ × ℤ) → Proof = λ ps. record { scale = p.scale; pairs = ps; picked = written_picked p.picked } in
    ap made (sym (difference-written had p.mults))

changing_tree-written : (had : List (ℕ × ℤ)) (t : theory.Tree) → changing_tree (map written_pair had) (written_tree t) ≡ written_tree (changing_nodes had t)
changing_tree-written had (shut_leaf p) = ap Shut (changing-written had p)
changing_tree-written had (open_leaf p) = ap Open (changing-written had p)
changing_tree-written had (split v at low high) =
    let left = written_tree (changing_nodes had low) in
    ap (λ (x : Tree). Split (v + 1) at x (changing_tree (last_pairs (written_tree low)) (written_tree high))) (changing_tree-written had low)
    ∙ ap (λ (ps : List (ℕ × ℤ)). Split (v + 1) at left (changing_tree ps (written_tree high))) (last_pairs-written low)
    ∙ ap (λ (x : Tree). Split (v + 1) at left x) (changing_tree-written (last_mults low) high)

-- a certificate's text with changes, byte by byte
pub changed_bytes : (frame : Frame) (version : Version) (claim : Claim) (zs : List ℤ) (cuts : List Cut) (t : theory.Tree) → IsText frame version (cert_of (certificate claim zs cuts t)) (text_of (tokens_of frame version (changing_cert (cert_of (certificate claim zs cuts t)))))
    → IsText frame version (cert_of (certificate claim zs cuts t)) (plain_text version claim zs cuts (changing_nodes [] t))
changed_bytes frame version claim zs cuts t new =
    let a : texts.Claim = written_claim claim (unwrap_or (option_map (λ _. zs) (named_value claim)) []) in
    let made : Tree → texts.Cert = λ x. record { claim = a; cuts = map written_cut cuts; tree = x } in
    let trees : text_of (tokens_of frame version (made (changing_tree [] (written_tree t)))) ≡ text_of (tokens_of frame version (made (written_tree (changing_nodes [] t)))) =
    ap (λ (x : Tree). text_of (tokens_of frame version (made x))) (changing_tree-written [] t) in
    let P : List ℕ → Type 0 = λ s. IsText frame version (cert_of (certificate claim zs cuts t)) s in
    subst P (trees ∙ sym (plain_lem frame version claim zs cuts (changing_nodes [] t))) new

-- a certificate that has a text has this one in version 3 where it has cuts, and else in version 2
pub rewritten : (frame : Frame) (version : Version) (claim : Claim) (zs : List ℤ) (cuts : List Cut) (t : theory.Tree) (old : List ℕ) → IsText frame version (cert_of (certificate claim zs cuts t)) old
    → IsText frame (version_with cuts) (cert_of (certificate claim zs cuts t)) (plain_text (version_with cuts) claim zs cuts (changing_nodes [] t))
rewritten frame version claim zs [] t old is = changed_bytes frame Two claim zs [] t (text_of_changes frame version (cert_of (certificate claim zs [] t)) old refl is)
rewritten frame version claim zs (cut ∷ cuts) t old is =
    changed_bytes frame Three claim zs (cut ∷ cuts) t (third_of_changes frame version (cert_of (certificate claim zs (cut ∷ cuts) t)) old (omega arith) is)
