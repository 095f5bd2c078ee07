-- The text of a certificate's tokens is its bytes part by part.
use Rattle.std.proofs.Common.{◌≡◌, Bool, ℕ, ◌+◌, ◌^◌, List, [], ◌∷◌, ◌++◌, length, map, codes, Some, None, ℤ, pos, refl, sym, ap, ◌∙◌, append_assoc}
use Rattle.std.specs.List.{flat_map}
use Rattle.std.proofs.lemmas.Grind.{flat_map-append}
use Rattle.std.proofs.Math.ListN.{length-map}
use Rattle.bp_theory.specs.declared.Cut.{Cut}
use Rattle.bp_theory.specs.declared.Claim.{Claim}
use Rattle.bp_theory.specs.declared.Claim.TheVariants.{Optimal, Infeasible, Bound}
use Rattle.bp_theory.specs.declared.Picked.{Picked}
use Rattle.bp_theory.specs.declared.Picked.TheVariants.{Every, These}
use Rattle.bp_theory.specs.declared.Proof.{Proof}
use Rattle.bp_theory.specs.Trees.{Tree, shut_leaf, open_leaf, split}
use Rattle.std.specs.Prelude.{unwrap_or}
use Rattle.std.specs.Option.{option_map}
use Rattle.bp_theory.specs.Judgement.{named_value}
use Rattle.cert_format.specs.Cert as texts
use Rattle.cert_format.specs.Cert.{Frame}
use Rattle.cert_format.specs.Text.{Token, Words, Figure, LineEnd, Version, version_word, pairs_word, numeral, signed_numeral, token_text, text_of, may_name, may_combine, point_values, pairs_behind, blocks_behind, picked_words, count, value, scale_fault, divisor_fault, variable_fault, leaf_line, cut_lines, tree_lines, kept_behind, claim_lines, tokens_of}
use Rattle.cert_format.specs.Written.{in_text, written_pair, written_picked, written_proof, written_cut, written_tree, written_claim, cert_of, certificate}
use Rattle.cert_format.specs.Plain.{pair_text, block_text, coordinate_text, picked_text, proof_text, cut_text, tree_text, point_text, claim_text, plain_text}

pairs_plain : (named : ℕ → Bool) (limit : ℕ) (had : List (ℕ × ℤ)) (last : ℕ) (ps : List (ℕ × ℤ)) → text_of (pairs_behind named limit had last (map written_pair ps)) ≡ flat_map pair_text ps
pairs_plain named limit had last [] = refl
pairs_plain named limit had last (p ∷ ps) =
    let rest = pairs_plain named limit had (p.0 + 1) ps in
    let split : pair_text p ++ flat_map pair_text ps ≡ codes " " ++ (numeral (p.0 + 1) ++ (codes " " ++ (signed_numeral p.1 ++ flat_map pair_text ps))) = simp append_assoc in
    ap (λ (xs : List ℕ). codes " " ++ (numeral (p.0 + 1) ++ (codes " " ++ (signed_numeral p.1 ++ xs)))) rest ∙ sym split

blocks_plain : (frame : Frame) (last : ℕ) (ks : List ℕ) → text_of (blocks_behind frame last (map in_text ks)) ≡ flat_map block_text ks
blocks_plain frame last [] = refl
blocks_plain frame last (k ∷ ks) =
    let rest = blocks_plain frame (k + 1) ks in
    let split : block_text k ++ flat_map block_text ks ≡ codes " " ++ (numeral (k + 1) ++ flat_map block_text ks) = simp append_assoc in
    ap (λ (xs : List ℕ). codes " " ++ (numeral (k + 1) ++ xs)) rest ∙ sym split

points_plain : (frame : Frame) (number : ℕ) (zs : List ℤ) → text_of (point_values frame number zs) ≡ flat_map coordinate_text zs ++ codes "\n"
points_plain frame number [] = refl
points_plain frame number (z ∷ zs) =
    let rest = points_plain frame (number + 1) zs in
    let split : flat_map coordinate_text (z ∷ zs) ++ codes "\n" ≡ codes " " ++ (signed_numeral z ++ (flat_map coordinate_text zs ++ codes "\n")) = simp append_assoc in
    ap (λ (xs : List ℕ). codes " " ++ (signed_numeral z ++ xs)) rest ∙ sym split

picked_plain : (frame : Frame) (p : Picked) → text_of (picked_words frame (written_picked p)) ≡ picked_text p
picked_plain frame Every = refl
picked_plain frame (These ks) =
    ap (λ (n : ℕ). numeral n ++ text_of (blocks_behind frame 0 (map in_text ks))) (simp length-map) ∙ ap (λ (xs : List ℕ). numeral (length ks) ++ xs) (blocks_plain frame 0 ks)

leaf_plain : (frame : Frame) (version : Version) (cuts depth : ℕ) (had : List (ℕ × ℤ)) (p : Proof) (us : List Token) → text_of (leaf_line frame version cuts depth had (written_proof p) ++ us) ≡ proof_text version p ++ text_of us
leaf_plain frame version cuts depth had p us =
    let named = may_name frame cuts in
    let pairs = pairs_behind named (2 ^ 40) had 0 (map written_pair p.mults) in
    let picked = picked_words frame (written_picked p.picked) in
    let more = Words (codes " priced ") ∷ (picked ++ (LineEnd None ∷ us)) in
    let line : leaf_line frame version cuts depth had (written_proof p) ++ us ≡ Figure (pos p.scale) (scale_fault frame depth p.scale) ∷ Words (pairs_word version) ∷ count (length (map written_pair p.mults)) ∷ (pairs ++ more) = simp append_assoc in
    let tail : text_of more ≡ codes " priced " ++ (picked_text p.picked ++ (codes "\n" ++ text_of us)) = ap (λ (xs : List ℕ). codes " priced " ++ xs) (flat_map-append token_text picked (LineEnd None ∷ us) ∙ ap (λ (xs : List ℕ). xs ++ (codes "\n" ++ text_of us)) (picked_plain frame p.picked)) in
    let body : text_of (pairs ++ more) ≡ flat_map pair_text p.mults ++ (codes " priced " ++ (picked_text p.picked ++ (codes "\n" ++ text_of us))) =
    flat_map-append token_text pairs more ∙ ap (λ (xs : List ℕ). xs ++ text_of more) (pairs_plain named (2 ^ 40) had 0 p.mults) ∙ ap (λ (xs : List ℕ). flat_map pair_text p.mults ++ xs) tail in
    let whole : proof_text version p ++ text_of us ≡ numeral p.scale ++ (pairs_word version ++ (numeral (length p.mults) ++ (flat_map pair_text p.mults ++ (codes " priced " ++ (picked_text p.picked ++ (codes "\n" ++ text_of us)))))) = simp append_assoc in
    ap text_of line ∙ ap (λ (n : ℕ). numeral p.scale ++ (pairs_word version ++ (numeral n ++ text_of (pairs ++ more)))) (simp length-map) ∙ ap (λ (xs : List ℕ). numeral p.scale ++ (pairs_word version ++ (numeral (length p.mults) ++ xs))) body ∙ sym whole

tree_plain : (frame : Frame) (version : Version) (cuts depth : ℕ) (had : List (ℕ × ℤ)) (t : Tree) (us : List Token) → text_of (tree_lines frame version cuts depth had (written_tree t) ++ us) ≡ tree_text version t ++ text_of us
tree_plain frame version cuts depth had (shut_leaf p) us =
    ap (λ (xs : List ℕ). codes "leaf " ++ xs) (leaf_plain frame version cuts depth had p us) ∙ sym (append_assoc (codes "leaf ") (proof_text version p) (text_of us))
tree_plain frame version cuts depth had (open_leaf p) us =
    ap (λ (xs : List ℕ). codes "open " ++ xs) (leaf_plain frame version cuts depth had p us) ∙ sym (append_assoc (codes "open ") (proof_text version p) (text_of us))
tree_plain frame version cuts depth had (split v at low high) us =
    let left = tree_lines frame version cuts (depth + 1) had (written_tree low) in
    let right = tree_lines frame version cuts (depth + 1) (kept_behind version had (written_tree low)) (written_tree high) in
    let line : tree_lines frame version cuts depth had (written_tree (split v at low high)) ++ us ≡ Words (codes "split ") ∷ Figure (pos (v + 1)) (variable_fault frame depth (v + 1)) ∷ Words (codes " ") ∷ value at ∷ LineEnd None ∷ (left ++ (right ++ us)) = simp append_assoc in
    let body : text_of (left ++ (right ++ us)) ≡ tree_text version low ++ (tree_text version high ++ text_of us) =
    tree_plain frame version cuts (depth + 1) had low (right ++ us) ∙ ap (λ (xs : List ℕ). tree_text version low ++ xs) (tree_plain frame version cuts (depth + 1) (kept_behind version had (written_tree low)) high us) in
    let whole : tree_text version (split v at low high) ++ text_of us ≡ codes "split " ++ (numeral (v + 1) ++ (codes " " ++ (signed_numeral at ++ (codes "\n" ++ (tree_text version low ++ (tree_text version high ++ text_of us)))))) = simp append_assoc in
    ap text_of line ∙ ap (λ (xs : List ℕ). codes "split " ++ (numeral (v + 1) ++ (codes " " ++ (signed_numeral at ++ (codes "\n" ++ xs))))) body ∙ sym whole

point_plain : (frame : Frame) (zs : List ℤ) (us : List Token) → text_of (point_values frame 1 zs ++ us) ≡ (flat_map coordinate_text zs ++ codes "\n") ++ text_of us
point_plain frame zs us = flat_map-append token_text (point_values frame 1 zs) us ∙ ap (λ (xs : List ℕ). xs ++ text_of us) (points_plain frame 1 zs)

-- parts in front of others
four : (a b c d u : List ℕ) → (a ++ b ++ c ++ d) ++ u ≡ a ++ (b ++ (c ++ (d ++ u)))
four a b c d u = simp append_assoc

three : (a b c u : List ℕ) → (a ++ b ++ c) ++ u ≡ a ++ (b ++ (c ++ u))
three a b c u = simp append_assoc

six : (a b c d e f u : List ℕ) → (a ++ (b ++ c ++ d ++ e ++ f)) ++ u ≡ a ++ (b ++ (c ++ (d ++ (e ++ (f ++ u)))))
six a b c d e f u = simp append_assoc

two : (a b c u : List ℕ) → (a ++ (b ++ c)) ++ u ≡ a ++ (b ++ (c ++ u))
two a b c u = simp append_assoc

point_joined : (zs : List ℤ) (u : List ℕ) → point_text zs ++ u ≡ codes "point" ++ ((flat_map coordinate_text zs ++ codes "\n") ++ u)
point_joined zs u = three (codes "point") (flat_map coordinate_text zs) (codes "\n") u ∙ ap (λ (xs : List ℕ). codes "point" ++ xs) (sym (append_assoc (flat_map coordinate_text zs) (codes "\n") u))

claim_plain : (frame : Frame) (claim : Claim) (zs : List ℤ) (us : List Token) → text_of (claim_lines frame (written_claim claim zs) ++ us) ≡ claim_text claim zs ++ text_of us
claim_plain frame (Optimal v) zs us =
    ap (λ (xs : List ℕ). codes "claim optimal " ++ (signed_numeral v ++ (codes "\n" ++ xs))) (ap (λ (xs : List ℕ). codes "point" ++ xs) (point_plain frame zs us) ∙ sym (point_joined zs (text_of us)))
    ∙ sym (four (codes "claim optimal ") (signed_numeral v) (codes "\n") (point_text zs) (text_of us))
claim_plain frame Infeasible zs us = refl
claim_plain frame (Bound b None) zs us = sym (two (codes "claim bound ") (signed_numeral b) (codes "\n") (text_of us))
claim_plain frame (Bound b (Some v)) zs us =
    ap (λ (xs : List ℕ). codes "claim bound " ++ (signed_numeral b ++ (codes " value " ++ (signed_numeral v ++ (codes "\n" ++ xs))))) (ap (λ (xs : List ℕ). codes "point" ++ xs) (point_plain frame zs us) ∙ sym (point_joined zs (text_of us)))
    ∙ sym (six (codes "claim bound ") (signed_numeral b) (codes " value ") (signed_numeral v) (codes "\n") (point_text zs) (text_of us))

-- the point of a claim is given back where it is written
pub same_claim : (claim : Claim) (zs : List ℤ) → written_claim claim (unwrap_or (option_map (λ _. zs) (named_value claim)) []) ≡ written_claim claim zs
same_claim (Optimal v) zs = refl
same_claim Infeasible zs = refl
same_claim (Bound b None) zs = refl
same_claim (Bound b (Some v)) zs = refl

cuts_plain : (frame : Frame) (earlier : ℕ) (cuts : List Cut) (us : List Token) → text_of (cut_lines frame earlier (map written_cut cuts) ++ us) ≡ flat_map cut_text cuts ++ text_of us
cuts_plain frame earlier [] us = refl
cuts_plain frame earlier (cut ∷ cuts) us =
    let pairs = pairs_behind (may_combine frame earlier) (2 ^ 20) [] 0 (map written_pair cut.rows) in
    let rest = LineEnd None ∷ (cut_lines frame (earlier + 1) (map written_cut cuts) ++ us) in
    let line : cut_lines frame earlier (map written_cut (cut ∷ cuts)) ++ us ≡ Words (codes "cut ") ∷ Figure (pos cut.q) (divisor_fault earlier cut.q) ∷ Words (codes " rows ") ∷ count (length (map written_pair cut.rows)) ∷ (pairs ++ rest) = simp append_assoc in
    let body : text_of (pairs ++ rest) ≡ flat_map pair_text cut.rows ++ (codes "\n" ++ (flat_map cut_text cuts ++ text_of us)) =
    flat_map-append token_text pairs rest ∙ ap (λ (xs : List ℕ). xs ++ text_of rest) (pairs_plain (may_combine frame earlier) (2 ^ 20) [] 0 cut.rows)
    ∙ ap (λ (xs : List ℕ). flat_map pair_text cut.rows ++ (codes "\n" ++ xs)) (cuts_plain frame (earlier + 1) cuts us) in
    let whole : flat_map cut_text (cut ∷ cuts) ++ text_of us ≡ codes "cut " ++ (numeral cut.q ++ (codes " rows " ++ (numeral (length cut.rows) ++ (flat_map pair_text cut.rows ++ (codes "\n" ++ (flat_map cut_text cuts ++ text_of us)))))) = simp append_assoc in
    ap text_of line ∙ ap (λ (n : ℕ). codes "cut " ++ (numeral cut.q ++ (codes " rows " ++ (numeral n ++ text_of (pairs ++ rest))))) (simp length-map)
    ∙ ap (λ (xs : List ℕ). codes "cut " ++ (numeral cut.q ++ (codes " rows " ++ (numeral (length cut.rows) ++ xs)))) body ∙ sym whole

pub plain_lem : (frame : Frame) (version : Version) (claim : Claim) (zs : List ℤ) (cuts : List Cut) (tree : Tree) → plain_text version claim zs cuts tree ≡ text_of (tokens_of frame version (cert_of (certificate claim zs cuts tree)))
plain_lem frame version claim zs cuts tree =
    let end : List Token = Words (codes "end") ∷ LineEnd None ∷ [] in
    let middle = cut_lines frame 0 (map written_cut cuts) in
    let lines = tree_lines frame version (length (map written_cut cuts)) 0 [] (written_tree tree) in
    let given : texts.Claim = written_claim claim (unwrap_or (option_map (λ _. zs) (named_value claim)) []) in
    let split : tokens_of frame version (cert_of (certificate claim zs cuts tree)) ≡ Words (codes "bpcert ") ∷ Words (version_word version) ∷ LineEnd None ∷ (claim_lines frame given ++ (middle ++ (lines ++ end))) = simp append_assoc in
    let front = ap (λ (c : texts.Claim). text_of (claim_lines frame c ++ (middle ++ (lines ++ end)))) (same_claim claim zs) in
    let body = claim_plain frame claim zs (middle ++ (lines ++ end))
    ∙ ap (λ (xs : List ℕ). claim_text claim zs ++ xs) (cuts_plain frame 0 cuts (lines ++ end) ∙ ap (λ (xs : List ℕ). flat_map cut_text cuts ++ xs) (tree_plain frame version (length (map written_cut cuts)) 0 [] tree end)) in
    sym (ap text_of split ∙ ap (λ (xs : List ℕ). codes "bpcert " ++ (version_word version ++ (codes "\n" ++ xs))) (front ∙ body) ∙ tidy (version_word version) (claim_text claim zs) (flat_map cut_text cuts) (tree_text version tree)) where
      tidy : (ws xs ys zs : List ℕ) → codes "bpcert " ++ (ws ++ (codes "\n" ++ (xs ++ (ys ++ (zs ++ codes "end\n"))))) ≡ (codes "bpcert " ++ ws ++ codes "\n") ++ xs ++ ys ++ zs ++ codes "end\n"
      tidy ws xs ys zs = sym (simp append_assoc)
