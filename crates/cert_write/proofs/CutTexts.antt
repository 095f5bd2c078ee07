-- The texts of certificates whose leaves have changes, with cuts or without.
use Rattle.std.proofs.Common.{◌≡◌, refl, sym, ap, ◌∙◌, ℕ, ◌+◌, ℤ, List, [], ◌∷◌, ◌++◌, codes, append_assoc}
use Rattle.bp_theory.specs.declared.Claim.{Claim}
use Rattle.bp_theory.specs.declared.Cut.{Cut}
use Rattle.bp_theory.specs.Trees.{Tree, shut_leaf, open_leaf, split}
use Rattle.cert_format.specs.Text.{Two, Three, numeral, signed_numeral}
use Rattle.cert_format.specs.Plain.{head_text, plain_text, tree_text, version_with}

-- the lines of a tree are those of version 2
tree_alike : (t : Tree) → tree_text Two t ≡ tree_text Three t
tree_alike (shut_leaf proof) = refl
tree_alike (open_leaf proof) = refl
tree_alike (split v at low high) =
    let front : List ℕ = codes "split " ++ numeral (v + 1) ++ codes " " ++ signed_numeral at ++ codes "\n" in
    ap (λ (xs : List ℕ). front ++ xs ++ tree_text Two high) (tree_alike low) ∙ ap (λ (xs : List ℕ). front ++ tree_text Three low ++ xs) (tree_alike high)

pub tree_with : (cuts : List Cut) (t : Tree) → tree_text Two t ≡ tree_text (version_with cuts) t
tree_with [] t = refl
tree_with (cut ∷ cuts) t = tree_alike t

-- a text from its parts
pub whole_text : (claim : Claim) (zs : List ℤ) (cuts : List Cut) (t : Tree) (old head nodes text : List ℕ) → head ≡ old ++ head_text (version_with cuts) claim zs cuts → nodes ≡ head ++ tree_text Two t → text ≡ nodes ++ codes "end\n"
    → text ≡ old ++ plain_text (version_with cuts) claim zs cuts t
whole_text claim zs cuts t old head nodes text front tree last =
    let h : List ℕ = head_text (version_with cuts) claim zs cuts in
    let e : List ℕ = codes "end\n" in
    let two : List ℕ = tree_text Two t in
    last ∙ ap (λ (xs : List ℕ). xs ++ e) (tree ∙ ap (λ (xs : List ℕ). xs ++ two) front)
    ∙ append_assoc (old ++ h) two e ∙ append_assoc old h (two ++ e)
    ∙ ap (λ (xs : List ℕ). old ++ xs) (sym (append_assoc h two e))
    ∙ ap (λ (xs : List ℕ). old ++ ((h ++ xs) ++ e)) (tree_with cuts t)

-- a text from the parts that it was written of
pub written_text : (k l : Claim) (zs ys : List ℤ) (cs ds : List Cut) (t u : Tree) (old text : List ℕ) → old ≡ [] → k ≡ l → zs ≡ ys → cs ≡ ds → t ≡ u → text ≡ old ++ plain_text (version_with cs) k zs cs t → text ≡ plain_text (version_with ds) l ys ds u
written_text k l zs ys cs ds t u old text none claim point cuts tree is =
    is ∙ ap (λ (xs : List ℕ). xs ++ plain_text (version_with cs) k zs cs t) none ∙ ap (λ (x : Claim). plain_text (version_with cs) x zs cs t) claim ∙ ap (λ (xs : List ℤ). plain_text (version_with cs) l xs cs t) point
    ∙ ap (λ (xs : List Cut). plain_text (version_with xs) l ys xs t) cuts ∙ ap (λ (x : Tree). plain_text (version_with ds) l ys ds x) tree
