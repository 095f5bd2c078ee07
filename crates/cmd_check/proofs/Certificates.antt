-- The written certificate tells the certificate.
use Rattle.std.proofs.Common.{◌≡◌, ◌∙◌, refl, sym, ap, ℕ, ◌-◌, List, [], ◌∷◌, map, Option, Some, None, arith}
use Rattle.std.proofs.Math.IntN.{ℤ}
use Rattle.std.specs.Prelude.{unwrap_or}
use Rattle.std.specs.Option.{option_map}
use Rattle.bp_theory.specs.Program.{Program}
use Rattle.bp_theory.specs.Trees.{Tree, shut_leaf, open_leaf, split}
use Rattle.bp_theory.specs.Claims.{Certificate, PointFits}
use Rattle.bp_theory.specs.Judgement.{HasItsPoint, named_value}
use Rattle.bp_theory.specs.declared.Claim.{Claim}
use Rattle.bp_theory.specs.declared.Claim.TheVariants as claims
use Rattle.bp_theory.specs.declared.Picked.{Picked}
use Rattle.bp_theory.specs.declared.Picked.TheVariants as picks
use Rattle.bp_theory.specs.declared.Proof.{Proof}
use Rattle.bp_theory.specs.declared.Cut.{Cut}
use Rattle.cert_format.specs.Cert as texts
use Rattle.cert_format.specs.Written.{in_text, written_pair, written_picked, written_proof, written_cut, written_tree, written_claim, cert_of}

same_list : {A : Type 0} (x y : A) (xs ys : List A) → x ≡ y → xs ≡ ys → x ∷ xs ≡ y ∷ ys
same_list x y xs ys first rest = cc

-- what is read back element by element
back_list : {A B : Type 0} (f : A → B) (g : B → A) → ((x : A) → g (f x) ≡ x) → (xs : List A) → map g (map f xs) ≡ xs
back_list f g back [] = refl
back_list f g back (x ∷ xs) = same_list (g (f x)) x (map g (map f xs)) xs (back x) (back_list f g back xs)

abbrev from_text : ℕ → ℕ
from_text k = k - 1

back_number : (k : ℕ) → from_text (in_text k) ≡ k
back_number k = omega arith

abbrev from_pair : ℕ × ℤ → ℕ × ℤ
from_pair pair = (from_text pair.0, pair.1)

back_pair : (pair : ℕ × ℤ) → from_pair (written_pair pair) ≡ pair
back_pair pair = ap (λ (k : ℕ). let p : ℕ × ℤ = (k, pair.1) in p) (back_number pair.0)

back_pairs : (pairs : List (ℕ × ℤ)) → map from_pair (map written_pair pairs) ≡ pairs
back_pairs pairs = back_list written_pair from_pair back_pair pairs

abbrev from_picked : texts.Picked → Picked
from_picked texts.Every = picks.Every
from_picked (texts.These ks) = picks.These (map from_text ks)

back_picked : (picked : Picked) → from_picked (written_picked picked) ≡ picked
back_picked picks.Every = refl
back_picked (picks.These ks) = ap (λ (ns : List ℕ). picks.These ns) (back_list in_text from_text back_number ks)

abbrev from_proof : texts.Proof → Proof
from_proof proof = record { scale = proof.scale; mults = map from_pair proof.pairs; picked = from_picked proof.picked }

back_proof : (proof : Proof) → from_proof (written_proof proof) ≡ proof
back_proof proof = parts proof.scale (map from_pair (map written_pair proof.mults)) proof.mults (from_picked (written_picked proof.picked)) proof.picked
    (back_pairs proof.mults) (back_picked proof.picked)
  where
    parts : (scale : ℕ) (ms ns : List (ℕ × ℤ)) (p q : Picked) → ms ≡ ns → p ≡ q
        → (let x : Proof = record { scale = scale; mults = ms; picked = p } in x) ≡ (let x : Proof = record { scale = scale; mults = ns; picked = q } in x)
    parts scale ms ns p q e f = rw (e, f) refl

abbrev from_cut : texts.Cut → Cut
from_cut cut = record { q = cut.divisor; rows = map from_pair cut.pairs }

back_cut : (cut : Cut) → from_cut (written_cut cut) ≡ cut
back_cut cut = ap (λ (rows : List (ℕ × ℤ)). let x : Cut = record { q = cut.q; rows = rows } in x) (back_pairs cut.rows)

abbrev from_tree : texts.Tree → Tree
from_tree (texts.Shut proof) = shut_leaf (from_proof proof)
from_tree (texts.Open proof) = open_leaf (from_proof proof)
from_tree (texts.Split v at low high) = split (from_text v) at (from_tree low) (from_tree high)

same_split : (v w : ℕ) (at : ℤ) (a b c d : Tree) → v ≡ w → a ≡ c → b ≡ d → split v at a b ≡ split w at c d
same_split v w at a b c d e f g = cc

back_tree : (tree : Tree) → from_tree (written_tree tree) ≡ tree
back_tree (shut_leaf proof) = ap shut_leaf (back_proof proof)
back_tree (open_leaf proof) = ap open_leaf (back_proof proof)
back_tree (split v at low high) =
    same_split (from_text (in_text v)) v at (from_tree (written_tree low)) (from_tree (written_tree high)) low high (back_number v) (back_tree low) (back_tree high)

abbrev from_claim : texts.Claim → Claim
from_claim (texts.Optimal v zs) = claims.Optimal v
from_claim texts.Infeasible = claims.Infeasible
from_claim (texts.Bound bound) = claims.Bound bound None
from_claim (texts.BoundValue bound v zs) = claims.Bound bound (Some v)

abbrev from_point : texts.Claim → Option (List ℤ)
from_point (texts.Optimal v zs) = Some zs
from_point texts.Infeasible = None
from_point (texts.Bound bound) = None
from_point (texts.BoundValue bound v zs) = Some zs

back_claim : (claim : Claim) (zs : List ℤ) → from_claim (written_claim claim zs) ≡ claim
back_claim (claims.Optimal v) zs = refl
back_claim claims.Infeasible zs = refl
back_claim (claims.Bound bound None) zs = refl
back_claim (claims.Bound bound (Some v)) zs = refl

back_point : (claim : Claim) (point : Option (List ℤ)) → HasItsPoint (named_value claim) point → from_point (written_claim claim (unwrap_or point [])) ≡ point
back_point (claims.Optimal v) None has = absurd has
back_point (claims.Optimal v) (Some x) has = refl
back_point claims.Infeasible None has = refl
back_point claims.Infeasible (Some x) has = absurd has
back_point (claims.Bound bound None) None has = refl
back_point (claims.Bound bound None) (Some x) has = absurd has
back_point (claims.Bound bound (Some v)) None has = absurd has
back_point (claims.Bound bound (Some v)) (Some x) has = refl

abbrev from_cert : texts.Cert → Certificate
from_cert cert = record { claim = from_claim cert.claim; point = from_point cert.claim; cuts = map from_cut cert.cuts; tree = from_tree cert.tree }

back_cert : (cert : Certificate) → HasItsPoint (named_value cert.claim) cert.point → from_cert (cert_of cert) ≡ cert
back_cert cert has =
    let zs : List ℤ = unwrap_or cert.point [] in
    parts (from_claim (written_claim cert.claim zs)) cert.claim (from_point (written_claim cert.claim zs)) cert.point
    (map from_cut (map written_cut cert.cuts)) cert.cuts (from_tree (written_tree cert.tree)) cert.tree
    (back_claim cert.claim zs) (back_point cert.claim cert.point has) (back_list written_cut from_cut back_cut cert.cuts) (back_tree cert.tree)
  where
    parts : (a b : Claim) (c d : Option (List ℤ)) (e f : List Cut) (g h : Tree) → a ≡ b → c ≡ d → e ≡ f → g ≡ h
        → (let x : Certificate = record { claim = a; point = c; cuts = e; tree = g } in x) ≡ (let x : Certificate = record { claim = b; point = d; cuts = f; tree = h } in x)
    parts a b c d e f g h i j k l = rw (i, j, k, l) refl

-- certificates with their points that are written alike are one
pub one_written : (c d : Certificate) → HasItsPoint (named_value c.claim) c.point → HasItsPoint (named_value d.claim) d.point → cert_of c ≡ cert_of d → c ≡ d
one_written c d has has' same = sym (back_cert c has) ∙ ap from_cert same ∙ back_cert d has'

-- a point that fits its claim is there exactly where the claim names a value
pub fitting_point : (p : Program) (claim : Claim) (point : Option (List ℤ)) → PointFits p claim point → HasItsPoint (named_value claim) point
fitting_point p (claims.Optimal v) None fits = absurd fits
fitting_point p (claims.Optimal v) (Some x) fits = tt
fitting_point p claims.Infeasible None fits = tt
fitting_point p claims.Infeasible (Some x) fits = absurd fits
fitting_point p (claims.Bound bound None) None fits = tt
fitting_point p (claims.Bound bound None) (Some x) fits = absurd fits
fitting_point p (claims.Bound bound (Some v)) None fits = absurd fits
fitting_point p (claims.Bound bound (Some v)) (Some x) fits = tt

-- the point of a certificate that was read
pub kept_point : (claim : Claim) (zs : List ℤ) → HasItsPoint (named_value claim) (option_map (λ _. zs) (named_value claim))
kept_point (claims.Optimal v) zs = tt
kept_point claims.Infeasible zs = tt
kept_point (claims.Bound bound None) zs = tt
kept_point (claims.Bound bound (Some v)) zs = tt
