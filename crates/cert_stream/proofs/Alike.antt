-- A certificate is known by its text.
use Rattle.std.proofs.Common.{◌≡◌, refl, ap, subst, ◌∙◌, ℕ, ◌+◌, List, [], ◌∷◌, map, Some, None, arith}
use Rattle.std.proofs.Math.IntN.{ℤ}
use Rattle.std.specs.Prelude.{unwrap_or}
use Rattle.std.specs.Option.{option_map}
use Rattle.bp_theory.specs.Trees.{Tree, shut_leaf, open_leaf, split}
use Rattle.bp_theory.specs.Claims.{Certificate}
use Rattle.bp_theory.specs.Judgement.{named_value}
use Rattle.bp_theory.specs.declared.Claim.{Claim}
use Rattle.bp_theory.specs.declared.Claim.TheVariants as claims
use Rattle.bp_theory.specs.declared.Cut.{Cut}
use Rattle.bp_theory.specs.declared.Picked.{Picked}
use Rattle.bp_theory.specs.declared.Picked.TheVariants.{Every, These}
use Rattle.bp_theory.specs.declared.Proof.{Proof}
use Rattle.cert_format.specs.Cert as texts
use Rattle.cert_format.specs.Kept.{kept_cert}
use Rattle.cert_format.specs.Sketch.{tree_of}
use Rattle.cert_text.specs.Programs.{frame_for}
use Rattle.cert_format.specs.Written.{in_text, written_pair, written_picked, written_proof, written_cut, written_tree, written_claim, cert_of, certificate}
use Rattle.cert_format.proofs.LawProofs.{certificates_are_one, certificates_are_faultless, texts_have_one_fault}
use Rattle.cert_check.specs.Judging.{IsJudgedWithin}
use Rattle.cert_stream.specs.Wholes.{JudgedAsWhole, FaultyAsWhole, NotFaultyToo, NotJudgedToo}

same_numbers : (ks ls : List ℕ) → map in_text ks ≡ map in_text ls → ks ≡ ls
same_numbers [] [] e = refl
same_numbers [] (l ∷ ls) e = absurd (cc)
same_numbers (k ∷ ks) [] e = absurd (cc)
same_numbers (k ∷ ks) (l ∷ ls) e =
    let first : k + 1 ≡ l + 1 = cc in
    let rest : map in_text ks ≡ map in_text ls = cc in
    let one : k ≡ l = omega (arith, first) in
    ap (λ (x : ℕ). x ∷ ks) one ∙ ap (λ (xs : List ℕ). l ∷ xs) (same_numbers ks ls rest)

same_pair : (p q : ℕ × ℤ) → written_pair p ≡ written_pair q → p ≡ q
same_pair p q e =
    let more : p.0 + 1 ≡ q.0 + 1 = ap (λ (x : ℕ × ℤ). x.0) e in
    let first : p.0 ≡ q.0 = omega (arith, more) in
    let second : p.1 ≡ q.1 = ap (λ (x : ℕ × ℤ). x.1) e in
    let P : ℕ → ℤ → ℕ × ℤ = λ x y. (x, y) in
    ap (λ (x : ℕ). P x p.1) first ∙ ap (λ (y : ℤ). P q.0 y) second

same_pairs : (ps qs : List (ℕ × ℤ)) → map written_pair ps ≡ map written_pair qs → ps ≡ qs
same_pairs [] [] e = refl
same_pairs [] (q ∷ qs) e = absurd (cc)
same_pairs (p ∷ ps) [] e = absurd (cc)
same_pairs (p ∷ ps) (q ∷ qs) e =
    let first : written_pair p ≡ written_pair q = cc in
    let rest : map written_pair ps ≡ map written_pair qs = cc in
    ap (λ (x : ℕ × ℤ). x ∷ ps) (same_pair p q first) ∙ ap (λ (xs : List (ℕ × ℤ)). q ∷ xs) (same_pairs ps qs rest)

same_picked : (x y : Picked) → written_picked x ≡ written_picked y → x ≡ y
same_picked Every Every e = refl
same_picked Every (These ls) e = absurd (cc)
same_picked (These ks) Every e = absurd (cc)
same_picked (These ks) (These ls) e = let each : map in_text ks ≡ map in_text ls = cc in ap (λ (xs : List ℕ). These xs) (same_numbers ks ls each)

same_proof : (p q : Proof) → written_proof p ≡ written_proof q → p ≡ q
same_proof p q e =
    let scale : p.scale ≡ q.scale = ap (λ (x : texts.Proof). x.scale) e in
    let mults : p.mults ≡ q.mults = same_pairs p.mults q.mults (ap (λ (x : texts.Proof). x.pairs) e) in
    let picked : p.picked ≡ q.picked = same_picked p.picked q.picked (ap (λ (x : texts.Proof). x.picked) e) in
    let P : ℕ → List (ℕ × ℤ) → Picked → Proof = λ s ms ks. record { scale = s; mults = ms; picked = ks } in
    ap (λ (s : ℕ). P s p.mults p.picked) scale ∙ ap (λ (ms : List (ℕ × ℤ)). P q.scale ms p.picked) mults ∙ ap (λ (ks : Picked). P q.scale q.mults ks) picked

same_tree : (t u : Tree) → written_tree t ≡ written_tree u → t ≡ u
same_tree (shut_leaf p) (shut_leaf q) e = let here : written_proof p ≡ written_proof q = cc in ap (λ (x : Proof). shut_leaf x) (same_proof p q here)
same_tree (shut_leaf p) (open_leaf q) e = absurd (cc)
same_tree (shut_leaf p) (split w bt l h) e = absurd (cc)
same_tree (open_leaf p) (shut_leaf q) e = absurd (cc)
same_tree (open_leaf p) (open_leaf q) e = let here : written_proof p ≡ written_proof q = cc in ap (λ (x : Proof). open_leaf x) (same_proof p q here)
same_tree (open_leaf p) (split w bt l h) e = absurd (cc)
same_tree (split v at low high) (shut_leaf q) e = absurd (cc)
same_tree (split v at low high) (open_leaf q) e = absurd (cc)
same_tree (split v at low high) (split w bt l h) e =
    let more : v + 1 ≡ w + 1 = cc in
    let number : v ≡ w = omega (arith, more) in
    let place : at ≡ bt = cc in
    let lows : written_tree low ≡ written_tree l = cc in
    let highs : written_tree high ≡ written_tree h = cc in
    ap (λ (x : ℕ). split x at low high) number ∙ ap (λ (z : ℤ). split w z low high) place ∙ ap (λ (x : Tree). split w bt x high) (same_tree low l lows)
    ∙ ap (λ (x : Tree). split w bt l x) (same_tree high h highs)

same_cut : (c d : Cut) → written_cut c ≡ written_cut d → c ≡ d
same_cut c d e =
    let divisor : c.q ≡ d.q = ap (λ (x : texts.Cut). x.divisor) e in
    let rows : c.rows ≡ d.rows = same_pairs c.rows d.rows (ap (λ (x : texts.Cut). x.pairs) e) in
    let C : ℕ → List (ℕ × ℤ) → Cut = λ q ps. record { q = q; rows = ps } in
    ap (λ (q : ℕ). C q c.rows) divisor ∙ ap (λ (ps : List (ℕ × ℤ)). C d.q ps) rows

same_cuts : (cs ds : List Cut) → map written_cut cs ≡ map written_cut ds → cs ≡ ds
same_cuts [] [] e = refl
same_cuts [] (d ∷ ds) e = absurd (cc)
same_cuts (c ∷ cs) [] e = absurd (cc)
same_cuts (c ∷ cs) (d ∷ ds) e =
    let first : written_cut c ≡ written_cut d = cc in
    let rest : map written_cut cs ≡ map written_cut ds = cc in
    ap (λ (x : Cut). x ∷ cs) (same_cut c d first) ∙ ap (λ (xs : List Cut). d ∷ xs) (same_cuts cs ds rest)

-- a claim with its point
abbrev shown : Claim → List ℤ → texts.Claim
shown claim zs = written_claim claim (unwrap_or (option_map (λ _. zs) (named_value claim)) [])

same_claim : (k l : Claim) (zs ys : List ℤ) (cs : List Cut) (t : Tree) → shown k zs ≡ shown l ys → certificate k zs cs t ≡ certificate l ys cs t
same_claim (claims.Optimal v) (claims.Optimal w) zs ys cs t e =
    let value : v ≡ w = cc in
    let point : zs ≡ ys = cc in
    ap (λ (x : ℤ). certificate (claims.Optimal x) zs cs t) value ∙ ap (λ (xs : List ℤ). certificate (claims.Optimal w) xs cs t) point
same_claim (claims.Optimal v) claims.Infeasible zs ys cs t e = absurd (cc)
same_claim (claims.Optimal v) (claims.Bound b None) zs ys cs t e = absurd (cc)
same_claim (claims.Optimal v) (claims.Bound b (Some w)) zs ys cs t e = absurd (cc)
same_claim claims.Infeasible (claims.Optimal w) zs ys cs t e = absurd (cc)
same_claim claims.Infeasible claims.Infeasible zs ys cs t e = refl
same_claim claims.Infeasible (claims.Bound b None) zs ys cs t e = absurd (cc)
same_claim claims.Infeasible (claims.Bound b (Some w)) zs ys cs t e = absurd (cc)
same_claim (claims.Bound a None) (claims.Optimal w) zs ys cs t e = absurd (cc)
same_claim (claims.Bound a None) claims.Infeasible zs ys cs t e = absurd (cc)
same_claim (claims.Bound a None) (claims.Bound b None) zs ys cs t e = let bound : a ≡ b = cc in ap (λ (x : ℤ). certificate (claims.Bound x None) zs cs t) bound
same_claim (claims.Bound a None) (claims.Bound b (Some w)) zs ys cs t e = absurd (cc)
same_claim (claims.Bound a (Some v)) (claims.Optimal w) zs ys cs t e = absurd (cc)
same_claim (claims.Bound a (Some v)) claims.Infeasible zs ys cs t e = absurd (cc)
same_claim (claims.Bound a (Some v)) (claims.Bound b None) zs ys cs t e = absurd (cc)
same_claim (claims.Bound a (Some v)) (claims.Bound b (Some w)) zs ys cs t e =
    let bound : a ≡ b = cc in
    let value : v ≡ w = cc in
    let point : zs ≡ ys = cc in
    ap (λ (x : ℤ). certificate (claims.Bound x (Some v)) zs cs t) bound ∙ ap (λ (x : ℤ). certificate (claims.Bound b (Some x)) zs cs t) value
    ∙ ap (λ (xs : List ℤ). certificate (claims.Bound b (Some w)) xs cs t) point

same_certificate : (k l : Claim) (zs ys : List ℤ) (cs ds : List Cut) (t u : Tree) → cert_of (certificate k zs cs t) ≡ cert_of (certificate l ys ds u)
    → certificate k zs cs t ≡ certificate l ys ds u
same_certificate k l zs ys cs ds t u e =
    same_claim k l zs ys cs t (ap (λ (x : texts.Cert). x.claim) e)
    ∙ ap (λ (xs : List Cut). certificate l ys xs t) (same_cuts cs ds (ap (λ (x : texts.Cert). x.cuts) e))
    ∙ ap (λ (x : Tree). certificate l ys ds x) (same_tree t u (ap (λ (x : texts.Cert). x.tree) e))

-- ---- what is answered in pieces and of the whole

pub judged_as_whole : JudgedAsWhole
judged_as_whole b visits text judged cert ends reads =
    let one = certificates_are_one (frame_for b) (cert_of (certificate ends.0 ends.1 ends.2 ends.3)) (kept_cert cert) text ends.4 reads in
    subst (λ (x : Certificate). IsJudgedWithin b x visits judged) (same_certificate ends.0 cert.claim ends.1 cert.point ends.2 cert.cuts ends.3 (tree_of cert.tree) one) ends.6

pub faulty_as_whole : FaultyAsWhole
faulty_as_whole b visits text line l kind k ends reads = texts_have_one_fault (frame_for b) text line l kind k ends reads

pub not_faulty_too : NotFaultyToo
not_faulty_too b visits text judged line kind ends reads =
    certificates_are_faultless (frame_for b) (cert_of (certificate ends.0 ends.1 ends.2 ends.3)) text line kind ends.4 reads

pub not_judged_too : NotJudgedToo
not_judged_too b visits text line kind cert ends reads = certificates_are_faultless (frame_for b) (kept_cert cert) text line kind reads ends
