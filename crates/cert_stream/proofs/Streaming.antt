-- A whole certificate of lines that are written one behind another.
use Rattle.std.proofs.Common.{◌≡◌, refl, sym, ap, subst, ◌∙◌, ℕ, List, [], ◌++◌, Some, None, Result, Ok, Err, inl, inr, append_assoc}
use Rattle.std.specs.Prelude.{codes, unwrap_or}
use Rattle.std.proofs.Math.IntN.{ℤ}
use Rattle.bp_theory.specs.Trees.{Tree}
use Rattle.bp_theory.specs.declared.Claim.{Claim}
use Rattle.bp_theory.specs.declared.Claim.TheVariants as claims
use Rattle.bp_theory.specs.declared.Cut.{Cut}
use Rattle.search_laws.specs.Grove.{certificate_tree}
use Rattle.cert_text.specs.Outcomes.{grove_of, claim_of, point_of, IsWritable}
use Rattle.cert_text.proofs.OutcomeText.{outcome_text}
use Rattle.cert_write.proofs.ChangeText.{rewritten}
use Rattle.cert_write.proofs.CutTexts.{whole_text, written_text}
use Rattle.cert_format.specs.Cert.{Frame}
use Rattle.cert_format.specs.Fault.{IsText}
use Rattle.cert_format.specs.Kept.{certificate_of, kept_cert}
use Rattle.cert_format.specs.Sketch.{tree_of as sketched}
use Rattle.cert_format.specs.Text.{Version, Two}
use Rattle.cert_format.specs.Written.{certificate}
use Rattle.cert_format.specs.declared.cert.Cert.{Cert}
use Rattle.cert_format.specs.Plain.{version_with, head_text, tree_text, plain_text}
use Rattle.cert_write.specs.Changes.{changing_nodes}
use Rattle.bp_shelf.specs.Shelf.{Files}
use Rattle.branch_tree.specs.declared.outcome.Outcome.{Outcome}
use Rattle.block_program.specs.Blocked.{BlockedProgram, IsFormed}
use Rattle.cert_file.specs.Appends.{Adds, Appends, Heads}
use Rattle.cert_stream.specs.Streams.{HoldsText, IsTextOf, Rewrites, Streams, StreamsText}
use Rattle.cert_file.specs.declared.stop.StreamStop.{StreamStop}
use Rattle.cert_file.specs.declared.stop.StreamStop.TheVariants.{Failed, NoMemory}
use Rattle.cert_file.proofs.Appending.{others_on}

-- ---- a whole certificate

-- no line was written
pub head_failed : (Spells : List ℕ → Type 0) (name text : List ℕ) (before now : Files) (stop : StreamStop) → Heads name text before now (Err stop)
    → StreamsText Spells name before now (Err stop)
head_failed Spells name text before now Failed h = record { holds = tt; others = h.others }
head_failed Spells name text before now NoMemory h = record { holds = inl h.holds; others = h.others }

-- nothing was written for want of memory
pub nothing_put : (Spells : List ℕ → Type 0) (name : List ℕ) (before : Files) → StreamsText Spells name before before (Err NoMemory)
nothing_put Spells name before = record { holds = inl refl; others = λ other apart. refl }

-- the lines behind the head
pub whole_put : (Spells : List ℕ → Type 0) (name head text all : List ℕ) (before mid now : Files) (result : Result (Unit {0}) StreamStop) → Heads name head before mid (Ok tt)
    → Appends name text mid now result → Spells all → all ≡ head ++ text → StreamsText Spells name before now result
whole_put Spells name head text all before mid now result h g spells is = record { holds = by result g.adds; others = others_on name before mid now h.others g.others }
  where
    there : Spells (head ++ text)
    there = subst Spells is spells

    by : (r : Result (Unit {0}) StreamStop) → Adds name text mid now r → HoldsText Spells name before now r
    by (Ok y) adds = (head ++ text, there, adds head h.holds)
    by (Err Failed) adds = tt
    by (Err NoMemory) adds =
        let part = adds head h.holds in
        let parts : head ++ text ≡ (head ++ part.0) ++ part.1 = ap (λ (xs : List ℕ). head ++ xs) part.2 ∙ sym (append_assoc head part.0 part.1) in
        inr (head ++ part.0, part.1, subst Spells parts there, part.3)

-- a tree behind no leaf
pub behind_none : {X : Type 0} (name : List ℕ) (had : List (ℕ × ℤ)) (t : Tree) (before now : Files) (result : Result X StreamStop) → had ≡ []
    → Appends name (tree_text Two (changing_nodes had t)) before now result → Appends name (tree_text Two (changing_nodes [] t)) before now result
behind_none name had t before now result none h = subst (λ (ms : List (ℕ × ℤ)). Appends name (tree_text Two (changing_nodes ms t)) before now result) none h

-- a whole text from the parts that are written
parts_of : (claim : Claim) (zs : List ℤ) (cuts : List Cut) (t : Tree)
    → plain_text (version_with cuts) claim zs cuts t ≡ head_text (version_with cuts) claim zs cuts ++ (tree_text Two t ++ codes "end\n")
parts_of claim zs cuts t =
    let head = head_text (version_with cuts) claim zs cuts in
    sym (whole_text claim zs cuts t [] head (head ++ tree_text Two t) ((head ++ tree_text Two t) ++ codes "end\n") refl refl refl)
    ∙ append_assoc head (tree_text Two t) (codes "end\n")

-- its lines are those of an outcome
pub put_whole : (b : BlockedProgram) → IsFormed b → (o : Outcome) (name : List ℕ) (k : Claim) (zs : List ℤ) (cuts : List Cut) (t : Tree) (before mid now : Files) (result : Result (Unit {0}) StreamStop)
    → IsWritable b o → k ≡ claim_of b.named.program.maximises o → zs ≡ unwrap_or (point_of o) [] → cuts ≡ b.cuts → t ≡ certificate_tree (grove_of o).tree
    → Heads name (head_text (version_with cuts) k zs cuts) before mid (Ok tt) → Appends name (tree_text Two (changing_nodes [] t) ++ codes "end\n") mid now result
    → Streams b o name before now result
put_whole b formed o name k zs cuts t before mid now result writable claim point same tree h g =
    let text = plain_text (version_with cuts) k zs cuts (changing_nodes [] t) in
    let whole = written_text k (claim_of b.named.program.maximises o) zs (unwrap_or (point_of o) []) cuts b.cuts (changing_nodes [] t) (changing_nodes [] (certificate_tree (grove_of o).tree))
    [] text refl claim point same (ap (changing_nodes []) tree) refl in
    whole_put (IsTextOf b o) name (head_text (version_with cuts) k zs cuts) (tree_text Two (changing_nodes [] t) ++ codes "end\n") text before mid now result h g
    (outcome_text b formed o text writable whole) (parts_of k zs cuts (changing_nodes [] t))

-- its lines are those of a certificate that some text was read of
pub put_anew : (frame : Frame) (version : Version) (old : List ℕ) (cert : Cert) (name : List ℕ) (k : Claim) (zs : List ℤ) (cuts : List Cut) (t : Tree) (before mid now : Files) (result : Result (Unit {0}) StreamStop)
    → IsText frame version (kept_cert cert) old → k ≡ (certificate_of cert).claim → zs ≡ unwrap_or (certificate_of cert).point [] → cuts ≡ (certificate_of cert).cuts
    → t ≡ (certificate_of cert).tree → Heads name (head_text (version_with cuts) k zs cuts) before mid (Ok tt)
    → Appends name (tree_text Two (changing_nodes [] t) ++ codes "end\n") mid now result → Rewrites frame cert name before now result
put_anew frame version old cert name k zs cuts t before mid now result spelled claim point same tree h g =
    let S : List ℕ → Type 0 = λ text. IsText frame (version_with cert.cuts) (kept_cert cert) text in
    let ys = unwrap_or (certificate_of cert).point [] in
    let u = sketched cert.tree in
    let text = plain_text (version_with cuts) k zs cuts (changing_nodes [] t) in
    let whole = written_text k cert.claim zs ys cuts cert.cuts (changing_nodes [] t) (changing_nodes [] u) [] text refl claim point same (ap (changing_nodes []) tree) refl in
    let spells : S text =
    subst S (sym (whole ∙ sym (same_plain cert.claim cert.point cert.cuts (changing_nodes [] u)))) (rewritten frame version cert.claim cert.point cert.cuts u old spelled) in
    whole_put S name (head_text (version_with cuts) k zs cuts) (tree_text Two (changing_nodes [] t) ++ codes "end\n") text before mid now result h g spells
    (parts_of k zs cuts (changing_nodes [] t))
  where
    -- a claim that names no value has no point in its text
    same_plain : (x : Claim) (ys : List ℤ) (cs : List Cut) (u : Tree)
        → plain_text (version_with cs) x ys cs u ≡ plain_text (version_with cs) x (unwrap_or (certificate x ys cs u).point []) cs u
    same_plain (claims.Optimal v) ys cs u = refl
    same_plain claims.Infeasible ys cs u = refl
    same_plain (claims.Bound b None) ys cs u = refl
    same_plain (claims.Bound b (Some v)) ys cs u = refl
