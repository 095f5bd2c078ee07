-- A certificate of rounding cuts, master rows and plain splits that is valid stays valid.
use Rattle.std.proofs.Common.{◌≡◌, refl, sym, ap, subst, ◌∙◌, List, [], ◌∷◌, ◌++◌, map, get_or}
use Rattle.std.specs.Prelude.{All, IsTrue}
use Rattle.bp_theory.specs.Program.{Program, in_sense, KeepsActivity}
use Rattle.bp_theory.specs.Blocking.{Blocking}
use Rattle.bp_theory.specs.Decomposition.{Decomposition, proof_rows, blocking_of}
use Rattle.bp_theory.specs.Bound.{SignsFit}
use Rattle.bp_theory.specs.Cuts.{cut_row, cut_rows, AreFitting}
use Rattle.bp_theory.specs.Trees.{Tree, shut_leaf, open_leaf, split, Leaf, leaves, low_part, high_part, HasSoundSplits}
use Rattle.bp_theory.specs.Claims.{Shows, MayBeOpen}
use Rattle.bp_theory.specs.declared.Span.{Span}
use Rattle.bp_theory.specs.declared.Row.{Row}
use Rattle.bp_theory.specs.declared.Cut.{Cut}
use Rattle.bp_theory.specs.declared.Claim.{Claim}
use Rattle.bp_theory.specs.declared.Claim.TheVariants.{Optimal, Infeasible, Bound}
use Rattle.stronger_laws.specs.WideRows.{wide_blocking}
use Rattle.stronger_laws.specs.AllCuts.{any_rows, AreFittingAll}
use Rattle.stronger_laws.specs.ClassTrees.{class_leaves, HasSoundNodes}
use Rattle.stronger_laws.specs.WideClaims.{IsWideValid, as_class, as_wide}
use Rattle.stronger_laws.specs.Laws.{CertifiedStays}
use Rattle.stronger_laws.specs.declared.AnyCut.TheVariants.{Rounding}
use Rattle.stronger_laws.proofs.KeepProof.{wide_rows_keep_lem}

same_rows : (p : Program) (d : Decomposition) (cuts : List Cut) (earlier : List Row) → any_rows p d earlier (map Rounding cuts) ≡ cut_rows p d earlier cuts
same_rows p d [] earlier = refl
same_rows p d (cut ∷ cuts) earlier = same_rows p d cuts (earlier ++ cut_row p (proof_rows p d earlier) cut ∷ [])

stay_fitting : (p : Program) (d : Decomposition) (cuts : List Cut) (earlier : List Row) → AreFitting p d earlier cuts
    → AreFittingAll p d earlier (map Rounding cuts)
stay_fitting p d [] earlier fits = tt
stay_fitting p d (cut ∷ cuts) earlier fits = (fits.0, stay_fitting p d cuts (earlier ++ cut_row p (proof_rows p d earlier) cut ∷ []) fits.1)

same_leaves : (b : Blocking) (t : Tree) (zone : List Span) → class_leaves b (as_class t) zone ≡ leaves t zone
same_leaves b (shut_leaf proof) zone = refl
same_leaves b (open_leaf proof) zone = refl
same_leaves b (split v at low high) zone =
    ap (λ (ls : List Leaf). ls ++ class_leaves b (as_class high) (high_part zone v at)) (same_leaves b low (low_part zone v at))
    ∙ ap (λ (ls : List Leaf). leaves low (low_part zone v at) ++ ls) (same_leaves b high (high_part zone v at))

stay_sound : (b : Blocking) (t : Tree) (zone : List Span) → HasSoundSplits t zone → HasSoundNodes b (as_class t) zone
stay_sound b (shut_leaf proof) zone sound = tt
stay_sound b (open_leaf proof) zone sound = tt
stay_sound b (split v at low high) zone sound =
    (sound.0, stay_sound b low (low_part zone v at) sound.1, stay_sound b high (high_part zone v at) sound.2)

stay_shown : (p : Program) (d : Decomposition) (cuts : List Row) (claim : Claim) (leaf : Leaf) → SignsFit (blocking_of p d cuts) leaf.proof
    → Shows p (blocking_of p d cuts) claim leaf → Shows p (wide_blocking p d cuts) claim leaf
stay_shown p d cuts (Optimal v) leaf signs shown = wide_rows_keep_lem.holds p d cuts leaf.zone leaf.proof (in_sense p.maximises v) signs shown
stay_shown p d cuts Infeasible leaf signs shown = wide_rows_keep_lem.empties p d cuts leaf.zone leaf.proof signs shown
stay_shown p d cuts (Bound bound v) leaf signs shown = wide_rows_keep_lem.holds p d cuts leaf.zone leaf.proof (in_sense p.maximises bound) signs shown

pub certified_stays_lem : CertifiedStays
certified_stays_lem p d cert certified =
    let rows : List Row = cut_rows p d [] cert.cuts in
    let same : any_rows p d [] (map Rounding cert.cuts) ≡ rows = same_rows p d cert.cuts [] in
    let there : (b : Blocking) → leaves cert.tree p.spans ≡ class_leaves b (as_class cert.tree) p.spans = λ b. sym (same_leaves b cert.tree p.spans) in
    let classes : Blocking = blocking_of p d [] in
    let valid : IsWideValid p classes (wide_blocking p d rows) (as_wide cert) = record {
      point = certified.valid.point;
      splits = stay_sound classes cert.tree p.spans certified.valid.splits;
      signs = subst (λ (ls : List Leaf). All (λ leaf. SignsFit (wide_blocking p d rows) leaf.proof) ls) (there classes)
          (λ k m l. wide_rows_keep_lem.signs p d rows (get_or (leaves cert.tree p.spans) k m).proof (certified.valid.signs k m l));
      shown = subst (λ (ls : List Leaf). All (Shows p (wide_blocking p d rows) cert.claim) ls) (there classes)
          (λ k m l. stay_shown p d rows cert.claim (get_or (leaves cert.tree p.spans) k m) (certified.valid.signs k m l) (certified.valid.shown k m l));
      shut = subst (λ (ls : List Leaf). All (λ leaf. IsTrue leaf.is_open → MayBeOpen cert.claim) ls) (there classes) certified.valid.shut;
    } in
    record {
      fitting = stay_fitting p d cert.cuts [] certified.fitting;
      bounded = subst (λ (rs : List Row). All (KeepsActivity p) rs) (sym same) certified.bounded;
      valid = subst (λ (rs : List Row). IsWideValid p classes (wide_blocking p d rs) (as_wide cert)) (sym same) valid;
    }
