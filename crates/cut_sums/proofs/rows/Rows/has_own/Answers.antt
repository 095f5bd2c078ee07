use Rattle.std.proofs.Common.{◌≡◌, ◌∙◌, Bool, true, false, not, Some, None, Option, ℕ, refl, sym, ap}
use Rattle.std.specs.Prelude.{◌↔◌, IsTrue, is_some}
use Rattle.cut_sums.specs.Rows.{program_of}
use Rattle.cut_sums.proofs.RowLemmas.{master_whole}
use Rattle.cut_sums.proofs.rows.Rows.has_own.Goals as goal

none_tells : (o : Option ℕ) (b : Bool) → is_some o ≡ not b → IsTrue b ↔ (o ≡ None)
none_tells None true e = ((λ h. refl), (λ h. refl))
none_tells None false e = absurd (cc)
none_tells (Some k) true e = absurd (cc)
none_tells (Some k) false e = ((λ h. absurd (cc)), (λ h. absurd (cc)))

pub returns : goal.returns
returns c =
    let s = c.args.self.now in
    let whole = master_whole (program_of s) s.b.now.dec s.earlier.now c.args.number c.requires.rows.formed.places c.requires.own in
    let none = none_tells c.row_place.result c.is_none.result c.is_none.ensures in (
      (λ h. whole.1 (c.row_place.ensures ∙ ap (λ (place : Option ℕ). Some place) (none.0 h))),
      λ w.
          let both : Some c.row_place.result ≡ Some None = sym c.row_place.ensures ∙ whole.0 w in
          let is : c.row_place.result ≡ None = cc in
          none.1 is,
    )
