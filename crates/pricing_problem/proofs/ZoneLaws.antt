-- Laws of zones by their places.
use Rattle.std.proofs.Common.{◌≡◌, sym, subst, ◌∙◌, ℕ, ◌+◌, ◌<◌, ◌≤◌, List, length, get_or, arith, ⊎_elim}
use Rattle.std.specs.Prelude.{◌≤ℤ◌}
use Rattle.std.proofs.lemmas.Bool.{cases_lt}
use Rattle.std.proofs.lemmas.List.{get_or_default}
use Rattle.bp_theory.specs.Trees.{IsZone, IsSubzone, IsSubspan, IsProper}
use Rattle.bp_theory.specs.declared.Span.{Span}
use Rattle.bp_theory.proofs.ZipLaws.{AllZip_at, AllZip-length, AllZip-from_places}
use Rattle.pricing_problem.specs.Checks.{IsProperPart}

-- the first places of a zone are proper parts of the root's
abbrev pub ArePartsBelow : (spans zone : List Span) → ℕ → Type 0
ArePartsBelow spans zone n = (i : ℕ) (d e : Span) → i < n → IsProperPart (get_or zone i d) (get_or spans i e)

pub parts_more : (spans zone : List Span) (k : ℕ) (d e : Span) → k < length zone → length zone ≡ length spans → ArePartsBelow spans zone k
    → IsProperPart (get_or zone k d) (get_or spans k e) → ArePartsBelow spans zone (k + 1)
parts_more spans zone k d e l same had one i f g m = ⊎_elim
    (λ below. had i f g below)
    (λ above. subst (λ j. IsProperPart (get_or zone j f) (get_or spans j g)) (here i k m above)
    (subst (λ (s : Span). IsProperPart s (get_or spans k g)) (get_or_default zone k d f l)
    (subst (λ (s : Span). IsProperPart (get_or zone k d) s) (get_or_default spans k e g (omega (arith, l, same))) one)))
    (cases_lt i k)
  where
    here : (i k : ℕ) → i < k + 1 → k ≤ i → k ≡ i
    here i k m a = omega (arith, m, a)

pub zone_from_parts : (spans zone : List Span) (n : ℕ) → length zone ≡ length spans → length zone ≤ n → ArePartsBelow spans zone n → IsZone spans zone
zone_from_parts spans zone n same all parts = record {
  inside = AllZip-from_places IsSubspan zone spans same (λ k d e l.
      let p = parts k d e (omega (arith, l, all)) in
      record { above = p.0; below = p.2 });
  proper = λ k d l. (parts k d d (omega (arith, l, all))).1;
}

pub part_of_zone : (spans zone : List Span) (k : ℕ) (d e : Span) → k < length zone → IsZone spans zone → IsProperPart (get_or zone k d) (get_or spans k e)
part_of_zone spans zone k d e l z =
    let s : IsSubspan (get_or zone k d) (get_or spans k e) = AllZip_at IsSubspan zone spans z.inside k d e l in
    (s.above, z.proper k d l, s.below)

pub zone_length : (spans zone : List Span) → IsZone spans zone → length zone ≡ length spans
zone_length spans zone z = AllZip-length IsSubspan zone spans z.inside
