-- The decomposition without a text.
use Rattle.std.proofs.Common.{◌≡◌, ◌↔◌, ◌<◌, ℕ, All, length, List, [], ◌∷◌, map, Option, None, refl, sym, subst}
use Rattle.std.specs.List.{AllByRecursion}
use Rattle.std.proofs.lemmas.List.{length-map}
use Rattle.std.proofs.lemmas.List.Elements.{All-from_recursion}
use Rattle.bp_theory.specs.Program.{Program}
use Rattle.bp_theory.specs.Decomposition.{Decomposition, IsPlace, HasPlaces}
use Rattle.bp_theory.specs.declared.Row.{Row}
use Rattle.bp_model.specs.Dec.{GoesWith}

masters : (rows : List Row) → AllByRecursion (IsPlace 0) (map (λ row. None) rows)
masters [] = tt
masters (row ∷ rows) = (tt, masters rows)

-- each row has a place there
pub plain_made : (p : Program) (places : List (Option ℕ)) (listed : List (ℕ × Option ℕ)) → places ≡ map (λ row. None) p.rows
    → HasPlaces p (record { blocks = 0; places = places; listed = listed })
plain_made p places listed are =
    subst (λ (all : List (Option ℕ)). HasPlaces p (record { blocks = 0; places = all; listed = listed })) (sym are) (record {
      each = length-map p.rows (λ row. None);
      known = All-from_recursion (IsPlace 0) (map (λ (row : Row). None) p.rows) (masters p.rows);
    })

-- what is listed goes with a program whose rows have places
pub goes_with : (p : Program) (d : Decomposition) (places : List (Option ℕ)) (listed : List (ℕ × Option ℕ)) (vars : ℕ) → places ≡ d.places → listed ≡ d.listed
    → vars ≡ length p.spans → length d.places ≡ length p.rows → All (IsPlace d.blocks) places
    → All (λ e. (e.0 < vars) × IsPlace d.blocks e.1) listed ↔ GoesWith p d
goes_with p d places listed vars places_are listed_are vars_are each known = (
  λ all. record {
    places = record { each = each; known = subst (λ (ps : List (Option ℕ)). All (IsPlace d.blocks) ps) places_are known };
    listed = subst (λ n. All (λ (e : ℕ × Option ℕ). (e.0 < n) × IsPlace d.blocks e.1) d.listed) vars_are
        (subst (λ (es : List (ℕ × Option ℕ)). All (λ (e : ℕ × Option ℕ). (e.0 < vars) × IsPlace d.blocks e.1) es) listed_are all);
  },
  λ h. subst (λ (es : List (ℕ × Option ℕ)). All (λ (e : ℕ × Option ℕ). (e.0 < vars) × IsPlace d.blocks e.1) es) (sym listed_are)
      (subst (λ n. All (λ (e : ℕ × Option ℕ). (e.0 < n) × IsPlace d.blocks e.1) d.listed) (sym vars_are) h.listed),
)
