-- Link rows that are too many or too large.
use Rattle.std.proofs.Common.{◌≡◌, inl, inr, ℕ, zero, suc, ◌+◌, ◌<◌, ◌≤◌, Bool, true, false, if◌then◌else◌, List, [], ◌∷◌, ◌++◌, map, filter, drop, length, get_or, refl, sym, ap, subst, ◌∙◌, ⊎_elim, arith}
use Rattle.std.specs.Prelude.{MatchBool, sum_by}
use Rattle.std.specs.List.{range_with_len, flat_map}
use Rattle.std.proofs.lemmas.Bool.{cases_lt}
use Rattle.std.proofs.lemmas.List.Elements.{All-from_recursion}
use Rattle.bp_theory.specs.Program.{Program}
use Rattle.bp_theory.specs.Decomposition.{Decomposition, ProofRow, is_in, link_row, links_of, place_of, link_count, IsLinking, HasLargeLinks}
use Rattle.bp_theory.specs.Limits.{most_lines}
use Rattle.bp_theory.specs.declared.Limits.TheVariants.{Large}
use Rattle.bp_theory.specs.declared.Span.{Span}
use Rattle.bp_model.specs.Named.{NamedProgram, IsKept}
use Rattle.bp_theory.proofs.LimitLaws.{few_lines}
use Rattle.block_build.specs.Homes.{homes_in, further, AreHomes, HasWideCopies}
use Rattle.block_build.proofs.CopyLemmas.{links_counted}
use Rattle.block_build.proofs.RangeLemmas.{kept_passing, at_place, none_pass}
use Rattle.block_program.proofs.StandLemmas.{passing_rise}

-- who has two homes links
linking_of : (p : Program) (d : Decomposition) (v : ℕ) → 1 < length (homes_in p d v) → IsLinking p d v
linking_of p d v l =
    let kept = All-from_recursion (λ k. (k < d.blocks) × (is_in p d v k ≡ true)) (homes_in p d v) (kept_passing (is_in p d v) d.blocks 0 d.blocks (omega arith)) in
    record {
      first = get_or (homes_in p d v) 0 0;
      later = get_or (homes_in p d v) 1 0;
      apart = passing_rise (is_in p d v) d.blocks 0 l;
      there = (kept 1 0 l).0;
      in_first = (kept 0 0 (omega (arith, l))).1;
      in_later = (kept 1 0 l).1;
    }

-- who links has two homes
two_homes : (p : Program) (d : Decomposition) (v : ℕ) → IsLinking p d v → 1 < length (homes_in p d v)
two_homes p d v link =
    let hs : List ℕ = homes_in p d v in
    let one = at_place (is_in p d v) link.first d.blocks (omega (arith, link.apart, link.there)) link.in_first in
    let two = at_place (is_in p d v) link.later d.blocks link.there link.in_later in
    ⊎_elim
    (λ less. less)
    (λ few.
    let same : place_of hs link.first ≡ place_of hs link.later = omega (arith, few, one.0, two.0) in
    absurd (let none : ⊥ = omega (arith, link.apart, one.1, two.1, ap (λ i. get_or hs i 0) same) in none))
    (cases_lt 1 (length hs))

match_by : (b : Bool) (P Q : Type 0) → (P → Q) → (Q → P) → MatchBool b P (P → ⊥) → MatchBool b Q (Q → ⊥)
match_by true P Q f g h = f h
match_by false P Q f g h = λ q. h (g q)

lines_are : (p : Program) (d : Decomposition) (homes : List (List ℕ)) → AreHomes p d homes
    → length p.rows + sum_by further homes ≡ length p.rows + link_count p d
lines_are p d homes h = ap (λ n. length p.rows + n) (sym (links_counted p d homes h))

pub too_many : (p : Program) (d : Decomposition) (homes : List (List ℕ)) → AreHomes p d homes → most_lines p.limits < length p.rows + sum_by further homes
    → HasLargeLinks p d
too_many p d homes h l = inl (omega (arith, l, lines_are p d homes h))

-- where links are not large, rows and link rows are few
pub few_lines_of : (p : Program) (d : Decomposition) (homes : List (List ℕ)) → AreHomes p d homes → (HasLargeLinks p d → ⊥)
    → length p.rows + sum_by further homes ≤ most_lines Large
few_lines_of p d homes h moderate = ⊎_elim
    (λ many. absurd (moderate (too_many p d homes h many)))
    (λ few. omega (arith, few, few_lines p.limits))
    (cases_lt (most_lines p.limits) (length p.rows + sum_by further homes))

-- where rows and link rows are few, the links are large exactly where copies are wide
pub wide_or_none : (p : Program) (d : Decomposition) (b : Bool) (homes : List (List ℕ)) (spans : List Span) → AreHomes p d homes → spans ≡ p.spans
    → length p.rows + sum_by further homes ≤ most_lines p.limits
    → MatchBool b (HasWideCopies homes spans) (HasWideCopies homes spans → ⊥)
    → MatchBool b (HasLargeLinks p d) (HasLargeLinks p d → ⊥)
wide_or_none p d b homes spans are spans_are few h =
    match_by b (HasWideCopies homes p.spans) (HasLargeLinks p d)
    (λ wide. inr (wide.0, omega (arith, wide.1, are.0), linking_of p d wide.0 (subst (λ (ks : List ℕ). 1 < length ks) (are.1 wide.0 (omega (arith, wide.1, are.0))) wide.2), wide.3))
    (λ large. ⊎_elim
    (λ many. absurd (let none : ⊥ = omega (arith, many, few, lines_are p d homes are) in none))
    (λ wide. (wide.0, omega (arith, wide.1, are.0), subst (λ (ks : List ℕ). 1 < length ks) (sym (are.1 wide.0 wide.1)) (two_homes p d wide.0 wide.2), wide.3))
    large)
    (subst (λ (ss : List Span). MatchBool b (HasWideCopies homes ss) (HasWideCopies homes ss → ⊥)) spans_are h)

-- ---- where no variable links

-- where no two pass, none is behind the first
one_passes : (q : ℕ → Bool) (a n : ℕ) → ((j k : ℕ) → j < k → k < a + n → q j ≡ true → q k ≡ true → ⊥) → drop 1 (filter q (range_with_len a n)) ≡ []
one_passes q a zero h = refl
one_passes q a (suc n) h = by (q a) refl (one_passes q (a + 1) n (λ j k less high. h j k less (omega (arith, high))))
  where
    by : (b : Bool) → q a ≡ b → drop 1 (filter q (range_with_len (a + 1) n)) ≡ []
        → drop 1 (if b then a ∷ filter q (range_with_len (a + 1) n) else filter q (range_with_len (a + 1) n)) ≡ []
    by true here rest = none_pass q (a + 1) n (λ k low high. h a k (omega (arith, low)) (omega (arith, high)) here)
    by false here rest = rest

no_links : (p : Program) (d : Decomposition) → ((w : ℕ) → IsLinking p d w → ⊥) → (vs : List ℕ) → flat_map (links_of p d) vs ≡ []
no_links p d none [] = refl
no_links p d none (v ∷ vs) =
    ap (λ ks. map (link_row v) ks ++ flat_map (links_of p d) vs)
    (one_passes (is_in p d v) 0 d.blocks (λ j k less high jin kin. none v (record { first = j; later = k; apart = less; there = omega (arith, high); in_first = jin; in_later = kin })))
    ∙ no_links p d none vs

-- a model's rows alone are never too many
pub not_large : (m : NamedProgram) (d : Decomposition) → IsKept m → ((w : ℕ) → IsLinking m.program d w → ⊥) → HasLargeLinks m.program d → ⊥
not_large m d kept none large = ⊎_elim
    (λ many.
    let counted : link_count m.program d ≡ 0 = ap (λ (rows : List ProofRow). length rows) (no_links m.program d none (range_with_len 0 (length m.program.spans))) in
    let no : ⊥ = omega (arith, many, counted, kept.lines) in no)
    (λ wide. none wide.0 wide.2)
    large
