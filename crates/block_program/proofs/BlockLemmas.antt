-- Copies from their variables, costs and coefficients.
use Rattle.std.proofs.Common.{◌≡◌, ℕ, zero, suc, ◌+◌, ◌-◌, ◌<◌, ◌≤◌, List, [], ◌∷◌, map, length, get_or, refl, sym, ap, subst, arith}
use Rattle.std.specs.Prelude.{ℤ, pos}
use Rattle.std.specs.List.Sorted.{IsStrictlyIncreasing}
use Rattle.std.proofs.lemmas.Int.{ints}
use Rattle.std.proofs.lemmas.List.{length-map}
use Rattle.bp_theory.specs.Blocking.{Copy}
use Rattle.bp_theory.specs.Trees.{IsProper, IsSubzone, IsZone, IsSoundSplit, low_part, high_part}
use Rattle.bp_theory.specs.declared.Span.{Span}
use Rattle.bp_theory.proofs.ClassProof.{split_shrinks_lem}
use Rattle.bp_theory.proofs.DecompositionProof.{get_or-map_past}
use Rattle.block_program.specs.Blocked.{copies_from}

pub vars_of_copies : (vs : List ℕ) (cs : List ℤ) (ms : List (List (ℕ × ℤ))) → length cs ≡ length vs → length ms ≡ length vs
    → map (λ (c : Copy). c.var) (copies_from vs cs ms) ≡ vs
vars_of_copies [] cs ms e f = refl
vars_of_copies (v ∷ vs) [] ms e f = absurd (omega (arith, e))
vars_of_copies (v ∷ vs) (c ∷ cs) [] e f = absurd (omega (arith, f))
vars_of_copies (v ∷ vs) (c ∷ cs) (m ∷ ms) e f = ap (λ us. v ∷ us) (vars_of_copies vs cs ms (omega (arith, e)) (omega (arith, f)))

pub costs_of_copies : (vs : List ℕ) (cs : List ℤ) (ms : List (List (ℕ × ℤ))) → length cs ≡ length vs → length ms ≡ length vs
    → map (λ (c : Copy). c.cost) (copies_from vs cs ms) ≡ cs
costs_of_copies [] [] ms e f = refl
costs_of_copies [] (c ∷ cs) ms e f = absurd (omega (arith, e))
costs_of_copies (v ∷ vs) [] ms e f = absurd (omega (arith, e))
costs_of_copies (v ∷ vs) (c ∷ cs) [] e f = absurd (omega (arith, f))
costs_of_copies (v ∷ vs) (c ∷ cs) (m ∷ ms) e f = ap (λ us. c ∷ us) (costs_of_copies vs cs ms (omega (arith, e)) (omega (arith, f)))

pub coefs_of_copies : (vs : List ℕ) (cs : List ℤ) (ms : List (List (ℕ × ℤ))) → length cs ≡ length vs → length ms ≡ length vs
    → (k : ℕ) (d : Copy) (e : List (ℕ × ℤ)) → k < length vs → get_or ms k e ≡ (get_or (copies_from vs cs ms) k d).coefs
coefs_of_copies [] cs ms e f k d o l = absurd (omega arith)
coefs_of_copies (v ∷ vs) [] ms e f k d o l = absurd (omega (arith, e))
coefs_of_copies (v ∷ vs) (c ∷ cs) [] e f k d o l = absurd (omega (arith, f))
coefs_of_copies (v ∷ vs) (c ∷ cs) (m ∷ ms) e f zero d o l = refl
coefs_of_copies (v ∷ vs) (c ∷ cs) (m ∷ ms) e f (suc k) d o l = coefs_of_copies vs cs ms (omega (arith, e)) (omega (arith, f)) k d o (omega arith)

pub length-copies : (vs : List ℕ) (cs : List ℤ) (ms : List (List (ℕ × ℤ))) → length cs ≡ length vs → length ms ≡ length vs
    → length (copies_from vs cs ms) ≡ length vs
length-copies [] cs ms e f = refl
length-copies (v ∷ vs) [] ms e f = absurd (omega (arith, e))
length-copies (v ∷ vs) (c ∷ cs) [] e f = absurd (omega (arith, f))
length-copies (v ∷ vs) (c ∷ cs) (m ∷ ms) e f = ap suc (length-copies vs cs ms (omega (arith, e)) (omega (arith, f)))

-- ---- rising keys

key_at : (ms : List (ℕ × ℤ)) (k : ℕ) → get_or (map (λ (m : ℕ × ℤ). m.0) ms) k 0 ≡ (get_or ms k (0, pos 0)).0
key_at ms k = get_or-map_past (λ (m : ℕ × ℤ). m.0) ms k (0, pos 0)

pub rising_keys : (ms : List (ℕ × ℤ)) → ((k : ℕ) → k + 1 < length ms → (get_or ms k (0, pos 0)).0 < (get_or ms (k + 1) (0, pos 0)).0)
    → IsStrictlyIncreasing (map (λ (m : ℕ × ℤ). m.0) ms)
rising_keys ms h = λ k l. omega (arith, key_at ms k, key_at ms (k + 1), h k (omega (arith, l, length-map ms (λ (m : ℕ × ℤ). m.0))))

pub not_rising : (ms : List (ℕ × ℤ)) (i : ℕ) → 1 ≤ i → i < length ms → (get_or ms i (0, pos 0)).0 ≤ (get_or ms (i - 1) (0, pos 0)).0
    → IsStrictlyIncreasing (map (λ (m : ℕ × ℤ). m.0) ms) → ⊥
not_rising ms i low high not_above rises =
    let next : i - 1 + 1 ≡ i = omega (arith, low) in
    let here : get_or (map (λ (m : ℕ × ℤ). m.0) ms) (i - 1) 0 < get_or (map (λ (m : ℕ × ℤ). m.0) ms) (i - 1 + 1) 0 =
    rises (i - 1) (omega (arith, low, high, length-map ms (λ (m : ℕ × ℤ). m.0))) in
    let later : get_or (map (λ (m : ℕ × ℤ). m.0) ms) (i - 1 + 1) 0 ≡ get_or (map (λ (m : ℕ × ℤ). m.0) ms) i 0 = ap (λ n. get_or (map (λ (m : ℕ × ℤ). m.0) ms) n 0) next in
    omega (arith, here, later, key_at ms (i - 1), key_at ms i, not_above)

-- ---- zones

within_itself : (zone : List Span) → IsSubzone zone zone
within_itself [] = tt
within_itself (s ∷ ss) = (record { above = omega (arith, ints); below = omega (arith, ints) }, within_itself ss)

within_within : (a b c : List Span) → IsSubzone a b → IsSubzone b c → IsSubzone a c
within_within [] [] c h g = g
within_within [] (s ∷ ss) c h g = absurd h
within_within (s ∷ ss) [] c h g = absurd h
within_within (s ∷ ss) (t ∷ ts) [] h g = absurd g
within_within (s ∷ ss) (t ∷ ts) (u ∷ us) h g =
    (record { above = omega (arith, ints, h.0.above, g.0.above); below = omega (arith, ints, h.0.below, g.0.below) }, within_within ss ts us h.1 g.1)

-- the model's spans are a zone
pub root_zone : (spans zone : List Span) → IsProper spans → zone ≡ spans → IsZone spans zone
root_zone spans zone proper is = subst (IsZone spans) (sym is) (record { inside = within_itself spans; proper = proper })

-- the parts of a sound split are zones
pub part_zones : (root zone low high : List Span) (v : ℕ) (at : ℤ) → IsSoundSplit zone v at → low ≡ low_part zone v at → high ≡ high_part zone v at
    → IsZone root zone → IsZone root low × IsZone root high
part_zones root zone low high v at sound low_is high_is h =
    let l = split_shrinks_lem.low zone v at sound h.proper in
    let u = split_shrinks_lem.high zone v at sound h.proper in (
      subst (IsZone root) (sym low_is) (record { inside = within_within (low_part zone v at) zone root l.1 h.inside; proper = l.0 }),
      subst (IsZone root) (sym high_is) (record { inside = within_within (high_part zone v at) zone root u.1 h.inside; proper = u.0 }),
    )
