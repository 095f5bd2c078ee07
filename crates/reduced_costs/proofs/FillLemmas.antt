-- Costs and spans of a block that are filled in, place by place.
use Rattle.std.proofs.Common.{◌≡◌, sym, ap, subst, ◌∙◌, ℕ, ◌+◌, ◌<◌, List, [], ◌∷◌, map, length, get_or, set, ⊎_elim, arith}
use Rattle.std.proofs.lemmas.Bool.{cases_lt}
use Rattle.std.proofs.lemmas.List.{get_or-set_same, get_or-set_other, get_or_past}
use Rattle.std.specs.List.{AllByRecursion}
use Rattle.std.proofs.lemmas.Int.{ints}
use Rattle.std.proofs.lemmas.List.Elements.{All-from_recursion}
use Rattle.std.proofs.Math.IntN.{pos}
use Rattle.std.specs.Prelude.{◌≤ℤ◌}
use Rattle.bp_theory.specs.Program.{span_at}
use Rattle.bp_theory.specs.Blocking.{Copy, Block}
use Rattle.bp_theory.specs.Trees.{IsSubspan, IsSubzone, IsProper, IsZone}
use Rattle.bp_theory.proofs.ZipLaws.{AllZip_at, AllZip-length}
use Rattle.bp_theory.specs.Bound.{spans_of}
use Rattle.bp_theory.specs.declared.Span.{Span}

-- one place more is as it should be
pub same_more : {X : Type 0} (d : X) (xs ys : List X) (k : ℕ) (v : X) → k < length xs → v ≡ get_or ys k d
    → ((i : ℕ) → i < k → get_or xs i d ≡ get_or ys i d) → (i : ℕ) → i < k + 1 → get_or (set xs k v) i d ≡ get_or ys i d
same_more d xs ys k v l e had i m = ⊎_elim
    (λ below. get_or-set_other xs k i v d (λ same. omega (arith, same, below)) ∙ had i below)
    (λ above.
    let same : i ≡ k = omega (arith, m, above) in
    ap (λ n. get_or (set xs k v) n d) same ∙ get_or-set_same xs k v d l ∙ e ∙ ap (λ n. get_or ys n d) (sym same))
    (cases_lt i k)

part_at : (spans zone : List Span) → IsZone spans zone → (v : ℕ) → IsSubspan (span_at zone v) (span_at spans v)
part_at spans zone z v = ⊎_elim
    (λ there. AllZip_at IsSubspan zone spans z.inside v (record { lo = pos 0; hi = pos 0 }) (record { lo = pos 0; hi = pos 0 }) there)
    (λ past.
    let long : length zone ≡ length spans = AllZip-length IsSubspan zone spans z.inside in
    subst (λ (s : Span). IsSubspan s (span_at spans v)) (sym (get_or_past zone v (record { lo = pos 0; hi = pos 0 }) past))
    (subst (λ (s : Span). IsSubspan (record { lo = pos 0; hi = pos 0 }) s) (sym (get_or_past spans v (record { lo = pos 0; hi = pos 0 }) (omega (arith, long, past))))
    (record { above = omega (arith, ints); below = omega (arith, ints) })))
    (cases_lt v (length zone))

proper_at : (zone : List Span) → IsProper zone → (v : ℕ) → (span_at zone v).lo ≤ℤ (span_at zone v).hi
proper_at zone proper v = ⊎_elim
    (λ there. proper v (record { lo = pos 0; hi = pos 0 }) there)
    (λ past. subst (λ (s : Span). s.lo ≤ℤ s.hi) (sym (get_or_past zone v (record { lo = pos 0; hi = pos 0 }) past)) (omega (arith, ints)))
    (cases_lt v (length zone))

pub zone_of_block : (spans zone : List Span) (block : Block) → IsZone spans zone → IsZone (spans_of spans block) (spans_of zone block)
zone_of_block spans zone block z = record {
  inside = parts block.copies;
  proper = All-from_recursion (λ (s : Span). s.lo ≤ℤ s.hi) (spans_of zone block) (propers block.copies);
}
  where
    parts : (cs : List Copy) → IsSubzone (map (λ (c : Copy). span_at zone c.var) cs) (map (λ (c : Copy). span_at spans c.var) cs)
    parts [] = tt
    parts (c ∷ cs) = (part_at spans zone z c.var, parts cs)

    propers : (cs : List Copy) → AllByRecursion (λ (s : Span). s.lo ≤ℤ s.hi) (map (λ (c : Copy). span_at zone c.var) cs)
    propers [] = tt
    propers (c ∷ cs) = (proper_at zone z.proper c.var, propers cs)

abbrev pub no_block : Block
no_block = record { copies = []; rows = [] }
