-- Splits that are kept, from node to node.
use Rattle.std.proofs.Common.{◌≡◌, refl, sym, ap, subst, ◌∙◌, ℕ, zero, suc, ◌<◌, true, false, List, [], ◌∷◌, ◌++◌, length, set, Some, arith}
use Rattle.std.proofs.Math.IntN.{ℤ, pos, ◌+ℤ◌}
use Rattle.std.proofs.lemmas.Bool.{true≢false}
use Rattle.std.proofs.lemmas.Int.{ints}
use Rattle.std.proofs.lemmas.List.Elements.{All-set, All-push, All-pop, length_all_zip}
use Rattle.std.specs.Prelude.{◌≤ℤ◌, All}
use Rattle.bp_theory.specs.Program.{span_at}
use Rattle.bp_theory.specs.Trees.{Tree, split, IsSubspan, IsSubzone, IsZone}
use Rattle.bp_theory.specs.declared.Span.{Span}
use Rattle.cert_line_check.proofs.Lines.{high_is, back_is}
use Rattle.cert_walk.specs.Turns.{Turn, to_low, to_high, zone_of, turns_behind}
use Rattle.cert_walk.specs.Paths.{IsForkOf, AreForksOf, IsForkIn, GoesOn}
use Rattle.cert_walk.specs.declared.path.Path.{Path}
use Rattle.cert_walk.specs.declared.path.Fork.{Fork}

-- ---- lists

-- two lists with the same last element
last_alike : {X : Type 0} (xs ys : List X) (x y : X) → xs ++ x ∷ [] ≡ ys ++ y ∷ [] → (xs ≡ ys) × (x ≡ y)
last_alike [] [] x y same = (refl, cc)
last_alike [] (b ∷ []) x y same = absurd (cc)
last_alike [] (b ∷ c ∷ ys) x y same = absurd (cc)
last_alike (a ∷ []) [] x y same = absurd (cc)
last_alike (a ∷ c ∷ xs) [] x y same = absurd (cc)
last_alike {X} (a ∷ xs) (b ∷ ys) x y same =
    let heads : a ≡ b = cc in
    let tails : xs ++ x ∷ [] ≡ ys ++ y ∷ [] = cc in
    let rest = last_alike xs ys x y tails in
    (ap (λ (k : X). k ∷ xs) heads ∙ ap (λ (zs : List X). b ∷ zs) rest.0, rest.1)

not_empty : {X : Type 0} (xs : List X) (x : X) → [] ≡ xs ++ x ∷ [] → ⊥
not_empty [] x same = cc
not_empty (a ∷ xs) x same = cc

-- ---- zones of the root

set_within : (zone root : List Span) (v : ℕ) (s : Span) → IsSubspan s (span_at root v) → IsSubzone zone root → IsSubzone (set zone v s) root
set_within [] [] v s sub h = h
set_within [] (t ∷ ts) v s sub h = absurd h
set_within (z ∷ zs) [] v s sub h = absurd h
set_within (z ∷ zs) (t ∷ ts) zero s sub h = (sub, h.1)
set_within (z ∷ zs) (t ∷ ts) (suc v) s sub h = (h.0, set_within zs ts v s sub h.1)

zone_with : (root zone : List Span) (v : ℕ) (s : Span) → IsSubspan s (span_at root v) → s.lo ≤ℤ s.hi → IsZone root zone → IsZone root (set zone v s)
zone_with root zone v s sub proper h = record {
  inside = set_within zone root v s sub h.inside;
  proper = All-set (λ (x : Span). x.lo ≤ℤ x.hi) zone v s proper h.proper;
}

-- the variable of a split is there
pub fork_there : (root zone : List Span) (f : Fork) → IsForkIn root f → IsZone root zone → f.place.var < length zone
fork_there root zone f h z = let same = length_all_zip IsSubspan zone root z.inside in omega (arith, same, h.there)

pub fork_proper : (root : List Span) (f : Fork) → IsForkIn root f → f.span.lo ≤ℤ f.span.hi
fork_proper root f h = omega (arith, ints, h.above, h.below)

-- the zone behind a split, and that of its high part
pub back_zone : (root zone z : List Span) (f : Fork) → IsForkIn root f → z ≡ set zone f.place.var f.span → IsZone root zone → IsZone root z
back_zone root zone z f h is zoned = subst (IsZone root) (sym is) (zone_with root zone f.place.var f.span h.inside (fork_proper root f h) zoned)

pub high_zone : (root zone z : List Span) (f : Fork) → IsForkIn root f → z ≡ set zone f.place.var (record { lo = f.place.at +ℤ pos 1; hi = f.span.hi }) → IsZone root zone → IsZone root z
high_zone root zone z f h is zoned =
    let s : Span = record { lo = f.place.at +ℤ pos 1; hi = f.span.hi } in
    let sub : IsSubspan s (span_at root f.place.var) = record { above = omega (arith, ints, h.above, h.inside.above); below = h.inside.below } in
    subst (IsZone root) (sym is) (zone_with root zone f.place.var s sub (omega (arith, ints, h.below)) zoned)

-- ---- the splits that are kept

pub pop_in : (root : List Span) (old rest : List Fork) (f : Fork) → old ≡ rest ++ f ∷ [] → All (IsForkIn root) old → All (IsForkIn root) rest × IsForkIn root f
pop_in root old rest f is h = All-pop (IsForkIn root) old rest (Some f) is h

pub push_in : (root : List Span) (rest new : List Fork) (f g : Fork) → new ≡ rest ++ g ∷ [] → g ≡ record f { is_high = true } → All (IsForkIn root) rest → IsForkIn root f → All (IsForkIn root) new
push_in root rest new f g is same h there =
    let G : Fork = record f { is_high = true } in
    let here : IsForkIn root G = record { there = there.there; inside = there.inside; above = there.above; below = there.below } in
    let P : Fork → Type 0 = IsForkIn root in
    let Q : List Fork → Type 0 = All (IsForkIn root) in
    subst Q (sym is) (All-push (IsForkIn root) rest g h (subst P (sym same) here))

-- a walk behind a whole tree, on the way up from it: behind the tree that it has reached the same comes
pub record ComesTo (spans : List Span) (ts : List Turn) (t : Tree) (zone : List Span) (forks : List Fork) : Type 0 where
  pub us : List Turn
  pub u : Tree
  pub kept : AreForksOf spans forks us
  pub stands : zone ≡ zone_of spans us
  pub same : turns_behind ts t ≡ turns_behind us u

pub begins_to : (spans : List Span) (ts : List Turn) (t : Tree) (zone : List Span) (forks : List Fork) → AreForksOf spans forks ts → zone ≡ zone_of spans ts → ComesTo spans ts t zone forks
begins_to spans ts t zone forks kept is = record { us = ts; u = t; kept = kept; stands = is; same = refl }

-- up from a high part
pub back_to : (spans : List Span) (ts : List Turn) (t : Tree) (zone z : List Span) (old rest : List Fork) (f : Fork) → old ≡ rest ++ f ∷ [] → f.is_high ≡ true
    → z ≡ set zone f.place.var f.span → ComesTo spans ts t zone old → ComesTo spans ts t z rest
back_to spans ts t zone z old rest f is high moved h = by h.us h.stands h.kept h.same
  where
    by : (us : List Turn) → zone ≡ zone_of spans us → AreForksOf spans old us → turns_behind ts t ≡ turns_behind us h.u → ComesTo spans ts t z rest
    by [] there kept same = absurd (not_empty rest f (sym kept ∙ is))
    by (to_low v at ∷ us) there kept same =
        let alike = last_alike kept.0 rest kept.1 f (sym kept.2 ∙ is) in
        let fork = subst (λ (x : Fork). IsForkOf (zone_of spans us) x (to_low v at)) alike.1 kept.3 in
        absurd (true≢false (sym high ∙ fork.3))
    by (to_high v at low ∷ us) there kept same =
        let alike = last_alike kept.0 rest kept.1 f (sym kept.2 ∙ is) in
        let fork = subst (λ (x : Fork). IsForkOf (zone_of spans us) x (to_high v at low)) alike.1 kept.3 in
        let set_is : z ≡ set zone v f.span = moved ∙ ap (λ (k : ℕ). set zone k f.span) fork.0 in
        record {
          us = us;
          u = split v at low h.u;
          kept = subst (λ (fs : List Fork). AreForksOf spans fs us) alike.0 kept.4;
          stands = back_is (zone_of spans us) zone z v at f.span fork.2 there set_is;
          same = same;
        }

-- down into the high part of a split whose low part is whole
pub high_to : (spans : List Span) (ts : List Turn) (t : Tree) (zone z : List Span) (old rest new : List Fork) (f g : Fork) → old ≡ rest ++ f ∷ [] → f.is_high ≡ false
    → z ≡ set zone f.place.var (record { lo = f.place.at +ℤ pos 1; hi = f.span.hi }) → new ≡ rest ++ g ∷ [] → g ≡ record f { is_high = true } → ComesTo spans ts t zone old
    → AreForksOf spans new (turns_behind ts t) × (z ≡ zone_of spans (turns_behind ts t))
high_to spans ts t zone z old rest new f g is low moved now is_high h = by h.us h.stands h.kept h.same
  where
    G : Fork
    G = record f { is_high = true }

    by : (us : List Turn) → zone ≡ zone_of spans us → AreForksOf spans old us → turns_behind ts t ≡ turns_behind us h.u
        → AreForksOf spans new (turns_behind ts t) × (z ≡ zone_of spans (turns_behind ts t))
    by [] there kept same = absurd (not_empty rest f (sym kept ∙ is))
    by (to_high v at l ∷ us) there kept same =
        let alike = last_alike kept.0 rest kept.1 f (sym kept.2 ∙ is) in
        let fork = subst (λ (x : Fork). IsForkOf (zone_of spans us) x (to_high v at l)) alike.1 kept.3 in
        absurd (true≢false (sym fork.3 ∙ low))
    by (to_low v at ∷ us) there kept same =
        let alike = last_alike kept.0 rest kept.1 f (sym kept.2 ∙ is) in
        let fork = subst (λ (x : Fork). IsForkOf (zone_of spans us) x (to_low v at)) alike.1 kept.3 in
        let set_is : z ≡ set zone v (record { lo = at +ℤ pos 1; hi = f.span.hi }) =
        moved ∙ ap (λ (k : ℕ). set zone k (record { lo = f.place.at +ℤ pos 1; hi = f.span.hi })) fork.0
        ∙ ap (λ (k : ℤ). set zone v (record { lo = k +ℤ pos 1; hi = f.span.hi })) fork.1 in
        let rests = subst (λ (fs : List Fork). AreForksOf spans fs us) alike.0 kept.4 in
        let forks : AreForksOf spans new (to_high v at h.u ∷ us) = (rest, G, now ∙ ap (λ (x : Fork). rest ++ x ∷ []) is_high, (fork.0, fork.1, fork.2, refl), rests) in
        let P : List Turn → Type 0 = λ us. AreForksOf spans new us × (z ≡ zone_of spans us) in
        subst P (sym same) (forks, high_is (zone_of spans us) zone z v at f.span fork.2 there set_is)

-- no split is above
pub ends_to : (spans : List Span) (ts : List Turn) (t : Tree) (zone : List Span) (old new : List Fork) → old ≡ [] → new ≡ [] → ComesTo spans ts t zone old
    → AreForksOf spans new (turns_behind ts t) × (zone ≡ zone_of spans (turns_behind ts t))
ends_to spans ts t zone old new none empty h = by h.us h.stands h.kept h.same
  where
    P : List Turn → Type 0
    P us = AreForksOf spans new us × (zone ≡ zone_of spans us)

    by : (us : List Turn) → zone ≡ zone_of spans us → AreForksOf spans old us → turns_behind ts t ≡ turns_behind us h.u → P (turns_behind ts t)
    by [] there kept same = subst P (sym same) (empty, there)
    by (x ∷ us) there kept same = absurd (not_empty kept.0 kept.1 (sym none ∙ kept.2))

pub goes_root : (spans : List Span) (ts : List Turn) (t : Tree) (zone : List Span) (old : List Fork) (now : Path) → old ≡ [] → now.forks.items ≡ [] → now.place.zone ≡ zone
    → ComesTo spans ts t zone old → GoesOn spans ts t now
goes_root spans ts t zone old now none empty same h =
    let both = ends_to spans ts t zone old now.forks.items none empty h in
    record { forks = both.0; zone = same ∙ both.1 }
