-- Classes of blocks that are priced once.
use Rattle.std.proofs.Common.{◌≡◌, ◌≢◌, refl, sym, ap, subst, ◌∙◌, ℕ, ◌+◌, ◌<◌, true, List, length, get_or, set, Option, Some, None, ⊎_elim, arith}
use Rattle.std.proofs.Math.IntN.{ℤ}
use Rattle.std.proofs.lemmas.Bool.{cases_lt, cases_eq}
use Rattle.std.proofs.lemmas.List.{get_or-set_same, get_or-set_other}
use Rattle.bp_theory.specs.Blocking.{Blocking}
use Rattle.bp_theory.specs.Bound.{is_picked, IsPart}
use Rattle.bp_theory.specs.Classes.{IsSame}
use Rattle.bp_theory.specs.declared.Span.{Span}
use Rattle.bp_theory.specs.declared.Proof.{Proof}
use Rattle.bp_theory.proofs.ClassProof.{same_price_lem}
use Rattle.search_laws.specs.Spread.{block_at, class_at}
use Rattle.block_class.specs.Classes.{Grouping, AreSameClasses}
use Rattle.lagr_bound.specs.Bounded.{IsLowest, IsBestPoint, IsTold, AreTold, IsKnown, AreKnown, IfLeast}
use Rattle.pricing_problem.specs.declared.Priced.{Priced}
use Rattle.pricing_problem.specs.declared.Priced.TheVariants.{Least, Nothing, Cut}

-- what is known of a class is the part of each picked block of it
pub known_part : (b : Blocking) (zone : List Span) (proof : Proof) (g : Grouping) (k : ℕ) (v : ℤ) → AreSameClasses zone b g → k < length b.blocks
    → is_picked proof.picked k ≡ true → IsKnown b zone proof g.classes k (class_at g.classes k) (Some v) → IsPart zone proof k (block_at b k) v
known_part b zone proof g k v all l own known =
    let j : ℕ = known.0 in
    let same : IsSame zone (block_at b j) (block_at b k) = (all.same j k (omega (arith, known.1, l)) l).0 known.2 in
    same_price_lem zone proof j k (block_at b j) (block_at b k) v same (known.3 ∙ sym own) known.4

-- what is known of the class of a block, by the class's first block
pub known_of : (b : Blocking) (zone : List Span) (proof : Proof) (g : Grouping) (k : ℕ) (known : List (Option ℤ)) (class first : ℕ) (o : Option ℤ)
    → AreKnown b zone proof g.classes g.firsts k known → class ≡ class_at g.classes k → class < length g.firsts → first ≡ class_at g.firsts class
    → o ≡ get_or known first None → IsKnown b zone proof g.classes k (class_at g.classes k) o
known_of b zone proof g k known class first o had class_is there first_is o_is =
    subst (IsKnown b zone proof g.classes k (class_at g.classes k)) (sym (o_is ∙ ap (λ n. get_or known n None) first_is))
    (subst (λ c. IsKnown b zone proof g.classes k c (get_or known (class_at g.firsts class) None)) class_is (had class there))

-- a fact of a part, where there is none
pub if_not_least : (answer : Priced) (P : Type 0) → ((v : ℤ) → answer ≡ Least v → ⊥) → IfLeast answer P
if_not_least (Least v) P h = absurd (h v refl)
if_not_least Nothing P h = tt
if_not_least Cut P h = tt

-- a value that isn't there
pub none_is : {X : Type 0} (o : Option X) → ((x : X) → o ≡ Some x → ⊥) → o ≡ None
none_is None h = refl
none_is (Some x) h = absurd (h x refl)

-- the class of the first block of a class, and first blocks are there
pub first_there : (b : Blocking) (zone : List Span) (g : Grouping) (c : ℕ) → AreSameClasses zone b g → c < length g.firsts → class_at g.firsts c < length b.blocks
first_there b zone g c all l = omega (arith, (all.firsts c l).there, all.each)

firsts_apart : (b : Blocking) (zone : List Span) (g : Grouping) (c e : ℕ) → AreSameClasses zone b g → c < length g.firsts → e < length g.firsts
    → class_at g.firsts c ≡ class_at g.firsts e → c ≡ e
firsts_apart b zone g c e all l m same = sym (all.firsts c l).own ∙ ap (class_at g.classes) same ∙ (all.firsts e m).own

-- ---- one block more

known_none : (b : Blocking) (zone : List Span) (proof : Proof) (classes : List ℕ) (c k : ℕ)
    → (class_at classes k ≡ c → is_picked proof.picked k ≡ true → ⊥) → IsKnown b zone proof classes k c None → IsKnown b zone proof classes (k + 1) c None
known_none b zone proof classes c k other had j l e own = ⊎_elim
    (λ below. had j below e own)
    (λ above.
    let same : j ≡ k = omega (arith, l, above) in
    other (ap (class_at classes) (sym same) ∙ e) (ap (is_picked proof.picked) (sym same) ∙ own))
    (cases_lt j k)

known_some : (b : Blocking) (zone : List Span) (proof : Proof) (classes : List ℕ) (c k : ℕ) (v : ℤ)
    → IsKnown b zone proof classes k c (Some v) → IsKnown b zone proof classes (k + 1) c (Some v)
known_some b zone proof classes c k v had = (had.0, omega (arith, had.1), had.2, had.3, had.4)

-- a block that changes nothing: where it is picked, its class is known
pub known_skip : (b : Blocking) (zone : List Span) (proof : Proof) (classes firsts : List ℕ) (k : ℕ) (known : List (Option ℤ))
    → AreKnown b zone proof classes firsts k known
    → ((c : ℕ) → c < length firsts → class_at classes k ≡ c → is_picked proof.picked k ≡ true → (v : ℤ) × (get_or known (class_at firsts c) None ≡ Some v))
    → AreKnown b zone proof classes firsts (k + 1) known
known_skip b zone proof classes firsts k known had known_if c l = by (get_or known (class_at firsts c) None) refl (had c l)
  where
    apart : {X : Type 0} (o : Option X) (v : X) → o ≡ None → o ≡ Some v → ⊥
    apart o v e f = absurd (cc)

    by : (o : Option ℤ) → get_or known (class_at firsts c) None ≡ o → IsKnown b zone proof classes k c o → IsKnown b zone proof classes (k + 1) c o
    by None e h = known_none b zone proof classes c k
        (λ own_class own. let found = known_if c l own_class own in apart (get_or known (class_at firsts c) None) found.0 e found.1) h
    by (Some v) e h = known_some b zone proof classes c k v h

-- a block whose part is the first of its class
pub known_new : (b : Blocking) (zone : List Span) (proof : Proof) (g : Grouping) (k : ℕ) (v : ℤ) (known : List (Option ℤ)) → AreSameClasses zone b g
    → k < length b.blocks → class_at g.classes k < length g.firsts → length known ≡ length b.blocks → is_picked proof.picked k ≡ true
    → IsPart zone proof k (block_at b k) v → AreKnown b zone proof g.classes g.firsts k known
    → AreKnown b zone proof g.classes g.firsts (k + 1) (set known (class_at g.firsts (class_at g.classes k)) (Some v))
known_new b zone proof g k v known all l there wide own part had c m =
    let first : ℕ = class_at g.firsts (class_at g.classes k) in ⊎_elim
    (λ same.
    subst (IsKnown b zone proof g.classes (k + 1) c) (sym (here first c same))
    (k, omega arith, sym same, own, part))
    (λ other.
    let elsewhere : class_at g.firsts c ≢ first = λ e. other (firsts_apart b zone g c (class_at g.classes k) all m there e) in
    subst (IsKnown b zone proof g.classes (k + 1) c) (sym (get_or-set_other known first (class_at g.firsts c) (Some v) None elsewhere))
    (by (get_or known (class_at g.firsts c) None) (λ e. other (sym e)) (had c m)))
    (cases_eq c (class_at g.classes k))
  where
    here : (first c : ℕ) → c ≡ class_at g.classes k → get_or (set known (class_at g.firsts (class_at g.classes k)) (Some v)) (class_at g.firsts c) None ≡ Some v
    here first c same =
        ap (λ n. get_or (set known (class_at g.firsts (class_at g.classes k)) (Some v)) (class_at g.firsts n) None) same
        ∙ get_or-set_same known (class_at g.firsts (class_at g.classes k)) (Some v) None
        (omega (arith, wide, first_there b zone g (class_at g.classes k) all there))

    by : (o : Option ℤ) → (class_at g.classes k ≡ c → ⊥) → IsKnown b zone proof g.classes k c o → IsKnown b zone proof g.classes (k + 1) c o
    by None other h = known_none b zone proof g.classes c k (λ e own. other e) h
    by (Some w) other h = known_some b zone proof g.classes c k w h

pub none_known : (b : Blocking) (zone : List Span) (proof : Proof) (classes firsts : List ℕ) (known : List (Option ℤ))
    → ((k : ℕ) → get_or known k None ≡ None) → AreKnown b zone proof classes firsts 0 known
none_known b zone proof classes firsts known none c l =
    subst (IsKnown b zone proof classes 0 c) (sym (none (class_at firsts c))) (λ j m e own. absurd (omega (arith, m)))

-- ---- what is told

pub none_told : (b : Blocking) (zone : List Span) (proof : Proof) (classes : List ℕ) (told : List (Option (List ℤ)))
    → ((k : ℕ) → get_or told k None ≡ None) → AreTold b zone proof classes 0 told
none_told b zone proof classes told none = record { below = λ j l. absurd (omega (arith, l)); above = λ j l. none j }

pub told_skip : (b : Blocking) (zone : List Span) (proof : Proof) (classes : List ℕ) (k : ℕ) (told : List (Option (List ℤ)))
    → AreTold b zone proof classes k told → (IsLowest classes proof.picked k → ⊥) → AreTold b zone proof classes (k + 1) told
told_skip b zone proof classes k told had other = record {
  below = λ j l. ⊎_elim
      (λ below. had.below j below)
      (λ above. last j (omega (arith, l, above)))
      (cases_lt j k);
  above = λ j l. had.above j (omega (arith, l));
}
  where
    last : (j : ℕ) → j ≡ k → IsTold b zone proof classes j (get_or told j None)
    last j e =
        subst (λ n. IsTold b zone proof classes n (get_or told n None)) (sym e)
        (subst (IsTold b zone proof classes k) (sym (had.above k (omega arith))) other)

pub told_new : (b : Blocking) (zone : List Span) (proof : Proof) (classes : List ℕ) (k : ℕ) (told : List (Option (List ℤ))) (y : List ℤ)
    → AreTold b zone proof classes k told → k < length told → IsLowest classes proof.picked k → IsBestPoint zone proof (block_at b k) y
    → AreTold b zone proof classes (k + 1) (set told k (Some y))
told_new b zone proof classes k told y had l lowest best = record {
  below = λ j m. ⊎_elim
      (λ below.
      subst (IsTold b zone proof classes j) (sym (get_or-set_other told k j (Some y) None (λ e. omega (arith, e, below)))) (had.below j below))
      (λ above. last j (omega (arith, m, above)))
      (cases_lt j k);
  above = λ j m. get_or-set_other told k j (Some y) None (λ e. omega (arith, e, m)) ∙ had.above j (omega (arith, m));
}
  where
    last : (j : ℕ) → j ≡ k → IsTold b zone proof classes j (get_or (set told k (Some y)) j None)
    last j e =
        subst (λ n. IsTold b zone proof classes n (get_or (set told k (Some y)) n None)) (sym e)
        (subst (IsTold b zone proof classes k) (sym (get_or-set_same told k (Some y) None l)) (lowest, best))
