-- Steps and their sides, from the last one up.
use Rattle.std.proofs.Common.{◌≡◌, ◌∙◌, ◌↔◌, ℕ, suc, Bool, IsTrue, List, [], ◌∷◌, ◌++◌, length, sym, ap, refl, arith, append_assoc}
use Rattle.search_laws.specs.declared.Side.{Side}
use Rattle.open_nodes.specs.Paths.{sides_of, GoesThrough}
use Rattle.open_nodes.specs.Queues.{LiesBelow}
use Rattle.open_nodes.specs.declared.path.Steps.{Steps}

-- ---- sides at an end

pub no_end : (a : List Side) (x : Side) → a ++ x ∷ [] ≡ [] → ⊥
no_end [] x e = absurd (cc)
no_end (b ∷ a) x e = absurd (cc)

pub ends_alike : (a b : List Side) (x y : Side) → a ++ x ∷ [] ≡ b ++ y ∷ [] → (a ≡ b) × (x ≡ y)
ends_alike [] [] x y e = (refl, let same : x ≡ y = cc in same)
ends_alike [] (c ∷ b) x y e = absurd (no_end b y (let rest : b ++ y ∷ [] ≡ [] = cc in rest))
ends_alike (c ∷ a) [] x y e = absurd (no_end a x (let rest : a ++ x ∷ [] ≡ [] = cc in rest))
ends_alike (c ∷ a) (d ∷ b) x y e =
    let rest = ends_alike a b x y (let r : a ++ x ∷ [] ≡ b ++ y ∷ [] = cc in r) in
    let head : c ≡ d = cc in
    (ap (λ z. z ∷ a) head ∙ ap (λ (l : List Side). d ∷ l) rest.0, rest.1)

-- ---- two walks up side by side

-- steps go through those at hand, and these through others, so many steps further up
pub record AreBeside (steps here ahead : Steps) (count : ℕ) : Type 0 where
  pub behind : List Side
  pub through : sides_of steps ≡ sides_of here ++ behind
  pub further : GoesThrough here ahead count

-- a list with a first element has a last one
ends : (x : Side) (xs : List Side) → (ys : List Side) × (y : Side) × (x ∷ xs ≡ ys ++ y ∷ []) × (length ys ≡ length xs)
ends x [] = ([], x, refl, refl)
ends x (z ∷ xs) = let k = ends z xs in (x ∷ k.0, k.1, ap (λ (l : List Side). x ∷ l) k.2, ap suc k.3)

pub beside_above : (steps here ahead next behind : Steps) (count : ℕ) (x y : Side) → AreBeside steps here ahead count → sides_of here ≡ sides_of behind ++ x ∷ []
    → sides_of ahead ≡ sides_of next ++ y ∷ [] → AreBeside steps behind next count
beside_above steps here ahead next behind count x y beside last first =
    let k = ends y beside.further.0 in
    let whole : sides_of behind ++ x ∷ [] ≡ (sides_of next ++ k.0) ++ k.1 ∷ [] =
    sym last ∙ beside.further.1 ∙ ap (λ (l : List Side). l ++ beside.further.0) first ∙ append_assoc (sides_of next) (y ∷ []) beside.further.0
    ∙ ap (λ (l : List Side). sides_of next ++ l) k.2 ∙ sym (append_assoc (sides_of next) k.0 (k.1 ∷ [])) in
    record {
      behind = x ∷ beside.behind;
      through = beside.through ∙ ap (λ (l : List Side). l ++ beside.behind) last ∙ append_assoc (sides_of behind) (x ∷ []) beside.behind;
      further = (k.0, (ends_alike (sides_of behind) (sides_of next ++ k.0) x k.1 whole).0, k.3 ∙ beside.further.2);
    }

heads_alike : (a b c d : List Side) → length a ≡ length b → a ++ c ≡ b ++ d → a ≡ b
heads_alike [] [] c d long e = refl
heads_alike [] (y ∷ b) c d long e = absurd (omega (arith, long))
heads_alike (x ∷ a) [] c d long e = absurd (omega (arith, long))
heads_alike (x ∷ a) (y ∷ b) c d long e =
    let head : x ≡ y = cc in
    let rest : a ++ c ≡ b ++ d = cc in
    ap (λ z. z ∷ a) head ∙ ap (λ (l : List Side). y ∷ l) (heads_alike a b c d (omega (arith, long)) rest)

pub beside_ends : (steps here ahead : Steps) (above : List Side) (t : Bool) → AreBeside steps here ahead (length above) → sides_of ahead ≡ []
    → (IsTrue t ↔ (sides_of here ≡ above)) → IsTrue t ↔ LiesBelow above (sides_of steps)
beside_ends steps here ahead above t beside none same = (
  λ yes. (beside.behind, beside.through ∙ ap (λ (l : List Side). l ++ beside.behind) (same.0 yes)),
  λ below. same.1 (heads_alike (sides_of here) above beside.behind below.0 as_long (sym beside.through ∙ below.1)),
)
  where
    as_long : length (sides_of here) ≡ length above
    as_long = ap length (beside.further.1 ∙ ap (λ (l : List Side). l ++ beside.further.0) none) ∙ beside.further.2
