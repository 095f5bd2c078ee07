-- What workers hold, when one takes or lets go, and how many do.
use Rattle.std.proofs.Common.{◌≡◌, ◌≢◌, refl, sym, ap, subst, ◌∙◌, ℕ, zero, suc, ◌+◌, ◌<◌, ◌≤◌, Bool, List, [], ◌∷◌, length, map, get_or, set, replicate, Option, Some, None, arith, ⊎_elim}
use Rattle.std.specs.Prelude.{is_some, cond, count_by, option_map, ℤ}
use Rattle.std.proofs.lemmas.List.Sums.{sum_by-cons}
use Rattle.std.proofs.lemmas.Bool.{cases_lt}
use Rattle.search_laws.specs.declared.Side.{Side}
use Rattle.search_laws.specs.Grove.{LiveLeaf, live_at}
use Rattle.open_nodes.specs.declared.turn.Turn.{Turn}
use Rattle.branch_tree.specs.Groves.{GroveState, IsStanding, IsTurnAt}
use Rattle.branch_tree.proofs.TurnPlaces.{first_free_turn}
use Rattle.open_nodes.specs.Queues.{queue_of, count_before}
use Rattle.crew_steps.specs.declared.hand.Hand.{Hand}
use Rattle.crew_steps.specs.Hands.{IsHeld, IsHeldAt, IsFirstFree}

-- ---- how many hold something

pub count-first : {X : Type 0} (x : Option X) (xs : List (Option X)) → count_by is_some (x ∷ xs) ≡ cond (is_some x) 1 0 + count_by is_some xs
count-first x xs = sum_by-cons (λ y. cond (is_some y) 1 0) x xs

-- one of those that hold something lets go
pub count_freed : {X : Type 0} (xs : List (Option X)) (w : ℕ) (x : X) → get_or xs w None ≡ Some x
    → count_by is_some (set xs w None) + 1 ≡ count_by is_some xs
count_freed [] w x e = absurd (cc)
count_freed (y ∷ xs) zero x e =
    omega (arith, count-first y xs, count-first None xs, ap {B = ℕ} (λ o. cond (is_some o) 1 0) e)
count_freed (y ∷ xs) (suc w) x e = omega (arith, count-first y xs, count-first y (set xs w None), count_freed xs w x e)

-- one of those that hold nothing takes something
pub count_taken : {X : Type 0} (xs : List (Option X)) (w : ℕ) (x : X) → w < length xs → get_or xs w None ≡ None
    → count_by is_some (set xs w (Some x)) ≡ count_by is_some xs + 1
count_taken [] w x there e = absurd (omega (arith, there))
count_taken (y ∷ xs) zero x there e =
    omega (arith, count-first y xs, count-first (Some x) xs, ap {B = ℕ} (λ o. cond (is_some o) 1 0) e)
count_taken (y ∷ xs) (suc w) x there e =
    omega (arith, count-first y xs, count-first y (set xs w (Some x)), count_taken xs w x (omega (arith, there)) e)

-- those that hold something under another view
abbrev one_if : Bool → ℕ
one_if t = cond t 1 0

some_mapped : {X Y : Type 0} (f : X → Y) (o : Option X) → one_if (is_some (option_map f o)) ≡ one_if (is_some o)
some_mapped f None = refl
some_mapped f (Some y) = refl

pub count_mapped : {X Y : Type 0} (f : X → Y) (xs : List (Option X)) → count_by is_some (map (option_map f) xs) ≡ count_by is_some xs
count_mapped f [] = refl
count_mapped f (x ∷ xs) =
    omega (arith, count-first (option_map f x) (map (option_map f) xs), count-first x xs, some_mapped f x, count_mapped f xs)

pub count_none : (n : ℕ) → count_by (λ (o : Option Hand). is_some o) (replicate n None) ≡ 0
count_none zero = refl
count_none (suc n) =
    let rest : List (Option Hand) = replicate n None in
    omega (arith, count-first {X = Hand} None rest, count_none n)

-- ---- what stands at each place

pub get_mapped : {X Y : Type 0} (f : X → Y) (xs : List (Option X)) (w : ℕ) → get_or (map (option_map f) xs) w None ≡ option_map f (get_or xs w None)
get_mapped f [] w = refl
get_mapped f (x ∷ xs) zero = refl
get_mapped f (x ∷ xs) (suc w) = get_mapped f xs w

-- what holds of each that is held, after one place is written over
pub each_after : {X : Type 0} (P : X → Type 0) (xs : List (Option X)) (w : ℕ) (o : Option X) → ((v : ℕ) (x : X) → get_or xs v None ≡ Some x → P x)
    → ((x : X) → o ≡ Some x → P x) → (v : ℕ) (x : X) → get_or (set xs w o) v None ≡ Some x → P x
each_after P [] w o old new v x e = absurd (cc)
each_after P (y ∷ xs) zero o old new zero x e = new x e
each_after P (y ∷ xs) zero o old new (suc v) x e = old (suc v) x e
each_after P (y ∷ xs) (suc w) o old new zero x e = old zero x e
each_after P (y ∷ xs) (suc w) o old new (suc v) x e = each_after P xs w o (λ u z h. old (suc u) z h) new v x e

-- what was held before a place was freed, elsewhere
pub freed_elsewhere : {X : Type 0} (xs : List (Option X)) (w v : ℕ) (x : X) → get_or (set xs w None) v None ≡ Some x
    → (v ≢ w) × (get_or xs v None ≡ Some x)
freed_elsewhere [] w v x e = absurd (cc)
freed_elsewhere (y ∷ xs) zero zero x e = absurd (cc)
freed_elsewhere (y ∷ xs) zero (suc v) x e = (λ same. omega (arith, same), e)
freed_elsewhere (y ∷ xs) (suc w) zero x e = (λ same. omega (arith, same), e)
freed_elsewhere (y ∷ xs) (suc w) (suc v) x e =
    let rest = freed_elsewhere xs w v x e in (λ same. rest.0 (omega (arith, same)), rest.1)

kept_elsewhere : {X : Type 0} (xs : List (Option X)) (w v : ℕ) (x : X) → v ≢ w → get_or xs v None ≡ Some x → get_or (set xs w None) v None ≡ Some x
kept_elsewhere [] w v x apart e = e
kept_elsewhere (y ∷ xs) zero zero x apart e = absurd (apart refl)
kept_elsewhere (y ∷ xs) zero (suc v) x apart e = e
kept_elsewhere (y ∷ xs) (suc w) zero x apart e = e
kept_elsewhere (y ∷ xs) (suc w) (suc v) x apart e = kept_elsewhere xs w v x (λ same. apart (ap suc same)) e

-- a place where something is held is one of the list's
pub there_if_held : {X : Type 0} (xs : List (Option X)) (w : ℕ) (x : X) → get_or xs w None ≡ Some x → w < length xs
there_if_held [] w x e = absurd (cc)
there_if_held (y ∷ xs) zero x e = omega arith
there_if_held (y ∷ xs) (suc w) x e = omega (arith, there_if_held xs w x e)

-- what is read where something is held, whatever is read past the end
pub read_there : {X : Type 0} (xs : List (Option X)) (w : ℕ) (x : X) (o : Option X) → get_or xs w None ≡ Some x → o ≡ get_or xs w o → o ≡ Some x
read_there [] w x o e r = absurd (cc)
read_there (y ∷ xs) zero x o e r = r ∙ e
read_there (y ∷ xs) (suc w) x o e r = read_there xs w x o e r

-- ---- so many different ones that hold something

pub pigeonhole : {X : Type 0} (n : ℕ) (xs : List (Option X)) (holder : (p : ℕ) → p < n → ℕ)
    → ((p : ℕ) (l : p < n) → (x : X) × (get_or xs (holder p l) None ≡ Some x))
    → ((p q : ℕ) (l : p < n) (m : q < n) → holder p l ≡ holder q m → p ≡ q) → n ≤ count_by is_some xs
pigeonhole zero xs holder each apart = omega arith
pigeonhole (suc n) xs holder each apart =
    let last : n < suc n = omega arith in
    let w : ℕ = holder n last in
    let found = each n last in
    let fewer = pigeonhole n (set xs w None) (λ p l. holder p (up n p l))
    (λ p l.
    let here = each p (up n p l) in
    (here.0, kept_elsewhere xs w (holder p (up n p l)) here.0 (λ same. omega (arith, apart p n (up n p l) last same, l)) here.1))
    (λ p q l m same. apart p q (up n p l) (up n q m) same) in
    omega (arith, fewer, count_freed xs w found.0 found.1)
  where
    up : (n p : ℕ) → p < n → p < suc n
    up n p l = omega (arith, l)

-- ---- the free leaf that is next

-- a path has one place in the queue
one_place : (g : GroveState) (p q : ℕ) (turn other : Turn) → IsStanding g → IsTurnAt g p turn → IsTurnAt g q other → turn.path ≡ other.path → p ≡ q
one_place g p q turn other standing at too same =
    let queue = standing.queued in
    let here : (turn.bound ≡ other.bound) =
    let a = queue.live turn.bound at.number turn.path at.entry.there in
    let c = queue.live other.bound too.number other.path too.entry.there in
    one_bound (live_at g.tree) a.0 c.0 turn.path other.path same a.1 c.1 a.2 c.2 in
    let number : at.number ≡ too.number =
    queue.once turn.bound other.bound at.number too.number turn.path at.entry.there
    (subst (λ (path : List Side). queue_of g.queue other.bound too.number ≡ Some path) (sym same) too.entry.there) in
    sym at.entry.before ∙ ap (λ z. count_before g.queue z at.number) here ∙ ap (count_before g.queue other.bound) number ∙ too.entry.before
  where
    one_bound : {z w : ℤ} (at : List Side → Option LiveLeaf) (a c : LiveLeaf) (path other : List Side) → path ≡ other → at path ≡ Some a → at other ≡ Some c
        → a.bound ≡ z → c.bound ≡ w → z ≡ w
    one_bound at a c path other same h k e f =
        let leaves : Some a ≡ Some c = sym h ∙ ap at same ∙ k in
        let one : a ≡ c = cc in
        sym e ∙ ap (λ (l : LiveLeaf). l.bound) one ∙ f

-- not all live leaves are held where fewer workers hold one
pub too_many : (g : GroveState) (hands : List (Option Hand)) (n : ℕ) → IsStanding g → ((p : ℕ) → p < n → IsHeldAt g hands p) → n ≤ count_by is_some hands
too_many g hands n standing held =
    pigeonhole n hands (λ p l. (held p l).held.worker)
    (λ p l. ((held p l).held.hand, (held p l).held.holds))
    (λ p q l m same. one_place g p q (held p l).turn (held q m).turn standing (held p l).at (held q m).at
    (sym (held p l).held.same ∙ ap (λ (h : Hand). h.turn.path) (one_hand hands (held p l).held.worker (held q m).held.worker
    (held p l).held.hand (held q m).held.hand same (held p l).held.holds (held q m).held.holds) ∙ (held q m).held.same))
  where
    one_hand : (hands : List (Option Hand)) (v w : ℕ) (a c : Hand) → v ≡ w → get_or hands v None ≡ Some a → get_or hands w None ≡ Some c → a ≡ c
    one_hand hands v w a c same h k =
        let both : Some a ≡ Some c = sym h ∙ ap (λ i. get_or hands i None) same ∙ k in
        cc

-- the leaf at a place is the first free one where all at lower places are held and it isn't
pub is_first : (g : GroveState) (hands : List (Option Hand)) (place : ℕ) (turn : Turn) → IsTurnAt g place turn
    → ((p : ℕ) → p < place → IsHeldAt g hands p) → (IsHeld hands turn.path → ⊥) → IsFirstFree g hands turn
is_first g hands place turn at held free = record {
  live = at.live;
  free = free;
  number = at.number;
  there = at.entry.there;
  first = first_free_turn g place turn (IsHeld hands) at (λ p l. ((held p l).turn, (held p l).at, (held p l).held));
}

-- one more place is held
pub held_more : (g : GroveState) (hands : List (Option Hand)) (place : ℕ) (turn : Turn) → IsTurnAt g place turn → IsHeld hands turn.path
    → ((p : ℕ) → p < place → IsHeldAt g hands p) → (p : ℕ) → p < place + 1 → IsHeldAt g hands p
held_more g hands place turn at here before p l = ⊎_elim
    (λ less. before p less)
    (λ more. subst (IsHeldAt g hands) (is_place more) (record { turn = turn; at = at; held = here }))
    (cases_lt p place)
  where
    is_place : place ≤ p → place ≡ p
    is_place more = omega (arith, l, more)
