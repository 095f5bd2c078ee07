-- The numbers of link rows, variable by variable.
use Rattle.std.proofs.Common.{◌≡◌, ◌∙◌, ℕ, ◌+◌, ◌-◌, ◌<◌, List, [], ◌∷◌, ◌++◌, length, get_or, take, refl, sym, ap, ⊎_elim, arith}
use Rattle.std.specs.Prelude.{sum_by}
use Rattle.std.proofs.lemmas.Bool.{cases_lt}
use Rattle.std.proofs.lemmas.List.{take_more, get_or_append_left, get_or-append-add}
use Rattle.std.proofs.lemmas.List.Sums.{sum_by-append, sum_by-cons}
use Rattle.block_build.specs.Homes.{further}

pub further_more : (homes : List (List ℕ)) (i : ℕ) → i < length homes → sum_by further (take (i + 1) homes) ≡ sum_by further (take i homes) + further (get_or homes i [])
further_more homes i l =
    ap (sum_by further) (take_more homes i [] l) ∙ sum_by-append further (take i homes) (get_or homes i [] ∷ [])
    ∙ ap (λ n. sum_by further (take i homes) + n) (let e : sum_by further (get_or homes i [] ∷ []) ≡ further (get_or homes i []) = omega (arith, sum_by-cons further (get_or homes i []) []) in e)

pub further_few : (own : List ℕ) → further own ≡ length own - 1
further_few [] = refl
further_few (k ∷ ks) = omega arith

-- one number more
pub links_more : (rows : ℕ) (homes : List (List ℕ)) (links new : List ℕ) (i next : ℕ) → new ≡ links ++ next ∷ [] → length links ≡ i → next ≡ rows + sum_by further (take i homes)
    → ((v : ℕ) → v < i → get_or links v 0 ≡ rows + sum_by further (take v homes)) → (v : ℕ) → v < i + 1 → get_or new v 0 ≡ rows + sum_by further (take v homes)
links_more rows homes links new i next new_is each next_is earlier v l = ⊎_elim
    (λ less. ap (λ (ks : List ℕ). get_or ks v 0) new_is ∙ get_or_append_left links (next ∷ []) 0 v (omega (arith, less, each)) ∙ earlier v less)
    (λ more.
    let same : v ≡ i = omega (arith, l, more) in
    ap (λ (ks : List ℕ). get_or ks v 0) new_is ∙ ap (λ n. get_or (links ++ next ∷ []) n 0) (let e : v ≡ length links + 0 = omega (arith, same, each) in e)
    ∙ get_or-append-add links (next ∷ []) 0 0 ∙ next_is ∙ ap (λ n. rows + sum_by further (take n homes)) (sym same))
    (cases_lt v i)
