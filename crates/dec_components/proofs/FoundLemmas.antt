-- What is so of each decomposition beside master rows: there is one, its blocks are accepted, and joined rows share a block
-- in every other one.
use Rattle.std.proofs.Common.{◌≡◌, ◌≢◌, ◌⊎◌, ℕ, zero, suc, ◌<◌, ◌≤◌, true, List, [], ◌∷◌, length, get_or, Option, Some, None, refl, sym, ap, subst, ◌∙◌, ⊎_elim, inl, inr, arith}
use Rattle.std.proofs.lemmas.List.{ext_get_or}
use Rattle.std.specs.Prelude.{Contains, All, pos, IsTrue}
use Rattle.std.proofs.lemmas.Bool.{cases_eq, cases_lt, cases_order}
use Rattle.bp_theory.specs.Program.{Program, coefficient}
use Rattle.bp_theory.specs.Decomposition.{Decomposition, HasPlaces, IsPlace, IsLinking, is_in, stands_in, IsTidyFrom}
use Rattle.bp_theory.specs.declared.Term.{Term}
use Rattle.bp_theory.specs.declared.Row.{Row}
use Rattle.bp_model.specs.Named.{NamedProgram, IsKept}
use Rattle.block_build.specs.Stand.{StandsInRow}
use Rattle.block_form.specs.Checks.{HasBlockFault}
use Rattle.block_form.specs.declared.fault.BlockFault.{BlockFault}
use Rattle.block_form.specs.declared.fault.BlockFault.TheVariants.{VarPlace, Links, NoMemory}
use Rattle.block_build.proofs.FormLemmas.{in_from_stands, stands_from_in}
use Rattle.block_build.proofs.LargeLemmas.{not_large}
use Rattle.dec_components.specs.Joined.{HasVariable, SharesVariable, IsOutside, Joined, place_at, IsFound, HasMaster}
use Rattle.dec_components.proofs.ChainLemmas.{joined_by, joined_keeps, has_stands, stands_has}
use Rattle.dec_components.proofs.NumberLemmas.{no_some, one_some, some_there, none_past, any_place}

-- a row with a block is outside the master
some_outside : (p : Program) (master : List ℕ) (d : Decomposition) (r k : ℕ) → HasPlaces p d → HasMaster p master d → place_at d r ≡ Some k → IsOutside p master r
some_outside p master d r k places with_master e =
    let there : r < length p.rows = omega (arith, some_there d.places r k e, places.each) in
    record { there = there; outside = λ c. no_some k (sym ((with_master r there).1 c) ∙ e) }

-- ---- one decomposition

-- the same place, where all earlier rows have the same
same_place_next : (p : Program) (master : List ℕ) (d e : Decomposition) → IsFound p master d → IsFound p master e → (r : ℕ)
    → ((s : ℕ) → s < r → place_at d s ≡ place_at e s) → place_at d r ≡ place_at e r
same_place_next p master d e hd he r before = by (place_at d r) (place_at e r) refl refl
  where
    there_d : (k : ℕ) → place_at d r ≡ Some k → r < length p.rows
    there_d k is = omega (arith, some_there d.places r k is, hd.places.each)

    there_e : (k : ℕ) → place_at e r ≡ Some k → r < length p.rows
    there_e k is = omega (arith, some_there e.places r k is, he.places.each)

    -- a lower number in one is also the number of an earlier row in the other
    lower : (a b : Decomposition) → IsFound p master a → IsFound p master b → ((s : ℕ) → s < r → place_at a s ≡ place_at b s) → (k l : ℕ)
        → place_at a r ≡ Some k → place_at b r ≡ Some l → k < l → ⊥
    lower a b ha hb same k l ka lb less =
        let s = hb.numbered r k l lb less in
        let in_a : place_at a s.0 ≡ Some k = same s.0 s.1 ∙ s.2 in
        let out_s = some_outside p master a s.0 k ha.places ha.master_rows in_a in
        let out_r = some_outside p master a r k ha.places ha.master_rows ka in
        let joined = (ha.blocks s.0 r out_s out_r).0 (in_a ∙ sym ka) in
        let alike = (hb.blocks s.0 r out_s out_r).1 joined in
        let equal : k ≡ l = one_some k l (sym s.2 ∙ alike ∙ lb) in
        omega (arith, equal, less)

    by : (x y : Option ℕ) → place_at d r ≡ x → place_at e r ≡ y → place_at d r ≡ place_at e r
    by None None a b = a ∙ sym b
    by None (Some l) a b = absurd (no_some l (sym ((he.master_rows r (there_e l b)).1 ((hd.master_rows r (there_e l b)).0 a)) ∙ b))
    by (Some k) None a b = absurd (no_some k (sym ((hd.master_rows r (there_d k a)).1 ((he.master_rows r (there_d k a)).0 b)) ∙ a))
    by (Some k) (Some l) a b = elim (cases_order k l) [
      | inl same ↦ a ∙ ap Some same ∙ sym b
      | inr (inl less) ↦ absurd (lower d e hd he before k l a b less)
      | inr (inr more) ↦ absurd (lower e d he hd (λ s low. sym (before s low)) l k b a more)
    ]

same_below : (p : Program) (master : List ℕ) (d e : Decomposition) → IsFound p master d → IsFound p master e → (n r : ℕ) → r < n → place_at d r ≡ place_at e r
same_below p master d e hd he zero r l = absurd (omega arith)
same_below p master d e hd he (suc n) r l = same_place_next p master d e hd he r (λ s low. same_below p master d e hd he n s (omega (arith, low, l)))

-- no block is missing that the other has
no_fewer : (p : Program) (master : List ℕ) (d e : Decomposition) → IsFound p master d → IsFound p master e → ((r : ℕ) → place_at d r ≡ place_at e r) → d.blocks < e.blocks → ⊥
no_fewer p master d e hd he same less =
    let r = he.filled d.blocks less in
    let in_d : place_at d r.0 ≡ Some d.blocks = same r.0 ∙ r.1 in
    let there : r.0 < length d.places = some_there d.places r.0 d.blocks in_d in
    let known : d.blocks < d.blocks = subst (IsPlace d.blocks) in_d (hd.places.known r.0 None there) in
    omega (arith, known)

-- a decomposition by its parts
pub same_parts : (a b : ℕ) (xs ys : List (Option ℕ)) (us vs : List (ℕ × Option ℕ)) → a ≡ b → xs ≡ ys → us ≡ vs
    → ◌≡◌ {A = Decomposition} (record { blocks = a; places = xs; listed = us }) (record { blocks = b; places = ys; listed = vs })
same_parts a b xs ys us vs one two three = cc

pub found_once : (p : Program) (master : List ℕ) (d e : Decomposition) → IsFound p master d → IsFound p master e → d ≡ e
found_once p master d e hd he =
    let same : (r : ℕ) → place_at d r ≡ place_at e r = λ r. same_below p master d e hd he (suc r) r (omega arith) in
    let places : d.places ≡ e.places = ext_get_or None d.places e.places (omega (arith, hd.places.each, he.places.each)) (λ r l. same r) in
    let blocks : d.blocks ≡ e.blocks = elim (cases_order d.blocks e.blocks) [
      | inl equal ↦ equal
      | inr (inl less) ↦ absurd (no_fewer p master d e hd he same less)
      | inr (inr more) ↦ absurd (no_fewer p master e d he hd (λ r. sym (same r)) more)
    ] in
    let listed : d.listed ≡ e.listed = hd.unlisted ∙ sym he.unlisted in
    same_parts d.blocks e.blocks d.places e.places d.listed e.listed blocks places listed

-- ---- blocks without linking variables

-- who stands in a row of a block is a variable of a row outside the master
stands_row : (m : NamedProgram) (d : Decomposition) (v r k : ℕ) → IsKept m → StandsInRow m.program.rows d.places v r k → HasVariable m.program r v
stands_row m d v r k kept s = stands_has m r v kept s.there s.stands

-- rows of two blocks have no variable in common
none_links : (m : NamedProgram) (master : List ℕ) (d : Decomposition) → IsKept m → IsFound m.program master d → (v : ℕ) → IsLinking m.program d v → ⊥
none_links m master d kept h v link =
    let one = stands_from_in m.program d v link.first link.in_first in
    let two = stands_from_in m.program d v link.later link.in_later in
    let out1 = some_outside m.program master d one.0 link.first h.places h.master_rows one.1.place in
    let out2 = some_outside m.program master d two.0 link.later h.places h.master_rows two.1.place in
    let joined = joined_by m.program master one.0 two.0 v out1 out2 (stands_row m d v one.0 link.first kept one.1) (stands_row m d v two.0 link.later kept two.1) in
    let alike = (h.blocks one.0 two.0 out1 out2).1 joined in
    let equal : link.first ≡ link.later = one_some link.first link.later (sym one.1.place ∙ alike ∙ two.1.place) in
    omega (arith, equal, link.apart)

pub found_accepted : (m : NamedProgram) (master : List ℕ) (d : Decomposition) (fault : BlockFault) → IsKept m → IsFound m.program master d → HasBlockFault m.program d fault → fault ≡ NoMemory
found_accepted m master d NoMemory kept h f = refl
found_accepted m master d (VarPlace v) kept h f = absurd (
    let none : f.place < length (let xs : List (ℕ × Option ℕ) = [] in xs) = subst (λ (xs : List (ℕ × Option ℕ)). f.place < length xs) h.unlisted f.there in
    omega (arith, none)
    )
found_accepted m master d Links kept h f = absurd (not_large m d kept (none_links m master d kept h) f.1)

-- ---- other decompositions

-- two rows outside the master that have a variable in common share a block, where no variable links two
neighbours_share : (p : Program) (master : List ℕ) (d : Decomposition) → HasPlaces p d → HasMaster p master d → ((v : ℕ) → IsLinking p d v → ⊥) → (a b : ℕ)
    → IsOutside p master a → IsOutside p master b → SharesVariable p a b → place_at d a ≡ place_at d b
neighbours_share p master d places with_master apart a b oa ob shares = by (place_at d a) (place_at d b) refl refl
  where
    block_there : (r k : ℕ) → place_at d r ≡ Some k → k < d.blocks
    block_there r k e = subst (IsPlace d.blocks) e (places.known r None (some_there d.places r k e))

    stands : (r k : ℕ) → HasVariable p r shares.var → place_at d r ≡ Some k → is_in p d shares.var k ≡ true
    stands r k has e = in_from_stands p d shares.var r k (record { there = has.there; place = e; stands = λ row. has_stands p r shares.var row has })

    link : (k l : ℕ) → place_at d a ≡ Some k → place_at d b ≡ Some l → k < l → ⊥
    link k l ka lb less = apart shares.var (record {
      first = k;
      later = l;
      apart = less;
      there = block_there b l lb;
      in_first = stands a k shares.first ka;
      in_later = stands b l shares.second lb;
    })

    link_back : (k l : ℕ) → place_at d a ≡ Some k → place_at d b ≡ Some l → l < k → ⊥
    link_back k l ka lb less = apart shares.var (record {
      first = l;
      later = k;
      apart = less;
      there = block_there a k ka;
      in_first = stands b l shares.second lb;
      in_later = stands a k shares.first ka;
    })

    by : (x y : Option ℕ) → place_at d a ≡ x → place_at d b ≡ y → place_at d a ≡ place_at d b
    by None y e f = absurd (oa.outside ((with_master a oa.there).0 e))
    by (Some k) None e f = absurd (ob.outside ((with_master b ob.there).0 f))
    by (Some k) (Some l) e f = elim (cases_order k l) [
      | inl same ↦ e ∙ ap Some same ∙ sym f
      | inr (inl less) ↦ absurd (link k l e f less)
      | inr (inr more) ↦ absurd (link_back k l e f more)
    ]

pub joined_share : (p : Program) (master : List ℕ) (d : Decomposition) → HasPlaces p d → HasMaster p master d → ((v : ℕ) → IsLinking p d v → ⊥) → (r s : ℕ)
    → Joined p master r s → place_at d r ≡ place_at d s
joined_share p master d places with_master apart r s j = joined_keeps p master (place_at d) r s (neighbours_share p master d places with_master apart) j
