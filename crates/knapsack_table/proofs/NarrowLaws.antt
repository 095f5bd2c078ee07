-- A narrowed zone has a cheapest point of a row of the whole zone.
use Rattle.std.proofs.Common.{◌≡◌, refl, sym, ap, subst, ◌∙◌, ℕ, zero, suc, ◌<◌, Bool, true, false, List, [], ◌∷◌, length, get_or, arith}
use Rattle.std.proofs.Math.IntN.{ℤ, pos, negsuc, ◌+ℤ◌, ◌*ℤ◌}
use Rattle.std.specs.Prelude.{Option, None, Some, MatchOption, int_lt, ◌≤ℤ◌, ◌<ℤ◌, if◌then◌else◌}
use Rattle.std.specs.List.{AllByRecursion}
use Rattle.std.proofs.lemmas.Int.{ints}
use Rattle.std.proofs.lemmas.List.{same_lists}
use Rattle.std.proofs.lemmas.List.Elements.{recursion_from_All, All-from_recursion}
use Rattle.bp_theory.specs.Sums.{dot}
use Rattle.bp_theory.specs.Program.{span_at, reach, activity, IsWithin, IsInside, Meets, MeetsRow}
use Rattle.bp_theory.specs.Decomposition.{HasVariablesBelow}
use Rattle.bp_theory.specs.Bound.{IsPoint}
use Rattle.bp_theory.specs.Trees.{IsSubspan, IsSubzone}
use Rattle.bp_theory.specs.declared.Span.{Span}
use Rattle.bp_theory.specs.declared.Sense.{Sense}
use Rattle.bp_theory.specs.declared.Sense.TheVariants.{Le, Ge, Eq, In}
use Rattle.bp_theory.specs.declared.Term.{Term}
use Rattle.bp_theory.specs.declared.Row.{Row}
use Rattle.bp_theory.proofs.ZipLaws.{AllZip-length}
use Rattle.bp_theory.proofs.Whole.{le-add, le_trans, le-mul_pos, le-mul_negsuc}
use Rattle.pricing_problem.specs.Form.{IsPriceable}
use Rattle.pricing_problem.specs.Priced.{IsCheapest, HasNoPoint}
use Rattle.knapsack_table.specs.declared.form.Form.{Form}
use Rattle.knapsack_table.specs.Taken.{dense}
use Rattle.knapsack_table.specs.Narrowed.{lower_end, upper_end, narrowed_span, narrowed}
use Rattle.knapsack_table.proofs.CoefLaws.{cost_size_is, dense_activity}
use Rattle.knapsack_table.proofs.PriceLaws.{size_by_inside, reach_grows}
use Rattle.knapsack_table.proofs.FormLaws.{first_is, terms_places, coefs_many, zone_many}

-- a span that has a number and lies inside another
abbrev pub IsPartOf : (part s : Span) → Type 0
IsPartOf part s = IsSubspan part s × (part.lo ≤ℤ part.hi)

whole_part : (s : Span) → s.lo ≤ℤ s.hi → IsPartOf s s
whole_part s p = (record { above = omega (arith, ints); below = omega (arith, ints) }, p)

lower_part : (s : Span) → s.lo ≤ℤ s.hi → IsPartOf (lower_end s) s
lower_part s p = (record { above = omega (arith, ints); below = p }, omega (arith, ints))

upper_part : (s : Span) → s.lo ≤ℤ s.hi → IsPartOf (upper_end s) s
upper_part s p = (record { above = p; below = omega (arith, ints) }, omega (arith, ints))

either_part : (b : Bool) (s t v : Span) → IsPartOf s v → IsPartOf t v → IsPartOf (if b then s else t) v
either_part true s t v p q = p
either_part false s t v p q = q

-- a narrowed span has a number and lies inside the given one
pub narrowed_part : (sense : Sense) (a : ℤ) (s : Span) (r : ℤ) → s.lo ≤ℤ s.hi → IsPartOf (narrowed_span sense a s r) s
narrowed_part Le (pos zero) s r p = whole_part s p
narrowed_part Le (pos (suc n)) s r p = either_part (int_lt r (pos 0)) s (lower_end s) s (whole_part s p) (lower_part s p)
narrowed_part Le (negsuc n) s r p = either_part (int_lt (pos 0) r) s (upper_end s) s (whole_part s p) (upper_part s p)
narrowed_part Ge (pos zero) s r p = whole_part s p
narrowed_part Ge (pos (suc n)) s r p = either_part (int_lt (pos 0) r) s (upper_end s) s (whole_part s p) (upper_part s p)
narrowed_part Ge (negsuc n) s r p = either_part (int_lt r (pos 0)) s (lower_end s) s (whole_part s p) (lower_part s p)
narrowed_part Eq a s r p = whole_part s p
narrowed_part In a s r p = whole_part s p

-- a sum that meets a row of a sense if another does
abbrev pub IsNoWorse : Sense → (sum other : ℤ) → Type 0
IsNoWorse Le x y = x ≤ℤ y
IsNoWorse Ge x y = y ≤ℤ x
IsNoWorse Eq x y = x ≡ y
IsNoWorse In x y = x ≡ y

same_no_worse : (sense : Sense) (x : ℤ) → IsNoWorse sense x x
same_no_worse Le x = omega (arith, ints)
same_no_worse Ge x = omega (arith, ints)
same_no_worse Eq x = refl
same_no_worse In x = refl

no_worse-add : (sense : Sense) (x y v w : ℤ) → IsNoWorse sense x y → IsNoWorse sense v w → IsNoWorse sense (x +ℤ v) (y +ℤ w)
no_worse-add Le x y v w h k = le-add x y v w h k
no_worse-add Ge x y v w h k = le-add y x w v h k
no_worse-add Eq x y v w h k = omega (arith, ints, h, k)
no_worse-add In x y v w h k = omega (arith, ints, h, k)

meets_no_worse : (sense : Sense) (low rhs x y : ℤ) → IsNoWorse sense x y → Meets sense low rhs y → Meets sense low rhs x
meets_no_worse Le low rhs x y h m = le_trans x y rhs h m
meets_no_worse Ge low rhs x y h m = le_trans low y x m h
meets_no_worse Eq low rhs x y h m = subst (Meets Eq low rhs) (sym h) m
meets_no_worse In low rhs x y h m = subst (Meets In low rhs) (sym h) m

-- a number of a part of a span in place of another: it is no worse for the row, and costs no more
pub record IsMoved (sense : Sense) (a : ℤ) (part : Span) (r y z : ℤ) : Type 0 where
  pub within : IsWithin part z
  pub weighs : IsNoWorse sense (a *ℤ z) (a *ℤ y)
  pub costs : (r *ℤ z) ≤ℤ (r *ℤ y)

-- a factor that isn't negative, and one that isn't positive
up : (q v w : ℤ) → (q <ℤ pos 0 → ⊥) → v ≤ℤ w → (q *ℤ v) ≤ℤ (q *ℤ w)
up (pos n) v w h l = le-mul_pos n v w l
up (negsuc n) v w h l = absurd (h (omega (arith, ints)))

down : (q v w : ℤ) → (pos 0 <ℤ q → ⊥) → v ≤ℤ w → (q *ℤ w) ≤ℤ (q *ℤ v)
down (pos zero) v w h l = none v w
  where
    none : (v w : ℤ) → (pos 0 *ℤ w) ≤ℤ (pos 0 *ℤ v)
    none v w = omega (arith, ints)
down (pos (suc n)) v w h l = absurd (h (omega (arith, ints)))
down (negsuc n) v w h l = le-mul_negsuc n v w l

not_less : (a b : ℤ) → int_lt a b ≡ false → a <ℤ b → ⊥
not_less a b e = grind (arith, ints)

stays : (sense : Sense) (a : ℤ) (s : Span) (r y : ℤ) → IsWithin s y → (z : ℤ) × IsMoved sense a s r y z
stays sense a s r y h = (y, record { within = h; weighs = same_no_worse sense (a *ℤ y); costs = itself (r *ℤ y) })
  where
    itself : (v : ℤ) → v ≤ℤ v
    itself v = omega (arith, ints)

at_itself : (v : ℤ) → IsWithin (record { lo = v; hi = v }) v
at_itself v = record { above = omega (arith, ints); below = omega (arith, ints) }

-- each number of a span can be moved into the narrowed span
pub moved_number : (sense : Sense) (a : ℤ) (s : Span) (r y : ℤ) → IsWithin s y → (z : ℤ) × IsMoved sense a (narrowed_span sense a s r) r y z
moved_number Le (pos zero) s r y h = stays Le (pos zero) s r y h
moved_number Le (pos (suc n)) s r y h = by (int_lt r (pos 0)) refl
  where
    by : (b : Bool) → int_lt r (pos 0) ≡ b → (z : ℤ) × IsMoved Le (pos (suc n)) (if b then s else lower_end s) r y z
    by true e = stays Le (pos (suc n)) s r y h
    by false e = (
      s.lo,
      record {
        within = at_itself s.lo;
        weighs = le-mul_pos (suc n) s.lo y h.above;
        costs = up r s.lo y (not_less r (pos 0) e) h.above;
      },
    )
moved_number Le (negsuc n) s r y h = by (int_lt (pos 0) r) refl
  where
    by : (b : Bool) → int_lt (pos 0) r ≡ b → (z : ℤ) × IsMoved Le (negsuc n) (if b then s else upper_end s) r y z
    by true e = stays Le (negsuc n) s r y h
    by false e = (
      s.hi,
      record {
        within = at_itself s.hi;
        weighs = le-mul_negsuc n y s.hi h.below;
        costs = down r y s.hi (not_less (pos 0) r e) h.below;
      },
    )
moved_number Ge (pos zero) s r y h = stays Ge (pos zero) s r y h
moved_number Ge (pos (suc n)) s r y h = by (int_lt (pos 0) r) refl
  where
    by : (b : Bool) → int_lt (pos 0) r ≡ b → (z : ℤ) × IsMoved Ge (pos (suc n)) (if b then s else upper_end s) r y z
    by true e = stays Ge (pos (suc n)) s r y h
    by false e = (
      s.hi,
      record {
        within = at_itself s.hi;
        weighs = le-mul_pos (suc n) y s.hi h.below;
        costs = down r y s.hi (not_less (pos 0) r e) h.below;
      },
    )
moved_number Ge (negsuc n) s r y h = by (int_lt r (pos 0)) refl
  where
    by : (b : Bool) → int_lt r (pos 0) ≡ b → (z : ℤ) × IsMoved Ge (negsuc n) (if b then s else lower_end s) r y z
    by true e = stays Ge (negsuc n) s r y h
    by false e = (
      s.lo,
      record {
        within = at_itself s.lo;
        weighs = le-mul_negsuc n s.lo y h.above;
        costs = up r s.lo y (not_less r (pos 0) e) h.above;
      },
    )
moved_number Eq a s r y h = stays Eq a s r y h
moved_number In a s r y h = stays In a s r y h

-- a point in a part of a zone in place of another: it is no worse for the row, and costs no more
pub record IsMovedPoint (sense : Sense) (as' : List ℤ) (part : List Span) (rs y z : List ℤ) : Type 0 where
  pub inside : IsInside part z
  pub weighs : IsNoWorse sense (dot as' z) (dot as' y)
  pub costs : dot rs z ≤ℤ dot rs y

-- each point of a zone can be moved into the narrowed zone
pub moved_point : (sense : Sense) (as' : List ℤ) (ss : List Span) (rs y : List ℤ) → length as' ≡ length ss → length rs ≡ length ss → IsInside ss y
    → (z : List ℤ) × IsMovedPoint sense as' (narrowed sense as' ss rs) rs y z
moved_point sense [] [] [] [] e f h = ([], record { inside = tt; weighs = same_no_worse sense (pos 0); costs = omega (arith, ints) })
moved_point sense [] [] (r ∷ rs) y e f h = absurd (omega arith)
moved_point sense [] [] [] (v ∷ y) e f h = absurd h
moved_point sense [] (s ∷ ss) rs y e f h = absurd (omega arith)
moved_point sense (a ∷ as') [] rs y e f h = absurd (omega arith)
moved_point sense (a ∷ as') (s ∷ ss) [] y e f h = absurd (omega arith)
moved_point sense (a ∷ as') (s ∷ ss) (r ∷ rs) [] e f h = absurd h
moved_point sense (a ∷ as') (s ∷ ss) (r ∷ rs) (v ∷ y) e f h =
    joined (moved_number sense a s r v h.0) (moved_point sense as' ss rs y (omega arith) (omega arith) h.1)
  where
    joined : (z : ℤ) × IsMoved sense a (narrowed_span sense a s r) r v z → (z : List ℤ) × IsMovedPoint sense as' (narrowed sense as' ss rs) rs y z
        → (z : List ℤ) × IsMovedPoint sense (a ∷ as') (narrowed_span sense a s r ∷ narrowed sense as' ss rs) (r ∷ rs) (v ∷ y) z
    joined first rest = (
      first.0 ∷ rest.0,
      record {
        inside = (first.1.within, rest.1.inside);
        weighs = no_worse-add sense (a *ℤ first.0) (a *ℤ v) (dot as' rest.0) (dot as' y) first.1.weighs rest.1.weighs;
        costs = le-add (r *ℤ first.0) (r *ℤ v) (dot rs rest.0) (dot rs y) first.1.costs rest.1.costs;
      },
    )

-- narrowed spans by their places
pub length-narrowed : (sense : Sense) (as' : List ℤ) (ss : List Span) (rs : List ℤ) → length as' ≡ length ss → length rs ≡ length ss
    → length (narrowed sense as' ss rs) ≡ length ss
length-narrowed sense [] [] rs e f = refl
length-narrowed sense [] (s ∷ ss) rs e f = absurd (omega arith)
length-narrowed sense (a ∷ as') [] rs e f = refl
length-narrowed sense (a ∷ as') (s ∷ ss) [] e f = absurd (omega arith)
length-narrowed sense (a ∷ as') (s ∷ ss) (r ∷ rs) e f = ap suc (length-narrowed sense as' ss rs (omega arith) (omega arith))

pub get_or-narrowed : (sense : Sense) (as' : List ℤ) (ss : List Span) (rs : List ℤ) (k : ℕ) (d : Span) → length as' ≡ length ss → length rs ≡ length ss → k < length ss
    → get_or (narrowed sense as' ss rs) k d ≡ narrowed_span sense (get_or as' k (pos 0)) (span_at ss k) (get_or rs k (pos 0))
get_or-narrowed sense as' [] rs k d e f l = absurd (omega arith)
get_or-narrowed sense [] (s ∷ ss) rs k d e f l = absurd (omega arith)
get_or-narrowed sense (a ∷ as') (s ∷ ss) [] k d e f l = absurd (omega arith)
get_or-narrowed sense (a ∷ as') (s ∷ ss) (r ∷ rs) zero d e f l = refl
get_or-narrowed sense (a ∷ as') (s ∷ ss) (r ∷ rs) (suc k) d e f l = get_or-narrowed sense as' ss rs k d (omega arith) (omega arith) (omega arith)

pub narrowed_from_places : (part : List Span) (sense : Sense) (as' : List ℤ) (ss : List Span) (rs : List ℤ) → length as' ≡ length ss → length rs ≡ length ss
    → length part ≡ length ss
    → ((k : ℕ) (d : Span) → k < length ss → get_or part k d ≡ narrowed_span sense (get_or as' k (pos 0)) (span_at ss k) (get_or rs k (pos 0)))
    → part ≡ narrowed sense as' ss rs
narrowed_from_places part sense as' ss rs e f g each =
    same_lists part (narrowed sense as' ss rs) (g ∙ sym (length-narrowed sense as' ss rs e f))
    (λ k d l. each k d (omega (arith, l, g)) ∙ sym (get_or-narrowed sense as' ss rs k d e f (omega (arith, l, g))))

-- a narrowed zone lies inside the given one, and each of its spans has a number
pub narrowed_inside : (sense : Sense) (as' : List ℤ) (ss : List Span) (rs : List ℤ) → length as' ≡ length ss → length rs ≡ length ss
    → AllByRecursion (λ (s : Span). s.lo ≤ℤ s.hi) ss → IsSubzone (narrowed sense as' ss rs) ss
narrowed_inside sense [] [] rs e f p = tt
narrowed_inside sense [] (s ∷ ss) rs e f p = absurd (omega arith)
narrowed_inside sense (a ∷ as') [] rs e f p = tt
narrowed_inside sense (a ∷ as') (s ∷ ss) [] e f p = absurd (omega arith)
narrowed_inside sense (a ∷ as') (s ∷ ss) (r ∷ rs) e f p =
    ((narrowed_part sense a s r p.0).0, narrowed_inside sense as' ss rs (omega arith) (omega arith) p.1)

pub narrowed_proper : (sense : Sense) (as' : List ℤ) (ss : List Span) (rs : List ℤ)
    → AllByRecursion (λ (s : Span). s.lo ≤ℤ s.hi) ss → AllByRecursion (λ (s : Span). s.lo ≤ℤ s.hi) (narrowed sense as' ss rs)
narrowed_proper sense [] ss rs p = tt
narrowed_proper sense (a ∷ as') [] rs p = tt
narrowed_proper sense (a ∷ as') (s ∷ ss) [] p = tt
narrowed_proper sense (a ∷ as') (s ∷ ss) (r ∷ rs) p = ((narrowed_part sense a s r p.0).1, narrowed_proper sense as' ss rs p.1)

-- a subzone's subzone, and its points
subzone_trans : (small mid large : List Span) → IsSubzone small mid → IsSubzone mid large → IsSubzone small large
subzone_trans [] [] [] h k = tt
subzone_trans [] [] (t ∷ ts) h k = absurd k
subzone_trans [] (m ∷ ms) ts h k = absurd h
subzone_trans (s ∷ ss) [] ts h k = absurd h
subzone_trans (s ∷ ss) (m ∷ ms) [] h k = absurd k
subzone_trans (s ∷ ss) (m ∷ ms) (t ∷ ts) h k = (
  record {
    above = le_trans t.lo m.lo s.lo k.0.above h.0.above;
    below = le_trans s.hi m.hi t.hi h.0.below k.0.below;
  },
  subzone_trans ss ms ts h.1 k.1,
)

inside_subzone : (small large : List Span) (y : List ℤ) → IsSubzone small large → IsInside small y → IsInside large y
inside_subzone [] [] [] h k = tt
inside_subzone [] [] (v ∷ y) h k = absurd k
inside_subzone [] (t ∷ ts) y h k = absurd h
inside_subzone (s ∷ ss) [] y h k = absurd h
inside_subzone (s ∷ ss) (t ∷ ts) [] h k = absurd k
inside_subzone (s ∷ ss) (t ∷ ts) (v ∷ y) h k = (
  record {
    above = le_trans t.lo s.lo v h.0.above k.0.above;
    below = le_trans v s.hi t.hi k.0.below h.0.below;
  },
  inside_subzone ss ts y h.1 k.1,
)

-- a narrowed zone can be priced
pub narrowed_priceable : (sense : Sense) (as' : List ℤ) (spans zone : List Span) (costs : List ℤ) → length as' ≡ length zone → IsPriceable spans zone costs
    → IsPriceable spans (narrowed sense as' zone costs) costs
narrowed_priceable sense as' spans zone costs e p = record {
  in_root = record {
    inside = subzone_trans (narrowed sense as' zone costs) zone spans inside p.in_root.inside;
    proper = All-from_recursion (λ (s : Span). s.lo ≤ℤ s.hi) (narrowed sense as' zone costs) part_proper;
  };
  each = p.each ∙ sym (length-narrowed sense as' zone costs e p.each);
  sizes = omega (
    arith,
    p.sizes,
    cost_size_is zone costs,
    cost_size_is (narrowed sense as' zone costs) costs,
    size_by_inside reach (narrowed sense as' zone costs) zone costs reach_grows part_proper inside,
  );
}
  where
    proper : AllByRecursion (λ (s : Span). s.lo ≤ℤ s.hi) zone
    proper = recursion_from_All (λ (s : Span). s.lo ≤ℤ s.hi) zone p.in_root.proper

    inside : IsSubzone (narrowed sense as' zone costs) zone
    inside = narrowed_inside sense as' zone costs e p.each proper

    part_proper : AllByRecursion (λ (s : Span). s.lo ≤ℤ s.hi) (narrowed sense as' zone costs)
    part_proper = narrowed_proper sense as' zone costs proper

-- a point of a row in a zone, and one in the narrowed zone that costs no more
pub moved_row_point : (row : Row) (as' : List ℤ) (zone : List Span) (costs y : List ℤ) → as' ≡ dense row.terms (length zone) → length as' ≡ length zone
    → length costs ≡ length zone → HasVariablesBelow (length zone) row.terms → IsPoint (row ∷ []) zone y
    → (z : List ℤ) × IsPoint (row ∷ []) (narrowed row.sense as' zone costs) z × (dot costs z ≤ℤ dot costs y)
moved_row_point row as' zone costs y is e f places p = by (moved_point row.sense as' zone costs y e f p.inside)
  where
    sum_is : (x : List ℤ) → length x ≡ length zone → activity row.terms x ≡ dot as' x
    sum_is x m =
        sym (dense_activity row.terms x (subst (λ n. HasVariablesBelow n row.terms) (sym m) places))
        ∙ ap (λ n. dot (dense row.terms n) x) m
        ∙ ap (λ (bs : List ℤ). dot bs x) (sym is)

    only : (k : ℕ) (d : Row) → k < length (row ∷ []) → get_or (row ∷ []) k d ≡ row
    only zero d l = refl
    only (suc k) d l = absurd (omega (arith, l))

    by : (z : List ℤ) × IsMovedPoint row.sense as' (narrowed row.sense as' zone costs) costs y z
        → (z : List ℤ) × IsPoint (row ∷ []) (narrowed row.sense as' zone costs) z × (dot costs z ≤ℤ dot costs y)
    by found =
        let many : length found.0 ≡ length zone =
        sym (AllZip-length IsWithin (narrowed row.sense as' zone costs) found.0 found.1.inside) ∙ length-narrowed row.sense as' zone costs e f in
        let before : Meets row.sense row.low row.rhs (dot as' y) =
        subst (Meets row.sense row.low row.rhs) (sum_is y (sym (AllZip-length IsWithin zone y p.inside))) (p.meets 0 row (omega arith)) in
        let meets : MeetsRow found.0 row =
        subst (Meets row.sense row.low row.rhs) (sym (sum_is found.0 many))
        (meets_no_worse row.sense row.low row.rhs (dot as' found.0) (dot as' y) found.1.weighs before) in (
          found.0,
          record {
            inside = found.1.inside;
            meets = λ k d l. subst (MeetsRow found.0) (sym (only k d l)) meets;
          },
          found.1.costs,
        )

-- what is known of a form's row
pub record IsRowOf (f : Form) (zone : List Span) (costs : List ℤ) (row : Row) : Type 0 where
  pub alone : f.rows.items ≡ row ∷ []
  pub coefs : f.coefs.items ≡ dense row.terms (length zone)
  pub many : length f.coefs.items ≡ length zone
  pub places : HasVariablesBelow (length zone) row.terms

pub row_of_form : (f : Form) (zone : List Span) (costs : List ℤ) (row : Row) → row ≡ get_or f.rows.items 0 row → IsPriceable f.spans.items zone costs
    → IsRowOf f zone costs row
row_of_form f zone costs row r p =
    let first = first_is f.rows.items row f.taken.one r in
    let many : length f.spans.items ≡ length zone = sym (zone_many f zone costs p) in
    record {
      alone = first.0;
      coefs = f.dense_coefs ∙ ap (λ (ts : List Term). dense ts (length f.spans.items)) first.1 ∙ ap (dense row.terms) many;
      many = coefs_many f zone costs p;
      places = subst (λ n. HasVariablesBelow n row.terms) many (subst (HasVariablesBelow (length f.spans.items)) first.1 (terms_places f));
    }

-- no point in the narrowed zone: none in the zone
pub none_in_zone : (f : Form) (zone part : List Span) (costs : List ℤ) (row : Row) → row ≡ get_or f.rows.items 0 row → IsPriceable f.spans.items zone costs
    → part ≡ narrowed row.sense f.coefs.items zone costs → HasNoPoint f.rows.items part → HasNoPoint f.rows.items zone
none_in_zone f zone part costs row r p is none =
    let known = row_of_form f zone costs row r p in
    subst (λ (rows : List Row). HasNoPoint rows zone) (sym known.alone)
    (λ y h.
    let found = moved_row_point row f.coefs.items zone costs y known.coefs known.many p.each known.places h in
    subst (λ (rows : List Row). HasNoPoint rows part) known.alone none found.0
    (subst (λ (ss : List Span). IsPoint (row ∷ []) ss found.0) (sym is) found.1))

-- a cheapest point of the narrowed zone is one of the zone
pub cheapest_in_zone : (f : Form) (zone part : List Span) (costs : List ℤ) (row : Row) → row ≡ get_or f.rows.items 0 row → IsPriceable f.spans.items zone costs
    → part ≡ narrowed row.sense f.coefs.items zone costs → (point : List ℤ) (v : ℤ)
    → IsCheapest f.rows.items part costs point v → IsCheapest f.rows.items zone costs point v
cheapest_in_zone f zone part costs row r p is point v cheapest =
    let known = row_of_form f zone costs row r p in
    record {
      is_point = record {
        inside = inside_subzone part zone point (sub known) cheapest.is_point.inside;
        meets = cheapest.is_point.meets;
      };
      reached = cheapest.reached;
      least = λ y h. lower known y (subst (λ (rows : List Row). IsPoint rows zone y) known.alone h);
    }
  where
    sub : IsRowOf f zone costs row → IsSubzone part zone
    sub known = subst (λ (ss : List Span). IsSubzone ss zone) (sym is)
        (narrowed_inside row.sense f.coefs.items zone costs known.many p.each (recursion_from_All (λ (s : Span). s.lo ≤ℤ s.hi) zone p.in_root.proper))

    lower : IsRowOf f zone costs row → (y : List ℤ) → IsPoint (row ∷ []) zone y → v ≤ℤ dot costs y
    lower known y h =
        let found = moved_row_point row f.coefs.items zone costs y known.coefs known.many p.each known.places h in
        le_trans v (dot costs found.0) (dot costs y)
        (cheapest.least found.0
        (subst (λ (rows : List Row). IsPoint rows part found.0) (sym known.alone)
        (subst (λ (ss : List Span). IsPoint (row ∷ []) ss found.0) (sym is) found.1)))
        found.2

-- so an answer in the narrowed zone is one in the zone
pub priced_in_zone : (f : Form) (zone part : List Span) (costs : List ℤ) (row : Row) → row ≡ get_or f.rows.items 0 row → IsPriceable f.spans.items zone costs
    → part ≡ narrowed row.sense f.coefs.items zone costs → (point : List ℤ) (answer : Option ℤ)
    → MatchOption answer (HasNoPoint f.rows.items part) (λ v. IsCheapest f.rows.items part costs point v)
    → MatchOption answer (HasNoPoint f.rows.items zone) (λ v. IsCheapest f.rows.items zone costs point v)
priced_in_zone f zone part costs row r p is point None none = none_in_zone f zone part costs row r p is none
priced_in_zone f zone part costs row r p is point (Some v) cheapest = cheapest_in_zone f zone part costs row r p is point v cheapest
