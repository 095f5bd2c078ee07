-- Laws of merging from behind: nodes with the same arcs, and the ways from what they become.
use Rattle.std.proofs.Common.{◌≡◌, refl, sym, ap, subst, ◌∙◌, ℕ, suc, ◌+◌, ◌-◌, ◌<◌, ◌≤◌, List, [], ◌∷◌, ◌++◌, length, get_or, set, take, drop, arith, inl, inr, ⊎_elim, drop-cons}
use Rattle.std.proofs.Math.IntN.{ℤ, pos}
use Rattle.std.proofs.Math.Seq.{get_or-append_seam}
use Rattle.std.specs.Prelude.{◌⊎◌, ◌^◌, All}
use Rattle.std.proofs.lemmas.Bool.{cases_lt, cases_eq}
use Rattle.std.proofs.Math.ListN.{drop_of_length-le}
use Rattle.std.proofs.lemmas.List.{get_or_append_left, get_or-take, get_or_past, get_or_default, get_or-set_same, get_or-set_other, drop-set, length-set}
use Rattle.bp_theory.specs.Program.{IsWithin}
use Rattle.bp_theory.specs.declared.Span.{Span}
use Rattle.layer_graph.specs.Graphs.{arc_at, Leads, IsWay, IsArcSafe, HasSameWays}
use Rattle.state_graph.specs.Merges.{gone, node_at, fan_at, IsAlike, AreParted, IsLike, IsSettled, IsNowArc, HasCopy, IsCopyOf, IsCopied, HasNow, ComesFrom, IsMergedTo, IsMerged, AreSame, IsRooted, AreFew}
use Rattle.layer_graph.specs.declared.graph.Arc.{Arc}
use Rattle.state_graph.specs.declared.fans.Fan.{Fan}
use Rattle.state_graph.specs.Expansions.{IsRight}
use Rattle.state_graph.specs.declared.layers.Layer.{Layer}
use Rattle.state_graph.proofs.ColumnLaws.{longer}

abbrev none : Arc
none = record { from = 0; to = 0; label = record { lo = pos 0; hi = pos 0 } }

-- an element of a list with one more at the end
kept_arc : (arcs : List Arc) (arc : Arc) (k : ℕ) → k < length arcs → arc_at (arcs ++ (arc ∷ [])) k ≡ arc_at arcs k
kept_arc arcs arc k l = get_or_append_left arcs (arc ∷ []) none k l

last_arc : (arcs : List Arc) (arc : Arc) (k : ℕ) → k ≡ length arcs → arc_at (arcs ++ (arc ∷ [])) k ≡ arc
last_arc arcs arc k at = ap (λ n. arc_at (arcs ++ (arc ∷ [])) n) at ∙ get_or-append_seam arcs arc [] none

kept_node : (nodes : List ℕ) (node i : ℕ) → i < length nodes → node_at (nodes ++ (node ∷ [])) i ≡ node_at nodes i
kept_node nodes node i l = get_or_append_left nodes (node ∷ []) gone i l

last_node : (nodes : List ℕ) (node i : ℕ) → i ≡ length nodes → node_at (nodes ++ (node ∷ [])) i ≡ node
last_node nodes node i at = ap (λ n. node_at (nodes ++ (node ∷ [])) n) at ∙ get_or-append_seam nodes node [] gone

-- what holds of fans and of one more holds of all
each_fan : (fans : List Fan) (f : Fan) (P : ℕ → Fan → Type 0) (m : ℕ) → m < length (fans ++ (f ∷ []))
    → (m < length fans → P m (fan_at fans m)) → P (length fans) f → P m (fan_at (fans ++ (f ∷ [])) m)
each_fan fans f P m l old new = ⊎_elim
    (λ less. subst (P m) (sym (get_or_append_left fans (f ∷ []) (record { first = 0; end = 0 }) m less)) (old less))
    (λ above. let at : m ≡ length fans = omega (arith, l, above, longer fans f) in
    subst (λ n. P n (fan_at (fans ++ (f ∷ [])) n)) (sym at)
    (subst (P (length fans)) (sym (get_or-append_seam fans f [] (record { first = 0; end = 0 }))) new))
    (cases_lt m (length fans))

-- fans stay parted where the arcs before the start stay
parted_on : (fans : List Fan) (start : ℕ) (arcs now : List Arc) → AreParted fans start arcs → start ≤ length now
    → ((k : ℕ) → k < start → arc_at now k ≡ arc_at arcs k) → ((k : ℕ) → start ≤ k → k < length now → (arc_at now k).from ≡ length fans) → AreParted fans start now
parted_on fans start arcs now p within same unsettled = record {
  within = within;
  rises = p.rises;
  ends = p.ends;
  after = λ m k lm lk e. p.after m k lm lk (ap (λ (a : Arc). a.from) (sym (same k lk)) ∙ e);
  before = λ m k lm lk e. p.before m k lm lk (ap (λ (a : Arc). a.from) (sym (same k lk)) ∙ e);
  from = λ m k lm a b. ap (λ (x : Arc). x.from) (same k (omega (arith, b, p.ends m lm))) ∙ p.from m k lm a b;
  below = λ k lk. subst (λ (a : Arc). a.from < length fans) (sym (same k lk)) (p.below k lk);
  unsettled = unsettled;
}

-- no fans yet
pub parted_none : AreParted [] 0 []
parted_none = record {
  within = omega arith;
  rises = λ m l. absurd (omega arith);
  ends = λ m l. absurd (omega arith);
  after = λ m k lm lk e. absurd (omega arith);
  before = λ m k lm lk e. absurd (omega arith);
  from = λ m k lm a b. absurd (omega arith);
  below = λ k l. absurd (omega arith);
  unsettled = λ k a b. absurd (omega arith);
}

-- one arc more
pub parted_more : (fans : List Fan) (start : ℕ) (arcs : List Arc) (arc : Arc) → arc.from ≡ length fans → AreParted fans start arcs → AreParted fans start (arcs ++ (arc ∷ []))
parted_more fans start arcs arc is p =
    parted_on fans start arcs (arcs ++ (arc ∷ [])) p (omega (arith, p.within, longer arcs arc))
    (λ k l. kept_arc arcs arc k (omega (arith, l, p.within)))
    (λ k a b. ⊎_elim
    (λ less. ap (λ (x : Arc). x.from) (kept_arc arcs arc k less) ∙ p.unsettled k a less)
    (λ above. ap (λ (x : Arc). x.from) (last_arc arcs arc k (omega (arith, b, above, longer arcs arc))) ∙ is)
    (cases_lt k (length arcs)))

-- the arcs before the start alone
pub parted_back : (fans : List Fan) (start : ℕ) (arcs now : List Arc) → now ≡ take start arcs → length now ≡ start → AreParted fans start arcs → AreParted fans start now
parted_back fans start arcs now is len p =
    parted_on fans start arcs now p (omega (arith, len))
    (λ k l. ap (λ (xs : List Arc). arc_at xs k) is ∙ get_or-take start arcs k none l)
    (λ k a b. absurd (omega (arith, a, b, len)))

-- one fan more
pub parted_closed : (fans : List Fan) (start : ℕ) (arcs : List Arc) (f : Fan) → f.first ≡ start → f.end ≡ length arcs → AreParted fans start arcs
    → AreParted (fans ++ (f ∷ [])) (length arcs) arcs
parted_closed fans start arcs f first end p = record {
  within = omega arith;
  rises = λ m l. each_fan fans f (λ n (g : Fan). g.first ≤ g.end) m l (λ less. p.rises m less) (omega (arith, first, end, p.within));
  ends = λ m l. each_fan fans f (λ n (g : Fan). g.end ≤ length arcs) m l (λ less. omega (arith, p.ends m less, p.within)) (omega (arith, end));
  after = λ m k l lk e. each_fan fans f (λ n (g : Fan). (arc_at arcs k).from ≡ n → g.first ≤ k) m l
      (λ less e. ⊎_elim (λ low. p.after m k less low e) (λ high. absurd (omega (arith, less, e, p.unsettled k high lk))) (cases_lt k start))
      (λ e. ⊎_elim (λ low. absurd (omega (arith, e, p.below k low))) (λ high. omega (arith, high, first)) (cases_lt k start)) e;
  before = λ m k l lk e. each_fan fans f (λ n (g : Fan). (arc_at arcs k).from ≡ n → k < g.end) m l
      (λ less e. ⊎_elim (λ low. p.before m k less low e) (λ high. absurd (omega (arith, less, e, p.unsettled k high lk))) (cases_lt k start))
      (λ e. omega (arith, lk, end)) e;
  from = λ m k l a b. each_fan fans f (λ n (g : Fan). g.first ≤ k → k < g.end → (arc_at arcs k).from ≡ n) m l
      (λ less a b. p.from m k less a b)
      (λ a b. p.unsettled k (omega (arith, a, first)) (omega (arith, b, end))) a b;
  below = λ k lk. ⊎_elim (λ low. omega (arith, p.below k low, longer fans f)) (λ high. omega (arith, p.unsettled k high lk, longer fans f)) (cases_lt k start);
  unsettled = λ k a b. absurd (omega (arith, a, b));
}

-- a node without arcs has become none
pub settled_gone : (fans : List Fan) (start : ℕ) (arcs : List Arc) → AreParted fans start arcs → length arcs ≡ start → length fans < 2 ^ 20
    → IsSettled arcs start (length fans) arcs gone
settled_gone fans start arcs p all few = record {
  within = p.within;
  fewer = omega arith;
  kept = λ k l. refl;
  fresh = λ k a b. absurd (omega (arith, a, b, all));
  onto = λ k a b. absurd (omega (arith, a, b, all));
  back = λ k l e. absurd (omega (arith, e, few, p.below k (omega (arith, l, all))));
}

-- a node with the arcs of another has become this
pub settled_found : (fans : List Fan) (start : ℕ) (arcs now : List Arc) (m : ℕ) → AreParted fans start arcs → m < length fans → IsLike arcs (fan_at fans m) start
    → now ≡ take start arcs → length now ≡ start → IsSettled arcs start (length fans) now m
settled_found fans start arcs now m p there like is len = record {
  within = omega (arith, len);
  fewer = omega (arith, len, p.within);
  kept = same;
  fresh = λ k a b. absurd (omega (arith, a, b, len));
  onto = λ k a b.
      let less : (fan_at fans m).first + (k - start) < (fan_at fans m).end = omega (arith, like.many, a, b) in
      let low : (fan_at fans m).first + (k - start) < start = omega (arith, less, p.ends m there) in
      record {
        place = (fan_at fans m).first + (k - start);
        there = omega (arith, low, len);
        from = ap (λ (x : Arc). x.from) (same ((fan_at fans m).first + (k - start)) low) ∙ p.from m ((fan_at fans m).first + (k - start)) there (omega arith) less;
        alike = subst (λ (x : Arc). IsAlike (arc_at arcs k) x) (sym (same ((fan_at fans m).first + (k - start)) low))
            (subst (λ n. IsAlike (arc_at arcs n) (arc_at arcs ((fan_at fans m).first + (k - start)))) (on start k a) (like.each (k - start) less));
      };
  back = λ k l e.
      let low : k < start = omega (arith, l, len) in
      let was : (arc_at arcs k).from ≡ m = ap (λ (x : Arc). x.from) (sym (same k low)) ∙ e in
      let after : (fan_at fans m).first ≤ k = p.after m k there low was in
      let less : (fan_at fans m).first + (k - (fan_at fans m).first) < (fan_at fans m).end = omega (arith, after, p.before m k there low was) in
      record {
        place = start + (k - (fan_at fans m).first);
        after = omega arith;
        there = omega (arith, less, like.many);
        alike = subst (λ (x : Arc). IsAlike (arc_at arcs (start + (k - (fan_at fans m).first))) x) (sym (same k low))
            (subst (λ n. IsAlike (arc_at arcs (start + (k - (fan_at fans m).first))) (arc_at arcs n)) (on (fan_at fans m).first k after) (like.each (k - (fan_at fans m).first) less));
      };
}
  where
    same : (k : ℕ) → k < start → arc_at now k ≡ arc_at arcs k
    same k l = ap (λ (xs : List Arc). arc_at xs k) is ∙ get_or-take start arcs k none l

    on : (a b : ℕ) → a ≤ b → a + (b - a) ≡ b
    on a b l = omega (arith, l)

-- a node with other arcs is a new one
pub settled_new : (fans : List Fan) (start : ℕ) (arcs : List Arc) → AreParted fans start arcs → IsSettled arcs start (length fans) arcs (length fans)
settled_new fans start arcs p = record {
  within = p.within;
  fewer = omega arith;
  kept = λ k l. refl;
  fresh = p.unsettled;
  onto = λ k a b. record { place = k; there = b; from = p.unsettled k a b; alike = record { label = refl; to = refl } };
  back = λ k l e. ⊎_elim
      (λ low. absurd (omega (arith, e, p.below k low)))
      (λ high. record { place = k; after = high; there = l; alike = record { label = refl; to = refl } })
      (cases_lt k start);
}

-- no arcs copied yet
pub copied_none : (arcs : List Arc) (nodes : List ℕ) (from first : ℕ) (before : List Arc) → first ≤ length arcs → IsCopied arcs nodes from first first before before
copied_none arcs nodes from first before within = record {
  rises = omega arith;
  within = within;
  start = λ j a b. absurd (omega (arith, a, b));
  longer = omega arith;
  few = omega arith;
  kept = λ k l. refl;
  onto = λ j a b alive. absurd (omega (arith, a, b));
  back = λ k a b. absurd (omega (arith, a, b));
}

-- an arc that leads to a node without a way
copied_gone : (arcs : List Arc) (nodes : List ℕ) (from first end : ℕ) (before now : List Arc) → end < length arcs → (arc_at arcs end).from ≡ from
    → node_at nodes (arc_at arcs end).to ≡ gone → IsCopied arcs nodes from first end before now → IsCopied arcs nodes from first (end + 1) before now
copied_gone arcs nodes from first end before now there is lost c = record {
  rises = omega (arith, c.rises);
  within = omega (arith, there);
  start = λ j a b. ⊎_elim (λ less. c.start j a less)
      (λ above. subst (λ n. (arc_at arcs n).from ≡ from) (at end j b above) is) (cases_lt j end);
  longer = c.longer;
  few = omega (arith, c.few);
  kept = c.kept;
  onto = λ j a b alive. ⊎_elim (λ less. c.onto j a less alive)
      (λ above. absurd (alive (subst (λ n. node_at nodes (arc_at arcs n).to ≡ gone) (at end j b above) lost))) (cases_lt j end);
  back = λ k a b. let was = c.back k a b in record { place = was.place; after = was.after; there = omega (arith, was.there); copy = was.copy };
}
  where
    at : (end j : ℕ) → j < end + 1 → end ≤ j → end ≡ j
    at end j b above = omega (arith, b, above)

-- an arc that is copied
copied_arc : (arcs : List Arc) (nodes : List ℕ) (from first end : ℕ) (before mid : List Arc) (arc : Arc) → end < length arcs → (arc_at arcs end).from ≡ from
    → IsNowArc nodes (arc_at arcs end) arc → IsCopied arcs nodes from first end before mid → IsCopied arcs nodes from first (end + 1) before (mid ++ (arc ∷ []))
copied_arc arcs nodes from first end before mid arc there is copy c = record {
  rises = omega (arith, c.rises);
  within = omega (arith, there);
  start = λ j a b. ⊎_elim (λ less. c.start j a less)
      (λ above. subst (λ n. (arc_at arcs n).from ≡ from) (at end j b above) is) (cases_lt j end);
  longer = omega (arith, c.longer, longer mid arc);
  few = omega (arith, c.few, longer mid arc);
  kept = λ k l. kept_arc mid arc k (omega (arith, l, c.longer)) ∙ c.kept k l;
  onto = λ j a b alive. ⊎_elim
      (λ less. let was = c.onto j a less alive in record {
        place = was.place;
        after = was.after;
        there = omega (arith, was.there, longer mid arc);
        copy = subst (λ (x : Arc). IsNowArc nodes (arc_at arcs j) x) (sym (kept_arc mid arc was.place was.there)) was.copy;
      })
      (λ above. subst (λ n. HasCopy nodes (length before) (mid ++ (arc ∷ [])) (arc_at arcs n)) (at end j b above) (record {
        place = length mid;
        after = c.longer;
        there = omega (arith, longer mid arc);
        copy = subst (λ (x : Arc). IsNowArc nodes (arc_at arcs end) x) (sym (last_arc mid arc (length mid) refl)) copy;
      }))
      (cases_lt j end);
  back = λ k a b. ⊎_elim
      (λ less. subst (λ (x : Arc). IsCopyOf arcs nodes first (end + 1) x) (sym (kept_arc mid arc k less)) (later (c.back k a less)))
      (λ above. subst (λ (x : Arc). IsCopyOf arcs nodes first (end + 1) x) (sym (last_arc mid arc k (omega (arith, b, above, longer mid arc))))
      (record { place = end; after = c.rises; there = omega arith; copy = copy }))
      (cases_lt k (length mid));
}
  where
    at : (end j : ℕ) → j < end + 1 → end ≤ j → end ≡ j
    at end j b above = omega (arith, b, above)

    later : {x : Arc} → IsCopyOf arcs nodes first end x → IsCopyOf arcs nodes first (end + 1) x
    later was = record { place = was.place; after = was.after; there = omega (arith, was.there); copy = was.copy }

-- one arc more
pub copied_more : (arcs : List Arc) (nodes : List ℕ) (from first end count : ℕ) (before mid now : List Arc) → end < length arcs → (arc_at arcs end).from ≡ from
    → ((node_at nodes (arc_at arcs end).to ≡ gone) × (now ≡ mid))
    ⊎ (now ≡ mid ++ (record { from = count; to = node_at nodes (arc_at arcs end).to; label = (arc_at arcs end).label } ∷ []))
    → IsCopied arcs nodes from first end before mid → IsCopied arcs nodes from first (end + 1) before now
copied_more arcs nodes from first end count before mid now there is (inl (lost, same)) c =
    subst (λ (xs : List Arc). IsCopied arcs nodes from first (end + 1) before xs) (sym same) (copied_gone arcs nodes from first end before mid there is lost c)
copied_more arcs nodes from first end count before mid now there is (inr more) c =
    subst (λ (xs : List Arc). IsCopied arcs nodes from first (end + 1) before xs) (sym more)
    (copied_arc arcs nodes from first end before mid (record { from = count; to = node_at nodes (arc_at arcs end).to; label = (arc_at arcs end).label })
    there is (record { label = refl; to = refl }) c)

-- nothing merged yet
pub merged_none : (arcs : List Arc) (nodes : List ℕ) → IsMergedTo arcs nodes 0 0 0 [] []
merged_none arcs nodes = record {
  within = omega arith;
  many = refl;
  few = omega arith;
  bounded = omega arith;
  passed = λ j l. absurd (omega (arith, l));
  onto = λ j l alive. absurd (omega (arith, l));
  back = λ a k la lk e. absurd (omega (arith, la));
  below = λ a l. absurd (omega (arith, l));
  from = λ k l. absurd (omega arith);
}

-- the same of lists without elements
pub merged_first : (arcs : List Arc) (nodes : List ℕ) (fans : List Fan) (merged : List Arc) (now : List ℕ) → fans ≡ [] → merged ≡ [] → now ≡ []
    → IsMergedTo arcs nodes 0 0 (length fans) merged now
merged_first arcs nodes fans merged now e f g =
    subst (λ (xs : List Fan). IsMergedTo arcs nodes 0 0 (length xs) merged now) (sym e)
    (subst (λ (xs : List Arc). IsMergedTo arcs nodes 0 0 0 xs now) (sym f)
    (subst (λ (xs : List ℕ). IsMergedTo arcs nodes 0 0 0 [] xs) (sym g) (merged_none arcs nodes)))

-- one node more
pub merged_more : (arcs : List Arc) (nodes : List ℕ) (place end i count more : ℕ) (merged mid after : List Arc) (now : List ℕ) (node : ℕ)
    → IsCopied arcs nodes i place end merged mid → IsSettled mid (length merged) count after node → (node ≡ gone) ⊎ (node < more)
    → count ≤ more → more ≤ count + 1 → count < 2 ^ 20 → ((k : ℕ) → k < length after → (arc_at after k).from < more)
    → IsMergedTo arcs nodes place i count merged now → IsMergedTo arcs nodes end (i + 1) more after (now ++ (node ∷ []))
merged_more arcs nodes place end i count more merged mid after now node c s is least most few bounded m = record {
  within = c.within;
  many = omega (arith, longer now node, m.many);
  few = omega (arith, s.fewer, c.few, m.few);
  bounded = omega (arith, m.bounded, most);
  passed = λ j l. ⊎_elim (λ less. omega (arith, m.passed j less)) (λ above. omega (arith, c.start j above l)) (cases_lt j place);
  onto = λ j l alive. ⊎_elim (λ less. onto_old j less alive) (λ above. onto_new j above l alive) (cases_lt j place);
  back = λ a k la lk e. ⊎_elim (λ less. back_old a k less lk e) (λ above. back_new a k la above lk e) (cases_lt a i);
  below = λ a l. ⊎_elim
      (λ less. let was = kept_node now node a (omega (arith, less, m.many)) in ⊎_elim
      (λ lost. inl (was ∙ lost))
      (λ b. inr (omega (arith, was, b.0, least), omega (arith, was, b.1)))
      (m.below a less))
      (λ above. let last = last_node now node a (omega (arith, l, above, m.many)) in ⊎_elim
      (λ lost. inl (last ∙ lost))
      (λ b. inr (omega (arith, last, b), omega (arith, last, b, most, m.bounded, above)))
      is)
      (cases_lt a i);
  from = bounded;
}
  where
    same : (k : ℕ) → k < length merged → arc_at after k ≡ arc_at merged k
    same k l = s.kept k l ∙ c.kept k l

    onto_old : (j : ℕ) → j < place → (node_at nodes (arc_at arcs j).to ≡ gone → ⊥) → HasNow nodes (now ++ (node ∷ [])) after (arc_at arcs j)
    onto_old j l alive = let was = m.onto j l alive in record {
      place = was.place;
      there = omega (arith, was.there, s.within);
      from = ap (λ (x : Arc). x.from) (same was.place was.there) ∙ was.from ∙ sym (kept_node now node (arc_at arcs j).from (omega (arith, m.passed j l, m.many)));
      copy = subst (λ (x : Arc). IsNowArc nodes (arc_at arcs j) x) (sym (same was.place was.there)) was.copy;
    }

    onto_new : (j : ℕ) → place ≤ j → j < end → (node_at nodes (arc_at arcs j).to ≡ gone → ⊥) → HasNow nodes (now ++ (node ∷ [])) after (arc_at arcs j)
    onto_new j a l alive =
        let copy = c.onto j a l alive in
        let has = s.onto copy.place copy.after copy.there in record {
          place = has.place;
          there = has.there;
          from = has.from ∙ sym (last_node now node (arc_at arcs j).from (omega (arith, c.start j a l, m.many)));
          copy = record { label = has.alike.label ∙ copy.copy.label; to = has.alike.to ∙ copy.copy.to };
        }

    not_old : (a : ℕ) → (node_at now a ≡ gone) ⊎ ((node_at now a < count) × (node_at now a ≤ a)) → node_at now a ≡ count → ⊥
    not_old a (inl lost) e = omega (arith, lost, e, few)
    not_old a (inr b) e = omega (arith, b.0, e)

    back_old : (a k : ℕ) → a < i → k < length after → (arc_at after k).from ≡ node_at (now ++ (node ∷ [])) a → ComesFrom arcs nodes a (arc_at after k)
    back_old a k la lk e =
        let was : (arc_at after k).from ≡ node_at now a = e ∙ kept_node now node a (omega (arith, la, m.many)) in
        ⊎_elim
        (λ low. subst (λ (x : Arc). ComesFrom arcs nodes a x) (sym (same k low)) (m.back a k la low (ap (λ (x : Arc). x.from) (sym (same k low)) ∙ was)))
        (λ high. absurd (not_old a (m.below a la) (sym was ∙ s.fresh k high lk)))
        (cases_lt k (length merged))

    back_new : (a k : ℕ) → a < i + 1 → i ≤ a → k < length after → (arc_at after k).from ≡ node_at (now ++ (node ∷ [])) a → ComesFrom arcs nodes a (arc_at after k)
    back_new a k la above lk e =
        let at : a ≡ i = omega (arith, la, above) in
        let stood = s.back k lk (e ∙ last_node now node a (omega (arith, at, m.many))) in
        let copy = c.back stood.place stood.after stood.there in record {
          place = copy.place;
          there = omega (arith, copy.there, c.within);
          from = c.start copy.place copy.after copy.there ∙ sym at;
          copy = record { label = stood.alike.label ∙ copy.copy.label; to = stood.alike.to ∙ copy.copy.to };
        }

-- all nodes
pub merged_all : (arcs : List Arc) (nodes : List ℕ) (place i count : ℕ) (merged : List Arc) (now : List ℕ) → length arcs ≤ place → count ≤ 2 ^ 20
    → IsMergedTo arcs nodes place i count merged now → IsMerged arcs nodes merged now
merged_all arcs nodes place i count merged now all few m = record {
  few = omega (arith, m.few, m.within);
  onto = λ j l alive. m.onto j (omega (arith, l, all)) alive;
  back = λ a k l e. ⊎_elim
      (λ less. m.back a k less l e)
      (λ above. absurd (omega (arith, e, past a above, m.from k l, few)))
      (cases_lt a i);
  live = λ k l. omega (arith, m.from k l, few);
  root = ⊎_elim
      (λ less. ⊎_elim (λ lost. inl lost) (λ b. inr (omega (arith, b.1))) (m.below 0 less))
      (λ above. inl (past 0 above))
      (cases_lt 0 i);
}
  where
    past : (a : ℕ) → i ≤ a → node_at now a ≡ gone
    past a above = get_or_past now a gone (omega (arith, above, m.many))

-- behind the last layer
pub same_none : (nodes : List ℕ) (wide : ℕ) → ((i : ℕ) → i < wide → node_at nodes i ≡ 0) → AreSame [] [] nodes wide
same_none nodes wide zeros = record {
  alive = λ i ys l way e. omega (arith, zeros i l, e);
  onto = onto;
  back = back;
}
  where
    onto : (i : ℕ) (ys : List ℤ) → i < wide → IsWay [] i ys → IsWay [] (node_at nodes i) ys
    onto i [] l way = tt
    onto i (y ∷ ys) l way = absurd way

    back : (i : ℕ) (ys : List ℤ) → i < wide → IsWay [] (node_at nodes i) ys → IsWay [] i ys
    back i [] l way = tt
    back i (y ∷ ys) l way = absurd way

-- a layer in front
pub same_more : (arcs merged : List Arc) (steps after : List (List Arc)) (nodes now : List ℕ) (wide : ℕ)
    → All (IsArcSafe wide) arcs → IsMerged arcs nodes merged now → AreSame steps after nodes wide → AreSame (arcs ∷ steps) (merged ∷ after) now wide
same_more arcs merged steps after nodes now wide safe m s = record { alive = alive; onto = onto; back = back }
  where
    to : (j : ℕ) → j < length arcs → (arc_at arcs j).to < wide
    to j l = (safe j none l).to

    has : (i j : ℕ) (y : ℤ) (ys : List ℤ) → Leads arcs i y j → IsWay steps (arc_at arcs j).to ys → HasNow nodes now merged (arc_at arcs j)
    has i j y ys leads way = m.onto j leads.there (s.alive (arc_at arcs j).to ys (to j leads.there) way)

    alive : (i : ℕ) (ys : List ℤ) → i < wide → IsWay (arcs ∷ steps) i ys → node_at now i ≡ gone → ⊥
    alive i [] l way e = absurd way
    alive i (y ∷ ys) l (j, leads, way) e =
        let h = has i j y ys leads way in
        let from : (arc_at merged h.place).from ≡ node_at now i = h.from ∙ ap (λ n. node_at now n) leads.from in
        omega (arith, from, e, m.live h.place h.there)

    onto : (i : ℕ) (ys : List ℤ) → i < wide → IsWay (arcs ∷ steps) i ys → IsWay (merged ∷ after) (node_at now i) ys
    onto i [] l way = absurd way
    onto i (y ∷ ys) l (j, leads, way) =
        let h = has i j y ys leads way in (
          h.place,
          record {
            there = h.there;
            from = h.from ∙ ap (λ n. node_at now n) leads.from;
            within = subst (λ (x : Span). IsWithin x y) (sym h.copy.label) leads.within;
          },
          subst (λ n. IsWay after n ys) (sym h.copy.to) (s.onto (arc_at arcs j).to ys (to j leads.there) way),
        )

    back : (i : ℕ) (ys : List ℤ) → i < wide → IsWay (merged ∷ after) (node_at now i) ys → IsWay (arcs ∷ steps) i ys
    back i [] l way = absurd way
    back i (y ∷ ys) l (k, leads, way) =
        let f = m.back i k leads.there leads.from in (
          f.place,
          record {
            there = f.there;
            from = f.from;
            within = subst (λ (x : Span). IsWithin x y) f.copy.label leads.within;
          },
          s.back (arc_at arcs f.place).to ys (to f.place f.there) (subst (λ n. IsWay after n ys) f.copy.to way),
        )

-- a loop's step over the layers
layer_more : (initial steps : List (List Arc)) (j : ℕ) (arcs merged : List Arc) (nodes now : List ℕ) (wide : ℕ)
    → j < length steps → length initial ≡ length steps → arcs ≡ get_or initial j [] → All (IsArcSafe wide) arcs → IsMerged arcs nodes merged now
    → AreSame (drop (j + 1) initial) (drop (j + 1) steps) nodes wide → AreSame (drop j initial) (drop j (set steps j merged)) now wide
layer_more initial steps j arcs merged nodes now wide there many is safe m same =
    subst (λ (xs : List (List Arc)). AreSame xs (drop j (set steps j merged)) now wide) (sym front)
    (subst (λ (xs : List (List Arc)). AreSame (arcs ∷ drop (j + 1) initial) xs now wide) (sym (drop-set steps j merged there))
    (same_more arcs merged (drop (j + 1) initial) (drop (j + 1) steps) nodes now wide safe m same))
  where
    one : suc j ≡ j + 1
    one = omega arith

    front : drop j initial ≡ arcs ∷ drop (j + 1) initial
    front = drop-cons initial j [] (omega (arith, there, many)) ∙ ap (λ (x : List Arc). x ∷ drop (suc j) initial) (sym is) ∙ ap (λ n. arcs ∷ drop n initial) one

-- what a loop over the layers, from the last to the first, keeps before the k-th
pub record IsMergedFrom (initial steps : List (List Arc)) (k : ℕ) (nodes : List ℕ) (wide : ℕ) : Type 0 where
  pub many : length steps ≡ length initial
  pub before : (i : ℕ) → i < k → get_or steps i [] ≡ get_or initial i []
  pub few : (i : ℕ) → i < length steps → length (get_or steps i []) < 2 ^ 32
  pub root : (node_at nodes 0 ≡ gone) ⊎ (node_at nodes 0 ≡ 0)
  pub same : AreSame (drop k initial) (drop k steps) nodes wide

pub layers_more : (initial steps : List (List Arc)) (k : ℕ) (arcs merged : List Arc) (nodes now : List ℕ) (wide : ℕ)
    → 0 < k → k ≤ length steps → arcs ≡ get_or steps (k - 1) [] → All (IsArcSafe wide) arcs → IsMerged arcs nodes merged now
    → IsMergedFrom initial steps k nodes wide → IsMergedFrom initial (set steps (k - 1) merged) (k - 1) now wide
layers_more initial steps k arcs merged nodes now wide some all is safe m f = record {
  many = length-set steps (k - 1) merged ∙ f.many;
  before = λ i l. get_or-set_other steps (k - 1) i merged [] (λ e. omega (arith, l, e)) ∙ f.before i (omega (arith, l));
  few = λ i l. ⊎_elim
      (λ same. subst (λ n. length (get_or (set steps (k - 1) merged) n []) < 2 ^ 32) (sym same)
      (subst (λ (x : List Arc). length x < 2 ^ 32) (sym (get_or-set_same steps (k - 1) merged [] there))
      (omega (arith, m.few, subst (λ (x : List Arc). length x < 2 ^ 32) (sym is) (f.few (k - 1) there)))))
      (λ other. subst (λ (x : List Arc). length x < 2 ^ 32) (sym (get_or-set_other steps (k - 1) i merged [] other))
      (f.few i (omega (arith, l, length-set steps (k - 1) merged))))
      (cases_eq i (k - 1));
  root = m.root;
  same = layer_more initial steps (k - 1) arcs merged nodes now wide there (sym f.many) (is ∙ f.before (k - 1) (omega (arith, some))) safe m
      (subst (λ n. AreSame (drop n initial) (drop n steps) nodes wide) back f.same);
}
  where
    there : k - 1 < length steps
    there = omega (arith, some, all)

    back : k ≡ k - 1 + 1
    back = omega (arith, some)

pub layers_none : (steps : List (List Arc)) (k : ℕ) (nodes : List ℕ) (wide : ℕ) → length steps ≤ k → 0 < wide → ((i : ℕ) → i < length steps → length (get_or steps i []) < 2 ^ 32)
    → ((i : ℕ) → i < wide → node_at nodes i ≡ 0) → IsMergedFrom steps steps k nodes wide
layers_none steps k nodes wide all rooted few zeros = record {
  many = refl;
  before = λ i l. refl;
  few = few;
  root = inr (zeros 0 rooted);
  same = subst (λ (xs : List (List Arc)). AreSame xs xs nodes wide) (sym (drop_of_length-le steps all)) (same_none nodes wide zeros);
}

-- the root after all layers
pub layers_rooted : (initial steps : List (List Arc)) (k : ℕ) (nodes : List ℕ) (wide root : ℕ) → k ≡ 0 → 0 < wide → root ≡ node_at nodes 0
    → IsMergedFrom initial steps k nodes wide → IsRooted initial steps root
layers_rooted initial steps k nodes wide root none some is f =
    subst (λ n. IsRooted initial steps n) (sym is) (record {
      root_is = f.root;
      alive = λ ys way e. same.alive 0 ys some way e;
      onto = λ ys way. same.onto 0 ys some way;
      back = λ ys way. same.back 0 ys some way;
    })
  where
    same : AreSame initial steps nodes wide
    same = subst (λ n. AreSame (drop n initial) (drop n steps) nodes wide) none f.same

-- each layer stays few
pub layers_few : (initial steps : List (List Arc)) (k : ℕ) (nodes : List ℕ) (wide : ℕ) → IsMergedFrom initial steps k nodes wide → AreFew steps
layers_few initial steps k nodes wide f = λ i d l. subst (λ (x : List Arc). length x < 2 ^ 32) (get_or_default steps i [] d l) (f.few i l)

-- a root that has become itself
pub rooted_kept : (before now : List (List Arc)) (root : ℕ) → (root ≡ gone → ⊥) → IsRooted before now root → HasSameWays before now
rooted_kept before now root alive r = by r.root_is
  where
    by : (root ≡ gone) ⊎ (root ≡ 0) → HasSameWays before now
    by (inl lost) = absurd (alive lost)
    by (inr same) = record {
      onto = λ ys way. subst (λ n. IsWay now n ys) same (r.onto ys way);
      back = λ ys way. r.back ys (subst (λ n. IsWay now n ys) (sym same) way);
    }

-- one that has become none, where there are no layers
pub rooted_bare : (before now : List (List Arc)) (root : ℕ) → root ≡ gone → now ≡ [] → IsRooted before now root → HasSameWays before now
rooted_bare before now root lost none r = record {
  onto = λ ys way. absurd (r.alive ys way lost);
  back = λ ys way. r.back ys (subst (λ (xs : List (List Arc)). IsWay xs root ys) (sym none) (any ys (subst (λ (xs : List (List Arc)). IsWay xs 0 ys) none way)));
}
  where
    any : (ys : List ℤ) → IsWay [] 0 ys → IsWay [] root ys
    any [] way = tt
    any (y ∷ ys) way = absurd way

-- where there are
pub rooted_lost : (before now : List (List Arc)) (root : ℕ) → root ≡ gone → 0 < length now → IsRooted before now root → HasSameWays before (set now 0 [])
rooted_lost before [] root lost some r = absurd (omega (arith, some))
rooted_lost before (arcs ∷ steps) root lost some r = record { onto = λ ys way. absurd (r.alive ys way lost); back = back }
  where
    back : (ys : List ℤ) → IsWay ([] ∷ steps) 0 ys → IsWay before 0 ys
    back [] way = absurd way
    back (y ∷ ys) (j, leads, way) = absurd (omega (arith, leads.there))

-- ways that are the same are right for the same state
pub same_right : (layers : List Layer) (state : List Span) (before now : List (List Arc)) → HasSameWays before now → IsRight layers state before 0 → IsRight layers state now 0
same_right layers state before now s r = record {
  sound = λ ys way. r.sound ys (s.back ys way);
  complete = λ ys h. s.onto ys (r.complete ys h);
}
