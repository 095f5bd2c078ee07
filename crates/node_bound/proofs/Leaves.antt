-- What is done with a leaf, and the bounds that proofs show of its zone.
use Rattle.std.proofs.Common.{◌≡◌, ◌≢◌, refl, sym, ap, subst, ◌∙◌, ℕ, suc, ◌<◌, ◌≤◌, ◌^◌, ◌-◌, ◌*◌, List, [], ◌∷◌, map, length, get_or, Option, Some, None, arith, IfSome, IfOk, Result, Ok, Err, inl}
use Rattle.std.proofs.Math.IntN.{ℤ, pos, neg_ℤ, ◌*ℤ◌}
use Rattle.std.specs.Prelude.{◌≤ℤ◌, ◌<ℤ◌, unsigned_abs}
use Rattle.std.specs.Int.{int_min}
use Rattle.std.proofs.lemmas.Int.{ints, clamps, by_lt_z}
use Rattle.bp_theory.specs.Sums.{round_up}
use Rattle.bp_theory.specs.Program.{Program, span_at, IsInside, IsWithin, cost}
use Rattle.bp_theory.specs.Blocking.{Blocking}
use Rattle.bp_theory.specs.Bound.{IsBound, IsEndless, plain_proof}
use Rattle.bp_theory.specs.Digits.{middle}
use Rattle.bp_theory.specs.Trees.{IsProper, IsZone, IsSubzone, zone_of}
use Rattle.bp_theory.specs.Claims.{Holds}
use Rattle.bp_theory.specs.declared.Span.{Span}
use Rattle.bp_theory.specs.declared.Proof.{Proof}
use Rattle.bp_theory.proofs.Whole.{le-mul_pos}
use Rattle.bp_theory.proofs.ZipLaws.{AllZip_at, AllZip-length}
use Rattle.bp_theory.proofs.CutProof.{le-round_up}
use Rattle.bp_theory.proofs.RoundProof.{rounded_holds_lem}
use Rattle.bp_theory.proofs.TruthProof.{older_lem}
use Rattle.bp_theory.specs.declared.Term.{Term}
use Rattle.bp_theory.specs.declared.Row.{Row}
use Rattle.bp_model.specs.Named.{NamedProgram, IsKept}
use Rattle.bp_model.specs.Miss.{IsFirstMiss, CanSum}
use Rattle.bp_model.proofs.PointLemmas.{rows_can_sum}
use Rattle.bp_model.specs.declared.points.Miss.TheVariants.{Length, Bound}
use Rattle.block_program.specs.Blocked.{BlockedProgram, IsFormed}
use Rattle.search_laws.specs.GroveFacts.{IsSoundProof, best_cost, IsNoDearer}
use Rattle.search_laws.specs.Verdicts.{IsFork, IsNext, IsVerdict, cheaper_cost, every_block}
use Rattle.search_laws.specs.declared.Next.{Next}
use Rattle.search_laws.specs.declared.Next.TheVariants.{Shut}
use Rattle.node_bound.specs.Shown.{IsShown, ShutsOff, IsOnePoint, IsBetter}
use Rattle.node_bound.proofs.OnePoint.{point_holds}

-- ---- open variables

pub none_open : (zone : List Span) → IsProper zone → ((k : ℕ) (d : Span) → k < length zone → (get_or zone k d).hi ≤ℤ (get_or zone k d).lo) → IsOnePoint zone
none_open zone proper closed = λ k d l. omega (arith, ints, proper k d l, closed k d l)

pub fork_is : (b : Blocking) (depth : ℕ) (zone : List Span) (least : ℤ) (known : Option ℤ) (v : ℕ) (s : Span) (at : ℤ) (proof : Proof) (bound : ℤ)
    → s ≡ span_at zone v → s.lo ≤ℤ at → at <ℤ s.hi → (64 ≤ depth → at ≡ middle s) → IsShown b zone least proof bound → IfSome known (λ z. bound <ℤ z)
    → IsFork b depth zone least known v at proof bound
fork_is b depth zone least known v s at proof bound span_is above under deep shown below =
    record {
      split = record {
        above = subst (λ (t : Span). t.lo ≤ℤ at) span_is above;
        below = subst (λ (t : Span). at <ℤ t.hi) span_is under;
      };
      timely = λ far. deep far ∙ ap middle span_is;
      sound = shown.sound;
      keeps = shown.keeps;
      no_less = shown.no_less;
      below = below;
    }

-- a bound that reaches the known cost settles the zone
pub reaches : (b : Blocking) (zone : List Span) (least : ℤ) (proof : Proof) (bound z : ℤ) → IsShown b zone least proof bound → z ≤ℤ bound → Holds b zone proof z
reaches b zone least proof bound z shown h = older_lem.smaller b zone proof z bound h shown.keeps.holds

-- ---- greater bounds

neg_scaled : (s : ℕ) (o : ℤ) → unsigned_abs o < 2 ^ 62 → neg_ℤ (pos (s * 2 ^ 62)) ≤ℤ (pos s *ℤ o)
neg_scaled s o h =
    let low : neg_ℤ (pos (2 ^ 62)) ≤ℤ o = omega (arith, ints, h) in
    omega (arith, ints, le-mul_pos s (neg_ℤ (pos (2 ^ 62))) o low)

-- what is above a scaled bound can be rounded
pub can_round : (s : ℕ) (o whole : ℤ) → unsigned_abs o < 2 ^ 62 → (pos s *ℤ o) <ℤ whole → neg_ℤ (pos (s * 2 ^ 62)) <ℤ whole
can_round s o whole h above = omega (arith, ints, neg_scaled s o h, above)

above_rounded : (s : ℕ) (o whole : ℤ) → 0 < s → (pos s *ℤ o) <ℤ whole → o <ℤ round_up whole s
above_rounded s o whole positive above =
    let up = le-round_up whole s positive in
    by_lt_z o (round_up whole s)
    (λ less. less)
    (λ more. absurd (clash (pos s *ℤ round_up whole s) (pos s *ℤ o) whole (le-mul_pos s (round_up whole s) o more) up above))
  where
    clash : (a b c : ℤ) → a ≤ℤ b → c ≤ℤ a → b <ℤ c → ⊥
    clash a b c h g k = omega (arith, ints)

-- a whole bound above the scaled old one shows its rounding
pub raise : (b : Blocking) (zone : List Span) (least : ℤ) (old : Proof) (o : ℤ) (proof : Proof) (whole rounded : ℤ) → IsShown b zone least old o
    → IsSoundProof b proof → proof.scale ≢ 0 → IsBound b zone proof whole → (pos proof.scale *ℤ o) <ℤ whole
    → rounded ≡ int_min (round_up whole proof.scale) (pos (2 ^ 62 - 1)) → unsigned_abs o < 2 ^ 62
    → IsShown b zone least proof rounded
raise b zone least old o proof whole rounded shown sound positive bound above is small =
    let more : 0 < proof.scale = omega (arith, positive) in
    let greater = above_rounded proof.scale o whole more above in
    record {
      sound = sound;
      keeps = record {
        scale = more;
        holds = older_lem.smaller b zone proof rounded (round_up whole proof.scale) (omega (arith, ints, clamps, is)) (rounded_holds_lem b zone proof whole more bound);
        size = size rounded (round_up whole proof.scale) o is greater small;
      };
      no_less = no_less rounded (round_up whole proof.scale) o least is greater small shown.no_less;
    }
  where
    size : (r u o : ℤ) → r ≡ int_min u (pos (2 ^ 62 - 1)) → o <ℤ u → unsigned_abs o < 2 ^ 62 → unsigned_abs r < 2 ^ 62
    size r u o e h g = grind (arith, ints, clamps)

    no_less : (r u o least : ℤ) → r ≡ int_min u (pos (2 ^ 62 - 1)) → o <ℤ u → unsigned_abs o < 2 ^ 62 → least ≤ℤ o → least ≤ℤ r
    no_less r u o least e h g k = grind (arith, ints, clamps)

pub raised_small : (s : ℕ) (o whole r : ℤ) → s ≢ 0 → (pos s *ℤ o) <ℤ whole → r ≡ int_min (round_up whole s) (pos (2 ^ 62 - 1)) → unsigned_abs o < 2 ^ 62 → unsigned_abs r < 2 ^ 62
raised_small s o whole r positive above e small = size r (round_up whole s) o e (above_rounded s o whole (omega (arith, positive)) above) small
  where
    size : (r u o : ℤ) → r ≡ int_min u (pos (2 ^ 62 - 1)) → o <ℤ u → unsigned_abs o < 2 ^ 62 → unsigned_abs r < 2 ^ 62
    size r u o e h g = grind (arith, ints, clamps)

pub raised_no_less : (s : ℕ) (o whole r : ℤ) → s ≢ 0 → (pos s *ℤ o) <ℤ whole → r ≡ int_min (round_up whole s) (pos (2 ^ 62 - 1)) → unsigned_abs o < 2 ^ 62 → o ≤ℤ r
raised_no_less s o whole r positive above e small = no_less r (round_up whole s) o e (above_rounded s o whole (omega (arith, positive)) above) small
  where
    no_less : (r u o : ℤ) → r ≡ int_min u (pos (2 ^ 62 - 1)) → o <ℤ u → unsigned_abs o < 2 ^ 62 → o ≤ℤ r
    no_less r u o e h g = grind (arith, ints, clamps)

-- ---- points

-- the low ends of a zone of one point are its point
pub zone_is : (zone : List Span) (point : List ℤ) → IsOnePoint zone → point ≡ map (λ (s : Span). s.lo) zone → zone ≡ zone_of point
zone_is zone point one e = same zone (λ k d l. one k d l) ∙ ap zone_of (sym e)
  where
    span_is : (s : Span) → s.lo ≡ s.hi → s ≡ record { lo = s.lo; hi = s.lo }
    span_is s h = ap (λ z. record { lo = s.lo; hi = z }) (sym h)

    same : (zone : List Span) → IsOnePoint zone → zone ≡ zone_of (map (λ (s : Span). s.lo) zone)
    same [] h = refl
    same (s ∷ ss) h =
        ap (λ (t : Span). t ∷ ss) (span_is s (h 0 s (omega arith)))
        ∙ ap (λ (ts : List Span). record { lo = s.lo; hi = s.lo } ∷ ts) (same ss (λ k d l. h (suc k) d (omega arith)))

-- the low ends lie within the program's spans
pub low_inside : (spans zone : List Span) (point : List ℤ) → IsZone spans zone → point ≡ map (λ (s : Span). s.lo) zone → IsInside spans point
low_inside spans zone point h e = subst (IsInside spans) (sym e) (each spans zone h.inside h.proper)
  where
    each : (spans zone : List Span) → IsSubzone zone spans → IsProper zone → IsInside spans (map (λ (s : Span). s.lo) zone)
    each [] [] sub proper = tt
    each [] (s ∷ ss) sub proper = absurd sub
    each (t ∷ ts) [] sub proper = absurd sub
    each (t ∷ ts) (s ∷ ss) sub proper = (
      record { above = sub.0.above; below = omega (arith, ints, sub.0.below, proper 0 s (omega arith)) },
      each ts ss sub.1 (λ k d l. proper (suc k) d (omega arith)),
    )

pub no_length : (p : Program) (x : List ℤ) → IsInside p.spans x → IsFirstMiss p x Length → ⊥
no_length p x inside wrong = wrong (sym (AllZip-length IsWithin p.spans x inside))

pub no_bound : (p : Program) (x : List ℤ) (v : ℕ) → IsInside p.spans x → IsFirstMiss p x (Bound v) → ⊥
no_bound p x v inside wrong =
    wrong.1.outside (AllZip_at IsWithin p.spans x inside v (record { lo = pos 0; hi = pos 0 }) (pos 0) wrong.1.there)

pub plain_sound : (b : Blocking) → IsSoundProof b plain_proof
plain_sound b = record {
  fits = record {
    scale = omega arith;
    sizes = λ i m h. absurd (omega arith);
    nonzero = λ i m h. absurd (omega arith);
    rows = λ i m h. absurd (omega arith);
    ascend = λ i h. absurd (omega arith);
    picked = ((λ i h. absurd (omega arith)), (λ i d h. absurd (omega arith)));
  };
  signs = λ i m h. absurd (omega arith);
}

-- the proof that picks every block is sound, and shuts a zone off where its bound is endless
every_sound : (b : Blocking) → IsSoundProof b every_block
every_sound b = record {
  fits = record {
    scale = omega arith;
    sizes = λ i m h. absurd (omega arith);
    nonzero = λ i m h. absurd (omega arith);
    rows = λ i m h. absurd (omega arith);
    ascend = λ i h. absurd (omega arith);
    picked = tt;
  };
  signs = λ i m h. absurd (omega arith);
}

pub every_is_sound : (b : Blocking) (proof : Proof) → proof ≡ every_block → IsSoundProof b proof
every_is_sound b proof e = subst (IsSoundProof b) (sym e) (every_sound b)

pub endless_shuts : (b : Blocking) (zone : List Span) (proof : Proof) → IsSoundProof b proof → IsEndless b zone proof → ShutsOff b zone proof
endless_shuts b zone proof sound endless = record { sound = sound; empties = inl endless }

-- a zone of one feasible point is shut by the plain proof
pub point_next : (b : BlockedProgram) (x : List ℤ) (zone : List Span) (depth : ℕ) (bound : ℤ) (known : Option ℤ) → IsFormed b → zone ≡ zone_of x
    → IsNoDearer known (Some (cost b.named.program x)) → IsNext b.blocking depth zone bound known (Shut plain_proof)
point_next b x zone depth bound None formed e h = absurd h
point_next b x zone depth bound (Some z) formed e h = (
  plain_sound b.blocking,
  older_lem.smaller b.blocking zone plain_proof z (cost b.named.program x) h
      (subst (λ (zs : List Span). Holds b.blocking zs plain_proof (cost b.named.program x)) (sym e) (point_holds b x formed)),
)

-- what shuts a zone off settles it against every cost
pub off_settles : (b : Blocking) (depth : ℕ) (zone : List Span) (bound : ℤ) (known : Option ℤ) (proof : Proof) → ShutsOff b zone proof
    → IsNext b depth zone bound known (Shut proof)
off_settles b depth zone bound None proof off = (off.sound, off.empties)
off_settles b depth zone bound (Some z) proof off = (off.sound, older_lem.emptied b zone proof z off.empties)

-- a verdict by its parts
pub verdict_is : (p : Program) (b : Blocking) (depth : ℕ) (zone : List Span) (bound : ℤ) (best : Option ℤ) (point : Option (List ℤ)) (next : Next)
    → IfSome point (IsBetter p best) → IsNext b depth zone bound (cheaper_cost (best_cost p point) best) next
    → IsVerdict p b depth zone bound best (record { point = point; next = next })
verdict_is p b depth zone bound best None next better right = record { feasible = tt; cheaper = tt; next = right }
verdict_is p b depth zone bound best (Some x) next better right = record { feasible = better.feasible; cheaper = better.cheaper; next = right }

-- a fact of what came back, from another
pub ok_from : {A E : Type 0} (r : Result A E) (P Q : A → Type 0) → ((x : A) → P x → Q x) → IfOk r P → IfOk r Q
ok_from (Ok x) P Q h g = h x g
ok_from (Err e) P Q h g = tt

-- the terms of a model's row can be summed at a point within its spans
pub terms_can_sum : (m : NamedProgram) (x : List ℤ) (rows : List Row) (i : ℕ) (row : Row) (items : List Term) → IsKept m → IsInside m.program.spans x
    → rows ≡ m.program.rows → row ≡ get_or rows i row → i < length rows → items ≡ row.terms → CanSum x items
terms_can_sum m x rows i row items kept inside rows_are row_is l items_are =
    let there : i < length m.program.rows = subst (λ (rs : List Row). i < length rs) rows_are l in
    let same : row ≡ get_or m.program.rows i row = row_is ∙ ap (λ (rs : List Row). get_or rs i row) rows_are in
    subst (CanSum x) (sym items_are) (subst (λ (r : Row). CanSum x r.terms) (sym same) (rows_can_sum m x kept inside i row there))
