-- Blocks with one signature have the same data, and the other way round.
use Rattle.std.proofs.Common.{◌≡◌, ℕ, suc, ◌+◌, ◌<◌, List, [], ◌∷◌, ◌++◌, map, length, take, get_or, All, refl, sym, ap, ◌∙◌, arith, append_assoc}
use Rattle.std.specs.Prelude.{ℤ, pos, negsuc, flat_map}
use Rattle.std.proofs.lemmas.List.{get_or-map, flat_map_more, take_more}
use Rattle.bp_theory.specs.Program.{span_at}
use Rattle.bp_theory.specs.Blocking.{Copy, Block}
use Rattle.bp_theory.specs.declared.Sense.{Sense}
use Rattle.bp_theory.specs.declared.Sense.TheVariants.{Le, Ge, Eq, In}
use Rattle.bp_theory.specs.declared.Span.{Span}
use Rattle.bp_theory.specs.declared.Term.{Term}
use Rattle.bp_theory.specs.declared.Row.{Row}
use Rattle.block_class.specs.Signatures.{sense_number, coefs_signature, terms_signature, copy_signature, row_signature, signature}

-- copies with equal data, one by one
pub record AreAlike (zone : List Span) (cs ds : List Copy) : Type 0 where
  pub costs : map (λ (c : Copy). c.cost) cs ≡ map (λ (c : Copy). c.cost) ds
  pub spans : map (λ (c : Copy). span_at zone c.var) cs ≡ map (λ (c : Copy). span_at zone c.var) ds
  pub coefs : map (λ (c : Copy). c.coefs) cs ≡ map (λ (c : Copy). c.coefs) ds

-- ---- one signature, the same data

entry_is : (a b : ℕ) (y z : ℤ) (r s : List ℤ) → ◌≡◌ {A = List ℤ} (pos a ∷ y ∷ r) (pos b ∷ z ∷ s) → (a ≡ b) × (y ≡ z) × (r ≡ s)
entry_is a b y z r s e = (cc, cc, cc)

no_end : (a : ℕ) (r s : List ℤ) → ◌≡◌ {A = List ℤ} (pos a ∷ r) (negsuc 0 ∷ s) → ⊥
no_end a r s e = cc

ends : (r s : List ℤ) → ◌≡◌ {A = List ℤ} (negsuc 0 ∷ r) (negsuc 0 ∷ s) → r ≡ s
ends r s e = cc

coefs_read : (cs ds : List (ℕ × ℤ)) (r s : List ℤ) → coefs_signature cs ++ r ≡ coefs_signature ds ++ s → (cs ≡ ds) × (r ≡ s)
coefs_read [] [] r s e = (refl, ends r s e)
coefs_read [] (d ∷ ds) r s e = absurd (no_end d.0 (d.1 ∷ coefs_signature ds ++ s) r (sym e))
coefs_read (c ∷ cs) [] r s e = absurd (no_end c.0 (c.1 ∷ coefs_signature cs ++ r) s e)
coefs_read (c ∷ cs) (d ∷ ds) r s e =
    let head = entry_is c.0 d.0 c.1 d.1 (coefs_signature cs ++ r) (coefs_signature ds ++ s) e in
    let rest = coefs_read cs ds r s head.2 in (
      ap (λ (a : ℕ). (a, c.1) ∷ cs) head.0 ∙ ap (λ (z : ℤ). (d.0, z) ∷ cs) head.1 ∙ ap (λ (es : List (ℕ × ℤ)). d ∷ es) rest.0,
      rest.1,
    )

term_of : ℕ → ℤ → Term
term_of v z = record { var = v; coef = z }

terms_read : (cs ds : List Term) (r s : List ℤ) → terms_signature cs ++ r ≡ terms_signature ds ++ s → (cs ≡ ds) × (r ≡ s)
unfolding term_of
terms_read [] [] r s e = (refl, ends r s e)
terms_read [] (d ∷ ds) r s e = absurd (no_end d.var (d.coef ∷ terms_signature ds ++ s) r (sym e))
terms_read (c ∷ cs) [] r s e = absurd (no_end c.var (c.coef ∷ terms_signature cs ++ r) s e)
terms_read (c ∷ cs) (d ∷ ds) r s e =
    let head = entry_is c.var d.var c.coef d.coef (terms_signature cs ++ r) (terms_signature ds ++ s) e in
    let rest = terms_read cs ds r s head.2 in (
      ap (λ (a : ℕ). term_of a c.coef ∷ cs) head.0 ∙ ap (λ (z : ℤ). term_of d.var z ∷ cs) head.1 ∙ ap (λ (es : List Term). d ∷ es) rest.0,
      rest.1,
    )

three_are : (a b c d e f : ℤ) (r s : List ℤ) → ◌≡◌ {A = List ℤ} (a ∷ b ∷ c ∷ r) (d ∷ e ∷ f ∷ s) → (a ≡ d) × (b ≡ e) × (c ≡ f) × (r ≡ s)
three_are a b c d e f r s h = (cc, cc, cc, cc)

span_of : ℤ → ℤ → Span
span_of lo hi = record { lo = lo; hi = hi }

same_span : (s t : Span) → s.lo ≡ t.lo → s.hi ≡ t.hi → s ≡ t
unfolding span_of
same_span s t e f = ap (λ (lo : ℤ). span_of lo s.hi) e ∙ ap (λ (hi : ℤ). span_of t.lo hi) f

copy_read : (zone : List Span) (c d : Copy) (r s : List ℤ) → copy_signature zone c ++ r ≡ copy_signature zone d ++ s
    → (c.cost ≡ d.cost) × (span_at zone c.var ≡ span_at zone d.var) × (c.coefs ≡ d.coefs) × (r ≡ s)
copy_read zone c d r s e =
    let head = three_are c.cost (span_at zone c.var).lo (span_at zone c.var).hi d.cost (span_at zone d.var).lo (span_at zone d.var).hi (coefs_signature c.coefs ++ r) (coefs_signature d.coefs ++ s) e in
    let rest = coefs_read c.coefs d.coefs r s head.3 in
    (head.0, same_span (span_at zone c.var) (span_at zone d.var) head.1 head.2, rest.0, rest.1)

copies_read : (zone : List Span) (cs ds : List Copy) (r s : List ℤ) → length cs ≡ length ds
    → flat_map (copy_signature zone) cs ++ r ≡ flat_map (copy_signature zone) ds ++ s → AreAlike zone cs ds × (r ≡ s)
copies_read zone [] [] r s l e = (record { costs = refl; spans = refl; coefs = refl }, e)
copies_read zone [] (d ∷ ds) r s l e = absurd (omega (arith, l))
copies_read zone (c ∷ cs) [] r s l e = absurd (omega (arith, l))
copies_read zone (c ∷ cs) (d ∷ ds) r s l e =
    let front = flat_map (copy_signature zone) in
    let head = copy_read zone c d (front cs ++ r) (front ds ++ s)
    (sym (append_assoc (copy_signature zone c) (front cs) r) ∙ e ∙ append_assoc (copy_signature zone d) (front ds) s) in
    let rest = copies_read zone cs ds r s (omega (arith, l)) head.3 in (
      record {
        costs = ap (λ (z : ℤ). z ∷ map (λ (o : Copy). o.cost) cs) head.0 ∙ ap (λ (zs : List ℤ). d.cost ∷ zs) rest.0.costs;
        spans = ap (λ (t : Span). t ∷ map (λ (o : Copy). span_at zone o.var) cs) head.1 ∙ ap (λ (ts : List Span). span_at zone d.var ∷ ts) rest.0.spans;
        coefs = ap (λ (es : List (ℕ × ℤ)). es ∷ map (λ (o : Copy). o.coefs) cs) head.2 ∙ ap (λ (ess : List (List (ℕ × ℤ))). d.coefs ∷ ess) rest.0.coefs;
      },
      rest.1,
    )

same_sense : (a b : Sense) → sense_number a ≡ sense_number b → a ≡ b
same_sense Le Le e = refl
same_sense Le Ge e = absurd (cc)
same_sense Le Eq e = absurd (cc)
same_sense Le In e = absurd (cc)
same_sense Ge Le e = absurd (cc)
same_sense Ge Ge e = refl
same_sense Ge Eq e = absurd (cc)
same_sense Ge In e = absurd (cc)
same_sense Eq Le e = absurd (cc)
same_sense Eq Ge e = absurd (cc)
same_sense Eq Eq e = refl
same_sense Eq In e = absurd (cc)
same_sense In Le e = absurd (cc)
same_sense In Ge e = absurd (cc)
same_sense In Eq e = absurd (cc)
same_sense In In e = refl

row_of : Sense → ℤ → ℤ → List Term → Row
row_of sense low rhs terms = record { sense = sense; low = low; rhs = rhs; terms = terms }

row_read : (p q : Row) (r s : List ℤ) → row_signature p ++ r ≡ row_signature q ++ s → (p ≡ q) × (r ≡ s)
unfolding row_of
row_read p q r s e =
    let head = three_are (sense_number p.sense) p.low p.rhs (sense_number q.sense) q.low q.rhs (terms_signature p.terms ++ r) (terms_signature q.terms ++ s) e in
    let rest = terms_read p.terms q.terms r s head.3 in (
      ap (λ (t : Sense). row_of t p.low p.rhs p.terms) (same_sense p.sense q.sense head.0) ∙ ap (λ (z : ℤ). row_of q.sense z p.rhs p.terms) head.1
          ∙ ap (λ (z : ℤ). row_of q.sense q.low z p.terms) head.2 ∙ ap (λ (ts : List Term). row_of q.sense q.low q.rhs ts) rest.0,
      rest.1,
    )

nothing_more : (z : ℤ) (r : List ℤ) → ◌≡◌ {A = List ℤ} [] (z ∷ r) → ⊥
nothing_more z r e = cc

rows_read : (ps qs : List Row) → flat_map row_signature ps ≡ flat_map row_signature qs → ps ≡ qs
rows_read [] [] e = refl
rows_read [] (q ∷ qs) e = absurd (nothing_more (sense_number q.sense) (q.low ∷ q.rhs ∷ terms_signature q.terms ++ flat_map row_signature qs) e)
rows_read (p ∷ ps) [] e = absurd (nothing_more (sense_number p.sense) (p.low ∷ p.rhs ∷ terms_signature p.terms ++ flat_map row_signature ps) (sym e))
rows_read (p ∷ ps) (q ∷ qs) e =
    let head = row_read p q (flat_map row_signature ps) (flat_map row_signature qs) e in
    ap (λ (o : Row). o ∷ ps) head.0 ∙ ap (λ (os : List Row). q ∷ os) (rows_read ps qs head.1)

counted : (a b : ℕ) (r s : List ℤ) → ◌≡◌ {A = List ℤ} (pos a ∷ r) (pos b ∷ s) → (a ≡ b) × (r ≡ s)
counted a b r s e = (cc, cc)

pub signature_read : (zone : List Span) (k l : Block) → signature zone k ≡ signature zone l → AreAlike zone k.copies l.copies × (k.rows ≡ l.rows)
signature_read zone k l e =
    let head = counted (length k.copies) (length l.copies) (flat_map (copy_signature zone) k.copies ++ flat_map row_signature k.rows) (flat_map (copy_signature zone) l.copies ++ flat_map row_signature l.rows) e in
    let rest = copies_read zone k.copies l.copies (flat_map row_signature k.rows) (flat_map row_signature l.rows) head.0 head.1 in
    (rest.0, rows_read k.rows l.rows rest.1)

-- ---- the same data, one signature

heads : {X : Type 0} (a b : X) (xs ys : List X) → a ∷ xs ≡ b ∷ ys → (a ≡ b) × (xs ≡ ys)
heads a b xs ys e = (cc, cc)

no_more : {X : Type 0} (a : X) (xs : List X) → ◌≡◌ {A = List X} [] (a ∷ xs) → ⊥
no_more a xs e = cc

copies_written : (zone : List Span) (cs ds : List Copy) → AreAlike zone cs ds
    → (length cs ≡ length ds) × (flat_map (copy_signature zone) cs ≡ flat_map (copy_signature zone) ds)
copies_written zone [] [] h = (refl, refl)
copies_written zone [] (d ∷ ds) h = absurd (no_more d.cost (map (λ (o : Copy). o.cost) ds) h.costs)
copies_written zone (c ∷ cs) [] h = absurd (no_more c.cost (map (λ (o : Copy). o.cost) cs) (sym h.costs))
copies_written zone (c ∷ cs) (d ∷ ds) h =
    let costs = heads c.cost d.cost (map (λ (o : Copy). o.cost) cs) (map (λ (o : Copy). o.cost) ds) h.costs in
    let spans = heads (span_at zone c.var) (span_at zone d.var) (map (λ (o : Copy). span_at zone o.var) cs) (map (λ (o : Copy). span_at zone o.var) ds) h.spans in
    let coefs = heads c.coefs d.coefs (map (λ (o : Copy). o.coefs) cs) (map (λ (o : Copy). o.coefs) ds) h.coefs in
    let rest = copies_written zone cs ds (record { costs = costs.1; spans = spans.1; coefs = coefs.1 }) in
    let tail = flat_map (copy_signature zone) cs in (
      ap suc rest.0,
      ap (λ (z : ℤ). z ∷ (span_at zone c.var).lo ∷ (span_at zone c.var).hi ∷ coefs_signature c.coefs ++ tail) costs.0
          ∙ ap (λ (t : Span). d.cost ∷ t.lo ∷ t.hi ∷ coefs_signature c.coefs ++ tail) spans.0
          ∙ ap (λ (es : List (ℕ × ℤ)). d.cost ∷ (span_at zone d.var).lo ∷ (span_at zone d.var).hi ∷ coefs_signature es ++ tail) coefs.0
          ∙ ap (λ (zs : List ℤ). copy_signature zone d ++ zs) rest.1,
    )

pub signature_written : (zone : List Span) (k l : Block) → AreAlike zone k.copies l.copies → k.rows ≡ l.rows → signature zone k ≡ signature zone l
signature_written zone k l h rows =
    let same = copies_written zone k.copies l.copies h in
    ap (λ (n : ℕ). pos n ∷ flat_map (copy_signature zone) k.copies ++ flat_map row_signature k.rows) same.0
    ∙ ap (λ (zs : List ℤ). pos (length l.copies) ∷ zs ++ flat_map row_signature k.rows) same.1
    ∙ ap (λ (rs : List Row). pos (length l.copies) ∷ flat_map (copy_signature zone) l.copies ++ flat_map row_signature rs) rows

-- ---- a signature, part by part

pub copy_pushed : (zone : List Span) (copies : List Copy) (place : ℕ) (d : Copy) (vars : List ℕ) (costs : List ℤ) (cost : ℤ) (span : Span) (coefs : List (ℕ × ℤ)) (old mid new : List ℤ)
    → place < length copies → vars ≡ map (λ (c : Copy). c.var) copies → costs ≡ map (λ (c : Copy). c.cost) copies → cost ≡ get_or costs place (pos 0)
    → span ≡ span_at zone (get_or vars place 0) → coefs ≡ (get_or copies place d).coefs
    → mid ≡ old ++ cost ∷ span.lo ∷ span.hi ∷ [] → new ≡ mid ++ coefs_signature coefs → new ≡ old ++ copy_signature zone (get_or copies place d)
copy_pushed zone copies place d vars costs cost span coefs old mid new l vars_are costs_are cost_is span_is coefs_are mid_is new_is =
    let c : Copy = get_or copies place d in
    let own_cost : cost ≡ c.cost = cost_is ∙ ap (λ (zs : List ℤ). get_or zs place (pos 0)) costs_are ∙ get_or-map (λ (o : Copy). o.cost) copies place d (pos 0) l in
    let own_var : get_or vars place 0 ≡ c.var = ap (λ (vs : List ℕ). get_or vs place 0) vars_are ∙ get_or-map (λ (o : Copy). o.var) copies place d 0 l in
    let own_span : span ≡ span_at zone c.var = span_is ∙ ap (span_at zone) own_var in
    new_is ∙ ap (λ (zs : List ℤ). zs ++ coefs_signature coefs) mid_is ∙ append_assoc old (cost ∷ span.lo ∷ span.hi ∷ []) (coefs_signature coefs)
    ∙ ap (λ (z : ℤ). old ++ z ∷ span.lo ∷ span.hi ∷ coefs_signature coefs) own_cost
    ∙ ap (λ (t : Span). old ++ c.cost ∷ t.lo ∷ t.hi ∷ coefs_signature coefs) own_span
    ∙ ap (λ (es : List (ℕ × ℤ)). old ++ c.cost ∷ (span_at zone c.var).lo ∷ (span_at zone c.var).hi ∷ coefs_signature es) coefs_are

pub copies_more : (zone : List Span) (copies : List Copy) (place : ℕ) (d : Copy) (n : ℤ) (old new : List ℤ) → place < length copies
    → old ≡ n ∷ flat_map (copy_signature zone) (take place copies) → new ≡ old ++ copy_signature zone (get_or copies place d)
    → new ≡ n ∷ flat_map (copy_signature zone) (take (place + 1) copies)
copies_more zone copies place d n old new l old_is new_is =
    new_is ∙ ap (λ (zs : List ℤ). zs ++ copy_signature zone (get_or copies place d)) old_is
    ∙ flat_map_more (copy_signature zone) (n ∷ []) (take place copies) (get_or copies place d)
    ∙ ap (λ (cs : List Copy). n ∷ flat_map (copy_signature zone) cs) (sym (take_more copies place d l))

pub var_inside : (zone : List Span) (copies : List Copy) (place : ℕ) (vars : List ℕ) → place < length copies → vars ≡ map (λ (c : Copy). c.var) copies
    → All (λ (c : Copy). c.var < length zone) copies → get_or vars place 0 < length zone
var_inside zone copies place vars l vars_are below =
    let d : Copy = record { var = 0; cost = pos 0; coefs = [] } in
    omega (arith, below place d l, ap (λ (vs : List ℕ). get_or vs place 0) vars_are, get_or-map (λ (o : Copy). o.var) copies place d 0 l)
