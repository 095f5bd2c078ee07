-- Blocks of a program in blocks are the same in a zone exactly where they have the same data.
use Rattle.std.proofs.Common.{◌≡◌, ℕ, suc, ◌<◌, Bool, true, List, [], ◌∷◌, map, length, get_or, All, refl, sym, ap, subst, ◌∙◌, arith}
use Rattle.std.specs.Prelude.{ℤ, pos}
use Rattle.std.specs.List.{AllByRecursion}
use Rattle.std.proofs.lemmas.List.{length-map}
use Rattle.bp_theory.specs.Sums.{sum_at}
use Rattle.bp_theory.specs.Program.{Program}
use Rattle.bp_theory.specs.Blocking.{Copy, Block, Blocking, coef_in}
use Rattle.bp_theory.specs.Classes.{IsSame}
use Rattle.bp_theory.specs.Decomposition.{Decomposition, ProofRow, proof_rows, numbered, copy_coefficient, copy_of, is_first, members, blocking_of}
use Rattle.bp_theory.specs.Cuts.{cut_rows}
use Rattle.bp_theory.specs.declared.Row.{Row}
use Rattle.bp_theory.specs.declared.Span.{Span}
use Rattle.bp_theory.specs.Trees.{IsSubzone}
use Rattle.bp_theory.proofs.DecompositionProof.{all_blocks, decomposition_lem, numbered_at}
use Rattle.bp_theory.proofs.CutProof.{cuts_are_met_lem}
use Rattle.block_program.specs.Blocked.{BlockedProgram, IsFormed}
use Rattle.search_laws.specs.Spread.{block_at}
use Rattle.block_class.specs.Signatures.{signature}
use Rattle.block_class.proofs.SignatureLemmas.{AreAlike, signature_read, signature_written}

-- ---- coefficients are told by rows

-- coefficients are those of a list of so many numbers, without the zeros
pub record HasCoefs (n : ℕ) (c : Copy) : Type 0 where
  pub numbers : List ℤ
  pub each : length numbers ≡ n
  pub are : c.coefs ≡ numbered numbers

numbers_same : (ys zs : List ℤ) → length ys ≡ length zs → ((i : ℕ) → get_or ys i (pos 0) ≡ get_or zs i (pos 0)) → ys ≡ zs
numbers_same [] [] l h = refl
numbers_same [] (z ∷ zs) l h = absurd (omega (arith, l))
numbers_same (y ∷ ys) [] l h = absurd (omega (arith, l))
numbers_same (y ∷ ys) (z ∷ zs) l h = ap (λ (x : ℤ). x ∷ ys) (h 0) ∙ ap (λ (xs : List ℤ). z ∷ xs) (numbers_same ys zs (omega (arith, l)) (λ i. h (suc i)))

coefs_same : (n : ℕ) (c d : Copy) → HasCoefs n c → HasCoefs n d → ((i : ℕ) → coef_in c i ≡ coef_in d i) → c.coefs ≡ d.coefs
coefs_same n c d h g same =
    h.are ∙ ap numbered (numbers_same h.numbers g.numbers (h.each ∙ sym g.each)
    (λ i. sym (numbered_at h.numbers i) ∙ ap (λ (es : List (ℕ × ℤ)). sum_at (λ (e : ℕ × ℤ). e.0) (λ e. e.1) es i) (sym h.are)
    ∙ same i ∙ ap (λ (es : List (ℕ × ℤ)). sum_at (λ (e : ℕ × ℤ). e.0) (λ e. e.1) es i) g.are ∙ numbered_at g.numbers i))
    ∙ sym g.are

heads : {X : Type 0} (a b : X) (xs ys : List X) → a ∷ xs ≡ b ∷ ys → (a ≡ b) × (xs ≡ ys)
heads a b xs ys e = (cc, cc)

no_more : {X : Type 0} (a : X) (xs : List X) → ◌≡◌ {A = List X} [] (a ∷ xs) → ⊥
no_more a xs e = cc

all_coefs_same : (n : ℕ) (cs ds : List Copy) → AllByRecursion (HasCoefs n) cs → AllByRecursion (HasCoefs n) ds
    → ((i : ℕ) → map (λ (c : Copy). coef_in c i) cs ≡ map (λ (c : Copy). coef_in c i) ds) → map (λ (c : Copy). c.coefs) cs ≡ map (λ (c : Copy). c.coefs) ds
all_coefs_same n [] [] h g same = refl
all_coefs_same n [] (d ∷ ds) h g same = absurd (no_more (coef_in d 0) (map (λ (c : Copy). coef_in c 0) ds) (same 0))
all_coefs_same n (c ∷ cs) [] h g same = absurd (no_more (coef_in c 0) (map (λ (c : Copy). coef_in c 0) cs) (sym (same 0)))
all_coefs_same n (c ∷ cs) (d ∷ ds) h g same =
    let split = λ (i : ℕ). heads (coef_in c i) (coef_in d i) (map (λ (o : Copy). coef_in o i) cs) (map (λ (o : Copy). coef_in o i) ds) (same i) in
    ap (λ (es : List (ℕ × ℤ)). es ∷ map (λ (o : Copy). o.coefs) cs) (coefs_same n c d h.0 g.0 (λ i. (split i).0))
    ∙ ap (λ (ess : List (List (ℕ × ℤ))). d.coefs ∷ ess) (all_coefs_same n cs ds h.1 g.1 (λ i. (split i).1))

coefs_by_row : (i : ℕ) (cs : List Copy) → map (λ (c : Copy). coef_in c i) cs ≡ map (λ (es : List (ℕ × ℤ)). sum_at (λ (e : ℕ × ℤ). e.0) (λ e. e.1) es i) (map (λ (c : Copy). c.coefs) cs)
coefs_by_row i [] = refl
coefs_by_row i (c ∷ cs) = ap (λ (zs : List ℤ). coef_in c i ∷ zs) (coefs_by_row i cs)

-- ---- the copies of a blocking

copy_has : (p : Program) (rows : List ProofRow) (first : Bool) (v k : ℕ) → HasCoefs (length rows) (copy_of p rows first v k)
copy_has p rows first v k = record { numbers = map (copy_coefficient first v k) rows; each = length-map rows (copy_coefficient first v k); are = refl }

copies_have : (p : Program) (rows : List ProofRow) (first : ℕ → Bool) (k : ℕ) (vs : List ℕ)
    → AllByRecursion (HasCoefs (length rows)) (map (λ v. copy_of p rows (first v) v k) vs)
copies_have p rows first k [] = tt
copies_have p rows first k (v ∷ vs) = (copy_has p rows (first v) v k, copies_have p rows first k vs)

-- the copies of each block have coefficients in as many rows
pub blocks_have : (p : Program) (d : Decomposition) (cuts : List Row)
    → All (λ (k : Block). AllByRecursion (HasCoefs (length (proof_rows p d cuts))) k.copies) (blocking_of p d cuts).blocks
blocks_have p d cuts =
    let rows : List ProofRow = proof_rows p d cuts in
    all_blocks p d rows (λ (k : Block). AllByRecursion (HasCoefs (length rows)) k.copies)
    (λ k. copies_have p rows (λ v. is_first p d v k) k (members p d k))
    (λ v l. (copy_has p rows true v d.blocks, tt))

-- ---- the same in a zone

same_from_alike : (zone : List Span) (k l : Block) → AreAlike zone k.copies l.copies → k.rows ≡ l.rows → IsSame zone k l
same_from_alike zone k l h rows = record {
  costs = h.costs;
  spans = h.spans;
  coefs = λ i.
      coefs_by_row i k.copies ∙ ap (map (λ (es : List (ℕ × ℤ)). sum_at (λ (e : ℕ × ℤ). e.0) (λ e. e.1) es i)) h.coefs ∙ sym (coefs_by_row i l.copies);
  rows = rows;
}

-- two blocks are the same in a zone where they have one signature
pub same_from_signature : (zone : List Span) (k l : Block) → signature zone k ≡ signature zone l → IsSame zone k l
same_from_signature zone k l e = let h = signature_read zone k l e in same_from_alike zone k l h.0 h.1

-- and only there
pub signature_from_same : (n : ℕ) (zone : List Span) (k l : Block) → AllByRecursion (HasCoefs n) k.copies → AllByRecursion (HasCoefs n) l.copies
    → IsSame zone k l → signature zone k ≡ signature zone l
signature_from_same n zone k l h g same =
    signature_written zone k l (record { costs = same.costs; spans = same.spans; coefs = all_coefs_same n k.copies l.copies h g same.coefs }) same.rows

-- ---- a program in blocks

-- how many rows proofs may name
abbrev pub named_count : BlockedProgram → ℕ
named_count b = length (proof_rows b.named.program b.dec (cut_rows b.named.program b.dec [] b.cuts))

-- the blocks' copies have coefficients in as many rows
pub formed_have : (b : BlockedProgram) → IsFormed b → All (λ (k : Block). AllByRecursion (HasCoefs (named_count b)) k.copies) b.blocking.blocks
formed_have b formed =
    subst (λ (bl : Blocking). All (λ (k : Block). AllByRecursion (HasCoefs (named_count b)) k.copies) bl.blocks) (sym formed.blocking)
    (blocks_have b.named.program b.dec (cut_rows b.named.program b.dec [] b.cuts))

-- a block's variables are in each zone
pub vars_in_zone : (b : BlockedProgram) (zone : List Span) (block : Block) (k : ℕ) → IsFormed b → IsSubzone zone b.named.program.spans
    → block ≡ block_at b.blocking k → k < length b.blocking.blocks → All (λ (c : Copy). c.var < length zone) block.copies
vars_in_zone b zone block k formed inside is l =
    let known = subst (λ (bl : Blocking). All (λ (e : Block). All (λ (c : Copy). c.var < length b.named.program.spans) e.copies) bl.blocks) (sym formed.blocking)
    (decomposition_lem.adds_up b.named.program b.dec (cut_rows b.named.program b.dec [] b.cuts) formed.kept.closed (cuts_are_met_lem.closed b.named.program b.dec b.cuts)).known in
    subst (λ (e : Block). All (λ (c : Copy). c.var < length zone) e.copies) (sym is)
    (subst (λ (n : ℕ). All (λ (c : Copy). c.var < n) (block_at b.blocking k).copies) (sym (as_long zone b.named.program.spans inside)) (known k _ l))
  where
    as_long : (ys zs : List Span) → IsSubzone ys zs → length ys ≡ length zs
    as_long [] [] h = refl
    as_long [] (z ∷ zs) h = absurd h
    as_long (y ∷ ys) [] h = absurd h
    as_long (y ∷ ys) (z ∷ zs) h = ap suc (as_long ys zs h.1)
