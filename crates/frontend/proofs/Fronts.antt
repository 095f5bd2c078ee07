-- The first bytes of a file, one more than any text may have, are read as the whole file.
use Rattle.std.proofs.Common.{◌≡◌, ◌<◌, ◌≤◌, ◌+◌, ◌∙◌, ℕ, List, Option, Some, None, Result, Ok, Err, IsSome, IfSome, IfOk, IfErr, take, length, refl, ap, subst, arith, inl, inr, ◌⊎◌}
use Rattle.std.proofs.lemmas.Bool.{cases_lt}
use Rattle.std.proofs.lemmas.List.{length-take-le, take_all}
use Rattle.bp_theory.specs.Limits.{most_bytes}
use Rattle.bp_theory.specs.declared.Limits.{Limits}
use Rattle.bp_theory.specs.Decomposition.{Decomposition}
use Rattle.bp_model.specs.Named.{NamedProgram}
use Rattle.bp_shelf.specs.Shelf.{Files}
use Rattle.lp_token.specs.declared.LpKind.{LpKind}
use Rattle.lp_semantics.specs.Reading as lp_text
use Rattle.lp_semantics.specs.Model.{Means}
use Rattle.dec_read.specs.Reading as dec_text
use Rattle.dec_syntax.specs.declared.kind.DecKind.{DecKind}
use Rattle.frontend.specs.Front.{HasModel, HasDec}
use Rattle.frontend.specs.Halts.{LpHalts, DecHalts, IsLpHalt, IsDecHalt}
use Rattle.frontend.specs.declared.front.Halt.{Halt}
use Rattle.frontend.specs.declared.front.Halt.TheVariants.{Refused, Stopped}
use Rattle.bp_shelf.specs.declared.shelf.ShelfFault.TheVariants.{Missing, Failed, NoMemory}

-- of two texts that are too long, the one has the faults of the other
long_fault : (limits : Limits) (front all : List ℕ) (line : ℕ) (kind : LpKind) → most_bytes limits < length front → most_bytes limits < length all
    → lp_text.HasLpTextFault limits front line kind → lp_text.HasLpTextFault limits all line kind
long_fault limits front all line kind far long (lp_text.too_long _ at_none is_limit) = lp_text.too_long long at_none is_limit
long_fault limits front all line kind far long (lp_text.uncut short _) = absurd (omega arith)
long_fault limits front all line kind far long (lp_text.at_token short _ _ _ _ _ _) = absurd (omega arith)
long_fault limits front all line kind far long (lp_text.unended short _ _ _ _ _ _) = absurd (omega arith)
long_fault limits front all line kind far long (lp_text.in_meaning short _ _ _ _ _ _ _) = absurd (omega arith)

long_dec_fault : (front all : List ℕ) (m : NamedProgram) (line : ℕ) (kind : DecKind) → most_bytes m.program.limits < length front → most_bytes m.program.limits < length all
    → dec_text.HasDecTextFault front m line kind → dec_text.HasDecTextFault all m line kind
long_dec_fault front all m line kind far long (dec_text.too_long _ at_none is_limit) = dec_text.too_long long at_none is_limit
long_dec_fault front all m line kind far long (dec_text.at_token short _ _ _ _ _ _) = absurd (omega arith)
long_dec_fault front all m line kind far long (dec_text.at_end short _ _ _) = absurd (omega arith)

-- a front of so many bytes is the whole text, or both are too long
front_or_long : (limit : ℕ) (all front : List ℕ) (most : ℕ) → limit < most → front ≡ take most all
    → (front ≡ all) ⊎ ((limit < length front) × (limit < length all))
front_or_long limit all front most above is_front = go (cases_lt most (length all))
  where
    go : (most < length all) ⊎ (length all ≤ most) → (front ≡ all) ⊎ ((limit < length front) × (limit < length all))
    go (inl more) =
        let size : length front ≡ most = ap length is_front ∙ length-take-le most all (omega arith) in
        inr (omega arith, omega arith)
    go (inr fits) = inl (is_front ∙ take_all most all fits)

whole_means : (limits : Limits) (all front : List ℕ) (m : NamedProgram) (most : ℕ) → most_bytes limits < most → front ≡ take most all → Means limits front m → Means limits all m
whole_means limits all front m most above is_front means = go (front_or_long (most_bytes limits) all front most above is_front)
  where
    go : (front ≡ all) ⊎ ((most_bytes limits < length front) × (most_bytes limits < length all)) → Means limits all m
    go (inl same) = subst (λ (t : List ℕ). Means limits t m) same means
    go (inr far) = let short = means.1.size in let long = far.0 in absurd (omega arith)

whole_fault : (limits : Limits) (all front : List ℕ) (line : ℕ) (kind : LpKind) (most : ℕ) → most_bytes limits < most → front ≡ take most all
    → lp_text.HasLpTextFault limits front line kind → lp_text.HasLpTextFault limits all line kind
whole_fault limits all front line kind most above is_front fault = go (front_or_long (most_bytes limits) all front most above is_front)
  where
    go : (front ≡ all) ⊎ ((most_bytes limits < length front) × (most_bytes limits < length all)) → lp_text.HasLpTextFault limits all line kind
    go (inl same) = subst (λ (t : List ℕ). lp_text.HasLpTextFault limits t line kind) same fault
    go (inr far) = long_fault limits front all line kind far.0 far.1 fault

whole_reads : (all front : List ℕ) (m : NamedProgram) (d : Decomposition) (most : ℕ) → most_bytes m.program.limits < most → front ≡ take most all
    → dec_text.ReadsDecomposition front m d → dec_text.ReadsDecomposition all m d
whole_reads all front m d most above is_front reads = go (front_or_long (most_bytes m.program.limits) all front most above is_front)
  where
    go : (front ≡ all) ⊎ ((most_bytes m.program.limits < length front) × (most_bytes m.program.limits < length all)) → dec_text.ReadsDecomposition all m d
    go (inl same) = subst (λ (t : List ℕ). dec_text.ReadsDecomposition t m d) same reads
    go (inr far) = let short = reads.short in let long = far.0 in absurd (omega arith)

whole_dec_fault : (all front : List ℕ) (m : NamedProgram) (line : ℕ) (kind : DecKind) (most : ℕ) → most_bytes m.program.limits < most → front ≡ take most all
    → dec_text.HasDecTextFault front m line kind → dec_text.HasDecTextFault all m line kind
whole_dec_fault all front m line kind most above is_front fault = go (front_or_long (most_bytes m.program.limits) all front most above is_front)
  where
    go : (front ≡ all) ⊎ ((most_bytes m.program.limits < length front) × (most_bytes m.program.limits < length all)) → dec_text.HasDecTextFault all m line kind
    go (inl same) = subst (λ (t : List ℕ). dec_text.HasDecTextFault t m line kind) same fault
    go (inr far) = long_dec_fault front all m line kind far.0 far.1 fault

-- one byte more than limits allow is past them
pub past_limits : (limits asked : Limits) → asked ≡ limits → most_bytes limits < most_bytes asked + 1
past_limits limits asked same = omega (arith, ap most_bytes same)

-- what is read of a model's file
pub model_read : (limits : Limits) (file : Option (List ℕ)) (front : List ℕ) (m : NamedProgram) (most : ℕ) → most_bytes limits < most → IsSome file
    → IfSome file (λ all. front ≡ take most all) → Means limits front m → HasModel limits file m
model_read limits None front m most above there is_front means = let none : ⊥ = cc in absurd none
model_read limits (Some all) front m most above there is_front means =
    record { text = all; there = refl; means = whole_means limits all front m most above is_front means }

pub model_halts : (limits : Limits) (file : Option (List ℕ)) (front : List ℕ) (halt : Halt) (most : ℕ) → most_bytes limits < most → IsSome file
    → IfSome file (λ all. front ≡ take most all) → IsLpHalt limits front halt → LpHalts limits file halt
model_halts limits None front halt most above there is_front halts = let none : ⊥ = cc in absurd none
model_halts limits (Some all) front (Refused report) most above there is_front halts = record {
  text = all;
  line = halts.0;
  kind = halts.1;
  there = refl;
  fault = whole_fault limits all front halts.0 halts.1 most above is_front halts.2;
  printed = halts.3;
}
model_halts limits (Some all) front (Stopped Missing) most above there is_front halts = absurd (cc)
model_halts limits (Some all) front (Stopped Failed) most above there is_front halts = tt
model_halts limits (Some all) front (Stopped NoMemory) most above there is_front halts = tt

pub models : {T : Type 0} (limits : Limits) (file : Option (List ℕ)) (front : List ℕ) (r : Result NamedProgram T) (most : ℕ) → most_bytes limits < most → IsSome file
    → IfSome file (λ all. front ≡ take most all) → IfOk r (Means limits front) → IfOk r (HasModel limits file)
models limits file front (Ok m) most above there is_front means = model_read limits file front m most above there is_front means
models limits file front (Err e) most above there is_front means = tt

pub halted_models : {T : Type 0} (limits : Limits) (file : Option (List ℕ)) (front : List ℕ) (r : Result T Halt) (most : ℕ) → most_bytes limits < most → IsSome file
    → IfSome file (λ all. front ≡ take most all) → IfErr r (IsLpHalt limits front) → IfErr r (LpHalts limits file)
halted_models limits file front (Ok m) most above there is_front halts = tt
halted_models limits file front (Err halt) most above there is_front halts = model_halts limits file front halt most above there is_front halts

-- what is read of a named file of a decomposition
dec_found : (files : Files) (m : NamedProgram) (name front : List ℕ) (file : Option (List ℕ)) (d : Decomposition) (most : ℕ) → most_bytes m.program.limits < most
    → files name ≡ file → IsSome file → IfSome file (λ all. front ≡ take most all) → dec_text.ReadsDecomposition front m d → HasDec files m (Some name) d
dec_found files m name front None d most above is there is_front reads = let none : ⊥ = cc in absurd none
dec_found files m name front (Some all) d most above is there is_front reads = (all, is, whole_reads all front m d most above is_front reads)

dec_halts : (files : Files) (m : NamedProgram) (name front : List ℕ) (file : Option (List ℕ)) (halt : Halt) (most : ℕ) → most_bytes m.program.limits < most
    → files name ≡ file → IsSome file → IfSome file (λ all. front ≡ take most all) → IsDecHalt front m halt → DecHalts files m (Some name) halt
dec_halts files m name front None halt most above is there is_front halts = let none : ⊥ = cc in absurd none
dec_halts files m name front (Some all) (Refused report) most above is there is_front halts =
    (all, halts.0, halts.1, is, whole_dec_fault all front m halts.0 halts.1 most above is_front halts.2, halts.3)
dec_halts files m name front (Some all) (Stopped Missing) most above is there is_front halts = absurd (cc)
dec_halts files m name front (Some all) (Stopped Failed) most above is there is_front halts = tt
dec_halts files m name front (Some all) (Stopped NoMemory) most above is there is_front halts = tt

pub decs : {T : Type 0} (files : Files) (m : NamedProgram) (name front : List ℕ) (r : Result Decomposition T) (most : ℕ) → most_bytes m.program.limits < most
    → IsSome (files name) → IfSome (files name) (λ all. front ≡ take most all) → IfOk r (dec_text.ReadsDecomposition front m) → IfOk r (HasDec files m (Some name))
decs files m name front (Ok d) most above there is_front reads = dec_found files m name front (files name) d most above refl there is_front reads
decs files m name front (Err e) most above there is_front reads = tt

pub halted_decs : {T : Type 0} (files : Files) (m : NamedProgram) (name front : List ℕ) (r : Result T Halt) (most : ℕ) → most_bytes m.program.limits < most
    → IsSome (files name) → IfSome (files name) (λ all. front ≡ take most all) → IfErr r (IsDecHalt front m) → IfErr r (DecHalts files m (Some name))
halted_decs files m name front (Ok d) most above there is_front halts = tt
halted_decs files m name front (Err halt) most above there is_front halts = dec_halts files m name front (files name) halt most above refl there is_front halts
