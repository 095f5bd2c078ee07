-- Forms of blocks, and room for points, place by place.
use Rattle.std.proofs.Common.{◌≡◌, refl, sym, ap, subst, ◌∙◌, ℕ, zero, suc, ◌+◌, ◌<◌, true, false, if◌then◌else◌, List, [], ◌∷◌, ◌++◌, map, take, length, get_or, set, Option, Some, None, ⊎_elim, arith}
use Rattle.std.proofs.lemmas.Bool.{cases_lt}
use Rattle.std.proofs.lemmas.List.{get_or-set_same, get_or-set_other, get_or_append_left, get_or_at, length-append, get_or-map, get_or_past, length-map, length-set, map-append, take_more}
use Rattle.std.proofs.Math.IntN.{ℤ}
use Rattle.std.specs.Prelude.{All}
use Rattle.bp_theory.specs.Program.{span_at, IsWithin}
use Rattle.bp_theory.specs.Blocking.{Copy, Block}
use Rattle.bp_theory.proofs.ZipLaws.{AllZip-length}
use Rattle.block_pricers.specs.Told.{told_point, room_of}
use Rattle.block_pricers.specs.declared.told.Told.{Told}
use Rattle.bp_theory.specs.Bound.{spans_of}
use Rattle.bp_theory.specs.declared.Span.{Span}
use Rattle.block_program.specs.Blocked.{BlockedProgram, RootBlock, IsFormed}
use Rattle.pricing_problem.specs.Form.{IsForm}
use Rattle.pricing_problem.specs.Priced.{IsCheapest}
use Rattle.pricing_problem.proofs.BlockLaws.{blocks_have_form_lem}
use Rattle.block_pricers.specs.Forms.{BlockForm, no_form, form_at, form_in, form_with, forms_in, span_count}
use Rattle.search_laws.specs.Spread.{block_at}

-- one place more has none
pub none_more : {X : Type 0} (xs : List (Option X)) (k : ℕ) (v : Option X) → v ≡ None → ((i : ℕ) → i < k → get_or xs i None ≡ None)
    → (i : ℕ) → i < k + 1 → get_or (set xs k v) i None ≡ None
none_more xs k v e had i m = ⊎_elim
    (λ below. get_or-set_other xs k i v None (λ same. omega (arith, same, below)) ∙ had i below)
    (λ above.
    let same : i ≡ k = omega (arith, m, above) in
    ap (λ n. get_or (set xs k v) n None) same ∙ ⊎_elim
    (λ there. get_or-set_same xs k v None there ∙ e)
    (λ past. get_or_past (set xs k v) k None (omega (arith, past, length-set xs k v)))
    (cases_lt k (length xs)))
    (cases_lt i k)

-- an element that shows the same
pub map-set_alike : {X Y : Type 0} (f : X → Y) (xs : List X) (k : ℕ) (a d : X) → k < length xs → f a ≡ f (get_or xs k d) → map f (set xs k a) ≡ map f xs
map-set_alike f [] k a d l e = absurd (omega (arith, l))
map-set_alike f (x ∷ xs) zero a d l e = ap (λ y. y ∷ map f xs) e
map-set_alike f (x ∷ xs) (suc k) a d l e = ap (λ ys. f x ∷ ys) (map-set_alike f xs k a d (omega (arith, l)) e)

-- the form of a block of a program in blocks
pub form_in_at : (b : BlockedProgram) (k : RootBlock) (number : ℕ) → number < length b.blocking.blocks
    → ((d : Block) → k.block ≡ get_or b.blocking.blocks number d) → k.spans ≡ spans_of b.named.program.spans k.block
    → form_in k ≡ form_at (forms_in b) number
form_in_at b k number l is_block spans_are =
    let none : Block = record { copies = []; rows = [] } in
    ap (form_of_spans k) spans_are ∙ ap (form_with b.named.program.spans) (is_block none)
    ∙ sym (get_or-map (form_with b.named.program.spans) b.blocking.blocks number none no_form l)
  where
    form_of_spans : RootBlock → List Span → BlockForm
    form_of_spans k ss = record { rows = k.block.rows; spans = ss }

-- each block of a program in blocks keeps the limits of pricing
pub has_form : (b : BlockedProgram) (k : RootBlock) (number : ℕ) → IsFormed b → number < length b.blocking.blocks
    → ((d : Block) → k.block ≡ get_or b.blocking.blocks number d) → k.spans ≡ spans_of b.named.program.spans k.block → IsForm k.block.rows k.spans
has_form b k number formed l is_block spans_are =
    let none : Block = record { copies = []; rows = [] } in
    subst (IsForm k.block.rows) (sym spans_are)
    (subst (λ (c : Block). IsForm c.rows (spans_of b.named.program.spans c)) (sym (is_block none)) (blocks_have_form_lem b formed number none l))

-- a point that is told, and one that isn't
pub told_is : (told : Told) → told.tells ≡ true → told_point told ≡ Some told.numbers.items
told_is told e = ap (λ t. if t then Some told.numbers.items else None) e

pub silent_is : (told : Told) → told.tells ≡ false → told_point told ≡ None
silent_is told e = ap (λ t. if t then Some told.numbers.items else None) e

pub none_end : {X : Type 0} (xs : List (Option X)) (v : Option X) → v ≡ None → ((i : ℕ) → get_or xs i None ≡ None) → (i : ℕ) → get_or (xs ++ v ∷ []) i None ≡ None
none_end [] v e h zero = e
none_end [] v e h (suc i) = refl
none_end (x ∷ xs) v e h zero = h 0
none_end (x ∷ xs) v e h (suc i) = none_end xs v e (λ j. h (suc j)) i

-- room for the point of one block more
pub one_room_more : (b : BlockedProgram) (k : RootBlock) (n : ℕ) (told all : List Told) (room : Told) → n < length b.blocking.blocks
    → ((d : Block) → k.block ≡ get_or b.blocking.blocks n d) → k.spans ≡ spans_of b.named.program.spans k.block
    → all ≡ told ++ room ∷ [] → room_of room ≡ length k.spans → told_point room ≡ None
    → map room_of told ≡ take n (map span_count (forms_in b)) → ((i : ℕ) → get_or (map told_point told) i None ≡ None)
    → (map room_of all ≡ take (n + 1) (map span_count (forms_in b))) × ((i : ℕ) → get_or (map told_point all) i None ≡ None)
one_room_more b k n told all room l is_block spans_are e rooms silent had none_had =
    let there : n < length (forms_in b) = omega (arith, l, length-map b.blocking.blocks (form_with b.named.program.spans)) in
    let wide : n < length (map span_count (forms_in b)) = omega (arith, there, length-map (forms_in b) span_count) in
    let at : room_of room ≡ get_or (map span_count (forms_in b)) n 0 =
    rooms ∙ ap span_count (form_in_at b k n l is_block spans_are) ∙ sym (get_or-map span_count (forms_in b) n no_form 0 there) in (
      ap (λ (ts : List Told). map room_of ts) e
          ∙ map-append room_of told (room ∷ [])
          ∙ ap (λ (ns : List ℕ). ns ++ room_of room ∷ []) had
          ∙ ap (λ n'. take n (map span_count (forms_in b)) ++ n' ∷ []) at
          ∙ sym (take_more (map span_count (forms_in b)) n 0 wide),
      λ i. ap (λ (ts : List Told). get_or (map told_point ts) i None) e
          ∙ ap (λ (os : List (Option (List ℤ))). get_or os i None) (map-append told_point told (room ∷ []))
          ∙ none_end (map told_point told) (told_point room) silent none_had i,
    )

pub all_more : {X : Type 0} (P : X → Type 0) (xs : List X) (x : X) → All P xs → P x → All P (xs ++ x ∷ [])
all_more P xs x h px k d l = ⊎_elim
    (λ less. subst P (sym (get_or_append_left xs (x ∷ []) d k less)) (h k d less))
    (λ more. subst P (sym (get_or_at xs x [] d k (omega (arith, l, more, length-append xs (x ∷ []))))) px)
    (cases_lt k (length xs))

-- a point of a block has as many numbers as the block's form has spans
pub point_fits : (b : BlockedProgram) (forms : List BlockForm) (k : ℕ) (zone : List Span) (costs y : List ℤ) (v : ℤ) → forms ≡ forms_in b
    → k < length b.blocking.blocks → IsCheapest (block_at b.blocking k).rows (spans_of zone (block_at b.blocking k)) costs y v
    → length y ≡ span_count (form_at forms k)
point_fits b forms k zone costs y v e l h =
    let block : Block = block_at b.blocking k in
    let own : form_at forms k ≡ form_with b.named.program.spans block =
    ap (λ (fs : List BlockForm). form_at fs k) e
    ∙ get_or-map (form_with b.named.program.spans) b.blocking.blocks k (record { copies = []; rows = [] }) no_form l in
    let long : length (spans_of zone block) ≡ length y = AllZip-length IsWithin (spans_of zone block) y h.is_point.inside in
    let many : span_count (form_at forms k) ≡ length (spans_of b.named.program.spans block) = ap span_count own in
    omega (
      arith,
      long,
      many,
      length-map block.copies (λ (c : Copy). span_at zone c.var),
      length-map block.copies (λ (c : Copy). span_at b.named.program.spans c.var),
    )
