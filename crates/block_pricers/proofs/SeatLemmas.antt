-- Blocks and the desks that they share.
use Rattle.std.proofs.Common.{◌≡◌, refl, sym, ap, subst, ◌∙◌, ℕ, ◌+◌, ◌<◌, List, [], ◌∷◌, ◌++◌, map, length, length-append, get_or, All, ⊎_elim, arith}
use Rattle.std.proofs.lemmas.Bool.{cases_lt}
use Rattle.std.proofs.lemmas.List.{ext_get_or, get_or_append_left, get_or_at, get_or_default, get_or-map, length-map}
use Rattle.block_pricers.specs.Forms.{BlockForm, no_form, form_at, span_count}
use Rattle.block_pricers.specs.Told.{room_of}
use Rattle.block_pricers.specs.declared.told.Told.{Told}
use Rattle.block_pricers.specs.Seats.{IsSeat, AreSeated, AreGrown}
use Rattle.block_pricers.proofs.FormLemmas.{all_more}

-- no block is seated
pub none_seated : (forms : List BlockForm) (firsts : List ℕ) → firsts ≡ [] → AreSeated forms 0 [] firsts
none_seated forms firsts e = record {
  each = refl;
  made = subst (All (λ j. j < length forms)) (sym e) (λ k d l. absurd (omega (arith, l)));
  seat = λ j l. absurd (omega (arith, l));
}

-- first blocks and seats that stay
pub firsts_grown : (many : ℕ) (before : List ℕ) (block : ℕ) (now : List ℕ) → AreGrown before block now → block < many
    → All (λ j. j < many) before → All (λ j. j < many) now
firsts_grown many before block now grown l had = ⊎_elim
    (λ same. subst (All (λ j. j < many)) (sym same) had)
    (λ more. subst (All (λ j. j < many)) (sym more) (all_more (λ j. j < many) before block had l))
    grown

seat_more : (forms : List BlockForm) (before : List ℕ) (block j seat : ℕ) → IsSeat forms before j seat → IsSeat forms (before ++ block ∷ []) j seat
seat_more forms before block j seat had = record {
  there = omega (arith, had.there, length-append before (block ∷ []));
  same = ap (form_at forms) (get_or_append_left before (block ∷ []) 0 seat had.there) ∙ had.same;
}

pub seat_grown : (forms : List BlockForm) (before : List ℕ) (block : ℕ) (now : List ℕ) (j seat : ℕ) → AreGrown before block now
    → IsSeat forms before j seat → IsSeat forms now j seat
seat_grown forms before block now j seat grown had = ⊎_elim
    (λ same. subst (λ (firsts : List ℕ). IsSeat forms firsts j seat) (sym same) had)
    (λ more. subst (λ (firsts : List ℕ). IsSeat forms firsts j seat) (sym more) (seat_more forms before block j seat had))
    grown

-- a block that is a first block of its own
pub own_seat : (forms : List BlockForm) (before : List ℕ) (block seat : ℕ) (now : List ℕ) → seat ≡ length before → now ≡ before ++ block ∷ []
    → IsSeat forms now block seat
own_seat forms before block seat now e more = subst (λ (firsts : List ℕ). IsSeat forms firsts block seat) (sym more) (record {
  there = omega (arith, e, length-append before (block ∷ []));
  same = ap (form_at forms) (get_or_at before block [] 0 seat (sym e));
})

-- one block more has a seat
pub one_seated_more : (forms : List BlockForm) (block : ℕ) (seats before now all : List ℕ) (seat : ℕ) → block < length forms → AreGrown before block now
    → AreSeated forms block seats before → IsSeat forms now block seat → all ≡ seats ++ seat ∷ [] → AreSeated forms (block + 1) all now
one_seated_more forms block seats before now all seat l grown had own e = subst (λ (xs : List ℕ). AreSeated forms (block + 1) xs now) (sym e) (record {
  each = omega (arith, had.each, length-append seats (seat ∷ []));
  made = firsts_grown (length forms) before block now grown l had.made;
  seat = λ j m. ⊎_elim
      (λ below.
      subst (IsSeat forms now j) (sym (get_or_append_left seats (seat ∷ []) 0 j (omega (arith, below, had.each))))
      (seat_grown forms before block now j (get_or seats j 0) grown (had.seat j below)))
      (λ above. last j (omega (arith, m, above)))
      (cases_lt j block);
})
  where
    last : (j : ℕ) → j ≡ block → IsSeat forms now j (get_or (seats ++ seat ∷ []) j 0)
    last j same =
        subst (λ n. IsSeat forms now n (get_or (seats ++ seat ∷ []) n 0)) (sym same)
        (subst (IsSeat forms now block) (sym (get_or_at seats seat [] 0 block had.each)) own)

-- the forms of the desks, block by block
pub seated_forms : (forms : List BlockForm) (k : ℕ) (seats firsts : List ℕ) → k ≡ length forms → AreSeated forms k seats firsts
    → map (form_at (map (form_at forms) firsts)) seats ≡ forms
seated_forms forms k seats firsts e had =
    let many : length (map (form_at (map (form_at forms) firsts)) seats) ≡ length forms = length-map seats (form_at (map (form_at forms) firsts)) ∙ had.each ∙ e in
    ext_get_or no_form (map (form_at (map (form_at forms) firsts)) seats) forms many
    (λ i l. at i (omega (arith, l, many, e)))
  where
    at : (i : ℕ) → i < k → get_or (map (form_at (map (form_at forms) firsts)) seats) i no_form ≡ get_or forms i no_form
    at i l =
        get_or-map (form_at (map (form_at forms) firsts)) seats i 0 no_form (omega (arith, l, had.each))
        ∙ get_or-map (form_at forms) firsts (get_or seats i 0) 0 no_form (had.seat i l).there
        ∙ (had.seat i l).same

-- each seat is there
pub seats_there : (forms : List BlockForm) (k : ℕ) (seats firsts : List ℕ) → AreSeated forms k seats firsts → All (λ seat. seat < length firsts) seats
seats_there forms k seats firsts had j d l = by (get_or seats j d) (get_or seats j 0) (same d) (had.seat j (omega (arith, l, had.each))).there
  where
    same : (d : ℕ) → get_or seats j d ≡ get_or seats j 0
    same d = get_or_default seats j d 0 l

    by : (x y : ℕ) → x ≡ y → y < length firsts → x < length firsts
    by x y e h = omega (arith, e, h)

-- the room for a block's point
pub told_many : (told : List Told) (forms : List BlockForm) → map room_of told ≡ map span_count forms → length told ≡ length forms
told_many told forms e =
    let many : length (map room_of told) ≡ length (map span_count forms) = ap (λ (ns : List ℕ). length ns) e in
    omega (arith, many, length-map told room_of, length-map forms span_count)

pub room_at : (told : List Told) (forms : List BlockForm) (k : ℕ) (own : Told) → k < length forms → own ≡ get_or told k own
    → map room_of told ≡ map span_count forms → room_of own ≡ span_count (form_at forms k)
room_at told forms k own l is e =
    ap room_of is
    ∙ sym (get_or-map room_of told k own 0 (omega (arith, l, told_many told forms e)))
    ∙ ap (λ (ns : List ℕ). get_or ns k 0) e
    ∙ get_or-map span_count forms k no_form 0 l
