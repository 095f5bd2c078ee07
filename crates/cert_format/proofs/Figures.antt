-- Whether a text begins with a number.
use Rattle.std.proofs.Common.{◌≡◌, ◌≢◌, ◌⊎◌, ℕ, zero, suc, ◌+◌, ◌-◌, ◌*◌, ◌/◌, ◌%◌, ◌<◌, ◌≤◌, Bool, true, false, List, [], ◌∷◌, ◌++◌, ℤ, pos, negsuc, refl, sym, ap, ◌∙◌, subst, inl, inr, ⊎_elim, arith, nat_lt, add-one}
use Rattle.std.proofs.lemmas.Bool.{ltb-true, ltb-false, cases_lt, cases_eq}
use Rattle.cert_format.specs.Text.{digits_before, numeral, signed_numeral}
use Rattle.cert_format.specs.Fault.{EndsNumber}
use Rattle.cert_format.proofs.Numerals.{BeginsWithDigit, digit_apart, digits_before-append, numeral-begins}

-- a choice by a test, as `digits_before` makes it
abbrev choice : Bool → List ℕ → List ℕ → List ℕ
choice test whole more = elim test as (λ _. List ℕ) [ true ↦ whole | false ↦ more ]

-- more digits than a number has don't change its text
digits_before-count : (a b n : ℕ) (text : List ℕ) → n < a → n < b → digits_before a n text ≡ digits_before b n text
unfolding digits_before
digits_before-count zero b n text less_a less_b = absurd (omega arith)
digits_before-count (suc a) zero n text less_a less_b = absurd (omega arith)
digits_before-count (suc a) (suc b) n text less_a less_b =
    same_choice (nat_lt n 10) refl (λ large. digits_before-count a b (n / 10) ((48 + n % 10) ∷ text) (omega arith) (omega arith)) where
      same_choice : (test : Bool) → nat_lt n 10 ≡ test → (10 ≤ n → digits_before a (n / 10) ((48 + n % 10) ∷ text) ≡ digits_before b (n / 10) ((48 + n % 10) ∷ text)) → choice test ((48 + n % 10) ∷ text) (digits_before a (n / 10) ((48 + n % 10) ∷ text)) ≡ choice test ((48 + n % 10) ∷ text) (digits_before b (n / 10) ((48 + n % 10) ∷ text))
      same_choice true is again = refl
      same_choice false is again = again (ltb-false n 10 is)

-- a number's digits and one more
digits_before-more : (n d : ℕ) (text : List ℕ) → 0 < n → d < 10 → digits_before (10 * n + d + 1) (10 * n + d) text ≡ digits_before (n + 1) n ((48 + d) ∷ text)
unfolding digits_before
digits_before-more n d text some small = rw (add-one (10 * n + d)) (opened (nat_lt (10 * n + d) 10) refl) where
  opened : (test : Bool) → nat_lt (10 * n + d) 10 ≡ test → choice test ((48 + (10 * n + d) % 10) ∷ text) (digits_before (10 * n + d) ((10 * n + d) / 10) ((48 + (10 * n + d) % 10) ∷ text)) ≡ digits_before (n + 1) n ((48 + d) ∷ text)
  opened true is = let wrong : 10 * n + d < 10 = ltb-true (10 * n + d) 10 is in absurd (omega arith)
  opened false is =
      let part : (10 * n + d) / 10 ≡ n = omega arith in
      let rest : (10 * n + d) % 10 ≡ d = omega arith in
      let a : n < 10 * n + d = omega arith in
      let b : n < n + 1 = omega arith in
      let first = ap (λ (m : ℕ). digits_before (10 * n + d) m ((48 + (10 * n + d) % 10) ∷ text)) part in
      let second = ap (λ (m : ℕ). digits_before (10 * n + d) n ((48 + m) ∷ text)) rest in
      first ∙ second ∙ digits_before-count (10 * n + d) (n + 1) n ((48 + d) ∷ text) a b

-- a positive numeral with a digit behind it is a longer numeral
pub numeral-digit : (n d : ℕ) (rest : List ℕ) → 0 < n → d < 10 → numeral n ++ ((48 + d) ∷ rest) ≡ numeral (10 * n + d) ++ rest
unfolding numeral
numeral-digit n d rest some small =
    digits_before-append (n + 1) n [] ((48 + d) ∷ rest) ∙ sym (digits_before-more n d rest some small) ∙ sym (digits_before-append (10 * n + d + 1) (10 * n + d) [] rest)

-- the first byte isn't the digit 0
abbrev pub IsNotZero : List ℕ → Type 0
IsNotZero [] = Unit {0}
IsNotZero (b ∷ bs) = b ≢ 48

digits_before-positive : (count n : ℕ) (text : List ℕ) → n < count → 0 < n → IsNotZero (digits_before count n text)
unfolding digits_before
digits_before-positive zero n text less some = absurd (omega arith)
digits_before-positive (suc count) n text less some =
    opened (nat_lt n 10) refl (λ large. digits_before-positive count (n / 10) ((48 + n % 10) ∷ text) (omega arith) (omega arith)) where
      opened : (test : Bool) → nat_lt n 10 ≡ test → (10 ≤ n → IsNotZero (digits_before count (n / 10) ((48 + n % 10) ∷ text))) → IsNotZero (choice test ((48 + n % 10) ∷ text) (digits_before count (n / 10) ((48 + n % 10) ∷ text)))
      opened true is again = let small : n < 10 = ltb-true n 10 is in λ e. omega arith
      opened false is again = again (ltb-false n 10 is)

-- a positive numeral doesn't begin with the digit 0
pub numeral-positive : (n : ℕ) (rest : List ℕ) → 0 < n → IsNotZero (numeral n ++ rest)
unfolding numeral
numeral-positive n rest some = let less : n < n + 1 = omega arith in rw (digits_before-append (n + 1) n [] rest) (digits_before-positive (n + 1) n rest less some)

-- what may stand behind a place in other texts that go on as this one does there
abbrev pub GoesOn : List ℕ → List ℕ → Type 0
GoesOn [] [] = Unit {0}
GoesOn (b ∷ bs) (c ∷ cs) = b ≡ c
GoesOn _ _ = ⊥

pub goes_on : (rest : List ℕ) → GoesOn rest rest
goes_on [] = tt
goes_on (b ∷ bs) = refl

-- a digit or another byte
digit_cases : (b : ℕ) → ((d : ℕ) × (d < 10) × (b ≡ 48 + d)) ⊎ (48 ≤ b → b ≤ 57 → ⊥)
digit_cases b = ⊎_elim
    (λ below. inr (λ low high. omega arith))
    (λ above. ⊎_elim
    (λ inside. let small : b - 48 < 10 = omega arith in let is : b ≡ 48 + (b - 48) = omega arith in inl (b - 48, small, is))
    (λ past. inr (λ low high. omega arith))
    (cases_lt b 58))
    (cases_lt b 48)

-- the text begins with a natural number
pub record FoundNatural (text : List ℕ) : Type 0 where
  pub number : ℕ
  pub rest : List ℕ
  pub bytes : text ≡ numeral number ++ rest
  pub ends : EndsNumber rest

-- it doesn't: it begins as one does up to a place, where it goes on as none does
pub record StopsNatural (text : List ℕ) : Type 0 where
  pub partial : List ℕ
  pub rest : List ℕ
  pub bytes : text ≡ partial ++ rest
  pub number : ℕ
  pub more : List ℕ
  pub begins : numeral number ≡ partial ++ more
  pub barred : (n : ℕ) (r s : List ℕ) → EndsNumber r → GoesOn rest s → numeral n ++ r ≡ partial ++ s → ⊥

-- the digits behind a positive number
positive_read : (n : ℕ) (s : List ℕ) → 0 < n → (found : FoundNatural (numeral n ++ s)) × (0 < found.number)
positive_read n [] some = (record { number = n; rest = []; bytes = refl; ends = tt }, some)
positive_read n (b ∷ s) some =
    ⊎_elim
    (λ digit.
    let longer : 0 < 10 * n + digit.0 = omega arith in
    let more = positive_read (10 * n + digit.0) s longer in
    let same : numeral n ++ b ∷ s ≡ numeral (10 * n + digit.0) ++ s = ap (λ (c : ℕ). numeral n ++ c ∷ s) digit.2 ∙ numeral-digit n digit.0 s some digit.1 in
    (record { number = more.0.number; rest = more.0.rest; bytes = same ∙ more.0.bytes; ends = more.0.ends }, more.1))
    (λ other. (record { number = n; rest = b ∷ s; bytes = refl; ends = other }, some))
    (digit_cases b)

-- one digit
pub numeral-small : (d : ℕ) → d < 10 → numeral d ≡ (48 + d) ∷ []
unfolding numeral digits_before
numeral-small d small = rw (add-one d) (opened (nat_lt d 10) refl) where
  opened : (test : Bool) → nat_lt d 10 ≡ test → choice test ((48 + d % 10) ∷ []) (digits_before d (d / 10) ((48 + d % 10) ∷ [])) ≡ (48 + d) ∷ []
  opened true is = let same : d % 10 ≡ d = omega arith in ap (λ (m : ℕ). (48 + m) ∷ []) same
  opened false is = let large : 10 ≤ d = ltb-false d 10 is in absurd (omega arith)

-- nothing is a numeral
numeral_some : (n : ℕ) (r : List ℕ) → numeral n ++ r ≡ [] → ⊥
numeral_some n r none = let P : List ℕ → Type 0 = BeginsWithDigit in subst P none (numeral-begins n r)

-- behind a 0 stands no digit
pub zero_barred : (c : ℕ) (n : ℕ) (r s bs : List ℕ) → (48 ≤ c) × (c ≤ 57) → EndsNumber r → GoesOn (c ∷ bs) s → numeral n ++ r ≡ 48 ∷ s → ⊥
zero_barred c n r [] bs digit ends goes same = goes
zero_barred c n r (b ∷ s) bs digit ends goes same =
    ⊎_elim
    (λ zero_is.
    let P : ℕ → Type 0 = λ m. numeral m ++ r ≡ 48 ∷ b ∷ s in
    let small : 0 < 10 = omega arith in
    let plain : 48 ∷ r ≡ 48 ∷ b ∷ s = sym (ap (λ (xs : List ℕ). xs ++ r) (numeral-small 0 small)) ∙ subst P zero_is same in
    let tails : r ≡ b ∷ s = cc in
    let there : EndsNumber (b ∷ s) = subst EndsNumber tails ends in
    there (subst (λ (m : ℕ). 48 ≤ m) goes digit.0) (subst (λ (m : ℕ). m ≤ 57) goes digit.1))
    (λ other. let some : 0 < n = omega arith in (subst IsNotZero same (numeral-positive n r some)) refl)
    (cases_eq n 0)

-- a text that doesn't begin with a digit
pub other_barred : (b : ℕ) (n : ℕ) (r s bs : List ℕ) → (48 ≤ b → b ≤ 57 → ⊥) → GoesOn (b ∷ bs) s → numeral n ++ r ≡ s → ⊥
other_barred b n r [] bs other goes same = goes
other_barred b n r (c ∷ s) bs other goes same = digit_apart (numeral n ++ r) s b (numeral-begins n r) other (same ∙ ap (λ (m : ℕ). m ∷ s) (sym goes))

pub empty_barred : (n : ℕ) (r s : List ℕ) → GoesOn [] s → numeral n ++ r ≡ s → ⊥
empty_barred n r [] goes same = numeral_some n r same
empty_barred n r (c ∷ s) goes same = goes

-- behind the digit 0
zero_read : (s : List ℕ) → FoundNatural (48 ∷ s) ⊎ StopsNatural (48 ∷ s)
zero_read [] = let small : 0 < 10 = omega arith in inl (record { number = 0; rest = []; bytes = sym (ap (λ (xs : List ℕ). xs ++ []) (numeral-small 0 small)); ends = tt })
zero_read (c ∷ s) =
    let small : 0 < 10 = omega arith in
    ⊎_elim
    (λ digit.
    let low : 48 ≤ c = omega arith in
    let high : c ≤ 57 = omega arith in
    inr (record { partial = 48 ∷ []; rest = c ∷ s; bytes = refl; number = 0; more = []; begins = numeral-small 0 small; barred = λ n r t ends goes same. zero_barred c n r t s (low, high) ends goes same }))
    (λ other. inl (record { number = 0; rest = c ∷ s; bytes = sym (ap (λ (xs : List ℕ). xs ++ c ∷ s) (numeral-small 0 small)); ends = other }))
    (digit_cases c)

pub natural_read : (t : List ℕ) → FoundNatural t ⊎ StopsNatural t
natural_read [] = inr (record { partial = []; rest = []; bytes = refl; number = 0; more = numeral 0; begins = refl; barred = λ n r s ends goes same. empty_barred n r s goes same })
natural_read (b ∷ s) =
    ⊎_elim
    (λ digit. ⊎_elim
    (λ zero_is.
    let is : b ≡ 48 = omega arith in
    let P : ℕ → Type 0 = λ m. FoundNatural (m ∷ s) ⊎ StopsNatural (m ∷ s) in subst P (sym is) (zero_read s))
    (λ some.
    let positive : 0 < digit.0 = omega arith in
    let found = (positive_read digit.0 s positive).0 in
    let same : b ∷ s ≡ numeral digit.0 ++ s = ap (λ (m : ℕ). m ∷ s) digit.2 ∙ sym (ap (λ (xs : List ℕ). xs ++ s) (numeral-small digit.0 digit.1)) in
    inl (record { number = found.number; rest = found.rest; bytes = same ∙ found.bytes; ends = found.ends }))
    (cases_eq digit.0 0))
    (λ other. inr (record { partial = []; rest = b ∷ s; bytes = refl; number = 0; more = numeral 0; begins = refl; barred = λ n r t ends goes same. other_barred b n r t s other goes same }))
    (digit_cases b)

-- the same with signs
pub record FoundInteger (text : List ℕ) : Type 0 where
  pub number : ℤ
  pub rest : List ℕ
  pub bytes : text ≡ signed_numeral number ++ rest
  pub ends : EndsNumber rest

pub record StopsInteger (text : List ℕ) : Type 0 where
  pub partial : List ℕ
  pub rest : List ℕ
  pub bytes : text ≡ partial ++ rest
  pub number : ℤ
  pub more : List ℕ
  pub begins : signed_numeral number ≡ partial ++ more
  pub barred : (z : ℤ) (r s : List ℕ) → EndsNumber r → GoesOn rest s → signed_numeral z ++ r ≡ partial ++ s → ⊥

-- behind a minus stands a positive number
pub minus_barred : (z : ℤ) (r s bs : List ℕ) → (s ≡ [] → ⊥) ⊎ Unit {0} → ((m : ℕ) → numeral (m + 1) ++ r ≡ s → ⊥) → signed_numeral z ++ r ≡ 45 ∷ s → ⊥
minus_barred (pos n) r s bs any none same = digit_apart (numeral n ++ r) s 45 (numeral-begins n r) (λ low high. omega arith) same
minus_barred (negsuc m) r s bs any none same = none m (let tails : numeral (m + 1) ++ r ≡ s = cc in tails)

-- a positive numeral begins with a digit other than 0
pub positive_barred : (b m : ℕ) (r s bs : List ℕ) → (49 ≤ b → b ≤ 57 → ⊥) → GoesOn (b ∷ bs) s → numeral (m + 1) ++ r ≡ s → ⊥
positive_barred b m r [] bs other goes same = goes
positive_barred b m r (c ∷ s) bs other goes same =
    let some : 0 < m + 1 = omega arith in
    let digit : BeginsWithDigit (c ∷ s) = subst BeginsWithDigit same (numeral-begins (m + 1) r) in
    let low : 48 ≤ c = digit.0 in
    let high : c ≤ 57 = digit.1 in
    let not_zero : c ≢ 48 = subst IsNotZero same (numeral-positive (m + 1) r some) in
    let is : b ≡ c = goes in
    other (omega arith) (omega arith)

minus_read : (s : List ℕ) → FoundInteger (45 ∷ s) ⊎ StopsInteger (45 ∷ s)
minus_read [] = inr (record { partial = 45 ∷ []; rest = []; bytes = refl; number = negsuc 0; more = numeral (0 + 1); begins = refl; barred = λ z r s ends goes same. minus_barred z r s [] (inr tt) (λ m e. empty_barred (m + 1) r s goes e) same })
minus_read (c ∷ s) =
    ⊎_elim
    (λ digit. ⊎_elim
    (λ zero_is. let is : c ≡ 48 = omega arith in stopped (λ low high. omega arith))
    (λ other.
    let positive : 0 < digit.0 = omega arith in
    let found = positive_read digit.0 s positive in
    let number : ℕ = found.0.number in
    let some : 0 < number = found.1 in
    let whole : (number - 1) + 1 ≡ number = omega arith in
    let same : c ∷ s ≡ numeral digit.0 ++ s = ap (λ (m : ℕ). m ∷ s) digit.2 ∙ sym (ap (λ (xs : List ℕ). xs ++ s) (numeral-small digit.0 digit.1)) in
    let bytes : c ∷ s ≡ numeral ((number - 1) + 1) ++ found.0.rest = same ∙ found.0.bytes ∙ sym (ap (λ (m : ℕ). numeral m ++ found.0.rest) whole) in
    inl (record { number = negsuc (number - 1); rest = found.0.rest; bytes = ap (λ (xs : List ℕ). 45 ∷ xs) bytes; ends = found.0.ends }))
    (cases_eq digit.0 0))
    (λ other. stopped (λ low high. other (omega arith) high))
    (digit_cases c) where
      stopped : (49 ≤ c → c ≤ 57 → ⊥) → FoundInteger (45 ∷ c ∷ s) ⊎ StopsInteger (45 ∷ c ∷ s)
      stopped other = inr (record { partial = 45 ∷ []; rest = c ∷ s; bytes = refl; number = negsuc 0; more = numeral (0 + 1); begins = refl; barred = λ z r t ends goes same. minus_barred z r t s (inr tt) (λ m e. positive_barred c m r t s other goes e) same })

-- texts that go on alike begin alike
first_alike : (b : ℕ) (bs partial rest s : List ℕ) → b ∷ bs ≡ partial ++ rest → GoesOn rest s → (more : List ℕ) × (partial ++ s ≡ b ∷ more)
first_alike b bs [] [] s same goes = let wrong : b ∷ bs ≡ [] = same in cc
first_alike b bs [] (c ∷ rest) [] same goes = absurd goes
first_alike b bs [] (c ∷ rest) (d ∷ s) same goes = let head : b ≡ c = cc in (s, ap (λ (m : ℕ). m ∷ s) (sym (head ∙ goes)))
first_alike b bs (p ∷ partial) rest s same goes = let head : b ≡ p = cc in (partial ++ s, ap (λ (m : ℕ). m ∷ (partial ++ s)) (sym head))

pub integer_read : (t : List ℕ) → FoundInteger t ⊎ StopsInteger t
integer_read [] = inr (record { partial = []; rest = []; bytes = refl; number = pos 0; more = numeral 0; begins = refl; barred = λ z r s ends goes same. nothing z r s goes same }) where
  nothing : (z : ℤ) (r s : List ℕ) → GoesOn [] s → signed_numeral z ++ r ≡ s → ⊥
  nothing (pos n) r s goes same = empty_barred n r s goes same
  nothing (negsuc n) r [] goes same = cc
  nothing (negsuc n) r (c ∷ s) goes same = goes
integer_read (b ∷ s) =
    ⊎_elim
    (λ is. let P : ℕ → Type 0 = λ m. FoundInteger (m ∷ s) ⊎ StopsInteger (m ∷ s) in subst P (sym is) (minus_read s))
    (λ other. ⊎_elim
    (λ found. inl (record { number = pos found.number; rest = found.rest; bytes = found.bytes; ends = found.ends }))
    (λ stop. inr (record { partial = stop.partial; rest = stop.rest; bytes = stop.bytes; number = pos stop.number; more = stop.more; begins = stop.begins; barred = λ z r t ends goes same. signed stop other z r t ends goes same }))
    (natural_read (b ∷ s)))
    (cases_eq b 45) where
      signed : (stop : StopsNatural (b ∷ s)) → (b ≡ 45 → ⊥) → (z : ℤ) (r t : List ℕ) → EndsNumber r → GoesOn stop.rest t → signed_numeral z ++ r ≡ stop.partial ++ t → ⊥
      signed stop other (pos n) r t ends goes same = stop.barred n r t ends goes same
      signed stop other (negsuc n) r t ends goes same =
          let alike = first_alike b s stop.partial stop.rest t stop.bytes goes in
          let heads : 45 ∷ (numeral (n + 1) ++ r) ≡ b ∷ alike.0 = same ∙ alike.1 in
          let e : b ≡ 45 = cc in other e
