-- What is seen along the written symbols of a tree: the names of variables, the terms and the numbers.
use Rattle.std.proofs.Common.{◌≡◌, ◌∙◌, refl, sym, ap, subst, ℕ, ◌+◌, ◌<◌, ◌≤◌, ◌^◌, true, false, List, [], ◌∷◌, ◌++◌, map, Option, Some, None, MatchOption, Contains, arith, if◌then◌else◌}
use Rattle.bp_theory.specs.Limits.{most_terms}
use Rattle.bp_theory.specs.declared.Limits.TheVariants.{Large}
use Rattle.std.specs.Prelude.{filter_map, count_by, flat_map}
use Rattle.std.specs.List.{cons_option, AllByRecursion}
use Rattle.std.proofs.lemmas.List.{map-append, append_assoc}
use Rattle.std.proofs.lemmas.List.Sums.{sum_by-cons}
use Rattle.lp_syntax.specs.Tree.{Name, Symbol, name, number, sign, Written, placed, headed, spelled_signs, spelled_signed, spelled_factor, spelled_term, spelled_item}
use Rattle.lp_syntax.specs.declared.tree.Sign.{Sign}
use Rattle.lp_syntax.specs.declared.tree.Site.{Site}
use Rattle.lp_syntax.specs.Roles.{Seen, seen, first_of_symbols, is_colon, variable_of, counts_as_term}
use Rattle.lp_syntax.specs.TreeIn.{name_in, term_in, item_in}
use Rattle.lp_semantics.specs.Fit.{IsSmall, IsFitTerm, IsFitItem}
use Rattle.lp_syntax.specs.declared.tree.Signed.{Signed}
use Rattle.lp_syntax.specs.declared.tree.Term.{Term}
use Rattle.lp_syntax.specs.declared.tree.Item.{Item}
use Rattle.lp_syntax.specs.declared.tree.Item.TheVariants as items

-- the symbol at the front of written ones, or else the one behind them
abbrev pub follow : Option Symbol → List Written → Option Symbol
follow next [] = next
follow next (w ∷ ws) = Some w.symbol

-- the variables that written symbols name, before a symbol
abbrev pub named : Option Symbol → List Written → List Name
named next [] = []
named next (w ∷ ws) = cons_option (variable_of w.site w.symbol (follow next ws)) (named next ws)

-- the terms among them
abbrev pub counted : Option Symbol → List Written → ℕ
counted next [] = 0
counted next (w ∷ ws) = (if counts_as_term w.site w.symbol (follow next ws) then 1 else 0) + counted next ws

follow-append : (next : Option Symbol) (us ws : List Written) → follow next (us ++ ws) ≡ follow (follow next ws) us
follow-append next [] ws = refl
follow-append next (u ∷ us) ws = refl

cons_option-append : {A : Type 0} (o : Option A) (xs ys : List A) → cons_option o (xs ++ ys) ≡ cons_option o xs ++ ys
cons_option-append None xs ys = refl
cons_option-append (Some x) xs ys = refl

pub named-append : (next : Option Symbol) (us ws : List Written) → named next (us ++ ws) ≡ named (follow next ws) us ++ named next ws
named-append next [] ws = refl
named-append next (u ∷ us) ws =
    ap (λ n. cons_option (variable_of u.site u.symbol n) (named next (us ++ ws))) (follow-append next us ws)
    ∙ ap (cons_option (variable_of u.site u.symbol (follow (follow next ws) us))) (named-append next us ws)
    ∙ cons_option-append (variable_of u.site u.symbol (follow (follow next ws) us)) (named (follow next ws) us) (named next ws)

pub counted-append : (next : Option Symbol) (us ws : List Written) → counted next (us ++ ws) ≡ counted (follow next ws) us + counted next ws
counted-append next [] ws = omega arith
counted-append next (u ∷ us) ws =
    let here : ℕ = if counts_as_term u.site u.symbol (follow (follow next ws) us) then 1 else 0 in
    ap (λ n. (if counts_as_term u.site u.symbol n then 1 else 0) + counted next (us ++ ws)) (follow-append next us ws)
    ∙ ap (λ n. here + n) (counted-append next us ws)
    ∙ regroup here (counted (follow next ws) us) (counted next ws)
  where
    regroup : (a b c : ℕ) → a + (b + c) ≡ (a + b) + c
    regroup a b c = omega arith

-- what is seen of written symbols
first_follows : (ws : List Written) → first_of_symbols (map (λ w. w.symbol) ws) ≡ follow None ws
first_follows [] = refl
first_follows (w ∷ ws) = refl

pub seen_named : (ws : List Written) → filter_map (λ t. variable_of t.site t.symbol t.next) (seen (map (λ w. w.site) ws) (map (λ w. w.symbol) ws)) ≡ named None ws
seen_named [] = refl
seen_named (w ∷ ws) =
    ap (λ n. cons_option (variable_of w.site w.symbol n) (filter_map (λ t. variable_of t.site t.symbol t.next) (seen (map (λ v. v.site) ws) (map (λ v. v.symbol) ws)))) (first_follows ws)
    ∙ ap (cons_option (variable_of w.site w.symbol (follow None ws))) (seen_named ws)

pub seen_counted : (ws : List Written) → count_by (λ t. counts_as_term t.site t.symbol t.next) (seen (map (λ w. w.site) ws) (map (λ w. w.symbol) ws)) ≡ counted None ws
seen_counted [] = refl
seen_counted (w ∷ ws) =
    sum_by-cons (λ (t : Seen). if counts_as_term t.site t.symbol t.next then 1 else 0)
    (record { site = w.site; symbol = w.symbol; next = first_of_symbols (map (λ v. v.symbol) ws) }) (seen (map (λ v. v.site) ws) (map (λ v. v.symbol) ws))
    ∙ ap (λ n. (if counts_as_term w.site w.symbol n then 1 else 0) + count_by (λ t. counts_as_term t.site t.symbol t.next) (seen (map (λ v. v.site) ws) (map (λ v. v.symbol) ws))) (first_follows ws)
    ∙ ap (λ n. (if counts_as_term w.site w.symbol (follow None ws) then 1 else 0) + n) (seen_counted ws)

-- a number is one of texts
abbrev pub IsSmallSymbol : Symbol → Type 0
IsSmallSymbol (number n) = n < 2 ^ 62
IsSmallSymbol _ = Unit {0}

-- written symbols that name listed variables, have numbers of texts and few terms
pub record Fine (names : List Name) (next : Option Symbol) (ws : List Written) : Type 0 where
  pub known : AllByRecursion (Contains names) (named next ws)
  pub small : AllByRecursion (λ (w : Written). IsSmallSymbol w.symbol) ws
  pub few : counted next ws ≤ most_terms Large

pub all_left : {X : Type 0} (P : X → Type 0) (xs ys : List X) → AllByRecursion P (xs ++ ys) → AllByRecursion P xs
all_left P [] ys h = tt
all_left P (x ∷ xs) ys h = (h.0, all_left P xs ys h.1)

pub all_right : {X : Type 0} (P : X → Type 0) (xs ys : List X) → AllByRecursion P (xs ++ ys) → AllByRecursion P ys
all_right P [] ys h = h
all_right P (x ∷ xs) ys h = all_right P xs ys h.1

pub fine_left : (names : List Name) (next : Option Symbol) (us ws : List Written) → Fine names next (us ++ ws) → Fine names (follow next ws) us
fine_left names next us ws h = record {
  known = all_left (Contains names) (named (follow next ws) us) (named next ws) (subst (AllByRecursion (Contains names)) (named-append next us ws) h.known);
  small = all_left (λ (w : Written). IsSmallSymbol w.symbol) us ws h.small;
  few = omega (arith, h.few, counted-append next us ws);
}

pub fine_right : (names : List Name) (next : Option Symbol) (us ws : List Written) → Fine names next (us ++ ws) → Fine names next ws
fine_right names next us ws h = record {
  known = all_right (Contains names) (named (follow next ws) us) (named next ws) (subst (AllByRecursion (Contains names)) (named-append next us ws) h.known);
  small = all_right (λ (w : Written). IsSmallSymbol w.symbol) us ws h.small;
  few = omega (arith, h.few, counted-append next us ws);
}

-- the same for symbols in one place
pub placed-append : (site : Site) (xs ys : List Symbol) → placed site (xs ++ ys) ≡ placed site xs ++ placed site ys
placed-append site xs ys = map-append (λ s. record { symbol = s; site = site }) xs ys

pub placed_left : (names : List Name) (next : Option Symbol) (site : Site) (xs ys : List Symbol) → Fine names next (placed site (xs ++ ys)) → Fine names (follow next (placed site ys)) (placed site xs)
placed_left names next site xs ys h = fine_left names next (placed site xs) (placed site ys) (subst (Fine names next) (placed-append site xs ys) h)

pub placed_right : (names : List Name) (next : Option Symbol) (site : Site) (xs ys : List Symbol) → Fine names next (placed site (xs ++ ys)) → Fine names next (placed site ys)
placed_right names next site xs ys h = fine_right names next (placed site xs) (placed site ys) (subst (Fine names next) (placed-append site xs ys) h)

-- what stands behind a first symbol and more
pub behind : (names : List Name) (next : Option Symbol) (first more : Site) (s : Symbol) (xs ys : List Symbol)
    → Fine names next (headed first more (s ∷ (xs ++ ys))) → Fine names next (placed more ys)
behind names next first more s xs ys h =
    placed_right names next more xs ys (fine_right names next (record { symbol = s; site = first } ∷ []) (placed more (xs ++ ys)) h)

-- places where each name is a variable, and where it is one unless it is a label
abbrev pub IsPlain : Site → Type 0
IsPlain site = (n : Name) (next : Option Symbol) → variable_of site (name n) next ≡ Some n

abbrev pub IsHead : Site → Type 0
IsHead site = (n : Name) (next : Option Symbol) → is_colon next ≡ false → variable_of site (name n) next ≡ Some n

abbrev pub Counts : Site → Type 0
Counts site = (n : Name) (next : Option Symbol) → counts_as_term site (name n) next ≡ true

pub fit_name : (names : List Name) (next : Option Symbol) (site : Site) (n : Name) → IsPlain site → Fine names next (placed site (name n ∷ [])) → Contains names n
fit_name names next site n plain' h =
    let one : AllByRecursion (Contains names) (n ∷ []) = subst (λ o. AllByRecursion (Contains names) (cons_option o [])) (plain' n next) h.known in one.0

pub fit_number : (names : List Name) (next : Option Symbol) (site : Site) (n : ℕ) → Fine names next (placed site (number n ∷ [])) → n < 2 ^ 62
fit_number names next site n h = h.small.0

pub fit_signed : (names : List Name) (next : Option Symbol) (site : Site) (v : Signed) → Fine names next (placed site (spelled_signed v)) → IsSmall v
fit_signed names next site v h = fit_number names next site v.size (placed_right names next site (spelled_signs v.signs) (number v.size ∷ []) h)

pub fit_factor : (text : List ℕ) (names : List Name) (next : Option Symbol) (site : Site) (t : Term) (factor : Option ℕ) → t.factor ≡ factor → IsPlain site
    → Fine names next (placed site (spelled_factor factor ++ (name (name_in text t.variable) ∷ []))) → IsFitTerm text names t
fit_factor text names next site t None e plain' h = record {
  small = subst (λ o. MatchOption o (Unit {0}) (λ n. n < 2 ^ 62)) (sym e) tt;
  known = fit_name names next site (name_in text t.variable) plain' h;
}
fit_factor text names next site t (Some k) e plain' h = record {
  small = subst (λ o. MatchOption o (Unit {0}) (λ n. n < 2 ^ 62)) (sym e) h.small.0;
  known = fit_name names next site (name_in text t.variable) plain' (placed_right names next site (number k ∷ []) (name (name_in text t.variable) ∷ []) h);
}

pub fit_term : (text : List ℕ) (names : List Name) (next : Option Symbol) (site : Site) (t : Term) → IsPlain site
    → Fine names next (placed site (spelled_term (term_in text t))) → IsFitTerm text names t
fit_term text names next site t plain' h =
    fit_factor text names next site t t.factor refl plain'
    (placed_right names next site (spelled_signs t.signs) (spelled_factor t.factor ++ (name (name_in text t.variable) ∷ [])) h)

pub fit_item : (text : List ℕ) (names : List Name) (next : Option Symbol) (site : Site) (i : Item) → IsPlain site
    → Fine names next (placed site (spelled_item (item_in text i))) → IsFitItem text names i
fit_item text names next site (items.Term t) plain' h = fit_term text names next site t plain' h
fit_item text names next site (items.Constant c) plain' h = fit_signed names next site c h

-- the symbols of further summands
abbrev pub further : {A : Type 0} → (A → List Symbol) → List (Sign × A) → List Symbol
further {A} spelled more = flat_map (λ (m : Sign × A). sign m.0 ∷ spelled m.1) more

pub further_in : {A B : Type 0} (f : A → B) (spelled : B → List Symbol) (more : List (Sign × A))
    → flat_map (λ (m : Sign × B). sign m.0 ∷ spelled m.1) (map (λ (m : Sign × A). (m.0, f m.1)) more) ≡ further (λ a. spelled (f a)) more
further_in f spelled [] = refl
further_in {A} f spelled (m ∷ more) = ap (λ ss. sign m.0 ∷ (spelled (f m.1) ++ ss)) (further_in f spelled more)

pub fit_more : {A : Type 0} (P : A → Type 0) (spelled : A → List Symbol) (names : List Name) (next : Option Symbol) (site : Site)
    → ((a : A) (n : Option Symbol) → Fine names n (placed site (spelled a)) → P a) → (more : List (Sign × A))
    → Fine names next (placed site (further spelled more)) → AllByRecursion (λ (m : Sign × A). P m.1) more
fit_more P spelled names next site each [] h = tt
fit_more {A} P spelled names next site each (m ∷ more) h =
    let rest : Fine names next (placed site (spelled m.1 ++ further spelled more)) =
    fine_right names next (record { symbol = sign m.0; site = site } ∷ []) (placed site (spelled m.1 ++ further spelled more)) h in (
      each m.1 (follow next (placed site (further spelled more))) (placed_left names next site (spelled m.1) (further spelled more) rest),
      fit_more P spelled names next site each more (placed_right names next site (spelled m.1) (further spelled more) rest),
    )

-- a first term in its own place
pub head_term : (text : List ℕ) (names : List Name) (next : Option Symbol) (first more : Site) (t : Term) (rest : List Symbol)
    → IsHead first → IsPlain more → is_colon (follow next (placed more rest)) ≡ false
    → Fine names next (headed first more (spelled_term (term_in text t) ++ rest))
    → IsFitTerm text names t × Fine names next (placed more rest)
head_term text names next first more t rest head plain' apart h = by t.signs t.factor refl h
  where
    n : Name
    n = name_in text t.variable

    by : (signs : List Sign) (factor : Option ℕ) → t.factor ≡ factor
        → Fine names next (headed first more ((spelled_signs signs ++ (spelled_factor factor ++ (name n ∷ []))) ++ rest))
        → IsFitTerm text names t × Fine names next (placed more rest)
    by [] None e g = (
      record {
        small = subst (λ o. MatchOption o (Unit {0}) (λ k. k < 2 ^ 62)) (sym e) tt;
        known =
            let all : AllByRecursion (Contains names) (n ∷ named next (placed more rest)) =
            subst (λ o. AllByRecursion (Contains names) (cons_option o (named next (placed more rest)))) (head n (follow next (placed more rest)) apart) g.known in
            all.0;
      },
      behind names next first more (name n) [] rest g,
    )
    by [] (Some k) e g =
        let here : Fine names next (placed more (name n ∷ rest)) = behind names next first more (number k) [] (name n ∷ rest) g in (
          record {
            small = subst (λ o. MatchOption o (Unit {0}) (λ m. m < 2 ^ 62)) (sym e) g.small.0;
            known = fit_name names (follow next (placed more rest)) more n plain' (placed_left names next more (name n ∷ []) rest here);
          },
          placed_right names next more (name n ∷ []) rest here,
        )
    by (s ∷ signs) factor e g =
        let here : Fine names next (placed more ((spelled_signs signs ++ (spelled_factor factor ++ (name n ∷ []))) ++ rest)) =
        behind names next first more (sign s) [] ((spelled_signs signs ++ (spelled_factor factor ++ (name n ∷ []))) ++ rest) g in
        let own : Fine names (follow next (placed more rest)) (placed more (spelled_signs signs ++ (spelled_factor factor ++ (name n ∷ [])))) =
        placed_left names next more (spelled_signs signs ++ (spelled_factor factor ++ (name n ∷ []))) rest here in (
          fit_factor text names (follow next (placed more rest)) more t factor e plain'
              (placed_right names (follow next (placed more rest)) more (spelled_signs signs) (spelled_factor factor ++ (name n ∷ [])) own),
          placed_right names next more (spelled_signs signs ++ (spelled_factor factor ++ (name n ∷ []))) rest here,
        )

-- a first constant
pub head_constant : (names : List Name) (next : Option Symbol) (first more : Site) (v : Signed) (rest : List Symbol)
    → Fine names next (headed first more (spelled_signed v ++ rest)) → IsSmall v × Fine names next (placed more rest)
head_constant names next first more v rest h = by v.signs h
  where
    by : (signs : List Sign) → Fine names next (headed first more ((spelled_signs signs ++ (number v.size ∷ [])) ++ rest)) → IsSmall v × Fine names next (placed more rest)
    by [] g = (g.small.0, behind names next first more (number v.size) [] rest g)
    by (s ∷ signs) g =
        let here : Fine names next (placed more ((spelled_signs signs ++ (number v.size ∷ [])) ++ rest)) =
        behind names next first more (sign s) [] ((spelled_signs signs ++ (number v.size ∷ [])) ++ rest) g in (
          fit_number names (follow next (placed more rest)) more v.size
              (placed_right names (follow next (placed more rest)) more (spelled_signs signs) (number v.size ∷ [])
              (placed_left names next more (spelled_signs signs ++ (number v.size ∷ [])) rest here)),
          placed_right names next more (spelled_signs signs ++ (number v.size ∷ [])) rest here,
        )

pub head_item : (text : List ℕ) (names : List Name) (next : Option Symbol) (first more : Site) (i : Item) (rest : List Symbol)
    → IsHead first → IsPlain more → is_colon (follow next (placed more rest)) ≡ false
    → Fine names next (headed first more (spelled_item (item_in text i) ++ rest))
    → IsFitItem text names i × Fine names next (placed more rest)
head_item text names next first more (items.Term t) rest head plain' apart h = head_term text names next first more t rest head plain' apart h
head_item text names next first more (items.Constant c) rest head plain' apart h = head_constant names next first more c rest h

-- the terms among further summands are counted
pub counted_term : (text : List ℕ) (next : Option Symbol) (site : Site) (t : Term) → Counts site → 1 ≤ counted next (placed site (spelled_term (term_in text t)))
counted_term text next site t counts =
    let n : Name = name_in text t.variable in
    let front : List Symbol = spelled_signs t.signs ++ spelled_factor t.factor in
    let split : placed site (spelled_term (term_in text t)) ≡ placed site front ++ placed site (name n ∷ []) =
    ap (placed site) (sym (append_assoc (spelled_signs t.signs) (spelled_factor t.factor) (name n ∷ []))) ∙ placed-append site front (name n ∷ []) in
    let one : counted next (placed site (name n ∷ [])) ≡ 1 = ap (λ b. (if b then 1 else 0) + 0) (counts n next) in
    omega (arith, ap (counted next) split, counted-append next (placed site front) (placed site (name n ∷ [])), one)

-- the weights of further summands together
abbrev pub weight_of : {A : Type 0} → (A → ℕ) → List (Sign × A) → ℕ
weight_of weight [] = 0
weight_of weight (m ∷ more) = weight m.1 + weight_of weight more

pub more_counted : {A : Type 0} (spelled : A → List Symbol) (weight : A → ℕ) (next : Option Symbol) (site : Site)
    → ((a : A) (n : Option Symbol) → weight a ≤ counted n (placed site (spelled a))) → (more : List (Sign × A))
    → weight_of weight more ≤ counted next (placed site (further spelled more))
more_counted spelled weight next site each [] = omega arith
more_counted spelled weight next site each (m ∷ more) =
    let rest : List Symbol = further spelled more in
    omega (
      arith,
      ap (counted next) (placed-append site (spelled m.1) rest),
      counted-append next (placed site (spelled m.1)) (placed site rest),
      each m.1 (follow next (placed site rest)),
      more_counted spelled weight next site each more,
    )
