-- Words that the command takes name one of its subcommands and its values, each of which its argument takes: so they give an order.
use Rattle.std.proofs.Common.{◌≡◌, ◌⊎◌, inl, inr, ◌∙◌, sym, ap, refl, subst, ℕ, zero, suc, Bool, true, false, List, [], ◌∷◌, ◌++◌, Option, Some, None, length, drop}
use Rattle.std.specs.Prelude.{◌&&◌, not, nat_lt, if◌then◌else◌, fold, find, is_some, slice_get, option_and_then, encode_utf8}
use Rattle.std.specs.List.{AllByRecursion}
use Rattle.std.specs.Option.{option_map_or}
use Rattle.std.specs.Str.{bytes_eq, chars}
use Rattle.std.proofs.lemmas.Slice.Eq.{bytes_eq-Decides}
use Rattle.clap.specs.Lexer.{long_of, short_of}
use Rattle.clap.specs.Facts.{unwrap_or_range, explicit_source, parser_of_value}
use Rattle.clap.specs.Values.{refused_kind}
use Rattle.clap.specs.ValueTests.{accepts}
use Rattle.clap.specs.Kinds.{Kinds, or_else, range_kinds, value_kinds}
use Rattle.clap.specs.Walk.{Text, Rule, Row, Held, Outcome, done, waits, plain, refused, Waiting, idle, option, positional, Step, next, trailing, subcommand, value, Walk}
use Rattle.clap.specs.Walk.{at_row, more_values, with_values, without, used_as, used, used_by_id, values_or_missing, action_of, reading_by}
use Rattle.clap.specs.Walk.{settled_rows, settled, reacted, pushed, option_met, flag_met, long_met, short_met, bundle_step, bundle_met, attached_value, takes_values, takes_several, is_pending, most_values}
use Rattle.clap.specs.Walk.{arg_by_id, arg_by_long, arg_by_short, arg_by_index, option_word, plain_word, after_flag, bundle, short_or_plain, long_or_other, subcommand_or_other, word_met}
use Rattle.clap.specs.Walk.{to_positional, after_step, walked_from, walked, walk_from, walk, with_default, default_rows, has_row, has_long, has_short, finished, nothing_held, rows_after, first_of}
use Rattle.clap.specs.Faults.{use_fault, values_fault, repeat_fault, settle_fault, react_fault, option_fault, long_fault, short_fault, bundle_step_fault, flags_fault, bundle_fault, flag_word_fault, other_fault, word_fault, positional_fault, stray_fault, step_fault, turn_fault, walk_fault, level_fault, check_fault, action_fault}
use Rattle.clap.specs.Simple.{Shape}
use Rattle.clap.specs.Takes.{is_given}
use Rattle.clap.specs.declared.builder.ArgAction.{ArgAction}
use Rattle.clap.specs.declared.builder.ArgAction.TheVariants.{Set, Append, SetTrue, SetFalse, Count}
use Rattle.clap.specs.declared.parser.ValueSource.{ValueSource}
use Rattle.clap.specs.declared.error.kind.ErrorKind.{ErrorKind}

-- a list has an element
abbrev pub HasElement : {X : Type 0} → List X → Type 0
HasElement [] = ⊥
HasElement (x ∷ xs) = Unit {0}

-- a use of an argument is given a value
abbrev pub WantsValue : Rule → Type 0
WantsValue a = nat_lt 0 (unwrap_or_range a.range).start_inclusive ≡ true

behind : {X : Type 0} (xs ys : List X) → HasElement ys → HasElement (xs ++ ys)
behind [] ys h = h
behind (x ∷ xs) ys h = tt

-- where a step is without fault, so is each of its parts
pub both_parts : (a b : Kinds) → or_else a b ≡ [] → (a ≡ []) × (b ≡ [])
both_parts [] b e = (refl, e)
both_parts (k ∷ ks) b e = absurd (cc)

-- a use that wants a value has one
no_value : (again : Bool) (a : Rule) (rows : List Row) → WantsValue a → use_fault again a [] rows ≡ [] → ⊥
no_value again a rows wants e = by (nat_lt 0 (unwrap_or_range a.range).start_inclusive) _ _ wants
    (both_parts (range_kinds (unwrap_or_range a.range).start_inclusive (most_values a) 0)
    (action_fault (action_of a) again a (values_or_missing a []) rows) e).0
  where
    by : {K : Type 0} (t : Bool) (k : K) (rest : List K) → t ≡ true → (if t && true then k ∷ [] else rest) ≡ [] → ⊥
    by true k rest w h = absurd (cc)
    by false k rest w h = absurd (cc)

-- what is found in a list is one of it
found_has : {X : Type 0} (P : X → Type 0) (test : X → Bool) (xs : List X) (x : X) → AllByRecursion P xs → find test xs ≡ Some x → P x
found_has P test [] x all e = absurd (cc)
found_has {X} P test (y ∷ ys) x all e = by (test y) (found_has P test ys x all.1) e where
  by : (t : Bool) → (find test ys ≡ Some x → P x) → (if t then Some y else find test ys) ≡ Some x → P x
  by true rest h = let same : y ≡ x = cc in subst P same all.0
  by false rest h = rest h

-- what is found passes the test
found_passes : {X : Type 0} (test : X → Bool) (xs : List X) (x : X) → find test xs ≡ Some x → test x ≡ true
found_passes test [] x e = absurd (cc)
found_passes {X} test (y ∷ ys) x e = by (test y) refl (found_passes test ys x) e where
  by : (t : Bool) → test y ≡ t → (find test ys ≡ Some x → test x ≡ true) → (if t then Some y else find test ys) ≡ Some x → test x ≡ true
  by true is rest h = let same : y ≡ x = cc in subst (λ (z : X). test z ≡ true) same is
  by false is rest h = rest h

-- values that an argument takes without fault are taken by its parser
accepted : (t : Bool) (k : ErrorKind) → (if t then [] else k ∷ []) ≡ [] → t ≡ true
accepted true k e = refl
accepted false k e = absurd (cc)

all_append : {X : Type 0} (P : X → Type 0) (xs ys : List X) → AllByRecursion P xs → AllByRecursion P ys → AllByRecursion P (xs ++ ys)
all_append P [] ys f g = g
all_append P (x ∷ xs) ys f g = (f.0, all_append P xs ys f.1 g)

-- in which `good` tells by an argument's id which values it may have
module _ (good : Text → Text → Bool) where
  -- good values of an argument
  abbrev AreGood : Text → List Text → Type 0
  AreGood id values = AllByRecursion (λ (v : Text). good id v ≡ true) values

  -- a row has a value, and good ones alone
  abbrev pub IsSound : Row → Type 0
  IsSound r = HasElement r.values × AreGood r.id r.values

  abbrev pub IsFull : List Row → Type 0
  IsFull rows = AllByRecursion IsSound rows

  -- a use of an argument is given a value or has one of its own, its values by default are good, and it takes only good ones
  pub record Checks (a : Rule) : Type 0 where
    pub wants : WantsValue a ⊎ HasElement a.missing
    pub plain : AreGood a.id a.defaults
    pub passes : (v : Text) → accepts a.ignore_case (parser_of_value a.parser) v ≡ true → good a.id v ≡ true

  full_append : (xs ys : List Row) → IsFull xs → IsFull ys → IsFull (xs ++ ys)
  full_append [] ys f g = g
  full_append (x ∷ xs) ys f g = (f.0, full_append xs ys f.1 g)

  full_at_row : (id : Text) (change : Row → List Row) (missing rows : List Row)
      → ((r : Row) → bytes_eq r.id id ≡ true → IsSound r → IsFull (change r)) → IsFull missing → IsFull rows → IsFull (at_row id change missing rows)
  full_at_row id change missing [] each here f = here
  full_at_row id change missing (r ∷ rs) each here f = by (bytes_eq r.id id) refl (full_at_row id change missing rs each here f.1) where
    by : (t : Bool) → bytes_eq r.id id ≡ t → IsFull (at_row id change missing rs)
        → IsFull (if t then change r ++ rs else r ∷ at_row id change missing rs)
    by true is rest = full_append (change r) rs (each r is f.0) f.1
    by false is rest = (f.0, rest)

  full_with_values : (id : Text) (a : Rule) (s : ValueSource) (values : List Text) (rows : List Row) → HasElement values → AreGood id values
      → IsFull rows → IsFull (with_values id (reading_by a) s values rows)
  full_with_values id a s values rows h g f =
      full_at_row id (more_values s values) _ rows (λ r is sound. (
        (
          behind r.values values h,
          all_append (λ (v : Text). good r.id v ≡ true) r.values values sound.1
              (subst (λ (t : Text). AreGood t values) (sym ((bytes_eq-Decides r.id id).0 is)) g),
        ),
        tt,
      )) ((h, g), tt) f

  full_without : (id : Text) (rows : List Row) → IsFull rows → IsFull (without id rows)
  full_without id rows f = full_at_row id (λ _. []) [] rows (λ r is sound. tt) tt f

  -- values without fault are good
  good_values : (a : Rule) (values : List Text) → Checks a → values_fault a values ≡ [] → AreGood a.id values
  good_values a [] checks e = tt
  good_values a (v ∷ vs) checks e =
      let parts = both_parts (value_kinds a.ignore_case (parser_of_value a.parser) v) (values_fault a vs) e in (
        checks.passes v (accepted (accepts a.ignore_case (parser_of_value a.parser) v) (refused_kind (parser_of_value a.parser)) parts.0),
        good_values a vs checks parts.1,
      )

  -- a use with a value
  full_used_as : (x : ArgAction) (again : Bool) (a : Rule) (v : Text) (vs : List Text) (rows : List Row) → Checks a
      → action_fault x again a (v ∷ vs) rows ≡ [] → IsFull rows → IsFull (used_as x a.id (reading_by a) (v ∷ vs) rows)
  full_used_as Set again a v vs rows checks e f =
      full_with_values a.id a _ (v ∷ vs) (without a.id rows) tt
      (good_values a (v ∷ vs) checks (both_parts (repeat_fault again a.id rows) (values_fault a (v ∷ vs)) e).1) (full_without a.id rows f)
  full_used_as SetTrue again a v vs rows checks e f =
      full_with_values a.id a _ (v ∷ vs) (without a.id rows) tt
      (good_values a (v ∷ vs) checks (both_parts (repeat_fault again a.id rows) (values_fault a (v ∷ vs)) e).1) (full_without a.id rows f)
  full_used_as SetFalse again a v vs rows checks e f =
      full_with_values a.id a _ (v ∷ vs) (without a.id rows) tt
      (good_values a (v ∷ vs) checks (both_parts (repeat_fault again a.id rows) (values_fault a (v ∷ vs)) e).1) (full_without a.id rows f)
  full_used_as Append again a v vs rows checks e f = full_with_values a.id a _ (v ∷ vs) rows tt (good_values a (v ∷ vs) checks e) f
  full_used_as Count again a v vs rows checks e f =
      full_with_values a.id a _ (v ∷ vs) (without a.id rows) tt (good_values a (v ∷ vs) checks e) (full_without a.id rows f)
  full_used_as other again a v vs rows checks e f = f

  full_used : (again : Bool) (a : Rule) (values : List Text) (rows : List Row) → Checks a → use_fault again a values rows ≡ [] → IsFull rows
      → IsFull (used a values rows)
  full_used again a [] rows checks e f = by checks.wants where
    own : (values : List Text) → HasElement values → action_fault (action_of a) again a values rows ≡ []
        → IsFull (used_as (action_of a) a.id (reading_by a) values rows)
    own [] h k = absurd h
    own (v ∷ vs) h k = full_used_as (action_of a) again a v vs rows checks k f

    by : WantsValue a ⊎ HasElement a.missing → IsFull (used_as (action_of a) a.id (reading_by a) a.missing rows)
    by (inl wants) = absurd (no_value again a rows wants e)
    by (inr has) = own a.missing has
        (both_parts (range_kinds (unwrap_or_range a.range).start_inclusive (most_values a) 0) (action_fault (action_of a) again a a.missing rows) e).1
  full_used again a (v ∷ vs) rows checks e f = full_used_as (action_of a) again a v vs rows checks
      (both_parts (range_kinds (unwrap_or_range a.range).start_inclusive (most_values a) (length (v ∷ vs)))
      (action_fault (action_of a) again a (v ∷ vs) rows) e).1 f

  -- what is pending is used with a value
  full_settled : (c : List Rule) (again : Bool) (h : Held) → AllByRecursion Checks c → settle_fault c again h ≡ [] → IsFull h.rows
      → IsFull (settled c h).rows
  full_settled c again h wants e f = go h.pending e where
    used_with : (p : Text × List Text) (found : Option Rule) → arg_by_id c p.0 ≡ found
        → option_map_or (λ (a : Rule). use_fault again a p.1 h.rows) found [] ≡ [] → IsFull (used_by_id found p.1 h.rows)
    used_with p None is k = f
    used_with p (Some a) is k = full_used again a p.1 h.rows (found_has Checks (λ (b : Rule). bytes_eq b.id p.0) c a wants is) k f

    go : (pending : Option (Text × List Text))
        → option_map_or (λ (p : Text × List Text). option_map_or (λ (a : Rule). use_fault again a p.1 h.rows) (arg_by_id c p.0) []) pending [] ≡ []
        → IsFull (settled_rows c pending h.rows)
    go None k = f
    go (Some p) k = used_with p (arg_by_id c p.0) refl k

  full_reacted : (c : List Rule) (again : Bool) (a : Rule) (values : List Text) (h : Held) → AllByRecursion Checks c → Checks a
      → react_fault c again a values h ≡ [] → IsFull h.rows → IsFull (reacted c a values h).rows
  full_reacted c again a values h wants one e f =
      let parts = both_parts (settle_fault c again h) (use_fault again a values (settled c h).rows) e in
      full_used again a values (settled c h).rows one parts.1 (full_settled c again h wants parts.0 f)

  full_option : (c : List Rule) (again : Bool) (a : Rule) (v : Option Text) (h : Held) → AllByRecursion Checks c → Checks a
      → option_fault c again a v h ≡ [] → IsFull h.rows → IsFull (option_met c a v h).0.rows
  full_option c again a (Some v) h wants one e f = full_reacted c again a (v ∷ []) h wants one e f
  full_option c again a None h wants one e f = full_settled c again h wants e f

  -- `--name` and `--name=value`
  full_long : (c : List Rule) (again : Bool) (found : Option Rule) (v : Option Text) (h : Held) → AllByRecursion Checks c
      → ((a : Rule) → found ≡ Some a → Checks a) → long_fault c again found v h ≡ [] → IsFull h.rows → IsFull (long_met c found v h).0.rows
  full_long c again None v h wants one e f = absurd (cc)
  full_long c again (Some a) v h wants one e f = by (takes_values a) v _ e where
    by : (t : Bool) (v : Option Text) (many : Kinds)
        → (if t then option_fault c again a v h else (if is_some v then many else react_fault c again a [] h)) ≡ []
        → IsFull (if t then option_met c a v h else flag_met c a v h).0.rows
    by true v many k = full_option c again a v h wants (one a refl) k f
    by false (Some v) many k = f
    by false None many k = full_reacted c again a [] h wants (one a refl) k f

  -- one character of `-abc`
  full_short : (c : List Rule) (again : Bool) (k : ℕ) (a : Rule) (rest : Text) (h : Held) → AllByRecursion Checks c → Checks a
      → ((h : Held) → flags_fault c again k rest 0 h ≡ [] → IsFull h.rows → IsFull (bundle_met c k rest 0 done h).0.rows)
      → short_fault c again (Some a) rest h (flags_fault c again k rest 0) ≡ [] → IsFull h.rows
      → IsFull (short_met c (Some a) rest h (bundle_met c k rest 0 done)).0.rows
  full_short c again k a rest h wants one go e f = by (takes_values a) e where
    by : (t : Bool)
        → (if t then option_fault c again a (attached_value rest) h
        else or_else (react_fault c again a [] h) (flags_fault c again k rest 0 (reacted c a [] h))) ≡ []
        → IsFull (if t then option_met c a (attached_value rest) h else bundle_met c k rest 0 done (reacted c a [] h)).0.rows
    by true e = full_option c again a (attached_value rest) h wants one e f
    by false e =
        let parts = both_parts (react_fault c again a [] h) (flags_fault c again k rest 0 (reacted c a [] h)) e in
        go (reacted c a [] h) parts.1 (full_reacted c again a [] h wants one parts.0 f)

  -- the characters of `-abc`
  full_bundle : (c : List Rule) (again : Bool) (k : ℕ) (flags : Text) (skip : ℕ) (so_far : Outcome) (h : Held) → AllByRecursion Checks c
      → flags_fault c again k flags skip h ≡ [] → IsFull h.rows → IsFull (bundle_met c k flags skip so_far h).0.rows
  unfolding flags_fault bundle_met
  full_bundle c again zero flags skip so_far h wants e f = f
  full_bundle c again (suc k) flags skip so_far h wants e f =
      step (slice_get (chars flags) 0) skip e (λ flags skip so_far h e f. full_bundle c again k flags skip so_far h wants e f)
    where
      short : (found : Option Rule) (x : ℕ) → arg_by_short c x ≡ found → (rest : Text)
          → short_fault c again found rest h (flags_fault c again k rest 0) ≡ []
          → ((h : Held) → flags_fault c again k rest 0 h ≡ [] → IsFull h.rows → IsFull (bundle_met c k rest 0 done h).0.rows)
          → IsFull (short_met c found rest h (bundle_met c k rest 0 done)).0.rows
      short None x is rest e go = absurd (cc)
      short (Some a) x is rest e go =
          full_short c again k a rest h wants (found_has Checks (λ (b : Rule). not (is_some b.index) && has_short b x) c a wants is) go e f

      step : (first : Option ℕ) (skip : ℕ) → bundle_step_fault c again first flags skip h (flags_fault c again k) ≡ []
          → ((flags : Text) (skip : ℕ) (so_far : Outcome) (h : Held) → flags_fault c again k flags skip h ≡ [] → IsFull h.rows
          → IsFull (bundle_met c k flags skip so_far h).0.rows)
          → IsFull (bundle_step c first flags skip so_far h (bundle_met c k)).0.rows
      step None skip e go = f
      step (Some x) zero e go =
          short (arg_by_short c x) x refl (drop (length (encode_utf8 x)) flags) e (λ h e f. go (drop (length (encode_utf8 x)) flags) 0 done h e f)
      step (Some x) (suc skip) e go = go (drop (length (encode_utf8 x)) flags) skip so_far h e f

  -- a word that is no flag
  full_plain : (c : List Rule) (waiting : Waiting) (word : Text) (h : Held) → IsFull h.rows → IsFull (plain_word c waiting word h).0.rows
  full_plain c idle word h f = f
  full_plain c positional word h f = f
  full_plain c (option id) word h f = by (arg_by_id c id) where
    by : (found : Option Rule) → IsFull (option_word found id word h).0.rows
    by None = f
    by (Some a) = f

  full_after : (c : List Rule) (waiting : Waiting) (word : Text) (h : Held) (outcome : Outcome) → IsFull h.rows
      → IsFull (after_flag c waiting word h outcome).0.rows
  full_after c waiting word h done f = f
  full_after c waiting word h (waits id) f = f
  full_after c waiting word h plain f = full_plain c waiting word h f
  full_after c waiting word h refused f = full_plain c waiting word h f

  -- a word that names no subcommand
  full_other : (s : Shape) (waiting : Waiting) (position : ℕ) (word : Text) (h : Held) → AllByRecursion Checks s.rules
      → other_fault s None word h ≡ [] → IsFull h.rows → IsFull (subcommand_or_other s.rules None waiting position word h).0.rows
  full_other s waiting position word h wants e f = dashes (bytes_eq word (45 ∷ 45 ∷ [])) e where
    short : (flags : Option Text) → option_map_or (λ (w : Text). bundle_fault s.rules s.args_override_self w h) flags [] ≡ []
        → IsFull (short_or_plain s.rules waiting word flags h).0.rows
    short None e = full_plain s.rules waiting word h f
    short (Some flags) e = full_after s.rules waiting word (bundle s.rules flags h).0 (bundle s.rules flags h).1
        (full_bundle s.rules s.args_override_self (length flags) flags h.skip plain (record h { skip = 0 }) wants e f)

    long : (name : Option (Text × Option Text)) → flag_word_fault s.rules s.args_override_self name word h ≡ []
        → IsFull (long_or_other s.rules waiting word name h).0.rows
    long None e = short (short_of word) e
    long (Some p) e = full_after s.rules waiting word (long_met s.rules (arg_by_long s.rules p.0) p.1 h).0 (long_met s.rules (arg_by_long s.rules p.0) p.1 h).1
        (full_long s.rules s.args_override_self (arg_by_long s.rules p.0) p.1 h wants
        (λ a is. found_has Checks (λ (b : Rule). not (is_some b.index) && has_long b p.0) s.rules a wants is) e f)

    dashes : (t : Bool) → (if t then [] else flag_word_fault s.rules s.args_override_self (long_of word) word h) ≡ []
        → IsFull (if t then (h, trailing position) else long_or_other s.rules waiting word (long_of word) h).0.rows
    dashes true e = f
    dashes false e = long (long_of word) e

  -- a word, at a command without subcommands
  full_word : (s : Shape) (is_trailing : Bool) (waiting : Waiting) (position : ℕ) (word : Text) (h : Held) → AllByRecursion Checks s.rules
      → word_fault s [] is_trailing waiting word h ≡ [] → IsFull h.rows → IsFull (word_met s.rules [] is_trailing waiting position word h).0.rows
  full_word s true waiting position word h wants e f = f
  full_word s false idle position word h wants e f = full_other s idle position word h wants e f
  full_word s false positional position word h wants e f = full_other s positional position word h wants e f
  full_word s false (option id) position word h wants e f = full_other s (option id) position word h wants e f

  -- what a word leads to
  full_step : (s : Shape) (word : Text) (w : Walk) (h : Held) (step : Step) → AllByRecursion Checks s.rules
      → step_fault s w.position h step ≡ [] → IsFull h.rows → IsFull (after_step s.rules word w h step).held.rows
  full_step s word w h (next waiting) wants e f = f
  full_step s word w h (trailing position) wants e f = f
  full_step s word w h (subcommand name) wants e f = f
  full_step s word w h value wants e f = place (arg_by_index s.rules w.position) e where
    several : (t : Bool) (a : Rule) → (if t then [] else settle_fault s.rules s.args_override_self h) ≡ []
        → IsFull (pushed a.id word (if t then h else settled s.rules h)).rows
    several true a e = f
    several false a e = full_settled s.rules s.args_override_self h wants e f

    place : (found : Option Rule) → option_map_or (λ (a : Rule). positional_fault s.rules s.args_override_self a h) found (stray_fault s) ≡ []
        → IsFull (to_positional s.rules found word w h).held.rows
    place None e = f
    place (Some a) e = several (is_pending a h.pending && takes_several a) a e

  -- one word more
  full_walked : (s : Shape) (w : Walk) (word : Text) → AllByRecursion Checks s.rules → turn_fault s [] w word ≡ []
      → IsFull w.held.rows → IsFull (walked s.rules [] w word).held.rows
  unfolding walked
  full_walked s w word wants e f = by w.stopped e where
    met : Held × Step
    met = word_met s.rules [] w.is_trailing w.waiting w.position word w.held

    by : (stopped : Option (Text × List Text))
        → (if is_some stopped then [] else or_else (word_fault s [] w.is_trailing w.waiting word w.held)
        (step_fault s w.position
        (word_met s.rules [] w.is_trailing w.waiting w.position word w.held).0
        (word_met s.rules [] w.is_trailing w.waiting w.position word w.held).1)) ≡ []
        → IsFull (walked_from s.rules [] stopped w word).held.rows
    by (Some p) e = f
    by None e =
        let parts = both_parts (word_fault s [] w.is_trailing w.waiting word w.held)
        (step_fault s w.position
        (word_met s.rules [] w.is_trailing w.waiting w.position word w.held).0
        (word_met s.rules [] w.is_trailing w.waiting w.position word w.held).1) e in
        full_step s word w (word_met s.rules [] w.is_trailing w.waiting w.position word w.held).0
        (word_met s.rules [] w.is_trailing w.waiting w.position word w.held).1 wants parts.1
        (full_word s w.is_trailing w.waiting w.position word w.held wants parts.0 f)

  -- all words
  full_walk : (s : Shape) (w : Walk) (words : List Text) → AllByRecursion Checks s.rules → walk_fault s [] w words ≡ []
      → IsFull w.held.rows → IsFull (fold (walked s.rules []) w words).held.rows
  unfolding walk_fault
  full_walk s w [] wants e f = f
  full_walk s w (word ∷ words) wants e f =
      let parts = both_parts (turn_fault s [] w word) (walk_fault s [] (walked s.rules [] w word) words) e in
      full_walk s (walked s.rules [] w word) words wants parts.1 (full_walked s w word wants parts.0 f)

  -- defaults
  full_defaults : (rules : List Rule) (rows : List Row) → AllByRecursion Checks rules → IsFull rows → IsFull (fold with_default rows rules)
  full_defaults [] rows wants f = f
  full_defaults (a ∷ rules) rows wants f = full_defaults rules (with_default rows a) wants.1 (by (has_row a.id rows)) where
    own : (values : List Text) → AreGood a.id values → IsFull (default_rows a.id (reading_by a) values rows)
    own [] g = f
    own (v ∷ vs) g = full_with_values a.id a _ (v ∷ vs) rows tt g f

    by : (t : Bool) → IsFull (if t then rows else default_rows a.id (reading_by a) a.defaults rows)
    by true = f
    by false = own a.defaults wants.0.plain

  -- a level without fault: each of its rows has a value, and what is required is there
  pub full_level : (s : Shape) (words : List Text) → AllByRecursion Checks s.rules → level_fault s [] nothing_held words false [] ≡ []
      → IsFull (rows_after s.rules [] words) × (check_fault s (rows_after s.rules [] words) false ≡ [])
  full_level s words wants e =
      let end = (walk s.rules [] nothing_held words).held in
      let first = both_parts (walk_fault s [] (walk_from nothing_held) words) _ e in
      let second = both_parts (settle_fault s.rules s.args_override_self end) _ first.1 in
      let third = both_parts _ (check_fault s (finished s.rules end) false) second.1 in (
        full_defaults s.rules (settled s.rules end).rows wants
            (full_settled s.rules s.args_override_self end wants second.0 (full_walk s (walk_from nothing_held) words wants first.0 tt)),
        third.1,
      )

  -- a first value is a good one
  pub first_good : (id : Text) (rows : List Row) (t : Text) → IsFull rows → first_of id rows ≡ Some t → good id t ≡ true
  first_good id rows t f e = by (find (λ (r : Row). bytes_eq r.id id) rows) refl e where
    values : (name : Text) (vs : List Text) → AreGood name vs → slice_get vs 0 ≡ Some t → good name t ≡ true
    values name [] g is = absurd (cc)
    values name (v ∷ vs) g is = let same : v ≡ t = cc in subst (λ (u : Text). good name u ≡ true) same g.0

    by : (found : Option Row) → find (λ (r : Row). bytes_eq r.id id) rows ≡ found
        → option_and_then (λ (r : Row). slice_get r.values 0) found ≡ Some t → good id t ≡ true
    by None is e = absurd (cc)
    by (Some r) is e =
        let sound = found_has IsSound (λ (r : Row). bytes_eq r.id id) rows r f is in
        subst (λ (name : Text). good name t ≡ true) ((bytes_eq-Decides r.id id).0 (found_passes (λ (r : Row). bytes_eq r.id id) rows r is))
        (values r.id r.values sound.1 e)

  -- what is given has a first value, and a good one
  pub given_has : (id : Text) (rows : List Row) → is_given id rows ≡ true → IsFull rows
      → (t : Text) × (first_of id rows ≡ Some t) × (good id t ≡ true)
  given_has id rows given f = by (find (λ (r : Row). bytes_eq r.id id) rows) refl given where
    values : (vs : List Text) → HasElement vs → (t : Text) × (slice_get vs 0 ≡ Some t)
    values [] h = absurd h
    values (v ∷ vs) h = (v, refl)

    by : (found : Option Row) → find (λ (r : Row). bytes_eq r.id id) rows ≡ found → option_map_or (λ (r : Row). explicit_source r.source) found false ≡ true
        → (t : Text) × (first_of id rows ≡ Some t) × (good id t ≡ true)
    by None is e = absurd (cc)
    by (Some r) is e =
        let sound = found_has IsSound (λ (r : Row). bytes_eq r.id id) rows r f is in
        let first = values r.values sound.0 in
        let here : first_of id rows ≡ Some first.0 =
        ap (λ (found : Option Row). option_and_then (λ (r : Row). slice_get r.values 0) found) is ∙ first.1 in
        (first.0, here, first_good id rows first.0 f here)
