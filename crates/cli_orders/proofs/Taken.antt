-- Words that the command takes give an order, or misplace a word.
use Rattle.std.proofs.Common.{◌≡◌, ◌⊎◌, inl, inr, refl, ⊎_elim, ℕ, ◌∷◌, Bool, true, false, List, [], Option, Some, None}
use Rattle.std.specs.Prelude.{◌&&◌, ◌||◌, not, if◌then◌else◌, is_some, option_map, codes}
use Rattle.std.specs.List.{AllByRecursion}
use Rattle.std.specs.Option.{option_map_or}
use Rattle.std.specs.Str.{bytes_eq}
use Rattle.std.specs.Str.Parse.{digits_value, without_leading_plus}
use Rattle.clap.specs.Kinds.{Kinds, check_kinds}
use Rattle.clap.specs.ValueTests.{is_unsigned_in}
use Rattle.clap.specs.Walk.{Text, Row, answers_to, finished, first_of, nothing_held, rows_after, stop_after, walk, walk_from}
use Rattle.clap.specs.Simple.{App, Shape, argument_words, built, built_leaf, entered, inherited, label_of, marked_built, names_of, rows_at, subcommand_of, with_leaf_noted}
use Rattle.clap.specs.Takes.{is_given}
use Rattle.clap.specs.Faults.{check_fault, entered_fault, fault_of, level_fault, settle_fault, walk_fault}
use Rattle.clap.specs.declared.builder.value_parser.ValueParser.TheVariants.{Unsigned}
use Rattle.clap.proofs.ValueTestLemmas.{accepts-Accepts}
use Rattle.cli_orders.specs.declared.order.Order.{Order}
use Rattle.cli_orders.specs.declared.order.Order.TheVariants.{Solve, Check, Show, Gen, Demo, Detect, Propose, Merge, Migrate}
use Rattle.cli_orders.specs.CommandLine.{command_line, solve_words, check_words, show_words, gen_words, demo_words, detect_words, propose_words, merge_words, migrate_words, most_steps, most_leaf, most_visits, most_seed, most_size, most_workers, most_cuts}
use Rattle.cli_orders.specs.Orders.{IsNumber, MayHaveNumber, HasCount, is_set, limits_of, GoTogether, IsLeafPlaced, GoesAlone, IsAloneIn, ArePlaced, is_amount_or_none, IsStated, MisplacesWord, AreRefused}
use Rattle.cli_orders.proofs.Presence.{Checks, both_parts, full_level, given_has, first_good}

-- the command and its subcommands as they are built
abbrev line : App
line = built command_line

abbrev level_of : Shape → Shape
level_of words = built_leaf (inherited (with_leaf_noted (marked_built command_line.top)) words)

abbrev solve_level : Shape
solve_level = level_of solve_words

abbrev check_level : Shape
check_level = level_of check_words

abbrev show_level : Shape
show_level = level_of show_words

abbrev gen_level : Shape
gen_level = level_of gen_words

abbrev demo_level : Shape
demo_level = level_of demo_words

abbrev detect_level : Shape
detect_level = level_of detect_words

abbrev propose_level : Shape
propose_level = level_of propose_words

abbrev merge_level : Shape
merge_level = level_of merge_words

abbrev migrate_level : Shape
migrate_level = level_of migrate_words

-- which values an argument may have, by its id
abbrev good : Text → Text → Bool
good id text = if bytes_eq id (codes "seed") then is_unsigned_in 0 most_seed text
    else (if bytes_eq id (codes "size") then is_unsigned_in 1 most_size text
    else (if bytes_eq id (codes "steps") then is_unsigned_in 0 most_steps text
    else (if bytes_eq id (codes "leaf") then is_unsigned_in 1 most_leaf text
    else (if bytes_eq id (codes "workers") then is_unsigned_in 1 most_workers text
    else (if bytes_eq id (codes "order") then is_unsigned_in 0 most_seed text
    else (if bytes_eq id (codes "visits") then is_unsigned_in 0 most_visits text
    else (if bytes_eq id (codes "cuts") then is_unsigned_in 0 most_cuts text else true)))))))

solve_checks : AllByRecursion (Checks good) solve_level.rules
solve_checks = (
  record { wants = inl refl; plain = tt; passes = λ v e. refl },
  (
    record { wants = inl refl; plain = tt; passes = λ v e. refl },
    (
      record { wants = inl refl; plain = tt; passes = λ v e. e },
      (
        record { wants = inl refl; plain = tt; passes = λ v e. refl },
        (
          record { wants = inl refl; plain = tt; passes = λ v e. refl },
          (
            record { wants = inl refl; plain = tt; passes = λ v e. e },
            (
              record { wants = inl refl; plain = tt; passes = λ v e. e },
              (
                record { wants = inl refl; plain = tt; passes = λ v e. e },
                (
                  record { wants = inl refl; plain = tt; passes = λ v e. e },
                  (
                    record { wants = inr tt; plain = (refl, tt); passes = λ v e. refl },
                    (
                      record { wants = inl refl; plain = tt; passes = λ v e. refl },
                      (
                        record { wants = inl refl; plain = tt; passes = λ v e. refl },
                        (
                          record { wants = inl refl; plain = tt; passes = λ v e. refl },
                          (record { wants = inl refl; plain = tt; passes = λ v e. refl }, tt),
                        ),
                      ),
                    ),
                  ),
                ),
              ),
            ),
          ),
        ),
      ),
    ),
  ),
)

check_checks : AllByRecursion (Checks good) check_level.rules
check_checks = (
  record { wants = inl refl; plain = tt; passes = λ v e. refl },
  (
    record { wants = inl refl; plain = tt; passes = λ v e. refl },
    (
      record { wants = inl refl; plain = tt; passes = λ v e. refl },
      (
        record { wants = inl refl; plain = tt; passes = λ v e. e },
        (record { wants = inr tt; plain = (refl, tt); passes = λ v e. refl }, tt),
      ),
    ),
  ),
)

show_checks : AllByRecursion (Checks good) show_level.rules
show_checks = (
  record { wants = inl refl; plain = tt; passes = λ v e. refl },
  (
    record { wants = inl refl; plain = tt; passes = λ v e. refl },
    (
      record { wants = inr tt; plain = (refl, tt); passes = λ v e. refl },
      (
        record { wants = inr tt; plain = (refl, tt); passes = λ v e. refl },
        (record { wants = inr tt; plain = (refl, tt); passes = λ v e. refl }, tt),
      ),
    ),
  ),
)

gen_checks : AllByRecursion (Checks good) gen_level.rules
gen_checks = (
  record { wants = inl refl; plain = tt; passes = λ v e. e },
  (
    record { wants = inl refl; plain = tt; passes = λ v e. e },
    (
      record { wants = inl refl; plain = tt; passes = λ v e. refl },
      (record { wants = inl refl; plain = tt; passes = λ v e. refl }, tt),
    ),
  ),
)

demo_checks : AllByRecursion (Checks good) demo_level.rules
demo_checks = (
  record { wants = inl refl; plain = tt; passes = λ v e. e },
  (record { wants = inl refl; plain = tt; passes = λ v e. e }, tt),
)

detect_checks : AllByRecursion (Checks good) detect_level.rules
detect_checks = (
  record { wants = inl refl; plain = tt; passes = λ v e. refl },
  (
    record { wants = inl refl; plain = tt; passes = λ v e. refl },
    (
      record { wants = inl refl; plain = tt; passes = λ v e. refl },
      (record { wants = inr tt; plain = (refl, tt); passes = λ v e. refl }, tt),
    ),
  ),
)

propose_checks : AllByRecursion (Checks good) propose_level.rules
propose_checks = (
  record { wants = inl refl; plain = tt; passes = λ v e. refl },
  (
    record { wants = inl refl; plain = tt; passes = λ v e. refl },
    (record { wants = inr tt; plain = (refl, tt); passes = λ v e. refl }, tt),
  ),
)

merge_checks : AllByRecursion (Checks good) merge_level.rules
merge_checks = (
  record { wants = inl refl; plain = tt; passes = λ v e. refl },
  (
    record { wants = inl refl; plain = tt; passes = λ v e. refl },
    (
      record { wants = inl refl; plain = tt; passes = λ v e. refl },
      (
        record { wants = inl refl; plain = tt; passes = λ v e. refl },
        (
          record { wants = inl refl; plain = tt; passes = λ v e. refl },
          (record { wants = inr tt; plain = (refl, tt); passes = λ v e. refl }, tt),
        ),
      ),
    ),
  ),
)

migrate_checks : AllByRecursion (Checks good) migrate_level.rules
migrate_checks = (
  record { wants = inl refl; plain = tt; passes = λ v e. refl },
  (
    record { wants = inl refl; plain = tt; passes = λ v e. refl },
    (
      record { wants = inl refl; plain = tt; passes = λ v e. refl },
      (
        record { wants = inl refl; plain = tt; passes = λ v e. refl },
        (record { wants = inr tt; plain = (refl, tt); passes = λ v e. refl }, tt),
      ),
    ),
  ),
)

-- a subcommand is there
has_subcommand : (has : Bool) → check_kinds (not has && false) (not has && true) false ≡ [] → has ≡ true
has_subcommand true e = refl
has_subcommand false e = absurd (cc)

-- one, two, three or four arguments are there
one_there : (a : Bool) → check_kinds false false (not a || false) ≡ [] → a ≡ true
one_there true e = refl
one_there false e = absurd (cc)

two_there : (a b : Bool) → check_kinds false false (not a || (not b || false)) ≡ [] → (a ≡ true) × (b ≡ true)
two_there true true e = (refl, refl)
two_there true false e = absurd (cc)
two_there false b e = absurd (cc)

three_there : (a b c : Bool) → check_kinds false false (not a || (not b || (not c || false))) ≡ [] → (a ≡ true) × (b ≡ true) × (c ≡ true)
three_there true true true e = (refl, refl, refl)
three_there true true false e = absurd (cc)
three_there true false c e = absurd (cc)
three_there false b c e = absurd (cc)

four_there : (a b c d : Bool) → check_kinds false false (not a || (not b || (not c || (not d || false)))) ≡ []
    → (a ≡ true) × (b ≡ true) × (c ≡ true) × (d ≡ true)
four_there true true true true e = (refl, refl, refl, refl)
four_there true true true false e = absurd (cc)
four_there true true false d e = absurd (cc)
four_there true false c d e = absurd (cc)
four_there false b c d e = absurd (cc)

-- a text that the parser of a number takes means one
number_meant : (low high : ℕ) (text : Text) → is_unsigned_in low high text ≡ true
    → IsNumber text low high (digits_value 10 (without_leading_plus text))
number_meant low high text e =
    let taken = accepts-Accepts false (Unsigned low high) text e in
    record { digits = taken.0; value = refl; least = taken.2; most = taken.3 }

-- a number, where it is given
number_stated : (low high : ℕ) (given : Option Text) → ((text : Text) → given ≡ Some text → is_unsigned_in low high text ≡ true)
    → (n : Option ℕ) × MayHaveNumber given low high n
number_stated low high None passes = (None, refl)
number_stated low high (Some text) passes =
    (Some (digits_value 10 (without_leading_plus text)), (text, refl, number_meant low high text (passes text refl)))

-- a count, or 0 where none is given
count_stated : (high : ℕ) (given : Option Text) → ((text : Text) → given ≡ Some text → is_unsigned_in 0 high text ≡ true)
    → (n : ℕ) × HasCount given high n
count_stated high None passes = (0, refl)
count_stated high (Some text) passes = (digits_value 10 (without_leading_plus text), number_meant 0 high text (passes text refl))

-- a leaf is where it may be named, or not
placed : (leaf from workers order : Option Text) → GoTogether leaf from workers order ⊎ (GoTogether leaf from workers order → ⊥)
placed None from workers order = inl tt
placed (Some leaf) None workers order = inr (λ h. let e = h.0 in absurd (cc))
placed (Some leaf) (Some from) (Some workers) order = inr (λ h. let e = h.1 in absurd (cc))
placed (Some leaf) (Some from) None (Some order) = inr (λ h. let e = h.2 in absurd (cc))
placed (Some leaf) (Some from) None None = inl (refl, refl, refl)

-- a word that watches a search is where it may be, or not
alone : (watching leaf workers order : Option Text) → GoesAlone watching leaf workers order ⊎ (GoesAlone watching leaf workers order → ⊥)
alone None leaf workers order = inl tt
alone (Some text) (Some leaf) workers order = inr (λ h. let e = h.0 in absurd (cc))
alone (Some text) None (Some workers) order = inr (λ h. let e = h.1 in absurd (cc))
alone (Some text) None None (Some order) = inr (λ h. let e = h.2 in absurd (cc))
alone (Some text) None None None = inl (refl, refl, refl)

-- a test holds, or not
holds : (t : Bool) → (t ≡ true) ⊎ (t ≡ true → ⊥)
holds true = inl refl
holds false = inr (λ e. absurd (cc))

-- the words of `solve` go together, or not
all_placed : (rows : List Row) → ArePlaced rows ⊎ (ArePlaced rows → ⊥)
all_placed rows =
    ⊎_elim
    (λ (leaf : IsLeafPlaced rows).
    ⊎_elim
    (λ (time : IsAloneIn rows (codes "time")).
    ⊎_elim
    (λ (gap : IsAloneIn rows (codes "gap")).
    ⊎_elim
    (λ (log : IsAloneIn rows (codes "log")).
    ⊎_elim
    (λ (stop : IsAloneIn rows (codes "stop")).
    ⊎_elim
    (λ (seconds : is_amount_or_none (first_of (codes "time") rows) ≡ true).
    ⊎_elim
    (λ (percent : is_amount_or_none (first_of (codes "gap") rows) ≡ true).
    ⊎_elim
    (λ (every : is_amount_or_none (first_of (codes "log") rows) ≡ true).
    inl (record { leaf = leaf; time = time; gap = gap; log = log; stop = stop; seconds = seconds; percent = percent; every = every }))
    (λ no. inr (λ (h : ArePlaced rows). no h.every)) (holds (is_amount_or_none (first_of (codes "log") rows))))
    (λ no. inr (λ (h : ArePlaced rows). no h.percent)) (holds (is_amount_or_none (first_of (codes "gap") rows))))
    (λ no. inr (λ (h : ArePlaced rows). no h.seconds)) (holds (is_amount_or_none (first_of (codes "time") rows))))
    (λ no. inr (λ (h : ArePlaced rows). no h.stop)) (alone_in (codes "stop")))
    (λ no. inr (λ (h : ArePlaced rows). no h.log)) (alone_in (codes "log")))
    (λ no. inr (λ (h : ArePlaced rows). no h.gap)) (alone_in (codes "gap")))
    (λ no. inr (λ (h : ArePlaced rows). no h.time)) (alone_in (codes "time")))
    (λ no. inr (λ (h : ArePlaced rows). no h.leaf))
    (placed (first_of (codes "leaf") rows) (first_of (codes "from") rows) (first_of (codes "workers") rows) (first_of (codes "order") rows))
  where
    alone_in : (name : Text) → IsAloneIn rows name ⊎ (IsAloneIn rows name → ⊥)
    alone_in name = alone (first_of name rows) (first_of (codes "leaf") rows) (first_of (codes "workers") rows) (first_of (codes "order") rows)

-- a subcommand that was met states an order, or misplaces a word
abbrev pub Gives : Option (Text × List Row) → Type 0
Gives met = ((order : Order) × IsStated met order) ⊎ MisplacesWord met

-- what each subcommand states
solve_states : (words : List Text) → level_fault solve_level [] nothing_held words false [] ≡ [] → Gives (Some (rows_at solve_level words))
solve_states words e =
    let rows : List Row = rows_after solve_level.rules [] words in
    let level = full_level good solve_level words solve_checks e in
    let lp = given_has good (codes "lp") rows (one_there (is_given (codes "lp") rows) level.1) level.0 in
    let steps = number_stated 0 most_steps (first_of (codes "steps") rows) (λ text is. first_good good (codes "steps") rows text level.0 is) in
    let leaf = number_stated 1 most_leaf (first_of (codes "leaf") rows) (λ text is. first_good good (codes "leaf") rows text level.0 is) in
    let workers = number_stated 1 most_workers (first_of (codes "workers") rows) (λ text is. first_good good (codes "workers") rows text level.0 is) in
    let order = number_stated 0 most_seed (first_of (codes "order") rows) (λ text is. first_good good (codes "order") rows text level.0 is) in
    let cuts = count_stated most_cuts (first_of (codes "cuts") rows) (λ text is. first_good good (codes "cuts") rows text level.0 is) in
    ⊎_elim
    (λ (well : ArePlaced rows). inl (
      Solve (record {
        lp = lp.0;
        dec = first_of (codes "dec") rows;
        steps = steps.0;
        cert = first_of (codes "cert") rows;
        from = first_of (codes "from") rows;
        leaf = leaf.0;
        workers = workers.0;
        order = order.0;
        cuts = cuts.0;
        limits = limits_of (first_of (codes "large") rows);
        watching = record {
          time = first_of (codes "time") rows;
          gap = first_of (codes "gap") rows;
          log = first_of (codes "log") rows;
          stop = first_of (codes "stop") rows;
        };
      }),
      record {
        name = codes "solve";
        rows = rows;
        subcommand = refl;
        values = (refl, lp.1, refl, steps.1, refl, refl, leaf.1, workers.1, order.1, well, cuts.1, refl, record { time = refl; gap = refl; log = refl; stop = refl });
      },
    ))
    (λ astray. inr (rows, refl, astray))
    (all_placed rows)

check_states : (words : List Text) → level_fault check_level [] nothing_held words false [] ≡ []
    → (order : Order) × IsStated (Some (rows_at check_level words)) order
check_states words e =
    let rows : List Row = rows_after check_level.rules [] words in
    let level = full_level good check_level words check_checks e in
    let both = two_there (is_given (codes "lp") rows) (is_given (codes "cert") rows) level.1 in
    let lp = given_has good (codes "lp") rows both.0 level.0 in
    let cert = given_has good (codes "cert") rows both.1 level.0 in
    let visits = number_stated 0 most_visits (first_of (codes "visits") rows) (λ text is. first_good good (codes "visits") rows text level.0 is) in (
      Check (record {
        lp = lp.0;
        cert = cert.0;
        dec = first_of (codes "dec") rows;
        visits = visits.0;
        limits = limits_of (first_of (codes "large") rows);
      }),
      record {
        name = codes "check";
        rows = rows;
        subcommand = refl;
        values = (refl, lp.1, cert.1, refl, visits.1, refl);
      },
    )

show_states : (words : List Text) → level_fault show_level [] nothing_held words false [] ≡ []
    → (order : Order) × IsStated (Some (rows_at show_level words)) order
show_states words e =
    let rows : List Row = rows_after show_level.rules [] words in
    let level = full_level good show_level words show_checks e in
    let lp = given_has good (codes "lp") rows (one_there (is_given (codes "lp") rows) level.1) level.0 in (
      Show lp.0 (first_of (codes "dec") rows) (is_set (first_of (codes "blocks") rows)) (is_set (first_of (codes "classes") rows)) (limits_of (first_of (codes "large") rows)),
      record {
        name = codes "show";
        rows = rows;
        subcommand = refl;
        values = (refl, lp.1, refl, refl, refl, refl);
      },
    )

gen_states : (words : List Text) → level_fault gen_level [] nothing_held words false [] ≡ []
    → (order : Order) × IsStated (Some (rows_at gen_level words)) order
gen_states words e =
    let rows : List Row = rows_after gen_level.rules [] words in
    let level = full_level good gen_level words gen_checks e in
    let all = four_there (is_given (codes "seed") rows) (is_given (codes "size") rows) (is_given (codes "lp") rows) (is_given (codes "dec") rows) level.1 in
    let seed = given_has good (codes "seed") rows all.0 level.0 in
    let size = given_has good (codes "size") rows all.1 level.0 in
    let lp = given_has good (codes "lp") rows all.2 level.0 in
    let dec = given_has good (codes "dec") rows all.3 level.0 in (
      Gen (digits_value 10 (without_leading_plus seed.0)) (digits_value 10 (without_leading_plus size.0)) lp.0 dec.0,
      record {
        name = codes "gen";
        rows = rows;
        subcommand = refl;
        values = (
          refl,
          (seed.0, seed.1, number_meant 0 most_seed seed.0 seed.2),
          (size.0, size.1, number_meant 1 most_size size.0 size.2),
          lp.1,
          dec.1,
        );
      },
    )

demo_states : (words : List Text) → level_fault demo_level [] nothing_held words false [] ≡ []
    → (order : Order) × IsStated (Some (rows_at demo_level words)) order
demo_states words e =
    let rows : List Row = rows_after demo_level.rules [] words in
    let level = full_level good demo_level words demo_checks e in
    let both = two_there (is_given (codes "seed") rows) (is_given (codes "size") rows) level.1 in
    let seed = given_has good (codes "seed") rows both.0 level.0 in
    let size = given_has good (codes "size") rows both.1 level.0 in (
      Demo (digits_value 10 (without_leading_plus seed.0)) (digits_value 10 (without_leading_plus size.0)),
      record {
        name = codes "demo";
        rows = rows;
        subcommand = refl;
        values = (
          refl,
          (seed.0, seed.1, number_meant 0 most_seed seed.0 seed.2),
          (size.0, size.1, number_meant 1 most_size size.0 size.2),
        );
      },
    )

detect_states : (words : List Text) → level_fault detect_level [] nothing_held words false [] ≡ []
    → (order : Order) × IsStated (Some (rows_at detect_level words)) order
detect_states words e =
    let rows : List Row = rows_after detect_level.rules [] words in
    let level = full_level good detect_level words detect_checks e in
    let all = three_there (is_given (codes "lp") rows) (is_given (codes "rows") rows) (is_given (codes "dec") rows) level.1 in
    let lp = given_has good (codes "lp") rows all.0 level.0 in
    let list = given_has good (codes "rows") rows all.1 level.0 in
    let dec = given_has good (codes "dec") rows all.2 level.0 in (
      Detect lp.0 list.0 dec.0 (limits_of (first_of (codes "large") rows)),
      record {
        name = codes "detect";
        rows = rows;
        subcommand = refl;
        values = (refl, lp.1, list.1, dec.1, refl);
      },
    )

propose_states : (words : List Text) → level_fault propose_level [] nothing_held words false [] ≡ []
    → (order : Order) × IsStated (Some (rows_at propose_level words)) order
propose_states words e =
    let rows : List Row = rows_after propose_level.rules [] words in
    let level = full_level good propose_level words propose_checks e in
    let both = two_there (is_given (codes "lp") rows) (is_given (codes "dec") rows) level.1 in
    let lp = given_has good (codes "lp") rows both.0 level.0 in
    let dec = given_has good (codes "dec") rows both.1 level.0 in (
      Propose lp.0 dec.0 (limits_of (first_of (codes "large") rows)),
      record {
        name = codes "propose";
        rows = rows;
        subcommand = refl;
        values = (refl, lp.1, dec.1, refl);
      },
    )

merge_states : (words : List Text) → level_fault merge_level [] nothing_held words false [] ≡ []
    → (order : Order) × IsStated (Some (rows_at merge_level words)) order
merge_states words e =
    let rows : List Row = rows_after merge_level.rules [] words in
    let level = full_level good merge_level words merge_checks e in
    let all = four_there (is_given (codes "lp") rows) (is_given (codes "first") rows) (is_given (codes "second") rows) (is_given (codes "new") rows) level.1 in
    let lp = given_has good (codes "lp") rows all.0 level.0 in
    let one = given_has good (codes "first") rows all.1 level.0 in
    let other = given_has good (codes "second") rows all.2 level.0 in
    let new = given_has good (codes "new") rows all.3 level.0 in (
      Merge (record {
        lp = lp.0;
        first = one.0;
        second = other.0;
        new = new.0;
        dec = first_of (codes "dec") rows;
        limits = limits_of (first_of (codes "large") rows);
      }),
      record {
        name = codes "merge";
        rows = rows;
        subcommand = refl;
        values = (refl, lp.1, one.1, other.1, new.1, refl, refl);
      },
    )

migrate_states : (words : List Text) → level_fault migrate_level [] nothing_held words false [] ≡ []
    → (order : Order) × IsStated (Some (rows_at migrate_level words)) order
migrate_states words e =
    let rows : List Row = rows_after migrate_level.rules [] words in
    let level = full_level good migrate_level words migrate_checks e in
    let all = three_there (is_given (codes "lp") rows) (is_given (codes "cert") rows) (is_given (codes "new") rows) level.1 in
    let lp = given_has good (codes "lp") rows all.0 level.0 in
    let cert = given_has good (codes "cert") rows all.1 level.0 in
    let new = given_has good (codes "new") rows all.2 level.0 in (
      Migrate lp.0 cert.0 new.0 (first_of (codes "dec") rows) (limits_of (first_of (codes "large") rows)),
      record {
        name = codes "migrate";
        rows = rows;
        subcommand = refl;
        values = (refl, lp.1, cert.1, new.1, refl, refl);
      },
    )

-- the level that is met, by which subcommand's name answers
abbrev met_level : (t u v w x y z m n : Bool) → Option Shape
met_level t u v w x y z m n = if t then Some solve_level
    else (if u then Some check_level
    else (if v then Some show_level
    else (if w then Some gen_level
    else (if x then Some demo_level else (if y then Some detect_level else (if z then Some propose_level
    else (if m then Some merge_level else (if n then Some migrate_level else None))))))))

-- the subcommand that was met states an order, or misplaces a word
met_states : (stop : Option (Text × List Text)) → entered_fault line stop ≡ [] → is_some (entered line stop) ≡ true → Gives (entered line stop)
met_states None e has = absurd (cc)
met_states (Some p) e has =
    pick (answers_to p.0 (label_of solve_level)) (answers_to p.0 (label_of check_level)) (answers_to p.0 (label_of show_level))
    (answers_to p.0 (label_of gen_level)) (answers_to p.0 (label_of demo_level)) (answers_to p.0 (label_of detect_level))
    (answers_to p.0 (label_of propose_level)) (answers_to p.0 (label_of merge_level)) (answers_to p.0 (label_of migrate_level)) e has
  where
    pick : (t u v w x y z m n : Bool)
        → option_map_or (λ (s : Shape). level_fault s [] nothing_held p.1 false []) (met_level t u v w x y z m n) [] ≡ []
        → is_some (option_map (λ (s : Shape). rows_at s p.1) (met_level t u v w x y z m n)) ≡ true
        → Gives (option_map (λ (s : Shape). rows_at s p.1) (met_level t u v w x y z m n))
    pick true u v w x y z m n e has = solve_states p.1 e
    pick false true v w x y z m n e has = inl (check_states p.1 e)
    pick false false true w x y z m n e has = inl (show_states p.1 e)
    pick false false false true x y z m n e has = inl (gen_states p.1 e)
    pick false false false false true y z m n e has = inl (demo_states p.1 e)
    pick false false false false false true z m n e has = inl (detect_states p.1 e)
    pick false false false false false false true m n e has = inl (propose_states p.1 e)
    pick false false false false false false false true n e has = inl (merge_states p.1 e)
    pick false false false false false false false false true e has = inl (migrate_states p.1 e)
    pick false false false false false false false false false e has = absurd (cc)

-- words without fault give an order, or misplace a word
taken_gives : (words : List Text) → fault_of command_line words ≡ [] → Gives (subcommand_of command_line words)
taken_gives words e =
    let given : List Text = argument_words command_line words in
    let stop : Option (Text × List Text) = stop_after line.top.rules (names_of line) given in
    let end = (walk line.top.rules (names_of line) nothing_held given).held in
    let first = both_parts (walk_fault line.top (names_of line) (walk_from nothing_held) given) _ e in
    let second = both_parts (entered_fault line stop) _ first.1 in
    let third = both_parts (settle_fault line.top.rules line.top.args_override_self end) _ second.1 in
    let fourth = both_parts _ (check_fault line.top (finished line.top.rules end) (is_some (entered line stop))) third.1 in
    met_states stop second.0 (has_subcommand (is_some (entered line stop)) fourth.1)

-- words that give no order are refused
pub refused_words : (words : List Text) → ((order : Order) → IsStated (subcommand_of command_line words) order → ⊥) → AreRefused words
refused_words words none = by (fault_of command_line words) (λ e. e) (λ e. taken_gives words e)
  where
    by : (kinds : Kinds) → (fault_of command_line words ≡ [] → kinds ≡ []) → (kinds ≡ [] → Gives (subcommand_of command_line words)) → AreRefused words
    by [] same gives = ⊎_elim (λ (one : (order : Order) × IsStated (subcommand_of command_line words) order). absurd (none one.0 one.1)) (λ astray. inr astray) (gives refl)
    by (kind ∷ kinds) same gives = inl (λ empty. let bad = same empty in absurd (cc))
