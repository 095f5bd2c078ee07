-- What is right for the order that words give is right for the words, and no other status is.
use Rattle.std.proofs.Common.{◌≡◌, ◌≢◌, ◌⊎◌, ◌∙◌, ◌++◌, IsTrue, IsSomeAnd, take, refl, sym, ap, subst, inl, inr, ℕ, Bool, List, Vec, Global, Option, Some, None}
use Rattle.bp_shelf.specs.Shelf.{Files}
use Rattle.branch_tree.specs.declared.outcome.Outcome.{Outcome}
use Rattle.cli_orders.specs.Orders.{IsOrderOf, AreRefused}
use Rattle.cli_orders.specs.declared.order.Order.{Order}
use Rattle.cli_orders.specs.declared.order.Order.TheVariants.{Solve, Check, Show, Gen, Demo, Detect, Propose, Merge, Migrate}
use Rattle.bp_report.specs.Refusals.{words_refusal}
use Rattle.frontend.specs.Answers.{AnswersBy, IsOnly, CutsOff, FilesStand}
use Rattle.bp_cli.specs.Promises.{Demonstrates}
use Rattle.bp_cli.specs.Running.{Answers, refused, ordered, AnswersOrder, OfOrder, HasWritten, stopped_at}
use Rattle.cmd_gen.specs.Generates.{untouched}
use Rattle.cmd_decompose.specs.DetectFiles as detected
use Rattle.cmd_decompose.specs.ProposeFiles as proposed
use Rattle.cmd_certificates.specs.MergeFiles as merged
use Rattle.cmd_certificates.specs.MigrateFiles as migrated
use Rattle.cmd_solve.proofs.Parts.{untouched_part}
use Rattle.bp_cli.proofs.OneOrder.{one_order, not_both}

-- an answer of the order
pub order_answers : (words : List (List ℕ)) (order : Order) (steps : Option ℕ) (files : Files) (kept : Option Outcome) (status : ℕ) (tells : Bool) (before now : List ℕ) → IsOrderOf words order
    → AnswersBy (AnswersOrder (stopped_at order steps) files kept) status tells before now → AnswersBy (Answers words steps files kept) status tells before now
order_answers words order steps files kept status tells before now is answers = λ no_read no_write no_want.
    let answer = answers no_read no_write no_want in
    (answer.0, ordered order is answer.1, answer.2)

-- no other status is right
pub order_only : (words : List (List ℕ)) (order : Order) (steps : Option ℕ) (files : Files) (kept : Option Outcome) (status : ℕ) → IsOrderOf words order
    → IsOnly (AnswersOrder (stopped_at order steps) files kept) status → IsOnly (Answers words steps files kept) status
order_only words order steps files kept status is only = λ no_read no_write no_want meant report right. by meant report (only no_read no_write no_want) right
  where
    by : (meant : ℕ) (report : List ℕ) → ((m : ℕ) (r : List ℕ) → AnswersOrder (stopped_at order steps) files kept m r → status ≡ m) → Answers words steps files kept meant report → status ≡ meant
    by meant report each (refused fault none two printed) = absurd (not_both words order fault is)
    by meant report each (ordered other other_is right) =
        each meant report (subst (λ (o : Order). AnswersOrder (stopped_at o steps) files kept meant report) (one_order words other order other_is is) right)

-- a beginning of an answer
pub order_cut : (words : List (List ℕ)) (order : Order) (steps : Option ℕ) (files : Files) (status : ℕ) (lost : Option (Vec ℕ Global)) (tells : Bool) (before now : List ℕ) → IsOrderOf words order
    → CutsOff (AnswersOrder (stopped_at order steps) files) status lost tells before now → CutsOff (Answers words steps files) status lost tells before now
order_cut words order steps files status lost tells before now is cuts = λ is_fault.
    let cut = cuts is_fault in
    (cut.0, cut.1, cut.2, cut.3, ordered order is cut.4, cut.5)

-- what holds of the order of the words
pub of_order : (words : List (List ℕ)) (order : Order) (Holds : Order → Type 0) → IsOrderOf words order → Holds order → OfOrder words Holds
of_order words order Holds is holds = λ other other_is. subst Holds (one_order words order other is other_is) holds

-- words that are no command line give no order
pub no_order : (words : List (List ℕ)) (Holds : Order → Type 0) → AreRefused words → OfOrder words Holds
no_order words Holds fault = λ other other_is. absurd (not_both words other fault other_is)

-- words that are refused
pub refused_only : (words : List (List ℕ)) (steps : Option ℕ) (files : Files) (status : ℕ) → AreRefused words → (status ≢ 8 → status ≢ 9 → status ≡ 2)
    → IsOnly (Answers words steps files None) status
refused_only words steps files status fault two = λ no_read no_write no_want meant report right. by meant report right (two no_write no_want)
  where
    by : (meant : ℕ) (report : List ℕ) → Answers words steps files None meant report → status ≡ 2 → status ≡ meant
    by meant report (refused _ none is printed) is_two = cc
    by meant report (ordered order is right) is_two = absurd (not_both words order fault is)

-- the status of a refusal that was printed
pub refused_two : (status : ℕ) → (status ≡ 2) ⊎ (status ≡ 8) ⊎ (status ≡ 9) → status ≢ 8 → status ≢ 9 → status ≡ 2
refused_two status (inl two) no_write no_want = two
refused_two status (inr (inl fault)) no_write no_want = absurd (no_write fault)
refused_two status (inr (inr want)) no_write no_want = absurd (no_want want)

-- a beginning of a refusal of words, whose report is lost
pub words_cut : (words : List (List ℕ)) (steps : Option ℕ) (files : Files) (status : ℕ) (lost : Option (Vec ℕ Global)) (tells : Bool) (before now : List ℕ) → AreRefused words
    → (status ≡ 8 → IsSomeAnd lost (λ report. report.items ≡ words_refusal)) → (IsTrue tells → status ≡ 8 → (count : ℕ) × (now ≡ before ++ take count words_refusal))
    → CutsOff (Answers words steps files) status lost tells before now
words_cut words steps files status None tells before now fault gone partly = λ is_fault. absurd (gone is_fault)
words_cut words steps files status (Some report) tells before now fault gone partly = λ is_fault. (
  None,
  2,
  report,
  refl,
  refused fault refl refl (gone is_fault),
  (λ heard. let part = partly heard is_fault in (part.0, part.1 ∙ ap (λ (bytes : List ℕ). before ++ take part.0 bytes) (sym (gone is_fault)))),
)

-- an order that was not begun left nothing
pub nothing_written : (files : Files) (order : Order) → HasWritten order files files None 9
nothing_written files (Solve given) =
    (tt, stands given.cert, (λ _. refl), λ _. untouched_part given.limits files given.lp given.dec given.steps given.cert given.from given.leaf given.cuts files refl) where
      stands : (cert : Option (List ℕ)) → FilesStand cert files files
      stands None = refl
      stands (Some name) = λ other apart. refl
nothing_written files (Check given) = refl
nothing_written files (Show lp dec blocks classes limits) = refl
nothing_written files (Gen seed size lp dec) = untouched refl refl
nothing_written files (Demo seed size) = refl
nothing_written files (Detect lp list dec limits) = detected.untouched refl (inr refl)
nothing_written files (Propose lp dec limits) = proposed.untouched refl (inr refl)
nothing_written files (Merge given) = merged.untouched refl (inr refl)
nothing_written files (Migrate lp cert new dec limits) = migrated.stands (migrated.untouched refl (inr refl))

-- want of memory is right for `demo` too
pub not_demonstrated : (order : Order) (tells : Bool) (before now : List ℕ) → Demonstrates order None 9 None tells before now
not_demonstrated (Demo seed size) tells before now = ((λ no_read no_write no_want. absurd (no_want refl)), (λ no_read no_write no_want meant report right. absurd (no_want refl)), (λ is_fault. absurd (cc)))
not_demonstrated (Solve given) tells before now = tt
not_demonstrated (Check given) tells before now = tt
not_demonstrated (Show lp dec blocks classes limits) tells before now = tt
not_demonstrated (Gen seed size lp dec) tells before now = tt
not_demonstrated (Detect lp list dec limits) tells before now = tt
not_demonstrated (Propose lp dec limits) tells before now = tt
not_demonstrated (Merge given) tells before now = tt
not_demonstrated (Migrate lp cert new dec limits) tells before now = tt

-- answers of an order that keeps nothing
pub kept_answers : (kept : Option Outcome) (Right : ℕ → List ℕ → Type 0) (status : ℕ) (tells : Bool) (before now : List ℕ) → kept ≡ None → AnswersBy Right status tells before now
    → AnswersBy (λ s r. (kept ≡ None) × Right s r) status tells before now
kept_answers kept Right status tells before now none answers = λ no_read no_write no_want.
    let answer = answers no_read no_write no_want in
    (answer.0, (none, answer.1), answer.2)

pub kept_only : (kept : Option Outcome) (Right : ℕ → List ℕ → Type 0) (status : ℕ) → IsOnly Right status → IsOnly (λ s r. (kept ≡ None) × Right s r) status
kept_only kept Right status only = λ no_read no_write no_want meant report right. only no_read no_write no_want meant report right.1

pub kept_cut : (Right : ℕ → List ℕ → Type 0) (status : ℕ) (lost : Option (Vec ℕ Global)) (tells : Bool) (before now : List ℕ) → CutsOff (λ _. Right) status lost tells before now
    → CutsOff (λ kept s r. (kept ≡ None) × Right s r) status lost tells before now
kept_cut Right status lost tells before now cuts = λ is_fault.
    let cut = cuts is_fault in
    (None, cut.1, cut.2, cut.3, (refl, cut.4), cut.5)
