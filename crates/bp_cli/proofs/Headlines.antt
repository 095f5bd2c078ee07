-- The headline of the order that words give.
use Rattle.std.proofs.Common.{◌≢◌, subst, ℕ, Bool, IsTrue, List, Option, Some, None, IfSome}
use Rattle.bp_theory.specs.declared.Claim.{Claim}
use Rattle.bp_shelf.specs.Shelf.{Files}
use Rattle.branch_tree.specs.declared.outcome.Outcome.{Outcome}
use Rattle.cli_orders.specs.Orders.{IsOrderOf}
use Rattle.cli_orders.specs.declared.order.Order.{Order}
use Rattle.cli_orders.specs.declared.order.SolveOrder.{SolveOrder}
use Rattle.cli_orders.specs.declared.order.Order.TheVariants.{Solve, Check, Show, Gen, Demo, Detect, Propose, Merge, Migrate}
use Rattle.cert_report.specs.Certificates.{accepted_report}
use Rattle.frontend.specs.Answers.{AnswersBy, FilesStand, IsStatus}
use Rattle.cmd_check.specs.Checks.{AnswersCheck}
use Rattle.cmd_solve.specs.Solves.{AnswersSolve}
use Rattle.cmd_solve.specs.Saves.{HasCertificate}
use Rattle.bp_cli.specs.Running.{Answers, refused, ordered, AnswersOrder, OfOrder, HasWritten, stopped_at}
use Rattle.bp_cli.specs.Headline.{SolvesTruly, SolvesAccepted, ChecksTruly}
use Rattle.bp_cli.specs.Promises.{SolvesDecomposed, WritesCertificate}
use Rattle.bp_cli.proofs.OneOrder.{one_order, not_both}
use Rattle.bp_cli.proofs.Truth.{solves_truly, solves_accepted, solves_decomposed, writes_certificate, checks_truly}

-- what words are answered is what their order is answered
of_words : (words : List (List ℕ)) (order : Order) (steps : Option ℕ) (files : Files) (kept : Option Outcome) (status : ℕ) (tells : Bool) (before now : List ℕ) → IsOrderOf words order
    → AnswersBy (Answers words steps files kept) status tells before now → AnswersBy (AnswersOrder (stopped_at order steps) files kept) status tells before now
of_words words order steps files kept status tells before now is answers = λ no_read no_write no_want.
    let answer = answers no_read no_write no_want in
    (answer.0, by answer.0 answer.1, answer.2)
  where
    by : (report : List ℕ) → Answers words steps files kept status report → AnswersOrder (stopped_at order steps) files kept status report
    by report (refused fault none two printed) = absurd (not_both words order fault is)
    by report (ordered other other_is right) = subst (λ (o : Order). AnswersOrder (stopped_at o steps) files kept status report) (one_order words other order other_is is) right

pub solved : (words : List (List ℕ)) (steps : Option ℕ) (files : Files) (kept : Option Outcome) (status : ℕ) (tells : Bool) (before now : List ℕ)
    → AnswersBy (Answers words steps files kept) status tells before now → IsTrue tells → OfOrder words (λ order. SolvesTruly (stopped_at order steps) files kept status before now)
solved words steps files kept status tells before now answers heard = λ order is. by order (of_words words order steps files kept status tells before now is answers)
  where
    by : (order : Order) → AnswersBy (AnswersOrder (stopped_at order steps) files kept) status tells before now → SolvesTruly (stopped_at order steps) files kept status before now
    by (Solve given) right = solves_truly given.limits files given.lp given.dec steps given.from given.leaf given.cuts kept status tells before now right heard
    by (Check given) right = tt
    by (Show lp dec blocks classes limits) right = tt
    by (Gen seed size lp dec) right = tt
    by (Demo seed size) right = tt
    by (Detect lp list dec limits) right = tt
    by (Propose lp dec limits) right = tt
    by (Merge given) right = tt
    by (Migrate lp cert new dec limits) right = tt

pub accepts : (words : List (List ℕ)) (steps : Option ℕ) (files : Files) (kept : Option Outcome) (status : ℕ) (tells : Bool) (before now : List ℕ) → IsStatus status
    → AnswersBy (Answers words steps files kept) status tells before now → OfOrder words (λ order. SolvesAccepted order files status)
accepts words steps files kept status tells before now known answers = λ order is. by order (of_words words order steps files kept status tells before now is answers)
  where
    by : (order : Order) → AnswersBy (AnswersOrder (stopped_at order steps) files kept) status tells before now → SolvesAccepted order files status
    by (Solve given) right = λ plain anew. solves_accepted given.limits files given.lp steps given.leaf given.cuts kept status tells before now known
        (subst (λ (from : Option (List ℕ)). AnswersBy (AnswersSolve given.limits files given.lp None steps from given.leaf given.cuts kept) status tells before now) anew
        (subst (λ (dec : Option (List ℕ)). AnswersBy (AnswersSolve given.limits files given.lp dec steps given.from given.leaf given.cuts kept) status tells before now) plain right))
    by (Check given) right = tt
    by (Show lp dec blocks classes limits) right = tt
    by (Gen seed size lp dec) right = tt
    by (Demo seed size) right = tt
    by (Detect lp list dec limits) right = tt
    by (Propose lp dec limits) right = tt
    by (Merge given) right = tt
    by (Migrate lp cert new dec limits) right = tt

pub decomposes : (words : List (List ℕ)) (steps : Option ℕ) (files : Files) (kept : Option Outcome) (status : ℕ) (tells : Bool) (before now : List ℕ) → IsStatus status
    → AnswersBy (Answers words steps files kept) status tells before now → OfOrder words (λ order. SolvesDecomposed order files status)
decomposes words steps files kept status tells before now known answers = λ order is. by order (of_words words order steps files kept status tells before now is answers)
  where
    by : (order : Order) → AnswersBy (AnswersOrder (stopped_at order steps) files kept) status tells before now → SolvesDecomposed order files status
    by (Solve given) right = λ anew. solves_decomposed given.limits files given.lp given.dec steps given.leaf given.cuts kept status tells before now known
        (subst (λ (from : Option (List ℕ)). AnswersBy (AnswersSolve given.limits files given.lp given.dec steps from given.leaf given.cuts kept) status tells before now) anew right)
    by (Check given) right = tt
    by (Show lp dec blocks classes limits) right = tt
    by (Gen seed size lp dec) right = tt
    by (Demo seed size) right = tt
    by (Detect lp list dec limits) right = tt
    by (Propose lp dec limits) right = tt
    by (Merge given) right = tt
    by (Migrate lp cert new dec limits) right = tt

pub certifies : (words : List (List ℕ)) (steps : Option ℕ) (files left : Files) (kept : Option Outcome) (status : ℕ) → OfOrder words (λ order. HasWritten (stopped_at order steps) files left kept status)
    → OfOrder words (λ order. WritesCertificate order left kept)
certifies words steps files left kept status written = λ order is. by order kept (written order is)
  where
    saved : (given : SolveOrder) (cert : Option (List ℕ)) (k : Option Outcome) → HasCertificate given.limits files given.lp given.dec cert given.from given.cuts left k → FilesStand cert files left
        → IfSome cert (λ name. IfSome k (λ outcome.
        name ≢ given.lp → given.dec ≢ Some name → (claim : Claim) × AnswersCheck given.limits left given.lp name given.dec None 0 (accepted_report claim)))
    saved given (Some cert) (Some o) has stands = writes_certificate given.limits files left given.lp cert given.dec given.from given.cuts o has stands
    saved given (Some cert) None has stands = tt
    saved given None k has stands = tt

    by : (order : Order) (k : Option Outcome) → HasWritten (stopped_at order steps) files left k status → WritesCertificate order left k
    by (Solve given) k has = saved given given.cert k has.0 has.1
    by (Check given) k has = tt
    by (Show lp dec blocks classes limits) k has = tt
    by (Gen seed size lp dec) k has = tt
    by (Demo seed size) k has = tt
    by (Detect lp list dec limits) k has = tt
    by (Propose lp dec limits) k has = tt
    by (Merge given) k has = tt
    by (Migrate lp cert new dec limits) k has = tt

pub checked : (words : List (List ℕ)) (steps : Option ℕ) (files : Files) (kept : Option Outcome) (status : ℕ) (tells : Bool) (before now : List ℕ)
    → AnswersBy (Answers words steps files kept) status tells before now → IsTrue tells → OfOrder words (λ order. ChecksTruly order files status before now)
checked words steps files kept status tells before now answers heard = λ order is. by order (of_words words order steps files kept status tells before now is answers)
  where
    by : (order : Order) → AnswersBy (AnswersOrder (stopped_at order steps) files kept) status tells before now → ChecksTruly order files status before now
    by (Solve given) right = tt
    by (Check given) right = λ zero. checks_truly given.limits files given.lp given.cert given.dec given.visits status tells before now (λ a b c. let answer = right a b c in (answer.0, answer.1.1, answer.2)) heard zero
    by (Show lp dec blocks classes limits) right = tt
    by (Gen seed size lp dec) right = tt
    by (Demo seed size) right = tt
    by (Detect lp list dec limits) right = tt
    by (Propose lp dec limits) right = tt
    by (Merge given) right = tt
    by (Migrate lp cert new dec limits) right = tt
