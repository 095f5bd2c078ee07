-- What `merge` answers by the files.
use Rattle.std.specs.Prelude.{◌≡◌, ◌⊎◌, ℕ, ◌+◌, ◌<◌, List, ◌++◌, length, take, slice_index_or, Option, Some, None, ℤ}
use Rattle.bp_theory.specs.declared.Limits.{Limits}
use Rattle.bp_theory.specs.Claims.{Certificate}
use Rattle.bp_theory.specs.Trees.{steps}
use Rattle.bp_shelf.specs.Shelf.{Files}
use Rattle.bp_theory.specs.declared.Cut.{Cut}
use Rattle.block_program.specs.Blocked.{BlockedProgram, IsFormed}
use Rattle.bp_shelf.specs.declared.shelf.ShelfFault.TheVariants.{NoMemory}
use Rattle.bp_report.specs.Refusals.{merge_refusal}
use Rattle.cert_load.specs.Recut.{with_cuts}
use Rattle.search_laws.specs.Grove.{certificate_tree}
use Rattle.branch_tree.specs.declared.loaded.Loaded.{Loaded}
use Rattle.branch_tree.specs.declared.outcome.Outcome.{Outcome}
use Rattle.tree_merge.specs.Merges.{IsMergedOf}
use Rattle.bp_search.specs.Ends.{EndsWithin, grove_in}
use Rattle.cert_text.specs.Outcomes.{claim_of}
use Rattle.cert_report.specs.Certificates.{merged_report}
use Rattle.frontend.specs.Front.{FilesCome, blocked, ends}
use Rattle.frontend.specs.Written.{Answer, stops, Answered}
use Rattle.search_outcome.specs.Outcomes.{IsSpelledOut}
use Rattle.cmd_certificates.specs.Claims.{IsMergedClaim}
use Rattle.cmd_certificates.specs.Opens.{IsOpened, IsOpenedText, RefusesFile}
use Rattle.cmd_certificates.specs.declared.opening.Opened.{Opened}
use Rattle.cmd_certificates.specs.declared.opening.Stop.{Stop}
use Rattle.cmd_certificates.specs.declared.opening.Stop.TheVariants.{Refused, Stopped}

-- Two valid certificates and what is loaded of them are answered by a merged one: its tree is the two trees made into one, its text is written and
-- spells a valid certificate, whose claim has the better value and a bound no worse than either's.
pub record AnswersBoth (b : BlockedProgram) (one other : Certificate) (first second : Loaded) (a : Answer) : Type 0 where
  pub from : Loaded
  pub merged : IsMergedOf first second from
  pub outcome : Outcome
  pub grove : grove_in outcome ≡ from.grove
  pub ended : EndsWithin b (steps (certificate_tree from.grove.tree)) outcome
  pub claim : IsMergedClaim b.named.program one.claim other.claim (claim_of b.named.program.maximises outcome)
  pub text : List ℕ
  pub spelled : IsSpelledOut b outcome text
  pub is : a ≡ record { status = 0; report = merged_report b.named.program.maximises outcome; text = Some text }

-- the line of a cut by its number from 0 in the text of a certificate with this point
abbrev pub cut_line : Option (List ℤ) → ℕ → ℕ
cut_line None number = 3 + number
cut_line (Some x) number = 4 + number

-- cuts that begin with those of two lists: all those of the longer
pub record IsLonger (one other cuts : List Cut) : Type 0 where
  pub first : (rest : List Cut) × (cuts ≡ one ++ rest)
  pub second : (rest : List Cut) × (cuts ≡ other ++ rest)
  pub either : (cuts ≡ one) ⊎ (cuts ≡ other)

-- the number of the first cut that is another one in two lists
pub record IsFirstApart (one other : List Cut) (number : ℕ) : Type 0 where
  pub first : number < length one
  pub second : number < length other
  pub alike : take number one ≡ take number other
  pub apart : (d : Cut) → slice_index_or one number d ≡ slice_index_or other number d → ⊥

-- the program in blocks that two certificates are merged over: it has the longer list of their cuts, which the other begins
abbrev pub MergesOver : BlockedProgram → (one other : List Cut) → BlockedProgram → Type 0
MergesOver b one other c = (cuts : List Cut) × IsLonger one other cuts × (c ≡ with_cuts b cuts)

-- what two opened certificates are answered where they are merged
abbrev pub JoinsBoth : (one other : Opened) → Answer → Type 0
JoinsBoth one other a = (b : BlockedProgram) (text more : List ℕ) → IsFormed b → (x : IsOpenedText b text one) → (y : IsOpenedText b more other)
    → (c : BlockedProgram) × MergesOver b x.opened.cert.cuts y.opened.cert.cuts c × AnswersBoth c x.opened.cert y.opened.cert one.from other.from a

-- where they aren't: the line of the second's first cut that is another one than the first's
abbrev pub StopsBoth : (one other : Opened) → Stop → Type 0
StopsBoth one other (Refused reply) = (b : BlockedProgram) (text more : List ℕ) → (x : IsOpenedText b text one) → (y : IsOpenedText b more other)
    → (number : ℕ) × IsFirstApart x.opened.cert.cuts y.opened.cert.cuts number × (reply.status ≡ 3)
    × (reply.report.items ≡ merge_refusal (cut_line y.opened.cert.point number))
StopsBoth one other (Stopped fault) = fault ≡ NoMemory

-- what a program in blocks is answered: what the first file is refused for as a certificate to go on from, or else the second, or the
-- first cut of the second that is another one than the first's, or else the merged certificate
pub data MergesBlocked (files : Files) (b : BlockedProgram) (one other : List ℕ) : Answer → Type 0 where
  first : (a : Answer) → RefusesFile files b one a → MergesBlocked files b one other a
  second : (text : List ℕ) (from : Loaded) (a : Answer) → files one ≡ Some text → IsOpened b text from → RefusesFile files b other a
      → MergesBlocked files b one other a
  apart : (text more : List ℕ) (from further : Loaded) (number : ℕ) → files one ≡ Some text → files other ≡ Some more
      → (opened : IsOpened b text from) → (beside : IsOpened b more further) → IsFirstApart opened.cert.cuts beside.cert.cuts number
      → MergesBlocked files b one other (stops 3 (merge_refusal (cut_line beside.cert.point number)))
  merged : (text more : List ℕ) (from further : Loaded) (c : BlockedProgram) (a : Answer) → files one ≡ Some text → files other ≡ Some more
      → (opened : IsOpened b text from) → (beside : IsOpened b more further) → MergesOver b opened.cert.cuts beside.cert.cuts c
      → AnswersBoth c opened.cert beside.cert from further a → MergesBlocked files b one other a

-- what `merge` answers: what the model's and the decomposition's files come to where they come to no program in blocks, and else what that is answered
pub data Merges (limits : Limits) (files : Files) (lp one other : List ℕ) (dec : Option (List ℕ)) : Answer → Type 0 where
  stopped : (status : ℕ) (report : List ℕ) → FilesCome limits files lp dec (ends status report) → Merges limits files lp one other dec (stops status report)
  went_on : (b : BlockedProgram) (a : Answer) → FilesCome limits files lp dec (blocked b) → MergesBlocked files b one other a → Merges limits files lp one other dec a

-- the same by its status and report
abbrev pub AnswersMerge : Limits → Files → (lp one other : List ℕ) → (dec : Option (List ℕ)) → (status : ℕ) → (report : List ℕ) → Type 0
AnswersMerge limits files lp one other dec status report = Answered (Merges limits files lp one other dec) status report
