-- The files are answered by one status.
use Rattle.std.proofs.Common.{◌∙◌, sym, inl, ℕ, Bool, List, Option}
use Rattle.bp_theory.specs.declared.Limits.{Limits}
use Rattle.bp_shelf.specs.Shelf.{Files}
use Rattle.block_program.specs.Blocked.{BlockedProgram}
use Rattle.frontend.specs.Endings.{IsReplyStatus}
use Rattle.frontend.specs.declared.ending.Reply.{Reply}
use Rattle.frontend.proofs.Finishing.{HasOneReply}
use Rattle.frontend.proofs.Lifts.{one_reply}
use Rattle.cmd_decompose.specs.Shows.{ShowsBlocked, AnswersShow, RepliesShow}

one_shown : (blocks firsts : Bool) (b : BlockedProgram) → HasOneReply (ShowsBlocked blocks firsts b)
one_shown blocks firsts b s t r q shows shows' = shows.done ∙ sym shows'.done

pub one_answer : (limits : Limits) (files : Files) (lp : List ℕ) (dec : Option (List ℕ)) (blocks firsts : Bool) → HasOneReply (AnswersShow limits files lp dec blocks firsts)
one_answer limits files lp dec blocks firsts = one_reply limits files lp dec (Unit {0}) (ShowsBlocked blocks firsts) (one_shown blocks firsts)

-- the status of a reply
pub shown_status : (blocks firsts : Bool) (b : BlockedProgram) (reply : Reply) → RepliesShow blocks firsts b reply → IsReplyStatus reply.status
shown_status blocks firsts b reply shows = inl shows.done
