-- How whole certificates are judged.
use Rattle.std.specs.Prelude.{◌≡◌, ℕ, Option, Some, None, Result, Ok, Err}
use Rattle.bp_theory.specs.Program.{Program}
use Rattle.bp_theory.specs.Claims.{Certificate, IsTrueClaim, IsCertified}
use Rattle.bp_theory.specs.Judgement.{IsFirstFault}
use Rattle.bp_theory.specs.declared.Claim.{Claim}
use Rattle.bp_theory.specs.declared.CheckKind.{CheckKind}
use Rattle.block_program.specs.Blocked.{BlockedProgram}
use Rattle.cert_line_check.specs.declared.place.NodePlace.{NodePlace}
use Rattle.cert_line_check.specs.declared.place.Stop.{Stop}
use Rattle.cert_check.specs.declared.judge.Judged.{Judged}
use Rattle.cert_check.specs.declared.judge.Judged.TheVariants.{Accepted, Rejected, Unknown}
use Rattle.cert_line_check.specs.Visits.{IsFirstUnpriced}

-- what a certificate is judged to be where visits aren't counted: accepted with its claim, exactly where it is valid, or else
-- rejected for its first line at fault
abbrev pub IsJudged : BlockedProgram → Certificate → Judged → Type 0
IsJudged b cert (Accepted claim) = (claim ≡ cert.claim) × IsCertified b.named.program b.dec cert
IsJudged b cert (Rejected line kind) = IsFirstFault b.named.program b.dec cert line kind × (IsCertified b.named.program b.dec cert → ⊥)
IsJudged b cert (Unknown line) = ⊥

-- no leaf asks for more visits than those before it leave, as long as no line is at fault
abbrev pub NoneUnpriced : BlockedProgram → Certificate → (most : ℕ) → Type 0
NoneUnpriced b cert most = (number : ℕ) → IsFirstUnpriced b.named.program b.dec cert most number → ⊥

-- what it is judged to be within a number of visits, where one is given: unknown exactly at the line of the first leaf that asks
-- for more than are left, and else as without
abbrev pub IsJudgedWithin : BlockedProgram → Certificate → (visits : Option ℕ) → Judged → Type 0
IsJudgedWithin b cert None judged = IsJudged b cert judged
IsJudgedWithin b cert (Some most) (Unknown line) = IsFirstUnpriced b.named.program b.dec cert most line
IsJudgedWithin b cert (Some most) (Accepted claim) = NoneUnpriced b cert most × IsJudged b cert (Accepted claim)
IsJudgedWithin b cert (Some most) (Rejected line kind) = NoneUnpriced b cert most × IsJudged b cert (Rejected line kind)

-- an accepted claim is true
abbrev pub IsTrueIfAccepted : Program → Judged → Type 0
IsTrueIfAccepted p (Accepted claim) = IsTrueClaim p claim
IsTrueIfAccepted p (Rejected line kind) = Unit {0}
IsTrueIfAccepted p (Unknown line) = Unit {0}

-- what a certificate is judged to be by the line that ends the walk over its tree's lines
abbrev pub stopped_at : (line : ℕ) → Option CheckKind → Judged
stopped_at line (Some kind) = Rejected line kind
stopped_at line None = Unknown line

-- what it is judged to be by its tree's lines
abbrev pub verdict_of : Claim → Result NodePlace Stop → Judged
verdict_of claim (Ok place) = Accepted claim
verdict_of claim (Err found) = stopped_at found.line found.fault
