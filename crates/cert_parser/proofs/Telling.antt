-- What a line says behind a number.
use Rattle.std.proofs.Common.{◌≡◌, ℕ, Option, Some, None, Result, Ok, Err, refl, sym, ap, ◌∙◌, subst, inl, inr}
use Rattle.std.specs.Prelude.{IfOk}
use Rattle.std.specs.declared.alloc.AllocError.{AllocError}
use Rattle.bp_theory.specs.declared.Limits.{Limits}
use Rattle.cert_format.specs.Text.{is_deep}
use Rattle.cert_parser.specs.Telling.{Phase, ahead, cutting, within, past, phase_at, phase_of, phase_behind, HasSameClaim, StaysFrom, Stays, GoesOn, IsShallowAt, Tells}
use Rattle.cert_format.specs.declared.fault.CertFault.{CertFault}
use Rattle.cert_parser.specs.declared.lines.Event.{Event}
use Rattle.cert_parser.specs.declared.lines.Event.TheVariants as e
use Rattle.cert_parser.specs.declared.lines.Lines.{Lines}
use Rattle.cert_parser.specs.declared.lines.Part.{Part}
use Rattle.cert_format.specs.declared.spots.Spot.{Spot}
use Rattle.cert_format.specs.declared.version.Version.{Version}
use Rattle.cert_format.specs.declared.version.Version.TheVariants.{One, Two, Three}
use Rattle.cert_format.specs.Spots.{spot_behind_claim}

same_on : (old mid new : Lines) → HasSameClaim old mid → HasSameClaim mid new → HasSameClaim old new
same_on old mid new h g = record { claim = g.claim ∙ h.claim; point = g.point ∙ h.point }

stays_from : (old mid new : Lines) (phase : Phase) → StaysFrom phase old mid → StaysFrom phase mid new → StaysFrom phase old new
stays_from old mid new ahead h g = tt
stays_from old mid new cutting h g = same_on old mid new h g
stays_from old mid new within h g = same_on old mid new h g
stays_from old mid new past h g = same_on old mid new h g

within_same : (limits : Limits) (old mid : Lines) → phase_of mid ≡ within → Stays limits old mid → HasSameClaim old mid
within_same limits old mid there stays = subst (λ (x : Phase). StaysFrom x old mid) (sym stays.phase ∙ there) stays.claim

cutting_same : (limits : Limits) (old mid : Lines) → phase_of mid ≡ cutting → Stays limits old mid → HasSameClaim old mid
cutting_same limits old mid there stays = subst (λ (x : Phase). StaysFrom x old mid) (sym stays.phase ∙ there) stays.claim

told_on : (limits : Limits) (old mid new : Lines) (event : Option Event) → Stays limits old mid → Tells limits mid new event → Tells limits old new event
told_on limits old mid new None h g = record {
  phase = subst (λ (x : Phase). GoesOn x (phase_of new)) h.phase g.phase;
  claim = stays_from old mid new (phase_of old) h.claim (subst (λ (x : Phase). StaysFrom x mid new) h.phase g.claim);
  shallow = λ s. g.shallow (h.shallow s);
  depth = g.depth ∙ h.depth;
  highs = g.highs ∙ h.highs;
}
told_on limits old mid new (Some e.Claim) h g = (sym h.phase ∙ g.0, g.1, g.2)
told_on limits old mid new (Some (e.Cut cut)) h g = (sym h.phase ∙ g.0, g.1, same_on old mid new (cutting_same limits old mid g.0 h) g.2, g.3)
told_on limits old mid new (Some (e.Split p)) h g =
    (sym h.phase ∙ g.0, g.1, same_on old mid new (within_same limits old mid g.0 h) g.2, g.3, λ s. ap (is_deep limits) (sym h.depth) ∙ g.4 (h.shallow s))
told_on limits old mid new (Some (e.Leaf is_open proof)) h g =
    (sym h.phase ∙ g.0, g.1 ∙ ap phase_behind h.highs, same_on old mid new (within_same limits old mid g.0 h) g.2, g.3)

pub told_behind : (limits : Limits) (old mid new : Lines) (result : Result (Option Event) CertFault) → Stays limits old mid → IfOk result (λ event. Tells limits mid new event) → IfOk result (λ event. Tells limits old new event)
told_behind limits old mid new (Ok event) h g = told_on limits old mid new event h g
told_behind limits old mid new (Err fault) h g = tt

-- the phase behind a claim
pub first_phase : (v : Version) (spot : Spot) → spot ≡ spot_behind_claim v → GoesOn cutting (phase_at spot)
first_phase One spot is = inr (refl, ap phase_at is)
first_phase Two spot is = inr (refl, ap phase_at is)
first_phase Three spot is = inl (ap phase_at is)

pub first_shallow : (limits : Limits) (v : Version) (spot : Spot) (depth : ℕ) → spot ≡ spot_behind_claim v → IsShallowAt limits spot depth
first_shallow limits One spot depth is = subst (λ (x : Spot). IsShallowAt limits x depth) (sym is) tt
first_shallow limits Two spot depth is = subst (λ (x : Spot). IsShallowAt limits x depth) (sym is) tt
first_shallow limits Three spot depth is = subst (λ (x : Spot). IsShallowAt limits x depth) (sym is) tt

-- ---- what stays beside the place

-- a reader's part of a token and its line don't matter
pub told_as : (limits : Limits) (old new : Lines) (part : Part) (line : ℕ) (event : Option Event) → Tells limits old new event → Tells limits old (record new { part = part; line = line }) event
told_as limits old new part line None h = record { phase = h.phase; claim = from (phase_of old) h.claim; shallow = h.shallow; depth = h.depth; highs = h.highs } where
  from : (phase : Phase) → StaysFrom phase old new → StaysFrom phase old (record new { part = part; line = line })
  from ahead s = tt
  from cutting s = record { claim = s.claim; point = s.point }
  from within s = record { claim = s.claim; point = s.point }
  from past s = record { claim = s.claim; point = s.point }
told_as limits old new part line (Some e.Claim) h = h
told_as limits old new part line (Some (e.Cut cut)) h = (h.0, h.1, record { claim = h.2.claim; point = h.2.point }, h.3)
told_as limits old new part line (Some (e.Split p)) h = (h.0, h.1, record { claim = h.2.claim; point = h.2.point }, h.3, h.4)
told_as limits old new part line (Some (e.Leaf is_open proof)) h = (h.0, h.1, record { claim = h.2.claim; point = h.2.point }, h.3)

-- before the cuts only the place and the depths matter
stays_ahead : (limits : Limits) (old mid : Lines) → phase_of old ≡ ahead → mid.spot ≡ old.spot → mid.depth ≡ old.depth → mid.highs.items ≡ old.highs.items → Stays limits old mid
stays_ahead limits old mid before spot depth highs = record {
  phase = ap phase_at spot;
  claim = subst (λ (x : Phase). StaysFrom x old mid) (sym before) tt;
  shallow = λ s. subst (λ (x : Spot). IsShallowAt limits x mid.depth) (sym spot) (subst (λ (n : ℕ). IsShallowAt limits old.spot n) (sym depth) s);
  depth = depth;
  highs = highs;
}

pub told_claim : (old mid new : Lines) (result : Result (Option Event) AllocError) → phase_of old ≡ ahead → mid.spot ≡ old.spot → mid.depth ≡ old.depth → mid.highs.items ≡ old.highs.items
    → IfOk result (λ event. (limits : Limits) → phase_of mid ≡ ahead → Tells limits mid new event) → IfOk result (λ event. (limits : Limits) → Tells limits old new event)
told_claim old mid new (Ok event) before spot depth highs h = λ limits. told_on limits old mid new event (stays_ahead limits old mid before spot depth highs) (h limits (ap phase_at spot ∙ before))
told_claim old mid new (Err fault) before spot depth highs h = tt
