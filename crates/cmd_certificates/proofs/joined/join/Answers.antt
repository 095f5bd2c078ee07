-- The certificate with the more cuts begins with those of the other.
use Rattle.std.proofs.Common.{◌≡◌, ◌∙◌, ℕ, List, ◌++◌, length, take, sym, ap}
use Rattle.bp_theory.specs.declared.Cut.{Cut}
use Rattle.frontend.specs.Written.{draft_answer}
use Rattle.cmd_certificates.specs.declared.opening.Opened.{Opened}
use Rattle.cmd_certificates.proofs.JoinProof.{begins, may_merge, joins_first, joins_second}
use Rattle.cmd_certificates.proofs.joined.join.Goals as goal

-- the cuts that a slice shows begin with all those that another shows
longer_by : (one other : List Cut) (shown further : List Cut) (count : ℕ) → shown ≡ one → further ≡ other → take count shown ≡ take count further
    → count ≡ length other → (rest : List Cut) × (one ≡ other ++ rest)
longer_by one other shown further count shown_is further_is alike all =
    begins one other count (sym (ap (take count) shown_is) ∙ alike ∙ ap (take count) further_is) all

pub written-requires-clause-second : goal.written-requires-clause-second
written-requires-clause-second c =
    may_merge c.args.other.program c.args.one.program c.args.other.from c.cuts-2.ensures.formed c.cuts.ensures.formed (sym c.requires.model) (sym c.requires.dec)
    (longer_by c.args.one.program.cuts c.args.other.program.cuts c.cuts.result.now c.cuts-2.result.now c.common-count.result c.cuts.ensures.cuts c.cuts-2.ensures.cuts
    c.common-count.ensures.alike (c.if-count-cuts.true ∙ ap length c.cuts-3.ensures.cuts))
    c.requires.second

pub returns-then-count-cuts-clause-merged : goal.returns-then-count-cuts-clause-merged
returns-then-count-cuts-clause-merged c =
    joins_first c.args.one c.args.other (draft_answer c.in_ok-written.field-0)
    (longer_by c.args.one.program.cuts c.args.other.program.cuts c.cuts.result.now c.cuts-2.result.now c.common-count.result c.cuts.ensures.cuts c.cuts-2.ensures.cuts
    c.common-count.ensures.alike (c.if-count-cuts.true ∙ ap length c.cuts-3.ensures.cuts))
    c.in_ok-written.ensures.merged

pub written-requires-then-count-cuts-2-clause-first : goal.written-requires-then-count-cuts-2-clause-first
written-requires-then-count-cuts-2-clause-first c =
    may_merge c.args.one.program c.args.other.program c.args.one.from c.cuts.ensures.formed c.cuts-2.ensures.formed c.requires.model c.requires.dec
    (longer_by c.args.other.program.cuts c.args.one.program.cuts c.cuts-2.result.now c.cuts.result.now c.common-count.result c.cuts-2.ensures.cuts c.cuts.ensures.cuts
    (sym c.common-count.ensures.alike) (c.if-count-cuts-2.true ∙ ap length c.cuts-4.ensures.cuts))
    c.requires.first

pub returns-then-count-cuts-2-clause-merged : goal.returns-then-count-cuts-2-clause-merged
returns-then-count-cuts-2-clause-merged c =
    joins_second c.args.one c.args.other (draft_answer c.in_ok-written-2.field-0)
    (longer_by c.args.other.program.cuts c.args.one.program.cuts c.cuts-2.result.now c.cuts.result.now c.common-count.result c.cuts-2.ensures.cuts c.cuts.ensures.cuts
    (sym c.common-count.ensures.alike) (c.if-count-cuts-2.true ∙ ap length c.cuts-4.ensures.cuts))
    c.in_ok-written-2.ensures.merged
