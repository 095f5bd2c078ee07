use Rattle.std.proofs.Common.{ℕ, List, length, ◌+◌, ap, sym, ◌∙◌}
use Rattle.cert_format.specs.Stages.{Wait}
use Rattle.cert_parser.specs.Readers.{highs_of, kept_depth, told_of}
use Rattle.cert_parser.proofs.LineFacts.{node_behind, highs_behind, end_behind, none_behind, nothing_taken}
use Rattle.cert_parser.proofs.lines.Lines.leave_leaf.Goals as goal

pub returns-in-Some-clause-place : goal.returns-in-Some-clause-place
returns-in-Some-clause-place c =
    λ above root tree cuts n highs. node_behind (told_of cuts c.args.self.now) above tree c.pop.new.self.items c.in-Some.depth (sym highs.highs ∙ c.in-Some.ensures.items)

pub returns-in-Some-clause-highs : goal.returns-in-Some-clause-highs
returns-in-Some-clause-highs c =
    λ above tree cuts highs.
    let kept = highs_behind above tree c.pop.new.self.items c.in-Some.depth (sym highs.highs ∙ c.in-Some.ensures.items) in
    record { depth = kept.1; highs = kept.0; cuts = highs.cuts ∙ ap (λ (k : ℕ). length cuts + k) c.requires; few = highs.few }

pub returns-in-None-clause-place : goal.returns-in-None-clause-place
returns-in-None-clause-place c =
    let none = nothing_taken c.args.self.now.highs.items c.pop.new.self.items _ c.in-None.ensures.cases.0 c.in-None.ensures.items c.in-None.ensures.rest in
    λ above root tree cuts n highs. end_behind (told_of cuts c.args.self.now) above root tree (sym highs.highs ∙ none.0)

pub returns-in-None-clause-highs : goal.returns-in-None-clause-highs
returns-in-None-clause-highs c =
    let none = nothing_taken c.args.self.now.highs.items c.pop.new.self.items _ c.in-None.ensures.cases.0 c.in-None.ensures.items c.in-None.ensures.rest in
    λ above tree cuts highs.
    let ended = none_behind above tree (sym highs.highs ∙ none.0) in
    record { depth = ap (λ (ws : List Wait). kept_depth (length ws)) (sym ended); highs = none.1 ∙ ap highs_of (sym ended); cuts = highs.cuts ∙ ap (λ (k : ℕ). length cuts + k) c.requires; few = highs.few }
