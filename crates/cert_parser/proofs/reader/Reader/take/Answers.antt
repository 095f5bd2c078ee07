use Rattle.std.proofs.Common.{◌∙◌, ap, sym, Some, [], ◌∷◌, List, map}
use Rattle.std.proofs.lemmas.List.{map-append}
use Rattle.bp_theory.specs.declared.Cut.{Cut}
use Rattle.cert_parser.specs.Readers.{waits_after, cuts_after}
use Rattle.cert_format.specs.Written.{written_cut}
use Rattle.cert_parser.specs.Builders.{waits_of, cuts_of}
use Rattle.cert_parser.specs.declared.lines.Event.{Event}
use Rattle.cert_parser.specs.declared.reader.Pending.TheVariants.{Low}
use Rattle.cert_parser.proofs.ReaderFacts.{pushed}
use Rattle.cert_parser.proofs.reader.Reader.take.Goals as goal

pub returns-in_ok-push-in-Split-clause-waits : goal.returns-in_ok-push-in-Split-clause-waits
returns-in_ok-push-in-Split-clause-waits c =
    let above = waits_of c.args.self.now.pending.items in
    pushed c.push-in-Split.new.self.items c.args.self.now.pending.items (Low c.in-Split.place) c.in_ok-push-in-Split.ensures.items ∙ ap (λ (event : Event). waits_after above (Some event)) (sym c.in-Split.is)

pub returns-in_ok-push-in-Cut-clause-cuts : goal.returns-in_ok-push-in-Cut-clause-cuts
returns-in_ok-push-in-Cut-clause-cuts c =
    let old = c.args.self.now in
    ap (λ (cs : List Cut). map written_cut cs) c.in_ok-push-in-Cut.ensures.added ∙ map-append written_cut old.cuts (c.in-Cut.cut ∷ []) ∙ ap (λ (event : Event). cuts_after (cuts_of old) (Some event)) (sym c.in-Cut.is)
