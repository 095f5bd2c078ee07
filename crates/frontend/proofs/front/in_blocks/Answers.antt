use Rattle.std.proofs.Common.{◌≡◌, ◌∙◌, ap, ℕ, List, subst, sym}
use Rattle.bp_model.specs.Named.{NamedProgram}
use Rattle.bp_report.specs.Refusals.{blocks_refusal, HasNamed}
use Rattle.frontend.specs.Front.{BlocksCome, ends, formed, refused}
use Rattle.frontend.proofs.Comes.{fault_named}
use Rattle.frontend.proofs.front.in_blocks.Goals as goal

pub returns-in-Ok-clause-blocked : goal.returns-in-Ok-clause-blocked
returns-in-Ok-clause-blocked c =
    formed c.in-Ok.b c.in-Ok.ensures.model c.in-Ok.ensures.dec c.in-Ok.ensures.cuts c.in-Ok.ensures.formed c.in-Ok.ensures.placed

pub blocks_text-requires : goal.blocks_text-requires
blocks_text-requires c =
    subst (λ (m : NamedProgram). HasNamed m c.in-Err.refused.fault) (sym c.in-Err.ensures.handed_back)
    (fault_named c.args.model c.args.dec c.in-Err.refused.fault c.requires.listed c.in-Err.ensures.fault)

pub returns : goal.returns
returns c =
    let printed : c.in_ok-blocks_text-in_default.field-0.items ≡ blocks_refusal c.in-Err.refused.model c.in-Err.refused.fault = c.in_ok-blocks_text-in_default.ensures in
    let named : blocks_refusal c.in-Err.refused.model c.in-Err.refused.fault ≡ blocks_refusal c.args.model c.in-Err.refused.fault =
    ap (λ (m : NamedProgram). blocks_refusal m c.in-Err.refused.fault) c.in-Err.ensures.handed_back in
    record {
      blocked = tt;
      halted = subst (λ (r : List ℕ). BlocksCome c.args.model c.args.dec (ends 3 r)) (sym (printed ∙ named))
          (refused c.in-Err.refused.fault c.in_default.not-NoMemory c.in-Err.ensures.fault);
      uncut = tt;
    }
