-- Some tokens lead to the place where the cut goes on.
use Rattle.std.proofs.Common.{◌≡◌, ℕ, ◌≤◌, ◌<◌, ◌+◌, List, [], ◌∷◌, ◌++◌, length, sym, ◌∙◌, ap, subst, arith, true, false, Some, None}
use Rattle.std.specs.Prelude.{is_some}
use Rattle.lp_token.specs.declared.Tok.{Tok}
use Rattle.lp_token.specs.Cut.{Cut, IsGap, IsToken, is_long}
use Rattle.lp_token.proofs.Places.{kind_nonempty}
use Rattle.lp_token.proofs.Leads.{Leads, leads_start, leads_more, leads_end, leads_done, leads_fault}
use Rattle.lp_token.proofs.cut.check_cut.Goals as goal

pub check-init : goal.check-init
check-init c = record {
  between = c.beginning-place.ensures.between c.args.bytes.now;
  leads = ([], subst (λ (at : ℕ). Leads c.args.bytes.now [] at) (sym c.beginning-place.ensures.start) (leads_start c.args.bytes.now));
}

pub next-requires-clause-place : goal.next-requires-clause-place
next-requires-clause-place c = c.check.invariant.between

pub returns-in-Err-clause-fault : goal.returns-in-Err-clause-fault
returns-in-Err-clause-fault c = leads_fault c.args.bytes.now (c.check.invariant.leads.0) c.check.place.at c.in-Err.fault c.check.invariant.leads.1 c.in-Err.ensures.fault

pub is_end-is_last-requires-clause-ordered : goal.is_end-is_last-requires-clause-ordered
is_end-is_last-requires-clause-ordered c =
    let t : IsGap c.args.bytes.now c.check.place.at c.in-Ok-Some.token.from × IsToken c.args.bytes.now c.in-Ok-Some.token × (is_long c.in-Ok-Some.token ≡ false) = rw c.in-Ok-Some.field-0-is at c.in-Ok-Some.ensures.token in
    let after : c.in-Ok-Some.token.from < c.in-Ok-Some.token.to = kind_nonempty c.args.bytes.now c.in-Ok-Some.token.from c.in-Ok-Some.token.to (ap is_some t.1.kind) in
    omega arith

pub is_end-is_last-requires-clause-inside : goal.is_end-is_last-requires-clause-inside
is_end-is_last-requires-clause-inside c =
    let t : IsGap c.args.bytes.now c.check.place.at c.in-Ok-Some.token.from × IsToken c.args.bytes.now c.in-Ok-Some.token × (is_long c.in-Ok-Some.token ≡ false) = rw c.in-Ok-Some.field-0-is at c.in-Ok-Some.ensures.token in
    t.1.inside

pub check-smaller : goal.check-smaller
check-smaller c =
    let t : IsGap c.args.bytes.now c.check.place.at c.in-Ok-Some.token.from × IsToken c.args.bytes.now c.in-Ok-Some.token × (is_long c.in-Ok-Some.token ≡ false) = rw c.in-Ok-Some.field-0-is at c.in-Ok-Some.ensures.token in
    let low : c.check.place.at ≤ c.in-Ok-Some.token.from = t.0.ordered in
    let inside : c.in-Ok-Some.token.to ≤ length c.args.bytes.now = t.1.inside in
    let after : c.in-Ok-Some.token.from < c.in-Ok-Some.token.to = kind_nonempty c.args.bytes.now c.in-Ok-Some.token.from c.in-Ok-Some.token.to (ap is_some t.1.kind) in
    let end : c.behind-place.result.at ≡ c.in-Ok-Some.token.to = c.behind-place.ensures.end in
    omega arith

pub returns-in-Ok-None-clause-cut : goal.returns-in-Ok-None-clause-cut
returns-in-Ok-None-clause-cut c = (c.check.invariant.leads.0, leads_done c.args.bytes.now (c.check.invariant.leads.0) c.check.place.at c.check.invariant.leads.1 (rw c.in-Ok-None.field-0-is at c.in-Ok-None.ensures.token))

pub returns-then-is_last-clause-cut : goal.returns-then-is_last-clause-cut
returns-then-is_last-clause-cut c =
    let t : IsGap c.args.bytes.now c.check.place.at c.in-Ok-Some.token.from × IsToken c.args.bytes.now c.in-Ok-Some.token × (is_long c.in-Ok-Some.token ≡ false) = rw c.in-Ok-Some.field-0-is at c.in-Ok-Some.ensures.token in
    (c.check.invariant.leads.0 ++ c.in-Ok-Some.token ∷ [], leads_end c.args.bytes.now (c.check.invariant.leads.0) c.check.place.at c.in-Ok-Some.token c.check.invariant.leads.1 t.0 t.1 t.2 (sym c.is_end-is_last.ensures ∙ c.if-is_last.true))

pub check-preserved : goal.check-preserved
check-preserved c =
    let t : IsGap c.args.bytes.now c.check.place.at c.in-Ok-Some.token.from × IsToken c.args.bytes.now c.in-Ok-Some.token × (is_long c.in-Ok-Some.token ≡ false) = rw c.in-Ok-Some.field-0-is at c.in-Ok-Some.ensures.token in
    record {
      between = c.behind-place.ensures.between c.args.bytes.now t.1;
      leads = (
        c.check.invariant.leads.0 ++ c.in-Ok-Some.token ∷ [],
        subst (λ (at : ℕ). Leads c.args.bytes.now (c.check.invariant.leads.0 ++ c.in-Ok-Some.token ∷ []) at) (sym c.behind-place.ensures.end)
            (leads_more c.args.bytes.now (c.check.invariant.leads.0) c.check.place.at c.in-Ok-Some.token c.check.invariant.leads.1 t.0 t.1 t.2 (sym c.is_end-is_last.ensures ∙ c.if-is_last.false)),
      );
    }
