-- The tokens found lead to the place where the cut goes on.
use Rattle.std.proofs.Common.{◌≡◌, ℕ, ◌≤◌, ◌<◌, ◌+◌, List, [], ◌∷◌, ◌++◌, length, sym, ◌∙◌, ap, subst, arith, true, false, Some, None}
use Rattle.std.specs.Prelude.{is_some}
use Rattle.lp_token.specs.declared.Tok.{Tok}
use Rattle.lp_token.specs.Cut.{Cut, IsGap, IsToken, is_long}
use Rattle.lp_token.proofs.Cuts.{cut_slices}
use Rattle.lp_token.proofs.Places.{kind_nonempty}
use Rattle.lp_token.proofs.Leads.{Leads, leads_start, leads_more, leads_end, leads_done, leads_fault}
use Rattle.lp_token.proofs.cut.tokens.Goals as goal

pub cut-init : goal.cut-init
cut-init c = record {
  between = c.beginning-place.ensures.between c.args.bytes.now;
  leads = subst (λ (found : List Tok). Leads c.args.bytes.now found c.beginning-place.result.at) (sym c.new-found.ensures.items) (subst (λ (at : ℕ). Leads c.args.bytes.now [] at) (sym c.beginning-place.ensures.start) (leads_start c.args.bytes.now));
}

pub next-requires-clause-place : goal.next-requires-clause-place
next-requires-clause-place c = c.cut.invariant.between

pub returns-in-Err-clause-fault : goal.returns-in-Err-clause-fault
returns-in-Err-clause-fault c = leads_fault c.args.bytes.now (c.cut.found.items) c.cut.place.at c.in-Err.fault c.cut.invariant.leads c.in-Err.ensures.fault

pub is_end-requires-clause-ordered : goal.is_end-requires-clause-ordered
is_end-requires-clause-ordered c =
    let t : IsGap c.args.bytes.now c.cut.place.at c.in-Ok-Some.token.from × IsToken c.args.bytes.now c.in-Ok-Some.token × (is_long c.in-Ok-Some.token ≡ false) = rw c.in-Ok-Some.field-0-is at c.in-Ok-Some.ensures.token in
    let after : c.in-Ok-Some.token.from < c.in-Ok-Some.token.to = kind_nonempty c.args.bytes.now c.in-Ok-Some.token.from c.in-Ok-Some.token.to (ap is_some t.1.kind) in
    omega arith

pub is_end-requires-clause-inside : goal.is_end-requires-clause-inside
is_end-requires-clause-inside c =
    let t : IsGap c.args.bytes.now c.cut.place.at c.in-Ok-Some.token.from × IsToken c.args.bytes.now c.in-Ok-Some.token × (is_long c.in-Ok-Some.token ≡ false) = rw c.in-Ok-Some.field-0-is at c.in-Ok-Some.ensures.token in
    t.1.inside

pub cut-smaller : goal.cut-smaller
cut-smaller c =
    let t : IsGap c.args.bytes.now c.cut.place.at c.in-Ok-Some.token.from × IsToken c.args.bytes.now c.in-Ok-Some.token × (is_long c.in-Ok-Some.token ≡ false) = rw c.in-Ok-Some.field-0-is at c.in-Ok-Some.ensures.token in
    let low : c.cut.place.at ≤ c.in-Ok-Some.token.from = t.0.ordered in
    let inside : c.in-Ok-Some.token.to ≤ length c.args.bytes.now = t.1.inside in
    let after : c.in-Ok-Some.token.from < c.in-Ok-Some.token.to = kind_nonempty c.args.bytes.now c.in-Ok-Some.token.from c.in-Ok-Some.token.to (ap is_some t.1.kind) in
    let end : c.behind-place.result.at ≡ c.in-Ok-Some.token.to = c.behind-place.ensures.end in
    omega arith

pub returns-in-Ok-None-clause-cut : goal.returns-in-Ok-None-clause-cut
returns-in-Ok-None-clause-cut c = leads_done c.args.bytes.now c.cut.found.items c.cut.place.at c.cut.invariant.leads (rw c.in-Ok-None.field-0-is at c.in-Ok-None.ensures.token)

pub returns-in-Ok-None-clause-slices : goal.returns-in-Ok-None-clause-slices
returns-in-Ok-None-clause-slices c = cut_slices c.args.bytes.now c.cut.found.items (leads_done c.args.bytes.now c.cut.found.items c.cut.place.at c.cut.invariant.leads (rw c.in-Ok-None.field-0-is at c.in-Ok-None.ensures.token))

pub returns-then-is_end-clause-cut : goal.returns-then-is_end-clause-cut
returns-then-is_end-clause-cut c =
    let t : IsGap c.args.bytes.now c.cut.place.at c.in-Ok-Some.token.from × IsToken c.args.bytes.now c.in-Ok-Some.token × (is_long c.in-Ok-Some.token ≡ false) = rw c.in-Ok-Some.field-0-is at c.in-Ok-Some.ensures.token in
    subst (λ (found : List Tok). Cut c.args.bytes.now found) (sym c.in_ok-push-in-Ok-Some.ensures.items) (leads_end c.args.bytes.now (c.cut.found.items) c.cut.place.at c.in-Ok-Some.token c.cut.invariant.leads t.0 t.1 t.2 (sym c.is_end.ensures ∙ c.if-is_end.true))

pub returns-then-is_end-clause-slices : goal.returns-then-is_end-clause-slices
returns-then-is_end-clause-slices c = cut_slices c.args.bytes.now c.push.new.self.items (returns-then-is_end-clause-cut c)

pub cut-preserved : goal.cut-preserved
cut-preserved c =
    let t : IsGap c.args.bytes.now c.cut.place.at c.in-Ok-Some.token.from × IsToken c.args.bytes.now c.in-Ok-Some.token × (is_long c.in-Ok-Some.token ≡ false) = rw c.in-Ok-Some.field-0-is at c.in-Ok-Some.ensures.token in
    record {
      between = c.behind-place.ensures.between c.args.bytes.now t.1;
      leads = subst (λ (found : List Tok). Leads c.args.bytes.now found c.behind-place.result.at) (sym c.in_ok-push-in-Ok-Some.ensures.items)
          (subst (λ (at : ℕ). Leads c.args.bytes.now (c.cut.found.items ++ c.in-Ok-Some.token ∷ []) at) (sym c.behind-place.ensures.end)
          (leads_more c.args.bytes.now (c.cut.found.items) c.cut.place.at c.in-Ok-Some.token c.cut.invariant.leads t.0 t.1 t.2 (sym c.is_end.ensures ∙ c.if-is_end.false)));
    }
