use Rattle.std.proofs.Common.{refl, ◌∙◌, sym, ap, ℕ, List, length, map, arith}
use Rattle.std.proofs.lemmas.List.{length-map}
use Rattle.block_pricers.specs.Forms.{BlockForm, form_at, form_with, forms_in, span_count}
use Rattle.block_pricers.proofs.DeskLemmas.{tables_where_taken}
use Rattle.block_pricers.proofs.WorkLemmas.{made_forms, made_there}
use Rattle.block_pricers.proofs.work.Work.make.Goals as goal

pub returns-clause-forms : goal.returns-clause-forms
returns-clause-forms c =
    made_forms (forms_in c.args.b.now) (length c.args.b.now.blocking.blocks) c.in_ok-seats.seats.items c.in_ok-seats.firsts.items c.in_ok-desks.desks.items
    (sym (length-map c.args.b.now.blocking.blocks (form_with c.args.b.now.named.program.spans))) c.in_ok-seats.ensures
    (c.in_ok-desks.ensures.forms ∙ ap (λ (ks : List ℕ). map (form_at (forms_in c.args.b.now)) ks) c.as_slice.ensures.value)

pub invariant_of-result-clause-there : goal.invariant_of-result-clause-there
invariant_of-result-clause-there c =
    made_there (forms_in c.args.b.now) (length c.args.b.now.blocking.blocks) c.in_ok-seats.seats.items c.in_ok-seats.firsts.items c.in_ok-desks.desks.items _
    c.in_ok-seats.ensures (c.in_ok-desks.ensures.forms ∙ ap (λ (ks : List ℕ). map (form_at (forms_in c.args.b.now)) ks) c.as_slice.ensures.value)
    (omega (arith, c.in_ok-desks.desks.ok.0))

pub invariant_of-result-clause-points : goal.invariant_of-result-clause-points
invariant_of-result-clause-points c =
    c.in_ok-told.ensures.rooms ∙ ap (λ (fs : List BlockForm). map span_count fs)
    (sym (made_forms (forms_in c.args.b.now) (length c.args.b.now.blocking.blocks) c.in_ok-seats.seats.items c.in_ok-seats.firsts.items c.in_ok-desks.desks.items
    (sym (length-map c.args.b.now.blocking.blocks (form_with c.args.b.now.named.program.spans))) c.in_ok-seats.ensures
    (c.in_ok-desks.ensures.forms ∙ ap (λ (ks : List ℕ). map (form_at (forms_in c.args.b.now)) ks) c.as_slice.ensures.value)))

pub returns-clause-tables : goal.returns-clause-tables
returns-clause-tables c =
    tables_where_taken c.args.b.now c.in_ok-desks.desks.items c.in_ok-seats.seats.items
    (made_forms (forms_in c.args.b.now) (length c.args.b.now.blocking.blocks) c.in_ok-seats.seats.items c.in_ok-seats.firsts.items c.in_ok-desks.desks.items
    (sym (length-map c.args.b.now.blocking.blocks (form_with c.args.b.now.named.program.spans))) c.in_ok-seats.ensures
    (c.in_ok-desks.ensures.forms ∙ ap (λ (ks : List ℕ). map (form_at (forms_in c.args.b.now)) ks) c.as_slice.ensures.value))
    (made_there (forms_in c.args.b.now) (length c.args.b.now.blocking.blocks) c.in_ok-seats.seats.items c.in_ok-seats.firsts.items c.in_ok-desks.desks.items
    (length c.in_ok-desks.desks.items) c.in_ok-seats.ensures
    (c.in_ok-desks.ensures.forms ∙ ap (λ (ks : List ℕ). map (form_at (forms_in c.args.b.now)) ks) c.as_slice.ensures.value) refl)
    c.in_ok-desks.ensures.kinds
