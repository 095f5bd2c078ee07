use Rattle.std.proofs.Common.{◌≡◌, ◌∙◌, ◌<◌, List, ℕ, All, length, map, sym, ap, subst}
use Rattle.bp_theory.specs.Program.{span_at}
use Rattle.bp_theory.specs.Blocking.{Block}
use Rattle.bp_theory.specs.Bound.{spans_of}
use Rattle.bp_theory.specs.declared.Span.{Span}
use Rattle.block_program.specs.Blocked.{RootBlock, copies_from}
use Rattle.block_build.specs.Source.{block_in, copy_in}
use Rattle.block_build.proofs.GatherLemmas.{block_made, spans_made}
use Rattle.block_build.proofs.assemble.made_block.Goals as goal

pub vars_spans-requires : goal.vars_spans-requires
vars_spans-requires c =
    subst (λ (ss : List Span). All (λ v. v < length ss) c.as_slice.result.now) (sym c.spans.ensures.spans)
    (subst (λ (vs : List ℕ). All (λ v. v < length c.args.source.now.model.now.program.spans) vs) (sym c.as_slice.ensures.value) c.requires.below)

block : (c : goal.After-make) → c.make.result.block ≡ block_in c.args.source.now c.args.block c.args.vars.items
block c =
    let s = c.args.source.now in
    let k = c.args.block in
    let vars = c.args.vars.items in
    ap (λ (b : RootBlock). b.block) c.make.ensures
    ∙ ap (λ (vs : List ℕ). record { copies = copies_from vs c.from_vec-3.result c.from_vec-4.result; rows = c.from_vec-5.result }) c.from_vec.ensures
    ∙ block_made s k vars c.from_vec-3.result c.from_vec-4.result c.from_vec-5.result
    (c.from_vec-3.ensures ∙ c.in_ok-costs.ensures ∙ ap (λ (vs : List ℕ). map (λ v. (copy_in s k v).cost) vs) c.as_slice-2.ensures.value)
    (c.from_vec-4.ensures ∙ c.in_ok-masters.ensures ∙ ap (λ (vs : List ℕ). map (λ v. (copy_in s k v).coefs) vs) c.as_slice-3.ensures.value)
    (c.from_vec-5.ensures ∙ c.requires.own)

pub returns-clause-block : goal.returns-clause-block
returns-clause-block c = block c

pub returns-clause-spans : goal.returns-clause-spans
returns-clause-spans c =
    let s = c.args.source.now in
    let spans = s.model.now.program.spans in
    ap (λ (b : RootBlock). b.spans) c.make.ensures ∙ c.from_vec-2.ensures ∙ c.in_ok-root.ensures
    ∙ ap (λ (vs : List ℕ). map (span_at c.spans.result.now) vs) c.as_slice.ensures.value
    ∙ ap (λ ss. map (span_at ss) c.args.vars.items) c.spans.ensures.spans
    ∙ spans_made spans s c.args.block c.args.vars.items
    ∙ ap (λ (b : Block). spans_of spans b) (sym (block c))
