use Rattle.std.proofs.Common.{◌≡◌, ◌∙◌, sym, ap, subst, List, ◌++◌}
use Rattle.std.proofs.lemmas.Result.{IfOk-weaker}
use Rattle.bp_theory.specs.declared.Cut.{Cut}
use Rattle.block_program.specs.Cuts.{KeepsCuts}
use Rattle.cert_load.specs.Recut.{with_cuts}
use Rattle.search_start.specs.Cuttings.{HasPlain}
use Rattle.search_start.proofs.CutLemmas.{plain_kept}
use Rattle.search_start.proofs.cuts.with_plain.Goals as goal

pub with_kept-requires : goal.with_kept-requires
with_kept-requires c =
    let all : c.as_slice.result.now ≡ c.args.b.now.cuts ++ c.in_ok-plain.plain.items =
    c.as_slice.ensures.value ∙ c.in_ok-append.ensures.items ∙ ap (λ (cs : List Cut). cs ++ c.in_ok-plain.plain.items) (c.in_ok-cuts.ensures ∙ c.cuts.ensures.cuts) in
    subst (KeepsCuts c.args.b.now.named.program c.args.b.now.dec) (sym all)
    (plain_kept c.args.b.now c.args.room c.in_ok-plain.plain.items c.cuts.ensures.formed c.requires c.in_ok-plain.ensures)

pub returns : goal.returns
returns c =
    let all : c.as_slice.result.now ≡ c.args.b.now.cuts ++ c.in_ok-plain.plain.items =
    c.as_slice.ensures.value ∙ c.in_ok-append.ensures.items ∙ ap (λ (cs : List Cut). cs ++ c.in_ok-plain.plain.items) (c.in_ok-cuts.ensures ∙ c.cuts.ensures.cuts) in
    IfOk-weaker c.with_kept.result (λ x. x ≡ with_cuts c.args.b.now c.as_slice.result.now) (HasPlain c.args.b.now c.args.room)
    (λ x is. record { plain = c.in_ok-plain.plain.items; first = c.in_ok-plain.ensures; is = is ∙ ap (with_cuts c.args.b.now) all }) c.with_kept.ensures
