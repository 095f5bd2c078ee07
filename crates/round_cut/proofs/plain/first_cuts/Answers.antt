use Rattle.std.proofs.Common.{◌≡◌, ◌∙◌, ◌*◌, List, [], length, All, ap, sym, subst, arith}
use Rattle.std.proofs.lemmas.Result.{IfOk-weaker}
use Rattle.std.proofs.lemmas.List.Elements.{All-nil}
use Rattle.bp_theory.specs.declared.Row.{Row}
use Rattle.bp_model.specs.Named.{NamedProgram}
use Rattle.block_program.specs.Blocked.{BlockedProgram}
use Rattle.cut_sums.specs.Cutting.{IsEarlierCut}
use Rattle.cut_sums.specs.Plain.{AreFirstPlain}
use Rattle.cut_sums.specs.PlainSteps.{AreFirstBelow}
use Rattle.cut_sums.specs.Rows.{program_of}
use Rattle.cut_sums.proofs.PlainLemmas.{first_plain}
use Rattle.round_cut.proofs.plain.first_cuts.Goals as goal

pub make-rows-requires : goal.make-rows-requires
make-rows-requires c =
    let none : c.as_slice.result.now ≡ [] = c.as_slice.ensures.value ∙ c.new-earlier.ensures.items in
    record {
      few = omega (arith, ap (λ (rows : List Row). length rows) none);
      earlier = subst (All (IsEarlierCut c.args.b.now.named.program)) (sym none) (All-nil (IsEarlierCut c.args.b.now.named.program));
    }

pub cuts_below-requires : goal.cuts_below-requires
cuts_below-requires c = record {
  rows = c.make-rows.ensures.rows;
  none = c.make-rows.ensures.earlier ∙ c.as_slice.ensures.value ∙ c.new-earlier.ensures.items;
}

pub returns : goal.returns
returns c =
    let b = c.args.b.now in
    let s = c.make-rows.result in
    let rows : c.rows.result ≡ length b.named.program.rows = c.rows.ensures.rows ∙ ap (λ (m : NamedProgram). length m.program.rows) c.model.ensures.model in
    IfOk-weaker c.cuts_below.result
    (λ cuts. AreFirstBelow (program_of s) s.b.now.dec c.args.most (2 * c.rows.result) cuts.items)
    (λ cuts. AreFirstPlain b.named.program b.dec c.args.most cuts.items)
    (λ cuts h. first_plain b.named.program b.dec c.args.most cuts.items c.model.ensures.formed.places
    (subst (λ n. AreFirstBelow b.named.program b.dec c.args.most (2 * n) cuts.items) rows
    (subst (λ (k : BlockedProgram). AreFirstBelow k.named.program k.dec c.args.most (2 * c.rows.result) cuts.items) c.make-rows.ensures.b h)))
    c.cuts_below.ensures
