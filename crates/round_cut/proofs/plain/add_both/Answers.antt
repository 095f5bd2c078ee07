use Rattle.std.proofs.Common.{◌≡◌, ◌+◌, ◌*◌, OnOk, inl, inr, refl, subst, arith}
use Rattle.cut_sums.specs.PlainSteps.{AreFirstBelow}
use Rattle.cut_sums.specs.Rows.{program_of}
use Rattle.round_cut.proofs.plain.add_both.Goals as goal

pub add_cut-requires : goal.add_cut-requires
add_cut-requires c =
    let s = c.args.rows.now in
    let up : 2 * c.args.number ≡ 2 * c.args.number + 0 = omega arith in
    record {
      rows = c.requires.rows;
      none = c.requires.none;
      sharp = c.requires.sharp;
      unit = inl refl;
      first = subst (λ n. AreFirstBelow (program_of s) s.b.now.dec c.args.most n c.args.cuts.now.items) up c.requires.first;
    }

pub add_cut-requires-2 : goal.add_cut-requires-2
add_cut-requires-2 c =
    let s = c.args.rows.now in
    let up : 2 * c.args.number + 0 + 1 ≡ 2 * c.args.number + 1 = omega arith in
    record {
      rows = c.requires.rows;
      none = c.requires.none;
      sharp = c.requires.sharp;
      unit = inr refl;
      first = subst (λ n. AreFirstBelow (program_of s) s.b.now.dec c.args.most n c.add_cut.new.cuts.items) up c.in_ok-add_cut.ensures;
    }

pub returns : goal.returns
returns c =
    let s = c.args.rows.now in
    let up : 2 * c.args.number + 1 + 1 ≡ 2 * c.args.number + 2 = omega arith in
    subst (λ n. OnOk c.add_cut-2.result (AreFirstBelow (program_of s) s.b.now.dec c.args.most n c.add_cut-2.new.cuts.items)) up c.add_cut-2.ensures
