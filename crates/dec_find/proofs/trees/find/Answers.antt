use Rattle.std.proofs.Common.{[], arith, refl, sym, ◌∙◌, ap, subst}
use Rattle.bp_theory.specs.Limits.{most_blocks}
use Rattle.dec_components.specs.Joined.{IsFound}
use Rattle.dec_components.specs.Forest.{AreMarks, IsTied}
use Rattle.dec_components.proofs.FoundLemmas.{same_parts}
use Rattle.dec_find.proofs.trees.find.Goals as goal

pub returns-then-blocks-found-clause-many : goal.returns-then-blocks-found-clause-many
returns-then-blocks-found-clause-many c = λ e.
    let p = c.args.m.now.program in
    let master = c.args.master.now in
    let marks : AreMarks p master c.deref.result.now = subst (AreMarks p master) (sym c.deref.ensures.value) (c.in_ok-marks.ensures.marks p (sym c.rows.ensures.rows)) in
    let marks3 : AreMarks p master c.deref-3.result.now = subst (AreMarks p master) (sym c.deref-3.ensures.value) (c.in_ok-marks.ensures.marks p (sym c.rows.ensures.rows)) in
    let tied : IsTied p master c.deref-2.result.now = subst (IsTied p master) (sym c.deref-2.ensures.value) (c.in_ok-parents.ensures.tied master marks) in
    record {
      found = record { blocks = c.in_ok-found.found.blocks; places = c.in_ok-found.found.places.items; listed = [] };
      is_found = c.in_ok-found.ensures p master marks3 tied;
      many = omega (arith, c.if-blocks-found.true, c.blocks-2.ensures, ap most_blocks c.limits.ensures);
    }

pub returns-clause-found : goal.returns-clause-found
returns-clause-found c =
    let p = c.args.m.now.program in
    let master = c.args.master.now in
    let marks : AreMarks p master c.deref.result.now = subst (AreMarks p master) (sym c.deref.ensures.value) (c.in_ok-marks.ensures.marks p (sym c.rows.ensures.rows)) in
    let marks3 : AreMarks p master c.deref-3.result.now = subst (AreMarks p master) (sym c.deref-3.ensures.value) (c.in_ok-marks.ensures.marks p (sym c.rows.ensures.rows)) in
    let tied : IsTied p master c.deref-2.result.now = subst (IsTied p master) (sym c.deref-2.ensures.value) (c.in_ok-parents.ensures.tied master marks) in
    let found : IsFound p master (record { blocks = c.in_ok-found.found.blocks; places = c.in_ok-found.found.places.items; listed = [] }) = c.in_ok-found.ensures p master marks3 tied in
    let same = same_parts c.in_ok-found.found.blocks c.in_ok-found.found.blocks c.in_ok-found.found.places.items c.from_vec.result [] c.new.result refl (sym c.from_vec.ensures) (sym c.new.ensures) in
    subst (IsFound p master) (same ∙ sym c.make.ensures) found
