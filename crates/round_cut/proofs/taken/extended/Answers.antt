use Rattle.std.proofs.Common.{◌≡◌, ◌∙◌, inr, List, [], ◌∷◌, ◌++◌, length, sym, ap, subst, arith, append_assoc, length-append, Option, IfSome, IfNone}
use Rattle.std.specs.Vec.Iter.{into_iter_items}
use Rattle.bp_theory.specs.declared.Cut.{Cut}
use Rattle.bp_theory.specs.declared.Row.{Row}
use Rattle.round_cut.specs.Several.{AreRowsOfCuts}
use Rattle.round_cut.specs.Taken.{IsTaken, IsRefused}
use Rattle.round_cut.proofs.TakenLemmas.{taken_more, full, at_the_end, refused_behind}
use Rattle.round_cut.proofs.taken.extended.Goals as goal

pub loop-cut-preserved : goal.loop-cut-preserved
loop-cut-preserved c =
    let p = c.args.b.now.named.program in
    let d = c.args.b.now.dec in
    let cut : Cut = c.in-Some.cut in
    let row : Row = c.in-Some-found.row in
    let all : List Cut = c.loop-cut.all.items in
    let rows : List Row = c.loop-cut.rows.items in
    let taken : IsTaken p d rows cut row =
    subst (λ (rs : List Row). IsTaken p d rs cut row) c.as_slice.ensures.value
    (subst (λ (found : Option Row). IfSome found (IsTaken p d c.as_slice.result.now cut)) c.in-Some-found.is c.in_ok-found.ensures.taken) in
    let row_behind : c.push.new.self.items ≡ rows ++ row ∷ [] = c.in_ok-push-in-Some-found.ensures.items in
    let cut_behind : c.push-in-Some-found.new.self.items ≡ all ++ cut ∷ [] = c.in_ok-push-in-Some-found-2.ensures.items in
    record {
      rows = subst (λ (cs : List Cut). AreRowsOfCuts p d cs c.push.new.self.items) (sym cut_behind)
          (subst (AreRowsOfCuts p d (all ++ cut ∷ [])) (sym row_behind) (taken_more p d all rows cut row c.loop-cut.invariant.rows taken));
      parts = c.loop-cut.invariant.parts ∙ ap (λ (cs : List Cut). c.loop-cut.yielded ++ cs) c.in-Some.ensures.steps.0
          ∙ sym (append_assoc c.loop-cut.yielded (cut ∷ []) (into_iter_items c.next.new.self));
      is = cut_behind ∙ ap (λ (cs : List Cut). cs ++ cut ∷ []) c.loop-cut.invariant.is ∙ append_assoc c.args.cuts.items c.loop-cut.yielded (cut ∷ []);
      long = omega (arith, c.loop-cut.invariant.long, c.in-Some.ensures.steps.1, ap (λ (cs : List Cut). length cs) c.in-Some.ensures.steps.0);
      few = inr (omega (arith, c.len.ensures, c.if-len-most.false, ap (λ (cs : List Cut). length cs) cut_behind, length-append all (cut ∷ [])));
    }

pub returns-then-len-most : goal.returns-then-len-most
returns-then-len-most c = record {
  taken = c.loop-cut.yielded;
  left = c.in-Some.cut ∷ into_iter_items c.next.new.self;
  parts = c.loop-cut.invariant.parts ∙ ap (λ (cs : List Cut). c.loop-cut.yielded ++ cs) c.in-Some.ensures.steps.0;
  is = c.loop-cut.invariant.is;
  kept = c.loop-cut.invariant.rows.kept;
  few = c.loop-cut.invariant.few;
  ends = full c.args.b.now.named.program c.args.b.now.dec c.args.most c.loop-cut.all.items (c.in-Some.cut ∷ into_iter_items c.next.new.self)
      (omega (arith, c.len.ensures, c.if-len-most.true));
}

pub returns-in-None-found : goal.returns-in-None-found
returns-in-None-found c =
    let p = c.args.b.now.named.program in
    let d = c.args.b.now.dec in
    let cut : Cut = c.in-Some.cut in
    let rows : List Row = c.loop-cut.rows.items in
    let refused : IsRefused p d rows cut =
    subst (λ (rs : List Row). IsRefused p d rs cut) c.as_slice.ensures.value
    (subst (λ (found : Option Row). IfNone found (IsRefused p d c.as_slice.result.now cut)) c.in-None-found.is c.in_ok-found.ensures.refused) in
    record {
      taken = c.loop-cut.yielded;
      left = cut ∷ into_iter_items c.next.new.self;
      parts = c.loop-cut.invariant.parts ∙ ap (λ (cs : List Cut). c.loop-cut.yielded ++ cs) c.in-Some.ensures.steps.0;
      is = c.loop-cut.invariant.is;
      kept = c.loop-cut.invariant.rows.kept;
      few = c.loop-cut.invariant.few;
      ends = inr (λ kept. refused_behind p d c.loop-cut.all.items rows cut c.loop-cut.invariant.rows refused kept);
    }

pub returns : goal.returns
returns c = record {
  taken = c.loop-cut.yielded;
  left = into_iter_items c.loop-cut.cut-iterator;
  parts = c.loop-cut.invariant.parts;
  is = c.loop-cut.invariant.is;
  kept = c.loop-cut.invariant.rows.kept;
  few = c.loop-cut.invariant.few;
  ends = at_the_end c.args.b.now.named.program c.args.b.now.dec c.args.most c.loop-cut.all.items (into_iter_items c.loop-cut.cut-iterator)
      (omega (arith, c.loop-cut.invariant.long, c.in-None.ensures.steps.0));
}
