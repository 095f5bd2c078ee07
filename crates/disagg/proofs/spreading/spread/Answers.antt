-- The dealt point is the spread, where there is one.
use Rattle.std.proofs.Common.{◌≡◌, ap, subst, ◌∙◌, ℕ, ◌<◌, [], List, length, get_or, rules, arith, IsTrue, Option, Some, None}
use Rattle.std.specs.Prelude.{ℤ, MatchOption}
use Rattle.bp_theory.specs.Program.{value_at}
use Rattle.search_laws.specs.Spread.{class_at, rank, IsSpread}
use Rattle.column_assignment.specs.Deals.{IsSpreadable, HaveNumbers, point_at}
use Rattle.column_assignment.proofs.SpreadLemmas.{spread_is, copies_have}
use Rattle.disagg.proofs.spreading.spread.Goals as goal

-- what follows for each case of what may be there
matched : (o : Option (List ℤ)) (A B : Type 0) (P Q : List ℤ → Type 0) → MatchOption o A P → (A → B) → ((x : List ℤ) → P x → Q x) → MatchOption o B Q
matched None A B P Q h f g = f h
matched (Some x) A B P Q h f g = g x h

pub returns : goal.returns
returns c =
    let b = c.args.b.now in
    let g = c.args.classes.now in
    let used = c.args.used.now in
    let decks = c.in_ok-decks.decks.items in
    let columns = c.in_ok-columns.columns.items in
    let x = c.in_ok-dealt.dealt.items in
    let yes : IsTrue c.in_ok-is_spreadable.field-0 = search rules in
    let fits : IsSpreadable g used = c.in_ok-is_spreadable.ensures.0 yes in
    let each : length x ≡ length b.named.program.spans = omega (arith, c.in_ok-dealt.ensures.each) in
    let in_order : (j : ℕ) → j < length b.blocking.blocks → get_or columns j 0 ≡ get_or (get_or decks (class_at g.classes j) []) (rank g.classes j) 0 =
    λ j l.
    c.in_ok-columns.ensures.columns j (omega (arith, l, c.blocks-blocks.ensures.blocks))
    ∙ ap (λ (ds : List (List ℕ)). get_or (get_or ds (class_at g.classes j) []) (rank g.classes j) 0) c.deref.ensures.value in
    let judged = subst
    (λ (cs : List ℕ). MatchOption c.agreed_point-point.result (HaveNumbers b.blocking used cs x → ⊥) (λ (y : List ℤ). HaveNumbers b.blocking used cs y × (y ≡ x)))
    c.deref-3.ensures.value c.agreed_point-point.ensures in
    record {
      point_is = matched c.agreed_point-point.result (HaveNumbers b.blocking used columns x → ⊥) ((y : List ℤ) → IsSpread b.blocking g.classes g.firsts used y → ⊥)
          (λ y. HaveNumbers b.blocking used columns y × (y ≡ x))
          (λ y. IsSpread b.blocking g.classes g.firsts used y × (length y ≡ length b.named.program.spans))
          judged
          (λ no y spread.
          no (copies_have b c.args.zone.now g used decks columns x y c.blocks-blocks.ensures.formed c.requires.classes c.requires.used
          (λ k l. c.in_ok-decks.ensures.decks k l) in_order
          (λ v l.
          let found = c.in_ok-dealt.ensures.numbers v l in
          (found.0, found.1, found.2 ∙ ap (λ (cs : List ℕ). value_at (point_at used (get_or cs found.0.0 0)) found.0.1) c.deref-2.ensures.value))
          spread))
          (λ y has. (
            spread_is c.args.zone.now b.blocking g used decks columns y c.requires.classes c.requires.used fits
                (λ k l. c.in_ok-decks.ensures.decks k l) in_order has.0,
            ap (length {A = ℤ}) has.1 ∙ each,
          ));
      split_is = c.chosen_split-split.ensures;
    }
