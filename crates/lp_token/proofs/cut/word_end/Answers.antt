use Rattle.std.proofs.Common.{◌≤◌, ◌∙◌, sym, ap, inl, inr, arith}
use Rattle.std.proofs.lemmas.Bool.{both_ways, false_from_ne_true}
use Rattle.lp_token.specs.Scan.{ends_word}
use Rattle.lp_token.proofs.WordPlaces.{word_places, AreRuns}
use Rattle.lp_token.proofs.cut.word_end.Goals as goal
use Rattle.lp_token.proofs.cut.word_end.Goals.{else-gap-first-via-then-gap-first+else-is_word, else-gap-first-via-else-gap-first}

pub returns-then-is_word-clause-longest : goal.returns-then-is_word-clause-longest
returns-then-is_word-clause-longest c = λ to m h.
    let low : c.run_end-first.result ≤ c.spaces_end-gap.result = c.spaces_end-gap.ensures.ordered in
    let up : c.spaces_end-gap.result ≤ c.run_end-second.result = c.run_end-second.ensures.ordered in
    let runs : AreRuns c.args.bytes.now c.args.from c.run_end-first.result c.spaces_end-gap.result c.run_end-second.result = record {
      one = c.run_end-first.ensures.ordered;
      one_inside = c.run_end-first.ensures.inside;
      one_run = c.run_end-first.ensures.run;
      one_stop = c.run_end-first.ensures.stop;
      two = c.spaces_end-gap.ensures.ordered;
      two_inside = c.spaces_end-gap.ensures.inside;
      two_run = c.spaces_end-gap.ensures.run;
      two_stop = c.spaces_end-gap.ensures.stop;
      three = c.run_end-second.ensures.ordered;
      three_inside = c.run_end-second.ensures.inside;
      three_run = c.run_end-second.ensures.run;
      three_stop = c.run_end-second.ensures.stop;
    } in
    elim (word_places c.args.bytes.now c.args.from c.run_end-first.result c.spaces_end-gap.result c.run_end-second.result runs to m h) [ inl e ↦ omega arith | inr e ↦ omega (arith, e.1) ]

pub returns-then-is_word-2-clause-longest : goal.returns-then-is_word-2-clause-longest
returns-then-is_word-2-clause-longest c = λ to m h.
    let runs : AreRuns c.args.bytes.now c.args.from c.run_end-first.result c.spaces_end-gap.result c.run_end-second.result = record {
      one = c.run_end-first.ensures.ordered;
      one_inside = c.run_end-first.ensures.inside;
      one_run = c.run_end-first.ensures.run;
      one_stop = c.run_end-first.ensures.stop;
      two = c.spaces_end-gap.ensures.ordered;
      two_inside = c.spaces_end-gap.ensures.inside;
      two_run = c.spaces_end-gap.ensures.run;
      two_stop = c.spaces_end-gap.ensures.stop;
      three = c.run_end-second.ensures.ordered;
      three_inside = c.run_end-second.ensures.inside;
      three_run = c.run_end-second.ensures.run;
      three_stop = c.run_end-second.ensures.stop;
    } in
    elim (word_places c.args.bytes.now c.args.from c.run_end-first.result c.spaces_end-gap.result c.run_end-second.result runs to m h) [
      | inl e ↦ omega arith
      | inr e ↦ elim c.else-gap-first.branch [
        | else-gap-first-via-then-gap-first+else-is_word w ↦ absurd (both_ways (ends_word c.args.bytes.now c.args.from to) (ap (ends_word c.args.bytes.now c.args.from) e.1 ∙ sym w.is_word.ensures ∙ w.if-is_word.false) h)
        | else-gap-first-via-else-gap-first w ↦ omega (arith, e.0)
      ]
    ]

pub returns-else-is_word-2-clause-none : goal.returns-else-is_word-2-clause-none
returns-else-is_word-2-clause-none c = λ to m. false_from_ne_true (ends_word c.args.bytes.now c.args.from to) (λ h.
    let runs : AreRuns c.args.bytes.now c.args.from c.run_end-first.result c.spaces_end-gap.result c.run_end-second.result = record {
      one = c.run_end-first.ensures.ordered;
      one_inside = c.run_end-first.ensures.inside;
      one_run = c.run_end-first.ensures.run;
      one_stop = c.run_end-first.ensures.stop;
      two = c.spaces_end-gap.ensures.ordered;
      two_inside = c.spaces_end-gap.ensures.inside;
      two_run = c.spaces_end-gap.ensures.run;
      two_stop = c.spaces_end-gap.ensures.stop;
      three = c.run_end-second.ensures.ordered;
      three_inside = c.run_end-second.ensures.inside;
      three_run = c.run_end-second.ensures.run;
      three_stop = c.run_end-second.ensures.stop;
    } in
    elim (word_places c.args.bytes.now c.args.from c.run_end-first.result c.spaces_end-gap.result c.run_end-second.result runs to m h) [
      | inl e ↦ both_ways (ends_word c.args.bytes.now c.args.from to) (ap (ends_word c.args.bytes.now c.args.from) e ∙ sym c.is_word-else-gap-first.ensures ∙ c.if-is_word-2.false) h
      | inr e ↦ elim c.else-gap-first.branch [
        | else-gap-first-via-then-gap-first+else-is_word w ↦ both_ways (ends_word c.args.bytes.now c.args.from to) (ap (ends_word c.args.bytes.now c.args.from) e.1 ∙ sym w.is_word.ensures ∙ w.if-is_word.false) h
        | else-gap-first-via-else-gap-first w ↦ omega (arith, e.0)
      ]
    ])
