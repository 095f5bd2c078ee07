use Rattle.std.proofs.Common.{◌≡◌, ◌∙◌, ℕ, List, [], ◌++◌, length, sym, ap, subst, arith, rules, append_assoc, append-nil, length-append, None}
use Rattle.std.specs.Slice.Iter.{chunks_rest}
use Rattle.std.proofs.lemmas.List.{nil_from_length}
use Rattle.cert_stream.specs.Checks.{ChecksFor}
use Rattle.cmd_demo.proofs.judge_text.Goals as goal

pub loop-piece-init : goal.loop-piece-init
loop-piece-init c = (
  search rules,
  tt,
  search rules,
  c.in-Ok.ensures.made_for,
  ([], c.in-Ok.ensures.stands, omega (arith, c.in-Ok.ensures.fed), search rules),
)

pub feed-requires-clause-made_for : goal.feed-requires-clause-made_for
feed-requires-clause-made_for c = c.loop-piece.invariant.3

pub feed-requires-clause-few : goal.feed-requires-clause-few
feed-requires-clause-few c =
    let so_far = c.loop-piece.invariant.4 in
    let rest = ap length c.in-Some.ensures.steps.1.0 ∙ length-append c.in-Some.piece.now (chunks_rest c.next.new.self) in
    let all = sym (length-append so_far.0 (chunks_rest c.loop-piece.piece-iterator)) ∙ ap length so_far.3 in
    omega (arith, rest, all, so_far.2, c.requires.few)

pub loop-piece-preserved : goal.loop-piece-preserved
loop-piece-preserved c =
    let steps = c.in-Some.ensures.steps in
    let so_far = c.loop-piece.invariant.4 in
    let piece = c.in-Some.piece.now in
    let size = length-append so_far.0 piece in (
      search rules,
      tt,
      steps.0 ∙ c.loop-piece.invariant.2,
      c.feed.ensures.made_for,
      (
        so_far.0 ++ piece,
        c.feed.ensures.stands None so_far.0 so_far.1,
        omega (arith, c.feed.ensures.fed, so_far.2, size),
        append_assoc so_far.0 piece (chunks_rest c.next.new.self) ∙ ap (λ (xs : List ℕ). so_far.0 ++ xs) (sym steps.1.0) ∙ so_far.3,
      ),
    )

pub finish-requires : goal.finish-requires
finish-requires c = record { stands = (c.args.b.now, None, c.loop-piece.invariant.4.0, c.loop-piece.invariant.3, c.loop-piece.invariant.4.1) }

pub returns : goal.returns
returns c =
    let so_far = c.loop-piece.invariant.4 in
    let none = nil_from_length _ c.in-None.ensures.steps.1.0 in
    let all : so_far.0 ≡ c.args.text.now = sym (append-nil so_far.0) ∙ ap (λ (xs : List ℕ). so_far.0 ++ xs) (sym none) ∙ so_far.3 in
    c.finish.ensures.finishes c.args.b.now None c.args.text.now c.loop-piece.invariant.3 (subst (λ (t : List ℕ). ChecksFor c.args.b.now None c.loop-piece.checker t) all so_far.1)
