-- A variable is noted once.
use Rattle.std.proofs.Common.{◌≡◌, ℕ, List, true, false, sym, ◌∙◌, ap}
use Rattle.std.proofs.lemmas.Bool.{cond-true, cond-false, MatchBool-at_true, MatchBool-at_false}
use Rattle.lp_syntax.specs.Tree.{Name}
use Rattle.lp_semantics.specs.Meaning.{has_name}
use Rattle.lp_read.specs.declared.notes.Notes.{Notes}
use Rattle.lp_read.proofs.NameLists.{absent_has, present_has}
use Rattle.lp_read.proofs.notes.add_variable.Goals as goal

both : (r : Notes) (names more : List Name) (tokens further : List ℕ) → names ≡ more → tokens ≡ further → ◌≡◌ {A = Notes} (record r { names = names; first_tokens = tokens }) (record r { names = more; first_tokens = further })
both r names more tokens further e f = ap (λ (x : List Name). record r { names = x; first_tokens = tokens }) e ∙ ap (λ (y : List ℕ). record r { names = more; first_tokens = y }) f

pub returns-in_ok-push : goal.returns-in_ok-push
returns-in_ok-push c =
    let new : has_name c.args.notes.names c.args.name.now ≡ false = absent_has c.args.notes.names c.args.name.now (c.in_ok-added.ensures.is_new.0 c.if-added.true) in
    both c.args.notes c.add.new.self _ c.push.new.self _
    (MatchBool-at_true _ _ c.if-added.true c.in_ok-added.ensures.names ∙ sym (cond-false _ _ _ new))
    (c.in_ok-push.ensures.added ∙ sym (cond-false _ _ _ new))

pub returns-else-added : goal.returns-else-added
returns-else-added c =
    let old : has_name c.args.notes.names c.args.name.now ≡ true = present_has c.args.notes.names c.args.name.now c.in_ok-added.added.1 c.in_ok-added.ensures.is_new.1 c.if-added.false in
    both c.args.notes c.add.new.self _ c.args.notes.first_tokens _
    (MatchBool-at_false _ _ c.if-added.false c.in_ok-added.ensures.names ∙ sym (cond-true _ _ _ old))
    (sym (cond-true _ _ _ old))
