use Rattle.std.proofs.Common.{◌≡◌, ◌∙◌, refl, sym, ap, subst, ℕ, List, Option, Some, None}
use Rattle.std.proofs.lemmas.Result.{IfOk-weaker}
use Rattle.bp_theory.specs.Trees.{Tree}
use Rattle.search_laws.specs.declared.Side.{Side}
use Rattle.cert_format.specs.Kept.{certificate_of}
use Rattle.cert_format.specs.Sketch.{tree_of}
use Rattle.search_start.specs.Leaves.{open_path, IsWorkedOn}
use Rattle.search_start.specs.Starts.{IsReady, StartsOf, RefusesStart, CanBegin}
use Rattle.search_start.proofs.Beginning.{start_ready, ready_can, start_without}
use Rattle.search_start.proofs.start.placed_start.Goals as goal

-- a path that was sought and found is where a search works
worked_at : (tree sought : Tree) (leaf : Option ℕ) (number : ℕ) (below : Option (List Side)) (path : List Side) → leaf ≡ Some number → sought ≡ tree
    → below ≡ open_path sought number → below ≡ Some path → IsWorkedOn tree leaf (Some path)
worked_at tree sought leaf number below path is same found some =
    subst (λ (l : Option ℕ). IsWorkedOn tree l (Some path)) (sym is) (path, refl, ap (λ t. open_path t number) (sym same) ∙ sym found ∙ some)

-- a leaf that is named is none that is not
named_leaf : (leaf : Option ℕ) (number : ℕ) (below : Option (List Side)) → leaf ≡ Some number → leaf ≡ None → below ≡ None
named_leaf leaf number below is none = absurd (cc)

pub returns-in-Some-2-clause-start : goal.returns-in-Some-2-clause-start
returns-in-Some-2-clause-start c =
    IfOk-weaker c.ready_start-in-Some-2.result (IsReady c.args.cut c.args.from (Some c.in-Some-2.path) c.args.cuts) (StartsOf c.args.b.now c.args.leaf c.args.cuts c.args.cert.now)
    (λ start ready. start_ready c.args.b.now c.args.cut c.args.leaf c.args.cuts c.args.cert.now c.args.from (Some c.in-Some-2.path) start c.requires.cut c.requires.valid c.requires.loaded
    (worked_at (certificate_of c.args.cert.now).tree (tree_of c.tree.result.now) c.args.leaf c.in-Some.number c.in_ok-path-in-Some.field-0 c.in-Some-2.path
    c.in-Some.is c.tree.ensures c.in_ok-path-in-Some.ensures c.in-Some-2.is)
    ready)
    c.ready_start-in-Some-2.ensures

pub returns-in-Some-2-clause-usable : goal.returns-in-Some-2-clause-usable
returns-in-Some-2-clause-usable c =
    IfOk-weaker c.ready_start-in-Some-2.result (IsReady c.args.cut c.args.from (Some c.in-Some-2.path) c.args.cuts) (CanBegin c.args.leaf)
    (λ start ready. ready_can c.args.cut c.args.leaf c.args.cuts c.args.from (Some c.in-Some-2.path) start (named_leaf c.args.leaf c.in-Some.number (Some c.in-Some-2.path) c.in-Some.is) ready)
    c.ready_start-in-Some-2.ensures

pub returns-in_ok-leaf_text-in-None-2-clause-start : goal.returns-in_ok-leaf_text-in-None-2-clause-start
returns-in_ok-leaf_text-in-None-2-clause-start c = λ text spelled.
    subst (λ (l : Option ℕ). RefusesStart c.args.b.now l text 3 c.in_ok-leaf_text-in-None-2.field-0.items) (sym c.in-Some.is)
    (start_without c.args.b.now c.args.cut c.in-Some.number c.args.cert.now c.args.from c.in_ok-leaf_text-in-None-2.field-0.items text c.requires.cut c.requires.valid c.requires.loaded
    (ap (λ t. open_path t c.in-Some.number) (sym c.tree.ensures) ∙ sym c.in_ok-path-in-Some.ensures ∙ c.in-None-2.is)
    c.in_ok-leaf_text-in-None-2.ensures spelled)

pub returns-in-None-clause-start : goal.returns-in-None-clause-start
returns-in-None-clause-start c =
    IfOk-weaker c.ready_start.result (IsReady c.args.cut c.args.from None c.args.cuts) (StartsOf c.args.b.now c.args.leaf c.args.cuts c.args.cert.now)
    (λ start ready. start_ready c.args.b.now c.args.cut c.args.leaf c.args.cuts c.args.cert.now c.args.from None start c.requires.cut c.requires.valid c.requires.loaded
    (subst (λ (l : Option ℕ). IsWorkedOn (certificate_of c.args.cert.now).tree l None) (sym c.in-None.is) refl)
    ready)
    c.ready_start.ensures

pub returns-in-None-clause-usable : goal.returns-in-None-clause-usable
returns-in-None-clause-usable c =
    IfOk-weaker c.ready_start.result (IsReady c.args.cut c.args.from None c.args.cuts) (CanBegin c.args.leaf)
    (λ start ready. ready_can c.args.cut c.args.leaf c.args.cuts c.args.from None start (λ none. refl) ready) c.ready_start.ensures
