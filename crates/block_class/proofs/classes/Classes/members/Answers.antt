use Rattle.std.proofs.Common.{◌≡◌, ◌<◌, ◌∙◌, ℕ, List, length, sym, ap, subst, get_or, arith}
use Rattle.std.specs.List.Sorted.{IsStrictlyIncreasing}
use Rattle.block_class.specs.Classes.{Grouping, members_of}
use Rattle.block_class.proofs.MemberLemmas.{all_are, members_at, members_ascend}
use Rattle.block_class.proofs.classes.Classes.members.Goals as goal

pub bounds-as_slice-class : goal.bounds-as_slice-class
bounds-as_slice-class c =
    let there = subst (λ (g : Grouping). c.args.class < length g.firsts) (sym c.self.view_is) c.requires in
    let all : length c.as_slice.result.now ≡ length c.self.inside.members = ap length c.as_slice.ensures in
    omega (arith, there, all, all_are c.self.inside.classes (length c.self.inside.firsts) c.self.inside.members c.self.invariant.3)

members : goal.returns-clause-members
members c =
    let there = subst (λ (g : Grouping). c.args.class < length g.firsts) (sym c.self.view_is) c.requires in
    let found = c.index-as_slice-class.result in
    c.as_slice-2.ensures
    ∙ members_at c.self.inside.classes (length c.self.inside.firsts) c.args.class c.self.inside.members found c.self.invariant.3 there
    (c.index-as_slice-class.is ∙ ap (λ (ms : List (List ℕ)). get_or ms c.args.class found) c.as_slice.ensures)
    ∙ ap (λ (g : Grouping). members_of g.classes c.args.class) c.self.view_is

pub returns-clause-members : goal.returns-clause-members
returns-clause-members c = members c

pub returns-clause-ascend : goal.returns-clause-ascend
returns-clause-ascend c = subst IsStrictlyIncreasing (sym (members c)) (members_ascend c.args.self.now.classes c.args.class)
