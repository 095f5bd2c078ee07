use Rattle.std.proofs.Common.{◌≡◌, ◌<◌, ◌∙◌, ℕ, List, length, sym, ap, subst, get_or, arith}
use Rattle.search_laws.specs.Spread.{class_blocks}
use Rattle.block_class.specs.Classes.{Grouping, members_of}
use Rattle.block_class.proofs.MemberLemmas.{all_are, members_at, counted, few_members}
use Rattle.block_class.proofs.classes.Classes.size.Goals as goal

pub bounds-as_slice-class : goal.bounds-as_slice-class
bounds-as_slice-class c =
    let there = subst (λ (g : Grouping). c.args.class < length g.firsts) (sym c.self.view_is) c.requires in
    let all : length c.as_slice.result.now ≡ length c.self.inside.members = ap length c.as_slice.ensures in
    omega (arith, there, all, all_are c.self.inside.classes (length c.self.inside.firsts) c.self.inside.members c.self.invariant.3)

len_is : (c : goal.After-len) → c.len.result ≡ length (members_of c.self.inside.classes c.args.class)
len_is c =
    let there = subst (λ (g : Grouping). c.args.class < length g.firsts) (sym c.self.view_is) c.requires in
    let found = c.index-as_slice-class.result in
    c.len.ensures ∙ ap length
    (members_at c.self.inside.classes (length c.self.inside.firsts) c.args.class c.self.inside.members found c.self.invariant.3 there
    (c.index-as_slice-class.is ∙ ap (λ (ms : List (List ℕ)). get_or ms c.args.class found) c.as_slice.ensures))

pub overflow_cast-result : goal.overflow_cast-result
overflow_cast-result c = let few = few_members c.self.inside.classes c.args.class in omega (arith, few, len_is c, c.self.invariant.1)

pub returns : goal.returns
returns c =
    len_is c ∙ counted c.self.inside.classes c.args.class ∙ ap (λ (g : Grouping). class_blocks g.classes c.args.class) c.self.view_is
