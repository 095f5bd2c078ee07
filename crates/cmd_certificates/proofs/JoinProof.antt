-- Two opened certificates are merged, or their cuts are other ones.
use Rattle.std.proofs.Common.{◌≡◌, ◌∙◌, inl, inr, refl, sym, ap, subst, ℕ, ◌-◌, List, [], ◌++◌, length, take, drop, Option, arith}
use Rattle.std.specs.Prelude.{ℤ}
use Rattle.std.proofs.lemmas.List.{append-nil, take_all, take-append-drop}
use Rattle.bp_theory.specs.declared.Cut.{Cut}
use Rattle.block_program.specs.Blocked.{BlockedProgram, IsFormed}
use Rattle.branch_tree.specs.Adopted.{point_in}
use Rattle.frontend.specs.Written.{Answer}
use Rattle.frontend.specs.declared.ending.Reply.{Reply}
use Rattle.bp_report.specs.Refusals.{merge_refusal}
use Rattle.branch_tree.specs.declared.loaded.Loaded.{Loaded}
use Rattle.cert_load.specs.Recut.{with_cuts}
use Rattle.cert_load.proofs.Carried.{carried_to}
use Rattle.cmd_certificates.specs.Opens.{IsOpened, IsOpenedText, CanMerge}
use Rattle.cmd_certificates.specs.Merges.{cut_line, IsLonger, IsFirstApart, AnswersBoth, JoinsBoth, StopsBoth}
use Rattle.cmd_certificates.specs.declared.opening.Opened.{Opened}
use Rattle.cmd_certificates.specs.declared.opening.Stop.TheVariants.{Refused}

-- a list that is alike for all of another begins with it
pub begins : (one other : List Cut) (count : ℕ) → take count one ≡ take count other → count ≡ length other → (rest : List Cut) × (one ≡ other ++ rest)
begins one other count alike all =
    (drop count one, sym (take-append-drop count one) ∙ ap (λ (cuts : List Cut). cuts ++ drop count one) (alike ∙ take_all count other (omega (arith, all))))

-- what may be merged over a program may be over one with further cuts
pub may_merge : (b c : BlockedProgram) (from : Loaded) → IsFormed b → IsFormed c → c.named ≡ b.named → c.dec ≡ b.dec → (rest : List Cut) × (c.cuts ≡ b.cuts ++ rest) → CanMerge b from
    → CanMerge c from
may_merge b c from formed also named decs longer can = record { loaded = carried_to b c longer.0 from formed also named decs longer.1 can.loaded; few = can.few }

-- the cuts of a certificate are those of the program that it is opened over
its_cuts : (b : BlockedProgram) (text : List ℕ) (o : Opened) (x : IsOpenedText b text o) → o.program.cuts ≡ x.opened.cert.cuts
its_cuts b text o x = ap (λ (p : BlockedProgram). p.cuts) x.over

-- what both are answered over one program
abbrev pub AnswersOver : BlockedProgram → (one other : Opened) → Answer → Type 0
AnswersOver c one other a = (plain : BlockedProgram) (cuts : List Cut) (text more : List ℕ) → IsFormed plain → c ≡ with_cuts plain cuts → (x : IsOpened plain text one.from)
    → (y : IsOpened plain more other.from) → AnswersBoth c x.cert y.cert one.from other.from a

-- over the first's, whose cuts begin with the second's
pub joins_first : (one other : Opened) (a : Answer) → (rest : List Cut) × (one.program.cuts ≡ other.program.cuts ++ rest) → AnswersOver one.program one other a → JoinsBoth one other a
joins_first one other a longer answers = λ b text more formed x y. (
  one.program,
  (
    x.opened.cert.cuts,
    record {
      first = ([], sym (append-nil x.opened.cert.cuts));
      second = (longer.0, sym (its_cuts b text one x) ∙ longer.1 ∙ ap (λ (cuts : List Cut). cuts ++ longer.0) (its_cuts b more other y));
      either = inl refl;
    },
    x.over,
  ),
  answers b x.opened.cert.cuts text more formed x.over x.opened y.opened,
)

-- over the second's, whose cuts begin with the first's
pub joins_second : (one other : Opened) (a : Answer) → (rest : List Cut) × (other.program.cuts ≡ one.program.cuts ++ rest) → AnswersOver other.program one other a → JoinsBoth one other a
joins_second one other a longer answers = λ b text more formed x y. (
  other.program,
  (
    y.opened.cert.cuts,
    record {
      first = (longer.0, sym (its_cuts b more other y) ∙ longer.1 ∙ ap (λ (cuts : List Cut). cuts ++ longer.0) (its_cuts b text one x));
      second = ([], sym (append-nil y.opened.cert.cuts));
      either = inr refl;
    },
    y.over,
  ),
  answers b y.opened.cert.cuts text more formed y.over x.opened y.opened,
)

-- over neither
pub stops_apart : (one other : Opened) (count : ℕ) (reply : Reply) → IsFirstApart one.program.cuts other.program.cuts count → reply.status ≡ 3
    → reply.report.items ≡ merge_refusal (cut_line (point_in other.from.best) count) → StopsBoth one other (Refused reply)
stops_apart one other count reply found three told = λ b text more x y. (
  count,
  subst (λ (cuts : List Cut). IsFirstApart x.opened.cert.cuts cuts count) (its_cuts b more other y)
      (subst (λ (cuts : List Cut). IsFirstApart cuts other.program.cuts count) (its_cuts b text one x) found),
  three,
  told ∙ ap (λ (point : Option (List ℤ)). merge_refusal (cut_line point count)) y.opened.loaded.point,
)
