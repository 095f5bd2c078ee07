-- How a run ends by what it came to: the clauses that commands share.
use Rattle.std.proofs.Common.{◌≡◌, ◌≢◌, ◌⊎◌, ◌∙◌, ◌++◌, ℕ, Bool, IsTrue, List, [], Option, None, Some, Vec, Global, Result, Ok, Err, IfOk, take, refl, sym, ap, subst, inl, inr, arith}
use Rattle.std.proofs.lemmas.List.{append-nil}
use Rattle.bp_shelf.specs.Shelf.{Rose, next_count}
use Rattle.bp_shelf.specs.declared.shelf.ShelfFault.TheVariants.{Missing, Failed, NoMemory}
use Rattle.branch_tree.specs.declared.outcome.Outcome.{Outcome}
use Rattle.frontend.specs.Answers.{AnswersBy, IsOnly, CutsOff, PutsReport, IsUnput, IsStatus, HasCauses}
use Rattle.frontend.specs.Endings.{bare, come_of, IsReplyStatus, Finishes, printed, unput, silent, IsRightReply}
use Rattle.frontend.specs.Halts.{CountsHalted}
use Rattle.frontend.specs.declared.ending.Reply.{Reply}
use Rattle.frontend.specs.declared.ending.Unprinted.{Unprinted}
use Rattle.frontend.specs.declared.front.Halt.{Halt}
use Rattle.frontend.specs.declared.front.Halt.TheVariants.{Refused, Stopped}

-- ---- a report

-- a print ends a run that came to a reply
pub prints : (reply : Reply) (status : ℕ) (lost : Option (Vec ℕ Global)) (tells : Bool) (before now : List ℕ) (faults faults_now puts puts_now : ℕ) → reply.status ≢ 8
    → (status ≡ reply.status) ⊎ (status ≡ 8) → (IsTrue tells → status ≢ 8 → now ≡ before ++ reply.report.items)
    → (IsTrue tells → status ≡ 8 → (count : ℕ) × (now ≡ before ++ take count reply.report.items))
    → (status ≡ 8 → Rose faults faults_now) → (status ≢ 8 → faults_now ≡ faults) → puts_now ≡ next_count puts → (status ≡ 8 → lost ≡ Some reply.report)
    → Finishes status lost tells before now faults faults_now puts puts_now (Ok reply)
prints reply status lost tells before now faults faults_now puts puts_now fine (inl same) whole partly rose quiet once gone =
    let no_fault : status ≢ 8 = λ e. fine (sym same ∙ e) in
    printed reply same (quiet no_fault) once (λ told. whole told no_fault)
prints reply status lost tells before now faults faults_now puts puts_now fine (inr is) whole partly rose quiet once gone =
    unput reply is (gone is) (rose is) once (λ told. partly told is)

-- ---- statuses

-- the status of a reply is no other of the statuses of a run
pub record IsNoOther (s : ℕ) : Type 0 where
  pub known : IsStatus s
  pub words : s ≢ 2
  pub read : s ≢ 7
  pub write : s ≢ 8
  pub memory : s ≢ 9
  pub missing : s ≢ 11

pub no_other : (s : ℕ) → IsReplyStatus s → IsNoOther s
no_other s (inl is) = record {
  known = inl is;
  words = λ e. absurd (cc);
  read = λ e. absurd (cc);
  write = λ e. absurd (cc);
  memory = λ e. absurd (cc);
  missing = λ e. absurd (cc);
}
no_other s (inr (inl is)) = record {
  known = inr (inr (inl is));
  words = λ e. absurd (cc);
  read = λ e. absurd (cc);
  write = λ e. absurd (cc);
  memory = λ e. absurd (cc);
  missing = λ e. absurd (cc);
}
no_other s (inr (inr (inl is))) = record {
  known = inr (inr (inr (inr (inr (inl is)))));
  words = λ e. absurd (cc);
  read = λ e. absurd (cc);
  write = λ e. absurd (cc);
  memory = λ e. absurd (cc);
  missing = λ e. absurd (cc);
}
no_other s (inr (inr (inr is))) = record {
  known = inr (inr (inr (inr (inr (inr (inr (inr (inr (inl is)))))))));
  words = λ e. absurd (cc);
  read = λ e. absurd (cc);
  write = λ e. absurd (cc);
  memory = λ e. absurd (cc);
  missing = λ e. absurd (cc);
}

-- where a status is one of three, none of which it is
none_of : (s : ℕ) → s ≢ 7 → s ≢ 9 → s ≢ 11 → (s ≡ 7) ⊎ (s ≡ 9) ⊎ (s ≡ 11) → ⊥
none_of s a b c (inl is) = a is
none_of s a b c (inr (inl is)) = b is
none_of s a b c (inr (inr is)) = c is

-- ---- what a run came to

-- a run came to this by faults that are counted
pub data HasCounts (reads reads_now writes writes_now : ℕ) : Result Reply Unprinted → Type 0 where
  replied : (reply : Reply) → IsReplyStatus reply.status → reads_now ≡ reads → writes_now ≡ writes → HasCounts reads reads_now writes writes_now (Ok reply)
  unread : (end : Unprinted) → end.status ≡ 7 → Rose reads reads_now → writes_now ≡ writes → HasCounts reads reads_now writes writes_now (Err end)
  unwritten : (end : Unprinted) → end.status ≡ 8 → reads_now ≡ reads → Rose writes writes_now → HasCounts reads reads_now writes writes_now (Err end)
  wanting : (end : Unprinted) → end.status ≡ 9 → reads_now ≡ reads → writes_now ≡ writes → HasCounts reads reads_now writes writes_now (Err end)
  missing : (end : Unprinted) → end.status ≡ 11 → reads_now ≡ reads → writes_now ≡ writes → HasCounts reads reads_now writes writes_now (Err end)

-- what a run came to is right: its reply; that a file isn't there; and where a write failed, the reply whose report is lost
abbrev pub IsRightCome : (ℕ → List ℕ → Type 0) → Result Reply Unprinted → Type 0
IsRightCome Right (Ok reply) = Right reply.status reply.report.items
IsRightCome Right (Err end) =
    (end.status ≡ 11 → Right 11 []) × (end.status ≡ 8 → (meant : ℕ) × (report : Vec ℕ Global) × (end.lost ≡ Some report) × Right meant report.items)

-- right answers have one status
abbrev pub HasOneReply : (ℕ → List ℕ → Type 0) → Type 0
HasOneReply Right = (s t : ℕ) (r q : List ℕ) → Right s r → Right t q → s ≡ t

-- ---- the clauses

pub finish_causes : (come : Result Reply Unprinted) (reads reads_now writes writes_now status : ℕ) (lost : Option (Vec ℕ Global)) (tells : Bool) (before now : List ℕ) (faults faults_now puts puts_now : ℕ)
    → HasCounts reads reads_now writes writes_now come → Finishes status lost tells before now faults faults_now puts puts_now come
    → HasCauses status reads reads_now writes writes_now faults faults_now
finish_causes come reads reads_now writes writes_now status lost tells before now faults faults_now puts puts_now (replied reply is r w) (printed _ st f p o) =
    let u = no_other status (subst (λ (s : ℕ). IsReplyStatus s) (sym st) is) in
    record {
      known = u.known;
      read = λ e. absurd (u.read e);
      read_rose = λ more. absurd (omega (arith, more, r));
      write = λ e. absurd (u.write e);
      write_rose = λ more. absurd (omega (arith, more, w));
      put_rose = λ more. absurd (omega (arith, more, f));
    }
finish_causes come reads reads_now writes writes_now status lost tells before now faults faults_now puts puts_now (replied reply is r w) (unput _ st l rose p o) = record {
  known = inr (inr (inr (inr (inr (inr (inr (inl st)))))));
  read = λ e. absurd (cc);
  read_rose = λ more. absurd (omega (arith, more, r));
  write = λ e. inr rose;
  write_rose = λ more. st;
  put_rose = λ more. st;
}
finish_causes come reads reads_now writes writes_now status lost tells before now faults faults_now puts puts_now (unread end is rose w) (silent _ st l f p o) = record {
  known = inr (inr (inr (inr (inr (inr (inl (st ∙ is)))))));
  read = λ e. rose;
  read_rose = λ more. (st ∙ is);
  write = λ e. absurd (cc);
  write_rose = λ more. absurd (omega (arith, more, w));
  put_rose = λ more. absurd (omega (arith, more, f));
}
finish_causes come reads reads_now writes writes_now status lost tells before now faults faults_now puts puts_now (unwritten end is r rose) (silent _ st l f p o) = record {
  known = inr (inr (inr (inr (inr (inr (inr (inl (st ∙ is))))))));
  read = λ e. absurd (cc);
  read_rose = λ more. absurd (omega (arith, more, r));
  write = λ e. inl rose;
  write_rose = λ more. (st ∙ is);
  put_rose = λ more. (st ∙ is);
}
finish_causes come reads reads_now writes writes_now status lost tells before now faults faults_now puts puts_now (wanting end is r w) (silent _ st l f p o) = record {
  known = inr (inr (inr (inr (inr (inr (inr (inr (inl (st ∙ is)))))))));
  read = λ e. absurd (cc);
  read_rose = λ more. absurd (omega (arith, more, r));
  write = λ e. absurd (cc);
  write_rose = λ more. absurd (omega (arith, more, w));
  put_rose = λ more. absurd (omega (arith, more, f));
}
finish_causes come reads reads_now writes writes_now status lost tells before now faults faults_now puts puts_now (missing end is r w) (silent _ st l f p o) = record {
  known = inr (inr (inr (inr (inr (inr (inr (inr (inr (inr (st ∙ is))))))))));
  read = λ e. absurd (cc);
  read_rose = λ more. absurd (omega (arith, more, r));
  write = λ e. absurd (cc);
  write_rose = λ more. absurd (omega (arith, more, w));
  put_rose = λ more. absurd (omega (arith, more, f));
}

-- the status of a run, and what it put and printed under which
record IsQuiet (status count count_now : ℕ) (before now : List ℕ) : Type 0 where
  pub words : status ≢ 2
  pub puts : PutsReport status count count_now
  pub silent : (status ≡ 7) ⊎ (status ≡ 9) ⊎ (status ≡ 11) → now ≡ before

finish_quiet : (come : Result Reply Unprinted) (reads reads_now writes writes_now status : ℕ) (lost : Option (Vec ℕ Global)) (tells : Bool) (before now : List ℕ) (faults faults_now puts puts_now : ℕ)
    → HasCounts reads reads_now writes writes_now come → Finishes status lost tells before now faults faults_now puts puts_now come → IsQuiet status puts puts_now before now
finish_quiet come reads reads_now writes writes_now status lost tells before now faults faults_now puts puts_now (replied reply is r w) (printed _ st f p o) =
    let u = no_other status (subst (λ (s : ℕ). IsReplyStatus s) (sym st) is) in
    record {
      words = u.words;
      puts = record { once = λ no_read no_write no_want there. p; never = λ quiet. absurd (none_of status u.read u.memory u.missing quiet) };
      silent = λ quiet. absurd (none_of status u.read u.memory u.missing quiet);
    }
finish_quiet come reads reads_now writes writes_now status lost tells before now faults faults_now puts puts_now (replied reply is r w) (unput _ st l rose p o) = record {
  words = λ e. absurd (cc);
  puts = record {
    once = λ no_read no_write no_want there. absurd (no_write st);
    never = λ quiet. absurd (none_of status (λ e. absurd (cc)) (λ e. absurd (cc)) (λ e. absurd (cc)) quiet);
  };
  silent = λ quiet. absurd (none_of status (λ e. absurd (cc)) (λ e. absurd (cc)) (λ e. absurd (cc)) quiet);
}
finish_quiet come reads reads_now writes writes_now status lost tells before now faults faults_now puts puts_now (unread end is rose w) (silent _ st l f p o) = record {
  words = λ e. absurd (cc);
  puts = record { once = λ no_read no_write no_want there. absurd (no_read (st ∙ is)); never = λ quiet. p };
  silent = λ quiet. o;
}
finish_quiet come reads reads_now writes writes_now status lost tells before now faults faults_now puts puts_now (unwritten end is r rose) (silent _ st l f p o) = record {
  words = λ e. absurd (cc);
  puts = record { once = λ no_read no_write no_want there. absurd (no_write (st ∙ is)); never = λ quiet. p };
  silent = λ quiet. o;
}
finish_quiet come reads reads_now writes writes_now status lost tells before now faults faults_now puts puts_now (wanting end is r w) (silent _ st l f p o) = record {
  words = λ e. absurd (cc);
  puts = record { once = λ no_read no_write no_want there. absurd (no_want (st ∙ is)); never = λ quiet. p };
  silent = λ quiet. o;
}
finish_quiet come reads reads_now writes writes_now status lost tells before now faults faults_now puts puts_now (missing end is r w) (silent _ st l f p o) = record {
  words = λ e. absurd (cc);
  puts = record { once = λ no_read no_write no_want there. absurd (there (st ∙ is)); never = λ quiet. p };
  silent = λ quiet. o;
}

-- what came is answered
finish_answers : (Right : ℕ → List ℕ → Type 0) (come : Result Reply Unprinted) (reads reads_now writes writes_now status : ℕ) (lost : Option (Vec ℕ Global)) (tells : Bool) (before now : List ℕ)
    (faults faults_now puts puts_now : ℕ) → HasCounts reads reads_now writes writes_now come → Finishes status lost tells before now faults faults_now puts puts_now come
    → IsRightCome Right come → AnswersBy Right status tells before now
finish_answers Right come reads reads_now writes writes_now status lost tells before now faults faults_now puts puts_now (replied reply is r w) (printed _ st f p o) right =
    λ no_read no_write no_want. (reply.report.items, subst (λ (s : ℕ). Right s reply.report.items) (sym st) right, o)
finish_answers Right come reads reads_now writes writes_now status lost tells before now faults faults_now puts puts_now (replied reply is r w) (unput _ st l rose p o) right =
    λ no_read no_write no_want. absurd (no_write st)
finish_answers Right come reads reads_now writes writes_now status lost tells before now faults faults_now puts puts_now (unread end is rose w) (silent _ st l f p o) right =
    λ no_read no_write no_want. absurd (no_read (st ∙ is))
finish_answers Right come reads reads_now writes writes_now status lost tells before now faults faults_now puts puts_now (unwritten end is r rose) (silent _ st l f p o) right =
    λ no_read no_write no_want. absurd (no_write (st ∙ is))
finish_answers Right come reads reads_now writes writes_now status lost tells before now faults faults_now puts puts_now (wanting end is r w) (silent _ st l f p o) right =
    λ no_read no_write no_want. absurd (no_want (st ∙ is))
finish_answers Right come reads reads_now writes writes_now status lost tells before now faults faults_now puts puts_now (missing end is r w) (silent _ st l f p o) right =
    λ no_read no_write no_want. ([], subst (λ (s : ℕ). Right s []) (sym (st ∙ is)) (right.0 is), λ told. o ∙ sym (append-nil before))

-- no other status is right
finish_only : (Right : ℕ → List ℕ → Type 0) (come : Result Reply Unprinted) (reads reads_now writes writes_now status : ℕ) (lost : Option (Vec ℕ Global)) (tells : Bool) (before now : List ℕ)
    (faults faults_now puts puts_now : ℕ) → HasCounts reads reads_now writes writes_now come → Finishes status lost tells before now faults faults_now puts puts_now come
    → HasOneReply Right → IsRightCome Right come → IsOnly Right status
finish_only Right come reads reads_now writes writes_now status lost tells before now faults faults_now puts puts_now (replied reply is r w) (printed _ st f p o) one right =
    λ no_read no_write no_want meant report other. st ∙ one reply.status meant reply.report.items report right other
finish_only Right come reads reads_now writes writes_now status lost tells before now faults faults_now puts puts_now (replied reply is r w) (unput _ st l rose p o) one right =
    λ no_read no_write no_want. absurd (no_write st)
finish_only Right come reads reads_now writes writes_now status lost tells before now faults faults_now puts puts_now (unread end is rose w) (silent _ st l f p o) one right =
    λ no_read no_write no_want. absurd (no_read (st ∙ is))
finish_only Right come reads reads_now writes writes_now status lost tells before now faults faults_now puts puts_now (unwritten end is r rose) (silent _ st l f p o) one right =
    λ no_read no_write no_want. absurd (no_write (st ∙ is))
finish_only Right come reads reads_now writes writes_now status lost tells before now faults faults_now puts puts_now (wanting end is r w) (silent _ st l f p o) one right =
    λ no_read no_write no_want. absurd (no_want (st ∙ is))
finish_only Right come reads reads_now writes writes_now status lost tells before now faults faults_now puts puts_now (missing end is r w) (silent _ st l f p o) one right =
    λ no_read no_write no_want meant report other. (st ∙ is) ∙ one 11 meant [] report (right.0 is) other

-- a beginning of a right report was added, which is lost
finish_cut : (Right : ℕ → List ℕ → Type 0) (come : Result Reply Unprinted) (reads reads_now writes writes_now status : ℕ) (lost : Option (Vec ℕ Global)) (tells : Bool) (before now : List ℕ)
    (faults faults_now puts puts_now : ℕ) → HasCounts reads reads_now writes writes_now come → Finishes status lost tells before now faults faults_now puts puts_now come
    → IsRightCome Right come → CutsOff (λ (kept : Option Outcome). Right) status lost tells before now
finish_cut Right come reads reads_now writes writes_now status lost tells before now faults faults_now puts puts_now (replied reply is r w) (printed _ st f p o) right =
    let u = no_other status (subst (λ (s : ℕ). IsReplyStatus s) (sym st) is) in λ e. absurd (u.write e)
finish_cut Right come reads reads_now writes writes_now status lost tells before now faults faults_now puts puts_now (replied reply is r w) (unput _ st l rose p o) right =
    λ e. (None, reply.status, reply.report, l, right, o)
finish_cut Right come reads reads_now writes writes_now status lost tells before now faults faults_now puts puts_now (unread end is rose w) (silent _ st l f p o) right = λ e. absurd (cc)
finish_cut Right come reads reads_now writes writes_now status lost tells before now faults faults_now puts puts_now (unwritten end is r rose) (silent _ st l f p o) right =
    λ e. let meant = right.1 is in (None, meant.0, meant.1, l ∙ meant.2, meant.3, λ heard. (0, o ∙ sym (append-nil before)))
finish_cut Right come reads reads_now writes writes_now status lost tells before now faults faults_now puts puts_now (wanting end is r w) (silent _ st l f p o) right = λ e. absurd (cc)
finish_cut Right come reads reads_now writes writes_now status lost tells before now faults faults_now puts puts_now (missing end is r w) (silent _ st l f p o) right = λ e. absurd (cc)

-- the clauses of a command, whose files are told or not
pub record HasEnd (Right : ℕ → List ℕ → Type 0) (told : Bool) (reads reads_now writes writes_now status : ℕ) (lost : Option (Vec ℕ Global)) (tells : Bool) (before now : List ℕ)
    (faults faults_now count count_now : ℕ) : Type 0 where
  pub answered : IsTrue told → AnswersBy Right status tells before now
  pub exact : IsTrue told → IsOnly Right status
  pub causes : HasCauses status reads reads_now writes writes_now faults faults_now
  pub words : status ≢ 2
  pub puts : PutsReport status count count_now
  pub silent : (status ≡ 7) ⊎ (status ≡ 9) ⊎ (status ≡ 11) → now ≡ before
  pub cut_off : IsTrue told → CutsOff (λ (kept : Option Outcome). Right) status lost tells before now

pub has_end : (Right : ℕ → List ℕ → Type 0) (come : Result Reply Unprinted) (told : Bool) (reads reads_now writes writes_now status : ℕ) (lost : Option (Vec ℕ Global)) (tells : Bool) (before now : List ℕ)
    (faults faults_now puts puts_now : ℕ) → HasOneReply Right → (IsTrue told → IsRightCome Right come) → HasCounts reads reads_now writes writes_now come
    → Finishes status lost tells before now faults faults_now puts puts_now come
    → HasEnd Right told reads reads_now writes writes_now status lost tells before now faults faults_now puts puts_now
has_end Right come told reads reads_now writes writes_now status lost tells before now faults faults_now puts puts_now one right counts ends =
    let quiet = finish_quiet come reads reads_now writes writes_now status lost tells before now faults faults_now puts puts_now counts ends in
    record {
      answered = λ is_told. finish_answers Right come reads reads_now writes writes_now status lost tells before now faults faults_now puts puts_now counts ends (right is_told);
      exact = λ is_told. finish_only Right come reads reads_now writes writes_now status lost tells before now faults faults_now puts puts_now counts ends one (right is_told);
      causes = finish_causes come reads reads_now writes writes_now status lost tells before now faults faults_now puts puts_now counts ends;
      words = quiet.words;
      puts = quiet.puts;
      silent = quiet.silent;
      cut_off = λ is_told. finish_cut Right come reads reads_now writes writes_now status lost tells before now faults faults_now puts puts_now counts ends (right is_told);
    }

-- ---- a command that writes nothing

right_come : (Right : ℕ → List ℕ → Type 0) (r : Result Reply Halt) → IsRightReply Right r → IsRightCome Right (come_of r)
right_come Right (Ok reply) right = right
right_come Right (Err (Refused report)) right = right
right_come Right (Err (Stopped Missing)) right = (λ _. right, λ e. absurd (cc))
right_come Right (Err (Stopped Failed)) right = (λ e. absurd (cc), λ e. absurd (cc))
right_come Right (Err (Stopped NoMemory)) right = (λ e. absurd (cc), λ e. absurd (cc))

counts_come : (r : Result Reply Halt) (reads reads_now writes writes_now : ℕ) → IfOk r (λ reply. IsReplyStatus reply.status) → CountsHalted reads reads_now r → writes_now ≡ writes
    → HasCounts reads reads_now writes writes_now (come_of r)
counts_come (Ok reply) reads reads_now writes writes_now is counts same = replied reply is counts same
counts_come (Err (Refused report)) reads reads_now writes writes_now is counts same = replied (record { status = 3; report = report }) (inr (inl refl)) counts same
counts_come (Err (Stopped Missing)) reads reads_now writes writes_now is counts same = missing (bare 11) refl counts same
counts_come (Err (Stopped Failed)) reads reads_now writes writes_now is counts same = unread (bare 7) refl counts.1 same
counts_come (Err (Stopped NoMemory)) reads reads_now writes writes_now is counts same = wanting (bare 9) refl counts same

-- a run that writes nothing comes to no failed write
bare_status : (n : ℕ) (end : Unprinted) → end.status ≡ 8 → ◌≡◌ {A = Result Reply Unprinted} (Err (bare n)) (Err end) → n ≡ 8
bare_status n end is e = let same : bare n ≡ end = cc in ap (λ (u : Unprinted). u.status) same ∙ is

pub never_unwritten : (r : Result Reply Halt) (end : Unprinted) → end.status ≡ 8 → come_of r ≡ Err end → ⊥
never_unwritten (Ok reply) end is e = let same : ◌≡◌ {A = Result Reply Unprinted} (Ok reply) (Err end) = e in cc
never_unwritten (Err (Refused report)) end is e = let same : ◌≡◌ {A = Result Reply Unprinted} (Ok (record { status = 3; report = report })) (Err end) = e in cc
never_unwritten (Err (Stopped Missing)) end is e = let no = bare_status 11 end is e in absurd (cc)
never_unwritten (Err (Stopped Failed)) end is e = let no = bare_status 7 end is e in absurd (cc)
never_unwritten (Err (Stopped NoMemory)) end is e = let no = bare_status 9 end is e in absurd (cc)

-- so that where a write failed, it is that of the report
finish_unput : (Stands : Type 0) (come : Result Reply Unprinted) (reads reads_now writes writes_now status : ℕ) (lost : Option (Vec ℕ Global)) (tells : Bool) (before now : List ℕ) (faults faults_now puts puts_now : ℕ)
    → Stands → ((end : Unprinted) → end.status ≡ 8 → come ≡ Err end → ⊥) → HasCounts reads reads_now writes writes_now come → Finishes status lost tells before now faults faults_now puts puts_now come → status ≡ 8
    → IsUnput Stands writes writes_now faults faults_now puts puts_now
finish_unput Stands come reads reads_now writes writes_now status lost tells before now faults faults_now puts puts_now stands apart (replied reply is r w) (printed _ st f p o) =
    let u = no_other status (subst (λ (s : ℕ). IsReplyStatus s) (sym st) is) in λ e. absurd (u.write e)
finish_unput Stands come reads reads_now writes writes_now status lost tells before now faults faults_now puts puts_now stands apart (replied reply is r w) (unput _ st l rose p o) =
    λ e. record { rose = rose; no_write = w; once = p; stands = stands }
finish_unput Stands come reads reads_now writes writes_now status lost tells before now faults faults_now puts puts_now stands apart (unread end is rose w) (silent _ st l f p o) = λ e. absurd (cc)
finish_unput Stands come reads reads_now writes writes_now status lost tells before now faults faults_now puts puts_now stands apart (unwritten end is r rose) (silent _ st l f p o) = absurd (apart end is refl)
finish_unput Stands come reads reads_now writes writes_now status lost tells before now faults faults_now puts puts_now stands apart (wanting end is r w) (silent _ st l f p o) = λ e. absurd (cc)
finish_unput Stands come reads reads_now writes writes_now status lost tells before now faults faults_now puts puts_now stands apart (missing end is r w) (silent _ st l f p o) = λ e. absurd (cc)

-- the clauses of a command that writes nothing
pub record HasReadersEnd (Right : ℕ → List ℕ → Type 0) (Stands : Type 0) (told : Bool) (reads reads_now writes writes_now status : ℕ) (lost : Option (Vec ℕ Global)) (tells : Bool) (before now : List ℕ)
    (faults faults_now puts puts_now : ℕ) : Type 0 where
  pub ends : HasEnd Right told reads reads_now writes writes_now status lost tells before now faults faults_now puts puts_now
  pub failed : status ≡ 8 → IsUnput Stands writes writes_now faults faults_now puts puts_now

readers_end_by : (Right : ℕ → List ℕ → Type 0) (Stands : Type 0) (r : Result Reply Halt) (told : Bool) (reads reads_now writes writes_now status : ℕ) (lost : Option (Vec ℕ Global)) (tells : Bool) (before now : List ℕ)
    (faults faults_now puts puts_now : ℕ) → HasOneReply Right → (IsTrue told → IsRightReply Right r) → IfOk r (λ reply. IsReplyStatus reply.status) → CountsHalted reads reads_now r
    → writes_now ≡ writes → Stands → Finishes status lost tells before now faults faults_now puts puts_now (come_of r)
    → HasReadersEnd Right Stands told reads reads_now writes writes_now status lost tells before now faults faults_now puts puts_now
readers_end_by Right Stands r told reads reads_now writes writes_now status lost tells before now faults faults_now puts puts_now one right statuses counts same stands ends =
    let counted = counts_come r reads reads_now writes writes_now statuses counts same in
    record {
      ends = has_end Right (come_of r) told reads reads_now writes writes_now status lost tells before now faults faults_now puts puts_now one (λ is_told. right_come Right r (right is_told)) counted ends;
      failed = finish_unput Stands (come_of r) reads reads_now writes writes_now status lost tells before now faults faults_now puts puts_now stands (never_unwritten r) counted ends;
    }

pub readers_end : (Right : ℕ → List ℕ → Type 0) (Stands : Type 0) (r : Result Reply Halt) (come : Result Reply Unprinted) (told : Bool) (reads reads_now writes writes_now status : ℕ) (lost : Option (Vec ℕ Global)) (tells : Bool)
    (before now : List ℕ) (faults faults_now puts puts_now : ℕ) → come ≡ come_of r → HasOneReply Right → (IsTrue told → IsRightReply Right r)
    → IfOk r (λ reply. IsReplyStatus reply.status) → CountsHalted reads reads_now r → writes_now ≡ writes → Stands → Finishes status lost tells before now faults faults_now puts puts_now come
    → HasReadersEnd Right Stands told reads reads_now writes writes_now status lost tells before now faults faults_now puts puts_now
readers_end Right Stands r come told reads reads_now writes writes_now status lost tells before now faults faults_now puts puts_now is one right statuses counts same stands ends =
    readers_end_by Right Stands r told reads reads_now writes writes_now status lost tells before now faults faults_now puts puts_now one right statuses counts same stands
    (subst (λ (c : Result Reply Unprinted). Finishes status lost tells before now faults faults_now puts puts_now c) is ends)

-- the reply of a run is none of a failed write
pub unfailed : (r : Result Reply Halt) → IfOk r (λ reply. IsReplyStatus reply.status) → IfOk (come_of r) (λ reply. reply.status ≢ 8)
unfailed (Ok reply) is = (no_other reply.status is).write
unfailed (Err (Refused report)) is = λ e. absurd (cc)
unfailed (Err (Stopped fault)) is = tt
