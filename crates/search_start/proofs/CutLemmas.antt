-- Cuts behind those that a program has.
use Rattle.std.proofs.Common.{◌≡◌, ◌∙◌, ◌⊎◌, inl, inr, refl, sym, ap, subst, ℕ, ◌+◌, ◌≤◌, List, [], ◌++◌, length, arith, append-nil, append_assoc, length-append}
use Rattle.std.proofs.lemmas.List.Elements.{All-nil, recursion_from_All}
use Rattle.bp_theory.specs.Limits.{most_cuts}
use Rattle.bp_theory.specs.Cuts.{cut_rows}
use Rattle.bp_theory.specs.declared.Cut.{Cut}
use Rattle.block_program.specs.Blocked.{BlockedProgram, IsFormed}
use Rattle.block_program.specs.Cuts.{KeepsCuts}
use Rattle.branch_tree.specs.Loads.{IsLoaded}
use Rattle.branch_tree.specs.declared.loaded.Loaded.{Loaded}
use Rattle.cut_sums.specs.Plain.{IsPlain, ComesBefore, AreFirstPlain}
use Rattle.round_cut.proofs.PlainCuts.{plain_keep}
use Rattle.round_cut.proofs.SeveralLemmas.{rows_of_kept}
use Rattle.cert_load.specs.Recut.{with_cuts}
use Rattle.cert_load.proofs.CutPrograms.{is_with_cuts}
use Rattle.cert_load.proofs.Carried.{carried}
use Rattle.search_start.specs.Cuttings.{room_behind, AreAdded, HasCuts, HasPlain, HasOthers}

-- a program is itself with its own cuts
pub own_cuts : (b : BlockedProgram) → IsFormed b → b ≡ with_cuts b b.cuts
own_cuts b formed = is_with_cuts b b b.cuts formed refl refl refl

-- no cuts are what is added where there is no room
no_room : (b : BlockedProgram) → AreAdded b 0 []
no_room b = record {
  plain = [];
  further = [];
  parts = refl;
  first = record {
    few = omega arith;
    plain = All-nil (IsPlain b.named.program b.dec);
    order = λ i j c e less short. absurd (omega (arith, less, short));
    all_first = λ cut plain. inr (refl, All-nil (λ (c : Cut). ComesBefore c cut));
  };
  few = omega arith;
}

pub none_added : (b : BlockedProgram) (ordered : ℕ) → IsFormed b → room_behind b.cuts ordered ≡ 0 → HasCuts b b.cuts ordered b
none_added b ordered formed none = record {
  added = [];
  adds = subst (λ (room : ℕ). AreAdded b room []) (sym none) (no_room b);
  kept = subst (KeepsCuts b.named.program b.dec) (sym (append-nil b.cuts)) formed.cuts_kept;
  is = own_cuts b formed ∙ ap (with_cuts b) (sym (append-nil b.cuts));
}

-- plain cuts behind a program's own keep the rules
pub plain_kept : (b : BlockedProgram) (room : ℕ) (plain : List Cut) → IsFormed b → length b.cuts + room ≤ most_cuts → AreFirstPlain b.named.program b.dec room plain
    → KeepsCuts b.named.program b.dec (b.cuts ++ plain)
plain_kept b room plain formed few first =
    plain_keep b.named.program b.dec b.cuts (cut_rows b.named.program b.dec [] b.cuts) plain
    (rows_of_kept b.named.program b.dec b.cuts formed.cuts_kept) (recursion_from_All (IsPlain b.named.program b.dec) plain first.plain)
    (omega (arith, few, first.few))

-- a program may be left with its own cuts
pub no_others : (b : BlockedProgram) (most : ℕ) → IsFormed b → HasOthers b most b
no_others b most formed = record {
  cuts = b.cuts;
  goes_on = record { kept = formed.cuts_kept; begins = ([], sym (append-nil b.cuts)); few = inl refl };
  is = own_cuts b formed;
}

-- how many are added: the others come within the room that plain ones leave, or there are none
added_few : (own plain rest cuts : List Cut) (room most : ℕ) → length plain ≤ room → most ≡ length own + room → cuts ≡ (own ++ plain) ++ rest
    → (cuts ≡ own ++ plain) ⊎ (length cuts ≤ most) → length (plain ++ rest) ≤ room
added_few own plain rest cuts room most few most_is begins (inl none) =
    omega (
      arith,
      few,
      ap (λ (cs : List Cut). length cs) begins,
      ap (λ (cs : List Cut). length cs) none,
      length-append (own ++ plain) rest,
      length-append own plain,
      length-append plain rest,
    )
added_few own plain rest cuts room most few most_is begins (inr within) =
    omega (
      arith,
      most_is,
      within,
      ap (λ (cs : List Cut). length cs) begins,
      length-append (own ++ plain) rest,
      length-append own plain,
      length-append plain rest,
    )

-- plain cuts behind a program's own, and others behind these
pub both_added : (b e c : BlockedProgram) (ordered room most : ℕ) → room ≡ room_behind b.cuts ordered → most ≡ length b.cuts + room → HasPlain b room e → HasOthers e most c
    → HasCuts b b.cuts ordered c
both_added b e c ordered room most room_is most_is plain others =
    let further : HasOthers (with_cuts b (b.cuts ++ plain.plain)) most c = subst (λ (x : BlockedProgram). HasOthers x most c) plain.is others in
    let rest : List Cut = further.goes_on.begins.0 in
    let all : further.cuts ≡ b.cuts ++ (plain.plain ++ rest) = further.goes_on.begins.1 ∙ append_assoc b.cuts plain.plain rest in
    let adds : AreAdded b room (plain.plain ++ rest) = record {
      plain = plain.plain;
      further = rest;
      parts = refl;
      first = plain.first;
      few = added_few b.cuts plain.plain rest further.cuts room most plain.first.few most_is further.goes_on.begins.1 further.goes_on.few;
    } in
    record {
      added = plain.plain ++ rest;
      adds = subst (λ (n : ℕ). AreAdded b n (plain.plain ++ rest)) room_is adds;
      kept = subst (KeepsCuts b.named.program b.dec) all further.goes_on.kept;
      is = further.is ∙ ap (with_cuts b) all;
    }

-- cuts behind those of a program that is another with cuts
pub added_over : (b e c : BlockedProgram) (own : List Cut) (ordered : ℕ) → e ≡ with_cuts b own → HasCuts e e.cuts ordered c → HasCuts b own ordered c
added_over b e c own ordered is has =
    let over : HasCuts (with_cuts b own) own ordered c = subst (λ (x : BlockedProgram). HasCuts x x.cuts ordered c) is has in
    record {
      added = over.added;
      adds = record {
        plain = over.adds.plain;
        further = over.adds.further;
        parts = over.adds.parts;
        first = over.adds.first;
        few = over.adds.few;
      };
      kept = over.kept;
      is = over.is;
    }

-- a program without cuts has those alone that are added
pub added_alone : (b c : BlockedProgram) (ordered : ℕ) → b.cuts ≡ [] → HasCuts b b.cuts ordered c → HasCuts b [] ordered c
added_alone b c ordered uncut has = subst (λ (own : List Cut). HasCuts b own ordered c) uncut has

-- a search may go on from what is loaded with the cuts that are added, since they change no bound of a proof that does not name them
pub still_loaded : (b c : BlockedProgram) (ordered : ℕ) (from : Loaded) → IsFormed b → HasCuts b b.cuts ordered c → IsLoaded b from → IsLoaded c from
still_loaded b c ordered from formed has loaded =
    subst (λ (x : BlockedProgram). IsLoaded x from) (sym has.is)
    (carried b b.cuts has.added from (subst (λ (x : BlockedProgram). IsLoaded x from) (own_cuts b formed) loaded))
