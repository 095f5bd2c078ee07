-- What stands behind two writes.
use Rattle.std.proofs.Common.{◌≡◌, ◌⊎◌, ◌∙◌, ap, subst, ℕ, List, Some, Result, Ok, Err, inl, inr}
use Rattle.bp_shelf.specs.Shelf.{Files, OthersAsBefore, Writes}
use Rattle.bp_shelf.specs.declared.shelf.ShelfFault.{ShelfFault}
use Rattle.bp_shelf.specs.declared.shelf.ShelfFault.TheVariants.{Missing, Failed, NoMemory}
use Rattle.cmd_gen.specs.Generates.{IsFirstWritten, IsSecondBegun, AreWritten, WritesBoth, LeavesTexts, first_begun, second_begun}

-- the first text stands alone where nothing was changed behind it
first_stands : (lp bytes : List ℕ) (before between now : Files) → between lp ≡ Some bytes → OthersAsBefore lp before between → now ≡ between
    → IsFirstWritten lp bytes before now
first_stands lp bytes before between now whole others same = record {
  lp_whole = ap (λ (files : Files). files lp) same ∙ whole;
  others = λ other apart. ap (λ (files : Files). files other) same ∙ others other apart;
}

-- the second write behind a first that succeeded
pub second_write : (lp dec lp_bytes dec_bytes : List ℕ) (before between now : Files) (r : Result (Unit {0}) ShelfFault) → between lp ≡ Some lp_bytes
    → OthersAsBefore lp before between → Writes dec dec_bytes between now r → WritesBoth lp dec lp_bytes dec_bytes before now r
second_write lp dec lp_bytes dec_bytes before between now (Ok done) whole others writes = record {
  lp_whole = λ apart. writes.1 lp apart ∙ whole;
  dec_whole = writes.0;
  others = λ other apart apart'. writes.1 other apart' ∙ others other apart;
}
second_write lp dec lp_bytes dec_bytes before between now (Err Failed) whole others writes = inr (record {
  lp_whole = λ apart. writes lp apart ∙ whole;
  others = λ other apart apart'. writes other apart' ∙ others other apart;
})
second_write lp dec lp_bytes dec_bytes before between now (Err Missing) whole others writes = inr (first_stands lp lp_bytes before between now whole others writes)
second_write lp dec lp_bytes dec_bytes before between now (Err NoMemory) whole others writes = inr (first_stands lp lp_bytes before between now whole others writes)

-- the same for texts that are known
pub known_texts : (lp dec first second lp_bytes dec_bytes : List ℕ) (before now : Files) → first ≡ lp_bytes → second ≡ dec_bytes
    → AreWritten lp dec first second before now → AreWritten lp dec lp_bytes dec_bytes before now
known_texts lp dec first second lp_bytes dec_bytes before now a b written =
    subst (λ (t : List ℕ). AreWritten lp dec t dec_bytes before now) a (subst (λ (t : List ℕ). AreWritten lp dec first t before now) b written)

pub failed_leaves : (lp dec first lp_bytes dec_bytes : List ℕ) (before now : Files) (status : ℕ) → first ≡ lp_bytes
    → OthersAsBefore lp before now ⊎ IsSecondBegun lp dec first before now → status ≡ 8 → LeavesTexts lp dec lp_bytes dec_bytes before now status
failed_leaves lp dec first lp_bytes dec_bytes before now status a (inl begun) is = first_begun begun is
failed_leaves lp dec first lp_bytes dec_bytes before now status a (inr begun) is =
    second_begun (subst (λ (t : List ℕ). IsSecondBegun lp dec t before now) a begun) is
