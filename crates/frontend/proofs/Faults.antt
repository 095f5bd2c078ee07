-- What stands where a write failed, by what else is said to stand.
use Rattle.std.proofs.Common.{◌≡◌, inl, inr, subst, ℕ, List}
use Rattle.frontend.specs.Answers.{IsUnput, FailsToWrite}

-- more stands
pub unput_as : {A B : Type 0} {writes writes_now faults faults_now puts puts_now : ℕ} → (A → B)
    → IsUnput A writes writes_now faults faults_now puts puts_now → IsUnput B writes writes_now faults faults_now puts puts_now
unput_as more unput = record { rose = unput.rose; no_write = unput.no_write; once = unput.once; stands = more unput.stands }

-- the same behind reads, which raise no count of writes
pub fails_as : {A B : Type 0} (writes between writes_now faults faults_now puts puts_now : ℕ) (before now : List ℕ) → between ≡ writes → (A → B)
    → FailsToWrite A between writes_now faults faults_now puts puts_now before now → FailsToWrite B writes writes_now faults faults_now puts puts_now before now
fails_as {A} {B} writes between writes_now faults faults_now puts puts_now before now same more fails =
    subst (λ (w : ℕ). FailsToWrite B w writes_now faults faults_now puts puts_now before now) same (by fails)
  where
    by : FailsToWrite A between writes_now faults faults_now puts puts_now before now → FailsToWrite B between writes_now faults faults_now puts puts_now before now
    by (inl unwritten) = inl unwritten
    by (inr unput) = inr (unput_as more unput)
