-- An error that is not want of memory comes from a fault of the words.
use Rattle.std.proofs.Common.{◌≡◌, ◌≢◌, inl, inr, ap, subst, ◌∙◌, true, List, [], Result, Err}
use Rattle.clap.specs.Kinds.{Kinds, HasKind, IsAmong}
use Rattle.clap.specs.Values.{kind_of}
use Rattle.clap.specs.Walk.{Text}
use Rattle.clap.specs.Simple.{App}
use Rattle.clap.specs.Faults.{fault_of, is_simple_and_free}
use Rattle.clap.specs.declared.error.Error.{Error}
use Rattle.clap.specs.declared.error.kind.ErrorKind.{ErrorKind}
use Rattle.clap.specs.declared.error.kind.ErrorKind.TheVariants.{OutOfMemory}
use Rattle.cli_orders.specs.CommandLine.{command_line}
use Rattle.cli_orders.specs.Orders.{AreRefused}
use Rattle.cli_orders.specs.declared.order.Order.{Order}
use Rattle.cli_orders.specs.declared.order.WordFault.{WordFault}
use Rattle.cli_orders.specs.declared.order.WordFault.TheVariants.{Refused}
use Rattle.cli_orders.proofs.Line.{line_is_free}

some_kind : (kinds : Kinds) (e : Error) → HasKind kinds e → kind_of e ≢ OutOfMemory → kinds ≢ []
some_kind kinds e (inl memory) other = absurd (other memory)
some_kind kinds e (inr among) other = λ none. subst (λ (ks : Kinds). IsAmong (kind_of e) ks) none among

pub error_refused : (app : App) (words : List Text) (e : Error) (kind : ErrorKind) (fault : WordFault) → app ≡ command_line
    → (is_simple_and_free app ≡ true → HasKind (fault_of app words) e) → kind ≡ kind_of e → (fault ≡ Refused → kind ≢ OutOfMemory)
    → ◌≡◌ {A = Result Order WordFault} (Err fault) (Err Refused) → AreRefused words
error_refused app words e kind fault same kinds is other met =
    let has = kinds (ap is_simple_and_free same ∙ line_is_free) in
    let far : kind_of e ≢ OutOfMemory = subst (λ (k : ErrorKind). k ≢ OutOfMemory) is (other (cc)) in
    inl (some_kind (fault_of command_line words) e (subst (λ (a : App). HasKind (fault_of a words) e) same has) far)
