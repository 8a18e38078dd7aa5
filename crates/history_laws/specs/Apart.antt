-- Calls that stand apart: each sees at its end what it saw at its take. Calls one at a time do.
use Rattle.std.specs.Prelude.{◌≡◌, List, [], ◌∷◌, ◌++◌, Some}
use Rattle.bucket_api.specs.BucketState.{BucketState}
use Rattle.bucket_api.specs.LogEvent.{LogEvent}
use Rattle.history_laws.specs.Ends.{CallEnd, SeesAsTaken, mount_at, turn_of}
use Rattle.history_spec.specs.Account as account
use Rattle.history_spec.specs.Account.{Account}
use Rattle.history_spec.specs.Claims.{StandApart}
use Rattle.history_spec.specs.Fits.{Follows}
use Rattle.history_spec.specs.JournalState.{first_journal, open_of, reached}
use Rattle.mount_model.specs.declared.config.Config.{Config}

-- wherever in an account the call ends
abbrev pub EndsSeeAsTaken : Type 0
EndsSeeAsTaken = (config : Config) (start : BucketState) (log : List LogEvent) (turns more : Account) (e : CallEnd)
    → Follows config start log first_journal (turns ++ turn_of e ∷ more) → StandApart config start log first_journal (turns ++ turn_of e ∷ more)
    → open_of (reached config start log turns).opened e.call.call.lane ≡ Some e.call
    → SeesAsTaken (mount_at config start log turns) e

-- Calls one at a time: each is done in the turn after its take.
abbrev pub OneByOne : Account → Type 0
OneByOne [] = Unit {0}
OneByOne (account.tick front seconds ∷ turns) = OneByOne turns
OneByOne (account.take call front request ∷ account.done ended behind how items fill ∷ turns) = (ended ≡ call) × OneByOne turns
OneByOne turns = ⊥

-- they stand apart, whatever they claim
abbrev pub OneByOneIsApart : Type 0
OneByOneIsApart = (config : Config) (start : BucketState) (log : List LogEvent) (turns : Account)
    → Follows config start log first_journal turns → OneByOne turns → StandApart config start log first_journal turns
