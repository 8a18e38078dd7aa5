-- The history of a scenario that was played.
use Rattle.std.specs.Prelude.{◌≡◌, List}
use Rattle.bucket_api.specs.LogEvent.{LogEvent}
use Rattle.history_text.specs.HistoryText.{History}
use Rattle.legal_spec.specs.Promises.{Orderly}
use Rattle.legal_spec.specs.Texts.{history_of}
use Rattle.mount_model.specs.Journal.{Entry}
use Rattle.scenario.specs.Parts.{ScenarioData}

-- What was played is what is printed of a legal history of the scenario, in which no two calls under way conflict.
pub record IsHistory (scenario : ScenarioData) (history : History) : Type 0 where
  pub log : List LogEvent
  pub journal : List Entry
  pub orderly : Orderly scenario log journal
  pub printed : history ≡ history_of scenario log orderly.legal.fits.account
