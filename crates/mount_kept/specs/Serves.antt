-- What a call finds at its take, of the keys for which it looks in turn; and the record of which that tells.
use Rattle.std.specs.Prelude.{◌≡◌, ℕ, List, [], ◌∷◌, Contains, Some, None, if◌then◌else◌}
use Rattle.bucket_api.specs.Listing.{ends_in_slash}
use Rattle.bucket_api.specs.Operation.{Operation}
use Rattle.history_spec.specs.Looks.{IsLook}
use Rattle.history_spec.specs.Pasts.{key_of, lifetime_of}
use Rattle.mount_kept.specs.Recalls.{both_found, recall_of, recalled}
use Rattle.mount_kept.specs.declared.recall.Found.{Found}
use Rattle.mount_kept.specs.declared.recall.Recall.{Recall}
use Rattle.mount_model.specs.declared.config.Config.{Config}
use Rattle.mount_rules.specs.Plans.{Plan}
use Rattle.record_spec.specs.RecordList.{Key, RecordList}
use Rattle.record_spec.specs.Steps.{live_record}
use Rattle.record_spec.specs.declared.records.Record.{Record}

abbrev pub found_of : Config → ℕ → Plan → RecordList → List Key → Found
found_of config now plan records [] = record { probe = None; stat = None }
found_of config now plan records (key ∷ []) =
    if ends_in_slash key then record { probe = recall_of config now records key; stat = None }
    else record { probe = None; stat = recall_of config now records key }
found_of config now plan records (directory ∷ object ∷ keys) = both_found config now plan records directory object

-- what was found of the key of a look: it is among the keys, and its record lived
pub record IsOfRecord (config : Config) (now : ℕ) (records : RecordList) (keys : List Key) (op : Operation) (recall : Recall) : Type 0 where
  pub look : IsLook op
  pub asked : Contains keys (key_of op)
  pub r : Record
  pub lives : live_record records (key_of op) now (lifetime_of config (key_of op)) ≡ Some r
  pub is : recall ≡ recalled r
