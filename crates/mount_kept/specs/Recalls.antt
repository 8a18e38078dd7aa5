-- What is recalled at a take: of the records that live, what they show.
use Rattle.std.specs.Prelude.{ℕ, Bool, List, [], ◌∷◌, Option, None, is_some, not, ◌&&◌, ◌==◌, option_map, if◌then◌else◌}
use Rattle.std.specs.Option.{option_map_or}
use Rattle.bucket_api.specs.Listing.{ends_in_slash}
use Rattle.bucket_api.specs.Operation.{Operation, list, stat}
use Rattle.bucket_api.specs.declared.answers.Answer.{Answer}
use Rattle.history_spec.specs.Pasts.{lifetime_of}
use Rattle.mount_kept.specs.declared.recall.Found.{Found}
use Rattle.mount_kept.specs.declared.recall.Recall.{Recall}
use Rattle.mount_model.specs.declared.config.Config.{Config}
use Rattle.mount_rules.specs.Plans.{Plan, asked_by}
use Rattle.record_spec.specs.RecordList.{Key, RecordList}
use Rattle.record_spec.specs.Steps.{live_record}
use Rattle.record_spec.specs.declared.records.Record.{Record}
use Rattle.thrift_spec.specs.Records.{answer_of, plan_found}

abbrev pub recalled : Record → Recall
recalled r = record { moment = r.moment; shown = r.shown }

-- of a key's record, where it lives
abbrev pub recall_of : Config → ℕ → RecordList → Key → Option Recall
recall_of config now records key = option_map recalled (live_record records key now (lifetime_of config key))

-- the answers that a plan goes by behind it
abbrev pub answers_recalled : Option Recall → List Answer
answers_recalled recall = option_map_or (λ (r : Recall). answer_of r.shown ∷ []) recall []

-- What a plan is given that looks for a directory's key and then for an object's: of the second only where it still asks
-- anything behind the first.
abbrev pub both_found : Config → ℕ → Plan → RecordList → Key → Key → Found
both_found config now plan records directory object = record {
  probe = recall_of config now records directory;
  stat = if is_some (asked_by (plan_found plan (live_record records directory now (lifetime_of config directory)) [])) then recall_of config now records object else None;
}

-- ---- at a look
-- a list asks for one name at most, as a probe does
abbrev pub is_probe : Bool → ℕ → Option Key → Bool
is_probe slash max after = not slash && (max == 1) && not (is_some after)

-- what was found of the key at which an operation looks: a probe looks at a directory's, a stat at the one of its name
abbrev pub found_for : Found → Operation → Option Recall
found_for found (list prefix slash max after) = if is_probe slash max after then found.probe else None
found_for found (stat name) = if ends_in_slash name then found.probe else found.stat
found_for found op = None

-- it is taken out
abbrev pub found_left : Found → Operation → Found
found_left found (list prefix slash max after) = if is_probe slash max after then record found { probe = None } else found
found_left found (stat name) = if ends_in_slash name then record found { probe = None } else record found { stat = None }
found_left found op = found
