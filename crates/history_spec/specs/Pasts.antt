-- What a call that is done leaves for later ones to go by: what it saw of keys by looks of its own, which records it used, and
-- which names it wrote.
use Rattle.std.specs.Prelude.{ℕ, List, [], ◌++◌, Option, Some, None, option_and_then, option_map, if◌then◌else◌}
use Rattle.std.specs.List.{filter_map}
use Rattle.bucket_api.specs.BucketState.{BucketState}
use Rattle.bucket_api.specs.Listing.{ends_in_slash}
use Rattle.bucket_api.specs.LogEvent.{LogEvent}
use Rattle.bucket_api.specs.Operation.{Operation, stat, insert, update, delete, copy, list}
use Rattle.bucket_api.specs.declared.answers.Answer.{Answer}
use Rattle.bucket_api.specs.declared.answers.Answer.TheVariants as answers
use Rattle.history_spec.specs.Account.{Item, looked, made, moment_of, recalled}
use Rattle.history_spec.specs.Observing.{observed_at}
use Rattle.mount_model.specs.Observing.{Observed}
use Rattle.mount_model.specs.declared.config.Config.{Config}
use Rattle.mount_rules.specs.Requests.Lookup.{Probed, absent, failed, present, probed}
use Rattle.record_spec.specs.Past.{Past}
use Rattle.record_spec.specs.RecordList.{Key}
use Rattle.record_spec.specs.declared.records.Record.{Record}
use Rattle.record_spec.specs.declared.records.Shown.{Shown}
use Rattle.record_spec.specs.declared.records.Shown.TheVariants as shows

-- the key that a look asks about: an object's name, or a directory's with its slash
abbrev pub key_of : Operation → Key
key_of (stat name) = name
key_of (list prefix slash max after) = prefix
key_of op = []

-- how long a record of the key serves
abbrev pub lifetime_of : Config → Key → ℕ
lifetime_of config key = if ends_in_slash key then config.type_lifetime else config.stat_lifetime

-- what the answer to a look shows of its key; nothing, where the look failed
abbrev pub probe_shows : Probed → Option Shown
probe_shows present = Some shows.Present
probe_shows absent = Some shows.Absent
probe_shows failed = None

abbrev pub shown_of : Answer → Option Shown
shown_of (answers.Meta meta) = Some (shows.Object meta)
shown_of answer = probe_shows (probed answer)

-- the name that an operation writes
abbrev pub written_by : Operation → Option Key
written_by (insert name content pairs only stamp) = Some name
written_by (update name pairs only only_meta stamp) = Some name
written_by (delete name only) = Some name
written_by (copy from generation to stamp) = Some to
written_by op = None

-- What one item tells, of a call that was taken after these seconds: a record of what the call saw itself; the record that
-- it used; the name that it wrote.
abbrev pub saw : ℕ → Item → Observed → Option (Key × Record)
saw clock (looked moment kept) seen = option_map (λ shown. (key_of seen.op, record { moment = moment; tick = clock; shown = shown })) (shown_of seen.answer)
saw clock item seen = None

abbrev pub used : Item → Observed → Option (Key × ℕ)
used (recalled moment) seen = Some (key_of seen.op, moment)
used item seen = None

abbrev pub wrote : Item → Observed → Option (Key × ℕ)
wrote (made moment) seen = option_map (λ name. (name, moment)) (written_by seen.op)
wrote item seen = None

-- what each item tells by this, where the log has its moment
abbrev pub told_by : {X : Type 0} → BucketState → List LogEvent → (Item → Observed → Option X) → List Item → List X
told_by start log tells items = filter_map (λ item. option_and_then (tells item) (observed_at start log (moment_of item))) items

abbrev pub past_by : BucketState → List LogEvent → ℕ → List Item → Past
past_by start log clock items = record {
  seen = told_by start log (saw clock) items;
  used = told_by start log used items;
  written = told_by start log wrote items;
}

-- one past and another
abbrev pub joined : Past → Past → Past
joined one other = record { seen = one.seen ++ other.seen; used = one.used ++ other.used; written = one.written ++ other.written }
