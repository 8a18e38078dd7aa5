-- The record list of a mount along an account: what a take finds in it, and what the end of a call learns and writes.
use Rattle.std.specs.Prelude.{ℕ, Bool, true, false, List, [], ◌∷◌, Option, IfSome, is_some, option_and_then, option_map, if◌then◌else◌}
use Rattle.std.specs.Option.{option_map_or}
use Rattle.bucket_api.specs.BucketState.{BucketState}
use Rattle.bucket_api.specs.LogEvent.{LogEvent}
use Rattle.bucket_api.specs.declared.answers.Answer.{Answer}
use Rattle.bucket_api.specs.declared.answers.Answer.TheVariants as answers
use Rattle.history_spec.specs.Account as account
use Rattle.history_spec.specs.Account.{Account, Item, Turn, looked, made, moment_of, recalled}
use Rattle.history_spec.specs.JournalState.{JournalState, OpenCall, after_turn, at_front, first_journal, open_of}
use Rattle.history_spec.specs.Observing.{observed_at}
use Rattle.history_spec.specs.Pasts as pasts
use Rattle.history_spec.specs.Pasts.{lifetime_of}
use Rattle.mount_model.specs.Observing.{Observed}
use Rattle.mount_model.specs.declared.config.Config.{Config}
use Rattle.mount_rules.specs.Dispatch.{plan, rules_of, view_in}
use Rattle.mount_rules.specs.Plans.{Plan, asked_by, plan_after}
use Rattle.record_spec.specs.Laws.{Act, MayHappen, list_after, saw, used, wrote}
use Rattle.record_spec.specs.RecordList.{Key, RecordList, empty_list}
use Rattle.record_spec.specs.Steps.{found, is_behind, live_record}
use Rattle.record_spec.specs.declared.records.Learned.{Learned}
use Rattle.record_spec.specs.declared.records.Learned.TheVariants.{Behind, Kept, NoMemory}
use Rattle.record_spec.specs.declared.records.Record.{Record}
use Rattle.record_spec.specs.declared.records.Shown.{Shown}
use Rattle.record_spec.specs.declared.records.Shown.TheVariants as shows

-- ---- at a take
-- the answer for which a record stands; `Done` tells of a directory that was found by what lies in it
abbrev pub answer_of : Shown → Answer
answer_of (shows.Object meta) = answers.Meta meta
answer_of shows.Present = answers.Done
answer_of shows.Absent = answers.NotFound

-- what is asked once a record was looked for: one that lives answers the first step
abbrev pub plan_found : Plan → Option Record → Plan
plan_found plan found = option_map_or (λ (r : Record). plan_after plan (answer_of r.shown)) found plan

-- The keys are looked for in order, while the plan still asks anything; a record that lives comes to the front.
abbrev pub found_in : Config → ℕ → Plan → List Key → RecordList → RecordList
found_in config now plan [] list = list
found_in config now plan (key ∷ keys) list =
    if is_some (asked_by (plan [])) then
    found_in config now (plan_found plan (live_record list key now (lifetime_of config key))) keys (found list key now (lifetime_of config key))
    else list

-- ---- at the end of a call
-- what came of an observation by its flag: it is kept; or it was behind, or memory for it was refused
abbrev pub came_of : RecordList → Key → ℕ → Bool → Learned
came_of list key moment true = Kept
came_of list key moment false = if is_behind list key moment then Behind else NoMemory

-- what an item of a call that was taken after these seconds is to the list
abbrev pub act_of : ℕ → RecordList → Item → Observed → Option Act
act_of clock list (looked moment kept) seen =
    option_map (λ (u : Key × Record). saw u.0 u.1 (came_of list u.0 u.1.moment kept)) (pasts.saw clock (looked moment kept) seen)
act_of clock list (recalled moment) seen = option_map (λ (u : Key × ℕ). used u.0 u.1) (pasts.used (recalled moment) seen)
act_of clock list (made moment) seen = option_map (λ (w : Key × ℕ). wrote w.0 w.1) (pasts.wrote (made moment) seen)

module _ (implicit : Bool) (start : BucketState) (log : List LogEvent) (clock : ℕ) where
  abbrev pub act_at : RecordList → Item → Option Act
  act_at list item = option_and_then (act_of clock list item) (observed_at start log (moment_of item))

  abbrev pub list_by : RecordList → Option Act → RecordList
  list_by list act = option_map_or (list_after implicit list) act list

  -- own looks and own writes one after another, which is by moment
  abbrev pub list_after_items : RecordList → List Item → RecordList
  list_after_items list [] = list
  list_after_items list (item ∷ items) = list_after_items (list_by list (act_at list item)) items

  -- The flags say what came of each observation: it is kept unless it is behind, or memory is refused to a key without a
  -- record. And a record that was used is no newer than what the list knows.
  abbrev pub AreTold : RecordList → List Item → Type 0
  AreTold list [] = Unit {0}
  AreTold list (item ∷ items) = IfSome (act_at list item) (MayHappen list) × AreTold (list_by list (act_at list item)) items

-- ---- along an account
module _ (config : Config) (start : BucketState) (log : List LogEvent) where
  abbrev pub list_after_turn : JournalState → RecordList → Turn → RecordList
  list_after_turn state list (account.take call front request) =
      found_in config state.clock (plan (at_front config start log state.clock front) state.mount request) ((rules_of request).keys (view_in state.mount request)) list
  list_after_turn state list (account.done call front how items fill) =
      option_map_or (λ (o : OpenCall). list_after_items config.implicit_dirs start log o.clock list items) (open_of state.opened call.lane) list
  list_after_turn state list (account.tick front seconds) = list

  abbrev pub list_after_turns : JournalState → RecordList → Account → RecordList
  list_after_turns state list [] = list
  list_after_turns state list (turn ∷ turns) = list_after_turns (after_turn config start log state turn) (list_after_turn state list turn) turns

  -- the list that a mount has at the end of an account
  abbrev pub records_at : Account → RecordList
  records_at turns = list_after_turns first_journal (empty_list config.record_capacity) turns

  abbrev pub IsToldBy : JournalState → RecordList → Turn → Type 0
  IsToldBy state list (account.done call front how items fill) =
      IfSome (open_of state.opened call.lane) (λ (o : OpenCall). AreTold config.implicit_dirs start log o.clock list items)
  IsToldBy state list turn = Unit {0}

  -- each end of a call tells by its flags what the list made of what it saw
  abbrev pub AllTold : JournalState → RecordList → Account → Type 0
  AllTold state list [] = Unit {0}
  AllTold state list (turn ∷ turns) = IsToldBy state list turn × AllTold (after_turn config start log state turn) (list_after_turn state list turn) turns

  abbrev pub RecordsAreTold : Account → Type 0
  RecordsAreTold turns = AllTold first_journal (empty_list config.record_capacity) turns
