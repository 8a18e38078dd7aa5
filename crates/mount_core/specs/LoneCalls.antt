-- A call of the mount that keeps its log and its journal: what it made and what it left, whichever call of the lane it is; and
-- what holds of the mount between two calls.
use Rattle.std.specs.Prelude.{◌≡◌, ◌-◌, ◌^◌, ℕ, Bool, List, [], ◌∷◌, None, length}
use Rattle.fuse_replies.specs.declared.reply.Reply.{Reply}
use Rattle.fuse_requests.specs.declared.request.Request.{Request}
use Rattle.history_spec.specs.Account.{Account, Item}
use Rattle.history_spec.specs.Fits.{EndsBy}
use Rattle.history_spec.specs.JournalState.{OpenCall, mount_by, reply_by}
use Rattle.logged_bucket.specs.LoggedState.{LoggedState}
use Rattle.mount_core.specs.Logged.{HasMade, IsOfBucket, IsServed, notes_seen, seen_of}
use Rattle.mount_core.specs.Lones.{LoneState, Tells, come_to}
use Rattle.mount_core.specs.Metadatas.{GivesMetadata}
use Rattle.mount_model.specs.Configs.{IsConfig}
use Rattle.mount_model.specs.Journal.{Entry}
use Rattle.mount_model.specs.declared.config.Config.{Config}
use Rattle.mount_model.specs.declared.journal.How.{How}
use Rattle.history_spec.specs.Pasts.{lifetime_of}
use Rattle.mount_core.specs.declared.errand.Errand.TheVariants.{Files, Names}
use Rattle.mount_core.specs.declared.errand.Errand.{Errand}
use Rattle.mount_rules.specs.Requests.Lookup as lookup
use Rattle.object_names.specs.Paths.{dir_prefix_of}
use Rattle.plan_files.specs.declared.errand.FileErrand.TheVariants.{Attr}
use Rattle.plan_names.specs.declared.errand.NameErrand.TheVariants.{Lookup, Rename}
use Rattle.record_spec.specs.Steps as finding
use Rattle.mount_kept.specs.Serves.{found_of}
use Rattle.mount_kept.specs.Takings.{AllGoBy}
use Rattle.mount_kept.specs.declared.notes.Note.{Note}
use Rattle.mount_kept.specs.declared.recall.Found.{Found}
use Rattle.mount_rules.specs.Dispatch.{plan, rules_of, view_in}
use Rattle.mount_rules.specs.Plans.{Plan}
use Rattle.mount_rules.specs.Rules.{AtTake}
use Rattle.record_spec.specs.RecordList.{Key, RecordList}
use Rattle.thrift_spec.specs.Records.{RecordsAreTold, found_in, records_at}
use Rattle.mount_rules.specs.Mount.{MountModel, second_at}
use Rattle.mount_rules.specs.OneThread.{contents_of}
use Rattle.mount_state.specs.Mounts.{MountState}

-- ---- a call
-- a call of the lane that is taken now, with this request
pub record IsTakenNow (config : Config) (second lane : ℕ) (before : LoggedState) (request : Request) (o : OpenCall) : Type 0 where
  pub lane_is : o.call.lane ≡ lane
  pub front : o.front ≡ length before.log
  pub request_is : o.taken.request ≡ request
  pub settings : o.taken.at.config ≡ config
  pub second_is : o.taken.at.second ≡ second
  pub contents : o.taken.at.contents ≡ contents_of (record { start = before.start; log = before.log })

-- What is found at its take of the keys at which an errand looks, and the list that is left. What a LOOKUP's plan does with names
-- is no matter: only its suffix is.
abbrev pub Finds : Config → ℕ → Errand → RecordList → Found → RecordList → Type 0
Finds config clock (Names (Lookup path suffix implicit)) list came left =
    ((other : Bool) (name : Key) → came ≡ found_of config clock (lookup.plan other name suffix) list (dir_prefix_of path ∷ path ∷ []))
    × ((other : Bool) (name : Key) → left ≡ found_in config clock (lookup.plan other name suffix) (dir_prefix_of path ∷ path ∷ []) list)
Finds config clock (Names (Rename from to suffix implicit)) list came left =
    ((asks : Plan) → came ≡ found_of config clock asks list (dir_prefix_of from ∷ [])) × (left ≡ finding.found list (dir_prefix_of from) clock (lifetime_of config (dir_prefix_of from)))
Finds config clock (Files (Attr name)) list came left =
    ((asks : Plan) → came ≡ found_of config clock asks list (name ∷ [])) × (left ≡ finding.found list name clock (lifetime_of config name))
Finds config clock errand list came left = (came ≡ record { probe = None; stat = None }) × (left ≡ list)

-- What is found in this list of the keys at which the request looks serves the call.
abbrev pub AllServed : Config → ℕ → MountModel → RecordList → LoggedState → Request → OpenCall → Type 0
AllServed config clock mount list before request o =
    (asks : Plan) → IsServed (found_of config clock asks list ((rules_of request).keys (view_in mount request))) mount before o

-- some call that is taken now
pub record SomeTaken (config : Config) (clock lane : ℕ) (mount : MountModel) (list : RecordList) (before : LoggedState) (request : Request) : Type 0 where
  pub o : OpenCall
  pub now : IsTakenNow config (second_at config clock) lane before request o
  pub served : AllServed config clock mount list before request o

-- what is found in this list of the keys at which the request looks, by a call that is taken so
abbrev pub found_taken : Config → ℕ → AtTake → MountModel → RecordList → Request → Found
found_taken config clock at mount list request = found_of config clock (plan at mount request) list ((rules_of request).keys (view_in mount request))

-- it is done, after events of its own and by records that served, of which its notes tell, going by what was found: so it may end,
-- is answered so, and leaves this mount
pub record IsDone (mount : MountModel) (found : Found) (before after : LoggedState) (o : OpenCall) (answer : Reply) (h : How) (notes : List Note) (left : MountModel) : Type 0 where
  pub items : List Item
  pub made : HasMade mount before after o items
  pub noted : notes ≡ notes_seen items (seen_of before after items)
  pub goes : AllGoBy found items (seen_of before after items)
  pub ends : EndsBy h (plan o.taken.at mount o.taken.request) (seen_of before after items)
  pub answered : answer ≡ reply_by before.start after.log mount o h items
  pub leaves : left ≡ mount_by before.start after.log mount o h items

-- whichever call it is that what is found serves; and the list is then as its take leaves it
pub record Performs (config : Config) (clock lane : ℕ) (mount : MountModel) (list : RecordList) (before : LoggedState) (request : Request) (answer : Reply) (h : How) (notes : List Note)
    (left : MountModel) (taken : RecordList) (after : LoggedState) : Type 0 where
  pub done : (o : OpenCall) → IsTakenNow config (second_at config clock) lane before request o → AllServed config clock mount list before request o
      → IsDone mount (found_taken config clock o.taken.at mount list request) before after o answer h notes left
  pub finds : (at : AtTake) → at.config ≡ config → at.second ≡ second_at config clock
      → taken ≡ found_in config clock (plan at mount request) ((rules_of request).keys (view_in mount request)) list

-- ---- between two calls
-- what contracts see of its parts
abbrev pub lone_of : Config → LoggedState → List Entry → LoneState
lone_of config logged entries = record { config = config; start = logged.start; script = logged.script; log = logged.log; journal = entries }

-- The settings are in their ranges and the mount's, no room is promised, and its bucket was asked what may be asked of one.
-- An account tells all that it did, and came to this mount, this clock and this record list, with flags that tell what the list
-- made of what was seen; what the mount keeps may be given as metadata.
pub record IsBetween (config : Config) (mount : MountState) (list : RecordList) (logged : LoggedState) (entries : List Entry) (clock : ℕ) : Type 0 where
  pub settings : IsConfig config
  pub same : mount.config ≡ config
  pub idle : mount.promised ≡ 0
  pub bucket : IsOfBucket logged
  pub account : Account
  pub tells : Tells (lone_of config logged entries) account
  pub mount_is : mount.mount ≡ (come_to (lone_of config logged entries) account).mount
  pub clock_is : clock ≡ (come_to (lone_of config logged entries) account).clock
  pub metadata : GivesMetadata mount.mount
  pub listed : list ≡ records_at config logged.start logged.log account
  pub told : RecordsAreTold config logged.start logged.log account
