-- Looks at names: the operations by which a call learns what stands under a name, and when what it learns may be used.
use Rattle.std.specs.Prelude.{◌≡◌, ◌≢◌, ℕ, ◌<◌, false, List, ◌++◌, Contains, IfSome, map, Some, None, ◌⊎◌}
use Rattle.std.specs.List.{AllByRecursion}
use Rattle.bucket_api.specs.BucketState.{BucketState, object_at}
use Rattle.bucket_api.specs.Log.{event_at, state_at}
use Rattle.bucket_api.specs.LogEvent.{LogEvent}
use Rattle.bucket_api.specs.Moments.{position_of}
use Rattle.bucket_api.specs.Operation.{Operation, stat, list}
use Rattle.history_spec.specs.JournalState.{EndedCall, JournalState, OpenCall, past_of}
use Rattle.history_spec.specs.Pasts.{key_of, lifetime_of}
use Rattle.mount_rules.specs.Dispatch.{rules_of}
use Rattle.mount_rules.specs.Overlap as overlap
use Rattle.record_spec.specs.Past.{IsLawful}
use Rattle.record_spec.specs.RecordList.{Key}
use Rattle.record_spec.specs.declared.records.Record.{Record}

-- An operation that looks a name up: a stat, or the probe of an implicit directory, which asks for one name at most.
abbrev pub IsLook : Operation → Type 0
IsLook (stat name) = Unit {0}
IsLook (list prefix slash max after) = (slash ≡ false) × (max ≡ 1) × (after ≡ None)
IsLook op = ⊥

-- the event at a moment really changed what stands under a name: an object was made, changed or removed
abbrev pub Changes : BucketState → List LogEvent → ℕ → List ℕ → Type 0
Changes start log moment name = object_at (state_at start log moment) name ≢ object_at (state_at start log (position_of moment)) name

-- the lanes in which the mount has taken calls
abbrev pub lanes_of : JournalState → List ℕ
lanes_of state = map (λ (o : OpenCall). o.call.lane) state.opened ++ map (λ (e : EndedCall). e.call.lane) state.ended

-- the event at a moment is this call's, made since its take; or that of a call that was done before its take
abbrev pub IsKnownTo : OpenCall → ℕ → LogEvent → Type 0
IsKnownTo o moment event = ((event.lane ≡ o.call.lane) × (o.front < moment)) ⊎ ((e : EndedCall) × Contains o.before e × Contains e.own moment)

-- What a call sees by a stat of its own is settled: whatever the mount's calls had changed under that name by then is its
-- own change, or one of a call that was done before its take. A probe by a list may show what is still under way.
abbrev pub IsSettled : BucketState → List LogEvent → JournalState → OpenCall → ℕ → Operation → Type 0
IsSettled start log state o moment (stat name) =
    (m : ℕ) (event : LogEvent) → m < moment → event_at log m ≡ Some event → Contains (lanes_of state) event.lane → Changes start log m name → IsKnownTo o m event
IsSettled start log state o moment op = Unit {0}

-- a stat doesn't show a change that was made at this moment
abbrev pub IsUnseen : BucketState → List LogEvent → ℕ → Operation → Type 0
IsUnseen start log changed (stat name) = Changes start log changed name → ⊥
IsUnseen start log changed op = Unit {0}

-- By no stat at one of these moments does a call see what another had changed at one of those.
abbrev pub SeesNothingOf : BucketState → List LogEvent → List ℕ → List ℕ → Type 0
SeesNothingOf start log own others =
    AllByRecursion (λ moment. AllByRecursion (λ changed. changed < moment → IfSome (event_at log moment) (λ (e : LogEvent). IsUnseen start log changed e.op)) others) own

-- Neither of two calls saw by a stat what the other had changed, of the moments that each made.
pub record AreUnseen (start : BucketState) (log : List LogEvent) (own others : List ℕ) : Type 0 where
  pub mine : SeesNothingOf start log own others
  pub theirs : SeesNothingOf start log others own

-- the keys of which a call looks for records, by what it saw at its take
abbrev pub keys_taken : overlap.OpenCall → List Key
keys_taken taken = (rules_of taken.request).keys taken.view

-- A record of this moment may serve a look of a call, of a key of which the call looks for records: by what calls that were
-- done before its take saw, used and wrote, the record may be used after so many seconds.
pub record MayRecall (o : OpenCall) (op : Operation) (moment : ℕ) : Type 0 where
  pub asked : Contains (keys_taken o.taken) (key_of op)
  pub r : Record
  pub is : r.moment ≡ moment
  pub lawful : IsLawful o.taken.at.config.implicit_dirs (past_of o.before) (key_of op) o.clock (lifetime_of o.taken.at.config (key_of op)) r
