-- What a record tells a call in place of a look: the operation that looks a key up, what the log tells of a record, the walk
-- that goes on by it, and the answers that it may stand for.
use Rattle.std.specs.Prelude.{◌≡◌, ◌≤◌, ℕ, Bool, false, ◌&&◌, List, [], ◌∷◌, ◌++◌, Some, None, if◌then◌else◌}
use Rattle.bucket_api.specs.BucketState.{BucketState}
use Rattle.bucket_api.specs.Listing.{ends_in_slash}
use Rattle.bucket_api.specs.LogEvent.{LogEvent}
use Rattle.bucket_api.specs.Operation.{Operation, list, stat}
use Rattle.bucket_api.specs.declared.answers.Answer.{Answer}
use Rattle.fuse_requests.specs.declared.request.Request.TheVariants.{Lookup, Rename, Rename2}
use Rattle.fuse_requests.specs.declared.request.Request.{Request}
use Rattle.history_spec.specs.Account.{Item, recalled}
use Rattle.history_spec.specs.Fits.{HasWalked}
use Rattle.history_spec.specs.JournalState.{OpenCall}
use Rattle.history_spec.specs.Looks.{IsLook}
use Rattle.history_spec.specs.Observing.{observed_at, seen_by}
use Rattle.history_spec.specs.Pasts.{key_of, shown_of}
use Rattle.mount_model.specs.Observing.{Observed}
use Rattle.mount_rules.specs.Dispatch.{mount_after, plan, reply_to}
use Rattle.mount_rules.specs.Mount.{MountModel}
use Rattle.mount_rules.specs.Plans.{Plan}
use Rattle.mount_rules.specs.Rules.{AtTake}
use Rattle.record_spec.specs.RecordList.{Key}
use Rattle.record_spec.specs.declared.records.Record.{Record}

-- ---- looks
-- the operation that looks a key up
abbrev pub look_for : Bool → Key → Operation
look_for implicit key = if implicit && ends_in_slash key then list key false 1 None else stat key

-- where the operation is a look, it is the one of its key
abbrev pub IsLookOfKey : Bool → Operation → Type 0
IsLookOfKey implicit op = IsLook op → op ≡ look_for implicit (key_of op)

-- ---- the log
-- A record of a key tells what the log does of its moment, which is up to a front: there the key was looked up, and the answer
-- shows what the record shows.
pub record IsOfLog (start : BucketState) (log : List LogEvent) (front : ℕ) (key : Key) (r : Record) : Type 0 where
  pub observed : Observed
  pub is : observed_at start log r.moment ≡ Some observed
  pub look : IsLook observed.op
  pub key_is : key_of observed.op ≡ key
  pub shown : shown_of observed.answer ≡ Some r.shown
  pub within : r.moment ≤ front

-- the walk has one item more, by which a record tells this
pub record RecallsOn (start : BucketState) (log : List LogEvent) (plan : Plan) (o : OpenCall) (front : ℕ) (items : List Item) (moment : ℕ) (seen : Observed) : Type 0 where
  pub walk : HasWalked start log plan o front (items ++ recalled moment ∷ [])
  pub saw : seen_by start log (items ++ recalled moment ∷ []) ≡ seen_by start log items ++ seen ∷ []

-- ---- LOOKUP and RENAME
-- it looks for a directory first
abbrev pub IsProbing : Request → Type 0
IsProbing (Lookup node name) = Unit {0}
IsProbing (Rename node newdir name newname) = Unit {0}
IsProbing (Rename2 node newdir flags name newname) = Unit {0}
IsProbing request = ⊥

-- The first answer may stand for another: what is asked behind it, what is answered and what is left are the same.
pub record StandsFor (at : AtTake) (mount : MountModel) (request : Request) (first other : Observed) : Type 0 where
  pub asks : (told : List Answer) → plan at mount request (first.answer ∷ told) ≡ plan at mount request (other.answer ∷ told)
  pub reply : (seen : List Observed) → reply_to at mount request (first ∷ seen) ≡ reply_to at mount request (other ∷ seen)
  pub after : (seen : List Observed) → mount_after at mount request (first ∷ seen) ≡ mount_after at mount request (other ∷ seen)
