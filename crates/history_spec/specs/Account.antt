-- What a mount did, turn by turn, and where each call learned what it observed. A journal is what is printed of it.
use Rattle.std.specs.Prelude.{ℕ, Bool, true, false, List, fold, map, Option, Some, None}
use Rattle.std.specs.List.{filter_map}
use Rattle.fuse_requests.specs.declared.request.Request.{Request}
use Rattle.mount_model.specs.Journal as journal
use Rattle.mount_model.specs.Journal.{Entry}
use Rattle.mount_model.specs.declared.gate.CallId.{CallId}
use Rattle.mount_model.specs.declared.journal.Fill.{Fill}
use Rattle.mount_model.specs.declared.journal.How.{How}
use Rattle.mount_model.specs.declared.journal.Use.{Use}

-- How a call came to one observation: it looked a name up itself, of which a record was kept or not; a record of an
-- earlier look served; or it made another operation.
pub data Item : Type 0 where
  looked : (moment : ℕ) (kept : Bool) → Item
  recalled : (moment : ℕ) → Item
  made : (moment : ℕ) → Item

-- the moment in the log that shows what was observed
abbrev pub moment_of : Item → ℕ
moment_of (looked moment kept) = moment
moment_of (recalled moment) = moment
moment_of (made moment) = moment

-- what is printed of it: a use, where a name was looked up
abbrev pub use_of : Item → Option Use
use_of (looked moment kept) = Some (record { moment = moment; own = true; kept = kept })
use_of (recalled moment) = Some (record { moment = moment; own = false; kept = false })
use_of (made moment) = None

-- the moment of an operation that the call made itself
abbrev pub own_of : Item → Option ℕ
own_of (looked moment kept) = Some moment
own_of (recalled moment) = None
own_of (made moment) = Some moment

abbrev pub uses_of : List Item → List Use
uses_of items = filter_map use_of items

abbrev pub own_moments_of : List Item → List ℕ
own_moments_of items = filter_map own_of items

-- One turn of a mount, with the number of events of the log that the mount had seen: a call is taken; it is done, having
-- observed this; or the clock goes on.
pub data Turn : Type 0 where
  take : (call : CallId) (front : ℕ) (request : Request) → Turn
  done : (call : CallId) (front : ℕ) (how : How) (items : List Item) (fill : Fill) → Turn
  tick : (front seconds : ℕ) → Turn

abbrev pub front_of : Turn → ℕ
front_of (take call front request) = front
front_of (done call front how items fill) = front
front_of (tick front seconds) = front

abbrev pub Account : Type 0
Account = List Turn

-- what is printed of a turn
abbrev pub printed : Turn → Entry
printed (take call front request) = journal.taken call front request
printed (done call front how items fill) = journal.done call front how (uses_of items) fill
printed (tick front seconds) = journal.ticked front seconds

abbrev pub journal_of : Account → List Entry
journal_of account = map printed account

abbrev pub front_in : Entry → ℕ
front_in (journal.taken call front request) = front
front_in (journal.done call front how uses fill) = front
front_in (journal.ticked front seconds) = front

-- the front of the last entry, 0 before the first
abbrev pub last_front : List Entry → ℕ
last_front entries = fold (λ front entry. front_in entry) 0 entries
