-- A mount's journal as plain data: a list of entries, each with its front, the number of events of the bucket's log
-- that had been seen.
use Rattle.std.specs.Prelude.{ℕ, List, map}
use Rattle.fuse_requests.specs.declared.request.Request.{Request}
use Rattle.fuse_requests.specs.Grammar.{without_spare}
use Rattle.mount_model.specs.declared.gate.CallId.{CallId}
use Rattle.mount_model.specs.declared.journal.Fill.{Fill}
use Rattle.mount_model.specs.declared.journal.How.{How}
use Rattle.mount_model.specs.declared.journal.Use.{Use}
use Rattle.mount_model.specs.declared.journal.JournalEntry.{JournalEntry}
use Rattle.mount_model.specs.declared.journal.JournalEntry.TheVariants.{Take, Done, Tick}

-- a call was taken with its request, or was done, or the clock went on
pub data Entry : Type 0 where
  taken : (call : CallId) (front : ℕ) (request : Request) → Entry
  done : (call : CallId) (front : ℕ) (how : How) (uses : List Use) (fill : Fill) → Entry
  ticked : (front seconds : ℕ) → Entry

-- what the `JournalEntry` says
abbrev pub entry : JournalEntry → Entry
entry (Take call front request) = taken call front (without_spare request)
entry (Done call front how uses fill) = done call front how uses.items fill
entry (Tick front seconds) = ticked front seconds

-- what the entries say, in order
abbrev pub entries : List JournalEntry → List Entry
entries journal = map entry journal
