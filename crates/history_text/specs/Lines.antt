-- The lines of a history, each as the list of its words.
use Rattle.std.specs.Prelude.{ℕ, Bool, List, [], ◌∷◌, ◌++◌, map, codes, if◌then◌else◌}
use Rattle.std.specs.Fmt.{decimal}
use Rattle.bucket_api.specs.declared.events.Mode.{Mode}
use Rattle.bucket_api.specs.declared.events.Mode.TheVariants.{Done as mode_done, Failed, Lost}
use Rattle.bucket_api.specs.declared.objects.Object.{Object}
use Rattle.bucket_api.specs.LogEvent.{LogEvent}
use Rattle.bucket_api.specs.Operation.{Operation, stat, read, insert, update, delete, copy, list}
use Rattle.mount_model.specs.declared.gate.CallId.{CallId}
use Rattle.mount_model.specs.declared.journal.Fill.{Fill}
use Rattle.mount_model.specs.declared.journal.Fill.TheVariants.{Nothing, Kept, NoMemory}
use Rattle.mount_model.specs.declared.journal.How.{How}
use Rattle.mount_model.specs.declared.journal.How.TheVariants.{Ok as how_ok, NoMemory as how_short}
use Rattle.mount_model.specs.Journal.{Entry, taken, done, ticked}
use Rattle.history_text.specs.Words.{bytes_word, pairs_word, only_word, after_word, frame_word, call_word, use_word}

-- a call and its reply
abbrev pub reply_line : CallId → List ℕ → List (List ℕ)
reply_line call frame = codes "reply" ∷ call_word call ∷ frame_word frame ∷ []

-- a live object: its name, generation, metageneration, second of the last change, size, content and pairs
abbrev pub object_line : List ℕ → Object → List (List ℕ)
object_line name o =
    codes "object" ∷ bytes_word name ∷ decimal o.meta.generation ∷ decimal o.meta.metageneration ∷ decimal o.meta.updated ∷ decimal o.meta.size
    ∷ bytes_word o.content ∷ pairs_word o.meta.pairs ∷ []

-- what became of an operation
abbrev pub mode_word : Mode → List ℕ
mode_word mode_done = codes "done"
mode_word Failed = codes "failed"
mode_word Lost = codes "lost"

-- how a listing shows names: up to their first slash, or whole
abbrev pub depth_word : Bool → List ℕ
depth_word slash = if slash then codes "slash" else codes "flat"

-- an operation and what it asks
abbrev pub operation_words : Operation → List (List ℕ)
operation_words (stat name) = codes "stat" ∷ bytes_word name ∷ []
operation_words (read name generation first count) = codes "read" ∷ bytes_word name ∷ decimal generation ∷ decimal first ∷ decimal count ∷ []
operation_words (insert name content pairs only stamp) =
    codes "insert" ∷ bytes_word name ∷ only_word only ∷ decimal stamp ∷ pairs_word pairs ∷ bytes_word content ∷ []
operation_words (update name pairs only only_meta stamp) =
    codes "update" ∷ bytes_word name ∷ only_word only ∷ only_word only_meta ∷ decimal stamp ∷ pairs_word pairs ∷ []
operation_words (delete name only) = codes "delete" ∷ bytes_word name ∷ only_word only ∷ []
operation_words (copy from generation to stamp) = codes "copy" ∷ bytes_word from ∷ decimal generation ∷ bytes_word to ∷ decimal stamp ∷ []
operation_words (list prefix slash max after) = codes "list" ∷ bytes_word prefix ∷ depth_word slash ∷ decimal max ∷ after_word after ∷ []

-- an event of the log, at its moment
abbrev pub event_line : ℕ → LogEvent → List (List ℕ)
event_line moment e = codes "log" ∷ decimal moment ∷ decimal e.lane ∷ mode_word e.mode ∷ operation_words e.op

-- how a call ended
abbrev pub how_word : How → List ℕ
how_word how_ok = codes "ok"
how_word how_short = codes "nomemory"

-- whether a whole source is kept, where the call read one
abbrev pub fill_words : Fill → List (List ℕ)
fill_words Nothing = []
fill_words Kept = codes "fk" ∷ []
fill_words NoMemory = codes "fn" ∷ []

-- an entry of the journal
abbrev pub entry_line : Entry → List (List ℕ)
entry_line (taken call front request) = codes "take" ∷ call_word call ∷ decimal front ∷ []
entry_line (done call front how uses fill) = codes "done" ∷ call_word call ∷ decimal front ∷ how_word how ∷ (map use_word uses ++ fill_words fill)
entry_line (ticked front seconds) = codes "tick" ∷ decimal front ∷ decimal seconds ∷ []
