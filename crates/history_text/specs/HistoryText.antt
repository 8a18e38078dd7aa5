-- The text of a history: its replies, the last bucket, the log and the journal, line by line.
use Rattle.std.specs.Prelude.{◌≡◌, ℕ, ◌+◌, ◌<◌, ◌⊎◌, List, [], ◌∷◌, ◌++◌, map, length, codes}
use Rattle.std.specs.List.{flat_map}
use Rattle.bucket_api.specs.BucketState.{BucketState}
use Rattle.bucket_api.specs.LogEvent.{LogEvent}
use Rattle.mount_model.specs.declared.gate.CallId.{CallId}
use Rattle.mount_model.specs.Journal.{Entry}
use Rattle.history_text.specs.Words.{line}
use Rattle.history_text.specs.Lines.{reply_line, object_line, event_line, entry_line}

-- What was played: the reply frame of each call, the calls, the last bucket, the log and the journal
pub record History : Type 0 where
  pub replies : List (List ℕ)
  pub calls : List CallId
  pub bucket : BucketState
  pub log : List LogEvent
  pub journal : List Entry

-- the first call comes before the second one, by lane and then by index
abbrev pub ComesBefore : CallId → CallId → Type 0
ComesBefore a b = (a.lane < b.lane) ⊎ ((a.lane ≡ b.lane) × (a.index < b.index))

-- the calls rise by lane and then by index
abbrev pub CallsRise : List CallId → Type 0
CallsRise [] = Unit {0}
CallsRise (a ∷ []) = Unit {0}
CallsRise (a ∷ b ∷ calls) = ComesBefore a b × CallsRise (b ∷ calls)

-- each call has its reply, and the calls rise
pub record IsPlayed (history : History) : Type 0 where
  pub answered : length history.replies ≡ length history.calls
  pub rise : CallsRise history.calls

-- the lines of the replies, one for each call
abbrev pub reply_lines : List CallId → List (List ℕ) → List (List (List ℕ))
reply_lines [] frames = []
reply_lines (call ∷ calls) [] = []
reply_lines (call ∷ calls) (frame ∷ frames) = reply_line call frame ∷ reply_lines calls frames

-- the lines of the live objects, by their names
abbrev pub object_lines : BucketState → List (List (List ℕ))
object_lines bucket = map (λ e. object_line e.0 e.1) bucket.entries

-- the lines of events from a moment on
abbrev pub log_lines : ℕ → List LogEvent → List (List (List ℕ))
log_lines moment [] = []
log_lines moment (e ∷ log) = event_line moment e ∷ log_lines (moment + 1) log

-- the lines of a journal
abbrev pub journal_lines : List Entry → List (List (List ℕ))
journal_lines journal = map entry_line journal

-- lines, one below the other
abbrev pub text_of : List (List (List ℕ)) → List ℕ
text_of lines = flat_map line lines

-- all lines: those of the replies, the last bucket, the log and the journal, and `end`
abbrev pub history_lines : History → List (List (List ℕ))
history_lines h = reply_lines h.calls h.replies ++ object_lines h.bucket ++ log_lines 1 h.log ++ journal_lines h.journal ++ (codes "end" ∷ []) ∷ []

-- the whole text
abbrev pub history_text : History → List ℕ
history_text h = text_of (history_lines h)

-- The text is its lines, word for word: equal texts have equal lines. A longer log, and a longer journal, have further
-- lines behind those of the shorter one.
pub record IsLineByLine : Type 0 where
  pub told : (h other : History) → history_text h ≡ history_text other → history_lines h ≡ history_lines other
  pub log : (moment : ℕ) (log more : List LogEvent) → log_lines moment (log ++ more) ≡ log_lines moment log ++ log_lines (moment + length log) more
  pub journal : (journal more : List Entry) → journal_lines (journal ++ more) ≡ journal_lines journal ++ journal_lines more
