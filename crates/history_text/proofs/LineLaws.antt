-- Laws of the lines of a history, item by item.
use Rattle.std.proofs.Common.{◌≡◌, ℕ, zero, suc, ◌+◌, ◌<◌, List, [], ◌∷◌, ◌++◌, length, map, take, drop, get_or, refl, sym, ap, ◌∙◌, codes, append_assoc, append-nil, arith}
use Rattle.std.specs.Fmt.{decimal}
use Rattle.std.specs.List.{flat_map}
use Rattle.bucket_api.specs.declared.events.Mode.{Mode}
use Rattle.bucket_api.specs.Operation.{Operation}
use Rattle.mount_model.specs.declared.journal.Fill.{Fill}
use Rattle.mount_model.specs.declared.journal.How.{How}
use Rattle.mount_model.specs.declared.journal.Use.{Use}
use Rattle.bucket_api.specs.declared.objects.Object.{Object}
use Rattle.bucket_api.specs.LogEvent.{LogEvent}
use Rattle.mount_model.specs.declared.gate.CallId.{CallId}
use Rattle.mount_model.specs.declared.journal.JournalEntry.{JournalEntry}
use Rattle.mount_model.specs.Journal.{entry, entries, done}
use Rattle.history_text.specs.Words.{line, spaced, call_word, use_word}
use Rattle.history_text.specs.Lines.{reply_line, object_line, event_line, entry_line, mode_word, operation_words, how_word, fill_words}
use Rattle.history_text.proofs.TextLaws.{line_in_two, line_in_three}
use Rattle.history_text.specs.HistoryText.{text_of, reply_lines, log_lines, journal_lines}

-- the text of one more event
pub log_to_next : (moment : ℕ) (log : List LogEvent) (i : ℕ) (e : LogEvent) → e ≡ get_or log i e → i < length log
    → text_of (log_lines moment (take (suc i) log)) ≡ text_of (log_lines moment (take i log)) ++ line (event_line (i + moment) e)
log_to_next moment [] i e is lt = absurd (omega arith)
log_to_next moment (x ∷ log) zero e is lt =
    append-nil (line (event_line moment x)) ∙ (λ k. line (event_line (same k) (is' k)))
  where
    same : moment ≡ 0 + moment
    same = omega arith

    is' : x ≡ e
    is' = sym is
log_to_next moment (x ∷ log) (suc i) e is lt =
    ap (λ t. line (event_line moment x) ++ t)
    (log_to_next (moment + 1) log i e is (omega arith)
    ∙ ap (λ m. text_of (log_lines (moment + 1) (take i log)) ++ line (event_line m e)) (let same : i + (moment + 1) ≡ suc i + moment = omega arith in same))
    ∙ sym (append_assoc (line (event_line moment x)) (text_of (log_lines (moment + 1) (take i log))) (line (event_line (suc i + moment) e)))

-- the text of a log, before and behind a moment
pub log_in_two : (moment : ℕ) (log : List LogEvent) (i : ℕ)
    → text_of (log_lines moment log) ≡ text_of (log_lines moment (take i log)) ++ text_of (log_lines (i + moment) (drop i log))
log_in_two moment log zero = ap (λ m. text_of (log_lines m log)) (let same : moment ≡ 0 + moment = omega arith in same)
log_in_two moment [] (suc i) = refl
log_in_two moment (x ∷ log) (suc i) =
    ap (λ t. line (event_line moment x) ++ t)
    (log_in_two (moment + 1) log i
    ∙ ap (λ m. text_of (log_lines (moment + 1) (take i log)) ++ text_of (log_lines m (drop i log))) (let same : i + (moment + 1) ≡ suc i + moment = omega arith in same))
    ∙ sym (append_assoc (line (event_line moment x)) (text_of (log_lines (moment + 1) (take i log))) (text_of (log_lines (suc i + moment) (drop i log))))

-- the text of one more reply
pub replies_to_next : (calls : List CallId) (frames : List (List ℕ)) (i : ℕ) (call : CallId) (frame : List ℕ)
    → call ≡ get_or calls i call → frame ≡ get_or frames i frame → i < length calls → i < length frames
    → text_of (reply_lines (take (suc i) calls) (take (suc i) frames)) ≡ text_of (reply_lines (take i calls) (take i frames)) ++ line (reply_line call frame)
replies_to_next [] frames i call frame is is' lt lt' = absurd (omega arith)
replies_to_next (c ∷ calls) [] i call frame is is' lt lt' = absurd (omega arith)
replies_to_next (c ∷ calls) (f ∷ frames) zero call frame is is' lt lt' =
    append-nil (line (reply_line c f)) ∙ (λ k. line (reply_line (sym is k) (sym is' k)))
replies_to_next (c ∷ calls) (f ∷ frames) (suc i) call frame is is' lt lt' =
    ap (λ t. line (reply_line c f) ++ t) (replies_to_next calls frames i call frame is is' (omega arith) (omega arith))
    ∙ sym (append_assoc (line (reply_line c f)) (text_of (reply_lines (take i calls) (take i frames))) (line (reply_line call frame)))

-- the text of replies, before and behind a call
pub replies_in_two : (calls : List CallId) (frames : List (List ℕ)) (i : ℕ)
    → text_of (reply_lines calls frames) ≡ text_of (reply_lines (take i calls) (take i frames)) ++ text_of (reply_lines (drop i calls) (drop i frames))
replies_in_two calls frames zero = refl
replies_in_two [] frames (suc i) = refl
replies_in_two (c ∷ calls) [] (suc i) = none (drop i calls)
  where
    none : (rest : List CallId) → [] ≡ text_of (reply_lines rest [])
    none [] = refl
    none (x ∷ rest) = refl
replies_in_two (c ∷ calls) (f ∷ frames) (suc i) =
    ap (λ t. line (reply_line c f) ++ t) (replies_in_two calls frames i)
    ∙ sym (append_assoc (line (reply_line c f)) (text_of (reply_lines (take i calls) (take i frames))) (text_of (reply_lines (drop i calls) (drop i frames))))

-- the lines of objects, and of a journal, item by item
pub objects_text : (es : List (List ℕ × Object)) → text_of (map (λ e. object_line e.0 e.1) es) ≡ flat_map (λ e. line (object_line e.0 e.1)) es
objects_text [] = refl
objects_text (e ∷ es) = ap (λ t. line (object_line e.0 e.1) ++ t) (objects_text es)

pub journal_text : (journal : List JournalEntry) → text_of (journal_lines (entries journal)) ≡ flat_map (λ e. line (entry_line (entry e))) journal
journal_text [] = refl
journal_text (e ∷ journal) = ap (λ t. line (entry_line (entry e)) ++ t) (journal_text journal)

-- the line of an event, in the parts in which it is printed
pub event_parts : (moment lane : ℕ) (mode : Mode) (op : Operation) (outcome : List ℕ) → outcome ≡ mode_word mode
    → line (event_line moment (record { lane = lane; op = op; mode = mode }))
    ≡ codes "log" ++ spaced (decimal moment ∷ decimal lane ∷ outcome ∷ []) ++ spaced (operation_words op) ++ 10 ∷ []
event_parts moment lane mode op outcome is =
    ap (λ w. line (codes "log" ∷ decimal moment ∷ decimal lane ∷ w ∷ operation_words op)) (sym is)
    ∙ line_in_two (codes "log") (decimal moment ∷ decimal lane ∷ outcome ∷ []) (operation_words op)

-- the line of a call that was done, in the parts in which it is printed
pub done_parts : (call : CallId) (front : ℕ) (how : How) (uses : List Use) (fill : Fill) (ending : List ℕ) → ending ≡ how_word how
    → line (entry_line (done call front how uses fill))
    ≡ codes "done" ++ spaced (call_word call ∷ decimal front ∷ ending ∷ []) ++ spaced (map use_word uses) ++ spaced (fill_words fill) ++ 10 ∷ []
done_parts call front how uses fill ending is =
    ap (λ w. line (codes "done" ∷ call_word call ∷ decimal front ∷ w ∷ (map use_word uses ++ fill_words fill))) (sym is)
    ∙ line_in_three (codes "done") (call_word call ∷ decimal front ∷ ending ∷ []) (map use_word uses) (fill_words fill)
